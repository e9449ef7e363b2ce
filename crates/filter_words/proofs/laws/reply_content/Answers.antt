use Rattle.filter_words.proofs.Contents.{content_long, content_short}
use Rattle.filter_words.proofs.laws.reply_content.Goals as goal

pub returns-clause-long : goal.returns-clause-long
returns-clause-long c = content_long

pub returns-clause-short : goal.returns-clause-short
returns-clause-short c = content_short
