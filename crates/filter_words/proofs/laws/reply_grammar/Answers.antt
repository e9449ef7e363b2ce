use Rattle.std.proofs.Common.{None}
use Rattle.filter_words.specs.SmudgeReply.{reply_step}
use Rattle.filter_words.specs.ReplyGrammar.{IsReply, BreaksReply}
use Rattle.filter_words.specs.declared.smudge_reply.ReplyPhase.TheVariants.{KeyList}
use Rattle.filter_words.proofs.Breaks.{breaks_reply}
use Rattle.filter_words.proofs.GrammarLaws.{ends_well, read_well, open_reading, broken_reading}
use Rattle.filter_words.proofs.ReplyRuns.{reads_reply}
use Rattle.filter_words.proofs.laws.reply_grammar.Goals as goal

pub returns-clause-good : goal.returns-clause-good
returns-clause-good c d ps g e = ends_well (reply_step d) (KeyList None) (IsReply d) (reads_reply d) ps g e

pub returns-clause-again : goal.returns-clause-again
returns-clause-again c d ps g w le = read_well (reply_step d) (KeyList None) (IsReply d) (reads_reply d) ps g w le

pub returns-clause-opened : goal.returns-clause-opened
returns-clause-opened c d ps p e = open_reading (reply_step d) (KeyList None) (IsReply d) (reads_reply d) ps p e

pub returns-clause-broken : goal.returns-clause-broken
returns-clause-broken c d ps why e = broken_reading (reply_step d) (KeyList None) (IsReply d) (BreaksReply d)
    (reads_reply d) (breaks_reply d) ps why e
