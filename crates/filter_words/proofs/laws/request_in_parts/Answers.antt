use Rattle.filter_words.specs.Requests.{smudge_keys, clean_keys, first_text, keys_text, content_text}
use Rattle.filter_words.specs.Requests.{clean_text, clean_keys_text}
use Rattle.filter_words.proofs.Texts.{in_parts}
use Rattle.filter_words.proofs.laws.request_in_parts.Goals as goal

pub returns-clause-smudge : goal.returns-clause-smudge
unfolding first_text keys_text content_text
returns-clause-smudge c path name d content = in_parts (smudge_keys path name d) content

pub returns-clause-clean : goal.returns-clause-clean
unfolding clean_text clean_keys_text content_text
returns-clause-clean c path content = in_parts (clean_keys path) content
