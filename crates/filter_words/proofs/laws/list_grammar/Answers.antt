use Rattle.std.proofs.Common.{[]}
use Rattle.filter_words.specs.Listing.{Names, list_step}
use Rattle.filter_words.specs.ListGrammar.{IsList, BreaksList}
use Rattle.filter_words.proofs.Breaks.{breaks_list}
use Rattle.filter_words.proofs.GrammarLaws.{ends_well, read_well, open_reading, broken_reading}
use Rattle.filter_words.proofs.ListRuns.{reads_list}
use Rattle.filter_words.proofs.laws.list_grammar.Goals as goal

pub returns-clause-good : goal.returns-clause-good
returns-clause-good c d ps g e = ends_well (list_step d) (Names []) (IsList d) (reads_list d) ps g e

pub returns-clause-again : goal.returns-clause-again
returns-clause-again c d ps g w le = read_well (list_step d) (Names []) (IsList d) (reads_list d) ps g w le

pub returns-clause-opened : goal.returns-clause-opened
returns-clause-opened c d ps p e = open_reading (list_step d) (Names []) (IsList d) (reads_list d) ps p e

pub returns-clause-broken : goal.returns-clause-broken
returns-clause-broken c d ps why e = broken_reading (list_step d) (Names []) (IsList d) (BreaksList d) (reads_list d)
    (λ ps why e. breaks_list d [] ps why e) ps why e
