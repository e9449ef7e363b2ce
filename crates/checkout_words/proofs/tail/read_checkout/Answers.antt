use Rattle.clap.specs.Words.{found_of}
use Rattle.checkout_words.proofs.Tails.{checkout_found, checkout_refused, reads_fault}
use Rattle.checkout_words.proofs.tail.read_checkout.Goals as goal

pub returns-in_err-matches : goal.returns-in_err-matches
returns-in_err-matches c = reads_fault _ _ _ c.from_residual-in_err-matches.result (checkout_refused _ c.in_ok-checkout_parser.ensures _ c.requires)
    c.in_err-matches.ensures c.from_residual-in_err-matches.ensures.1

pub returns : goal.returns
returns c = rw c.ok_or.ensures.value (checkout_found _ c.in_ok-checkout_parser.ensures _ c.requires (found_of c.in_ok-matches.matches) c.in_ok-matches.ensures _ c.checkout_of.ensures)
