use Rattle.std.proofs.Common.{◌≡◌, ◌++◌, take}
use Rattle.byte_path.specs.Quote.{quoted}
use Rattle.git_listings.specs.Answer.{answer}
use Rattle.git_listings.proofs.answer.push_answer.Given as goal

abbrev pub invariant-loop-place : goal.invariant-loop-place
invariant-loop-place l = l.text.items ≡ l.initial.text.items ++ answer (quoted l.path) (take l.place l.names) (take l.place l.states)
