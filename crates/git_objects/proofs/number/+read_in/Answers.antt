use Rattle.std.proofs.Common.{◌≡◌, ℕ, suc, ◌+◌, ◌*◌, ◌-◌, ◌≤◌, List, ◌∷◌, arith}
use Rattle.git_objects.specs.Numbers.{HasNumber}
use Rattle.git_objects.proofs.number.+read_in.Goals as goal

HasNumber-more :
    (bytes behind rest : List ℕ) (byte higher number : ℕ)
    → 128 ≤ byte → bytes ≡ byte ∷ behind → HasNumber behind higher rest → number ≡ higher * 128 + (byte - 128)
    → HasNumber bytes number rest
HasNumber-more bytes behind rest byte higher number large begins has is =
    (suc has.0, (byte, behind, higher, large, begins, has.1, is))

pub returns-clause-number : goal.returns-clause-number
returns-clause-number t c =
    HasNumber-more c.args.from.now c.in_ok-byte.behind.now c.in_ok-higher.rest.now c.in_ok-byte.byte.now
    c.in_ok-higher.higher c.in_ok-number.number (omega arith) c.in_ok-byte.ensures.cases.0
    c.in_ok-higher.ensures.number
    (omega (arith, c.in_ok-number.ensures, c.in_ok-checked_mul.ensures, c.from-2.ensures))
