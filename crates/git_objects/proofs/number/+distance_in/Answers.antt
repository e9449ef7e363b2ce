use Rattle.std.proofs.Common.{◌≡◌, ℕ, suc, ◌+◌, ◌*◌, ◌-◌, ◌≤◌, List, ◌∷◌, subst, arith}
use Rattle.std.proofs.lemmas.Option.{IfSome_then}
use Rattle.git_objects.specs.Numbers.{HasDistance}
use Rattle.git_objects.proofs.number.+distance_in.Goals as goal

HasDistance-more :
    (before more : ℕ) (bytes behind rest : List ℕ) (byte distance : ℕ)
    → 128 ≤ byte → bytes ≡ byte ∷ behind → more ≡ before * 128 + (byte - 127)
    → HasDistance more behind distance rest → HasDistance before bytes distance rest
HasDistance-more before more bytes behind rest byte distance large begins is has =
    let counted : HasDistance (before * 128 + (byte - 127)) behind distance rest =
    subst (λ x. HasDistance x behind distance rest) is has in
    (suc counted.0, (byte, behind, large, begins, counted.1))

pub returns-clause-distance : goal.returns-clause-distance
returns-clause-distance t c =
    IfSome_then c.distance_in.result c.distance_in.ensures.distance
    (λ r has. HasDistance-more c.args.before c.in_ok-more.more c.args.from.now c.in_ok-byte.behind.now r.1.now
    c.in_ok-byte.byte.now r.0 (omega arith) c.in_ok-byte.ensures.cases.0
    (omega (arith, c.in_ok-more.ensures, c.in_ok-shifted.ensures, c.from-2.ensures)) has)
