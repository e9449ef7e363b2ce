-- With one more start, each driver is still below the number of drivers.
use Rattle.std.proofs.Common.{◌≡◌, ℕ, zero, suc, ◌<◌, Bool, List, [], ◌∷◌, ◌++◌}
use Rattle.checkout_core.specs.declared.path.Start.{Start}
use Rattle.checkout_core.specs.declared.path.Start.TheVariants.{Desk}
use Rattle.checkout_core.specs.States.{AreBelow}

pub below_more : (n : ℕ) (xs : List Start) (s : Start) → AreBelow n xs → ((d : ℕ) (required : Bool) → s ≡ Desk d required → d < n) → AreBelow n (xs ++ s ∷ [])
below_more n [] s below last zero d required there = last d required (let e : s ≡ Desk d required = cc (there) in e)
below_more n [] s below last (suc p) d required there = absurd (cc (there))
below_more n (x ∷ xs) s below last zero d required there = below zero d required there
below_more n (x ∷ xs) s below last (suc p) d required there = below_more n xs s (λ q e r t. below (suc q) e r t) last p d required there
