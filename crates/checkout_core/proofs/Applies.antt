-- The two halves of a change: the move, and the sweep.
use Rattle.std.proofs.Common.{◌≡◌, ◌∙◌, ◌<◌, ℕ, sym, ap, subst, length, arith}
use Rattle.std.proofs.lemmas.Option.{slice_get_within}
use Rattle.checkout_core.specs.declared.path.PathState.{PathState}
use Rattle.checkout_core.specs.declared.driver.DriverState.{DriverState}
use Rattle.checkout_core.specs.declared.effect.Effect.TheVariants.{Switches, Both}
use Rattle.checkout_core.specs.declared.effect.Sweep.{Sweep}
use Rattle.checkout_core.specs.declared.effect.Sweep.TheVariants.{Keep}
use Rattle.checkout_core.specs.States.{Core}
use Rattle.checkout_core.specs.Effects.{after, driver_after}
use Rattle.checkout_core.specs.Cursors.{IsFollowable, all_swept}
use Rattle.checkout_core.proofs.Bridge.{turn_swept, both_swept, length_each}

pub turn_seat : (c x : Core) (d : ℕ) (t : DriverState) (w : Sweep) → IsFollowable c (Switches d t w)
    → x ≡ after c (Switches d t Keep) → d < length x.drivers
turn_seat c x d t w fol is =
    let less = slice_get_within c.drivers d fol.0 fol.1 in
    let same = length_each (driver_after (Switches d t Keep)) c.drivers in
    subst (λ (z : Core). d < length z.drivers) (sym is) (omega (arith, less, same))

pub both_seat : (c x : Core) (p : ℕ) (s : PathState) (d : ℕ) (t : DriverState) (w : Sweep)
    → IsFollowable c (Both p s d t w) → x ≡ after c (Both p s d t Keep) → d < length x.drivers
both_seat c x p s d t w fol is =
    let less = slice_get_within c.drivers d fol.1 fol.4 in
    let same = length_each (driver_after (Both p s d t Keep)) c.drivers in
    subst (λ (z : Core). d < length z.drivers) (sym is) (omega (arith, less, same))

pub turns_whole : (c x y : Core) (d : ℕ) (t : DriverState) (w : Sweep) → x ≡ after c (Switches d t Keep)
    → y ≡ all_swept d w x → y ≡ after c (Switches d t w)
turns_whole c x y d t w is swept = swept ∙ (ap (all_swept d w) is ∙ turn_swept c d t w)

pub both_whole : (c x y : Core) (p : ℕ) (s : PathState) (d : ℕ) (t : DriverState) (w : Sweep)
    → IsFollowable c (Both p s d t w) → x ≡ after c (Both p s d t Keep) → y ≡ all_swept d w x
    → y ≡ after c (Both p s d t w)
both_whole c x y p s d t w fol is swept = swept ∙ (ap (all_swept d w) is ∙ both_swept c p s d t w fol.5)
