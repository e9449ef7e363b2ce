-- What a step says of the state before it.
use Rattle.std.proofs.Common.{◌≡◌, ◌==◌, ℕ, ◌+◌, Bool, true, false, cond, Option, Some, None, refl}
use Rattle.std.specs.Prelude.{◌&&◌, not}
use Rattle.filter_words.specs.declared.reply.Caps.{Caps}
use Rattle.filter_words.specs.declared.reply.Reply.{Reply}
use Rattle.checkout_core.specs.declared.verdict.FilterCause.{FilterCause}
use Rattle.checkout_core.specs.declared.verdict.Verdict.{Verdict}
use Rattle.checkout_core.specs.declared.verdict.Own.{Own}
use Rattle.checkout_core.specs.declared.path.PathState.{PathState}
use Rattle.checkout_core.specs.declared.path.PathState.TheVariants as path
use Rattle.checkout_core.specs.declared.path.PathState.TheVariants.{Waiting, Held, Unasked, Closed}
use Rattle.checkout_core.specs.declared.path.Path.{Path}
use Rattle.checkout_core.specs.declared.driver.OpenSession.{OpenSession}
use Rattle.checkout_core.specs.declared.driver.DriverState.{DriverState}
use Rattle.checkout_core.specs.declared.driver.DriverState.TheVariants as driver
use Rattle.checkout_core.specs.declared.effect.Effect.{Effect}
use Rattle.checkout_core.specs.declared.effect.Effect.TheVariants.{Moves, Switches}
use Rattle.checkout_core.specs.declared.effect.Sweep.TheVariants.{Keep}
use Rattle.checkout_core.specs.States.{Core, is_unasked, is_delayed, is_named_below, none_of}
use Rattle.checkout_core.specs.Verdicts.{held_close, heard_close, unasked_close}
use Rattle.checkout_core.specs.Conditions.{claim, redo, hand_back, closing, close_at, desk_close, is_off, is_good_reply}
use Rattle.checkout_core.specs.Conditions.{is_delay, replied, at_driver, open_first, fresh}
use Rattle.checkout_core.proofs.Basics.{none_is_some, some_is, given_is, cond_is, at_driver_is, of_driver_is}

-- no path of the driver passes the test
pub not_false : (b : Bool) → not b ≡ true → b ≡ false
not_false false e = refl
not_false true e = absurd (cc (e))

pub unasked_is : (s : PathState) → is_unasked s ≡ true → s ≡ Unasked
unasked_is Unasked e = refl
unasked_is (Waiting raw) e = absurd (cc (e))
unasked_is (Held a raw) e = absurd (cc (e))
unasked_is path.Delayed e = absurd (cc (e))
unasked_is (path.Named t) e = absurd (cc (e))
unasked_is (path.Heard h) e = absurd (cc (e))
unasked_is (Closed v) e = absurd (cc (e))

pub late_is : (s : PathState) → is_delayed s ≡ true → s ≡ path.Delayed
late_is path.Delayed e = refl
late_is Unasked e = absurd (cc (e))
late_is (Waiting raw) e = absurd (cc (e))
late_is (Held a raw) e = absurd (cc (e))
late_is (path.Named t) e = absurd (cc (e))
late_is (path.Heard h) e = absurd (cc (e))
late_is (Closed v) e = absurd (cc (e))

pub off_is : (x : DriverState) → is_off x ≡ true → x ≡ driver.Off
off_is driver.Off e = refl
off_is (driver.On s) e = absurd (cc (e))
off_is driver.Aborted e = absurd (cc (e))
off_is driver.Done e = absurd (cc (e))

pub redo_is : (c : Core) (p : ℕ) (y : Reply) (d : ℕ) (k : OpenSession) (s : PathState) (m : Effect)
    → redo c p y d k s ≡ Some m → (t : ℕ) × (s ≡ path.Named t)
    × ((not k.noting_list && (not (is_delay y) && (is_good_reply y && none_of d (is_named_below t) c.paths))) ≡
    true) × (replied p d k y ≡ m)
redo_is c p y d k (path.Named t) m e = let g = given_is _ (replied p d k y) m e in (t, refl, g.0, g.1)
redo_is c p y d k path.Delayed m e = none_is_some e
redo_is c p y d k Unasked m e = none_is_some e
redo_is c p y d k (Waiting raw) m e = none_is_some e
redo_is c p y d k (Held a raw) m e = none_is_some e
redo_is c p y d k (path.Heard h) m e = none_is_some e
redo_is c p y d k (Closed v) m e = none_is_some e

pub claim_is : (q a : ℕ) (s : PathState) (m : Effect) → claim q a s ≡ Some m → (raw : Option FilterCause)
    × (s ≡ Waiting raw) × (Moves q (Held a raw) ≡ m)
claim_is q a (Waiting raw) m e = (raw, refl, some_is (Moves q (Held a raw)) m e)
claim_is q a path.Delayed m e = none_is_some e
claim_is q a Unasked m e = none_is_some e
claim_is q a (path.Named t) m e = none_is_some e
claim_is q a (Held b raw) m e = none_is_some e
claim_is q a (path.Heard h) m e = none_is_some e
claim_is q a (Closed v) m e = none_is_some e

pub back_is : (q : ℕ) (o : Option FilterCause) (m : Effect) → hand_back q o ≡ Some m → (k : FilterCause)
    × (o ≡ Some k) × (Moves q (Waiting (Some k)) ≡ m)
back_is q (Some k) m e = (k, refl, some_is (Moves q (Waiting (Some k))) m e)
back_is q None m e = none_is_some e

pub closing_is : (q : ℕ) (o : Option Verdict) (m : Effect) → closing q o ≡ Some m → (v : Verdict) × (o ≡ Some v)
    × (Moves q (Closed v) ≡ m)
closing_is q (Some v) m e = (v, refl, some_is (Moves q (Closed v)) m e)
closing_is q None m e = none_is_some e

pub open_is : (e : ℕ) (caps : Caps) (x : DriverState) (o : Option ℕ) (m : Effect) → open_first e caps x o ≡ Some m
    → (p : ℕ) × (o ≡ Some p) × (x ≡ driver.Off) × (Switches e (driver.On (fresh caps p)) Keep ≡ m)
open_is e caps x (Some p) m h = let g = given_is (is_off x) (Switches e (driver.On (fresh caps p)) Keep) m h in
    (p, refl, off_is x g.0, g.1)
open_is e caps x None m h = none_is_some h

desk_moves : (c : Core) (q a : ℕ) (o : Own) (r : Path) (f : Bool → DriverState → Option Verdict) (m : Effect)
    → desk_close c q a o r f ≡ Some m → (v : Verdict) × (Moves q (Closed v) ≡ m)
desk_moves c q a o r f m e =
    let k = of_driver_is r.start (λ d required. at_driver c d
    (λ x. cond (a == c.workers + d) (closing q (f required x)) None)) m e in
    let l = at_driver_is c k.0 (λ x. cond (a == c.workers + k.0) (closing q (f k.1 x)) None) m k.3 in
    let n = cond_is _ (closing q (f k.1 l.state)) m l.holds in
    let u = closing_is q (f k.1 l.state) m n.1 in (u.0, u.2)

pub close_moves : (c : Core) (q a : ℕ) (o : Own) (r : Path) (s : PathState) (m : Effect)
    → close_at c q a o r s ≡ Some m → (v : Verdict) × (Moves q (Closed v) ≡ m)
close_moves c q a o r (Held b raw) m e = let u = cond_is (a == b) (closing q (held_close raw o)) m e in let k =
    closing_is q (held_close raw o) m u.1 in (k.0, k.2)
close_moves c q a o r (path.Heard h) m e = desk_moves c q a o r (λ required x. heard_close required h o) m e
close_moves c q a o r Unasked m e = desk_moves c q a o r (λ required x. unasked_close required x q o) m e
close_moves c q a o r (Waiting raw) m e = none_is_some e
close_moves c q a o r path.Delayed m e = none_is_some e
close_moves c q a o r (path.Named t) m e = none_is_some e
close_moves c q a o r (Closed v) m e = none_is_some e
