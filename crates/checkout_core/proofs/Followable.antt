-- Each step's effect is one that the cursors can follow.
use Rattle.std.proofs.Common.{◌≡◌, ℕ, Bool, true, false, Some, refl, ap, ◌∙◌, subst, eq-eqb}
use Rattle.std.specs.Prelude.{◌||◌, not}
use Rattle.std.proofs.lemmas.Bool.{and_parts, and_from, not-true}
use Rattle.filter_words.specs.declared.reply.Reply.{Reply}
use Rattle.filter_words.specs.declared.reply.Reply.TheVariants as reply
use Rattle.filter_words.specs.declared.reply.ListReply.{ListReply}
use Rattle.filter_words.specs.declared.reply.ListReply.TheVariants as list
use Rattle.checkout_core.specs.declared.verdict.FilterCause.{FilterCause}
use Rattle.checkout_core.specs.declared.verdict.Verdict.{Verdict}
use Rattle.checkout_core.specs.declared.verdict.Own.{Own}
use Rattle.checkout_core.specs.declared.path.Heard.TheVariants as heard
use Rattle.checkout_core.specs.declared.path.PathState.{PathState}
use Rattle.checkout_core.specs.declared.path.PathState.TheVariants as path
use Rattle.checkout_core.specs.declared.path.PathState.TheVariants.{Waiting, Held, Unasked, Closed}
use Rattle.checkout_core.specs.declared.path.Path.{Path}
use Rattle.checkout_core.specs.declared.driver.OpenSession.{OpenSession}
use Rattle.checkout_core.specs.declared.driver.DriverState.{DriverState}
use Rattle.checkout_core.specs.declared.driver.DriverState.TheVariants as driver
use Rattle.checkout_core.specs.declared.event.Event.{Event}
use Rattle.checkout_core.specs.declared.event.Event.TheVariants as ev
use Rattle.checkout_core.specs.declared.effect.Effect.{Effect}
use Rattle.checkout_core.specs.declared.effect.Effect.TheVariants.{Moves, Switches, Both}
use Rattle.checkout_core.specs.declared.effect.Sweep.TheVariants.{Keep}
use Rattle.checkout_core.specs.States.{Core, is_named_below, none_of, named_count, lowest_unasked}
use Rattle.checkout_core.specs.Effects.{swept}
use Rattle.checkout_core.specs.Verdicts.{refused_cause}
use Rattle.checkout_core.specs.Conditions.{effect_of, heard_opening, replied_state, replied_desk, replied_sweep}
use Rattle.checkout_core.specs.Conditions.{list_desk, list_sweep, list_allowed, named, hand_back, close_at, is_delay}
use Rattle.checkout_core.specs.Conditions.{replied, claim, claim_at, open_at, fail_at, answer_in, answer_at, name_in}
use Rattle.checkout_core.specs.Conditions.{name_at, list_at, list_step, redo, redo_at, hand_back_at, shut_in, shut_at}
use Rattle.checkout_core.specs.Cursors.{settles, advances, is_noting_list, IsFollowable}
use Rattle.checkout_core.proofs.Basics.{none_is_some, given_is, cond_is, cond_not, at_path_is, at_driver_is}
use Rattle.checkout_core.proofs.Basics.{at_session_is, at_both_is, at_it}
use Rattle.checkout_core.proofs.Inverses.{unasked_is, late_is, redo_is, claim_is, back_is, open_is, close_moves}
use Rattle.checkout_core.proofs.Counts.{none_named}

close_settles : (c : Core) (q a : ℕ) (o : Own) (r : Path) (s : PathState) (m : Effect) (v : Verdict)
    → close_at c q a o r s ≡ Some m → settles s (Closed v) ≡ true
close_settles c q a o r (Held b raw) m v e = refl
close_settles c q a o r (path.Heard h) m v e = refl
close_settles c q a o r Unasked m v e = refl
close_settles c q a o r (Waiting raw) m v e = none_is_some e
close_settles c q a o r path.Delayed m v e = none_is_some e
close_settles c q a o r (path.Named t) m v e = none_is_some e
close_settles c q a o r (Closed w) m v e = none_is_some e

back_settles : (x : DriverState) (s : PathState) (k : FilterCause) → refused_cause x s ≡ Some k
    → settles s (Waiting (Some k)) ≡ true
back_settles x (path.Heard (heard.Refused b)) k e = refl
back_settles x (path.Heard heard.Got) k e = none_is_some e
back_settles x (path.Heard heard.Lost) k e = none_is_some e
back_settles x (path.Heard heard.OutOfMemory) k e = none_is_some e
back_settles x Unasked k e = refl
back_settles x (Waiting raw) k e = none_is_some e
back_settles x (Held b raw) k e = none_is_some e
back_settles x path.Delayed k e = none_is_some e
back_settles x (path.Named t) k e = none_is_some e
back_settles x (Closed v) k e = none_is_some e

stays : (y : Reply) → swept (replied_sweep y) (replied_state y) ≡ replied_state y
stays reply.Content = refl
stays reply.Error = refl
stays reply.ErrorAfter = refl
stays reply.Delayed = refl
stays reply.Abort = refl
stays (reply.Broken b) = refl
stays reply.NoMemory = refl

own_noting : (b : Bool) → (not b || b) ≡ true
own_noting true = refl
own_noting false = refl

answer_advances : (n : ℕ) (f : ℕ → Bool) (k : OpenSession) (y : Reply)
    → advances n k.noting_list (is_noting_list (replied_desk k y)) f Unasked (replied_state y) ≡ true
answer_advances n f k reply.Content = own_noting k.noting_list
answer_advances n f k reply.Error = own_noting k.noting_list
answer_advances n f k reply.ErrorAfter = own_noting k.noting_list
answer_advances n f k reply.Delayed = own_noting k.noting_list
answer_advances n f k reply.Abort = refl
answer_advances n f k (reply.Broken b) = refl
answer_advances n f k reply.NoMemory = refl

redo_advances : (n : ℕ) (o : Bool) (f : ℕ → Bool) (k : OpenSession) (y : Reply) (t : ℕ) → is_delay y ≡ false
    → not k.noting_list ≡ true → f t ≡ true → advances n o (is_noting_list (replied_desk k y)) f (path.Named t)
    (replied_state y) ≡ true
redo_advances n o f k reply.Content t d i j = and_from _ _ j i
redo_advances n o f k reply.Error t d i j = and_from _ _ j i
redo_advances n o f k reply.ErrorAfter t d i j = and_from _ _ j i
redo_advances n o f k reply.Delayed t d i j = absurd (cc (d))
redo_advances n o f k reply.Abort t d i j = and_from _ _ j refl
redo_advances n o f k (reply.Broken b) t d i j = and_from _ _ j refl
redo_advances n o f k reply.NoMemory t d i j = and_from _ _ j refl

list_off : (k : OpenSession) (y : ListReply) → is_noting_list (list_desk k y) ≡ false
list_off k (list.Names n) = refl
list_off k list.Empty = refl
list_off k list.Abort = refl
list_off k (list.Broken b) = refl
list_off k list.NoMemory = refl

pub followable : (c : Core) (e : Event) (m : Effect) → effect_of c e ≡ Some m → IsFollowable c m
followable c (ev.Claim q a) m h =
    let at = at_path_is c q (claim_at c q a) m h in
    let b = cond_is _ (claim q a (at.row).state) m at.holds in
    let k = claim_is q a (at.row).state m b.1 in
    subst (λ (z : Effect). IsFollowable c z) k.2 (at.row, at.there, ap (λ s. settles s (Held a k.0)) k.1)
followable c (ev.Close q a o) m h =
    let at = at_path_is c q (λ r. close_at c q a o r r.state) m h in
    let k = close_moves c q a o at.row (at.row).state m at.holds in
    subst (λ (z : Effect). IsFollowable c z) k.1 (
      at.row,
      at.there,
      close_settles c q a o at.row (at.row).state m k.0 at.holds,
    )
followable c (ev.Opened d caps) m h =
    let at = at_driver_is c d (open_at c d caps) m h in
    let k = open_is d caps at.state (lowest_unasked d c.paths) m at.holds in
    subst (λ (z : Effect). IsFollowable c z) k.3 (at.state, at.there, refl)
followable c (ev.OpenFailed q o) m h =
    let at = at_both_is c q (fail_at c q o) m h in
    let b = given_is _ (Moves q (path.Heard (heard_opening o))) m at.holds in
    let t = and_parts _ _ b.0 in
    let u = and_parts _ _ t.1 in
    subst (λ (z : Effect). IsFollowable c z) b.1 (
      at.row,
      at.there,
      ap (λ s. settles s (path.Heard (heard_opening o))) (unasked_is (at.row).state u.0),
    )
followable c (ev.Answered q y) m h =
    let at = at_both_is c q (answer_at c q y) m h in
    let k = at_session_is at.state (λ s. answer_in c q y (at.row).state at.driver s) m at.holds in
    let b = given_is _ (replied q at.driver k.0 y) m k.2 in
    let t = and_parts _ _ b.0 in
    let u = and_parts _ _ t.1 in
    let seat = at.desk ∙ ap (λ z. Some z) k.1 in
    subst (λ (z : Effect). IsFollowable c z) b.1 (
      at.row,
      driver.On k.0,
      at.there,
      at_it at.driver at.required (at.row).start at.begun,
      seat,
      stays y,
      ap (λ s. advances (named_count at.driver c.paths) (k.0).noting_list (is_noting_list (replied_desk k.0 y))
          (λ u. none_of at.driver (is_named_below u) c.paths) s (replied_state y)) (unasked_is (at.row).state u.0)
          ∙ answer_advances (named_count at.driver c.paths) (λ u. none_of at.driver (is_named_below u) c.paths) k.0 y,
    )
followable c (ev.Named q) m h =
    let at = at_both_is c q (name_at c q) m h in
    let k = at_session_is at.state (λ s. name_in c q (at.row).state at.driver s) m at.holds in
    let b = given_is _ (Both q (path.Named (named_count at.driver c.paths)) at.driver (driver.On (named k.0)) Keep)
    m k.2 in
    let t = and_parts _ _ b.0 in
    let u = and_parts _ _ t.1 in
    let v = and_parts _ _ u.1 in
    let seat = at.desk ∙ ap (λ z. Some z) k.1 in
    subst (λ (z : Effect). IsFollowable c z) b.1 (
      at.row,
      driver.On k.0,
      at.there,
      at_it at.driver at.required (at.row).start at.begun,
      seat,
      refl,
      ap (λ s. advances (named_count at.driver c.paths) (k.0).noting_list true
          (λ u. none_of at.driver (is_named_below u) c.paths) s (path.Named (named_count at.driver c.paths)))
          (late_is (at.row).state v.0)
          ∙ and_from _ _ (eq-eqb (named_count at.driver c.paths) (named_count at.driver c.paths) refl)
          (ap (λ z. (k.0).noting_list || z) (none_named at.driver c.paths) ∙ v.1),
    )
followable c (ev.Listed d y) m h =
    let at = at_driver_is c d (list_at c d y) m h in
    let k = at_session_is at.state (λ s. list_step c d s y) m at.holds in
    let l = given_is (list_allowed c d k.0 y) (Switches d (list_desk k.0 y) (list_sweep y)) m k.2 in
    subst (λ (z : Effect). IsFollowable c z) l.1 (at.state, at.there, list_off k.0 y)
followable c (ev.Redone q y) m h =
    let at = at_both_is c q (redo_at c q y) m h in
    let k = at_session_is at.state (λ s. redo c q y at.driver s (at.row).state) m at.holds in
    let b = redo_is c q y at.driver k.0 (at.row).state m k.2 in
    let t = and_parts _ _ b.2 in
    let u = and_parts _ _ t.1 in
    let v = and_parts _ _ u.1 in
    let seat = at.desk ∙ ap (λ z. Some z) k.1 in
    subst (λ (z : Effect). IsFollowable c z) b.3 (
      at.row,
      driver.On k.0,
      at.there,
      at_it at.driver at.required (at.row).start at.begun,
      seat,
      stays y,
      ap (λ s. advances (named_count at.driver c.paths) (k.0).noting_list (is_noting_list (replied_desk k.0 y))
          (λ u. none_of at.driver (is_named_below u) c.paths) s (replied_state y)) b.1
          ∙ redo_advances (named_count at.driver c.paths) (k.0).noting_list
          (λ u. none_of at.driver (is_named_below u) c.paths) k.0 y b.0 (not-true _ u.0) t.0 v.1,
    )
followable c (ev.HandBack q) m h =
    let at = at_both_is c q (hand_back_at q) m h in
    let b = cond_not at.required (hand_back q (refused_cause at.state (at.row).state)) m at.holds in
    let k = back_is q (refused_cause at.state (at.row).state) m b.1 in
    subst (λ (z : Effect). IsFollowable c z) k.2 (at.row, at.there, back_settles at.state (at.row).state k.0 k.1)
followable c (ev.Shut d) m h =
    let at = at_driver_is c d (shut_at c d) m h in
    let k = at_session_is at.state (λ s. shut_in c d s) m at.holds in
    let l = given_is _ (Switches d driver.Done Keep) m k.2 in
    subst (λ (z : Effect). IsFollowable c z) l.1 (at.state, at.there, refl)
