-- What an effect does to the lists of a driver's talk.
use Rattle.std.proofs.Common.{◌≡◌, ◌==◌, ℕ, zero, suc, ◌+◌, ◌<◌, ◌⊎◌, inl, inr, ⊎_elim, Bool, true, false, cond, List}
use Rattle.std.proofs.Common.{[], ◌∷◌, Option, Some, None, refl, sym, ap, ◌∙◌, subst, arith}
use Rattle.std.specs.Prelude.{slice_get, ◌&&◌, ◌||◌}
use Rattle.std.proofs.lemmas.Bool.{and_parts}
use Rattle.filter_words.specs.declared.reply.Caps.{Caps}
use Rattle.checkout_core.specs.declared.verdict.FilterCause.{FilterCause}
use Rattle.checkout_core.specs.declared.verdict.FilterCause.TheVariants as cause
use Rattle.filter_words.specs.declared.reply.Reply.{Reply}
use Rattle.filter_words.specs.declared.reply.Reply.TheVariants as reply
use Rattle.filter_words.specs.declared.reply.ListReply.{ListReply}
use Rattle.filter_words.specs.declared.reply.ListReply.TheVariants as list
use Rattle.checkout_core.specs.declared.path.PathState.{PathState}
use Rattle.checkout_core.specs.declared.path.PathState.TheVariants as path
use Rattle.checkout_core.specs.declared.path.PathState.TheVariants.{Waiting, Held, Unasked, Closed}
use Rattle.checkout_core.specs.declared.path.Start.{Start}
use Rattle.checkout_core.specs.declared.path.Path.{Path}
use Rattle.checkout_core.specs.declared.driver.OpenSession.{OpenSession}
use Rattle.checkout_core.specs.declared.driver.DriverState.{DriverState}
use Rattle.checkout_core.specs.declared.driver.DriverState.TheVariants as driver
use Rattle.checkout_core.specs.declared.event.Event.{Event}
use Rattle.checkout_core.specs.declared.event.Event.TheVariants as ev
use Rattle.checkout_core.specs.declared.effect.Effect.{Effect}
use Rattle.checkout_core.specs.declared.effect.Sweep.{Sweep}
use Rattle.checkout_core.specs.declared.effect.Sweep.TheVariants.{Keep, Lose, OutOfMemory}
use Rattle.checkout_core.specs.States.{Core, is_at, is_unasked, lowest_unasked, add_one}
use Rattle.checkout_core.specs.Effects.{each, after, path_after, driver_after, swept}
use Rattle.checkout_core.specs.Verdicts.{unasked_cause, refused_cause}
use Rattle.checkout_core.specs.Conditions.{replied_desk, list_desk, is_delay, fresh, listed, delayed}
use Rattle.checkout_core.specs.Notes.{is_note}
use Rattle.checkout_core.specs.Talks.{Round, Talk, Between, Refusing, InRound, talk_next, answered, redone, talk_paths}
use Rattle.checkout_core.proofs.Basics.{none_is_some, same_or}
use Rattle.core_laws.proofs.OfDriver.{is_of, is_of_is}
use Rattle.core_laws.proofs.Views.{View, Same, Claimed, HandedBack, ClosedHeld, ClosedTold, ClosedUnasked, SeesOpened}
use Rattle.core_laws.proofs.Views.{NotOpened, OtherNotOpened, IsAnswered, OtherAnswered, IsRedone, OtherRedone, IsNamed}
use Rattle.core_laws.proofs.Views.{OtherNamed, SeesListed, SeesShut, Begun, is_sane}
use Rattle.core_laws.proofs.TalkPaths.{taken}
use Rattle.checkout_core.specs.Agreements.{Lists, IsZero, IsSmudged, round_of, talk_at}
use Rattle.core_laws.proofs.TalkLists.{shadow}

abbrev pub stepped : Bool → Talk → Event → Option Talk
stepped true t e = talk_next t e
stepped false t e = Some t

pub record Outcome (starts : List Start) (c : Core) (m : Effect) (e : Event) (es : List Event) (d : ℕ)
    (x : DriverState) (late turns : List ℕ) : Type 0 where
  pub late1 : List ℕ
  pub turns1 : List ℕ
  pub base1 : ℕ
  pub lists : Lists (each (path_after m) c.paths) d late1 turns1 base1
  pub low : IsZero (driver_after m d x) base1
  pub smudged : IsSmudged (driver_after m d x)
  pub moves : stepped (is_note starts d e) (talk_at x (talk_paths c d (e ∷ es)) late turns) e ≡ Some
      (talk_at (driver_after m d x) (talk_paths (after c m) d es) late1 turns1)

pub refused_shadow : (x : DriverState) (s : PathState) (k : FilterCause) → refused_cause x s ≡ Some k
    → shadow s ≡ Unasked
refused_shadow x Unasked k e = refl
refused_shadow x (path.Heard h) k e = refl
refused_shadow x (Waiting raw) k e = refl
refused_shadow x (Held a raw) k e = refl
refused_shadow x path.Delayed k e = none_is_some e
refused_shadow x (path.Named t) k e = none_is_some e
refused_shadow x (Closed v) k e = refl

pub true_false : {A : Type 0} (n : Bool) → n ≡ true → n ≡ false → A
true_false n i j = absurd (cc (i, j))

pub quiet_shadow : (p d : ℕ) (required : Bool) (x y : DriverState) (s t : PathState) (e : Event) (n : Bool)
    → View p d required x y s t e n → n ≡ false → shadow t ≡ shadow s
quiet_shadow p d required x y s t e n (Same nn yy tt own far) no_note = ap shadow tt
quiet_shadow p d required x y s t e n (Claimed a raw nn yy ss tt ee) no_note = ap shadow tt ∙ sym (ap shadow ss)
quiet_shadow p d required x y s t e n (HandedBack k nn yy req kk tt ee) no_note = ap shadow tt
    ∙ sym (refused_shadow x s k kk)
quiet_shadow p d required x y s t e n (ClosedHeld a w raw v nn yy ss cl tt ee) no_note = ap shadow tt
    ∙ sym (ap shadow ss)
quiet_shadow p d required x y s t e n (ClosedTold a w k v nn yy ss cl tt ee) no_note = ap shadow tt ∙ sym (ap shadow ss)
quiet_shadow p d required x y s t e n (ClosedUnasked a w v nn yy ss cl tt ee) no_note = ap shadow tt
    ∙ sym (ap shadow ss)
quiet_shadow p d required x y s t e n (SeesOpened caps first low nn xx yy tt ee) no_note = true_false n nn no_note
quiet_shadow p d required x y s t e n (NotOpened w nn xx yy ss tt ee) no_note = true_false n nn no_note
quiet_shadow p d required x y s t e n (OtherNotOpened q w pq nn yy tt ee) no_note = true_false n nn no_note
quiet_shadow p d required x y s t e n (IsAnswered r k nn xx smudge ss yy tt ee) no_note = true_false n nn no_note
quiet_shadow p d required x y s t e n (OtherAnswered q r k below low pq nn xx smudge yy tt ee) no_note =
    true_false n nn no_note
quiet_shadow p d required x y s t e n (IsRedone r k turn nn xx ss dd yy tt ee) no_note = true_false n nn no_note
quiet_shadow p d required x y s t e n (OtherRedone q r k no_un pq dd nn xx yy tt ee smudge) no_note =
    true_false n nn no_note
quiet_shadow p d required x y s t e n (IsNamed k turn nn xx ss yy tt ee) no_note = true_false n nn no_note
quiet_shadow p d required x y s t e n (OtherNamed q k pq no_un nn xx yy tt ee) no_note = true_false n nn no_note
quiet_shadow p d required x y s t e n (SeesListed r k nn xx un0 yy tt ee) no_note = true_false n nn no_note
quiet_shadow p d required x y s t e n (SeesShut k nn xx any_delayed un0 yy tt ee) no_note = true_false n nn no_note

-- the rest matters only before an abort, and not without smudge
pub talk_rest : (x : DriverState) (rest other late turns : List ℕ) → (unasked_cause x ≡ None → rest ≡ other)
    → talk_at x rest late turns ≡ talk_at x other late turns
talk_rest driver.Off rest other late turns h = ap Between (h refl)
talk_rest driver.Aborted rest other late turns h = refl
talk_rest driver.Done rest other late turns h = refl
talk_rest (driver.On k) rest other late turns h = go k.caps.smudge refl
  where
    go : (b : Bool) → k.caps.smudge ≡ b
        → cond b (InRound (round_of k rest late turns)) Refusing ≡ cond b
        (InRound (round_of k other late turns)) Refusing
    go true i = ap (λ (ns : List ℕ). InRound (round_of k ns late turns))
        (h (ap (λ b. cond b None (Some cause.NoSmudge)) i))
    go false i = refl

pub swept_lost : (w : Sweep) (s : PathState) → (w ≡ Keep → ⊥) → shadow (swept w s) ≡ Unasked
swept_lost w Unasked n = refl
swept_lost w (path.Heard h) n = refl
swept_lost w (Waiting raw) n = refl
swept_lost w (Held a raw) n = refl
swept_lost w (Closed v) n = refl
swept_lost Keep path.Delayed n = absurd (n refl)
swept_lost Lose path.Delayed n = refl
swept_lost OutOfMemory path.Delayed n = refl
swept_lost Keep (path.Named t) n = absurd (n refl)
swept_lost Lose (path.Named t) n = refl
swept_lost OutOfMemory (path.Named t) n = refl

-- a driver that is off has no delayed path
pub off_shadow : (s : PathState) → is_sane driver.Off s ≡ true → shadow s ≡ Unasked
off_shadow path.Delayed i = absurd (cc (i))
off_shadow (path.Named t) i = absurd (cc (i))
off_shadow Unasked i = refl
off_shadow (path.Heard h) i = refl
off_shadow (Waiting raw) i = refl
off_shadow (Held a raw) i = refl
off_shadow (Closed v) i = refl

pub free_note : (starts : List Start) (c : Core) (d : ℕ) (e : Event) → Begun starts c → is_note starts d e ≡ false
    → (p : ℕ) (r : Path) → slice_get c.paths p ≡ Some r → is_at d r.start ≡ true → taken e p ≡ false
free_note starts c d (ev.Answered q y) begun n p r i at = ⊎_elim
    (λ (k : (p ≡ q) × ((p == q) ≡ true)). true_false (is_of starts d q)
    (is_of_is starts d q r.start (ap (λ z. slice_get starts z) (sym k.0) ∙ begun p r i) ∙ at) n)
    (λ (k : (p == q) ≡ false). k) (same_or p q)
free_note starts c d (ev.OpenFailed q o) begun n p r i at = ⊎_elim
    (λ (k : (p ≡ q) × ((p == q) ≡ true)). true_false (is_of starts d q)
    (is_of_is starts d q r.start (ap (λ z. slice_get starts z) (sym k.0) ∙ begun p r i) ∙ at) n)
    (λ (k : (p == q) ≡ false). k) (same_or p q)
free_note starts c d (ev.Claim q a) begun n p r i at = refl
free_note starts c d (ev.Close q a o) begun n p r i at = refl
free_note starts c d (ev.Opened f caps) begun n p r i at = refl
free_note starts c d (ev.Named q) begun n p r i at = refl
free_note starts c d (ev.Listed f y) begun n p r i at = refl
free_note starts c d (ev.Redone q y) begun n p r i at = refl
free_note starts c d (ev.HandBack q) begun n p r i at = refl
free_note starts c d (ev.Shut f) begun n p r i at = refl

-- the lists after a reply
abbrev pub late_to : Reply → ℕ → List ℕ → List ℕ
late_to reply.Delayed q late = q ∷ late
late_to reply.Abort q late = []
late_to (reply.Broken b) q late = []
late_to reply.NoMemory q late = []
late_to _ q late = late

abbrev pub late_again : Reply → List ℕ → List ℕ
late_again reply.Abort late = []
late_again (reply.Broken b) late = []
late_again reply.NoMemory late = []
late_again _ late = late

abbrev pub base_to : Reply → ℕ → ℕ
base_to reply.Abort base = 0
base_to (reply.Broken b) base = 0
base_to reply.NoMemory base = 0
base_to _ base = base

pub replied_smudged : (k : OpenSession) (y : Reply) → k.caps.smudge ≡ true → IsSmudged (replied_desk k y)
replied_smudged k reply.Content i = λ l on h. ap (λ (s : OpenSession). s.caps.smudge) (let e : l ≡ k = cc (on) in e) ∙ i
replied_smudged k reply.Error i = λ l on h. ap (λ (s : OpenSession). s.caps.smudge) (let e : l ≡ k = cc (on) in e) ∙ i
replied_smudged k reply.ErrorAfter i = λ l on h. ap (λ (s : OpenSession). s.caps.smudge) (let e : l ≡ k = cc (on) in e) ∙ i
replied_smudged k reply.Delayed i = λ l on h. ap (λ (s : OpenSession). s.caps.smudge)
    (let e : l ≡ delayed k = cc (on) in e) ∙ i
replied_smudged k reply.Abort i = λ l on h. absurd (cc (on))
replied_smudged k (reply.Broken b) i = λ l on h. absurd (cc (on))
replied_smudged k reply.NoMemory i = λ l on h. absurd (cc (on))

pub list_smudged : (k : OpenSession) (y : ListReply) → k.caps.smudge ≡ true → IsSmudged (list_desk k y)
list_smudged k (list.Names n) i = λ l on h. ap (λ (s : OpenSession). s.caps.smudge)
    (let e : l ≡ listed k = cc (on) in e) ∙ i
list_smudged k list.Empty i = λ l on h. absurd (cc (on))
list_smudged k list.Abort i = λ l on h. absurd (cc (on))
list_smudged k (list.Broken b) i = λ l on h. absurd (cc (on))
list_smudged k list.NoMemory i = λ l on h. absurd (cc (on))

pub fresh_smudged : (caps : Caps) (first : ℕ) → IsSmudged (driver.On (fresh caps first))
fresh_smudged caps first = λ l on h. absurd (let e : fresh caps first ≡ l = cc (on) in let y : false ≡ true =
    ap (λ (s : OpenSession). s.any_delayed || s.noting_list) e ∙ h in cc (y))

pub in_round : (k : OpenSession) (r : Round) → k.caps.smudge ≡ true → InRound r ≡ cond k.caps.smudge (InRound r) Refusing
in_round k r smudge = sym (ap (λ b. cond b (InRound r) Refusing) smudge)

pub answered_is : (k : OpenSession) (rest late turns : List ℕ) (q : ℕ) (y : Reply) → k.caps.smudge ≡ true
    → answered (round_of k (q ∷ rest) late turns) q rest y ≡ talk_at (replied_desk k y) rest (late_to y q late)
    (late_again y turns)
answered_is k rest late turns q reply.Content smudge = in_round k (round_of k rest late turns) smudge
answered_is k rest late turns q reply.Error smudge = in_round k (round_of k rest late turns) smudge
answered_is k rest late turns q reply.ErrorAfter smudge = in_round k (round_of k rest late turns) smudge
answered_is k rest late turns q reply.Delayed smudge = in_round k (round_of (delayed k) rest (q ∷ late) turns) smudge
answered_is k rest late turns q reply.Abort smudge = refl
answered_is k rest late turns q (reply.Broken b) smudge = refl
answered_is k rest late turns q reply.NoMemory smudge = refl

pub redone_is : (k : OpenSession) (rest late turns qs : List ℕ) (y : Reply) → k.caps.smudge ≡ true
    → is_delay y ≡ false
    → redone (round_of k rest late turns) qs y ≡ talk_at (replied_desk k y) rest (late_again y late) (late_again y qs)
redone_is k rest late turns qs reply.Content smudge n = in_round k (round_of k rest late qs) smudge
redone_is k rest late turns qs reply.Error smudge n = in_round k (round_of k rest late qs) smudge
redone_is k rest late turns qs reply.ErrorAfter smudge n = in_round k (round_of k rest late qs) smudge
redone_is k rest late turns qs reply.Delayed smudge n = absurd (cc (n))
redone_is k rest late turns qs reply.Abort smudge n = refl
redone_is k rest late turns qs (reply.Broken b) smudge n = refl
redone_is k rest late turns qs reply.NoMemory smudge n = refl

pub zero_reply : (k : OpenSession) (y : Reply) (base : ℕ) → IsZero (driver.On k) base
    → IsZero (replied_desk k y) (base_to y base)
zero_reply k reply.Content base low = low
zero_reply k reply.Error base low = low
zero_reply k reply.ErrorAfter base low = low
zero_reply k reply.Delayed base low = λ l on noting_list. low k refl
    (ap (λ (s : OpenSession). s.noting_list) (let i : delayed k ≡ l = cc (on) in i) ∙ noting_list)
zero_reply k reply.Abort base low = λ l on noting_list. refl
zero_reply k (reply.Broken b) base low = λ l on noting_list. refl
zero_reply k reply.NoMemory base low = λ l on noting_list. refl

pub last_of : (a b c d : Bool) → (a && (b && (c && d))) ≡ true → d ≡ true
last_of a b c d h = (and_parts c d ((and_parts b (c && d) ((and_parts a (b && (c && d)) h).1)).1)).1

pub lower_turn : (t b i : ℕ) → t ≡ b + suc i → b + 0 < t
lower_turn t b i e = omega arith

pub or_gone : (b : Bool) → (b || true) ≡ true
or_gone true = refl
or_gone false = refl

pub names_may : (k : OpenSession) (b : Bool) → (k.noting_list || b) ≡ true → (k.noting_list ≡ true) ⊎ (b ≡ true)
names_may k b i = go k.noting_list refl b i
  where
    go : (a : Bool) → k.noting_list ≡ a → (b : Bool) → (a || b) ≡ true → (k.noting_list ≡ true) ⊎ (b ≡ true)
    go true e b i = inl e
    go false e true i = inr refl
    go false e false i = absurd (cc (i))

-- the lowest unasked path is there
pub lowest_is : (d : ℕ) (rs : List Path) (f : ℕ) → lowest_unasked d rs ≡ Some f
    → (r : Path) × (slice_get rs f ≡ Some r) × (is_at d r.start ≡ true) × (is_unasked r.state ≡ true)
lowest_is d [] f e = none_is_some e
lowest_is d (x ∷ xs) f e = go (λ k h. lowest_is d xs k h) (is_at d x.start && is_unasked x.state) refl e
  where
    more : ((k : ℕ) → lowest_unasked d xs ≡ Some k → (r : Path) × (slice_get xs k ≡ Some r)
        × (is_at d r.start ≡ true) × (is_unasked r.state ≡ true))
        → (o : Option ℕ) → lowest_unasked d xs ≡ o → add_one o ≡ Some f
        → (r : Path) × (slice_get (x ∷ xs) f ≡ Some r) × (is_at d r.start ≡ true) × (is_unasked r.state ≡ true)
    more ih None l e = none_is_some e
    more ih (Some k) l e = let i = ih k l in let n : suc k ≡ f = cc (e) in
        (i.0, subst (λ (g : ℕ). slice_get (x ∷ xs) g ≡ Some i.0) n i.1, i.2, i.3)

    go : ((k : ℕ) → lowest_unasked d xs ≡ Some k → (r : Path) × (slice_get xs k ≡ Some r) × (is_at d r.start ≡ true)
        × (is_unasked r.state ≡ true))
        → (b : Bool) → (is_at d x.start && is_unasked x.state) ≡ b
        → cond b (Some zero) (add_one (lowest_unasked d xs)) ≡ Some f
        → (r : Path) × (slice_get (x ∷ xs) f ≡ Some r) × (is_at d r.start ≡ true) × (is_unasked r.state ≡ true)
    go ih true i e = let n : zero ≡ f = cc (e) in let t = and_parts _ _ i in
        (x, subst (λ (g : ℕ). slice_get (x ∷ xs) g ≡ Some x) n refl, t.0, t.1)
    go ih false i e = more ih (lowest_unasked d xs) refl e
