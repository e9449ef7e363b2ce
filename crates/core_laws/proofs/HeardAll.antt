-- Each path of a whole talk is told of.
use Rattle.std.proofs.Common.{◌≡◌, ◌==◌, ℕ, Bool, true, false, cond, List, [], ◌∷◌, ◌++◌, Some, None, refl, sym}
use Rattle.std.proofs.Common.{ap, ◌∙◌, subst}
use Rattle.std.specs.Prelude.{◌&&◌, ◌||◌, not}
use Rattle.std.proofs.lemmas.Bool.{and_parts}
use Rattle.filter_words.specs.declared.reply.Caps.{Caps}
use Rattle.filter_words.specs.declared.reply.Reply.{Reply}
use Rattle.filter_words.specs.declared.reply.Reply.TheVariants as reply
use Rattle.filter_words.specs.declared.reply.ListReply.{ListReply}
use Rattle.filter_words.specs.declared.reply.ListReply.TheVariants as list
use Rattle.delay_table.specs.Table.{contains, without}
use Rattle.checkout_core.specs.declared.path.Heard.{Heard}
use Rattle.checkout_core.specs.declared.event.Event.{Event}
use Rattle.checkout_core.specs.declared.event.Event.TheVariants as ev
use Rattle.checkout_core.specs.Conditions.{is_good_opening, is_good_reply, is_delay, heard_opening}
use Rattle.checkout_core.specs.Fates.{Fate, Untold, Later, Known, fate_here, fate_there, fate_opened, fate_listed}
use Rattle.checkout_core.specs.Fates.{fate_after, fate_of, heard_by, heard_in}
use Rattle.checkout_core.specs.Talks.{Round, Talk, Between, Refusing, InRound, Ended, talk_next, talk_run, IsOver}
use Rattle.checkout_core.specs.Talks.{opened, ask, answered, name, list_may, list_end, ask_again, redone}
use Rattle.checkout_core.specs.Talks.{is_empty}
use Rattle.checkout_core.specs.Transcripts.{Item, IsTalk, notes_of}
use Rattle.checkout_core.proofs.Basics.{none_is_some, some_is, same_number}
use Rattle.core_laws.proofs.Transcripts.{transcript_runs}
use Rattle.core_laws.proofs.TranscriptsBack.{given_talk, run_first}

-- the talk is still to ask for the path
abbrev ToAsk : ℕ → Talk → Type 0
ToAsk p (Between rest) = contains p rest ≡ true
ToAsk p Refusing = ⊥
ToAsk p (InRound r) = contains p r.rest ≡ true
ToAsk p Ended = ⊥

-- a path was delayed in the open session
abbrev HasDelayed : Talk → Type 0
HasDelayed (Between rest) = ⊥
HasDelayed Refusing = ⊥
HasDelayed (InRound r) = r.any_delayed ≡ true
HasDelayed Ended = ⊥

-- while nothing is told of a path, the talk will tell of it
abbrev Awaits : ℕ → Talk → Fate → Type 0
Awaits p t Untold = ToAsk p t
Awaits p t Later = HasDelayed t
Awaits p t (Known h) = Unit {0}

-- the path that was asked for, or another
either : (p q x : ℕ) (rest : List ℕ) (here there : Fate) (t : Talk) → q ≡ x → contains p (x ∷ rest) ≡ true
    → Awaits p t here → (contains p rest ≡ true → Awaits p t there) → Awaits p t (cond (p == q) here there)
either p q x rest here there t same has one more =
    subst (λ (z : ℕ). Awaits p t (cond (p == z) here there)) (sym same) (go (p == x) has)
  where
    go : (b : Bool) → cond b true (contains p rest) ≡ true → Awaits p t (cond b here there)
    go true h = one
    go false h = more h

both : (p q : ℕ) (here there : Fate) (t : Talk) → Awaits p t here → Awaits p t there
    → Awaits p t (cond (p == q) here there)
both p q here there t one other = go (p == q)
  where
    go : (b : Bool) → Awaits p t (cond b here there)
    go true = one
    go false = other

none_left : {A : Type 0} (p : ℕ) (rest : List ℕ) → is_empty rest ≡ true → contains p rest ≡ true → A
none_left p [] h k = absurd (cc (k))
none_left p (q ∷ rest) h k = absurd (cc (h))

after_opened : (p : ℕ) (caps : Caps) (rest : List ℕ) → contains p rest ≡ true
    → Awaits p (opened caps rest) (fate_opened caps.smudge Untold)
after_opened p caps rest has = go caps.smudge
  where
    go : (b : Bool)
        → Awaits p
        (cond b
        (InRound (record {
          delay = caps.delay;
          any_delayed = false;
          noting_list = false;
          rest = rest;
          late = [];
          turns =
              [];
        }))
        Refusing)
        (fate_opened b Untold)
    go true = has
    go false = tt

-- a first request
first_here : (p : ℕ) (r : Round) (x : ℕ) (rest : List ℕ) (y : Reply) → Awaits p (answered r x rest y) (fate_here y)
first_here p r x rest reply.Content = tt
first_here p r x rest reply.Error = tt
first_here p r x rest reply.ErrorAfter = tt
first_here p r x rest reply.Delayed = refl
first_here p r x rest reply.Abort = tt
first_here p r x rest (reply.Broken why) = tt
first_here p r x rest reply.NoMemory = tt

first_untold : (p : ℕ) (r : Round) (x : ℕ) (rest : List ℕ) (y : Reply) → contains p rest ≡ true
    → Awaits p (answered r x rest y) (fate_there y Untold)
first_untold p r x rest reply.Content h = h
first_untold p r x rest reply.Error h = h
first_untold p r x rest reply.ErrorAfter h = h
first_untold p r x rest reply.Delayed h = h
first_untold p r x rest reply.Abort h = tt
first_untold p r x rest (reply.Broken why) h = h
first_untold p r x rest reply.NoMemory h = h

first_later : (p : ℕ) (r : Round) (x : ℕ) (rest : List ℕ) (y : Reply) → r.any_delayed ≡ true
    → Awaits p (answered r x rest y) (fate_there y Later)
first_later p r x rest reply.Content h = h
first_later p r x rest reply.Error h = h
first_later p r x rest reply.ErrorAfter h = h
first_later p r x rest reply.Delayed h = refl
first_later p r x rest reply.Abort h = tt
first_later p r x rest (reply.Broken why) h = tt
first_later p r x rest reply.NoMemory h = tt

asked_untold : (p : ℕ) (r : Round) (rest : List ℕ) (q : ℕ) (y : Reply) (u : Talk) → contains p rest ≡ true
    → ask r rest q y ≡ Some u → Awaits p u (cond (p == q) (fate_here y) (fate_there y Untold))
asked_untold p r [] q y u has h = none_is_some h
asked_untold p r (x ∷ rest) q y u has h =
    let may = is_good_reply y && not (is_delay y && not r.delay) in
    let g = given_talk (q == x && may) (answered r x rest y) u h in
    let same = same_number q x (and_parts (q == x) may g.0).0 in
    subst (λ (z : Talk). Awaits p z (cond (p == q) (fate_here y) (fate_there y Untold))) g.1
    (either p q x rest (fate_here y) (fate_there y Untold) (answered r x rest y) same has
    (first_here p r x rest y) (λ more. first_untold p r x rest y more))

asked_later : (p : ℕ) (r : Round) (rest : List ℕ) (q : ℕ) (y : Reply) (u : Talk) → r.any_delayed ≡ true
    → ask r rest q y ≡ Some u → Awaits p u (cond (p == q) (fate_here y) (fate_there y Later))
asked_later p r [] q y u some h = none_is_some h
asked_later p r (x ∷ rest) q y u some h =
    let g = given_talk (q == x && (is_good_reply y && not (is_delay y && not r.delay))) (answered r x rest y) u h in
    subst (λ (z : Talk). Awaits p z (cond (p == q) (fate_here y) (fate_there y Later))) g.1
    (both p q (fate_here y) (fate_there y Later) (answered r x rest y) (first_here p r x rest y)
    (first_later p r x rest y some))

-- a list
listed_untold : (p : ℕ) (r : Round) (y : ListReply) → list_may r y ≡ true → contains p r.rest ≡ true
    → Awaits p (list_end r y) (fate_listed y Untold)
listed_untold p r (list.Names n) may h = h
listed_untold p r list.Empty may h =
    let over = is_empty r.rest && is_empty r.turns in
    let two = and_parts (not r.noting_list) over (and_parts r.any_delayed (not r.noting_list && over) may).1 in
    none_left p r.rest (and_parts (is_empty r.rest) (is_empty r.turns) two.1).0 h
listed_untold p r list.Abort may h = tt
listed_untold p r (list.Broken why) may h = h
listed_untold p r list.NoMemory may h = h

listed_later : (p : ℕ) (r : Round) (y : ListReply) → r.any_delayed ≡ true
    → Awaits p (list_end r y) (fate_listed y Later)
listed_later p r (list.Names n) h = h
listed_later p r list.Empty h = tt
listed_later p r list.Abort h = tt
listed_later p r (list.Broken why) h = tt
listed_later p r list.NoMemory h = tt

-- a second request
second_here : (p : ℕ) (r : Round) (turns : List ℕ) (y : Reply) → is_delay y ≡ false
    → Awaits p (redone r turns y) (fate_here y)
second_here p r turns reply.Content h = tt
second_here p r turns reply.Error h = tt
second_here p r turns reply.ErrorAfter h = tt
second_here p r turns reply.Delayed h = absurd (cc (h))
second_here p r turns reply.Abort h = tt
second_here p r turns (reply.Broken why) h = tt
second_here p r turns reply.NoMemory h = tt

second_untold : (p : ℕ) (r : Round) (turns : List ℕ) (y : Reply) → contains p r.rest ≡ true
    → Awaits p (redone r turns y) (fate_there y Untold)
second_untold p r turns reply.Content h = h
second_untold p r turns reply.Error h = h
second_untold p r turns reply.ErrorAfter h = h
second_untold p r turns reply.Delayed h = h
second_untold p r turns reply.Abort h = tt
second_untold p r turns (reply.Broken why) h = h
second_untold p r turns reply.NoMemory h = h

second_later : (p : ℕ) (r : Round) (turns : List ℕ) (y : Reply) → r.any_delayed ≡ true
    → Awaits p (redone r turns y) (fate_there y Later)
second_later p r turns reply.Content h = h
second_later p r turns reply.Error h = h
second_later p r turns reply.ErrorAfter h = h
second_later p r turns reply.Delayed h = h
second_later p r turns reply.Abort h = tt
second_later p r turns (reply.Broken why) h = tt
second_later p r turns reply.NoMemory h = tt

no_delay : (b : Bool) → not b ≡ true → b ≡ false
no_delay true h = absurd (cc (h))
no_delay false h = refl

again : (p : ℕ) (r : Round) (turns : List ℕ) (q : ℕ) (y : Reply) (u : Talk) (f : Fate)
    → ((turns : List ℕ) → Awaits p (redone r turns y) (fate_there y f)) → ask_again r turns q y ≡ Some u
    → Awaits p u (cond (p == q) (fate_here y) (fate_there y f))
again p r [] q y u f other h = none_is_some h
again p r (x ∷ turns) q y u f other h =
    let right = not (is_delay y) && is_good_reply y in
    let g = given_talk (not r.noting_list && (q == x && right)) (redone r turns y) u h in
    let two = and_parts (q == x) right (and_parts (not r.noting_list) (q == x && right) g.0).1 in
    let no = no_delay (is_delay y) (and_parts (not (is_delay y)) (is_good_reply y) two.1).0 in
    subst (λ (z : Talk). Awaits p z (cond (p == q) (fate_here y) (fate_there y f))) g.1
    (both p q (fate_here y) (fate_there y f) (redone r turns y) (second_here p r turns y no) (other turns))

-- a name changes neither what is still to be asked for, nor that a path was delayed
named_waits : (p : ℕ) (r : Round) (q : ℕ) (u : Talk) (f : Fate) → Awaits p (InRound r) f → name r q ≡ Some u
    → Awaits p u f
named_waits p r q u f w h =
    let g = given_talk (r.any_delayed
    && (is_empty r.rest && (contains q r.late && (r.noting_list || is_empty r.turns)))) _ u h in
    subst (λ (z : Talk). Awaits p z f) g.1 (kept f w)
  where
    kept : (f : Fate) → Awaits p (InRound r) f
        → Awaits p (InRound (record r { noting_list = true; late = without q r.late; turns = r.turns ++ q ∷ [] })) f
    kept Untold w = w
    kept Later w = w
    kept (Known k) w = tt

untold_next : (p : ℕ) (t u : Talk) (e : Event) → talk_next t e ≡ Some u → ToAsk p t
    → Awaits p u (fate_after p Untold e)
untold_next p (Between []) u e h has = none_is_some h
untold_next p (Between (x ∷ rest)) u (ev.Claim q a) h has = none_is_some h
untold_next p (Between (x ∷ rest)) u (ev.Close q a o) h has = none_is_some h
untold_next p (Between (x ∷ rest)) u (ev.HandBack q) h has = none_is_some h
untold_next p (Between (x ∷ rest)) u (ev.Answered q y) h has = none_is_some h
untold_next p (Between (x ∷ rest)) u (ev.Redone q y) h has = none_is_some h
untold_next p (Between (x ∷ rest)) u (ev.Named q) h has = none_is_some h
untold_next p (Between (x ∷ rest)) u (ev.Listed d y) h has = none_is_some h
untold_next p (Between (x ∷ rest)) u (ev.Shut d) h has = none_is_some h
untold_next p (Between (x ∷ rest)) u (ev.OpenFailed q why) h has =
    let g = given_talk (q == x && is_good_opening why) (Between rest) u h in
    let same = same_number q x (and_parts (q == x) (is_good_opening why) g.0).0 in
    subst (λ (z : Talk). Awaits p z (cond (p == q) (Known (heard_opening why)) Untold)) g.1
    (either p q x rest (Known (heard_opening why)) Untold (Between rest) same has tt (λ more. more))
untold_next p (Between (x ∷ rest)) u (ev.Opened d caps) h has =
    subst (λ (z : Talk). Awaits p z (fate_opened caps.smudge Untold)) (some_is (opened caps (x ∷ rest)) u h)
    (after_opened p caps (x ∷ rest) has)
untold_next p Refusing u e h has = absurd has
untold_next p Ended u e h has = absurd has
untold_next p (InRound r) u (ev.Claim q a) h has = none_is_some h
untold_next p (InRound r) u (ev.Close q a o) h has = none_is_some h
untold_next p (InRound r) u (ev.HandBack q) h has = none_is_some h
untold_next p (InRound r) u (ev.OpenFailed q why) h has = none_is_some h
untold_next p (InRound r) u (ev.Opened d caps) h has = none_is_some h
untold_next p (InRound r) u (ev.Answered q y) h has = asked_untold p r r.rest q y u has h
untold_next p (InRound r) u (ev.Redone q y) h has =
    again p r r.turns q y u Untold (λ turns. second_untold p r turns y has) h
untold_next p (InRound r) u (ev.Named q) h has = named_waits p r q u Untold has h
untold_next p (InRound r) u (ev.Listed d y) h has =
    let g = given_talk (list_may r y) (list_end r y) u h in
    subst (λ (z : Talk). Awaits p z (fate_listed y Untold)) g.1 (listed_untold p r y g.0 has)
untold_next p (InRound r) u (ev.Shut d) h has =
    let g = given_talk (not r.any_delayed && is_empty r.rest) Ended u h in
    none_left p r.rest (and_parts (not r.any_delayed) (is_empty r.rest) g.0).1 has

later_next : (p : ℕ) (t u : Talk) (e : Event) → talk_next t e ≡ Some u → HasDelayed t
    → Awaits p u (fate_after p Later e)
later_next p (Between rest) u e h some = absurd some
later_next p Refusing u e h some = absurd some
later_next p Ended u e h some = absurd some
later_next p (InRound r) u (ev.Claim q a) h some = none_is_some h
later_next p (InRound r) u (ev.Close q a o) h some = none_is_some h
later_next p (InRound r) u (ev.HandBack q) h some = none_is_some h
later_next p (InRound r) u (ev.OpenFailed q why) h some = none_is_some h
later_next p (InRound r) u (ev.Opened d caps) h some = none_is_some h
later_next p (InRound r) u (ev.Answered q y) h some = asked_later p r r.rest q y u some h
later_next p (InRound r) u (ev.Redone q y) h some =
    again p r r.turns q y u Later (λ turns. second_later p r turns y some) h
later_next p (InRound r) u (ev.Named q) h some = named_waits p r q u Later some h
later_next p (InRound r) u (ev.Listed d y) h some =
    subst (λ (z : Talk). Awaits p z (fate_listed y Later)) (given_talk (list_may r y) (list_end r y) u h).1
    (listed_later p r y some)
later_next p (InRound r) u (ev.Shut d) h some =
    let g = given_talk (not r.any_delayed && is_empty r.rest) Ended u h in
    let none = no_delay r.any_delayed (and_parts (not r.any_delayed) (is_empty r.rest) g.0).0 in
    absurd (cc (some, none))

next_awaits : (p : ℕ) (t u : Talk) (f : Fate) (e : Event) → talk_next t e ≡ Some u → Awaits p t f
    → Awaits p u (fate_after p f e)
next_awaits p t u Untold e h w = untold_next p t u e h w
next_awaits p t u Later e h w = later_next p t u e h w
next_awaits p t u (Known k) e h w = tt

run_awaits : (d p : ℕ) (t u : Talk) (f : Fate) (es : List Event) → talk_run d t es ≡ Some u → Awaits p t f
    → Awaits p u (fate_of p f es)
run_awaits d p t u f [] h w = subst (λ (z : Talk). Awaits p z f) (some_is t u h) w
run_awaits d p t u f (e ∷ es) h w =
    let k = (run_first d t u e es h).1 in
    run_awaits d p k.0 u (fate_after p f e) es k.2 (next_awaits p t k.0 f e k.1 w)

-- after a talk that is over, nothing awaits a path
over_tells : (p : ℕ) (u : Talk) (f : Fate) → IsOver u → Awaits p u f → (h : Heard) × (heard_by f ≡ Some h)
over_tells p u (Known k) over w = (k, refl)
over_tells p (Between []) Untold over w = absurd (cc (w))
over_tells p (Between (q ∷ rest)) Untold over w = absurd over
over_tells p (InRound r) Untold over w = absurd over
over_tells p Refusing Untold over w = absurd over
over_tells p Ended Untold over w = absurd w
over_tells p (Between rest) Later over w = absurd w
over_tells p (InRound r) Later over w = absurd over
over_tells p Refusing Later over w = absurd over
over_tells p Ended Later over w = absurd w

pub talk_tells : (d : ℕ) (paths : List ℕ) (items : List Item) (p : ℕ) → IsTalk paths items → contains p paths ≡ true
    → (h : Heard) × (heard_in paths (notes_of d items) p ≡ Some h)
talk_tells d paths items p is has =
    let t = transcript_runs d paths items is in
    let fate = fate_of p Untold (notes_of d items) in
    let h = over_tells p t.0 fate t.2 (run_awaits d p (Between paths) t.0 Untold (notes_of d items) t.1 has) in
    (h.0, ap (λ (b : Bool). cond b (heard_by fate) None) has ∙ h.1)
