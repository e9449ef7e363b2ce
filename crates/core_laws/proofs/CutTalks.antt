-- Each cut talk over the paths of a driver is the notes of some legal history: before a session without smudge is shut,
-- the paths that it refused are closed.
use Rattle.std.proofs.Common.{◌≡◌, ◌==◌, ℕ, zero, suc, ◌+◌, ◌<◌, ◌≤◌, ⊎_elim, Bool, true, false, cond, List, [], ◌∷◌}
use Rattle.std.proofs.Common.{◌++◌, Some, refl, sym, ap, ◌∙◌, subst, append_assoc, arith}
use Rattle.std.specs.Prelude.{◌&&◌, ◌||◌, not, map, length}
use Rattle.std.proofs.lemmas.Bool.{and_parts}
use Rattle.std.proofs.lemmas.List.{append-nil}
use Rattle.filter_words.specs.declared.reply.Caps.{Caps}
use Rattle.filter_words.specs.declared.reply.Reply.{Reply}
use Rattle.filter_words.specs.declared.reply.Reply.TheVariants as reply
use Rattle.filter_words.specs.declared.reply.ListReply.{ListReply}
use Rattle.filter_words.specs.declared.reply.ListReply.TheVariants as list
use Rattle.delay_table.specs.Table.{contains, without}
use Rattle.checkout_core.specs.declared.verdict.Own.TheVariants as own
use Rattle.checkout_core.specs.declared.path.Start.{Start}
use Rattle.checkout_core.specs.declared.event.Event.{Event}
use Rattle.checkout_core.specs.declared.event.Event.TheVariants as ev
use Rattle.checkout_core.specs.States.{Core, AreBelow, start, is_at}
use Rattle.checkout_core.specs.Conditions.{is_good_opening, is_good_reply, is_delay}
use Rattle.checkout_core.specs.Steps.{replay}
use Rattle.checkout_core.specs.Notes.{is_note, notes}
use Rattle.checkout_core.specs.Talks.{Round, Talk, Between, Refusing, InRound, Ended, talk_next, talk_run, is_with}
use Rattle.checkout_core.specs.Talks.{opened, ask, answered, name, list_may, list_end, ask_again, redone}
use Rattle.checkout_core.specs.Talks.{is_empty}
use Rattle.checkout_core.specs.Agreements.{IsThrough, rest_after, first_after}
use Rattle.checkout_core.specs.Desks.{AtDesk, paths_of}
use Rattle.checkout_core.proofs.Basics.{none_is_some, some_is, same_number, same_or, eqb_self}
use Rattle.core_laws.proofs.OfDriver.{is_of, at_desk}
use Rattle.core_laws.proofs.TranscriptsBack.{given_talk, run_first}
use Rattle.core_laws.proofs.Desks.{desk_begins, desk_notes, desk_goes, desk_refuses, notes_more}

-- each number passes the test
abbrev AllOf : (ℕ → Bool) → List ℕ → Type 0
AllOf f [] = Unit {0}
AllOf f (p ∷ ps) = (f p ≡ true) × AllOf f ps

all_in : (f : ℕ → Bool) (q : ℕ) (xs : List ℕ) → contains q xs ≡ true → AllOf f xs → f q ≡ true
all_in f q [] h all = absurd (cc (h))
all_in f q (x ∷ xs) h all = ⊎_elim
    (λ (k : (q ≡ x) × ((q == x) ≡ true)). ap f k.0 ∙ all.0)
    (λ (k : (q == x) ≡ false). all_in f q xs (sym (ap (λ (b : Bool). cond b true (contains q xs)) k) ∙ h) all.1)
    (same_or q x)

all_without : (f : ℕ → Bool) (q : ℕ) (xs : List ℕ) → AllOf f xs → AllOf f (without q xs)
all_without f q [] all = tt
all_without f q (x ∷ xs) all = go (q == x) (all_without f q xs all.1)
  where
    go : (b : Bool) → AllOf f (without q xs) → AllOf f (cond b (without q xs) (x ∷ without q xs))
    go true rest = rest
    go false rest = (all.0, rest)

all_more : (f : ℕ → Bool) (q : ℕ) (xs : List ℕ) → AllOf f xs → f q ≡ true → AllOf f (xs ++ q ∷ [])
all_more f q [] all h = (h, tt)
all_more f q (x ∷ xs) all h = (all.0, all_more f q xs all.1 h)

all_map : (f : ℕ → Bool) (xs : List ℕ) → AllOf (λ i. f (suc i)) xs → AllOf f (map (λ i. suc i) xs)
all_map f [] all = tt
all_map f (x ∷ xs) all = (all.0, all_map f xs all.1)

one_more : (d : ℕ) (s : Start) (ss : List Start) (b : Bool) → is_at d s ≡ b → AllOf (is_of ss d) (paths_of d ss)
    → AllOf (is_of (s ∷ ss) d) (cond b (zero ∷ map (λ i. suc i) (paths_of d ss)) (map (λ i. suc i) (paths_of d ss)))
one_more d s ss true i all = (at_desk d s ∙ i, all_map (is_of (s ∷ ss) d) (paths_of d ss) all)
one_more d s ss false i all = all_map (is_of (s ∷ ss) d) (paths_of d ss) all

all_paths : (d : ℕ) (starts : List Start) → AllOf (is_of starts d) (paths_of d starts)
all_paths d [] = tt
all_paths d (s ∷ ss) = one_more d s ss (is_at d s) refl (all_paths d ss)

-- a talk speaks of such paths alone
abbrev IsOwned : (ℕ → Bool) → Talk → Type 0
IsOwned f (Between rest) = AllOf f rest
IsOwned f Refusing = Unit {0}
IsOwned f (InRound r) = AllOf f r.rest × AllOf f r.late × AllOf f r.turns
IsOwned f Ended = Unit {0}

answered_owned : (f : ℕ → Bool) (r : Round) (p : ℕ) (rest : List ℕ) (y : Reply) → f p ≡ true → AllOf f rest
    → AllOf f r.late → AllOf f r.turns → IsOwned f (answered r p rest y)
answered_owned f r p rest reply.Content h a b c = (a, b, c)
answered_owned f r p rest reply.Error h a b c = (a, b, c)
answered_owned f r p rest reply.ErrorAfter h a b c = (a, b, c)
answered_owned f r p rest reply.Delayed h a b c = (a, (h, b), c)
answered_owned f r p rest reply.Abort h a b c = tt
answered_owned f r p rest (reply.Broken why) h a b c = a
answered_owned f r p rest reply.NoMemory h a b c = a

ask_owned : (f : ℕ → Bool) (r : Round) (rest : List ℕ) (q : ℕ) (y : Reply) (u : Talk) → AllOf f rest
    → AllOf f r.late → AllOf f r.turns → ask r rest q y ≡ Some u
    → (f q ≡ true) × IsOwned f u
ask_owned f r [] q y u a b c h = none_is_some h
ask_owned f r (p ∷ rest) q y u a b c h =
    let g = given_talk (q == p && (is_good_reply y && not (is_delay y && not r.delay))) (answered r p rest y) u h in
    let same = same_number q p (and_parts (q == p) (is_good_reply y && not (is_delay y && not r.delay)) g.0).0 in
    (ap f same ∙ a.0, subst (IsOwned f) g.1 (answered_owned f r p rest y a.0 a.1 b c))

redone_owned : (f : ℕ → Bool) (r : Round) (turns : List ℕ) (y : Reply) → AllOf f r.rest → AllOf f r.late
    → AllOf f turns → IsOwned f (redone r turns y)
redone_owned f r turns reply.Content a b c = (a, b, c)
redone_owned f r turns reply.Error a b c = (a, b, c)
redone_owned f r turns reply.ErrorAfter a b c = (a, b, c)
redone_owned f r turns reply.Delayed a b c = (a, b, c)
redone_owned f r turns reply.Abort a b c = tt
redone_owned f r turns (reply.Broken why) a b c = a
redone_owned f r turns reply.NoMemory a b c = a

again_owned : (f : ℕ → Bool) (r : Round) (turns : List ℕ) (q : ℕ) (y : Reply) (u : Talk) → AllOf f r.rest
    → AllOf f r.late → AllOf f turns → ask_again r turns q y ≡ Some u
    → (f q ≡ true) × IsOwned f u
again_owned f r [] q y u a b c h = none_is_some h
again_owned f r (p ∷ turns) q y u a b c h =
    let g = given_talk (not r.noting_list && (q == p && (not (is_delay y) && is_good_reply y)))
    (redone r turns y) u h in
    let one = and_parts (not r.noting_list) (q == p && (not (is_delay y) && is_good_reply y)) g.0 in
    let same = same_number q p (and_parts (q == p) (not (is_delay y) && is_good_reply y) one.1).0 in
    (ap f same ∙ c.0, subst (IsOwned f) g.1 (redone_owned f r turns y a b c.1))

list_owned : (f : ℕ → Bool) (r : Round) (y : ListReply) → AllOf f r.rest → AllOf f r.late → AllOf f r.turns
    → IsOwned f (list_end r y)
list_owned f r (list.Names n) a b c = (a, b, c)
list_owned f r list.Empty a b c = tt
list_owned f r list.Abort a b c = tt
list_owned f r (list.Broken why) a b c = a
list_owned f r list.NoMemory a b c = a

name_owned : (f : ℕ → Bool) (r : Round) (q : ℕ) (u : Talk) → AllOf f r.rest → AllOf f r.late → AllOf f r.turns
    → name r q ≡ Some u → (f q ≡ true) × IsOwned f u
name_owned f r q u a b c h =
    let g = given_talk (r.any_delayed && (is_empty r.rest &&
    (contains q r.late && (r.noting_list || is_empty r.turns))))
    (InRound (record {
      delay = r.delay;
      any_delayed = r.any_delayed;
      noting_list = true;
      rest = r.rest;
      late =
          without q r.late;
      turns = r.turns ++ q ∷ [];
    })) u h in
    let one = and_parts r.any_delayed (is_empty r.rest && (contains q r.late &&
    (r.noting_list || is_empty r.turns))) g.0 in
    let two = and_parts (is_empty r.rest) (contains q r.late && (r.noting_list || is_empty r.turns)) one.1 in
    let mine = all_in f q r.late (and_parts (contains q r.late) (r.noting_list || is_empty r.turns) two.1).0 b in
    (mine, subst (IsOwned f) g.1 (a, all_without f q r.late b, all_more f q r.turns c mine))

opened_owned : (f : ℕ → Bool) (caps : Caps) (rest : List ℕ) → AllOf f rest → IsOwned f (opened caps rest)
opened_owned f caps rest a = go caps.smudge
  where
    go : (b : Bool)
        → IsOwned f (cond b (InRound (record {
          delay = caps.delay;
          any_delayed = false;
          noting_list = false;
          rest =
              rest;
          late = [];
          turns = [];
        })) Refusing)
    go true = (a, tt, tt)
    go false = tt

-- so a note of such a talk is the driver's
note_owned : (starts : List Start) (d : ℕ) (t u : Talk) (e : Event) → IsOwned (is_of starts d) t
    → is_with d e ≡ true → talk_next t e ≡ Some u
    → (is_note starts d e ≡ true) × IsOwned (is_of starts d) u
note_owned starts d (Between []) u e o w h = none_is_some h
note_owned starts d (Between (p ∷ rest)) u (ev.Claim q a) o w h = none_is_some h
note_owned starts d (Between (p ∷ rest)) u (ev.Close q a x) o w h = none_is_some h
note_owned starts d (Between (p ∷ rest)) u (ev.HandBack q) o w h = none_is_some h
note_owned starts d (Between (p ∷ rest)) u (ev.Answered q y) o w h = none_is_some h
note_owned starts d (Between (p ∷ rest)) u (ev.Redone q y) o w h = none_is_some h
note_owned starts d (Between (p ∷ rest)) u (ev.Named q) o w h = none_is_some h
note_owned starts d (Between (p ∷ rest)) u (ev.Listed f y) o w h = none_is_some h
note_owned starts d (Between (p ∷ rest)) u (ev.Shut f) o w h = none_is_some h
note_owned starts d (Between (p ∷ rest)) u (ev.OpenFailed q why) o w h =
    let g = given_talk (q == p && is_good_opening why) (Between rest) u h in
    let same = same_number q p (and_parts (q == p) (is_good_opening why) g.0).0 in
    (ap (is_of starts d) same ∙ o.0, subst (IsOwned (is_of starts d)) g.1 o.1)
note_owned starts d (Between (p ∷ rest)) u (ev.Opened f caps) o w h = (
  w,
  subst (IsOwned (is_of starts d)) (some_is (opened caps (p ∷ rest)) u h)
      (opened_owned (is_of starts d) caps (p ∷ rest) o),
)
note_owned starts d Refusing u (ev.Claim q a) o w h = none_is_some h
note_owned starts d Refusing u (ev.Close q a x) o w h = none_is_some h
note_owned starts d Refusing u (ev.HandBack q) o w h = none_is_some h
note_owned starts d Refusing u (ev.Answered q y) o w h = none_is_some h
note_owned starts d Refusing u (ev.Redone q y) o w h = none_is_some h
note_owned starts d Refusing u (ev.Named q) o w h = none_is_some h
note_owned starts d Refusing u (ev.Listed f y) o w h = none_is_some h
note_owned starts d Refusing u (ev.OpenFailed q why) o w h = none_is_some h
note_owned starts d Refusing u (ev.Opened f caps) o w h = none_is_some h
note_owned starts d Refusing u (ev.Shut f) o w h = (w, subst (IsOwned (is_of starts d)) (some_is Ended u h) tt)
note_owned starts d (InRound r) u (ev.Claim q a) o w h = none_is_some h
note_owned starts d (InRound r) u (ev.Close q a x) o w h = none_is_some h
note_owned starts d (InRound r) u (ev.HandBack q) o w h = none_is_some h
note_owned starts d (InRound r) u (ev.OpenFailed q why) o w h = none_is_some h
note_owned starts d (InRound r) u (ev.Opened f caps) o w h = none_is_some h
note_owned starts d (InRound r) u (ev.Answered q y) o w h = ask_owned (is_of starts d) r r.rest q y u o.0 o.1 o.2 h
note_owned starts d (InRound r) u (ev.Named q) o w h = name_owned (is_of starts d) r q u o.0 o.1 o.2 h
note_owned starts d (InRound r) u (ev.Redone q y) o w h = again_owned (is_of starts d) r r.turns q y u o.0 o.1 o.2 h
note_owned starts d (InRound r) u (ev.Listed f y) o w h = (
  w,
  subst (IsOwned (is_of starts d)) (given_talk (list_may r y) (list_end r y) u h).1
      (list_owned (is_of starts d) r y o.0 o.1 o.2),
)
note_owned starts d (InRound r) u (ev.Shut f) o w h =
    (w, subst (IsOwned (is_of starts d)) (given_talk (not r.any_delayed && is_empty r.rest) Ended u h).1 tt)
note_owned starts d Ended u e o w h = none_is_some h

without_shorter : (p : ℕ) (xs : List ℕ) → length (without p xs) ≤ length xs
without_shorter p [] = omega arith
without_shorter p (x ∷ xs) = go (p == x) (without_shorter p xs)
  where
    go : (b : Bool) → length (without p xs) ≤ length xs
        → length (cond b (without p xs) (x ∷ without p xs)) ≤ length (x ∷ xs)
    go true h = omega arith
    go false h = omega arith

first_gone : (p : ℕ) (xs : List ℕ) → length (without p (p ∷ xs)) ≤ length xs
first_gone p xs =
    subst (λ (b : Bool). length (cond b (without p xs) (p ∷ without p xs)) ≤ length xs) (sym (eqb_self p))
    (without_shorter p xs)

module _ (starts : List Start) (workers drivers d : ℕ) (below : AreBelow drivers starts) where
  -- all that a session without smudge refused is closed
  close_all : (n : ℕ) (given : List Event) (rest : List ℕ) (first : ℕ) → length rest ≤ n
      → AtDesk starts workers drivers d given rest first Refusing
      → (all : List Event) × AtDesk starts workers drivers d all [] first Refusing
      × (notes starts d all ≡ notes starts d given)
  close_all n given [] first few a = (given, a, refl)
  close_all zero given (p ∷ rest) first few a = absurd (omega arith)
  close_all (suc n) given (p ∷ rest) first few a =
      let e = ev.Close p (workers + d) (own.Fine false) in
      let may = desk_refuses starts workers drivers d below given (p ∷ rest) first Refusing a p refl
      (ap (λ (b : Bool). cond b true (contains p rest)) (eqb_self p)) in
      let next = desk_goes starts workers drivers d below given (p ∷ rest) first Refusing a e refl refl may in
      let fewer : length (without p (p ∷ rest)) ≤ n = let s = first_gone p rest in omega arith in
      let k = close_all n (given ++ e ∷ []) (without p (p ∷ rest)) first fewer next in
      (k.0, k.1, k.2 ∙ (notes_more starts d given e ∙ append-nil (notes starts d given)))

  abbrev IsReady : List Event → ℕ → Talk → Type 0
  IsReady given first t =
      (all : List Event) × (rest : List ℕ) × AtDesk starts workers drivers d all rest first t × IsThrough t rest
      × (notes starts d all ≡ notes starts d given)

  ready : (given : List Event) (rest : List ℕ) (first : ℕ) (t : Talk)
      → AtDesk starts workers drivers d given rest first t → IsReady given first t
  ready given rest first (Between ps) a = (given, rest, a, tt, refl)
  ready given rest first (InRound r) a = (given, rest, a, tt, refl)
  ready given rest first Ended a = (given, rest, a, tt, refl)
  ready given rest first Refusing a =
      let k = close_all (length rest) given rest first (omega arith) a in
      (k.0, [], k.1, refl, k.2)

  abbrev IsFilled : List Event → List Event → Type 0
  IsFilled given es =
      (history : List Event) × (c : Core) × (replay (start starts workers drivers) history ≡ Some c)
      × (notes starts d history ≡ notes starts d given ++ es)

  fill : (es given : List Event) (rest : List ℕ) (first : ℕ) (t u : Talk)
      → AtDesk starts workers drivers d given rest first t → IsOwned (is_of starts d) t
      → talk_run d t es ≡ Some u → IsFilled given es
  fill [] given rest first t u a o run = (given, a.core, a.run, sym (append-nil (notes starts d given)))
  fill (e ∷ es) given rest first t u a o run =
      let f = run_first d t u e es run in
      let n = note_owned starts d t f.1.0 e o f.0 f.1.1 in
      let r = ready given rest first t a in
      let next = (desk_notes starts workers drivers d below r.0 r.1 first t r.2 f.1.0 e n.0 r.3 f.1.1).1 in
      let k = fill es (r.0 ++ e ∷ []) (rest_after e r.1) (first_after e t first) f.1.0 u next n.1 f.1.2 in
      let noted : notes starts d (r.0 ++ e ∷ []) ≡ notes starts d given ++ e ∷ [] =
      notes_more starts d r.0 e ∙ (ap (λ (b : Bool). notes starts d r.0 ++ cond b (e ∷ []) []) n.0
      ∙ ap (λ (ns : List Event). ns ++ e ∷ []) r.4) in (
        k.0,
        k.1,
        k.2,
        k.3 ∙ (ap (λ (ns : List Event). ns ++ es) noted
            ∙ append_assoc (notes starts d given) (e ∷ []) es),
      )

  pub talk_history : (es : List Event) (u : Talk) → d < drivers → talk_run d (Between (paths_of d starts)) es ≡ Some u
      → (history : List Event) × (c : Core) × (replay (start starts workers drivers) history ≡ Some c)
      × (notes starts d history ≡ es)
  talk_history es u there run =
      fill es [] (paths_of d starts) 0 (Between (paths_of d starts)) u
      (desk_begins starts workers drivers d below 0 there) (all_paths d starts) run
