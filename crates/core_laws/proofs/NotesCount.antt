-- How many notes a driver can have.
use Rattle.std.proofs.Common.{◌≡◌, ◌==◌, ◌&&◌, ◌||◌, ℕ, zero, suc, ◌+◌, ◌*◌, ◌<◌, ◌≤◌, Bool, true, false, not, cond}
use Rattle.std.proofs.Common.{List, [], ◌∷◌, ◌++◌, length, length-append, map, Option, Some, None, refl, ap, subst, arith}
use Rattle.std.proofs.lemmas.List.{length-map}
use Rattle.std.proofs.lemmas.Bool.{and_parts}
use Rattle.filter_words.specs.declared.reply.Reply.{Reply}
use Rattle.filter_words.specs.declared.reply.Reply.TheVariants as reply
use Rattle.filter_words.specs.declared.reply.ListReply.{ListReply}
use Rattle.filter_words.specs.declared.reply.ListReply.TheVariants as list
use Rattle.filter_words.specs.declared.reply.Caps.{Caps}
use Rattle.delay_table.specs.Table.{contains, without}
use Rattle.checkout_core.specs.declared.event.Event.{Event}
use Rattle.checkout_core.specs.declared.event.Event.TheVariants as ev
use Rattle.checkout_core.specs.declared.path.Start.{Start}
use Rattle.checkout_core.specs.declared.path.Path.{Path}
use Rattle.checkout_core.specs.States.{Core, start, is_at, is_unasked, path_of, AreBelow}
use Rattle.checkout_core.specs.Conditions.{is_delay, is_good_reply, is_good_opening}
use Rattle.checkout_core.specs.Steps.{replay}
use Rattle.checkout_core.specs.Notes.{notes}
use Rattle.checkout_core.specs.Desks.{paths_of}
use Rattle.checkout_core.specs.Talks.{Talk, Between, Refusing, InRound, Ended, Round, is_empty, opened}
use Rattle.checkout_core.specs.Talks.{between, answered, ask, name, list_end, list_may, redone, ask_again, in_session}
use Rattle.checkout_core.specs.Talks.{refusing, talk_next, is_with, talk_step, talk_run, is_talk, picks, skipped}
use Rattle.checkout_core.specs.Talks.{talk_paths, is_there}
use Rattle.core_laws.proofs.NotesTalk.{notes_talk}

-- what a talk may still cost in notes
abbrev between_cost : List ℕ → ℕ
between_cost [] = 0
between_cost (p ∷ rest) = 7 * suc (length rest) + 4

abbrev round_cost : Round → ℕ
round_cost r = 7 * length r.rest + 4 * length r.late + 2 * length r.turns + cond r.noting_list 1 0 + 3

abbrev cost : Talk → ℕ
cost (Between rest) = between_cost rest
cost Refusing = 1
cost (InRound r) = round_cost r
cost Ended = 0

between_most : (ps : List ℕ) → between_cost ps ≤ 7 * length ps + 4
between_most [] = omega arith
between_most (p ∷ ps) = omega arith

without_less : (q : ℕ) (ps : List ℕ) → length (without q ps) ≤ length ps
without_less q [] = omega arith
without_less q (p ∷ ps) = go (q == p) (without_less q ps)
  where
    go : (b : Bool) → length (without q ps) ≤ length ps
        → length (cond b (without q ps) (p ∷ without q ps)) ≤ suc (length ps)
    go true h = omega (arith, h)
    go false h = omega (arith, h)

without_drops : (q : ℕ) (ps : List ℕ) → contains q ps ≡ true → length (without q ps) + 1 ≤ length ps
without_drops q [] h = absurd (cc (h))
without_drops q (p ∷ ps) h = go (q == p) h (without_drops q ps)
  where
    go : (b : Bool) → cond b true (contains q ps) ≡ true
        → (contains q ps ≡ true → length (without q ps) + 1 ≤ length ps)
        → length (cond b (without q ps) (p ∷ without q ps)) + 1 ≤ suc (length ps)
    go true i drops = let k = without_less q ps in omega (arith, k)
    go false i drops = let k = drops i in omega (arith, k)

empty_is : (ps : List ℕ) → is_empty ps ≡ true → ps ≡ []
empty_is [] h = refl
empty_is (p ∷ ps) h = absurd (cc (h))

talk_is : (b : Bool) (t u : Talk) → cond b (Some t) None ≡ Some u → (b ≡ true) × (t ≡ u)
talk_is true t u e = (refl, cc (e))
talk_is false t u e = absurd (cc (e))

-- each note costs one at least
abbrev Falls : Talk → Talk → Type 0
Falls t u = cost u + 1 ≤ cost t

to_talk : (t v u : Talk) → v ≡ u → Falls t v → Falls t u
to_talk t v u e h = subst (λ (z : Talk). Falls t z) e h

opening_falls : (caps : Caps) (p : ℕ) (rest : List ℕ) → Falls (Between (p ∷ rest)) (opened caps (p ∷ rest))
opening_falls caps p rest = go caps.smudge
  where
    go : (b : Bool) → Falls (Between (p ∷ rest)) (cond b (InRound (record {
      delay = caps.delay;
      any_delayed = false;
      noting_list = false;
      rest = p ∷ rest;
      late = [];
      turns = [];
    })) Refusing)
    go true = omega arith
    go false = omega arith

between_falls : (ps : List ℕ) (e : Event) (u : Talk) → between ps e ≡ Some u → Falls (Between ps) u
between_falls [] e u h = absurd (cc (h))
between_falls (p ∷ rest) (ev.OpenFailed q o) u h =
    let k = talk_is (q == p && is_good_opening o) (Between rest) u h in
    to_talk (Between (p ∷ rest)) (Between rest) u k.1
    (let m = between_most rest in omega (arith, m))
between_falls (p ∷ rest) (ev.Opened d caps) u h = to_talk (Between (p ∷ rest)) (opened caps (p ∷ rest)) u
    (let k : opened caps (p ∷ rest) ≡ u = cc (h) in k) (opening_falls caps p rest)
between_falls (p ∷ rest) (ev.Claim q a) u h = absurd (cc (h))
between_falls (p ∷ rest) (ev.Close q a o) u h = absurd (cc (h))
between_falls (p ∷ rest) (ev.Answered q y) u h = absurd (cc (h))
between_falls (p ∷ rest) (ev.Named q) u h = absurd (cc (h))
between_falls (p ∷ rest) (ev.Listed d y) u h = absurd (cc (h))
between_falls (p ∷ rest) (ev.Redone q y) u h = absurd (cc (h))
between_falls (p ∷ rest) (ev.HandBack q) u h = absurd (cc (h))
between_falls (p ∷ rest) (ev.Shut d) u h = absurd (cc (h))

bit : (b : Bool) → cond b 1 0 ≤ 1
bit true = omega arith
bit false = omega arith

-- a first request for the first of these
module _ (delay any noting : Bool) (late turns : List ℕ) where
  abbrev round_of : List ℕ → Round
  round_of rest = record {
    delay = delay;
    any_delayed = any;
    noting_list = noting;
    rest = rest;
    late = late;
    turns = turns;
  }

  answer_falls : (p : ℕ) (rest : List ℕ) (y : Reply)
      → Falls (InRound (round_of (p ∷ rest))) (answered (round_of (p ∷ rest)) p rest y)
  answer_falls p rest reply.Delayed = omega arith
  answer_falls p rest reply.Abort = omega arith
  answer_falls p rest (reply.Broken b) = let m = between_most rest in omega (arith, m)
  answer_falls p rest reply.NoMemory = let m = between_most rest in omega (arith, m)
  answer_falls p rest reply.Content = omega arith
  answer_falls p rest reply.Error = omega arith
  answer_falls p rest reply.ErrorAfter = omega arith

  ask_falls : (ps : List ℕ) (q : ℕ) (y : Reply) (u : Talk) → ask (round_of ps) ps q y ≡ Some u
      → Falls (InRound (round_of ps)) u
  ask_falls [] q y u h = absurd (cc (h))
  ask_falls (p ∷ rest) q y u h =
      let k = talk_is (q == p && (is_good_reply y && not (is_delay y && not delay)))
      (answered (round_of (p ∷ rest)) p rest y) u h in
      to_talk (InRound (round_of (p ∷ rest))) (answered (round_of (p ∷ rest)) p rest y) u
      k.1 (answer_falls p rest y)

-- a second request for the first of these
module _ (delay any noting : Bool) (rest late : List ℕ) where
  abbrev turn_of : List ℕ → Round
  turn_of turns = record {
    delay = delay;
    any_delayed = any;
    noting_list = noting;
    rest = rest;
    late = late;
    turns = turns;
  }

  redo_falls : (p : ℕ) (turns : List ℕ) (y : Reply)
      → Falls (InRound (turn_of (p ∷ turns))) (redone (turn_of (p ∷ turns)) turns y)
  redo_falls p turns reply.Abort = omega arith
  redo_falls p turns (reply.Broken b) = let m = between_most rest in omega (arith, m)
  redo_falls p turns reply.NoMemory = let m = between_most rest in omega (arith, m)
  redo_falls p turns reply.Content = omega arith
  redo_falls p turns reply.Error = omega arith
  redo_falls p turns reply.ErrorAfter = omega arith
  redo_falls p turns reply.Delayed = omega arith

  again_falls : (ps : List ℕ) (q : ℕ) (y : Reply) (u : Talk) → ask_again (turn_of ps) ps q y ≡ Some u
      → Falls (InRound (turn_of ps)) u
  again_falls [] q y u h = absurd (cc (h))
  again_falls (p ∷ turns) q y u h =
      let k = talk_is (not noting && (q == p && (not (is_delay y) && is_good_reply y)))
      (redone (turn_of (p ∷ turns)) turns y) u h in
      to_talk (InRound (turn_of (p ∷ turns))) (redone (turn_of (p ∷ turns)) turns y) u
      k.1 (redo_falls p turns y)

name_falls : (r : Round) (q : ℕ) (u : Talk) → name r q ≡ Some u → Falls (InRound r) u
name_falls r q u h =
    let named : Round = record {
      delay = r.delay;
      any_delayed = r.any_delayed;
      noting_list = true;
      rest = r.rest;
      late = without q r.late;
      turns = r.turns ++ (q ∷ []);
    } in
    let k = talk_is (r.any_delayed && (is_empty r.rest && (contains q r.late && (r.noting_list || is_empty r.turns))))
    (InRound named) u h in
    let a = and_parts r.any_delayed (is_empty r.rest && (contains q r.late && (r.noting_list || is_empty r.turns))) k.0 in
    let b = and_parts (is_empty r.rest) (contains q r.late && (r.noting_list || is_empty r.turns)) a.1 in
    let w = and_parts (contains q r.late) (r.noting_list || is_empty r.turns) b.1 in
    let less = without_drops q r.late w.0 in
    let more = length-append r.turns (q ∷ []) in
    to_talk (InRound r) (InRound named) u k.1 (omega (arith, less, more))

list_falls : (r : Round) (y : ListReply) (u : Talk) → cond (list_may r y) (Some (list_end r y)) None ≡ Some u
    → Falls (InRound r) u
list_falls r y u h =
    let k = talk_is (list_may r y) (list_end r y) u h in
    to_talk (InRound r) (list_end r y) u k.1 (go y k.0)
  where
    noted : (b : Bool) (n : ℕ) → b ≡ true → n + 0 + 3 + 1 ≤ n + cond b 1 0 + 3
    noted true n e = omega arith
    noted false n e = absurd (cc (e))

    over : list_may r list.Empty ≡ true → between_cost r.rest ≡ 0
    over e =
        let a = and_parts r.any_delayed (not r.noting_list && (is_empty r.rest && is_empty r.turns)) e in
        let b = and_parts (not r.noting_list) (is_empty r.rest && is_empty r.turns) a.1 in
        let w = and_parts (is_empty r.rest) (is_empty r.turns) b.1 in
        ap between_cost (empty_is r.rest w.0)

    go : (y : ListReply) → list_may r y ≡ true → Falls (InRound r) (list_end r y)
    go (list.Names n) e = noted r.noting_list (7 * length r.rest + 4 * length r.late + 2 * length r.turns)
        (and_parts r.noting_list (n == length r.turns) e).0
    go list.Empty e = omega arith
    go list.Abort e = omega arith
    go (list.Broken b) e = let z = over e in omega (arith, z)
    go list.NoMemory e = let z = over e in omega (arith, z)

round_falls : (r : Round) (e : Event) (u : Talk) → in_session r e ≡ Some u → Falls (InRound r) u
round_falls r (ev.Answered q y) u h = ask_falls r.delay r.any_delayed r.noting_list r.late r.turns r.rest q y u h
round_falls r (ev.Named q) u h = name_falls r q u h
round_falls r (ev.Listed d y) u h = list_falls r y u h
round_falls r (ev.Redone q y) u h = again_falls r.delay r.any_delayed r.noting_list r.rest r.late r.turns q y u h
round_falls r (ev.Shut d) u h =
    let k = talk_is (not r.any_delayed && is_empty r.rest) Ended u h in
    to_talk (InRound r) Ended u k.1 (omega arith)
round_falls r (ev.Opened d caps) u h = absurd (cc (h))
round_falls r (ev.OpenFailed q o) u h = absurd (cc (h))
round_falls r (ev.Claim q a) u h = absurd (cc (h))
round_falls r (ev.Close q a o) u h = absurd (cc (h))
round_falls r (ev.HandBack q) u h = absurd (cc (h))

refusing_falls : (e : Event) (u : Talk) → refusing e ≡ Some u → Falls Refusing u
refusing_falls (ev.Shut d) u h = to_talk Refusing Ended u (let k : Ended ≡ u = cc (h) in k) (omega arith)
refusing_falls (ev.Answered q y) u h = absurd (cc (h))
refusing_falls (ev.Named q) u h = absurd (cc (h))
refusing_falls (ev.Listed d y) u h = absurd (cc (h))
refusing_falls (ev.Redone q y) u h = absurd (cc (h))
refusing_falls (ev.Opened d caps) u h = absurd (cc (h))
refusing_falls (ev.OpenFailed q o) u h = absurd (cc (h))
refusing_falls (ev.Claim q a) u h = absurd (cc (h))
refusing_falls (ev.Close q a o) u h = absurd (cc (h))
refusing_falls (ev.HandBack q) u h = absurd (cc (h))

next_falls : (t : Talk) (e : Event) (u : Talk) → talk_next t e ≡ Some u → Falls t u
next_falls (Between ps) e u h = between_falls ps e u h
next_falls Refusing e u h = refusing_falls e u h
next_falls (InRound r) e u h = round_falls r e u h
next_falls Ended e u h = absurd (cc (h))

step_falls : (d : ℕ) (t : Talk) (e : Event) (u : Talk) → talk_step d t e ≡ Some u → Falls t u
step_falls d t e u h = next_falls t e u (go (is_with d e) h)
  where
    go : (b : Bool) → cond b (talk_next t e) None ≡ Some u → talk_next t e ≡ Some u
    go true i = i
    go false i = absurd (cc (i))

-- the notes of a talk that may stop after any note
pub few : (d : ℕ) (t : Talk) (es : List Event) → is_talk d t es ≡ true → length es ≤ cost t
few d t [] h = omega arith
few d t (e ∷ es) h = go (talk_step d t e) refl h (λ u k. few d u es k)
  where
    go : (o : Option Talk) → talk_step d t e ≡ o
        → is_there (elim o [ None ↦ None | Some u ↦ talk_run d u es ]) ≡ true
        → ((u : Talk) → is_talk d u es ≡ true → length es ≤ cost u) → suc (length es) ≤ cost t
    go None same i rest = absurd (cc (i))
    go (Some u) same i rest =
        let less = step_falls d t e u same in
        let left = rest u i in
        omega (arith, less, left)

-- the paths of a talk are among the driver's
paths_fewer : (d : ℕ) (f : ℕ → Path → Bool) (ss : List Start)
    → length (picks (λ p r. is_at d r.start && f p r) (map path_of ss)) ≤ length (paths_of d ss)
paths_fewer d f [] = omega arith
paths_fewer d f (s ∷ ss) =
    let tail = paths_fewer d (λ p r. f (suc p) r) ss in
    let mine = picks (λ p r. is_at d r.start && f (suc p) r) (map path_of ss) in
    go (is_at d s) (f zero (path_of s)) mine (paths_of d ss) tail
  where
    go : (a b : Bool) (mine all : List ℕ) → length mine ≤ length all
        → length (cond (a && b) (zero ∷ map (λ i. suc i) mine) (map (λ i. suc i) mine))
        ≤ length (cond a (zero ∷ map (λ i. suc i) all) (map (λ i. suc i) all))
    go true true mine all h =
        omega (arith, h, length-map mine (λ i. suc i), length-map all (λ i. suc i))
    go true false mine all h =
        omega (arith, h, length-map mine (λ i. suc i), length-map all (λ i. suc i))
    go false b mine all h =
        omega (arith, h, length-map mine (λ i. suc i), length-map all (λ i. suc i))

pub notes_few : (starts : List Start) (workers drivers : ℕ) (history : List Event) (x : Core) (d : ℕ)
    → AreBelow drivers starts → d < drivers → replay (start starts workers drivers) history ≡ Some x
    → length (notes starts d history) ≤ 7 * length (paths_of d starts) + 4
notes_few starts workers drivers history x d below there run =
    let c = start starts workers drivers in
    let paths = talk_paths c d history in
    let talk = few d (Between paths) (notes starts d history) (notes_talk starts workers drivers history x d below there run) in
    let most = between_most paths in
    let fewer = paths_fewer d (λ p r. is_unasked r.state && not (skipped c history p)) starts in
    omega (arith, talk, most, fewer)
