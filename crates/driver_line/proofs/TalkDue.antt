-- Which exchange comes next in a talk.
use Rattle.std.proofs.Common.{◌≡◌, ◌==◌, ◌&&◌, ◌||◌, inl, inr, ℕ, Bool, true, false, not}
use Rattle.std.proofs.Common.{List, [], ◌∷◌, ◌++◌, length, map, Some, refl, sym, ap, subst, ◌∙◌}
use Rattle.std.proofs.lemmas.Bool.{and_parts, eqb-true, not-true, or_cases}
use Rattle.filter_words.specs.declared.reply.Reply.{Reply}
use Rattle.filter_words.specs.declared.reply.Reply.TheVariants as reply
use Rattle.filter_words.specs.declared.reply.ListReply.{ListReply}
use Rattle.filter_words.specs.declared.reply.ListReply.TheVariants as list
use Rattle.filter_words.specs.declared.reply.Caps.{Caps}
use Rattle.delay_table.specs.Table.{contains}
use Rattle.filter_proto.specs.Exchanges.{Ends}
use Rattle.checkout_core.specs.declared.event.Event.{Event}
use Rattle.checkout_core.specs.declared.event.Event.TheVariants as ev
use Rattle.checkout_core.specs.declared.event.OpenCause.TheVariants as opening
use Rattle.checkout_core.specs.Conditions.{is_delay, is_good_reply, is_good_opening}
use Rattle.checkout_core.specs.Talks.{Talk, Between, Refusing, InRound, Ended, Round, is_empty, opened}
use Rattle.checkout_core.specs.Talks.{between, answered, ask, name, list_end, list_may, redone, ask_again, in_session}
use Rattle.checkout_core.specs.Talks.{refusing, talk_next, talk_run}
use Rattle.driver_line.specs.Conversations.{Exchange, NoStart, NoRoom, Opening, First, Listing, Second, Shutting}
use Rattle.driver_line.specs.Conversations.{notes_of, FitsTalk}
use Rattle.driver_line.proofs.TalkFates.{talk_is, run_cons, empty_is, named}

-- what is due: a start for a path, a first or a second request for one, a list, the end of a session, or nothing
pub data Due : Type 0 where
  Start : (p : ℕ) → Due
  Ask : (p : ℕ) → Due
  AskAgain : (p : ℕ) → Due
  Lists : Due
  Shuts : Due
  Nothing : Due

abbrev pub due_of : Exchange → Due
due_of (NoStart p) = Start p
due_of (NoRoom p) = Start p
due_of (Opening p end) = Start p
due_of (First p r content) = Ask p
due_of (Listing late names r) = Lists
due_of (Second p r content) = AskAgain p
due_of Shutting = Shuts

abbrev pub due_in : Bool → List ℕ → List ℕ → Due
due_in any (p ∷ rest) turns = Ask p
due_in any [] (p ∷ turns) = AskAgain p
due_in true [] [] = Lists
due_in false [] [] = Shuts

abbrev pub due_at : Talk → Due
due_at (Between []) = Nothing
due_at (Between (p ∷ rest)) = Start p
due_at Refusing = Shuts
due_at (InRound r) = due_in r.any_delayed r.rest r.turns
due_at Ended = Nothing

-- no list is being noted
abbrev pub NotesNone : Talk → Type 0
NotesNone (InRound r) = r.noting_list ≡ false
NotesNone t = Unit {0}

-- second requests are left only if a path was delayed and no first one is left
abbrev pub HasTurns : Talk → Type 0
HasTurns (InRound r) = (is_empty r.turns || (is_empty r.rest && r.any_delayed)) ≡ true
HasTurns t = Unit {0}

or_right : (a b : Bool) → b ≡ true → (a || b) ≡ true
or_right true b e = refl
or_right false b e = e

both : (a b : Bool) → a ≡ true → b ≡ true → (a && b) ≡ true
both a b e f = rw (e, f) refl

to_turns : (t u : Talk) → t ≡ u → HasTurns t → HasTurns u
to_turns t u e h = subst HasTurns e h

pub to_none : (t u : Talk) → t ≡ u → NotesNone t → NotesNone u
to_none t u e h = subst NotesNone e h

-- second requests, note by note

opened_turns : (caps : Caps) (s : Bool) (rest : List ℕ) → caps.smudge ≡ s → HasTurns (opened caps rest)
opened_turns caps true rest e = rw e refl
opened_turns caps false rest e = rw e tt

between_turns : (ps : List ℕ) (e : Event) (u : Talk) → between ps e ≡ Some u → HasTurns u
between_turns [] e u h = absurd (cc h)
between_turns (q ∷ rest) (ev.OpenFailed x o) u h = to_turns (Between rest) u (talk_is (x == q && is_good_opening o) (Between rest) u h).1 tt
between_turns (q ∷ rest) (ev.Opened d caps) u h = to_turns (opened caps (q ∷ rest)) u (cc h) (opened_turns caps caps.smudge (q ∷ rest) refl)
between_turns (q ∷ rest) (ev.Claim x a) u h = absurd (cc h)
between_turns (q ∷ rest) (ev.Close x a o) u h = absurd (cc h)
between_turns (q ∷ rest) (ev.Answered x y) u h = absurd (cc h)
between_turns (q ∷ rest) (ev.Named x) u h = absurd (cc h)
between_turns (q ∷ rest) (ev.Listed x y) u h = absurd (cc h)
between_turns (q ∷ rest) (ev.Redone x y) u h = absurd (cc h)
between_turns (q ∷ rest) (ev.HandBack x) u h = absurd (cc h)
between_turns (q ∷ rest) (ev.Shut x) u h = absurd (cc h)

module _ (delay any noting : Bool) (rest late turns : List ℕ) where
  abbrev round : Round
  round = record { delay = delay; any_delayed = any; noting_list = noting; rest = rest; late = late; turns = turns }

  none_left : (q : ℕ) (more : List ℕ) (y : Reply) → turns ≡ [] → HasTurns (answered round q more y)
  none_left q more reply.Content e = rw e refl
  none_left q more reply.Error e = rw e refl
  none_left q more reply.ErrorAfter e = rw e refl
  none_left q more reply.Delayed e = rw e refl
  none_left q more reply.Abort e = tt
  none_left q more (reply.Broken c) e = tt
  none_left q more reply.NoMemory e = tt

  some_left : (more : List ℕ) (y : Reply) → (is_empty rest && any) ≡ true → HasTurns (redone round more y)
  some_left more reply.Content e = or_right (is_empty more) (is_empty rest && any) e
  some_left more reply.Error e = or_right (is_empty more) (is_empty rest && any) e
  some_left more reply.ErrorAfter e = or_right (is_empty more) (is_empty rest && any) e
  some_left more reply.Delayed e = or_right (is_empty more) (is_empty rest && any) e
  some_left more reply.Abort e = tt
  some_left more (reply.Broken c) e = tt
  some_left more reply.NoMemory e = tt

-- before a first request no second one is left
no_turns : (any : Bool) (turns : List ℕ) → (is_empty turns || (false && any)) ≡ true → turns ≡ []
no_turns any [] e = refl
no_turns any (p ∷ turns) e = absurd (cc e)

-- before a second one no first one is left, and a path was delayed
no_rest : (p : ℕ) (turns rest : List ℕ) (any : Bool) → (is_empty (p ∷ turns) || (is_empty rest && any)) ≡ true → (is_empty rest && any) ≡ true
no_rest p turns rest any e = e

ask_turns : (delay any noting : Bool) (late turns ps : List ℕ) (x : ℕ) (y : Reply) (u : Talk) → ask (round delay any noting ps late turns) ps x y ≡ Some u
    → HasTurns (InRound (round delay any noting ps late turns)) → HasTurns u
ask_turns delay any noting late turns [] x y u h k = absurd (cc h)
ask_turns delay any noting late turns (q ∷ rest) x y u h k =
    let r = round delay any noting (q ∷ rest) late turns in
    let a = talk_is (x == q && (is_good_reply y && not (is_delay y && not delay))) (answered r q rest y) u h in
    to_turns (answered r q rest y) u a.1 (none_left delay any noting (q ∷ rest) late turns q rest y (no_turns any turns k))

again_turns : (delay any noting : Bool) (rest late ps : List ℕ) (x : ℕ) (y : Reply) (u : Talk) → ask_again (round delay any noting rest late ps) ps x y ≡ Some u
    → HasTurns (InRound (round delay any noting rest late ps)) → HasTurns u
again_turns delay any noting rest late [] x y u h k = absurd (cc h)
again_turns delay any noting rest late (q ∷ turns) x y u h k =
    let r = round delay any noting rest late (q ∷ turns) in
    let a = talk_is (not noting && (x == q && (not (is_delay y) && is_good_reply y))) (redone r turns y) u h in
    to_turns (redone r turns y) u a.1 (some_left delay any noting rest late (q ∷ turns) turns y (no_rest q turns rest any k))

name_turns : (r : Round) (q : ℕ) (u : Talk) → name r q ≡ Some u → HasTurns u
name_turns r q u h =
    let a = talk_is (r.any_delayed && (is_empty r.rest && (contains q r.late && (r.noting_list || is_empty r.turns)))) (InRound (named r q)) u h in
    let b = and_parts r.any_delayed (is_empty r.rest && (contains q r.late && (r.noting_list || is_empty r.turns))) a.0 in
    let w = and_parts (is_empty r.rest) (contains q r.late && (r.noting_list || is_empty r.turns)) b.1 in
    to_turns (InRound (named r q)) u a.1 (or_right (is_empty (r.turns ++ (q ∷ []))) (is_empty r.rest && r.any_delayed) (both (is_empty r.rest) r.any_delayed w.0 b.0))

end_turns : (r : Round) (y : ListReply) → HasTurns (InRound r) → HasTurns (list_end r y)
end_turns r (list.Names n) h = h
end_turns r list.Empty h = tt
end_turns r list.Abort h = tt
end_turns r (list.Broken c) h = tt
end_turns r list.NoMemory h = tt

round_turns : (r : Round) (e : Event) (u : Talk) → in_session r e ≡ Some u → HasTurns (InRound r) → HasTurns u
round_turns r (ev.Answered q y) u h k = ask_turns r.delay r.any_delayed r.noting_list r.late r.turns r.rest q y u h k
round_turns r (ev.Named q) u h k = name_turns r q u h
round_turns r (ev.Listed d y) u h k = to_turns (list_end r y) u (talk_is (list_may r y) (list_end r y) u h).1 (end_turns r y k)
round_turns r (ev.Redone q y) u h k = again_turns r.delay r.any_delayed r.noting_list r.rest r.late r.turns q y u h k
round_turns r (ev.Shut d) u h k = to_turns Ended u (talk_is (not r.any_delayed && is_empty r.rest) Ended u h).1 tt
round_turns r (ev.Opened d caps) u h k = absurd (cc h)
round_turns r (ev.OpenFailed q o) u h k = absurd (cc h)
round_turns r (ev.Claim q a) u h k = absurd (cc h)
round_turns r (ev.Close q a o) u h k = absurd (cc h)
round_turns r (ev.HandBack q) u h k = absurd (cc h)

pub refusing_ends : (e : Event) (u : Talk) → refusing e ≡ Some u → Ended ≡ u
refusing_ends (ev.Shut d) u h = cc h
refusing_ends (ev.Answered q y) u h = absurd (cc h)
refusing_ends (ev.Named q) u h = absurd (cc h)
refusing_ends (ev.Listed d y) u h = absurd (cc h)
refusing_ends (ev.Redone q y) u h = absurd (cc h)
refusing_ends (ev.Opened d caps) u h = absurd (cc h)
refusing_ends (ev.OpenFailed q o) u h = absurd (cc h)
refusing_ends (ev.Claim q a) u h = absurd (cc h)
refusing_ends (ev.Close q a o) u h = absurd (cc h)
refusing_ends (ev.HandBack q) u h = absurd (cc h)

next_turns : (t : Talk) (e : Event) (u : Talk) → talk_next t e ≡ Some u → HasTurns t → HasTurns u
next_turns (Between ps) e u h k = between_turns ps e u h
next_turns Refusing e u h k = to_turns Ended u (refusing_ends e u h) tt
next_turns (InRound r) e u h k = round_turns r e u h k
next_turns Ended e u h k = absurd (cc h)

pub run_turns : (d : ℕ) (t : Talk) (es : List Event) (u : Talk) → talk_run d t es ≡ Some u → HasTurns t → HasTurns u
run_turns d t [] u h k = to_turns t u (cc h) k
run_turns d t (e ∷ es) u h k = let s = run_cons d t e es u h in run_turns d s.mid es u s.run (next_turns t e s.mid s.step k)

-- what is due, by a note

abbrev DueBy : Event → Talk → Type 0
DueBy (ev.OpenFailed q o) t = Start q ≡ due_at t
DueBy (ev.Answered q y) t = Ask q ≡ due_at t
DueBy (ev.Redone q y) t = AskAgain q ≡ due_at t
DueBy (ev.Named q) t = Lists ≡ due_at t
DueBy (ev.Listed d y) t = Lists ≡ due_at t
DueBy (ev.Shut d) t = Shuts ≡ due_at t
DueBy e t = Unit {0}

between_due : (ps : List ℕ) (e : Event) (u : Talk) → between ps e ≡ Some u → DueBy e (Between ps)
between_due [] e u h = absurd (cc h)
between_due (q ∷ rest) (ev.OpenFailed x o) u h =
    let a = talk_is (x == q && is_good_opening o) (Between rest) u h in
    ap Start (eqb-true x q (and_parts (x == q) (is_good_opening o) a.0).0)
between_due (q ∷ rest) (ev.Opened d caps) u h = tt
between_due (q ∷ rest) (ev.Claim x a) u h = absurd (cc h)
between_due (q ∷ rest) (ev.Close x a o) u h = absurd (cc h)
between_due (q ∷ rest) (ev.Answered x y) u h = absurd (cc h)
between_due (q ∷ rest) (ev.Named x) u h = absurd (cc h)
between_due (q ∷ rest) (ev.Listed x y) u h = absurd (cc h)
between_due (q ∷ rest) (ev.Redone x y) u h = absurd (cc h)
between_due (q ∷ rest) (ev.HandBack x) u h = absurd (cc h)
between_due (q ∷ rest) (ev.Shut x) u h = absurd (cc h)

refusing_due : (e : Event) (u : Talk) → refusing e ≡ Some u → DueBy e Refusing
refusing_due (ev.Shut d) u h = refl
refusing_due (ev.Answered q y) u h = absurd (cc h)
refusing_due (ev.Named q) u h = absurd (cc h)
refusing_due (ev.Listed d y) u h = absurd (cc h)
refusing_due (ev.Redone q y) u h = absurd (cc h)
refusing_due (ev.Opened d caps) u h = absurd (cc h)
refusing_due (ev.OpenFailed q o) u h = absurd (cc h)
refusing_due (ev.Claim q a) u h = absurd (cc h)
refusing_due (ev.Close q a o) u h = absurd (cc h)
refusing_due (ev.HandBack q) u h = absurd (cc h)

ask_due : (delay any noting : Bool) (late turns ps : List ℕ) (x : ℕ) (y : Reply) (u : Talk) → ask (round delay any noting ps late turns) ps x y ≡ Some u
    → Ask x ≡ due_in any ps turns
ask_due delay any noting late turns [] x y u h = absurd (cc h)
ask_due delay any noting late turns (q ∷ rest) x y u h =
    let r = round delay any noting (q ∷ rest) late turns in
    let a = talk_is (x == q && (is_good_reply y && not (is_delay y && not delay))) (answered r q rest y) u h in
    ap Ask (eqb-true x q (and_parts (x == q) (is_good_reply y && not (is_delay y && not delay)) a.0).0)

again_due : (delay any noting : Bool) (rest late ps : List ℕ) (x : ℕ) (y : Reply) (u : Talk) → ask_again (round delay any noting rest late ps) ps x y ≡ Some u
    → HasTurns (InRound (round delay any noting rest late ps)) → AskAgain x ≡ due_in any rest ps
again_due delay any noting rest late [] x y u h k = absurd (cc h)
again_due delay any noting rest late (q ∷ turns) x y u h k =
    let r = round delay any noting rest late (q ∷ turns) in
    let a = talk_is (not noting && (x == q && (not (is_delay y) && is_good_reply y))) (redone r turns y) u h in
    let b = and_parts (not noting) (x == q && (not (is_delay y) && is_good_reply y)) a.0 in
    let same : x ≡ q = eqb-true x q (and_parts (x == q) (not (is_delay y) && is_good_reply y) b.1).0 in
    let none : rest ≡ [] = empty_is rest (and_parts (is_empty rest) any (no_rest q turns rest any k)).0 in
    rw (none, same) refl

lists_now : (any : Bool) (rest turns : List ℕ) → any ≡ true → rest ≡ [] → turns ≡ [] → Lists ≡ due_in any rest turns
lists_now any rest turns a b c = rw (a, b, c) refl

name_due : (r : Round) (q : ℕ) (u : Talk) → name r q ≡ Some u → r.noting_list ≡ false → Lists ≡ due_in r.any_delayed r.rest r.turns
name_due r q u h none =
    let a = talk_is (r.any_delayed && (is_empty r.rest && (contains q r.late && (r.noting_list || is_empty r.turns)))) (InRound (named r q)) u h in
    let b = and_parts r.any_delayed (is_empty r.rest && (contains q r.late && (r.noting_list || is_empty r.turns))) a.0 in
    let w = and_parts (is_empty r.rest) (contains q r.late && (r.noting_list || is_empty r.turns)) b.1 in
    let v = and_parts (contains q r.late) (r.noting_list || is_empty r.turns) w.1 in
    let t : is_empty r.turns ≡ true = elim (or_cases r.noting_list (is_empty r.turns) v.1) [ inl x ↦ absurd (cc (sym none ∙ x)) | inr x ↦ x ] in
    lists_now r.any_delayed r.rest r.turns b.0 (empty_is r.rest w.0) (empty_is r.turns t)

-- a list ends with its names noted, or with none
list_ends : (r : Round) → (r.any_delayed && (not r.noting_list && (is_empty r.rest && is_empty r.turns))) ≡ true → Lists ≡ due_in r.any_delayed r.rest r.turns
list_ends r h =
    let a = and_parts r.any_delayed (not r.noting_list && (is_empty r.rest && is_empty r.turns)) h in
    let b = and_parts (not r.noting_list) (is_empty r.rest && is_empty r.turns) a.1 in
    let w = and_parts (is_empty r.rest) (is_empty r.turns) b.1 in
    lists_now r.any_delayed r.rest r.turns a.0 (empty_is r.rest w.0) (empty_is r.turns w.1)

list_due : (r : Round) (y : ListReply) → list_may r y ≡ true → r.noting_list ≡ false → Lists ≡ due_in r.any_delayed r.rest r.turns
list_due r (list.Names n) h none = absurd (cc (sym none ∙ (and_parts r.noting_list (n == length r.turns) h).0))
list_due r list.Empty h none = list_ends r h
list_due r list.Abort h none = list_ends r h
list_due r (list.Broken c) h none = list_ends r h
list_due r list.NoMemory h none = list_ends r h

shut_now : (any : Bool) (rest turns : List ℕ) → any ≡ false → rest ≡ [] → (is_empty turns || (is_empty rest && any)) ≡ true → Shuts ≡ due_in any rest turns
shut_now any rest [] a b k = rw (a, b) refl
shut_now any rest (p ∷ turns) a b k = absurd (cc (sym a ∙ (and_parts (is_empty rest) any k).1))

round_due : (r : Round) (e : Event) (u : Talk) → in_session r e ≡ Some u → r.noting_list ≡ false → HasTurns (InRound r) → DueBy e (InRound r)
round_due r (ev.Answered q y) u h none k = ask_due r.delay r.any_delayed r.noting_list r.late r.turns r.rest q y u h
round_due r (ev.Named q) u h none k = name_due r q u h none
round_due r (ev.Listed d y) u h none k = list_due r y (talk_is (list_may r y) (list_end r y) u h).0 none
round_due r (ev.Redone q y) u h none k = again_due r.delay r.any_delayed r.noting_list r.rest r.late r.turns q y u h k
round_due r (ev.Shut d) u h none k =
    let a = talk_is (not r.any_delayed && is_empty r.rest) Ended u h in
    let b = and_parts (not r.any_delayed) (is_empty r.rest) a.0 in
    shut_now r.any_delayed r.rest r.turns (not-true r.any_delayed b.0) (empty_is r.rest b.1) k
round_due r (ev.Opened d caps) u h none k = absurd (cc h)
round_due r (ev.OpenFailed q o) u h none k = absurd (cc h)
round_due r (ev.Claim q a) u h none k = absurd (cc h)
round_due r (ev.Close q a o) u h none k = absurd (cc h)
round_due r (ev.HandBack q) u h none k = absurd (cc h)

next_due : (t : Talk) (e : Event) (u : Talk) → talk_next t e ≡ Some u → NotesNone t → HasTurns t → DueBy e t
next_due (Between ps) e u h none k = between_due ps e u h
next_due Refusing e u h none k = refusing_due e u h
next_due (InRound r) e u h none k = round_due r e u h none k
next_due Ended e u h none k = absurd (cc h)

-- by an exchange

starts_for : (t : Talk) (p : ℕ) (end : Ends Caps) → FitsTalk t (Opening p end) → Start p ≡ due_at t
starts_for (Between []) p end h = absurd h
starts_for (Between (q ∷ rest)) p end h = ap Start h
starts_for Refusing p end h = absurd h
starts_for (InRound r) p end h = absurd h
starts_for Ended p end h = absurd h

due_by : (d : ℕ) (t : Talk) (e : Event) (es : List Event) (u : Talk) → talk_run d t (e ∷ es) ≡ Some u → NotesNone t → HasTurns t → DueBy e t
due_by d t e es u h none k = let s = run_cons d t e es u h in next_due t e s.mid s.step none k

pub due_is : (d : ℕ) (t : Talk) (e : Exchange) (u : Talk) → FitsTalk t e → talk_run d t (notes_of d e) ≡ Some u → NotesNone t → HasTurns t → due_of e ≡ due_at t
due_is d t (NoStart p) u f h none k = due_by d t (ev.OpenFailed p opening.NotStarted) [] u h none k
due_is d t (NoRoom p) u f h none k = due_by d t (ev.OpenFailed p opening.NoMemory) [] u h none k
due_is d t (Opening p end) u f h none k = starts_for t p end f
due_is d t (First p r content) u f h none k = due_by d t (ev.Answered p r) [] u h none k
due_is d t (Listing late [] (list.Names n)) u f h none k = due_by d t (ev.Listed d (list.Names n)) [] u h none k
due_is d t (Listing late (q ∷ names) (list.Names n)) u f h none k =
    due_by d t (ev.Named q) (map ev.Named names ++ ev.Listed d (list.Names n) ∷ []) u h none k
due_is d t (Listing late names list.Empty) u f h none k = due_by d t (ev.Listed d list.Empty) [] u h none k
due_is d t (Listing late names list.Abort) u f h none k = due_by d t (ev.Listed d list.Abort) [] u h none k
due_is d t (Listing late names (list.Broken c)) u f h none k = due_by d t (ev.Listed d (list.Broken c)) [] u h none k
due_is d t (Listing late names list.NoMemory) u f h none k = due_by d t (ev.Listed d list.NoMemory) [] u h none k
due_is d t (Second p r content) u f h none k = due_by d t (ev.Redone p r) [] u h none k
due_is d t Shutting u f h none k = due_by d t (ev.Shut d) [] u h none k
