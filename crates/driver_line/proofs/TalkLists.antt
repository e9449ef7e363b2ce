-- The lists of a talk, and where it ends.
use Rattle.std.proofs.Common.{◌≡◌, ◌==◌, ◌&&◌, ◌||◌, ℕ, Bool, true, false, not, cond}
use Rattle.std.proofs.Common.{List, [], ◌∷◌, ◌++◌, length, map, Some, refl, sym, ap, subst, ◌∙◌}
use Rattle.std.proofs.lemmas.Bool.{and_parts, eqb-true}
use Rattle.filter_words.specs.declared.reply.Reply.{Reply}
use Rattle.filter_words.specs.declared.reply.Reply.TheVariants as reply
use Rattle.filter_words.specs.declared.reply.ListReply.{ListReply}
use Rattle.filter_words.specs.declared.reply.ListReply.TheVariants as list
use Rattle.filter_words.specs.declared.reply.Caps.{Caps}
use Rattle.delay_table.specs.Table.{contains, without}
use Rattle.filter_proto.specs.Exchanges.{Good, Broke, OutOfMemory}
use Rattle.checkout_core.specs.declared.event.Event.{Event}
use Rattle.checkout_core.specs.declared.event.Event.TheVariants as ev
use Rattle.checkout_core.specs.declared.event.OpenCause.TheVariants as opening
use Rattle.checkout_core.specs.Conditions.{is_delay, is_good_reply, is_good_opening}
use Rattle.checkout_core.specs.Talks.{Talk, Between, Refusing, InRound, Ended, Round, is_empty, opened}
use Rattle.checkout_core.specs.Talks.{between, answered, ask, list_end, list_may, redone, ask_again, in_session}
use Rattle.checkout_core.specs.Talks.{talk_next, talk_run, IsOver}
use Rattle.driver_line.specs.Conversations.{Exchange, NoStart, NoRoom, Opening, First, Listing, Second, Shutting}
use Rattle.driver_line.specs.Conversations.{notes_of, LeadsTo, late_of}
use Rattle.driver_line.proofs.TalkFates.{talk_is, run_cons, named}
use Rattle.driver_line.proofs.TalkDue.{Lists, Nothing, due_of, due_in, due_at, due_is}
use Rattle.driver_line.proofs.TalkDue.{NotesNone, HasTurns, to_none, refusing_ends}

-- no list is being noted where an exchange ends

opened_none : (caps : Caps) (s : Bool) (rest : List ℕ) → caps.smudge ≡ s → NotesNone (opened caps rest)
opened_none caps true rest e = rw e refl
opened_none caps false rest e = rw e tt

answered_none : (r : Round) (p : ℕ) (rest : List ℕ) (y : Reply) → r.noting_list ≡ false → NotesNone (answered r p rest y)
answered_none r p rest reply.Content e = e
answered_none r p rest reply.Error e = e
answered_none r p rest reply.ErrorAfter e = e
answered_none r p rest reply.Delayed e = e
answered_none r p rest reply.Abort e = tt
answered_none r p rest (reply.Broken c) e = tt
answered_none r p rest reply.NoMemory e = tt

redone_none : (r : Round) (turns : List ℕ) (y : Reply) → r.noting_list ≡ false → NotesNone (redone r turns y)
redone_none r turns reply.Content e = e
redone_none r turns reply.Error e = e
redone_none r turns reply.ErrorAfter e = e
redone_none r turns reply.Delayed e = e
redone_none r turns reply.Abort e = tt
redone_none r turns (reply.Broken c) e = tt
redone_none r turns reply.NoMemory e = tt

end_none : (r : Round) (y : ListReply) → NotesNone (list_end r y)
end_none r (list.Names n) = refl
end_none r list.Empty = tt
end_none r list.Abort = tt
end_none r (list.Broken c) = tt
end_none r list.NoMemory = tt

ask_none : (r : Round) (ps : List ℕ) (x : ℕ) (y : Reply) (u : Talk) → ask r ps x y ≡ Some u → r.noting_list ≡ false → NotesNone u
ask_none r [] x y u h e = absurd (cc h)
ask_none r (q ∷ rest) x y u h e =
    to_none (answered r q rest y) u (talk_is (x == q && (is_good_reply y && not (is_delay y && not r.delay))) (answered r q rest y) u h).1 (answered_none r q rest y e)

again_none : (r : Round) (ps : List ℕ) (x : ℕ) (y : Reply) (u : Talk) → ask_again r ps x y ≡ Some u → r.noting_list ≡ false → NotesNone u
again_none r [] x y u h e = absurd (cc h)
again_none r (q ∷ turns) x y u h e =
    to_none (redone r turns y) u (talk_is (not r.noting_list && (x == q && (not (is_delay y) && is_good_reply y))) (redone r turns y) u h).1 (redone_none r turns y e)

-- by a note, but for a name
abbrev IsNoName : Event → Type 0
IsNoName (ev.Named q) = ⊥
IsNoName e = Unit {0}

between_none : (ps : List ℕ) (e : Event) (u : Talk) → between ps e ≡ Some u → NotesNone u
between_none [] e u h = absurd (cc h)
between_none (q ∷ rest) (ev.OpenFailed x o) u h = to_none (Between rest) u (talk_is (x == q && is_good_opening o) (Between rest) u h).1 tt
between_none (q ∷ rest) (ev.Opened d caps) u h = to_none (opened caps (q ∷ rest)) u (cc h) (opened_none caps caps.smudge (q ∷ rest) refl)
between_none (q ∷ rest) (ev.Claim x a) u h = absurd (cc h)
between_none (q ∷ rest) (ev.Close x a o) u h = absurd (cc h)
between_none (q ∷ rest) (ev.Answered x y) u h = absurd (cc h)
between_none (q ∷ rest) (ev.Named x) u h = absurd (cc h)
between_none (q ∷ rest) (ev.Listed x y) u h = absurd (cc h)
between_none (q ∷ rest) (ev.Redone x y) u h = absurd (cc h)
between_none (q ∷ rest) (ev.HandBack x) u h = absurd (cc h)
between_none (q ∷ rest) (ev.Shut x) u h = absurd (cc h)

round_none : (r : Round) (e : Event) (u : Talk) → IsNoName e → in_session r e ≡ Some u → r.noting_list ≡ false → NotesNone u
round_none r (ev.Answered q y) u i h e = ask_none r r.rest q y u h e
round_none r (ev.Named q) u i h e = absurd i
round_none r (ev.Listed d y) u i h e = to_none (list_end r y) u (talk_is (list_may r y) (list_end r y) u h).1 (end_none r y)
round_none r (ev.Redone q y) u i h e = again_none r r.turns q y u h e
round_none r (ev.Shut d) u i h e = to_none Ended u (talk_is (not r.any_delayed && is_empty r.rest) Ended u h).1 tt
round_none r (ev.Opened d caps) u i h e = absurd (cc h)
round_none r (ev.OpenFailed q o) u i h e = absurd (cc h)
round_none r (ev.Claim q a) u i h e = absurd (cc h)
round_none r (ev.Close q a o) u i h e = absurd (cc h)
round_none r (ev.HandBack q) u i h e = absurd (cc h)

next_none : (t : Talk) (e : Event) (u : Talk) → IsNoName e → talk_next t e ≡ Some u → NotesNone t → NotesNone u
next_none (Between ps) e u i h k = between_none ps e u h
next_none Refusing e u i h k = to_none Ended u (refusing_ends e u h) tt
next_none (InRound r) e u i h k = round_none r e u i h k
next_none Ended e u i h k = absurd (cc h)

one_none : (d : ℕ) (t : Talk) (e : Event) (u : Talk) → IsNoName e → talk_run d t (e ∷ []) ≡ Some u → NotesNone t → NotesNone u
one_none d t e u i h k =
    let s = run_cons d t e [] u h in
    let r = s.run in
    to_none s.mid u (cc r) (next_none t e s.mid i s.step k)

listed_none : (t : Talk) (d : ℕ) (y : ListReply) (u : Talk) → talk_next t (ev.Listed d y) ≡ Some u → NotesNone u
listed_none (Between []) d y u h = absurd (cc h)
listed_none (Between (q ∷ rest)) d y u h = absurd (cc h)
listed_none Refusing d y u h = absurd (cc h)
listed_none (InRound r) d y u h = to_none (list_end r y) u (talk_is (list_may r y) (list_end r y) u h).1 (end_none r y)
listed_none Ended d y u h = absurd (cc h)

names_none : (d : ℕ) (t : Talk) (names : List ℕ) (n : ℕ) (u : Talk) → talk_run d t (map ev.Named names ++ ev.Listed d (list.Names n) ∷ []) ≡ Some u → NotesNone u
names_none d t [] n u h =
    let s = run_cons d t (ev.Listed d (list.Names n)) [] u h in
    let r = s.run in
    to_none s.mid u (cc r) (listed_none t d (list.Names n) s.mid s.step)
names_none d t (q ∷ names) n u h = let s = run_cons d t (ev.Named q) (map ev.Named names ++ ev.Listed d (list.Names n) ∷ []) u h in names_none d s.mid names n u s.run

pub none_after : (d : ℕ) (t : Talk) (e : Exchange) (u : Talk) → talk_run d t (notes_of d e) ≡ Some u → NotesNone t → NotesNone u
none_after d t (NoStart p) u h k = one_none d t (ev.OpenFailed p opening.NotStarted) u tt h k
none_after d t (NoRoom p) u h k = one_none d t (ev.OpenFailed p opening.NoMemory) u tt h k
none_after d t (Opening p (Good caps)) u h k = one_none d t (ev.Opened d caps) u tt h k
none_after d t (Opening p (Broke c)) u h k = one_none d t (ev.OpenFailed p (opening.Broken c)) u tt h k
none_after d t (Opening p OutOfMemory) u h k = one_none d t (ev.OpenFailed p opening.NoMemory) u tt h k
none_after d t (First p r content) u h k = one_none d t (ev.Answered p r) u tt h k
none_after d t (Listing late names (list.Names n)) u h k = names_none d t names n u h
none_after d t (Listing late names list.Empty) u h k = one_none d t (ev.Listed d list.Empty) u tt h k
none_after d t (Listing late names list.Abort) u h k = one_none d t (ev.Listed d list.Abort) u tt h k
none_after d t (Listing late names (list.Broken c)) u h k = one_none d t (ev.Listed d (list.Broken c)) u tt h k
none_after d t (Listing late names list.NoMemory) u h k = one_none d t (ev.Listed d list.NoMemory) u tt h k
none_after d t (Second p r content) u h k = one_none d t (ev.Redone p r) u tt h k
none_after d t Shutting u h k = one_none d t (ev.Shut d) u tt h k

-- the names of a list

abbrev pub AllIn : List ℕ → List ℕ → Type 0
AllIn late [] = Unit {0}
AllIn late (q ∷ qs) = (contains q late ≡ true) × AllIn late qs

pub or_there : (c d : Bool) → d ≡ true → cond c true d ≡ true
or_there true d e = refl
or_there false d e = e

or_more : (c d e : Bool) → cond c true d ≡ true → (d ≡ true → e ≡ true) → cond c true e ≡ true
or_more true d e h f = refl
or_more false d e h f = f h

contains_without : (x q : ℕ) (ps : List ℕ) → contains x (without q ps) ≡ true → contains x ps ≡ true
contains_without x q [] h = h
contains_without x q (p ∷ ps) h = go (q == p) h (contains_without x q ps)
  where
    go : (b : Bool) → contains x (cond b (without q ps) (p ∷ without q ps)) ≡ true → (contains x (without q ps) ≡ true → contains x ps ≡ true)
        → cond (x == p) true (contains x ps) ≡ true
    go true i f = or_there (x == p) (contains x ps) (f i)
    go false i f = or_more (x == p) (contains x (without q ps)) (contains x ps) i f

all_less : (q : ℕ) (late names : List ℕ) → AllIn (without q late) names → AllIn late names
all_less q late [] h = tt
all_less q late (n ∷ ns) h = (contains_without n q late h.0, all_less q late ns h.1)

-- a name comes in a session alone, and is late
pub record IsNaming (t : Talk) (q : ℕ) (u : Talk) : Type 0 where
  pub round : Round
  pub here : t ≡ InRound round
  pub late : contains q round.late ≡ true
  pub after : InRound (named round q) ≡ u

naming : (t : Talk) (q : ℕ) (u : Talk) → talk_next t (ev.Named q) ≡ Some u → IsNaming t q u
naming (Between []) q u h = absurd (cc h)
naming (Between (p ∷ rest)) q u h = absurd (cc h)
naming Refusing q u h = absurd (cc h)
naming (InRound r) q u h =
    let a = talk_is (r.any_delayed && (is_empty r.rest && (contains q r.late && (r.noting_list || is_empty r.turns)))) (InRound (named r q)) u h in
    let b = and_parts r.any_delayed (is_empty r.rest && (contains q r.late && (r.noting_list || is_empty r.turns))) a.0 in
    let w = and_parts (is_empty r.rest) (contains q r.late && (r.noting_list || is_empty r.turns)) b.1 in
    let v = and_parts (contains q r.late) (r.noting_list || is_empty r.turns) w.1 in
    record { round = r; here = refl; late = v.0; after = a.1 }
naming Ended q u h = absurd (cc h)

abbrev pub name_notes : ℕ → List ℕ → ℕ → List Event
name_notes d names n = map ev.Named names ++ ev.Listed d (list.Names n) ∷ []

pub names_late : (d : ℕ) (t : Talk) (names : List ℕ) (n : ℕ) (u : Talk) → talk_run d t (name_notes d names n) ≡ Some u → AllIn (late_of t) names
names_late d t [] n u h = tt
names_late d t (q ∷ names) n u h =
    let s = run_cons d t (ev.Named q) (name_notes d names n) u h in
    let k = naming t q s.mid s.step in
    let more : AllIn (late_of s.mid) names = names_late d s.mid names n u s.run in
    let rest : AllIn (without q k.round.late) names = subst (λ (z : Talk). AllIn (late_of z) names) (sym k.after) more in
    subst (λ (z : Talk). AllIn (late_of z) (q ∷ names)) (sym k.here) (k.late, all_less q k.round.late names rest)

-- how many are named
listed_count : (t : Talk) (d n : ℕ) (u : Talk) → talk_next t (ev.Listed d (list.Names n)) ≡ Some u → (r : Round) × (t ≡ InRound r) × (n ≡ length r.turns) × (r.noting_list ≡ true)
listed_count (Between []) d n u h = absurd (cc h)
listed_count (Between (p ∷ rest)) d n u h = absurd (cc h)
listed_count Refusing d n u h = absurd (cc h)
listed_count (InRound r) d n u h =
    let a = talk_is (list_may r (list.Names n)) (list_end r (list.Names n)) u h in
    let b = and_parts r.noting_list (n == length r.turns) a.0 in
    (r, refl, eqb-true n (length r.turns) b.1, b.0)
listed_count Ended d n u h = absurd (cc h)

pub same_count : (d : ℕ) (t : Talk) (names : List ℕ) (m n : ℕ) (u v : Talk) → talk_run d t (name_notes d names m) ≡ Some u → talk_run d t (name_notes d names n) ≡ Some v → m ≡ n
same_count d t [] m n u v h k =
    let a = run_cons d t (ev.Listed d (list.Names m)) [] u h in
    let b = run_cons d t (ev.Listed d (list.Names n)) [] v k in
    let x = listed_count t d m a.mid a.step in
    let y = listed_count t d n b.mid b.step in
    let one : InRound x.0 ≡ InRound y.0 = sym x.1 ∙ y.1 in
    let same : x.0 ≡ y.0 = cc one in
    x.2 ∙ (ap (λ (r : Round). length r.turns) same ∙ sym y.2)
same_count d t (q ∷ names) m n u v h k =
    let a = run_cons d t (ev.Named q) (name_notes d names m) u h in
    let b = run_cons d t (ev.Named q) (name_notes d names n) v k in
    let i = a.step in
    let j = b.step in
    let same : b.mid ≡ a.mid = cc (sym j ∙ i) in
    same_count d a.mid names m n u v a.run (subst (λ (z : Talk). talk_run d z (name_notes d names n) ≡ Some v) same b.run)

-- a list that names paths names one at least
pub names_some : (d : ℕ) (t : Talk) (n : ℕ) (u : Talk) → NotesNone t → talk_run d t (name_notes d [] n) ≡ Some u → ⊥
names_some d t n u none h =
    let a = run_cons d t (ev.Listed d (list.Names n)) [] u h in
    let x = listed_count t d n a.mid a.step in
    let quiet : NotesNone (InRound x.0) = subst NotesNone x.1 none in
    absurd (cc (sym quiet ∙ x.3))

-- where a talk ends

pub over_nothing : (t : Talk) → IsOver t → due_at t ≡ Nothing
over_nothing (Between []) h = refl
over_nothing (Between (p ∷ rest)) h = absurd h
over_nothing Refusing h = absurd h
over_nothing (InRound r) h = absurd h
over_nothing Ended h = refl

something_due : (any : Bool) (rest turns : List ℕ) → due_in any rest turns ≡ Nothing → ⊥
something_due any (p ∷ rest) turns e = absurd (cc e)
something_due any [] (p ∷ turns) e = absurd (cc e)
something_due true [] [] e = absurd (cc e)
something_due false [] [] e = absurd (cc e)

ended_none : (t : Talk) → due_at t ≡ Nothing → NotesNone t
ended_none (Between rest) e = tt
ended_none Refusing e = tt
ended_none (InRound r) e = absurd (something_due r.any_delayed r.rest r.turns e)
ended_none Ended e = tt

ended_turns : (t : Talk) → due_at t ≡ Nothing → HasTurns t
ended_turns (Between rest) e = tt
ended_turns Refusing e = tt
ended_turns (InRound r) e = absurd (something_due r.any_delayed r.rest r.turns e)
ended_turns Ended e = tt

pub never_nothing : (e : Exchange) → due_of e ≡ Nothing → ⊥
never_nothing (NoStart p) h = absurd (cc h)
never_nothing (NoRoom p) h = absurd (cc h)
never_nothing (Opening p end) h = absurd (cc h)
never_nothing (First p r content) h = absurd (cc h)
never_nothing (Listing late names r) h = absurd (cc h)
never_nothing (Second p r content) h = absurd (cc h)
never_nothing Shutting h = absurd (cc h)

-- nothing follows
pub nothing_more : (d : ℕ) (t : Talk) (es : List Exchange) (u : Talk) → due_at t ≡ Nothing → LeadsTo d t es u → es ≡ []
nothing_more d t [] u h l = refl
nothing_more d t (e ∷ es) u h l =
    absurd (never_nothing e (due_is d t e l.0 l.1 l.2 (ended_none t h) (ended_turns t h) ∙ h))

-- a list while no path is late is the last exchange

lists_in : (any : Bool) (rest turns : List ℕ) → due_in any rest turns ≡ Lists → (rest ≡ []) × (turns ≡ [])
lists_in any (p ∷ rest) turns e = absurd (cc e)
lists_in any [] (p ∷ turns) e = absurd (cc e)
lists_in any [] [] e = (refl, refl)

pub record IsListDue (t : Talk) : Type 0 where
  pub round : Round
  pub here : t ≡ InRound round
  pub rest : round.rest ≡ []
  pub turns : round.turns ≡ []

pub lists_at : (t : Talk) → due_at t ≡ Lists → IsListDue t
lists_at (Between []) e = absurd (cc e)
lists_at (Between (p ∷ rest)) e = absurd (cc e)
lists_at Refusing e = absurd (cc e)
lists_at (InRound r) e = let k = lists_in r.any_delayed r.rest r.turns e in record { round = r; here = refl; rest = k.0; turns = k.1 }
lists_at Ended e = absurd (cc e)

end_over : (r : Round) (y : ListReply) (u : Talk) → r.rest ≡ [] → ((n : ℕ) → y ≡ list.Names n → ⊥) → list_end r y ≡ u → due_at u ≡ Nothing
end_over r (list.Names n) u e f h = absurd (f n refl)
end_over r list.Empty u e f h = ap due_at (sym h)
end_over r list.Abort u e f h = ap due_at (sym h)
end_over r (list.Broken c) u e f h = ap due_at (sym h) ∙ ap (λ (ps : List ℕ). due_at (Between ps)) e
end_over r list.NoMemory u e f h = ap due_at (sym h) ∙ ap (λ (ps : List ℕ). due_at (Between ps)) e

listed_over : (d : ℕ) (t : Talk) (y : ListReply) (u : Talk) → due_at t ≡ Lists → ((n : ℕ) → y ≡ list.Names n → ⊥) → talk_run d t (ev.Listed d y ∷ []) ≡ Some u → due_at u ≡ Nothing
listed_over d t y u due f h =
    let k = lists_at t due in
    let s = run_cons d t (ev.Listed d y) [] u h in
    let r = s.run in
    let last : s.mid ≡ u = cc r in
    let step : talk_next (InRound k.round) (ev.Listed d y) ≡ Some s.mid = subst (λ (z : Talk). talk_next z (ev.Listed d y) ≡ Some s.mid) k.here s.step in
    end_over k.round y u k.rest f ((talk_is (list_may k.round y) (list_end k.round y) s.mid step).1 ∙ last)

pub last_list : (d : ℕ) (t : Talk) (late names : List ℕ) (y : ListReply) (u : Talk) → NotesNone t → due_at t ≡ Lists → late_of t ≡ [] → talk_run d t (notes_of d (Listing late names y)) ≡ Some u
    → due_at u ≡ Nothing
last_list d t late [] (list.Names n) u none due empty h = absurd (names_some d t n u none h)
last_list d t late (q ∷ names) (list.Names n) u none due empty h =
    let k = names_late d t (q ∷ names) n u h in
    let bad : contains q [] ≡ true = subst (λ (z : List ℕ). contains q z ≡ true) empty k.0 in
    absurd (cc bad)
last_list d t late names list.Empty u none due empty h = listed_over d t list.Empty u due (λ n e. absurd (cc e)) h
last_list d t late names list.Abort u none due empty h = listed_over d t list.Abort u due (λ n e. absurd (cc e)) h
last_list d t late names (list.Broken c) u none due empty h = listed_over d t (list.Broken c) u due (λ n e. absurd (cc e)) h
last_list d t late names list.NoMemory u none due empty h = listed_over d t list.NoMemory u due (λ n e. absurd (cc e)) h
