-- A talk asks for its own paths alone.
use Rattle.std.proofs.Common.{◌≡◌, ◌==◌, ◌&&◌, ℕ, ◌≤◌, Bool, true, false, not, cond}
use Rattle.std.proofs.Common.{List, [], ◌∷◌, ◌++◌, Some, refl, sym, subst, arith}
use Rattle.std.proofs.lemmas.Bool.{eqb-true}
use Rattle.filter_words.specs.declared.reply.Reply.{Reply}
use Rattle.filter_words.specs.declared.reply.Reply.TheVariants as reply
use Rattle.filter_words.specs.declared.reply.ListReply.{ListReply}
use Rattle.filter_words.specs.declared.reply.ListReply.TheVariants as list
use Rattle.delay_table.specs.Table.{contains, without}
use Rattle.checkout_core.specs.declared.event.Event.{Event}
use Rattle.checkout_core.specs.declared.event.Event.TheVariants as ev
use Rattle.checkout_core.specs.Conditions.{is_good_opening}
use Rattle.checkout_core.specs.Talks.{Talk, Between, Refusing, InRound, Ended, Round, opened, between, answered}
use Rattle.checkout_core.specs.Talks.{list_end, list_may, redone, in_session, refusing, talk_next, talk_run, is_empty}
use Rattle.driver_line.specs.Conversations.{Exchange, NoStart, NoRoom, Opening, First, Listing, Second, Shutting}
use Rattle.driver_line.specs.Conversations.{notes_of, LeadsTo}
use Rattle.driver_line.specs.Lines.{Paths}
use Rattle.host_laws.specs.HostTalks.{ArePaths, count_if, times_in}
use Rattle.host_laws.proofs.Counts.{AreAmong, among_tail, some_here, contains_some}
use Rattle.host_laws.proofs.Opened.{AskForPaths}
use Rattle.host_laws.proofs.Rounds.{talk_is, run_cons, one_step, ask_is, again_is, name_is, named_round}

-- the paths of a talk are among those that were asked
pub record AreRoundPaths (asked : List ℕ) (r : Round) : Type 0 where
  pub rest : AreAmong asked r.rest
  pub late : AreAmong asked r.late
  pub turns : AreAmong asked r.turns

abbrev pub ArePathsOf : List ℕ → Talk → Type 0
ArePathsOf asked (Between rest) = AreAmong asked rest
ArePathsOf asked Refusing = Unit {0}
ArePathsOf asked (InRound r) = AreRoundPaths asked r
ArePathsOf asked Ended = Unit {0}

to_talk : (asked : List ℕ) (t u : Talk) → t ≡ u → ArePathsOf asked t → ArePathsOf asked u
to_talk asked t u e h = subst (λ (z : Talk). ArePathsOf asked z) e h

none_among : (asked : List ℕ) → AreAmong asked []
none_among asked p some = absurd (omega (arith, some))

with_head : (asked : List ℕ) (q : ℕ) (xs : List ℕ) → contains q asked ≡ true → AreAmong asked xs
    → AreAmong asked (q ∷ xs)
with_head asked q xs is among p some = one (p == q) refl some
  where
    one : (b : Bool) → (p == q) ≡ b → 1 ≤ count_if b (times_in p xs) → contains p asked ≡ true
    one true e s = subst (λ (z : ℕ). contains z asked ≡ true) (sym (eqb-true p q e)) is
    one false e s = among p s

with_last : (asked : List ℕ) (q : ℕ) (xs : List ℕ) → contains q asked ≡ true → AreAmong asked xs
    → AreAmong asked (xs ++ q ∷ [])
with_last asked q [] is among = with_head asked q [] is among
with_last asked q (x ∷ xs) is among =
    with_head asked x (xs ++ q ∷ []) (among x (some_here x xs)) (with_last asked q xs is (among_tail asked x xs among))

less_among : (asked : List ℕ) (q : ℕ) (xs : List ℕ) → AreAmong asked xs → AreAmong asked (without q xs)
less_among asked q [] among = among
less_among asked q (x ∷ xs) among =
    one (q == x) (less_among asked q xs (among_tail asked x xs among)) (among x (some_here x xs))
  where
    one : (b : Bool) → AreAmong asked (without q xs) → contains x asked ≡ true
        → AreAmong asked (cond b (without q xs) (x ∷ without q xs))
    one true a is = a
    one false a is = with_head asked x (without q xs) is a

head_of : (asked : List ℕ) (q : ℕ) (xs ys : List ℕ) → xs ≡ q ∷ ys → AreAmong asked xs → contains q asked ≡ true
head_of asked q xs ys e a = (subst (λ (z : List ℕ). AreAmong asked z) e a) q (some_here q ys)

tail_of : (asked : List ℕ) (q : ℕ) (xs ys : List ℕ) → xs ≡ q ∷ ys → AreAmong asked xs → AreAmong asked ys
tail_of asked q xs ys e a = among_tail asked q ys (subst (λ (z : List ℕ). AreAmong asked z) e a)

module _ (asked : List ℕ) where
  answered_paths : (r : Round) (p : ℕ) (rest : List ℕ) (y : Reply) → contains p asked ≡ true → AreAmong asked rest
      → AreRoundPaths asked r → ArePathsOf asked (answered r p rest y)
  answered_paths r p rest reply.Content is a k = record { rest = a; late = k.late; turns = k.turns }
  answered_paths r p rest reply.Error is a k = record { rest = a; late = k.late; turns = k.turns }
  answered_paths r p rest reply.ErrorAfter is a k = record { rest = a; late = k.late; turns = k.turns }
  answered_paths r p rest reply.Delayed is a k =
      record { rest = a; late = with_head asked p r.late is k.late; turns = k.turns }
  answered_paths r p rest reply.Abort is a k = tt
  answered_paths r p rest (reply.Broken why) is a k = a
  answered_paths r p rest reply.NoMemory is a k = a

  redone_paths : (r : Round) (turns : List ℕ) (y : Reply) → AreAmong asked turns → AreRoundPaths asked r
      → ArePathsOf asked (redone r turns y)
  redone_paths r turns reply.Content a k = record { rest = k.rest; late = k.late; turns = a }
  redone_paths r turns reply.Error a k = record { rest = k.rest; late = k.late; turns = a }
  redone_paths r turns reply.ErrorAfter a k = record { rest = k.rest; late = k.late; turns = a }
  redone_paths r turns reply.Delayed a k = record { rest = k.rest; late = k.late; turns = a }
  redone_paths r turns reply.Abort a k = tt
  redone_paths r turns (reply.Broken why) a k = k.rest
  redone_paths r turns reply.NoMemory a k = k.rest

  listed_paths : (r : Round) (y : ListReply) → AreRoundPaths asked r → ArePathsOf asked (list_end r y)
  listed_paths r (list.Names n) k = record { rest = k.rest; late = k.late; turns = k.turns }
  listed_paths r list.Empty k = tt
  listed_paths r list.Abort k = tt
  listed_paths r (list.Broken why) k = k.rest
  listed_paths r list.NoMemory k = k.rest

  opened_paths : (b : Bool) (r : Round) → AreRoundPaths asked r → ArePathsOf asked (cond b (InRound r) Refusing)
  opened_paths true r k = k
  opened_paths false r k = tt

  between_paths : (rest : List ℕ) (e : Event) (u : Talk) → between rest e ≡ Some u → AreAmong asked rest
      → ArePathsOf asked u
  between_paths [] e u h a = absurd (cc h)
  between_paths (q ∷ rest) (ev.OpenFailed x o) u h a =
      to_talk asked (Between rest) u (talk_is (x == q && is_good_opening o) (Between rest) u h).1 (among_tail asked q rest a)
  between_paths (q ∷ rest) (ev.Opened d caps) u h a =
      to_talk asked (opened caps (q ∷ rest)) u (cc h)
      (opened_paths caps.smudge _ (record { rest = a; late = none_among asked; turns = none_among asked }))
  between_paths (q ∷ rest) (ev.Claim x y) u h a = absurd (cc h)
  between_paths (q ∷ rest) (ev.Close x y o) u h a = absurd (cc h)
  between_paths (q ∷ rest) (ev.Answered x y) u h a = absurd (cc h)
  between_paths (q ∷ rest) (ev.Named x) u h a = absurd (cc h)
  between_paths (q ∷ rest) (ev.Listed x y) u h a = absurd (cc h)
  between_paths (q ∷ rest) (ev.Redone x y) u h a = absurd (cc h)
  between_paths (q ∷ rest) (ev.HandBack x) u h a = absurd (cc h)
  between_paths (q ∷ rest) (ev.Shut x) u h a = absurd (cc h)

  round_paths : (r : Round) (e : Event) (u : Talk) → in_session r e ≡ Some u → AreRoundPaths asked r → ArePathsOf asked u
  round_paths r (ev.Answered q y) u h k =
      let a = ask_is r r.rest q y u h in
      to_talk asked (answered r q a.0 y) u (sym a.2)
      (answered_paths r q a.0 y (head_of asked q r.rest a.0 a.1 k.rest) (tail_of asked q r.rest a.0 a.1 k.rest) k)
  round_paths r (ev.Named q) u h k =
      let a = name_is r q u h in
      to_talk asked (InRound (named_round r q)) u (sym a.1) (record {
        rest = k.rest;
        late = less_among asked q r.late k.late;
        turns = with_last asked q r.turns (k.late q (contains_some q r.late a.0.late)) k.turns;
      })
  round_paths r (ev.Listed d y) u h k =
      to_talk asked (list_end r y) u (talk_is (list_may r y) (list_end r y) u h).1 (listed_paths r y k)
  round_paths r (ev.Redone q y) u h k =
      let a = again_is r r.turns q y u h in
      to_talk asked (redone r a.0 y) u (sym a.2) (redone_paths r a.0 y (tail_of asked q r.turns a.0 a.1 k.turns) k)
  round_paths r (ev.Shut d) u h k =
      to_talk asked Ended u (talk_is (not r.any_delayed && is_empty r.rest) Ended u h).1 tt
  round_paths r (ev.Opened d caps) u h k = absurd (cc h)
  round_paths r (ev.OpenFailed q o) u h k = absurd (cc h)
  round_paths r (ev.Claim q a) u h k = absurd (cc h)
  round_paths r (ev.Close q a o) u h k = absurd (cc h)
  round_paths r (ev.HandBack q) u h k = absurd (cc h)

  refusing_paths : (e : Event) (u : Talk) → refusing e ≡ Some u → ArePathsOf asked u
  refusing_paths (ev.Shut d) u h = to_talk asked Ended u (cc h) tt
  refusing_paths (ev.Opened d caps) u h = absurd (cc h)
  refusing_paths (ev.OpenFailed q o) u h = absurd (cc h)
  refusing_paths (ev.Claim q a) u h = absurd (cc h)
  refusing_paths (ev.Close q a o) u h = absurd (cc h)
  refusing_paths (ev.Answered q y) u h = absurd (cc h)
  refusing_paths (ev.Named q) u h = absurd (cc h)
  refusing_paths (ev.Listed d y) u h = absurd (cc h)
  refusing_paths (ev.Redone q y) u h = absurd (cc h)
  refusing_paths (ev.HandBack q) u h = absurd (cc h)

  next_paths : (t : Talk) (e : Event) (u : Talk) → talk_next t e ≡ Some u → ArePathsOf asked t → ArePathsOf asked u
  next_paths (Between rest) e u h k = between_paths rest e u h k
  next_paths Refusing e u h k = refusing_paths e u h
  next_paths (InRound r) e u h k = round_paths r e u h k
  next_paths Ended e u h k = absurd (cc h)

  run_paths : (d : ℕ) (es : List Event) (t u : Talk) → talk_run d t es ≡ Some u → ArePathsOf asked t → ArePathsOf asked u
  run_paths d [] t u h k = to_talk asked t u (cc h) k
  run_paths d (e ∷ es) t u h k =
      let s = run_cons d t e es u h in run_paths d es s.mid u s.run (next_paths t e s.mid s.step k)

  first_asked : (t : Talk) (p : ℕ) (y : Reply) (u : Talk) → talk_next t (ev.Answered p y) ≡ Some u → ArePathsOf asked t
      → contains p asked ≡ true
  first_asked (InRound r) p y u h k = let a = ask_is r r.rest p y u h in head_of asked p r.rest a.0 a.1 k.rest
  first_asked (Between []) p y u h k = absurd (cc h)
  first_asked (Between (q ∷ rest)) p y u h k = absurd (cc h)
  first_asked Refusing p y u h k = absurd (cc h)
  first_asked Ended p y u h k = absurd (cc h)

  second_asked : (t : Talk) (p : ℕ) (y : Reply) (u : Talk) → talk_next t (ev.Redone p y) ≡ Some u → ArePathsOf asked t
      → contains p asked ≡ true
  second_asked (InRound r) p y u h k = let a = again_is r r.turns p y u h in head_of asked p r.turns a.0 a.1 k.turns
  second_asked (Between []) p y u h k = absurd (cc h)
  second_asked (Between (q ∷ rest)) p y u h k = absurd (cc h)
  second_asked Refusing p y u h k = absurd (cc h)
  second_asked Ended p y u h k = absurd (cc h)

  pub asks_paths : (paths : Paths) (d : ℕ) (es : List Exchange) (t u : Talk) → ArePaths paths asked → LeadsTo d t es u
      → ArePathsOf asked t → AskForPaths paths es
  asks_paths paths d [] t u fine h k = tt
  asks_paths paths d (First p y c ∷ es) t u fine h k = (
    fine p (first_asked t p y h.0 (one_step d t (ev.Answered p y) h.0 h.2) k),
    asks_paths paths d es h.0 u fine h.3 (run_paths d (ev.Answered p y ∷ []) t h.0 h.2 k),
  )
  asks_paths paths d (Second p y c ∷ es) t u fine h k = (
    fine p (second_asked t p y h.0 (one_step d t (ev.Redone p y) h.0 h.2) k),
    asks_paths paths d es h.0 u fine h.3 (run_paths d (ev.Redone p y ∷ []) t h.0 h.2 k),
  )
  asks_paths paths d (Listing late names y ∷ es) t u fine h k =
      asks_paths paths d es h.0 u fine h.3 (run_paths d (notes_of d (Listing late names y)) t h.0 h.2 k)
  asks_paths paths d (NoStart p ∷ es) t u fine h k =
      asks_paths paths d es h.0 u fine h.3 (run_paths d (notes_of d (NoStart p)) t h.0 h.2 k)
  asks_paths paths d (NoRoom p ∷ es) t u fine h k =
      asks_paths paths d es h.0 u fine h.3 (run_paths d (notes_of d (NoRoom p)) t h.0 h.2 k)
  asks_paths paths d (Opening p end ∷ es) t u fine h k =
      asks_paths paths d es h.0 u fine h.3 (run_paths d (notes_of d (Opening p end)) t h.0 h.2 k)
  asks_paths paths d (Shutting ∷ es) t u fine h k =
      asks_paths paths d es h.0 u fine h.3 (run_paths d (notes_of d Shutting) t h.0 h.2 k)
