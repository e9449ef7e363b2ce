-- What the notes of a talk tell of its paths, by where the talk stands.
use Rattle.std.proofs.Common.{◌≡◌, ◌==◌, ◌&&◌, ◌||◌, ℕ, zero, suc, ◌+◌, Bool, true, false, not, cond}
use Rattle.std.proofs.Common.{List, [], ◌∷◌, ◌++◌, Option, Some, None, refl, sym, ap, subst, ◌∙◌, arith}
use Rattle.std.proofs.lemmas.Bool.{and_parts, eqb-true, not-true}
use Rattle.filter_words.specs.declared.reply.Reply.{Reply}
use Rattle.filter_words.specs.declared.reply.Reply.TheVariants as reply
use Rattle.filter_words.specs.declared.reply.ListReply.{ListReply}
use Rattle.filter_words.specs.declared.reply.ListReply.TheVariants as list
use Rattle.filter_words.specs.declared.reply.Caps.{Caps}
use Rattle.delay_table.specs.Table.{contains, without}
use Rattle.checkout_core.specs.declared.event.Event.{Event}
use Rattle.checkout_core.specs.declared.event.Event.TheVariants as ev
use Rattle.checkout_core.specs.declared.path.Heard.{Heard}
use Rattle.checkout_core.specs.Conditions.{is_delay, is_good_reply, is_good_opening}
use Rattle.checkout_core.specs.Fates.{Fate, Untold, Later, Known, fate_of, fate_after}
use Rattle.checkout_core.specs.Talks.{Talk, Between, Refusing, InRound, Ended, Round, is_empty, opened}
use Rattle.checkout_core.specs.Talks.{between, answered, ask, name, list_end, list_may, redone, ask_again, in_session}
use Rattle.checkout_core.specs.Talks.{refusing, talk_next, is_with, talk_step, talk_run}

-- one note after another

pub talk_is : (b : Bool) (t u : Talk) → cond b (Some t) None ≡ Some u → (b ≡ true) × (t ≡ u)
talk_is true t u e = (refl, cc)
talk_is false t u e = absurd (cc e)

pub record StepsTo (d : ℕ) (t : Talk) (e : Event) (es : List Event) (u : Talk) : Type 0 where
  pub mid : Talk
  pub step : talk_next t e ≡ Some mid
  pub run : talk_run d mid es ≡ Some u

pub run_cons : (d : ℕ) (t : Talk) (e : Event) (es : List Event) (u : Talk) → talk_run d t (e ∷ es) ≡ Some u → StepsTo d t e es u
run_cons d t e es u h = go (talk_step d t e) refl h
  where
    plain : (b : Bool) (m : Talk) → cond b (talk_next t e) None ≡ Some m → talk_next t e ≡ Some m
    plain true m i = i
    plain false m i = absurd (cc i)

    go : (o : Option Talk) → talk_step d t e ≡ o → elim o [ None ↦ None | Some m ↦ talk_run d m es ] ≡ Some u → StepsTo d t e es u
    go None same i = absurd (cc i)
    go (Some m) same i = record { mid = m; step = plain (is_with d e) m same; run = i }

pub empty_is : (ps : List ℕ) → is_empty ps ≡ true → ps ≡ []
empty_is [] h = refl
empty_is (p ∷ ps) h = absurd (cc h)

-- what a talk owes its paths

abbrev pub count : ℕ → List ℕ → ℕ
count p [] = 0
count p (q ∷ qs) = cond (p == q) 1 0 + count p qs

abbrev pub first_due : Fate → ℕ
first_due Untold = 1
first_due Later = 0
first_due (Known h) = 0

abbrev pub second_due : Fate → ℕ
second_due Untold = 0
second_due Later = 1
second_due (Known h) = 0

-- The path stands once among those that weren't asked for if nothing is told of it, and once among those that were delayed
-- if it is to be told later.
abbrev pub Fits : Talk → ℕ → Fate → Type 0
Fits (Between rest) p f = (count p rest ≡ first_due f) × (second_due f ≡ 0)
Fits (InRound r) p f = (count p r.rest ≡ first_due f) × (count p r.late + count p r.turns ≡ second_due f)
Fits Refusing p f = Unit {0}
Fits Ended p f = Unit {0}

count_more : (p : ℕ) (xs ys : List ℕ) → count p (xs ++ ys) ≡ count p xs + count p ys
count_more p [] ys = omega arith
count_more p (x ∷ xs) ys = let h = count_more p xs ys in omega (arith, h)

count_without_same : (b : Bool) (p q : ℕ) (qs : List ℕ) → (p == q) ≡ b → (q == p) ≡ b → count p (without q qs) ≡ cond b 0 (count p qs)
count_without_same true p q [] e i = refl
count_without_same false p q [] e i = refl
count_without_same b p q (x ∷ xs) e i = go b (q == x) (p == x) refl refl e (count_without_same b p q xs e i)
  where
    go : (b c g : Bool) → (q == x) ≡ c → (p == x) ≡ g → (p == q) ≡ b → count p (without q xs) ≡ cond b 0 (count p xs)
        → count p (cond c (without q xs) (x ∷ without q xs)) ≡ cond b 0 (cond g 1 0 + count p xs)
    go true true g m n k h = h
    go true false true m n k h =
        let a : p ≡ q = eqb-true p q k in
        let w : p ≡ x = eqb-true p x n in
        absurd (cc (sym m ∙ ap (λ (z : ℕ). z == x) (sym a) ∙ n))
    go true false false m n k h = (rw n (omega (arith, h)))
    go false true true m n k h =
        let a : q ≡ x = eqb-true q x m in
        absurd (cc (sym k ∙ (ap (λ (z : ℕ). p == z) a ∙ n)))
    go false true false m n k h = omega (arith, h)
    go false false true m n k h = rw n (omega (arith, h))
    go false false false m n k h = rw n (omega (arith, h))

same_eq : (b : Bool) (p q : ℕ) → (p == q) ≡ b → (q == p) ≡ b
same_eq true p q e = let a : p ≡ q = eqb-true p q e in subst (λ (z : ℕ). (z == p) ≡ true) a (subst (λ (z : ℕ). (p == z) ≡ true) (sym a) e)
same_eq false p q e = go (q == p) refl
  where
    go : (b : Bool) → (q == p) ≡ b → (q == p) ≡ false
    go false i = i
    go true i =
        let a : q ≡ p = eqb-true q p i in
        absurd (cc (sym e ∙ (ap (λ (z : ℕ). z == q) (sym a) ∙ (ap (λ (z : ℕ). q == z) a ∙ i))))

pub contains_counts : (q : ℕ) (qs : List ℕ) → contains q qs ≡ true → (n : ℕ) × (count q qs ≡ suc n)
contains_counts q [] h = absurd (cc h)
contains_counts q (x ∷ xs) h = go (q == x) h (contains_counts q xs)
  where
    go : (b : Bool) → cond b true (contains q xs) ≡ true → (contains q xs ≡ true → (n : ℕ) × (count q xs ≡ suc n)) → (n : ℕ) × (cond b 1 0 + count q xs ≡ suc n)
    go true i f = (count q xs, omega arith)
    go false i f = let k = f i in (k.0, let e = k.1 in omega (arith, e))

to_fit : (t u : Talk) (p : ℕ) (f : Fate) → t ≡ u → Fits t p f → Fits u p f
to_fit t u p f e h = subst (λ (z : Talk). Fits z p f) e h

-- a start that failed

failed_fits : (b : Bool) (p : ℕ) (rest : List ℕ) (k : Heard) (f : Fate) → (cond b 1 0 + count p rest ≡ first_due f) × (second_due f ≡ 0)
    → Fits (Between rest) p (elim f [ Untold ↦ cond b (Known k) Untold | Later ↦ cond b (Known k) Later | Known h ↦ Known h ])
failed_fits true p rest k Untold h = (omega arith, refl)
failed_fits false p rest k Untold h = (omega arith, refl)
failed_fits b p rest k Later h = let e = h.1 in absurd (omega (arith, e))
failed_fits b p rest k (Known w) h = (go b h.0, refl)
  where
    go : (b : Bool) → cond b 1 0 + count p rest ≡ 0 → count p rest ≡ 0
    go true e = absurd (omega (arith, e))
    go false e = omega (arith, e)

-- a session that was opened
opened_fits : (s : Bool) (caps : Caps) (p q : ℕ) (rest : List ℕ) (f : Fate) → caps.smudge ≡ s → Fits (Between (q ∷ rest)) p f
    → Fits (opened caps (q ∷ rest)) p (fate_after p f (ev.Opened zero caps))
opened_fits true caps p q rest Untold e h = rw e (h.0, let k = h.1 in omega (arith, k))
opened_fits true caps p q rest Later e h = let k = h.1 in absurd (omega (arith, k))
opened_fits true caps p q rest (Known w) e h = rw e (h.0, omega arith)
opened_fits false caps p q rest f e h = rw e tt

between_fits : (ps : List ℕ) (e : Event) (u : Talk) (p : ℕ) (f : Fate) → between ps e ≡ Some u → Fits (Between ps) p f → Fits u p (fate_after p f e)
between_fits [] e u p f h k = absurd (cc h)
between_fits (q ∷ rest) (ev.OpenFailed x o) u p f h k =
    let a = talk_is (x == q && is_good_opening o) (Between rest) u h in
    let b = and_parts (x == q) (is_good_opening o) a.0 in
    let same : x ≡ q = eqb-true x q b.0 in
    to_fit (Between rest) u p (fate_after p f (ev.OpenFailed x o)) a.1 (go f same k)
  where
    go : (f : Fate) → x ≡ q → Fits (Between (q ∷ rest)) p f → Fits (Between rest) p (fate_after p f (ev.OpenFailed x o))
    go Untold same k = subst (λ (z : ℕ). Fits (Between rest) p (fate_after p Untold (ev.OpenFailed z o))) (sym same) (failed_fits (p == q) p rest _ Untold k)
    go Later same k = let e = k.1 in absurd (omega (arith, e))
    go (Known w) same k = failed_fits (p == q) p rest w (Known w) k
between_fits (q ∷ rest) (ev.Opened d caps) u p f h k =
    let a : opened caps (q ∷ rest) ≡ u = cc h in
    to_fit (opened caps (q ∷ rest)) u p (fate_after p f (ev.Opened d caps)) a (go f (opened_fits caps.smudge caps p q rest f refl k))
  where
    go : (f : Fate) → Fits (opened caps (q ∷ rest)) p (fate_after p f (ev.Opened zero caps)) → Fits (opened caps (q ∷ rest)) p (fate_after p f (ev.Opened d caps))
    go Untold i = i
    go Later i = i
    go (Known w) i = i
between_fits (q ∷ rest) (ev.Claim x a) u p f h k = absurd (cc h)
between_fits (q ∷ rest) (ev.Close x a o) u p f h k = absurd (cc h)
between_fits (q ∷ rest) (ev.Answered x y) u p f h k = absurd (cc h)
between_fits (q ∷ rest) (ev.Named x) u p f h k = absurd (cc h)
between_fits (q ∷ rest) (ev.Listed x y) u p f h k = absurd (cc h)
between_fits (q ∷ rest) (ev.Redone x y) u p f h k = absurd (cc h)
between_fits (q ∷ rest) (ev.HandBack x) u p f h k = absurd (cc h)
between_fits (q ∷ rest) (ev.Shut x) u p f h k = absurd (cc h)

-- a first request for the first of these
module _ (delay any noting : Bool) (late turns : List ℕ) where
  abbrev asking : List ℕ → Round
  asking rest = record { delay = delay; any_delayed = any; noting_list = noting; rest = rest; late = late; turns = turns }

  answer_untold : (b : Bool) (p q : ℕ) (rest : List ℕ) (y : Reply) → (p == q) ≡ b → (cond b 1 0 + count p rest ≡ 1) × (count p late + count p turns ≡ 0)
      → Fits (answered (asking (q ∷ rest)) q rest y) p (fate_after p Untold (ev.Answered q y))
  answer_untold true p q rest reply.Content e h = rw e (omega arith, h.1)
  answer_untold true p q rest reply.Error e h = rw e (omega arith, h.1)
  answer_untold true p q rest reply.ErrorAfter e h = rw e (omega arith, h.1)
  answer_untold true p q rest reply.Delayed e h = rw e (omega arith, omega arith)
  answer_untold true p q rest reply.Abort e h = tt
  answer_untold true p q rest (reply.Broken c) e h = rw e (omega arith, refl)
  answer_untold true p q rest reply.NoMemory e h = rw e (omega arith, refl)
  answer_untold false p q rest reply.Content e h = rw e (omega arith, h.1)
  answer_untold false p q rest reply.Error e h = rw e (omega arith, h.1)
  answer_untold false p q rest reply.ErrorAfter e h = rw e (omega arith, h.1)
  answer_untold false p q rest reply.Delayed e h = rw e (omega arith, omega arith)
  answer_untold false p q rest reply.Abort e h = tt
  answer_untold false p q rest (reply.Broken c) e h = rw e (omega arith, refl)
  answer_untold false p q rest reply.NoMemory e h = rw e (omega arith, refl)

  answer_later : (b : Bool) (p q : ℕ) (rest : List ℕ) (y : Reply) → (p == q) ≡ b → (cond b 1 0 + count p rest ≡ 0) × (count p late + count p turns ≡ 1)
      → Fits (answered (asking (q ∷ rest)) q rest y) p (fate_after p Later (ev.Answered q y))
  answer_later true p q rest y e h = let k = h.0 in absurd (omega (arith, k))
  answer_later false p q rest reply.Content e h = rw e (omega arith, h.1)
  answer_later false p q rest reply.Error e h = rw e (omega arith, h.1)
  answer_later false p q rest reply.ErrorAfter e h = rw e (omega arith, h.1)
  answer_later false p q rest reply.Delayed e h = rw e (omega arith, omega arith)
  answer_later false p q rest reply.Abort e h = tt
  answer_later false p q rest (reply.Broken c) e h = rw e (omega arith, refl)
  answer_later false p q rest reply.NoMemory e h = rw e (omega arith, refl)

  answer_known : (b : Bool) (p q : ℕ) (rest : List ℕ) (w : Heard) (y : Reply) → (p == q) ≡ b → (cond b 1 0 + count p rest ≡ 0) × (count p late + count p turns ≡ 0)
      → Fits (answered (asking (q ∷ rest)) q rest y) p (Known w)
  answer_known true p q rest w y e h = let k = h.0 in absurd (omega (arith, k))
  answer_known false p q rest w reply.Content e h = (omega arith, h.1)
  answer_known false p q rest w reply.Error e h = (omega arith, h.1)
  answer_known false p q rest w reply.ErrorAfter e h = (omega arith, h.1)
  answer_known false p q rest w reply.Delayed e h = rw e (omega arith, omega arith)
  answer_known false p q rest w reply.Abort e h = tt
  answer_known false p q rest w (reply.Broken c) e h = (omega arith, refl)
  answer_known false p q rest w reply.NoMemory e h = (omega arith, refl)

  answer_fits : (p q : ℕ) (rest : List ℕ) (y : Reply) (f : Fate) → Fits (InRound (asking (q ∷ rest))) p f
      → Fits (answered (asking (q ∷ rest)) q rest y) p (fate_after p f (ev.Answered q y))
  answer_fits p q rest y Untold h = answer_untold (p == q) p q rest y refl h
  answer_fits p q rest y Later h = answer_later (p == q) p q rest y refl h
  answer_fits p q rest y (Known w) h = answer_known (p == q) p q rest w y refl h

  ask_fits : (ps : List ℕ) (x : ℕ) (y : Reply) (u : Talk) (p : ℕ) (f : Fate) → ask (asking ps) ps x y ≡ Some u → Fits (InRound (asking ps)) p f
      → Fits u p (fate_after p f (ev.Answered x y))
  ask_fits [] x y u p f h k = absurd (cc h)
  ask_fits (q ∷ rest) x y u p f h k =
      let a = talk_is (x == q && (is_good_reply y && not (is_delay y && not delay))) (answered (asking (q ∷ rest)) q rest y) u h in
      let b = and_parts (x == q) (is_good_reply y && not (is_delay y && not delay)) a.0 in
      let same : x ≡ q = eqb-true x q b.0 in
      to_fit (answered (asking (q ∷ rest)) q rest y) u p (fate_after p f (ev.Answered x y)) a.1
      (subst (λ (z : ℕ). Fits (answered (asking (q ∷ rest)) q rest y) p (fate_after p f (ev.Answered z y))) (sym same) (answer_fits p q rest y f k))

-- a second request for the first of these
module _ (delay any noting : Bool) (rest late : List ℕ) where
  abbrev asking_again : List ℕ → Round
  asking_again turns = record { delay = delay; any_delayed = any; noting_list = noting; rest = rest; late = late; turns = turns }

  redo_untold : (b : Bool) (p q : ℕ) (turns : List ℕ) (y : Reply) → (p == q) ≡ b → (count p rest ≡ 1) × (count p late + (cond b 1 0 + count p turns) ≡ 0)
      → Fits (redone (asking_again (q ∷ turns)) turns y) p (fate_after p Untold (ev.Redone q y))
  redo_untold true p q turns y e h = let k = h.1 in absurd (omega (arith, k))
  redo_untold false p q turns reply.Content e h = rw e (h.0, omega arith)
  redo_untold false p q turns reply.Error e h = rw e (h.0, omega arith)
  redo_untold false p q turns reply.ErrorAfter e h = rw e (h.0, omega arith)
  redo_untold false p q turns reply.Delayed e h = rw e (h.0, omega arith)
  redo_untold false p q turns reply.Abort e h = tt
  redo_untold false p q turns (reply.Broken c) e h = rw e (h.0, refl)
  redo_untold false p q turns reply.NoMemory e h = rw e (h.0, refl)

  redo_later : (b : Bool) (p q : ℕ) (turns : List ℕ) (y : Reply) → (p == q) ≡ b → is_delay y ≡ false → (count p rest ≡ 0) × (count p late + (cond b 1 0 + count p turns) ≡ 1)
      → Fits (redone (asking_again (q ∷ turns)) turns y) p (fate_after p Later (ev.Redone q y))
  redo_later b p q turns reply.Delayed e z h = absurd (cc z)
  redo_later true p q turns reply.Content e z h = rw e (h.0, omega arith)
  redo_later true p q turns reply.Error e z h = rw e (h.0, omega arith)
  redo_later true p q turns reply.ErrorAfter e z h = rw e (h.0, omega arith)
  redo_later true p q turns reply.Abort e z h = tt
  redo_later true p q turns (reply.Broken c) e z h = rw e (h.0, refl)
  redo_later true p q turns reply.NoMemory e z h = rw e (h.0, refl)
  redo_later false p q turns reply.Content e z h = rw e (h.0, omega arith)
  redo_later false p q turns reply.Error e z h = rw e (h.0, omega arith)
  redo_later false p q turns reply.ErrorAfter e z h = rw e (h.0, omega arith)
  redo_later false p q turns reply.Abort e z h = tt
  redo_later false p q turns (reply.Broken c) e z h = rw e (h.0, refl)
  redo_later false p q turns reply.NoMemory e z h = rw e (h.0, refl)

  redo_known : (b : Bool) (p q : ℕ) (turns : List ℕ) (w : Heard) (y : Reply) → (count p rest ≡ 0) × (count p late + (cond b 1 0 + count p turns) ≡ 0)
      → Fits (redone (asking_again (q ∷ turns)) turns y) p (Known w)
  redo_known b p q turns w reply.Content h = (h.0, omega arith)
  redo_known b p q turns w reply.Error h = (h.0, omega arith)
  redo_known b p q turns w reply.ErrorAfter h = (h.0, omega arith)
  redo_known b p q turns w reply.Delayed h = (h.0, omega arith)
  redo_known b p q turns w reply.Abort h = tt
  redo_known b p q turns w (reply.Broken c) h = (h.0, refl)
  redo_known b p q turns w reply.NoMemory h = (h.0, refl)

  redo_fits : (p q : ℕ) (turns : List ℕ) (y : Reply) (f : Fate) → is_delay y ≡ false → Fits (InRound (asking_again (q ∷ turns))) p f
      → Fits (redone (asking_again (q ∷ turns)) turns y) p (fate_after p f (ev.Redone q y))
  redo_fits p q turns y Untold z h = redo_untold (p == q) p q turns y refl h
  redo_fits p q turns y Later z h = redo_later (p == q) p q turns y refl z h
  redo_fits p q turns y (Known w) z h = redo_known (p == q) p q turns w y h

  again_fits : (ps : List ℕ) (x : ℕ) (y : Reply) (u : Talk) (p : ℕ) (f : Fate) → ask_again (asking_again ps) ps x y ≡ Some u → Fits (InRound (asking_again ps)) p f
      → Fits u p (fate_after p f (ev.Redone x y))
  again_fits [] x y u p f h k = absurd (cc h)
  again_fits (q ∷ turns) x y u p f h k =
      let a = talk_is (not noting && (x == q && (not (is_delay y) && is_good_reply y))) (redone (asking_again (q ∷ turns)) turns y) u h in
      let b = and_parts (not noting) (x == q && (not (is_delay y) && is_good_reply y)) a.0 in
      let w = and_parts (x == q) (not (is_delay y) && is_good_reply y) b.1 in
      let v = and_parts (not (is_delay y)) (is_good_reply y) w.1 in
      let same : x ≡ q = eqb-true x q w.0 in
      to_fit (redone (asking_again (q ∷ turns)) turns y) u p (fate_after p f (ev.Redone x y)) a.1
      (subst (λ (z : ℕ). Fits (redone (asking_again (q ∷ turns)) turns y) p (fate_after p f (ev.Redone z y))) (sym same) (redo_fits p q turns y f (not-true (is_delay y) v.0) k))

-- a name of a list
abbrev pub named : Round → ℕ → Round
named r q = record {
  delay = r.delay;
  any_delayed = r.any_delayed;
  noting_list = true;
  rest = r.rest;
  late = without q r.late;
  turns = r.turns ++ (q ∷ []);
}

due_once : (f : Fate) → (n : ℕ) → second_due f ≡ suc n → n ≡ 0
due_once Untold n e = absurd (omega (arith, e))
due_once Later n e = omega (arith, e)
due_once (Known w) n e = absurd (omega (arith, e))

named_counts : (r : Round) (p q : ℕ) (m : ℕ) → contains q r.late ≡ true → count p r.late + count p r.turns ≡ m → ((n : ℕ) → m ≡ suc n → n ≡ 0)
    → count p (without q r.late) + count p (r.turns ++ (q ∷ [])) ≡ m
named_counts r p q m has e once = go (p == q) refl
  where
    go : (b : Bool) → (p == q) ≡ b → count p (without q r.late) + count p (r.turns ++ (q ∷ [])) ≡ m
    go true i =
        let same : p ≡ q = eqb-true p q i in
        let w = count_without_same true p q r.late i (same_eq true p q i) in
        let t : count p (r.turns ++ (q ∷ [])) ≡ count p r.turns + (cond (p == q) 1 0 + 0) = count_more p r.turns (q ∷ []) in
        let one : ◌≡◌ {A = ℕ} (cond (p == q) 1 0) 1 = ap (λ (b : Bool). cond b 1 0) i in
        let k = contains_counts q r.late has in
        let c : count p r.late ≡ suc k.0 = subst (λ (z : ℕ). count z r.late ≡ suc k.0) (sym same) k.1 in
        let z = once (k.0 + count p r.turns) (omega (arith, e, c)) in
        omega (arith, w, t, one, c, z, e)
    go false i =
        let w = count_without_same false p q r.late i (same_eq false p q i) in
        let t : count p (r.turns ++ (q ∷ [])) ≡ count p r.turns + (cond (p == q) 1 0 + 0) = count_more p r.turns (q ∷ []) in
        let one : ◌≡◌ {A = ℕ} (cond (p == q) 1 0) 0 = ap (λ (b : Bool). cond b 1 0) i in
        omega (arith, w, t, one, e)

same_named : (p : ℕ) (f : Fate) (q : ℕ) → fate_after p f (ev.Named q) ≡ f
same_named p Untold q = refl
same_named p Later q = refl
same_named p (Known w) q = refl

name_fits : (r : Round) (q : ℕ) (u : Talk) (p : ℕ) (f : Fate) → name r q ≡ Some u → Fits (InRound r) p f → Fits u p (fate_after p f (ev.Named q))
name_fits r q u p f h k =
    let a = talk_is (r.any_delayed && (is_empty r.rest && (contains q r.late && (r.noting_list || is_empty r.turns)))) (InRound (named r q)) u h in
    let b = and_parts r.any_delayed (is_empty r.rest && (contains q r.late && (r.noting_list || is_empty r.turns))) a.0 in
    let w = and_parts (is_empty r.rest) (contains q r.late && (r.noting_list || is_empty r.turns)) b.1 in
    let v = and_parts (contains q r.late) (r.noting_list || is_empty r.turns) w.1 in
    to_fit (InRound (named r q)) u p (fate_after p f (ev.Named q)) a.1
    (subst (λ (g : Fate). Fits (InRound (named r q)) p g) (sym (same_named p f q)) (k.0, named_counts r p q (second_due f) v.0 k.1 (due_once f)))

-- the end of a list
end_fits : (r : Round) (d : ℕ) (y : ListReply) (p : ℕ) (f : Fate) → Fits (InRound r) p f → Fits (list_end r y) p (fate_after p f (ev.Listed d y))
end_fits r d (list.Names n) p Untold k = k
end_fits r d (list.Names n) p Later k = k
end_fits r d (list.Names n) p (Known w) k = k
end_fits r d list.Empty p f k = tt
end_fits r d list.Abort p f k = tt
end_fits r d (list.Broken c) p Untold k = (k.0, refl)
end_fits r d (list.Broken c) p Later k = (k.0, refl)
end_fits r d (list.Broken c) p (Known w) k = (k.0, refl)
end_fits r d list.NoMemory p Untold k = (k.0, refl)
end_fits r d list.NoMemory p Later k = (k.0, refl)
end_fits r d list.NoMemory p (Known w) k = (k.0, refl)

round_fits : (r : Round) (e : Event) (u : Talk) (p : ℕ) (f : Fate) → in_session r e ≡ Some u → Fits (InRound r) p f → Fits u p (fate_after p f e)
round_fits r (ev.Answered q y) u p f h k = ask_fits r.delay r.any_delayed r.noting_list r.late r.turns r.rest q y u p f h k
round_fits r (ev.Named q) u p f h k = name_fits r q u p f h k
round_fits r (ev.Listed d y) u p f h k =
    let a = talk_is (list_may r y) (list_end r y) u h in
    to_fit (list_end r y) u p (fate_after p f (ev.Listed d y)) a.1 (end_fits r d y p f k)
round_fits r (ev.Redone q y) u p f h k = again_fits r.delay r.any_delayed r.noting_list r.rest r.late r.turns q y u p f h k
round_fits r (ev.Shut d) u p f h k =
    let a = talk_is (not r.any_delayed && is_empty r.rest) Ended u h in
    to_fit Ended u p (fate_after p f (ev.Shut d)) a.1 tt
round_fits r (ev.Opened d caps) u p f h k = absurd (cc h)
round_fits r (ev.OpenFailed q o) u p f h k = absurd (cc h)
round_fits r (ev.Claim q a) u p f h k = absurd (cc h)
round_fits r (ev.Close q a o) u p f h k = absurd (cc h)
round_fits r (ev.HandBack q) u p f h k = absurd (cc h)

refusing_fits : (e : Event) (u : Talk) (p : ℕ) (f : Fate) → refusing e ≡ Some u → Fits u p (fate_after p f e)
refusing_fits (ev.Shut d) u p f h = to_fit Ended u p (fate_after p f (ev.Shut d)) (cc h) tt
refusing_fits (ev.Answered q y) u p f h = absurd (cc h)
refusing_fits (ev.Named q) u p f h = absurd (cc h)
refusing_fits (ev.Listed d y) u p f h = absurd (cc h)
refusing_fits (ev.Redone q y) u p f h = absurd (cc h)
refusing_fits (ev.Opened d caps) u p f h = absurd (cc h)
refusing_fits (ev.OpenFailed q o) u p f h = absurd (cc h)
refusing_fits (ev.Claim q a) u p f h = absurd (cc h)
refusing_fits (ev.Close q a o) u p f h = absurd (cc h)
refusing_fits (ev.HandBack q) u p f h = absurd (cc h)

pub next_fits : (t : Talk) (e : Event) (u : Talk) (p : ℕ) (f : Fate) → talk_next t e ≡ Some u → Fits t p f → Fits u p (fate_after p f e)
next_fits (Between ps) e u p f h k = between_fits ps e u p f h k
next_fits Refusing e u p f h k = refusing_fits e u p f h
next_fits (InRound r) e u p f h k = round_fits r e u p f h k
next_fits Ended e u p f h k = absurd (cc h)

-- after some notes it fits still
pub run_fits : (d : ℕ) (t : Talk) (es : List Event) (u : Talk) (p : ℕ) (f : Fate) → talk_run d t es ≡ Some u → Fits t p f → Fits u p (fate_of p f es)
run_fits d t [] u p f h k = to_fit t u p f (cc h) k
run_fits d t (e ∷ es) u p f h k =
    let s = run_cons d t e es u h in
    run_fits d s.mid es u p (fate_after p f e) s.run (next_fits t e s.mid p f s.step k)
