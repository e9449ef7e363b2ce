-- The paths that `alpha` gives later are late before, each by its own name.
use Rattle.std.proofs.Common.{◌≡◌, ℕ, ◌+◌, ◌<◌, ◌≤◌, inl, inr, ◌⊎◌, ⊎_elim, Bool, true, false, not, cond, List, [], ◌∷◌, ◌++◌, length, length-append, refl, sym, ap, ◌∙◌, subst, arith, eq-eqb, ne_eqb}
use Rattle.std.specs.Prelude.{◌==◌, ◌%◌, if◌then◌else◌}
use Rattle.std.specs.List.{AllByRecursion}
use Rattle.std.proofs.lemmas.Bool.{true≢false, and_parts}
use Rattle.std.proofs.lemmas.List.{append-nil, map-append}
use Rattle.delay_table.specs.Table.{contains, without}
use Rattle.rehearsal.specs.Paths.{kind}
use Rattle.rehearsal.specs.Drivers.{is_delayed, is_given}
use Rattle.rehearsal_numbers.proofs.Apart.{is_equal}
use Rattle.rehearsal_numbers.proofs.Marked.{Mark, places, numbers, Among, Rises, all_at, all_from}
use Rattle.rehearsal_numbers.proofs.Alpha.{given_marks, late_after, late_of}
use Rattle.rehearsal_numbers.proofs.AlphaTalk.{Listable}

pub join : (m : Mark) (xs ys : List Mark) → Among m xs ⊎ Among m ys → Among m (xs ++ ys)
join m [] ys h = ⊎_elim (λ (a : ⊥). absurd a) (λ (b : Among m ys). b) h
join m (x ∷ xs) ys h = ⊎_elim
    (λ (a : Among m (x ∷ xs)). ⊎_elim (λ (e : m ≡ x). inl e) (λ (k : Among m xs). inr (join m xs ys (inl k))) a)
    (λ (b : Among m ys). inr (join m xs ys (inr b)))
    h

pub split : (m : Mark) (xs ys : List Mark) → Among m (xs ++ ys) → Among m xs ⊎ Among m ys
split m [] ys h = inr h
split m (x ∷ xs) ys h = ⊎_elim
    (λ (e : m ≡ x). inl (inl e))
    (λ (k : Among m (xs ++ ys)). ⊎_elim (λ (a : Among m xs). inl (inr a)) (λ (b : Among m ys). inr b) (split m xs ys k))
    h

-- those that are given are among the paths, and each of these that is given is among them
pub given_among : (seed : ℕ) (ms : List Mark) (m : Mark) → Among m (given_marks seed ms)
    → Among m ms × (is_given seed m.number ≡ true)
given_among seed [] m h = absurd h
given_among seed (x ∷ xs) m h = ⊎_elim
    (λ (a : Among m (given_marks seed xs)). let k = given_among seed xs m a in (inr k.0, k.1))
    (λ (b : Among m (if is_given seed x.number then x ∷ [] else [])). by (is_given seed x.number) refl b)
    (split m (given_marks seed xs) (if is_given seed x.number then x ∷ [] else []) h)
  where
    by : (t : Bool) → is_given seed x.number ≡ t → Among m (if t then x ∷ [] else [])
        → Among m (x ∷ xs) × (is_given seed m.number ≡ true)
    by true e (inl k) = (inl k, ap (λ (y : Mark). is_given seed y.number) k ∙ e)
    by true e (inr k) = absurd k
    by false e k = absurd k

pub among_given : (seed : ℕ) (ms : List Mark) (m : Mark) → Among m ms → is_given seed m.number ≡ true
    → Among m (given_marks seed ms)
among_given seed [] m h e = absurd h
among_given seed (x ∷ xs) m h e = join m (given_marks seed xs) (if is_given seed x.number then x ∷ [] else []) (⊎_elim
    (λ (k : m ≡ x). inr (by (is_given seed x.number) (ap (λ (y : Mark). is_given seed y.number) (sym k) ∙ e) k))
    (λ (k : Among m xs). inl (among_given seed xs m k e))
    h)
  where
    by : (t : Bool) → t ≡ true → m ≡ x → Among m (if t then x ∷ [] else [])
    by true e k = inl k
    by false e k = absurd (true≢false (sym e))

-- the last comes first
abbrev pub Falls : List Mark → Type 0
Falls [] = Unit {0}
Falls (x ∷ xs) = AllByRecursion (λ y. y.place < x.place) xs × Falls xs

falls_more : (xs : List Mark) (m : Mark) → Falls xs → ((x : Mark) → Among x xs → m.place < x.place) → Falls (xs ++ m ∷ [])
falls_more [] m h f = (tt, tt)
falls_more (x ∷ xs) m h f = (
  all_from (λ (y : Mark). y.place < x.place) (xs ++ m ∷ []) (λ y k. ⊎_elim
      (λ (a : Among y xs). all_at (λ (z : Mark). z.place < x.place) xs h.0 y a)
      (λ (b : Among y (m ∷ [])). ⊎_elim (λ (e : y ≡ m). subst (λ (z : Mark). z.place < x.place) (sym e) (f x (inl refl))) (λ (e : ⊥). absurd e) b)
      (split y xs (m ∷ []) k)),
  falls_more xs m h.1 (λ y k. f y (inr k)),
)

pub given_falls : (seed : ℕ) (ms : List Mark) → Rises ms → Falls (given_marks seed ms)
given_falls seed [] r = tt
given_falls seed (m ∷ ms) r =
    by (is_given seed m.number) (given_falls seed ms r.1)
    (λ x k. all_at (λ (y : Mark). m.place < y.place) ms r.0 x (given_among seed ms x k).0)
  where
    by : (t : Bool) → Falls (given_marks seed ms) → ((x : Mark) → Among x (given_marks seed ms) → m.place < x.place)
        → Falls (given_marks seed ms ++ (if t then m ∷ [] else []))
    by true h f = falls_more (given_marks seed ms) m h f
    by false h f = subst Falls (sym (append-nil (given_marks seed ms))) h

pub given_few : (seed : ℕ) (ms : List Mark) → length (numbers (given_marks seed ms)) ≤ length ms
given_few seed [] = omega arith
given_few seed (m ∷ ms) =
    let all : length (numbers (given_marks seed ms ++ (if is_given seed m.number then m ∷ [] else [])))
    ≡ length (numbers (given_marks seed ms)) + length (numbers (if is_given seed m.number then m ∷ [] else [])) =
    ap length (map-append (λ (x : Mark). x.number) (given_marks seed ms) (if is_given seed m.number then m ∷ [] else []))
    ∙ length-append (numbers (given_marks seed ms)) (numbers (if is_given seed m.number then m ∷ [] else [])) in
    omega (arith, all, one (is_given seed m.number), given_few seed ms)
  where
    one : (t : Bool) → length (numbers (if t then m ∷ [] else [])) ≤ 1
    one true = omega arith
    one false = omega arith

-- what is late stays so while others are asked for, and is listed once
late_keeps : (seed p : ℕ) (late : List ℕ) (ms : List Mark) → contains p late ≡ true → contains p (late_after seed late ms) ≡ true
late_keeps seed p late [] h = h
late_keeps seed p late (m ∷ ms) h = late_keeps seed p (if kind seed m.number == 4 then late else m.place ∷ late) ms (by (kind seed m.number == 4) (p == m.place))
  where
    one : (t : Bool) → cond t true (contains p late) ≡ true
    one true = refl
    one false = h

    by : (t u : Bool) → contains p (if t then late else m.place ∷ late) ≡ true
    by true u = h
    by false u = one (p == m.place)

pub late_has : (seed : ℕ) (late : List ℕ) (ms : List Mark) (m : Mark) → Among m ms → (kind seed m.number == 4) ≡ false
    → contains m.place (late_after seed late ms) ≡ true
late_has seed late [] m h e = absurd h
late_has seed late (x ∷ xs) m h e = ⊎_elim
    (λ (k : m ≡ x). late_keeps seed m.place (if kind seed x.number == 4 then late else x.place ∷ late) xs
    (here k (kind seed x.number == 4) (ap (λ (y : Mark). kind seed y.number == 4) (sym k) ∙ e)))
    (λ (k : Among m xs). late_has seed (if kind seed x.number == 4 then late else x.place ∷ late) xs m k e)
    h
  where
    here : m ≡ x → (t : Bool) → t ≡ false → contains m.place (if t then late else x.place ∷ late) ≡ true
    here k true f = absurd (true≢false f)
    here k false f = rw (eq-eqb m.place x.place (ap (λ (y : Mark). y.place) k)) refl

pub delayed_kind : (seed i : ℕ) → is_given seed i ≡ true → (kind seed i == 4) ≡ false
delayed_kind seed i h =
    let five : kind seed i ≡ 5 = is_equal (kind seed i) 5 (and_parts (is_delayed seed i) (not (i % 5 == 0)) h).0 in
    ap (λ (k : ℕ). k == 4) five

keeps : (q r : ℕ) → (r == q) ≡ false → (late : List ℕ) → contains r late ≡ true → contains r (without q late) ≡ true
keeps q r other [] h = h
keeps q r other (x ∷ xs) h = by (q == x) refl (keeps q r other xs)
  where
    by : (t : Bool) → (q == x) ≡ t → (contains r xs ≡ true → contains r (without q xs) ≡ true)
        → contains r (cond t (without q xs) (x ∷ without q xs)) ≡ true
    by true e more =
        let same : (r == x) ≡ false = ap (λ (y : ℕ). r == y) (sym (is_equal q x e)) ∙ other in
        more (ap (λ (t : Bool). cond t true (contains r xs)) (sym same) ∙ h)
    by false e more = go (r == x) h
      where
        go : (u : Bool) → cond u true (contains r xs) ≡ true → cond u true (contains r (without q xs)) ≡ true
        go true k = refl
        go false k = more k

listable : (late : List ℕ) (gs : List Mark) → Falls gs → ((m : Mark) → Among m gs → contains m.place late ≡ true)
    → Listable late (places gs)
listable late [] h f = tt
listable late (x ∷ xs) h f = (
  f x (inl refl),
  listable (without x.place late) xs h.1
      (λ m k. keeps x.place m.place (ne_eqb m.place x.place (λ e. omega (arith, e, all_at (λ (y : Mark). y.place < x.place) xs h.0 m k)))
      late (f m (inr k))),
)

pub given_listable : (seed : ℕ) (ms : List Mark) → Rises ms → Listable (late_of seed ms) (places (given_marks seed ms))
given_listable seed ms r = listable (late_of seed ms) (given_marks seed ms) (given_falls seed ms r)
    (λ m k. let g = given_among seed ms m k in late_has seed [] ms m g.0 (delayed_kind seed m.number g.1))
