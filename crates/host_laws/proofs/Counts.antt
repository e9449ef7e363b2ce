-- How often paths stand in lists, and their texts.
use Rattle.std.proofs.Common.{◌≡◌, ◌==◌, ℕ, zero, suc, ◌+◌, ◌≤◌, Bool, true, false, cond, not, ◌||◌}
use Rattle.std.proofs.Common.{List, [], ◌∷◌, ◌++◌, map, take, drop, refl, sym, ap, ◌∙◌, subst, arith}
use Rattle.std.specs.Str.{bytes_eq}
use Rattle.std.proofs.lemmas.Slice.Eq.{bytes_eq-Decides}
use Rattle.std.proofs.lemmas.Bool.{eqb-true}
use Rattle.filter_words.specs.Listing.{name_in}
use Rattle.delay_table.specs.Table.{contains, without, AreApart}
use Rattle.driver_host.specs.HostText.{less}
use Rattle.host_laws.specs.HostTalks.{count_if, times_in}

pub count_both : (p : ℕ) (xs ys : List ℕ) → times_in p (xs ++ ys) ≡ times_in p xs + times_in p ys
count_both p [] ys = omega arith
count_both p (x ∷ xs) ys = one (p == x) (count_both p xs ys)
  where
    one : (b : Bool) → times_in p (xs ++ ys) ≡ times_in p xs + times_in p ys
        → count_if b (times_in p (xs ++ ys)) ≡ count_if b (times_in p xs) + times_in p ys
    one true e = omega (arith, e)
    one false e = e

pub count_suc : (b : Bool) (n : ℕ) → n ≤ count_if b n
count_suc true n = omega arith
count_suc false n = omega arith

pub same_number : (p : ℕ) → (p == p) ≡ true
same_number p = grind arith

pub count_here : (p : ℕ) (xs : List ℕ) → times_in p (p ∷ xs) ≡ suc (times_in p xs)
count_here p xs = ap (λ (b : Bool). count_if b (times_in p xs)) (same_number p)

pub some_here : (p : ℕ) (xs : List ℕ) → 1 ≤ times_in p (p ∷ xs)
some_here p xs = let e = count_here p xs in omega (arith, e)

pub some_there : (p q : ℕ) (xs : List ℕ) → 1 ≤ times_in p xs → 1 ≤ times_in p (q ∷ xs)
some_there p q xs some = let more = count_suc (p == q) (times_in p xs) in omega (arith, some, more)

pub contains_some : (p : ℕ) (xs : List ℕ) → contains p xs ≡ true → 1 ≤ times_in p xs
contains_some p [] e = absurd cc
contains_some p (x ∷ xs) e = one (p == x) e (contains_some p xs)
  where
    one : (b : Bool) → cond b true (contains p xs) ≡ true → (contains p xs ≡ true → 1 ≤ times_in p xs)
        → 1 ≤ count_if b (times_in p xs)
    one true f more = omega arith
    one false f more = more f

pub some_contains : (p : ℕ) (xs : List ℕ) → 1 ≤ times_in p xs → contains p xs ≡ true
some_contains p [] some = absurd (omega (arith, some))
some_contains p (x ∷ xs) some = one (p == x) some (some_contains p xs)
  where
    one : (b : Bool) → 1 ≤ count_if b (times_in p xs) → (1 ≤ times_in p xs → contains p xs ≡ true)
        → cond b true (contains p xs) ≡ true
    one true f more = refl
    one false f more = more f

no_true : {b : Bool} → b ≡ false → b ≡ true → ⊥
no_true e f = let no : true ≡ false = sym f ∙ e in cc

zero_of : (n : ℕ) → (1 ≤ n → ⊥) → n ≡ 0
zero_of zero none = refl
zero_of (suc n) none = absurd (none (omega arith))

pub apart_once : (p : ℕ) (xs : List ℕ) → AreApart xs → times_in p xs ≤ 1
apart_once p [] a = omega arith
apart_once p (x ∷ xs) a = one (p == x) refl (apart_once p xs a.1)
  where
    one : (b : Bool) → (p == x) ≡ b → times_in p xs ≤ 1 → count_if b (times_in p xs) ≤ 1
    one true same more =
        let none : times_in p xs ≡ 0 = zero_of (times_in p xs)
        (λ some. no_true a.0 (subst (λ (z : ℕ). contains z xs ≡ true) (eqb-true p x same) (some_contains p xs some))) in
        omega (arith, none)
    one false same more = more

gone : (q : ℕ) (xs : List ℕ) → times_in q (without q xs) ≡ 0
gone q [] = refl
gone q (x ∷ xs) = at (q == x) refl (gone q xs)
  where
    at : (b : Bool) → (q == x) ≡ b → times_in q (without q xs) ≡ 0
        → times_in q (cond b (without q xs) (x ∷ without q xs)) ≡ 0
    at true e more = more
    at false e more = ap (λ (b : Bool). count_if b (times_in q (without q xs))) e ∙ more

others : (p q : ℕ) (xs : List ℕ) → (p == q) ≡ false → times_in p (without q xs) ≡ times_in p xs
others p q [] differ = refl
others p q (x ∷ xs) differ = at (q == x) (p == x) refl refl (others p q xs differ)
  where
    at : (b c : Bool) → (q == x) ≡ b → (p == x) ≡ c → times_in p (without q xs) ≡ times_in p xs
        → times_in p (cond b (without q xs) (x ∷ without q xs)) ≡ count_if c (times_in p xs)
    at true true e f more =
        let is : p ≡ q = eqb-true p x f ∙ sym (eqb-true q x e) in
        absurd (no_true differ (subst (λ (z : ℕ). (p == z) ≡ true) is (same_number p)))
    at true false e f more = more
    at false c e f more =
        ap (λ (b : Bool). count_if b (times_in p (without q xs))) f ∙ ap (λ (n : ℕ). count_if c n) more

-- one name is taken out
pub count_without : (p q : ℕ) (xs : List ℕ) → times_in q xs ≤ 1 → contains q xs ≡ true
    → times_in p (without q xs) + times_in p (q ∷ []) ≡ times_in p xs
count_without p q xs once here = one (p == q) refl
  where
    one : (b : Bool) → (p == q) ≡ b → times_in p (without q xs) + count_if b 0 ≡ times_in p xs
    one true same =
        let is : p ≡ q = eqb-true p q same in
        let none : times_in p (without q xs) ≡ 0 =
        subst (λ (z : ℕ). times_in z (without q xs) ≡ 0) (sym is) (gone q xs) in
        let some : 1 ≤ times_in q xs = contains_some q xs here in
        let alike : times_in p xs ≡ times_in q xs = ap (λ (z : ℕ). times_in z xs) is in
        omega (arith, none, some, once, alike)
    one false same = let e = others p q xs same in omega (arith, e)

-- the texts of paths that have different ones

pub same_bytes : (xs ys : List ℕ) → bytes_eq xs ys ≡ true → xs ≡ ys
same_bytes xs ys e = (bytes_eq-Decides xs ys).0 e

pub bytes_same : (xs : List ℕ) → bytes_eq xs xs ≡ true
bytes_same xs = (bytes_eq-Decides xs xs).1 refl

-- the paths are among those that were asked
abbrev pub AreAmong : List ℕ → List ℕ → Type 0
AreAmong asked xs = (p : ℕ) → 1 ≤ times_in p xs → contains p asked ≡ true

pub among_tail : (asked : List ℕ) (x : ℕ) (xs : List ℕ) → AreAmong asked (x ∷ xs) → AreAmong asked xs
among_tail asked x xs a p some = a p (some_there p x xs some)

module _ (text : ℕ → List ℕ) (asked : List ℕ) (apart : (p q : ℕ) → contains p asked ≡ true → contains q asked ≡ true → text p ≡ text q → p ≡ q) where
  pub named : (q : ℕ) (xs : List ℕ) → 1 ≤ times_in q xs → name_in (map text xs) (text q) ≡ true
  named q [] some = absurd (omega (arith, some))
  named q (x ∷ xs) some = one (q == x) refl some (named q xs)
    where
      later : (b : Bool) → name_in (map text xs) (text q) ≡ true → (b || name_in (map text xs) (text q)) ≡ true
      later true e = refl
      later false e = e

      here : (b : Bool) → b ≡ true → (b || name_in (map text xs) (text q)) ≡ true
      here true e = refl
      here false e = absurd cc

      one : (b : Bool) → (q == x) ≡ b → 1 ≤ count_if b (times_in q xs)
          → (1 ≤ times_in q xs → name_in (map text xs) (text q) ≡ true)
          → (bytes_eq (text x) (text q) || name_in (map text xs) (text q)) ≡ true
      one true same f more =
          here (bytes_eq (text x) (text q))
          (subst (λ (z : ℕ). bytes_eq (text z) (text q) ≡ true) (eqb-true q x same) (bytes_same (text q)))
      one false same f more = later (bytes_eq (text x) (text q)) (more f)

  differ : (p x : ℕ) (xs : List ℕ) → contains p asked ≡ true → AreAmong asked (x ∷ xs) → times_in p (x ∷ xs) ≡ 0
      → bytes_eq (text x) (text p) ≡ false
  differ p x xs is among none = one (bytes_eq (text x) (text p)) refl
    where
      one : (b : Bool) → bytes_eq (text x) (text p) ≡ b → b ≡ false
      one false e = refl
      one true e =
          let same : x ≡ p = apart x p (among x (some_here x xs)) is (same_bytes (text x) (text p) e) in
          let some : 1 ≤ times_in p (x ∷ xs) =
          subst (λ (z : ℕ). 1 ≤ times_in z (x ∷ xs)) same (some_here x xs) in
          absurd (omega (arith, none, some))

  rest_none : (p x : ℕ) (xs : List ℕ) → times_in p (x ∷ xs) ≡ 0 → times_in p xs ≡ 0
  rest_none p x xs none = let more = count_suc (p == x) (times_in p xs) in omega (arith, none, more)

  pub not_named : (p : ℕ) (xs : List ℕ) → contains p asked ≡ true → AreAmong asked xs → times_in p xs ≡ 0
      → name_in (map text xs) (text p) ≡ false
  not_named p [] is among none = refl
  not_named p (x ∷ xs) is among none =
      ap (λ (b : Bool). b || name_in (map text xs) (text p)) (differ p x xs is among none)
      ∙ not_named p xs is (among_tail asked x xs among) (rest_none p x xs none)

  pub less_none : (p : ℕ) (xs : List ℕ) → contains p asked ≡ true → AreAmong asked xs → times_in p xs ≡ 0
      → less (map text xs) (text p) ≡ map text xs
  less_none p [] is among none = refl
  less_none p (x ∷ xs) is among none =
      ap (λ (b : Bool). cond (not b) (text x ∷ less (map text xs) (text p)) (less (map text xs) (text p)))
      (differ p x xs is among none)
      ∙ ap (λ (z : List (List ℕ)). text x ∷ z) (less_none p xs is (among_tail asked x xs among) (rest_none p x xs none))

  pub less_head : (p : ℕ) (xs : List ℕ) → contains p asked ≡ true → AreAmong asked xs → times_in p xs ≡ 0
      → less (map text (p ∷ xs)) (text p) ≡ map text xs
  less_head p xs is among none =
      ap (λ (b : Bool). cond (not b) (text p ∷ less (map text xs) (text p)) (less (map text xs) (text p)))
      (bytes_same (text p))
      ∙ less_none p xs is among none

  abbrev names_tail : List (List ℕ) → List (List ℕ)
  names_tail [] = []
  names_tail (n ∷ ns) = ns

  abbrev names_head : List ℕ → List (List ℕ) → List ℕ
  names_head other [] = other
  names_head other (n ∷ ns) = n

  pub same_paths : (xs ys : List ℕ) → AreAmong asked xs → AreAmong asked ys → map text xs ≡ map text ys → xs ≡ ys
  same_paths [] [] a b e = refl
  same_paths [] (y ∷ ys) a b e = absurd cc
  same_paths (x ∷ xs) [] a b e = absurd cc
  same_paths (x ∷ xs) (y ∷ ys) a b e =
      let first : x ≡ y = apart x y (a x (some_here x xs)) (b y (some_here y ys))
      (ap (λ (z : List (List ℕ)). names_head (text x) z) e) in
      ap (λ (z : ℕ). z ∷ xs) first
      ∙ ap (λ (z : List ℕ). y ∷ z) (same_paths xs ys (among_tail asked x xs a) (among_tail asked y ys b)
      (ap (λ (z : List (List ℕ)). names_tail z) e))

  pub map_take : (n : ℕ) (xs : List ℕ) → take n (map text xs) ≡ map text (take n xs)
  map_take zero xs = refl
  map_take (suc n) [] = refl
  map_take (suc n) (x ∷ xs) = ap (λ (z : List (List ℕ)). text x ∷ z) (map_take n xs)

  pub map_drop : (n : ℕ) (xs : List ℕ) → drop n (map text xs) ≡ map text (drop n xs)
  map_drop zero xs = refl
  map_drop (suc n) [] = refl
  map_drop (suc n) (x ∷ xs) = map_drop n xs

  pub map_both : (xs ys : List ℕ) → map text (xs ++ ys) ≡ map text xs ++ map text ys
  map_both [] ys = refl
  map_both (x ∷ xs) ys = ap (λ (z : List (List ℕ)). text x ∷ z) (map_both xs ys)
