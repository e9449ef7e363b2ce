-- Paths in order, and what a path begins with.
use Rattle.std.proofs.Common.{◌≡◌, ℕ, zero, suc, ◌<◌, ◌≤◌, true, false, ◌&&◌, eqb, List, [], ◌∷◌, length, get_or, refl, sym, ap, subst, ◌∙◌, arith, inl, inr, ◌⊎◌}
use Rattle.std.specs.Prelude.{nat_eq}
use Rattle.std.specs.List.{starts_with}
use Rattle.std.specs.Str.{bytes_eq}
use Rattle.std.specs.Ordering.{nat_cmp, ordering_then, is_lt, is_eq}
use Rattle.std.specs.declared.cmp.Ordering.{Ordering}
use Rattle.std.specs.declared.cmp.Ordering.TheVariants.{Less, Equal, Greater}
use Rattle.std.specs.Cmp.Lexicographic.{slice_cmp}
use Rattle.std.proofs.lemmas.Bool.{and_parts, and_from, lt-ltb, le-ltb, eqb-true, eq-eqb, ne_eqb, cases_order, not_from_true, not_from_false, false_from_ne_true}
use Rattle.std.proofs.lemmas.Cmp.{nat_list_cmp_total}
use Rattle.std.proofs.lemmas.Map.Lookups.{exact_bytes}
use Rattle.std.proofs.lemmas.Map.Text.{is_eq-slice_cmp}
use Rattle.std.proofs.lemmas.Slice.Eq.{bytes_eq-Decides}
use Rattle.git_index.specs.declared.entry.Entry.{Entry}
use Rattle.git_index.specs.Spelling.{is_before, is_below, is_alone}

less_from : (o : Ordering) → is_lt o ≡ true → o ≡ Less
less_from Less e = refl
less_from Equal e = absurd cc
less_from Greater e = absurd cc

pub is_before-trans : (a b c : List ℕ) → is_before a b ≡ true → is_before b c ≡ true → is_before a c ≡ true
is_before-trans a b c p q = ap is_lt (nat_list_cmp_total.trans a b c (less_from _ p) (less_from _ q))

-- the first bytes decide, or else the rest does
pub is_before-cons : (x y : ℕ) (xs ys : List ℕ) → is_before (x ∷ xs) (y ∷ ys) ≡ true → (x < y) ⊎ ((x ≡ y) × (is_before xs ys ≡ true))
is_before-cons x y xs ys h =
    elim (cases_order x y) [
      | inl same ↦ inr (same, rw (le-ltb x y (omega arith), eq-eqb x y same) at h)
      | inr other ↦ elim other [
        | inl less ↦ inl less
        | inr more ↦ let no : true ≡ false = sym (rw (le-ltb x y (omega arith), ne_eqb x y (λ e. omega (arith, e))) at h) in absurd cc
      ]
    ]

pub starts_with-cons : (x y : ℕ) (xs ys : List ℕ) → starts_with nat_eq (y ∷ ys) (x ∷ xs) ≡ true → (x ≡ y) × (starts_with nat_eq ys xs ≡ true)
starts_with-cons x y xs ys h =
    let p = and_parts (eqb x y) (starts_with nat_eq ys xs) h in (eqb-true x y p.0, p.1)

-- a beginning of a path is a beginning of all that lies between
pub starts_with-between : (t e q : List ℕ) → starts_with nat_eq q t ≡ true → is_before t e ≡ true → is_before e q ≡ true → starts_with nat_eq e t ≡ true
starts_with-between [] e q s a b = refl
starts_with-between (x ∷ t) [] q s a b = absurd cc
starts_with-between (x ∷ t) (z ∷ e) [] s a b = absurd cc
starts_with-between (x ∷ t) (z ∷ e) (y ∷ q) s a b =
    let same = starts_with-cons x y t q s in
    elim (is_before-cons x z t e a) [
      | inl less ↦ elim (is_before-cons z y e q b) [
        | inl more ↦ absurd (omega (arith, less, more, same.0))
        | inr other ↦ absurd (omega (arith, less, other.0, same.0))
      ]
      | inr tied ↦ elim (is_before-cons z y e q b) [
        | inl more ↦ absurd (omega (arith, tied.0, more, same.0))
        | inr other ↦ and_from (eqb x z) (starts_with nat_eq e t) (eq-eqb x z tied.0) (starts_with-between t e q same.1 tied.1 other.1)
      ]
    ]

pub starts_with-trans : (d t e : List ℕ) → starts_with nat_eq t d ≡ true → starts_with nat_eq e t ≡ true → starts_with nat_eq e d ≡ true
starts_with-trans [] t e a b = refl
starts_with-trans (x ∷ d) [] e a b = absurd cc
starts_with-trans (x ∷ d) (y ∷ t) [] a b = absurd cc
starts_with-trans (x ∷ d) (y ∷ t) (z ∷ e) a b =
    let p = starts_with-cons x y d t a in
    let q = starts_with-cons y z t e b in
    and_from (eqb x z) (starts_with nat_eq e d) (eq-eqb x z (p.0 ∙ q.0)) (starts_with-trans d t e p.1 q.1)

-- a beginning is no longer, and has the same bytes
pub starts_with-length : (t e : List ℕ) → starts_with nat_eq e t ≡ true → length t ≤ length e
starts_with-length [] e h = omega arith
starts_with-length (x ∷ t) [] h = absurd cc
starts_with-length (x ∷ t) (y ∷ e) h = let rest = starts_with-length t e (starts_with-cons x y t e h).1 in omega arith

pub starts_with-get : (t e : List ℕ) (i : ℕ) → starts_with nat_eq e t ≡ true → i < length t → get_or e i 0 ≡ get_or t i 0
starts_with-get [] e i h lt = absurd (omega arith)
starts_with-get (x ∷ t) [] i h lt = absurd cc
starts_with-get (x ∷ t) (y ∷ e) zero h lt = sym (starts_with-cons x y t e h).0
starts_with-get (x ∷ t) (y ∷ e) (suc i) h lt = starts_with-get t e i (starts_with-cons x y t e h).1 (omega arith)

-- a beginning that comes before is shorter
pub starts_with-shorter : (t e : List ℕ) → starts_with nat_eq e t ≡ true → is_before t e ≡ true → length t < length e
starts_with-shorter [] [] h b = absurd cc
starts_with-shorter [] (y ∷ e) h b = omega arith
starts_with-shorter (x ∷ t) [] h b = absurd cc
starts_with-shorter (x ∷ t) (y ∷ e) h b =
    let p = starts_with-cons x y t e h in
    elim (is_before-cons x y t e b) [
      | inl less ↦ absurd (omega (arith, less, p.0))
      | inr tied ↦ let rest = starts_with-shorter t e p.1 tied.1 in omega arith
    ]

nat_less : (a b : ℕ) → is_lt (nat_cmp a b) ≡ true → a < b
nat_less a b h =
    elim (cases_order a b) [
      | inl same ↦ let no : true ≡ false = sym (rw (le-ltb a b (omega arith), eq-eqb a b same) at h) in absurd cc
      | inr other ↦ elim other [
        | inl less ↦ less
        | inr more ↦ let no : true ≡ false = sym (rw (le-ltb a b (omega arith), ne_eqb a b (λ e. omega (arith, e))) at h) in absurd cc
      ]
    ]

-- the paths decide, or else the stages do
pub is_below-cases : (e f : Entry) → is_below e f ≡ true → (is_before e.path f.path ≡ true) ⊎ ((e.path ≡ f.path) × (e.stage < f.stage))
is_below-cases e f h = elim (slice_cmp nat_cmp e.path f.path) as (λ o. slice_cmp nat_cmp e.path f.path ≡ o → is_lt (ordering_then o (nat_cmp e.stage f.stage)) ≡ true → (is_before e.path f.path ≡ true) ⊎ ((e.path ≡ f.path) × (e.stage < f.stage))) [
  | Less ↦ λ is b. inl (ap is_lt is)
  | Equal ↦ λ is b. inr (exact_bytes e.path f.path is, nat_less e.stage f.stage b)
  | Greater ↦ λ is b. absurd (cc)
] refl h

pub is_below-before : (e f : Entry) → is_before e.path f.path ≡ true → is_below e f ≡ true
is_below-before e f h = rw (less_from _ h) refl

equal_from : (o : Ordering) → is_eq o ≡ true → o ≡ Equal
equal_from Less e = absurd cc
equal_from Equal e = refl
equal_from Greater e = absurd cc

pub slice_cmp-same : (p q : List ℕ) → p ≡ q → slice_cmp nat_cmp p q ≡ Equal
slice_cmp-same p q e = equal_from _ (is_eq-slice_cmp p q ∙ (bytes_eq-Decides p q).1 e)

pub is_below-tied : (e f : Entry) → e.path ≡ f.path → e.stage < f.stage → is_below e f ≡ true
is_below-tied e f same less = rw (slice_cmp-same e.path f.path same, lt-ltb e.stage f.stage less) refl

pub is_below-trans : (e f g : Entry) → is_below e f ≡ true → is_below f g ≡ true → is_below e g ≡ true
is_below-trans e f g a b =
    elim (is_below-cases e f a) [
      | inl before ↦ elim (is_below-cases f g b) [
        | inl more ↦ is_below-before e g (is_before-trans e.path f.path g.path before more)
        | inr tied ↦ is_below-before e g (subst (λ (p : List ℕ). is_before e.path p ≡ true) tied.0 before)
      ]
      | inr tied ↦ elim (is_below-cases f g b) [
        | inl more ↦ is_below-before e g (subst (λ (p : List ℕ). is_before p g.path ≡ true) (sym tied.0) more)
        | inr other ↦ is_below-tied e g (tied.0 ∙ other.0) (omega (arith, tied.1, other.1))
      ]
    ]

-- an entry of stage 0 is above all entries of smaller paths alone
pub is_below-at_zero : (e f : Entry) → f.stage ≡ 0 → is_below e f ≡ true → is_before e.path f.path ≡ true
is_below-at_zero e f z h =
    elim (is_below-cases e f h) [
      | inl before ↦ before
      | inr tied ↦ absurd (omega (arith, tied.1, z))
    ]

not_before_itself : (p q r : List ℕ) → is_before p q ≡ true → is_before q r ≡ true → p ≡ r → ⊥
not_before_itself p q r a b same = let no : Less ≡ Equal = sym (less_from _ (is_before-trans p q r a b)) ∙ slice_cmp-same p r same in absurd cc

-- where the entry between is alone beside the last, so is each before it
pub is_alone-through : (e f g : Entry) → is_below e f ≡ true → is_below f g ≡ true → is_alone e f ≡ true → is_alone e g ≡ true
is_alone-through e f g a b alone =
    not_from_false _ (false_from_ne_true _ (λ both.
    let p = and_parts (bytes_eq e.path g.path) (eqb e.stage 0) both in
    let same : e.path ≡ g.path = (bytes_eq-Decides e.path g.path).0 p.0 in
    elim (is_below-cases e f a) [
      | inl before ↦ elim (is_below-cases f g b) [
        | inl more ↦ not_before_itself e.path f.path g.path before more same
        | inr tied ↦ let no : Less ≡ Equal = sym (less_from _ before) ∙ slice_cmp-same e.path f.path (same ∙ sym tied.0) in absurd cc
      ]
      | inr tied ↦
          let yes : (bytes_eq e.path f.path && eqb e.stage 0) ≡ true = and_from _ _ ((bytes_eq-Decides e.path f.path).1 tied.0) p.1 in
          let no : false ≡ true = sym (not_from_true _ yes) ∙ alone in absurd cc
    ]))
