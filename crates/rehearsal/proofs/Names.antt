-- The names of the paths: in order, with no fault.
use Rattle.std.proofs.Common.{◌≡◌, ℕ, zero, suc, ◌+◌, ◌*◌, ◌<◌, ◌/◌, ◌%◌, inl, inr, Bool, true, false, not, List}
use Rattle.std.proofs.Common.{[], ◌∷◌, ◌++◌, length, None, eq-eqb, ne_eqb, append_assoc, refl, sym, ap, ◌∙◌, subst, arith}
use Rattle.std.specs.Prelude.{◌==◌, codes}
use Rattle.std.specs.List.{list_all}
use Rattle.std.specs.Str.{bytes_eq}
use Rattle.std.proofs.lemmas.Bool.{lt-ltb, le-ltb, and_parts, and_from, cases_order, true≢false}
use Rattle.std.proofs.lemmas.Slice.Eq.{bytes_eq-Decides}
use Rattle.byte_path.specs.Characters.{slash}
use Rattle.byte_path.specs.Path.{parts, onto_first, part_fault, path_fault, first_fault}
use Rattle.git_index.specs.Spelling.{is_before}
use Rattle.rehearsal.specs.Paths.{digits, kind, name}
use Rattle.rehearsal.proofs.Sorted.{Before}

same_head : (x : ℕ) (xs ys : List ℕ) → is_before xs ys ≡ true → is_before (x ∷ xs) (x ∷ ys) ≡ true
same_head x xs ys h = rw (le-ltb x x (omega arith), eq-eqb x x refl) h

less_head : (x y : ℕ) (xs ys : List ℕ) → x < y → is_before (x ∷ xs) (y ∷ ys) ≡ true
less_head x y xs ys lt = rw (lt-ltb x y lt) refl

same_front : (p xs ys : List ℕ) → is_before xs ys ≡ true → is_before (p ++ xs) (p ++ ys) ≡ true
same_front [] xs ys h = h
same_front (x ∷ p) xs ys h = same_head x (p ++ xs) (p ++ ys) (same_front p xs ys h)

before_self : (xs : List ℕ) → is_before xs xs ≡ false
before_self [] = refl
before_self (x ∷ xs) = rw (le-ltb x x (omega arith), eq-eqb x x refl) (before_self xs)

pub not_same : (a b : List ℕ) → is_before a b ≡ true → bytes_eq a b ≡ false
not_same a b h = go (bytes_eq a b) refl
  where
    go : (t : Bool) → bytes_eq a b ≡ t → bytes_eq a b ≡ false
    go false e = e
    go true e =
        let same : a ≡ b = (bytes_eq-Decides a b).0 e in
        let twice : is_before a a ≡ true = subst (λ (z : List ℕ). is_before a z ≡ true) (sym same) h in
        absurd (true≢false (sym twice ∙ before_self a))

-- ten to a power
abbrev under : ℕ → ℕ
under zero = 1
under (suc count) = 10 * under count

last_apart : (w c : ℕ) (rest : List ℕ) → digits (suc w) c ++ rest ≡ digits w (c / 10) ++ (48 + c % 10) ∷ rest
last_apart w c rest = append_assoc (digits w (c / 10)) ((48 + c % 10) ∷ []) rest

digits_before : (w a b : ℕ) (xs ys : List ℕ) → a < b → b < under w
    → is_before (digits w a ++ xs) (digits w b ++ ys) ≡ true
digits_before zero a b xs ys lt small = absurd (omega (arith, lt, small))
digits_before (suc w) a b xs ys lt small =
    let u : List ℕ = (48 + a % 10) ∷ xs in
    let v : List ℕ = (48 + b % 10) ∷ ys in
    let apart : is_before (digits w (a / 10) ++ u) (digits w (b / 10) ++ v) ≡ true =
    elim (cases_order (a / 10) (b / 10)) [
      | inl same ↦ subst (λ (k : ℕ). is_before (digits w (a / 10) ++ u) (digits w k ++ v) ≡ true) same
          (same_front (digits w (a / 10)) u v
          (less_head (48 + a % 10) (48 + b % 10) xs ys (omega (arith, lt, same))))
      | inr other ↦ elim other [
        | inl less ↦ digits_before w (a / 10) (b / 10) u v less (omega (arith, small))
        | inr more ↦ absurd (omega (arith, lt, more))
      ]
    ] in
    subst (λ (z : List ℕ). is_before z (digits (suc w) b ++ ys) ≡ true) (sym (last_apart w a xs))
    (subst (λ (z : List ℕ). is_before (digits w (a / 10) ++ u) z ≡ true) (sym (last_apart w b ys)) apart)

-- what follows the digits
abbrev pub ending : ℕ → ℕ → List ℕ
ending seed i = 46 ∷ 107 ∷ (48 + kind seed i % 10) ∷ []

abbrev pub spelled_out : ℕ → ℕ → List ℕ
spelled_out seed i = 100 ∷ (48 + i % 10) ∷ 47 ∷ 102 ∷ (digits 6 i ++ ending seed i)

name_is : (seed i : ℕ) → name seed i ≡ spelled_out seed i
name_is seed i = refl

out_before : (seed i j : ℕ) → i < 1000000 → j < 1000000 → Before i j
    → is_before (spelled_out seed i) (spelled_out seed j) ≡ true
out_before seed i j few small h =
    let after : ℕ → List ℕ = λ k. digits 6 k ++ ending seed k in
    let slashed : ℕ → List ℕ = λ k. 47 ∷ 102 ∷ after k in
    elim h [
      | inl less ↦ same_head 100 ((48 + i % 10) ∷ slashed i) ((48 + j % 10) ∷ slashed j)
          (less_head (48 + i % 10) (48 + j % 10) (slashed i) (slashed j) (omega (arith, less)))
      | inr tied ↦ same_head 100 ((48 + i % 10) ∷ slashed i) ((48 + j % 10) ∷ slashed j)
          (subst (λ (k : ℕ). is_before ((48 + i % 10) ∷ slashed i) ((48 + k) ∷ slashed j) ≡ true) tied.0
          (same_head (48 + i % 10) (slashed i) (slashed j)
          (same_head 47 (102 ∷ after i) (102 ∷ after j)
          (same_head 102 (after i) (after j)
          (digits_before 6 i j (ending seed i) (ending seed j) tied.1 small)))))
    ]

pub name_before : (seed i j : ℕ) → i < 1000000 → j < 1000000 → Before i j
    → is_before (name seed i) (name seed j) ≡ true
name_before seed i j few small h =
    subst (λ (z : List ℕ). is_before z (name seed j) ≡ true) (sym (name_is seed i))
    (subst (λ (z : List ℕ). is_before (spelled_out seed i) z ≡ true) (sym (name_is seed j))
    (out_before seed i j few small h))

pub first_before : (seed i : ℕ) → is_before (codes ".gitattributes") (name seed i) ≡ true
first_before seed i = refl

pub name_length : (seed i : ℕ) → length (name seed i) ≡ 13
name_length seed i = refl

-- a test that every digit passes
module _ (ok : ℕ → Bool) (digit_ok : (x : ℕ) → ok (48 + x) ≡ true) where
  digits_ok : (w n : ℕ) (rest : List ℕ) → list_all ok rest ≡ true → list_all ok (digits w n ++ rest) ≡ true
  digits_ok zero n rest h = h
  digits_ok (suc w) n rest h =
      subst (λ (z : List ℕ). list_all ok z ≡ true) (sym (last_apart w n rest))
      (digits_ok w (n / 10) ((48 + n % 10) ∷ rest) (and_from (ok (48 + n % 10)) (list_all ok rest) (digit_ok (n % 10)) h))

  pub second_ok : (seed i : ℕ) → ok 102 ≡ true → ok 46 ≡ true → ok 107 ≡ true
      → list_all ok (102 ∷ (digits 6 i ++ ending seed i)) ≡ true
  second_ok seed i f dot k =
      and_from (ok 102) (list_all ok (digits 6 i ++ ending seed i)) f
      (digits_ok 6 i (ending seed i)
      (and_from (ok 46) (list_all ok (107 ∷ (48 + kind seed i % 10) ∷ [])) dot
      (and_from (ok 107) (list_all ok ((48 + kind seed i % 10) ∷ [])) k
      (and_from (ok (48 + kind seed i % 10)) true (digit_ok (kind seed i % 10)) refl))))

  pub first_ok : (i : ℕ) → ok 100 ≡ true → list_all ok (100 ∷ (48 + i % 10) ∷ []) ≡ true
  first_ok i d =
      and_from (ok 100) (list_all ok ((48 + i % 10) ∷ [])) d
      (and_from (ok (48 + i % 10)) true (digit_ok (i % 10)) refl)

abbrev no_slash : ℕ → Bool
no_slash b = not (b == slash)

digit_no_slash : (x : ℕ) → no_slash (48 + x) ≡ true
digit_no_slash x = rw (ne_eqb (48 + x) slash (λ e. omega (arith, e))) refl

not_slash : (b : ℕ) → no_slash b ≡ true → (b == slash) ≡ false
not_slash b h = go (b == slash) refl h
  where
    go : (t : Bool) → (b == slash) ≡ t → not t ≡ true → (b == slash) ≡ false
    go false e k = e
    go true e k = absurd (true≢false (sym k))

one_part : (p : List ℕ) → list_all no_slash p ≡ true → parts p ≡ p ∷ []
one_part [] h = refl
one_part (b ∷ p) h =
    let k = and_parts (no_slash b) (list_all no_slash p) h in
    rw (not_slash b k.0) (ap (onto_first b) (one_part p k.1))

two_parts : (p q : List ℕ) → list_all no_slash p ≡ true → parts (p ++ slash ∷ q) ≡ p ∷ parts q
two_parts [] q h = refl
two_parts (b ∷ p) q h =
    let k = and_parts (no_slash b) (list_all no_slash p) h in
    rw (not_slash b k.0) (ap (onto_first b) (two_parts p q k.1))

abbrev folder_part : ℕ → List ℕ
folder_part i = 100 ∷ (48 + i % 10) ∷ []

abbrev file_part : ℕ → ℕ → List ℕ
file_part seed i = 102 ∷ (digits 6 i ++ ending seed i)

name_parts : (seed i : ℕ) → parts (spelled_out seed i) ≡ folder_part i ∷ file_part seed i ∷ []
name_parts seed i =
    two_parts (folder_part i) (file_part seed i) (first_ok no_slash digit_no_slash i refl)
    ∙ ap (λ (ps : List (List ℕ)). folder_part i ∷ ps)
    (one_part (file_part seed i) (second_ok no_slash digit_no_slash seed i refl refl refl))

parts_good : (seed i : ℕ) → first_fault (folder_part i ∷ file_part seed i ∷ []) ≡ None
unfolding part_fault
parts_good seed i = refl

whole_good : (seed i : ℕ) → path_fault (spelled_out seed i) ≡ first_fault (parts (spelled_out seed i))
unfolding path_fault
whole_good seed i = refl

pub name_good : (seed i : ℕ) → path_fault (name seed i) ≡ None
name_good seed i =
    ap path_fault (name_is seed i) ∙ (whole_good seed i ∙ (ap first_fault (name_parts seed i) ∙ parts_good seed i))

pub first_good : path_fault (codes ".gitattributes") ≡ None
unfolding path_fault part_fault
first_good = refl

digit_not_nul : (x : ℕ) → not ((48 + x) == 0) ≡ true
digit_not_nul x = rw (ne_eqb (48 + x) 0 (λ e. omega (arith, e))) refl

pub name_no_nul : (seed i : ℕ) → list_all (λ b. not (b == 0)) (name seed i) ≡ true
name_no_nul seed i =
    let ok : ℕ → Bool = λ b. not (b == 0) in
    subst (λ (z : List ℕ). list_all ok z ≡ true) (sym (name_is seed i))
    (and_from (ok 100) (list_all ok ((48 + i % 10) ∷ 47 ∷ file_part seed i)) refl
    (and_from (ok (48 + i % 10)) (list_all ok (47 ∷ file_part seed i)) (digit_not_nul (i % 10))
    (and_from (ok 47) (list_all ok (file_part seed i)) refl
    (second_ok ok digit_not_nul seed i refl refl refl))))
