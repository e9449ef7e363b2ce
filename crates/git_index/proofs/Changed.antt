-- A path as what it changes in the one before.
use Rattle.std.proofs.Common.{◌≡◌, ℕ, suc, ◌+◌, ◌-◌, ◌<◌, ◌≤◌, Bool, true, false, List, [], ◌∷◌, length, take, drop, get_or, refl, sym, ◌∙◌, subst, arith, inl, inr}
use Rattle.std.specs.Prelude.{Option, Some, None, nat_lt, ◌==◌, if◌then◌else◌}
use Rattle.std.proofs.lemmas.Bool.{lt-ltb, le-ltb, cases_lt}
use Rattle.std.proofs.lemmas.List.{at_drop_more, at_drop_all}
use Rattle.byte_path.specs.Path.{path_fault, first_fault, parts}
use Rattle.byte_path.specs.declared.path.PathFault.{PathFault}
use Rattle.byte_path.specs.declared.path.PathFault.TheVariants.{Empty, TooLong}
use Rattle.git_index.specs.declared.entry.Entry.{Entry}
use Rattle.git_index.specs.declared.stat.Stat.{Stat}
use Rattle.git_index.specs.Spelling.{IsChanged, IsCount, common, count_bytes, cut_off, written}

-- what two paths have in common is at the front of both
pub record IsCommon (p q : List ℕ) (n : ℕ) : Type 0 where
  pub within : n ≤ length p
  pub same : take n q ≡ take n p

common_by : (test : Bool) (a b : ℕ) (p q : List ℕ) (n : ℕ) → (test ≡ true → a ≡ b) → IsCommon p q n → IsCommon (a ∷ p) (b ∷ q) (if test then suc n else 0)
common_by true a b p q n alike is = record { within = omega (arith, is.within); same = λ i. sym (alike refl) i ∷ is.same i }
common_by false a b p q n alike is = record { within = omega arith; same = refl }

alike : (a b : ℕ) → (a == b) ≡ true → a ≡ b
alike a b is = grind (arith, is)

pub common-is : (p q : List ℕ) → IsCommon p q (common p q)
common-is [] q = record { within = omega arith; same = refl }
common-is (a ∷ p) [] = record { within = omega arith; same = refl }
common-is (a ∷ p) (b ∷ q) = common_by (a == b) a b p q (common p q) (alike a b) (common-is p q)

-- the bytes of a number are its count
pub counted : (n : ℕ) → n < 16512 → IsCount 0 (count_bytes n) n
counted n few =
    elim (cases_lt n 128) [
      | inl lt ↦ rw (lt-ltb n 128 lt) (lt, omega arith)
      | inr ge ↦ rw (le-ltb n 128 ge) (omega arith, omega arith, (omega arith, omega arith))
    ]

-- an entry is spelled by what its path changes in the one before
pub changed-is : (last : List ℕ) (s : Stat) (e : Entry) → length last ≤ 4096 → IsChanged last (written last s e)
changed-is last s e few =
    let is : IsCommon last e.path (common last e.path) = common-is last e.path in
    let kept : length last - cut_off last e.path ≡ common last e.path = omega (arith, is.within) in
    record {
      count = counted (cut_off last e.path) (omega arith);
      within = omega arith;
      same = subst (λ (n : ℕ). take n e.path ≡ take n last) (sym kept) is.same;
    }

long_by : (empty long : Bool) (rest : Option PathFault) → (if empty then Some Empty else if long then Some TooLong else rest) ≡ None → long ≡ false
long_by true long rest is = absurd cc
long_by false true rest is = absurd cc
long_by false false rest is = refl

-- a path that may be written has at most 4,096 bytes
pub not_long : (path : List ℕ) → path_fault path ≡ None → length path ≤ 4096
unfolding path_fault
not_long path is = let short : nat_lt 4096 (length path) ≡ false = long_by (length path == 0) (nat_lt 4096 (length path)) (first_fault (parts path)) is in grind (arith, short)

-- what of two paths is left to be looked at
pub record IsCommonSo (last path : List ℕ) (n : ℕ) : Type 0 where
  pub whole : common last path ≡ n + common (drop n last) (drop n path)
  pub in_last : n ≤ length last
  pub in_path : n ≤ length path

pub begins : (last path : List ℕ) → IsCommonSo last path 0
begins last path = record { whole = omega arith; in_last = omega arith; in_path = omega arith }

same_step : (a b : ℕ) (p q : List ℕ) → (a == b) ≡ true → common (a ∷ p) (b ∷ q) ≡ suc (common p q)
same_step a b p q is = rw is refl

other_step : (a b : ℕ) (p q : List ℕ) → (a == b) ≡ false → common (a ∷ p) (b ∷ q) ≡ 0
other_step a b p q is = rw is refl

parts_at : (last path : List ℕ) (n : ℕ) → n < length last → n < length path → common (drop n last) (drop n path) ≡ common (get_or last n 0 ∷ drop (n + 1) last) (get_or path n 0 ∷ drop (n + 1) path)
parts_at last path n in_last in_path =
    at_drop_more (λ (xs : List ℕ). common xs (drop n path)) last n 0 in_last ∙ at_drop_more (λ (xs : List ℕ). common (get_or last n 0 ∷ drop (n + 1) last) xs) path n 0 in_path

pub goes_on : (last path : List ℕ) (n : ℕ) → IsCommonSo last path n → n < length last → n < length path → (get_or last n 0 == get_or path n 0) ≡ true → IsCommonSo last path (n + 1)
goes_on last path n so in_last in_path alike =
    let step : common (drop n last) (drop n path) ≡ suc (common (drop (n + 1) last) (drop (n + 1) path)) = parts_at last path n in_last in_path ∙ same_step (get_or last n 0) (get_or path n 0) (drop (n + 1) last) (drop (n + 1) path) alike in
    record { whole = omega (arith, so.whole, step); in_last = omega arith; in_path = omega arith }

pub ends_last : (last path : List ℕ) (n : ℕ) → IsCommonSo last path n → length last ≤ n → n ≡ common last path
ends_last last path n so over =
    let step : common (drop n last) (drop n path) ≡ 0 = at_drop_all (λ (xs : List ℕ). common xs (drop n path)) last n over in
    omega (arith, so.whole, step)

none_common : (p : List ℕ) → common p [] ≡ 0
none_common [] = refl
none_common (a ∷ p) = refl

pub ends_path : (last path : List ℕ) (n : ℕ) → IsCommonSo last path n → length path ≤ n → n ≡ common last path
ends_path last path n so over =
    let step : common (drop n last) (drop n path) ≡ 0 = at_drop_all (λ (xs : List ℕ). common (drop n last) xs) path n over ∙ none_common (drop n last) in
    omega (arith, so.whole, step)

pub ends_other : (last path : List ℕ) (n : ℕ) → IsCommonSo last path n → n < length last → n < length path → (get_or last n 0 == get_or path n 0) ≡ false → n ≡ common last path
ends_other last path n so in_last in_path other =
    let step : common (drop n last) (drop n path) ≡ 0 = parts_at last path n in_last in_path ∙ other_step (get_or last n 0) (get_or path n 0) (drop (n + 1) last) (drop (n + 1) path) other in
    omega (arith, so.whole, step)
