-- What is spelled so is read.
use Rattle.std.proofs.Common.{◌≡◌, ℕ, suc, Bool, true, not, leb, List, [], ◌∷◌, ◌++◌, length, take, drop, Some, None, Ok, refl, sym, ap, subst, ◌∙◌, append_assoc, arith, inl, inr}
use Rattle.std.specs.Prelude.{position, codes}
use Rattle.std.specs.List.{list_all, prefix_len}
use Rattle.std.specs.Str.{bytes_eq}
use Rattle.std.proofs.lemmas.Bool.{le-leb, lt-ltb, and_parts, or_cases}
use Rattle.std.proofs.lemmas.List.{take_at, drop_at, length-append}
use Rattle.std.proofs.lemmas.Slice.Eq.{bytes_eq-Decides}
use Rattle.byte_path.specs.Path.{path_fault}
use Rattle.git_trees.specs.declared.entry.TreeEntry.{TreeEntry}
use Rattle.git_trees.specs.declared.entry.TreeMode.{TreeMode}
use Rattle.git_trees.specs.declared.entry.TreeMode.TheVariants.{Plain, Executable, Link, Gitlink, Folder}
use Rattle.git_trees.specs.Format.{is_mode, is_space, ends_name, is_name_byte, Written, IsWritten, spelled}
use Rattle.git_trees.specs.Reading.{mode_at, named_at, moded_at, spaced_at, entry_at}

no_hit : (test : ℕ → Bool) (p : List ℕ) (x : ℕ) (rest : List ℕ) → list_all (λ b. not (test b)) p ≡ true → test x ≡ true → prefix_len (λ b. not (test b)) (p ++ x ∷ rest) ≡ length p
no_hit test [] x rest none is = rw is refl
no_hit test (b ∷ p) x rest none is =
    let a = and_parts (not (test b)) (list_all (λ c. not (test c)) p) none in
    rw a.0 (omega (arith, no_hit test p x rest a.1 is))

-- the first byte that passes a test
first_at : (test : ℕ → Bool) (p : List ℕ) (x : ℕ) (rest : List ℕ) → list_all (λ b. not (test b)) p ≡ true → test x ≡ true → position test (p ++ x ∷ rest) ≡ Some (length p)
first_at test p x rest none is = rw (no_hit test p x rest none is, lt-ltb (length p) (length (p ++ x ∷ rest)) (omega (arith, length-append p (x ∷ rest)))) refl

-- the digits of a mode are read as that mode, and hold no space
abbrev IsModeText : TreeMode → List ℕ → Type 0
IsModeText mode digits = (mode_at digits ≡ Some mode) × (list_all (λ b. not (is_space b)) digits ≡ true)

by_text : (mode : TreeMode) (digits text : List ℕ) → bytes_eq digits text ≡ true → IsModeText mode text → IsModeText mode digits
by_text mode digits text same is = subst (IsModeText mode) (sym ((bytes_eq-Decides digits text).0 same)) is

mode_again : (mode : TreeMode) (digits : List ℕ) → is_mode mode digits ≡ true → IsModeText mode digits
mode_again Plain digits is = elim (or_cases (bytes_eq digits (codes "100644")) (bytes_eq digits (codes "100664")) is) [
  | inl new ↦ by_text Plain digits (codes "100644") new (refl, refl)
  | inr old ↦ by_text Plain digits (codes "100664") old (refl, refl)
]
mode_again Executable digits is = by_text Executable digits (codes "100755") is (refl, refl)
mode_again Link digits is = by_text Link digits (codes "120000") is (refl, refl)
mode_again Gitlink digits is = by_text Gitlink digits (codes "160000") is (refl, refl)
mode_again Folder digits is = by_text Folder digits (codes "40000") is (refl, refl)

named_again : (k : ℕ) (e : TreeEntry) (rest : List ℕ) → path_fault e.name ≡ None → length e.object ≡ 20 → named_at k e.mode e.name (0 ∷ (e.object ++ rest)) ≡ Ok (e, rest)
unfolding named_at
named_again k e rest good size =
    let long : leb 21 (suc (length (e.object ++ rest))) ≡ true = le-leb _ _ (omega (arith, length-append e.object rest)) in
    let object : take 20 (e.object ++ rest) ≡ e.object = take_at e.object rest 20 size in
    let after : drop 20 (e.object ++ rest) ≡ rest = drop_at e.object rest 20 size in
    rw (good, long, object, after) refl

moded_again : (k : ℕ) (e : TreeEntry) (rest : List ℕ) → path_fault e.name ≡ None → list_all is_name_byte e.name ≡ true → length e.object ≡ 20 → moded_at k e.mode (e.name ++ 0 ∷ (e.object ++ rest)) ≡ Ok (e, rest)
unfolding moded_at
moded_again k e rest good plain size =
    let tail : List ℕ = 0 ∷ (e.object ++ rest) in
    let at : position ends_name (e.name ++ tail) ≡ Some (length e.name) = first_at ends_name e.name 0 (e.object ++ rest) plain refl in
    let name : take (length e.name) (e.name ++ tail) ≡ e.name = take_at e.name tail (length e.name) refl in
    let behind : drop (length e.name) (e.name ++ tail) ≡ tail = drop_at e.name tail (length e.name) refl in
    rw (at, name, behind) (named_again k e rest good size)

spaced_again : (k : ℕ) (digits : List ℕ) (e : TreeEntry) (text rest : List ℕ) → mode_at digits ≡ Some e.mode → moded_at k e.mode text ≡ Ok (e, rest) → spaced_at k digits (32 ∷ text) ≡ Ok (e, rest)
unfolding spaced_at
spaced_again k digits e text rest mode read = rw mode read

cut_again : (k : ℕ) (digits text : List ℕ) (e : TreeEntry) (rest : List ℕ) → list_all (λ b. not (is_space b)) digits ≡ true → spaced_at k digits (32 ∷ text) ≡ Ok (e, rest) → entry_at k (digits ++ 32 ∷ text) ≡ Ok (e, rest)
unfolding entry_at
cut_again k digits text e rest none read =
    let at : position is_space (digits ++ 32 ∷ text) ≡ Some (length digits) = first_at is_space digits 32 text none refl in
    let front : take (length digits) (digits ++ 32 ∷ text) ≡ digits = take_at digits (32 ∷ text) (length digits) refl in
    let behind : drop (length digits) (digits ++ 32 ∷ text) ≡ 32 ∷ text = drop_at digits (32 ∷ text) (length digits) refl in
    rw (at, front, behind) read

regrouped : (d n o rest : List ℕ) → (d ++ 32 ∷ (n ++ 0 ∷ o)) ++ rest ≡ d ++ 32 ∷ (n ++ 0 ∷ (o ++ rest))
regrouped d n o rest = simp append_assoc

pub entry_again : (k : ℕ) (w : Written) (rest : List ℕ) → IsWritten w → entry_at k (spelled w ++ rest) ≡ Ok (w.entry, rest)
entry_again k w rest fits =
    let e : TreeEntry = w.entry in
    let text : List ℕ = e.name ++ 0 ∷ (e.object ++ rest) in
    let mode = mode_again e.mode w.digits fits.digits in
    ap (entry_at k) (regrouped w.digits e.name e.object rest)
    ∙ cut_again k w.digits text e rest mode.1 (spaced_again k w.digits e text rest mode.0 (moded_again k e rest fits.name fits.plain fits.object))
