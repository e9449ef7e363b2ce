-- The plan of a rehearsal's repository.
use Rattle.std.proofs.Common.{◌≡◌, ℕ, ◌+◌, ◌*◌, ◌<◌, Bool, true, false, not, ◌&&◌, List, [], ◌∷◌, ◌++◌, refl, sym, ap, ◌∙◌, map}
use Rattle.std.specs.Prelude.{codes, ◌||◌, if◌then◌else◌}
use Rattle.std.specs.List.{list_any, list_all}
use Rattle.std.specs.Str.{bytes_eq}
use Rattle.std.proofs.lemmas.Bool.{and_parts, true≢false}
use Rattle.std.proofs.lemmas.Slice.Eq.{bytes_eq-Decides}
use Rattle.git_index.specs.declared.entry.Entry.{Entry}
use Rattle.git_index.specs.Spelling.{pairwise, is_alone}
use Rattle.checkout_plan.specs.declared.path_plan.PathPlan.{PathPlan}
use Rattle.checkout_plan.specs.Paths.{first_entries, first_entries_after, asked_paths, asked_path, path_among, start_among, asks_for, is_desk_of, is_used, number_at, plan_with}
use Rattle.rehearsal.specs.Paths.{kind, name}
use Rattle.rehearsal.specs.Repository.{entry_of, entries, files, file}
use Rattle.rehearsal_numbers.specs.Plans.{alpha, beta, is_alpha, is_beta, start_at, has_kind, beta_number, path_at, attributes_path, IsPlanOf}
use Rattle.rehearsal_numbers.proofs.Asked.{settings, given, first, first_is, asked_is, eight, below_eight}

-- two paths that differ, both ways
turned : (a b : List ℕ) → bytes_eq a b ≡ false → bytes_eq b a ≡ false
turned a b h = go (bytes_eq b a) refl
  where
    go : (t : Bool) → bytes_eq b a ≡ t → bytes_eq b a ≡ false
    go false e = e
    go true e =
        let same : b ≡ a = (bytes_eq-Decides b a).0 e in
        absurd (true≢false (sym e ∙ ap (λ (x : List ℕ). bytes_eq x a) same ∙ ap (λ (x : List ℕ). bytes_eq a x) (sym same) ∙ h))

pub apart : (t : Bool) → not (t && true) ≡ true → t ≡ false
apart true h = absurd (true≢false (sym h))
apart false h = refl

abbrev pub entries_at : ℕ → List ℕ → List Entry
entries_at seed is = map entry_of (map (file seed) is)

abbrev bare : List ℕ → Entry
bare path = entry_of (record { path = path; content = [] })

-- no path stands there twice, so each entry is the first of its path
kept : (seed : ℕ) (before : List ℕ) (is : List ℕ)
    → list_all (λ e. not (bytes_eq before e.path && true)) (entries_at seed is) ≡ true
    → pairwise is_alone (entries_at seed is) ≡ true
    → first_entries_after before (entries_at seed is) ≡ entries_at seed is
kept seed before [] a p = refl
kept seed before (i ∷ is) a p =
    let one = and_parts (not (bytes_eq before (name seed i) && true)) _ a in
    let more = and_parts (list_all (is_alone (entry_of (file seed i))) (entries_at seed is)) _ p in
    rw (turned before (name seed i) (apart (bytes_eq before (name seed i)) one.0))
    (ap (λ (es : List Entry). entry_of (file seed i) ∷ es) (kept seed (name seed i) is more.0 more.1))

first_ones : (seed : ℕ) (is : List ℕ) → pairwise is_alone (entries (files seed is)) ≡ true
    → first_entries (entries (files seed is)) ≡ entries (files seed is)
first_ones seed is p =
    let more = and_parts (list_all (is_alone (entry_of first)) (entries_at seed is)) _ p in
    ap (λ (es : List Entry). entry_of first ∷ es) (kept seed (codes ".gitattributes") is more.0 more.1)

-- the paths as they are asked for
abbrev pub asked : ℕ → List ℕ → List PathPlan
asked seed is = attributes_path ∷ map (path_at 1 seed) is

asked_all : (seed : ℕ) (is : List ℕ) → map (asked_path given settings) (entries_at seed is) ≡ map (path_at 1 seed) is
asked_all seed [] = refl
asked_all seed (i ∷ is) = λ j. asked_is seed i j ∷ asked_all seed is j

pub asked_are : (seed : ℕ) (is : List ℕ) → pairwise is_alone (entries (files seed is)) ≡ true
    → asked_paths given settings (entries (files seed is)) ≡ asked seed is
asked_are seed is p =
    ap (map (asked_path given settings)) (first_ones seed is p) ∙ (λ j. first_is j ∷ asked_all seed is j)

-- which drivers are asked for
uses : (place : ℕ) (test : ℕ → Bool) → ((k : ℕ) → k < 8 → is_desk_of place (start_at 1 k) ≡ test k) → (seed : ℕ)
    (is : List ℕ) → list_any (asks_for place) (map (path_at 1 seed) is) ≡ has_kind test seed is
uses place test one seed [] = refl
uses place test one seed (i ∷ is) =
    λ j. one (kind seed i) (below_eight (seed + 7 * i)) j || uses place test one seed is j

alpha_used : (seed : ℕ) (is : List ℕ) → is_used (asked seed is) 0 ≡ has_kind is_alpha seed is
alpha_used = uses 0 is_alpha
    (eight (λ k. is_desk_of 0 (start_at 1 k) ≡ is_alpha k) refl refl refl refl refl refl refl refl)

beta_used : (seed : ℕ) (is : List ℕ) → is_used (asked seed is) 1 ≡ has_kind is_beta seed is
beta_used = uses 1 is_beta
    (eight (λ k. is_desk_of 1 (start_at 1 k) ≡ is_beta k) refl refl refl refl refl refl refl refl)

-- and by which numbers
start_is : (paths : List PathPlan) (k : ℕ) → k < 8 → start_among paths (start_at 1 k) ≡ start_at (number_at paths 1) k
start_is paths =
    eight (λ k. start_among paths (start_at 1 k) ≡ start_at (number_at paths 1) k)
    refl refl refl refl refl refl refl refl

beta_is : (seed : ℕ) (is : List ℕ) → number_at (asked seed is) 1 ≡ beta_number seed is
beta_is seed is = ap (λ (t : Bool). if t then 1 else 0) (alpha_used seed is)

among : (paths : List PathPlan) (b : ℕ) → number_at paths 1 ≡ b → (seed : ℕ) (is : List ℕ)
    → map (path_among paths) (map (path_at 1 seed) is) ≡ map (path_at b seed) is
among paths b e seed [] = refl
among paths b e seed (i ∷ is) =
    let k = kind seed i in
    let one : start_among paths (start_at 1 k) ≡ start_at b k =
    start_is paths k (below_eight (seed + 7 * i)) ∙ ap (λ (n : ℕ). start_at n k) e in
    λ j. record (path_at b seed i) { start = one j } ∷ among paths b e seed is j

drivers_are : (a b : Bool) → (if a then alpha ∷ (if b then beta ∷ [] else []) else (if b then beta ∷ [] else []))
    ≡ (if a then alpha ∷ [] else []) ++ (if b then beta ∷ [] else [])
drivers_are true b = refl
drivers_are false b = refl

pub plan_is : (seed : ℕ) (is : List ℕ) → IsPlanOf seed is (plan_with given (asked seed is) settings)
plan_is seed is = record {
  paths = λ j. attributes_path ∷ among (asked seed is) (beta_number seed is) (beta_is seed is) seed is j;
  drivers = (λ j. if alpha_used seed is j then alpha ∷ (if beta_used seed is j then beta ∷ [] else []) else (if beta_used seed is j then beta ∷ [] else []))
      ∙ drivers_are (has_kind is_alpha seed is) (has_kind is_beta seed is);
}
