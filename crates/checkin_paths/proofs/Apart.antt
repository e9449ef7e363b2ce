-- The paths of an index have a name each.
use Rattle.std.proofs.Common.{◌≡◌, ◌⊎◌, ℕ, Bool, true, false, if◌then◌else◌, Ordering, Less, Equal, Greater, List, [], ◌∷◌, map, refl, sym, subst, ◌∙◌, inl, inr}
use Rattle.std.specs.Prelude.{not}
use Rattle.std.specs.List.{list_all, AllByRecursion}
use Rattle.std.specs.Ordering.{nat_cmp, is_lt, is_eq}
use Rattle.std.specs.Cmp.Lexicographic.{slice_cmp}
use Rattle.std.specs.Str.{bytes_eq}
use Rattle.std.proofs.lemmas.Bool.{and_parts, and_from}
use Rattle.std.proofs.lemmas.Map.Text.{is_eq-slice_cmp}
use Rattle.std.proofs.lemmas.Slice.Eq.{bytes_eq-Decides}
use Rattle.git_index.specs.declared.entry.Entry.{Entry}
use Rattle.git_index.specs.Spelling.{pairwise, is_before, is_below, PathsAreOrdered}
use Rattle.attr_stack.specs.declared.files.AttrFiles.{AttrFiles}
use Rattle.settings_view.specs.declared.view.Driver.{Driver}
use Rattle.settings_view.specs.declared.view.Settings.{Settings}
use Rattle.checkout_plan.specs.Paths.{first_entries_after, first_entries}
use Rattle.checkin_paths.specs.declared.path.CheckinPath.{CheckinPath}
use Rattle.checkin_paths.specs.Paths.{checkin_path, checkin_paths}
use Rattle.checkin_paths.specs.ReadPaths.{are_apart}

abbrev entry_precedes : Entry → Entry → Bool
entry_precedes d e = is_before d.path e.path

-- the path is the entry's, or comes before it
abbrev IsUpTo : List ℕ → Entry → Type 0
IsUpTo path e = (e.path ≡ path) ⊎ (is_before path e.path ≡ true)

up_to_below : PathsAreOrdered → (e : Entry) (es : List Entry) → list_all (is_below e) es ≡ true → AllByRecursion (IsUpTo e.path) es
up_to_below law e [] h = tt
up_to_below law e (f ∷ es) h =
    let p = and_parts (is_below e f) (list_all (is_below e) es) h in
    let first : IsUpTo e.path f = elim (law.entries e f p.0) [ inl before ↦ inr before | inr tied ↦ inl (sym tied.0) ] in
    (first, up_to_below law e es p.1)

-- if an entry has another path than the last one, its path comes after the last
other_is_behind : (path : List ℕ) (e : Entry) → bytes_eq e.path path ≡ false → IsUpTo path e → is_before path e.path ≡ true
other_is_behind path e other (inl same) = let no : true ≡ false = sym ((bytes_eq-Decides e.path path).1 same) ∙ other in absurd cc
other_is_behind path e other (inr before) = before

-- the first entries after a path come after each path up to it
first_is_behind : PathsAreOrdered → (b c : List ℕ) (es : List Entry) → (b ≡ c) ⊎ (is_before b c ≡ true) → AllByRecursion (IsUpTo c) es → pairwise is_below es ≡ true
    → list_all (λ q. is_before b q.path) (first_entries_after c es) ≡ true
first_is_behind law b c [] up all rise = refl
first_is_behind law b c (e ∷ es) up all rise = elim (bytes_eq e.path c) as (λ t. bytes_eq e.path c ≡ t
    → list_all (λ q. is_before b q.path) (if t then first_entries_after c es else e ∷ first_entries_after e.path es) ≡ true) [
      | true ↦ λ same. first_is_behind law b c es up all.1 (and_parts (list_all (is_below e) es) (pairwise is_below es) rise).1
      | false ↦ λ other.
          let parts = and_parts (list_all (is_below e) es) (pairwise is_below es) rise in
          let behind : is_before b e.path ≡ true = elim up [
            | inl same ↦ subst (λ (p : List ℕ). is_before p e.path ≡ true) (sym same) (other_is_behind c e other all.0)
            | inr before ↦ law.passes b c e.path before (other_is_behind c e other all.0)
          ] in
          and_from (is_before b e.path) (list_all (λ q. is_before b q.path) (first_entries_after e.path es)) behind (first_is_behind law b e.path es (inr behind) (up_to_below law e es parts.0) parts.1)
    ] refl

first_rise : PathsAreOrdered → (c : List ℕ) (es : List Entry) → pairwise is_below es ≡ true → pairwise entry_precedes (first_entries_after c es) ≡ true
first_rise law c [] rise = refl
first_rise law c (e ∷ es) rise = elim (bytes_eq e.path c) as (λ t. bytes_eq e.path c ≡ t
    → pairwise entry_precedes (if t then first_entries_after c es else e ∷ first_entries_after e.path es) ≡ true) [
      | true ↦ λ same. first_rise law c es (and_parts (list_all (is_below e) es) (pairwise is_below es) rise).1
      | false ↦ λ other.
          let parts = and_parts (list_all (is_below e) es) (pairwise is_below es) rise in
          and_from (list_all (λ q. is_before e.path q.path) (first_entries_after e.path es)) (pairwise entry_precedes (first_entries_after e.path es))
          (first_is_behind law e.path e.path es (inl refl) (up_to_below law e es parts.0) parts.1) (first_rise law e.path es parts.1)
    ] refl

-- paths in order are two paths
ordered_differ : (o : Ordering) → is_lt o ≡ true → not (is_eq o) ≡ true
ordered_differ Less lt = refl
ordered_differ Equal lt = absurd cc
ordered_differ Greater lt = absurd cc

differ : (p q : List ℕ) → is_before p q ≡ true → not (bytes_eq p q) ≡ true
differ p q lt = subst (λ (b : Bool). not b ≡ true) (is_eq-slice_cmp p q) (ordered_differ (slice_cmp nat_cmp p q) lt)

module _ (files : AttrFiles) (drivers : List Driver) (settings : Settings) where
  all_differ : (e : Entry) (es : List Entry) → list_all (entry_precedes e) es ≡ true → list_all (λ (q : CheckinPath). not (bytes_eq e.path q.path)) (map (checkin_path files drivers settings) es) ≡ true
  all_differ e [] all = refl
  all_differ e (f ∷ es) all =
      let parts = and_parts (entry_precedes e f) (list_all (entry_precedes e) es) all in
      and_from (not (bytes_eq e.path f.path)) (list_all (λ (q : CheckinPath). not (bytes_eq e.path q.path)) (map (checkin_path files drivers settings) es)) (differ e.path f.path parts.0) (all_differ e es parts.1)

  paths_differ : (es : List Entry) → pairwise entry_precedes es ≡ true → are_apart (map (checkin_path files drivers settings) es) ≡ true
  paths_differ [] rise = refl
  paths_differ (e ∷ es) rise =
      let parts = and_parts (list_all (entry_precedes e) es) (pairwise entry_precedes es) rise in
      and_from (list_all (λ (q : CheckinPath). not (bytes_eq e.path q.path)) (map (checkin_path files drivers settings) es)) (are_apart (map (checkin_path files drivers settings) es)) (all_differ e es parts.0) (paths_differ es parts.1)

  -- the paths of entries that rise have a name each
  pub paths_are_apart : PathsAreOrdered → (es : List Entry) → pairwise is_below es ≡ true → are_apart (checkin_paths files drivers settings es) ≡ true
  paths_are_apart law es rise = paths_differ (first_entries es) (first_rise law [] es rise)
