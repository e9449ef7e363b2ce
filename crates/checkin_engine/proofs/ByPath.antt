-- The entries that the fates in turn leave are those that the paths' fates leave.
use Rattle.std.proofs.Common.{◌≡◌, ℕ, Bool, true, false, if◌then◌else◌, List, [], ◌∷◌, ◌++◌, map, length, None, refl, sym, ap, ◌∙◌, arith}
use Rattle.std.specs.Prelude.{flat_map, not}
use Rattle.std.specs.List.{list_all, AllByRecursion}
use Rattle.std.specs.Str.{bytes_eq}
use Rattle.std.proofs.lemmas.Bool.{and_parts}
use Rattle.std.proofs.lemmas.Slice.Eq.{bytes_eq-Decides}
use Rattle.git_index.specs.declared.entry.Entry.{Entry}
use Rattle.byte_path.specs.Path.{path_fault}
use Rattle.git_index.specs.Spelling.{IsEntry}
use Rattle.attr_stack.specs.declared.files.AttrFiles.{AttrFiles}
use Rattle.settings_view.specs.declared.view.Driver.{Driver}
use Rattle.settings_view.specs.declared.view.Settings.{Settings}
use Rattle.checkout_plan.specs.Paths.{first_entries_after, first_entries}
use Rattle.checkin_paths.specs.declared.path.CheckinPath.{CheckinPath}
use Rattle.checkin_paths.specs.declared.fate.Fate.{Fate}
use Rattle.checkin_paths.specs.declared.fate.Fate.TheVariants.{Kept}
use Rattle.checkin_paths.specs.Paths.{checkin_path, checkin_paths}
use Rattle.checkin_engine.specs.Indexes.{entry_after, fate_at, new_entries}
use Rattle.checkin_engine.specs.InTurn.{next_fate, fates_behind, entries_after, entries_in_turn}
use Rattle.checkin_paths.specs.ReadPaths.{are_apart}

-- a function has these fates at the names of these paths
abbrev Agrees : (List ℕ → Fate) → List CheckinPath → List Fate → Type 0
Agrees f [] fates = Unit {0}
Agrees f (p ∷ ps) [] = Unit {0}
Agrees f (p ∷ ps) (fate ∷ fates) = (f p.path ≡ fate) × Agrees f ps fates

not_true : (b : Bool) → not b ≡ true → b ≡ false
not_true true is = absurd cc
not_true false is = refl

-- another path before them doesn't matter
behind_agrees : (f : List ℕ → Fate) (name : List ℕ) (first : Fate) (ps : List CheckinPath) (fates : List Fate) → list_all (λ (q : CheckinPath). not (bytes_eq name q.path)) ps ≡ true → Agrees f ps fates
    → Agrees (λ (n : List ℕ). if bytes_eq name n then first else f n) ps fates
behind_agrees f name first [] fates all agrees = tt
behind_agrees f name first (p ∷ ps) [] all agrees = tt
behind_agrees f name first (p ∷ ps) (fate ∷ fates) all agrees =
    let parts = and_parts (not (bytes_eq name p.path)) (list_all (λ (q : CheckinPath). not (bytes_eq name q.path)) ps) all in
    (ap (λ (b : Bool). if b then first else f p.path) (not_true (bytes_eq name p.path) parts.0) ∙ agrees.0, behind_agrees f name first ps fates parts.1 agrees.1)

fates_agree : (ps : List CheckinPath) (fates : List Fate) → are_apart ps ≡ true → Agrees (fate_at ps fates) ps fates
fates_agree [] fates apart = tt
fates_agree (p ∷ ps) [] apart = tt
fates_agree (p ∷ ps) (fate ∷ fates) apart =
    let parts = and_parts (list_all (λ (q : CheckinPath). not (bytes_eq p.path q.path)) ps) (are_apart ps) apart in (
      ap (λ (b : Bool). if b then fate else fate_at ps fates p.path) ((bytes_eq-Decides p.path p.path).1 refl),
      behind_agrees (fate_at ps fates) p.path fate ps fates parts.0 (fates_agree ps fates parts.1),
    )

abbrev names_of : List CheckinPath → List (List ℕ)
names_of ps = map (λ p. p.path) ps

abbrev entry_names : List Entry → List (List ℕ)
entry_names es = map (λ e. e.path) es

paths_named : (files : AttrFiles) (drivers : List Driver) (settings : Settings) (es : List Entry) → names_of (map (checkin_path files drivers settings) es) ≡ entry_names es
paths_named files drivers settings [] = refl
paths_named files drivers settings (e ∷ es) = ap (λ (l : List (List ℕ)). e.path ∷ l) (paths_named files drivers settings es)

abbrev head_of : List (List ℕ) → List ℕ
head_of [] = []
head_of (x ∷ xs) = x

abbrev rest_of : List (List ℕ) → List (List ℕ)
rest_of [] = []
rest_of (x ∷ xs) = xs

not_empty : (path : List ℕ) → path_fault path ≡ None → bytes_eq path [] ≡ false
unfolding path_fault
not_empty [] is = absurd cc
not_empty (x ∷ xs) is = refl

-- what each entry is by its path's fate
abbrev by_fate : (List ℕ → Fate) → Entry → List Entry
by_fate f e = entry_after (f e.path) e

module _ (f : List ℕ → Fate) where
  same_path : (e : Entry) (fate : Fate) (rest rest' : List Entry) → f e.path ≡ fate → rest ≡ rest' → entry_after fate e ++ rest ≡ by_fate f e ++ rest'
  same_path e fate rest rest' is same = ap (λ (g : Fate). entry_after g e ++ rest) (sym is) ∙ ap (λ (l : List Entry). by_fate f e ++ l) same

  -- what the entries behind come to, whatever stands before them
  abbrev Turns : List Entry → Type 0
  Turns es = (before : List ℕ) (fate : Fate) (ps : List CheckinPath) (fates : List Fate) → f before ≡ fate → names_of ps ≡ entry_names (first_entries_after before es) → length ps ≡ length fates → Agrees f ps fates
      → entries_after fate before es fates ≡ flat_map (by_fate f) es

  next : (e : Entry) (es : List Entry) (ps : List CheckinPath) (fates : List Fate) → Turns es → names_of ps ≡ e.path ∷ entry_names (first_entries_after e.path es) → length ps ≡ length fates → Agrees f ps fates
      → entry_after (next_fate fates) e ++ entries_after (next_fate fates) e.path es (fates_behind fates) ≡ by_fate f e ++ flat_map (by_fate f) es
  next e es [] fates turns named many agrees = absurd cc
  next e es (p ∷ ps) [] turns named many agrees = absurd cc
  next e es (p ∷ ps) (fate ∷ fates) turns named many agrees =
      let here : f e.path ≡ fate = ap f (sym (ap head_of named)) ∙ agrees.0 in
      same_path e fate (entries_after fate e.path es fates) (flat_map (by_fate f) es) here (turns e.path fate ps fates here (ap rest_of named) (omega (arith, many)) agrees.1)

  turn : (es : List Entry) → Turns es
  turn [] before fate ps fates at named many agrees = refl
  turn (e ∷ es) before fate ps fates at named many agrees = by (turn es) (bytes_eq e.path before) refl named
    where
      by : Turns es → (b : Bool) → bytes_eq e.path before ≡ b → names_of ps ≡ entry_names (if b then first_entries_after before es else e ∷ first_entries_after e.path es)
          → (if b then entry_after fate e ++ entries_after fate before es fates else entry_after (next_fate fates) e ++ entries_after (next_fate fates) e.path es (fates_behind fates)) ≡ by_fate f e ++ flat_map (by_fate f) es
      by turns true is named = same_path e fate (entries_after fate before es fates) (flat_map (by_fate f) es) (ap f ((bytes_eq-Decides e.path before).0 is) ∙ at) (turns before fate ps fates at named many agrees)
      by turns false is named = next e es ps fates turns named many agrees

  -- no path is empty, so the first fate doesn't matter
  first_turn : (es : List Entry) (ps : List CheckinPath) (fates : List Fate) → AllByRecursion IsEntry es → names_of ps ≡ entry_names (first_entries es) → length ps ≡ length fates → Agrees f ps fates
      → entries_in_turn es fates ≡ flat_map (by_fate f) es
  first_turn [] ps fates each named many agrees = refl
  first_turn (e ∷ es) ps fates each named many agrees = by (bytes_eq e.path []) (not_empty e.path each.0.path) named
    where
      by : (b : Bool) → b ≡ false → names_of ps ≡ entry_names (if b then first_entries_after [] es else e ∷ first_entries_after e.path es)
          → (if b then entry_after Kept e ++ entries_after Kept [] es fates else entry_after (next_fate fates) e ++ entries_after (next_fate fates) e.path es (fates_behind fates)) ≡ by_fate f e ++ flat_map (by_fate f) es
      by true is named = absurd cc
      by false is named = next e es ps fates (turn es) named many agrees

-- the entries that the fates in turn leave are those after the check-in
pub in_turn : (files : AttrFiles) (drivers : List Driver) (settings : Settings) (es : List Entry) (ps : List CheckinPath) (fates : List Fate) → AllByRecursion IsEntry es → ps ≡ checkin_paths files drivers settings es
    → are_apart ps ≡ true → length ps ≡ length fates → entries_in_turn es fates ≡ new_entries ps fates es
in_turn files drivers settings es ps fates each is apart many =
    first_turn (fate_at ps fates) es ps fates each (ap names_of is ∙ paths_named files drivers settings (first_entries es)) many (fates_agree ps fates apart)
