-- Places by the names of drivers, from the last driver to the first.
use Rattle.std.proofs.Common.{◌≡◌, ℕ, suc, ◌+◌, Bool, true, false, cond, List, [], ◌∷◌, ◌++◌, length, take, drop, Option, Some, None, refl, sym, ap, ◌∙◌, arith}
use Rattle.std.specs.Prelude.{slice_get, if◌then◌else◌}
use Rattle.std.proofs.lemmas.List.{drop_all, take_at, drop_at, append_assoc, take-append-drop}
use Rattle.std.proofs.lemmas.Map.Text.{btree_map_updates_str}
use Rattle.std.specs.BTreeMap.{UpdatesBy}
use Rattle.std.specs.Str.{bytes_eq}
use Rattle.std.specs.Ordering.{nat_cmp}
use Rattle.std.specs.Cmp.Lexicographic.{slice_cmp}
use Rattle.attr_line.specs.declared.state.AttrState.{AttrState}
use Rattle.attr_line.specs.declared.state.AttrState.TheVariants as state
use Rattle.checkout_core.specs.declared.path.Start.{Start}
use Rattle.settings_view.specs.declared.view.Driver.{Driver}
use Rattle.checkout_plan.specs.Paths.{place_named, start_named, start_at, start_in, start_of, filter_place, filter_start}
use Rattle.checkout_plan.specs.Seen.{Places, place_in}
use Rattle.checkout_plan.proofs.Files.{folder_cmp}

none_at : (m : Places) (name : List ℕ) → m.entries ≡ [] → place_in m name ≡ None
none_at m name empty = rw empty refl

pub places_none : (m : Places) (drivers : List Driver) → m.entries ≡ [] → (name : List ℕ) → place_in m name ≡ place_named (length drivers) (drop (length drivers) drivers) name
places_none m drivers empty name = none_at m name empty ∙ ap (λ (ds : List Driver). place_named (length drivers) ds name) (sym (drop_all (length drivers) drivers (omega arith)))

-- ---- one driver

whole : (drivers rest before : List Driver) (d : Driver) → rest ≡ take (length rest) drivers → rest ≡ before ++ d ∷ [] → drivers ≡ before ++ (d ∷ drop (length rest) drivers)
whole drivers rest before d front is =
    sym (take-append-drop (length rest) drivers) ∙ ap (λ (ds : List Driver). ds ++ drop (length rest) drivers) (sym front ∙ is) ∙ append_assoc before (d ∷ []) (drop (length rest) drivers)

pub rest_more : (drivers rest before : List Driver) (d : Driver) → rest ≡ take (length rest) drivers → rest ≡ before ++ d ∷ [] → before ≡ take (length before) drivers
rest_more drivers rest before d front is =
    sym (ap (take (length before)) (whole drivers rest before d front is) ∙ take_at before (d ∷ drop (length rest) drivers) (length before) refl)

left : (drivers rest before : List Driver) (d : Driver) → rest ≡ take (length rest) drivers → rest ≡ before ++ d ∷ [] → drop (length before) drivers ≡ d ∷ drop (length rest) drivers
left drivers rest before d front is = ap (drop (length before)) (whole drivers rest before d front is) ∙ drop_at before (d ∷ drop (length rest) drivers) (length before) refl

pub places_more : (drivers rest before : List Driver) (d : Driver) (m n : Places) (key : List ℕ) (place : ℕ) → rest ≡ take (length rest) drivers → rest ≡ before ++ d ∷ [] → length before + 1 ≡ length rest
    → key ≡ d.name → place ≡ length before → UpdatesBy folder_cmp (λ k. slice_cmp nat_cmp key k.now) m n (Some place)
    → ((name : List ℕ) → place_in m name ≡ place_named (length rest) (drop (length rest) drivers) name)
    → (name : List ℕ) → place_in n name ≡ place_named (length before) (drop (length before) drivers) name
places_more drivers rest before d m n key place front is long named numbered updates was name =
    let tail = drop (length rest) drivers in
    let more : length rest ≡ suc (length before) = omega arith in
    btree_map_updates_str key m n (Some place) updates name
    ∙ ap (λ (k : List ℕ). cond (bytes_eq k name) (Some place) (place_in m name)) named
    ∙ ap (λ (k : ℕ). cond (bytes_eq d.name name) (Some k) (place_in m name)) numbered
    ∙ ap (λ (o : Option ℕ). cond (bytes_eq d.name name) (Some (length before)) o) (was name ∙ ap (λ (k : ℕ). place_named k tail name) more)
    ∙ ap (λ (ds : List Driver). place_named (length before) ds name) (sym (left drivers rest before d front is))

-- ---- how a path begins by the place of its driver

start_there : (all ds : List Driver) (place : ℕ) (name : List ℕ) → ((k : ℕ) → slice_get ds k ≡ slice_get all (place + k)) → start_of all (place_named place ds name) ≡ start_named place ds name
start_there all [] place name at = refl
start_there all (d ∷ ds) place name at = by (bytes_eq d.name name) (start_there all ds (suc place) name (λ k. at (suc k) ∙ ap (slice_get all) (omega arith)))
  where
    here : slice_get all place ≡ Some d
    here = ap (slice_get all) (omega arith) ∙ sym (at 0)

    by : (b : Bool) → start_of all (place_named (suc place) ds name) ≡ start_named (suc place) ds name
        → start_of all (if b then Some place else place_named (suc place) ds name) ≡ (if b then start_at place d else start_named (suc place) ds name)
    by true rest = ap (start_in place) here
    by false rest = rest

pub places_start : (drivers : List Driver) (s : AttrState) → start_of drivers (filter_place drivers s) ≡ filter_start drivers s
places_start drivers (state.Value name) = start_there drivers drivers 0 name (λ k. ap (slice_get drivers) (omega arith))
places_start drivers state.Set = refl
places_start drivers state.Unset = refl
places_start drivers state.Unspecified = refl
