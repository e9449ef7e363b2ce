-- What the plan of a rehearsal has of each path.
use Rattle.std.specs.Prelude.{◌≡◌, ◌≤◌, ◌==◌, ◌||◌, ℕ, Bool, true, false, List, [], ◌∷◌, ◌++◌, map, codes}
use Rattle.std.specs.Prelude.{Option, Some, None, if◌then◌else◌}
use Rattle.std.specs.List.{list_any}
use Rattle.edge_kit.specs.Told.{RepoTold}
use Rattle.edge_kit.specs.declared.leaf_state.Mark.TheVariants as mark
use Rattle.eol_convert.specs.declared.action.Action.TheVariants.{Binary, TextCrlf}
use Rattle.tree_encoding.specs.declared.encoding.Encoding.TheVariants.{Utf16Le}
use Rattle.convert_plan.specs.declared.conversion.Conversion.{Conversion}
use Rattle.checkout_core.specs.declared.path.Start.{Start}
use Rattle.checkout_core.specs.declared.path.Start.TheVariants as start
use Rattle.settings_view.specs.declared.view.Driver.{Driver}
use Rattle.checkout_plan.specs.declared.path_plan.PathPlan.{PathPlan}
use Rattle.checkout_plan.specs.declared.path_plan.Plan.{Plan}
use Rattle.rehearsal.specs.Paths.{kind, name, content, in_order}
use Rattle.rehearsal.specs.Repository.{attributes_name, files, IsRepository}
use Rattle.checkout_sources.specs.Sources.{IsPlanned}
use Rattle.rehearsal_numbers.specs.Contents.{name_of}

-- CR and LF for kind 1, the keyword for kind 2, and UTF-16LE for kind 3
abbrev pub conversion_at : ℕ → Conversion
conversion_at k = record {
  ident = k == 2;
  action = if k == 1 then TextCrlf else Binary;
  encoding = if k == 3 then Some Utf16Le else None;
}

abbrev pub is_alpha : ℕ → Bool
is_alpha k = (k == 4) || (k == 5)

abbrev pub is_beta : ℕ → Bool
is_beta k = (k == 6) || (k == 7)

-- The driver `alpha`, which is required, has the kinds 4 and 5, and `beta` has 6 and 7. The kinds below
-- are for the workers. `beta` has this number.
abbrev pub start_at : ℕ → ℕ → Start
start_at beta k =
    if is_alpha k then start.Desk 0 true else if is_beta k then start.Desk beta false else start.Pool

-- `alpha` has place 0 among the drivers of the settings, and `beta` place 1
abbrev pub driver_at : ℕ → Option ℕ
driver_at k = if is_alpha k then Some 0 else if is_beta k then Some 1 else None

-- whether a path with one of these numbers has a kind of the test
abbrev pub has_kind : (ℕ → Bool) → ℕ → List ℕ → Bool
has_kind test seed is = list_any (λ i. test (kind seed i)) is

-- `beta` comes after `alpha`, if that is in use
abbrev pub beta_number : ℕ → List ℕ → ℕ
beta_number seed is = if has_kind is_alpha seed is then 1 else 0

abbrev pub path_at : ℕ → ℕ → ℕ → PathPlan
path_at beta seed i = record {
  path = name seed i;
  object = name_of (content seed i);
  mark = mark.Plain;
  conversion = conversion_at (kind seed i);
  start = start_at beta (kind seed i);
  driver = driver_at (kind seed i);
}

-- the attribute file is written as it is
abbrev pub attributes_path : PathPlan
attributes_path = record {
  path = codes ".gitattributes";
  object = attributes_name;
  mark = mark.Plain;
  conversion = conversion_at 0;
  start = start.Pool;
  driver = None;
}

abbrev pub alpha : Driver
alpha = record { name = codes "alpha"; process = Some (codes "alpha"); required = true }

abbrev pub beta : Driver
beta = record { name = codes "beta"; process = Some (codes "beta"); required = false }

abbrev pub drivers_of : ℕ → List ℕ → List Driver
drivers_of seed is =
    (if has_kind is_alpha seed is then alpha ∷ [] else []) ++ (if has_kind is_beta seed is then beta ∷ [] else [])

-- the attribute file, and then the paths of these numbers
abbrev pub paths_of : ℕ → List ℕ → List PathPlan
paths_of seed is = attributes_path ∷ map (path_at (beta_number seed is) seed) is

pub record IsPlanOf (seed : ℕ) (is : List ℕ) (plan : Plan) : Type 0 where
  pub paths : plan.paths ≡ paths_of seed is
  pub drivers : plan.drivers ≡ drivers_of seed is

-- The repository of a rehearsal has this plan.
abbrev pub HavePlans : Type 0
HavePlans = (seed n : ℕ) → n ≤ 99999 → (told : RepoTold) → IsRepository (files seed (in_order n)) told
    → (plan : Plan) → IsPlanned told plan → IsPlanOf seed (in_order n) plan
