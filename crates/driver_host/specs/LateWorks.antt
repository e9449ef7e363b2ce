-- The sample work.
use Rattle.std.specs.Prelude.{ℕ, if◌then◌else◌, List, Option, Some, None}
use Rattle.std.specs.Cmp.Lexicographic.{slice_cmp}
use Rattle.std.specs.Ordering.{nat_cmp}
use Rattle.std.specs.BTreeMap as tree
use Rattle.std.specs.BTreeMap.{BTreeMap}
use Rattle.std.specs.Global.{Vec}
use Rattle.driver_host.specs.declared.work.Choice.TheVariants as choice
use Rattle.driver_host.specs.declared.work.LateChoice.TheVariants as late
use Rattle.driver_host.specs.Works.{WorkTold}

-- the content that is kept of a path
abbrev pub kept_at : BTreeMap (Vec ℕ) (List ℕ) → List ℕ → Option (List ℕ)
kept_at kept path = tree.get_by (λ (key : Vec ℕ). slice_cmp nat_cmp path key.items) kept

-- Later where it may be, and else the content, which comes at the second request too
abbrev pub late_told : WorkTold
late_told = record {
  first = λ path content can_delay. Some (if can_delay then choice.Later else choice.Give content);
  second = λ path content. Some (late.Give content);
  runs = None;
}
