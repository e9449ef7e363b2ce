-- What becomes of contents.
use Rattle.std.specs.Prelude.{map, if◌then◌else◌, Some, None}
use Rattle.std.specs.Char.{to_ascii_uppercase}
use Rattle.driver_host.specs.declared.work.Choice.TheVariants as choice
use Rattle.driver_host.specs.declared.work.LateChoice.TheVariants as late
use Rattle.driver_host.specs.Works.{WorkTold}

-- the content in capitals: at once, and where the path may wait at the second request
abbrev pub capitals_told : WorkTold
capitals_told = record {
  first = λ path content can_delay.
      Some (if can_delay then choice.Later else choice.Give (map to_ascii_uppercase content));
  second = λ path content. Some (late.Give (map to_ascii_uppercase content));
  runs = None;
}
