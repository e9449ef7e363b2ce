-- Steps where the first fault decides.
use Rattle.std.specs.Prelude.{Result}
use Rattle.settings_view.specs.declared.fault.SettingFault.{SettingFault}
use Rattle.settings_view.specs.declared.fault.SettingFault.TheVariants.{NoMemory}
use Rattle.byte_path.specs.Steps.{GivesUnless}
pub use Rattle.byte_path.specs.Steps.{◌>>=◌, want}

-- What a function returned, seen through `view`, is what the configuration says, unless memory ran out.
abbrev pub Gives : {X Y : Type 0} → (X → Y) → Result X SettingFault → Result Y SettingFault → Type 0
Gives = GivesUnless NoMemory
