-- The filter drivers.
use Rattle.std.specs.Prelude.{ℕ, Bool, false, not, ◌&&◌, ◌==◌, List, [], ◌∷◌, length, map, fold, codes, Option}
use Rattle.std.specs.Prelude.{Some, None, Result, Ok, Err, if◌then◌else◌}
use Rattle.std.specs.List.{list_any}
use Rattle.std.specs.Str.{bytes_eq}
use Rattle.std.specs.Ordering.{nat_cmp, match_ordering}
use Rattle.std.specs.declared.cmp.Ordering.{Ordering}
use Rattle.std.specs.Cmp.Lexicographic.{slice_cmp}
use Rattle.std.specs.List.Sorted.{IsStrictlySortedBy}
use Rattle.byte_path.specs.Characters.{nul, is_nul}
use Rattle.git_config.specs.declared.setting.Setting.{Setting}
use Rattle.settings_view.specs.declared.drivers.SingleRun.{SingleRun}
use Rattle.settings_view.specs.declared.drivers.SingleRun.TheVariants.{Smudge, Clean}
use Rattle.settings_view.specs.declared.fault.KeyId.TheVariants.{Required}
use Rattle.settings_view.specs.declared.fault.SettingFault.{SettingFault}
use Rattle.settings_view.specs.declared.fault.SettingFault.TheVariants.{BadBool}
use Rattle.settings_view.specs.declared.view.Driver.{Driver}
use Rattle.settings_view.specs.Value.{bool_of, text_of}
use Rattle.settings_view.specs.Keys.{last_value}
use Rattle.settings_view.specs.Fault.{◌>>=◌}

-- the driver of a setting: the subsection of `filter`
abbrev pub driver_name : Setting → Option (List ℕ)
driver_name s = if bytes_eq s.section (codes "filter") then s.sub else None

-- the order of bytes
abbrev pub name_order : List ℕ → List ℕ → Ordering
name_order a b = slice_cmp nat_cmp a b

-- the names with one more, in the order of bytes, each once
abbrev pub with_name : List ℕ → List (List ℕ) → List (List ℕ)
with_name name [] = name ∷ []
with_name name (n ∷ ns) = match_ordering (name_order name n) (name ∷ n ∷ ns) (n ∷ ns) (n ∷ with_name name ns)

abbrev pub with_driver : List (List ℕ) → Option (List ℕ) → List (List ℕ)
with_driver names None = names
with_driver names (Some name) = with_name name names

-- the names of the drivers
unfoldable pub names_of : List Setting → List (List ℕ)
names_of settings = fold (λ names s. with_driver names (driver_name s)) [] settings

abbrev pub is_named : List ℕ → Option (List ℕ) → Bool
is_named name None = false
is_named name (Some n) = bytes_eq n name

abbrev pub speaks_of : List ℕ → Setting → Bool
speaks_of name s = is_named name (driver_name s)

-- a key of a driver
unfoldable pub is_driver_key : List ℕ → List ℕ → Setting → Bool
is_driver_key name key s = speaks_of name s && bytes_eq s.key key

-- a text is a command unless it is empty or holds a NUL
abbrev pub is_command : List ℕ → Bool
is_command text = not (length text == 0) && not (list_any is_nul text)

abbrev pub command_text : List ℕ → Option (List ℕ)
command_text text = if is_command text then Some text else None

-- the command that a key's last value is
abbrev pub command_told : Option (Option (List ℕ)) → Option (List ℕ)
command_told None = None
command_told (Some value) = command_text (text_of value)

-- what runs a driver: its `process`, or else a NUL and the command of a single run
abbrev pub process_by : Option (List ℕ) → Option (List ℕ) → Option (List ℕ)
process_by (Some process) single = Some process
process_by None (Some single) = Some (nul ∷ single)
process_by None None = None

-- a driver isn't required if nothing says so
abbrev pub required_told : Option (Option (List ℕ)) → Option Bool
required_told None = Some false
required_told (Some value) = bool_of value

-- what is said of a driver: its commands, and whether it is required, if that is a truth value
pub record Said : Type 0 where
  pub process : Option (List ℕ)
  pub smudge : Option (List ℕ)
  pub clean : Option (List ℕ)
  pub required : Option Bool

-- the command of a single run, by what it does
abbrev pub single_of : SingleRun → Said → Option (List ℕ)
single_of Smudge said = said.smudge
single_of Clean said = said.clean

-- what the last values of its four keys say of a driver
unfoldable pub said_of : List Setting → List ℕ → Said
said_of settings name = record {
  process = command_told (last_value (is_driver_key name (codes "process")) settings);
  smudge = command_told (last_value (is_driver_key name (codes "smudge")) settings);
  clean = command_told (last_value (is_driver_key name (codes "clean")) settings);
  required = required_told (last_value (is_driver_key name (codes "required")) settings);
}

-- a driver, or the fault if `required` is no truth value
abbrev pub required_driver : List ℕ → Option (List ℕ) → Option Bool → Result Driver SettingFault
required_driver name process None = Err (BadBool Required)
required_driver name process (Some required) = Ok (record { name = name; process = process; required = required })

abbrev pub driver_from : SingleRun → List ℕ → Said → Result Driver SettingFault
driver_from single name said =
    required_driver name (process_by said.process (single_of single said)) said.required

-- the drivers of these names, or the first fault
abbrev pub drivers_named : SingleRun → List Setting → List (List ℕ) → Result (List Driver) SettingFault
drivers_named single settings [] = Ok []
drivers_named single settings (name ∷ names) = do
  driver ← driver_from single name (said_of settings name)
  drivers ← drivers_named single settings names
  Ok (driver ∷ drivers)

-- the drivers in order of name
abbrev pub drivers_told : SingleRun → List Setting → Result (List Driver) SettingFault
drivers_told single settings = drivers_named single settings (names_of settings)

abbrev pub IsRising : List (List ℕ) → Type 0
IsRising names = IsStrictlySortedBy name_order names

-- each name once, in the order of bytes
abbrev pub StandsByName : List Driver → Type 0
StandsByName drivers = IsRising (map (λ d. d.name) drivers)
