-- Drafts of drivers as data: what is said so far, by name.
use Rattle.std.specs.Prelude.{ℕ, false, List, map, codes, Option, Some, None, option_copied, if◌then◌else◌}
use Rattle.std.specs.Ordering.{nat_cmp}
use Rattle.std.specs.declared.cmp.Ordering.{Ordering}
use Rattle.std.specs.Str.{bytes_eq}
use Rattle.std.specs.Cmp.Lexicographic.{slice_cmp}
use Rattle.std.specs.BTreeMap.{BTreeMap, get_by, IsOrdered}
use Rattle.std.specs.Borrow.{Bor}
use Rattle.git_config.specs.declared.setting.Setting.{Setting}
use Rattle.settings_view.specs.declared.drivers.Draft.{Draft}
use Rattle.settings_view.specs.Value.{bool_of}
use Rattle.settings_view.specs.Drivers.{Said, said_of, speaks_of, command_told}

abbrev pub said_by : Draft → Said
said_by d = record {
  process = option_copied d.process;
  smudge = option_copied d.smudge;
  clean = option_copied d.clean;
  required = d.required;
}

-- what is said of a driver, which is nothing before its first setting
abbrev pub said_if : Option Draft → Said
said_if None = record { process = None; smudge = None; clean = None; required = Some false }
said_if (Some d) = said_by d

abbrev pub Drafts : Type 0
Drafts = BTreeMap (Bor (List ℕ)) Draft

abbrev pub name_cmp : Bor (List ℕ) → Bor (List ℕ) → Ordering
name_cmp a b = slice_cmp nat_cmp a.now b.now

abbrev pub IsInOrder : Drafts → Type 0
IsInOrder m = IsOrdered name_cmp m

abbrev pub said_at : Drafts → List ℕ → Said
said_at m name = said_if (get_by (λ k. slice_cmp nat_cmp name k.now) m)

abbrev pub names_in : Drafts → List (List ℕ)
names_in m = map (λ e. e.0.now) m.entries

abbrev pub entry_seen : Bor (List ℕ) × Draft → List ℕ × Said
entry_seen e = (e.0.now, said_by e.1)

abbrev pub entries_seen : Drafts → List (List ℕ × Said)
entries_seen m = map entry_seen m.entries

-- a driver's name with what the settings say of it
abbrev pub entry_of : List Setting → List ℕ → List ℕ × Said
entry_of settings name = (name, said_of settings name)

-- what one more setting of a driver says
abbrev pub said_with : Setting → Said → Said
said_with s said = record {
  process = if bytes_eq s.key (codes "process") then command_told (Some s.value) else said.process;
  smudge = if bytes_eq s.key (codes "smudge") then command_told (Some s.value) else said.smudge;
  clean = if bytes_eq s.key (codes "clean") then command_told (Some s.value) else said.clean;
  required = if bytes_eq s.key (codes "required") then bool_of s.value else said.required;
}

abbrev pub said_after : Setting → List ℕ → Said → Said
said_after s name said = if speaks_of name s then said_with s said else said
