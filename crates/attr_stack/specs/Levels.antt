-- The attribute files that reach the paths of one folder.
use Rattle.std.specs.Prelude.{◌≡◌, ℕ, zero, suc, ◌+◌, false, List, [], ◌∷◌, ◌++◌, length, take, drop, reverse}
use Rattle.std.specs.Prelude.{nat_lt, slice_get, Option, Some, None, if◌then◌else◌}
use Rattle.std.specs.List.{list_any}
use Rattle.std.specs.Option.{option_map}
use Rattle.std.specs.BTreeMap as tree
use Rattle.std.specs.BTreeMap.{BTreeMap}
use Rattle.std.specs.Cmp.Lexicographic.{slice_cmp}
use Rattle.std.specs.Ordering.{nat_cmp}
use Rattle.std.specs.Global.{Vec}
use Rattle.std.specs.Str.{bytes_eq}
use Rattle.attr_line.specs.declared.file.Pair.{Pair}
use Rattle.attr_line.specs.declared.file.AttrFile.{AttrFile}
use Rattle.attr_stack.specs.declared.files.FileAt.{FileAt}
use Rattle.attr_stack.specs.declared.chain.Level.{Level}
use Rattle.attr_stack.specs.declared.chain.Chain.{Chain}
use Rattle.wild_match.specs.Fits.{is_slash}
use Rattle.attr_stack.specs.Pairs.{file_of, file_pairs, ends_folder}

-- the place of a folder's file, from a place on
abbrev pub place_from : ℕ → List FileAt → List ℕ → Option ℕ
place_from k [] folder = None
place_from k (at ∷ files) folder = if bytes_eq at.folder folder then Some k else place_from (suc k) files folder

-- what a map has for a folder
abbrev pub place_in : BTreeMap (Vec ℕ) ℕ → List ℕ → Option ℕ
place_in places folder = tree.get_by (λ (key : Vec ℕ). slice_cmp nat_cmp folder key.items) places

-- the file at a place, if there is one
abbrev pub file_in : List FileAt → Option ℕ → Option AttrFile
file_in files None = None
file_in files (Some place) = option_map (λ (at : FileAt). at.file) (slice_get files place)

-- a map gives each folder the place of its file
abbrev pub ArePlaces : BTreeMap (Vec ℕ) ℕ → List FileAt → Type 0
ArePlaces places files = (folder : List ℕ) → place_in places folder ≡ place_from 0 files folder

-- a file reaches what stands after this many bytes of a path
abbrev pub levels_at : ℕ → Option AttrFile → List Level
levels_at start None = []
levels_at start (Some file) = record { start = start; file = file } ∷ []

-- the file of the folder whose name ends at a place of a text
abbrev pub levels_ending : List FileAt → List ℕ → ℕ → List Level
levels_ending files text place =
    if ends_folder text place then levels_at (place + 1) (file_of files (take place text)) else []

-- the files of the folders whose names end before a place: the deepest first, and the top folder's at the end
abbrev pub levels_before : List FileAt → List ℕ → ℕ → List Level
levels_before files text zero = levels_at 0 (file_of files [])
levels_before files text (suc place) = levels_ending files text place ++ levels_before files text place

-- the levels that stay where only the first bytes of a folder's name are kept
abbrev pub levels_above : ℕ → List Level → List Level
levels_above len [] = []
levels_above len (level ∷ levels) = if nat_lt len level.start then levels_above len levels else level ∷ levels

-- what such a file gives to a path
abbrev pub level_pairs : List ℕ → Level → List Pair
level_pairs path level = file_pairs (drop level.start path) level.file

-- a chain has the files that reach the paths of its folder, the deepest last
abbrev pub IsChain : List FileAt → Chain → Type 0
IsChain files chain =
    reverse chain.levels.items ≡ levels_before files chain.folder.items (length chain.folder.items)

-- a path stands right in a folder, whose name has the `/` at its end
pub record StandsIn (path folder : List ℕ) : Type 0 where
  pub name : List ℕ
  pub is : path ≡ folder ++ name
  pub no_slash : list_any is_slash name ≡ false
