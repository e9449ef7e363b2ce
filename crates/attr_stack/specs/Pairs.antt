-- The pairs of a path as one list, highest precedence first: gitattributes(5).
use Rattle.std.specs.Prelude.{ℕ, zero, suc, ◌+◌, Bool, not, ◌&&◌, ◌==◌, List, [], ◌++◌, length, take, drop}
use Rattle.std.specs.Prelude.{reverse, slice_index, Option, Some, None, if◌then◌else◌}
use Rattle.std.specs.List.{flat_map, find}
use Rattle.std.specs.Option.{option_map}
use Rattle.std.specs.Str.{bytes_eq}
use Rattle.attr_line.specs.declared.file.Pair.{Pair}
use Rattle.attr_line.specs.declared.file.AttrRow.{AttrRow}
use Rattle.attr_line.specs.declared.file.AttrRow.TheVariants.{Rule, Macro}
use Rattle.attr_line.specs.declared.file.AttrFile.{AttrFile}
use Rattle.wild_match.specs.Fits.{is_match}
use Rattle.attr_stack.specs.declared.files.FileAt.{FileAt}
use Rattle.attr_stack.specs.declared.files.AttrFiles.{AttrFiles}
use Rattle.byte_path.specs.Characters.{slash}

-- a row whose pattern matches gives its pairs, from last to first; a macro's line gives none
abbrev pub row_pairs : List ℕ → AttrRow → List Pair
row_pairs path (Rule pattern pairs) = if is_match pattern path then reverse pairs else []
row_pairs path (Macro name pairs) = []

-- the rows of a file, from last to first
abbrev pub file_pairs : List ℕ → AttrFile → List Pair
file_pairs path file = flat_map (row_pairs path) (reverse file.rows)

-- the attribute file of a folder
abbrev pub file_of : List FileAt → List ℕ → Option AttrFile
file_of files folder = option_map (λ (at : FileAt). at.file) (find (λ (at : FileAt). bytes_eq at.folder folder) files)

abbrev pub pairs_inside : List ℕ → Option AttrFile → List Pair
pairs_inside path None = []
pairs_inside path (Some file) = file_pairs path file

-- the file of a folder gives its pairs to a path that the folder holds under this name
abbrev pub folder_pairs : List FileAt → List ℕ → List ℕ → List Pair
folder_pairs files folder inner = pairs_inside inner (file_of files folder)

-- the name of a folder of a path ends at each `/`
abbrev pub ends_folder : List ℕ → ℕ → Bool
ends_folder path place = not (place == 0) && (slice_index path place == slash)

-- what the folder gives whose name ends at a place of a path
abbrev pub pairs_ending : List FileAt → List ℕ → ℕ → List Pair
pairs_ending files path place =
    if ends_folder path place then folder_pairs files (take place path) (drop (place + 1) path) else []

-- what the folders give whose names end before a place: the deepest first, and the top folder, which has the empty
-- name, at the end
abbrev pub pairs_before : List FileAt → List ℕ → ℕ → List Pair
pairs_before files path zero = folder_pairs files [] path
pairs_before files path (suc place) = pairs_ending files path place ++ pairs_before files path place

-- those of `info/attributes`, then of the path's own folder, then of each parent up to the top, then of the lowest file
abbrev pub pairs_of : AttrFiles → List ℕ → List Pair
pairs_of files path =
    file_pairs path files.info ++ (pairs_before files.files path (length path) ++ file_pairs path files.base)
