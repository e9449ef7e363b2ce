-- The attribute files of an index (gitattributes(5)).
use Rattle.std.specs.Prelude.{ℕ, Bool, true, false, ◌-◌, ◌+◌, ◌&&◌, ◌||◌, ◌==◌, ◌^◌, nat_eq, min}
use Rattle.std.specs.Prelude.{not, sum_by, List, [], ◌∷◌, length, take, fold, filter, codes}
use Rattle.std.specs.List.{ends_with}
use Rattle.std.specs.Str.{bytes_eq}
use Rattle.std.specs.Ordering.{nat_cmp, match_ordering}
use Rattle.std.specs.Cmp.Lexicographic.{slice_cmp}
use Rattle.git_index.specs.declared.entry.Entry.{Entry}
use Rattle.git_index.specs.declared.entry.Mode.{Mode}
use Rattle.git_index.specs.declared.entry.Mode.TheVariants as mode
use Rattle.attr_line.specs.declared.file.AttrFile.{AttrFile}
use Rattle.attr_line.specs.declared.file.Skipped.{Skipped}
use Rattle.attr_line.specs.File.{attributes_at}
use Rattle.attr_stack.specs.declared.files.FileAt.{FileAt}
use Rattle.attr_stack.specs.declared.files.AttrFiles.{AttrFiles}
use Rattle.attr_stack.specs.declared.files.OuterFiles.{OuterFiles}

abbrev pub is_file_mode : Mode → Bool
is_file_mode mode.Plain = true
is_file_mode mode.Executable = true
is_file_mode m = false

-- the last part of a path is `.gitattributes`
abbrev pub names_attributes : List ℕ → Bool
names_attributes path = bytes_eq path (codes ".gitattributes") || ends_with nat_eq path (codes "/.gitattributes")

-- an entry that is an attribute file: a file, executable or not, of stage 0, that has its content
abbrev pub is_attribute_file : Entry → Bool
is_attribute_file e = e.stage == 0 && is_file_mode e.mode && not e.intent && names_attributes e.path

abbrev pub attribute_entries : List Entry → List Entry
attribute_entries es = filter is_attribute_file es

-- the folder of an attribute file: its path without `/.gitattributes`, and nothing for the top folder's
abbrev pub folder_of : List ℕ → List ℕ
folder_of path = take (length path - 15) path

-- the attribute file of an entry with that content; macros are defined only in the top folder's
abbrev pub file_at : Entry → List ℕ → FileAt
file_at e content = record { folder = folder_of e.path; file = attributes_at content (length (folder_of e.path) == 0) }

-- the files of entries with their contents
abbrev pub files_at : List Entry → List (List ℕ) → List FileAt
files_at (e ∷ es) (content ∷ contents) = file_at e content ∷ files_at es contents
files_at es contents = []

-- a file at its place in the order of the folders, by their bytes
abbrev pub with_file : List FileAt → FileAt → List FileAt
with_file [] f = f ∷ []
with_file (g ∷ gs) f = match_ordering (slice_cmp nat_cmp f.folder g.folder) (f ∷ g ∷ gs) (f ∷ gs) (g ∷ with_file gs f)

abbrev pub by_folder : List FileAt → List FileAt
by_folder files = fold with_file [] files

-- the attribute files that reach the paths of an index: those outside it, and its own, which have these contents
unfoldable pub attribute_files : OuterFiles → List Entry → List (List ℕ) → AttrFiles
attribute_files outer es contents = record {
  info = outer.info;
  base = outer.base;
  files = by_folder (files_at (attribute_entries es) contents);
}

-- how many lines of a file were skipped
abbrev pub sum_of : Skipped → ℕ
sum_of skipped = skipped.long + skipped.negative + skipped.name + skipped.place

abbrev pub skipped_in : AttrFile → ℕ
skipped_in file = sum_of file.skipped

abbrev pub skipped_at : FileAt → ℕ
skipped_at at = skipped_in at.file

-- how many lines of all files were skipped, or 2^64 - 1 if there are more
unfoldable pub skipped_lines : AttrFiles → ℕ
skipped_lines files =
    min (skipped_in files.info + sum_by skipped_at files.files + skipped_in files.base) (2 ^ 64 - 1)
