-- The macros of the top files: gitattributes(5), "DEFINING MACRO ATTRIBUTES".
use Rattle.std.specs.Prelude.{ℕ, List, [], ◌∷◌, ◌++◌, reverse, codes, Option, Some, None, if◌then◌else◌}
use Rattle.std.specs.List.{flat_map}
use Rattle.std.specs.Str.{bytes_eq}
use Rattle.attr_line.specs.declared.state.AttrState.TheVariants.{Unset}
use Rattle.attr_line.specs.declared.file.Pair.{Pair}
use Rattle.attr_line.specs.declared.file.AttrRow.{AttrRow}
use Rattle.attr_line.specs.declared.file.AttrRow.TheVariants.{Rule, Macro}
use Rattle.attr_line.specs.declared.file.AttrFile.{AttrFile}
use Rattle.attr_stack.specs.Pairs.{file_of}
use Rattle.attr_stack.specs.declared.files.FileAt.{FileAt}
use Rattle.attr_stack.specs.declared.files.AttrFiles.{AttrFiles}

-- a macro's name, and the pairs of its line
pub record MacroLine : Type 0 where
  pub name : List ℕ
  pub pairs : List Pair

abbrev pub row_macros : AttrRow → List MacroLine
row_macros (Rule pattern pairs) = []
row_macros (Macro name pairs) = record { name = name; pairs = pairs } ∷ []

abbrev pub file_macros : List AttrRow → List MacroLine
file_macros rows = flat_map row_macros (reverse rows)

abbrev pub macros_inside : Option AttrFile → List MacroLine
macros_inside None = []
macros_inside (Some file) = file_macros file.rows

-- of the folders' files only the top folder's defines macros
abbrev pub top_macros : List FileAt → List MacroLine
top_macros files = macros_inside (file_of files [])

abbrev pub unset : List ℕ → Pair
unset name = record { name = name; state = Unset }

-- the built-in macro `binary`: `-diff -merge -text`
abbrev pub binary : MacroLine
binary =
    record { name = codes "binary"; pairs = unset (codes "diff") ∷ unset (codes "merge") ∷ unset (codes "text") ∷ [] }

-- the macros in the order in which rows are read: those of `info/attributes`, those of the top folder's file, those of
-- the lowest file, and `binary`
abbrev pub macros_of : AttrFiles → List MacroLine
macros_of files =
    file_macros files.info.rows ++ (top_macros files.files ++ (file_macros files.base.rows ++ binary ∷ []))

-- what a name stands for: the first macro with this name, or nothing
abbrev pub meaning : List MacroLine → List ℕ → List Pair
meaning [] name = []
meaning (line ∷ lines) name = if bytes_eq line.name name then line.pairs else meaning lines name
