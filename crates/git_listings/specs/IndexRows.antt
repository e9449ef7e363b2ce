-- What `git ls-files --stage` prints.
use Rattle.std.specs.Prelude.{ℕ, ◌+◌, ◌%◌, List, [], ◌∷◌, ◌++◌, codes}
use Rattle.hex.specs.Hex.{encode_lower}
use Rattle.byte_path.specs.Quote.{quoted}
use Rattle.byte_path.specs.Characters.{tab, line_feed, space, digit_0}
use Rattle.git_index.specs.declared.entry.Entry.{Entry}
use Rattle.git_index.specs.declared.entry.Mode.{Mode}
use Rattle.git_index.specs.declared.entry.Mode.TheVariants.{Plain, Executable, Link, Gitlink}

-- a mode in octal
abbrev pub octal : Mode → List ℕ
octal Plain = codes "100644"
octal Executable = codes "100755"
octal Link = codes "120000"
octal Gitlink = codes "160000"

-- the mode, the object's name, the stage as a digit, and after a TAB the path as git quotes it
abbrev pub line : Entry → List ℕ
line e =
    octal e.mode ++ space ∷ encode_lower e.name ++ space ∷ (digit_0 + e.stage % 10) ∷ tab ∷ quoted e.path
    ++ line_feed ∷ []
