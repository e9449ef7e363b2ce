-- What a sealed leaf leaves, by its mark and by what the worktree's file system keeps.
use Rattle.std.specs.Prelude.{◌≡◌, ℕ, if◌then◌else◌}
use Rattle.edge_kit.specs.declared.leaf_state.Mark.{Mark}
use Rattle.edge_kit.specs.declared.leaf_state.Mark.TheVariants as mark
use Rattle.git_worktree.specs.declared.kinds.Keeps.{Keeps}
use Rattle.git_worktree.specs.declared.kinds.FileKind.{FileKind}
use Rattle.git_worktree.specs.declared.kinds.FileKind.TheVariants as kind
use Rattle.git_worktree.specs.declared.leaf.GitLeaf.{GitLeaf}

abbrev pub kind_of : Keeps → Mark → FileKind
kind_of keeps mark.Plain = kind.File
kind_of keeps mark.Executable = kind.Program
kind_of keeps mark.LinkText = if keeps.links then kind.Link else kind.File

-- rwxrwxrwx for a program, rw-rw-rw- for anything else
abbrev pub mode_of : FileKind → ℕ
mode_of kind.File = 438
mode_of kind.Program = 511
mode_of kind.Link = 438

-- the leaf has the same text in memory and the same file
pub record HoldsSame (old new : GitLeaf) : Type 0 where
  pub text : new.text.items ≡ old.text.items
  pub file : new.file ≡ old.file
