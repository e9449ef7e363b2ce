-- What the stack keeps of the attribute files.
use Rattle.attr_stack.specs.declared.files.AttrFiles.{AttrFiles}
use Rattle.attr_stack.specs.declared.chain.Chain.{Chain}
use Rattle.attr_stack.specs.declared.stack.Rules.{Rules}
use Rattle.attr_stack.specs.Macros.{macros_of}
use Rattle.attr_stack.specs.Numbers.{AreMacros}
use Rattle.attr_stack.specs.Levels.{IsChain}

-- the files as they are read
abbrev pub files_of : Rules → AttrFiles
files_of rules = record { info = rules.info; base = rules.base; files = rules.folders }

-- its macros are those of the files
abbrev pub IsRules : Rules → Type 0
IsRules rules = AreMacros rules.macros.macros (macros_of (files_of rules))

-- the files in force are those of the chain's folder
pub record IsStack (rules : Rules) (chain : Chain) : Type 0 where
  pub right : IsRules rules
  pub entered : IsChain rules.folders chain
