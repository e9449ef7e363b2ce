use Rattle.std.proofs.Common.{◌≡◌, ℕ, [], List, OnOk, ap, subst}
use Rattle.attr_line.specs.declared.file.Pair.{Pair}
use Rattle.attr_stack.specs.Levels.{level_pairs}
use Rattle.attr_stack.specs.Pairs.{file_pairs}
use Rattle.attr_stack.specs.Search.{Reads}
use Rattle.attr_stack.proofs.stack.read_level.Goals as goal

pub returns : goal.returns
returns c =
    let level = c.args.level.now in
    let same : file_pairs c.behind.result.now level.file ≡ level_pairs c.args.path.now level = ap (λ (p : List ℕ). file_pairs p level.file) c.behind.ensures in
    subst (λ (ps : List Pair). OnOk c.read.result (Reads c.args.names.now ps c.args.states.now.decided [] c.read.new.states.decided)) same c.read.ensures
