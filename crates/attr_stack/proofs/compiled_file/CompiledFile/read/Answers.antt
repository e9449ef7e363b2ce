use Rattle.std.proofs.Common.{◌≡◌, [], List, OnOk, subst, rules}
use Rattle.attr_line.specs.declared.file.Pair.{Pair}
use Rattle.attr_stack.specs.Rows.{rows_pairs}
use Rattle.attr_stack.specs.Pairs.{file_pairs}
use Rattle.attr_stack.specs.Search.{Reads}
use Rattle.attr_stack.proofs.compiled_file.CompiledFile.read.Goals as goal

pub returns : goal.returns
returns c =
    let same : rows_pairs c.args.path.now c.as_slice-rows.result.now ≡ file_pairs c.args.path.now c.args.self.now = search rules in
    subst (λ (ps : List Pair). OnOk c.read_rows.result (Reads c.args.names.now ps c.args.states.now.decided [] c.read_rows.new.states.decided)) same c.read_rows.ensures
