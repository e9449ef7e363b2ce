use Rattle.std.proofs.Common.{[], ◌∷◌, ◌++◌, List, cond, ◌∙◌, ap}
use Rattle.std.specs.Str.{bytes_eq}
use Rattle.attr_line.specs.declared.file.Pair.{Pair}
use Rattle.attr_stack.specs.Macros.{binary, file_macros, top_macros, meaning}
use Rattle.attr_stack.specs.Numbers.{AreMacros}
use Rattle.attr_stack.proofs.Maps.{nothing-defined}
use Rattle.attr_stack.proofs.macros.macros_of.Goals as goal

pub returns : goal.returns
returns c =
    let built : AreMacros c.define.new.macros (binary ∷ []) =
    λ name. c.in_ok-define.ensures [] (nothing-defined (record { numbers = c.new.result; bodies = c.new-2.result }) c.new.ensures.empty) name ∙ ap (λ (pairs : List Pair). cond (bytes_eq binary.name name) pairs []) c.in_ok-binary_pairs.ensures in
    let base = file_macros c.as_slice.result.now ++ binary ∷ [] in
    λ name. c.in_ok-define_rows-2.ensures (top_macros c.as_slice-2.result.now ++ base)
    (c.in_ok-define_top.ensures base (c.in_ok-define_rows.ensures (binary ∷ []) built)) name
    ∙ ap (λ rows. meaning (file_macros c.as_slice-3.result.now ++ (top_macros c.as_slice-2.result.now ++ (file_macros rows ++ binary ∷ []))) name) c.as_slice.ensures
    ∙ ap (λ files. meaning (file_macros c.as_slice-3.result.now ++ (top_macros files ++ (file_macros c.args.files.now.base.rows ++ binary ∷ []))) name) c.as_slice-2.ensures
    ∙ ap (λ rows. meaning (file_macros rows ++ (top_macros c.args.files.now.files ++ (file_macros c.args.files.now.base.rows ++ binary ∷ []))) name) c.as_slice-3.ensures
