use Rattle.std.proofs.Common.{◌≡◌, ℕ, List, Option, ◌∙◌, ap, rules}
use Rattle.attr_stack.specs.declared.files.FileAt.{FileAt}
use Rattle.attr_stack.specs.Levels.{file_in, place_in}
use Rattle.attr_stack.specs.Pairs.{file_of}
use Rattle.attr_stack.proofs.Chains.{file_found}
use Rattle.attr_stack.proofs.folders.FileFolders.find.Goals as goal

pub returns : goal.returns
returns c =
    let places = c.self.inside.places in
    let folder = c.args.folder.now in
    let files : c.as_slice.result.now ≡ c.self.inside.files = search rules in
    let same : c.self.inside.files ≡ c.args.self.now = search rules in
    c.file_in.ensures
    ∙ ap (λ (p : Option ℕ). file_in c.as_slice.result.now p) c.place_of.ensures
    ∙ ap (λ (fs : List FileAt). file_in fs (place_in places folder)) files
    ∙ file_found places c.self.inside.files folder c.self.invariant
    ∙ ap (λ (fs : List FileAt). file_of fs folder) same
