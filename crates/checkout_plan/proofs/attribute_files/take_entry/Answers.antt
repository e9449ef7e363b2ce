use Rattle.std.proofs.Common.{◌≡◌, true, ◌∙◌, arith}
use Rattle.checkout_plan.specs.AttributeFiles.{is_attribute_file, folder_of}
use Rattle.checkout_plan.proofs.Files.{one_read}
use Rattle.checkout_plan.proofs.attribute_files.take_entry.Goals as goal
use Rattle.std.proofs.Common.{ap}

pub returns-clause-read : goal.returns-clause-read
returns-clause-read g c =
    let is : is_attribute_file c.args.entry.now ≡ true = grind arith in
    let file = c.in_ok-file.ensures.read in
    one_read (g.R.Repo.told c.args.repo.now).object c.args.entry.now file.0 c.args.files.now c.insert.new.self c.folder_of.result c.in_ok-file.file is file.1
    (c.folder_of.ensures ∙ ap folder_of c.as_slice.ensures) file.2 c.in_ok-insert.ensures.entries
