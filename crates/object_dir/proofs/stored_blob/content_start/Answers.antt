use Rattle.std.proofs.Common.{rules, arith}
use Rattle.object_dir.proofs.Places.{stored_content-right}
use Rattle.object_dir.proofs.stored_blob.content_start.Goals as goal

pub returns : goal.returns
returns c = (omega arith, stored_content-right c.args.stored.now c.args.name.now c.in-Some.size.now c.in-Some.content.now (search rules) (search rules) (search rules) (search rules) (search rules))
