use Rattle.object_dir.proofs.stored_blob.read_blob.Goals as goal

pub returns-clause-object : goal.returns-clause-object
returns-clause-object g c =
    (c.into_content.ensures (g.B.Blob.told c.args.blob.now) c.args.name.now _ _ c.take_blob.ensures.taken).0

pub returns-clause-faults : goal.returns-clause-faults
returns-clause-faults g c =
    (c.into_content.ensures (g.B.Blob.told c.args.blob.now) c.args.name.now _ _ c.take_blob.ensures.taken).1
