use Rattle.checkin_paths.proofs.Found.{old_looks}
use Rattle.checkin_paths.proofs.found_file.read_old.Goals as goal

pub returns-clause-looks : goal.returns-clause-looks
returns-clause-looks g c =
    (old_looks _ ((g.R.Repo.told c.args.repo.now).object c.args.name.now) c.args.name.now (g.R.Repo.seen c.args.repo.now) (g.R.Repo.seen c.object_content.new.repo) c.object_content.ensures.kept
    c.object_content.result c.crlf_of.result c.object_content.ensures.object c.object_content.ensures.returned c.crlf_of.ensures).0

pub returns-clause-left : goal.returns-clause-left
returns-clause-left g c =
    (old_looks _ ((g.R.Repo.told c.args.repo.now).object c.args.name.now) c.args.name.now (g.R.Repo.seen c.args.repo.now) (g.R.Repo.seen c.object_content.new.repo) c.object_content.ensures.kept
    c.object_content.result c.crlf_of.result c.object_content.ensures.object c.object_content.ensures.returned c.crlf_of.ensures).1
