use Rattle.checkin_paths.proofs.found_file.find_there.Goals as goal

pub returns-clause-finds : goal.returns-clause-finds
returns-clause-finds g c = (c.in_ok-old.old, c.in_ok-old.ensures.looks, c.found_by.ensures)
