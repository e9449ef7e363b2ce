use Rattle.git_objects.proofs.number.+read_in.Given as goal

abbrev pub decreases-read_in : goal.decreases-read_in
decreases-read_in l = l.most
