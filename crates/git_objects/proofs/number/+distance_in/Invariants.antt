use Rattle.git_objects.proofs.number.+distance_in.Given as goal

abbrev pub decreases-distance_in : goal.decreases-distance_in
decreases-distance_in l = l.most
