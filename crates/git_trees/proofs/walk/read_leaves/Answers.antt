use Rattle.std.proofs.Common.{refl, sym, ap, subst, List, length}
use Rattle.std.proofs.lemmas.Result.{err_from_is_err_and}
use Rattle.git_trees.specs.declared.folder.WalkStep.{WalkStep}
use Rattle.git_index.specs.declared.entry.Entry.{Entry}
use Rattle.git_trees.specs.Walk.{EntriesOf}
use Rattle.git_trees.proofs.OneWalk.{one_walk}
use Rattle.git_trees.proofs.Taking.{root_reached, over_root, root_stops, stop_is_free}
use Rattle.git_trees.proofs.walk.read_leaves.Goals as goal

pub returns-clause-found : goal.returns-clause-found
returns-clause-found g c =
    let told = g.S.TreeSource.told c.args.source.now in
    let step : WalkStep = record { alloc = c.args.alloc; bounds = c.args.bounds; left = c.args.bounds.depth } in
    subst (λ (xs : List Entry). EntriesOf told c.args.bounds.limit c.args.bounds.depth c.args.root.now xs) (sym c.from_vec.ensures)
    (root_reached told step c.args.root.now c.new-leaves.result.items c.take_folder.new.leaves.items refl c.new-leaves.ensures.items c.in_ok-take_folder.ensures.reach)

pub returns-clause-complete : goal.returns-clause-complete
returns-clause-complete g c leaves all of =
    one_walk (g.S.TreeSource.told c.args.source.now) c.args.bounds.limit c.args.bounds.depth c.args.root.now c.from_vec.result leaves all (returns-clause-found g c) of

pub returns-in_err-take_folder-clause-stop : goal.returns-in_err-take_folder-clause-stop
returns-in_err-take_folder-clause-stop g c =
    let p = err_from_is_err_and c.from_residual.result c.from_residual.ensures.1 in
    let told = g.S.TreeSource.told c.args.source.now in
    let step : WalkStep = record { alloc = c.args.alloc; bounds = c.args.bounds; left = c.args.bounds.depth } in
    let f = c.in_err-take_folder.field-0.0 in
    rw (p.1, p.2) (root_stops told step c.args.root.now f refl
    (λ is. over_root told step c.args.root.now (length c.new-leaves.result.items) f refl (ap (length {A = Entry}) c.new-leaves.ensures.items) (c.in_err-take_folder.ensures.count is) is)
    c.in_err-take_folder.ensures.stop)

pub returns-in_err-take_folder-clause-complete : goal.returns-in_err-take_folder-clause-complete
returns-in_err-take_folder-clause-complete g c leaves all of =
    let p = err_from_is_err_and c.from_residual.result c.from_residual.ensures.1 in
    let told = g.S.TreeSource.told c.args.source.now in
    let f = c.in_err-take_folder.field-0.0 in
    let step : WalkStep = record { alloc = c.args.alloc; bounds = c.args.bounds; left = c.args.bounds.depth } in
    let at = root_stops told step c.args.root.now f refl
    (λ is. over_root told step c.args.root.now (length c.new-leaves.result.items) f refl (ap (length {A = Entry}) c.new-leaves.ensures.items) (c.in_err-take_folder.ensures.count is) is)
    c.in_err-take_folder.ensures.stop in
    rw (p.1, p.2) (stop_is_free told c.args.bounds c.args.root.now leaves f all of at)
