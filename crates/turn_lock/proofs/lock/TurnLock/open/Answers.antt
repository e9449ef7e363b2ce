use Rattle.std.proofs.Common.{◌∷◌, ◌++◌, [], Some, sym, ap, ◌∙◌, subst}
use Rattle.atomic_table.specs.Table.{opening}
use Rattle.turn_lock.specs.Rule.{Ruled, opened}
use Rattle.turn_lock.proofs.Ending.{opens}
use Rattle.turn_lock.proofs.lock.TurnLock.open.Goals as goal

pub new-requires : goal.new-requires
new-requires g c =
    let told = g.T.Kept.told c.of-told.result.value in
    let fits = g.T.Kept.fits in
    let e = c.push_reserved.ensures.items ∙ ap (λ l. l ++ Some c.args.value ∷ []) c.in_ok-slots.ensures.items in
    subst (λ l. Ruled g.T.Kept.history fits told (opening (0 ∷ []) l (opened told))) (sym e)
    (opens g.T.Kept.history fits told c.args.value c.requires.empty (subst (λ x. fits c.args.value (g.T.Kept.told x)) (sym c.of-told.ensures) c.requires.fits))
