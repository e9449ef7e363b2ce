use Rattle.std.proofs.Common.{◌≡◌, ◌≤◌, sym, subst, arith, get_or, length}
use Rattle.delay_table.proofs.Names.{there_is, not_there, past_all, nowhere_else}
use Rattle.delay_table.proofs.search.place_of.Goals as goal

pub returns-then-at-names : goal.returns-then-at-names
returns-then-at-names c =
    let le : length c.args.names.now ≤ c.before-at.result = omega (arith, c.if-at-names.true) in
    nowhere_else c.args.name.now c.args.names.now c.before-at.result c.requires c.before-at.ensures.point
    (past_all c.args.names.now c.before-at.result c.args.name.now le)

pub returns-then-is_same : goal.returns-then-is_same
returns-then-is_same c =
    there_is c.args.names.now c.before-at.result c.args.name.now
    (omega (arith, c.before-at.ensures.within, c.if-at-names.false))
    (sym (subst (λ x. x ≡ get_or c.args.names.now c.before-at.result x) c.if-is_same.ensures c.index-names-at.is))

pub returns-else-is_same : goal.returns-else-is_same
returns-else-is_same c =
    nowhere_else c.args.name.now c.args.names.now c.before-at.result c.requires c.before-at.ensures.point
    (not_there c.args.names.now c.before-at.result c.args.name.now c.index-names-at.result c.index-names-at.is
    c.if-is_same.ensures)
