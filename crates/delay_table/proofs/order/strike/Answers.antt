use Rattle.std.proofs.Common.{◌≡◌, ◌≤◌, sym, ap, ◌∙◌, subst, arith, length, take, drop, false, Some}
use Rattle.std.specs.Prelude.{slice_get}
use Rattle.delay_table.specs.Table.{contains}
use Rattle.delay_table.specs.Fields.{turns_of}
use Rattle.delay_table.proofs.Turns.{struck, whole, remove_behind, without_none}
use Rattle.delay_table.proofs.order.strike.Goals as goal

pub returns-then-at-turns-clause-turns : goal.returns-then-at-turns-clause-turns
returns-then-at-turns-clause-turns c =
    let turns = turns_of c.args.from c.args.order.now.items in
    let is = c.split_at.ensures.back ∙ ap (drop c.args.from) c.as_slice.ensures.value in
    ap (drop c.args.from) c.remove.ensures.items
    ∙ (remove_behind c.args.from c.first_of-at.result c.args.order.now.items c.requires.within
    ∙ struck c.args.place c.first_of-at.result turns c.requires.once
    (subst (λ l. contains c.args.place (take c.first_of-at.result l) ≡ false) is c.first_of-at.ensures.before)
    (subst (λ l. slice_get l c.first_of-at.result ≡ Some c.args.place) is
    (c.first_of-at.ensures.there c.if-at-turns.true)))

pub returns-else-at-turns-clause-turns : goal.returns-else-at-turns-clause-turns
returns-else-at-turns-clause-turns c =
    let turns = turns_of c.args.from c.args.order.now.items in
    let is = c.split_at.ensures.back ∙ ap (drop c.args.from) c.as_slice.ensures.value in
    let long : length turns ≤ c.first_of-at.result = omega (arith, ap length is, c.if-at-turns.false) in
    sym (whole c.args.place c.first_of-at.result turns long
    (subst (λ l. contains c.args.place (take c.first_of-at.result l) ≡ false) is c.first_of-at.ensures.before))

pub returns-then-not-is_listed-clause-turns : goal.returns-then-not-is_listed-clause-turns
returns-then-not-is_listed-clause-turns c =
    sym (without_none c.args.place (turns_of c.args.from c.args.order.now.items)
    (c.requires.listed ∙ c.if-not-is_listed.true))
