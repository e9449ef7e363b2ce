use Rattle.std.proofs.Common.{◌+◌, ◌++◌, ◌∙◌, sym, drop, flat_map, option_to_list, arith}
use Rattle.card_worker.proofs.FewLemmas.{taken_out}
use Rattle.card_worker.proofs.few.Few.take.Goals as goal

pub returns-then-place-len-clause-rest : goal.returns-then-place-len-clause-rest
returns-then-place-len-clause-rest g c =
    let e = c.take_slot.ensures in
    taken_out c.args.self.now.slots.items c.args.place (omega arith)
    ∙ (λ i. option_to_list (sym e.value i) ++ flat_map option_to_list (drop (c.args.place + 1) (sym e.slots i)))
