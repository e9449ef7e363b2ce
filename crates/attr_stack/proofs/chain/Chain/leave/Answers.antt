use Rattle.std.proofs.Common.{List, reverse, take, sym, ◌∙◌, ap}
use Rattle.attr_stack.specs.declared.chain.Level.{Level}
use Rattle.attr_stack.specs.Levels.{levels_above}
use Rattle.attr_stack.proofs.Chains.{left_chain}
use Rattle.attr_stack.proofs.chain.Chain.leave.Goals as goal

pub returns-clause-chain : goal.returns-clause-chain
returns-clause-chain c = λ files is.
    let count = c.count_above-count.result in
    left_chain files c.args.self.now (record { folder = c.truncate-2.new.self; levels = c.truncate.new.self }) count c.args.len
    c.requires c.truncate-2.ensures.items c.truncate.ensures.items
    (sym (ap (λ (ls : List Level). reverse (take count ls)) c.deref.ensures.value)
    ∙ c.count_above-count.ensures
    ∙ ap (λ (ls : List Level). levels_above c.args.len (reverse ls)) c.deref.ensures.value)
    is
