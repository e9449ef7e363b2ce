use Rattle.std.proofs.Common.{◌≡◌, ℕ, ◌++◌, length, reverse, sym, ◌∙◌, ap, rules}
use Rattle.attr_stack.specs.Levels.{levels_before}
use Rattle.attr_stack.proofs.Chains.{lower_chain}
use Rattle.attr_stack.proofs.chain.Chain.descend.Goals as goal

pub returns-clause-chain : goal.returns-clause-chain
returns-clause-chain c = λ is.
    let files = c.args.folders.now in
    let folder = c.args.folder.now in
    let more = c.in_ok-levels.levels.items in
    let size : c.len.result ≡ length c.args.self.now.folder.items = search rules in
    lower_chain files c.args.self.now (record { folder = c.in_ok-folder.folder; levels = c.append.new.self }) more folder
    c.requires.within c.requires.front c.in_ok-folder.ensures.items c.in_ok-append.ensures.items
    (ap (λ (n : ℕ). reverse more ++ levels_before files folder n) (sym size) ∙ c.in_ok-levels.ensures)
    is
