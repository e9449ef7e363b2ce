use Rattle.std.proofs.Common.{◌≡◌, List, [], ◌++◌, length, reverse, ap, sym, subst, ◌∙◌}
use Rattle.std.specs.List.{flat_map}
use Rattle.attr_stack.specs.declared.chain.Level.{Level}
use denote.Ref.{Bor}
use Rattle.attr_stack.specs.declared.linked_macros.LinkedMacros.{LinkedMacros}
use Rattle.attr_stack.specs.Levels.{level_pairs}
use Rattle.attr_stack.specs.Macros.{macros_of}
use Rattle.attr_stack.specs.Pairs.{file_pairs, pairs_before}
use Rattle.attr_stack.specs.Rules.{files_of}
use Rattle.attr_stack.specs.Search.{is_asked}
use Rattle.attr_stack.specs.Numbers.{AreMacros}
use Rattle.attr_stack.specs.Seen.{state_at}
use Rattle.attr_stack.proofs.Chains.{chain_gives}
use Rattle.attr_stack.proofs.Readings.{leads-from, leads-both, leads-decides}
use Rattle.attr_stack.proofs.stack.decided_of.Goals as goal

pub returns : goal.returns
returns c = λ name asked.
    let files = c.args.rules.now.folders in
    let path = c.args.path.now in
    let lines = macros_of (files_of c.args.rules.now) in
    let names = is_asked c.args.names.now in
    let info = file_pairs path c.args.rules.now.info in
    let none = state_at c.in_ok-states.states.decided in
    let mid = state_at c.read.new.states.decided in
    let later = state_at c.read_levels.new.states.decided in
    let new = state_at c.read_base.new.states.decided in
    let before = pairs_before files path (length path) in
    let base = file_pairs path c.args.rules.now.base in
    let reached : flat_map (level_pairs path) (reverse c.deref.result.now) ≡ pairs_before files path (length path) =
    ap (λ (ls : List Level). flat_map (level_pairs path) (reverse ls)) c.deref.ensures.value
    ∙ chain_gives files c.args.chain.now path c.requires.stack.entered c.requires.within in
    let begun = subst (λ (macros : Bor LinkedMacros). AreMacros macros.now.macros lines) (sym c.in_ok-states.ensures.macros) c.requires.stack.right in
    let first = c.in_ok-read.ensures lines begun in
    let second = c.in_ok-read_levels.ensures lines first.0 in
    leads-decides lines names (info ++ (before ++ base)) none new name c.in_ok-states.ensures.none
    (leads-both lines names info (before ++ base) none mid new first.1
    (leads-both lines names before base mid later new
    (leads-from lines names _ _ [] mid later reached second.1)
    (c.in_ok-read_base.ensures lines second.0).1)) asked
