use Rattle.std.proofs.Common.{◌≡◌, [], ◌++◌, ◌∙◌, ap, sym, subst}
use Rattle.std.proofs.lemmas.List.{append-nil}
use Rattle.attr_stack.specs.Macros.{macros_of}
use denote.Ref.{Bor}
use Rattle.attr_stack.specs.declared.linked_macros.LinkedMacros.{LinkedMacros}
use Rattle.attr_stack.specs.Pairs.{pairs_of}
use Rattle.attr_stack.specs.Search.{is_asked}
use Rattle.attr_stack.specs.Numbers.{AreMacros}
use Rattle.attr_stack.specs.Seen.{from_end, state_at}
use Rattle.attr_stack.proofs.Readings.{leads-from, leads-decides}
use Rattle.attr_stack.proofs.states.decided_of.Goals as goal

pub returns : goal.returns
returns c = λ name asked.
    let files = c.args.opened.now.files.now in
    let path = c.args.path.now in
    let lines = macros_of files in
    let names = is_asked c.args.names.now in
    let none = state_at c.in_ok-states.states.decided in
    let new = state_at c.read_pairs.new.states.decided in
    let all : from_end c.push_all.new.pending.items ≡ pairs_of files path =
    c.in_ok-push_all.ensures ∙ ap (λ items. pairs_of files path ++ from_end items) c.new-pending.ensures.items ∙ append-nil (pairs_of files path) in
    let begun = subst (λ (macros : Bor LinkedMacros). AreMacros macros.now.macros lines) (sym c.in_ok-states.ensures.macros) c.requires.macros in
    leads-decides lines names (pairs_of files path) none new name c.in_ok-states.ensures.none
    (leads-from lines names _ _ [] none new all (c.in_ok-read_pairs.ensures lines begun).1) asked
