use Rattle.std.proofs.Common.{◌≡◌, ◌++◌, ℕ, List, length, sym, ap, ◌∙◌}
use Rattle.std.proofs.lemmas.List.{append-nil, take_all}
use Rattle.std.specs.Prelude.{codes, false, ◌==◌}
use Rattle.std.specs.List.{flat_map}
use Rattle.rehearsal.specs.Drivers.{list_text, filtered}
use Rattle.rehearsal.proofs.Spelled.{two_texts, given_full}
use Rattle.rehearsal.proofs.scripts.push_given.Goals as goal

pub loop-number-init : goal.loop-number-init
loop-number-init c = sym (append-nil c.push_list.new.out.items)

pub returns : goal.returns
returns c =
    let js : List ℕ = c.args.numbers.now in
    let some : (length js == 0) ≡ false = sym c.is_empty.ensures ∙ c.if-is_empty.false in
    let text : List ℕ = flat_map (filtered (codes "alpha") c.args.seed) js in
    let all : c.loop-number.out.items ≡ c.push_list.new.out.items ++ text =
    c.loop-number.invariant
    ∙ ap (λ (is : List ℕ). c.push_list.new.out.items ++ flat_map (filtered (codes "alpha") c.args.seed) is)
    (take_all c.loop-number.number-index js c.loop-number-test.false) in
    two_texts c.args.out.now.items c.push_list.new.out.items c.loop-number.out.items (list_text c.args.seed js) text
    c.in_ok-push_list.ensures all
    ∙ ap (λ (z : List ℕ). c.args.out.now.items ++ z) (sym (given_full c.args.seed js some))
