use Rattle.std.proofs.Common.{◌≡◌, ◌++◌, ◌∷◌, [], true, false, List, ℕ, eqb, refl, sym, ap, subst, ◌∙◌, arith}
use Rattle.std.proofs.lemmas.Grind.{common_steps}
use Rattle.git_index.specs.Folders.{paths, are_numbers, Closes}
use Rattle.git_index.proofs.Numbers.{paths_grown, numbers_grown, opened}
use Rattle.git_index.proofs.folders.open_path.Goals as goal

pub returns-then-found-ne0-clause-opens : goal.returns-then-found-ne0-clause-opens
returns-then-found-ne0-clause-opens c = let grown = paths_grown c.args.entries.now c.args.found.now c.args.stack.now.items c.requires in
    let off : eqb c.args.found.now.stage 0 ≡ false = grind (arith, common_steps) in
    rw (grown, off) (refl, refl)

pub returns-then-found-ne0-clause-known : goal.returns-then-found-ne0-clause-known
returns-then-found-ne0-clause-known c = numbers_grown c.args.entries.now c.args.found.now c.args.stack.now.items c.requires

pub returns-then-close_before-clause-known : goal.returns-then-close_before-clause-known
returns-then-close_before-clause-known c = numbers_grown c.args.entries.now c.args.found.now c.close_before.new.stack.items (c.close_before.ensures.known c.requires)

pub returns-clause-opens : goal.returns-clause-opens
returns-clause-opens c =
    let known = c.close_before.ensures.known c.requires in
    let new = opened c.args.entries.now c.args.found.now c.close_before.new.stack.items known in
    let closed = subst (λ (p : List ℕ). Closes p (paths c.args.entries.now c.args.stack.now.items) (paths c.args.entries.now c.close_before.new.stack.items) false) c.as_slice.ensures c.if-close_before.ensures.closed in
    let on : eqb c.args.found.now.stage 0 ≡ true = grind (arith, common_steps) in
    let all = ap (paths (c.args.entries.now ++ c.args.found.now ∷ [])) c.in_ok-push.ensures.items ∙ new.0 in
    rw on (paths c.args.entries.now c.close_before.new.stack.items, closed, λ none. all)

pub returns-clause-known : goal.returns-clause-known
returns-clause-known c =
    let known = c.close_before.ensures.known c.requires in
    let items = c.in_ok-push.ensures.items in
    let new = opened c.args.entries.now c.args.found.now c.close_before.new.stack.items known in
    subst (λ (ks : List ℕ). are_numbers (c.args.entries.now ++ c.args.found.now ∷ []) ks ≡ true) (sym items) new.1
