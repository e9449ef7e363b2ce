use Rattle.std.proofs.Common.{rules, ◌≡◌, ◌++◌, ◌∷◌, [], true, false, List, subst, sym}
use Rattle.git_index.specs.declared.entry.Entry.{Entry}
use Rattle.git_index.specs.Spelling.{is_below, is_alone}
use Rattle.git_index.specs.Reading.{is_none_or, last_of}
use Rattle.git_index.specs.Folders.{paths, are_numbers, AreOpen, Opens}
use Rattle.git_index.proofs.Placed.{placed-ok}
use Rattle.git_index.proofs.place.place.Goals as goal

pub returns-clause-placed : goal.returns-clause-placed
returns-clause-placed c =
    let earlier = c.args.entries.now.items in
    let e = c.args.found in
    let above : is_none_or (λ b. is_below b e) (last_of earlier) ≡ true = search rules in
    let alone : is_none_or (λ b. is_alone b e) (last_of earlier) ≡ true = search rules in
    let opens = rw c.deref-3.ensures.value at c.in_ok-open_path.ensures.opens in
    let step : Opens e (paths c.args.entries.now.items c.args.stack.now.items) (paths (c.args.entries.now.items ++ c.args.found ∷ []) c.open_path.new.stack.items) false = subst (Opens e (paths c.args.entries.now.items c.args.stack.now.items) (paths (c.args.entries.now.items ++ c.args.found ∷ []) c.open_path.new.stack.items)) c.if-branch.false opens in
    (placed-ok earlier (paths c.args.entries.now.items c.args.stack.now.items) (paths (c.args.entries.now.items ++ c.args.found ∷ []) c.open_path.new.stack.items) e c.requires.known above alone step).placed

pub returns-clause-still : goal.returns-clause-still
returns-clause-still c =
    let earlier = c.args.entries.now.items in
    let e = c.args.found in
    let above : is_none_or (λ b. is_below b e) (last_of earlier) ≡ true = search rules in
    let alone : is_none_or (λ b. is_alone b e) (last_of earlier) ≡ true = search rules in
    let opens = rw c.deref-3.ensures.value at c.in_ok-open_path.ensures.opens in
    let step : Opens e (paths c.args.entries.now.items c.args.stack.now.items) (paths (c.args.entries.now.items ++ c.args.found ∷ []) c.open_path.new.stack.items) false = subst (Opens e (paths c.args.entries.now.items c.args.stack.now.items) (paths (c.args.entries.now.items ++ c.args.found ∷ []) c.open_path.new.stack.items)) c.if-branch.false opens in
    let placed = placed-ok earlier (paths c.args.entries.now.items c.args.stack.now.items) (paths (c.args.entries.now.items ++ c.args.found ∷ []) c.open_path.new.stack.items) e c.requires.known above alone step in
    let grown : c.push.new.self.items ≡ earlier ++ e ∷ [] = c.in_ok-push.ensures.items in
    subst (λ (es : List Entry). AreOpen es (paths es c.open_path.new.stack.items)) (sym grown) placed.known

pub returns-clause-numbered : goal.returns-clause-numbered
returns-clause-numbered c =
    let earlier = c.args.entries.now.items in
    let e = c.args.found in
    let grown : c.push.new.self.items ≡ earlier ++ e ∷ [] = c.in_ok-push.ensures.items in
    let known = rw c.deref-3.ensures.value at c.in_ok-open_path.ensures.known in
    subst (λ (es : List Entry). are_numbers es c.open_path.new.stack.items ≡ true) (sym grown) known
