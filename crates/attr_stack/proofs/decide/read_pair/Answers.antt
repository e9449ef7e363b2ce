use Rattle.std.proofs.Common.{◌≡◌, Bool, true, false, ◌||◌, List, [], ◌∷◌, ◌++◌, is_some, refl, sym, ◌∙◌, ap, subst}
use Rattle.std.proofs.lemmas.Bool.{OnTrue_at}
use Rattle.std.proofs.lemmas.List.{append-nil}
use denote.Ref.{Bor}
use Rattle.attr_line.specs.declared.file.Pair.{Pair}
use Rattle.attr_stack.specs.declared.linked_macros.LinkedMacros.{LinkedMacros}
use Rattle.attr_stack.specs.Decided.{body_of}
use Rattle.attr_stack.specs.Links.{left_of}
use Rattle.attr_stack.specs.Numbers.{number_at, number_pairs, AreMacros}
use Rattle.attr_stack.specs.Seen.{state_at, Notes}
use Rattle.attr_stack.specs.Search.{is_asked}
use Rattle.attr_stack.proofs.Readings.{leads-none, leads-on, leads-decide, leads-pass, leads-foreign, not-needed}
use Rattle.attr_stack.proofs.decide.read_pair.Goals as goal

pub returns-then-is_recent : goal.returns-then-is_recent
returns-then-is_recent c = λ lines are.
    let pair = c.args.pair.now in
    let states = state_at c.args.states.now.decided in
    let known : is_some (states pair.name) ≡ true =
    ap (λ n. is_some (states n)) (sym c.as_slice-name.ensures) ∙ OnTrue_at c.if-is_recent.true c.is_recent.ensures in
    (are, leads-pass lines (is_asked c.args.names.now) (pair ∷ []) [] pair states states states (leads-none lines (is_asked c.args.names.now) (pair ∷ []) states) (known, λ name. refl))

pub returns-then-not-is_needed : goal.returns-then-not-is_needed
returns-then-not-is_needed c = λ lines are.
    let pair = c.args.pair.now in
    let states = state_at c.args.states.now.decided in
    let macros = c.args.states.now.decided.macros.now.macros in
    let number : c.number_of-number.result ≡ number_at macros pair.name = c.number_of-number.ensures ∙ ap (number_at macros) c.as_slice-name.ensures in
    let unneeded : (is_some c.number_of-number.result || is_asked c.args.names.now pair.name) ≡ false =
    ap (λ n. is_some c.number_of-number.result || is_asked c.args.names.now n) (sym c.as_slice-name.ensures) ∙ sym c.if-not-is_needed.ensures in
    let parts = not-needed c.number_of-number.result (is_asked c.args.names.now pair.name) unneeded in (
      are,
      leads-foreign lines c.args.names.now (pair ∷ []) [] pair states states (leads-none lines (is_asked c.args.names.now) (pair ∷ []) states)
          (sym (are pair.name) ∙ ap (number_pairs macros) (sym number ∙ parts.0)) parts.1,
    )

pub returns-in_ok-read_macros : goal.returns-in_ok-read_macros
returns-in_ok-read_macros c = λ lines are.
    let pair = c.args.pair.now in
    let names = is_asked c.args.names.now in
    let old = state_at c.args.states.now.decided in
    let mid = state_at c.note.new.self.decided in
    let new = state_at c.read_macros.new.states.decided in
    let macros = c.args.states.now.decided.macros.now.macros in
    let decides : Notes pair old mid true = subst (λ (b : Bool). Notes pair old mid b) c.if-branch.true c.in_ok-note.ensures.decides in
    let begun : AreMacros c.note.new.self.decided.macros.now.macros lines = subst (λ (m : Bor LinkedMacros). AreMacros m.now.macros lines) (sym c.note.ensures.macros) are in
    let read = c.in_ok-read_macros.ensures lines begun in
    let here : List Pair = left_of c.note.new.self.decided.macros.now.macros c.enter.new.frames.items in
    let body : here ≡ body_of lines pair ++ [] =
    ap (λ (m : Bor LinkedMacros). left_of m.now.macros c.enter.new.frames.items) c.note.ensures.macros ∙ c.in_ok-enter.ensures.left lines are
    ∙ ap (λ fs. body_of lines pair ++ left_of macros fs) c.clear.ensures.items in (
      read.0,
      leads-on lines names (pair ∷ []) here [] old mid new
          (leads-decide lines names (pair ∷ []) [] (here ++ []) pair old old mid (leads-none lines names (pair ∷ []) old) decides (append-nil here ∙ body)) read.1,
    )

pub returns-else-branch : goal.returns-else-branch
returns-else-branch c = λ lines are.
    let pair = c.args.pair.now in
    let old = state_at c.args.states.now.decided in
    let new = state_at c.note.new.self.decided in
    let passes : Notes pair old new false = subst (λ (b : Bool). Notes pair old new b) c.if-branch.false c.in_ok-note.ensures.decides in (
      subst (λ (m : Bor LinkedMacros). AreMacros m.now.macros lines) (sym c.note.ensures.macros) are,
      leads-pass lines (is_asked c.args.names.now) (pair ∷ []) [] pair old old new (leads-none lines (is_asked c.args.names.now) (pair ∷ []) old) passes,
    )
