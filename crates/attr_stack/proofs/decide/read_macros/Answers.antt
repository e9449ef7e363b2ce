use Rattle.std.proofs.Common.{◌≡◌, ◌+◌, ◌≤◌, Bool, true, false, ◌||◌, List, [], ◌∷◌, ◌++◌, is_some, length, refl, sym, ◌∙◌, ap, subst, rules, arith}
use Rattle.std.proofs.lemmas.Bool.{OnTrue_at}
use Rattle.std.proofs.lemmas.List.{nil_from_length}
use denote.Ref.{Bor}
use Rattle.attr_line.specs.declared.file.Pair.{Pair}
use Rattle.attr_stack.specs.declared.linked_macros.LinkedMacros.{LinkedMacros}
use Rattle.attr_stack.specs.Links.{left_of}
use Rattle.attr_stack.specs.Numbers.{number_at, number_pairs, AreMacros}
use Rattle.attr_stack.specs.Seen.{state_at, Notes}
use Rattle.attr_stack.specs.Search.{known, is_asked}
use Rattle.attr_stack.proofs.Decisions.{room}
use Rattle.attr_stack.proofs.Frames.{left-next, as-many, work-less}
use Rattle.attr_stack.proofs.Maps.{lines_in, are-lines, marked-known}
use Rattle.attr_stack.proofs.Readings.{room-decided, room-passed, leads-turn, leads-decide, leads-pass, leads-foreign, leads-same, not-needed}
use Rattle.attr_stack.proofs.decide.read_macros.Goals as goal

pub reading-preserved-then-is_marked : goal.reading-preserved-then-is_marked
reading-preserved-then-is_marked c =
    let macros = c.args.states.now.decided.macros.now.macros in
    let lines = lines_in macros in
    let last = c.in-Some-last_of.last in
    let pushed : c.push.new.self.items ≡ c.pop.new.self.items ++ last.rest ∷ [] = search rules in
    let turned : left_of macros c.reading.frames.items ≡ last.pair.now ∷ left_of macros c.push.new.self.items =
    left-next macros c.reading.frames.items c.pop.new.self.items c.push.new.self.items c.in-Some.frame last.rest last.pair.now c.in-Some.ensures.items pushed c.in-Some-last_of.ensures.0 in
    let number : last.number ≡ number_at c.reading.states.decided.macros.now.macros last.pair.now.name =
    c.in-Some-last_of.ensures.1 ∙ ap (λ (m : Bor LinkedMacros). number_at m.now.macros last.pair.now.name) (sym c.reading.invariant.macros) in
    let known : is_some (state_at c.reading.states.decided last.pair.now.name) ≡ true =
    marked-known c.reading.states.decided last.pair.now.name last.number number (OnTrue_at c.if-is_marked.true c.is_marked.ensures) in
    record {
      macros = c.reading.invariant.macros;
      leads = leads-pass lines (is_asked c.args.names.now) _ (left_of macros c.push.new.self.items) last.pair.now _ _ _
          (leads-turn lines (is_asked c.args.names.now) _ _ _ _ _ turned c.reading.invariant.leads) (known, λ name. refl);
    }

pub reading-preserved-then-not-is_needed : goal.reading-preserved-then-not-is_needed
reading-preserved-then-not-is_needed c =
    let macros = c.args.states.now.decided.macros.now.macros in
    let lines = lines_in macros in
    let last = c.in-Some-last_of.last in
    let pushed : c.push.new.self.items ≡ c.pop.new.self.items ++ last.rest ∷ [] = search rules in
    let turned : left_of macros c.reading.frames.items ≡ last.pair.now ∷ left_of macros c.push.new.self.items =
    left-next macros c.reading.frames.items c.pop.new.self.items c.push.new.self.items c.in-Some.frame last.rest last.pair.now c.in-Some.ensures.items pushed c.in-Some-last_of.ensures.0 in
    let unneeded : (is_some last.number || is_asked c.args.names.now last.pair.now.name) ≡ false =
    ap (λ n. is_some last.number || is_asked c.args.names.now n) (sym c.as_slice.ensures) ∙ sym c.if-not-is_needed.ensures in
    let parts = not-needed last.number (is_asked c.args.names.now last.pair.now.name) unneeded in
    record {
      macros = c.reading.invariant.macros;
      leads = leads-foreign lines c.args.names.now _ (left_of macros c.push.new.self.items) last.pair.now _ _
          (leads-turn lines (is_asked c.args.names.now) _ _ _ _ _ turned c.reading.invariant.leads)
          (sym (are-lines macros last.pair.now.name) ∙ ap (number_pairs macros) (sym c.in-Some-last_of.ensures.1 ∙ parts.0)) parts.1;
    }

pub reading-smaller-in-Continue-branch-3 : goal.reading-smaller-in-Continue-branch-3
reading-smaller-in-Continue-branch-3 c =
    let macros = c.args.states.now.decided.macros.now.macros in
    let lines = lines_in macros in
    let last = c.in-Some-last_of.last in
    let pushed : c.push.new.self.items ≡ c.pop.new.self.items ++ last.rest ∷ [] = search rules in
    let turned : left_of macros c.reading.frames.items ≡ last.pair.now ∷ left_of macros c.push.new.self.items =
    left-next macros c.reading.frames.items c.pop.new.self.items c.push.new.self.items c.in-Some.frame last.rest last.pair.now c.in-Some.ensures.items pushed c.in-Some-last_of.ensures.0 in
    let noted : Notes last.pair.now (state_at c.reading.states.decided) (state_at c.note.new.self.decided) true =
    subst (λ (b : Bool). Notes last.pair.now (state_at c.reading.states.decided) (state_at c.note.new.self.decided) b) c.if-branch.true c.in_ok-note.ensures.decides in
    let new = known (state_at c.note.new.self.decided) in
    let old = known (state_at c.reading.states.decided) in
    let less : room lines (left_of macros c.enter.new.frames.items) new + 1 ≤ room lines (left_of macros c.reading.frames.items) old =
    subst (λ (ps : List Pair). room lines (left_of macros c.enter.new.frames.items) new + 1 ≤ room lines ps old) (sym turned)
    (room-decided lines last.pair.now (left_of macros c.push.new.self.items) (left_of macros c.enter.new.frames.items) _ _ noted (c.in_ok-enter.ensures.left lines (are-lines macros))) in
    let same = as-many c.reading.frames.items c.pop.new.self.items c.push.new.self.items c.in-Some.frame last.rest c.in-Some.ensures.items pushed in
    let len : length c.enter.new.frames.items ≤ length c.reading.frames.items + 1 = omega (arith, c.in_ok-enter.ensures.len, same) in
    work-less lines macros c.reading.frames.items c.enter.new.frames.items old new less len

pub reading-preserved-in-Continue-branch-3 : goal.reading-preserved-in-Continue-branch-3
reading-preserved-in-Continue-branch-3 c =
    let macros = c.args.states.now.decided.macros.now.macros in
    let lines = lines_in macros in
    let last = c.in-Some-last_of.last in
    let pushed : c.push.new.self.items ≡ c.pop.new.self.items ++ last.rest ∷ [] = search rules in
    let turned : left_of macros c.reading.frames.items ≡ last.pair.now ∷ left_of macros c.push.new.self.items =
    left-next macros c.reading.frames.items c.pop.new.self.items c.push.new.self.items c.in-Some.frame last.rest last.pair.now c.in-Some.ensures.items pushed c.in-Some-last_of.ensures.0 in
    let noted : Notes last.pair.now (state_at c.reading.states.decided) (state_at c.note.new.self.decided) true =
    subst (λ (b : Bool). Notes last.pair.now (state_at c.reading.states.decided) (state_at c.note.new.self.decided) b) c.if-branch.true c.in_ok-note.ensures.decides in
    record {
      macros = c.note.ensures.macros ∙ c.reading.invariant.macros;
      leads = leads-decide lines (is_asked c.args.names.now) _ (left_of macros c.push.new.self.items) _ last.pair.now _ _ _
          (leads-turn lines (is_asked c.args.names.now) _ _ _ _ _ turned c.reading.invariant.leads) noted (c.in_ok-enter.ensures.left lines (are-lines macros));
    }

pub reading-smaller : goal.reading-smaller
reading-smaller c =
    let macros = c.args.states.now.decided.macros.now.macros in
    let lines = lines_in macros in
    let last = c.in-Some-last_of.last in
    let pushed : c.push.new.self.items ≡ c.pop.new.self.items ++ last.rest ∷ [] = search rules in
    let turned : left_of macros c.reading.frames.items ≡ last.pair.now ∷ left_of macros c.push.new.self.items =
    left-next macros c.reading.frames.items c.pop.new.self.items c.push.new.self.items c.in-Some.frame last.rest last.pair.now c.in-Some.ensures.items pushed c.in-Some-last_of.ensures.0 in
    let noted : Notes last.pair.now (state_at c.reading.states.decided) (state_at c.note.new.self.decided) false =
    subst (λ (b : Bool). Notes last.pair.now (state_at c.reading.states.decided) (state_at c.note.new.self.decided) b) c.if-branch.false c.in_ok-note.ensures.decides in
    let new = known (state_at c.note.new.self.decided) in
    let old = known (state_at c.reading.states.decided) in
    let less : room lines (left_of macros c.push.new.self.items) new + 1 ≤ room lines (left_of macros c.reading.frames.items) old =
    subst (λ (ps : List Pair). room lines (left_of macros c.push.new.self.items) new + 1 ≤ room lines ps old) (sym turned)
    (room-passed lines last.pair.now (left_of macros c.push.new.self.items) _ _ noted) in
    let same = as-many c.reading.frames.items c.pop.new.self.items c.push.new.self.items c.in-Some.frame last.rest c.in-Some.ensures.items pushed in
    let len : length c.push.new.self.items ≤ length c.reading.frames.items + 1 = omega (arith, same) in
    work-less lines macros c.reading.frames.items c.push.new.self.items old new less len

pub reading-preserved : goal.reading-preserved
reading-preserved c =
    let macros = c.args.states.now.decided.macros.now.macros in
    let lines = lines_in macros in
    let last = c.in-Some-last_of.last in
    let pushed : c.push.new.self.items ≡ c.pop.new.self.items ++ last.rest ∷ [] = search rules in
    let turned : left_of macros c.reading.frames.items ≡ last.pair.now ∷ left_of macros c.push.new.self.items =
    left-next macros c.reading.frames.items c.pop.new.self.items c.push.new.self.items c.in-Some.frame last.rest last.pair.now c.in-Some.ensures.items pushed c.in-Some-last_of.ensures.0 in
    let noted : Notes last.pair.now (state_at c.reading.states.decided) (state_at c.note.new.self.decided) false =
    subst (λ (b : Bool). Notes last.pair.now (state_at c.reading.states.decided) (state_at c.note.new.self.decided) b) c.if-branch.false c.in_ok-note.ensures.decides in
    record {
      macros = c.note.ensures.macros ∙ c.reading.invariant.macros;
      leads = leads-pass lines (is_asked c.args.names.now) _ (left_of macros c.push.new.self.items) last.pair.now _ _ _
          (leads-turn lines (is_asked c.args.names.now) _ _ _ _ _ turned c.reading.invariant.leads) noted;
    }

pub returns : goal.returns
returns c = λ lines are.
    let macros = c.args.states.now.decided.macros.now.macros in
    let empty : c.reading.frames.items ≡ [] = nil_from_length c.reading.frames.items (omega (arith, c.in_default.ensures.cases.0)) in (
      subst (λ (m : Bor LinkedMacros). AreMacros m.now.macros lines) (sym c.reading.invariant.macros) are,
      leads-same (lines_in macros) lines (is_asked c.args.names.now) (left_of macros c.args.frames.now.items) [] (state_at c.args.states.now.decided) (state_at c.reading.states.decided)
          (λ other. sym (are-lines macros other) ∙ are other)
          (leads-turn (lines_in macros) (is_asked c.args.names.now) _ _ _ _ _ (ap (left_of macros) empty) c.reading.invariant.leads),
    )
