use Rattle.std.proofs.Common.{◌≡◌, ℕ, ◌+◌, ◌-◌, ◌<◌, true, false, List, [], ◌++◌, length, take, reverse, get_or, sym, ◌∙◌, ap, rules, arith}
use Rattle.std.proofs.lemmas.Bool.{OnTrue_at}
use Rattle.wild_match.specs.Fits.{is_match}
use Rattle.attr_stack.specs.Rows.{row_pattern, row_rule, rows_pairs}
use Rattle.attr_stack.specs.Pairs.{row_pairs}
use Rattle.attr_stack.specs.Search.{is_asked, Leads}
use Rattle.attr_stack.specs.Seen.{state_at}
use Rattle.attr_stack.proofs.Lists.{rows-last, row-tested, row-matched, row-passed}
use Rattle.attr_stack.proofs.Readings.{leads-on, leads-turn, leads-done}
use Rattle.attr_stack.proofs.compiled_file.read_rows.Goals as goal
use Rattle.attr_line.specs.declared.file.AttrRow.{AttrRow}
use Rattle.attr_line.specs.declared.file.AttrRow.TheVariants.{Macro}

pub loop-place-preserved-then-not-matches_named : goal.loop-place-preserved-then-not-matches_named
loop-place-preserved-then-not-matches_named c = λ lines are.
    let before = c.loop-place.invariant lines are in
    let rows = c.args.compiled.now.rows.now in
    let path = c.args.path.now in
    let names = is_asked c.args.names.now in
    let i = c.loop-place.place - 1 in
    let within : i < length rows = omega (arith, c.loop-place.auto.place, c.loop-place-test.true) in
    let next : i + 1 ≡ c.loop-place.place = omega (arith, c.loop-place-test.true) in
    let first = c.index-patterns-place.result in
    let stands : first ≡ get_or c.args.compiled.now.patterns.now i first = search rules in
    let row : AttrRow = get_or rows i (Macro [] []) in
    let differs : is_match (row_pattern row) path ≡ false =
    sym (row-tested rows path i (Macro [] []) first (stands ∙ ap (λ (ps : List (List ℕ)). get_or ps i first) c.requires) within) ∙ sym c.if-not-matches_named.ensures in
    let turned : rows_pairs path (take c.loop-place.place rows) ≡ rows_pairs path (take i rows) =
    ap (λ (n : ℕ). rows_pairs path (take n rows)) (sym next) ∙ rows-last rows path i (Macro [] []) within
    ∙ ap (λ ps. ps ++ rows_pairs path (take i rows)) (row-passed row path differs) in
    (before.0, leads-turn lines names _ _ _ _ _ turned before.1)

pub returns-then-branch : goal.returns-then-branch
returns-then-branch c = λ lines are.
    let before = c.loop-place.invariant lines are in
    let rows = c.args.compiled.now.rows.now in
    let path = c.args.path.now in
    let row = c.index-rows-place.result in
    let names = is_asked c.args.names.now in
    let i = c.loop-place.place - 1 in
    let here : row ≡ get_or rows i row = search rules in
    let within : i < length rows = omega (arith, c.loop-place.auto.place, c.loop-place-test.true) in
    let next : i + 1 ≡ c.loop-place.place = omega (arith, c.loop-place-test.true) in
    let first = c.index-patterns-place.result in
    let stands : first ≡ get_or c.args.compiled.now.patterns.now i first = search rules in
    let matches : is_match (row_pattern row) path ≡ true =
    ap (λ r. is_match (row_pattern r) path) here
    ∙ sym (row-tested rows path i row first (stands ∙ ap (λ (ps : List (List ℕ)). get_or ps i first) c.requires) within) ∙ sym c.if-not-matches_named.ensures in
    let turned : rows_pairs path (take c.loop-place.place rows) ≡ reverse (row_rule row) ++ rows_pairs path (take i rows) =
    ap (λ (n : ℕ). rows_pairs path (take n rows)) (sym next) ∙ rows-last rows path i row within
    ∙ ap (λ r. row_pairs path r ++ rows_pairs path (take i rows)) (sym here) ∙ ap (λ ps. ps ++ rows_pairs path (take i rows)) (row-matched row path matches) in
    let read : Leads lines names (rows_pairs path rows) (state_at c.args.states.now.decided) (rows_pairs path (take i rows)) (state_at c.read_row.new.states.decided) =
    leads-on lines names (rows_pairs path rows) (reverse (row_rule row)) (rows_pairs path (take i rows)) (state_at c.args.states.now.decided) (state_at c.loop-place.states.decided) (state_at c.read_row.new.states.decided)
    (leads-turn lines names _ _ _ _ _ turned before.1) (c.in_ok-read_row.ensures.states lines before.0).1 in
    ((c.in_ok-read_row.ensures.states lines before.0).0, leads-done lines c.args.names.now _ _ [] _ _ (OnTrue_at c.if-branch.true c.in_ok-read_row.ensures.done) read)

pub loop-place-preserved : goal.loop-place-preserved
loop-place-preserved c = λ lines are.
    let before = c.loop-place.invariant lines are in
    let rows = c.args.compiled.now.rows.now in
    let path = c.args.path.now in
    let row = c.index-rows-place.result in
    let names = is_asked c.args.names.now in
    let i = c.loop-place.place - 1 in
    let here : row ≡ get_or rows i row = search rules in
    let within : i < length rows = omega (arith, c.loop-place.auto.place, c.loop-place-test.true) in
    let next : i + 1 ≡ c.loop-place.place = omega (arith, c.loop-place-test.true) in
    let first = c.index-patterns-place.result in
    let stands : first ≡ get_or c.args.compiled.now.patterns.now i first = search rules in
    let matches : is_match (row_pattern row) path ≡ true =
    ap (λ r. is_match (row_pattern r) path) here
    ∙ sym (row-tested rows path i row first (stands ∙ ap (λ (ps : List (List ℕ)). get_or ps i first) c.requires) within) ∙ sym c.if-not-matches_named.ensures in
    let turned : rows_pairs path (take c.loop-place.place rows) ≡ reverse (row_rule row) ++ rows_pairs path (take i rows) =
    ap (λ (n : ℕ). rows_pairs path (take n rows)) (sym next) ∙ rows-last rows path i row within
    ∙ ap (λ r. row_pairs path r ++ rows_pairs path (take i rows)) (sym here) ∙ ap (λ ps. ps ++ rows_pairs path (take i rows)) (row-matched row path matches) in (
      (c.in_ok-read_row.ensures.states lines before.0).0,
      leads-on lines names (rows_pairs path rows) (reverse (row_rule row)) (rows_pairs path (take i rows)) (state_at c.args.states.now.decided) (state_at c.loop-place.states.decided) (state_at c.read_row.new.states.decided)
          (leads-turn lines names _ _ _ _ _ turned before.1) (c.in_ok-read_row.ensures.states lines before.0).1,
    )

pub returns : goal.returns
returns c = λ lines are.
    let before = c.loop-place.invariant lines are in
    let rows = c.args.compiled.now.rows.now in
    let path = c.args.path.now in
    let none : c.loop-place.place ≡ 0 = omega (arith, c.loop-place-test.false, c.loop-place.auto.place) in
    let turned : rows_pairs path (take c.loop-place.place rows) ≡ [] = ap (λ (n : ℕ). rows_pairs path (take n rows)) none in
    (before.0, leads-turn lines (is_asked c.args.names.now) _ _ _ _ _ turned before.1)
