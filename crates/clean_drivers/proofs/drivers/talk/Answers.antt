use Rattle.std.proofs.Common.{◌≡◌, ◌<◌, ◌≤◌, ◌+◌, ℕ, List, Option, Some, inl, inr, None, length, refl, sym, ap, subst, ◌∙◌, arith}
use Rattle.std.specs.Prelude.{slice_get, slice_set}
use Rattle.edge_kit.specs.Starters.{SpawnerSeen}
use Rattle.clean_drivers.specs.CleanLines.{CleanLineView, starts_of}
use Rattle.clean_drivers.specs.Drivers.{LinesView, drivers_seen, lines_out}
use Rattle.clean_drivers.proofs.Places.{found_at, set_twice, set_same, starts_set, line_few, line_out}
use Rattle.clean_drivers.proofs.drivers.talk.Goals as goal

pub clean-answer-requires-clause-few : goal.clean-answer-requires-clause-few
clean-answer-requires-clause-few g c κs within =
    let place = c.args.question.now.driver in
    let xs = c.drivers.inside.lines.items in
    let lt : place < length xs = subst (λ (v : LinesView). place < length v.lines) (sym c.drivers.view_is) c.requires.place in
    let at = found_at xs place c.index_mut.result.now c.take-found.result lt (c.take-found.ensures.value ∙ c.index_mut.ensures.value) in
    let few = line_few (g.P.Spawner.told c.args.spawner.now) c.args.question.now.text.now c.take-found.result (g.P.Spawner.seen c.args.spawner.now) (g.P.Spawner.seen c.line_for.new.spawner) c.in-Ok.line c.drivers.inside.asked c.in-Ok.ensures.line
    (λ (l : CleanLineView) here. c.drivers.invariant place l (at ∙ ap Some here)) in
    let asked : c.drivers.inside.asked ≡ c.args.drivers.now.asked = ap (λ (v : LinesView). v.asked) c.drivers.view_is in
    omega (arith, few, asked, c.requires.few)

pub invariant_of-drivers-2 : goal.invariant_of-drivers-2
invariant_of-drivers-2 g c =
    let place = c.args.question.now.driver in
    let xs = c.drivers.inside.lines.items in
    let lt : place < length xs = subst (λ (v : LinesView). place < length v.lines) (sym c.drivers.view_is) c.requires.place in
    let at = found_at xs place c.index_mut.result.now c.take-found.result lt (c.take-found.ensures.value ∙ c.index_mut.ensures.value) in
    let few = line_few (g.P.Spawner.told c.args.spawner.now) c.args.question.now.text.now c.take-found.result (g.P.Spawner.seen c.args.spawner.now) (g.P.Spawner.seen c.line_for.new.spawner) c.in-Ok.line c.drivers.inside.asked c.in-Ok.ensures.line
    (λ (l : CleanLineView) here. c.drivers.invariant place l (at ∙ ap Some here)) in
    let last : starts_of c.clean-answer.new.self ≤ c.drivers.inside.asked + 1 = omega (arith, few, c.clean-answer.ensures.starts) in
    subst (λ (l : List (Option CleanLineView)). (q : ℕ) (line : CleanLineView) → slice_get l q ≡ Some (Some line) → starts_of line ≤ c.drivers.inside.asked + 1)
    (sym (set_twice xs place c.take-found.new.self (Some c.clean-answer.new.self)))
    (starts_set xs place c.drivers.inside.asked c.clean-answer.new.self c.drivers.invariant last)

pub returns-clause-talks : goal.returns-clause-talks
returns-clause-talks g c faults =
    let place = c.args.question.now.driver in
    let xs = c.drivers.inside.lines.items in
    let lt : place < length xs = subst (λ (v : LinesView). place < length v.lines) (sym c.drivers.view_is) c.requires.place in
    let at = found_at xs place c.index_mut.result.now c.take-found.result lt (c.take-found.ensures.value ∙ c.index_mut.ensures.value) in
    inl (record {
      found = c.take-found.result;
      stood = ap (λ (v : LinesView). slice_get v.lines place) (sym c.drivers.view_is) ∙ at;
      line = c.in-Ok.line;
      has = c.in-Ok.ensures.line;
      last = c.clean-answer.new.self;
      cleans = c.clean-answer.ensures.cleans;
      lines = set_twice xs place c.take-found.new.self (Some c.clean-answer.new.self)
          ∙ ap (λ (v : LinesView). slice_set v.lines place (Some c.clean-answer.new.self)) c.drivers.view_is;
      faults = refl;
    })

pub returns-clause-out : goal.returns-clause-out
returns-clause-out g c =
    let place = c.args.question.now.driver in
    let xs = c.drivers.inside.lines.items in
    let lt : place < length xs = subst (λ (v : LinesView). place < length v.lines) (sym c.drivers.view_is) c.requires.place in
    let at = found_at xs place c.index_mut.result.now c.take-found.result lt (c.take-found.ensures.value ∙ c.index_mut.ensures.value) in
    ap (λ (v : LinesView). (g.P.Spawner.seen c.line_for.new.spawner).out + lines_out v.lines) (sym c.drivers.view_is)
    ∙ line_out (g.P.Spawner.told c.args.spawner.now) c.args.question.now.text.now c.take-found.result (g.P.Spawner.seen c.args.spawner.now) (g.P.Spawner.seen c.line_for.new.spawner) c.in-Ok.line c.clean-answer.new.self xs place c.in-Ok.ensures.line at
    ∙ ap (λ (l : List (Option CleanLineView)). (g.P.Spawner.seen c.args.spawner.now).out + lines_out l)
    (sym (set_twice xs place c.take-found.new.self (Some c.clean-answer.new.self)))

pub returns-in_default-clause-talks : goal.returns-in_default-clause-talks
returns-in_default-clause-talks g c faults =
    let place = c.args.question.now.driver in
    let xs = c.drivers.inside.lines.items in
    let lt : place < length xs = subst (λ (v : LinesView). place < length v.lines) (sym c.drivers.view_is) c.requires.place in
    let at = found_at xs place c.index_mut.result.now c.take-found.result lt (c.take-found.ensures.value ∙ c.index_mut.ensures.value) in
    let none : slice_get xs place ≡ Some None = at ∙ ap Some c.in_default.ensures.none.0 in
    let stays : slice_set xs place c.take-found.new.self ≡ xs =
    ap (λ (x : Option CleanLineView). slice_set xs place x) c.take-found.ensures.after ∙ set_same xs place None none in
    inr (
      ap (λ (v : LinesView). slice_get v.lines place) (sym c.drivers.view_is) ∙ none,
      refl,
      ap (λ (l : List (Option CleanLineView)). drivers_seen l (g.P.Spawner.seen c.line_for.new.spawner) faults) stays
          ∙ ap (λ (v : LinesView). drivers_seen v.lines (g.P.Spawner.seen c.line_for.new.spawner) faults) c.drivers.view_is
          ∙ ap (λ (z : SpawnerSeen). drivers_seen c.args.drivers.now.lines z faults) c.in_default.ensures.none.1,
    )
