use Rattle.std.proofs.Common.{◌≡◌, ◌∷◌, [], List, Option, length, refl, sym, ap, subst, ◌∙◌, arith}
use Rattle.edge_kit.specs.Starters.{SpawnerSeen}
use Rattle.clean_drivers.specs.CleanLines.{CleanLineView}
use Rattle.clean_drivers.specs.Drivers.{GivesBack, lines_out}
use Rattle.clean_drivers.proofs.drivers.give_back.Goals as goal

none_left : (xs : List (Option CleanLineView)) → length xs ≡ 0 → xs ≡ []
none_left [] is = refl
none_left (x ∷ xs) is = absurd (omega (arith, is))

pub loop-line-preserved : goal.loop-line-preserved
loop-line-preserved g c =
    let i = c.loop-line.invariant in
    record {
      rest = λ (last : SpawnerSeen) more. i.rest last
          (subst (λ (l : List (Option CleanLineView)). GivesBack l (g.P.Spawner.seen c.loop-line.spawner) last) (sym c.in-Some.ensures.steps.0)
          (g.P.Spawner.seen c.give_line.new.spawner, c.give_line.ensures.back, more));
      told = c.give_line.ensures.told ∙ i.told;
      out = omega (arith, c.give_line.ensures.out, i.out, ap lines_out c.in-Some.ensures.steps.0);
      can = tt;
      ends = tt;
    }

pub returns-clause-back : goal.returns-clause-back
returns-clause-back g c =
    let i = c.loop-line.invariant in
    let left = c.loop-line.line-iterator.rest in
    let none = none_left left.items (sym left.ok.0 ∙ c.in-None.ensures.steps.0) in
    i.rest (g.P.Spawner.seen c.loop-line.spawner)
    (subst (λ (l : List (Option CleanLineView)). GivesBack l (g.P.Spawner.seen c.loop-line.spawner) (g.P.Spawner.seen c.loop-line.spawner)) (sym none) refl)
