use Rattle.std.proofs.Common.{◌≡◌, ◌++◌, ◌∷◌, [], ℕ, List, length, map, length-append, refl, sym, ap, ◌∙◌, arith, append_assoc, append-nil}
use Rattle.std.proofs.lemmas.List.{map-append}
use Rattle.edge_kit.specs.Starters.{Had, SpawnerSeen, starter_back}
use Rattle.checkout_paths.proofs.Back.{none_left}
use Rattle.checkout_paths.proofs.given_back.give_starters.Goals as goal

pub loop-starter-init : goal.loop-starter-init
loop-starter-init g c = record {
  whole = c.into_iter-starter-iterator.ensures.into_iter_gives.0;
  told = refl;
  out = omega arith;
  back = ap (λ l. record (g.P.Spawner.seen c.args.spawner.now) { returned = l }) (sym (append-nil (g.P.Spawner.seen c.args.spawner.now).returned));
  can = tt;
  ends = tt;
}

pub take_back-requires-clause-given : goal.take_back-requires-clause-given
take_back-requires-clause-given g c =
    let i = c.loop-starter.invariant in
    omega (
      arith,
      i.out,
      c.requires.given,
      ap length i.whole,
      length-append c.loop-starter.yielded c.loop-starter.starter-iterator.rest.items,
      ap length c.in-Some.ensures.steps.0,
    )

pub loop-starter-preserved : goal.loop-starter-preserved
loop-starter-preserved g c =
    let i = c.loop-starter.invariant in
    let y = c.loop-starter.yielded in
    let x = c.in-Some.starter in
    let old = g.P.Spawner.seen c.args.spawner.now in
    let new = g.P.Spawner.seen c.take_back.new.self in
    let f : g.row.P-Starter.Denot → List ℕ × List Had = λ b. starter_back (g.P.Starter.Starter.seen b) in
    record {
      whole = append_assoc y (x ∷ []) c.next.new.self.rest.items ∙ (ap (λ l. y ++ l) (sym c.in-Some.ensures.steps.0)
          ∙ i.whole);
      told = c.take_back.ensures.told ∙ i.told;
      out = omega (arith, c.take_back.ensures.out, i.out, length-append y (x ∷ []));
      back = c.take_back.ensures.back
          ∙ ap (λ (r : SpawnerSeen). record r { out = new.out; returned = r.returned ++ f x ∷ [] }) i.back
          ∙ ap (λ l. record old { out = new.out; returned = l })
          (append_assoc old.returned (map f y) (f x ∷ []) ∙ ap (λ l. old.returned ++ l) (sym (map-append f y (x ∷ []))));
      can = tt;
      ends = tt;
    }

pub returns : goal.returns
returns g c =
    let i = c.loop-starter.invariant in
    let y = c.loop-starter.yielded in
    let left = c.loop-starter.starter-iterator.rest in
    let none = none_left left.items (sym left.ok.0 ∙ c.in-None.ensures.steps.0) in
    let whole : y ≡ c.args.starters.items = sym (append-nil y) ∙ (ap (λ l. y ++ l) (sym none) ∙ i.whole) in
    let old = g.P.Spawner.seen c.args.spawner.now in
    let new = g.P.Spawner.seen c.loop-starter.spawner in
    record {
      told = i.told;
      out = omega (arith, i.out, ap length whole);
      back = i.back ∙ ap (λ l. record old { out = new.out; returned = old.returned ++ map (λ b. starter_back (g.P.Starter.Starter.seen b)) l }) whole;
    }
