use Rattle.std.proofs.Common.{◌≡◌, ◌⊎◌, ◌<◌, ℕ, [], length, inl, inr, refl, sym, ap, subst, ◌∙◌, map, List, arith}
use Rattle.driver_line.specs.Lines.{number_at}
use Rattle.driver_desk.specs.Late.{LateView, cards_of, names_at}
use Rattle.driver_desk.specs.declared.served.Serving.{Serving}
use Rattle.driver_desk.proofs.OnRounds.{open_next, turns_by, turns_closed, le_of, closed_fewer, any_fewer, goes_same, goes_both, goes_to, goes_closed, rounds_to, rounds_closed}
use Rattle.driver_desk.proofs.RoundSteps.{some_there}
use Rattle.driver_desk.proofs.Serves.{is_none}
use Rattle.driver_desk.proofs.served.Serving.redo_all.Goals as goal

fewer_of : {P : Type 0} (a b i : ℕ) → (P → b ≡ i) → P ⊎ (b < i) → a < b → a < i
fewer_of a b i same (inl p) lt = let k = same p in omega (arith, k, lt)
fewer_of a b i same (inr more) lt = omega (arith, more, lt)

no_names : (v : LateView) → v.table.turns ≡ [] → names_at v ≡ []
no_names v e = ap (map (number_at v.numbers)) e

pub loop-self-init : goal.loop-self-init
loop-self-init g c = record { on = c.requires.on; goes = goes_same _ _ _; fewer = inl refl }

pub redo_next-requires-clause-on : goal.redo_next-requires-clause-on
redo_next-requires-clause-on g c κs within = c.loop-self.invariant.on

pub redo_next-requires-clause-opened : goal.redo_next-requires-clause-opened
redo_next-requires-clause-opened g c κs within = open_next _ (some_there _ (rw c.loop-self-test.true at c.is_open.ensures)) c.loop-self.invariant.on.next

pub loop-self-preserved : goal.loop-self-preserved
loop-self-preserved g c =
    let h = c.loop-self.invariant in
    let e = c.redo_next.ensures in record {
      on = e.on;
      goes = goes_both _ _ _ _ _ _ _ _ _ h.goes e.goes;
      fewer = inr (fewer_of _ _ _ (λ p. ap (λ (x : Serving _ _ _ _). length (cards_of x.late)) p) h.fewer (e.fewer c.if-not-redo_next.false));
    }

pub returns : goal.returns
returns g c =
    let h = c.loop-self.invariant in
    let none = is_none _ (rw c.loop-self-test.false at c.is_open.ensures) in record {
      on = rounds_closed _ _ _ _ none h.on;
      goes = goes_closed _ _ _ _ _ _ _ none h.goes;
      turns = turns_closed _ _ none;
      fewer = λ some. closed_fewer _ _ _ none (le_of _ _ (λ p. ap (λ (x : Serving _ _ _ _). length (cards_of x.late)) p) h.fewer);
    }

pub returns-then-not-redo_next : goal.returns-then-not-redo_next
returns-then-not-redo_next g c =
    let h = c.loop-self.invariant in
    let e = c.redo_next.ensures in
    let o = e.over c.if-not-redo_next.true in
    let there = some_there _ (rw c.loop-self-test.true at c.is_open.ensures) in record {
      on = rounds_to _ _ _ _ (no_names c.redo_next.new.self.late o.0) e.on;
      goes = goes_to _ _ _ _ _ _ _ (no_names c.redo_next.new.self.late o.0) (goes_both _ _ _ _ _ _ _ _ _ h.goes e.goes);
      turns = turns_by _ _ o.0;
      fewer = λ some. elim h.fewer [
        | inl p ↦ let is = o.1 ∙ p in
            let k = some (λ none. there (ap (λ (x : Serving _ _ _ _). x.line.session) p ∙ none)) in
            let z = ap (λ (x : List ℕ). length x) (ap (λ (x : Serving _ _ _ _). names_at x.late) (sym is) ∙ no_names c.redo_next.new.self.late o.0) in absurd (omega (arith, k, z))
        | inr lt ↦ any_fewer _ _ _ (subst (λ (x : Serving _ _ _ _). length (cards_of x.late) < length (cards_of c.args.self.now.late)) (sym o.1) lt)
      ];
    }
