use Rattle.std.proofs.Common.{◌++◌, ◌∷◌, [], List, sym, ap, ◌∙◌, append_assoc}
use Rattle.std.specs.Global.{Vec}
use Rattle.std.proofs.lemmas.List.{map-append}
use Rattle.convert_plan.specs.declared.card.Card.{Card}
use Rattle.writer_pool.specs.declared.pooled.DeskSeed.{DeskSeed}
use Rattle.writer_pool.specs.declared.desks.DeskHead.{DeskHead}
use Rattle.writer_pool.specs.Dealing.{head_of}
use Rattle.writer_pool.proofs.desks.take_apart.Goals as goal

pub loop-seed-preserved : goal.loop-seed-preserved
loop-seed-preserved g c =
    let S = g.row.S.Denot in
    let B = g.row.B.Denot in
    let L = g.row.L.Denot in
    let i = c.loop-seed.invariant in
    let y = c.loop-seed.yielded in
    let x : DeskSeed S B L = c.in-Some.seed in
    record {
      whole = append_assoc y (x ∷ []) c.next.new.self.rest.items
          ∙ (ap (λ (l : List (DeskSeed S B L)). y ++ l) (sym c.in-Some.ensures.steps.0) ∙ i.whole);
      heads = c.in_ok-add_both.ensures.heads ∙ (ap (λ (l : List (DeskHead S)). l ++ head_of x ∷ []) i.heads
          ∙ sym (map-append (λ (z : DeskSeed S B L). head_of z) y (x ∷ [])));
      cards = c.in_ok-add_both.ensures.cards ∙ (ap (λ (l : List (Vec (Card B L))). l ++ x.cards ∷ []) i.cards
          ∙ sym (map-append (λ (z : DeskSeed S B L). z.cards) y (x ∷ [])));
      can = tt;
      ends = tt;
    }
