use Rattle.std.proofs.Common.{◌≡◌, ◌++◌, length, map, sym, ap, ◌∙◌, arith}
use Rattle.checkout_book.proofs.Endings.{none_left}
use Rattle.checkout_book.proofs.reserved_cards.deal.Goals as goal

pub unreachable-requires : goal.unreachable-requires
unreachable-requires g c =
    let i = c.loop-cards.invariant in
    let count = i.count in
    let few = c.requires in
    omega (
      arith,
      count,
      few,
      c.in_default-pop.ensures.cases.0,
      c.loop-cards.passes.ok.0,
      c.in-Some.ensures.cases,
      c.loop-cards.desks.ok.0,
    )

pub returns-clause-count : goal.returns-clause-count
returns-clause-count g c =
    let i = c.loop-cards.invariant in
    let count = i.count in
    omega (arith, count, c.in_default.ensures.cases.0, c.loop-cards.desks.ok.0)

pub returns-clause-passes : goal.returns-clause-passes
returns-clause-passes g c = let i = c.loop-cards.invariant in i.passes

pub returns-clause-cards : goal.returns-clause-cards
returns-clause-cards g c =
    let i = c.loop-cards.invariant in
    let len : length c.loop-cards.desks.items ≡ 0 = omega (
      arith,
      c.in_default.ensures.cases.0,
      c.loop-cards.desks.ok.0,
    ) in
    let none = none_left c.loop-cards.desks.items len in
    ap (λ l. l ++ map (λ x. x.1) c.loop-cards.dealt.items) (sym none) ∙ i.cards
