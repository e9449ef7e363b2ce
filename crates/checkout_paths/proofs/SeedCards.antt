-- The cards of seeds, one seed after another.
use Rattle.std.proofs.Common.{◌≡◌, ◌+◌, ◌≤◌, ◌++◌, ◌∷◌, [], ℕ, List, length, length-append, refl, sym, ap, ◌∙◌, subst, arith, append_assoc}
use Rattle.edge_kit.specs.Starters.{StarterSeen}
use Rattle.convert_plan.specs.declared.card.Card.{Card}
use Rattle.checkout_book.specs.Sights.{Sight}
use Rattle.checkout_book.specs.Reserving.{AreNew}
use Rattle.writer_pool.specs.declared.pooled.DeskSeed.{DeskSeed}
use Rattle.writer_pool.specs.Pools.{seed_cards}
use Rattle.checkout_paths.specs.Dealing.{IsIdle, AreIdle}
use Rattle.checkout_paths.proofs.PoolCards.{new_between}

module _ {S B L : Type 0} where
  pub cards_then : (xs ys : List (DeskSeed S B L)) → seed_cards (xs ++ ys) ≡ seed_cards xs ++ seed_cards ys
  cards_then [] ys = refl
  cards_then (x ∷ xs) ys = ap (λ (l : List (Card B L)). x.cards.items ++ l) (cards_then xs ys) ∙ sym (append_assoc x.cards.items (seed_cards xs) (seed_cards ys))

  -- the cards of a seed stand between those of the seeds before it and after it
  pub cards_middle : (ys xs seeds : List (DeskSeed S B L)) (x : DeskSeed S B L) → ys ++ x ∷ xs ≡ seeds → seed_cards seeds ≡ seed_cards ys ++ (x.cards.items ++ seed_cards xs)
  cards_middle ys xs seeds x is = ap seed_cards (sym is) ∙ cards_then ys (x ∷ xs)

  pub new_seed : (see : Sight B L) (ys xs seeds : List (DeskSeed S B L)) (x : DeskSeed S B L) → ys ++ x ∷ xs ≡ seeds → AreNew see (seed_cards seeds) → AreNew see x.cards.items
  new_seed see ys xs seeds x is new =
      new_between see (seed_cards ys) x.cards.items (seed_cards xs) (subst (λ (l : List (Card B L)). AreNew see l) (cards_middle ys xs seeds x is) new)

  pub idle_seed : (starter : S → StarterSeen) (ys xs seeds : List (DeskSeed S B L)) (x : DeskSeed S B L) → ys ++ x ∷ xs ≡ seeds → AreIdle starter seeds → IsIdle (starter x.starter)
  idle_seed starter ys xs seeds x is all = at ys (subst (λ (l : List (DeskSeed S B L)). AreIdle starter l) (sym is) all)
    where
      at : (ys : List (DeskSeed S B L)) → AreIdle starter (ys ++ x ∷ xs) → IsIdle (starter x.starter)
      at [] all = all.0
      at (y ∷ ys) all = at ys all.1

  -- what is out is enough for the cards of the next seed
  pub few_before : (ys xs seeds : List (DeskSeed S B L)) (x : DeskSeed S B L) (now old : ℕ) → ys ++ x ∷ xs ≡ seeds → now + length (seed_cards ys) ≡ old → length (seed_cards seeds) ≤ old → length x.cards.items ≤ now
  few_before ys xs seeds x now old is given enough = omega (
    arith,
    given,
    enough,
    ap length (cards_middle ys xs seeds x is),
    length-append (seed_cards ys) (x.cards.items ++ seed_cards xs),
    length-append x.cards.items (seed_cards xs),
  )

  pub one_more : (ys : List (DeskSeed S B L)) (x : DeskSeed S B L) → length (seed_cards (ys ++ x ∷ [])) ≡ length (seed_cards ys) + length x.cards.items
  one_more ys x = omega (
    arith,
    ap length (cards_then ys (x ∷ [])),
    length-append (seed_cards ys) (x.cards.items ++ []),
    length-append {A = Card B L} x.cards.items [],
  )
