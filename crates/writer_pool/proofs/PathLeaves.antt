-- The leaf of each path, among all leaves.
use Rattle.std.proofs.Common.{◌≡◌, ℕ, zero, suc, ◌+◌, List, [], ◌∷◌, ap, ◌∙◌, arith}
use Rattle.convert_plan.specs.declared.card.Card.{Card}
use Rattle.checkout_core.specs.declared.event.Event.{Event}
use Rattle.checkout_core.specs.declared.path.Start.{Start}
use Rattle.checkout_core.specs.declared.path.Start.TheVariants.{Pool, Desk, Done}
use Rattle.checkout_book.specs.Sights.{Sight}
use Rattle.writer_pool.specs.Ends.{AreEnds}
use Rattle.writer_pool.specs.Sealing.{leaf_at, AreAtPaths}

module _ {B L : Type 0} (see : Sight B L) (starts : List Start) (history : List Event) (cards : List (Card B L))
    (leaves : List L) where
  -- the leaves of the paths from p on are the last of all
  abbrev AreLast : ℕ → List Start → List L → Type 0
  AreLast p ss ls = (i : ℕ) → leaf_at starts leaves (p + i) ≡ leaf_at ss ls i

  here : (p : ℕ) (ss : List Start) (ls : List L) → AreLast p ss ls → leaf_at starts leaves p ≡ leaf_at ss ls zero
  here p ss ls last =
      let n : p ≡ p + zero = omega arith in
      ap (leaf_at starts leaves) n ∙ last zero

  next : (p : ℕ) (ss : List Start) (ls : List L) → AreLast p ss ls → (i : ℕ)
      → leaf_at starts leaves (suc p + i) ≡ leaf_at ss ls (suc i)
  next p ss ls last i =
      let n : suc p + i ≡ p + suc i = omega arith in
      ap (leaf_at starts leaves) n ∙ last (suc i)

  pub at_paths : (p : ℕ) (ss : List Start) (bs : List B) (ls : List L) → AreEnds see starts history cards p ss bs ls
      → AreLast p ss ls → AreAtPaths starts leaves p ss ls
  at_paths p [] [] [] ends last = tt
  at_paths p [] [] (l ∷ ls) ends last = absurd ends
  at_paths p [] (b ∷ bs) ls ends last = absurd ends
  at_paths p (Done v ∷ ss) bs ls ends last = at_paths (suc p) ss bs ls ends (next p (Done v ∷ ss) ls last)
  at_paths p (Pool ∷ ss) (b ∷ bs) (l ∷ ls) ends last =
      (here p (Pool ∷ ss) (l ∷ ls) last, at_paths (suc p) ss bs ls ends.1 (next p (Pool ∷ ss) (l ∷ ls) last))
  at_paths p (Pool ∷ ss) [] ls ends last = absurd ends
  at_paths p (Pool ∷ ss) (b ∷ bs) [] ends last = absurd ends
  at_paths p (Desk d r ∷ ss) (b ∷ bs) (l ∷ ls) ends last =
      (here p (Desk d r ∷ ss) (l ∷ ls) last, at_paths (suc p) ss bs ls ends.1 (next p (Desk d r ∷ ss) (l ∷ ls) last))
  at_paths p (Desk d r ∷ ss) [] ls ends last = absurd ends
  at_paths p (Desk d r ∷ ss) (b ∷ bs) [] ends last = absurd ends
