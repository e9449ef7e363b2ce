-- The cards of a pool, by number.
use Rattle.std.specs.Prelude.{◌≡◌, ℕ, List, length, Some, slice_get}
use Rattle.convert_plan.specs.declared.card.Card.{Card}
use Rattle.convert_plan.specs.Card.{IsNewCard}
use Rattle.checkout_core.specs.declared.path.Start.{Start}
use Rattle.checkout_core.specs.declared.path.Start.TheVariants.{Pool}
use Rattle.checkout_book.specs.Sights.{Sight, seen}

-- so many paths of the pool, and the new card of each
pub record IsPool {B L : Type 0} (see : Sight B L) (count : ℕ) (starts : List Start) (cards : List (Card B L))
    : Type 0 where
  pub starts_count : length starts ≡ count
  pub cards_count : length cards ≡ count
  pub waiting : (p : ℕ) (s : Start) → slice_get starts p ≡ Some s → s ≡ Pool
  pub new : (k : ℕ) (c : Card B L) → slice_get cards k ≡ Some c → (c.path ≡ k) × IsNewCard (seen see c)
