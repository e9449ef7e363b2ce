-- How a desk's cards ended, by what their objects gave.
use Rattle.std.specs.Prelude.{◌≡◌, ◌==◌, ◌<◌, ℕ, Bool, true, false, cond, List, [], ◌∷◌, slice_get}
use Rattle.std.specs.Prelude.{Some, Result, Ok, Err}
use Rattle.checkout_core.specs.declared.event.Event.{Event}
use Rattle.checkout_core.specs.declared.event.Event.TheVariants.{Claim, Close, HandBack}
use Rattle.checkout_core.specs.declared.verdict.Own.{Own}
use Rattle.driver_desk.specs.Ties.{FitsOwn, HasContent}
use Rattle.driver_desk.specs.Works.{WorkSeen}

-- In its own list, an actor closed the work's path as what its object gave says, unless it had claimed it. It handed it
-- back only with a content.
pub record IsTiedIn (mine : List Event) (w : WorkSeen) : Type 0 where
  pub closed : (place actor : ℕ) (own : Own) → slice_get mine place ≡ Some (Close w.card.path actor own)
      → ((j : ℕ) → j < place → slice_get mine j ≡ Some (Claim w.card.path actor) → ⊥) → FitsOwn w.content own
  pub back : (place : ℕ) → slice_get mine place ≡ Some (HandBack w.card.path) → HasContent w.content

-- it did so with each work
abbrev pub AreTiedIn : List Event → List WorkSeen → Type 0
AreTiedIn mine works = (k : ℕ) (w : WorkSeen) → slice_get works k ≡ Some w → IsTiedIn mine w

-- In the history, the work's path was closed as what its object gave says, by whichever actor.
abbrev pub IsTiedAt : List Event → WorkSeen → Type 0
IsTiedAt history w = (place actor : ℕ) (own : Own) → slice_get history place ≡ Some (Close w.card.path actor own)
    → FitsOwn w.content own

-- and so was the path of each work
abbrev pub AreTiedAt : List Event → List WorkSeen → Type 0
AreTiedAt history works = (k : ℕ) (w : WorkSeen) → slice_get works k ≡ Some w → IsTiedAt history w

-- whether a work's object gave a content
abbrev pub has_content : Result (List ℕ) Own → Bool
has_content (Ok content) = true
has_content (Err own) = false

abbrev pub content_or_none : Result (List ℕ) Own → List ℕ
content_or_none (Ok content) = content
content_or_none (Err own) = []

-- the content of the first work of this path
abbrev pub content_in : List WorkSeen → ℕ → List ℕ
content_in [] p = []
content_in (w ∷ ws) p = cond (w.card.path == p) (content_or_none w.content) (content_in ws p)
