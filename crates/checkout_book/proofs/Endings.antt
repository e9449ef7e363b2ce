-- What a book leaves.
use Rattle.std.proofs.Common.{◌≡◌, ◌==◌, ◌+◌, ◌<◌, ℕ, suc, true, false, Bool, cond, List, [], ◌∷◌, ◌++◌, length}
use Rattle.std.proofs.Common.{map, Option, Some, None, ⊎_elim, refl, sym, ap, ◌∙◌, arith}
use Rattle.std.specs.Prelude.{slice_get}
use Rattle.checkout_core.specs.declared.path.Start.{Start}
use Rattle.checkout_core.specs.declared.path.Path.{Path}
use Rattle.checkout_core.specs.declared.event.Event.{Event}
use Rattle.checkout_core.specs.declared.event.Event.TheVariants as ev
use Rattle.checkout_core.specs.Closes.{closing_of, closes}
use Rattle.convert_plan.specs.declared.card.Card.{Card}
use Rattle.checkout_book.specs.declared.plan.HistoryEntry.{HistoryEntry}
use Rattle.checkout_book.specs.declared.plan.Parts.{Parts}
use Rattle.checkout_book.specs.declared.shelf.Slot.{Slot}
use Rattle.checkout_book.specs.declared.shelf.Slot.TheVariants.{Away, Waits, Ended}
use Rattle.checkout_book.specs.Shape.{Shelf}
use Rattle.checkout_book.specs.Sights.{Sight, tell}
use Rattle.checkout_book.specs.Entries.{parts_at, entries, history_of}
use Rattle.checkout_book.specs.Shelves.{cards_of, plan_of, IsRow, IsSound, AreEnded}
use Rattle.checkout_book.specs.Ending.{parts_in, told_of, told_from, with_first}
use Rattle.checkout_book.proofs.Runs.{same_or}
use Rattle.checkout_book.proofs.Entries.{NotEnded}
use Rattle.checkout_book.proofs.CoreLaws.{KeepsSize}

pub none_left : {A : Type 0} (xs : List A) → length xs ≡ 0 → xs ≡ []
none_left [] e = refl
none_left (x ∷ xs) e = absurd (cc (e))

module _ {B L : Type 0} where
  parts_more : (xs : List (Slot B L)) (x : Slot B L) → parts_in (xs ++ x ∷ []) ≡ parts_in xs ++ parts_in (x ∷ [])
  parts_more [] x = refl
  parts_more (Ended b l ∷ xs) x = ap (λ r. (b, l) ∷ r) (parts_more xs x)
  parts_more (Away ∷ xs) x = parts_more xs x
  parts_more (Waits c ∷ xs) x = parts_more xs x

  -- one slot more
  pub parts_next : (xs : List (Slot B L)) (x : Slot B L) (old new more : List (B × L)) → old ≡ parts_in xs
      → new ≡ old ++ more → parts_in (x ∷ []) ≡ more → new ≡ parts_in (xs ++ x ∷ [])
  parts_next xs x old new more a b c =
      b ∙ (ap (λ l. l ++ more) a ∙ (ap (λ l. parts_in xs ++ l) (sym c) ∙ sym (parts_more xs x)))

  -- rows stand beside each other
  rows_length : (see : Sight B L) (cards : List (Card B L)) (slots : List (Slot B L)) (paths : List Path)
      → ((p : ℕ) → (n : ℕ) × IsRow see cards n (slice_get slots p) (slice_get paths p))
      → length slots ≡ length paths
  rows_length see cards [] [] are = refl
  rows_length see cards [] (r ∷ rs) are = absurd (are 0).1
  rows_length see cards (s ∷ ss) [] are = absurd (are 0).1
  rows_length see cards (s ∷ ss) (r ∷ rs) are = ap suc (rows_length see cards ss rs (λ p. are (suc p)))

  module _ (tells : B → L → Parts) (starts : List Start) (workers : ℕ) (slots : List (Slot B L)) (p : ℕ) where
    closed_once : (q : ℕ) (found : Option Parts) (rest : Option Parts) → (p == q) ≡ false
        → cond (cond (p == q) 1 0 == 0) rest found ≡ rest
    closed_once q found rest other = ap (λ (b : Bool). cond (cond b 1 0 == 0) rest found) other

    -- a path without parts has no Close
    none_told : (es : List Event) → NotEnded slots p → AreEnded slots es
        → told_of p (entries tells starts workers slots es) ≡ None
    none_told [] n are = refl
    none_told (ev.Close q a o ∷ es) n are = ⊎_elim
        (λ (h : (p ≡ q) × ((p == q) ≡ true)).
        absurd (n are.0.0 are.0.1 (ap (slice_get slots) h.0 ∙ are.0.2)))
        (λ (h : ((p ≡ q) → ⊥) × ((p == q) ≡ false)).
        closed_once q _ _ h.1 ∙ none_told es n are.1)
        (same_or p q)
    none_told (ev.Claim q a ∷ es) n are = none_told es n are.1
    none_told (ev.Opened d c ∷ es) n are = none_told es n are.1
    none_told (ev.OpenFailed q c ∷ es) n are = none_told es n are.1
    none_told (ev.Answered q y ∷ es) n are = none_told es n are.1
    none_told (ev.Named q ∷ es) n are = none_told es n are.1
    none_told (ev.Listed d y ∷ es) n are = none_told es n are.1
    none_told (ev.Redone q y ∷ es) n are = none_told es n are.1
    none_told (ev.HandBack q ∷ es) n are = none_told es n are.1
    none_told (ev.Shut d ∷ es) n are = none_told es n are.1

    -- a closed path's Close tells its parts
    closed_told : (es : List Event) → 0 < closes p es
        → told_of p (entries tells starts workers slots es) ≡ parts_at tells (slice_get slots p)
    closed_told [] h = absurd (omega (arith, h))
    closed_told (ev.Close q a o ∷ es) h = ⊎_elim
        (λ (k : (p ≡ q) × ((p == q) ≡ true)).
        ap (λ (b : Bool). cond (cond b 1 0 == 0) (told_of p (entries tells starts workers slots es))
        (parts_at tells (slice_get slots q))) k.1
        ∙ ap (λ (n : ℕ). parts_at tells (slice_get slots n)) (sym k.0))
        (λ (k : ((p ≡ q) → ⊥) × ((p == q) ≡ false)).
        let none : closing_of p (ev.Close q a o) ≡ 0 = ap (λ (b : Bool). cond b 1 0) k.1 in
        closed_once q _ _ k.1 ∙ closed_told es (omega (arith, h, none)))
        (same_or p q)
    closed_told (ev.Claim q a ∷ es) h = closed_told es (omega (arith, h))
    closed_told (ev.Opened d c ∷ es) h = closed_told es (omega (arith, h))
    closed_told (ev.OpenFailed q c ∷ es) h = closed_told es (omega (arith, h))
    closed_told (ev.Answered q y ∷ es) h = closed_told es (omega (arith, h))
    closed_told (ev.Named q ∷ es) h = closed_told es (omega (arith, h))
    closed_told (ev.Listed d y ∷ es) h = closed_told es (omega (arith, h))
    closed_told (ev.Redone q y ∷ es) h = closed_told es (omega (arith, h))
    closed_told (ev.HandBack q ∷ es) h = closed_told es (omega (arith, h))
    closed_told (ev.Shut d ∷ es) h = closed_told es (omega (arith, h))

    -- the Close of a path tells what is in its slot
    slot_told : (es : List Event) → AreEnded slots es
        → ((b : B) (l : L) → slice_get slots p ≡ Some (Ended b l) → 0 < closes p es)
        → told_of p (entries tells starts workers slots es) ≡ parts_at tells (slice_get slots p)
    slot_told es are closed = go (slice_get slots p) refl
      where
        go : (o : Option (Slot B L)) → slice_get slots p ≡ o
            → told_of p (entries tells starts workers slots es) ≡ parts_at tells (slice_get slots p)
        go None is = none_told es (λ b l at. cc (is, at)) are ∙ sym (ap (parts_at tells) is)
        go (Some Away) is = none_told es (λ b l at. cc (is, at)) are ∙ sym (ap (parts_at tells) is)
        go (Some (Waits c)) is = none_told es (λ b l at. cc (is, at)) are ∙ sym (ap (parts_at tells) is)
        go (Some (Ended b l)) is = closed_told es (closed b l is)

  module _ (tells : B → L → Parts) (h : List (ℕ × HistoryEntry)) where
    all_told : (slots : List (Slot B L)) (p : ℕ)
        → ((q k : ℕ) → q ≡ p + k → told_of q h ≡ parts_at tells (slice_get slots k))
        → told_from p (length slots) h ≡ map (λ x. tells x.0 x.1) (parts_in slots)
    all_told [] p are = refl
    all_told (Ended b l ∷ ss) p are =
        ap (λ o. with_first o (told_from (suc p) (length ss) h)) (are p 0 (omega arith))
        ∙ ap (λ rest. tells b l ∷ rest) (all_told ss (suc p) (λ q k e. are q (suc k) (omega (arith, e))))
    all_told (Away ∷ ss) p are =
        ap (λ o. with_first o (told_from (suc p) (length ss) h)) (are p 0 (omega arith))
        ∙ all_told ss (suc p) (λ q k e. are q (suc k) (omega (arith, e)))
    all_told (Waits c ∷ ss) p are =
        ap (λ o. with_first o (told_from (suc p) (length ss) h)) (are p 0 (omega arith))
        ∙ all_told ss (suc p) (λ q k e. are q (suc k) (omega (arith, e)))

  -- what the parts of a shelf tell
  pub parts_told : (see : Sight B L) (v : Shelf B L) → KeepsSize → IsSound see v → (parts : List (B × L))
      → parts ≡ parts_in v.slots.items
      → map (λ x. tell see x.0 x.1) parts ≡ told_from 0 (length v.starts.value.items) (history_of (tell see) v)
  parts_told see v law sound parts whole =
      let size = (law v.starts.value.items v.workers v.drivers v.events.items v.core sound.run).2 in
      let rows = rows_length see (cards_of (plan_of v)) v.slots.items v.core.paths (λ p. (p, sound.rows p)) in
      let tells : B → L → Parts = tell see in
      let at : (q k : ℕ) → q ≡ 0 + k → told_of q (history_of (tell see) v) ≡ parts_at tells (slice_get v.slots.items k)
      = λ q k e. let same : q ≡ k = omega (arith, e) in
      slot_told tells v.starts.value.items v.workers v.slots.items q v.events.items sound.ended (sound.closed q)
      ∙ ap (λ (n : ℕ). parts_at tells (slice_get v.slots.items n)) same in
      ap (map (λ x. tell see x.0 x.1)) whole
      ∙ (sym (all_told tells (history_of (tell see) v) v.slots.items 0 at)
      ∙ ap (λ (n : ℕ). told_from 0 n (history_of (tell see) v)) (rows ∙ size))
