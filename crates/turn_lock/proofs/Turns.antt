-- A turn of a seat.
use Rattle.std.proofs.Common.{◌≡◌, ◌+◌, ℕ, List, Some, refl, sym, ap, ◌∙◌, subst}
use Rattle.atomic_table.specs.Seated.{TableId}
use Rattle.turn_lock.specs.declared.view.View.{View}
use Rattle.turn_lock.specs.History.{own}
use Rattle.turn_lock.specs.Seat.{SeatView, turns_of, entered}
use Rattle.turn_lock.specs.Seats.{IsSeat, Within}
use Rattle.turn_lock.proofs.Rows.{shown, view_at}

module _ {E D : Type 0} where
  within_at : (lock : TableId) (d : D) (n made : ℕ) (h : List (ℕ × E)) (v : View E D) → v.told ≡ d → v.number ≡ n → v.made ≡ made → Within d n made (v.turns + 1) h lock (entered h (view_at lock v))
  within_at lock d n made h v told number made_is = record {
    of = refl;
    place = refl;
    told = ap (λ x. Some x) told;
    number = number;
    turn = λ new. (record { of = refl; out = refl; told = ap (λ x. Some x) told; named = number; makes = made_is; receipts = ap (λ k. own k new) number }, refl, ap (λ k. own k new) number, refl);
  }

  pub within : (lock : TableId) (d : D) (n made : ℕ) (h : List (ℕ × E)) (s t : SeatView E D) → IsSeat lock d n made s → t ≡ entered h s → Within d n made (turns_of s + 1) h lock t
  within lock d n made h s t i is =
      let k = shown lock d n made s i in
      subst (λ (x : SeatView E D). Within d n made (turns_of s + 1) h lock x) (sym (is ∙ ap (entered h) k.is)) (subst (λ (m : ℕ). Within d n made (m + 1) h lock (entered h (view_at lock k.view))) (sym (ap turns_of k.is)) (within_at lock d n made h k.view k.told k.number k.makes))
