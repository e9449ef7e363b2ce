-- A pass that is out, and one that is inside.
use Rattle.std.proofs.Common.{◌≡◌, ℕ, List, Option, Some, sym, ap, ◌∙◌, subst}
use Rattle.atomic_table.specs.Table.{Me}
use Rattle.turn_lock.specs.declared.view.SeatPlace.{SeatPlace}
use Rattle.turn_lock.specs.declared.view.SeatPlace.TheVariants.{Out, Inside}
use Rattle.turn_lock.specs.declared.view.View.{View}
use Rattle.turn_lock.specs.declared.view.Knows.{Knows}
use Rattle.turn_lock.specs.declared.view.Knows.TheVariants.{Seated}
use Rattle.turn_lock.specs.Rule.{IsOut, IsIn}
use Rattle.turn_lock.specs.Seat.{Holds, Shaped, place, told}

module _ {T E D : Type 0} where
  pub out_of : (m : Me (Option T) (Knows E D)) (k : Knows E D) → Shaped m → m.0 ≡ k → place k ≡ Out → (v : View E D) × IsOut m v × (Seated v ≡ k)
  out_of m k s e o =
      let p : (s.0).place ≡ Out = sym (ap place s.1) ∙ (ap place e ∙ o) in
      let h = subst (λ (q : SeatPlace E). Holds q m.1) p s.2 in
      (s.0, ((λ i. (s.1 i, h i)), p), sym s.1 ∙ e)

  pub in_of : (m : Me (Option T) (Knows E D)) (k : Knows E D) (found : List (ℕ × E)) → Shaped m → m.0 ≡ k → place k ≡ Inside found → (v : View E D) × IsIn m v found × (Seated v ≡ k)
  in_of m k found s e o =
      let p : (s.0).place ≡ Inside found = sym (ap place s.1) ∙ (ap place e ∙ o) in
      let h = subst (λ (q : SeatPlace E). Holds q m.1) p s.2 in
      (s.0, ((λ i. (s.1 i, h i)), p), sym s.1 ∙ e)

module _ {E D : Type 0} where
  pub told_is : (v : View E D) (k : Knows E D) (d : D) → Seated v ≡ k → told k ≡ Some d → v.told ≡ d
  told_is v k d e t = let s : Some v.told ≡ Some d = ap told e ∙ t in cc (s)
