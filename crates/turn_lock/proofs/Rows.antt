-- Seats in a row.
use Rattle.std.proofs.Common.{◌≡◌, ℕ, zero, suc, ◌+◌, ◌-◌, ◌≤◌, List, [], ◌∷◌, ◌++◌, length, Some, refl, sym, ap, ◌∙◌, subst, arith}
use Rattle.std.specs.Prelude.{slice_get}
use Rattle.atomic_table.specs.Seated.{TableId}
use Rattle.turn_lock.specs.declared.view.SeatPlace.TheVariants.{Out}
use Rattle.turn_lock.specs.declared.view.View.{View}
use Rattle.turn_lock.specs.declared.view.Knows.{Knows}
use Rattle.turn_lock.specs.declared.view.Knows.TheVariants.{Spent, Seated}
use Rattle.turn_lock.specs.Rule.{new_seat}
use Rattle.turn_lock.specs.History.{own}
use Rattle.turn_lock.specs.Seat.{SeatView, number_of}
use Rattle.turn_lock.specs.Seats.{IsSeat, AreSeats}

-- how many given numbers the seat at a place knows of
abbrev pub made_at : ℕ → ℕ → ℕ
made_at made zero = made
made_at made (suc i) = 0

module _ {E D : Type 0} where
  -- the first seat, after n numbers were given
  abbrev pub first_at : D → ℕ → View E D
  first_at told n = record { number = 0; place = Out; turns = 0; seen = []; mine = []; told = told; made = n; olds = [] }

module _ {E D : Type 0} where
  abbrev pub view_at : TableId → View E D → SeatView E D
  view_at lock v = record { lock = lock; known = Seated v }

  pub seats_push : (lock : TableId) (d : D) (k : ℕ) (ss : List (SeatView E D)) (s : SeatView E D) → AreSeats lock d k 0 ss → IsSeat lock d (k + length ss) 0 s → AreSeats lock d k 0 (ss ++ s ∷ [])
  seats_push lock d k [] s a i = let e : k + 0 ≡ k = omega arith in (subst (λ (n : ℕ). IsSeat lock d n 0 s) e i, tt)
  seats_push lock d k (x ∷ ss) s a i = let e : k + length (x ∷ ss) ≡ suc k + length ss = omega arith in (a.0, seats_push lock d (suc k) ss s a.1 (subst (λ (n : ℕ). IsSeat lock d n 0 s) e i))

  fresh_seat : (lock l : TableId) (d : D) (n : ℕ) (k : Knows E D) (v : View E D) → l ≡ lock → k ≡ Seated v → v.place ≡ Out → v.told ≡ d → v.number ≡ n → v.made ≡ 0 → v.mine ≡ own v.number v.seen → IsSeat lock d n 0 (record { lock = l; known = k })
  fresh_seat lock l d n k v of is out told number made mine = subst (λ (x : Knows E D). IsSeat lock d n 0 (record { lock = l; known = x })) (sym is)
      record { of = of; out = out; told = ap (λ x. Some x) told; named = number; makes = made; receipts = mine ∙ ap (λ j. own j v.seen) number }

  -- the seat that a lock gives after others
  pub seats_two : (lock : TableId) (d : D) (n : ℕ) (ss : List (SeatView E D)) (s : SeatView E D) → s.lock ≡ lock → s.known ≡ Seated (new_seat (first_at d n)) → length ss ≡ n - 1 → 1 ≤ n → IsSeat lock d (1 + length ss) 0 s
  seats_two lock d n ss s of is count le = let e : n ≡ 1 + length ss = omega arith in
      subst (λ (k : ℕ). IsSeat lock d k 0 s) e (fresh_seat lock s.lock d n s.known (new_seat (first_at d n)) of is refl refl refl refl refl)

  -- a seat that is live shows its view
  pub record Shown (lock : TableId) (d : D) (k made : ℕ) (s : SeatView E D) : Type 0 where
    pub view : View E D
    pub is : s ≡ view_at lock view
    pub out : view.place ≡ Out
    pub told : view.told ≡ d
    pub number : view.number ≡ k
    pub makes : view.made ≡ made

  shown_at : (lock l : TableId) (d : D) (k made : ℕ) (n : Knows E D) → IsSeat lock d k made (record { lock = l; known = n }) → Shown lock d k made (record { lock = l; known = n })
  shown_at lock l d k made Spent i = let t = i.told in absurd (cc (t))
  shown_at lock l d k made (Seated v) i = let t : Some v.told ≡ Some d = i.told in record { view = v; is = ap (λ (x : TableId). view_at x v) i.of; out = i.out; told = cc (t); number = i.named; makes = i.makes }

  pub shown : (lock : TableId) (d : D) (k made : ℕ) (s : SeatView E D) → IsSeat lock d k made s → Shown lock d k made s
  shown lock d k made s i = shown_at lock s.lock d k made s.known i

  pub row_at : (lock : TableId) (d : D) (k made : ℕ) (ss : List (SeatView E D)) → AreSeats lock d k made ss
      → (i : ℕ) (s : SeatView E D) → slice_get ss i ≡ Some s → IsSeat lock d (k + i) (made_at made i) s
  row_at lock d k made [] all i s at = absurd (cc (at))
  row_at lock d k made (x ∷ ss) all zero s at =
      let same : x ≡ s = cc (at) in let e : k ≡ k + 0 = omega arith in
      subst (λ (n : ℕ). IsSeat lock d n made s) e (subst (IsSeat lock d k made) same all.0)
  row_at lock d k made (x ∷ ss) all (suc i) s at =
      let e : suc k + i ≡ k + suc i = omega arith in
      subst (λ (n : ℕ). IsSeat lock d n 0 s) e (later lock d (suc k) ss all.1 i s at)
    where
      later : (lock : TableId) (d : D) (k : ℕ) (ss : List (SeatView E D)) → AreSeats lock d k 0 ss
          → (i : ℕ) (s : SeatView E D) → slice_get ss i ≡ Some s → IsSeat lock d (k + i) 0 s
      later lock d k [] all i s at = absurd (cc (at))
      later lock d k (x ∷ ss) all zero s at =
          let same : x ≡ s = cc (at) in let e : k ≡ k + 0 = omega arith in
          subst (λ (n : ℕ). IsSeat lock d n 0 s) e (subst (IsSeat lock d k 0) same all.0)
      later lock d k (x ∷ ss) all (suc i) s at =
          let e : suc k + i ≡ k + suc i = omega arith in
          subst (λ (n : ℕ). IsSeat lock d n 0 s) e (later lock d (suc k) ss all.1 i s at)

module _ {E D : Type 0} where
  -- seats that are all their lock's, each with its number, are so again
  pub rows_again : (lock : TableId) (d : D) (k made : ℕ) (ss ts : List (SeatView E D)) → length ts ≡ length ss → AreSeats lock d k made ss
      → ((i : ℕ) (s t : SeatView E D) → slice_get ss i ≡ Some s → slice_get ts i ≡ Some t → (m : ℕ) → IsSeat lock d (number_of s) m s → IsSeat lock d (number_of s) m t)
      → AreSeats lock d k made ts
  rows_again lock d k made [] [] long all each = tt
  rows_again lock d k made [] (t ∷ ts) long all each = absurd (omega arith)
  rows_again lock d k made (s ∷ ss) [] long all each = absurd (omega arith)
  rows_again lock d k made (s ∷ ss) (t ∷ ts) long all each =
      let named : number_of s ≡ k = (all.0).named in
      let first = each zero s t refl refl made (subst (λ (n : ℕ). IsSeat lock d n made s) (sym named) all.0) in
      (subst (λ (n : ℕ). IsSeat lock d n made t) named first, rows_again lock d (suc k) 0 ss ts (omega arith) all.1 (λ i. each (suc i)))
