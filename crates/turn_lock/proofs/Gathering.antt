-- The seats are gathered into one that made no entry.
use Rattle.std.proofs.Common.{◌≡◌, ℕ, zero, suc, ◌<◌, ◌≤◌, List, [], ◌∷◌, ◌++◌, length, length-append, Option, Some, refl, sym, ap, ◌∙◌, subst, arith, append_assoc}
use Rattle.std.specs.Prelude.{slice_get, slice_index_or, slice_set}
use mathlib.Core.Logic.{dite}
use mathlib.Core.Option.{some}
use native.Mathlib.Decide.{ℕ_discrete}
use Rattle.atomic_table.specs.Table.{Me}
use Rattle.atomic_table.specs.Seated.{TableId}
use Rattle.turn_lock.specs.declared.view.SeatPlace.TheVariants.{Out}
use Rattle.turn_lock.specs.declared.view.Old.{Old}
use Rattle.turn_lock.specs.declared.view.View.{View}
use Rattle.turn_lock.specs.declared.view.Knows.{Knows}
use Rattle.turn_lock.specs.declared.view.Knows.TheVariants.{Spent, Seated}
use Rattle.turn_lock.specs.History.{own, Begins}
use Rattle.turn_lock.specs.Rule.{IsOld, old_of, with_other, new_seat, gave, newcomer, Covers, Closes}
use Rattle.turn_lock.specs.Seat.{SeatView, place_of, seen_of, mine_of, seen, mine, number, made, raised}
use Rattle.turn_lock.specs.Seats.{IsSeat, AreSeats}
use Rattle.turn_lock.proofs.Rows.{shown, made_at, row_at, view_at}

made_where : (made i : ℕ) → 0 < i → made_at made i ≡ 0
made_where made zero h = absurd (omega arith)
made_where made (suc i) h = refl

module _ {E : Type 0} where
  old_later : (o a : Old E) (xs ys : List (Old E)) → IsOld o ys → IsOld o (a ∷ (xs ++ ys))
  old_later o a [] ys h = (suc h.0, h.1)
  old_later o a (x ∷ xs) ys h = let r = old_later o x xs ys h in (suc r.0, r.1)

module _ {A : Type 0} where
  at_end : (xs : List A) (x : A) (rest : List A) → slice_get ((xs ++ x ∷ []) ++ rest) (length xs) ≡ Some x
  at_end [] x rest = refl
  at_end (y ∷ xs) x rest = at_end xs x rest

  pub in_range : (xs : List A) (i : ℕ) (x : A) → slice_get xs i ≡ Some x → i < length xs
  in_range [] i x e = absurd (cc (e))
  in_range (y ∷ xs) zero x e = omega arith
  in_range (y ∷ xs) (suc i) x e = let h = in_range xs i x e in omega arith

  there : (xs : List A) (i : ℕ) → i < length xs → (x : A) × (slice_get xs i ≡ Some x)
  there [] i h = absurd (omega arith)
  there (y ∷ xs) zero h = (y, refl)
  there (y ∷ xs) (suc i) h = there xs i (omega arith)

module _ {E D : Type 0} where
  -- what is kept of the seat with the number i
  abbrev old_at : ℕ → SeatView E D → Old E
  old_at i s = record { number = i; seen = seen_of s; mine = mine_of s }

  -- the first seat gave one more number
  pub raised_row : (lock : TableId) (d : D) (n : ℕ) (s : SeatView E D) (ss : List (SeatView E D)) → AreSeats lock d 0 n (s ∷ ss) → AreSeats lock d 0 (suc n) (raised s ∷ ss)
  raised_row lock d n s ss all =
      let h = shown lock d 0 n s all.0 in
      let at : (v : View E D) → v.place ≡ Out → v.told ≡ d → v.number ≡ 0 → v.made ≡ n → v.mine ≡ own 0 v.seen → IsSeat lock d 0 (suc n) (raised (view_at lock v)) =
      λ v out told number made mine. record { of = refl; out = out; told = ap (λ x. Some x) told; named = number; makes = (let m : v.made ≡ n = made in omega arith); receipts = mine } in
      (subst (λ (x : SeatView E D). IsSeat lock d 0 (suc n) (raised x)) (sym h.is) (at h.view h.out h.told h.number h.makes (subst (λ (x : SeatView E D). mine_of x ≡ own 0 (seen_of x)) h.is (all.0).receipts)), all.1)

module _ {E D : Type 0} where
  -- the seats, after the first gave one more number
  abbrev pub first_raised : List (SeatView E D) → List (SeatView E D)
  first_raised [] = []
  first_raised (s ∷ ss) = raised s ∷ ss

  pub raised_length : (ss : List (SeatView E D)) → length (first_raised ss) ≡ length ss
  raised_length [] = refl
  raised_length (s ∷ ss) = refl

  pub raised_rows : (lock : TableId) (d : D) (n : ℕ) (ss : List (SeatView E D)) → AreSeats lock d 0 n ss → AreSeats lock d 0 (suc n) (first_raised ss)
  raised_rows lock d n [] all = tt
  raised_rows lock d n (s ∷ ss) all = raised_row lock d n s ss all

  raised_seen : (k : Knows E D) → (seen (gave k) ≡ seen k) × (mine (gave k) ≡ mine k)
  raised_seen Spent = (refl, refl)
  raised_seen (Seated v) = (refl, refl)

  -- what a seat saw and made stays
  pub raised_at : (ss : List (SeatView E D)) (i : ℕ) (s : SeatView E D) → slice_get ss i ≡ Some s → (t : SeatView E D) × (slice_get (first_raised ss) i ≡ Some t) × (seen_of t ≡ seen_of s) × (mine_of t ≡ mine_of s)
  raised_at [] i s at = absurd (cc (at))
  raised_at (x ∷ ss) zero s at = let same : x ≡ s = cc (at) in let r = raised_seen x.known in
      (raised x, refl, r.0 ∙ ap (λ (y : SeatView E D). seen_of y) same, r.1 ∙ ap (λ (y : SeatView E D). mine_of y) same)
  raised_at (x ∷ ss) (suc i) s at = (s, at, refl, refl)

module _ {E D : Type 0} where
  pub none_left : (ss : List (SeatView E D)) → length ss ≡ 0 → ss ≡ []
  none_left [] e = refl
  none_left (s ∷ ss) e = absurd (omega (arith, e))

  pub first_is : (ss : List (SeatView E D)) (s : SeatView E D) → 0 < length ss → s ≡ slice_index_or ss 0 s → slice_get ss 0 ≡ Some s
  first_is [] s more e = absurd (omega arith)
  first_is (x ∷ ss) s more e = ap (λ y. Some y) (sym e)

  pub set_first : (ss : List (SeatView E D)) (s t : SeatView E D) → slice_get ss 0 ≡ Some s → t ≡ raised s → slice_set ss 0 t ≡ first_raised ss
  set_first [] s t at e = absurd (cc (at))
  set_first (x ∷ ss) s t at e = let same : x ≡ s = cc (at) in ap (λ y. y ∷ ss) (e ∙ ap raised (sym same))

module _ {T E D : Type 0} where
  -- a first part of these seats is left, and the others were joined into one that has the next number
  pub record Gathered (d : D) (ss left : List (SeatView E D)) (m : Me (Option T) (Knows E D)) : Type 0 where
    pub view : View E D
    pub is : m ≡ (Seated view, [])
    pub out : view.place ≡ Out
    pub told : view.told ≡ d
    pub number : view.number ≡ length ss
    pub mine : view.mine ≡ []
    pub rest : List (SeatView E D)
    pub front : left ++ rest ≡ ss
    pub none_made : 0 < length left → view.made ≡ 0
    pub all_made : length left ≡ 0 → view.made ≡ suc (length ss)
    pub taken : (i : ℕ) (s : SeatView E D) → slice_get ss i ≡ Some s → length left ≤ i → IsOld (old_at i s) view.olds

  pub begun : (lock : TableId) (d : D) (ss after : List (SeatView E D)) (s : SeatView E D) (m : Me (Option T) (Knows E D)) → AreSeats lock d 0 (length ss) ss → slice_get ss 0 ≡ Some s → after ≡ first_raised ss
      → m ≡ (newcomer s.known, []) → Gathered d (first_raised ss) after m
  begun lock d ss after s m all at after_is is =
      let h = shown lock d 0 (length ss) s (row_at lock d 0 (length ss) ss all 0 s at) in
      let long : length (first_raised ss) ≡ length ss = raised_length ss in
      let more : 0 < length ss = in_range ss 0 s at in
      let same : length after ≡ length (first_raised ss) = ap length after_is in
      record {
        view = new_seat h.view;
        is = is ∙ ap (λ (x : SeatView E D). (newcomer x.known, [])) h.is;
        out = refl;
        told = h.told;
        number = h.makes ∙ sym long;
        mine = refl;
        rest = [];
        front = none_after after ∙ after_is;
        none_made = λ _. refl;
        all_made = λ e. absurd (omega (arith, e, same, long, more));
        taken = λ i x at le. absurd (let lt = in_range (first_raised ss) i x at in omega (arith, same, le, lt));
      }
    where
      none_after : {A : Type 0} (xs : List A) → xs ++ [] ≡ xs
      none_after [] = refl
      none_after (x ∷ xs) = ap (λ l. x ∷ l) (none_after xs)

  -- what joining the last of the remaining seats needs, and what it gives
  pub record Joins (lock : TableId) (d : D) (ss new : List (SeatView E D)) (s : SeatView E D) (m : Me (Option T) (Knows E D)) : Type 0 where
    pub into : View E D
    pub into_is : m ≡ (Seated into, [])
    pub into_out : into.place ≡ Out
    pub of : s.lock ≡ lock
    pub out : place_of s ≡ Out
    pub then : (w : View E D) → Seated w ≡ s.known → (next : Me (Option T) (Knows E D)) → next ≡ (Seated (with_other into w), []) → Gathered d ss new next

  joins_row : (lock : TableId) (d : D) (ss left new : List (SeatView E D)) (s : SeatView E D) (m : Me (Option T) (Knows E D)) → AreSeats lock d 0 (suc (length ss)) ss → left ≡ new ++ s ∷ [] → Gathered d ss left m
      → Joins lock d ss new s m
  joins_row lock d ss left new s m all cut g =
      let k : ℕ = length new in
      let long : length left ≡ suc k = ap length cut ∙ (length-append new (s ∷ []) ∙ (omega arith)) in
      let front : (new ++ s ∷ []) ++ g.rest ≡ ss = ap (λ l. l ++ g.rest) (sym cut) ∙ g.front in
      let here : slice_get ss k ≡ Some s = sym (ap (λ l. slice_get l k) front) ∙ at_end new s g.rest in
      let i = row_at lock d 0 (suc (length ss)) ss all k s here in
      let a = g.view in
      let none : a.made ≡ 0 = g.none_made (omega (arith, long)) in
      record {
        into = a;
        into_is = g.is;
        into_out = g.out;
        of = i.of;
        out = i.out;
        then = λ w known next is.
            let named : w.number ≡ k = ap number known ∙ (i.named ∙ (omega arith)) in
            let makes : w.made ≡ made_at (suc (length ss)) k = ap made known ∙ i.makes in
            record {
              view = with_other a w;
              is = is;
              out = g.out;
              told = g.told;
              number = g.number;
              mine = g.mine;
              rest = s ∷ g.rest;
              front = sym (append_assoc new (s ∷ []) g.rest) ∙ front;
              none_made = λ more. let m : w.made ≡ 0 = makes ∙ made_where (suc (length ss)) k more in omega arith;
              all_made = λ last. let m : w.made ≡ suc (length ss) = makes ∙ ap (made_at (suc (length ss))) last in omega arith;
              taken = λ i x at le. dite (ℕ_discrete i k)
                  (λ same. let one : s ≡ x = (let e : Some s ≡ Some x = sym here ∙ (ap (slice_get ss) (sym same) ∙ at) in cc (e)) in
                  (zero, ap some (old_is w i s x (named ∙ sym same) known one)))
                  (λ apart. old_later (old_at i x) (old_of w) w.olds a.olds (g.taken i x at (omega (arith, long))));
            };
      }
    where
      old_is : (w : View E D) (i : ℕ) (s x : SeatView E D) → w.number ≡ i → Seated w ≡ s.known → s ≡ x → old_of w ≡ old_at i x
      old_is w i s x named known one =
          let seen_is : w.seen ≡ seen_of x = ap seen known ∙ ap (λ (y : SeatView E D). seen_of y) one in
          let mine_is : w.mine ≡ mine_of x = ap mine known ∙ ap (λ (y : SeatView E D). mine_of y) one in
          λ j. record { number = named j; seen = seen_is j; mine = mine_is j }

  pub goes_on : (lock : TableId) (d : D) (ss left new : List (SeatView E D)) (s : SeatView E D) (m : Me (Option T) (Knows E D)) → AreSeats lock d 0 (length ss) ss → left ≡ new ++ s ∷ [] → Gathered d (first_raised ss) left m
      → Joins lock d (first_raised ss) new s m
  goes_on lock d ss left new s m all cut g = joins_row lock d (first_raised ss) left new s m
      (subst (λ (n : ℕ). AreSeats lock d 0 (suc n) (first_raised ss)) (sym (raised_length ss)) (raised_rows lock d (length ss) ss all)) cut g

  pub covers : (d : D) (ss : List (SeatView E D)) (m : Me (Option T) (Knows E D)) → (g : Gathered d ss [] m) → Covers g.view
  covers d ss m g =
      let made : (g.view).made ≡ suc (length ss) = g.all_made refl in
      let number : (g.view).number ≡ length ss = g.number in (
        omega (arith, made),
        λ k lt apart. let at = there ss k (omega (arith, made, number)) in (old_at k at.0, g.taken k at.0 at.1 (omega arith), refl),
      )

module _ {T E D : Type 0} (hist : T → List (ℕ × E)) (fits : T → D → Type 0) where
  pub all_seen : (d : D) (ss : List (SeatView E D)) (m : Me (Option T) (Knows E D)) (value : T) (g : Gathered d (first_raised ss) [] m) → Closes hist fits g.view value
      → (i : ℕ) (s : SeatView E D) → slice_get ss i ≡ Some s → Begins (seen_of s) (hist value) × (own i (hist value) ≡ mine_of s)
  all_seen d ss m value g c i s at =
      let t = raised_at ss i s at in
      let o = c.olds (old_at i t.0) (g.taken i t.0 t.1 (omega arith)) in
      (subst (λ l. Begins l (hist value)) t.2 o.0, o.1 ∙ t.3)

  pub nobody_else : (d : D) (ss : List (SeatView E D)) (m : Me (Option T) (Knows E D)) (value : T) (g : Gathered d (first_raised ss) [] m) → Closes hist fits g.view value
      → (k : ℕ) → length ss ≤ k → own k (hist value) ≡ []
  nobody_else d ss m value g c k le =
      let long : length (first_raised ss) ≡ length ss = raised_length ss in
      let made : (g.view).made ≡ suc (length (first_raised ss)) = g.all_made refl in
      dite (ℕ_discrete k (length ss))
      (λ same. ap (λ (n : ℕ). own n (hist value)) (same ∙ (sym long ∙ sym g.number)) ∙ (c.mine ∙ g.mine))
      (λ more. c.none k (omega arith))

  pub all_fits : (d : D) (ss : List (SeatView E D)) (m : Me (Option T) (Knows E D)) (value : T) (g : Gathered d (first_raised ss) [] m) → Closes hist fits g.view value → fits value d
  all_fits d ss m value g c = subst (fits value) g.told c.fitting
