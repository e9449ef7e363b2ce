-- A split and a join keep the rule.
use Rattle.std.proofs.Common.{◌≡◌, ◌≢◌, ℕ, zero, suc, ◌+◌, ◌⊎◌, ◌<◌, max, List, [], ◌∷◌, ◌++◌, length, set, Option, refl, sym, ap, ◌∙◌, subst, inl, inr, ⊎_elim, arith}
use Rattle.std.specs.Prelude.{slice_index}
use mathlib.Core.Logic.{dite}
use mathlib.Core.Option.{some, some-ne-none, some-injective}
use native.Mathlib.Decide.{ℕ_discrete}
use lib.ListN.{get_elem?}
use Rattle.atomic_table.specs.Table.{State, Splits, Joins}
use Rattle.atomic_table.proofs.Lists.{set_else}
use Rattle.turn_lock.specs.declared.view.SeatPlace.TheVariants.{Out, Inside}
use Rattle.turn_lock.specs.declared.view.Old.{Old}
use Rattle.turn_lock.specs.declared.view.View.{View}
use Rattle.turn_lock.specs.declared.view.Knows.{Knows}
use Rattle.turn_lock.specs.declared.view.Knows.TheVariants.{Spent, Seated}
use Rattle.turn_lock.specs.History.{own, Begins}
use Rattle.turn_lock.specs.Rule.{IsOld, Fits, InPlace, Live, Ruled, risen, new_seat, old_of, with_other, gave, newcomer, joined}
use Rattle.turn_lock.proofs.Histories.{own_none, longer_begins, longer_own, longer_left, longer_right}
use Rattle.turn_lock.proofs.Seating.{live_set, live_one, live_here, live_else, live_end, live_more, live_spent, live_not_spent, live_last, held_on}

at_cases : {A : Type 0} (xs ys : List A) (i : ℕ) (a : A) → get_elem? (xs ++ ys) i ≡ some a → ((j : ℕ) × (get_elem? xs j ≡ some a)) ⊎ ((j : ℕ) × (get_elem? ys j ≡ some a))
at_cases [] ys i a e = inr (i, e)
at_cases (x ∷ xs) ys zero a e = inl (zero, e)
at_cases (x ∷ xs) ys (suc i) a e = ⊎_elim (λ (t : (j : ℕ) × (get_elem? xs j ≡ some a)). inl (suc t.0, t.1)) (λ t. inr t) (at_cases xs ys i a e)

module _ {E : Type 0} where
  old_none : (o : Old E) → IsOld o [] → ⊥
  old_none o h = some-ne-none o (sym h.1)

  -- an old of two joined lists, with one more in front
  old_cases : (a : Old E) (xs ys : List (Old E)) (o : Old E) → IsOld o (a ∷ (xs ++ ys)) → (a ≡ o) ⊎ (IsOld o xs ⊎ IsOld o ys)
  old_cases a xs ys o (zero, e) = inl (some-injective a o e)
  old_cases a xs ys o (suc i, e) = inr (at_cases xs ys i o e)

  old_left : (xs ys : List (Old E)) (o : Old E) → IsOld o xs → IsOld o (xs ++ ys)
  old_left [] ys o h = absurd (old_none o h)
  old_left (x ∷ xs) ys o (zero, e) = (zero, e)
  old_left (x ∷ xs) ys o (suc i, e) = let h = old_left xs ys o (i, e) in (suc h.0, h.1)

  old_right : (xs ys : List (Old E)) (o : Old E) → IsOld o ys → IsOld o (xs ++ ys)
  old_right [] ys o h = h
  old_right (x ∷ xs) ys o h = let t = old_right xs ys o h in (suc t.0, t.1)

module _ {T E D : Type 0} (hist : T → List (ℕ × E)) (fits : T → D → Type 0) (told : D) where
  abbrev R : State (Option T) (Knows E D) → Type 0
  R = Ruled hist fits told

  splits_at : (id : ℕ) (v : View E D) → 0 < v.made → Splits R id (Seated v) (Seated (risen v)) (Seated (new_seat v))
  splits_at id v gives s r at =
      let w : View E D = risen v in
      let u : View E D = new_seat v in
      let vs : List (Knows E D) = set s.views id (Seated w) in
      let fit = r.each id v at in
      let next : v.made ≡ r.given = fit.maker gives in
      let some_below : v.number < r.given = fit.below in
      let none_of : own v.made r.log ≡ [] = r.fresh v.made (omega arith) in
      -- a view of the row is the seat's own, another's as before, or the new one
      let look : (j : ℕ) (x : View E D) → Live (vs ++ Seated u ∷ []) j x → (((j ≡ id) × (w ≡ x)) ⊎ ((j ≢ id) × Live s.views j x)) ⊎ ((j ≡ length vs) × (u ≡ x)) =
      λ j x e. ⊎_elim (λ (t : Live vs j x). inl (live_set s.views id j w x t)) (λ (t : (j ≡ length vs) × (u ≡ x)). inr t) (live_end vs u x j e) in
      -- of a view that was there: what it was
      let before : (j : ℕ) (x : View E D) → Live (vs ++ Seated u ∷ []) j x → ((y : View E D) × Live s.views j y × (y.number ≡ x.number) × (y.olds ≡ x.olds) × (0 < x.made → 0 < y.made) × (y.place ≡ x.place)) ⊎ ((j ≡ length vs) × (u ≡ x)) =
      λ j x e. ⊎_elim
      (λ (t : ((j ≡ id) × (w ≡ x)) ⊎ ((j ≢ id) × Live s.views j x)). inl (⊎_elim
      (λ (o : (j ≡ id) × (w ≡ x)). (v, subst (λ (k : ℕ). Live s.views k v) (sym o.0) at, ap (λ (z : View E D). z.number) o.1, ap (λ (z : View E D). z.olds) o.1, (λ _. gives), ap (λ (z : View E D). z.place) o.1))
      (λ (o : (j ≢ id) × Live s.views j x). (x, o.1, refl, refl, (λ h. h), refl))
      t))
      (λ (t : (j ≡ length vs) × (u ≡ x)). inr t)
      (look j x e) in
      let old_below : (j : ℕ) (y : View E D) → Live s.views j y → y.number < r.given = λ j y e. (r.each j y e).below in
      record {
        log = r.log;
        given = r.given + 1;
        one_word = r.one_word;
        each = λ j x e. ⊎_elim
            (λ (t : ((j ≡ id) × (w ≡ x)) ⊎ ((j ≢ id) × Live s.views j x)). ⊎_elim
            (λ (o : (j ≡ id) × (w ≡ x)). subst (Fits told r.log (r.given + 1)) o.1 record {
              told_is = fit.told_is;
              begins = fit.begins;
              receipts = fit.receipts;
              mine_is = fit.mine_is;
              below = omega arith;
              maker = λ _. ap (λ (n : ℕ). n + 1) next;
              old = λ o h. let f = fit.old o h in let a : o.number < r.given = f.0 in (omega arith, f.1, f.2);
            })
            (λ (o : (j ≢ id) × Live s.views j x). let f = r.each j x o.1 in let b : x.number < r.given = f.below in record {
              told_is = f.told_is;
              begins = f.begins;
              receipts = f.receipts;
              mine_is = f.mine_is;
              below = omega arith;
              maker = λ m. absurd (o.0 (r.makers j id x v o.1 at m gives));
              old = λ o h. let q = f.old o h in let a : o.number < r.given = q.0 in (omega arith, q.1, q.2);
            })
            t)
            (λ (t : (j ≡ length vs) × (u ≡ x)). subst (Fits told r.log (r.given + 1)) t.1 record {
              told_is = fit.told_is;
              begins = fit.begins;
              receipts = own_none v.made v.seen r.log fit.begins none_of ∙ sym none_of;
              mine_is = sym none_of;
              below = omega arith;
              maker = λ m. absurd (omega arith);
              old = λ o h. absurd (old_none o h);
            })
            (look j x e);
        placed = λ j x e. ⊎_elim
            (λ (t : (y : View E D) × Live s.views j y × (y.number ≡ x.number) × (y.olds ≡ x.olds) × (0 < x.made → 0 < y.made) × (y.place ≡ x.place)). subst (InPlace (slice_index s.words 0) r.log) t.5 (r.placed j t.0 t.1))
            (λ (t : (j ≡ length vs) × (u ≡ x)). subst (λ (z : View E D). InPlace (slice_index s.words 0) r.log z.place) t.1 tt)
            (before j x e);
        alone = λ i j a b f g ea eb pa pb. ⊎_elim
            (λ (p : (y : View E D) × Live s.views i y × (y.number ≡ a.number) × (y.olds ≡ a.olds) × (0 < a.made → 0 < y.made) × (y.place ≡ a.place)). ⊎_elim
            (λ (q : (y : View E D) × Live s.views j y × (y.number ≡ b.number) × (y.olds ≡ b.olds) × (0 < b.made → 0 < y.made) × (y.place ≡ b.place)). r.alone i j p.0 q.0 f g p.1 q.1 (p.5 ∙ pa) (q.5 ∙ pb))
            (λ (q : (j ≡ length vs) × (u ≡ b)). absurd (let o : Out ≡ b.place = ap (λ (z : View E D). z.place) q.1 in cc (o, pb)))
            (before j b eb))
            (λ (p : (i ≡ length vs) × (u ≡ a)). absurd (let o : Out ≡ a.place = ap (λ (z : View E D). z.place) p.1 in cc (o, pa)))
            (before i a ea);
        taken = λ held. let t = r.taken held in dite (ℕ_discrete t.0 id)
            (λ here. (id, w, t.2, live_more vs (Seated u) w id (live_here s.views id (Seated v) w at), ap (λ (z : View E D). z.place) (live_one s.views id v t.1 at (subst (λ (k : ℕ). Live s.views k t.1) here t.3)) ∙ t.4))
            (λ else. (t.0, t.1, t.2, live_more vs (Seated u) t.1 t.0 (live_else s.views id t.0 w t.1 else t.3), t.4));
        home = r.home;
        top = let t = r.top in dite (ℕ_discrete t.0 id)
            (λ here. (id, w, live_more vs (Seated u) w id (live_here s.views id (Seated v) w at), ap (λ (z : View E D). z.seen) (live_one s.views id v t.1 at (subst (λ (k : ℕ). Live s.views k t.1) here t.2)) ∙ t.3))
            (λ else. (t.0, t.1, live_more vs (Seated u) t.1 t.0 (live_else s.views id t.0 w t.1 else t.2), t.3));
        apart = λ i j a b ea eb n. ⊎_elim
            (λ (p : (y : View E D) × Live s.views i y × (y.number ≡ a.number) × (y.olds ≡ a.olds) × (0 < a.made → 0 < y.made) × (y.place ≡ a.place)). ⊎_elim
            (λ (q : (y : View E D) × Live s.views j y × (y.number ≡ b.number) × (y.olds ≡ b.olds) × (0 < b.made → 0 < y.made) × (y.place ≡ b.place)). r.apart i j p.0 q.0 p.1 q.1 (p.2 ∙ (n ∙ sym q.2)))
            (λ (q : (j ≡ length vs) × (u ≡ b)). absurd (let x : v.made ≡ b.number = ap (λ (z : View E D). z.number) q.1 in let y : (p.0).number < r.given = old_below i p.0 p.1 in let z : (p.0).number ≡ a.number = p.2 in omega arith))
            (before j b eb))
            (λ (p : (i ≡ length vs) × (u ≡ a)). ⊎_elim
            (λ (q : (y : View E D) × Live s.views j y × (y.number ≡ b.number) × (y.olds ≡ b.olds) × (0 < b.made → 0 < y.made) × (y.place ≡ b.place)). absurd (let x : v.made ≡ a.number = ap (λ (z : View E D). z.number) p.1 in let y : (q.0).number < r.given = old_below j q.0 q.1 in let z : (q.0).number ≡ b.number = q.2 in omega arith))
            (λ (q : (j ≡ length vs) × (u ≡ b)). p.0 ∙ sym q.0)
            (before j b eb))
            (before i a ea);
        makers = λ i j a b ea eb m n. ⊎_elim
            (λ (p : (y : View E D) × Live s.views i y × (y.number ≡ a.number) × (y.olds ≡ a.olds) × (0 < a.made → 0 < y.made) × (y.place ≡ a.place)). ⊎_elim
            (λ (q : (y : View E D) × Live s.views j y × (y.number ≡ b.number) × (y.olds ≡ b.olds) × (0 < b.made → 0 < y.made) × (y.place ≡ b.place)). r.makers i j p.0 q.0 p.1 q.1 (p.4 m) (q.4 n))
            (λ (q : (j ≡ length vs) × (u ≡ b)). absurd (let x : 0 ≡ b.made = ap (λ (z : View E D). z.made) q.1 in omega arith))
            (before j b eb))
            (λ (p : (i ≡ length vs) × (u ≡ a)). absurd (let x : 0 ≡ a.made = ap (λ (z : View E D). z.made) p.1 in omega arith))
            (before i a ea);
        giver = (id, w, live_more vs (Seated u) w id (live_here s.views id (Seated v) w at), omega arith);
        fresh = λ k le. r.fresh k (omega arith);
        held = λ k lt. dite (ℕ_discrete k r.given)
            (λ here. (length vs, u, live_last vs u, inl (next ∙ sym here)))
            (λ else. let t = held_on s.views id v w at refl refl k (r.held k (omega arith)) in (t.0, t.1, live_more vs (Seated u) t.1 t.0 t.2, t.3));
        gone = λ i j a b o ea eb h n. ⊎_elim
            (λ (p : (y : View E D) × Live s.views i y × (y.number ≡ a.number) × (y.olds ≡ a.olds) × (0 < a.made → 0 < y.made) × (y.place ≡ a.place)). let was = subst (IsOld o) (sym p.3) h in ⊎_elim
            (λ (q : (y : View E D) × Live s.views j y × (y.number ≡ b.number) × (y.olds ≡ b.olds) × (0 < b.made → 0 < y.made) × (y.place ≡ b.place)). r.gone i j p.0 q.0 o p.1 q.1 was (q.2 ∙ n))
            (λ (q : (j ≡ length vs) × (u ≡ b)). let x : v.made ≡ b.number = ap (λ (z : View E D). z.number) q.1 in let y : o.number < r.given = ((r.each i p.0 p.1).old o was).0 in omega arith)
            (before j b eb))
            (λ (p : (i ≡ length vs) × (u ≡ a)). old_none o (subst (IsOld o) (sym (ap (λ (z : View E D). z.olds) p.1)) h))
            (before i a ea);
      }

  pub splits : (id : ℕ) (k : Knows E D) (v : View E D) → k ≡ Seated v → 0 < v.made → Splits R id k (gave k) (newcomer k)
  splits id k v is gives = subst (λ (x : Knows E D). Splits R id x (gave x) (newcomer x)) (sym is) (splits_at id v gives)

  joins_at : (id : ℕ) (v : View E D) (other : ℕ) (w : View E D) → v.place ≡ Out → w.place ≡ Out → Joins R id (Seated v) other (Seated w) (Seated (with_other v w)) Spent
  joins_at id v other w v_out w_out s r at apart there =
      let x : View E D = with_other v w in
      let vs : List (Knows E D) = set s.views id (Seated x) in
      let fit = r.each id v at in
      let w_at : Live s.views other w = sym (set_else s.views id other (Seated x) apart) ∙ there in
      let fit_w = r.each other w w_at in
      -- a view of the row is the one that is left, or another's as before
      let look : (j : ℕ) (y : View E D) → Live (set vs other Spent) j y → (j ≢ other) × (((j ≡ id) × (x ≡ y)) ⊎ ((j ≢ id) × Live s.views j y)) =
      λ j y e. let h = live_spent vs other j y e in (h.0, live_set s.views id j x y h.1) in
      let number : (j : ℕ) (y : View E D) → Live (set vs other Spent) j y → (z : View E D) × Live s.views j z × (z.number ≡ y.number) × (z.place ≡ y.place) × (j ≢ other) =
      λ j y e. let h = look j y e in ⊎_elim
      (λ (o : (j ≡ id) × (x ≡ y)). (v, subst (λ (k : ℕ). Live s.views k v) (sym o.0) at, ap (λ (z : View E D). z.number) o.1, ap (λ (z : View E D). z.place) o.1, h.0))
      (λ (o : (j ≢ id) × Live s.views j y). (y, o.1, refl, refl, h.0))
      h.1 in
      let apart_back : id ≢ other = λ e. apart (sym e) in
      let x_live : Live (set vs other Spent) id x = live_not_spent vs other id x apart_back (live_here s.views id (Seated v) x at) in
      let stays : (j : ℕ) (y : View E D) → j ≢ other → j ≢ id → Live s.views j y → Live (set vs other Spent) j y = λ j y a b e. live_not_spent vs other j y a (live_else s.views id j x y b e) in
      let made_cases : 0 < max v.made w.made → (0 < v.made) ⊎ (0 < w.made) = λ h. dite (ℕ_discrete v.made 0) (λ z. inr (omega arith)) (λ nz. inl (omega arith)) in
      let sole : (j : ℕ) (y : View E D) → j ≢ other → j ≢ id → Live s.views j y → 0 < y.made → 0 < max v.made w.made → ⊥ =
      λ j y a b e m n. ⊎_elim (λ (h : 0 < v.made). b (r.makers j id y v e at m h)) (λ (h : 0 < w.made). a (r.makers j other y w e w_at m h)) (made_cases n) in
      record {
        log = r.log;
        given = r.given;
        one_word = r.one_word;
        each = λ j y e. let h = look j y e in ⊎_elim
            (λ (o : (j ≡ id) × (x ≡ y)). subst (Fits told r.log r.given) o.1 record {
              told_is = fit.told_is;
              begins = longer_begins v.seen w.seen r.log fit.begins fit_w.begins;
              receipts = longer_own v.number v.seen w.seen r.log fit.begins fit_w.begins fit.receipts;
              mine_is = fit.mine_is;
              below = fit.below;
              maker = λ m. dite (ℕ_discrete v.made 0)
                  (λ z. let p : 0 < w.made = omega arith in let q : w.made ≡ r.given = fit_w.maker p in omega arith)
                  (λ nz. let p : 0 < v.made = omega arith in let q : v.made ≡ r.given = fit.maker p in dite (ℕ_discrete w.made 0) (λ z. omega arith) (λ nw. absurd (apart (r.makers other id w v w_at at (omega arith) p))));
              old = λ o h. ⊎_elim
                  (λ (t : old_of w ≡ o). subst (λ (z : Old E). (z.number < r.given) × Begins z.seen r.log × (z.mine ≡ own z.number r.log)) t (fit_w.below, fit_w.begins, fit_w.mine_is))
                  (λ (t : IsOld o w.olds ⊎ IsOld o v.olds). ⊎_elim (λ (q : IsOld o w.olds). fit_w.old o q) (λ (q : IsOld o v.olds). fit.old o q) t)
                  (old_cases (old_of w) w.olds v.olds o h);
            })
            (λ (o : (j ≢ id) × Live s.views j y). r.each j y o.1)
            h.1;
        placed = λ j y e. let n = number j y e in subst (InPlace (slice_index s.words 0) r.log) n.3 (r.placed j n.0 n.1);
        alone = λ i j a b f g ea eb pa pb. let p = number i a ea in let q = number j b eb in r.alone i j p.0 q.0 f g p.1 q.1 (p.3 ∙ pa) (q.3 ∙ pb);
        taken = λ held. let t = r.taken held in dite (ℕ_discrete t.0 id)
            (λ here. absurd (let e = live_one s.views id v t.1 at (subst (λ (k : ℕ). Live s.views k t.1) here t.3) in let p : Out ≡ Inside t.2 = sym v_out ∙ (ap (λ (z : View E D). z.place) e ∙ t.4) in cc (p)))
            (λ else. dite (ℕ_discrete t.0 other)
            (λ here. absurd (let e = live_one s.views other w t.1 w_at (subst (λ (k : ℕ). Live s.views k t.1) here t.3) in let p : Out ≡ Inside t.2 = sym w_out ∙ (ap (λ (z : View E D). z.place) e ∙ t.4) in cc (p)))
            (λ else'. (t.0, t.1, t.2, stays t.0 t.1 else' else t.3, t.4)));
        home = r.home;
        top = let t = r.top in dite (ℕ_discrete t.0 id)
            (λ here. (id, x, x_live, longer_left v.seen w.seen r.log fit_w.begins (ap (λ (z : View E D). z.seen) (live_one s.views id v t.1 at (subst (λ (k : ℕ). Live s.views k t.1) here t.2)) ∙ t.3)))
            (λ else. dite (ℕ_discrete t.0 other)
            (λ here. (id, x, x_live, longer_right v.seen w.seen r.log fit.begins (ap (λ (z : View E D). z.seen) (live_one s.views other w t.1 w_at (subst (λ (k : ℕ). Live s.views k t.1) here t.2)) ∙ t.3)))
            (λ else'. (t.0, t.1, stays t.0 t.1 else' else t.2, t.3)));
        apart = λ i j a b ea eb n. let p = number i a ea in let q = number j b eb in r.apart i j p.0 q.0 p.1 q.1 (p.2 ∙ (n ∙ sym q.2));
        makers = λ i j a b ea eb m n. let h = look i a ea in let k = look j b eb in ⊎_elim
            (λ (p : (i ≡ id) × (x ≡ a)). ⊎_elim
            (λ (q : (j ≡ id) × (x ≡ b)). p.0 ∙ sym q.0)
            (λ (q : (j ≢ id) × Live s.views j b). absurd (sole j b k.0 q.0 q.1 n (subst (λ (z : ℕ). 0 < z) (sym (ap (λ (z : View E D). z.made) p.1)) m)))
            k.1)
            (λ (p : (i ≢ id) × Live s.views i a). ⊎_elim
            (λ (q : (j ≡ id) × (x ≡ b)). absurd (sole i a h.0 p.0 p.1 m (subst (λ (z : ℕ). 0 < z) (sym (ap (λ (z : View E D). z.made) q.1)) n)))
            (λ (q : (j ≢ id) × Live s.views j b). r.makers i j a b p.1 q.1 m n)
            k.1)
            h.1;
        giver =
            let t = r.giver in
            dite (ℕ_discrete t.0 id)
            (λ here.
            let same = live_one s.views id v t.1 at (subst (λ (k : ℕ). Live s.views k t.1) here t.2) in
            let gives : 0 < v.made = subst (λ (y : View E D). 0 < y.made) (sym same) t.3 in
            (id, x, x_live, omega arith))
            (λ else. dite (ℕ_discrete t.0 other)
            (λ here.
            let same = live_one s.views other w t.1 w_at (subst (λ (k : ℕ). Live s.views k t.1) here t.2) in
            let gives : 0 < w.made = subst (λ (y : View E D). 0 < y.made) (sym same) t.3 in
            (id, x, x_live, omega arith))
            (λ else'. (t.0, t.1, stays t.0 t.1 else' else t.2, t.3)));
        fresh = r.fresh;
        held = λ k lt. let t = r.held k lt in dite (ℕ_discrete t.0 id)
            (λ here.
            let same = live_one s.views id v t.1 at (subst (λ (i : ℕ). Live s.views i t.1) here t.2) in (
              id,
              x,
              x_live,
              ⊎_elim
                  (λ (q : (t.1).number ≡ k). inl (ap (λ (z : View E D). z.number) same ∙ q))
                  (λ (q : (o : Old E) × IsOld o (t.1).olds × (o.number ≡ k)). inr (q.0, old_right (old_of w ∷ w.olds) v.olds q.0 (subst (IsOld q.0) (sym (ap (λ (z : View E D). z.olds) same)) q.1), q.2))
                  t.3,
            ))
            (λ else. dite (ℕ_discrete t.0 other)
            (λ here.
            let same = live_one s.views other w t.1 w_at (subst (λ (i : ℕ). Live s.views i t.1) here t.2) in (
              id,
              x,
              x_live,
              ⊎_elim
                  (λ (q : (t.1).number ≡ k). inr (old_of w, (0, refl), ap (λ (z : View E D). z.number) same ∙ q))
                  (λ (q : (o : Old E) × IsOld o (t.1).olds × (o.number ≡ k)). inr (q.0, old_right (old_of w ∷ []) (w.olds ++ v.olds) q.0 (old_left w.olds v.olds q.0 (subst (IsOld q.0) (sym (ap (λ (z : View E D). z.olds) same)) q.1)), q.2))
                  t.3,
            ))
            (λ else'. (t.0, t.1, stays t.0 t.1 else' else t.2, t.3)));
        gone = λ i j a b o ea eb c n. let h = look i a ea in let q = number j b eb in let same : (q.0).number ≡ o.number = q.2 ∙ n in ⊎_elim
            (λ (p : (i ≡ id) × (x ≡ a)). ⊎_elim
            (λ (t : old_of w ≡ o). q.4 (r.apart j other q.0 w q.1 w_at (same ∙ sym (ap (λ (z : Old E). z.number) t))))
            (λ (t : IsOld o w.olds ⊎ IsOld o v.olds). ⊎_elim (λ (c : IsOld o w.olds). r.gone other j w q.0 o w_at q.1 c same) (λ (c : IsOld o v.olds). r.gone id j v q.0 o at q.1 c same) t)
            (old_cases (old_of w) w.olds v.olds o (subst (IsOld o) (sym (ap (λ (z : View E D). z.olds) p.1)) c)))
            (λ (p : (i ≢ id) × Live s.views i a). r.gone i j a q.0 o p.1 q.1 c same)
            h.1;
      }

  pub joins : (id : ℕ) (k : Knows E D) (other : ℕ) (m : Knows E D) (v w : View E D) → k ≡ Seated v → m ≡ Seated w → v.place ≡ Out → w.place ≡ Out → Joins R id k other m (joined k m) Spent
  joins id k other m v w is js v_out w_out = subst (λ (z : Knows E D × Knows E D). Joins R id z.0 other z.1 (joined z.0 z.1) Spent) (λ i. (sym is i, sym js i)) (joins_at id v other w v_out w_out)
