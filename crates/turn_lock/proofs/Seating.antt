-- One view is replaced by another of the same seat.
use Rattle.std.proofs.Common.{◌≡◌, ◌≢◌, ℕ, zero, suc, ◌<◌, ◌⊎◌, length, List, [], ◌∷◌, ◌++◌, set, refl, sym, ap, ◌∙◌, subst, inl, inr, ⊎_elim, arith}
use mathlib.Core.Logic.{dite}
use mathlib.Core.Option.{some, some-injective, some-ne-none}
use native.Mathlib.Decide.{ℕ_discrete}
use lib.ListN.{get_elem?}
use Rattle.atomic_table.proofs.Lists.{at_set, set_here, set_else, at_longer}
use Rattle.turn_lock.specs.declared.view.View.{View}
use Rattle.turn_lock.specs.declared.view.Knows.{Knows}
use Rattle.turn_lock.specs.declared.view.Knows.TheVariants.{Spent, Seated}
use Rattle.turn_lock.specs.declared.view.Old.{Old}
use Rattle.turn_lock.specs.Rule.{IsOld, IsHeld, Live}

module _ {E D : Type 0} where
  pub live_set : (views : List (Knows E D)) (id j : ℕ) (w u : View E D) → Live (set views id (Seated w)) j u → ((j ≡ id) × (w ≡ u)) ⊎ ((j ≢ id) × Live views j u)
  live_set views id j w u e = ⊎_elim
      (λ (t : (j ≡ id) × (Seated w ≡ Seated u)). inl (t.0, cc (t.1)))
      (λ (t : (j ≢ id) × (get_elem? views j ≡ some (Seated u))). inr t)
      (at_set views id j (Seated w) (Seated u) e)

  -- two live views at one place are the same
  pub live_one : (views : List (Knows E D)) (j : ℕ) (v u : View E D) → Live views j v → Live views j u → v ≡ u
  live_one views j v u a b = cc (a, b)

  -- what a view of the changed row was before
  pub record Was (views : List (Knows E D)) (j : ℕ) (u : View E D) : Type 0 where
    pub before : View E D
    pub live : Live views j before
    pub number : before.number ≡ u.number
    pub made : before.made ≡ u.made
    pub olds : before.olds ≡ u.olds

  pub was : (views : List (Knows E D)) (id : ℕ) (v w : View E D) → Live views id v → v.number ≡ w.number → v.made ≡ w.made → v.olds ≡ w.olds
      → (j : ℕ) (u : View E D) → Live (set views id (Seated w)) j u → Was views j u
  was views id v w at n m o j u e = ⊎_elim
      (λ (t : (j ≡ id) × (w ≡ u)). record {
        before = v;
        live = subst (λ (k : ℕ). Live views k v) (sym t.0) at;
        number = n ∙ ap (λ (x : View E D). x.number) t.1;
        made = m ∙ ap (λ (x : View E D). x.made) t.1;
        olds = o ∙ ap (λ (x : View E D). x.olds) t.1;
      })
      (λ (t : (j ≢ id) × Live views j u). record { before = u; live = t.1; number = refl; made = refl; olds = refl })
      (live_set views id j w u e)

  live_length : (views : List (Knows E D)) (id : ℕ) (v : Knows E D) → get_elem? views id ≡ some v → id < length views
  live_length [] id v e = absurd (some-ne-none v (sym e))
  live_length (x ∷ xs) zero v e = omega arith
  live_length (x ∷ xs) (suc id) v e = let h = live_length xs id v e in omega arith

  -- the seat's own new view is live
  pub live_here : (views : List (Knows E D)) (id : ℕ) (v : Knows E D) (w : View E D) → get_elem? views id ≡ some v → Live (set views id (Seated w)) id w
  live_here views id v w at = set_here views id (Seated w) (live_length views id v at)

  pub live_else : (views : List (Knows E D)) (id j : ℕ) (w u : View E D) → j ≢ id → Live views j u → Live (set views id (Seated w)) j u
  live_else views id j w u apart e = set_else views id j (Seated w) apart ∙ e

  at_end : (l : List (Knows E D)) (a b : Knows E D) (j : ℕ) → get_elem? (l ++ a ∷ []) j ≡ some b → (get_elem? l j ≡ some b) ⊎ ((j ≡ length l) × (a ≡ b))
  at_end [] a b zero e = inr (refl, some-injective a b e)
  at_end [] a b (suc j) e = absurd (some-ne-none b (sym e))
  at_end (x ∷ xs) a b zero e = inl e
  at_end (x ∷ xs) a b (suc j) e = ⊎_elim (λ t. inl t) (λ (t : (j ≡ length xs) × (a ≡ b)). inr (ap suc t.0, t.1)) (at_end xs a b j e)

  pub live_end : (l : List (Knows E D)) (w u : View E D) (j : ℕ) → Live (l ++ Seated w ∷ []) j u → Live l j u ⊎ ((j ≡ length l) × (w ≡ u))
  live_end l w u j e = ⊎_elim (λ t. inl t) (λ (t : (j ≡ length l) × (Seated w ≡ Seated u)). inr (t.0, cc (t.1))) (at_end l (Seated w) (Seated u) j e)

  pub live_more : (l : List (Knows E D)) (w : Knows E D) (u : View E D) (j : ℕ) → Live l j u → Live (l ++ w ∷ []) j u
  live_more l w u j e = at_longer l (w ∷ []) j (Seated u) e

  -- if a seat is spent, the others stay
  pub live_spent : (views : List (Knows E D)) (other j : ℕ) (u : View E D) → Live (set views other Spent) j u → (j ≢ other) × Live views j u
  live_spent views other j u e = ⊎_elim
      (λ (t : (j ≡ other) × (Spent ≡ Seated u)). absurd (cc (t.1)))
      (λ (t : (j ≢ other) × (get_elem? views j ≡ some (Seated u))). t)
      (at_set views other j Spent (Seated u) e)

  pub live_not_spent : (views : List (Knows E D)) (other j : ℕ) (u : View E D) → j ≢ other → Live views j u → Live (set views other Spent) j u
  live_not_spent views other j u apart e = set_else views other j Spent apart ∙ e

  pub live_last : (l : List (Knows E D)) (u : View E D) → Live (l ++ Seated u ∷ []) (length l) u
  live_last [] u = refl
  live_last (x ∷ xs) u = live_last xs u

  -- a number that is held still is where a seat's view keeps its number and what it took in
  pub held_on : (views : List (Knows E D)) (id : ℕ) (v w : View E D) → Live views id v → v.number ≡ w.number → v.olds ≡ w.olds
      → (k : ℕ) → IsHeld views k → IsHeld (set views id (Seated w)) k
  held_on views id v w at n o k t = dite (ℕ_discrete t.0 id)
      (λ here. let same = live_one views id v t.1 at (subst (λ (i : ℕ). Live views i t.1) here t.2) in (
        id,
        w,
        live_here views id (Seated v) w at,
        ⊎_elim
            (λ (q : (t.1).number ≡ k). inl (sym n ∙ (ap (λ (x : View E D). x.number) same ∙ q)))
            (λ (q : (a : Old E) × IsOld a (t.1).olds × (a.number ≡ k)). inr (q.0, subst (IsOld q.0) (sym (ap (λ (x : View E D). x.olds) same) ∙ o) q.1, q.2))
            t.3,
      ))
      (λ else. (t.0, t.1, live_else views id t.0 w t.1 else t.2, t.3))
