-- The rule at the start and at the end.
use Rattle.std.proofs.Common.{◌≡◌, ℕ, zero, suc, ◌<◌, List, [], ◌∷◌, Option, Some, refl, sym, ap, ◌∙◌, subst, inl, arith}
use Rattle.std.specs.Prelude.{slice_index}
use mathlib.Core.Logic.{dite}
use mathlib.Core.Option.{some, some-ne-none, some-injective}
use native.Mathlib.Decide.{ℕ_discrete}
use lib.ListN.{get_elem?}
use Rattle.atomic_table.specs.Table.{State, opening, Final, Seen}
use Rattle.turn_lock.specs.declared.view.SeatPlace.TheVariants.{Out, Inside}
use Rattle.turn_lock.specs.declared.view.View.{View}
use Rattle.turn_lock.specs.declared.view.Knows.{Knows}
use Rattle.turn_lock.specs.declared.view.Knows.TheVariants.{Seated}
use Rattle.turn_lock.specs.History.{own, Begins}
use Rattle.turn_lock.specs.Rule.{IsOld, Fits, Live, Ruled, Covers, Closes, opened}
use Rattle.turn_lock.proofs.Seating.{live_one}

module _ {T E D : Type 0} (hist : T → List (ℕ × E)) (fits : T → D → Type 0) (told : D) where
  first : View E D
  first = record { number = 0; place = Out; turns = 0; seen = []; mine = []; told = told; made = 1; olds = [] }

  only_first : (j : ℕ) (u : View E D) → Live (opened told ∷ []) j u → (j ≡ 0) × (record { number = 0; place = Out; turns = 0; seen = []; mine = []; told = told; made = 1; olds = [] } ≡ u)
  only_first zero u e = (refl, let p = some-injective (opened told) (Seated u) e in cc (p))
  only_first (suc j) u e = absurd (some-ne-none (Seated u) (sym e))

  begins_none : (log : List (ℕ × E)) → Begins [] log
  begins_none log = (log, refl)

  pub opens : (value : T) → hist value ≡ [] → fits value told → Ruled hist fits told (opening (0 ∷ []) (Some value ∷ []) (opened told))
  opens value blank ok = record {
    log = [];
    given = 1;
    one_word = refl;
    each = λ j u e. subst (Fits told [] 1) (only_first j u e).1 record { told_is = refl; begins = begins_none []; receipts = refl; mine_is = refl; below = omega arith; maker = λ _. refl; old = λ o h. absurd (some-ne-none o (sym h.1)) };
    placed = λ j u e. subst (λ (x : View E D). Rattle.turn_lock.specs.Rule.InPlace 0 [] x.place) (only_first j u e).1 tt;
    alone = λ i j a b f g ea eb pa pb. (only_first i a ea).0 ∙ sym (only_first j b eb).0;
    taken = λ held. absurd (held refl);
    home = λ _. (value, refl, blank, ok);
    top = (0, record { number = 0; place = Out; turns = 0; seen = []; mine = []; told = told; made = 1; olds = [] }, refl, refl);
    apart = λ i j a b ea eb n. (only_first i a ea).0 ∙ sym (only_first j b eb).0;
    makers = λ i j a b ea eb m n. (only_first i a ea).0 ∙ sym (only_first j b eb).0;
    giver = (
      0,
      record { number = 0; place = Out; turns = 0; seen = []; mine = []; told = told; made = 1; olds = [] },
      refl,
      omega arith,
    );
    fresh = λ k le. refl;
    held = λ k lt. (0, record { number = 0; place = Out; turns = 0; seen = []; mine = []; told = told; made = 1; olds = [] }, refl, inl (omega arith));
    gone = λ i j a b o ea eb h n. some-ne-none o (sym (subst (IsOld o) (sym (ap (λ (x : View E D). x.olds) (only_first i a ea).1)) h).1);
  }

  ends_at : (s : State (Option T) (Knows E D)) (r : Ruled hist fits told s) (id : ℕ) (v : View E D) → Live s.views id v → v.place ≡ Out → Covers v
      → (value : T) × (get_elem? s.homes 0 ≡ some (some (Some value))) × Closes hist fits v value
  ends_at s r id v at out covers =
      let fit = r.each id v at in
      let given : v.made ≡ r.given = fit.maker covers.0 in
      let sole : (j : ℕ) (u : View E D) → Live s.views j u → j ≡ id = λ j u e. dite (ℕ_discrete j id) (λ same. same) (λ other. absurd (
      let b : u.number < r.given = (r.each j u e).below in
      let c = covers.1 u.number (omega arith) (λ n. other (r.apart j id u v e at n)) in
      r.gone id j v u c.0 at e c.1 (sym c.2))) in
      let free : slice_index s.words 0 ≡ 0 = dite (ℕ_discrete (slice_index s.words 0) 0) (λ z. z) (λ held. absurd (
      let t = r.taken held in
      let same = live_one s.views id v t.1 at (subst (λ (k : ℕ). Live s.views k t.1) (sole t.0 t.1 t.3) t.3) in
      let p : Out ≡ Inside t.2 = sym out ∙ (ap (λ (x : View E D). x.place) same ∙ t.4) in cc (p))) in
      let h = r.home free in
      let t = r.top in
      let whole : v.seen ≡ r.log = ap (λ (x : View E D). x.seen) (live_one s.views id v t.1 at (subst (λ (k : ℕ). Live s.views k t.1) (sole t.0 t.1 t.2) t.2)) ∙ t.3 in
      let same : hist h.0 ≡ r.log = h.2 in (
        h.0,
        h.1,
        record {
          history = same ∙ sym whole;
          fitting = subst (fits h.0) (sym fit.told_is) h.3;
          mine = ap (own v.number) same ∙ sym fit.mine_is;
          olds = λ o i. let f = fit.old o i in (subst (Begins o.seen) (sym same) f.1, ap (own o.number) same ∙ sym f.2);
          none = λ k le. ap (own k) same ∙ r.fresh k (omega arith);
        },
      )

  pub ends : (id : ℕ) (k : Knows E D) (v : View E D) (ws : List ℕ) (xs : List (Option T)) → k ≡ Seated v → v.place ≡ Out → Covers v → Final (Seen (Ruled hist fits told) id k) ws xs
      → (value : T) × (get_elem? xs 0 ≡ some (Some value)) × Closes hist fits v value
  ends id k v ws xs is out covers final =
      let e = ends_at final.0 final.1.0 id v (final.1.1 ∙ ap some is) out covers in
      (e.0, final.4 0 (Some e.0) e.1, e.2)
