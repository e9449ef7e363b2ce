-- The planned cards: one of each path, and none of a path that is closed from the start.
use Rattle.std.proofs.Common.{◌≡◌, ℕ, zero, suc, ◌+◌, inl, inr, ⊎_elim, Bool, true, false, cond, List, [], ◌∷◌, map, Some, refl, sym, ap, ◌∙◌, subst, arith}
use Rattle.std.specs.Prelude.{slice_get}
use Rattle.std.specs.Global.{Vec}
use Rattle.std.proofs.lemmas.Bool.{cases_order}
use Rattle.convert_plan.specs.declared.card.Card.{Card}
use Rattle.checkout_core.specs.declared.verdict.Verdict.{Verdict}
use Rattle.checkout_core.specs.declared.path.Start.{Start}
use Rattle.checkout_core.specs.declared.path.Start.TheVariants.{Pool, Desk, Done}
use Rattle.checkout_core.specs.States.{is_at}
use Rattle.checkout_core.specs.Desks.{paths_of}
use Rattle.checkout_book.specs.declared.plan.BookPlan.{BookPlan}
use Rattle.checkout_book.specs.Shelves.{cards_of, joined}
use Rattle.checkout_book.specs.Reserving.{ArePool, AreDealt}
use Rattle.writer_pool.proofs.Places.{some_is, same_number, get_map, get_map_back, get_either}

-- the path starts with the driver
pub record StartsAt (d : ℕ) (starts : List Start) (p : ℕ) : Type 0 where
  pub start : Start
  pub there : slice_get starts p ≡ Some start
  pub at : is_at d start ≡ true

starts_behind : (d : ℕ) (s : Start) (ss : List Start) (p q : ℕ) → suc q ≡ p → StartsAt d ss q → StartsAt d (s ∷ ss) p
starts_behind d s ss p q is h = record {
  start = h.start;
  there = subst (λ (z : ℕ). slice_get (s ∷ ss) z ≡ Some h.start) is h.there;
  at = h.at;
}

-- the paths behind the first
abbrev behind : List ℕ → List ℕ
behind ps = map (λ n. suc n) ps

starts_first : (d : ℕ) (s : Start) (ss : List Start) (ps : List ℕ)
    → ((i q : ℕ) → slice_get ps i ≡ Some q → StartsAt d ss q) → (b : Bool) → is_at d s ≡ b → (i p : ℕ)
    → slice_get (cond b (zero ∷ behind ps) (behind ps)) i ≡ Some p → StartsAt d (s ∷ ss) p
starts_first d s ss ps more true at zero p e =
    let is : zero ≡ p = cc (e) in
    record { start = s; there = subst (λ (z : ℕ). slice_get (s ∷ ss) z ≡ Some s) is refl; at = at }
starts_first d s ss ps more true at (suc i) p e =
    let b = get_map_back (λ (n : ℕ). suc n) ps i p e in
    starts_behind d s ss p b.0 b.2 (more i b.0 b.1)
starts_first d s ss ps more false at i p e =
    let b = get_map_back (λ (n : ℕ). suc n) ps i p e in
    starts_behind d s ss p b.0 b.2 (more i b.0 b.1)

pub starts_at : (d : ℕ) (starts : List Start) (i p : ℕ) → slice_get (paths_of d starts) i ≡ Some p → StartsAt d starts p
starts_at d [] i p e = absurd (cc (e))
starts_at d (s ∷ ss) i p e =
    starts_first d s ss (paths_of d ss) (λ j q f. starts_at d ss j q f) (is_at d s) refl i p e

both_behind : (ps : List ℕ) → ((i j p : ℕ) → slice_get ps i ≡ Some p → slice_get ps j ≡ Some p → i ≡ j) → (i j p : ℕ)
    → slice_get (behind ps) i ≡ Some p → slice_get (behind ps) j ≡ Some p → i ≡ j
both_behind ps more i j p e f =
    let a = get_map_back (λ (n : ℕ). suc n) ps i p e in
    let b = get_map_back (λ (n : ℕ). suc n) ps j p f in
    let x = a.2 in
    let y = b.2 in
    let same : b.0 ≡ a.0 = omega (arith, x, y) in
    more i j a.0 a.1 (subst (λ (z : ℕ). slice_get ps j ≡ Some z) same b.1)

not_behind : (ps : List ℕ) (j p : ℕ) → zero ≡ p → slice_get (behind ps) j ≡ Some p → ⊥
not_behind ps j p is f =
    let b = get_map_back (λ (n : ℕ). suc n) ps j p f in
    let y = b.2 in
    omega (arith, is, y)

same_first : (ps : List ℕ) → ((i j p : ℕ) → slice_get ps i ≡ Some p → slice_get ps j ≡ Some p → i ≡ j) → (b : Bool)
    → (i j p : ℕ) → slice_get (cond b (zero ∷ behind ps) (behind ps)) i ≡ Some p
    → slice_get (cond b (zero ∷ behind ps) (behind ps)) j ≡ Some p → i ≡ j
same_first ps more true zero zero p e f = refl
same_first ps more true zero (suc j) p e f = absurd (not_behind ps j p (let is : zero ≡ p = cc (e) in is) f)
same_first ps more true (suc i) zero p e f = absurd (not_behind ps i p (let is : zero ≡ p = cc (f) in is) e)
same_first ps more true (suc i) (suc j) p e f = ap suc (both_behind ps more i j p e f)
same_first ps more false i j p e f = both_behind ps more i j p e f

pub same_place : (d : ℕ) (starts : List Start) (i j p : ℕ) → slice_get (paths_of d starts) i ≡ Some p
    → slice_get (paths_of d starts) j ≡ Some p → i ≡ j
same_place d [] i j p e f = absurd (cc (e))
same_place d (s ∷ ss) i j p e f =
    same_first (paths_of d ss) (λ a b q x y. same_place d ss a b q x y) (is_at d s) i j p e f

one_driver : (d e : ℕ) (s : Start) → is_at d s ≡ true → is_at e s ≡ true → d ≡ e
one_driver d e Pool a b = absurd (cc (a))
one_driver d e (Done v) a b = absurd (cc (a))
one_driver d e (Desk x r) a b = same_number d x a ∙ sym (same_number e x b)

module _ {B L : Type 0} where
  -- one card of each path, and none of a path that is closed from the start
  pub record IsFitting (starts : List Start) (cards : List (Card B L)) : Type 0 where
    pub one : (i j : ℕ) (x y : Card B L) → slice_get cards i ≡ Some x → slice_get cards j ≡ Some y → x.path ≡ y.path
        → x ≡ y
    pub unclosed : (i : ℕ) (x : Card B L) (v : Verdict) → slice_get cards i ≡ Some x
        → slice_get starts x.path ≡ Some (Done v) → ⊥

  -- where a desk's card is
  record OfDesk (k : ℕ) (vs : List (Vec (Card B L))) (starts : List Start) (x : Card B L) : Type 0 where
    pub driver : ℕ
    pub desk : ℕ
    pub numbered : driver ≡ k + desk
    pub deck : Vec (Card B L)
    pub there : slice_get vs desk ≡ Some deck
    pub place : ℕ
    pub card : slice_get deck.items place ≡ Some x
    pub path : slice_get (paths_of driver starts) place ≡ Some x.path

  of_desk : (k : ℕ) (starts : List Start) (vs : List (Vec (Card B L))) (i : ℕ) (x : Card B L) → AreDealt starts k vs
      → slice_get (joined vs) i ≡ Some x → OfDesk k vs starts x
  of_desk k starts [] i x d e = absurd (cc (e))
  of_desk k starts (v ∷ vs) i x d e = ⊎_elim
      (λ (here : slice_get v.items i ≡ Some x). record {
        driver = k;
        desk = 0;
        numbered = omega arith;
        deck = v;
        there = refl;
        place = i;
        card = here;
        path = ap (λ (l : List ℕ). slice_get l i) (sym d.0) ∙ get_map (λ (c : Card B L). c.path) v.items i x here;
      })
      (λ (more : (j : ℕ) × (slice_get (joined vs) j ≡ Some x)).
      let r = of_desk (suc k) starts vs more.0 x d.1 more.1 in
      let n = r.numbered in
      record {
        driver = r.driver;
        desk = suc r.desk;
        numbered = omega (arith, n);
        deck = r.deck;
        there = r.there;
        place = r.place;
        card = r.card;
        path = r.path;
      })
      (get_either v.items (joined vs) i x e)

  of_start : (starts : List Start) (vs : List (Vec (Card B L))) (x : Card B L) (h : OfDesk 0 vs starts x)
      → StartsAt h.driver starts x.path
  of_start starts vs x h = starts_at h.driver starts h.place x.path h.path

  two_desks : (starts : List Start) (vs : List (Vec (Card B L))) (x y : Card B L) → OfDesk 0 vs starts x
      → OfDesk 0 vs starts y → x.path ≡ y.path → x ≡ y
  two_desks starts vs x y a b same =
      let s = of_start starts vs x a in
      let t = of_start starts vs y b in
      let start : t.start ≡ s.start = some_is t.start s.start
      (sym t.there ∙ (ap (slice_get starts) (sym same) ∙ s.there)) in
      let driver : b.driver ≡ a.driver = one_driver b.driver a.driver s.start
      (ap (is_at b.driver) (sym start) ∙ t.at) s.at in
      let m = a.numbered in
      let n = b.numbered in
      let desk : b.desk ≡ a.desk = omega (arith, driver, m, n) in
      let deck : b.deck ≡ a.deck = some_is b.deck a.deck (sym b.there ∙ (ap (slice_get vs) desk ∙ a.there)) in
      let path : slice_get (paths_of a.driver starts) b.place ≡ Some x.path =
      subst (λ (z : ℕ). slice_get (paths_of z starts) b.place ≡ Some x.path) driver
      (b.path ∙ ap (λ (z : ℕ). Some z) (sym same)) in
      let place : b.place ≡ a.place = same_place a.driver starts b.place a.place x.path path a.path in
      some_is x y (sym a.card ∙ (ap (slice_get a.deck.items) (sym place)
      ∙ (ap (λ (v : Vec (Card B L)). slice_get v.items b.place) (sym deck) ∙ b.card)))

  not_pool : (starts : List Start) (vs : List (Vec (Card B L))) (x y : Card B L) → slice_get starts x.path ≡ Some Pool
      → OfDesk 0 vs starts y → x.path ≡ y.path → ⊥
  not_pool starts vs x y pool b same =
      let t = of_start starts vs y b in
      let is : t.start ≡ Pool = some_is t.start Pool (sym t.there ∙ (ap (slice_get starts) (sym same) ∙ pool)) in
      let u : is_at b.driver Pool ≡ true = ap (is_at b.driver) (sym is) ∙ t.at in
      cc (u)

  one_pool : (starts : List Start) (cards : List (Card B L)) → ArePool starts cards → (i j : ℕ) (x y : Card B L)
      → slice_get cards i ≡ Some x → slice_get cards j ≡ Some y → x.path ≡ y.path → x ≡ y
  one_pool starts cards pool i j x y e f same = elim (cases_order i j) [
    | inl is ↦ some_is x y (sym e ∙ (ap (slice_get cards) is ∙ f))
    | inr other ↦ elim other [
      | inl less ↦ absurd (let h = pool.rises i j x y less e f in omega (arith, h, same))
      | inr more ↦ absurd (let h = pool.rises j i y x more f e in omega (arith, h, same))
    ]
  ]

  pub fitting : (d : BookPlan B L) → ArePool d.starts.items d.pool.items → AreDealt d.starts.items 0 d.desks.items
      → IsFitting d.starts.items (cards_of d)
  fitting d pool dealt =
      let starts = d.starts.items in
      let vs = d.desks.items in
      record {
        one = λ i j x y e f same. ⊎_elim
            (λ (a : slice_get d.pool.items i ≡ Some x). ⊎_elim
            (λ (b : slice_get d.pool.items j ≡ Some y). one_pool starts d.pool.items pool i j x y a b same)
            (λ (b : (n : ℕ) × (slice_get (joined vs) n ≡ Some y)).
            absurd (not_pool starts vs x y (pool.there i x a) (of_desk 0 starts vs b.0 y dealt b.1) same))
            (get_either d.pool.items (joined vs) j y f))
            (λ (a : (n : ℕ) × (slice_get (joined vs) n ≡ Some x)). ⊎_elim
            (λ (b : slice_get d.pool.items j ≡ Some y).
            absurd (not_pool starts vs y x (pool.there j y b) (of_desk 0 starts vs a.0 x dealt a.1) (sym same)))
            (λ (b : (n : ℕ) × (slice_get (joined vs) n ≡ Some y)).
            two_desks starts vs x y (of_desk 0 starts vs a.0 x dealt a.1) (of_desk 0 starts vs b.0 y dealt b.1) same)
            (get_either d.pool.items (joined vs) j y f))
            (get_either d.pool.items (joined vs) i x e);
        unclosed = λ i x v e done. ⊎_elim
            (λ (a : slice_get d.pool.items i ≡ Some x).
            let u : Some Pool ≡ Some (Done v) = sym (pool.there i x a) ∙ done in cc (u))
            (λ (a : (n : ℕ) × (slice_get (joined vs) n ≡ Some x)).
            let h = of_desk 0 starts vs a.0 x dealt a.1 in
            let t = of_start starts vs x h in
            let is : t.start ≡ Done v = some_is t.start (Done v) (sym t.there ∙ done) in
            let u : is_at h.driver (Done v) ≡ true = ap (is_at h.driver) (sym is) ∙ t.at in
            cc (u))
            (get_either d.pool.items (joined vs) i x e);
      }
