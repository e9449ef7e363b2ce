-- Each open path of a plan is the pool's, or is at the desk of one driver.
use Rattle.std.proofs.Common.{◌≡◌, ℕ, zero, suc, ◌+◌, ◌<◌, ◌≤◌, ◌==◌, Bool, true, false, List, [], ◌∷◌, ◌++◌, length, length-append, cond, Some, None, refl, ap, arith}
use Rattle.std.specs.List.{filter, AllByRecursion}
use Rattle.std.proofs.lemmas.Bool.{eqb-true, eqb-false, ne_eqb}
use Rattle.std.proofs.lemmas.Option.{slice_get_within}
use Rattle.edge_kit.specs.Told.{Told}
use Rattle.edge_kit.specs.Starters.{Starts, StarterSeen}
use Rattle.settings_view.specs.declared.view.Driver.{Driver}
use Rattle.checkout_book.specs.Sights.{Sight}
use Rattle.convert_plan.specs.declared.card.Card.{Card}
use Rattle.checkout_core.specs.declared.path.Start.{Start}
use Rattle.checkout_core.specs.declared.path.Start.TheVariants as start
use Rattle.checkout_core.specs.States.{is_at}
use Rattle.checkout_plan.specs.declared.path_plan.PathPlan.{PathPlan}
use Rattle.writer_pool.specs.declared.pooled.DeskSeed.{DeskSeed}
use Rattle.writer_pool.specs.Pools.{seed_cards}
use Rattle.checkout_paths.specs.Cards.{is_of, HasDriver}
use Rattle.checkout_paths.specs.Dealing.{AreSeedsFor}
use Rattle.checkout_paths.specs.Made.{is_open, open_paths}
use Rattle.checkout_paths.proofs.PoolCards.{mine, one_if}

-- how many paths are at the desks of so many drivers, from d on
abbrev pub at_desks : ℕ → ℕ → List PathPlan → ℕ
at_desks d zero ps = 0
at_desks d (suc n) ps = length (filter (mine (Some d)) ps) + at_desks (suc d) n ps

-- at how many of these desks a path starts
abbrev hits : ℕ → ℕ → Start → ℕ
hits d zero s = 0
hits d (suc n) s = one_if (is_at d s) + hits (suc d) n s

one_more : (f : PathPlan → Bool) (p : PathPlan) (ps : List PathPlan) → length (filter f (p ∷ ps)) ≡ one_if (f p) + length (filter f ps)
one_more f p ps = by (f p)
  where
    by : (b : Bool) → length (cond b (p ∷ filter f ps) (filter f ps)) ≡ one_if b + length (filter f ps)
    by true = omega arith
    by false = omega arith

desks_more : (d n : ℕ) (p : PathPlan) (ps : List PathPlan) → at_desks d n (p ∷ ps) ≡ hits d n p.start + at_desks d n ps
desks_more d zero p ps = omega arith
desks_more d (suc n) p ps = omega (arith, one_more (mine (Some d)) p ps, desks_more (suc d) n p ps)

no_desks : (d n : ℕ) → at_desks d n [] ≡ 0
no_desks d zero = refl
no_desks d (suc n) = omega (arith, no_desks (suc d) n)

pool_none : (d n : ℕ) → hits d n start.Pool ≡ 0
pool_none d zero = refl
pool_none d (suc n) = omega (arith, pool_none (suc d) n)

before_none : (d n e : ℕ) (required : Bool) → e < d → hits d n (start.Desk e required) ≡ 0
before_none d zero e required less = refl
before_none d (suc n) e required less =
    let other : (d == e) ≡ false = ne_eqb d e (λ same. omega (arith, same, less)) in
    omega (arith, ap one_if other, before_none (suc d) n e required (omega (arith, less)))

one_desk : (d n e : ℕ) (required : Bool) → d ≤ e → e < d + n → hits d n (start.Desk e required) ≡ 1
one_desk d zero e required from less = absurd (omega (arith, from, less))
one_desk d (suc n) e required from less = by (d == e) refl (λ next. one_desk (suc d) n e required next (omega (arith, less)))
  where
    by : (b : Bool) → (d == e) ≡ b → (suc d ≤ e → hits (suc d) n (start.Desk e required) ≡ 1) → one_if (d == e) + hits (suc d) n (start.Desk e required) ≡ 1
    by true is rest = omega (arith, ap one_if is, before_none (suc d) n e required (omega (arith, eqb-true d e is)))
    by false is rest =
        let other : d < e = omega (arith, from, eqb-false d e is) in
        omega (arith, ap one_if is, rest (omega (arith, other)))

-- how many paths are open
pub open_count : (drivers : List Driver) (ps : List PathPlan) → AllByRecursion (λ p. HasDriver drivers p.start) ps
    → length (open_paths ps) ≡ length (filter (mine None) ps) + at_desks 0 (length drivers) ps
open_count drivers [] all = omega (arith, no_desks 0 (length drivers))
open_count drivers (p ∷ ps) all =
    let opens : length (open_paths (p ∷ ps)) ≡ one_if (is_open p.start) + length (open_paths ps) = one_more (λ q. is_open q.start) p ps in
    let pool = one_more (mine None) p ps in
    let desks = desks_more 0 (length drivers) p ps in
    let here : one_if (is_open p.start) ≡ one_if (is_of None p.start) + hits 0 (length drivers) p.start = first p.start all.0 in
    omega (arith, opens, pool, desks, here, open_count drivers ps all.1)
  where
    done_none : (d n : ℕ) (v : _) → hits d n (start.Done v) ≡ 0
    done_none d zero v = refl
    done_none d (suc n) v = omega (arith, done_none (suc d) n v)

    first : (s : Start) → HasDriver drivers s → one_if (is_open s) ≡ one_if (is_of None s) + hits 0 (length drivers) s
    first (start.Done v) is = omega (arith, done_none 0 (length drivers) v)
    first start.Pool is = omega (arith, pool_none 0 (length drivers))
    first (start.Desk d required) (x, at, same) = omega (arith, one_desk 0 (length drivers) d required (omega arith) (omega (arith, slice_get_within drivers d x at)))

module _ {S B L : Type 0} (starter : S → StarterSeen) (see : Sight B L) (ahead : List ℕ → Starts) (object : List ℕ → Told) (ps : List PathPlan) where
  -- the desks have as many cards as paths
  pub desk_count : (d : ℕ) (drivers : List Driver) (seeds : List (DeskSeed S B L)) → AreSeedsFor starter see ahead object ps d drivers seeds
      → (length (seed_cards seeds) ≡ at_desks d (length drivers) ps) × (length seeds ≡ length drivers)
  desk_count d [] [] all = (refl, refl)
  desk_count d [] (x ∷ xs) all = absurd all
  desk_count d (x ∷ xs) [] all = absurd all
  desk_count d (x ∷ xs) (seed ∷ seeds) all =
      let rest = desk_count (suc d) xs seeds all.1 in
      (omega (arith, length-append seed.cards.items (seed_cards seeds), all.0.cards.count, rest.0), ap suc rest.1)

  -- there are as many cards as open paths
  pub all_count : (drivers : List Driver) (pool : List (Card B L)) (seeds : List (DeskSeed S B L)) → AllByRecursion (λ p. HasDriver drivers p.start) ps → length pool ≡ length (filter (mine None) ps)
      → AreSeedsFor starter see ahead object ps 0 drivers seeds → length (pool ++ seed_cards seeds) ≡ length (open_paths ps)
  all_count drivers pool seeds all count made =
      omega (arith, length-append pool (seed_cards seeds), count, (desk_count 0 drivers seeds made).0, open_count drivers ps all)
