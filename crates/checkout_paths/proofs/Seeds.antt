-- The seeds of the desks of a pool, from the cards of the drivers' paths.
use Rattle.std.proofs.Common.{◌≡◌, ℕ, zero, suc, ◌+◌, ◌<◌, ◌≤◌, ◌^◌, ◌==◌, Bool, true, false, cond, List, [], ◌∷◌, length, map, Option, Some, refl, sym, ap, ◌∙◌, subst, arith}
use Rattle.std.specs.Prelude.{slice_get, slice_index_or}
use Rattle.std.specs.List.{filter, list_all, AllByRecursion}
use Rattle.std.proofs.lemmas.Bool.{and_parts, eqb-true, eqb-false, eq-eqb, ne_eqb}
use Rattle.std.proofs.lemmas.List.{length-map}
use Rattle.std.proofs.lemmas.Option.{same_Some, slice_get_within}
use Rattle.edge_kit.specs.Told.{Told}
use Rattle.edge_kit.specs.Starters.{Starts, StarterSeen}
use Rattle.settings_view.specs.declared.view.Driver.{Driver}
use Rattle.delay_table.specs.Table.{IsRising, contains}
use Rattle.convert_plan.specs.declared.card.Card.{Card}
use Rattle.checkout_book.specs.Sights.{Sight}
use Rattle.checkout_core.specs.declared.event.Event.{Event}
use Rattle.checkout_core.specs.declared.path.Start.{Start}
use Rattle.checkout_core.specs.declared.path.Start.TheVariants as start
use Rattle.checkout_core.specs.Desks.{paths_of}
use Rattle.checkout_core.specs.States.{is_at, AreBelow}
use Rattle.checkout_plan.specs.declared.path_plan.PathPlan.{PathPlan}
use Rattle.git_index.specs.Spelling.{pairwise}
use Rattle.writer_pool.specs.declared.pooled.DeskSeed.{DeskSeed}
use Rattle.writer_pool.specs.Pools.{IsSeed, AreSeeds, AreStartersBack}
use Rattle.checkout_paths.specs.Cards.{AreCards, AreOrdered, HasDriver, precedes}
use Rattle.checkout_paths.specs.Dealing.{IsSeedFor, AreSeedsFor}
use Rattle.checkout_paths.specs.Workers.{starts_of}

all_at : (f : PathPlan → Bool) (xs : List PathPlan) (j : ℕ) (q : PathPlan) → list_all f xs ≡ true → slice_get xs j ≡ Some q → f q ≡ true
all_at f [] j q all at = absurd cc
all_at f (x ∷ xs) zero q all at = let parts = and_parts (f x) (list_all f xs) all in ap f (sym (same_Some x q at)) ∙ parts.0
all_at f (x ∷ xs) (suc j) q all at = let parts = and_parts (f x) (list_all f xs) all in all_at f xs j q parts.1 at

-- an earlier path comes before a later one
before : (ps : List PathPlan) (i j : ℕ) (p q : PathPlan) → pairwise precedes ps ≡ true → i < j → slice_get ps i ≡ Some p → slice_get ps j ≡ Some q → precedes p q ≡ true
before [] i j p q rise less at later = absurd cc
before (x ∷ xs) i zero p q rise less at later = absurd (omega (arith, less))
before (x ∷ xs) zero (suc j) p q rise less at later =
    let parts = and_parts (list_all (precedes x) xs) (pairwise precedes xs) rise in
    ap (λ (y : PathPlan). precedes y q) (sym (same_Some x p at)) ∙ all_at (precedes x) xs j q parts.0 later
before (x ∷ xs) (suc i) (suc j) p q rise less at later =
    let parts = and_parts (list_all (precedes x) xs) (pairwise precedes xs) rise in
    before xs i j p q parts.1 (omega (arith, less)) at later

filter_few : (f : PathPlan → Bool) (xs : List PathPlan) → length (filter f xs) ≤ length xs
filter_few f [] = omega arith
filter_few f (x ∷ xs) = by (f x) (filter_few f xs)
  where
    by : (b : Bool) → length (filter f xs) ≤ length xs → length (cond b (x ∷ filter f xs) (filter f xs)) ≤ length (x ∷ xs)
    by true few = omega (arith, few)
    by false few = omega (arith, few)

some_at : {X : Type 0} (xs : List X) (k : ℕ) → k < length xs → (x : X) × (slice_get xs k ≡ Some x)
some_at [] k within = absurd (omega (arith, within))
some_at (x ∷ xs) zero within = (x, refl)
some_at (x ∷ xs) (suc k) within = some_at xs k (omega (arith, within))

-- the paths of a driver, by the starts
zero_not : (xs : List ℕ) → contains zero (map (λ i. suc i) xs) ≡ false
zero_not [] = refl
zero_not (x ∷ xs) = ap (λ (b : Bool). cond b true (contains zero (map (λ i. suc i) xs))) (ne_eqb zero (suc x) (λ e. omega (arith, e))) ∙ zero_not xs

suc_same : (q x : ℕ) → (suc q == suc x) ≡ (q == x)
suc_same q x = by (q == x) refl
  where
    by : (b : Bool) → (q == x) ≡ b → (suc q == suc x) ≡ b
    by true e = eq-eqb (suc q) (suc x) (ap suc (eqb-true q x e))
    by false e = ne_eqb (suc q) (suc x) (λ s. eqb-false q x e (omega (arith, s)))

suc_in : (q : ℕ) (xs : List ℕ) → contains (suc q) (map (λ i. suc i) xs) ≡ contains q xs
suc_in q [] = refl
suc_in q (x ∷ xs) = ap (λ (b : Bool). cond b true (contains (suc q) (map (λ i. suc i) xs))) (suc_same q x) ∙ ap (λ (b : Bool). cond (q == x) true b) (suc_in q xs)

start_of : (d : ℕ) (ss : List Start) (p : ℕ) → contains p (paths_of d ss) ≡ true → (s : Start) × (slice_get ss p ≡ Some s) × (is_at d s ≡ true)
start_of d [] p has = absurd cc
start_of d (s ∷ ss) zero has = by (is_at d s) refl has
  where
    by : (b : Bool) → is_at d s ≡ b → contains zero (cond b (zero ∷ map (λ i. suc i) (paths_of d ss)) (map (λ i. suc i) (paths_of d ss))) ≡ true
        → (x : Start) × (slice_get (s ∷ ss) zero ≡ Some x) × (is_at d x ≡ true)
    by true is has = (s, refl, is)
    by false is has = let no : true ≡ false = sym has ∙ zero_not (paths_of d ss) in absurd cc
start_of d (s ∷ ss) (suc q) has = start_of d ss q (by (is_at d s) has)
  where
    by : (b : Bool) → contains (suc q) (cond b (zero ∷ map (λ i. suc i) (paths_of d ss)) (map (λ i. suc i) (paths_of d ss))) ≡ true → contains q (paths_of d ss) ≡ true
    by true has = sym (suc_in q (paths_of d ss)) ∙ (sym (ap (λ (b : Bool). cond b true (contains (suc q) (map (λ i. suc i) (paths_of d ss)))) (ne_eqb (suc q) zero (λ e. omega (arith, e)))) ∙ has)
    by false has = sym (suc_in q (paths_of d ss)) ∙ has

-- a path at a desk begins there
pub at_desk : (d : ℕ) (s : Start) → is_at d s ≡ true → (required : Bool) × (s ≡ start.Desk d required)
at_desk d (start.Desk e required) is = (required, ap (λ (n : ℕ). start.Desk n required) (sym (eqb-true d e is)))
at_desk d start.Pool is = absurd cc
at_desk d (start.Done v) is = absurd cc

driver_at : (drivers : List Driver) (ps : List PathPlan) (n : ℕ) (s : Start) → AllByRecursion (λ p. HasDriver drivers p.start) ps → slice_get (starts_of ps) n ≡ Some s → HasDriver drivers s
driver_at drivers [] n s all at = absurd cc
driver_at drivers (p ∷ ps) zero s all at = subst (HasDriver drivers) (same_Some p.start s at) all.0
driver_at drivers (p ∷ ps) (suc n) s all at = driver_at drivers ps n s all.1 at

-- each driver of the starts is one of those in use
pub below : (drivers : List Driver) (ps : List PathPlan) → AllByRecursion (λ p. HasDriver drivers p.start) ps → AreBelow (length drivers) (starts_of ps)
below drivers ps all p d required at = let one = driver_at drivers ps p (start.Desk d required) all at in slice_get_within drivers d one.0 one.1

module _ {S B L : Type 0} (starter : S → StarterSeen) (see : Sight B L) (ahead : List ℕ → Starts) (object : List ℕ → Told) (ps : List PathPlan) (all : List Driver) where
  text_in : (cards : List (Card B L)) (k : ℕ) (d : List ℕ) (c : Card B L) → slice_get cards k ≡ Some c → slice_index_or (map (λ c. c.text) cards) k d ≡ c.text
  text_in [] k d c at = absurd cc
  text_in (x ∷ xs) zero d c at = ap (λ (y : Card B L). y.text) (same_Some x c at)
  text_in (x ∷ xs) (suc k) d c at = text_in xs k d c at

  -- the texts of cards rise
  texts_rise : (owner : Option ℕ) (cards : List (Card B L)) → AreOrdered ps → AreCards owner see object ps cards → IsRising (map (λ c. c.text) cards)
  texts_rise owner cards rise are k d within =
      let count : length (map (λ (c : Card B L). c.text) cards) ≡ length cards = length-map cards (λ (c : Card B L). c.text) in
      let a = some_at cards k (omega (arith, within, count)) in
      let b = some_at cards (k + 1) (omega (arith, within, count)) in
      let p = are.there k a.0 a.1 in
      let q = are.there (k + 1) b.0 b.1 in
      let first : slice_index_or (map (λ (c : Card B L). c.text) cards) k d ≡ (p.0).path = text_in cards k d a.0 a.1 ∙ ap (λ c. c.text) (p.3).same in
      let second : slice_index_or (map (λ (c : Card B L). c.text) cards) (k + 1) d ≡ (q.0).path = text_in cards (k + 1) d b.0 b.1 ∙ ap (λ c. c.text) (q.3).same in
      rw (first, second) (before ps (a.0).path (b.0).path p.0 q.0 rise (are.rises k (k + 1) a.0 b.0 (omega arith) a.1 b.1) p.1 q.1)

  seed_is : (d : ℕ) (x : Driver) (seed : DeskSeed S B L) → slice_get all d ≡ Some x → AllByRecursion (λ p. HasDriver all p.start) ps → AreOrdered ps → length ps < 2 ^ 32
      → length (filter (λ p. is_at d p.start) ps) ≤ length ps → IsSeedFor starter see ahead object ps d x seed → IsSeed starter (starts_of ps) d seed
  seed_is d x seed there has rise few less is = record {
    paths = is.cards.numbers d refl;
    desk = λ p in_it. at_it p (start_of d (starts_of ps) p in_it);
    texts = texts_rise (Some d) seed.cards.items rise is.cards;
    few = omega (arith, few, less, is.cards.count, ap (λ (s : StarterSeen). length s.had) is.starter_is);
  }
    where
      at_it : (p : ℕ) → (s : Start) × (slice_get (starts_of ps) p ≡ Some s) × (is_at d s ≡ true) → slice_get (starts_of ps) p ≡ Some (start.Desk d seed.required)
      at_it p (s, at, here) =
          let one = at_desk d s here in
          let driver : HasDriver all (start.Desk d one.0) = driver_at all ps p (start.Desk d one.0) has (at ∙ ap Some one.1) in
          let same : driver.0 ≡ x = same_Some driver.0 x (sym driver.1 ∙ there) in
          let required : one.0 ≡ seed.required = sym driver.2 ∙ (ap (λ (y : Driver). y.required) same ∙ sym is.required) in
          at ∙ ap Some (one.1 ∙ ap (start.Desk d) required)

  -- the seeds of the drivers from d on
  pub seeds_are : (d : ℕ) (drivers : List Driver) (seeds : List (DeskSeed S B L)) → ((i : ℕ) (x : Driver) → slice_get drivers i ≡ Some x → slice_get all (d + i) ≡ Some x)
      → AllByRecursion (λ p. HasDriver all p.start) ps → AreOrdered ps → length ps < 2 ^ 32 → AreSeedsFor starter see ahead object ps d drivers seeds → AreSeeds starter (starts_of ps) d seeds
  seeds_are d [] [] at has rise few made = tt
  seeds_are d [] (s ∷ ss) at has rise few made = absurd made
  seeds_are d (x ∷ xs) [] at has rise few made = absurd made
  seeds_are d (x ∷ xs) (s ∷ ss) at has rise few made =
      let here : ◌≡◌ {A = ℕ} d (d + zero) = omega arith in (
        seed_is d x s (ap (slice_get all) here ∙ at zero x refl) has rise few (filter_few (λ p. is_at d p.start) ps) made.0,
        seeds_are (suc d) xs ss (λ i y h. let next : ◌≡◌ {A = ℕ} (suc d + i) (d + suc i) = omega arith in ap (slice_get all) next ∙ at (suc i) y h) has rise few made.1,
      )

-- as many starters are back as there are desks
pub starters_count : {S B L : Type 0} (starter : S → StarterSeen) (see : Sight B L) (starts : List Start) (history : List Event) (leaves : List L) (d : ℕ) (xs : List (DeskSeed S B L)) (ss : List S)
    → AreStartersBack starter see starts history leaves d xs ss → length ss ≡ length xs
starters_count starter see starts history leaves d [] [] back = refl
starters_count starter see starts history leaves d [] (s ∷ ss) back = absurd back
starters_count starter see starts history leaves d (x ∷ xs) [] back = absurd back
starters_count starter see starts history leaves d (x ∷ xs) (s ∷ ss) back = ap suc (starters_count starter see starts history leaves (suc d) xs ss back.1)
