-- All paths of a checkout, once its pool was left and all was given back.
use Rattle.std.proofs.Common.{◌≡◌, ◌+◌, ◌++◌, ℕ, zero, suc, Bool, List, [], ◌∷◌, length, map, Option, Some, None, ◌∙◌, subst, ⊎_elim, arith}
use Rattle.std.specs.Prelude.{slice_get}
use Rattle.edge_kit.specs.Told.{Told}
use Rattle.edge_kit.specs.Seen.{RepoSeen, TreeSeen}
use Rattle.edge_kit.specs.Starters.{Starts, StarterSeen, SpawnerSeen, starter_back}
use Rattle.settings_view.specs.declared.view.Driver.{Driver}
use Rattle.convert_plan.specs.declared.card.Card.{Card}
use Rattle.checkout_core.specs.declared.event.Event.{Event}
use Rattle.checkout_core.specs.declared.event.Event.TheVariants.{Close}
use Rattle.checkout_core.specs.declared.path.Start.{Start}
use Rattle.checkout_core.specs.declared.path.Start.TheVariants as start
use Rattle.checkout_core.specs.declared.verdict.Own.{Own}
use Rattle.checkout_core.specs.declared.verdict.Verdict.{Verdict}
use Rattle.checkout_core.specs.Closes.{own_of}
use Rattle.checkout_book.specs.Sights.{Sight}
use Rattle.checkout_plan.specs.declared.path_plan.PathPlan.{PathPlan}
use Rattle.writer_pool.specs.declared.pooled.DeskSeed.{DeskSeed}
use Rattle.writer_pool.specs.Ends.{IsRun, IsEndOf, AreEnds}
use Rattle.writer_pool.specs.Pools.{AreStartersBack, seed_cards}
use Rattle.writer_pool.specs.Sealing.{leaf_at}
use Rattle.checkout_paths.specs.Cards.{AreCards, AreTexts, AreDrivers}
use Rattle.checkout_paths.specs.Dealing.{AreSeedsFor}
use Rattle.checkout_paths.specs.Made.{open_paths}
use Rattle.checkout_paths.specs.Workers.{starts_of}
use Rattle.checkout_paths.specs.Writing.{ArePathsDone}
use Rattle.checkout_paths.proofs.DriverTalks.{IsEndTold, AreTalked, starters_got}
use Rattle.checkout_paths.proofs.OpenEnds.{AreMadeFor, desk_told, open_ends}
use Rattle.checkout_paths.proofs.PathsEnd.{AreBack, IsTold, KeepsSize, VerdictsAreTold, paths_done}
use Rattle.checkout_paths.proofs.Places.{get_either}
use Rattle.checkout_paths.proofs.Seeds.{below}

module _ {B L : Type 0} (see : Sight B L) (starts : List Start) (history : List Event) (cards : List (Card B L)) where
  -- the Close of a path, and its own outcome
  abbrev IsClosedAt : ℕ → Type 0
  IsClosedAt n = (place actor : ℕ) × (own : Own) × (slice_get history place ≡ Some (Close n actor own)) × (own_of n None history ≡ Some own)

  closed_of : (n : ℕ) (b : B) (l : L) → IsEndOf see starts history cards n b l → IsClosedAt n
  closed_of n b l (k, card, there, path, closed) =
      subst IsClosedAt path (closed.place, closed.actor, closed.own, closed.entry, closed.own_is)

  later : (n i : ℕ) → IsClosedAt (suc n + i) → IsClosedAt (n + suc i)
  later n i at = let next : ◌≡◌ {A = ℕ} (suc n + i) (n + suc i) = omega arith in subst IsClosedAt next at

  -- each path at a desk was closed
  closed_at : (n : ℕ) (ss : List Start) (bs : List B) (ls : List L) → AreEnds see starts history cards n ss bs ls → (i d : ℕ) (required : Bool) → slice_get ss i ≡ Some (start.Desk d required) → IsClosedAt (n + i)
  closed_at n [] bs ls ends i d required at = absurd cc
  closed_at n (start.Done v ∷ ss) bs ls ends zero d required at = absurd cc
  closed_at n (start.Done v ∷ ss) bs ls ends (suc i) d required at = later n i (closed_at (suc n) ss bs ls ends i d required at)
  closed_at n (start.Pool ∷ ss) [] ls ends i d required at = absurd ends
  closed_at n (start.Pool ∷ ss) (b ∷ bs) [] ends i d required at = absurd ends
  closed_at n (start.Pool ∷ ss) (b ∷ bs) (l ∷ ls) ends zero d required at = absurd cc
  closed_at n (start.Pool ∷ ss) (b ∷ bs) (l ∷ ls) ends (suc i) d required at = later n i (closed_at (suc n) ss bs ls ends.1 i d required at)
  closed_at n (start.Desk e r ∷ ss) [] ls ends i d required at = absurd ends
  closed_at n (start.Desk e r ∷ ss) (b ∷ bs) [] ends i d required at = absurd ends
  closed_at n (start.Desk e r ∷ ss) (b ∷ bs) (l ∷ ls) ends zero d required at =
      let here : ◌≡◌ {A = ℕ} n (n + zero) = omega arith in
      subst IsClosedAt here (closed_of n b l ends.0)
  closed_at n (start.Desk e r ∷ ss) (b ∷ bs) (l ∷ ls) ends (suc i) d required at = later n i (closed_at (suc n) ss bs ls ends.1 i d required at)

module _ {S B L : Type 0} (starter : S → StarterSeen) (see : Sight B L) (ahead : List ℕ → Starts) (object : List ℕ → Told) (paths : List PathPlan) where
  owner_made : (owner : Option ℕ) (cards : List (Card B L)) → AreCards owner see object paths cards → AreMadeFor see object paths cards
  owner_made owner cards are k c at = let one = are.there k c at in (one.0, one.1, one.3)

  both_made : (xs ys : List (Card B L)) → AreMadeFor see object paths xs → AreMadeFor see object paths ys → AreMadeFor see object paths (xs ++ ys)
  both_made xs ys first second k c at = ⊎_elim
      (λ (h : slice_get xs k ≡ Some c). first k c h)
      (λ (h : (j : ℕ) × (slice_get ys j ≡ Some c)). second h.0 c h.1)
      (get_either xs ys k c at)

  none_made : AreMadeFor see object paths []
  none_made k c at = absurd (let no : None ≡ Some c = at in cc no)

  seeds_made : (d : ℕ) (drivers : List Driver) (seeds : List (DeskSeed S B L)) → AreSeedsFor starter see ahead object paths d drivers seeds → AreMadeFor see object paths (seed_cards seeds)
  seeds_made d [] [] made = none_made
  seeds_made d [] (seed ∷ seeds) made = absurd made
  seeds_made d (x ∷ xs) [] made = absurd made
  seeds_made d (x ∷ xs) (seed ∷ seeds) made =
      both_made seed.cards.items (seed_cards seeds) (owner_made (Some d) seed.cards.items (made.0).cards) (seeds_made (suc d) xs seeds made.1)

-- what the pool leaves: the run, the ends of the paths, and the starters of the drivers
pub record IsPoolLeft {S B L : Type 0} (starter : S → StarterSeen) (see : Sight B L) (paths : List PathPlan) (drivers workers : ℕ) (pool : List (Card B L)) (seeds : List (DeskSeed S B L)) (history : List Event)
    (verdicts : List Verdict) (blobs : List B) (leaves : List L) (starters : List S) : Type 0 where
  pub run : IsRun (starts_of paths) workers drivers history verdicts
  pub ends : AreEnds see (starts_of paths) history (pool ++ seed_cards seeds) 0 (starts_of paths) blobs leaves
  pub back : AreStartersBack starter see (starts_of paths) history leaves 0 seeds starters

-- what was made for the drivers, and given back
pub record AreStartersGiven {S : Type 0} (starter : S → StarterSeen) (drivers : ℕ) (starters : List S) (spawner spawner' : SpawnerSeen) : Type 0 where
  pub mid : SpawnerSeen
  pub made : mid ≡ record spawner { out = spawner.out + drivers }
  pub count : length starters ≡ drivers
  pub out : spawner'.out + length starters ≡ mid.out
  pub back : spawner' ≡ record mid { out = spawner'.out; returned = mid.returned ++ map (λ (s : S). starter_back (starter s)) starters }

-- all paths are done
pub finished : {S B L : Type 0} (starter : S → StarterSeen) (see : Sight B L) (ahead : List ℕ → Starts) (object : List ℕ → Told) (paths : List PathPlan) (drivers : List Driver) (workers : ℕ) (pool : List (Card B L))
    (seeds : List (DeskSeed S B L)) (history : List Event) (verdicts : List Verdict) (blobs : List B) (leaves : List L) (starters : List S) (repo repo' : RepoSeen) (tree tree' : TreeSeen) (spawner spawner' : SpawnerSeen)
    → VerdictsAreTold → KeepsSize → AreTexts paths → AreDrivers drivers paths → AreCards None see object paths pool → AreSeedsFor starter see ahead object paths 0 drivers seeds
    → IsPoolLeft starter see paths (length drivers) workers pool seeds history verdicts blobs leaves starters → AreTalked starter see ahead object paths history leaves 0 drivers starters
    → AreBack see (length (open_paths paths)) blobs leaves repo repo' tree tree' → AreStartersGiven starter (length drivers) starters spawner spawner'
    → ArePathsDone ahead object paths drivers verdicts history repo repo' tree tree' spawner spawner'
finished starter see ahead object paths drivers workers pool seeds history verdicts blobs leaves starters repo repo' tree tree' spawner spawner' told size texts in_use cards made left talked back given =
    let all = pool ++ seed_cards seeds in
    let leaf_of = leaf_at (starts_of paths) leaves in
    let core = left.run.core in
    let under = below drivers paths in_use.of_paths in
    let law : IsTold see object talked.talks paths history all core leaf_of = record { told = told (starts_of paths) workers (length drivers) history core under left.run.legal left.run.complete } in
    let ends : IsEndTold paths history verdicts = record {
      closes = λ n d required at.
          let r = closed_at see (starts_of paths) history all 0 (starts_of paths) blobs leaves left.ends n d required at in
          let same : ◌≡◌ {A = ℕ} (0 + n) n = omega arith in
          let here = subst (IsClosedAt see (starts_of paths) history all) same r in
          (here.0, here.1, here.2, here.3, left.run.each n ∙ (law.told n (start.Desk d required) at ∙ desk_told (starts_of paths) history n d required here.2 here.4));
    } in
    let are : AreMadeFor see object paths all = both_made starter see ahead object paths pool (seed_cards seeds) (owner_made starter see ahead object paths None pool cards) (seeds_made starter see ahead object paths 0 drivers seeds made) in
    paths_done see ahead object talked.talks paths drivers history all verdicts workers blobs leaves repo repo' tree tree' spawner spawner' told size under left.run
    (open_ends see object talked.talks paths history all core leaf_of are texts law (length drivers) under talked.each) left.ends (talked.conversations verdicts ends)
    (starters_got spawner given.mid spawner' (length drivers) (length starters) talked.talks (map (λ (s : _). starter_back (starter s)) starters) given.made given.count given.out given.back talked.back) back
