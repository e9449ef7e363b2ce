-- What a pool is given, and what it leaves.
use Rattle.std.specs.Prelude.{◌≡◌, ◌+◌, ◌<◌, ◌≤◌, ◌^◌, ℕ, suc, true, List, [], ◌∷◌, ◌++◌, map, length, Some, slice_get}
use Rattle.std.specs.Global.{Vec}
use Rattle.delay_table.specs.Table.{IsRising, contains}
use Rattle.convert_plan.specs.declared.card.Card.{Card}
use Rattle.checkout_core.specs.declared.event.Event.{Event}
use Rattle.checkout_core.specs.declared.path.Start.{Start}
use Rattle.checkout_core.specs.declared.path.Start.TheVariants.{Desk}
use Rattle.checkout_core.specs.Desks.{paths_of}
use Rattle.checkout_core.specs.States.{AreBelow}
use Rattle.checkout_core.specs.Notes.{notes}
use Rattle.checkout_core.specs.Transcripts.{Item}
use Rattle.checkout_core.specs.Transcripts as result
use Rattle.edge_kit.specs.Starters.{Had, StarterSeen}
use Rattle.driver_line.specs.Conversations.{Exchange, notes_in}
use Rattle.driver_line.specs.Lines.{Paths}
use Rattle.driver_line.specs.Transcripts.{IsTalk}
use Rattle.driver_line.specs.ToldStarts.{Fills, GoBy}
use Rattle.driver_line.specs.Starters.{IsSameStarter}
use Rattle.driver_desk.specs.Serving.{Holds}
use Rattle.edge_kit.specs.Seen.{LeafSeen}
use Rattle.driver_desk.specs.Works.{WorkSeen, AreRead, FitAll, asked_in, cards_in}
use Rattle.checkout_book.specs.Reserving.{ArePool, AreNew}
use Rattle.checkout_book.specs.Sights.{Sight, seen}
use Rattle.writer_pool.specs.declared.pooled.DeskSeed.{DeskSeed}
use Rattle.writer_pool.specs.Sealing.{EndsAt, leaf_at}
use Rattle.writer_pool.specs.Tying.{AreTiedAt}

-- The talk of a driver with these notes: what its starter keeps grew by a talk over the paths `asked`, which goes by
-- the starts that it tells. What its sessions sent and took, told or not, is one list of items for both. As many of
-- its links are out as before. It is the same starter. The results are a whole talk, case by case. The leaf of each
-- card that its desk closed holds what the driver gave for the leaf's path, if it holds anything.
pub record HasTalked (d : ℕ) (paths : Paths) (asked : List ℕ) (old new : StarterSeen) (noted : List Event)
    (ends : ℕ → LeafSeen → Type 0) : Type 0 where
  pub items : List Had
  pub full : List Had
  pub exchanges : List Exchange
  pub results : List Item
  pub kept : new.had ≡ old.had ++ items
  pub fills : Fills items full
  pub starts : GoBy old.ahead full new.ahead
  pub links : new.out ≡ old.out
  pub stays : IsSameStarter exchanges old new
  pub talk : IsTalk d paths asked full exchanges
  pub whole : result.IsTalk asked results
  pub same : result.notes_of d results ≡ notes_in d exchanges
  pub noted_is : noted ≡ notes_in d exchanges
  pub answers : (p : ℕ) (leaf : LeafSeen) → ends p leaf → Holds exchanges p leaf

module _ {S B L : Type 0} (starter : S → StarterSeen) where
  -- The seed of the driver d. It has the cards of the driver's paths, in path order, and their texts rise. Each of
  -- these paths starts at this desk.
  pub record IsSeed (starts : List Start) (d : ℕ) (seed : DeskSeed S B L) : Type 0 where
    pub paths : map (λ c. c.path) seed.cards.items ≡ paths_of d starts
    pub desk : (p : ℕ) → contains p (paths_of d starts) ≡ true → slice_get starts p ≡ Some (Desk d seed.required)
    pub texts : IsRising (map (λ c. c.text) seed.cards.items)
    pub few : length (starter seed.starter).had + length seed.cards.items < 2 ^ 32

  -- the seeds of the drivers from d on
  abbrev pub AreSeeds : List Start → ℕ → List (DeskSeed S B L) → Type 0
  AreSeeds starts d [] = Unit {0}
  AreSeeds starts d (x ∷ xs) = IsSeed starts d x × AreSeeds starts (suc d) xs

-- all cards: those of the pool, and those of the desks
abbrev pub seed_cards : {S B L : Type 0} → List (DeskSeed S B L) → List (Card B L)
seed_cards [] = []
seed_cards (x ∷ xs) = x.cards.items ++ seed_cards xs

module _ {S B L : Type 0} (starter : S → StarterSeen) (see : Sight B L) where
  -- what a pool may be given
  pub record CanBegin (starts : List Start) (workers : ℕ) (pool : List (Card B L)) (seeds : List (DeskSeed S B L))
      : Type 0 where
    pub few_paths : length starts < 2 ^ 32
    pub below : AreBelow (length seeds) starts
    pub some : 1 ≤ workers
    pub few_workers : workers ≤ 16
    pub few_desks : length seeds ≤ 16
    pub pool_is : ArePool starts pool
    pub seeds_are : AreSeeds starter starts 0 seeds
    pub new : AreNew see (pool ++ seed_cards seeds)

  -- The starter of the driver d is back with its sessions. They are a talk with the driver's notes in the history, over
  -- the paths whose content was prepared. The leaf of each card that its desk closed holds what the driver gave for its
  -- path, if anything. Each path was closed as what its object gave says.
  pub record IsStarterBack (starts : List Start) (history : List Event) (leaves : List L) (d : ℕ)
      (seed : DeskSeed S B L) (back : S) : Type 0 where
    pub works : List WorkSeen
    pub cards : map (λ c. seen see c) seed.cards.items ≡ cards_in works
    pub read : AreRead works
    pub talked : (paths : Paths) → FitAll paths works
        → HasTalked d paths (asked_in works) (starter seed.starter) (starter back) (notes starts d history)
        (EndsAt see starts history (leaf_at starts leaves) d)
    pub tied : AreTiedAt history works

  -- the starters of the drivers from d on, each with its seed
  abbrev pub AreStartersBack : List Start → List Event → List L → ℕ → List (DeskSeed S B L) → List S → Type 0
  AreStartersBack starts history leaves d [] [] = Unit {0}
  AreStartersBack starts history leaves d (x ∷ xs) (s ∷ ss) = IsStarterBack starts history leaves d x s
      × AreStartersBack starts history leaves (suc d) xs ss
  AreStartersBack starts history leaves d [] (s ∷ ss) = ⊥
  AreStartersBack starts history leaves d (x ∷ xs) [] = ⊥

-- the talks of the drivers from d on are their notes in the history
abbrev pub AreTalks : List Start → List Event → ℕ → List (Vec Event) → Type 0
AreTalks starts history d [] = Unit {0}
AreTalks starts history d (v ∷ vs) = (v.items ≡ notes starts d history) × AreTalks starts history (suc d) vs
