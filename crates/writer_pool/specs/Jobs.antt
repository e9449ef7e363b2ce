-- The jobs of a pool's actors: what each begins with, and what it leaves.
use Rattle.std.specs.Prelude.{◌≡◌, ◌<◌, ◌≤◌, ◌+◌, ◌^◌, ℕ, zero, suc, List, [], ◌∷◌, ◌++◌, length, Option, Some, None}
use Rattle.atomic_table.specs.Seated.{TableId}
use Rattle.turn_lock.specs.Seat.{SeatView, mine_of}
use Rattle.edge_kit.specs.Starters.{StarterSeen}
use Rattle.convert_plan.specs.declared.card.Card.{Card}
use Rattle.checkout_core.specs.declared.path.Start.{Start}
use Rattle.checkout_core.specs.Notes.{noted}
use Rattle.checkout_book.specs.declared.plan.BookPlan.{BookPlan}
use Rattle.checkout_book.specs.declared.plan.HistoryEntry.{HistoryEntry}
use Rattle.checkout_book.specs.Sights.{Sight}
use Rattle.checkout_book.specs.Shelves.{cards_of}
use Rattle.checkout_book.specs.Reserving.{AreNew, AreDealt, HasNothing}
use Rattle.driver_line.specs.Lines.{Paths}
use Rattle.driver_desk.specs.declared.desk.Served.{Served}
use Rattle.driver_desk.specs.Desks.{DeskView, IsDealt}
use Rattle.driver_desk.specs.Works.{WorkSeen, AreRead, FitAll, asked_in, cards_in}
use Rattle.writer_pool.specs.declared.pooled.DeskSeed.{DeskSeed}
use Rattle.writer_pool.specs.declared.jobs.DeskJob.{DeskJob}
use Rattle.writer_pool.specs.declared.jobs.JobEnd.{JobEnd}
use Rattle.writer_pool.specs.Dealing.{JobSeen, desk_of, head_of}
use Rattle.writer_pool.specs.Ends.{IsBack}
use Rattle.writer_pool.specs.OnBook.{standing_at}
use Rattle.writer_pool.specs.Pools.{HasTalked, seed_cards}
use Rattle.writer_pool.specs.Sealing.{EndsIn}
use Rattle.writer_pool.specs.Tying.{AreTiedIn}
use Rattle.card_worker.specs.Working.{own_events}

-- what an actor leaves
abbrev pub EndSeen : Type 0 → Type 0 → Type 0 → Type 0
EndSeen S B L = JobEnd (SeatView HistoryEntry (BookPlan B L)) (Served S)

module _ {B L : Type 0} (see : Sight B L) where
  -- the actor n is a worker, or the desk is that of the driver n - workers, with the cards that the book dealt it
  abbrev pub FitsActor : BookPlan B L → ℕ → Option (DeskJob DeskView) → Type 0
  FitsActor d n None = n < d.workers
  FitsActor d n (Some x) = (d.workers ≤ n) × (length x.desk.starter.had + length x.desk.cards < 2 ^ 32)
      × IsDealt (standing_at see (Some d) n x.required) x.desk

  -- the job of the actor n, which has done nothing yet, of a book with new cards
  pub record IsJob (lock : TableId) (d : BookPlan B L) (n made : ℕ) (j : JobSeen B L) : Type 0 where
    pub nothing : HasNothing lock d n made j.pass
    pub fresh : mine_of j.pass ≡ []
    pub new : AreNew see (cards_of d)
    pub dealt : AreDealt d.starts.items 0 d.desks.items
    pub actor : FitsActor d n j.desk

  abbrev pub AreJobs : TableId → BookPlan B L → ℕ → ℕ → List (JobSeen B L) → Type 0
  AreJobs lock d k made [] = Unit {0}
  AreJobs lock d k made (j ∷ js) = IsJob lock d k made j × AreJobs lock d (suc k) 0 js

module _ {S : Type 0} (starter : S → StarterSeen) where
  -- What is left of a desk that has served. Its talk has just the notes of the actor's own list. The sessions of its
  -- starter are a talk over the paths whose content was prepared, with these notes, and with what the leaf of each card
  -- holds that the desk closed. Each path ended as what its object gave says.
  pub record HasServed (desk : DeskView) (left : Served S) (mine : List HistoryEntry) : Type 0 where
    pub talk : left.talk.items ≡ noted (own_events mine)
    pub works : List WorkSeen
    pub cards : desk.cards ≡ cards_in works
    pub read : AreRead works
    pub talked : (paths : Paths) → FitAll paths works
        → HasTalked desk.driver paths (asked_in works) desk.starter (starter left.starter) (noted (own_events mine))
        (EndsIn mine)
    pub tied : AreTiedIn (own_events mine) works

  -- a worker leaves no desk, and a desk what is left of it
  abbrev pub LeavesDesk : Option (DeskJob DeskView) → Option (Served S) → List HistoryEntry → Type 0
  LeavesDesk None None mine = Unit {0}
  LeavesDesk (Some x) (Some left) mine = HasServed x.desk left mine
  LeavesDesk None (Some left) mine = ⊥
  LeavesDesk (Some x) None mine = ⊥

module _ {S B L : Type 0} (starter : S → StarterSeen) (see : Sight B L) where
  -- the actor n is through with its job
  pub record IsThroughJob (lock : TableId) (d : BookPlan B L) (n made : ℕ) (j : JobSeen B L) (t : EndSeen S B L)
      : Type 0 where
    pub back : IsBack see lock d n made t.pass
    pub desk_is : LeavesDesk starter j.desk t.served (mine_of t.pass)

  abbrev pub AreThroughJobs : TableId → BookPlan B L → ℕ → ℕ → List (JobSeen B L) → List (EndSeen S B L) → Type 0
  AreThroughJobs lock d k made [] [] = Unit {0}
  AreThroughJobs lock d k made (j ∷ js) (t ∷ ts) =
      IsThroughJob lock d k made j t × AreThroughJobs lock d (suc k) 0 js ts
  AreThroughJobs lock d k made [] (t ∷ ts) = ⊥
  AreThroughJobs lock d k made (j ∷ js) [] = ⊥

  -- the jobs of the desks from driver q on, each made of its seed
  abbrev pub AreSeedJobs : ℕ → ℕ → List (DeskSeed S B L) → List (JobSeen B L) → Type 0
  AreSeedJobs workers q [] [] = Unit {0}
  AreSeedJobs workers q (x ∷ xs) (j ∷ js) = (j.desk ≡ Some (record {
    required = x.required;
    desk = desk_of starter see workers q (head_of x) x.cards.items;
  })) × AreSeedJobs workers (suc q) xs js
  AreSeedJobs workers q [] (j ∷ js) = ⊥
  AreSeedJobs workers q (x ∷ xs) [] = ⊥

  -- the jobs of so many workers, and then those of the desks
  abbrev pub AreActors : ℕ → ℕ → List (DeskSeed S B L) → List (JobSeen B L) → Type 0
  AreActors zero workers xs js = AreSeedJobs workers 0 xs js
  AreActors (suc n) workers xs (j ∷ js) = (j.desk ≡ None) × AreActors n workers xs js
  AreActors (suc n) workers xs [] = ⊥

  -- A pool as it begins: the plan of its book is that of the starts and of the cards, and there is a job for each
  -- worker and for each desk.
  pub record IsBegun (starts : List Start) (workers : ℕ) (pool : List (Card B L)) (seeds : List (DeskSeed S B L))
      (lock : TableId) (jobs : List (JobSeen B L)) : Type 0 where
    pub plan : BookPlan B L
    pub starts_are : plan.starts.items ≡ starts
    pub workers_are : plan.workers ≡ workers
    pub drivers_are : plan.drivers ≡ length seeds
    pub pool_is : plan.pool.items ≡ pool
    pub cards_are : cards_of plan ≡ pool ++ seed_cards seeds
    pub dealt : AreDealt starts 0 plan.desks.items
    pub count : length jobs ≡ workers + length seeds
    pub ready : AreJobs see lock plan 0 (length jobs) jobs
    pub actors : AreActors workers workers seeds jobs

-- the passes that came back
abbrev pub passes_in : {P D : Type 0} → List (JobEnd P D) → List P
passes_in [] = []
passes_in (t ∷ ts) = t.pass ∷ passes_in ts

abbrev pub with_served : {D : Type 0} → Option D → List D → List D
with_served None ds = ds
with_served (Some d) ds = d ∷ ds

-- what is left of the desks
abbrev pub served_in : {P D : Type 0} → List (JobEnd P D) → List D
served_in [] = []
served_in (t ∷ ts) = with_served t.served (served_in ts)
