-- The talks of a checkout with its drivers.
use Rattle.std.specs.Prelude.{◌≡◌, ◌<◌, ◌++◌, ℕ, suc, Bool, true, false, List, [], ◌∷◌, map, Option, Some, slice_get}
use Rattle.edge_kit.specs.Told.{Told}
use Rattle.edge_kit.specs.Starters.{Had, Starts, SpawnerSeen}
use Rattle.tree_encoding.specs.declared.prepared.Prepared.{Prepared}
use Rattle.settings_view.specs.declared.view.Driver.{Driver}
use Rattle.delay_table.specs.Table.{contains}
use Rattle.checkout_core.specs.declared.event.Event.{Event}
use Rattle.checkout_core.specs.declared.path.Heard.{Heard}
use Rattle.checkout_core.specs.declared.verdict.Verdict.{Verdict}
use Rattle.checkout_core.specs.declared.verdict.Verdict.TheVariants as verdict
use Rattle.checkout_core.specs.declared.verdict.FailCause.TheVariants as fail
use Rattle.checkout_core.specs.States.{is_at}
use Rattle.checkout_core.specs.Fates.{heard_in}
use Rattle.checkout_core.specs.Notes.{notes}
use Rattle.checkout_core.specs.Transcripts.{Item}
use Rattle.checkout_core.specs.Transcripts as result
use Rattle.driver_line.specs.Conversations.{Exchange, notes_in}
use Rattle.driver_line.specs.Lines.{Paths}
use Rattle.driver_line.specs.Transcripts.{IsTalk}
use Rattle.driver_line.specs.ToldStarts.{Fills, GoBy}
use Rattle.driver_desk.specs.Serving.{HasAnswer}
use Rattle.checkout_plan.specs.declared.path_plan.PathPlan.{PathPlan}
use Rattle.checkout_paths.specs.Prepared.{IsPreparedTo}
use Rattle.checkout_paths.specs.Workers.{starts_of}

-- What was said with one driver: its command, the texts, the objects' names and the prepared bytes of paths, the paths
-- that it was to be asked for, what came of its starts, and the exchanges that this spells.
pub record DriverTalk : Type 0 where
  pub command : List ℕ
  pub paths : Paths
  pub asked : List ℕ
  pub had : List Had
  pub exchanges : List Exchange

-- what the path n heard in the talk with the driver d, if it was one of those that were to be asked
abbrev pub heard_at : ℕ → DriverTalk → ℕ → Option Heard
heard_at d t n = heard_in t.asked (notes_in d t.exchanges) n

-- the driver gave these bytes for the path n
abbrev pub Gave : DriverTalk → ℕ → List ℕ → Type 0
Gave t n bytes = HasAnswer t.exchanges n (Some bytes)

-- What came of the driver's starts goes by the starts that are told, in order. Its sessions and its starts that gave
-- none are a whole talk, case by case. What its sessions sent and took, told or not, is one list of items for both.
pub record IsTalkBy (told : Starts) (d : ℕ) (t : DriverTalk) : Type 0 where
  pub full : List Had
  pub fills : Fills t.had full
  pub left : Starts
  pub starts : GoBy told full left
  pub talk : IsTalk d t.paths t.asked full t.exchanges
  pub results : List Item
  pub whole : result.IsTalk t.asked results
  pub same : result.notes_of d results ≡ notes_in d t.exchanges

-- whether memory ran out for a path with this verdict
abbrev pub is_no_memory : Verdict → Bool
is_no_memory verdict.NoMemory = true
is_no_memory v = false

-- whether its object was read and prepared
abbrev pub was_read : Verdict → Bool
was_read (verdict.Failed fail.ReadFailed) = false
was_read (verdict.Failed (fail.Object kind)) = false
was_read v = true

-- The talk is over just those paths of the driver d whose object was read and prepared, in path order, with their
-- texts, the names of their objects and their prepared bytes. A path that ran out of memory may be among them.
pub record IsOverPaths (object : List ℕ → Told) (ps : List PathPlan) (verdicts : List Verdict) (d : ℕ)
    (t : DriverTalk) : Type 0 where
  pub asked : (n : ℕ) (p : PathPlan) (v : Verdict) → slice_get ps n ≡ Some p → slice_get verdicts n ≡ Some v
      → is_at d p.start ≡ true → is_no_memory v ≡ false → contains n t.asked ≡ was_read v
  pub each : (n : ℕ) → contains n t.asked ≡ true → (p : PathPlan) × (slice_get ps n ≡ Some p)
      × (is_at d p.start ≡ true) × (t.paths.text n ≡ p.path) × (t.paths.name n ≡ p.object)
      × (ready : Prepared) × IsPreparedTo (object p.object) p ready × (t.paths.content n ≡ ready.bytes)
  pub rises : (i j m n : ℕ) → i < j → slice_get t.asked i ≡ Some m → slice_get t.asked j ≡ Some n → m < n

-- The talk with a driver of the plan: by its command, over its paths, and with its notes in the history.
pub record IsDriverTalk (ahead : List ℕ → Starts) (object : List ℕ → Told) (ps : List PathPlan)
    (verdicts : List Verdict) (history : List Event) (d : ℕ) (driver : Driver) (t : DriverTalk) : Type 0 where
  pub command : driver.process ≡ Some t.command
  pub talk : IsTalkBy (ahead t.command) d t
  pub over : IsOverPaths object ps verdicts d t
  pub noted : notes (starts_of ps) d history ≡ notes_in d t.exchanges

module _ (ahead : List ℕ → Starts) (object : List ℕ → Told) (ps : List PathPlan) (verdicts : List Verdict)
    (history : List Event) where
  -- the talks with the drivers from d on, each with its own
  abbrev pub AreDriverTalks : ℕ → List Driver → List DriverTalk → Type 0
  AreDriverTalks d [] [] = Unit {0}
  AreDriverTalks d (x ∷ xs) (t ∷ ts) = IsDriverTalk ahead object ps verdicts history d x t
      × AreDriverTalks (suc d) xs ts
  AreDriverTalks d [] (t ∷ ts) = ⊥
  AreDriverTalks d (x ∷ xs) [] = ⊥

-- a spawner that got a starter back for each talk, with what came of its starts, and is otherwise the same
abbrev pub with_talks : SpawnerSeen → List DriverTalk → SpawnerSeen
with_talks spawner talks = record spawner { returned = spawner.returned ++ map (λ t. (t.command, t.had)) talks }
