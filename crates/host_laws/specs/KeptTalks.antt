-- A talk with a driver that is a command, as a starter tells and keeps it.
use Rattle.std.specs.Prelude.{◌≡◌, ℕ, true, List, drop}
use Rattle.edge_kit.specs.Links.{RunTold}
use Rattle.edge_kit.specs.Starters.{Had, Starts}
use Rattle.delay_table.specs.Table.{contains, AreApart}
use Rattle.checkout_core.specs.declared.path.Heard.TheVariants as heard
use Rattle.checkout_core.specs.Fates.{Known}
use Rattle.driver_line.specs.Conversations.{Exchange}
use Rattle.driver_line.specs.Lines.{Paths}
use Rattle.driver_line.specs.ToldStarts.{Fills, GoBy}
use Rattle.driver_line.specs.Transcripts.{IsTalk}
use Rattle.driver_line.specs.SameHeard.{NoneWanting, fate_in, content_of}
use Rattle.one_shot.specs.Onces.{RunsListed}
use Rattle.one_shot.specs.Replies.{AreServed}
use Rattle.one_shot.specs.Starters.{single_starts}
use Rattle.host_laws.specs.HostTalks.{ArePaths}
use Rattle.host_laws.specs.OnceTalks.{IsHeardOf, run_of, once_request}

-- Its starts are told to run this command by these runs, and its sessions are those that a starter keeps of such a
-- driver.
pub record IsKeptTalk (runs : List RunTold) (command : List ℕ) (d : ℕ) (paths : Paths) (asked : List ℕ)
    (items : List Had) (exchanges : List Exchange) : Type 0 where
  pub names : ArePaths paths asked
  pub full : List Had
  pub fills : Fills items full
  pub left : Starts
  pub starts : GoBy (single_starts true (RunsListed runs) command) full left
  pub talk : IsTalk d paths asked full exchanges
  pub served : AreServed items

-- Each asked path of such a talk hears what its run gave, if memory never ran out.
abbrev pub KeptHeard : Type 0
KeptHeard = (runs : List RunTold) (command : List ℕ) (d : ℕ) (paths : Paths) (asked : List ℕ) (items : List Had)
    (exchanges : List Exchange) → IsKeptTalk runs command d paths asked items exchanges → NoneWanting exchanges
    → (p : ℕ) → contains p asked ≡ true
    → IsHeardOf (run_of (RunsListed runs) (drop 1 command) paths p) (once_request paths p) (fate_in d p exchanges)
    (content_of p exchanges)

-- Memory never ran out in such a talk over different paths, if no path heard that it did.
abbrev pub KeptHadMemory : Type 0
KeptHadMemory = (runs : List RunTold) (command : List ℕ) (d : ℕ) (paths : Paths) (asked : List ℕ) (items : List Had)
    (exchanges : List Exchange) → IsKeptTalk runs command d paths asked items exchanges → AreApart asked
    → ((p : ℕ) → contains p asked ≡ true → fate_in d p exchanges ≡ Known heard.OutOfMemory → ⊥)
    → NoneWanting exchanges
