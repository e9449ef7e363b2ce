-- Two talks with equal sessions: what they have in common, also where a link failed.
use Rattle.std.specs.Prelude.{◌≡◌, ℕ, true, List}
use Rattle.edge_kit.specs.Starters.{Had}
use Rattle.delay_table.specs.Table.{contains, AreApart}
use Rattle.checkout_core.specs.declared.path.Heard.TheVariants as heard
use Rattle.checkout_core.specs.Fates.{Known}
use Rattle.driver_line.specs.Conversations.{Exchange}
use Rattle.driver_line.specs.Lines.{Paths}
use Rattle.driver_line.specs.SameHeard.{HaveTexts, HaveSamePaths, NoneWanting, fate_in, content_of}
use Rattle.driver_line.specs.ToldStarts.{Fills}
use Rattle.driver_line.specs.Transcripts.{IsTalk}

-- A talk over these paths with these failed starts and sessions. A session has the bytes that it sent and took, its two
-- counts and whether it was shut. Memory ran out for no path.
pub record IsTalkWith (d : ℕ) (paths : Paths) (asked : List ℕ) (full : List Had)
    (exchanges : List Exchange) : Type 0 where
  pub items : List Had
  pub fills : Fills items full
  pub talk : IsTalk d paths asked full exchanges
  pub memory : (p : ℕ) → contains p asked ≡ true
      → fate_in d p exchanges ≡ Known heard.OutOfMemory → ⊥

-- Two such talks tell the same of each path, and its driver gave the same content for it, whatever links failed. If
-- besides memory ran out in none of their exchanges, they have the same.
abbrev pub EqualSessions : Type 0
EqualSessions = (d : ℕ) (a b : Paths) (asked : List ℕ) (full : List Had) (es fs : List Exchange)
    → AreApart asked → HaveTexts a asked → HaveSamePaths a b asked
    → IsTalkWith d a asked full es → IsTalkWith d b asked full fs
    → ((p : ℕ) → contains p asked ≡ true
    → (fate_in d p es ≡ fate_in d p fs) × (content_of p es ≡ content_of p fs))
    × (NoneWanting es → NoneWanting fs → es ≡ fs)
