-- What the counts of a session tell of how it broke.
use Rattle.std.specs.Prelude.{◌≡◌, ◌⊎◌, Some, List}
use Rattle.filter_words.specs.declared.reply.BreakCause.{BreakCause}
use Rattle.filter_words.specs.declared.reply.BreakCause.TheVariants as cause
use Rattle.filter_words.specs.declared.reply.Caps.{Caps}
use Rattle.edge_kit.specs.Starters.{SessionHad}
use Rattle.filter_proto.specs.Exchanges.{Ends}
use Rattle.driver_line.specs.Conversations.{Exchange}
use Rattle.driver_line.specs.Lines.{Paths}
use Rattle.driver_line.specs.Transcripts.{IsSession, HasBreak, break_in}

-- the session broke with this cause, in its opening or in an exchange
abbrev pub BreaksWith : BreakCause → Ends Caps → List Exchange → Type 0
BreaksWith why end es = (break_in end ≡ Some why) ⊎ HasBreak why es

-- Of two sessions with equal counts that were both shut, or neither, one broke by a fault of the link if the other did,
-- and by an end of input if the other did.
abbrev pub SameCauses : Type 0
SameCauses = (a b : Paths) (x y : Ends Caps) (es fs : List Exchange) (s t : SessionHad) → IsSession a x es s
    → IsSession b y fs t → s.faults ≡ t.faults → s.ends ≡ t.ends → s.shut ≡ t.shut
    → (BreaksWith cause.LinkFault x es → BreaksWith cause.LinkFault y fs)
    × (BreaksWith cause.Ended x es → BreaksWith cause.Ended y fs)
