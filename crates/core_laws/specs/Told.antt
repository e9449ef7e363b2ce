-- What the notes of a driver tell of the paths that its desk still has, by where the talk is.
use Rattle.std.specs.Prelude.{◌||◌, ℕ, Bool, false}
use Rattle.delay_table.specs.Table.{contains}
use Rattle.checkout_core.specs.declared.verdict.FilterCause.TheVariants as cause
use Rattle.checkout_core.specs.declared.path.Heard.TheVariants as heard
use Rattle.checkout_core.specs.Fates.{Fate, Untold, Known}
use Rattle.checkout_core.specs.Talks.{Talk, Between, Refusing, InRound, Ended}

-- of a path that the driver wasn't asked for: a session without smudge and an abort refuse it
abbrev pub ahead_fate : Talk → Fate
ahead_fate (Between rest) = Untold
ahead_fate (InRound r) = Untold
ahead_fate Refusing = Known (heard.Refused cause.NoSmudge)
ahead_fate Ended = Known (heard.Refused cause.Abort)

-- whether the path is delayed, or was listed and not asked for again
abbrev pub waits : ℕ → Talk → Bool
waits p (InRound r) = contains p r.late || contains p r.turns
waits p (Between rest) = false
waits p Refusing = false
waits p Ended = false
