-- The verdict of a path that is closed.
use Rattle.std.specs.Prelude.{◌==◌, ◌&&◌, ℕ, Bool, false, not, cond, Option, Some, None}
use Rattle.checkout_core.specs.declared.verdict.FilterCause.{FilterCause}
use Rattle.checkout_core.specs.declared.verdict.FilterCause.TheVariants as cause
use Rattle.checkout_core.specs.declared.verdict.FailCause.TheVariants as fail
use Rattle.checkout_core.specs.declared.verdict.Verdict.{Verdict}
use Rattle.checkout_core.specs.declared.verdict.Verdict.TheVariants as verdict
use Rattle.checkout_core.specs.declared.verdict.Own.{Own}
use Rattle.checkout_core.specs.declared.verdict.Own.TheVariants as own
use Rattle.checkout_core.specs.declared.path.Heard.{Heard}
use Rattle.checkout_core.specs.declared.path.Heard.TheVariants as heard
use Rattle.checkout_core.specs.declared.path.PathState.{PathState}
use Rattle.checkout_core.specs.declared.path.PathState.TheVariants as path
use Rattle.checkout_core.specs.declared.path.PathState.TheVariants.{Waiting, Held, Unasked, Closed}
use Rattle.checkout_core.specs.declared.driver.DriverState.{DriverState}
use Rattle.checkout_core.specs.declared.driver.DriverState.TheVariants as driver

-- the cause of a path that its driver will never be asked for
abbrev pub unasked_cause : DriverState → Option FilterCause
unasked_cause driver.Aborted = Some cause.Abort
unasked_cause (driver.On s) = cond s.caps.smudge None (Some cause.NoSmudge)
unasked_cause _ = None

-- the cause of a path that its driver refused
abbrev pub refused_cause : DriverState → PathState → Option FilterCause
refused_cause x (path.Heard (heard.Refused c)) = Some c
refused_cause x Unasked = unasked_cause x
refused_cause x _ = None

-- a path in hand, by the cause with which it was handed back
abbrev pub raw_verdict : Option FilterCause → Bool → Verdict
raw_verdict None u = verdict.Written u
raw_verdict (Some c) u = verdict.Unfiltered c u

abbrev pub refused_verdict : Bool → FilterCause → Bool → Verdict
refused_verdict required c u = cond required (verdict.Failed (fail.Filter c)) (verdict.Unfiltered c u)

-- by what the driver's answers say of the path
abbrev pub heard_verdict : Bool → Heard → Bool → Verdict
heard_verdict required heard.Got u = verdict.Written u
heard_verdict required (heard.Refused c) u = refused_verdict required c u
heard_verdict required heard.Lost u = verdict.Failed fail.Missing
heard_verdict required heard.OutOfMemory u = verdict.NoMemory

-- a path in hand: its object may fail to be read only if it wasn't read before
abbrev pub held_close : Option FilterCause → Own → Option Verdict
held_close raw (own.Fine u) = Some (raw_verdict raw u)
held_close raw own.WriteFailed = Some (verdict.Failed fail.WriteFailed)
held_close raw own.NoMemory = Some verdict.NoMemory
held_close None (own.Object k) = Some (verdict.Failed (fail.Object k))
held_close None own.ReadFailed = Some (verdict.Failed fail.ReadFailed)
held_close (Some c) _ = None

abbrev pub write_failed : Heard → Verdict
write_failed heard.OutOfMemory = verdict.NoMemory
write_failed _ = verdict.Failed fail.WriteFailed

-- a path of which the driver's answers say something
abbrev pub heard_close : Bool → Heard → Own → Option Verdict
heard_close required h (own.Fine u) = Some (heard_verdict required h u)
heard_close required h own.WriteFailed = Some (write_failed h)
heard_close required h own.NoMemory = Some verdict.NoMemory
heard_close required h _ = None

-- whether the open session was opened for this path
abbrev pub is_first : DriverState → ℕ → Bool
is_first (driver.On s) p = p == s.first
is_first _ p = false

abbrev pub lacks_smudge : DriverState → Bool
lacks_smudge (driver.On s) = not s.caps.smudge
lacks_smudge _ = false

abbrev pub unasked_fine : Bool → Option FilterCause → Own → Option Verdict
unasked_fine required None o = None
unasked_fine required (Some c) (own.Fine u) = Some (refused_verdict required c u)
unasked_fine required (Some c) own.WriteFailed = Some (verdict.Failed fail.WriteFailed)
unasked_fine required (Some c) _ = None

-- a path that wasn't asked for: its own outcome decides, or that its driver refused it
abbrev pub unasked_close : Bool → DriverState → ℕ → Own → Option Verdict
unasked_close required x p (own.Object k) = cond (is_first x p) None (Some (verdict.Failed (fail.Object k)))
unasked_close required x p own.ReadFailed = cond (is_first x p) None (Some (verdict.Failed fail.ReadFailed))
unasked_close required x p own.NoMemory = cond (is_first x p && not (lacks_smudge x)) None (Some verdict.NoMemory)
unasked_close required x p (own.Fine u) = unasked_fine required (unasked_cause x) (own.Fine u)
unasked_close required x p own.WriteFailed = unasked_fine required (unasked_cause x) own.WriteFailed
