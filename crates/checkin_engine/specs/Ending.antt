-- What the parts of a check-in promise each other about its end.
use Rattle.std.specs.Prelude.{◌≡◌, ℕ, List}
use Rattle.edge_kit.specs.Seen.{SinkSeen, IsWriteCut}
use Rattle.checkout_sources.specs.declared.stop.Stop.{Stop}
use Rattle.checkout_sources.specs.declared.stop.Stop.TheVariants as stop
use Rattle.checkout_sources.specs.RefusalText.{refusal_line}
use Rattle.checkin_paths.specs.declared.fate.Fate.{Fate}
use Rattle.checkin_paths.specs.declared.path.CheckinPath.{CheckinPath}
use Rattle.exit_status.specs.declared.status.ExitStatus.{ExitStatus}
use Rattle.exit_status.specs.declared.status.ExitStatus.TheVariants as status
use Rattle.checkin_engine.specs.Report.{report_of}
use Rattle.checkin_engine.specs.Ends.{with_text, status_of}

-- a line was to be written: it was, or the sink failed, or memory ran out and nothing was written
abbrev pub WritesLine : List ℕ → SinkSeen → SinkSeen → ExitStatus → Type 0
WritesLine line old new status.Refused = new ≡ with_text line old
WritesLine line old new status.OutputNotWritten = IsWriteCut line old new
WritesLine line old new status.OutOfMemory = new ≡ old
WritesLine line old new s = ⊥

-- how a check-in ends for which nothing could be read
abbrev pub EndsStopped : Stop → SinkSeen → SinkSeen → ExitStatus → Type 0
EndsStopped (stop.Refused r) old new s = WritesLine (refusal_line r) old new s
EndsStopped stop.ReadFault old new s = (s ≡ status.ReadFault) × (new ≡ old)
EndsStopped stop.NoMemory old new s = (s ≡ status.OutOfMemory) × (new ≡ old)

-- the report was to be written, in the same way
abbrev pub WritesReport : List CheckinPath → List Fate → SinkSeen → SinkSeen → ExitStatus → Type 0
WritesReport ps fates old new status.Done =
    (status_of fates ≡ status.Done) × (new ≡ with_text (report_of ps fates) old)
WritesReport ps fates old new status.DoneWithFailures =
    (status_of fates ≡ status.DoneWithFailures) × (new ≡ with_text (report_of ps fates) old)
WritesReport ps fates old new status.OutputNotWritten = IsWriteCut (report_of ps fates) old new
WritesReport ps fates old new status.OutOfMemory = new ≡ old
WritesReport ps fates old new s = ⊥
