-- In the form of a text, the report is said line by line, and a plan as its lines.
use Rattle.std.proofs.Common.{◌≡◌, ◌⊎◌, inl, inr, ℕ, List, Result, Ok, Err, refl, ap, ◌∙◌, subst}
use Rattle.edge_kit.specs.Seen.{SinkSeen, IsWriteCut}
use Rattle.checkout_sources.specs.declared.planned.Planned.{Planned}
use Rattle.checkout_sources.specs.declared.stop.Refusal.{Refusal}
use Rattle.checkout_sources.specs.declared.stop.Stop.{Stop}
use Rattle.checkout_sources.specs.declared.stop.Stop.TheVariants as stop
use Rattle.checkout_sources.specs.RefusalText.{refusal_words, refusal_line}
use Rattle.exit_status.specs.declared.status.ExitStatus.{ExitStatus}
use Rattle.exit_status.specs.declared.status.ExitStatus.TheVariants as status
use Rattle.exit_status.specs.Output.{IsLineCut, with_text}
use Rattle.exit_status.specs.Said.{Says, Unsaid}
use Rattle.plan_report.specs.Rows.{plan_rows, TextIsPlan}
use Rattle.plan_report.specs.Lines.{plan_lines}
use Rattle.reports.specs.declared.form.ReportForm.TheVariants.{Text}
use Rattle.reports.specs.Forms as forms
use Rattle.reports.specs.Forms.{refusal_row}
use Rattle.reports.specs.Written.{joined, IsRowCut}
use Rattle.run_report.specs.Rows.{report, run_rows, FirstRowsAreLines}
use Rattle.checkout_engine.specs.declared.end.Checkout.{Checkout}
use Rattle.checkout_engine.specs.declared.end.Checkout.TheVariants as ends
use Rattle.checkout_engine.specs.Report.{status_of}
use Rattle.checkout_engine.specs.Said.{SaysRefusal, SaysStop, SaysPlan, SaysEnd}
use Rattle.checkout_engine.specs.Said.{SaysRefusalIn, SaysStopIn, SaysPlanIn, SaysEndIn}

-- what is said of a text is said of an equal one
says_on : (Part Part' : List ℕ → SinkSeen → SinkSeen → Type 0) (text text' : List ℕ) (s : ExitStatus)
    (old new : SinkSeen) (end : ExitStatus) → text ≡ text' → (Part text old new → Part' text' old new)
    → Says Part text s old new end → Says Part' text' s old new end
says_on Part Part' text text' s old new end is part (inl whole) =
    inl (whole.0, whole.1 ∙ ap (λ (t : List ℕ). with_text t old) is)
says_on Part Part' text text' s old new end is part (inr (inl cut)) =
    inr (inl (cut.0, subst (λ (t : List ℕ). IsWriteCut t old new) is cut.1))
says_on Part Part' text text' s old new end is part (inr (inr some)) = inr (inr (some.0, part some.1))

row_is_line : (r : Refusal) → refusal_row Text (refusal_words r) ≡ refusal_line r
unfolding forms.refusal_row
row_is_line r = refl

refusal_in : (r : Refusal) (old new : SinkSeen) (s : ExitStatus) → SaysRefusalIn Text r old new s → SaysRefusal r old new s
refusal_in r old new s says =
    says_on Unsaid Unsaid (refusal_row Text (refusal_words r)) (refusal_line r) status.Refused old new s (row_is_line r)
    (λ same. same) says

stop_in : (t : Stop) (old new : SinkSeen) (s : ExitStatus) → SaysStopIn Text t old new s → SaysStop t old new s
stop_in (stop.Refused r) old new s says = refusal_in r old new s says
stop_in stop.ReadFault old new s says = says
stop_in stop.NoMemory old new s says = says

pub plan_in : TextIsPlan → (planned : Result Planned Stop) (old new : SinkSeen) (s : ExitStatus)
    → SaysPlanIn Text planned old new s → SaysPlan planned old new s
plan_in law (Ok planned) old new s says =
    says_on Unsaid Unsaid (joined (plan_rows Text planned.plan)) (plan_lines planned.plan) status.Done old new s
    (law.rows planned.plan) (λ same. same) says
plan_in law (Err t) old new s says = stop_in t old new s says

pub end_in : FirstRowsAreLines → (e : Checkout) (old new : SinkSeen) (s : ExitStatus)
    → SaysEndIn Text e old new s → SaysEnd e old new s
end_in law (ends.Done run) old new s says =
    let paths = run.plan.paths in
    let verdicts = run.verdicts.items in
    says_on (λ text. IsRowCut (run_rows Text paths verdicts)) IsLineCut (joined (run_rows Text paths verdicts))
    (report paths verdicts) (status_of verdicts) old new s (law.text paths verdicts) (law.lines paths verdicts old new) says
end_in law ends.NotEmpty old new s says = says
end_in law (ends.Refused r) old new s says = refusal_in r old new s says
end_in law ends.ReadFault old new s says = says
end_in law ends.NoMemory old new s says = says
