-- What the values of options and flags say.
use Rattle.std.specs.Prelude.{ℕ, Bool, true, false, ◌&&◌, ◌^◌, ◌-◌, if◌then◌else◌, nat_le, Option, Some, None, codes}
use Rattle.std.specs.Str.{bytes_eq}
use Rattle.clap.specs.Words.{Text}
use Rattle.byte_path.specs.Decimal.{decimal_within}
use Rattle.reports.specs.declared.form.ReportForm.{ReportForm}
use Rattle.reports.specs.declared.form.ReportForm.TheVariants as form
use Rattle.siuwbren_words.specs.declared.command.ProgressChoice.{ProgressChoice}
use Rattle.siuwbren_words.specs.declared.command.ProgressChoice.TheVariants as progress

-- whether a flag is given
abbrev pub is_set : Option Text → Bool
is_set None = false
is_set (Some text) = bytes_eq text (codes "true")

abbrev pub from_one : Option ℕ → Option (Option ℕ)
from_one None = None
from_one (Some n) = if nat_le 1 n then Some (Some n) else None

-- `--workers N`: a decimal from 1 to 16
abbrev pub workers_of : Option Text → Option (Option ℕ)
workers_of None = Some None
workers_of (Some text) = from_one (decimal_within text 16)

-- lines that end in NUL are a text
abbrev pub text_form : Bool → ReportForm
text_form nul = if nul then form.Nul else form.Text

abbrev pub other_form : Bool → ReportForm → Option ReportForm
other_form nul form = if nul then None else Some form

-- `--report text|json` and `-z`
abbrev pub plan_form : Option Text → Bool → Option ReportForm
plan_form None nul = Some (text_form nul)
plan_form (Some word) nul =
    if bytes_eq word (codes "text") then Some (text_form nul)
    else if bytes_eq word (codes "json") then other_form nul form.Json
    else None

-- `--report text|json|none` and `-z`
abbrev pub report_form : Option Text → Bool → Option ReportForm
report_form None nul = Some (text_form nul)
report_form (Some word) nul =
    if bytes_eq word (codes "none") then other_form nul form.Failures else plan_form (Some word) nul

-- `--progress`, `--no-progress` and `-q`
abbrev pub progress_of : Bool → Bool → Bool → Option ProgressChoice
progress_of shown hidden quiet =
    if shown then (if hidden then None else Some progress.Shown)
    else if hidden then Some progress.Hidden
    else if quiet then Some progress.Hidden
    else Some progress.OnTerminal
