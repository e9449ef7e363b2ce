-- The command that the words ask for.
use Rattle.std.specs.Prelude.{◌≡◌, ℕ, Bool, ◌^◌, ◌-◌, if◌then◌else◌, List, Option, Some, None, Result, Ok, Err, codes}
use Rattle.std.specs.Prelude.{option_map, option_and_then}
use Rattle.std.specs.Str.{bytes_eq}
use Rattle.clap.specs.Words.{Row, Text, first_of}
use Rattle.byte_path.specs.Decimal.{decimal_within}
use Rattle.reports.specs.declared.form.ReportForm.{ReportForm}
use Rattle.siuwbren_words.specs.Parser.{GivesText, command_in, siuwbren_app}
use Rattle.siuwbren_words.specs.Values.{is_set, workers_of, plan_form, report_form, progress_of}
use Rattle.siuwbren_words.specs.declared.command.CheckoutWords.{CheckoutWords}
use Rattle.siuwbren_words.specs.declared.command.CheckinWords.{CheckinWords}
use Rattle.siuwbren_words.specs.declared.command.PlanWords.{PlanWords}
use Rattle.siuwbren_words.specs.declared.command.ProgressChoice.{ProgressChoice}
use Rattle.siuwbren_words.specs.declared.command.Subcommand.{Subcommand}
use Rattle.siuwbren_words.specs.declared.command.Subcommand.TheVariants as command
use Rattle.siuwbren_words.specs.declared.fault.UsageFault.{UsageFault}

pub record AskedCheckout : Type 0 where
  pub git_dir : Option Text
  pub commit : Option Text
  pub workers : Option ℕ
  pub form : ReportForm
  pub progress : ProgressChoice
  pub quiet : Bool
  pub journal : Option Text
  pub update_index : Bool
  pub tree : Text

pub record AskedCheckin : Type 0 where
  pub git_dir : Option Text
  pub allow_empty : Bool
  pub update_index : Bool
  pub tree : Option Text

pub record AskedPlan : Type 0 where
  pub git_dir : Option Text
  pub commit : Option Text
  pub form : ReportForm

-- a command by its texts
pub data Asked : Type 0 where
  checkout : AskedCheckout → Asked
  checkin : AskedCheckin → Asked
  plan : AskedPlan → Asked
  rehearse : ℕ → ℕ → Asked
  audit : Text → Asked

abbrev pub shown_checkout : CheckoutWords → AskedCheckout
shown_checkout c = record {
  git_dir = option_map (λ t. t.now) c.git_dir;
  commit = option_map (λ t. t.now) c.commit;
  workers = c.workers;
  form = c.form;
  progress = c.progress;
  quiet = c.quiet;
  journal = option_map (λ t. t.now) c.journal;
  update_index = c.update_index;
  tree = c.tree.now;
}

abbrev pub shown_checkin : CheckinWords → AskedCheckin
shown_checkin c = record {
  git_dir = option_map (λ t. t.now) c.git_dir;
  allow_empty = c.allow_empty;
  update_index = c.update_index;
  tree = option_map (λ t. t.now) c.tree;
}

abbrev pub shown_plan : PlanWords → AskedPlan
shown_plan p = record {
  git_dir = option_map (λ t. t.now) p.git_dir;
  commit = option_map (λ t. t.now) p.commit;
  form = p.form;
}

abbrev pub shown : Subcommand → Asked
shown (command.Checkout c) = checkout (shown_checkout c)
shown (command.Checkin c) = checkin (shown_checkin c)
shown (command.Plan p) = plan (shown_plan p)
shown (command.Rehearse seed paths) = rehearse seed paths
shown (command.Audit file) = audit file.now

-- the value of an option or of a place, and whether a flag is given
abbrev pub has_flag : List Row → Text → Bool
has_flag rows name = is_set (first_of name rows)

abbrev pub checkout_by : List Row → Option AskedCheckout
checkout_by rows =
    let quiet = has_flag rows (codes "quiet") in
    option_and_then (λ workers.
    option_and_then (λ form.
    option_and_then (λ progress.
    option_map (λ tree. record {
      git_dir = first_of (codes "git-dir") rows;
      commit = first_of (codes "commit") rows;
      workers = workers;
      form = form;
      progress = progress;
      quiet = quiet;
      journal = first_of (codes "journal") rows;
      update_index = has_flag rows (codes "update-index");
      tree = tree;
    }) (first_of (codes "tree") rows))
    (progress_of (has_flag rows (codes "progress")) (has_flag rows (codes "no-progress")) quiet))
    (report_form (first_of (codes "report") rows) (has_flag rows (codes "nul"))))
    (workers_of (first_of (codes "workers") rows))

abbrev pub checkin_by : List Row → AskedCheckin
checkin_by rows = record {
  git_dir = first_of (codes "git-dir") rows;
  allow_empty = has_flag rows (codes "allow-empty");
  update_index = has_flag rows (codes "update-index");
  tree = first_of (codes "tree") rows;
}

abbrev pub plan_by : List Row → Option AskedPlan
plan_by rows =
    option_map (λ form. record {
      git_dir = first_of (codes "git-dir") rows;
      commit = first_of (codes "commit") rows;
      form = form;
    })
    (plan_form (first_of (codes "report") rows) (has_flag rows (codes "nul")))

-- SEED, a decimal up to 2^64 - 1, and PATHS, a decimal up to 99,999
abbrev pub rehearse_by : List Row → Option Asked
rehearse_by rows =
    option_and_then (λ seed.
    option_map (λ paths. rehearse seed paths)
    (option_and_then (λ text. decimal_within text 99999) (first_of (codes "paths") rows)))
    (option_and_then (λ text. decimal_within text (2 ^ 64 - 1)) (first_of (codes "seed") rows))

abbrev pub audit_by : List Row → Option Asked
audit_by rows = option_map audit (first_of (codes "file") rows)

abbrev pub asked_by : Text → List Row → Option Asked
asked_by name rows =
    if bytes_eq name (codes "checkout") then option_map checkout (checkout_by rows)
    else if bytes_eq name (codes "checkin") then Some (checkin (checkin_by rows))
    else if bytes_eq name (codes "plan") then option_map plan (plan_by rows)
    else if bytes_eq name (codes "rehearse") then rehearse_by rows
    else if bytes_eq name (codes "audit") then audit_by rows
    else None

-- the command of a subcommand's name and its arguments
abbrev pub asked_in : Option (Text × List Row) → Option Asked
asked_in found = option_and_then (λ found. asked_by found.0 found.1) found

-- the command that the words ask for
abbrev pub asked_of : List Text → Option Asked
asked_of words = asked_in (command_in siuwbren_app words)

-- the command that is asked for, or a text
abbrev pub Gives : Option Asked → Result Subcommand UsageFault → Type 0
Gives asked (Ok command) = asked ≡ Some (shown command)
Gives asked (Err fault) = GivesText asked fault
