-- The plan and what it gives back.
use Rattle.std.proofs.Common.{◌≡◌, ℕ, List, ◌++◌, Result, Ok, Err, ap, ◌∙◌}
use Rattle.edge_kit.specs.Told.{Told}
use Rattle.git_index.specs.declared.entry.Entry.{Entry}
use Rattle.attr_stack.specs.declared.files.OuterFiles.{OuterFiles}
use Rattle.attr_stack.specs.declared.files.AttrFiles.{AttrFiles}
use Rattle.settings_view.specs.declared.view.Settings.{Settings}
use Rattle.checkout_plan.specs.declared.path_plan.Plan.{Plan}
use Rattle.checkout_plan.specs.declared.fault.PlanFault.{PlanFault}
use Rattle.checkout_plan.specs.declared.fault.PlanFault.TheVariants as fault
use Rattle.checkout_plan.specs.Paths.{plan_by, plan_of}
use Rattle.checkout_plan.specs.Making.{HasPlan, MakesPlan, GivesBack, blobs_of}
use Rattle.checkout_plan.specs.Seen.{ReadsAll, IsLimited}

has_plan : (object : List ℕ → Told) (es : List Entry) (outer : OuterFiles) (settings : Settings) (files : AttrFiles) (plan : Plan) → ReadsAll object es outer files → plan ≡ plan_by files settings es → HasPlan object es outer settings plan
unfolding plan_of
has_plan object es outer settings files plan reads is = record { contents = reads.contents; read = reads.read; is = is ∙ ap (λ (fs : AttrFiles). plan_by fs settings es) reads.is }

pub plan_made : (object : List ℕ → Told) (es : List Entry) (outer : OuterFiles) (settings : Settings) (files : AttrFiles) (plan : Plan) (r : Result Plan PlanFault) → ReadsAll object es outer files → plan ≡ plan_by files settings es
    → IsLimited plan r → MakesPlan object es outer settings r
plan_made object es outer settings files plan (Ok p) reads is limited = (has_plan object es outer settings files p reads (limited.0 ∙ is), limited.1)
plan_made object es outer settings files plan (Err (fault.TooManyDrivers n)) reads is limited = (plan, has_plan object es outer settings files plan reads is, limited.0, limited.1)
plan_made object es outer settings files plan (Err fault.NoMemory) reads is limited = absurd limited
plan_made object es outer settings files plan (Err (fault.AttributeRead k)) reads is limited = absurd limited
plan_made object es outer settings files plan (Err (fault.Attribute k kind)) reads is limited = absurd limited
plan_made object es outer settings files plan (Err (fault.AttributeTooLarge k)) reads is limited = absurd limited

pub plan_returned : (es : List Entry) (before after : List (List ℕ × ℕ)) (plan : Plan) (r : Result Plan PlanFault) → IsLimited plan r → after ≡ before ++ blobs_of es → GivesBack es before after r
plan_returned es before after plan (Ok p) limited is = is
plan_returned es before after plan (Err (fault.TooManyDrivers n)) limited is = is
plan_returned es before after plan (Err fault.NoMemory) limited is = absurd limited
plan_returned es before after plan (Err (fault.AttributeRead k)) limited is = absurd limited
plan_returned es before after plan (Err (fault.Attribute k kind)) limited is = absurd limited
plan_returned es before after plan (Err (fault.AttributeTooLarge k)) limited is = absurd limited
