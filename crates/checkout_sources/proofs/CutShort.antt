-- What the reading of a plan leaves where memory runs out after it, and where it is refused.
use Rattle.std.proofs.Common.{◌≡◌, ℕ, ◌+◌, List, [], ◌∷◌, ◌++◌, length, map, take, Some, slice_get, refl, sym, ap, ◌∙◌, inl, inr, append-nil, arith}
use Rattle.std.proofs.Math.Seq.{take-length}
use Rattle.std.proofs.lemmas.List.Sums.{sum_by-append}
use Rattle.std.proofs.lemmas.Option.{same_Some}
use Rattle.edge_kit.specs.Seen.{RepoSeen}
use Rattle.edge_kit.specs.Told.{RepoTold}
use Rattle.git_index.specs.declared.entry.Entry.{Entry}
use Rattle.attr_stack.specs.declared.files.OuterFiles.{OuterFiles}
use Rattle.settings_view.specs.declared.view.Settings.{Settings}
use Rattle.checkout_plan.specs.declared.path_plan.Plan.{Plan}
use Rattle.checkout_plan.specs.declared.fault.PlanFault.{PlanFault}
use Rattle.checkout_plan.specs.declared.fault.PlanFault.TheVariants as fault
use Rattle.checkout_plan.specs.AttributeFiles.{is_attribute_file, attribute_entries}
use Rattle.checkout_plan.specs.Making.{IsFirstFault, blobs_of, blobs_to}
use Rattle.checkout_sources.specs.declared.stop.Refusal.{Refusal}
use Rattle.checkout_sources.specs.declared.stop.Refusal.TheVariants as refusal
use Rattle.checkout_sources.specs.Causes.{IsCause, IsFaultyFile, failed_blobs, IsRepoSteady, IsPlanRead}
use Rattle.checkout_sources.specs.Causes.{blobs_before, IsRefusedFor, IsPartRead, IsCutShort}
use Rattle.checkout_sources.specs.Sources.{HasSources}
use Rattle.checkout_sources.proofs.PlanFaults.{part_to}

sum_none : (es : List Entry) → failed_blobs (map (λ (e : Entry). (e.name, 0)) es) ≡ 0
sum_none [] = refl
sum_none (e ∷ es) = sum_none es

-- blobs that have not failed, after others
steady_behind : (before after blobs : List (List ℕ × ℕ)) → failed_blobs blobs ≡ 0 → after ≡ before ++ blobs → failed_blobs after ≡ failed_blobs before
steady_behind before after blobs none is =
    let sum : failed_blobs (before ++ blobs) ≡ failed_blobs before + failed_blobs blobs = sum_by-append (λ b. b.1) before blobs in
    ap failed_blobs is ∙ omega (arith, sum, none)

none_failed : (es : List Entry) → failed_blobs (blobs_of es) ≡ 0
none_failed es = sum_none (attribute_entries es)

-- a plan that was read without a fault
planned_steady : (es : List Entry) (old new : RepoSeen) → new ≡ record old { returned = old.returned ++ blobs_of es } → IsRepoSteady old new
planned_steady es old new is = record {
  faults = ap (λ (r : RepoSeen). r.faults) is;
  blobs = steady_behind old.returned new.returned (blobs_of es) (none_failed es) (ap (λ (r : RepoSeen). r.returned) is);
}

none_failed_to : (es : List Entry) (k : ℕ) (e : Entry) → failed_blobs (blobs_to es k e 0) ≡ 0
none_failed_to es k e =
    let sum : failed_blobs (blobs_to es k e 0) ≡ failed_blobs (blobs_of (take k es)) + failed_blobs ((e.name, 0) ∷ []) = sum_by-append (λ b. b.1) (blobs_of (take k es)) ((e.name, 0) ∷ []) in
    omega (arith, sum, none_failed (take k es))

none_failed_before : (told : RepoTold) (r : Refusal) (cause : IsCause told r) → failed_blobs (blobs_before told r cause) ≡ 0
none_failed_before told refusal.IndexAbsent cause = refl
none_failed_before told (refusal.Index fault) cause = refl
none_failed_before told (refusal.Config fault) cause = refl
none_failed_before told (refusal.Setting fault) cause = refl
none_failed_before told refusal.InfoTooLarge cause = refl
none_failed_before told refusal.BaseTooLarge cause = refl
none_failed_before told (refusal.Attribute path kind) cause = none_failed_to cause.faulty.entries cause.number cause.entry
none_failed_before told (refusal.AttributeTooLarge path) cause = none_failed_to cause.faulty.entries cause.number cause.entry
none_failed_before told (refusal.TooManyDrivers n) cause = none_failed cause.entries

-- no read failed where a repository is refused, or where memory ran out
pub refused_steady : (told : RepoTold) (r : Refusal) (old new : RepoSeen) → IsRefusedFor told r old new → IsRepoSteady old new
refused_steady told r old new has = record {
  faults = ap (λ (x : RepoSeen). x.faults) has.seen;
  blobs = steady_behind old.returned new.returned (blobs_before told r has.cause) (none_failed_before told r has.cause) (ap (λ (x : RepoSeen). x.returned) has.seen);
}

pub cut_short_steady : (told : RepoTold) (old new : RepoSeen) → IsCutShort told old new → IsRepoSteady old new
cut_short_steady told old new (inl same) = record { faults = ap (λ (x : RepoSeen). x.faults) same; blobs = ap (λ (x : RepoSeen). failed_blobs x.returned) same }
cut_short_steady told old new (inr part) = planned_steady (take part.count part.entries) old new part.seen

-- those of all attribute files
part_all : (told : RepoTold) (old new : RepoSeen) (es : List Entry) (settings : Settings) (outer : OuterFiles) → HasSources told es settings outer
    → new ≡ record old { returned = old.returned ++ blobs_of es } → IsPartRead told old new
part_all told old new es settings outer sources seen = record {
  entries = es;
  settings = settings;
  outer = outer;
  sources = sources;
  count = length es;
  within = omega arith;
  seen = seen ∙ ap (λ (l : List Entry). record old { returned = old.returned ++ blobs_of l }) (sym (take-length es));
}

pub plan_part : (told : RepoTold) (plan : Plan) (old new : RepoSeen) → IsPlanRead told plan old new → IsCutShort told old new
plan_part told plan old new read = inr (part_all told old new read.planned.entries read.planned.settings read.planned.outer read.planned.sources read.seen)

-- the attribute file that a cause names is one
named_file : (told : RepoTold) (old new : RepoSeen) (path : List ℕ) (f : ℕ → PlanFault) (c : IsFaultyFile told path f) → (first : IsFirstFault told.object c.faulty.entries c.number)
    → new ≡ record old { returned = old.returned ++ blobs_to c.faulty.entries c.number c.entry 0 } → IsCutShort told old new
named_file told old new path f c first seen =
    let same : first.entry ≡ c.entry = same_Some first.entry c.entry (sym first.there ∙ c.there) in
    inr (part_to told old new c.faulty.entries c.faulty.settings c.faulty.outer c.number c.entry c.faulty.sources c.there (sym (ap is_attribute_file same) ∙ first.is_file) seen)

-- memory ran out at the line of a refusal
pub refused_part : (told : RepoTold) (r : Refusal) (old new : RepoSeen) → IsRefusedFor told r old new → IsCutShort told old new
refused_part told r old new has = by r has.cause has.seen
  where
    none : new ≡ record old { returned = old.returned ++ [] } → IsCutShort told old new
    none seen = inl (seen ∙ ap (λ (l : List (List ℕ × ℕ)). record old { returned = l }) (append-nil old.returned))

    by : (r : Refusal) (cause : IsCause told r) → new ≡ record old { returned = old.returned ++ blobs_before told r cause } → IsCutShort told old new
    by refusal.IndexAbsent cause seen = none seen
    by (refusal.Index fault) cause seen = none seen
    by (refusal.Config fault) cause seen = none seen
    by (refusal.Setting fault) cause seen = none seen
    by refusal.InfoTooLarge cause seen = none seen
    by refusal.BaseTooLarge cause seen = none seen
    by (refusal.Attribute path kind) cause seen = named_file told old new path (λ k. fault.Attribute k kind) cause cause.faulty.has.0 seen
    by (refusal.AttributeTooLarge path) cause seen = named_file told old new path (λ k. fault.AttributeTooLarge k) cause cause.faulty.has.0 seen
    by (refusal.TooManyDrivers n) cause seen = inr (part_all told old new cause.entries cause.settings cause.outer cause.sources seen)
