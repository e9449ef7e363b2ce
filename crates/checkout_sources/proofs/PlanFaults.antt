-- How the reading of a plan ends, by the plan or its fault.
use Rattle.std.proofs.Common.{◌≡◌, ℕ, zero, suc, ◌≤◌, true, false, List, [], ◌∷◌, ◌++◌, length, take, Some, None, slice_get, Ok, Err, refl, sym, ap, ◌∙◌, subst, inl, inr, arith}
use Rattle.std.proofs.lemmas.Option.{slice_get_within, slice_get_past, same_Some}
use Rattle.edge_kit.specs.Faults.{Rose}
use Rattle.edge_kit.specs.Seen.{RepoSeen}
use Rattle.checkout_sources.specs.declared.stop.Stop.TheVariants as stop
use Rattle.edge_kit.specs.Told.{Told, RepoTold}
use Rattle.git_index.specs.declared.entry.Entry.{Entry}
use Rattle.attr_stack.specs.declared.files.OuterFiles.{OuterFiles}
use Rattle.settings_view.specs.declared.view.Settings.{Settings}
use Rattle.checkout_plan.specs.declared.path_plan.Plan.{Plan}
use Rattle.checkout_plan.specs.declared.fault.PlanFault.{PlanFault}
use Rattle.checkout_plan.specs.declared.fault.PlanFault.TheVariants as fault
use Rattle.checkout_plan.specs.AttributeFiles.{is_attribute_file}
use Rattle.checkout_plan.specs.Making.{IsFirstFault, HasPlanFault, MakesPlan, GivesBack, blobs_of, blobs_to}
use Rattle.git_config.specs.declared.setting.Setting.{Setting}
use Rattle.checkout_sources.specs.declared.stop.Stop.{Stop}
use Rattle.checkout_sources.specs.Causes.{IsSourceCause, IsSourceUnread, IsFaulty, IsPlanRead}
use Rattle.checkout_sources.specs.Causes.{IsPartRead, IsCutShort}
use Rattle.checkout_sources.specs.Reading.{StopsFor, ReadsPlan, IsWithin, IsStopOf}
use Rattle.checkout_sources.specs.Sources.{HasSources, IsConfigured}
use Rattle.checkout_sources.specs.PlannedIndex.{IsIndexPlanned}

-- the entry that a fault names is there
pub fault_within : (object : List ℕ → Told) (es : List Entry) (outer : OuterFiles) (settings : Settings) (f : PlanFault) → HasPlanFault object es outer settings f → IsWithin es f
fault_within object es outer settings (fault.AttributeRead k) has = slice_get_within es k has.0.entry has.0.there
fault_within object es outer settings (fault.Attribute k kind) has = slice_get_within es k has.0.entry has.0.there
fault_within object es outer settings (fault.AttributeTooLarge k) has = slice_get_within es k has.0.entry has.0.there
fault_within object es outer settings (fault.TooManyDrivers n) has = tt
fault_within object es outer settings fault.NoMemory has = tt

abbrev pub plan_is_read : (told : RepoTold) (old new : RepoSeen) (es : List Entry) (settings : Settings) (outer : OuterFiles) (plan : Plan) → HasSources told es settings outer
    → MakesPlan told.object es outer settings (Ok plan) → GivesBack es old.returned new.returned (Ok plan) → new ≡ record old { returned = new.returned } → IsPlanRead told plan old new
plan_is_read told old new es settings outer plan sources made back kept = record {
  planned = record { entries = es; settings = settings; outer = outer; sources = sources; made = made.0; few = made.1 };
  seen = kept ∙ ap (λ (l : List (List ℕ × ℕ)). record old { returned = l }) back;
}

abbrev pub index_is_planned : (told : RepoTold) (old new : RepoSeen) (es : List Entry) (config : List Setting) (settings : Settings) (outer : OuterFiles) (plan : Plan) → HasSources told es settings outer → IsConfigured told.config config settings
    → MakesPlan told.object es outer settings (Ok plan) → GivesBack es old.returned new.returned (Ok plan) → new ≡ record old { returned = new.returned } → IsIndexPlanned told (record { index = es; config = config; plan = plan }) old new
index_is_planned told old new es config settings outer plan sources configured made back kept = record {
  has = record { settings = settings; outer = outer; sources = sources; configured = configured; made = made.0; few = made.1 };
  seen = kept ∙ ap (λ (l : List (List ℕ × ℕ)). record old { returned = l }) back;
}

-- with one blob more: those up to an attribute file are those of one entry more
blobs_next : (es : List Entry) (k : ℕ) (e : Entry) → slice_get es k ≡ Some e → is_attribute_file e ≡ true → blobs_to es k e 0 ≡ blobs_of (take (suc k) es)
blobs_next [] k e there is = let no : None ≡ Some e = sym (slice_get_past [] k (omega arith)) ∙ there in absurd cc
blobs_next (x ∷ xs) zero e there is =
    let same : x ≡ e = cc in
    let passes : is_attribute_file x ≡ true = ap is_attribute_file same ∙ is in
    rw passes (ap (λ (y : Entry). (y.name, 0) ∷ []) (sym same))
blobs_next (x ∷ xs) (suc k) e there is =
    let rest : blobs_to xs k e 0 ≡ blobs_of (take (suc k) xs) = blobs_next xs k e there is in
    elim (is_attribute_file x) as (λ t. is_attribute_file x ≡ t → blobs_to (x ∷ xs) (suc k) e 0 ≡ blobs_of (take (suc (suc k)) (x ∷ xs))) [
      | true ↦ λ passes. rw passes (ap (λ (l : List (List ℕ × ℕ)). (x.name, 0) ∷ l) rest)
      | false ↦ λ fails. rw fails rest
    ] refl

-- what memory ran out after: the blobs up to an attribute file
pub part_to : (told : RepoTold) (old new : RepoSeen) (es : List Entry) (settings : Settings) (outer : OuterFiles) (k : ℕ) (e : Entry) → HasSources told es settings outer → slice_get es k ≡ Some e → is_attribute_file e ≡ true
    → new ≡ record old { returned = old.returned ++ blobs_to es k e 0 } → IsPartRead told old new
part_to told old new es settings outer k e sources there is seen =
    let within = slice_get_within es k e there in record {
      entries = es;
      settings = settings;
      outer = outer;
      sources = sources;
      count = suc k;
      within = omega (arith, within);
      seen = seen ∙ ap (λ (l : List (List ℕ × ℕ)). record old { returned = old.returned ++ l }) (blobs_next es k e there is);
    }

module _ (told : RepoTold) (old new : RepoSeen) (es : List Entry) (settings : Settings) (outer : OuterFiles) (sources : HasSources told es settings outer)
    (kept : new ≡ record old { returned = new.returned }) where
  -- what is seen, by the list of what was given back
  seen_by : (blobs : List (List ℕ × ℕ)) → new.returned ≡ old.returned ++ blobs → new ≡ record old { returned = old.returned ++ blobs }
  seen_by blobs back = kept ∙ ap (λ (l : List (List ℕ × ℕ)). record old { returned = l }) back

  -- the fault of an attribute file, and what memory ran out after where its path is to be named
  faulty_part : (k : ℕ) (e : Entry) → IsFirstFault told.object es k → slice_get es k ≡ Some e → new.returned ≡ old.returned ++ blobs_to es k e 0 → IsCutShort told old new
  faulty_part k e first there back =
      let same : first.entry ≡ e = same_Some first.entry e (sym first.there ∙ there) in
      inr (part_to told old new es settings outer k e sources there (sym (ap is_attribute_file same) ∙ first.is_file) (seen_by (blobs_to es k e 0) back))

  seen_at : (k : ℕ) (e x : Entry) → slice_get es k ≡ Some e → slice_get es k ≡ Some x → new.returned ≡ old.returned ++ blobs_to es k e 0 → new ≡ record old { returned = old.returned ++ blobs_to es k x 0 }
  seen_at k e x there at back =
      let same : e ≡ x = same_Some e x (sym there ∙ at) in
      seen_by (blobs_to es k e 0) back ∙ ap (λ (y : Entry). record old { returned = old.returned ++ blobs_to es k y 0 }) same

  stops_so : (f : PlanFault) (s : Stop) → HasPlanFault told.object es outer settings f → GivesBack es old.returned new.returned (Err f) → IsStopOf es f s → ReadsPlan told old new (Err s)
  stops_so (fault.AttributeRead k) s has (entry, there, (count, failed, back)) is =
      let faulty : IsFaulty told (fault.AttributeRead k) = record { entries = es; settings = settings; outer = outer; sources = sources; has = has } in
      subst (λ (s : Stop). ReadsPlan told old new (Err s)) (sym is)
      (inr (record { number = k; count = count; failed = failed; faulty = faulty; entry = entry; there = there; seen = seen_by (blobs_to es k entry count) back }))
  stops_so (fault.Attribute k kind) s has (entry, there, back) (inl is) =
      subst (λ (s : Stop). ReadsPlan told old new (Err s)) (sym is) (faulty_part k entry has.0 there back)
  stops_so (fault.Attribute k kind) s has (entry, there, back) (inr (path, at, is)) =
      let faulty : IsFaulty told (fault.Attribute k kind) = record { entries = es; settings = settings; outer = outer; sources = sources; has = has } in
      subst (λ (s : Stop). ReadsPlan told old new (Err s)) (sym is)
      (record { cause = record { number = k; faulty = faulty; entry = at.0; there = at.1; named = at.2 }; seen = seen_at k entry at.0 there at.1 back })
  stops_so (fault.AttributeTooLarge k) s has (entry, there, back) (inl is) =
      subst (λ (s : Stop). ReadsPlan told old new (Err s)) (sym is) (faulty_part k entry has.0 there back)
  stops_so (fault.AttributeTooLarge k) s has (entry, there, back) (inr (path, at, is)) =
      let faulty : IsFaulty told (fault.AttributeTooLarge k) = record { entries = es; settings = settings; outer = outer; sources = sources; has = has } in
      subst (λ (s : Stop). ReadsPlan told old new (Err s)) (sym is)
      (record { cause = record { number = k; faulty = faulty; entry = at.0; there = at.1; named = at.2 }; seen = seen_at k entry at.0 there at.1 back })
  stops_so (fault.TooManyDrivers n) s has back is =
      subst (λ (s : Stop). ReadsPlan told old new (Err s)) (sym is)
      (record { cause = record { entries = es; settings = settings; outer = outer; sources = sources; has = has }; seen = seen_by (blobs_of es) back })
  stops_so fault.NoMemory s has (k, within, back) is =
      subst (λ (s : Stop). ReadsPlan told old new (Err s)) (sym is)
      (inr (record { entries = es; settings = settings; outer = outer; sources = sources; count = k; within = within; seen = seen_by (blobs_of (take k es)) back }))

  pub stops_by : (es' : List Entry) (f : PlanFault) (s : Stop) → HasPlanFault told.object es outer settings f → GivesBack es old.returned new.returned (Err f) → es' ≡ es → IsStopOf es' f s → ReadsPlan told old new (Err s)
  stops_by es' f s has back same stop = stops_so f s has back (subst (λ (l : List Entry). IsStopOf l f s) same stop)

-- a stop after calls that left as it was what is told, and the count
pub stops_behind : (T U : Type 0) (told told' : RepoTold) (old mid new : RepoSeen) (s : Stop) → told' ≡ told → mid.faults ≡ old.faults
    → StopsFor {T = T} (IsSourceCause told') (IsSourceUnread told') mid new (Err s) → StopsFor {T = U} (IsSourceCause told) (IsSourceUnread told) old new (Err s)
stops_behind T U told told' old mid new stop.ReadFault is same stops =
    (subst (λ (n : ℕ). Rose n new.faults) same stops.0, subst (λ (t : RepoTold). IsSourceUnread t) is stops.1)
stops_behind T U told told' old mid new (stop.Refused r) is same stops = (stops.0 ∙ same, subst (λ (t : RepoTold). IsSourceCause t r) is stops.1)
stops_behind T U told told' old mid new stop.NoMemory is same stops = stops ∙ same
