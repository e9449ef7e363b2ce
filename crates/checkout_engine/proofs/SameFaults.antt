-- Two checkouts in which leaves or links may have failed, with equal sessions, failed starts and leaf counts.
use Rattle.std.proofs.Common.{◌≡◌, ◌⊎◌, inl, inr, ◌+◌, ℕ, ◌<◌, zero, suc, true, false, List, [], ◌∷◌, Option, Some, None, refl, sym, ap, ◌∙◌, subst, arith}
use Rattle.std.specs.Prelude.{slice_get}
use Rattle.std.specs.List.{AllZip}
use Rattle.std.specs.Option.{option_map}
use Rattle.std.proofs.lemmas.Bool.{cases_Bool}
use Rattle.edge_kit.specs.Told.{Told}
use Rattle.edge_kit.specs.declared.leaf_state.LeafState.{LeafState}
use Rattle.git_index.specs.Spelling.{OneReading, PathsAreOrdered}
use Rattle.driver_line.specs.EqualSessions.{EqualSessions}
use Rattle.driver_line.specs.OneContent.{OneContent}
use Rattle.checkout_core.specs.declared.verdict.Verdict.{Verdict}
use Rattle.checkout_core.specs.declared.verdict.Verdict.TheVariants as verdict
use Rattle.checkout_core.specs.declared.verdict.FailCause.TheVariants as fail
use Rattle.checkout_plan.specs.declared.path_plan.PathPlan.{PathPlan}
use Rattle.checkout_plan.specs.declared.path_plan.Plan.{Plan}
use Rattle.checkout_engine.specs.Complete.{failed_leaves}
use Rattle.checkout_engine.specs.Ends.{verdicts_of}
use Rattle.checkout_paths.specs.Outcome.{Outcome, AreOutcomes, leaf_back}
use Rattle.checkout_engine.specs.Rehearsed.{is_write_failed}
use Rattle.run_report.specs.Rows.{report}
use Rattle.checkout_engine.specs.Report.{lacks_memory}
use Rattle.checkout_engine.specs.SameFaults.{HaveSameFile, SameFaultsChangeNothing, leaf_counts}
use Rattle.checkout_paths.specs.Talks.{DriverTalk}
use Rattle.checkout_engine.proofs.Alike.{AllHearAlike, ends_of, same_path, same_sessions}
use Rattle.checkout_engine.proofs.Drivers.{planned_ordered}
use Rattle.checkout_engine.proofs.OneSide.{Ground, HasEnds, EndsAt, FineAt, first_ends}
use Rattle.checkout_engine.proofs.PathsAlike.{PathEnd}
use Rattle.checkout_engine.proofs.SamePlan.{same_plan}
use Rattle.checkout_engine.proofs.Undisturbed.{path_fine}

-- how often the leaf of a path failed

count_of : Outcome → Option ℕ
count_of o = option_map (λ leaf. leaf.1) o.leaf

same_count : (p : PathPlan) (x y : Option (LeafState × ℕ)) → option_map (λ leaf. leaf.1) x ≡ option_map (λ leaf. leaf.1) y → failed_leaves (leaf_back p x) ≡ failed_leaves (leaf_back p y)
same_count p None None e = refl
same_count p None (Some l) e = absurd (cc e)
same_count p (Some l) None e = absurd (cc e)
same_count p (Some l) (Some m) e = let same : l.1 ≡ m.1 = cc e in omega (arith, same)

counted : (n : ℕ) → (n ≡ 0) ⊎ (0 < n)
counted zero = inl refl
counted (suc n) = inr (omega arith)

write_failed : (v : Verdict) → is_write_failed v ≡ true → v ≡ verdict.Failed fail.WriteFailed
write_failed (verdict.Failed fail.WriteFailed) e = refl
write_failed (verdict.Failed fail.ReadFailed) e = absurd (cc e)
write_failed (verdict.Failed (fail.Object k)) e = absurd (cc e)
write_failed (verdict.Failed fail.NameNotText) e = absurd (cc e)
write_failed (verdict.Failed (fail.Filter why)) e = absurd (cc e)
write_failed (verdict.Failed fail.Missing) e = absurd (cc e)
write_failed (verdict.Failed fail.NoProcess) e = absurd (cc e)
write_failed (verdict.Failed fail.UnknownEncoding) e = absurd (cc e)
write_failed (verdict.Written u) e = absurd (cc e)
write_failed (verdict.Unfiltered why u) e = absurd (cc e)
write_failed (verdict.Skipped cause) e = absurd (cc e)
write_failed verdict.NoMemory e = absurd (cc e)

-- a leaf that failed tells the verdict
leaf_tells : (object : List ℕ → Told) (talks : List DriverTalk) (n : ℕ) (p : PathPlan) (o : Outcome) → EndsAt object talks n p o → 0 < failed_leaves (leaf_back p o.leaf) → o.verdict ≡ verdict.Failed fail.WriteFailed
leaf_tells object talks n p o x lt = elim (cases_Bool (is_write_failed o.verdict)) [
  | inl is ↦ write_failed o.verdict is
  | inr not ↦ (let none = path_fine object talks n p o p.start x.has x.memory not in absurd (omega (arith, none, lt)))
]

-- the verdict of a path, and its file unless its leaf failed
abbrev SameEnd : Outcome → Outcome → Type 0
SameEnd o q = (o.verdict ≡ q.verdict) × HaveSameFile o q

one_end : (object : List ℕ → Told) (talks talks' : List DriverTalk) (n : ℕ) (p : PathPlan) (o q : Outcome) → EndsAt object talks n p o → EndsAt object talks' n p q → count_of o ≡ count_of q
    → (FineAt object talks n p o → FineAt object talks' n p q → SameEnd o q) → SameEnd o q
unfolding count_of
one_end object talks talks' n p o q x y count fine =
    let same = same_count p o.leaf q.leaf count in
    elim (counted (failed_leaves (leaf_back p o.leaf))) [
      | inl none ↦ fine (record { has = x.has; memory = x.memory; leaf = none }) (record { has = y.has; memory = y.memory; leaf = sym same ∙ none })
      | inr some ↦ (
          let one = leaf_tells object talks n p o x some in
          let two = leaf_tells object talks' n p q y (subst (λ (k : ℕ). 0 < k) same some) in
          (one ∙ sym two, λ not. absurd (not one))
          )
    ]

same_ends : (object : List ℕ → Told) (talks talks' : List DriverTalk) (n : ℕ) (ps : List PathPlan) (os qs : List Outcome) → AreOutcomes object talks n ps os → AreOutcomes object talks' n ps qs
    → lacks_memory (verdicts_of os) ≡ false → lacks_memory (verdicts_of qs) ≡ false → leaf_counts os ≡ leaf_counts qs
    → ((k : ℕ) (p : PathPlan) (o q : Outcome) → slice_get ps k ≡ Some p → FineAt object talks (n + k) p o → FineAt object talks' (n + k) p q → SameEnd o q)
    → (verdicts_of os ≡ verdicts_of qs) × AllZip HaveSameFile os qs
unfolding count_of
same_ends object talks talks' n [] [] [] f h m k l each = (refl, tt)
same_ends object talks talks' n [] (o ∷ os) qs f h m k l each = absurd f
same_ends object talks talks' n [] [] (q ∷ qs) f h m k l each = absurd h
same_ends object talks talks' n (p ∷ ps) [] qs f h m k l each = absurd f
same_ends object talks talks' n (p ∷ ps) (o ∷ os) [] f h m k l each = absurd h
same_ends object talks talks' n (p ∷ ps) (o ∷ os) (q ∷ qs) f h m k l each =
    let first = first_ends object talks n p ps o os f m in
    let second = first_ends object talks' n p ps q qs h k in
    let count : option_map (λ leaf. leaf.1) o.leaf ≡ option_map (λ leaf. leaf.1) q.leaf = cc l in
    let counts : leaf_counts os ≡ leaf_counts qs = cc l in
    let here : ◌≡◌ {A = ℕ} n (n + zero) = omega arith in
    let end : SameEnd o q = one_end object talks talks' n p o q first.0 second.0 count (λ x y.
    each zero p o q refl (subst (λ (m : ℕ). FineAt object talks m p o) here x) (subst (λ (m : ℕ). FineAt object talks' m p q) here y)) in
    let rest = same_ends object talks talks' (suc n) ps os qs f.1 h.1 first.1 second.1 counts (λ i x y z at fine fine'.
    let same : ◌≡◌ {A = ℕ} (suc n + i) (n + suc i) = omega arith in
    each (suc i) x y z at (subst (λ (m : ℕ). FineAt object talks m x y) same fine) (subst (λ (m : ℕ). FineAt object talks' m x z) same fine')) in
    let verdict = end.0 in
    (rw (verdict, rest.0) refl, (end.1, rest.1))

pub same_faults : OneReading → PathsAreOrdered → EqualSessions → OneContent → SameFaultsChangeNothing
same_faults reading ordered law one told told' ahead ahead' a b old new before after all differ c e faults =
    let plan : c.plan ≡ e.plan = same_plan reading told told' c.plan e.plan all differ c.planned e.planned in
    let ground : Ground told.object c.plan.paths = record { told = all.object; rise = planned_ordered ordered told c.plan c.planned; one = one } in
    let first = ends_of told ahead a old new c faults.first_memory in
    let other : HasEnds told.object ahead' e.plan.paths e.plan.drivers e.talks e.outcomes after.history =
    subst (λ (object : List ℕ → Told). HasEnds object ahead' e.plan.paths e.plan.drivers e.talks e.outcomes after.history) differ.object (ends_of told' ahead' b before after e faults.second_memory) in
    let second : HasEnds told.object ahead' c.plan.paths c.plan.drivers e.talks e.outcomes after.history =
    subst (λ (p : Plan). HasEnds told.object ahead' p.paths p.drivers e.talks e.outcomes after.history) (sym plan) other in
    let hear : AllHearAlike told.object c.plan.paths ground c.plan.drivers ahead c.talks c.outcomes new.history first ahead' e.talks e.outcomes after.history second = λ d t u here there.
    same_sessions told.object c.plan.paths ground c.plan.drivers ahead c.talks c.outcomes new.history first ahead' e.talks e.outcomes after.history second d t u here there law
    (faults.starts d t u here there) in
    let same = same_ends told.object c.talks e.talks 0 c.plan.paths c.outcomes e.outcomes first.fit second.fit first.memory second.memory faults.leaves (λ k p o q at fine fine'.
    let here : ◌≡◌ {A = ℕ} (0 + k) k = omega arith in
    let end = same_path told.object c.plan.paths ground c.plan.drivers ahead c.talks c.outcomes new.history first ahead' e.talks e.outcomes after.history second hear k p o q at
    (subst (λ (m : ℕ). FineAt told.object c.talks m p o) here fine) (subst (λ (m : ℕ). FineAt told.object e.talks m p q) here fine') in
    (ap (λ (x : PathEnd). x.verdict) end, λ not. ap (λ (x : PathEnd). x.file) end)) in
    record {
      plan = plan;
      verdicts = same.0;
      report = ap (λ (p : Plan). report p.paths (verdicts_of c.outcomes)) plan ∙ ap (report e.plan.paths) same.0;
      files = same.1;
    }
