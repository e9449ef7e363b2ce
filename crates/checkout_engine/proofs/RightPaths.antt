-- A right path of a plan whose drivers give all their paths doesn't fail, unless its leaf or a link failed or memory ran out.
use Rattle.std.specs.Str.{IsUtf8}
use Rattle.std.proofs.Common.{◌≡◌, ◌⊎◌, inl, inr, ℕ, ◌+◌, ◌<◌, zero, suc, Bool, true, false, ◌||◌, List, [], ◌∷◌, length, Option, Some, None, Result, Ok, Err, refl, sym, ap, ◌∙◌, subst, arith}
use Rattle.std.specs.Prelude.{slice_get}
use Rattle.std.specs.List.{list_any, AllByRecursion}
use Rattle.std.proofs.lemmas.Bool.{lt-ltb, eq-eqb}
use Rattle.std.proofs.lemmas.Option.{same_Some, slice_get-map}
use Rattle.std.specs.Option.{option_map}
use Rattle.edge_kit.specs.Told.{Told, Raw, TellsNone, TellsLong, MayFail}
use Rattle.edge_kit.specs.Starters.{Had, Starts, StartsListed}
use Rattle.edge_kit.specs.declared.leaf_state.LeafState.{LeafState}
use Rattle.settings_view.specs.declared.view.Driver.{Driver}
use Rattle.git_index.specs.Spelling.{pairwise}
use Rattle.object_dir.specs.Object.{Gives, IsObject, object_of, max_stored}
use Rattle.object_dir.specs.declared.fault.ObjectFault.{ObjectFault}
use Rattle.object_dir.specs.declared.fault.ObjectFault.TheVariants as object
use Rattle.delay_table.specs.Table.{contains}
use Rattle.checkout_core.specs.declared.event.Event.{Event}
use Rattle.checkout_core.specs.declared.path.Heard.TheVariants as heard
use Rattle.checkout_core.specs.declared.path.Start.{Start}
use Rattle.checkout_core.specs.declared.path.Start.TheVariants as start
use Rattle.checkout_core.specs.declared.verdict.Verdict.{Verdict}
use Rattle.checkout_core.specs.declared.verdict.Verdict.TheVariants as verdict
use Rattle.checkout_core.specs.declared.verdict.FailCause.TheVariants as fail
use Rattle.checkout_core.specs.declared.verdict.ObjectKind.{ObjectKind}
use Rattle.checkout_core.specs.Fates.{heard_by}
use Rattle.checkout_core.specs.States.{is_at}
use Rattle.checkout_report.specs.Report.{is_failed}
use Rattle.driver_line.specs.SameHeard.{NoneFailed, SameHeard, IsToldTalk, HaveTexts, HaveSameTexts}
use Rattle.checkout_plan.specs.declared.path_plan.PathPlan.{PathPlan}
use Rattle.checkout_plan.specs.Making.{FitsKind, object_kind}
use Rattle.checkout_engine.specs.Complete.{IsRightObject, IsRightStart, IsRightPath, GivesAll, TalksGiveAll, failed_leaves}
use Rattle.checkout_engine.specs.Ends.{verdicts_of}
use Rattle.checkout_paths.specs.Outcome.{Outcome, HasVerdict, HasDeskVerdict, HasOutcome, AreOutcomes, leaf_back}
use Rattle.checkout_paths.specs.Paths.{leaves_back}
use Rattle.checkout_engine.specs.PlannedPaths.{AreSized}
use Rattle.checkout_engine.specs.Report.{lacks_memory}
use Rattle.checkout_paths.specs.Talks.{DriverTalk, IsDriverTalk, heard_at, was_read}
use Rattle.checkout_paths.specs.Cards.{precedes}
use Rattle.checkout_engine.proofs.Order.{same_place}
use Rattle.checkout_engine.proofs.PathsAlike.{heard_if_asked, leaf_failed}
use Rattle.checkout_engine.proofs.Rising.{apart, same_rising}
use Rattle.checkout_engine.proofs.OneSide.{IsSide, desk_of, EndsAt, FineAt, first_fine, outcome_at, talk_at, memory_is, told_talk, holds_at}

-- a right object gives nothing but its content
pub gives_right : (told : Told) (name raw content : List ℕ) (answer : Result (List ℕ) ObjectFault) → told ≡ Raw raw → object_of raw name ≡ Ok content → Gives told name answer → answer ≡ Ok content
gives_right told name raw content answer there right gives =
    let has : Gives (Raw raw) name answer = subst (λ (t : Told). Gives t name answer) there gives in
    sym has.2 ∙ (ap (λ (stored : List ℕ). object_of stored name) has.1 ∙ right)

no_fault : (told : Told) (name raw content : List ℕ) (fault : ObjectFault) → told ≡ Raw raw → object_of raw name ≡ Ok content → Gives told name (Err fault) → ⊥
no_fault told name raw content fault there right gives = let no : Err fault ≡ Ok content = gives_right told name raw content (Err fault) there right gives in absurd cc

fits_no_fault : (told : Told) (name raw content : List ℕ) (k : ObjectKind) (f : ObjectFault) → told ≡ Raw raw → object_of raw name ≡ Ok content → object_kind f ≡ Some k → IsObject told name (Err f) → ⊥
fits_no_fault told name raw content k object.ReadFailed there right is fits = subst MayFail there fits
fits_no_fault told name raw content k object.NoMemory there right is fits = let no : None ≡ Some k = is in absurd cc
fits_no_fault told name raw content k object.Absent there right is fits = subst TellsNone there fits
fits_no_fault told name raw content k object.TooLarge there right is fits =
    let long : max_stored < length raw = subst (λ (t : Told). TellsLong t max_stored) there fits in
    let no : Err object.TooLarge ≡ Ok content = rw (lt-ltb max_stored (length raw) long) at right in absurd cc
fits_no_fault told name raw content k object.Header there right is fits = no_fault told name raw content object.Header there right fits
fits_no_fault told name raw content k object.Size there right is fits = no_fault told name raw content object.Size there right fits
fits_no_fault told name raw content k (object.WrongName found) there right is fits = no_fault told name raw content (object.WrongName found) there right fits

pub fits_no_kind : (told : Told) (name raw content : List ℕ) (k : ObjectKind) → told ≡ Raw raw → object_of raw name ≡ Ok content → FitsKind told name k → ⊥
fits_no_kind told name raw content k there right fits = fits_no_fault told name raw content k fits.fault there right fits.is fits.fits

-- an open path with a right object doesn't fail unless its leaf did
open_fails_not : (told : Told) (p : PathPlan) (o : Outcome) (v : Verdict) (content : List ℕ) → IsUtf8 p.path → IsRightObject told p.object content → HasVerdict told p o v → failed_leaves (leaf_back p o.leaf) ≡ 0
    → is_failed v ≡ false
open_fails_not told p o (verdict.Written unencoded) content text r has none = refl
open_fails_not told p o (verdict.Unfiltered cause unencoded) content text r has none = refl
open_fails_not told p o verdict.NoMemory content text r has none = refl
open_fails_not told p o (verdict.Skipped cause) content text r has none = refl
open_fails_not told p o (verdict.Failed fail.NameNotText) content text r has none = absurd has
open_fails_not told p o (verdict.Failed fail.ReadFailed) content text r has none = absurd (subst MayFail r.there has.1)
open_fails_not told p o (verdict.Failed (fail.Object k)) content text r has none = absurd (fits_no_kind told p.object r.raw content k r.there r.right has.1)
open_fails_not told p o (verdict.Failed fail.WriteFailed) content text r (opened, (bytes, gives, (state, count, failed, counts, part))) none =
    let sum : failed_leaves (leaf_back p (Some (state, count))) ≡ 0 = subst (λ (l : Option (LeafState × ℕ)). failed_leaves (leaf_back p l) ≡ 0) counts.1 none in
    absurd (omega (arith, sum, failed))
open_fails_not told p o (verdict.Failed (fail.Filter cause)) content text r has none = absurd has
open_fails_not told p o (verdict.Failed fail.Missing) content text r has none = absurd has
open_fails_not told p o (verdict.Failed fail.NoProcess) content text r has none = absurd has
open_fails_not told p o (verdict.Failed fail.UnknownEncoding) content text r has none = absurd has

-- a driver's path with a right object is read
right_is_read : (required : Bool) (d : ℕ) (t : DriverTalk) (n : ℕ) (told : Told) (p : PathPlan) (o : Outcome) (v : Verdict) (content : List ℕ) → IsRightObject told p.object content → HasDeskVerdict required d t n told p o v → was_read v ≡ true
right_is_read required d t n told p o (verdict.Written u) content r has = refl
right_is_read required d t n told p o (verdict.Unfiltered why u) content r has = refl
right_is_read required d t n told p o verdict.NoMemory content r has = refl
right_is_read required d t n told p o (verdict.Skipped cause) content r has = absurd has
right_is_read required d t n told p o (verdict.Failed fail.NameNotText) content r has = absurd has
right_is_read required d t n told p o (verdict.Failed fail.ReadFailed) content r has = absurd (subst MayFail r.there has.0)
right_is_read required d t n told p o (verdict.Failed (fail.Object k)) content r has = absurd (fits_no_kind told p.object r.raw content k r.there r.right has.0)
right_is_read required d t n told p o (verdict.Failed fail.WriteFailed) content r has = refl
right_is_read required d t n told p o (verdict.Failed (fail.Filter cause)) content r has = refl
right_is_read required d t n told p o (verdict.Failed fail.Missing) content r has = refl
right_is_read required d t n told p o (verdict.Failed fail.NoProcess) content r has = absurd has
right_is_read required d t n told p o (verdict.Failed fail.UnknownEncoding) content r has = absurd has

-- such a path that got a content doesn't fail unless its leaf did
got_fails_not : (required : Bool) (d : ℕ) (t : DriverTalk) (n : ℕ) (told : Told) (p : PathPlan) (o : Outcome) (v : Verdict) (content : List ℕ) → IsRightObject told p.object content → heard_at d t n ≡ Some heard.Got
    → HasDeskVerdict required d t n told p o v → failed_leaves (leaf_back p o.leaf) ≡ 0 → is_failed v ≡ false
got_fails_not required d t n told p o (verdict.Written u) content r got has none = refl
got_fails_not required d t n told p o (verdict.Unfiltered why u) content r got has none = refl
got_fails_not required d t n told p o verdict.NoMemory content r got has none = refl
got_fails_not required d t n told p o (verdict.Skipped cause) content r got has none = refl
got_fails_not required d t n told p o (verdict.Failed fail.NameNotText) content r got has none = absurd has
got_fails_not required d t n told p o (verdict.Failed fail.ReadFailed) content r got has none = absurd (subst MayFail r.there has.0)
got_fails_not required d t n told p o (verdict.Failed (fail.Object k)) content r got has none = absurd (fits_no_kind told p.object r.raw content k r.there r.right has.0)
got_fails_not required d t n told p o (verdict.Failed fail.WriteFailed) content r got (told_of, state, count, failed, fresh, counts, part) none = absurd (leaf_failed p o state count failed counts.1 none)
got_fails_not required d t n told p o (verdict.Failed (fail.Filter why)) content r got has none = let no : Some heard.Got ≡ Some (heard.Refused why) = sym got ∙ has.1 in absurd cc
got_fails_not required d t n told p o (verdict.Failed fail.Missing) content r got has none = let no : Some heard.Got ≡ Some heard.Lost = sym got ∙ has.0 in absurd cc
got_fails_not required d t n told p o (verdict.Failed fail.NoProcess) content r got has none = absurd has
got_fails_not required d t n told p o (verdict.Failed fail.UnknownEncoding) content r got has none = absurd has

-- a right path that the plan closes is skipped
done_fails_not : (told : Told) (p : PathPlan) (o : Outcome) (v : Verdict) → IsRightStart (start.Done v) told p → o.verdict ≡ v → is_failed o.verdict ≡ false
done_fails_not told p o (verdict.Skipped cause) right is = ap is_failed is
done_fails_not told p o (verdict.Written unencoded) right is = absurd right
done_fails_not told p o (verdict.Unfiltered cause unencoded) right is = absurd right
done_fails_not told p o verdict.NoMemory right is = absurd right
done_fails_not told p o (verdict.Failed cause) right is = absurd right

-- the content of the right object of a driver's path
content_of_desk : (d : ℕ) (s : Start) (told : Told) (p : PathPlan) → is_at d s ≡ true → IsRightStart s told p → (content : List ℕ) × IsRightObject told p.object content
content_of_desk d (start.Desk e required) told p is right = right.1
content_of_desk d start.Pool told p is right = right.1
content_of_desk d (start.Done v) told p is right = absurd cc

module _ (object : List ℕ → Told) (ahead : List ℕ → Starts) (ps : List PathPlan) (drivers : List Driver) (talks : List DriverTalk) (outcomes : List Outcome) (history : List Event)
    (s : IsSide object ahead ps drivers talks outcomes history) (right : AllByRecursion (IsRightPath object) ps) (rise : pairwise precedes ps ≡ true) (law : SameHeard) (sized : AreSized ps)
    (back : List (List ℕ × List Had)) (returned : (d : ℕ) (t : DriverTalk) → slice_get talks d ≡ Some t → (k : ℕ) × (slice_get back k ≡ Some (t.command, t.had)))
    (gives : (d : ℕ) (x : Driver) → slice_get drivers d ≡ Some x → GivesAll ahead ps d x ⊎ TalksGiveAll object ahead back ps d x) where
  fine_at : (n : ℕ) (p : PathPlan) → slice_get ps n ≡ Some p → (o : Outcome) × (slice_get outcomes n ≡ Some o) × EndsAt object talks n p o
  fine_at = outcome_at object ahead ps drivers talks outcomes history s.ends

  module _ (d : ℕ) (t : DriverTalk) (there : slice_get talks d ≡ Some t) where
    said : (x : Driver) × (slice_get drivers d ≡ Some x) × IsDriverTalk ahead object ps (verdicts_of outcomes) history d x t
    said = talk_at object ahead ps drivers talks outcomes history s.ends d t there

    -- the verdict of a path of the driver
    desk_verdict_at : (n : ℕ) (p : PathPlan) (o : Outcome) → is_at d p.start ≡ true → HasOutcome object talks p.start n p o → (required : Bool) × HasDeskVerdict required d t n (object p.object) p o o.verdict
    desk_verdict_at n p o is has =
        let desk = desk_of d p.start is in
        let own : HasOutcome object talks (start.Desk d desk.0) n p o = subst (λ (x : Start). HasOutcome object talks x n p o) desk.1 has in
        let same : own.1 ≡ t = same_Some own.1 t (sym own.2 ∙ there) in
        (desk.0, subst (λ (u : DriverTalk). HasDeskVerdict desk.0 d u n (object p.object) p o o.verdict) same own.3)

    right_object : (n : ℕ) (p : PathPlan) → slice_get ps n ≡ Some p → is_at d p.start ≡ true → (content : List ℕ) × IsRightObject (object p.object) p.object content
    right_object n p at is = content_of_desk d p.start (object p.object) p is (holds_at (IsRightPath object) ps n p right at)

    read_at : (n : ℕ) (p : PathPlan) (o : Outcome) → slice_get ps n ≡ Some p → is_at d p.start ≡ true → HasOutcome object talks p.start n p o → was_read o.verdict ≡ true
    read_at n p o at is has =
        let own = desk_verdict_at n p o is has in
        let r = right_object n p at is in
        right_is_read own.0 d t n (object p.object) p o o.verdict r.0 r.1 own.1

    -- the talk is over all paths of the driver
    all_asked : (n : ℕ) (p : PathPlan) → slice_get ps n ≡ Some p → is_at d p.start ≡ true → contains n t.asked ≡ true
    all_asked n p at is =
        let o = fine_at n p at in
        said.2.over.asked n p (o.0).verdict at (slice_get-map (λ (x : Outcome). x.verdict) outcomes n ∙ ap (option_map (λ (x : Outcome). x.verdict)) o.1) is o.2.memory ∙ read_at n p o.0 at is o.2.has

    none_failed : NoneFailed t.had
    none_failed = holds_at (λ (u : DriverTalk). NoneFailed u.had) talks d t s.links there

    -- the talk in which each path got a content
    module _ (best : GivesAll ahead ps d said.0) where
      same_number : (n : ℕ) → contains n best.talk.asked ≡ contains n t.asked
      same_number n = by (contains n best.talk.asked) (contains n t.asked) refl refl
        where
          by : (x y : Bool) → contains n best.talk.asked ≡ x → contains n t.asked ≡ y → contains n best.talk.asked ≡ contains n t.asked
          by true y e f = let p = best.over.each n e in e ∙ sym (all_asked n p.0 p.1 p.2)
          by false true e f = let p = said.2.over.each n f in best.over.asked n p.0 p.1 p.2 ∙ sym f
          by false false e f = e ∙ sym f

      same_asked : t.asked ≡ best.talk.asked
      same_asked = sym (same_rising best.talk.asked t.asked best.over.rises said.2.over.rises same_number)

      have_texts : HaveTexts best.talk.paths best.talk.asked
      have_texts m n is are same =
          let p = best.over.each m is in
          let q = best.over.each n are in
          same_place ps rise m n p.0 q.0 p.1 q.1 (sym p.3 ∙ same ∙ q.3)

      have_same_texts : HaveSameTexts best.talk.paths t.paths best.talk.asked
      have_same_texts n is =
          let p = best.over.each n is in
          let q = said.2.over.each n (sym (same_number n) ∙ is) in
          let same : p.0 ≡ q.0 = same_Some p.0 q.0 (sym p.1 ∙ q.1) in
          p.3 ∙ ap (λ (z : PathPlan). z.path) same ∙ sym q.3

      same_starts : ahead t.command ≡ StartsListed best.starts
      same_starts = ap ahead (same_Some t.command best.talk.command (sym said.2.command ∙ best.command)) ∙ best.told

      told_by_best : IsToldTalk d t.paths t.asked best.starts t.had t.exchanges
      told_by_best = told_talk object ahead ps drivers talks outcomes history s.ends d t there best.starts same_starts none_failed

      -- each path of the driver got a content
      got_as_told : (n : ℕ) → contains n t.asked ≡ true → heard_at d t n ≡ Some heard.Got
      got_as_told n asked =
          let u = best.talk in
          let own : contains n u.asked ≡ true = same_number n ∙ asked in
          let moved : IsToldTalk d t.paths u.asked best.starts t.had t.exchanges = subst (λ (ns : List ℕ). IsToldTalk d t.paths ns best.starts t.had t.exchanges) same_asked told_by_best in
          let same = (law d u.paths t.paths u.asked best.starts u.had t.had u.exchanges t.exchanges (apart u.asked best.over.rises) have_texts have_same_texts best.goes moved).0 n own in
          heard_if_asked d t n asked ∙ ap heard_by (sym same.0) ∙ sym (heard_if_asked d u n own) ∙ best.got n own

    -- by what is told of the starts, or by the talk itself
    got_if_asked : GivesAll ahead ps d said.0 ⊎ TalksGiveAll object ahead back ps d said.0 → (n : ℕ) → contains n t.asked ≡ true → heard_at d t n ≡ Some heard.Got
    got_if_asked (inl best) = got_as_told best
    got_if_asked (inr all) =
        let at = returned d t there in
        all (verdicts_of outcomes) history t sized said.2 at.0 at.1 none_failed (memory_is object ahead ps drivers talks outcomes history s.ends d t there)

    got : (n : ℕ) (p : PathPlan) → slice_get ps n ≡ Some p → is_at d p.start ≡ true → heard_at d t n ≡ Some heard.Got
    got n p at is = got_if_asked (gives d said.0 said.1) n (all_asked n p at is)

  -- a path doesn't fail
  path_fails_not : (n : ℕ) (p : PathPlan) (o : Outcome) → slice_get ps n ≡ Some p → FineAt object talks n p o → is_failed o.verdict ≡ false
  path_fails_not n p o at fine = by p.start refl (holds_at (IsRightPath object) ps n p right at) fine.has
    where
      by : (x : Start) → p.start ≡ x → IsRightStart x (object p.object) p → HasOutcome object talks x n p o → is_failed o.verdict ≡ false
      by (start.Done v) is r has = done_fails_not (object p.object) p o v r has.0
      by start.Pool is (text, (content, r)) has = open_fails_not (object p.object) p o o.verdict content text r has fine.leaf
      by (start.Desk d required) is (text, (content, r)) (text', t, there, has) =
          let at_d : is_at d p.start ≡ true = ap (is_at d) is ∙ eq-eqb d d refl in
          got_fails_not required d t n (object p.object) p o o.verdict content r (got d t there n p at at_d) has fine.leaf

failed_or : (a b : Bool) → a ≡ false → b ≡ false → (a || b) ≡ false
failed_or a b first second = rw (first, second) refl

none_fails : (object : List ℕ → Told) (talks : List DriverTalk) (n : ℕ) (ps : List PathPlan) (os : List Outcome) → AreOutcomes object talks n ps os → lacks_memory (verdicts_of os) ≡ false → failed_leaves (leaves_back ps os) ≡ 0
    → ((k : ℕ) (p : PathPlan) (o : Outcome) → slice_get ps k ≡ Some p → FineAt object talks (n + k) p o → is_failed o.verdict ≡ false) → list_any is_failed (verdicts_of os) ≡ false
none_fails object talks n [] [] fit memory none each = refl
none_fails object talks n [] (o ∷ os) fit memory none each = absurd fit
none_fails object talks n (p ∷ ps) [] fit memory none each = absurd fit
none_fails object talks n (p ∷ ps) (o ∷ os) fit memory none each =
    let first = first_fine object talks n p ps o os fit memory none in
    let here : ◌≡◌ {A = ℕ} n (n + zero) = omega arith in
    failed_or (is_failed o.verdict) (list_any is_failed (verdicts_of os))
    (each zero p o refl (subst (λ (m : ℕ). FineAt object talks m p o) here first.0))
    (none_fails object talks (suc n) ps os fit.1 first.1 first.2 (λ k q x at fine.
    let same : ◌≡◌ {A = ℕ} (suc n + k) (n + suc k) = omega arith in
    each (suc k) q x at (subst (λ (m : ℕ). FineAt object talks m q x) same fine)))

-- no path fails
pub paths_fail_not : (object : List ℕ → Told) (ahead : List ℕ → Starts) (ps : List PathPlan) (drivers : List Driver) (talks : List DriverTalk) (outcomes : List Outcome) (history : List Event) → IsSide object ahead ps drivers talks outcomes history
    → AllByRecursion (IsRightPath object) ps → pairwise precedes ps ≡ true → SameHeard → AreSized ps
    → (back : List (List ℕ × List Had)) → ((d : ℕ) (t : DriverTalk) → slice_get talks d ≡ Some t → (k : ℕ) × (slice_get back k ≡ Some (t.command, t.had)))
    → ((d : ℕ) (x : Driver) → slice_get drivers d ≡ Some x → GivesAll ahead ps d x ⊎ TalksGiveAll object ahead back ps d x) → list_any is_failed (verdicts_of outcomes) ≡ false
paths_fail_not object ahead ps drivers talks outcomes history s right rise law sized back returned gives =
    none_fails object talks 0 ps outcomes s.ends.fit s.ends.memory s.leaves (λ k p o at fine.
    let same : ◌≡◌ {A = ℕ} (0 + k) k = omega arith in
    path_fails_not object ahead ps drivers talks outcomes history s right rise law sized back returned gives k p o at (subst (λ (m : ℕ). FineAt object talks m p o) same fine))
