-- Two checkouts of one repository with the same drivers, in which no leaf and no link failed, are alike.
use Rattle.std.proofs.Common.{◌≡◌, ◌⊎◌, inl, inr, ◌+◌, ℕ, zero, suc, Bool, true, false, List, [], ◌∷◌, Option, Some, None, Ok, refl, sym, ap, ◌∙◌, subst, arith}
use Rattle.std.specs.Prelude.{slice_get}
use Rattle.std.proofs.lemmas.Bool.{eq-eqb}
use Rattle.std.proofs.lemmas.Option.{same_Some}
use Rattle.std.proofs.lemmas.List.Sums.{sum_by-append}
use Rattle.edge_kit.specs.Seen.{TreeSeen}
use Rattle.edge_kit.specs.Told.{Told, RepoTold, Tells}
use Rattle.edge_kit.specs.Starters.{Had, Starts, StartsListed, StartTold}
use Rattle.edge_kit.specs.declared.tree_file.TreeFile.{TreeFile}
use Rattle.settings_view.specs.declared.view.Driver.{Driver}
use Rattle.git_index.specs.Spelling.{OneReading, PathsAreOrdered}
use Rattle.delay_table.specs.Table.{contains}
use Rattle.checkout_core.specs.declared.event.Event.{Event}
use Rattle.checkout_core.specs.declared.path.Start.{Start}
use Rattle.checkout_core.specs.declared.path.Start.TheVariants as start
use Rattle.checkout_core.specs.declared.verdict.Verdict.{Verdict}
use Rattle.checkout_core.specs.States.{is_at}
use Rattle.checkout_core.specs.Fates.{Fate, Untold, Later, Known, heard_by}
use Rattle.checkout_core.specs.declared.path.Heard.{Heard}
use Rattle.checkout_core.specs.declared.path.Heard.TheVariants as heard
use Rattle.driver_line.specs.OneContent.{OneContent}
use Rattle.driver_line.specs.EqualSessions.{EqualSessions, IsTalkWith}
use Rattle.driver_line.specs.SameHeard.{SameHeard, NoneFailed, IsToldTalk, HaveTexts, HaveSamePaths, HaveSameTexts, content_of, fate_in}
use Rattle.checkout_plan.specs.declared.path_plan.PathPlan.{PathPlan}
use Rattle.checkout_plan.specs.declared.path_plan.Plan.{Plan}
use Rattle.checkout_engine.specs.Alike.{IsTold, RepoTellsAll, DifferInWorkers, IsUndisturbed, WorkersChangeNothing, SettingsChangeNothing, AreSameTalks, HearAlike, AreListed, TalksDecide, TalksHaveMemory}
use Rattle.checkout_engine.specs.SameFaults.{HaveSameItems}
use Rattle.checkout_paths.specs.Prepared.{IsPreparedTo}
use Rattle.tree_encoding.specs.declared.prepared.Prepared.{Prepared}
use Rattle.convert_plan.specs.Prepared.{prepared}
use Rattle.checkout_engine.specs.Complete.{failed_leaves}
use Rattle.checkout_engine.specs.Ends.{Seen, IsCheckedOut, verdicts_of, files_of}
use Rattle.checkout_paths.specs.Outcome.{Outcome, HasOutcome, AreOutcomes}
use Rattle.checkout_paths.specs.Paths.{leaves_back}
use Rattle.run_report.specs.Rows.{report}
use Rattle.checkout_engine.specs.Report.{lacks_memory}
use Rattle.checkout_paths.specs.Talks.{DriverTalk, IsDriverTalk, heard_at}
use Rattle.checkout_engine.proofs.Drivers.{planned_ordered}
use Rattle.checkout_engine.proofs.Order.{same_place}
use Rattle.checkout_engine.proofs.Rising.{apart, same_rising}
use Rattle.checkout_engine.proofs.SamePlan.{same_ok, same_plan, differs_not}
use Rattle.checkout_engine.proofs.ToldObjects.{found_of, gives_found}
use Rattle.checkout_engine.proofs.PathsAlike.{PathEnd, end_at, has_read, pool_is, heard_if_asked, same_desk_end}
use Rattle.checkout_engine.proofs.OneSide.{Ground, HasEnds, IsSide, FineAt, first_fine, holds_at, talk_at, driver, said, desk_end_is, asked_is, memory_is, told_talk}

-- a fate by which something is heard
known_by : (f : Fate) (h : Heard) → heard_by f ≡ Some h → f ≡ Known h
known_by (Known g) h e = ap Known (same_Some g h e)
known_by Untold h e = absurd cc
known_by Later h e = absurd cc

done_is : (o q : Outcome) (v : Verdict) → o.verdict ≡ v → o.file ≡ None → q.verdict ≡ v → q.file ≡ None → end_at o.verdict o.file ≡ end_at q.verdict q.file
done_is o q v a f b h = ap (λ (x : Verdict). end_at x o.file) (a ∙ sym b) ∙ ap (end_at q.verdict) (f ∙ sym h)

-- an object is prepared to one content
same_ready : (told : Told) (p : PathPlan) (r s : Prepared) → IsTold told → IsPreparedTo told p r → IsPreparedTo told p s → r ≡ s
same_ready told p r s is a b =
    let content : a.content ≡ b.content = same_ok a.content b.content (sym (gives_found told p.object (Ok a.content) is a.object) ∙ gives_found told p.object (Ok b.content) is b.object) in
    a.is ∙ ap (λ (c : List ℕ). prepared p.conversion p.object c) content ∙ sym b.is

module _ (object : List ℕ → Told) (ps : List PathPlan) (g : Ground object ps) (drivers : List Driver)
    (ahead : List ℕ → Starts) (talks : List DriverTalk) (outcomes : List Outcome) (history : List Event) (a : HasEnds object ahead ps drivers talks outcomes history)
    (ahead' : List ℕ → Starts) (talks' : List DriverTalk) (outcomes' : List Outcome) (history' : List Event) (b : HasEnds object ahead' ps drivers talks' outcomes' history') where
  module _ (d : ℕ) (t u : DriverTalk) (here : slice_get talks d ≡ Some t) (there : slice_get talks' d ≡ Some u) where
    -- the talks of the two with the driver
    first_said : IsDriverTalk ahead object ps (verdicts_of outcomes) history d (driver object ahead ps drivers talks outcomes history a d t here) t
    first_said = said object ahead ps drivers talks outcomes history a d t here

    second_said : IsDriverTalk ahead' object ps (verdicts_of outcomes') history' d (driver object ahead' ps drivers talks' outcomes' history' b d u there) u
    second_said = said object ahead' ps drivers talks' outcomes' history' b d u there

    same_command : u.command ≡ t.command
    same_command =
        let x = talk_at object ahead ps drivers talks outcomes history a d t here in
        let y = talk_at object ahead' ps drivers talks' outcomes' history' b d u there in
        let same : y.0 ≡ x.0 = same_Some y.0 x.0 (sym y.1 ∙ x.1) in
        same_Some u.command t.command (sym y.2.command ∙ ap (λ (z : Driver). z.process) same ∙ x.2.command)

    first_asked : (n : ℕ) (p : PathPlan) → slice_get ps n ≡ Some p → is_at d p.start ≡ true → contains n t.asked ≡ has_read (found_of (object p.object) p.object)
    first_asked n p at is = asked_is object ahead ps g drivers talks outcomes history a d t here n p at is

    second_asked : (n : ℕ) (p : PathPlan) → slice_get ps n ≡ Some p → is_at d p.start ≡ true → contains n u.asked ≡ has_read (found_of (object p.object) p.object)
    second_asked n p at is = asked_is object ahead' ps g drivers talks' outcomes' history' b d u there n p at is

    same_number : (n : ℕ) → contains n t.asked ≡ contains n u.asked
    same_number n = by (contains n t.asked) (contains n u.asked) refl refl
      where
        by : (x y : Bool) → contains n t.asked ≡ x → contains n u.asked ≡ y → contains n t.asked ≡ contains n u.asked
        by true y e f = let p = first_said.over.each n e in first_asked n p.0 p.1 p.2 ∙ sym (second_asked n p.0 p.1 p.2)
        by false true e f = let p = second_said.over.each n f in first_asked n p.0 p.1 p.2 ∙ sym (second_asked n p.0 p.1 p.2)
        by false false e f = e ∙ sym f

    pub same_asked : u.asked ≡ t.asked
    same_asked = sym (same_rising t.asked u.asked first_said.over.rises second_said.over.rises same_number)

    pub have_texts : HaveTexts t.paths t.asked
    have_texts m n is are same =
        let p = first_said.over.each m is in
        let q = first_said.over.each n are in
        same_place ps g.rise m n p.0 q.0 p.1 q.1 (sym p.3 ∙ same ∙ q.3)

    -- the texts, the objects' names and the prepared bytes of both
    pub have_same_paths : HaveSamePaths t.paths u.paths t.asked
    have_same_paths n is =
        let p = first_said.over.each n is in
        let q = second_said.over.each n (sym (same_number n) ∙ is) in
        let same : q.0 ≡ p.0 = same_Some q.0 p.0 (sym q.1 ∙ p.1) in
        let other : IsPreparedTo (object (p.0).object) p.0 q.5 = subst (λ (z : PathPlan). IsPreparedTo (object z.object) z q.5) same q.6 in (
          p.3 ∙ ap (λ (z : PathPlan). z.path) (sym same) ∙ sym q.3,
          p.4 ∙ ap (λ (z : PathPlan). z.object) (sym same) ∙ sym q.4,
          p.7 ∙ ap (λ (r : Prepared). r.bytes) (same_ready (object (p.0).object) p.0 p.5 q.5 (g.told (p.0).object) p.6 other) ∙ sym q.7,
        )

    have_same_texts : HaveSameTexts t.paths u.paths t.asked
    have_same_texts n is = (have_same_paths n is).0

    -- what both say is heard of each path that is asked for
    pub both_hear : ((n : ℕ) → contains n t.asked ≡ true → (fate_in d n t.exchanges ≡ fate_in d n u.exchanges) × (content_of n t.exchanges ≡ content_of n u.exchanges))
        → (n : ℕ) → contains n t.asked ≡ true → (heard_at d t n ≡ heard_at d u n) × (heard_at d t n ≡ Some heard.Got → content_of n t.exchanges ≡ content_of n u.exchanges)
    both_hear same n is = (heard_if_asked d t n is ∙ ap heard_by (same n is).0 ∙ sym (heard_if_asked d u n (sym (same_number n) ∙ is)), λ got. (same n is).1)

    pub same_talks : AreSameTalks t u
    same_talks = record { command = same_command; asked = same_asked; paths = have_same_paths }

    -- a path that heard the same in both, and got the same if it got one
    pub hear_alike : HearAlike d t u → (n : ℕ) → contains n t.asked ≡ true → (heard_at d t n ≡ heard_at d u n) × (heard_at d t n ≡ Some heard.Got → content_of n t.exchanges ≡ content_of n u.exchanges)
    hear_alike same n is = (
      heard_if_asked d t n is ∙ ap heard_by (same n is).0 ∙ sym (heard_if_asked d u n (sym (same_number n) ∙ is)),
      λ got. (same n is).1 (known_by (fate_in d n t.exchanges) heard.Got (sym (heard_if_asked d t n is) ∙ got)),
    )

    -- drivers that are told to write the same, where no link failed
    same_told : SameHeard → (starts : List StartTold) → ahead t.command ≡ StartsListed starts → ahead' u.command ≡ StartsListed starts → NoneFailed t.had → NoneFailed u.had
        → (n : ℕ) → contains n t.asked ≡ true → (heard_at d t n ≡ heard_at d u n) × (heard_at d t n ≡ Some heard.Got → content_of n t.exchanges ≡ content_of n u.exchanges)
    same_told law starts tells tells' fine fine' =
        let first : IsToldTalk d t.paths t.asked starts t.had t.exchanges = told_talk object ahead ps drivers talks outcomes history a d t here starts tells fine in
        let second : IsToldTalk d u.paths u.asked starts u.had u.exchanges = told_talk object ahead' ps drivers talks' outcomes' history' b d u there starts tells' fine' in
        let moved : IsToldTalk d u.paths t.asked starts u.had u.exchanges = subst (λ (asked : List ℕ). IsToldTalk d u.paths asked starts u.had u.exchanges) same_asked second in
        both_hear (law d t.paths u.paths t.asked starts t.had u.had t.exchanges u.exchanges (apart t.asked first_said.over.rises) have_texts have_same_texts first moved).0

    -- what two talks say alike under drivers whose starts are told one by one, or otherwise
    pub said_alike : SameHeard → ahead ≡ ahead' → NoneFailed t.had → NoneFailed u.had → AreListed (ahead t.command) ⊎ HearAlike d t u
        → (n : ℕ) → contains n t.asked ≡ true → (heard_at d t n ≡ heard_at d u n) × (heard_at d t n ≡ Some heard.Got → content_of n t.exchanges ≡ content_of n u.exchanges)
    said_alike law one fine fine' (inl starts) =
        same_told law starts.0 starts.1 (ap (λ (told : List ℕ → Starts). told u.command) (sym one) ∙ ap ahead same_command ∙ starts.1) fine fine'
    said_alike law one fine fine' (inr alike) = hear_alike alike

    -- equal sessions
    pub same_sessions : EqualSessions → HaveSameItems ahead ahead' d t u → (n : ℕ) → contains n t.asked ≡ true → (heard_at d t n ≡ heard_at d u n) × (heard_at d t n ≡ Some heard.Got → content_of n t.exchanges ≡ content_of n u.exchanges)
    same_sessions law items =
        let first : IsTalkWith d t.paths t.asked (items.0).full t.exchanges =
        record { items = t.had; fills = (items.0).fills; talk = (items.0).talk; memory = memory_is object ahead ps drivers talks outcomes history a d t here } in
        let second : IsTalkWith d u.paths u.asked (items.1).full u.exchanges =
        record { items = u.had; fills = (items.1).fills; talk = (items.1).talk; memory = memory_is object ahead' ps drivers talks' outcomes' history' b d u there } in
        let moved : IsTalkWith d u.paths t.asked (items.0).full u.exchanges =
        subst (λ (full : List Had). IsTalkWith d u.paths t.asked full u.exchanges) (sym items.2) (subst (λ (asked : List ℕ). IsTalkWith d u.paths asked (items.1).full u.exchanges) same_asked second) in
        both_hear (law d t.paths u.paths t.asked (items.0).full t.exchanges u.exchanges (apart t.asked first_said.over.rises) have_texts have_same_paths first moved).0

  -- each path that is asked for heard the same in both, and got the same if it got one
  abbrev pub AllHearAlike : Type 0
  AllHearAlike = (d : ℕ) (t u : DriverTalk) → slice_get talks d ≡ Some t → slice_get talks' d ≡ Some u
      → (n : ℕ) → contains n t.asked ≡ true → (heard_at d t n ≡ heard_at d u n) × (heard_at d t n ≡ Some heard.Got → content_of n t.exchanges ≡ content_of n u.exchanges)

  -- a path ends in the same way in both
  pub same_path : AllHearAlike → (n : ℕ) (p : PathPlan) (o q : Outcome) → slice_get ps n ≡ Some p → FineAt object talks n p o → FineAt object talks' n p q → end_at o.verdict o.file ≡ end_at q.verdict q.file
  same_path hear n p o q at x y = by p.start refl x.has y.has
    where
      by : (s : Start) → p.start ≡ s → HasOutcome object talks s n p o → HasOutcome object talks' s n p q → end_at o.verdict o.file ≡ end_at q.verdict q.file
      by (start.Done v) is f h = done_is o q v f.0 f.1.file h.0 h.1.file
      by start.Pool is f h = pool_is (object p.object) p o (g.told p.object) o.verdict f x.memory x.leaf ∙ sym (pool_is (object p.object) p q (g.told p.object) q.verdict h y.memory y.leaf)
      by (start.Desk d required) is (text, t, here, f) (text', u, there, h) =
          let at_d : is_at d p.start ≡ true = ap (is_at d) is ∙ eq-eqb d d refl in
          desk_end_is object ahead ps g drivers talks outcomes history a d t here n p o required at f x.memory x.leaf
          ∙ same_desk_end (found_of (object p.object) p.object) (heard_at d t n) (heard_at d u n) required (content_of n t.exchanges) (content_of n u.exchanges) p
          (λ read. hear d t u here there n (first_asked d t u here there n p at at_d ∙ read))
          ∙ sym (desk_end_is object ahead' ps g drivers talks' outcomes' history' b d u there n p q required at h y.memory y.leaf)

-- outcomes that end in the same way, path by path
same_outcomes : (object : List ℕ → Told) (talks talks' : List DriverTalk) (n : ℕ) (ps : List PathPlan) (os qs : List Outcome) → AreOutcomes object talks n ps os → AreOutcomes object talks' n ps qs
    → lacks_memory (verdicts_of os) ≡ false → lacks_memory (verdicts_of qs) ≡ false → failed_leaves (leaves_back ps os) ≡ 0 → failed_leaves (leaves_back ps qs) ≡ 0
    → ((k : ℕ) (p : PathPlan) (o q : Outcome) → slice_get ps k ≡ Some p → FineAt object talks (n + k) p o → FineAt object talks' (n + k) p q → end_at o.verdict o.file ≡ end_at q.verdict q.file)
    → (verdicts_of os ≡ verdicts_of qs) × (files_of os ≡ files_of qs)
same_outcomes object talks talks' n [] [] [] f h m k l r each = (refl, refl)
same_outcomes object talks talks' n [] (o ∷ os) qs f h m k l r each = absurd f
same_outcomes object talks talks' n [] [] (q ∷ qs) f h m k l r each = absurd h
same_outcomes object talks talks' n (p ∷ ps) [] qs f h m k l r each = absurd f
same_outcomes object talks talks' n (p ∷ ps) (o ∷ os) [] f h m k l r each = absurd h
same_outcomes object talks talks' n (p ∷ ps) (o ∷ os) (q ∷ qs) f h m k l r each =
    let first = first_fine object talks n p ps o os f m l in
    let second = first_fine object talks' n p ps q qs h k r in
    let zero_more : ◌≡◌ {A = ℕ} n (n + zero) = omega arith in
    let here : end_at o.verdict o.file ≡ end_at q.verdict q.file =
    each zero p o q refl (subst (λ (m : ℕ). FineAt object talks m p o) zero_more first.0) (subst (λ (m : ℕ). FineAt object talks' m p q) zero_more second.0) in
    let rest = same_outcomes object talks talks' (suc n) ps os qs f.1 h.1 first.1 second.1 first.2 second.2 (λ i x y z at fine fine'.
    let same : ◌≡◌ {A = ℕ} (suc n + i) (n + suc i) = omega arith in
    each (suc i) x y z at (subst (λ (m : ℕ). FineAt object talks m x y) same fine) (subst (λ (m : ℕ). FineAt object talks' m x z) same fine')) in
    let verdict : o.verdict ≡ q.verdict = ap (λ (e : PathEnd). e.verdict) here in
    let file : o.file ≡ q.file = ap (λ (e : PathEnd). e.file) here in
    (rw (verdict, rest.0) refl, rw (file, rest.1) refl)

pub ends_of : (told : RepoTold) (ahead : List ℕ → Starts) (asked : Option ℕ) (old new : Seen) (c : IsCheckedOut told ahead asked old new) → lacks_memory (verdicts_of c.outcomes) ≡ false
    → HasEnds told.object ahead c.plan.paths c.plan.drivers c.talks c.outcomes new.history
ends_of told ahead asked old new c memory = record { fit = c.verdicts; conversations = c.conversations; memory = memory }

pub side_of : (told : RepoTold) (ahead : List ℕ → Starts) (asked : Option ℕ) (old new : Seen) (c : IsCheckedOut told ahead asked old new) → IsUndisturbed c
    → IsSide told.object ahead c.plan.paths c.plan.drivers c.talks c.outcomes new.history
side_of told ahead asked old new c u =
    let grew : failed_leaves new.tree.returned ≡ failed_leaves old.tree.returned + failed_leaves (leaves_back c.plan.paths c.outcomes) =
    ap (λ (t : TreeSeen). failed_leaves t.returned) c.leaves ∙ sum_by-append (λ l. l.2) old.tree.returned (leaves_back c.plan.paths c.outcomes) in
    let none : failed_leaves (leaves_back c.plan.paths c.outcomes) ≡ 0 = omega (arith, grew, u.leaves) in
    record { ends = ends_of told ahead asked old new c u.memory; leaves = none; links = u.links }

tells : (told : Option (List TreeFile)) (fs gs : List TreeFile) → told ≡ Some fs → Tells told gs → fs ≡ gs
tells told fs gs is has = subst (λ (t : Option (List TreeFile)). Tells t gs) is has

differ_by : (told told' : RepoTold) → RepoTellsAll told → (told' ≡ told) ⊎ DifferInWorkers told told' → DifferInWorkers told told'
differ_by told told' repo (inl same) = subst (λ (x : RepoTold). DifferInWorkers told x) (sym same) (differs_not told repo.config)
differ_by told told' repo (inr differ) = differ

pub alike_talks : OneReading → PathsAreOrdered → SameHeard → OneContent → TalksDecide
alike_talks reading ordered law one told told' ahead a b old new before after repo hold c e u w say =
    let differ = differ_by told told' repo hold in
    let plan : c.plan ≡ e.plan = same_plan reading told told' c.plan e.plan repo differ c.planned e.planned in
    let ground : Ground told.object c.plan.paths = record { told = repo.object; rise = planned_ordered ordered told c.plan c.planned; one = one } in
    let first = side_of told ahead a old new c u in
    let other : IsSide told.object ahead e.plan.paths e.plan.drivers e.talks e.outcomes after.history =
    subst (λ (object : List ℕ → Told). IsSide object ahead e.plan.paths e.plan.drivers e.talks e.outcomes after.history) differ.object (side_of told' ahead b before after e w) in
    let second : IsSide told.object ahead c.plan.paths c.plan.drivers e.talks e.outcomes after.history =
    subst (λ (p : Plan). IsSide told.object ahead p.paths p.drivers e.talks e.outcomes after.history) (sym plan) other in
    let hear : AllHearAlike told.object c.plan.paths ground c.plan.drivers ahead c.talks c.outcomes new.history first.ends ahead e.talks e.outcomes after.history second.ends = λ d t u here there.
    said_alike told.object c.plan.paths ground c.plan.drivers ahead c.talks c.outcomes new.history first.ends ahead e.talks e.outcomes after.history second.ends d t u here there law refl
    (holds_at (λ (x : DriverTalk). NoneFailed x.had) c.talks d t first.links here) (holds_at (λ (x : DriverTalk). NoneFailed x.had) e.talks d u second.links there)
    (say d t u here there (same_talks told.object c.plan.paths ground c.plan.drivers ahead c.talks c.outcomes new.history first.ends ahead e.talks e.outcomes after.history second.ends d t u here there)) in
    let same = same_outcomes told.object c.talks e.talks 0 c.plan.paths c.outcomes e.outcomes first.ends.fit second.ends.fit first.ends.memory second.ends.memory first.leaves second.leaves (λ k p o q at fine fine'.
    let here : ◌≡◌ {A = ℕ} (0 + k) k = omega arith in
    same_path told.object c.plan.paths ground c.plan.drivers ahead c.talks c.outcomes new.history first.ends ahead e.talks e.outcomes after.history second.ends hear k p o q at
    (subst (λ (m : ℕ). FineAt told.object c.talks m p o) here fine) (subst (λ (m : ℕ). FineAt told.object e.talks m p q) here fine')) in
    record {
      plan = plan;
      verdicts = same.0;
      files = same.1;
      report = ap (λ (p : Plan). report p.paths (verdicts_of c.outcomes)) plan ∙ ap (report e.plan.paths) same.0;
      trees = λ fs gs here there. tells new.tree.files fs (files_of c.outcomes) here c.files ∙ same.1 ∙ sym (tells after.tree.files gs (files_of e.outcomes) there e.files);
    }

pub alike_settings : OneReading → PathsAreOrdered → SameHeard → OneContent → SettingsChangeNothing
alike_settings reading ordered law one told told' ahead a b old new before after all differ c e u w =
    alike_talks reading ordered law one told told' ahead a b old new before after all.repo (inr differ) c e u w (λ d t v here there same. inl (all.starts t.command))

pub alike_words : OneReading → PathsAreOrdered → SameHeard → OneContent → WorkersChangeNothing
alike_words reading ordered law one told ahead a b old new before after all c e u w =
    alike_settings reading ordered law one told told ahead a b old new before after all (differs_not told all.repo.config) c e u w

pub had_memory : TalksHaveMemory
had_memory told ahead asked old new c memory d t there =
    memory_is told.object ahead c.plan.paths c.plan.drivers c.talks c.outcomes new.history (ends_of told ahead asked old new c memory) d t there
