-- One checkout in which no leaf and no link failed and memory was left: what its talks and outcomes come from.
use Rattle.std.proofs.Common.{◌≡◌, ◌+◌, ◌||◌, ◌⊎◌, ℕ, zero, suc, Bool, true, false, List, [], ◌∷◌, Some, Ok, refl, sym, ap, ◌∙◌, subst, inl, inr, arith}
use Rattle.std.specs.Prelude.{slice_get}
use Rattle.std.specs.List.{AllByRecursion}
use Rattle.std.proofs.lemmas.Bool.{eqb-true}
use Rattle.std.proofs.lemmas.Option.{same_Some, slice_get-map}
use Rattle.std.specs.Option.{option_map}
use Rattle.std.proofs.lemmas.List.Sums.{sum_by-append}
use Rattle.edge_kit.specs.Told.{Told}
use Rattle.edge_kit.specs.Starters.{Starts, StartsListed, StartTold}
use Rattle.settings_view.specs.declared.view.Driver.{Driver}
use Rattle.filter_words.specs.declared.reply.Reply.TheVariants as reply
use Rattle.delay_table.specs.Table.{contains}
use Rattle.checkout_core.specs.declared.event.Event.{Event}
use Rattle.checkout_core.specs.declared.path.Start.{Start}
use Rattle.checkout_core.specs.declared.path.Start.TheVariants as start
use Rattle.checkout_core.specs.declared.verdict.Verdict.{Verdict}
use Rattle.checkout_core.specs.States.{is_at}
use Rattle.checkout_core.specs.Fates.{heard_by}
use Rattle.git_index.specs.Spelling.{pairwise}
use Rattle.driver_desk.specs.Serving.{HasAnswer}
use Rattle.driver_line.specs.Conversations.{Exchange, NoStart, NoRoom, Opening, First, Listing, Second, Shutting}
use Rattle.driver_line.specs.OneContent.{OneContent, HasGiven, Gives}
use Rattle.driver_line.specs.SameHeard.{NoneFailed, IsToldTalk, content_of}
use Rattle.driver_line.specs.ToldStarts.{GoBy}
use Rattle.checkout_plan.specs.declared.path_plan.PathPlan.{PathPlan}
use Rattle.checkout_engine.specs.Alike.{IsTold}
use Rattle.checkout_engine.specs.Complete.{failed_leaves, HadMemory}
use Rattle.checkout_engine.specs.Ends.{verdicts_of}
use Rattle.checkout_paths.specs.Outcome.{Outcome, HasOutcome, AreOutcomes, HasDeskVerdict, leaf_back}
use Rattle.checkout_paths.specs.Paths.{leaves_back}
use Rattle.checkout_engine.specs.Report.{lacks_memory}
use Rattle.checkout_paths.specs.Talks.{DriverTalk, IsDriverTalk, AreDriverTalks, heard_at, Gave, was_read, is_no_memory}
use Rattle.checkout_paths.specs.Cards.{precedes}
use Rattle.checkout_engine.proofs.Rising.{apart}
use Rattle.checkout_engine.proofs.ToldObjects.{found_of, gives_found}
use Rattle.checkout_engine.proofs.PathsAlike.{end_at, desk_end, has_read, desk_is, read_by, not_wanting, heard_if_asked}

-- what both checkouts stand on
pub record Ground (object : List ℕ → Told) (ps : List PathPlan) : Type 0 where
  pub told : (name : List ℕ) → IsTold (object name)
  pub rise : pairwise precedes ps ≡ true
  pub one : OneContent

-- what each of them has by itself
pub record HasEnds (object : List ℕ → Told) (ahead : List ℕ → Starts) (ps : List PathPlan) (drivers : List Driver) (talks : List DriverTalk) (outcomes : List Outcome) (history : List Event) : Type 0 where
  pub fit : AreOutcomes object talks 0 ps outcomes
  pub conversations : AreDriverTalks ahead object ps (verdicts_of outcomes) history 0 drivers talks
  pub memory : lacks_memory (verdicts_of outcomes) ≡ false

-- the same of one in which no leaf and no link failed
pub record IsSide (object : List ℕ → Told) (ahead : List ℕ → Starts) (ps : List PathPlan) (drivers : List Driver) (talks : List DriverTalk) (outcomes : List Outcome) (history : List Event) : Type 0 where
  pub ends : HasEnds object ahead ps drivers talks outcomes history
  pub leaves : failed_leaves (leaves_back ps outcomes) ≡ 0
  pub links : AllByRecursion (λ t. NoneFailed t.had) talks

-- an outcome of the path n for which there was memory
pub record EndsAt (object : List ℕ → Told) (talks : List DriverTalk) (n : ℕ) (p : PathPlan) (o : Outcome) : Type 0 where
  pub has : HasOutcome object talks p.start n p o
  pub memory : is_no_memory o.verdict ≡ false

-- and whose leaf didn't fail
pub record FineAt (object : List ℕ → Told) (talks : List DriverTalk) (n : ℕ) (p : PathPlan) (o : Outcome) : Type 0 where
  pub has : HasOutcome object talks p.start n p o
  pub memory : is_no_memory o.verdict ≡ false
  pub leaf : failed_leaves (leaf_back p o.leaf) ≡ 0

both_false : (a b : Bool) → (a || b) ≡ false → (a ≡ false) × (b ≡ false)
both_false true b e = absurd cc
both_false false b e = (refl, e)

-- the first outcome, and the others
pub first_fine : (object : List ℕ → Told) (talks : List DriverTalk) (n : ℕ) (p : PathPlan) (ps : List PathPlan) (o : Outcome) (os : List Outcome) → AreOutcomes object talks n (p ∷ ps) (o ∷ os) → lacks_memory (verdicts_of (o ∷ os)) ≡ false
    → failed_leaves (leaves_back (p ∷ ps) (o ∷ os)) ≡ 0 → FineAt object talks n p o × (lacks_memory (verdicts_of os) ≡ false) × (failed_leaves (leaves_back ps os) ≡ 0)
first_fine object talks n p ps o os fit memory none =
    let left = both_false (is_no_memory o.verdict) (lacks_memory (verdicts_of os)) memory in
    let both : failed_leaves (leaf_back p o.leaf) + failed_leaves (leaves_back ps os) ≡ 0 = sym (sum_by-append (λ l. l.2) (leaf_back p o.leaf) (leaves_back ps os)) ∙ none in
    let here : failed_leaves (leaf_back p o.leaf) ≡ 0 = omega (arith, both) in
    let there : failed_leaves (leaves_back ps os) ≡ 0 = omega (arith, both) in
    (record { has = fit.0; memory = left.0; leaf = here }, left.1, there)

pub first_ends : (object : List ℕ → Told) (talks : List DriverTalk) (n : ℕ) (p : PathPlan) (ps : List PathPlan) (o : Outcome) (os : List Outcome) → AreOutcomes object talks n (p ∷ ps) (o ∷ os) → lacks_memory (verdicts_of (o ∷ os)) ≡ false
    → EndsAt object talks n p o × (lacks_memory (verdicts_of os) ≡ false)
first_ends object talks n p ps o os fit memory =
    let left = both_false (is_no_memory o.verdict) (lacks_memory (verdicts_of os)) memory in
    (record { has = fit.0; memory = left.0 }, left.1)

pub outcome_from : (object : List ℕ → Told) (talks : List DriverTalk) (n : ℕ) (ps : List PathPlan) (os : List Outcome) → AreOutcomes object talks n ps os → lacks_memory (verdicts_of os) ≡ false
    → (k : ℕ) (p : PathPlan) → slice_get ps k ≡ Some p → (o : Outcome) × (slice_get os k ≡ Some o) × EndsAt object talks (n + k) p o
outcome_from object talks n [] os fit memory k p at = absurd cc
outcome_from object talks n (q ∷ ps) [] fit memory k p at = absurd fit
outcome_from object talks n (q ∷ ps) (o ∷ os) fit memory zero p at =
    let here : ◌≡◌ {A = ℕ} n (n + zero) = omega arith in
    let first : EndsAt object talks n q o = (first_ends object talks n q ps o os fit memory).0 in
    (o, refl, subst (λ (m : ℕ). EndsAt object talks m p o) here (subst (λ (r : PathPlan). EndsAt object talks n r o) (same_Some q p at) first))
outcome_from object talks n (q ∷ ps) (o ∷ os) fit memory (suc k) p at =
    let first = first_ends object talks n q ps o os fit memory in
    let more = outcome_from object talks (suc n) ps os fit.1 first.1 k p at in
    let same : ◌≡◌ {A = ℕ} (suc n + k) (n + suc k) = omega arith in
    (more.0, more.1, subst (λ (m : ℕ). EndsAt object talks m p more.0) same more.2)

pub talk_from : (ahead : List ℕ → Starts) (object : List ℕ → Told) (ps : List PathPlan) (vs : List Verdict) (history : List Event) (m : ℕ) (xs : List Driver) (ts : List DriverTalk) → AreDriverTalks ahead object ps vs history m xs ts
    → (d : ℕ) (t : DriverTalk) → slice_get ts d ≡ Some t → (x : Driver) × (slice_get xs d ≡ Some x) × IsDriverTalk ahead object ps vs history (m + d) x t
talk_from ahead object ps vs history m [] [] are d t at = absurd cc
talk_from ahead object ps vs history m [] (u ∷ ts) are d t at = absurd are
talk_from ahead object ps vs history m (x ∷ xs) [] are d t at = absurd are
talk_from ahead object ps vs history m (x ∷ xs) (u ∷ ts) are zero t at =
    let here : ◌≡◌ {A = ℕ} m (m + zero) = omega arith in
    (x, refl, subst (λ (k : ℕ). IsDriverTalk ahead object ps vs history k x t) here (subst (λ (r : DriverTalk). IsDriverTalk ahead object ps vs history m x r) (same_Some u t at) are.0))
talk_from ahead object ps vs history m (x ∷ xs) (u ∷ ts) are (suc d) t at =
    let more = talk_from ahead object ps vs history (suc m) xs ts are.1 d t at in
    let same : ◌≡◌ {A = ℕ} (suc m + d) (m + suc d) = omega arith in
    (more.0, more.1, subst (λ (k : ℕ). IsDriverTalk ahead object ps vs history k more.0 t) same more.2)

pub holds_at : {X : Type 0} (P : X → Type 0) (xs : List X) (k : ℕ) (x : X) → AllByRecursion P xs → slice_get xs k ≡ Some x → P x
holds_at P [] k x all at = absurd cc
holds_at P (y ∷ ys) zero x all at = subst P (same_Some y x at) all.0
holds_at P (y ∷ ys) (suc k) x all at = holds_at P ys k x all.1 at

-- the start of a driver's path
pub desk_of : (d : ℕ) (s : Start) → is_at d s ≡ true → (required : Bool) × (s ≡ start.Desk d required)
desk_of d (start.Desk e required) is = (required, ap (λ (k : ℕ). start.Desk k required) (sym (eqb-true d e is)))
desk_of d start.Pool is = absurd cc
desk_of d (start.Done v) is = absurd cc

answer_given : (e : Exchange) (n : ℕ) (answer : List ℕ) (es : List Exchange) → HasAnswer (e ∷ es) n (Some answer) → Gives e n answer ⊎ HasAnswer es n (Some answer)
answer_given (First q reply.Content c) n answer es (inl g) = inl g
answer_given (Second q reply.Content c) n answer es (inl g) = inl g
answer_given (First q reply.Error c) n answer es (inl g) = absurd g
answer_given (First q reply.ErrorAfter c) n answer es (inl g) = absurd g
answer_given (First q reply.Delayed c) n answer es (inl g) = absurd g
answer_given (First q reply.Abort c) n answer es (inl g) = absurd g
answer_given (First q (reply.Broken why) c) n answer es (inl g) = absurd g
answer_given (First q reply.NoMemory c) n answer es (inl g) = absurd g
answer_given (Second q reply.Error c) n answer es (inl g) = absurd g
answer_given (Second q reply.ErrorAfter c) n answer es (inl g) = absurd g
answer_given (Second q reply.Delayed c) n answer es (inl g) = absurd g
answer_given (Second q reply.Abort c) n answer es (inl g) = absurd g
answer_given (Second q (reply.Broken why) c) n answer es (inl g) = absurd g
answer_given (Second q reply.NoMemory c) n answer es (inl g) = absurd g
answer_given (NoStart q) n answer es (inl g) = absurd g
answer_given (NoRoom q) n answer es (inl g) = absurd g
answer_given (Opening q end) n answer es (inl g) = absurd g
answer_given (Listing late names r) n answer es (inl g) = absurd g
answer_given Shutting n answer es (inl g) = absurd g
answer_given e n answer es (inr g) = inr g

answers_given : (es : List Exchange) (n : ℕ) (answer : List ℕ) → HasAnswer es n (Some answer) → HasGiven es n answer
answers_given [] n answer has = has
answers_given (e ∷ es) n answer has = elim (answer_given e n answer es has) [
  | inl g ↦ inl g
  | inr more ↦ inr (answers_given es n answer more)
]

module _ (object : List ℕ → Told) (ahead : List ℕ → Starts) (ps : List PathPlan) (drivers : List Driver) (talks : List DriverTalk) (outcomes : List Outcome) (history : List Event)
    (s : HasEnds object ahead ps drivers talks outcomes history) where
  pub outcome_at : (n : ℕ) (p : PathPlan) → slice_get ps n ≡ Some p → (o : Outcome) × (slice_get outcomes n ≡ Some o) × EndsAt object talks n p o
  outcome_at n p at =
      let o = outcome_from object talks 0 ps outcomes s.fit s.memory n p at in
      let same : ◌≡◌ {A = ℕ} (0 + n) n = omega arith in
      (o.0, o.1, subst (λ (m : ℕ). EndsAt object talks m p o.0) same o.2)

  pub talk_at : (d : ℕ) (t : DriverTalk) → slice_get talks d ≡ Some t → (x : Driver) × (slice_get drivers d ≡ Some x) × IsDriverTalk ahead object ps (verdicts_of outcomes) history d x t
  talk_at d t at =
      let x = talk_from ahead object ps (verdicts_of outcomes) history 0 drivers talks s.conversations d t at in
      let same : ◌≡◌ {A = ℕ} (0 + d) d = omega arith in
      (x.0, x.1, subst (λ (k : ℕ). IsDriverTalk ahead object ps (verdicts_of outcomes) history k x.0 t) same x.2)

  module _ (d : ℕ) (t : DriverTalk) (there : slice_get talks d ≡ Some t) where
    abbrev pub driver : Driver
    driver = (talk_at d t there).0

    pub said : IsDriverTalk ahead object ps (verdicts_of outcomes) history d driver t
    said = (talk_at d t there).2

    -- the outcome of a path of the driver
    pub at_desk : (n : ℕ) (p : PathPlan) → slice_get ps n ≡ Some p → is_at d p.start ≡ true
        → (o : Outcome) × (slice_get outcomes n ≡ Some o) × (required : Bool) × HasDeskVerdict required d t n (object p.object) p o o.verdict × (is_no_memory o.verdict ≡ false)
    at_desk n p at is =
        let o = outcome_at n p at in
        let desk = desk_of d p.start is in
        let has : HasOutcome object talks (start.Desk d desk.0) n p o.0 = subst (λ (x : Start). HasOutcome object talks x n p o.0) desk.1 o.2.has in
        let same : has.1 ≡ t = same_Some has.1 t (sym has.2 ∙ there) in
        (o.0, o.1, desk.0, subst (λ (u : DriverTalk). HasDeskVerdict desk.0 d u n (object p.object) p o.0 (o.0).verdict) same has.3, o.2.memory)

    -- the talk asks for the verdict's path if its object was read
    pub verdict_asked : (n : ℕ) (p : PathPlan) (o : Outcome) → slice_get ps n ≡ Some p → is_at d p.start ≡ true → slice_get outcomes n ≡ Some o → is_no_memory o.verdict ≡ false → contains n t.asked ≡ was_read o.verdict
    verdict_asked n p o at is has memory = said.over.asked n p o.verdict at (slice_get-map (λ (x : Outcome). x.verdict) outcomes n ∙ ap (option_map (λ (x : Outcome). x.verdict)) has) is memory

    pub memory_is : HadMemory d t
    memory_is n is wants =
        let e = said.over.each n is in
        let o = at_desk n e.0 e.1 e.2 in
        let read : was_read (o.0).verdict ≡ true = sym (verdict_asked n e.0 o.0 e.1 e.2 o.1 o.4) ∙ is in
        not_wanting o.2 d t n (object (e.0).object) e.0 o.0 (o.0).verdict o.3 o.4 read (heard_if_asked d t n is ∙ ap heard_by wants)

    pub told_talk : (starts : List StartTold) → ahead t.command ≡ StartsListed starts → NoneFailed t.had → IsToldTalk d t.paths t.asked starts t.had t.exchanges
    told_talk starts is fine = record {
      full = said.talk.full;
      fills = said.talk.fills;
      talk = said.talk.talk;
      left = said.talk.left;
      goes = subst (λ (told : Starts). GoBy told said.talk.full said.talk.left) is said.talk.starts;
      fine = fine;
      memory = memory_is;
    }

module _ (object : List ℕ → Told) (ahead : List ℕ → Starts) (ps : List PathPlan) (g : Ground object ps) (drivers : List Driver) (talks : List DriverTalk) (outcomes : List Outcome) (history : List Event)
    (s : HasEnds object ahead ps drivers talks outcomes history) (d : ℕ) (t : DriverTalk) (there : slice_get talks d ≡ Some t) where
  abbrev own : IsDriverTalk ahead object ps (verdicts_of outcomes) history d (driver object ahead ps drivers talks outcomes history s d t there) t
  own = said object ahead ps drivers talks outcomes history s d t there

  pub given : (n : ℕ) (answer : List ℕ) → Gave t n answer → content_of n t.exchanges ≡ Some answer
  given n answer gave = g.one d t.paths t.asked own.talk.full t.exchanges (apart t.asked own.over.rises) own.talk.talk n answer (answers_given t.exchanges n answer gave)

  -- a path that is asked for has an object that is right
  pub read_in : (n : ℕ) (p : PathPlan) → slice_get ps n ≡ Some p → contains n t.asked ≡ true → (content : List ℕ) × (found_of (object p.object) p.object ≡ Ok content)
  read_in n p at is =
      let e = own.over.each n is in
      let same : e.0 ≡ p = same_Some e.0 p (sym e.1 ∙ at) in
      let content : List ℕ = e.6.content in
      (content, subst (λ (q : PathPlan). found_of (object q.object) q.object ≡ Ok content) same (gives_found (object (e.0).object) (e.0).object (Ok content) (g.told (e.0).object) e.6.object))

  -- how a path of the driver ends
  pub desk_end_is : (n : ℕ) (p : PathPlan) (o : Outcome) (required : Bool) → slice_get ps n ≡ Some p → HasDeskVerdict required d t n (object p.object) p o o.verdict → is_no_memory o.verdict ≡ false → failed_leaves (leaf_back p o.leaf) ≡ 0
      → end_at o.verdict o.file ≡ desk_end (found_of (object p.object) p.object) (heard_at d t n) required (content_of n t.exchanges) p
  desk_end_is n p o required at has memory leaf = desk_is required d t n (object p.object) p o (g.told p.object) (read_in n p at) (given n) o.verdict has memory leaf

  -- just the paths of the driver whose object is right are asked for
  pub asked_is : (n : ℕ) (p : PathPlan) → slice_get ps n ≡ Some p → is_at d p.start ≡ true → contains n t.asked ≡ has_read (found_of (object p.object) p.object)
  asked_is n p at is =
      let o = at_desk object ahead ps drivers talks outcomes history s d t there n p at is in
      verdict_asked object ahead ps drivers talks outcomes history s d t there n p o.0 at is o.1 o.4 ∙ read_by o.2 d t n (object p.object) p o.0 (g.told p.object) (read_in n p at) (o.0).verdict o.3 o.4
