-- What the paths of a driver heard in a checkout, against the talk that its script tells.
use Rattle.std.proofs.Common.{◌≡◌, ℕ, zero, suc, ◌+◌, ◌*◌, ◌<◌, inl, inr, ⊎_elim, Bool, true, false, cond, List, [], ◌∷◌, Some, None, refl, sym, ap, ◌∙◌, subst, arith, eq-eqb}
use Rattle.std.specs.Prelude.{slice_get}
use Rattle.std.specs.List.{AllByRecursion}
use Rattle.std.proofs.lemmas.Bool.{true≢false}
use Rattle.edge_kit.specs.MemoryDrivers.{starts_for}
use Rattle.edge_kit.specs.Starters.{Had, Starts, StartsListed, Gives}
use Rattle.edge_kit.specs.Told.{RepoTold}
use Rattle.object_dir.specs.Spelling.{spelled_blob}
use Rattle.settings_view.specs.declared.view.Driver.{Driver}
use Rattle.delay_table.specs.Table.{contains, AreApart}
use Rattle.checkout_core.specs.declared.event.Event.{Event}
use Rattle.checkout_core.specs.declared.path.Heard.TheVariants as heard
use Rattle.checkout_core.specs.declared.path.Start.{Start}
use Rattle.checkout_core.specs.declared.path.Start.TheVariants as start
use Rattle.checkout_core.specs.Fates.{Known, heard_by}
use Rattle.checkout_core.specs.States.{is_at}
use Rattle.driver_line.specs.Conversations.{Exchange}
use Rattle.driver_line.specs.OneContent.{Gives as GivesContent, HasGiven, OneContent}
use Rattle.driver_line.specs.SameHeard.{HaveTexts, IsToldTalk, SameHeard, fate_in, content_of}
use Rattle.driver_line.specs.Conversations.{First, Second, NoStart, NoRoom, Opening, Listing, Shutting}
use Rattle.filter_words.specs.declared.reply.Reply.TheVariants as reply
use Rattle.driver_line.specs.ToldStarts.{GoBy}
use Rattle.driver_desk.specs.Serving.{HasAnswer, IsAnswer}
use Rattle.checkout_plan.specs.declared.path_plan.PathPlan.{PathPlan}
use Rattle.checkout_engine.specs.Ends.{verdicts_of}
use Rattle.checkout_paths.specs.Outcome.{Outcome, HasOutcome, HasDeskVerdict}
use Rattle.checkout_paths.specs.Talks.{DriverTalk, IsDriverTalk, heard_at, Gave, is_no_memory}
use Rattle.rehearsal.specs.Paths.{kind, name, content}
use Rattle.rehearsal.specs.Drivers.{scripts}
use Rattle.rehearsal_numbers.specs.Plans.{paths_of, attributes_path, path_at, start_at, beta_number}
use Rattle.rehearsal_numbers.proofs.Asked.{below_eight}
use Rattle.rehearsal_numbers.proofs.Marked.{Mark, places, Among, Rises, all_at, all_from, holds, found}
use Rattle.rehearsal_numbers.proofs.Alpha.{HaveNames}
use Rattle.rehearsal_numbers.proofs.Rising.{IsRising, same_rising}
use Rattle.rehearsal_numbers.proofs.Rising as rising
use Rattle.rehearsal_numbers.proofs.Objects.{content_right}
use Rattle.rehearsal_numbers.proofs.PathEnds.{leaf_count, read_is, had_memory}
use Rattle.rehearsal_numbers.proofs.Places.{marks_from, marks_rise, marks_pass, place_is, mark_is}
use Rattle.rehearsal_numbers.proofs.Checkouts.{IsRehearsal, fine_at, links_at, got_path, path_got, verdict_got, one_place, object_is}

-- places that rise
above_all : (p : ℕ) (ms : List Mark) → AllByRecursion (λ m. p < m.place) ms → (j n : ℕ) → slice_get (places ms) j ≡ Some n → p < n
above_all p [] h j n at = absurd (cc (at))
above_all p (x ∷ xs) h zero n at = let same : x.place ≡ n = cc (at) in omega (arith, same, h.0)
above_all p (x ∷ xs) h (suc j) n at = above_all p xs h.1 j n at

places_rise : (ms : List Mark) → Rises ms → IsRising (places ms)
places_rise [] r i j m n less a b = absurd (cc (a))
places_rise (x ∷ xs) r zero zero m n less a b = absurd (omega (arith, less))
places_rise (x ∷ xs) r zero (suc j) m n less a b =
    let same : x.place ≡ m = cc (a) in
    let lt : x.place < n = above_all x.place xs r.0 j n b in
    omega (arith, same, lt)
places_rise (x ∷ xs) r (suc i) zero m n less a b = absurd (omega (arith, less))
places_rise (x ∷ xs) r (suc i) (suc j) m n less a b = places_rise xs r.1 i j m n (omega (arith, less)) a b

-- an answer is a content that was given
one_answer : (e : Exchange) (p : ℕ) (bytes : List ℕ) → IsAnswer e p (Some bytes) → GivesContent e p bytes
one_answer (First q reply.Content c) p bytes h = h
one_answer (Second q reply.Content c) p bytes h = h
one_answer (First q reply.Error c) p bytes h = h
one_answer (First q reply.ErrorAfter c) p bytes h = h
one_answer (First q reply.Delayed c) p bytes h = h
one_answer (First q reply.Abort c) p bytes h = h
one_answer (First q (reply.Broken b) c) p bytes h = h
one_answer (First q reply.NoMemory c) p bytes h = h
one_answer (Second q reply.Error c) p bytes h = h
one_answer (Second q reply.ErrorAfter c) p bytes h = h
one_answer (Second q reply.Delayed c) p bytes h = h
one_answer (Second q reply.Abort c) p bytes h = h
one_answer (Second q (reply.Broken b) c) p bytes h = h
one_answer (Second q reply.NoMemory c) p bytes h = h
one_answer (NoStart q) p bytes h = h
one_answer (NoRoom q) p bytes h = h
one_answer (Opening q end) p bytes h = h
one_answer (Listing late names r) p bytes h = h
one_answer Shutting p bytes h = h

has_given : (es : List Exchange) (p : ℕ) (bytes : List ℕ) → HasAnswer es p (Some bytes) → HasGiven es p bytes
has_given [] p bytes h = h
has_given (e ∷ es) p bytes h = ⊎_elim
    (λ (a : IsAnswer e p (Some bytes)). inl (one_answer e p bytes a))
    (λ (b : HasAnswer es p (Some bytes)). inr (has_given es p bytes b))
    h

-- what a checkout says of the paths of a driver that was told to write this
pub record IsDriven (d : ℕ) (t : DriverTalk) (output : List ℕ) (seed : ℕ) (ms : List Mark) : Type 0 where
  pub named : HaveNames t.paths seed ms
  pub texts : HaveTexts t.paths (places ms)
  -- each hears what a talk tells that goes by this output
  pub hears : (had : List Had) (es : List Exchange) → IsToldTalk d t.paths (places ms) (Gives output ∷ []) had es
      → (m : Mark) → Among m ms
      → (heard_at d t m.place ≡ heard_by (fate_in d m.place es)) × (content_of m.place t.exchanges ≡ content_of m.place es)
  pub gave : (m : Mark) → Among m ms → (answer : List ℕ) → Gave t m.place answer → content_of m.place t.exchanges ≡ Some answer

-- a driver by its number, whether it is required, the kinds that it has, and what it writes
module _ (law : SameHeard) (one : OneContent) (d : ℕ) (required : Bool) (test : ℕ → Bool) (output : List ℕ)
    (seed : ℕ) (is : List ℕ) (told : RepoTold) (talks : List DriverTalk) (outcomes : List Outcome) (history : List Event)
    (g : IsRehearsal seed is told talks outcomes history)
    (begins : (k : ℕ) → k < 8 → test k ≡ true → start_at (beta_number seed is) k ≡ start.Desk d required)
    (has_test : (k i : ℕ) → slice_get is k ≡ Some i → is_at d (start_at (beta_number seed is) (kind seed i)) ≡ true → test (kind seed i) ≡ true)
    (t : DriverTalk) (driver : Driver)
    (said : IsDriverTalk (starts_for (scripts seed is)) told.object (paths_of seed is) (verdicts_of outcomes) history d driver t)
    (here : slice_get talks d ≡ Some t) (ahead : starts_for (scripts seed is) t.command ≡ StartsListed (Gives output ∷ [])) where
  abbrev ms : List Mark
  ms = marks_from test 1 seed is

  abbrev b : ℕ
  b = beta_number seed is

  abbrev path : ℕ → PathPlan
  path i = path_at b seed i

  -- a path of the driver, and its outcome
  record Ended (n i : ℕ) : Type 0 where
    pub outcome : Outcome
    pub memory : is_no_memory outcome.verdict ≡ false
    pub leaf : leaf_count outcome.leaf ≡ 0
    pub there : slice_get (verdicts_of outcomes) n ≡ Some outcome.verdict
    pub has : HasDeskVerdict required d t n (told.object (path i).object) (path i) outcome outcome.verdict

  at_desk : (n : ℕ) (p : PathPlan) (o : Outcome) (s : Start) → s ≡ start.Desk d required → HasOutcome told.object talks s n p o
      → HasDeskVerdict required d t n (told.object p.object) p o o.verdict
  at_desk n p o s e h =
      let x = subst (λ (r : Start). HasOutcome told.object talks r n p o) e h in
      let same : x.1 ≡ t = (let both : Some x.1 ≡ Some t = sym x.2 ∙ here in cc (both)) in
      subst (λ (u : DriverTalk). HasDeskVerdict required d u n (told.object p.object) p o o.verdict) same x.3

  ended : (k i : ℕ) → slice_get is k ≡ Some i → test (kind seed i) ≡ true → Ended (1 + k) i
  ended k i at e =
      let fine = fine_at told.object talks 0 (paths_of seed is) outcomes g.fits g.memory g.leaves (suc k) (path i) (path_got b seed is k i at) in
      let place : ◌≡◌ {A = ℕ} (0 + suc k) (1 + k) = omega arith in
      let other : ◌≡◌ {A = ℕ} (suc k) (1 + k) = omega arith in
      record {
        outcome = fine.outcome;
        memory = fine.memory;
        leaf = fine.leaf;
        there = subst (λ (n : ℕ). slice_get (verdicts_of outcomes) n ≡ Some (fine.outcome).verdict) other (verdict_got outcomes (suc k) fine.outcome fine.there);
        has = at_desk (1 + k) (path i) fine.outcome (path i).start (begins (kind seed i) (below_eight (seed + 7 * i)) e)
            (subst (λ (n : ℕ). HasOutcome told.object talks (path i).start n (path i) fine.outcome) place fine.has);
      }

  abbrev raw : ℕ → List ℕ
  raw i = spelled_blob (content seed i)

  path_there : (k i : ℕ) → slice_get is k ≡ Some i → slice_get (paths_of seed is) (1 + k) ≡ Some (path i)
  path_there k i at =
      let other : ◌≡◌ {A = ℕ} (suc k) (1 + k) = omega arith in
      subst (λ (n : ℕ). slice_get (paths_of seed is) n ≡ Some (path i)) other (path_got b seed is k i at)

  path_at_desk : (i : ℕ) → test (kind seed i) ≡ true → is_at d (path i).start ≡ true
  path_at_desk i e =
      ap (is_at d) (begins (kind seed i) (below_eight (seed + 7 * i)) e) ∙ eq-eqb d d refl

  -- each of its paths is asked for
  asks_each : (m : Mark) → Among m ms → contains m.place t.asked ≡ true
  asks_each m h =
      let at = mark_is test seed 1 is m h in
      let e : test (kind seed m.number) ≡ true = all_at (λ x. test (kind seed x.number) ≡ true) ms (marks_pass test seed 1 is) m h in
      let x = ended at.0 m.number at.2 e in
      let read = read_is (told.object (path m.number).object) (path m.number) (raw m.number) (content seed m.number)
      (object_is seed is told g.made at.0 m.number at.2) (content_right seed m.number) required d t (1 + at.0) x.outcome x.leaf x.memory x.has in
      ap (λ (n : ℕ). contains n t.asked) at.1
      ∙ said.over.asked (1 + at.0) (path m.number) (x.outcome).verdict (path_there at.0 m.number at.2) x.there (path_at_desk m.number e) x.memory
      ∙ read

  -- and no other
  marked : (n : ℕ) (p : PathPlan) → slice_get (paths_of seed is) n ≡ Some p → is_at d p.start ≡ true
      → (i : ℕ) × Among (record { place = n; number = i }) ms × (p ≡ path i)
  marked zero p at e =
      let same : attributes_path ≡ p = cc (at) in
      absurd (true≢false (sym e ∙ ap (λ (q : PathPlan). is_at d q.start) (sym same)))
  marked (suc k) p at e =
      let x = got_path b seed is k p at in
      let test_is : test (kind seed x.0) ≡ true =
      has_test k x.0 x.1 (ap (λ (q : PathPlan). is_at d q.start) (sym x.2) ∙ e) in
      let other : ◌≡◌ {A = ℕ} (1 + k) (suc k) = omega arith in
      (x.0, subst (λ (n : ℕ). Among (record { place = n; number = x.0 }) ms) other (place_is test seed 1 k x.0 is x.1 test_is), x.2)

  asked_is_marked : (n : ℕ) → contains n t.asked ≡ true → contains n (places ms) ≡ true
  asked_is_marked n h =
      let p = said.over.each n h in
      let x = marked n p.0 p.1 p.2 in
      holds (record { place = n; number = x.0 }) ms x.1

  marked_is_asked : (n : ℕ) → contains n (places ms) ≡ true → contains n t.asked ≡ true
  marked_is_asked n h =
      let f = found n ms h in
      ap (λ (q : ℕ). contains q t.asked) f.2 ∙ asks_each f.0 f.1

  asked_are : t.asked ≡ places ms
  asked_are = same_rising t.asked (places ms) said.over.rises (places_rise ms (marks_rise test seed 1 is)) same
    where
      same : (n : ℕ) → contains n t.asked ≡ contains n (places ms)
      same n = by (contains n t.asked) (contains n (places ms)) refl refl
        where
          by : (x y : Bool) → contains n t.asked ≡ x → contains n (places ms) ≡ y → contains n t.asked ≡ contains n (places ms)
          by true y e f = e ∙ sym (asked_is_marked n e)
          by false true e f = marked_is_asked n f ∙ sym f
          by false false e f = e ∙ sym f

  -- by their names
  name_is : (m : Mark) → Among m ms → t.paths.text m.place ≡ name seed m.number
  name_is m h =
      let at = mark_is test seed 1 is m h in
      let p = said.over.each m.place (asks_each m h) in
      let there : slice_get (paths_of seed is) m.place ≡ Some (path m.number) =
      ap (slice_get (paths_of seed is)) at.1 ∙ path_there at.0 m.number at.2 in
      let both : Some p.0 ≡ Some (path m.number) = sym p.1 ∙ there in
      let same : p.0 ≡ path m.number = cc (both) in
      p.3 ∙ ap (λ (q : PathPlan). q.path) same

  names : HaveNames t.paths seed ms
  names = all_from (λ m. t.paths.text m.place ≡ name seed m.number) ms name_is

  have_texts : HaveTexts t.paths (places ms)
  have_texts p q a c e =
      let x = found p ms a in
      let y = found q ms c in
      let k = mark_is test seed 1 is x.0 x.1 in
      let l = mark_is test seed 1 is y.0 y.1 in
      let texts : name seed (x.0).number ≡ name seed (y.0).number =
      sym (name_is x.0 x.1) ∙ ap t.paths.text (sym x.2) ∙ e ∙ ap t.paths.text y.2 ∙ name_is y.0 y.1 in
      let same : k.0 ≡ l.0 = one_place seed is g.differ k.0 l.0 (x.0).number (y.0).number k.2 l.2 texts in
      omega (arith, x.2, y.2, k.1, l.1, same)

  heard_is : (n : ℕ) → contains n t.asked ≡ true → heard_at d t n ≡ heard_by (fate_in d n t.exchanges)
  heard_is n h = ap (λ (c : Bool). cond c (heard_by (fate_in d n t.exchanges)) None) h

  has_memory : (n : ℕ) → contains n t.asked ≡ true → fate_in d n t.exchanges ≡ Known heard.OutOfMemory → ⊥
  has_memory n h bad =
      let f = found n ms (asked_is_marked n h) in
      let m = f.0 in
      let at = mark_is test seed 1 is m f.1 in
      let e : test (kind seed m.number) ≡ true = all_at (λ x. test (kind seed x.number) ≡ true) ms (marks_pass test seed 1 is) m f.1 in
      let x = ended at.0 m.number at.2 e in
      let hears : heard_at d t (1 + at.0) ≡ Some heard.OutOfMemory =
      ap (heard_at d t) (sym (f.2 ∙ at.1)) ∙ heard_is n h ∙ ap heard_by bad in
      had_memory (told.object (path m.number).object) (path m.number) (raw m.number) (content seed m.number)
      (object_is seed is told g.made at.0 m.number at.2) (content_right seed m.number) required d t (1 + at.0) x.outcome x.leaf x.memory x.has hears

  told_talk : IsToldTalk d t.paths (places ms) (Gives output ∷ []) t.had t.exchanges
  told_talk = subst (λ (asked : List ℕ). IsToldTalk d t.paths asked (Gives output ∷ []) t.had t.exchanges) asked_are (record {
    full = said.talk.full;
    fills = said.talk.fills;
    talk = said.talk.talk;
    left = said.talk.left;
    goes = subst (λ (s : Starts). GoBy s said.talk.full said.talk.left) ahead said.talk.starts;
    fine = links_at talks g.links d t here;
    memory = has_memory;
  })

  apart_places : AreApart (places ms)
  apart_places = rising.apart (places ms) (places_rise ms (marks_rise test seed 1 is))

  -- so each hears what the script's talk tells
  hears : (had : List Had) (es : List Exchange) → IsToldTalk d t.paths (places ms) (Gives output ∷ []) had es
      → (m : Mark) → Among m ms
      → (heard_at d t m.place ≡ heard_by (fate_in d m.place es)) × (content_of m.place t.exchanges ≡ content_of m.place es)
  hears had es mine m h =
      let both = (law d t.paths t.paths (places ms) (Gives output ∷ []) t.had had t.exchanges es apart_places have_texts (λ p is. refl) told_talk mine).0
      m.place (holds m ms h) in
      (heard_is m.place (asks_each m h) ∙ ap heard_by both.0, both.1)

  -- and what was given is one content
  gave_one : (m : Mark) → Among m ms → (answer : List ℕ) → Gave t m.place answer → content_of m.place t.exchanges ≡ Some answer
  gave_one m h answer gave =
      one d t.paths t.asked said.talk.full t.exchanges (subst AreApart (sym asked_are) apart_places) said.talk.talk m.place answer
      (has_given t.exchanges m.place answer gave)

  pub is_driven : IsDriven d t output seed (marks_from test 1 seed is)
  is_driven = record { named = names; texts = have_texts; hears = hears; gave = gave_one }
