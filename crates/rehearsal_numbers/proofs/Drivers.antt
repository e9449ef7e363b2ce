-- What each path of the two drivers of a rehearsal heard, and got.
use Rattle.std.proofs.Common.{◌≡◌, ℕ, zero, suc, ◌+◌, ◌<◌, ◌≤◌, Bool, true, false, ◌||◌, List, [], ◌∷◌, ◌++◌, length, Some, refl, sym, ap, ◌∙◌, subst, arith}
use Rattle.std.specs.Prelude.{codes, ◌==◌, if◌then◌else◌, slice_get, Option}
use Rattle.std.specs.List.{flat_map}
use Rattle.std.proofs.lemmas.Bool.{true≢false}
use Rattle.pkt_line.specs.Spelling.{spelling_all}
use Rattle.edge_kit.specs.MemoryDrivers.{starts_for}
use Rattle.edge_kit.specs.Starters.{Had, Gives, Session, Starts, StartsListed}
use Rattle.edge_kit.specs.Told.{RepoTold}
use Rattle.settings_view.specs.declared.view.Driver.{Driver}
use Rattle.checkout_core.specs.declared.event.Event.{Event}
use Rattle.checkout_core.specs.declared.path.Heard.TheVariants as heard
use Rattle.checkout_core.specs.declared.path.Start.{Start}
use Rattle.checkout_core.specs.declared.path.Start.TheVariants as start
use Rattle.checkout_core.specs.Fates.{Fate, Known, heard_by}
use Rattle.checkout_core.specs.States.{is_at}
use Rattle.driver_line.specs.Conversations.{Exchange}
use Rattle.driver_line.specs.Lines.{Paths}
use Rattle.driver_line.specs.OneContent.{OneContent}
use Rattle.driver_line.specs.SameHeard.{HaveTexts, IsToldTalk, SameHeard, fate_in, content_of}
use Rattle.checkout_engine.specs.Ends.{verdicts_of}
use Rattle.checkout_paths.specs.Outcome.{Outcome}
use Rattle.checkout_paths.specs.Talks.{DriverTalk, IsDriverTalk, heard_at, Gave}
use Rattle.rehearsal.specs.Paths.{kind}
use Rattle.rehearsal.specs.Drivers.{scripts, alpha_text, beta_text, beta_first}
use Rattle.rehearsal_numbers.specs.Plans.{paths_of, drivers_of, alpha, beta, is_alpha, is_beta, has_kind, start_at, beta_number}
use Rattle.rehearsal_numbers.proofs.Asked.{eight}
use Rattle.rehearsal_numbers.proofs.Marked.{Mark, places, numbers, Among, Rises}
use Rattle.rehearsal_numbers.proofs.Replies.{SpellingSpells, alpha_hello, beta_hello}
use Rattle.rehearsal_numbers.proofs.Beta.{answer, AreBetas}
use Rattle.rehearsal_numbers.proofs.Beta as second
use Rattle.rehearsal_numbers.proofs.Alpha.{AreAlphas, HaveNames}
use Rattle.rehearsal_numbers.proofs.AlphaTold as first
use Rattle.rehearsal_numbers.proofs.Places.{place_is, marks_from, marks_rise, marks_pass, marks_few, alpha_firsts, beta_firsts, alpha_lists_are}
use Rattle.rehearsal_numbers.proofs.Checkouts.{IsRehearsal, talk_at}
use Rattle.rehearsal_numbers.proofs.Driven.{IsDriven, is_driven}

-- a path of some kind is there
pub some_kind : (test : ℕ → Bool) (seed : ℕ) (is : List ℕ) (k i : ℕ) → slice_get is k ≡ Some i → test (kind seed i) ≡ true
    → has_kind test seed is ≡ true
some_kind test seed [] k i at e = absurd (cc (at))
some_kind test seed (j ∷ js) zero i at e =
    let same : j ≡ i = cc (at) in
    ap (λ (t : Bool). t || has_kind test seed js) (ap (λ (x : ℕ). test (kind seed x)) same ∙ e)
some_kind test seed (j ∷ js) (suc k) i at e =
    ap (λ (t : Bool). test (kind seed j) || t) (some_kind test seed js k i at e) ∙ or_true (test (kind seed j))
  where
    or_true : (t : Bool) → (t || true) ≡ true
    or_true true = refl
    or_true false = refl

beta_second : (seed : ℕ) (is : List ℕ) → has_kind is_alpha seed is ≡ true → beta_number seed is ≡ 1
beta_second seed is h = ap (λ (t : Bool). if t then 1 else 0) h

alpha_begins : (b k : ℕ) → k < 8 → is_alpha k ≡ true → start_at b k ≡ start.Desk 0 true
alpha_begins b k lt h = ap (λ (t : Bool). if t then start.Desk 0 true else if is_beta k then start.Desk b false else start.Pool) h

beta_begins : (b k : ℕ) → k < 8 → is_beta k ≡ true → start_at b k ≡ start.Desk b false
beta_begins b = eight (λ k. is_beta k ≡ true → start_at b k ≡ start.Desk b false)
    (λ h. absurd (true≢false (sym h))) (λ h. absurd (true≢false (sym h))) (λ h. absurd (true≢false (sym h)))
    (λ h. absurd (true≢false (sym h))) (λ h. absurd (true≢false (sym h))) (λ h. absurd (true≢false (sym h)))
    (λ h. refl) (λ h. refl)

abbrev start_of : ℕ → Bool → Bool → Start
start_of b a c = if a then start.Desk 0 true else if c then start.Desk b false else start.Pool

alpha_test : (b k : ℕ) → b ≡ 1 → is_at 0 (start_at b k) ≡ true → is_alpha k ≡ true
alpha_test b k e h = by (is_alpha k) (is_beta k) h
  where
    by : (a c : Bool) → is_at 0 (start_of b a c) ≡ true → a ≡ true
    by true c h = refl
    by false true h = absurd (true≢false (sym h ∙ ap (λ (n : ℕ). 0 == n) e))
    by false false h = absurd (true≢false (sym h))

beta_test : (b k : ℕ) → (is_alpha k ≡ true → b ≡ 1) → is_at b (start_at b k) ≡ true → is_beta k ≡ true
beta_test b k e h = by (is_alpha k) (is_beta k) e h
  where
    by : (a c : Bool) → (a ≡ true → b ≡ 1) → is_at b (start_of b a c) ≡ true → c ≡ true
    by true c e h = absurd (true≢false (sym h ∙ ap (λ (n : ℕ). n == 0) (e refl)))
    by false true e h = refl
    by false false e h = absurd (true≢false (sym h))

-- the talk that a script tells, if the driver has a path
pub record Told (d : ℕ) (paths : Paths) (ms : List Mark) (output : List ℕ) (fate : Mark → Fate)
    (content : Mark → Option (List ℕ) → Type 0) : Type 0 where
  pub had : List Had
  pub exchanges : List Exchange
  pub talk : IsToldTalk d paths (places ms) (Gives output ∷ []) had exchanges
  pub hears : (m : Mark) → Among m ms → fate_in d m.place exchanges ≡ fate m
  pub gets : (m : Mark) → Among m ms → content m (content_of m.place exchanges)

abbrev alpha_fate : ℕ → Mark → Fate
alpha_fate seed m = first.fate_at seed m.number

abbrev pub AlphaGets : ℕ → Mark → Option (List ℕ) → Type 0
AlphaGets seed m c = first.fate_at seed m.number ≡ Known heard.Got → c ≡ Some (answer (codes "alpha") seed m.number)

abbrev beta_fate : ℕ → Mark → Fate
beta_fate seed m = second.fate_at seed m.number

abbrev pub BetaGets : ℕ → Mark → Option (List ℕ) → Type 0
BetaGets seed m c = c ≡ second.content_at seed m.number

alpha_told : SpellingSpells → (d : ℕ) (paths : Paths) (seed : ℕ) (ms : List Mark) → AreAlphas seed ms → HaveNames paths seed ms
    → HaveTexts paths (places ms) → Rises ms → length ms ≤ 99999 → (x : Mark) → Among x ms
    → Told d paths ms (first.output seed ms) (alpha_fate seed) (AlphaGets seed)
alpha_told law d paths seed [] a n t r few x h = absurd h
alpha_told law d paths seed (m ∷ ms) a n t r few x h = record {
  had = Session (first.seen paths seed (m ∷ ms)) ∷ [];
  exchanges = first.exchanges seed m ms;
  talk = first.alpha_talk law d paths seed m ms a n t r few;
  hears = λ y k. (first.alpha_fates d seed m ms r y k).0;
  gets = λ y k. (first.alpha_fates d seed m ms r y k).1;
}

beta_told : SpellingSpells → (d : ℕ) (paths : Paths) (seed : ℕ) (ms : List Mark) → AreBetas seed ms → Rises ms
    → (x : Mark) → Among x ms
    → Told d paths ms (spelling_all beta_hello ++ flat_map (beta_first seed) (numbers ms)) (beta_fate seed) (BetaGets seed)
beta_told law d paths seed [] a r x h = absurd h
beta_told law d paths seed (m ∷ ms) a r x h = record {
  had = Session (second.seen paths seed (m ∷ ms)) ∷ [];
  exchanges = second.exchanges seed m ms;
  talk = second.beta_talk law d paths seed m ms a r;
  hears = λ y k. (second.beta_fates d seed m ms r y k).0;
  gets = λ y k. (second.beta_fates d seed m ms r y k).1;
}

alpha_output : (seed : ℕ) (is : List ℕ) → first.output seed (marks_from is_alpha 1 seed is) ≡ alpha_text seed is
alpha_output seed is = λ j. spelling_all alpha_hello ++ alpha_firsts seed 1 is j ++ alpha_lists_are seed 1 is j

beta_output : (seed : ℕ) (is : List ℕ)
    → spelling_all beta_hello ++ flat_map (beta_first seed) (numbers (marks_from is_beta 1 seed is)) ≡ beta_text seed is
beta_output seed is = λ j. spelling_all beta_hello ++ beta_firsts seed 1 is j

alpha_driver : (seed : ℕ) (is : List ℕ) (driver : Driver) → has_kind is_alpha seed is ≡ true
    → slice_get (drivers_of seed is) 0 ≡ Some driver → driver ≡ alpha
alpha_driver seed is driver h at =
    let same : Some driver ≡ Some alpha =
    sym at ∙ ap (λ (t : Bool). slice_get ((if t then alpha ∷ [] else []) ++ (if has_kind is_beta seed is then beta ∷ [] else [])) 0) h in
    cc (same)

beta_driver : (seed : ℕ) (is : List ℕ) (driver : Driver) → has_kind is_beta seed is ≡ true
    → slice_get (drivers_of seed is) (beta_number seed is) ≡ Some driver → driver ≡ beta
beta_driver seed is driver h at =
    let same : Some driver ≡ Some beta = sym at ∙ by (has_kind is_alpha seed is) (has_kind is_beta seed is) h in
    cc (same)
  where
    by : (a c : Bool) → c ≡ true → slice_get ((if a then alpha ∷ [] else []) ++ (if c then beta ∷ [] else [])) (if a then 1 else 0) ≡ Some beta
    by true true h = refl
    by false true h = refl
    by a false h = absurd (true≢false (sym h))

starts_alpha : (seed : ℕ) (is : List ℕ) → starts_for (scripts seed is) (codes "alpha") ≡ StartsListed (Gives (alpha_text seed is) ∷ [])
starts_alpha seed is = refl

starts_beta : (seed : ℕ) (is : List ℕ) → starts_for (scripts seed is) (codes "beta") ≡ StartsListed (Gives (beta_text seed is) ∷ [])
starts_beta seed is = refl

-- what a path of a driver heard and got
pub record Heard (d : ℕ) (t : DriverTalk) (n : ℕ) (fate : Fate) (gets : Option (List ℕ) → Type 0) : Type 0 where
  pub heard : heard_at d t n ≡ heard_by fate
  pub got : (bytes : List ℕ) → Gave t n bytes → (c : Option (List ℕ)) × gets c × (c ≡ Some bytes)

joined : (d : ℕ) (t : DriverTalk) (n : ℕ) (fate told : Fate) (gets : Option (List ℕ) → Type 0) (mine theirs : Option (List ℕ))
    → heard_at d t n ≡ heard_by told → told ≡ fate → theirs ≡ mine → gets mine
    → ((bytes : List ℕ) → Gave t n bytes → theirs ≡ Some bytes) → Heard d t n fate gets
joined d t n fate told gets mine theirs hears is same got gave = record {
  heard = hears ∙ ap heard_by is;
  got = λ bytes given. (mine, got, sym same ∙ gave bytes given);
}

module _ (spells : SpellingSpells) (law : SameHeard) (one : OneContent) (seed : ℕ) (is : List ℕ) (told : RepoTold)
    (talks : List DriverTalk) (outcomes : List Outcome) (history : List Event)
    (g : IsRehearsal seed is told talks outcomes history) where
  abbrev ahead : List ℕ → Starts
  ahead = starts_for (scripts seed is)

  abbrev alphas : List Mark
  alphas = marks_from is_alpha 1 seed is

  abbrev betas : List Mark
  betas = marks_from is_beta 1 seed is

  -- the command of a driver is the one that the plan says
  command_is : (driver plain : Driver) (t : DriverTalk) (command : List ℕ) → driver.process ≡ Some t.command → driver ≡ plain
      → plain.process ≡ Some command → t.command ≡ command
  command_is driver plain t command said is process =
      let both : Some t.command ≡ Some command = sym said ∙ ap (λ (y : Driver). y.process) is ∙ process in
      cc (both)

  alpha_driven : (t : DriverTalk) → slice_get talks 0 ≡ Some t → has_kind is_alpha seed is ≡ true
      → IsDriven 0 t (alpha_text seed is) seed alphas
  alpha_driven t here some =
      let x = talk_at ahead told.object (paths_of seed is) (verdicts_of outcomes) history 0 (drivers_of seed is) talks g.conversations 0 t here in
      let command = command_is x.driver alpha t (codes "alpha") (x.said).command (alpha_driver seed is x.driver some x.there) refl in
      is_driven law one 0 true is_alpha (alpha_text seed is) seed is told talks outcomes history g (alpha_begins (beta_number seed is))
      (λ l j a h. alpha_test (beta_number seed is) (kind seed j) (beta_second seed is some) h) t x.driver x.said here
      (ap ahead command ∙ starts_alpha seed is)

  beta_driven : (t : DriverTalk) → slice_get talks (beta_number seed is) ≡ Some t → has_kind is_beta seed is ≡ true
      → IsDriven (beta_number seed is) t (beta_text seed is) seed betas
  beta_driven t here some =
      let d = beta_number seed is in
      let x = talk_at ahead told.object (paths_of seed is) (verdicts_of outcomes) history 0 (drivers_of seed is) talks g.conversations d t here in
      let number : ◌≡◌ {A = ℕ} (0 + d) d = omega arith in
      let said : IsDriverTalk ahead told.object (paths_of seed is) (verdicts_of outcomes) history d x.driver t =
      subst (λ (n : ℕ). IsDriverTalk ahead told.object (paths_of seed is) (verdicts_of outcomes) history n x.driver t) number x.said in
      let command = command_is x.driver beta t (codes "beta") said.command (beta_driver seed is x.driver some x.there) refl in
      is_driven law one d false is_beta (beta_text seed is) seed is told talks outcomes history g (beta_begins d)
      (λ l j a h. beta_test d (kind seed j) (λ f. beta_second seed is (some_kind is_alpha seed is l j a f)) h) t x.driver said here
      (ap ahead command ∙ starts_beta seed is)

  pub alpha_heard : (t : DriverTalk) → slice_get talks 0 ≡ Some t → (k i : ℕ) → slice_get is k ≡ Some i → is_alpha (kind seed i) ≡ true
      → Heard 0 t (1 + k) (first.fate_at seed i) (AlphaGets seed (record { place = 1 + k; number = i }))
  alpha_heard t here k i at e =
      let x = alpha_driven t here (some_kind is_alpha seed is k i at e) in
      let m : Mark = record { place = 1 + k; number = i } in
      let among : Among m alphas = place_is is_alpha seed 1 k i is at e in
      let mine = alpha_told spells 0 t.paths seed alphas (marks_pass is_alpha seed 1 is) x.named x.texts (marks_rise is_alpha seed 1 is)
      (omega (arith, marks_few is_alpha seed 1 is, g.few)) m among in
      let talk : IsToldTalk 0 t.paths (places alphas) (Gives (alpha_text seed is) ∷ []) mine.had mine.exchanges =
      subst (λ (o : List ℕ). IsToldTalk 0 t.paths (places alphas) (Gives o ∷ []) mine.had mine.exchanges) (alpha_output seed is) mine.talk in
      let both = x.hears mine.had mine.exchanges talk m among in
      joined 0 t (1 + k) (first.fate_at seed i) (fate_in 0 (1 + k) mine.exchanges) (AlphaGets seed m) (content_of (1 + k) mine.exchanges)
      (content_of (1 + k) t.exchanges) both.0 (mine.hears m among) both.1 (mine.gets m among) (x.gave m among)

  pub beta_heard : (t : DriverTalk) → slice_get talks (beta_number seed is) ≡ Some t → (k i : ℕ) → slice_get is k ≡ Some i
      → is_beta (kind seed i) ≡ true
      → Heard (beta_number seed is) t (1 + k) (second.fate_at seed i) (BetaGets seed (record { place = 1 + k; number = i }))
  beta_heard t here k i at e =
      let d = beta_number seed is in
      let x = beta_driven t here (some_kind is_beta seed is k i at e) in
      let m : Mark = record { place = 1 + k; number = i } in
      let among : Among m betas = place_is is_beta seed 1 k i is at e in
      let mine = beta_told spells d t.paths seed betas (marks_pass is_beta seed 1 is) (marks_rise is_beta seed 1 is) m among in
      let talk : IsToldTalk d t.paths (places betas) (Gives (beta_text seed is) ∷ []) mine.had mine.exchanges =
      subst (λ (o : List ℕ). IsToldTalk d t.paths (places betas) (Gives o ∷ []) mine.had mine.exchanges) (beta_output seed is) mine.talk in
      let both = x.hears mine.had mine.exchanges talk m among in
      joined d t (1 + k) (second.fate_at seed i) (fate_in d (1 + k) mine.exchanges) (BetaGets seed m) (content_of (1 + k) mine.exchanges)
      (content_of (1 + k) t.exchanges) both.0 (mine.hears m among) both.1 (mine.gets m among) (x.gave m among)
