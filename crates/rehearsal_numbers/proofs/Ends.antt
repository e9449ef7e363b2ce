-- How each path of a rehearsal ends.
use Rattle.std.proofs.Common.{◌≡◌, ℕ, suc, ◌+◌, ◌%◌, Bool, true, false, not, ◌&&◌, ◌||◌, List, length, length-append, Some, None, refl, sym, ap, ◌∙◌, subst, arith}
use Rattle.std.specs.Prelude.{codes, ◌==◌, if◌then◌else◌, slice_get, Option}
use Rattle.std.proofs.lemmas.Bool.{true≢false}
use Rattle.edge_kit.specs.Told.{RepoTold}
use Rattle.edge_kit.specs.declared.tree_file.TreeFile.{TreeFile}
use Rattle.object_dir.specs.Spelling.{spelled_blob}
use Rattle.checkout_core.specs.declared.event.Event.{Event}
use Rattle.checkout_core.specs.declared.verdict.Verdict.TheVariants as verdict
use Rattle.checkout_core.specs.declared.verdict.FailCause.TheVariants as fail
use Rattle.checkout_core.specs.declared.verdict.FilterCause.{FilterCause}
use Rattle.checkout_core.specs.declared.verdict.FilterCause.TheVariants as cause
use Rattle.checkout_core.specs.declared.path.Heard.TheVariants as heard
use Rattle.checkout_core.specs.declared.path.Start.{Start}
use Rattle.checkout_core.specs.declared.path.Start.TheVariants as start
use Rattle.checkout_core.specs.Fates.{Known, heard_by}
use Rattle.driver_line.specs.OneContent.{OneContent}
use Rattle.driver_line.specs.SameHeard.{SameHeard}
use Rattle.convert_plan.specs.Prepared.{prepared}
use Rattle.checkout_report.specs.Report as report
use Rattle.checkout_plan.specs.declared.path_plan.PathPlan.{PathPlan}
use Rattle.checkout_paths.specs.Outcome.{Outcome, HasOutcome, HasDeskVerdict, file_with}
use Rattle.checkout_paths.specs.Talks.{DriverTalk, heard_at, Gave}
use Rattle.rehearsal.specs.Paths.{kind, line_count, line_of, content}
use Rattle.rehearsal.specs.Drivers.{is_given}
use Rattle.rehearsal.specs.Blocks.{path_is_written, path_is_unfiltered, path_is_failed, sized, file_size}
use Rattle.rehearsal_numbers.specs.Plans.{paths_of, path_at, is_alpha, is_beta, beta_number}
use Rattle.rehearsal_numbers.proofs.Apart.{is_equal}
use Rattle.rehearsal_numbers.proofs.Sizes.{is_filtered, size_is}
use Rattle.rehearsal_numbers.proofs.Beta.{answer}
use Rattle.rehearsal_numbers.proofs.Beta as second
use Rattle.rehearsal_numbers.proofs.AlphaTold as first
use Rattle.rehearsal_numbers.proofs.Replies.{SpellingSpells}
use Rattle.rehearsal_numbers.proofs.Objects.{content_right}
use Rattle.rehearsal_numbers.proofs.PathEnds.{pool_ends, got_ends, lost_ends, refused_ends}
use Rattle.rehearsal_numbers.proofs.Checkouts.{IsRehearsal, FineAt, fine_at, path_got, object_is, or_parts}
use Rattle.rehearsal_numbers.proofs.Drivers.{Heard, AlphaGets, BetaGets, alpha_heard, beta_heard}

abbrev pub file_bytes : Option TreeFile → ℕ
file_bytes None = 0
file_bytes (Some f) = length f.bytes

-- the outcome is counted as the number is
pub record EndsAs (w u f : Bool) (n : ℕ) (o : Outcome) : Type 0 where
  pub written : report.is_written o.verdict ≡ w
  pub unfiltered : report.is_unfiltered o.verdict ≡ u
  pub failed : report.is_failed o.verdict ≡ f
  pub bytes : file_bytes o.file ≡ n

-- by the kind, and whether the number is a multiple of 5
abbrev fails : ℕ → Bool → Bool
fails k fifth = (k == 5) && fifth

abbrev ByKind : ℕ → Bool → ℕ → ℕ → Outcome → Type 0
ByKind k fifth count bytes o =
    EndsAs (not ((k == 7) || fails k fifth)) (k == 7) (fails k fifth) (if fails k fifth then 0 else sized k count bytes) o

abbrev pub EndsSo : ℕ → ℕ → Outcome → Type 0
EndsSo seed i o = EndsAs (path_is_written seed i) (path_is_unfiltered seed i) (path_is_failed seed i) (file_size seed i) o

-- its verdict and its file, if it is written
was_written : (o : Outcome) (flag : Bool) (p : PathPlan) (bytes : List ℕ) (n : ℕ) → o.verdict ≡ verdict.Written flag
    → o.file ≡ Some (file_with p bytes) → length bytes ≡ n → EndsAs true false false n o
was_written o flag p bytes n e f l = record {
  written = ap report.is_written e;
  unfiltered = ap report.is_unfiltered e;
  failed = ap report.is_failed e;
  bytes = ap file_bytes f ∙ l;
}

was_unfiltered : (o : Outcome) (why : FilterCause) (flag : Bool) (p : PathPlan) (bytes : List ℕ) (n : ℕ) → o.verdict ≡ verdict.Unfiltered why flag
    → o.file ≡ Some (file_with p bytes) → length bytes ≡ n → EndsAs false true false n o
was_unfiltered o why flag p bytes n e f l = record {
  written = ap report.is_written e;
  unfiltered = ap report.is_unfiltered e;
  failed = ap report.is_failed e;
  bytes = ap file_bytes f ∙ l;
}

was_lost : (o : Outcome) → o.verdict ≡ verdict.Failed fail.Missing → o.file ≡ None → EndsAs false false true 0 o
was_lost o e f = record {
  written = ap report.is_written e;
  unfiltered = ap report.is_unfiltered e;
  failed = ap report.is_failed e;
  bytes = ap file_bytes f;
}

answer_size : (driver : List ℕ) (seed i : ℕ) → length (answer driver seed i) ≡ length (line_of driver) + length (content seed i)
answer_size driver seed i = length-append (line_of driver) (content seed i)

module _ (spells : SpellingSpells) (law : SameHeard) (one : OneContent) (seed : ℕ) (is : List ℕ) (told : RepoTold)
    (talks : List DriverTalk) (outcomes : List Outcome) (history : List Event)
    (g : IsRehearsal seed is told talks outcomes history) (k i : ℕ) (at : slice_get is k ≡ Some i) where
  abbrev path : PathPlan
  path = path_at (beta_number seed is) seed i

  abbrev fifth : Bool
  fifth = i % 5 == 0

  abbrev raw : List ℕ
  raw = spelled_blob (content seed i)

  fine : FineAt told.object talks outcomes (1 + k) (suc k) path
  fine =
      let place : ◌≡◌ {A = ℕ} (0 + suc k) (1 + k) = omega arith in
      subst (λ (n : ℕ). FineAt told.object talks outcomes n (suc k) path) place
      (fine_at told.object talks 0 (paths_of seed is) outcomes g.fits g.memory g.leaves (suc k) path (path_got (beta_number seed is) seed is k i at))

  abbrev o : Outcome
  o = fine.outcome

  -- kinds 0 to 3
  plain_end : is_alpha (kind seed i) ≡ false → is_beta (kind seed i) ≡ false → EndsSo seed i o
  plain_end a c =
      let begun : path.start ≡ start.Pool =
      ap (λ (t : Bool). if t then start.Desk 0 true else if is_beta (kind seed i) then start.Desk (beta_number seed is) false else start.Pool) a
      ∙ ap (λ (t : Bool). if t then start.Desk (beta_number seed is) false else start.Pool) c in
      let has = subst (λ (s : Start). HasOutcome told.object talks s (1 + k) path o) begun fine.has in
      let so = pool_ends (told.object path.object) path raw (content seed i) (object_is seed is told g.made k i at) (content_right seed i)
      o fine.leaf fine.memory has in
      let six : (kind seed i == 6) ≡ false = (or_parts (kind seed i == 6) (kind seed i == 7) c).0 in
      let seven : (kind seed i == 7) ≡ false = (or_parts (kind seed i == 6) (kind seed i == 7) c).1 in
      let five : (kind seed i == 5) ≡ false = (or_parts (kind seed i == 4) (kind seed i == 5) a).1 in
      let unfiltered : is_filtered (kind seed i) ≡ false = ap (λ (t : Bool). t || (kind seed i == 6)) a ∙ six in
      let ended = was_written o so.0 path (prepared path.conversion path.object (content seed i)).bytes
      (sized (kind seed i) (line_count seed i) (length (content seed i))) so.1 so.2 (size_is seed i unfiltered) in
      subst (λ (u : Bool). EndsAs (not (u || ((kind seed i == 5) && fifth))) u ((kind seed i == 5) && fifth)
      (if (kind seed i == 5) && fifth then 0 else sized (kind seed i) (line_count seed i) (length (content seed i))) o) (sym seven)
      (subst (λ (f : Bool). EndsAs (not (false || (f && fifth))) false (f && fifth)
      (if f && fifth then 0 else sized (kind seed i) (line_count seed i) (length (content seed i))) o) (sym five) ended)

  -- what was got
  got_size : (d : ℕ) (required : Bool) (t : DriverTalk) (driver : List ℕ)
      → HasDeskVerdict required d t (1 + k) (told.object path.object) path o o.verdict
      → heard_at d t (1 + k) ≡ Some heard.Got
      → ((bytes : List ℕ) → Gave t (1 + k) bytes → Some (answer driver seed i) ≡ Some bytes)
      → EndsAs true false false (length (line_of driver) + length (content seed i)) o
  got_size d required t driver h got answers =
      let so = got_ends (told.object path.object) path raw (content seed i) (object_is seed is told g.made k i at) (content_right seed i)
      required d t (1 + k) o fine.leaf fine.memory h got in
      let same : answer driver seed i ≡ so.2 = (let both : Some (answer driver seed i) ≡ Some so.2 = answers so.2 so.3 in cc (both)) in
      was_written o so.0 path so.2 (length (line_of driver) + length (content seed i)) so.1 so.4
      (ap length (sym same) ∙ answer_size driver seed i)

  abbrev AtKind : ℕ → Type 0
  AtKind n = ByKind n fifth (line_count seed i) (length (content seed i)) o

  at_kind : (n : ℕ) → kind seed i ≡ n → AtKind n → EndsSo seed i o
  at_kind n e h = subst AtKind (sym e) h

  -- the desk of the path
  alpha_desk : is_alpha (kind seed i) ≡ true → (t : DriverTalk) × (slice_get talks 0 ≡ Some t)
      × HasDeskVerdict true 0 t (1 + k) (told.object path.object) path o o.verdict
  alpha_desk a =
      let begun : path.start ≡ start.Desk 0 true =
      ap (λ (t : Bool). if t then start.Desk 0 true else if is_beta (kind seed i) then start.Desk (beta_number seed is) false else start.Pool) a in
      let has = subst (λ (s : Start). HasOutcome told.object talks s (1 + k) path o) begun fine.has in
      (has.1, has.2, has.3)

  beta_desk : is_alpha (kind seed i) ≡ false → is_beta (kind seed i) ≡ true → (t : DriverTalk) × (slice_get talks (beta_number seed is) ≡ Some t)
      × HasDeskVerdict false (beta_number seed is) t (1 + k) (told.object path.object) path o o.verdict
  beta_desk a c =
      let begun : path.start ≡ start.Desk (beta_number seed is) false =
      ap (λ (t : Bool). if t then start.Desk 0 true else if is_beta (kind seed i) then start.Desk (beta_number seed is) false else start.Pool) a
      ∙ ap (λ (t : Bool). if t then start.Desk (beta_number seed is) false else start.Pool) c in
      let has = subst (λ (s : Start). HasOutcome told.object talks s (1 + k) path o) begun fine.has in
      (has.1, has.2, has.3)

  alpha_end : is_alpha (kind seed i) ≡ true → EndsSo seed i o
  alpha_end a = by (kind seed i == 4) (kind seed i == 5) fifth refl refl refl a
    where
      desk : (t : DriverTalk) × (slice_get talks 0 ≡ Some t) × HasDeskVerdict true 0 t (1 + k) (told.object path.object) path o o.verdict
      desk = alpha_desk a

      hears : Heard 0 desk.0 (1 + k) (first.fate_at seed i) (AlphaGets seed (record { place = 1 + k; number = i }))
      hears = alpha_heard spells law one seed is told talks outcomes history g desk.0 desk.1 k i at a

      got : first.fate_at seed i ≡ Known heard.Got → EndsAs true false false (length (line_of (codes "alpha")) + length (content seed i)) o
      got e = got_size 0 true desk.0 (codes "alpha") desk.2 (hears.heard ∙ ap heard_by e)
          (λ bytes gave. let x = hears.got bytes gave in sym (x.1 e) ∙ x.2)

      lost : first.fate_at seed i ≡ Known heard.Lost → EndsAs false false true 0 o
      lost e =
          let so = lost_ends (told.object path.object) path raw (content seed i) (object_is seed is told g.made k i at) (content_right seed i)
          true 0 desk.0 (1 + k) o fine.leaf fine.memory desk.2 (hears.heard ∙ ap heard_by e) in
          was_lost o so.0 so.1

      by : (x y z : Bool) → (kind seed i == 4) ≡ x → (kind seed i == 5) ≡ y → fifth ≡ z → is_alpha (kind seed i) ≡ true → EndsSo seed i o
      by true y z e f h a = at_kind 4 (is_equal (kind seed i) 4 e)
          (got (ap (λ (t : Bool). if t then Known heard.Got else if is_given seed i then Known heard.Got else Known heard.Lost) e))
      by false true true e f h a = at_kind 5 (is_equal (kind seed i) 5 f)
          (subst (λ (t : Bool). ByKind 5 t (line_count seed i) (length (content seed i)) o) (sym h)
          (lost (ap (λ (t : Bool). if t then Known heard.Got else if is_given seed i then Known heard.Got else Known heard.Lost) e
          ∙ ap (λ (t : Bool). if t && not fifth then Known heard.Got else Known heard.Lost) f
          ∙ ap (λ (t : Bool). if not t then Known heard.Got else Known heard.Lost) h)))
      by false true false e f h a = at_kind 5 (is_equal (kind seed i) 5 f)
          (subst (λ (t : Bool). ByKind 5 t (line_count seed i) (length (content seed i)) o) (sym h)
          (got (ap (λ (t : Bool). if t then Known heard.Got else if is_given seed i then Known heard.Got else Known heard.Lost) e
          ∙ ap (λ (t : Bool). if t && not fifth then Known heard.Got else Known heard.Lost) f
          ∙ ap (λ (t : Bool). if not t then Known heard.Got else Known heard.Lost) h)))
      by false false z e f h a = absurd (true≢false (sym a ∙ ap (λ (t : Bool). t || (kind seed i == 5)) e ∙ f))

  beta_end : is_alpha (kind seed i) ≡ false → is_beta (kind seed i) ≡ true → EndsSo seed i o
  beta_end a c = by (kind seed i == 6) (kind seed i == 7) refl refl c
    where
      d : ℕ
      d = beta_number seed is

      desk : (t : DriverTalk) × (slice_get talks (beta_number seed is) ≡ Some t) × HasDeskVerdict false (beta_number seed is) t (1 + k) (told.object path.object) path o o.verdict
      desk = beta_desk a c

      hears : Heard (beta_number seed is) desk.0 (1 + k) (second.fate_at seed i) (BetaGets seed (record { place = 1 + k; number = i }))
      hears = beta_heard spells law one seed is told talks outcomes history g desk.0 desk.1 k i at c

      by : (x y : Bool) → (kind seed i == 6) ≡ x → (kind seed i == 7) ≡ y → is_beta (kind seed i) ≡ true → EndsSo seed i o
      by true y e f c = at_kind 6 (is_equal (kind seed i) 6 e)
          (got_size (beta_number seed is) false desk.0 (codes "beta") desk.2
          (hears.heard ∙ ap (λ (t : Bool). heard_by (if t then Known heard.Got else Known (heard.Refused cause.Error))) e)
          (λ bytes gave. let x = hears.got bytes gave in
          sym (x.1 ∙ ap (λ (t : Bool). if t then Some (answer (codes "beta") seed i) else None) e) ∙ x.2))
      by false true e f c =
          let so = refused_ends (told.object path.object) path raw (content seed i) (object_is seed is told g.made k i at) (content_right seed i)
          false (beta_number seed is) desk.0 (1 + k) o fine.leaf fine.memory desk.2 cause.Error refl
          (hears.heard ∙ ap (λ (t : Bool). heard_by (if t then Known heard.Got else Known (heard.Refused cause.Error))) e) in
          let seven = is_equal (kind seed i) 7 f in
          let unfiltered : is_filtered (kind seed i) ≡ false = ap (λ (t : Bool). t || (kind seed i == 6)) a ∙ e in
          let size = size_is seed i unfiltered ∙ ap (λ (n : ℕ). sized n (line_count seed i) (length (content seed i))) seven in
          at_kind 7 seven (was_unfiltered o cause.Error so.0 path (prepared path.conversion path.object (content seed i)).bytes
          (length (content seed i)) so.1 so.2 size)
      by false false e f c = absurd (true≢false (sym c ∙ ap (λ (t : Bool). t || (kind seed i == 7)) e ∙ f))

  pub path_ends : (x : Outcome) → slice_get outcomes (suc k) ≡ Some x → EndsSo seed i x
  path_ends x there =
      let both : Some o ≡ Some x = sym fine.there ∙ there in
      let same : o ≡ x = cc (both) in
      subst (EndsSo seed i) same (by (is_alpha (kind seed i)) (is_beta (kind seed i)) refl refl)
    where
      by : (a c : Bool) → is_alpha (kind seed i) ≡ a → is_beta (kind seed i) ≡ c → EndsSo seed i o
      by true c e f = alpha_end e
      by false true e f = beta_end e f
      by false false e f = plain_end e f
