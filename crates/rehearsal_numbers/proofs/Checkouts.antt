-- A checkout of a rehearsal that nothing disturbed: each path's outcome, and each driver's talk.
use Rattle.std.proofs.Common.{◌≡◌, ℕ, zero, suc, ◌+◌, ◌≤◌, Bool, true, false, ◌||◌, List, [], ◌∷◌, map, length, Some, None, refl, sym, ap, ◌∙◌, subst, arith}
use Rattle.std.specs.Prelude.{slice_get, Option}
use Rattle.std.specs.List.{AllByRecursion}
use Rattle.std.specs.Str.{bytes_eq}
use Rattle.std.proofs.lemmas.List.Sums.{sum_by-append, sum_by-cons}
use Rattle.std.proofs.lemmas.Bool.{true≢false}
use Rattle.std.proofs.lemmas.Slice.Eq.{bytes_eq-Decides}
use Rattle.edge_kit.specs.MemoryDrivers.{starts_for}
use Rattle.edge_kit.specs.Starters.{Starts}
use Rattle.edge_kit.specs.Told.{Told, Raw, RepoTold}
use Rattle.edge_kit.specs.declared.leaf_state.LeafState.{LeafState}
use Rattle.object_dir.specs.Spelling.{spelled_blob}
use Rattle.settings_view.specs.declared.view.Driver.{Driver}
use Rattle.checkout_core.specs.declared.event.Event.{Event}
use Rattle.checkout_core.specs.declared.verdict.Verdict.{Verdict}
use Rattle.driver_line.specs.SameHeard.{NoneFailed}
use Rattle.checkout_plan.specs.declared.path_plan.PathPlan.{PathPlan}
use Rattle.checkout_engine.specs.Complete.{failed_leaves}
use Rattle.checkout_engine.specs.Ends.{verdicts_of}
use Rattle.checkout_paths.specs.Outcome.{Outcome, HasOutcome, AreOutcomes, leaf_back}
use Rattle.checkout_paths.specs.Paths.{leaves_back}
use Rattle.checkout_engine.specs.Report.{lacks_memory}
use Rattle.checkout_paths.specs.Talks.{DriverTalk, IsDriverTalk, AreDriverTalks, is_no_memory}
use Rattle.rehearsal.specs.Paths.{name, content}
use Rattle.rehearsal.specs.Repository.{files, IsRepository}
use Rattle.rehearsal.specs.Drivers.{scripts}
use Rattle.rehearsal_numbers.specs.Contents.{name_of}
use Rattle.rehearsal_numbers.specs.Plans.{paths_of, drivers_of, path_at}
use Rattle.rehearsal_numbers.proofs.Lists.{Differ}
use Rattle.rehearsal_numbers.proofs.Objects.{told_at}
use Rattle.rehearsal_numbers.proofs.PathEnds.{leaf_count}
use Rattle.rehearsal_numbers.proofs.Places.{in_at}

pub record IsRehearsal (seed : ℕ) (is : List ℕ) (told : RepoTold) (talks : List DriverTalk) (outcomes : List Outcome)
    (history : List Event) : Type 0 where
  pub few : length is ≤ 99999
  pub differ : Differ seed is
  pub made : IsRepository (files seed is) told
  pub fits : AreOutcomes told.object talks 0 (paths_of seed is) outcomes
  pub conversations : AreDriverTalks (starts_for (scripts seed is)) told.object (paths_of seed is) (verdicts_of outcomes) history 0
      (drivers_of seed is) talks
  pub memory : lacks_memory (verdicts_of outcomes) ≡ false
  pub leaves : failed_leaves (leaves_back (paths_of seed is) outcomes) ≡ 0
  pub links : AllByRecursion (λ t. NoneFailed t.had) talks

-- the outcome of a path, for which there was memory and whose leaf didn't fail
pub record FineAt (object : List ℕ → Told) (talks : List DriverTalk) (os : List Outcome) (n k : ℕ) (p : PathPlan) : Type 0 where
  pub outcome : Outcome
  pub there : slice_get os k ≡ Some outcome
  pub has : HasOutcome object talks p.start n p outcome
  pub memory : is_no_memory outcome.verdict ≡ false
  pub leaf : leaf_count outcome.leaf ≡ 0

pub or_parts : (a b : Bool) → (a || b) ≡ false → (a ≡ false) × (b ≡ false)
or_parts true b h = absurd (true≢false h)
or_parts false b h = (refl, h)

leaf_is : (p : PathPlan) (leaf : Option (LeafState × ℕ)) → failed_leaves (leaf_back p leaf) ≡ leaf_count leaf
leaf_is p None = refl
leaf_is p (Some l) = sum_by-cons (λ (x : List ℕ × LeafState × ℕ). x.2) (p.path, l.0, l.1) [] ∙ one
  where
    one : l.1 + 0 ≡ l.1
    one = omega arith

-- the first outcome, and the rest
pub parts : (p : PathPlan) (ps : List PathPlan) (o : Outcome) (os : List Outcome)
    → lacks_memory (verdicts_of (o ∷ os)) ≡ false → failed_leaves (leaves_back (p ∷ ps) (o ∷ os)) ≡ 0
    → (is_no_memory o.verdict ≡ false) × (leaf_count o.leaf ≡ 0) × (lacks_memory (verdicts_of os) ≡ false)
    × (failed_leaves (leaves_back ps os) ≡ 0)
parts p ps o os m l =
    let memory = or_parts (is_no_memory o.verdict) (lacks_memory (verdicts_of os)) m in
    let all : failed_leaves (leaves_back (p ∷ ps) (o ∷ os)) ≡ failed_leaves (leaf_back p o.leaf) + failed_leaves (leaves_back ps os) =
    sum_by-append (λ (x : List ℕ × LeafState × ℕ). x.2) (leaf_back p o.leaf) (leaves_back ps os) in
    let one = leaf_is p o.leaf in
    (memory.0, omega (arith, l, all, one), memory.1, omega (arith, l, all))

pub fine_at : (object : List ℕ → Told) (talks : List DriverTalk) (n : ℕ) (ps : List PathPlan) (os : List Outcome)
    → AreOutcomes object talks n ps os → lacks_memory (verdicts_of os) ≡ false → failed_leaves (leaves_back ps os) ≡ 0
    → (k : ℕ) (p : PathPlan) → slice_get ps k ≡ Some p → FineAt object talks os (n + k) k p
fine_at object talks n [] os f m l k p at = absurd (cc (at))
fine_at object talks n (q ∷ ps) [] f m l k p at = absurd f
fine_at object talks n (q ∷ ps) (o ∷ os) f m l zero p at =
    let x = parts q ps o os m l in
    let same : q ≡ p = cc (at) in
    let place : ◌≡◌ {A = ℕ} n (n + zero) = omega arith in
    record {
      outcome = o;
      there = refl;
      has = subst (λ (i : ℕ). HasOutcome object talks p.start i p o) place
          (subst (λ (r : PathPlan). HasOutcome object talks r.start n r o) same f.0);
      memory = x.0;
      leaf = x.1;
    }
fine_at object talks n (q ∷ ps) (o ∷ os) f m l (suc k) p at =
    let x = parts q ps o os m l in
    let rest = fine_at object talks (suc n) ps os f.1 x.2 x.3 k p at in
    let place : ◌≡◌ {A = ℕ} (suc n + k) (n + suc k) = omega arith in
    record {
      outcome = rest.outcome;
      there = rest.there;
      has = subst (λ (i : ℕ). HasOutcome object talks p.start i p rest.outcome) place rest.has;
      memory = rest.memory;
      leaf = rest.leaf;
    }

-- the talk with a driver
pub record TalkAt (ahead : List ℕ → Starts) (object : List ℕ → Told) (ps : List PathPlan) (verdicts : List Verdict)
    (history : List Event) (d k : ℕ) (drivers : List Driver) (t : DriverTalk) : Type 0 where
  pub driver : Driver
  pub there : slice_get drivers k ≡ Some driver
  pub said : IsDriverTalk ahead object ps verdicts history d driver t

pub talk_at : (ahead : List ℕ → Starts) (object : List ℕ → Told) (ps : List PathPlan) (verdicts : List Verdict)
    (history : List Event) (n : ℕ) (drivers : List Driver) (talks : List DriverTalk)
    → AreDriverTalks ahead object ps verdicts history n drivers talks → (k : ℕ) (t : DriverTalk) → slice_get talks k ≡ Some t
    → TalkAt ahead object ps verdicts history (n + k) k drivers t
talk_at ahead object ps verdicts history n [] [] h k t at = absurd (cc (at))
talk_at ahead object ps verdicts history n [] (u ∷ us) h k t at = absurd h
talk_at ahead object ps verdicts history n (x ∷ xs) [] h k t at = absurd h
talk_at ahead object ps verdicts history n (x ∷ xs) (u ∷ us) h zero t at =
    let same : u ≡ t = cc (at) in
    let place : ◌≡◌ {A = ℕ} n (n + zero) = omega arith in
    record {
      driver = x;
      there = refl;
      said = subst (λ (i : ℕ). IsDriverTalk ahead object ps verdicts history i x t) place
          (subst (λ (v : DriverTalk). IsDriverTalk ahead object ps verdicts history n x v) same h.0);
    }
talk_at ahead object ps verdicts history n (x ∷ xs) (u ∷ us) h (suc k) t at =
    let rest = talk_at ahead object ps verdicts history (suc n) xs us h.1 k t at in
    let place : ◌≡◌ {A = ℕ} (suc n + k) (n + suc k) = omega arith in
    record {
      driver = rest.driver;
      there = rest.there;
      said = subst (λ (i : ℕ). IsDriverTalk ahead object ps verdicts history i rest.driver t) place rest.said;
    }

pub links_at : (talks : List DriverTalk) → AllByRecursion (λ t. NoneFailed t.had) talks → (k : ℕ) (t : DriverTalk)
    → slice_get talks k ≡ Some t → NoneFailed t.had
links_at [] h k t at = absurd (cc (at))
links_at (u ∷ us) h zero t at = let same : u ≡ t = cc (at) in subst (λ (v : DriverTalk). NoneFailed v.had) same h.0
links_at (u ∷ us) h (suc k) t at = links_at us h.1 k t at

-- elements of lists that are made of others
pub got_path : (b seed : ℕ) (is : List ℕ) (k : ℕ) (p : PathPlan) → slice_get (map (path_at b seed) is) k ≡ Some p
    → (i : ℕ) × (slice_get is k ≡ Some i) × (p ≡ path_at b seed i)
got_path b seed [] k p at = absurd (cc (at))
got_path b seed (j ∷ js) zero p at = let same : path_at b seed j ≡ p = cc (at) in (j, refl, sym same)
got_path b seed (j ∷ js) (suc k) p at = got_path b seed js k p at

pub path_got : (b seed : ℕ) (is : List ℕ) (k i : ℕ) → slice_get is k ≡ Some i
    → slice_get (map (path_at b seed) is) k ≡ Some (path_at b seed i)
path_got b seed [] k i at = absurd (cc (at))
path_got b seed (j ∷ js) zero i at = let same : j ≡ i = cc (at) in ap (λ (x : ℕ). Some (path_at b seed x)) same
path_got b seed (j ∷ js) (suc k) i at = path_got b seed js k i at

pub verdict_got : (os : List Outcome) (k : ℕ) (o : Outcome) → slice_get os k ≡ Some o → slice_get (verdicts_of os) k ≡ Some o.verdict
verdict_got [] k o at = absurd (cc (at))
verdict_got (x ∷ xs) zero o at = let same : x ≡ o = cc (at) in ap (λ (y : Outcome). Some y.verdict) same
verdict_got (x ∷ xs) (suc k) o at = verdict_got xs k o at

-- a name stands at one place
name_there : (seed : ℕ) (n : List ℕ) (is : List ℕ) → AllByRecursion (λ j. bytes_eq n (name seed j) ≡ false) is
    → (k j : ℕ) → slice_get is k ≡ Some j → bytes_eq n (name seed j) ≡ false
name_there seed n [] h k j at = absurd (cc (at))
name_there seed n (x ∷ xs) h zero j at =
    let same : x ≡ j = cc (at) in subst (λ (y : ℕ). bytes_eq n (name seed y) ≡ false) same h.0
name_there seed n (x ∷ xs) h (suc k) j at = name_there seed n xs h.1 k j at

pub one_place : (seed : ℕ) (is : List ℕ) → Differ seed is → (k l i j : ℕ) → slice_get is k ≡ Some i → slice_get is l ≡ Some j
    → name seed i ≡ name seed j → k ≡ l
one_place seed [] d k l i j a b e = absurd (cc (a))
one_place seed (x ∷ xs) d zero zero i j a b e = refl
one_place seed (x ∷ xs) d zero (suc l) i j a b e =
    let same : x ≡ i = cc (a) in
    let other : bytes_eq (name seed i) (name seed j) ≡ false =
    subst (λ (y : ℕ). bytes_eq (name seed y) (name seed j) ≡ false) same (name_there seed (name seed x) xs d.0 l j b) in
    absurd (true≢false (sym ((bytes_eq-Decides (name seed i) (name seed j)).1 e) ∙ other))
one_place seed (x ∷ xs) d (suc k) zero i j a b e =
    let same : x ≡ j = cc (b) in
    let other : bytes_eq (name seed j) (name seed i) ≡ false =
    subst (λ (y : ℕ). bytes_eq (name seed y) (name seed i) ≡ false) same (name_there seed (name seed x) xs d.0 k i a) in
    absurd (true≢false (sym ((bytes_eq-Decides (name seed j) (name seed i)).1 (sym e)) ∙ other))
one_place seed (x ∷ xs) d (suc k) (suc l) i j a b e = ap suc (one_place seed xs d.1 k l i j a b e)

-- the object of a path
pub object_is : (seed : ℕ) (is : List ℕ) (told : RepoTold) → IsRepository (files seed is) told → (k i : ℕ) → slice_get is k ≡ Some i
    → told.object (name_of (content seed i)) ≡ Raw (spelled_blob (content seed i))
object_is seed is told made k i at = made.object (name_of (content seed i)) ∙ told_at seed i is (in_at k i is at)
