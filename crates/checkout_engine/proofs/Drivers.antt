-- The drivers of a plan, and the order of its paths.
use Rattle.std.proofs.Common.{◌≡◌, ℕ, zero, suc, ◌+◌, ◌≤◌, ◌==◌, eq-eqb, ◌||◌, Bool, true, false, if◌then◌else◌, List, [], ◌∷◌, length, map, Option, Some, None, Result, Ok, Err, refl, sym, ap, ◌∙◌, subst, arith}
use Rattle.std.specs.Prelude.{slice_get, codes}
use Rattle.std.specs.List.{list_any, AllByRecursion}
use Rattle.std.specs.Str.{bytes_eq, is_utf8}
use Rattle.std.proofs.lemmas.Bool.{eqb-true}
use Rattle.std.proofs.lemmas.Option.{same_Some}
use Rattle.edge_kit.specs.Told.{RepoTold}
use Rattle.git_index.specs.declared.entry.Entry.{Entry}
use Rattle.git_index.specs.declared.entry.Mode.{Mode}
use Rattle.git_index.specs.declared.entry.Mode.TheVariants as mode
use Rattle.git_index.specs.Spelling.{pairwise, PathsAreOrdered}
use Rattle.attr_stack.specs.declared.files.OuterFiles.{OuterFiles}
use Rattle.attr_line.specs.declared.state.AttrState.{AttrState}
use Rattle.attr_line.specs.declared.state.AttrState.TheVariants as state
use Rattle.attr_stack.specs.declared.files.AttrFiles.{AttrFiles}
use Rattle.attr_stack.specs.Decided.{state_of}
use Rattle.settings_view.specs.declared.view.Driver.{Driver}
use Rattle.settings_view.specs.declared.view.Settings.{Settings}
use Rattle.tree_encoding.specs.declared.encoding.UnknownEncoding.{UnknownEncoding}
use Rattle.convert_plan.specs.declared.conversion.Conversion.{Conversion}
use Rattle.convert_plan.specs.Conversion.{conversion_of}
use Rattle.checkout_core.specs.declared.verdict.Verdict.TheVariants as verdict
use Rattle.checkout_core.specs.declared.verdict.FailCause.TheVariants as fail
use Rattle.checkout_core.specs.declared.verdict.SkipCause.TheVariants as skip
use Rattle.checkout_core.specs.declared.path.Start.{Start}
use Rattle.checkout_core.specs.declared.path.Start.TheVariants as start
use Rattle.checkout_plan.specs.declared.path_plan.PathPlan.{PathPlan}
use Rattle.checkout_plan.specs.declared.path_plan.Plan.{Plan}
use Rattle.checkout_plan.specs.AttributeFiles.{attribute_files}
use Rattle.checkout_plan.specs.Paths.{conversion_names, no_conversion, path_with, closed, converted, file_path, text_path, link_path, path_of_mode, asked_path, asked_paths, first_entries, path_among, start_among, plan_of}
use Rattle.checkout_plan.specs.Paths.{start_by, start_at, start_named, filter_start, is_desk_of, asks_for, is_used, used_from, number_at}
use Rattle.checkout_engine.proofs.LeftOut.{left_out_by}
use Rattle.checkout_paths.specs.Cards.{AreOrdered, AreDrivers, HasDriver}
use Rattle.checkout_paths.specs.Dealing.{IsWork}
use Rattle.checkout_sources.specs.Sources.{IsPlanned}
use Rattle.checkout_engine.proofs.Bounds.{planned_texts, planned_size}
use Rattle.checkout_paths.specs.Cards.{precedes}
use Rattle.checkout_engine.proofs.Order.{plan_rises}

-- the driver has a command
abbrev HasCommand : Driver → Type 0
HasCommand x = (command : List ℕ) × (x.process ≡ Some command)

-- a path at a desk has its driver at that place, with a command
abbrev StartsBy : List Driver → Start → Type 0
StartsBy ds (start.Desk place required) = (x : Driver) × (slice_get ds place ≡ Some x) × (x.required ≡ required) × HasCommand x
StartsBy ds s = Unit {0}

abbrev AllStart : List Driver → List PathPlan → Type 0
AllStart ds ps = AllByRecursion (λ p. StartsBy ds p.start) ps

start_by_is : (ds : List Driver) (place : ℕ) (x : Driver) (process : Option (List ℕ)) (required : Bool) → slice_get ds place ≡ Some x → x.process ≡ process → x.required ≡ required
    → StartsBy ds (start_by place process required)
start_by_is ds place x (Some command) required at is same = (x, at, same, (command, is))
start_by_is ds place x None true at is same = tt
start_by_is ds place x None false at is same = tt

named_is : (all ds : List Driver) (place : ℕ) (name : List ℕ) → ((i : ℕ) (x : Driver) → slice_get ds i ≡ Some x → slice_get all (place + i) ≡ Some x) → StartsBy all (start_named place ds name)
named_is all [] place name at = tt
named_is all (d ∷ ds) place name at =
    by (bytes_eq d.name name) (named_is all ds (suc place) name (λ i x h. ap (slice_get all) (omega arith) ∙ at (suc i) x h))
  where
    by : (b : Bool) → StartsBy all (start_named (suc place) ds name) → StartsBy all (if b then start_at place d else start_named (suc place) ds name)
    by true rest = start_by_is all place d d.process d.required (ap (slice_get all) (omega arith) ∙ at zero d refl) refl refl
    by false rest = rest

filter_is : (ds : List Driver) (s : AttrState) → StartsBy ds (filter_start ds s)
filter_is ds (state.Value name) = named_is ds ds 0 name (λ i x h. ap (slice_get ds) (omega arith) ∙ h)
filter_is ds state.Set = tt
filter_is ds state.Unset = tt
filter_is ds state.Unspecified = tt

converted_is : (ds : List Driver) (e : Entry) (begin : Start) (c : Result Conversion UnknownEncoding) → StartsBy ds begin → StartsBy ds (converted e begin c).start
converted_is ds e (start.Done v) (Ok c) is = tt
converted_is ds e start.Pool (Ok c) is = tt
converted_is ds e (start.Desk place required) (Ok c) is = is
converted_is ds e (start.Done v) (Err u) is = tt
converted_is ds e start.Pool (Err u) is = tt
converted_is ds e (start.Desk place required) (Err u) is = tt

text_is : (ds : List Driver) (e : Entry) (p : PathPlan) (b : Bool) → StartsBy ds p.start → StartsBy ds (if b then p else closed e (verdict.Failed fail.NameNotText)).start
text_is ds e p true is = is
text_is ds e p false is = tt

file_is : (files : AttrFiles) (settings : Settings) (e : Entry) → StartsBy settings.drivers (file_path files settings e).start
file_is files settings e =
    converted_is settings.drivers e (filter_start settings.drivers (state_of files e.path (codes "filter")))
    (conversion_of (map (state_of files e.path) conversion_names) settings.autocrlf settings.eol)
    (filter_is settings.drivers (state_of files e.path (codes "filter")))

mode_is : (m : Mode) (files : AttrFiles) (settings : Settings) (e : Entry) → StartsBy settings.drivers (path_of_mode m files settings e).start
mode_is mode.Plain files settings e = left_out_by (λ p. StartsBy settings.drivers p.start) e (text_path files settings e) (λ v. tt) (text_is settings.drivers e (file_path files settings e) (is_utf8 e.path) (file_is files settings e))
mode_is mode.Executable files settings e = left_out_by (λ p. StartsBy settings.drivers p.start) e (text_path files settings e) (λ v. tt) (text_is settings.drivers e (file_path files settings e) (is_utf8 e.path) (file_is files settings e))
mode_is mode.Link files settings e = left_out_by (λ p. StartsBy settings.drivers p.start) e (link_path e) (λ v. tt) (text_is settings.drivers e (path_with e no_conversion start.Pool) (is_utf8 e.path) tt)
mode_is mode.Gitlink files settings e = tt

asked_is : (files : AttrFiles) (settings : Settings) (e : Entry) → StartsBy settings.drivers (asked_path files settings e).start
asked_is files settings e = by (e.stage == 0)
  where
    by : (b : Bool) → StartsBy settings.drivers (if b then path_of_mode e.mode files settings e else closed e (verdict.Skipped skip.Unmerged)).start
    by true = mode_is e.mode files settings e
    by false = tt

all_asked : (files : AttrFiles) (settings : Settings) (es : List Entry) → AllStart settings.drivers (map (asked_path files settings) es)
all_asked files settings [] = tt
all_asked files settings (e ∷ es) = (asked_is files settings e, all_asked files settings es)

-- a driver that some path asks for has a command
command_of : (ds : List Driver) (ps : List PathPlan) (place : ℕ) (x : Driver) → AllStart ds ps → slice_get ds place ≡ Some x → list_any (asks_for place) ps ≡ true → HasCommand x
command_of ds [] place x all at used = absurd cc
command_of ds (p ∷ ps) place x all at used = by p.start all.0 (command_of ds ps place x all.1 at) used
  where
    here : (d : ℕ) (b : Bool) → (d == place) ≡ b → (y : Driver) → slice_get ds d ≡ Some y → HasCommand y → (list_any (asks_for place) ps ≡ true → HasCommand x) → (b || list_any (asks_for place) ps) ≡ true
        → HasCommand x
    here d true same y there has rest used =
        subst HasCommand (same_Some y x (sym there ∙ (ap (slice_get ds) (eqb-true d place same) ∙ at))) has
    here d false same y there has rest used = rest used

    by : (s : Start) → StartsBy ds s → (list_any (asks_for place) ps ≡ true → HasCommand x) → (is_desk_of place s || list_any (asks_for place) ps) ≡ true → HasCommand x
    by (start.Desk d required) (y, there, same, has) rest used = here d (d == place) refl y there has rest used
    by start.Pool is rest used = rest used
    by (start.Done v) is rest used = rest used

commands : (all ds : List Driver) (asked : List PathPlan) (place : ℕ) → AllStart all asked → ((i : ℕ) (x : Driver) → slice_get ds i ≡ Some x → slice_get all (place + i) ≡ Some x)
    → AllByRecursion HasCommand (used_from place asked ds)
commands all [] asked place starts at = tt
commands all (d ∷ ds) asked place starts at =
    by (is_used asked place) refl (commands all ds asked (suc place) starts (λ i x h. ap (slice_get all) (omega arith) ∙ at (suc i) x h))
  where
    by : (b : Bool) → is_used asked place ≡ b → AllByRecursion HasCommand (used_from (suc place) asked ds)
        → AllByRecursion HasCommand (if b then d ∷ used_from (suc place) asked ds else used_from (suc place) asked ds)
    by true used rest = (command_of all asked place d starts (ap (slice_get all) (omega arith) ∙ at zero d refl) used, rest)
    by false used rest = rest

-- a driver in use stands at its number among those in use
record IsAt (asked : List PathPlan) (place k : ℕ) (ds : List Driver) (x : Driver) : Type 0 where
  index : ℕ
  number : number_at asked (place + k) ≡ number_at asked place + index
  there : slice_get (used_from place asked ds) index ≡ Some x

used_at : (asked : List PathPlan) (ds : List Driver) (place k : ℕ) (x : Driver) → slice_get ds k ≡ Some x → is_used asked (place + k) ≡ true → IsAt asked place k ds x
used_at asked [] place k x at used = absurd cc
used_at asked (d ∷ ds) place zero x at used =
    let here : ◌≡◌ {A = ℕ} (place + zero) place = omega arith in
    let same : number_at asked (place + zero) ≡ number_at asked place = ap (number_at asked) here in
    record {
      index = 0;
      number = omega (arith, same);
      there = by (is_used asked place) (subst (λ (m : ℕ). is_used asked m ≡ true) here used);
    }
  where
    by : (b : Bool) → b ≡ true → slice_get (if b then d ∷ used_from (suc place) asked ds else used_from (suc place) asked ds) 0 ≡ Some x
    by true is = at
    by false is = absurd cc
used_at asked (d ∷ ds) place (suc k) x at used =
    more (is_used asked place) refl (used_at asked ds (suc place) k x at (ap (is_used asked) (omega arith) ∙ used))
  where
    more : (b : Bool) → is_used asked place ≡ b → IsAt asked (suc place) k ds x → IsAt asked place (suc k) (d ∷ ds) x
    more true is r =
        let next : number_at asked (suc place) ≡ suc (number_at asked place) = ap (λ (b : Bool). if b then suc (number_at asked place) else number_at asked place) is in
        let same : number_at asked (place + suc k) ≡ number_at asked (suc place + k) = ap (number_at asked) (omega arith) in
        record {
          index = suc r.index;
          number = omega (arith, same, r.number, next);
          there = ap (λ (b : Bool). slice_get (if b then d ∷ used_from (suc place) asked ds else used_from (suc place) asked ds) (suc r.index)) is ∙ r.there;
        }
    more false is r =
        let next : number_at asked (suc place) ≡ number_at asked place = ap (λ (b : Bool). if b then suc (number_at asked place) else number_at asked place) is in
        let same : number_at asked (place + suc k) ≡ number_at asked (suc place + k) = ap (number_at asked) (omega arith) in
        record {
          index = r.index;
          number = omega (arith, same, r.number, next);
          there = ap (λ (b : Bool). slice_get (if b then d ∷ used_from (suc place) asked ds else used_from (suc place) asked ds) r.index) is ∙ r.there;
        }

among : (all : List Driver) (asked : List PathPlan) (s : Start) → ((place : ℕ) → is_desk_of place s ≡ true → is_used asked place ≡ true) → StartsBy all s → HasDriver (used_from 0 asked all) (start_among asked s)
among all asked (start.Done v) used is = tt
among all asked start.Pool used is = tt
among all asked (start.Desk place required) used (x, at, same, has) =
    let r = used_at asked all 0 place x at (ap (is_used asked) (omega arith) ∙ used place (eq-eqb place place refl)) in
    let number : number_at asked place ≡ r.index = ap (number_at asked) (omega arith) ∙ (r.number ∙ omega arith) in
    (x, ap (slice_get (used_from 0 asked all)) number ∙ r.there, same)

or_left : (a b : Bool) → a ≡ true → (a || b) ≡ true
or_left a b is = rw is refl

or_right : (a b : Bool) → b ≡ true → (a || b) ≡ true
or_right true b is = refl
or_right false b is = is

all_among : (all : List Driver) (asked ps : List PathPlan) → ((place : ℕ) → list_any (asks_for place) ps ≡ true → is_used asked place ≡ true) → AllStart all ps
    → AllByRecursion (λ p. HasDriver (used_from 0 asked all) p.start) (map (path_among asked) ps)
all_among all asked [] used starts = tt
all_among all asked (p ∷ ps) used starts = (
  among all asked p.start (λ place is. used place (or_left (is_desk_of place p.start) (list_any (asks_for place) ps) is)) starts.0,
  all_among all asked ps (λ place is. used place (or_right (is_desk_of place p.start) (list_any (asks_for place) ps) is)) starts.1,
)

plan_drivers : (es : List Entry) (settings : Settings) (outer : OuterFiles) (contents : List (List ℕ)) → let plan = plan_of es settings outer contents in length plan.drivers ≤ 16 → AreDrivers plan.drivers plan.paths
plan_drivers es settings outer contents few =
    let files = attribute_files outer es contents in
    let asked = asked_paths files settings es in
    let starts = all_asked files settings (first_entries es) in
    record {
      of_paths = unfold plan_of in all_among settings.drivers asked asked (λ place is. is) starts;
      commands = unfold plan_of in commands settings.drivers settings.drivers asked 0 starts (λ i x h. ap (slice_get settings.drivers) (omega arith) ∙ h);
      few = few;
    }

-- the drivers of a plan that was read
pub planned_drivers : (told : RepoTold) (plan : Plan) → IsPlanned told plan → AreDrivers plan.drivers plan.paths
planned_drivers told plan planned =
    subst (λ (p : Plan). AreDrivers p.drivers p.paths) (sym planned.made.is)
    (plan_drivers planned.entries planned.settings planned.outer planned.made.contents (subst (λ (p : Plan). length p.drivers ≤ 16) planned.made.is planned.few))

-- its paths rise
pub planned_ordered : PathsAreOrdered → (told : RepoTold) (plan : Plan) → IsPlanned told plan → AreOrdered plan.paths
planned_ordered law told plan planned =
    subst (λ (p : Plan). pairwise precedes p.paths ≡ true) (sym planned.made.is)
    (plan_rises law planned.entries planned.settings planned.outer planned.made.contents planned.sources.index.is_index.text.rising)

-- what is dealt from is that of a plan
pub planned_work : (told : RepoTold) (plan : Plan) → IsPlanned told plan → IsWork plan.paths plan.drivers
planned_work told plan planned = record {
  few = planned_size told plan planned;
  texts = planned_texts told plan planned;
  drivers_are = planned_drivers told plan planned;
}
