-- The names of the objects of a plan have 20 bytes.
use Rattle.std.proofs.Common.{◌≡◌, ◌==◌, ℕ, Bool, true, false, if◌then◌else◌, List, [], ◌∷◌, length, map, Result, Ok, Err, refl, sym, ap, ◌∙◌, subst}
use Rattle.std.specs.List.{AllByRecursion}
use Rattle.std.specs.Str.{is_utf8, bytes_eq}
use Rattle.edge_kit.specs.Told.{RepoTold}
use Rattle.git_index.specs.Spelling.{IsIndex, Written, AreWritten}
use Rattle.git_index.specs.declared.entry.Entry.{Entry}
use Rattle.git_index.specs.declared.entry.Mode.{Mode}
use Rattle.git_index.specs.declared.entry.Mode.TheVariants as mode
use Rattle.git_index.specs.declared.version.Version.{Version}
use Rattle.attr_stack.specs.declared.files.OuterFiles.{OuterFiles}
use Rattle.attr_stack.specs.declared.files.AttrFiles.{AttrFiles}
use Rattle.tree_encoding.specs.declared.encoding.UnknownEncoding.{UnknownEncoding}
use Rattle.convert_plan.specs.declared.conversion.Conversion.{Conversion}
use Rattle.checkout_core.specs.declared.path.Start.{Start}
use Rattle.checkout_core.specs.declared.path.Start.TheVariants as start
use Rattle.checkout_core.specs.declared.verdict.Verdict.TheVariants as verdict
use Rattle.checkout_core.specs.declared.verdict.FailCause.TheVariants as fail
use Rattle.checkout_core.specs.declared.verdict.SkipCause.TheVariants as skip
use Rattle.settings_view.specs.declared.view.Settings.{Settings}
use Rattle.checkout_plan.specs.AttributeFiles.{attribute_files}
use Rattle.checkout_plan.specs.Paths.{no_conversion, path_with, closed, converted, file_path, text_path, link_path, path_of_mode, asked_path, first_entries_after, first_entries, asked_paths, path_among, plan_of}
use Rattle.checkout_plan.specs.declared.path_plan.PathPlan.{PathPlan}
use Rattle.checkout_plan.specs.declared.path_plan.Plan.{Plan}
use Rattle.checkout_engine.proofs.LeftOut.{left_out_by}
use Rattle.checkout_engine.proofs.Bounds.{planned_texts}
use Rattle.checkout_engine.specs.PlannedPaths.{AreSized}
use Rattle.checkout_sources.specs.Sources.{IsPlanned}

-- the path names the object of its entry

abbrev IsOf : Entry → PathPlan → Type 0
IsOf e p = p.object ≡ e.name

converted_of : (e : Entry) (s : Start) (r : Result Conversion UnknownEncoding) → IsOf e (converted e s r)
converted_of e (start.Done v) (Ok conversion) = refl
converted_of e start.Pool (Ok conversion) = refl
converted_of e (start.Desk place required) (Ok conversion) = refl
converted_of e (start.Done v) (Err u) = refl
converted_of e start.Pool (Err u) = refl
converted_of e (start.Desk place required) (Err u) = refl

text_of : (e : Entry) (p : PathPlan) (b : Bool) → IsOf e p → IsOf e (if b then p else closed e (verdict.Failed fail.NameNotText))
text_of e p true is = is
text_of e p false is = refl

mode_of : (m : Mode) (files : AttrFiles) (settings : Settings) (e : Entry) → IsOf e (path_of_mode m files settings e)
mode_of mode.Plain files settings e = left_out_by (IsOf e) e (text_path files settings e) (λ v. refl) (text_of e (file_path files settings e) (is_utf8 e.path) (converted_of e _ _))
mode_of mode.Executable files settings e = left_out_by (IsOf e) e (text_path files settings e) (λ v. refl) (text_of e (file_path files settings e) (is_utf8 e.path) (converted_of e _ _))
mode_of mode.Link files settings e = left_out_by (IsOf e) e (link_path e) (λ v. refl) (text_of e (path_with e no_conversion start.Pool) (is_utf8 e.path) refl)
mode_of mode.Gitlink files settings e = refl

asked_of : (files : AttrFiles) (settings : Settings) (e : Entry) → IsOf e (asked_path files settings e)
asked_of files settings e = by (e.stage == 0)
  where
    by : (b : Bool) → IsOf e (if b then path_of_mode e.mode files settings e else closed e (verdict.Skipped skip.Unmerged))
    by true = mode_of e.mode files settings e
    by false = refl

-- the names of entries have 20 bytes, and so have those of their paths

abbrev AreNamed : List Entry → Type 0
AreNamed es = AllByRecursion (λ e. length e.name ≡ 20) es

written_named : (version : Version) (last : List ℕ) (ws : List Written) → AreWritten version last ws → AreNamed (map (λ w. w.entry) ws)
written_named version last [] all = tt
written_named version last (w ∷ ws) all = (all.0.name, written_named version w.entry.path ws all.1)

first_named : (last : List ℕ) (es : List Entry) → AreNamed es → AreNamed (first_entries_after last es)
first_named last [] all = tt
first_named last (e ∷ es) all = by (bytes_eq e.path last) (first_named last es all.1) (all.0, first_named e.path es all.1)
  where
    by : (b : Bool) → AreNamed (first_entries_after last es) → AreNamed (e ∷ first_entries_after e.path es)
        → AreNamed (if b then first_entries_after last es else e ∷ first_entries_after e.path es)
    by true same first = same
    by false same first = first

all_named : (files : AttrFiles) (settings : Settings) (asked : List PathPlan) (es : List Entry) → AreNamed es
    → AllByRecursion (λ p. length p.object ≡ 20) (map (path_among asked) (map (asked_path files settings) es))
all_named files settings asked [] all = tt
all_named files settings asked (e ∷ es) all =
    (ap (λ name. length name) (asked_of files settings e) ∙ all.0, all_named files settings asked es all.1)

plan_named : (bytes : List ℕ) (es : List Entry) (settings : Settings) (outer : OuterFiles) (contents : List (List ℕ)) → IsIndex bytes es
    → AllByRecursion (λ p. length p.object ≡ 20) (plan_of es settings outer contents).paths
plan_named bytes es settings outer contents index = unfold plan_of in
    let files = attribute_files outer es contents in
    all_named files settings (asked_paths files settings es) (first_entries es)
    (first_named [] es (subst AreNamed index.text.same (written_named index.text.version [] index.text.written index.text.fit)))

pub planned_sized : (told : RepoTold) (plan : Plan) → IsPlanned told plan → AreSized plan.paths
planned_sized told plan planned = record {
  texts = planned_texts told plan planned;
  names = subst (λ (p : Plan). AllByRecursion (λ x. length x.object ≡ 20) p.paths) (sym planned.made.is) (plan_named _ planned.entries planned.settings planned.outer planned.made.contents planned.sources.index.is_index);
}
