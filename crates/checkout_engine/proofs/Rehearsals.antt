-- Two rehearsals by the same numbers have the same summary.
use Rattle.std.proofs.Common.{◌≡◌, ℕ, Bool, true, false, if◌then◌else◌, List, [], ◌∷◌, map, None, refl, sym, ap, ◌∙◌, subst}
use Rattle.std.specs.Str.{bytes_eq}
use Rattle.object_dir.specs.Spelling.{spelled_blob}
use Rattle.git_index.specs.Spelling.{OneReading, PathsAreOrdered}
use Rattle.edge_kit.specs.MemoryDrivers.{start_told, sessions_for, starts_for}
use Rattle.edge_kit.specs.Seen.{TreeSeen}
use Rattle.edge_kit.specs.Starters.{Starts}
use Rattle.edge_kit.specs.Told.{Told, Raw, RepoTold}
use Rattle.edge_kit.specs.declared.script.DriverScript.{DriverScript}
use Rattle.edge_kit.specs.declared.tree_file.TreeFile.{TreeFile}
use Rattle.driver_line.specs.OneContent.{OneContent}
use Rattle.driver_line.specs.SameHeard.{SameHeard}
use Rattle.checkout_core.specs.declared.verdict.Verdict.{Verdict}
use Rattle.rehearsal.specs.Drivers.{scripts}
use Rattle.rehearsal.specs.Paths.{in_order}
use Rattle.rehearsal.specs.Repository.{File, files, entry_of, object_told, IsRepository}
use Rattle.checkout_engine.specs.Alike.{IsTold, TellAll}
use Rattle.checkout_engine.specs.Rehearsed.{IsTriedWell, RehearsalsAreAlike, new_memory, summary}
use Rattle.checkout_engine.proofs.Alike.{alike_words}

-- one repository tells the same each time
repo_of : Told → Told → Told → Told → (List ℕ → Told) → RepoTold
repo_of index config info base object = record { index = index; config = config; info = info; base = base; object = object }

same_repo : (fs : List File) (t u : RepoTold) → IsRepository fs t → IsRepository fs u → u ≡ t
unfolding repo_of
same_repo fs t u a b =
    let objects : u.object ≡ t.object = λ i name. (b.object name ∙ sym (a.object name)) i in
    ap (λ (x : Told). repo_of x u.config u.info u.base u.object) (b.index ∙ sym a.index)
    ∙ ap (λ (x : Told). repo_of t.index x u.info u.base u.object) (b.config ∙ sym a.config)
    ∙ ap (λ (x : Told). repo_of t.index t.config x u.base u.object) (b.info ∙ sym a.info)
    ∙ ap (λ (x : Told). repo_of t.index t.config t.info x u.object) (b.base ∙ sym a.base)
    ∙ ap (λ (x : List ℕ → Told). repo_of t.index t.config t.info t.base x) objects

-- and it tells all
object_is_told : (fs : List File) (name : List ℕ) → IsTold (object_told fs name)
object_is_told [] name = tt
object_is_told (f ∷ fs) name = by (bytes_eq (entry_of f).name name) (object_is_told fs name)
  where
    by : (b : Bool) → IsTold (object_told fs name) → IsTold (if b then Raw (spelled_blob f.content) else object_told fs name)
    by true more = tt
    by false more = more

tells_all : (fs : List File) (told : RepoTold) (ds : List DriverScript) → IsRepository fs told → TellAll told (starts_for ds)
tells_all fs told ds made = record {
  repo = record {
    index = subst IsTold (sym made.index) tt;
    config = subst IsTold (sym made.config) tt;
    info = subst IsTold (sym made.info) tt;
    base = subst IsTold (sym made.base) tt;
    object = λ name. subst IsTold (sym (made.object name)) (object_is_told fs name);
  };
  starts = λ command. (map start_told (sessions_for ds command), refl);
}

pub alike_rehearsals : OneReading → PathsAreOrdered → SameHeard → OneContent → RehearsalsAreAlike
alike_rehearsals reading ordered law one seed paths a b x y =
    let ahead : List ℕ → Starts = starts_for (scripts seed (in_order paths)) in
    let told = x.rehearsed.told in
    let same : y.rehearsed.told ≡ told = same_repo (files seed (in_order paths)) told y.rehearsed.told x.rehearsed.made y.rehearsed.made in
    let first = x.rehearsed.well in
    let second : IsTriedWell told ahead y.run y.tree = subst (λ (t : RepoTold). IsTriedWell t ahead y.run y.tree) same y.rehearsed.well in
    let all = tells_all (files seed (in_order paths)) told (scripts seed (in_order paths)) x.rehearsed.made in
    let alike = alike_words reading ordered law one told ahead None None new_memory first.tried.left new_memory second.tried.left all first.tried.checkout second.tried.checkout first.undisturbed second.undisturbed in
    let verdicts : (x.run).verdicts.items ≡ (y.run).verdicts.items = first.tried.own.verdicts_are ∙ alike.verdicts ∙ sym second.tried.own.verdicts_are in
    let trees : x.fs ≡ y.fs =
    alike.trees x.fs y.fs (ap (λ (t : TreeSeen). t.files) (sym first.tried.tree_is) ∙ x.has) (ap (λ (t : TreeSeen). t.files) (sym second.tried.tree_is) ∙ y.has) in
    x.is ∙ ap (λ (l : List Verdict). summary paths l x.fs) verdicts ∙ ap (λ (l : List TreeFile). summary paths (y.run).verdicts.items l) trees ∙ sym y.is
