-- A driver that is a single run gives all its paths if each run ends well.
use Rattle.std.proofs.Common.{◌≡◌, ℕ, zero, suc, Bool, true, false, cond, ◌&&◌, if◌then◌else◌, List, [], ◌∷◌, length, Option, Some, None, sym, ap, ◌∙◌, subst}
use Rattle.std.specs.Prelude.{slice_get}
use Rattle.std.proofs.lemmas.Bool.{le-leb}
use Rattle.std.proofs.lemmas.Option.{same_Some}
use Rattle.filter_words.specs.Requests.{first_text}
use Rattle.edge_kit.specs.Starters.{Had}
use Rattle.tree_encoding.specs.declared.prepared.Prepared.{Prepared}
use Rattle.checkout_core.specs.Fates.{Fate, Known, heard_by}
use Rattle.checkout_core.specs.declared.path.Heard.TheVariants as heard
use Rattle.driver_host.specs.declared.work.Choice.{Choice}
use Rattle.driver_host.specs.declared.work.Choice.TheVariants as choice
use Rattle.driver_line.specs.SameHeard.{fate_in, content_of}
use Rattle.one_shot.specs.Onces.{OnceTold}
use Rattle.one_shot.specs.Replies.{AreServed}
use Rattle.one_shot.specs.Works.{choice_told, most_output}
use Rattle.one_shot.specs.Starters.{is_single_run}
use Rattle.one_shot.specs.Spawners.{AllServed}
use Rattle.host_laws.specs.KeptTalks.{KeptHeard, KeptHadMemory}
use Rattle.host_laws.specs.OnceTalks.{IsHeardOf, HearsChoice, once_request}
use Rattle.host_laws.specs.RunsGive.{EndsWell, SingleRunsGiveAll}
use Rattle.host_laws.specs.SingleRuns.{run_at}
use Rattle.host_laws.proofs.KeptRuns.{hears, wants_none}
use Rattle.host_laws.proofs.RunsAlike.{run_is, request_is}

served_by_place : (xs : List (List ℕ × List Had)) (k : ℕ) (command : List ℕ) (had : List Had) → AllServed xs → slice_get xs k ≡ Some (command, had) → AreServed had
served_by_place [] k command had all at = absurd cc
served_by_place (x ∷ xs) zero command had all at = subst (λ (y : List ℕ × List Had). AreServed y.1) (same_Some x (command, had) at) all.0
served_by_place (x ∷ xs) (suc k) command had all at = served_by_place xs k command had all.1 at

-- a run that ends well gives its output
gives_output : (run : OnceTold) (request : List ℕ) (well : EndsWell run request) → choice_told run ≡ Some (choice.Give well.output)
gives_output run request well =
    ap choice_told well.told
    ∙ ap (λ (b : Bool). Some (if true && b then choice.Give well.output else choice.Refuse)) (le-leb (length well.output) most_output well.short)

got_by : (run : OnceTold) (request : List ℕ) (f : Fate) (content : Option (List ℕ)) → EndsWell run request → IsHeardOf run request f content → f ≡ Known heard.Got
got_by run request f content well is =
    let chosen : HearsChoice (Some (choice.Give well.output)) f content = subst (λ (o : Option Choice). HearsChoice o f content) (gives_output run request well) (is.fits well.fits) in
    chosen.0

pub runs_give : KeptHeard → KeptHadMemory → SingleRunsGiveAll
runs_give law had object below runs back ps d driver all gives verdicts history t sized said k at fine memory n is =
    ap (λ (b : Bool). cond b (heard_by (fate_in d n t.exchanges)) None) is ∙ ap heard_by got
  where
    same : t.command ≡ gives.command
    same = same_Some t.command gives.command (sym said.command ∙ gives.process)

    single : is_single_run t.command ≡ true
    single = ap is_single_run same ∙ gives.single

    served : AreServed t.had
    served = served_by_place back k t.command t.had all at

    hearing : IsHeardOf (run_at runs t n) (once_request t.paths n) (fate_in d n t.exchanges) (content_of n t.exchanges)
    hearing = hears object below runs ps verdicts history d driver t said single served sized law (wants_none object below runs ps verdicts history d driver t said single served sized had memory) n is

    well : EndsWell (run_at runs t n) (once_request t.paths n)
    well =
        let p = said.over.each n is in
        let ready : Prepared = p.5 in
        let ends = gives.well n p.0 ready p.1 p.2 p.6 in
        subst (λ (z : List ℕ). EndsWell (run_at runs t n) z)
        (sym (request_is (p.0).path (t.paths.text n) (p.0).object (t.paths.name n) ready.bytes (t.paths.content n) (sym p.3) (sym p.4) (sym p.7)))
        (subst (λ (z : OnceTold). EndsWell z (first_text (p.0).path (p.0).object false ready.bytes))
        (sym (run_is runs gives.command t.command (p.0).path (t.paths.text n) ready.bytes (t.paths.content n) same (sym p.3) (sym p.7))) ends)

    got : fate_in d n t.exchanges ≡ Known heard.Got
    got = got_by (run_at runs t n) (once_request t.paths n) (fate_in d n t.exchanges) (content_of n t.exchanges) well hearing
