use Rattle.std.proofs.Common.{◌≡◌, Option, Some, refl, ap, ◌∙◌, sym, subst}
use Rattle.std.specs.Prelude.{map, string_bytes}
use Rattle.checkout_words.specs.declared.Command.{Command}
use Rattle.checkout_engine.specs.Ending.{EndsCheckout, Ends}
use Rattle.checkout_engine.specs.Checkout.{history_of, events_of}
use Rattle.checkout_engine.specs.Ends.{asked, begun, seen}
use Rattle.exit_status.specs.declared.status.ExitStatus.{ExitStatus}
use Rattle.checkout_engine.specs.declared.end.Checkout.{Checkout}
use Rattle.checkout_engine.proofs.Said.{unread}
use Rattle.checkout_engine.proofs.Bounds.{asked_few, paths_few}
use Rattle.checkout_engine.proofs.command.run_words.Goals as goal

pub checkout-end-requires-after_bounds : goal.checkout-end-requires-after_bounds
checkout-end-requires-after_bounds g c κs within =
    asked_few (map string_bytes c.args.words.now) c.in-Ok-Checkout.workers
    (c.in-Ok-Checkout.ensures.reads ∙ ap (λ (command : Command). Some command) c.in-Ok-Checkout.field-0-is)

pub show_rehearsal-requires-after_bounds : goal.show_rehearsal-requires-after_bounds
show_rehearsal-requires-after_bounds g c κs within =
    paths_few (map string_bytes c.args.words.now) c.in-Ok-Rehearse.seed c.in-Ok-Rehearse.paths
    (c.in-Ok-Rehearse.ensures.reads ∙ ap (λ (command : Command). Some command) c.in-Ok-Rehearse.field-0-is)

pub returns-in-Ok-Checkout-clause-ends : goal.returns-in-Ok-Checkout-clause-ends
returns-in-Ok-Checkout-clause-ends g c =
    let told = g.R.Repo.told c.args.repo.now in
    let ahead = g.P.Spawner.told c.args.spawner.now in
    let sink = g.O.Sink.seen c.args.out.now in
    let old = begun (g.R.Repo.seen c.args.repo.now) (g.T.Worktree.seen c.args.tree.now) (g.P.Spawner.seen c.args.spawner.now) sink in
    let new = seen (g.R.Repo.seen c.checkout-end.new.repo) (g.T.Worktree.seen c.checkout-end.new.tree) (g.P.Spawner.seen c.checkout-end.new.spawner) (g.O.Sink.seen c.report_checkout.new.out) (history_of c.checkout-end.result) in
    let ends : EndsCheckout told ahead c.in-Ok-Checkout.workers old new c.report_checkout.result = record {
      so = record {
        end = c.checkout-end.result;
        history_is = refl;
        left = c.checkout-end.ensures.ends sink;
        said = c.ends_say_text.ensures.end c.checkout-end.result _ _ _ c.report_checkout.ensures;
      };
      headline = c.checkout-end.ensures.headline sink;
      complete = c.checkout-end.ensures.complete sink;
    } in
    subst (λ (command : Option Command). Ends command told ahead old new c.report_checkout.result)
    (sym (c.in-Ok-Checkout.ensures.reads ∙ ap (λ (command : Command). Some command) c.in-Ok-Checkout.field-0-is)) ends

pub returns-in-Err-NoMemory-clause-ends : goal.returns-in-Err-NoMemory-clause-ends
returns-in-Err-NoMemory-clause-ends g c =
    let told = g.R.Repo.told c.args.repo.now in
    let ahead = g.P.Spawner.told c.args.spawner.now in
    let repo = g.R.Repo.seen c.args.repo.now in
    let tree = g.T.Worktree.seen c.args.tree.now in
    let spawner = g.P.Spawner.seen c.args.spawner.now in
    let sink = g.O.Sink.seen c.args.out.now in
    let ended = c.other_end-in-Err-NoMemory.result in
    let old = begun repo tree spawner sink in
    let new = seen repo tree spawner sink (events_of ended.checkout) in
    let same : new ≡ old =
    ap (λ (e : Option Checkout). seen repo tree spawner sink (events_of e)) c.other_end-in-Err-NoMemory.ensures.none in
    subst (λ (s : ExitStatus). Ends (asked c.args.words.now) told ahead old new s)
    (sym c.other_end-in-Err-NoMemory.ensures.status) (unread (asked c.args.words.now) told ahead old new same refl)
