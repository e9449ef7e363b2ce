use Rattle.std.proofs.Common.{arith, refl}
use Rattle.std.proofs.lemmas.Grind.{common_steps}
use Rattle.std.proofs.lemmas.Result.{IfOk-weaker}
use Rattle.tree_cache.proofs.Parts.{starts, file_step, folder_step, stays_within, run_cached, done_step}
use Rattle.tree_cache.proofs.folder.+folder_of.Goals as goal

pub loop-entry-init : goal.loop-entry-init
loop-entry-init t c = starts c.args.left c.args.at c.args.entries.now c.new-content.result.items c.new-nodes.result.items c.new-content.ensures.items c.new-nodes.ensures.items c.requires.cached

pub loop-entry-preserved-in_default-slash_in : goal.loop-entry-preserved-in_default-slash_in
loop-entry-preserved-in_default-slash_in t c =
    file_step c.args.left c.args.at c.args.entries.now c.loop-entry.rest.now c.in-Some.others.now c.in-Some.entry.now c.loop-entry.content.items c.push_tree_line.new.content.items c.mode_text.result.now c.rest_of-name.result.now c.loop-entry.nodes.items c.slash_in.result
    c.in-Some.ensures.cases.0 c.rest_of-name.ensures c.slash_in.ensures.value c.in_default-slash_in.is c.mode_text.ensures c.in_ok-push_tree_line.ensures c.loop-entry.invariant

pub folder_of-requires : goal.folder_of-requires
folder_of-requires t c =
    let within = stays_within c.args.at c.in-Some-slash_in.slash c.loop-entry.rest.now c.in-Some.others.now c.in-Some.entry.now c.rest_of-name.result.now c.in-Some.ensures.cases.0 c.loop-entry.invariant.cached c.rest_of-name.ensures c.in-Some-slash_in.ensures.within in (
      grind (arith, common_steps, c.decreases, c.requires.deep, c.requires.within),
      (
        run_cached _ c.loop-entry.rest.now c.split_at-in-Some-2.result.0.now c.split_at-in-Some-2.ensures.front c.loop-entry.invariant.cached,
        (omega (arith, within, c.requires.deep, c.requires.within), within),
      ),
    )

pub loop-entry-preserved : goal.loop-entry-preserved
loop-entry-preserved t c =
    folder_step c.args.left c.args.at c.in-Some-slash_in.slash c.run_len.result c.args.entries.now c.loop-entry.rest.now c.in-Some.others.now c.split_at-in-Some-2.result.0.now c.split_at-in-Some-2.result.1.now c.in-Some.entry.now
    c.loop-entry.content.items c.push_tree_line-in-Some.new.content.items c.rest_of-name.result.now c.split_at.result.0.now c.split_at-in-Some.result.0.now c.loop-entry.nodes.items c.push.new.self.items c.in_ok-folder.folder (c.in-Some-slash_in.slash, c.in_ok-node_of.field-0) c.slash_in.result
    c.in-Some.ensures.cases.0 c.rest_of-name.ensures c.slash_in.ensures.value c.in-Some-slash_in.is c.split_at.ensures.front c.split_at-in-Some.ensures.front c.run_len.ensures.value c.split_at-in-Some-2.ensures.front c.split_at-in-Some-2.ensures.back
    c.in_ok-folder.ensures c.in_ok-push_tree_line-2.ensures refl (grind (arith, common_steps, c.in_ok-node_of.ensures)) (omega (arith, c.run_len.ensures.within, c.in-Some.ensures.cases.1)) c.in_ok-push.ensures.items c.loop-entry.invariant

pub returns : goal.returns
returns t c =
    IfOk-weaker c.folder_with.result _ _ (λ folder made. done_step c.args.left c.args.at c.args.entries.now c.loop-entry.rest.now c.loop-entry.content.items c.as_slice.result.now c.loop-entry.nodes.items folder c.requires.deep c.requires.within c.in_default.ensures.cases c.as_slice.ensures.value c.loop-entry.invariant made) c.folder_with.ensures
