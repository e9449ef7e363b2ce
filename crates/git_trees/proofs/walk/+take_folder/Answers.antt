use Rattle.std.proofs.Common.{◌∙◌, sym, subst, arith, List, ℕ, length}
use Rattle.std.specs.Prelude.{Contains}
use Rattle.git_trees.specs.declared.entry.TreeEntry.{TreeEntry}
use Rattle.git_trees.specs.Format.{IsTree}
use Rattle.std.proofs.lemmas.Grind.{common_steps}
use Rattle.std.proofs.lemmas.Result.{err_from_is_err_and}
use Rattle.edge_kit.specs.Told.{TellsBytes}
use Rattle.git_trees.specs.Walk.{TreesTold, IsAllTold}
use Rattle.git_trees.specs.Stops.{IsReached, IsStopBelow, IsOver}
use Rattle.git_trees.proofs.Taking.{leaf_goes_on, folder_goes_on, stops_below, below_of, over_here, leaf_over, folder_over}
use Rattle.git_trees.proofs.walk.+take_folder.Goals as goal

pub loop-entry-preserved-then-not-is_folder : goal.loop-entry-preserved-then-not-is_folder
loop-entry-preserved-then-not-is_folder g t c =
    let inv = c.loop-entry.invariant in (
      inv.0,
      inv.1,
      leaf_goes_on (g.S.TreeSource.told c.args.source.now) c.args.step c.args.folder.now c.entries-entry-items.result.now c.loop-entry.entry-index c.args.leaves.now.items c.loop-entry.leaves.items c.take_leaf.new.leaves.items c.entry-item.result
          c.loop-entry-test.true (sym c.entry-item.is) inv.2 c.in_ok-take_leaf.ensures.grown c.in_ok-take_leaf.ensures.leaf c.in_ok-take_leaf.ensures.few,
    )

pub loop-entry-preserved : goal.loop-entry-preserved
loop-entry-preserved g t c =
    let inv = c.loop-entry.invariant in
    let told = g.S.TreeSource.told c.args.source.now in
    let same = c.open_folder.ensures.told ∙ inv.0 in
    let tells = subst (λ (ts : TreesTold). TellsBytes (ts c.entry-item.result.object) c.in_ok-opened.opened.content.items) inv.0 c.in_ok-opened.ensures.bytes.1 in
    let heard = subst (λ (bs : List ℕ). TellsBytes (told c.entry-item.result.object) bs) (sym c.deref-in-loop-entry.ensures.value) tells in (
      c.take_folder.ensures.told ∙ same,
      c.in_ok-take_folder.ensures.faults ∙ c.in_ok-opened.ensures.faults ∙ inv.1,
      folder_goes_on told c.args.step c.args.folder.now c.deref.result.now c.deref-in-loop-entry.result.now c.entries-entry-items.result.now c.loop-entry.entry-index c.args.leaves.now.items c.loop-entry.leaves.items c.take_folder.new.leaves.items c.entry-item.result
          c.loop-entry-test.true (sym c.entry-item.is) inv.2 (grind (arith, common_steps)) (c.deref.ensures.value ∙ c.in_ok-opened.ensures.path) c.in_ok-opened.ensures.bytes.0 heard
          (subst (λ (ts : TreesTold). IsReached ts (below_of c.args.step) c.deref.result.now c.deref-in-loop-entry.result.now c.loop-entry.leaves.items c.take_folder.new.leaves.items) same c.in_ok-take_folder.ensures.reach),
    )

pub returns-in_err-take_folder-clause-stop : goal.returns-in_err-take_folder-clause-stop
returns-in_err-take_folder-clause-stop g t c =
    let p = err_from_is_err_and c.from_residual-in_err-take_folder.result c.from_residual-in_err-take_folder.ensures.1 in
    let inv = c.loop-entry.invariant in
    let told = g.S.TreeSource.told c.args.source.now in
    let f = c.in_err-take_folder.field-0.0 in
    let tells = subst (λ (ts : TreesTold). TellsBytes (ts c.entry-item.result.object) c.in_ok-opened.opened.content.items) inv.0 c.in_ok-opened.ensures.bytes.1 in
    let heard = subst (λ (bs : List ℕ). TellsBytes (told c.entry-item.result.object) bs) (sym c.deref-in-loop-entry.ensures.value) tells in
    let tree = subst (λ (es : List TreeEntry). IsTree c.args.step.bounds.limit c.args.content.now es) (sym c.entries-entry-items.ensures) c.in_ok-tree.ensures.tree in
    let member : Contains c.entries-entry-items.result.now c.entry-item.result = (c.loop-entry.entry-index, c.loop-entry-test.true, sym c.entry-item.is) in
    rw (p.1, p.2) (λ other. stops_below told c.args.step c.args.folder.now c.deref.result.now c.args.content.now c.deref-in-loop-entry.result.now c.entries-entry-items.result.now c.entry-item.result f
    c.in_ok-opened.ensures.bytes.0 tree member (grind (arith, common_steps)) (c.deref.ensures.value ∙ c.in_ok-opened.ensures.path) heard
    (subst (λ (ts : TreesTold). IsStopBelow ts (below_of c.args.step) c.deref.result.now c.deref-in-loop-entry.result.now f) (c.open_folder.ensures.told ∙ inv.0) (c.in_err-take_folder.ensures.stop other)))

pub returns-in_err-take_leaf-clause-count : goal.returns-in_err-take_leaf-clause-count
returns-in_err-take_leaf-clause-count g t c =
    let p = err_from_is_err_and c.from_residual-in_err-take_leaf.result c.from_residual-in_err-take_leaf.ensures.1 in
    let inv = c.loop-entry.invariant in
    let told = g.S.TreeSource.told c.args.source.now in
    let tree = subst (λ (es : List TreeEntry). IsTree c.args.step.bounds.limit c.args.content.now es) (sym c.entries-entry-items.ensures) c.in_ok-tree.ensures.tree in
    rw (p.1, p.2) (λ is all. over_here told c.args.step c.args.folder.now c.args.content.now c.entries-entry-items.result.now c.loop-entry.entry-index c.args.leaves.now.items c.loop-entry.leaves.items c.entry-item.result all
    c.loop-entry-test.true (sym c.entry-item.is) tree inv.2
    (leaf_over told c.args.step c.args.folder.now c.entry-item.result (length c.loop-entry.leaves.items) c.in_err-take_leaf.field-0.0 (grind (arith, common_steps)) is c.in_err-take_leaf.ensures.stop))

pub returns-in_err-take_folder-clause-count : goal.returns-in_err-take_folder-clause-count
returns-in_err-take_folder-clause-count g t c =
    let p = err_from_is_err_and c.from_residual-in_err-take_folder.result c.from_residual-in_err-take_folder.ensures.1 in
    let inv = c.loop-entry.invariant in
    let told = g.S.TreeSource.told c.args.source.now in
    let same = c.open_folder.ensures.told ∙ inv.0 in
    let tells = subst (λ (ts : TreesTold). TellsBytes (ts c.entry-item.result.object) c.in_ok-opened.opened.content.items) inv.0 c.in_ok-opened.ensures.bytes.1 in
    let heard = subst (λ (bs : List ℕ). TellsBytes (told c.entry-item.result.object) bs) (sym c.deref-in-loop-entry.ensures.value) tells in
    let tree = subst (λ (es : List TreeEntry). IsTree c.args.step.bounds.limit c.args.content.now es) (sym c.entries-entry-items.ensures) c.in_ok-tree.ensures.tree in
    rw (p.1, p.2) (λ is all. over_here told c.args.step c.args.folder.now c.args.content.now c.entries-entry-items.result.now c.loop-entry.entry-index c.args.leaves.now.items c.loop-entry.leaves.items c.entry-item.result all
    c.loop-entry-test.true (sym c.entry-item.is) tree inv.2
    (folder_over told c.args.step c.args.folder.now c.deref.result.now c.deref-in-loop-entry.result.now c.entry-item.result (length c.loop-entry.leaves.items) all (grind (arith, common_steps)) (c.deref.ensures.value ∙ c.in_ok-opened.ensures.path) c.in_ok-opened.ensures.bytes.0 heard
    (subst (λ (ts : TreesTold). IsOver ts (below_of c.args.step) c.deref.result.now c.deref-in-loop-entry.result.now (length c.loop-entry.leaves.items)) same (c.in_err-take_folder.ensures.count is (subst IsAllTold (sym same) all)))))
