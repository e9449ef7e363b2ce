use Rattle.std.proofs.Common.{ℕ, List, length, sym, ap, ◌∙◌, subst, arith}
use Rattle.std.proofs.Math.Seq.{take-length}
use Rattle.edge_kit.specs.Faults.{Rose}
use Rattle.edge_kit.specs.Files.{grown}
use Rattle.edge_kit.specs.Seen.{LeafSeen}
use Rattle.edge_kit.specs.declared.leaf_state.LeafState.TheVariants.{Sealed, Broken}
use Rattle.card_worker.proofs.leaf.put_and_seal.Goals as goal

pub returns-in-Ok-seal : goal.returns-in-Ok-seal
returns-in-Ok-seal g c = c.in-Ok-seal.ensures ∙ ap (λ (l : LeafSeen). record l { state = Sealed c.args.mark }) c.in-Ok.ensures

-- a whole content is a first part of itself
pub returns-in-Err-seal : goal.returns-in-Err-seal
returns-in-Err-seal g c =
    let old = g.L.Leaf.seen c.args.leaf.now in
    let new = g.L.Leaf.seen c.seal.new.self in
    let content = c.args.content.now in
    let left = c.in-Err-seal.ensures in
    record {
      taken = length content;
      within = omega arith;
      cut = left.kept ∙ ap (λ (l : LeafSeen). record l { state = Broken; faults = new.faults }) c.in-Ok.ensures
          ∙ ap (λ (bytes : List ℕ). record old { content = grown old.content bytes; state = Broken; faults = new.faults }) (sym (take-length content));
      rose = subst (λ (k : ℕ). Rose k new.faults) (ap (λ (l : LeafSeen). l.faults) c.in-Ok.ensures) left.rose;
    }
