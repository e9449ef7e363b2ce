use Rattle.std.proofs.Common.{◌≡◌, Ok, subst, rules}
use Rattle.std.specs.Prelude.{Result, ⊤}
use Rattle.edge_kit.specs.declared.faults.SendFault.{SendFault}
use Rattle.filter_proto.specs.Replies.{IsPut}
use Rattle.filter_proto.proofs.Lines.{puts_piece}
use Rattle.filter_proto.proofs.request.put_piece.Goals as goal

pub returns-then-is_ok-clause-put : goal.returns-then-is_ok-clause-put
returns-then-is_ok-clause-put g c before content h =
    let ok : c.args.put.now ≡ Ok tt = search rules in
    puts_piece before _ _ content _ _ (subst (λ (r : Result ⊤ SendFault). IsPut before (g.L.Leaf.seen c.args.leaf.now) r content) ok h) c.put.ensures
