use Rattle.edge_kit.proofs.Places.{rest_more, found_more}
use Rattle.edge_kit.proofs.memory_repo.places_of.Goals as goal

pub loop-object-preserved : goal.loop-object-preserved
loop-object-preserved c =
    let last = c.in-Some.ensures.cases in
    record {
      rest = rest_more c.args.objects.now c.loop-object.rest.now c.in-Some.before.now c.in-Some.object.now c.loop-object.invariant.rest last.0;
      right = found_more c.args.objects.now c.loop-object.rest.now c.in-Some.before.now c.in-Some.object.now c.loop-object.places c.insert.new.self
          c.loop-object.invariant.rest last.0 c.in_ok-insert.ensures.updates c.loop-object.invariant.right;
    }
