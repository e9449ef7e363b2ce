use Rattle.std.proofs.Common.{refl, ◌∙◌}
use Rattle.attr_stack.proofs.Chains.{rest_more, places_more}
use Rattle.attr_stack.proofs.folders.places_of.Goals as goal

pub loop-at-preserved : goal.loop-at-preserved
loop-at-preserved c =
    let last = c.in-Some.ensures.cases in
    record {
      rest = rest_more c.args.files.now c.loop-at.rest.now c.in-Some.before.now c.in-Some.at.now c.loop-at.invariant.rest last.0;
      places = places_more c.args.files.now c.loop-at.rest.now c.in-Some.before.now c.in-Some.at.now c.loop-at.places c.insert.new.self c.in_ok-folder.folder.items _
          c.loop-at.invariant.rest last.0 last.1 (c.in_ok-folder.ensures.items ∙ c.as_slice.ensures) refl c.in_ok-insert.ensures.updates c.loop-at.invariant.places;
    }
