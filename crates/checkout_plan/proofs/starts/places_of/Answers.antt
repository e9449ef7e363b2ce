use Rattle.std.proofs.Common.{ap, ◌∙◌}
use Rattle.checkout_plan.proofs.Named.{rest_more, places_more}
use Rattle.checkout_plan.proofs.starts.places_of.Goals as goal

pub loop-driver-preserved : goal.loop-driver-preserved
loop-driver-preserved c =
    let last = c.in-Some.ensures.cases in
    record {
      rest = rest_more c.args.drivers.now c.loop-driver.rest.now c.in-Some.before.now c.in-Some.driver.now c.loop-driver.invariant.rest last.0;
      places = places_more c.args.drivers.now c.loop-driver.rest.now c.in-Some.before.now c.in-Some.driver.now c.loop-driver.places c.insert.new.self c.as_slice.result.now c.in_ok-place.place
          c.loop-driver.invariant.rest last.0 last.1 c.as_slice.ensures c.in_ok-place.ensures c.in_ok-insert.ensures.updates c.loop-driver.invariant.places;
    }
