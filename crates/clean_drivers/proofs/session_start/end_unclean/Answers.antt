use Rattle.std.proofs.Common.{◌≡◌, ap, ◌∙◌}
use Rattle.edge_kit.specs.Links.{LinkSeen, input_shut, waited}
use Rattle.filter_proto.specs.Wires.{wire_of}
use Rattle.clean_drivers.proofs.session_start.end_unclean.Goals as goal

pub returns-clause-ended : goal.returns-clause-ended
returns-clause-ended g c unread =
    let last = g.S.Link.Link.seen c.wait_end.new.self in
    let link : last ≡ record (g.S.Link.Link.seen c.args.link) { stage = waited (input_shut (g.S.Link.Link.seen c.args.link).stage); faults = last.faults } =
    c.wait_end.ensures.kept ∙ ap (λ (x : LinkSeen). record x { stage = waited x.stage; faults = last.faults }) c.shut_input.ensures.kept in
    record {
      link = last;
      shut = record {
        input = c.shut_input.result;
        end = c.wait_end.result;
        kept = ap (wire_of unread) link;
        counts = record { between = (g.S.Link.Link.seen c.shut_input.new.self).faults; closed = c.shut_input.ensures.faults; waited = c.wait_end.ensures.faults };
      };
      kept = c.end.ensures.back;
      out = c.end.ensures.out;
    }
