use Rattle.std.proofs.Common.{rules, arith, ◌≤◌, ◌∙◌, ap, take, drop, Some, None, length}
use Rattle.edge_kit.specs.Links.{LinkSeen, LeftUntold}
use Rattle.edge_kit.specs.MemoryDrivers.{stage_of}
use Rattle.edge_kit.proofs.Taking.{reads_some}
use Rattle.edge_kit.proofs.memory_link.MemoryLink.take_front.Goals as goal

pub returns-clause-read : goal.returns-clause-read
returns-clause-read c =
    let link = c.args.self.now in
    let count = c.read_count-count.result in
    let other : LinkSeen = record {
      sent = Some link.sent.items;
      taken = None;
      left = LeftUntold;
      faults = link.faults;
      ends = link.ends;
      stage = stage_of link.input_shut link.waited;
    } in
    let fits : count ≤ length c.copy_front.new.into =
    let same = c.copy_front.ensures.len in
    let most = c.read_count-count.ensures.most in
    omega arith in
    reads_some other link.output.items c.copy_front.new.into link.taken count
    (omega arith) (Prim.search rules) fits
    (c.copy_front.ensures.copied
    ∙ ap (take count) (c.split_at.ensures.back ∙ ap (drop link.taken) c.as_slice.ensures.value))
