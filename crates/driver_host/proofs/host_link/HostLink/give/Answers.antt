use Rattle.std.proofs.Common.{rules, ◌≡◌, ℕ, List, drop, take, length, subst, Some}
use Rattle.edge_kit.specs.Files.{grown}
use Rattle.edge_kit.specs.Links.{IsSendCut}
use Rattle.driver_host.specs.declared.work.Choice.{Choice}
use Rattle.driver_host.specs.declared.host.HostFault.TheVariants as fault
use Rattle.driver_host.specs.Hosts.{IsHostAfter, TakesPiece}
use Rattle.driver_host.specs.HostLinks.{LinkState, kept_bytes, left_of, link_seen}
use Rattle.driver_host.proofs.Links.{left_more, link_lacks, sent_back, sent_cut, sent_same, cut_back}
use Rattle.driver_host.proofs.host_link.HostLink.give.Goals as goal

pub invariant_of-self-in-NoMemory-1 : goal.invariant_of-self-in-NoMemory-1
invariant_of-self-in-NoMemory-1 g c =
    let l = c.self.inside in
    let kept : kept_bytes l.keeps c.keep.new.kept.items ≡ grown (kept_bytes l.keeps l.sent.items) c.args.piece.now = Prim.search rules in
    let cut : c.truncate.new.self.items ≡ take (length l.sent.items) c.keep.new.kept.items = Prim.search rules in
    let back : c.truncate-in-Err-NoMemory.new.self.items ≡ take (length l.output.items) c.take.new.out.items = Prim.search rules in
    let stays = cut_back l.output.items c.take.new.out.items c.truncate-in-Err-NoMemory.new.self.items c.take.ensures.grown back in
    let none : c.take.new.self.fault ≡ Some fault.NoMemory = Prim.search rules in
    link_lacks g.W.Work.told g.W.Work.latest (record {
      host = l.host;
      keeps = l.keeps;
      tells = l.tells;
      sent = l.sent.items;
      output = l.output.items;
      taken = l.taken;
      input_shut = l.input_shut;
      waited = l.waited;
      ends = l.ends;
    }) c.take.new.self c.truncate.new.self.items c.truncate-in-Err-NoMemory.new.self.items c.self.invariant none c.take.ensures.same
    stays (sent_back l.keeps l.sent.items c.args.piece.now c.keep.new.kept.items c.truncate.new.self.items kept cut)

pub returns-in-Err-NoMemory-clause-sent : goal.returns-in-Err-NoMemory-clause-sent
returns-in-Err-NoMemory-clause-sent g c =
    let l = c.self.inside in
    let kept : kept_bytes l.keeps c.keep.new.kept.items ≡ grown (kept_bytes l.keeps l.sent.items) c.args.piece.now = Prim.search rules in
    let cut : c.truncate.new.self.items ≡ take (length l.sent.items) c.keep.new.kept.items = Prim.search rules in
    let back : c.truncate-in-Err-NoMemory.new.self.items ≡ take (length l.output.items) c.take.new.out.items = Prim.search rules in
    let stays = cut_back l.output.items c.take.new.out.items c.truncate-in-Err-NoMemory.new.self.items c.take.ensures.grown back in
    subst (λ (v : LinkState _). IsSendCut c.args.piece.now (link_seen v) (link_seen (record {
      host = c.take.new.self;
      keeps = l.keeps;
      tells = l.tells;
      sent = c.truncate.new.self.items;
      output = c.truncate-in-Err-NoMemory.new.self.items;
      taken = l.taken;
      input_shut = l.input_shut;
      waited = l.waited;
      ends = l.ends;
    })))
    c.self.view_is
    (sent_cut (record {
      host = l.host;
      keeps = l.keeps;
      tells = l.tells;
      sent = l.sent.items;
      output = l.output.items;
      taken = l.taken;
      input_shut = l.input_shut;
      waited = l.waited;
      ends = l.ends;
    }) c.take.new.self c.args.piece.now c.keep.new.kept.items c.truncate.new.self.items c.truncate-in-Err-NoMemory.new.self.items
    stays kept cut)

pub returns-in-Err-NoMemory-clause-unsent : goal.returns-in-Err-NoMemory-clause-unsent
returns-in-Err-NoMemory-clause-unsent g c =
    let l = c.self.inside in
    let kept : kept_bytes l.keeps c.keep.new.kept.items ≡ grown (kept_bytes l.keeps l.sent.items) c.args.piece.now = Prim.search rules in
    let cut : c.truncate.new.self.items ≡ take (length l.sent.items) c.keep.new.kept.items = Prim.search rules in
    let back : c.truncate-in-Err-NoMemory.new.self.items ≡ take (length l.output.items) c.take.new.out.items = Prim.search rules in
    let stays = cut_back l.output.items c.take.new.out.items c.truncate-in-Err-NoMemory.new.self.items c.take.ensures.grown back in
    subst (λ (v : LinkState _). link_seen (record {
      host = c.take.new.self;
      keeps = l.keeps;
      tells = l.tells;
      sent = c.truncate.new.self.items;
      output = c.truncate-in-Err-NoMemory.new.self.items;
      taken = l.taken;
      input_shut = l.input_shut;
      waited = l.waited;
      ends = l.ends;
    }) ≡ link_seen v)
    c.self.view_is
    (sent_same (record {
      host = l.host;
      keeps = l.keeps;
      tells = l.tells;
      sent = l.sent.items;
      output = l.output.items;
      taken = l.taken;
      input_shut = l.input_shut;
      waited = l.waited;
      ends = l.ends;
    }) c.take.new.self c.args.piece.now c.keep.new.kept.items c.truncate.new.self.items c.truncate-in-Err-NoMemory.new.self.items
    stays kept cut)

pub returns-in-Ok-clause-gives : goal.returns-in-Ok-clause-gives
returns-in-Ok-clause-gives g c =
    let l = c.self.inside in
    subst (λ (v : LinkState _). (bytes : List ℕ) (cs : List Choice) (text : List ℕ) → IsHostAfter g.W.Work.told g.W.Work.latest bytes cs text v.host → TakesPiece g.W.Work.told g.W.Work.latest bytes cs text c.args.piece.now c.take.new.self (left_of v) (drop l.taken c.take.new.out.items))
    c.self.view_is
    (λ bytes cs text h.
    left_more g.W.Work.told g.W.Work.latest bytes cs text c.args.piece.now c.take.new.self l.taken l.output.items c.take.new.out.items c.self.invariant.within
    (c.take.ensures.takes bytes cs text h))

pub returns-in-Ok-2-clause-gives : goal.returns-in-Ok-2-clause-gives
returns-in-Ok-2-clause-gives g c =
    let l = c.self.inside in
    subst (λ (v : LinkState _). (bytes : List ℕ) (cs : List Choice) (text : List ℕ) → IsHostAfter g.W.Work.told g.W.Work.latest bytes cs text v.host → TakesPiece g.W.Work.told g.W.Work.latest bytes cs text c.args.piece.now c.take.new.self (left_of v) (drop l.taken c.take.new.out.items))
    c.self.view_is
    (λ bytes cs text h.
    left_more g.W.Work.told g.W.Work.latest bytes cs text c.args.piece.now c.take.new.self l.taken l.output.items c.take.new.out.items c.self.invariant.within
    (c.take.ensures.takes bytes cs text h))
