use Rattle.std.proofs.Common.{refl, ap, ◌∙◌}
use Rattle.edge_kit.specs.Seen.{LeafSeen}
use Rattle.checkout_core.specs.Desks.{was_read}
use Rattle.checkout_core.specs.declared.path.Heard.TheVariants.{Refused}
use Rattle.driver_desk.specs.Serving.{HandedBack}
use Rattle.driver_desk.proofs.LeafEnds.{ends_unsealed}
use Rattle.driver_desk.proofs.Closings.{closes_read, may_failed, refused_one, rose_kept}
use Rattle.driver_desk.proofs.Ended.{ends_how, closed_how}
use Rattle.driver_desk.proofs.closed_card.hand_back.Goals as goal

pub restart-requires : goal.restart-requires
restart-requires g c = (c.requires.asked.kept.usable (λ e. absurd (cc (e)))).0

pub hand_back-requires : goal.hand_back-requires
hand_back-requires g c = record {
  card = refused_one _ _ _ _ c.requires.asked c.requires.free c.in-Ok.ensures;
  free = c.requires.free;
  own = c.requires.may.1.own;
  next = c.requires.may.1.back c.requires.may.0 refl c.requires.free;
}

pub close-requires : goal.close-requires
close-requires g c =
    let m = c.requires.may in record {
      shows = closes_read _ _ _ _ _ (Refused m.0) _ _ c.requires.asked m.1 (c.write_failed-own.ensures.path ∙ ap (λ (l : LeafSeen). l.path) c.in-Err.ensures.kept)
          (λ before k. c.write_failed-own.ensures.shows before _ _ (rose_kept before (g.L.Leaf.seen c.args.work.card.leaf) (g.L.Leaf.seen c.restart.new.self) k c.in-Err.ensures.rose))
          (may_failed _ (Refused m.0) _ c.write_failed-own.ensures.own);
      next = m.1.close c.write_failed-own.result (ap was_read c.write_failed-own.ensures.own);
    }

pub returns-in-Ok : goal.returns-in-Ok
returns-in-Ok g c = record {
  ends = let m = c.requires.may in record {
    last = HandedBack _;
    is = c.hand_back.ensures.gave;
    path = refl;
    may = m.1.back m.0 refl c.requires.free;
    shows = record { free = c.requires.free; why = m.0; told = m.1.told };
    how = (tt, tt);
  };
}

pub returns-in-Err : goal.returns-in-Err
returns-in-Err g c = record {
  ends = ends_how _ _ _ _ _ (λ x e. closed_how _ _ _ x (ap was_read c.write_failed-own.ensures.own) (ends_unsealed _ _ (g.L.Leaf.seen c.write_failed-own.new.leaf) c.write_failed-own.ensures.gone (λ e. c.write_failed-own.ensures.stuck e ∙ ap (λ (l : LeafSeen). l.content) c.in-Err.ensures.kept) _ _ (refl, refl)) e) c.close.ensures.ends;
}
