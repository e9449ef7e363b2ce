use Rattle.std.proofs.Common.{refl}
use Rattle.driver_desk.proofs.LeafEnds.{ends_unsealed}
use Rattle.driver_desk.proofs.Closings.{closes_read, may_drop, shows_none}
use Rattle.driver_desk.proofs.Ended.{ends_how, closed_how}
use Rattle.driver_desk.proofs.closed_card.close_empty.Goals as goal

pub drop_leaf-own-requires : goal.drop_leaf-own-requires
drop_leaf-own-requires g c = record { usable = λ k. (c.requires.asked.kept.usable k).0; broken = λ k. (c.requires.asked.kept.broken k).0 }

pub close-requires : goal.close-requires
close-requires g c =
    let m = c.requires.may in record {
      shows = closes_read _ _ _ _ _ m.heard _ _ c.requires.asked m.may c.drop_leaf-own.ensures.path
          (λ before k. shows_none _ m.heard _ _ _ _ m.without (c.drop_leaf-own.ensures.shows before k))
          (may_drop _ m.heard _ c.args.put m.refused c.drop_leaf-own.ensures.put);
      next = m.may.close c.drop_leaf-own.result c.drop_leaf-own.ensures.read;
    }

pub returns : goal.returns
returns g c = record {
  ends = ends_how _ _ _ _ _ (λ x e. closed_how _ _ _ x c.drop_leaf-own.ensures.read (ends_unsealed _ _ (g.L.Leaf.seen c.drop_leaf-own.new.leaf) c.drop_leaf-own.ensures.gone c.drop_leaf-own.ensures.stuck _ _ (refl, refl)) e) c.close.ensures.ends;
}
