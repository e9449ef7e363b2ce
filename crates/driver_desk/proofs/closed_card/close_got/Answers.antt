use Rattle.checkout_core.specs.declared.path.Heard.TheVariants.{Got}
use Rattle.std.proofs.Common.{refl}
use Rattle.driver_desk.proofs.Closings.{closes_read, may_got}
use Rattle.driver_desk.proofs.LeafEnds.{ends_got}
use Rattle.driver_desk.proofs.Ended.{ends_how, closed_how}
use Rattle.driver_desk.proofs.closed_card.close_got.Goals as goal

pub seal_leaf-own-requires : goal.seal_leaf-own-requires
seal_leaf-own-requires g c = record { usable = λ k. (c.requires.asked.kept.usable k).0; broken = λ k. (c.requires.asked.kept.broken k).0 }

pub close-requires : goal.close-requires
close-requires g c = record {
  shows = closes_read _ _ _ _ _ Got _ _ c.requires.asked c.requires.may c.seal_leaf-own.ensures.path c.seal_leaf-own.ensures.shows (may_got _ _);
  next = c.requires.may.close c.seal_leaf-own.result c.seal_leaf-own.ensures.read;
}

pub returns : goal.returns
returns g c = record {
  ends = ends_how _ _ _ _ _ (λ x e. closed_how _ _ _ x c.seal_leaf-own.ensures.read (ends_got _ _ _ (g.L.Leaf.seen c.seal_leaf-own.new.leaf) c.seal_leaf-own.ensures.sealed c.seal_leaf-own.ensures.stuck _ refl _ _ (refl, refl)) e) c.close.ensures.ends;
}
