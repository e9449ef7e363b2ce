use Rattle.std.proofs.Common.{◌≡◌, [], ◌∷◌, ◌++◌, ap, ◌∙◌}
use Rattle.edge_kit.specs.Starters.{SpawnerSeen, starter_back}
use Rattle.one_shot.specs.Links.{either_seen}
use Rattle.one_shot.specs.Replies.{run_seen}
use Rattle.one_shot.specs.Starters.{IsEmpty}
use Rattle.one_shot.specs.Works.{work_told}
use Rattle.one_shot.proofs.Backs.{goes_below, stays_here, whole_back, same_back}
use Rattle.one_shot.proofs.spawner.OnceSpawnerSpawner.take_back.Goals as goal

pub take_back-requires-clause-ended : goal.take_back-requires-clause-ended
take_back-requires-clause-ended g c =
    let whole : IsEmpty c.args.starter.kept = c.is_empty.ensures.empty c.if-is_empty.true in
    let lent = c.args.starter.lends whole in
    let here = rw c.in-Inner.is at lent in
    here ∙ c.requires.ended

pub invariant_of-push_reserved-clause-lends : goal.invariant_of-push_reserved-clause-lends
invariant_of-push_reserved-clause-lends g c = λ empty. let lent = c.args.starter.lends empty in rw c.in-Inner.is at lent

pub returns-in-Inner-clause-back : goal.returns-in-Inner-clause-back
returns-in-Inner-clause-back g c =
    let below : (g.P.Spawner.seen c.take_back.new.self).returned ≡ (g.P.Spawner.seen c.args.self.now.inner).returned ++ starter_back (g.P.Starter.Starter.seen c.in-Inner.starter) ∷ [] =
    ap (λ (s : SpawnerSeen). s.returned) c.take_back.ensures.back in
    goes_below _ _ _ _ _ _ _ _ c.push_reserved.ensures.items below
    (whole_back g.P.Starter.Starter.seen g.M.OnceMaker.told (either_seen g.P.Starter.Link.Link.seen (run_seen (λ w. work_told (g.M.Once.Once.told w.once) w.command))) c.args.starter.source c.in-Inner.starter c.args.starter.kept c.args.starter.out
    c.in-Inner.is (c.is_empty.ensures.had c.if-is_empty.true))

pub returns-in-Inner-2-clause-back : goal.returns-in-Inner-2-clause-back
returns-in-Inner-2-clause-back g c =
    stays_here _ _ _ (g.P.Spawner.seen c.args.self.now.inner).returned _ _ _ c.push_reserved-in-Inner-2.ensures.items
    (same_back g.P.Starter.Starter.seen g.M.OnceMaker.told (either_seen g.P.Starter.Link.Link.seen (run_seen (λ w. work_told (g.M.Once.Once.told w.once) w.command))) c.args.starter.source _ c.args.starter.kept c.args.starter.out c.in-Inner.is)

pub returns-in-Single-clause-back : goal.returns-in-Single-clause-back
returns-in-Single-clause-back g c =
    stays_here _ _ _ (g.P.Spawner.seen c.args.self.now.inner).returned _ _ _ c.push_reserved-in-Single.ensures.items
    (same_back g.P.Starter.Starter.seen g.M.OnceMaker.told (either_seen g.P.Starter.Link.Link.seen (run_seen (λ w. work_told (g.M.Once.Once.told w.once) w.command))) c.args.starter.source _ c.args.starter.kept c.args.starter.out c.in-Single.is)
