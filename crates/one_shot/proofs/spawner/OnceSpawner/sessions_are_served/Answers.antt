use Rattle.std.proofs.Common.{◌≡◌, length, arith}
use Rattle.one_shot.specs.Links.{either_seen}
use Rattle.one_shot.specs.Replies.{run_seen}
use Rattle.one_shot.specs.Works.{work_told}
use Rattle.one_shot.specs.declared.starter.OnceStarter.{OnceStarter}
use Rattle.one_shot.proofs.Backs.{held_next, held_some, held_none, held_all, starters_served}
use Rattle.one_shot.proofs.spawner.OnceSpawner.sessions_are_served.Goals.{in-Some, in-None}
use Rattle.one_shot.proofs.spawner.OnceSpawner.sessions_are_served.Goals as goal

pub loop-starter-preserved : goal.loop-starter-preserved
loop-starter-preserved g c = λ plain.
    held_next _ c.as_slice-back.result.now c.loop-starter.starter-index c.starter-item.result c.loop-starter-test.true c.starter-item.is (c.loop-starter.invariant plain)
    (elim c.match-starter.branch [
      | in-Some w ↦ held_some _ c.starter-item.result w.in-Some.starter w.in-Some.is (w.serve.ensures plain)
      | in-None w ↦ held_none _ c.starter-item.result w.in-None.is
    ])

pub returns : goal.returns
returns g c = λ plain.
    let end : c.loop-starter.starter-index ≡ length c.as_slice-back.result.now = omega (arith, c.loop-starter-test.false, c.loop-starter.auto.starter-index-end) in
    starters_served g.P.Starter.Starter.seen g.M.OnceMaker.told
    (either_seen g.P.Starter.Link.Link.seen (run_seen (λ w. work_told (g.M.Once.Once.told w.once) w.command)))
    (λ (t : OnceStarter _ _ _ _ _ _). t.source) (λ (t : OnceStarter _ _ _ _ _ _). t.kept) (λ (t : OnceStarter _ _ _ _ _ _). t.out) plain.had
    c.args.self.now.back.items (g.P.Spawner.seen c.args.self.now.inner).returned
    (held_all _ c.as_slice-back.result.now c.args.self.now.back.items c.loop-starter.starter-index c.as_slice-back.ensures.value end (c.loop-starter.invariant plain.links))
    (plain.returned c.args.self.now.inner)
