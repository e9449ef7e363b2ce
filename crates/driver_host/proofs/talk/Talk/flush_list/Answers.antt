use Rattle.driver_host.proofs.Flushes.{took_list}
use Rattle.driver_host.proofs.talk.Talk.flush_list.Goals as goal

pub returns-clause-ok : goal.returns-clause-ok
returns-clause-ok g c =
    let s = c.requires.stage in
    took_list g.W.Work.told g.W.Work.latest c.args.self.now _ _ _ s.0 s.1 c.requires.room c.requires.part c.requires.smudge c.requires.list s.2 s.3
    (c.in_ok-list.ensures.set s.0 s.1 s.2) (c.in_ok-list.ensures.text s.0 s.1 s.2)
