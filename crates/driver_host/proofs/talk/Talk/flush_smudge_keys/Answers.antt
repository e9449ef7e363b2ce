use Rattle.std.proofs.Common.{◌∙◌, refl, sym}
use Rattle.driver_host.proofs.Flushes.{begins_content, refuses_smudge}
use Rattle.driver_host.proofs.Fits.{list_fits}
use Rattle.driver_host.proofs.talk.Talk.flush_smudge_keys.Goals as goal

pub returns-then-may_smudge-clause-ok : goal.returns-then-may_smudge-clause-ok
returns-then-may_smudge-clause-ok g c =
    let s = list_fits c.args.self.now c.requires.part c.requires.fits in
    begins_content g.W.Work.told g.W.Work.latest c.args.self.now _ _ _ s.0 s.1 c.requires.room c.requires.part c.requires.smudge s.2
    (sym (c.may_smudge.ensures s.0 s.1 s.2) ∙ c.if-may_smudge.true) c.begin_content.ensures refl

pub returns-else-may_smudge-clause-err : goal.returns-else-may_smudge-clause-err
returns-else-may_smudge-clause-err g c =
    let s = list_fits c.args.self.now c.requires.part c.requires.fits in
    refuses_smudge c.args.self.now s.0 s.1 c.requires.room c.requires.part s.2 c.requires.smudge
    (sym (c.may_smudge.ensures s.0 s.1 s.2) ∙ c.if-may_smudge.false)
