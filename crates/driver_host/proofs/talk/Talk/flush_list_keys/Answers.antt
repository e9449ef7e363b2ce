use Rattle.std.proofs.Common.{◌∙◌, sym}
use Rattle.driver_host.proofs.Flushes.{both_true, refuses_list}
use Rattle.driver_host.proofs.Fits.{list_fits}
use Rattle.driver_host.proofs.talk.Talk.flush_list_keys.Goals as goal

pub flush_list-requires-clause-list : goal.flush_list-requires-clause-list
flush_list-requires-clause-list g c =
    let s = list_fits c.args.self.now c.requires.part c.requires.fits in
    (both_true c.args.self.now.reading.keys.list s.0.delay
    (sym (c.may_list.ensures s.0 s.1 s.2) ∙ c.if-may_list.true)).0

pub flush_list-requires-clause-stage : goal.flush_list-requires-clause-stage
flush_list-requires-clause-stage g c =
    let s = list_fits c.args.self.now c.requires.part c.requires.fits in
    let may = both_true c.args.self.now.reading.keys.list s.0.delay
    (sym (c.may_list.ensures s.0 s.1 s.2) ∙ c.if-may_list.true) in
    (s.0, s.1, s.2, may.1, s.3)

pub returns-else-may_list-clause-err : goal.returns-else-may_list-clause-err
returns-else-may_list-clause-err g c =
    let s = list_fits c.args.self.now c.requires.part c.requires.fits in
    refuses_list c.args.self.now s.0 s.1 c.requires.room c.requires.part s.2 c.requires.smudge
    (sym (c.may_list.ensures s.0 s.1 s.2) ∙ c.if-may_list.false)
