use Rattle.checkout_book.specs.Sights.{sight}
use Rattle.writer_pool.proofs.Recordings.{is_gave, note_may, noted}
use Rattle.writer_pool.proofs.on_book.OnBookRecorder.note.Goals as goal

pub note-requires : goal.note-requires
note-requires g c =
    let see = sight g.B.Blob.told g.B.Blob.seen g.L.Leaf.seen in
    let s = c.self.inside in
    let i = c.self.invariant in
    let is = c.self.view_is in
    let k = note_may see c.what_may_follow_is_a_step.ensures c.a_pass_lists_its_own_entries.ensures s.book.now
    s.pass s.required c.args.self.now is i c.args.event c.requires.noted c.requires.own
    c.requires.next in
    (i.plan, i.made, i.core, i.pass, c.requires.noted, k.0, k.1)

pub invariant_of-self : goal.invariant_of-self
invariant_of-self g c =
    let see = sight g.B.Blob.told g.B.Blob.seen g.L.Leaf.seen in
    let s = c.self.inside in
    let i = c.self.invariant in
    let is = c.self.view_is in
    let k = note_may see c.what_may_follow_is_a_step.ensures c.a_pass_lists_its_own_entries.ensures s.book.now
    s.pass s.required c.args.self.now is i c.args.event c.requires.noted c.requires.own
    c.requires.next in
    let a = noted see s.book.now s.pass c.note.new.pass s.required c.args.self.now is i c.args.event c.requires.noted
    (c.note.ensures i.plan i.made i.core i.pass k.0) in
    a.desk

pub returns : goal.returns
returns g c =
    let see = sight g.B.Blob.told g.B.Blob.seen g.L.Leaf.seen in
    let s = c.self.inside in
    let i = c.self.invariant in
    let is = c.self.view_is in
    let k = note_may see c.what_may_follow_is_a_step.ensures c.a_pass_lists_its_own_entries.ensures s.book.now
    s.pass s.required c.args.self.now is i c.args.event c.requires.noted c.requires.own
    c.requires.next in
    let a = noted see s.book.now s.pass c.note.new.pass s.required c.args.self.now is i c.args.event c.requires.noted
    (c.note.ensures i.plan i.made i.core i.pass k.0) in
    record { gave = is_gave see _ _ _ a.given a.standing a.place }
