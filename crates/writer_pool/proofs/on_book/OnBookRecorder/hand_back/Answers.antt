use Rattle.checkout_book.specs.Sights.{sight}
use Rattle.writer_pool.proofs.Recordings.{is_gave, back_may, handed_back}
use Rattle.writer_pool.proofs.on_book.OnBookRecorder.hand_back.Goals as goal

pub hand_back-requires : goal.hand_back-requires
hand_back-requires g c =
    let see = sight g.B.Blob.told g.B.Blob.seen g.L.Leaf.seen in
    let s = c.self.inside in
    let i = c.self.invariant in
    let is = c.self.view_is in
    let k = back_may see c.what_may_follow_is_a_step.ensures c.a_pass_lists_its_own_entries.ensures s.book.now
    s.pass s.required c.args.self.now is i c.args.card c.requires.card c.requires.own
    c.requires.next in
    (i.plan, i.made, i.core, i.pass, k.0, k.1, k.2)

pub invariant_of-self : goal.invariant_of-self
invariant_of-self g c =
    let see = sight g.B.Blob.told g.B.Blob.seen g.L.Leaf.seen in
    let s = c.self.inside in
    let i = c.self.invariant in
    let is = c.self.view_is in
    let k = back_may see c.what_may_follow_is_a_step.ensures c.a_pass_lists_its_own_entries.ensures s.book.now
    s.pass s.required c.args.self.now is i c.args.card c.requires.card c.requires.own
    c.requires.next in
    let a = handed_back see s.book.now s.pass c.hand_back.new.pass s.required c.args.self.now is i c.args.card.path
    (c.hand_back.ensures i.plan i.made i.core i.pass k.0) in
    a.desk

pub returns : goal.returns
returns g c =
    let see = sight g.B.Blob.told g.B.Blob.seen g.L.Leaf.seen in
    let s = c.self.inside in
    let i = c.self.invariant in
    let is = c.self.view_is in
    let k = back_may see c.what_may_follow_is_a_step.ensures c.a_pass_lists_its_own_entries.ensures s.book.now
    s.pass s.required c.args.self.now is i c.args.card c.requires.card c.requires.own
    c.requires.next in
    let a = handed_back see s.book.now s.pass c.hand_back.new.pass s.required c.args.self.now is i c.args.card.path
    (c.hand_back.ensures i.plan i.made i.core i.pass k.0) in
    record { gave = is_gave see _ _ _ a.given a.standing a.place }
