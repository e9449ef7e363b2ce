use Rattle.std.proofs.Common.{rules, refl, ◌∙◌, ◌++◌, Ok, Err, Bool, inl}
use Rattle.driver_host.specs.Talks.{Fits}
use Rattle.driver_host.proofs.Taking.{none_taken, step_goes, go_on, none_grown, grows_on, step_grows}
use Rattle.driver_host.proofs.host.serve.Goals as goal

pub loop-reader-init : goal.loop-reader-init
loop-reader-init g c = record {
  fits = inl c.requires;
  on = λ bytes cs text h.
      none_taken g.W.Work.told g.W.Work.latest bytes cs text c.args.out.now.items c.args.reader.now.unread c.args.talk.now h;
  same = (refl, refl, refl);
  grown = none_grown c.args.out.now.items;
}

pub loop-reader-preserved : goal.loop-reader-preserved
loop-reader-preserved g c =
    let l = c.loop-reader in
    let new = c.step.new in
    let f : Fits l.talk = Prim.search rules in
    record {
      fits = c.in-Ok-true.ensures.fits;
      on = λ bytes cs text h.
          let x = l.invariant.on bytes cs text h in
          go_on g.W.Work.told g.W.Work.latest (Ok c.in-Ok-true.field-0) bytes cs text _ l.out.items new.out.items l.reader.unread new.reader.unread l.talk
          new.talk x
          (step_goes g.W.Work.told g.W.Work.latest (Ok c.in-Ok-true.field-0) l.reader.unread new.reader.unread l.talk new.talk l.out.items new.out.items f
          c.in-Ok-true.ensures.step bytes (cs ++ x.more) (text ++ x.added) x.held);
      same = (c.step.ensures.same.0 ∙ l.invariant.same.0, c.step.ensures.same.1 ∙ l.invariant.same.1, c.step.ensures.same.2 ∙ l.invariant.same.2);
      grown = grows_on _ l.out.items new.out.items l.invariant.grown
          (step_grows g.W.Work.told g.W.Work.latest (Ok c.in-Ok-true.field-0) l.reader.unread new.reader.unread l.talk new.talk l.out.items new.out.items
          c.in-Ok-true.ensures.step);
    }

pub returns-in-Err-clause-goes : goal.returns-in-Err-clause-goes
returns-in-Err-clause-goes g c =
    let l = c.loop-reader in
    let new = c.step.new in
    let f : Fits l.talk = Prim.search rules in
    λ bytes cs text h.
    let x = l.invariant.on bytes cs text h in
    go_on g.W.Work.told g.W.Work.latest {A = Bool} (Err c.in-Err.fault) bytes cs text _ l.out.items new.out.items l.reader.unread new.reader.unread l.talk
    new.talk x
    (step_goes g.W.Work.told g.W.Work.latest (Err c.in-Err.fault) l.reader.unread new.reader.unread l.talk new.talk l.out.items new.out.items f
    c.in-Err.ensures.step bytes (cs ++ x.more) (text ++ x.added) x.held)

pub returns-in-Err-clause-grown : goal.returns-in-Err-clause-grown
returns-in-Err-clause-grown g c =
    let l = c.loop-reader in
    let new = c.step.new in
    grows_on _ l.out.items new.out.items l.invariant.grown
    (step_grows g.W.Work.told g.W.Work.latest (Err c.in-Err.fault) l.reader.unread new.reader.unread l.talk new.talk l.out.items new.out.items
    c.in-Err.ensures.step)

pub returns-in-Ok-false-clause-grown : goal.returns-in-Ok-false-clause-grown
returns-in-Ok-false-clause-grown g c =
    let l = c.loop-reader in
    let new = c.step.new in
    grows_on _ l.out.items new.out.items l.invariant.grown
    (step_grows g.W.Work.told g.W.Work.latest (Ok c.in-Ok-false.field-0) l.reader.unread new.reader.unread l.talk new.talk l.out.items new.out.items
    c.in-Ok-false.ensures.step)
