use Rattle.std.proofs.Common.{◌≡◌, ◌++◌, ◌∷◌, [], List, Option, map, length, length-append, refl, sym, ap, ◌∙◌, append_assoc, arith}
use Rattle.std.specs.Global.{Vec}
use Rattle.std.proofs.lemmas.List.{append-nil, length-map, map-append}
use Rattle.checkout_core.specs.declared.event.Event.{Event}
use Rattle.driver_desk.specs.declared.desk.Served.{Served}
use Rattle.writer_pool.specs.declared.jobs.JobEnd.{JobEnd}
use Rattle.writer_pool.specs.Jobs.{with_served, passes_in, served_in}
use Rattle.writer_pool.proofs.Acting.{passes_more, passes_long, served_more}
use Rattle.writer_pool.proofs.back.came_back.Goals as goal

-- a list of no length is empty
none_left : {A : Type 0} (xs : List A) → length xs ≡ 0 → xs ≡ []
none_left [] e = refl
none_left (x ∷ xs) e = absurd (omega (arith, e))

pub push_reserved-requires : goal.push_reserved-requires
push_reserved-requires g c =
    let i = c.loop-end.invariant in
    let y = c.loop-end.yielded in
    let room = i.room in
    omega (
      arith,
      c.loop-end.passes.ok.0,
      ap length i.passes,
      passes_long y,
      ap length i.whole,
      length-append y c.loop-end.end-iterator.rest.items,
      ap length c.in-Some.ensures.steps.0,
      room,
      c.requires.all_passes,
    )

pub push_reserved-requires-in-Some-served : goal.push_reserved-requires-in-Some-served
push_reserved-requires-in-Some-served g c =
    let D = Served g.row.S.Denot in
    let T : Type 0 = JobEnd g.row.P.Denot D in
    let i = c.loop-end.invariant in
    let y = c.loop-end.yielded in
    let rest = c.next.new.self.rest.items in
    let room = i.starter_room in
    let all = ap (λ (l : List T). length (served_in l))
    (sym i.whole ∙ ap (λ (l : List T). y ++ l) c.in-Some.ensures.steps.0) in
    omega (
      arith,
      c.loop-end.starters.ok.0,
      ap length i.starters,
      length-map (served_in y) (λ (s : D). s.starter),
      all,
      ap length (served_more y (c.in-Some.end ∷ rest)),
      length-append (served_in y) (served_in (c.in-Some.end ∷ rest)),
      ap (λ (o : Option D). length (with_served o (served_in rest))) c.in-Some-served.is,
      room,
      c.requires.all_starters,
    )

pub push_reserved-requires-in-Some-served-2 : goal.push_reserved-requires-in-Some-served-2
push_reserved-requires-in-Some-served-2 g c =
    let D = Served g.row.S.Denot in
    let T : Type 0 = JobEnd g.row.P.Denot D in
    let i = c.loop-end.invariant in
    let y = c.loop-end.yielded in
    let rest = c.next.new.self.rest.items in
    let room = i.talk_room in
    let all = ap (λ (l : List T). length (served_in l))
    (sym i.whole ∙ ap (λ (l : List T). y ++ l) c.in-Some.ensures.steps.0) in
    omega (
      arith,
      c.loop-end.talks.ok.0,
      ap length i.talks,
      length-map (served_in y) (λ (s : D). s.talk),
      all,
      ap length (served_more y (c.in-Some.end ∷ rest)),
      length-append (served_in y) (served_in (c.in-Some.end ∷ rest)),
      ap (λ (o : Option D). length (with_served o (served_in rest))) c.in-Some-served.is,
      room,
      c.requires.all_talks,
    )

pub loop-end-preserved-in-Some-served : goal.loop-end-preserved-in-Some-served
loop-end-preserved-in-Some-served g c =
    let D = Served g.row.S.Denot in
    let P = g.row.P.Denot in
    let T : Type 0 = JobEnd P D in
    let i = c.loop-end.invariant in
    let y = c.loop-end.yielded in
    let x = c.in-Some.end in
    let left : D = c.in-Some-served.served in
    let more : served_in (y ++ x ∷ []) ≡ served_in y ++ left ∷ [] = served_more y (x ∷ [])
    ∙ ap (λ (o : Option D). served_in y ++ with_served o []) c.in-Some-served.is in
    record {
      whole = append_assoc y (x ∷ []) c.next.new.self.rest.items
          ∙ (ap (λ (l : List T). y ++ l) (sym c.in-Some.ensures.steps.0) ∙ i.whole);
      passes = c.push_reserved.ensures.items ∙ (ap (λ (l : List P). l ++ x.pass ∷ []) i.passes
          ∙ sym (passes_more y x));
      starters = c.push_reserved-in-Some-served.ensures.items
          ∙ (ap (λ (l : List g.row.S.Denot). l ++ left.starter ∷ []) i.starters
          ∙ sym (ap (λ (l : List D). map (λ (s : D). s.starter) l) more
          ∙ map-append (λ (s : D). s.starter) (served_in y) (left ∷ [])));
      talks = c.push_reserved-in-Some-served-2.ensures.items
          ∙ (ap (λ (l : List (Vec Event)). l ++ left.talk ∷ []) i.talks
          ∙ sym (ap (λ (l : List D). map (λ (s : D). s.talk) l) more
          ∙ map-append (λ (s : D). s.talk) (served_in y) (left ∷ [])));
      room = c.push_reserved.ensures.capacity ∙ i.room;
      starter_room = c.push_reserved-in-Some-served.ensures.capacity ∙ i.starter_room;
      talk_room = c.push_reserved-in-Some-served-2.ensures.capacity ∙ i.talk_room;
      can = tt;
      ends = tt;
    }

pub loop-end-preserved : goal.loop-end-preserved
loop-end-preserved g c =
    let D = Served g.row.S.Denot in
    let P = g.row.P.Denot in
    let T : Type 0 = JobEnd P D in
    let i = c.loop-end.invariant in
    let y = c.loop-end.yielded in
    let x = c.in-Some.end in
    let more : served_in (y ++ x ∷ []) ≡ served_in y = served_more y (x ∷ [])
    ∙ (ap (λ (o : Option D). served_in y ++ with_served o []) c.in-None-served.is ∙ append-nil (served_in y)) in
    record {
      whole = append_assoc y (x ∷ []) c.next.new.self.rest.items
          ∙ (ap (λ (l : List T). y ++ l) (sym c.in-Some.ensures.steps.0) ∙ i.whole);
      passes = c.push_reserved.ensures.items ∙ (ap (λ (l : List P). l ++ x.pass ∷ []) i.passes
          ∙ sym (passes_more y x));
      starters = i.starters ∙ ap (λ (l : List D). map (λ (s : D). s.starter) l) (sym more);
      talks = i.talks ∙ ap (λ (l : List D). map (λ (s : D). s.talk) l) (sym more);
      room = c.push_reserved.ensures.capacity ∙ i.room;
      starter_room = i.starter_room;
      talk_room = i.talk_room;
      can = tt;
      ends = tt;
    }

pub returns : goal.returns
returns g c =
    let D = Served g.row.S.Denot in
    let T : Type 0 = JobEnd g.row.P.Denot D in
    let i = c.loop-end.invariant in
    let y = c.loop-end.yielded in
    let left = c.loop-end.end-iterator.rest in
    let none : left.items ≡ [] = none_left left.items (sym left.ok.0 ∙ c.in-None.ensures.steps.0) in
    let whole : y ≡ c.args.ends.items =
    sym (append-nil y) ∙ (ap (λ (l : List T). y ++ l) (sym none) ∙ i.whole) in
    record {
      passes = i.passes ∙ ap (λ (l : List T). passes_in l) whole;
      starters = i.starters ∙ ap (λ (l : List T). map (λ (s : D). s.starter) (served_in l)) whole;
      talks = i.talks ∙ ap (λ (l : List T). map (λ (s : D). s.talk) (served_in l)) whole;
    }
