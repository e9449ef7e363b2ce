use Rattle.std.proofs.Common.{◌≡◌, ◌++◌, ◌∷◌, [], List, map, length, length-append, append-nil, refl, sym, ap, ◌∙◌, append_assoc, arith}
use Rattle.std.proofs.lemmas.List.{length-map, map-append}
use Rattle.writer_pool.proofs.pool_end.apart.Goals as goal

-- a list of no length is empty
none_left : {A : Type 0} (xs : List A) → length xs ≡ 0 → xs ≡ []
none_left [] e = refl
none_left (x ∷ xs) e = absurd (omega (arith, e))

pub push_reserved-requires : goal.push_reserved-requires
push_reserved-requires g c =
    let X : Type 0 = g.row.B.Denot × g.row.L.Denot in
    let i = c.loop-part.invariant in
    let y = c.loop-part.yielded in
    let room = i.room in
    omega (
      arith,
      c.loop-part.blobs.ok.0,
      ap length i.blobs,
      length-map y (λ (x : X). x.0),
      ap length i.whole,
      length-append y c.loop-part.part-iterator.rest.items,
      ap length c.in-Some.ensures.steps.0,
      room,
      c.requires.room,
    )

pub push_reserved-requires-in-loop-part : goal.push_reserved-requires-in-loop-part
push_reserved-requires-in-loop-part g c =
    let X : Type 0 = g.row.B.Denot × g.row.L.Denot in
    let i = c.loop-part.invariant in
    let y = c.loop-part.yielded in
    let room = i.leaf_room in
    omega (
      arith,
      c.loop-part.leaves.ok.0,
      ap length i.leaves,
      length-map y (λ (x : X). x.1),
      ap length i.whole,
      length-append y c.loop-part.part-iterator.rest.items,
      ap length c.in-Some.ensures.steps.0,
      room,
      c.requires.leaf_room,
    )

pub loop-part-preserved : goal.loop-part-preserved
loop-part-preserved g c =
    let B = g.row.B.Denot in
    let L = g.row.L.Denot in
    let X : Type 0 = B × L in
    let i = c.loop-part.invariant in
    let y = c.loop-part.yielded in
    let x : X = c.in-Some.part in
    record {
      whole = append_assoc y (x ∷ []) c.next.new.self.rest.items
          ∙ (ap (λ (l : List X). y ++ l) (sym c.in-Some.ensures.steps.0) ∙ i.whole);
      blobs = c.push_reserved.ensures.items ∙ (ap (λ (l : List B). l ++ x.0 ∷ []) i.blobs
          ∙ sym (map-append (λ (z : X). z.0) y (x ∷ [])));
      leaves = c.push_reserved-in-loop-part.ensures.items ∙ (ap (λ (l : List L). l ++ x.1 ∷ []) i.leaves
          ∙ sym (map-append (λ (z : X). z.1) y (x ∷ [])));
      room = c.push_reserved.ensures.capacity ∙ i.room;
      leaf_room = c.push_reserved-in-loop-part.ensures.capacity ∙ i.leaf_room;
      can = tt;
      ends = tt;
    }

pub returns : goal.returns
returns g c =
    let X : Type 0 = g.row.B.Denot × g.row.L.Denot in
    let i = c.loop-part.invariant in
    let y = c.loop-part.yielded in
    let left = c.loop-part.part-iterator.rest in
    let none : left.items ≡ [] = none_left left.items (sym left.ok.0 ∙ c.in-None.ensures.steps.0) in
    let whole : y ≡ c.args.parts.items =
    sym (append-nil y) ∙ (ap (λ (l : List X). y ++ l) (sym none) ∙ i.whole) in
    record {
      blobs = i.blobs ∙ ap (map (λ (z : X). z.0)) whole;
      leaves = i.leaves ∙ ap (map (λ (z : X). z.1)) whole;
    }
