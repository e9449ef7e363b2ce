use Rattle.std.proofs.Common.{◌≡◌, ◌++◌, ◌∷◌, [], ℕ, List, length, map, length-append, refl, sym, ap, ◌∙◌, subst, arith, append_assoc, append-nil}
use Rattle.std.proofs.lemmas.List.{map-append}
use Rattle.edge_kit.specs.Joins.{leaf_back}
use Rattle.edge_kit.specs.Seen.{LeafSeen}
use Rattle.edge_kit.specs.declared.leaf_state.LeafState.{LeafState}
use Rattle.checkout_paths.specs.Cards.{JoinAll}
use Rattle.checkout_paths.proofs.Back.{none_left, joins_more}
use Rattle.checkout_paths.proofs.given_back.give_leaves.Goals as goal

pub loop-leaf-init : goal.loop-leaf-init
loop-leaf-init g c = record {
  whole = c.into_iter-leaf-iterator.ensures.into_iter_gives.0;
  faults = refl;
  out = omega arith;
  back = sym (append-nil (g.T.Worktree.seen c.args.tree.now).returned);
  files = refl;
  none = λ _. refl;
  can = tt;
  ends = tt;
}

pub take_back-requires : goal.take_back-requires
take_back-requires g c =
    let i = c.loop-leaf.invariant in
    omega (
      arith,
      i.out,
      c.requires,
      ap length i.whole,
      length-append c.loop-leaf.yielded c.loop-leaf.leaf-iterator.rest.items,
      ap length c.in-Some.ensures.steps.0,
    )

pub loop-leaf-preserved : goal.loop-leaf-preserved
loop-leaf-preserved g c =
    let i = c.loop-leaf.invariant in
    let y = c.loop-leaf.yielded in
    let x = c.in-Some.leaf in
    let old = g.T.Worktree.seen c.args.tree.now in
    let mid = g.T.Worktree.seen c.loop-leaf.tree in
    let new = g.T.Worktree.seen c.take_back.new.self in
    let see : g.row.T-Leaf.Denot → LeafSeen = λ l. g.T.Leaf.Leaf.seen l in
    let f : g.row.T-Leaf.Denot → List ℕ × LeafState × ℕ = λ l. leaf_back (g.T.Leaf.Leaf.seen l) in
    record {
      whole = append_assoc y (x ∷ []) c.next.new.self.rest.items ∙ (ap (λ l. y ++ l) (sym c.in-Some.ensures.steps.0)
          ∙ i.whole);
      faults = c.take_back.ensures.faults ∙ i.faults;
      out = omega (arith, c.take_back.ensures.out, i.out, length-append y (x ∷ []));
      back = c.take_back.ensures.back ∙ ap (λ l. l ++ f x ∷ []) i.back
          ∙ append_assoc old.returned (map f y) (f x ∷ []) ∙ ap (λ l. old.returned ++ l) (sym (map-append f y (x ∷ [])));
      files = subst (λ (ls : List LeafSeen). JoinAll ls old.files new.files) (sym (map-append see y (x ∷ [])))
          (joins_more (map see y) (see x) old.files mid.files new.files i.files c.take_back.ensures.files);
      none = λ e. absurd (omega (arith, ap length e, length-append y (x ∷ [])));
      can = tt;
      ends = tt;
    }

pub returns : goal.returns
returns g c =
    let i = c.loop-leaf.invariant in
    let y = c.loop-leaf.yielded in
    let left = c.loop-leaf.leaf-iterator.rest in
    let none = none_left left.items (sym left.ok.0 ∙ c.in-None.ensures.steps.0) in
    let whole : y ≡ c.args.leaves.items = sym (append-nil y) ∙ (ap (λ l. y ++ l) (sym none) ∙ i.whole) in
    let old = g.T.Worktree.seen c.args.tree.now in
    let new = g.T.Worktree.seen c.loop-leaf.tree in
    record {
      faults = i.faults;
      out = omega (arith, i.out, ap length whole);
      back = i.back ∙ ap (λ l. old.returned ++ map (λ x. leaf_back (g.T.Leaf.Leaf.seen x)) l) whole;
      files = subst (λ l. JoinAll (map (λ x. g.T.Leaf.Leaf.seen x) l) old.files new.files) whole i.files;
      none = λ e. i.none (whole ∙ e);
    }
