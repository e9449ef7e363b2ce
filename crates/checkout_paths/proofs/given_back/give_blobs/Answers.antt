use Rattle.std.proofs.Common.{◌≡◌, ◌++◌, ◌∷◌, [], ℕ, List, length, map, length-append, refl, sym, ap, ◌∙◌, arith, append_assoc, append-nil}
use Rattle.std.proofs.lemmas.List.{map-append}
use Rattle.edge_kit.specs.Seen.{RepoSeen, blob_back}
use Rattle.checkout_paths.proofs.Back.{none_left}
use Rattle.checkout_paths.proofs.given_back.give_blobs.Goals as goal

pub loop-blob-init : goal.loop-blob-init
loop-blob-init g c = record {
  whole = c.into_iter-blob-iterator.ensures.into_iter_gives.0;
  told = refl;
  out = omega arith;
  back = ap (λ l. record (g.R.Repo.seen c.args.repo.now) { returned = l }) (sym (append-nil (g.R.Repo.seen c.args.repo.now).returned));
  can = tt;
  ends = tt;
}

pub take_back-requires : goal.take_back-requires
take_back-requires g c =
    let i = c.loop-blob.invariant in
    omega (
      arith,
      i.out,
      c.requires,
      ap length i.whole,
      length-append c.loop-blob.yielded c.loop-blob.blob-iterator.rest.items,
      ap length c.in-Some.ensures.steps.0,
    )

pub loop-blob-preserved : goal.loop-blob-preserved
loop-blob-preserved g c =
    let i = c.loop-blob.invariant in
    let y = c.loop-blob.yielded in
    let x = c.in-Some.blob in
    let old = g.R.Repo.seen c.args.repo.now in
    let new = g.R.Repo.seen c.take_back.new.self in
    let f : g.row.R-Blob.Denot → List ℕ × ℕ = λ b. blob_back (g.R.Blob.Blob.seen b) in
    record {
      whole = append_assoc y (x ∷ []) c.next.new.self.rest.items ∙ (ap (λ l. y ++ l) (sym c.in-Some.ensures.steps.0)
          ∙ i.whole);
      told = c.take_back.ensures.told ∙ i.told;
      out = omega (arith, c.take_back.ensures.out, i.out, length-append y (x ∷ []));
      back = c.take_back.ensures.back
          ∙ ap (λ (r : RepoSeen). record r { out = new.out; returned = r.returned ++ f x ∷ [] }) i.back
          ∙ ap (λ l. record old { out = new.out; returned = l })
          (append_assoc old.returned (map f y) (f x ∷ []) ∙ ap (λ l. old.returned ++ l) (sym (map-append f y (x ∷ []))));
      can = tt;
      ends = tt;
    }

pub returns : goal.returns
returns g c =
    let i = c.loop-blob.invariant in
    let y = c.loop-blob.yielded in
    let left = c.loop-blob.blob-iterator.rest in
    let none = none_left left.items (sym left.ok.0 ∙ c.in-None.ensures.steps.0) in
    let whole : y ≡ c.args.blobs.items = sym (append-nil y) ∙ (ap (λ l. y ++ l) (sym none) ∙ i.whole) in
    let old = g.R.Repo.seen c.args.repo.now in
    let new = g.R.Repo.seen c.loop-blob.repo in
    record {
      told = i.told;
      out = omega (arith, i.out, ap length whole);
      back = i.back ∙ ap (λ l. record old { out = new.out; returned = old.returned ++ map (λ b. blob_back (g.R.Blob.Blob.seen b)) l }) whole;
    }
