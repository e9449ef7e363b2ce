use Rattle.std.proofs.Common.{◌≡◌, ◌+◌, ◌++◌, length, map}
use Rattle.edge_kit.specs.Seen.{blob_back}
use Rattle.checkout_paths.proofs.given_back.give_blobs.Given as goal

abbrev pub invariant-loop-blob : goal.invariant-loop-blob
invariant-loop-blob g l = record {
  whole : l.yielded ++ l.blob-iterator.rest.items ≡ l.fn.blobs.items;
  told : g.R.Repo.told l.repo ≡ g.R.Repo.told l.initial.repo;
  out : (g.R.Repo.seen l.repo).out + length l.yielded ≡ (g.R.Repo.seen l.initial.repo).out;
  back : g.R.Repo.seen l.repo ≡ record (g.R.Repo.seen l.initial.repo) {
    out = (g.R.Repo.seen l.repo).out;
    returned = (g.R.Repo.seen l.initial.repo).returned ++ map (λ b. blob_back (g.R.Blob.Blob.seen b)) l.yielded;
  };
  can : (goal.iterator-loop-blob g).can_next l.blob-iterator;
  ends : (goal.iterator-loop-blob g).is_finite l.blob-iterator;
}
