use Rattle.std.proofs.Common.{[], ◌∷◌, ◌++◌, refl}
use Rattle.std.specs.Prelude.{codes}
use Rattle.driver_host.proofs.Right.{smudges}
use Rattle.driver_host.proofs.laws.client_requests.Goals as goal

pub returns-clause-hello : goal.returns-clause-hello
returns-clause-hello c = record {
  client = codes "git-filter-client" ++ 10 ∷ [];
  lines = (codes "version=2" ++ 10 ∷ []) ∷ [];
  whole = refl;
  client_is = refl;
  version_in = refl;
}

pub returns-clause-offer : goal.returns-clause-offer
returns-clause-offer c = record {
  lines = (codes "capability=clean" ++ 10 ∷ []) ∷ (codes "capability=smudge" ++ 10 ∷ [])
      ∷ (codes "capability=delay" ++ 10 ∷ []) ∷ [];
  whole = refl;
  offers = refl;
}

pub returns-clause-smudge : goal.returns-clause-smudge
returns-clause-smudge c path name content d = smudges path name content d

pub returns-clause-listing : goal.returns-clause-listing
returns-clause-listing c = record {
  keys = (codes "command=list_available_blobs" ++ 10 ∷ []) ∷ [];
  whole = refl;
  command = refl;
}
