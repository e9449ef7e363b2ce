use Rattle.std.proofs.Common.{◌≡◌, List, ℕ, subst}
use Rattle.edge_kit.specs.MemoryDrivers.{starts_for}
use Rattle.edge_kit.specs.Seen.{TreeSeen}
use Rattle.edge_kit.specs.Told.{RepoTold}
use Rattle.edge_kit.specs.declared.script.DriverScript.{DriverScript}
use Rattle.checkout_engine.specs.declared.end.CheckoutRun.{CheckoutRun}
use Rattle.rehearsal.specs.Drivers.{scripts}
use Rattle.rehearsal.specs.Paths.{in_order}
use Rattle.rehearsal.specs.Repository.{files, IsRepository}
use Rattle.checkout_engine.specs.Rehearsed.{IsTriedWell, IsRehearsed}
use Rattle.checkout_engine.proofs.Valid.{valid}
use Rattle.checkout_engine.proofs.rehearsed.rehearsed.Goals as goal

pub checked_out-requires-clause-valid : goal.checked_out-requires-clause-valid
checked_out-requires-clause-valid g c κs within =
    valid c.files_have_an_index.ensures c.attributes_are_right.ensures c.args.seed c.args.paths c.requires _ c.in_ok-made.ensures.repo

as_made : (seed paths : ℕ) (told : RepoTold) (made : List DriverScript) (run : CheckoutRun) (tree : TreeSeen)
    → IsRepository (files seed (in_order paths)) told → made ≡ scripts seed (in_order paths)
    → IsTriedWell told (starts_for made) run tree → IsRehearsed seed paths run tree
as_made seed paths told made run tree repo same tried = record {
  told = told;
  made = repo;
  well = subst (λ (l : List DriverScript). IsTriedWell told (starts_for l) run tree) same tried;
}

pub returns : goal.returns
returns g c =
    as_made c.args.seed c.args.paths _ _ _ _ c.in_ok-made.ensures.repo c.in_ok-made.ensures.scripts c.in_ok-left.ensures
