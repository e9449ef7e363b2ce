use Rattle.std.proofs.Common.{Err, refl}
use Rattle.edge_kit.specs.declared.faults.TakeFault.TheVariants as take
use Rattle.clean_drivers.proofs.single.run_single.Goals as goal

pub returns-in_default-clause-runs : goal.returns-in_default-clause-runs
returns-in_default-clause-runs g c = (Err take.NoMemory, tt, refl, refl)
