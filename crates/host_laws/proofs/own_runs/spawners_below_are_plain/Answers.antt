use Rattle.std.proofs.Common.{refl}
use Rattle.host_laws.proofs.Plain.{drivers_served, memory_served, processes_served, process_served}
use Rattle.host_laws.proofs.own_runs.spawners_below_are_plain.Goals as goal

pub returns-clause-memory : goal.returns-clause-memory
returns-clause-memory c = record {
  returned = λ p. drivers_served p.returned.items;
  had = λ s. memory_served s.had.items s.out_of_memory;
  links = λ l. refl;
}

pub returns-clause-processes : goal.returns-clause-processes
returns-clause-processes c = record {
  returned = λ p. processes_served p.returned.items;
  had = λ s. process_served s.had.items s.out_of_memory;
  links = λ l. refl;
}
