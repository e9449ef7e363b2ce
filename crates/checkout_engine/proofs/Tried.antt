-- A checkout of a rehearsal's repository.
use Rattle.std.proofs.Common.{◌≡◌, ℕ, List, None, refl, subst}
use Rattle.edge_kit.specs.Seen.{RepoSeen, TreeSeen}
use Rattle.edge_kit.specs.Starters.{Starts, SpawnerSeen}
use Rattle.edge_kit.specs.Told.{RepoTold}
use Rattle.git_index.specs.Spelling.{PathsAreOrdered}
use Rattle.checkout_sources.specs.Reading.{IsRead}
use Rattle.checkout_sources.specs.declared.planned.Planned.{Planned}
use Rattle.checkout_engine.specs.declared.end.CheckoutRun.{CheckoutRun}
use Rattle.checkout_engine.specs.Ending.{IsRunOver}
use Rattle.checkout_engine.specs.Ends.{seen}
use Rattle.checkout_engine.specs.Rehearsed.{new_memory, IsTried}
use Rattle.checkout_engine.proofs.Done.{done_over}

-- the paths of a plan are done in memory
pub tried : PathsAreOrdered → (told told' : RepoTold) (ahead : List ℕ → Starts) (p : Planned) (r : CheckoutRun) (repo mid repo' : RepoSeen) (tree tree' : TreeSeen) (spawner spawner' : SpawnerSeen)
    → told' ≡ told → repo ≡ new_memory.repo → tree ≡ new_memory.tree → spawner ≡ new_memory.spawner → IsRead told p repo mid
    → IsRunOver ahead told'.object (record { planned = p; asked = None }) r mid repo' tree tree' spawner spawner' → IsTried told ahead r tree' spawner'
tried law told told' ahead p r repo mid repo' tree tree' spawner spawner' same repo_is tree_is spawner_is read over =
    let left = seen repo' tree' spawner' new_memory.sink r.history.items in
    let c = done_over law told told' ahead (record { planned = p; asked = None }) r new_memory (seen mid tree spawner new_memory.sink r.history.items) left
    same refl refl (subst (λ (x : RepoSeen). IsRead told p x mid) repo_is read) tree_is spawner_is over refl in
    record { left = left; checkout = c.0; own = c.1; tree_is = refl; spawner_is = refl }
