-- What is left of what a checkout made for its paths and drivers, if it doesn't come to their end.
use Rattle.std.specs.Prelude.{◌≡◌, ◌⊎◌, ◌+◌, ◌≤◌, ℕ, Bool, true, false, List, [], ◌++◌, length, map}
use Rattle.std.specs.List.{filter}
use Rattle.edge_kit.specs.Seen.{RepoSeen, TreeSeen}
use Rattle.edge_kit.specs.Starters.{Had, SpawnerSeen}
use Rattle.edge_kit.specs.declared.leaf_state.LeafState.{LeafState}
use Rattle.edge_kit.specs.declared.leaf_state.LeafState.TheVariants.{Fresh}
use Rattle.settings_view.specs.declared.view.Driver.{Driver}
use Rattle.checkout_core.specs.declared.path.Start.{Start}
use Rattle.checkout_core.specs.declared.path.Start.TheVariants as start
use Rattle.checkout_plan.specs.declared.path_plan.PathPlan.{PathPlan}

-- whether the plan leaves a path open, so that it has a card
abbrev pub is_open : Start → Bool
is_open (start.Done v) = false
is_open s = true

abbrev pub open_paths : List PathPlan → List PathPlan
open_paths paths = filter (λ p. is_open p.start) paths

-- what was never used, in the lists of what was given back: a blob and a leaf without a fault, and a starter without a
-- start
abbrev pub unused_blob : List ℕ → List ℕ × ℕ
unused_blob name = (name, 0)

abbrev pub unused_leaf : List ℕ → List ℕ × LeafState × ℕ
unused_leaf path = (path, Fresh, 0)

abbrev pub unused_starter : List ℕ → List ℕ × List Had
unused_starter command = (command, [])

-- Blobs and leaves were made. So many of each are out, and the others were given back unused.
pub record HasCards (cards : ℕ) (repo repo' : RepoSeen) (tree tree' : TreeSeen) : Type 0 where
  pub names : List (List ℕ)
  pub paths : List (List ℕ)
  pub repo_kept : repo' ≡ record repo { out = repo.out + cards; returned = repo.returned ++ map unused_blob names }
  pub files : tree'.files ≡ tree.files
  pub empty : paths ≡ [] → tree'.empty ≡ tree.empty
  pub tree_kept : tree' ≡ record tree {
    empty = tree'.empty;
    out = tree.out + cards;
    returned = tree.returned ++ map unused_leaf paths;
  }

-- Starters were made. So many are out, and the others were given back unused.
pub record HasStarters (starters : ℕ) (old new : SpawnerSeen) : Type 0 where
  pub commands : List (List ℕ)
  pub kept : new ≡ record old { out = old.out + starters; returned = old.returned ++ map unused_starter commands }

-- So many blobs, leaves and starters were made and are out, and none was given back.
pub record HasMade (cards starters : ℕ) (repo repo' : RepoSeen) (tree tree' : TreeSeen) (spawner spawner' : SpawnerSeen)
    : Type 0 where
  pub repo_kept : repo' ≡ record repo { out = repo.out + cards }
  pub tree_kept : tree' ≡ record tree { out = tree.out + cards }
  pub spawner_kept : spawner' ≡ record spawner { out = spawner.out + starters }

-- So many blobs and leaves, and so many starters, are out at least.
pub record AreOut (cards starters : ℕ) (repo : RepoSeen) (tree : TreeSeen) (spawner : SpawnerSeen) : Type 0 where
  pub blobs : cards ≤ repo.out
  pub leaves : cards ≤ tree.out
  pub starters_out : starters ≤ spawner.out

-- So many blobs and leaves, and so many starters, were given back unused. What was made before them is out or back as
-- it was.
pub record AreBack (cards starters : ℕ) (repo repo' : RepoSeen) (tree tree' : TreeSeen) (spawner spawner' : SpawnerSeen)
    : Type 0 where
  pub blobs_out : repo'.out + cards ≡ repo.out
  pub leaves_out : tree'.out + cards ≡ tree.out
  pub cards_back : (n : ℕ) (repo0 : RepoSeen) (tree0 : TreeSeen) → HasCards (n + cards) repo0 repo tree0 tree
      → HasCards n repo0 repo' tree0 tree'
  pub starters_back : (n : ℕ) (spawner0 : SpawnerSeen) → HasStarters (n + starters) spawner0 spawner
      → HasStarters n spawner0 spawner'

-- None of what was made is out: all of it is back, unused.
abbrev pub NoneOut : RepoSeen → RepoSeen → TreeSeen → TreeSeen → SpawnerSeen → SpawnerSeen → Type 0
NoneOut repo repo' tree tree' spawner spawner' = HasCards 0 repo repo' tree tree' × HasStarters 0 spawner spawner'

-- Memory ran out before the paths were done. What was made is back, unused. Or a blob and a leaf for each open path and
-- a starter for each driver are out, and files may be there that no list tells.
abbrev pub BreaksOff : List PathPlan → List Driver → RepoSeen → RepoSeen → TreeSeen → TreeSeen → SpawnerSeen
    → SpawnerSeen → Type 0
BreaksOff ps drivers repo repo' tree tree' spawner spawner' =
    NoneOut repo repo' tree tree' spawner spawner'
    ⊎ HasMade (length (open_paths ps)) (length drivers) repo repo' tree tree' spawner spawner'
