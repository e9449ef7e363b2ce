-- The blobs and the leaves of the paths of a checkout, which are given back.
use Rattle.std.specs.Prelude.{◌≡◌, ℕ, List, [], ◌∷◌, ◌++◌}
use Rattle.edge_kit.specs.Seen.{RepoSeen, TreeSeen}
use Rattle.edge_kit.specs.declared.leaf_state.LeafState.{LeafState}
use Rattle.checkout_plan.specs.declared.path_plan.PathPlan.{PathPlan}
use Rattle.checkout_paths.specs.Outcome.{Outcome, blob_back, leaf_back}

-- a repository that got these blobs back and is otherwise the same
abbrev pub with_blobs : RepoSeen → List (List ℕ × ℕ) → RepoSeen
with_blobs repo blobs = record repo { returned = repo.returned ++ blobs }

-- what leaves may change as they come back: it stays if there are none
abbrev pub after_leaves : {A : Type 0} → List (List ℕ × LeafState × ℕ) → A → A → A
after_leaves [] old new = old
after_leaves (leaf ∷ leaves) old new = new

-- A worktree that got these leaves back. If there are none, it is as it was. Else it is the same except for its files.
abbrev pub GotLeaves : TreeSeen → List (List ℕ × LeafState × ℕ) → TreeSeen → Type 0
GotLeaves old leaves new = new ≡ record old {
  empty = after_leaves leaves old.empty new.empty;
  files = after_leaves leaves old.files new.files;
  returned = old.returned ++ leaves;
}

abbrev pub blobs_back : List PathPlan → List Outcome → List (List ℕ × ℕ)
blobs_back [] os = []
blobs_back (p ∷ ps) [] = []
blobs_back (p ∷ ps) (o ∷ os) = blob_back p o.blob ++ blobs_back ps os

abbrev pub leaves_back : List PathPlan → List Outcome → List (List ℕ × LeafState × ℕ)
leaves_back [] os = []
leaves_back (p ∷ ps) [] = []
leaves_back (p ∷ ps) (o ∷ os) = leaf_back p o.leaf ++ leaves_back ps os
