-- What was made for a checkout, and what of it is back.
use Rattle.std.proofs.Common.{◌≡◌, ◌+◌, ◌++◌, ℕ, suc, List, [], ◌∷◌, length, length-append, map, Option, refl, sym, ap, ◌∙◌, subst, arith, append_assoc, append-nil}
use Rattle.std.specs.Prelude.{Result, Ok, Err, OnErr}
use Rattle.std.proofs.lemmas.List.{map-append}
use Rattle.edge_kit.specs.Joins.{JoinsBy, JoinsLeaf, leaf_back}
use Rattle.edge_kit.specs.Seen.{BlobSeen, LeafSeen, RepoSeen, TreeSeen, IsNewLeaf, new_blob, blob_back}
use Rattle.edge_kit.specs.Starters.{Had, StarterSeen, SpawnerSeen, starter_back}
use Rattle.edge_kit.specs.declared.leaf_state.LeafState.{LeafState}
use Rattle.edge_kit.specs.declared.leaf_state.LeafState.TheVariants.{Fresh}
use Rattle.edge_kit.specs.declared.tree_file.TreeFile.{TreeFile}
use Rattle.checkout_paths.specs.Dealing.{IsIdle}
use Rattle.checkout_paths.specs.Made.{HasCards, HasStarters, HasMade, unused_blob, unused_leaf, unused_starter}

-- what is seen of a worktree by its parts
pub tree_by : (t u : TreeSeen) → t.files ≡ u.files → t.faults ≡ u.faults → t.out ≡ u.out → t.returned ≡ u.returned
    → t ≡ record u { empty = t.empty }
tree_by t u files faults out returned =
    ap (λ (fs : Option (List TreeFile)). record t { files = fs }) files
    ∙ ap (λ (n : ℕ). record t { files = u.files; faults = n }) faults
    ∙ ap (λ (n : ℕ). record t { files = u.files; faults = u.faults; out = n }) out
    ∙ ap (λ (l : List (List ℕ × LeafState × ℕ)). record t { files = u.files; faults = u.faults; out = u.out; returned = l }) returned

-- what holds at an error
pub on_err : {T E : Type 0} (P : Type 0) (r : Result T E) → P → OnErr r P
on_err P (Ok x) p = tt
on_err P (Err e) p = p

plus_none : (n : ℕ) → n + 0 ≡ n
plus_none n = omega arith

pub none_more : (n : ℕ) → n ≡ 0 + n
none_more n = omega arith

pub other_way : (n : ℕ) → n + 0 ≡ 0 + n
other_way n = omega arith

same_tree : (tree : TreeSeen) → tree ≡ record tree { out = tree.out + 0; returned = tree.returned ++ [] }
same_tree tree =
    sym (ap (λ (n : ℕ). record tree { out = n; returned = tree.returned ++ [] }) (plus_none tree.out) ∙ ap (λ (l : List (List ℕ × LeafState × ℕ)). record tree { returned = l }) (append-nil tree.returned))

-- nothing was made
pub nothing_made : (repo : RepoSeen) (tree : TreeSeen) → HasCards 0 repo repo tree tree
nothing_made repo tree = record {
  names = [];
  paths = [];
  repo_kept = sym (ap (λ (n : ℕ). record repo { out = n; returned = repo.returned ++ [] }) (plus_none repo.out) ∙ ap (λ (l : List (List ℕ × ℕ)). record repo { returned = l }) (append-nil repo.returned));
  files = refl;
  empty = λ _. refl;
  tree_kept = same_tree tree;
}

-- so many were made, and none was given back
pub none_back : (n : ℕ) (repo repo' : RepoSeen) (tree tree' : TreeSeen) → repo' ≡ record repo { out = repo.out + n } → tree' ≡ record tree { out = tree.out + n } → HasCards n repo repo' tree tree'
none_back n repo repo' tree tree' r t = record {
  names = [];
  paths = [];
  repo_kept = r ∙ ap (λ (l : List (List ℕ × ℕ)). record repo { out = repo.out + n; returned = l }) (sym (append-nil repo.returned));
  files = ap (λ (x : TreeSeen). x.files) t;
  empty = λ _. ap (λ (x : TreeSeen). x.empty) t;
  tree_kept = t ∙ ap (λ (e : Option _). record tree { empty = e; out = tree.out + n }) (sym (ap (λ (x : TreeSeen). x.empty) t))
      ∙ ap (λ (l : List (List ℕ × LeafState × ℕ)). record tree { empty = tree'.empty; out = tree.out + n; returned = l }) (sym (append-nil tree.returned));
}

-- what was made, and then more
pub more_made : (n m : ℕ) (old mid new : RepoSeen) (tree tree' tree'' : TreeSeen) → mid ≡ record old { out = old.out + n } → tree' ≡ record tree { out = tree.out + n } → HasCards m mid new tree' tree''
    → HasCards (n + m) old new tree tree''
more_made n m old mid new tree tree' tree'' r t h = record {
  names = h.names;
  paths = h.paths;
  repo_kept = h.repo_kept ∙ ap (λ (x : RepoSeen). record x { out = x.out + m; returned = x.returned ++ map unused_blob h.names }) r
      ∙ ap (λ (k : ℕ). record old { out = k; returned = old.returned ++ map unused_blob h.names }) (omega arith);
  files = h.files ∙ ap (λ (x : TreeSeen). x.files) t;
  empty = λ e. h.empty e ∙ ap (λ (x : TreeSeen). x.empty) t;
  tree_kept = h.tree_kept ∙ ap (λ (x : TreeSeen). record x { empty = tree''.empty; out = x.out + m; returned = x.returned ++ map unused_leaf h.paths }) t
      ∙ ap (λ (k : ℕ). record tree { empty = tree''.empty; out = k; returned = tree.returned ++ map unused_leaf h.paths }) (omega arith);
}

-- a blob is given back
blob_returns : (n : ℕ) (name : List ℕ) (names : List (List ℕ)) (old mid new : RepoSeen) (blob : BlobSeen) → blob ≡ new_blob name
    → mid ≡ record old { out = old.out + suc n; returned = old.returned ++ map unused_blob names }
    → new.out + 1 ≡ mid.out → new ≡ record mid { out = new.out; returned = mid.returned ++ blob_back blob ∷ [] }
    → new ≡ record old { out = old.out + n; returned = old.returned ++ map unused_blob (names ++ name ∷ []) }
blob_returns n name names old mid new blob is made down back =
    let out : new.out ≡ old.out + n = omega (arith, down, ap (λ (r : RepoSeen). r.out) made) in
    let list : (old.returned ++ map unused_blob names) ++ blob_back blob ∷ [] ≡ old.returned ++ map unused_blob (names ++ name ∷ []) =
    append_assoc old.returned (map unused_blob names) (blob_back blob ∷ [])
    ∙ ap (λ (l : List (List ℕ × ℕ)). old.returned ++ l) (ap (λ (b : BlobSeen). map unused_blob names ++ blob_back b ∷ []) is ∙ sym (map-append unused_blob names (name ∷ []))) in
    back ∙ ap (λ (r : RepoSeen). record r { out = new.out; returned = r.returned ++ blob_back blob ∷ [] }) made
    ∙ ap (λ (k : ℕ). record old { out = k; returned = (old.returned ++ map unused_blob names) ++ blob_back blob ∷ [] }) out
    ∙ ap (λ (l : List (List ℕ × ℕ)). record old { out = old.out + n; returned = l }) list

-- a new leaf adds no file
joins_none : (leaf : LeafSeen) (old new : Option (List TreeFile)) → leaf.state ≡ Fresh → JoinsLeaf leaf old new → new ≡ old
joins_none leaf old new fresh joins = subst (λ (s : LeafState). JoinsBy old leaf.path leaf.content s new) fresh joins

-- how a worktree takes a leaf back
pub record IsLeafBack (leaf : LeafSeen) (old new : TreeSeen) : Type 0 where
  pub faults : new.faults ≡ old.faults
  pub out : new.out + 1 ≡ old.out
  pub back : new.returned ≡ old.returned ++ leaf_back leaf ∷ []
  pub files : JoinsLeaf leaf old.files new.files

-- how a repository takes a blob back
pub record IsBlobBack (blob : BlobSeen) (old new : RepoSeen) : Type 0 where
  pub out : new.out + 1 ≡ old.out
  pub back : new ≡ record old { out = new.out; returned = old.returned ++ blob_back blob ∷ [] }

-- the blob and the leaf of a card are given back
pub card_returns : (n : ℕ) (name path : List ℕ) (blob : BlobSeen) (leaf : LeafSeen) (repo repo' repo'' : RepoSeen) (tree tree' tree'' : TreeSeen) → blob ≡ new_blob name → IsNewLeaf path leaf
    → HasCards (suc n) repo repo' tree tree' → IsBlobBack blob repo' repo'' → IsLeafBack leaf tree' tree'' → HasCards n repo repo'' tree tree''
card_returns n name path blob leaf repo repo' repo'' tree tree' tree'' is fresh h b l =
    let files : tree''.files ≡ tree.files = joins_none leaf tree'.files tree''.files fresh.fresh l.files ∙ h.files in
    let kept = h.tree_kept in
    let leaf_is : leaf_back leaf ≡ unused_leaf path =
    ap (λ (p : List ℕ). (p, leaf.state, leaf.faults)) fresh.named ∙ ap (λ (s : LeafState). (path, s, leaf.faults)) fresh.fresh ∙ ap (λ (k : ℕ). (path, Fresh, k)) fresh.unfailed in
    let returned : tree''.returned ≡ tree.returned ++ map unused_leaf (h.paths ++ path ∷ []) =
    l.back ∙ ap (λ (t : TreeSeen). t.returned ++ leaf_back leaf ∷ []) kept
    ∙ append_assoc tree.returned (map unused_leaf h.paths) (leaf_back leaf ∷ [])
    ∙ ap (λ (xs : List (List ℕ × LeafState × ℕ)). tree.returned ++ xs)
    (ap (λ (x : List ℕ × LeafState × ℕ). map unused_leaf h.paths ++ x ∷ []) leaf_is ∙ sym (map-append unused_leaf h.paths (path ∷ []))) in
    let out : tree''.out ≡ tree.out + n = omega (arith, l.out, ap (λ (t : TreeSeen). t.out) kept) in
    record {
      names = h.names ++ name ∷ [];
      paths = h.paths ++ path ∷ [];
      repo_kept = blob_returns n name h.names repo repo' repo'' blob is h.repo_kept b.out b.back;
      files = files;
      empty = λ e. absurd (omega (arith, ap length e, length-append h.paths (path ∷ [])));
      tree_kept = tree_by tree'' (record tree { out = tree.out + n; returned = tree.returned ++ map unused_leaf (h.paths ++ path ∷ []) }) files
          (l.faults ∙ ap (λ (t : TreeSeen). t.faults) kept) out returned;
    }

-- a blob that was made is given back, and nothing else
pub blob_alone : (name : List ℕ) (blob : BlobSeen) (old mid new : RepoSeen) (tree : TreeSeen) → blob ≡ new_blob name → mid ≡ record old { out = old.out + 1 } → IsBlobBack blob mid new → HasCards 0 old new tree tree
blob_alone name blob old mid new tree is made b = record {
  names = name ∷ [];
  paths = [];
  repo_kept = blob_returns 0 name [] old mid new blob is (made ∙ ap (λ (l : List (List ℕ × ℕ)). record old { out = old.out + 1; returned = l }) (sym (append-nil old.returned))) b.out b.back;
  files = refl;
  empty = λ _. refl;
  tree_kept = same_tree tree;
}

-- a starter that started nothing is given back
pub starter_returns : (n : ℕ) (s : StarterSeen) (old mid new : SpawnerSeen) → IsIdle s → HasStarters (suc n) old mid → new.out + 1 ≡ mid.out
    → new ≡ record mid { out = new.out; returned = mid.returned ++ starter_back s ∷ [] } → HasStarters n old new
starter_returns n s old mid new idle h down back =
    let out : new.out ≡ old.out + n = omega (arith, down, ap (λ (r : SpawnerSeen). r.out) h.kept) in
    let one : starter_back s ≡ unused_starter s.command = ap starter_back idle in
    let list : (old.returned ++ map unused_starter h.commands) ++ starter_back s ∷ [] ≡ old.returned ++ map unused_starter (h.commands ++ s.command ∷ []) =
    append_assoc old.returned (map unused_starter h.commands) (starter_back s ∷ [])
    ∙ ap (λ (l : List (List ℕ × List Had)). old.returned ++ l)
    (ap (λ (x : List ℕ × List Had). map unused_starter h.commands ++ x ∷ []) one ∙ sym (map-append unused_starter h.commands (s.command ∷ []))) in
    record {
      commands = h.commands ++ s.command ∷ [];
      kept = back ∙ ap (λ (r : SpawnerSeen). record r { out = new.out; returned = r.returned ++ starter_back s ∷ [] }) h.kept
          ∙ ap (λ (k : ℕ). record old { out = k; returned = (old.returned ++ map unused_starter h.commands) ++ starter_back s ∷ [] }) out
          ∙ ap (λ (l : List (List ℕ × List Had)). record old { out = old.out + n; returned = l }) list;
    }

-- no starter was made, or so many and none is back
pub no_starters : (spawner : SpawnerSeen) → HasStarters 0 spawner spawner
no_starters spawner = record {
  commands = [];
  kept = sym (ap (λ (n : ℕ). record spawner { out = n; returned = spawner.returned ++ [] }) (plus_none spawner.out) ∙ ap (λ (l : List (List ℕ × List Had)). record spawner { returned = l }) (append-nil spawner.returned));
}

pub all_starters : (n : ℕ) (old new : SpawnerSeen) → new ≡ record old { out = old.out + n } → HasStarters n old new
all_starters n old new is = record {
  commands = [];
  kept = is ∙ ap (λ (l : List (List ℕ × List Had)). record old { out = old.out + n; returned = l }) (sym (append-nil old.returned));
}

-- what the pool needs, and then what the desks need
pub made_all : (n m k t d : ℕ) (old mid new : RepoSeen) (tree tree' tree'' : TreeSeen) (spawner spawner' : SpawnerSeen) → mid ≡ record old { out = old.out + n } → tree' ≡ record tree { out = tree.out + n }
    → HasMade m k mid new tree' tree'' spawner spawner' → t ≡ n + m → d ≡ k → HasMade t d old new tree tree'' spawner spawner'
made_all n m k t d old mid new tree tree' tree'' spawner spawner' r x h all same =
    let blobs : ◌≡◌ {A = ℕ} (old.out + n + m) (old.out + t) = omega (arith, all) in
    let leaves : ◌≡◌ {A = ℕ} (tree.out + n + m) (tree.out + t) = omega (arith, all) in
    let starters : ◌≡◌ {A = ℕ} (spawner.out + k) (spawner.out + d) = omega (arith, same) in
    record {
      repo_kept = h.repo_kept ∙ ap (λ (y : RepoSeen). record y { out = y.out + m }) r ∙ ap (λ (j : ℕ). record old { out = j }) blobs;
      tree_kept = h.tree_kept ∙ ap (λ (y : TreeSeen). record y { out = y.out + m }) x ∙ ap (λ (j : ℕ). record tree { out = j }) leaves;
      spawner_kept = h.spawner_kept ∙ ap (λ (j : ℕ). record spawner { out = j }) starters;
    }
