-- Leaves given back one after another.
use Rattle.std.proofs.Common.{◌≡◌, List, [], ◌∷◌, ◌++◌, length, Option, refl, subst, arith}
use Rattle.edge_kit.specs.Joins.{JoinsLeaf}
use Rattle.edge_kit.specs.Seen.{LeafSeen}
use Rattle.edge_kit.specs.declared.tree_file.TreeFile.{TreeFile}
use Rattle.checkout_paths.specs.Cards.{JoinAll}

pub joins_more : (ls : List LeafSeen) (l : LeafSeen) (old mid new : Option (List TreeFile)) → JoinAll ls old mid → JoinsLeaf l mid new → JoinAll (ls ++ l ∷ []) old new
joins_more [] l old mid new all one = (new, subst (λ (x : Option (List TreeFile)). JoinsLeaf l x new) all one, refl)
joins_more (k ∷ ls) l old mid new (next, first, all) one = (next, first, joins_more ls l next mid new all one)

-- a list of no length is empty
pub none_left : {X : Type 0} (xs : List X) → length xs ≡ 0 → xs ≡ []
none_left [] e = refl
none_left (x ∷ xs) e = absurd (omega (arith, e))
