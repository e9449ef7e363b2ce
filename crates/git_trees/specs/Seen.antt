-- What the code holds, as entries and bytes.
use Rattle.std.specs.Prelude.{ℕ, Bool, false, List, Option, Some, None}
use Rattle.std.specs.Ordering.{nat_cmp, ordering_then}
use Rattle.std.specs.declared.cmp.Ordering.{Ordering}
use Rattle.git_trees.specs.declared.entry.TreeEntry.{TreeEntry}
use Rattle.git_trees.specs.Format.{is_same}
use Rattle.git_trees.specs.declared.entry_bytes.FoundEntry.{FoundEntry}

-- an entry, and the bytes after it
abbrev pub found_of : FoundEntry → TreeEntry × List ℕ
found_of f = (f.entry, f.rest.now)

-- texts, of which one has a byte at most, by their first bytes and their lengths
abbrev pub by_front : Option ℕ → ℕ → Option ℕ → ℕ → Ordering
by_front (Some p) m (Some q) n = ordering_then (nat_cmp p q) (nat_cmp m n)
by_front (Some p) m None n = nat_cmp m n
by_front None m o n = nat_cmp m n

-- an entry that may be there has the name of this one
abbrev pub has_name : TreeEntry → Option TreeEntry → Bool
has_name e None = false
has_name e (Some b) = is_same b e
