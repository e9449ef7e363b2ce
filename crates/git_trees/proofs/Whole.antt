-- A tree is read to its entries, and what is read is a tree.
use Rattle.std.proofs.Common.{◌≡◌, ℕ, zero, suc, ◌+◌, ◌<◌, ◌≤◌, List, [], ◌∷◌, ◌++◌, length, Ok, Err, refl, sym, ap, subst, ◌∙◌, append_assoc, arith}
use Rattle.std.specs.Prelude.{map}
use Rattle.std.specs.List.{flat_map, AllByRecursion}
use Rattle.std.proofs.lemmas.List.{append-nil, length-append, length-map}
use Rattle.std.proofs.lemmas.List.Concat.{flat_map-cons}
use Rattle.git_trees.specs.declared.entry.TreeEntry.{TreeEntry}
use Rattle.git_trees.specs.declared.fault.TreeFault.{TreeFault}
use Rattle.git_trees.specs.declared.fault.TreeFault.TheVariants.{Short, Mode, Name, Order, Twice, Count, NoMemory}
use Rattle.git_trees.specs.Format.{Written, IsWritten, spelled, IsTree}
use Rattle.git_trees.specs.Reading.{◌>>=◌, entry_at, placed_at, entries_at, tree_at}
use Rattle.git_trees.proofs.Ordered.{IsOrdered, IsOrdered-nil, ordered_more, placed_is, placed_again, ok_is}
use Rattle.git_trees.proofs.Loop.{one_more, at_end}
use Rattle.git_trees.proofs.Taken.{bind_ok, TakesEntry, entry_takes}
use Rattle.git_trees.proofs.Again.{entry_again}

abbrev entries_of : List Written → List TreeEntry
entries_of ws = map (λ w. w.entry) ws

-- ---- what is read is a tree

record TakesEntries (left : ℕ) (earlier : List TreeEntry) (bytes : List ℕ) (es : List TreeEntry) : Type 0 where
  pub written : List Written
  pub same : es ≡ earlier ++ entries_of written
  pub fit : AllByRecursion IsWritten written
  pub count : length written ≤ left
  pub parts : bytes ≡ flat_map spelled written
  pub ordered : IsOrdered es

none_taken : (left : ℕ) (earlier es : List TreeEntry) → IsOrdered earlier → entries_at left earlier [] ≡ Ok es → TakesEntries left earlier [] es
none_taken left earlier es ordered e =
    subst (TakesEntries left earlier []) (ok_is earlier es (sym (at_end left earlier) ∙ e)) (record { written = []; same = sym (append-nil earlier); fit = tt; count = omega arith; parts = refl; ordered = ordered })

takes_more : (left : ℕ) (earlier : List TreeEntry) (bytes mid : List ℕ) (e : TreeEntry) (es : List TreeEntry) → TakesEntry bytes e mid → TakesEntries left (earlier ++ e ∷ []) mid es → TakesEntries (suc left) earlier bytes es
takes_more left earlier bytes mid e es first others =
    let w : Written = first.written in
    record {
      written = w ∷ others.written;
      same = others.same ∙ append_assoc earlier (e ∷ []) (entries_of others.written) ∙ ap (λ (x : TreeEntry). earlier ++ (x ∷ entries_of others.written)) (sym first.same);
      fit = (first.fits, others.fit);
      count = omega (arith, others.count);
      parts = first.parts ∙ ap (λ (r : List ℕ). spelled w ++ r) others.parts ∙ sym (flat_map-cons spelled w others.written);
      ordered = others.ordered;
    }

entries_take : (left : ℕ) (earlier : List TreeEntry) (bytes : List ℕ) (es : List TreeEntry) → IsOrdered earlier → entries_at left earlier bytes ≡ Ok es → TakesEntries left earlier bytes es
unfolding entries_at
entries_take zero earlier [] es ordered e = none_taken zero earlier es ordered e
entries_take (suc left) earlier [] es ordered e = none_taken (suc left) earlier es ordered e
entries_take zero earlier (b ∷ bs) es ordered e = absurd cc
entries_take (suc left) earlier (b ∷ bs) es ordered e =
    let a = bind_ok (entry_at (length earlier) (b ∷ bs)) (λ y. placed_at earlier y.0 >>= λ made. entries_at left (earlier ++ made ∷ []) y.1) es e in
    let p = bind_ok (placed_at earlier a.0.0) (λ made. entries_at left (earlier ++ made ∷ []) a.0.1) es a.2 in
    let first : TakesEntry (b ∷ bs) a.0.0 a.0.1 = entry_takes (length earlier) (b ∷ bs) a.0 a.1 in
    let made : TakesEntry (b ∷ bs) p.0 a.0.1 = subst (λ (y : TreeEntry). TakesEntry (b ∷ bs) y a.0.1) (placed_is earlier a.0.0 p.0 p.1) first in
    takes_more left earlier (b ∷ bs) a.0.1 p.0 es made (entries_take left (earlier ++ p.0 ∷ []) a.0.1 es (ordered_more earlier a.0.0 p.0 ordered p.1) p.2)

pub tree_takes : (limit : ℕ) (bytes : List ℕ) (es : List TreeEntry) → tree_at limit bytes ≡ Ok es → IsTree limit bytes es
tree_takes limit bytes es e =
    let t : TakesEntries limit [] bytes es = entries_take limit [] bytes es IsOrdered-nil e in
    record {
      written = t.written;
      spelled_so = t.parts;
      same = sym t.same;
      fit = t.fit;
      few = omega (arith, ap (length {A = TreeEntry}) t.same, length-map t.written (λ (w : Written). w.entry), t.count);
      rising = t.ordered.rising;
      apart = t.ordered.apart;
    }

-- ---- a tree is read

some_bytes : (w : Written) (rest : List ℕ) → 0 < length (spelled w ++ rest)
some_bytes w rest = omega (arith, length-append (spelled w) rest, length-append w.digits (32 ∷ (w.entry.name ++ 0 ∷ w.entry.object)))

entries_again : (left : ℕ) (earlier : List TreeEntry) (ws : List Written) → AllByRecursion IsWritten ws → length ws ≤ left → IsOrdered (earlier ++ entries_of ws) → entries_at left earlier (flat_map spelled ws) ≡ Ok (earlier ++ entries_of ws)
entries_again left earlier [] fit few ordered = at_end left earlier ∙ ap (λ (es : List TreeEntry). Ok es) (sym (append-nil earlier))
entries_again zero earlier (w ∷ ws) fit few ordered = absurd (omega arith)
entries_again (suc left) earlier (w ∷ ws) fit few ordered =
    let behind : List ℕ = flat_map spelled ws in
    let moved : (earlier ++ w.entry ∷ []) ++ entries_of ws ≡ earlier ++ (w.entry ∷ entries_of ws) = append_assoc earlier (w.entry ∷ []) (entries_of ws) in
    let others = entries_again left (earlier ++ w.entry ∷ []) ws fit.1 (omega arith) (subst IsOrdered (sym moved) ordered) in
    ap (entries_at (suc left) earlier) (flat_map-cons spelled w ws)
    ∙ one_more left earlier (spelled w ++ behind) behind w.entry (some_bytes w behind) (entry_again (length earlier) w behind fit.0) (placed_again earlier w.entry (entries_of ws) ordered)
    ∙ others ∙ ap (λ (es : List TreeEntry). Ok es) moved

pub tree_again : (limit : ℕ) (bytes : List ℕ) (es : List TreeEntry) → IsTree limit bytes es → tree_at limit bytes ≡ Ok es
tree_again limit bytes es tree =
    let ordered : IsOrdered (entries_of tree.written) = subst IsOrdered (sym tree.same) (record { rising = tree.rising; apart = tree.apart }) in
    let few : length tree.written ≤ limit = omega (arith, ap (length {A = TreeEntry}) tree.same, length-map tree.written (λ (w : Written). w.entry), tree.few) in
    ap (entries_at limit []) tree.spelled_so ∙ entries_again limit [] tree.written tree.fit few ordered ∙ ap (λ (xs : List TreeEntry). Ok xs) tree.same

-- ---- the clauses

-- a greater limit changes nothing
wider : (m n : ℕ) (bytes : List ℕ) (es : List TreeEntry) → m ≤ n → IsTree m bytes es → IsTree n bytes es
wider m n bytes es le tree = record { written = tree.written; spelled_so = tree.spelled_so; same = tree.same; fit = tree.fit; few = omega (arith, tree.few); rising = tree.rising; apart = tree.apart }

pub one_tree : (m n : ℕ) (bytes : List ℕ) (es fs : List TreeEntry) → IsTree m bytes es → IsTree n bytes fs → es ≡ fs
one_tree m n bytes es fs first second =
    ok_is es fs (sym (tree_again (m + n) bytes es (wider m (m + n) bytes es (omega arith) first)) ∙ tree_again (m + n) bytes fs (wider n (m + n) bytes fs (omega arith) second))

-- a fault that cannot be another is out of memory
memory_only : (f : TreeFault) → ((f ≡ NoMemory → ⊥) → ⊥) → f ≡ NoMemory
memory_only (Short k) h = absurd (h (λ e. cc))
memory_only (Mode k) h = absurd (h (λ e. cc))
memory_only (Name k kind) h = absurd (h (λ e. cc))
memory_only (Order k) h = absurd (h (λ e. cc))
memory_only (Twice k) h = absurd (h (λ e. cc))
memory_only (Count n) h = absurd (h (λ e. cc))
memory_only NoMemory h = refl

pub refused_is_none : (limit : ℕ) (bytes : List ℕ) (f : TreeFault) → tree_at limit bytes ≡ Err f → (es : List TreeEntry) → IsTree limit bytes es → ⊥
refused_is_none limit bytes f e es tree = let read = tree_again limit bytes es tree in absurd (cc)

pub refused_by_memory : (limit : ℕ) (bytes : List ℕ) (f : TreeFault) → ((f ≡ NoMemory → ⊥) → tree_at limit bytes ≡ Err f) → (es : List TreeEntry) → IsTree limit bytes es → f ≡ NoMemory
refused_by_memory limit bytes f gives es tree = memory_only f (λ some. refused_is_none limit bytes f (gives some) es tree)

pub reads_alike : (limit : ℕ) (bytes : List ℕ) (es fs : List TreeEntry) → tree_at limit bytes ≡ Ok es → IsTree limit bytes fs → es ≡ fs
reads_alike limit bytes es fs read tree = ok_is es fs (sym read ∙ tree_again limit bytes fs tree)
