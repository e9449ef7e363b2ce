-- Taking the leaves of a folder, entry by entry.
use Rattle.std.proofs.Common.{◌≡◌, ℕ, zero, suc, ◌+◌, ◌-◌, ◌<◌, ◌≤◌, true, false, List, [], ◌∷◌, ◌++◌, length, take, slice_index_or, refl, sym, ap, subst, ◌∙◌, append_assoc, arith, inl, inr}
use Rattle.std.specs.Prelude.{Contains}
use Rattle.std.proofs.lemmas.List.{append-nil, length-append}
use Rattle.edge_kit.specs.Told.{TellsBytes}
use Rattle.git_trees.specs.declared.entry.TreeEntry.{TreeEntry}
use Rattle.git_trees.specs.declared.folder.WalkStep.{WalkStep}
use Rattle.git_index.specs.declared.entry.Entry.{Entry}
use Rattle.git_trees.specs.declared.walk_fault.WalkFault.{WalkFault}
use Rattle.git_trees.specs.declared.walk_fault.WalkFault.TheVariants as stop
use Rattle.git_trees.specs.Format.{is_folder, key, IsTree}
use Rattle.git_trees.specs.declared.walk_fault.WalkBounds.{WalkBounds}
use Rattle.git_trees.specs.Walk.{TreesTold, IsAllTold, AllReach, IsLeaf, Reaches, EntriesOf, leaf_of}
use Rattle.git_trees.specs.Stops.{IsMet, IsStop, IsOpenStop, IsLeafStop, IsStopBelow, IsReached, IsOver, IsFree}
use Rattle.git_trees.proofs.Whole.{one_tree}
use Rattle.git_trees.proofs.OneWalk.{all_one, one_reach, one_content}
use Rattle.git_trees.proofs.Stopped.{leaf_here, inner_here, no_walk}

-- what holds before each entry: the leaves of those before it are taken
pub record IsTaking (told : TreesTold) (step : WalkStep) (folder : List ℕ) (items : List TreeEntry) (k : ℕ) (old new : List Entry) : Type 0 where
  pub done : List Entry
  pub grown : new ≡ old ++ done
  pub reach : AllReach (λ f x xs. Reaches told step.bounds.limit step.left f x xs) folder (take k items) done
  pub few : length new ≤ step.bounds.limit

pub begins : (told : TreesTold) (step : WalkStep) (folder : List ℕ) (items : List TreeEntry) (old : List Entry) → length old ≤ step.bounds.limit → IsTaking told step folder items 0 old old
begins told step folder items old few = record { done = []; grown = sym (append-nil old); reach = refl; few = few }

one_more : (Below : List ℕ → TreeEntry → List Entry → Type 0) (folder : List ℕ) (es : List TreeEntry) (e : TreeEntry) (xs ys : List Entry) → AllReach Below folder es xs → Below folder e ys → AllReach Below folder (es ++ e ∷ []) (xs ++ ys)
one_more Below folder [] e xs ys r b = (ys, [], ap (λ (zs : List Entry). zs ++ ys) r ∙ sym (append-nil ys), b, refl)
one_more Below folder (x ∷ es) e xs ys r b = (r.0, r.1 ++ ys, ap (λ (zs : List Entry). zs ++ ys) r.2 ∙ append_assoc r.0 r.1 ys, r.3, one_more Below folder es e r.1 ys r.4 b)

take_next : (items : List TreeEntry) (k : ℕ) (e : TreeEntry) → k < length items → slice_index_or items k e ≡ e → take (suc k) items ≡ take k items ++ e ∷ []
take_next [] k e less is = absurd (omega (arith, less))
take_next (x ∷ items) zero e less is = ap (λ (y : TreeEntry). y ∷ []) is
take_next (x ∷ items) (suc k) e less is = ap (λ (ys : List TreeEntry). x ∷ ys) (take_next items k e (omega (arith, less)) is)

take_one : (items : List TreeEntry) (k : ℕ) (e : TreeEntry) → k < length items → slice_index_or items k e ≡ e → take (k + 1) items ≡ take k items ++ e ∷ []
take_one items k e less is = let step : k + 1 ≡ suc k = omega arith in ap (λ (n : ℕ). take n items) step ∙ take_next items k e less is

take_all : (items : List TreeEntry) (k : ℕ) → length items ≤ k → take k items ≡ items
take_all [] zero most = refl
take_all [] (suc k) most = refl
take_all (x ∷ items) zero most = absurd (omega (arith, most))
take_all (x ∷ items) (suc k) most = ap (λ (ys : List TreeEntry). x ∷ ys) (take_all items k (omega (arith, most)))

pub goes_on : (told : TreesTold) (step : WalkStep) (folder : List ℕ) (items : List TreeEntry) (k : ℕ) (old new newer more : List Entry) (e : TreeEntry) → k < length items → slice_index_or items k e ≡ e → IsTaking told step folder items k old new
    → newer ≡ new ++ more → Reaches told step.bounds.limit step.left folder e more → length newer ≤ step.bounds.limit → IsTaking told step folder items (k + 1) old newer
goes_on told step folder items k old new newer more e less is taking grown reach few =
    record {
      done = taking.done ++ more;
      grown = grown ∙ ap (λ (zs : List Entry). zs ++ more) taking.grown ∙ append_assoc old taking.done more;
      reach = subst (λ (es : List TreeEntry). AllReach (λ f x xs. Reaches told step.bounds.limit step.left f x xs) folder es (taking.done ++ more)) (sym (take_one items k e less is))
          (one_more (λ f x xs. Reaches told step.bounds.limit step.left f x xs) folder (take k items) e taking.done more taking.reach reach);
      few = few;
    }

pub is_done : (told : TreesTold) (step : WalkStep) (folder content : List ℕ) (items : List TreeEntry) (k : ℕ) (old new : List Entry) → length items ≤ k → IsTree step.bounds.limit content items → IsTaking told step folder items k old new → IsReached told step folder content old new
is_done told step folder content items k old new most tree taking =
    record {
      entries = items;
      tree = tree;
      more = taking.done;
      grown = taking.grown;
      reach = subst (λ (es : List TreeEntry). AllReach (λ f x xs. Reaches told step.bounds.limit step.left f x xs) folder es taking.done) (take_all items k most) taking.reach;
      few = taking.few;
    }

leaf_reaches : (told : TreesTold) (limit left : ℕ) (folder : List ℕ) (e : TreeEntry) (xs : List Entry) → IsLeaf folder e xs → Reaches told limit left folder e xs
leaf_reaches told limit zero folder e xs leaf = leaf
leaf_reaches told limit (suc left) folder e xs leaf = inl leaf

pub leaf_goes_on : (told : TreesTold) (step : WalkStep) (folder : List ℕ) (items : List TreeEntry) (k : ℕ) (old new newer : List Entry) (e : TreeEntry) → k < length items → slice_index_or items k e ≡ e → IsTaking told step folder items k old new
    → newer ≡ new ++ leaf_of folder e ∷ [] → IsLeaf folder e (leaf_of folder e ∷ []) → length newer ≤ step.bounds.limit → IsTaking told step folder items (k + 1) old newer
leaf_goes_on told step folder items k old new newer e less is taking grown leaf few =
    goes_on told step folder items k old new newer (leaf_of folder e ∷ []) e less is taking grown (leaf_reaches told step.bounds.limit step.left folder e (leaf_of folder e ∷ []) leaf) few

abbrev pub below_of : WalkStep → WalkStep
below_of step = record { alloc = step.alloc; bounds = step.bounds; left = step.left - 1 }

pub folder_goes_on : (told : TreesTold) (step : WalkStep) (folder path inner : List ℕ) (items : List TreeEntry) (k : ℕ) (old new newer : List Entry) (e : TreeEntry) → k < length items → slice_index_or items k e ≡ e → IsTaking told step folder items k old new
    → is_folder e.mode ≡ true → path ≡ folder ++ key e → 0 < step.left → TellsBytes (told e.object) inner → IsReached told (below_of step) path inner new newer → IsTaking told step folder items (k + 1) old newer
folder_goes_on told step folder path inner items k old new newer e less is taking kind whole some tells r =
    let left : suc (step.left - 1) ≡ step.left = omega (arith, some) in
    let here : AllReach (λ f x xs. Reaches told step.bounds.limit (step.left - 1) f x xs) (folder ++ key e) r.entries r.more = subst (λ (f : List ℕ). AllReach (λ f x xs. Reaches told step.bounds.limit (step.left - 1) f x xs) f r.entries r.more) whole r.reach in
    let up : Reaches told step.bounds.limit (suc (step.left - 1)) folder e r.more = inr (record { kind = kind; content = inner; is_told = tells; entries = r.entries; tree = r.tree; reach = here }) in
    goes_on told step folder items k old new newer r.more e less is taking r.grown (subst (λ (n : ℕ). Reaches told step.bounds.limit n folder e r.more) left up) r.few

-- ---- stops

-- what stops at an entry that isn't opened
pub not_opened : (told : TreesTold) (step : WalkStep) (folder content : List ℕ) (items : List TreeEntry) (e : TreeEntry) (f : WalkFault) → IsTree step.bounds.limit content items → Contains items e → is_folder e.mode ≡ true → IsOpenStop told step folder e f → IsStopBelow told step folder content f
not_opened told step folder content items e (stop.Absent path) tree member kind at root n sum comes =
    record { n = n; within = omega (arith, sum, at.0); folder = folder; entry = e; met = record { content = content; comes = comes; entries = items; tree = tree; member = member }; kind = kind; whole = at.1; holds = at.2 }
not_opened told step folder content items e (stop.TooLong path) tree member kind at root n sum comes =
    record { n = n; within = omega (arith, sum, at.0); folder = folder; entry = e; met = record { content = content; comes = comes; entries = items; tree = tree; member = member }; kind = kind; whole = at.1; holds = at.2 }
not_opened told step folder content items e (stop.Failed path) tree member kind at root n sum comes =
    record { n = n; within = omega (arith, sum, at.0); folder = folder; entry = e; met = record { content = content; comes = comes; entries = items; tree = tree; member = member }; kind = kind; whole = at.1; holds = at.2 }
not_opened told step folder content items e (stop.Deep path) tree member kind at root n sum comes =
    let same : n ≡ step.bounds.depth = omega (arith, sum, at.0) in
    record { folder = folder; entry = e; met = subst (λ (m : ℕ). IsMet told step.bounds.limit root m folder e) same (record { content = content; comes = comes; entries = items; tree = tree; member = member }); kind = kind; whole = at.1 }
not_opened told step folder content items e (stop.Tree path fault) tree member kind at root n sum comes = absurd at
not_opened told step folder content items e (stop.Path path fault) tree member kind at root n sum comes = absurd at
not_opened told step folder content items e stop.Count tree member kind at root n sum comes = absurd at
not_opened told step folder content items e stop.NoMemory tree member kind at root n sum comes = tt

-- what stops below an entry
pub stops_below : (told : TreesTold) (step : WalkStep) (folder path content inner : List ℕ) (items : List TreeEntry) (e : TreeEntry) (f : WalkFault) → 0 < step.left → IsTree step.bounds.limit content items → Contains items e → is_folder e.mode ≡ true
    → path ≡ folder ++ key e → TellsBytes (told e.object) inner → IsStopBelow told (below_of step) path inner f → IsStopBelow told step folder content f
stops_below told step folder path content inner items e f some tree member kind whole tells at root n sum comes =
    at root (suc n) (omega (arith, sum, some)) (record { outer = folder; above = content; comes = comes; entries = items; tree = tree; entry = e; member = member; kind = kind; path = whole; is_told = tells })

-- ---- more leaves than the limit

-- the leaves of entries, cut at one of them
record IsCut (Below : List ℕ → TreeEntry → List Entry → Type 0) (folder : List ℕ) (es : List TreeEntry) (k : ℕ) (e : TreeEntry) (xs : List Entry) : Type 0 where
  pub first : List Entry
  pub here : List Entry
  pub others : List Entry
  pub whole : xs ≡ first ++ (here ++ others)
  pub before : AllReach Below folder (take k es) first
  pub below : Below folder e here

cut : (Below : List ℕ → TreeEntry → List Entry → Type 0) (folder : List ℕ) (es : List TreeEntry) (k : ℕ) (e : TreeEntry) (xs : List Entry) → k < length es → slice_index_or es k e ≡ e → AllReach Below folder es xs → IsCut Below folder es k e xs
cut Below folder [] k e xs less is r = absurd (omega (arith, less))
cut Below folder (x ∷ es) zero e xs less is r =
    record { first = []; here = r.0; others = r.1; whole = r.2; before = refl; below = subst (λ (y : TreeEntry). Below folder y r.0) is r.3 }
cut Below folder (x ∷ es) (suc k) e xs less is r =
    let c = cut Below folder es k e r.1 (omega (arith, less)) is r.4 in
    record {
      first = r.0 ++ c.first;
      here = c.here;
      others = c.others;
      whole = r.2 ∙ ap (λ (zs : List Entry). r.0 ++ zs) c.whole ∙ sym (append_assoc r.0 c.first (c.here ++ c.others));
      before = (r.0, c.first, refl, r.3, c.before);
      below = c.below;
    }

-- if an entry has more leaves than may come after those that are taken, so has its folder
pub over_here : (told : TreesTold) (step : WalkStep) (folder content : List ℕ) (items : List TreeEntry) (k : ℕ) (old new : List Entry) (e : TreeEntry) → IsAllTold told → k < length items → slice_index_or items k e ≡ e → IsTree step.bounds.limit content items → IsTaking told step folder items k old new
    → ((xs : List Entry) → Reaches told step.bounds.limit step.left folder e xs → step.bounds.limit < length new + length xs) → IsOver told step folder content (length old)
over_here told step folder content items k old new e all less is tree taking more es xs other r =
    let same : es ≡ items = one_tree step.bounds.limit step.bounds.limit content es items other tree in
    let c = cut (λ f x ys. Reaches told step.bounds.limit step.left f x ys) folder items k e xs less is (subst (λ (fs : List TreeEntry). AllReach (λ f x ys. Reaches told step.bounds.limit step.left f x ys) folder fs xs) same r) in
    let first : c.first ≡ taking.done = all_one (λ f x ys. Reaches told step.bounds.limit step.left f x ys) folder (take k items) c.first taking.done (one_reach told step.bounds.limit step.left all) c.before taking.reach in
    omega (arith, more c.here c.below, ap (length {A = Entry}) taking.grown, length-append old taking.done, ap (length {A = Entry}) first, ap (length {A = Entry}) c.whole, length-append c.first (c.here ++ c.others), length-append c.here c.others)

pub leaf_over : (told : TreesTold) (step : WalkStep) (folder : List ℕ) (e : TreeEntry) (count : ℕ) (f : WalkFault) → is_folder e.mode ≡ false → f ≡ stop.Count → IsLeafStop step.bounds.limit count folder e f → (xs : List Entry) → Reaches told step.bounds.limit step.left folder e xs → step.bounds.limit < count + length xs
leaf_over told step folder e count f kind is at xs r =
    let full : step.bounds.limit ≤ count = subst (λ (g : WalkFault). IsLeafStop step.bounds.limit count folder e g) is at in
    let one : length xs ≡ 1 = ap (length {A = Entry}) (leaf_here told step.bounds.limit step.left folder e xs kind r).one in
    omega (arith, full, one)

pub folder_over : (told : TreesTold) (step : WalkStep) (folder path inner : List ℕ) (e : TreeEntry) (count : ℕ) → IsAllTold told → is_folder e.mode ≡ true → path ≡ folder ++ key e → 0 < step.left → TellsBytes (told e.object) inner → IsOver told (below_of step) path inner count
    → (xs : List Entry) → Reaches told step.bounds.limit step.left folder e xs → step.bounds.limit < count + length xs
folder_over told step folder path inner e count all kind whole some tells over xs r =
    let left : suc (step.left - 1) ≡ step.left = omega (arith, some) in
    let i = inner_here told step.bounds.limit (step.left - 1) folder e xs kind (subst (λ (n : ℕ). Reaches told step.bounds.limit n folder e xs) (sym left) r) in
    let same : i.content ≡ inner = one_content (told e.object) i.content inner (all e.object) i.is_told tells in
    over i.entries xs (subst (λ (c : List ℕ). IsTree step.bounds.limit c i.entries) same i.tree)
    (subst (λ (f : List ℕ). AllReach (λ f x ys. Reaches told step.bounds.limit (step.left - 1) f x ys) f i.entries xs) (sym whole) i.reach)

-- ---- from the root

-- the stops of the folder of the root are those of the walk
pub root_stops : (told : TreesTold) (step : WalkStep) (root : List ℕ) (f : WalkFault) → step.left ≡ step.bounds.depth → (f ≡ stop.Count → IsStop told step.bounds root f) → ((f ≡ stop.Count → ⊥) → IsStopBelow told step [] root f) → IsStop told step.bounds root f
root_stops told step root (stop.Absent path) left count others = others (λ e. cc) root 0 (omega (arith, left)) (refl, refl)
root_stops told step root (stop.Failed path) left count others = others (λ e. cc) root 0 (omega (arith, left)) (refl, refl)
root_stops told step root (stop.TooLong path) left count others = others (λ e. cc) root 0 (omega (arith, left)) (refl, refl)
root_stops told step root (stop.Tree path fault) left count others = others (λ e. cc) root 0 (omega (arith, left)) (refl, refl)
root_stops told step root (stop.Deep path) left count others = others (λ e. cc) root 0 (omega (arith, left)) (refl, refl)
root_stops told step root (stop.Path path fault) left count others = others (λ e. cc) root 0 (omega (arith, left)) (refl, refl)
root_stops told step root stop.Count left count others = count refl
root_stops told step root stop.NoMemory left count others = tt

pub root_reached : (told : TreesTold) (step : WalkStep) (root : List ℕ) (old new : List Entry) → step.left ≡ step.bounds.depth → old ≡ [] → IsReached told step [] root old new → EntriesOf told step.bounds.limit step.bounds.depth root new
root_reached told step root old new left none r =
    let more : new ≡ r.more = r.grown ∙ ap (λ (zs : List Entry). zs ++ r.more) none in
    let here : AllReach (λ f x xs. Reaches told step.bounds.limit step.left f x xs) [] r.entries new = subst (λ (zs : List Entry). AllReach (λ f x xs. Reaches told step.bounds.limit step.left f x xs) [] r.entries zs) (sym more) r.reach in
    record { entries = r.entries; tree = r.tree; reach = subst (λ (n : ℕ). AllReach (λ f x xs. Reaches told step.bounds.limit n f x xs) [] r.entries new) left here; few = r.few }

over_none : (told : TreesTold) (step : WalkStep) (root : List ℕ) (count : ℕ) (leaves : List Entry) → step.left ≡ step.bounds.depth → count ≡ 0 → IsOver told step [] root count → EntriesOf told step.bounds.limit step.bounds.depth root leaves → ⊥
over_none told step root count leaves left none over of =
    let here : AllReach (λ f x xs. Reaches told step.bounds.limit step.left f x xs) [] of.entries leaves = subst (λ (n : ℕ). AllReach (λ f x xs. Reaches told step.bounds.limit n f x xs) [] of.entries leaves) (sym left) of.reach in
    absurd (omega (arith, over of.entries leaves of.tree here, of.few, none))

pub over_root : (told : TreesTold) (step : WalkStep) (root : List ℕ) (count : ℕ) (f : WalkFault) → step.left ≡ step.bounds.depth → count ≡ 0 → (IsAllTold told → IsOver told step [] root count) → f ≡ stop.Count → IsStop told step.bounds root f
over_root told step root count f left none over is =
    subst (λ (g : WalkFault). IsStop told step.bounds root g) (sym is) (λ all leaves of. over_none told step root count leaves left none (over all) of)

-- a stop leaves no leaves to be given, but for those that say nothing
pub stop_is_free : (told : TreesTold) (bounds : WalkBounds) (root : List ℕ) (leaves : List Entry) (f : WalkFault) → IsAllTold told → EntriesOf told bounds.limit bounds.depth root leaves → IsStop told bounds root f → IsFree f
stop_is_free told bounds root leaves (stop.Absent path) all of at = absurd (no_walk told bounds root (stop.Absent path) all at (λ free. free) leaves of)
stop_is_free told bounds root leaves (stop.Failed path) all of at = absurd (no_walk told bounds root (stop.Failed path) all at (λ free. free) leaves of)
stop_is_free told bounds root leaves (stop.TooLong path) all of at = tt
stop_is_free told bounds root leaves (stop.Tree path fault) all of at = absurd (no_walk told bounds root (stop.Tree path fault) all at (λ free. free) leaves of)
stop_is_free told bounds root leaves (stop.Deep path) all of at = absurd (no_walk told bounds root (stop.Deep path) all at (λ free. free) leaves of)
stop_is_free told bounds root leaves (stop.Path path fault) all of at = absurd (no_walk told bounds root (stop.Path path fault) all at (λ free. free) leaves of)
stop_is_free told bounds root leaves stop.Count all of at = absurd (no_walk told bounds root stop.Count all at (λ free. free) leaves of)
stop_is_free told bounds root leaves stop.NoMemory all of at = tt
