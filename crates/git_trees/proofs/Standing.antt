-- The leaves of a tree can stand in an index.
use Rattle.std.proofs.Common.{◌≡◌, ◌≤◌, ℕ, zero, suc, Bool, true, false, eqb, List, [], ◌∷◌, ◌++◌, length, refl, sym, subst, ◌∙◌, arith, inl, inr}
use Rattle.std.specs.Prelude.{nat_eq, nat_lt, not, ◌&&◌, ◌||◌, ◌==◌, slice_index, map}
use Rattle.std.specs.List.{list_all, starts_with, AllByRecursion}
use Rattle.std.specs.Str.{bytes_eq}
use Rattle.std.specs.Ordering.{nat_cmp, ordering_then, is_lt}
use Rattle.std.specs.declared.cmp.Ordering.{Ordering}
use Rattle.std.specs.declared.cmp.Ordering.TheVariants.{Less, Equal, Greater}
use Rattle.std.specs.Cmp.Lexicographic.{slice_cmp}
use Rattle.std.proofs.lemmas.Bool.{and_parts, and_from, eqb-true, eq-eqb}
use Rattle.std.proofs.lemmas.List.Folds.{list_all-append}
use Rattle.std.proofs.lemmas.Slice.Eq.{bytes_eq-Decides}
use Rattle.git_index.specs.declared.entry.Entry.{Entry}
use Rattle.git_index.specs.Spelling.{is_not_nul, is_below, is_alone, is_clash, is_no_clash, is_folder_of, IsEntry, CanStand}
use Rattle.git_index.specs.Spelling as index
use Rattle.git_trees.specs.declared.entry.TreeEntry.{TreeEntry}
use Rattle.git_trees.specs.Format.{is_name_byte, key_of, key, is_folder, is_before, pairwise, Written, IsWritten, IsTree}
use Rattle.git_trees.specs.Walk.{TreesTold, AllReach, IsLeaf, IsInner, Reaches, EntriesOf}
use Rattle.git_trees.proofs.Rising.{not_itself, all_append, leaf_below, leaves_rise}
use Rattle.git_trees.proofs.Apart.{not_from, is_in_folder, leaf_apart, leaves_are_apart}

-- ---- each leaf

-- a name and the name of an object, as a tree has them
record IsNamed (e : TreeEntry) : Type 0 where
  pub plain : list_all is_name_byte e.name ≡ true
  pub object : length e.object ≡ 20

named : (ws : List Written) → AllByRecursion IsWritten ws → AllByRecursion IsNamed (map (λ w. w.entry) ws)
named [] fit = tt
named (w ∷ ws) fit = (record { plain = fit.0.plain; object = fit.0.object }, named ws fit.1)

named_in : (limit : ℕ) (bytes : List ℕ) (es : List TreeEntry) → IsTree limit bytes es → AllByRecursion IsNamed es
named_in limit bytes es tree = subst (AllByRecursion IsNamed) tree.same (named tree.written tree.fit)

not_or : (a b : Bool) → not (a || b) ≡ true → not a ≡ true
not_or true b h = h
not_or false b h = refl

no_nul : (name : List ℕ) → list_all is_name_byte name ≡ true → list_all is_not_nul name ≡ true
no_nul [] h = refl
no_nul (b ∷ name) h =
    let p = and_parts (is_name_byte b) (list_all is_name_byte name) h in
    and_from (is_not_nul b) (list_all is_not_nul name) (not_or (b == 0) (b == 47) p.0) (no_nul name p.1)

no_nul_key : (kind : Bool) (name : List ℕ) → list_all is_name_byte name ≡ true → list_all is_not_nul (key_of kind name) ≡ true
no_nul_key true name h = list_all-append is_not_nul name (47 ∷ []) ∙ and_from (list_all is_not_nul name) true (no_nul name h) refl
no_nul_key false name h = no_nul name h

both_free : (a b : List ℕ) → list_all is_not_nul a ≡ true → list_all is_not_nul b ≡ true → list_all is_not_nul (a ++ b) ≡ true
both_free a b h also = list_all-append is_not_nul a b ∙ and_from (list_all is_not_nul a) (list_all is_not_nul b) h also

abbrev AreWhole : (List ℕ → TreeEntry → List Entry → Type 0) → Type 0
AreWhole Below = (folder : List ℕ) (e : TreeEntry) (xs : List Entry) → list_all is_not_nul folder ≡ true → IsNamed e → Below folder e xs → AllByRecursion IsEntry xs

leaf_whole : (folder : List ℕ) (e : TreeEntry) (xs : List Entry) → list_all is_not_nul folder ≡ true → IsNamed e → IsLeaf folder e xs → AllByRecursion IsEntry xs
leaf_whole folder e xs free is leaf =
    subst (AllByRecursion IsEntry) (sym leaf.one)
    (record { name = is.object; stage = omega arith; path = leaf.path; no_nul = both_free folder e.name free (no_nul e.name is.plain) }, tt)

all_whole : (Below : List ℕ → TreeEntry → List Entry → Type 0) (folder : List ℕ) (es : List TreeEntry) (xs : List Entry) → list_all is_not_nul folder ≡ true → AreWhole Below → AllByRecursion IsNamed es → AllReach Below folder es xs → AllByRecursion IsEntry xs
all_whole Below folder [] xs free whole named r = subst (AllByRecursion IsEntry) (sym r) tt
all_whole Below folder (e ∷ es) xs free whole named r =
    subst (AllByRecursion IsEntry) (sym r.2) (all_append IsEntry r.0 r.1 (whole folder e r.0 free named.0 r.3) (all_whole Below folder es r.1 free whole named.1 r.4))

inner_whole : (told : TreesTold) (limit : ℕ) (Below : List ℕ → TreeEntry → List Entry → Type 0) (folder : List ℕ) (e : TreeEntry) (xs : List Entry) → list_all is_not_nul folder ≡ true → IsNamed e → AreWhole Below → IsInner told limit Below folder e xs → AllByRecursion IsEntry xs
inner_whole told limit Below folder e xs free is whole inner =
    all_whole Below (folder ++ key e) inner.entries xs (both_free folder (key e) free (no_nul_key (is_folder e.mode) e.name is.plain)) whole (named_in limit inner.content inner.entries inner.tree) inner.reach

are_whole : (told : TreesTold) (limit depth : ℕ) → AreWhole (λ f x xs. Reaches told limit depth f x xs)
are_whole told limit zero folder e xs free is r = leaf_whole folder e xs free is r
are_whole told limit (suc depth) folder e xs free is (inl leaf) = leaf_whole folder e xs free is leaf
are_whole told limit (suc depth) folder e xs free is (inr inner) = inner_whole told limit (λ f y ys. Reaches told limit depth f y ys) folder e xs free is (are_whole told limit depth) inner

leaves_whole : (told : TreesTold) (limit depth : ℕ) (root : List ℕ) (leaves : List Entry) → EntriesOf told limit depth root leaves → AllByRecursion IsEntry leaves
leaves_whole told limit depth root leaves of =
    all_whole (λ f x xs. Reaches told limit depth f x xs) [] of.entries leaves refl (are_whole told limit depth) (named_in limit root of.entries of.tree) of.reach

-- ---- each two leaves

less_first : (a b : Ordering) → is_lt a ≡ true → is_lt (ordering_then a b) ≡ true
less_first Less b h = refl
less_first Equal b h = absurd cc
less_first Greater b h = absurd cc

below : (x y : Entry) → leaf_below x y ≡ true → is_below x y ≡ true
below x y h = less_first (slice_cmp nat_cmp x.path y.path) (nat_cmp x.stage y.stage) h

other_path : (a b : List ℕ) → is_before a b ≡ true → bytes_eq a b ≡ true → ⊥
other_path a b h same = not_itself b (subst (λ (p : List ℕ). is_before p b ≡ true) ((bytes_eq-Decides a b).0 same) h)

alone : (x y : Entry) → leaf_below x y ≡ true → is_alone x y ≡ true
alone x y h = not_from (bytes_eq x.path y.path && (x.stage == 0)) (λ both. other_path x.path y.path h (and_parts (bytes_eq x.path y.path) (x.stage == 0) both).0)

after_folder : (folder path : List ℕ) → starts_with nat_eq path folder ≡ true → (slice_index path (length folder) == 47) ≡ true → is_in_folder folder path ≡ true
after_folder [] [] front at = absurd cc
after_folder [] (p ∷ path) front at = and_from (eqb 47 p) (starts_with nat_eq path []) (eq-eqb 47 p (sym (eqb-true p 47 at))) refl
after_folder (x ∷ folder) [] front at = absurd cc
after_folder (x ∷ folder) (p ∷ path) front at =
    let q = and_parts (eqb x p) (starts_with nat_eq path folder) front in
    and_from (eqb x p) (starts_with nat_eq path (folder ++ 47 ∷ [])) q.0 (after_folder folder path q.1 at)

in_folder : (folder path : List ℕ) → index.is_in_folder folder path ≡ true → is_in_folder folder path ≡ true
in_folder folder path h =
    let p = and_parts (starts_with nat_eq path folder && nat_lt (length folder) (length path)) (slice_index path (length folder) == 47) h in
    let q = and_parts (starts_with nat_eq path folder) (nat_lt (length folder) (length path)) p.0 in
    after_folder folder path q.0 p.1

no_both : (b : Bool) → not b ≡ true → b ≡ true → ⊥
no_both true h is = absurd cc
no_both false h is = absurd cc

no_clash : (x y : Entry) → leaf_apart x y ≡ true → is_no_clash x y ≡ true
no_clash x y h = not_from (is_clash x y) (λ clash.
    let p = and_parts (y.stage == 0) (is_folder_of x y.path) clash in
    let q = and_parts (x.stage == 0) (index.is_in_folder x.path y.path) p.1 in
    no_both (is_in_folder x.path y.path) h (in_folder x.path y.path q.1))

all_pass : (test other : Entry → Entry → Bool) (x : Entry) (ys : List Entry) → ((y : Entry) → test x y ≡ true → other x y ≡ true) → list_all (test x) ys ≡ true → list_all (other x) ys ≡ true
all_pass test other x [] law h = refl
all_pass test other x (y ∷ ys) law h =
    let p = and_parts (test x y) (list_all (test x) ys) h in
    and_from (other x y) (list_all (other x) ys) (law y p.0) (all_pass test other x ys law p.1)

each_two : (test other : Entry → Entry → Bool) (xs : List Entry) → ((x y : Entry) → test x y ≡ true → other x y ≡ true) → pairwise test xs ≡ true → pairwise other xs ≡ true
each_two test other [] law h = refl
each_two test other (x ∷ xs) law h =
    let p = and_parts (list_all (test x) xs) (pairwise test xs) h in
    and_from (list_all (other x) xs) (pairwise other xs) (all_pass test other x xs (law x) p.0) (each_two test other xs law p.1)

pub leaves_can_stand : (told : TreesTold) (limit depth : ℕ) (root : List ℕ) (leaves : List Entry) → EntriesOf told limit depth root leaves → length leaves ≤ 100000 → CanStand leaves
leaves_can_stand told limit depth root leaves of few =
    let rise = leaves_rise told limit depth root leaves of in
    record {
      each = leaves_whole told limit depth root leaves of;
      few = few;
      rising = each_two leaf_below is_below leaves below rise;
      alone = each_two leaf_below is_alone leaves alone rise;
      apart = each_two leaf_apart is_no_clash leaves no_clash (leaves_are_apart told limit depth root leaves of);
    }
