-- The entries of a folder, taken from the front.
use Rattle.std.proofs.Common.{◌≡◌, ℕ, zero, suc, ◌+◌, ◌-◌, ◌<◌, ◌≤◌, true, List, [], ◌∷◌, ◌++◌, length, take, drop, position, eqb, leb, not, ◌&&◌, Option, Some, None, refl, sym, ap, subst, ◌∙◌, append_assoc, arith, codes}
use Rattle.std.specs.List.{list_all}
use Rattle.std.proofs.lemmas.List.{append-nil, length-drop, length-take-le, nil_from_length}
use Rattle.std.proofs.lemmas.Bool.{and_parts, and_from, leb-true}
use Rattle.git_index.specs.declared.entry.Entry.{Entry}
use Rattle.tree_cache.specs.declared.folder.Folder.{Folder}
use Rattle.tree_cache.specs.Folders.{AreIn, IsCached, IsOf, IsFolder, IsFile, IsSubfolder, Node, mode_text, tree_line, rest, run_length, node, is_slash, is_cached_entry}

-- What becomes of the entries that are left becomes of all behind what is there.
pub record GoesOn (left at : ℕ) (all es : List Entry) (content : List ℕ) (nodes : List Node) : Type 0 where
  pub cached : list_all is_cached_entry es ≡ true
  pub then : (k : ℕ) (more : List ℕ) (others : List Node) → AreIn (λ a xs f. IsCached (left - 1) a xs f) at k es more others
      → (m : ℕ) × AreIn (λ a xs f. IsCached (left - 1) a xs f) at m all (content ++ more) (nodes ++ others)

all_behind : (n : ℕ) (es : List Entry) → list_all is_cached_entry es ≡ true → list_all is_cached_entry (drop n es) ≡ true
all_behind zero es all = all
all_behind (suc n) [] all = refl
all_behind (suc n) (e ∷ es) all = all_behind n es (and_parts (is_cached_entry e) _ all).1

pub all_before : (n : ℕ) (es : List Entry) → list_all is_cached_entry es ≡ true → list_all is_cached_entry (take n es) ≡ true
all_before zero es all = refl
all_before (suc n) [] all = refl
all_before (suc n) (e ∷ es) all = let both = and_parts (is_cached_entry e) (list_all is_cached_entry es) all in and_from _ _ both.0 (all_before n es both.1)

pub file_goes_on : (left at : ℕ) (all es : List Entry) (e : Entry) (content new : List ℕ) (nodes : List Node) → position is_slash (rest at e) ≡ None → new ≡ content ++ tree_line (mode_text e.mode) (rest at e) e.name
    → GoesOn left at all (e ∷ es) content nodes → GoesOn left at all es new nodes
file_goes_on left at all es e content new nodes none grown goes = record {
  cached = (and_parts _ _ goes.cached).1;
  then = λ k more others are.
      let line = tree_line (mode_text e.mode) (rest at e) e.name in
      let first : IsFile (λ xs c ns. AreIn (λ a xs f. IsCached (left - 1) a xs f) at k xs c ns) at e es (line ++ more) others = record { more = more; line = refl; others = are } in
      let one : AreIn (λ a xs f. IsCached (left - 1) a xs f) at (suc k) (e ∷ es) (line ++ more) others = rw none first in
      let all_are = goes.then (suc k) (line ++ more) others one in
      (all_are.0, subst (λ (c : List ℕ). AreIn (λ a xs f. IsCached (left - 1) a xs f) at all_are.0 all c (nodes ++ others)) (sym (append_assoc content line more) ∙ ap (λ (c : List ℕ). c ++ more) (sym grown)) all_are.1);
}

pub folder_goes_on : (left at ends count : ℕ) (all es : List Entry) (e : Entry) (content new : List ℕ) (nodes : List Node) (folder : Folder) (first : Node)
    → position is_slash (rest at e) ≡ Some ends → count ≡ 1 + run_length at (take (ends + 1) (rest at e)) es
    → IsCached (left - 1) (at + ends + 1) (take count (e ∷ es)) folder
    → new ≡ content ++ tree_line (codes "40000") (take ends (rest at e)) folder.tree
    → first.0 ≡ ends → first.1.items ≡ node (take ends (rest at e)) count folder
    → GoesOn left at all (e ∷ es) content nodes → GoesOn left at all (drop count (e ∷ es)) new (nodes ++ first ∷ [])
folder_goes_on left at ends count all es e content new nodes folder first some count_is below grown size told goes = record {
  cached = all_behind count (e ∷ es) goes.cached;
  then = λ k more others are.
      let line = tree_line (codes "40000") (take ends (rest at e)) folder.tree in
      let begins : IsSubfolder (λ a xs f. IsCached (left - 1) a xs f) (λ xs c ns. AreIn (λ a xs f. IsCached (left - 1) a xs f) at k xs c ns) at ends count e (e ∷ es) (line ++ more) (first ∷ others) =
      record { folder = folder; below = below; more = more; line = refl; first = first; size = size; told = told; others = others; nodes_are = refl; then = are } in
      let one : AreIn (λ a xs f. IsCached (left - 1) a xs f) at (suc k) (e ∷ es) (line ++ more) (first ∷ others) = rw (some, sym count_is) begins in
      let all_are = goes.then (suc k) (line ++ more) (first ∷ others) one in (
        all_are.0,
        subst (λ (ns : List Node). AreIn (λ a xs f. IsCached (left - 1) a xs f) at all_are.0 all (new ++ more) ns) (sym (append_assoc nodes (first ∷ []) others))
            (subst (λ (c : List ℕ). AreIn (λ a xs f. IsCached (left - 1) a xs f) at all_are.0 all c (nodes ++ first ∷ others)) (sym (append_assoc content line more) ∙ ap (λ (c : List ℕ). c ++ more) (sym grown)) all_are.1),
      );
}

pub starts : (left at : ℕ) (es : List Entry) (content : List ℕ) (nodes : List Node) → content ≡ [] → nodes ≡ [] → list_all is_cached_entry es ≡ true → GoesOn left at es es content nodes
starts left at es content nodes none_c none_n cached = rw (none_c, none_n) (record { cached = cached; then = λ k more others are. (k, are) })

cached_from : (left at : ℕ) (es : List Entry) (folder : Folder) → 0 < left → IsOf (λ a xs f. IsCached (left - 1) a xs f) at es folder → IsCached left at es folder
cached_from zero at es folder some is = absurd (omega (arith, some))
cached_from (suc n) at es folder some is =
    let less : suc n - 1 ≡ n = omega arith in
    subst (λ (m : ℕ). IsOf (λ a xs f. IsCached m a xs f) at es folder) less is

pub is_done : (left at : ℕ) (all : List Entry) (content : List ℕ) (nodes : List Node) (folder : Folder) → 0 < left → GoesOn left at all [] content nodes → IsFolder content nodes folder → IsCached left at all folder
is_done left at all content nodes folder some goes made =
    let all_are = goes.then 0 [] [] (refl, refl) in
    cached_from left at all folder some (record {
      count = all_are.0;
      content = content;
      nodes = nodes;
      parts = subst (λ (ns : List Node). AreIn (λ a xs f. IsCached (left - 1) a xs f) at all_are.0 all content ns) (append-nil nodes)
          (subst (λ (c : List ℕ). AreIn (λ a xs f. IsCached (left - 1) a xs f) at all_are.0 all c (nodes ++ [])) (append-nil content) all_are.1);
      made = made;
    })

pub file_step : (left at : ℕ) (all rs es : List Entry) (e : Entry) (content new mode name : List ℕ) (nodes : List Node) (slash : Option ℕ) → rs ≡ e ∷ es → name ≡ rest at e → slash ≡ position is_slash name → slash ≡ None
    → mode ≡ mode_text e.mode → new ≡ content ++ tree_line mode name e.name → GoesOn left at all rs content nodes → GoesOn left at all es new nodes
file_step left at all rs es e content new mode name nodes slash first name_is found none mode_is grown goes =
    file_goes_on left at all es e content new nodes (ap (position is_slash) (sym name_is) ∙ sym found ∙ none)
    (grown ∙ ap (λ (m : List ℕ). content ++ tree_line m name e.name) mode_is ∙ ap (λ (n : List ℕ). content ++ tree_line (mode_text e.mode) n e.name) name_is)
    (subst (λ (xs : List Entry). GoesOn left at all xs content nodes) first goes)

pub folder_step : (left at ends run : ℕ) (all rs es before behind : List Entry) (e : Entry) (content new name front part : List ℕ) (nodes more : List Node) (folder : Folder) (told : Node) (slash : Option ℕ)
    → rs ≡ e ∷ es → name ≡ rest at e → slash ≡ position is_slash name → slash ≡ Some ends
    → front ≡ take (ends + 1) name → part ≡ take ends name → run ≡ run_length at front es → before ≡ take (1 + run) rs → behind ≡ drop (1 + run) rs
    → IsCached (left - 1) (at + ends + 1) before folder
    → new ≡ content ++ tree_line (codes "40000") part folder.tree
    → told.0 ≡ ends → told.1.items ≡ node part (length before) folder → 1 + run ≤ length rs → more ≡ nodes ++ told ∷ []
    → GoesOn left at all rs content nodes → GoesOn left at all behind new more
folder_step left at ends run all rs es before behind e content new name front part nodes more folder told slash first name_is found some front_is part_is run_is before_is behind_is below grown size told_is fits more_is goes =
    let part_rest : part ≡ take ends (rest at e) = part_is ∙ ap (take ends) name_is in
    let taken : before ≡ take (1 + run) (e ∷ es) = before_is ∙ ap (take (1 + run)) first in
    let count : length before ≡ 1 + run = ap (length {A = Entry}) before_is ∙ length-take-le (1 + run) rs fits in
    let goes_on = folder_goes_on left at ends (1 + run) all es e content new nodes folder told (ap (position is_slash) (sym name_is) ∙ sym found ∙ some)
    (ap (λ (n : ℕ). 1 + n) (run_is ∙ ap (λ (f : List ℕ). run_length at f es) (front_is ∙ ap (take (ends + 1)) name_is)))
    (subst (λ (xs : List Entry). IsCached (left - 1) (at + ends + 1) xs folder) taken below)
    (grown ∙ ap (λ (p : List ℕ). content ++ tree_line (codes "40000") p folder.tree) part_rest)
    size (told_is ∙ ap (λ (n : ℕ). node part n folder) count ∙ ap (λ (p : List ℕ). node p (1 + run) folder) part_rest)
    (subst (λ (xs : List Entry). GoesOn left at all xs content nodes) first goes) in
    subst (λ (ns : List Node). GoesOn left at all behind new ns) (sym more_is)
    (subst (λ (xs : List Entry). GoesOn left at all xs new (nodes ++ told ∷ [])) (sym (behind_is ∙ ap (drop (1 + run)) first)) goes_on)

-- the path of a subfolder is no longer than that of a file
pub stays_within : (at slash : ℕ) (rs es : List Entry) (e : Entry) (name : List ℕ) → rs ≡ e ∷ es → list_all is_cached_entry rs ≡ true → name ≡ rest at e → slash < length name → at + slash + 1 ≤ 4096
stays_within at slash rs es e name first all name_is less =
    let cached = and_parts (is_cached_entry e) (list_all is_cached_entry es) (ap (list_all is_cached_entry) (sym first) ∙ all) in
    let short : length e.path ≤ 4096 = leb-true (length e.path) 4096 (and_parts (eqb e.stage 0 && not e.intent) (leb (length e.path) 4096) cached.0).1 in
    let len : length name ≡ length e.path - at = ap (length {A = ℕ}) name_is ∙ length-drop at e.path in
    omega (arith, less, len, short)

pub run_cached : (n : ℕ) (rs run : List Entry) → run ≡ take n rs → list_all is_cached_entry rs ≡ true → list_all is_cached_entry run ≡ true
run_cached n rs run is all = ap (list_all is_cached_entry) is ∙ all_before n rs all

pub done_step : (left at : ℕ) (all rs : List Entry) (content text : List ℕ) (nodes : List Node) (folder : Folder) → 4096 < at + left → at ≤ 4096 → length rs ≡ 0 → text ≡ content → GoesOn left at all rs content nodes → IsFolder text nodes folder → IsCached left at all folder
done_step left at all rs content text nodes folder deep within none same goes made =
    is_done left at all content nodes folder (omega (arith, deep, within)) (subst (λ (xs : List Entry). GoesOn left at all xs content nodes) (nil_from_length rs none) goes) (subst (λ (c : List ℕ). IsFolder c nodes folder) same made)
