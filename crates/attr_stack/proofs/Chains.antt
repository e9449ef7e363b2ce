-- The files that reach the paths of a folder.
use Rattle.std.proofs.Common.{◌≡◌, ℕ, zero, suc, ◌+◌, ◌-◌, ◌<◌, ◌≤◌, Bool, true, false, cond, ◌&&◌, not, List, [], ◌∷◌, ◌++◌, length, take, drop, reverse, get_or, eqb, nat_lt, Option, Some, None, refl, sym, ◌∙◌, ap, arith, append_assoc}
use Rattle.std.proofs.lemmas.Bool.{or_parts, lt-ltb, le-ltb}
use Rattle.std.proofs.lemmas.Grind.{common_steps}
use Rattle.std.proofs.lemmas.List.{append-nil, reverse-append, length-take-le, drop_all, take_at, drop_at, take-append-drop}
use Rattle.std.specs.List.{flat_map, find, list_any}
use Rattle.std.specs.Prelude.{slice_get}
use Rattle.std.specs.Option.{option_map}
use Rattle.std.specs.Str.{bytes_eq}
use Rattle.std.specs.BTreeMap as tree
use Rattle.std.specs.BTreeMap.{BTreeMap}
use Rattle.std.specs.Cmp.Lexicographic.{slice_cmp}
use Rattle.std.specs.Ordering.{nat_cmp}
use Rattle.std.specs.Global.{Vec}
use Rattle.attr_line.specs.declared.file.Pair.{Pair}
use Rattle.attr_line.specs.declared.file.AttrRow.{AttrRow}
use Rattle.attr_line.specs.declared.file.AttrRow.TheVariants.{Rule, Macro}
use Rattle.attr_line.specs.declared.file.AttrFile.{AttrFile}
use Rattle.wild_match.specs.Fits.{is_slash, is_match}
use Rattle.attr_stack.specs.declared.files.FileAt.{FileAt}
use Rattle.attr_stack.specs.declared.chain.Level.{Level}
use Rattle.attr_stack.specs.declared.chain.Chain.{Chain}
use Rattle.attr_stack.specs.Pairs.{row_pairs, pairs_inside, folder_pairs, file_of, ends_folder, pairs_ending, pairs_before}
use Rattle.attr_stack.specs.Levels.{place_from, place_in, file_in, ArePlaces, levels_at, levels_ending, levels_before, levels_above, level_pairs, IsChain, StandsIn}
use Rattle.attr_stack.specs.Rows.{row_pattern, row_rule}
use Rattle.attr_stack.proofs.Maps.{owned-updates}

-- ---- rows by their patterns

-- a row gives its pairs where its pattern matches
pub row_gives : (path : List ℕ) (row : AttrRow) (b : Bool) → b ≡ is_match (row_pattern row) path → cond b (reverse (row_rule row)) [] ≡ row_pairs path row
row_gives path (Rule pattern pairs) b is = ap (λ (c : Bool). cond c (reverse pairs) []) is
row_gives path (Macro name pairs) true is = refl
row_gives path (Macro name pairs) false is = refl

-- ---- the place of a folder's file

here : (files rest : List FileAt) (k : ℕ) (at : FileAt) → drop k files ≡ at ∷ rest → slice_get files k ≡ Some at
here [] rest zero at is = absurd (cc)
here [] rest (suc k) at is = absurd (cc)
here (f ∷ files) rest zero at is = ap slice_head is
  where
    slice_head : List FileAt → Option FileAt
    slice_head xs = slice_get xs 0
here (f ∷ files) rest (suc k) at is = here files rest k at is

behind_it : (files rest : List FileAt) (k : ℕ) (at : FileAt) → drop k files ≡ at ∷ rest → drop (suc k) files ≡ rest
behind_it [] rest zero at is = absurd (cc)
behind_it [] rest (suc k) at is = absurd (cc)
behind_it (f ∷ files) rest zero at is = ap (λ (xs : List FileAt). drop 1 xs) is
behind_it (f ∷ files) rest (suc k) at is = behind_it files rest k at is

found_from : (files rest : List FileAt) (k : ℕ) (folder : List ℕ) → drop k files ≡ rest
    → option_map (λ (at : FileAt). at.file) (find (λ (at : FileAt). bytes_eq at.folder folder) rest) ≡ file_in files (place_from k rest folder)
found_from files [] k folder is = refl
found_from files (at ∷ rest) k folder is =
    at_either (bytes_eq at.folder folder) (ap (option_map (λ (at : FileAt). at.file)) (sym (here files rest k at is))) (found_from files rest (suc k) folder (behind_it files rest k at is))
  where
    at_either : (b : Bool) → Some at.file ≡ option_map (λ (at : FileAt). at.file) (slice_get files k)
        → option_map (λ (at : FileAt). at.file) (find (λ (at : FileAt). bytes_eq at.folder folder) rest) ≡ file_in files (place_from (suc k) rest folder)
        → option_map (λ (at : FileAt). at.file) (cond b (Some at) (find (λ (at : FileAt). bytes_eq at.folder folder) rest)) ≡ file_in files (cond b (Some k) (place_from (suc k) rest folder))
    at_either true first later = first
    at_either false first later = later

-- the file of a folder stands where a map has its place
pub file_found : (m : BTreeMap (Vec ℕ) ℕ) (files : List FileAt) (folder : List ℕ) → ArePlaces m files → file_in files (place_in m folder) ≡ file_of files folder
file_found m files folder are = ap (file_in files) (are folder) ∙ sym (found_from files files 0 folder refl)

-- what a folder gives is what its level gives
folder_gives : (path : List ℕ) (start : ℕ) (file : Option AttrFile) → pairs_inside (drop start path) file ≡ flat_map (level_pairs path) (levels_at start file)
folder_gives path start None = refl
folder_gives path start (Some file) = sym (append-nil (level_pairs path (record { start = start; file = file })))

flat_append : (f : Level → List Pair) (xs ys : List Level) → flat_map f (xs ++ ys) ≡ flat_map f xs ++ flat_map f ys
flat_append f [] ys = refl
flat_append f (x ∷ xs) ys = ap (λ (zs : List Pair). f x ++ zs) (flat_append f xs ys) ∙ sym (append_assoc (f x) (flat_map f xs) (flat_map f ys))

ending_gives : (files : List FileAt) (path : List ℕ) (place : ℕ) → pairs_ending files path place ≡ flat_map (level_pairs path) (levels_ending files path place)
ending_gives files path place = at (ends_folder path place) (folder_gives path (place + 1) (file_of files (take place path)))
  where
    at : (b : Bool) → folder_pairs files (take place path) (drop (place + 1) path) ≡ flat_map (level_pairs path) (levels_at (place + 1) (file_of files (take place path)))
        → cond b (folder_pairs files (take place path) (drop (place + 1) path)) [] ≡ flat_map (level_pairs path) (cond b (levels_at (place + 1) (file_of files (take place path))) [])
    at true is = is
    at false is = refl

pub before_gives : (files : List FileAt) (path : List ℕ) (place : ℕ) → pairs_before files path place ≡ flat_map (level_pairs path) (levels_before files path place)
before_gives files path zero = folder_gives path 0 (file_of files [])
before_gives files path (suc place) =
    ap (λ (ps : List Pair). ps ++ pairs_before files path place) (ending_gives files path place)
    ∙ ap (λ (ps : List Pair). flat_map (level_pairs path) (levels_ending files path place) ++ ps) (before_gives files path place)
    ∙ sym (flat_append (level_pairs path) (levels_ending files path place) (levels_before files path place))

-- ---- a path and its folder

no_slash_at : (name : List ℕ) (k : ℕ) → list_any is_slash name ≡ false → eqb (get_or name k 0) 47 ≡ false
no_slash_at [] k none = refl
no_slash_at (b ∷ name) zero none = (or_parts (is_slash b) (list_any is_slash name) none).0
no_slash_at (b ∷ name) (suc k) none = no_slash_at name k (or_parts (is_slash b) (list_any is_slash name) none).1

read_behind : (folder name : List ℕ) (k : ℕ) → get_or (folder ++ name) (length folder + k) 0 ≡ get_or name k 0
read_behind [] name k = let same : 0 + k ≡ k = omega arith in ap (λ (n : ℕ). get_or name n 0) same
read_behind (b ∷ folder) name k =
    let next : length (b ∷ folder) + k ≡ suc (length folder + k) = omega arith in
    ap (λ (n : ℕ). get_or (b ∷ folder ++ name) n 0) next ∙ read_behind folder name k

read_before : (folder name : List ℕ) (k : ℕ) → k < length folder → get_or (folder ++ name) k 0 ≡ get_or folder k 0
read_before [] name k within = absurd (omega (arith, within))
read_before (b ∷ folder) name zero within = refl
read_before (b ∷ folder) name (suc k) within = read_before folder name k (omega (arith, within))

front_of : (folder name : List ℕ) (k : ℕ) → k ≤ length folder → take k (folder ++ name) ≡ take k folder
front_of folder name zero within = refl
front_of [] name (suc k) within = absurd (omega (arith, within))
front_of (b ∷ folder) name (suc k) within = ap (λ (xs : List ℕ). b ∷ xs) (front_of folder name k (omega (arith, within)))

none_behind : (files : List FileAt) (folder name : List ℕ) (k : ℕ) → list_any is_slash name ≡ false → levels_ending files (folder ++ name) (length folder + k) ≡ []
none_behind files folder name k none =
    at (eqb (length folder + k) 0) (eqb (get_or (folder ++ name) (length folder + k) 0) 47) (ap (λ (b : ℕ). eqb b 47) (read_behind folder name k) ∙ no_slash_at name k none)
  where
    at : (a b : Bool) → b ≡ false → cond (not a && b) (levels_at (length folder + k + 1) (file_of files (take (length folder + k) (folder ++ name)))) [] ≡ []
    at true false is = refl
    at false false is = refl
    at a true is = absurd (cc)

levels_behind : (files : List FileAt) (folder name : List ℕ) (k : ℕ) → list_any is_slash name ≡ false → levels_before files (folder ++ name) (length folder + k) ≡ levels_before files (folder ++ name) (length folder)
levels_behind files folder name zero none = let same : length folder + 0 ≡ length folder = omega arith in ap (levels_before files (folder ++ name)) same
levels_behind files folder name (suc k) none =
    let next : length folder + suc k ≡ suc (length folder + k) = omega arith in
    ap (levels_before files (folder ++ name)) next
    ∙ ap (λ (ls : List Level). ls ++ levels_before files (folder ++ name) (length folder + k)) (none_behind files folder name k none)
    ∙ levels_behind files folder name k none

levels_within : (files : List FileAt) (folder name : List ℕ) (n : ℕ) → n ≤ length folder → levels_before files (folder ++ name) n ≡ levels_before files folder n
levels_within files folder name zero within = refl
levels_within files folder name (suc n) within =
    ap (λ (ls : List Level). ls ++ levels_before files (folder ++ name) n)
    (ap (λ (b : ℕ). cond (not (eqb n 0) && eqb b 47) (levels_at (n + 1) (file_of files (take n (folder ++ name)))) []) (read_before folder name n (omega (arith, within)))
    ∙ ap (λ (xs : List ℕ). cond (not (eqb n 0) && eqb (get_or folder n 0) 47) (levels_at (n + 1) (file_of files xs)) []) (front_of folder name n (omega (arith, within))))
    ∙ ap (λ (ls : List Level). levels_ending files folder n ++ ls) (levels_within files folder name n (omega (arith, within)))

-- the files of a folder are those of its paths
pub folder_levels : (files : List FileAt) (path folder : List ℕ) → StandsIn path folder → levels_before files path (length path) ≡ levels_before files folder (length folder)
folder_levels files path folder stands =
    let size : length (folder ++ stands.name) ≡ length folder + length stands.name = grind (arith, common_steps) in
    ap (λ (p : List ℕ). levels_before files p (length p)) stands.is
    ∙ ap (levels_before files (folder ++ stands.name)) size
    ∙ levels_behind files folder stands.name (length stands.name) stands.no_slash
    ∙ levels_within files folder stands.name (length folder) (omega arith)

-- what a chain gives to a path of its folder
pub chain_gives : (files : List FileAt) (chain : Chain) (path : List ℕ) → IsChain files chain → StandsIn path chain.folder.items
    → flat_map (level_pairs path) (reverse chain.levels.items) ≡ pairs_before files path (length path)
chain_gives files chain path is stands =
    ap (flat_map (level_pairs path)) (is ∙ sym (folder_levels files path chain.folder.items stands)) ∙ sym (before_gives files path (length path))

-- ---- from folder to folder

-- the first bytes of a text name the same folders
pub levels_front : (files : List FileAt) (text : List ℕ) (n : ℕ) → n ≤ length text → levels_before files text n ≡ levels_before files (take n text) (length (take n text))
levels_front files text n within =
    let size : length (take n text) ≡ n = length-take-le n text within in
    ap (λ (t : List ℕ). levels_before files t n) (sym (take-append-drop n text))
    ∙ levels_within files (take n text) (drop n text) n (omega (arith, size))
    ∙ ap (levels_before files (take n text)) (sym size)

at_above : (len start : ℕ) (file : Option AttrFile) (rest : List Level) → start ≤ len → levels_above len rest ≡ rest → levels_above len (levels_at start file ++ rest) ≡ levels_at start file ++ rest
at_above len start None rest within is = is
at_above len start (Some file) rest within is =
    let stays : nat_lt len start ≡ false = le-ltb len start within in
    ap (λ (c : Bool). cond c (levels_above len rest) (record { start = start; file = file } ∷ rest)) stays

at_below : (len start : ℕ) (file : Option AttrFile) (rest : List Level) → len < start → levels_above len (levels_at start file ++ rest) ≡ levels_above len rest
at_below len start None rest within = refl
at_below len start (Some file) rest within =
    let goes : nat_lt len start ≡ true = lt-ltb len start within in
    ap (λ (c : Bool). cond c (levels_above len rest) (record { start = start; file = file } ∷ rest)) goes

-- the folders that end within the first bytes stay
all_stay : (files : List FileAt) (text : List ℕ) (n len : ℕ) → n ≤ len → levels_above len (levels_before files text n) ≡ levels_before files text n
all_stay files text zero len within = of_top (file_of files [])
  where
    of_top : (file : Option AttrFile) → levels_above len (levels_at 0 file) ≡ levels_at 0 file
    of_top None = refl
    of_top (Some file) = ap (λ (c : Bool). cond c [] (record { start = 0; file = file } ∷ [])) (le-ltb len 0 (omega arith))
all_stay files text (suc n) len within = at (ends_folder text n) (all_stay files text n len (omega (arith, within)))
  where
    at : (b : Bool) → levels_above len (levels_before files text n) ≡ levels_before files text n
        → levels_above len (cond b (levels_at (n + 1) (file_of files (take n text))) [] ++ levels_before files text n) ≡ cond b (levels_at (n + 1) (file_of files (take n text))) [] ++ levels_before files text n
    at true rest = at_above len (n + 1) (file_of files (take n text)) (levels_before files text n) (omega (arith, within)) rest
    at false rest = rest

-- the folders that end behind the first bytes are left
pub others_go : (files : List FileAt) (text : List ℕ) (k len : ℕ) → levels_above len (levels_before files text (len + k)) ≡ levels_before files text len
others_go files text zero len =
    let same : len + 0 ≡ len = omega arith in
    ap (λ (n : ℕ). levels_above len (levels_before files text n)) same ∙ all_stay files text len len (omega arith)
others_go files text (suc k) len =
    let next : len + suc k ≡ suc (len + k) = omega arith in
    ap (λ (n : ℕ). levels_above len (levels_before files text n)) next ∙ at (ends_folder text (len + k)) ∙ others_go files text k len
  where
    at : (b : Bool) → levels_above len (cond b (levels_at (len + k + 1) (file_of files (take (len + k) text))) [] ++ levels_before files text (len + k)) ≡ levels_above len (levels_before files text (len + k))
    at true = at_below len (len + k + 1) (file_of files (take (len + k) text)) (levels_before files text (len + k)) (omega arith)
    at false = refl

-- a chain that leaves its folder for what the first bytes name
pub left_chain : (files : List FileAt) (old new : Chain) (count len : ℕ) → len ≤ length old.folder.items → new.folder.items ≡ take len old.folder.items → new.levels.items ≡ take count old.levels.items
    → reverse (take count old.levels.items) ≡ levels_above len (reverse old.levels.items) → IsChain files old → IsChain files new
left_chain files old new count len within folder levels counted is =
    let text = old.folder.items in
    let size : len + (length text - len) ≡ length text = omega (arith, within) in
    ap reverse levels ∙ counted
    ∙ ap (levels_above len) (is ∙ ap (levels_before files text) (sym size))
    ∙ others_go files text (length text - len) len
    ∙ levels_front files text len within
    ∙ ap (λ (t : List ℕ). levels_before files t (length t)) (sym folder)

-- a chain that goes down
pub lower_chain : (files : List FileAt) (old new : Chain) (more : List Level) (folder : List ℕ) → length old.folder.items ≤ length folder → old.folder.items ≡ take (length old.folder.items) folder
    → new.folder.items ≡ folder → new.levels.items ≡ old.levels.items ++ more
    → reverse more ++ levels_before files folder (length old.folder.items) ≡ levels_before files folder (length folder) → IsChain files old → IsChain files new
lower_chain files old new more folder within front named levels down is =
    ap reverse levels ∙ reverse-append old.levels.items more
    ∙ ap (λ (ls : List Level). reverse more ++ ls) (is ∙ ap (λ (t : List ℕ). levels_before files t (length t)) front ∙ sym (levels_front files folder (length old.folder.items) within))
    ∙ down
    ∙ ap (λ (t : List ℕ). levels_before files t (length t)) (sym named)

-- ---- the places of all folders

no_place : (m : BTreeMap (Vec ℕ) ℕ) (folder : List ℕ) → m.entries ≡ [] → place_in m folder ≡ None
no_place m folder empty = rw empty refl

pub places_none : (m : BTreeMap (Vec ℕ) ℕ) (files : List FileAt) → m.entries ≡ [] → (folder : List ℕ) → place_in m folder ≡ place_from (length files) (drop (length files) files) folder
places_none m files empty folder =
    no_place m folder empty
    ∙ ap (λ (fs : List FileAt). place_from (length files) fs folder) (sym (drop_all (length files) files (omega arith)))

whole : (files rest before : List FileAt) (at : FileAt) → rest ≡ take (length rest) files → rest ≡ before ++ at ∷ [] → files ≡ before ++ (at ∷ drop (length rest) files)
whole files rest before at front is =
    sym (take-append-drop (length rest) files) ∙ ap (λ (fs : List FileAt). fs ++ drop (length rest) files) (sym front ∙ is) ∙ append_assoc before (at ∷ []) (drop (length rest) files)

pub rest_more : (files rest before : List FileAt) (at : FileAt) → rest ≡ take (length rest) files → rest ≡ before ++ at ∷ [] → before ≡ take (length before) files
rest_more files rest before at front is =
    sym (ap (take (length before)) (whole files rest before at front is) ∙ take_at before (at ∷ drop (length rest) files) (length before) refl)

left : (files rest before : List FileAt) (at : FileAt) → rest ≡ take (length rest) files → rest ≡ before ++ at ∷ [] → drop (length before) files ≡ at ∷ drop (length rest) files
left files rest before at front is = ap (drop (length before)) (whole files rest before at front is) ∙ drop_at before (at ∷ drop (length rest) files) (length before) refl

pub places_more : (files rest before : List FileAt) (at : FileAt) (m n : BTreeMap (Vec ℕ) ℕ) (key : List ℕ) (place : ℕ) → rest ≡ take (length rest) files → rest ≡ before ++ at ∷ [] → length before + 1 ≡ length rest
    → key ≡ at.folder → place ≡ length before → tree.UpdatesBy (λ (x y : Vec ℕ). slice_cmp nat_cmp x.items y.items) (λ (k : Vec ℕ). slice_cmp nat_cmp key k.items) m n (Some place)
    → ((folder : List ℕ) → place_in m folder ≡ place_from (length rest) (drop (length rest) files) folder)
    → (folder : List ℕ) → place_in n folder ≡ place_from (length before) (drop (length before) files) folder
places_more files rest before at m n key place front is long named stands updates was folder =
    let tail = drop (length rest) files in
    let more : length rest ≡ suc (length before) = omega (arith, long) in
    owned-updates key m n (Some place) updates folder
    ∙ ap (λ (k : List ℕ). cond (bytes_eq k folder) (Some place) (place_in m folder)) named
    ∙ ap (λ (p : ℕ). cond (bytes_eq at.folder folder) (Some p) (place_in m folder)) stands
    ∙ ap (λ (o : Option ℕ). cond (bytes_eq at.folder folder) (Some (length before)) o) (was folder ∙ ap (λ (k : ℕ). place_from k tail folder) more)
    ∙ ap (λ (fs : List FileAt). place_from (length before) fs folder) (sym (left files rest before at front is))
