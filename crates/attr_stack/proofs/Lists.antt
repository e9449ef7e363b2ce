-- Lists that are read from their end.
use Rattle.std.proofs.Common.{◌≡◌, ℕ, suc, ◌+◌, ◌<◌, Bool, true, false, cond, refl, List, [], ◌∷◌, ◌++◌, map, reverse, take, length, get_or, sym, ◌∙◌, ap, append_assoc, subst, arith}
use Rattle.std.proofs.lemmas.List.{reverse-append, map-append, take_more, get_or-map, get_or_default}
use Rattle.std.specs.List.{flat_map}
use denote.Ref.{Bor}
use Rattle.attr_line.specs.declared.file.Pair.{Pair}
use Rattle.attr_line.specs.declared.file.AttrRow.{AttrRow}
use Rattle.attr_line.specs.declared.file.AttrRow.TheVariants.{Rule, Macro}
use Rattle.wild_match.specs.Fits.{is_match}
use Rattle.attr_stack.specs.Rows.{row_pattern, row_rule, rows_pairs}
use Rattle.attr_stack.specs.declared.files.FileAt.{FileAt}
use Rattle.attr_stack.specs.Pairs.{row_pairs, pairs_before, pairs_ending}
use Rattle.attr_stack.specs.Seen.{from_end}

pub from_end-push : (pairs : List (Bor Pair)) (pair : Bor Pair) → from_end (pairs ++ pair ∷ []) ≡ pair.now ∷ from_end pairs
from_end-push pairs pair =
    ap reverse (map-append (λ (p : Bor Pair). p.now) pairs (pair ∷ [])) ∙ reverse-append (map (λ (p : Bor Pair). p.now) pairs) (pair.now ∷ [])

pub reverse-take : {X : Type 0} (xs : List X) (i : ℕ) (x : X) → x ≡ get_or xs i x → i < length xs → reverse (take (i + 1) xs) ≡ x ∷ reverse (take i xs)
reverse-take xs i x is within =
    ap reverse (take_more xs i x within) ∙ reverse-append (take i xs) (get_or xs i x ∷ []) ∙ ap (λ y. y ∷ reverse (take i xs)) (sym is)

-- one more item, whose part stands before those so far
pub flat_map-reverse-take : {X A : Type 0} (f : X → List A) (xs : List X) (i : ℕ) (x : X) (behind : List A) → x ≡ get_or xs i x → i < length xs
    → flat_map f (reverse (take (i + 1) xs)) ++ behind ≡ f x ++ (flat_map f (reverse (take i xs)) ++ behind)
flat_map-reverse-take f xs i x behind is within =
    ap (λ ys. flat_map f ys ++ behind) (reverse-take xs i x is within) ∙ append_assoc (f x) (flat_map f (reverse (take i xs))) behind

folders-apart : (files : List FileAt) (path : List ℕ) (place : ℕ) (behind : List Pair)
    → pairs_before files path (suc place) ++ behind ≡ pairs_ending files path place ++ (pairs_before files path place ++ behind)
folders-apart files path place behind = append_assoc (pairs_ending files path place) (pairs_before files path place) behind

-- the folder whose name ends at one place more stands before those so far
pub pairs_before-more : (files : List FileAt) (path : List ℕ) (place : ℕ) (behind : List Pair)
    → pairs_before files path (place + 1) ++ behind ≡ pairs_ending files path place ++ (pairs_before files path place ++ behind)
pairs_before-more files path place behind =
    let next : suc place ≡ place + 1 = omega arith in
    subst (λ n. pairs_before files path n ++ behind ≡ pairs_ending files path place ++ (pairs_before files path place ++ behind)) next (folders-apart files path place behind)

-- the same where nothing stands after them
pub last-first : {X A : Type 0} (f : X → List A) (xs : List X) (i : ℕ) (x : X) → x ≡ get_or xs i x → i < length xs
    → flat_map f (reverse (take (i + 1) xs)) ≡ f x ++ flat_map f (reverse (take i xs))
last-first f xs i x is within = ap (flat_map f) (reverse-take xs i x is within)

-- a row gives its pairs if its pattern matches, from last to first; a macro's line has none
pub row-gives : (row : AttrRow) (path : List ℕ) → row_pairs path row ≡ cond (is_match (row_pattern row) path) (reverse (row_rule row)) []
row-gives (Rule pattern pairs) path = refl
row-gives (Macro name pairs) path = either [] (is_match [] path)
  where
    either : (given : List Pair) (b : Bool) → given ≡ cond b given given
    either given true = refl
    either given false = refl

pub row-matched : (row : AttrRow) (path : List ℕ) → is_match (row_pattern row) path ≡ true → row_pairs path row ≡ reverse (row_rule row)
row-matched row path matches = row-gives row path ∙ ap (λ (b : Bool). cond b (reverse (row_rule row)) []) matches

pub row-passed : (row : AttrRow) (path : List ℕ) → is_match (row_pattern row) path ≡ false → row_pairs path row ≡ []
row-passed row path differs = row-gives row path ∙ ap (λ (b : Bool). cond b (reverse (row_rule row)) []) differs

-- the rows that are left end with one more
pub rows-last : (rows : List AttrRow) (path : List ℕ) (i : ℕ) (row : AttrRow) → i < length rows
    → rows_pairs path (take (i + 1) rows) ≡ row_pairs path (get_or rows i row) ++ rows_pairs path (take i rows)
rows-last rows path i row within =
    last-first (row_pairs path) rows i (get_or rows i row) (get_or_default rows i row (get_or rows i row) within) within

-- its pattern is the one at its place
pub row-tested : (rows : List AttrRow) (path : List ℕ) (i : ℕ) (row : AttrRow) (pattern : List ℕ) → pattern ≡ get_or (map row_pattern rows) i pattern → i < length rows
    → is_match pattern path ≡ is_match (row_pattern (get_or rows i row)) path
row-tested rows path i row pattern stands within =
    ap (λ (p : List ℕ). is_match p path) (stands ∙ get_or-map row_pattern rows i row pattern within)
