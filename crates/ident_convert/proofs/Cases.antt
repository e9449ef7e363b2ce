-- A text that begins with a keyword, and the length that is read there.
use Rattle.std.proofs.Common.{◌≡◌, ℕ, zero, suc, ◌+◌, ◌<◌, Bool, true, false, ◌&&◌, ◌||◌, cond, nat_eq, List, [], ◌∷◌, ◌++◌, length, get_or, take, drop, codes, Option, Some, None, refl, sym, subst, ◌∙◌, ap, inl, inr, arith}
use Rattle.std.proofs.Math.Seq.{drop-cons}
use Rattle.std.proofs.lemmas.Bool.{lt-ltb}
use Rattle.std.proofs.lemmas.Grind.{common_steps}
use Rattle.std.proofs.lemmas.List.{length-append, take-append-drop, take_at, drop_at, drop-drop}
use Rattle.std.proofs.lemmas.List.Quantifiers.{position-Some}
use Rattle.std.specs.Cmp.Lexicographic.{pointwise}
use Rattle.std.specs.List.{list_any, position, position_or_len, starts_with}
use Rattle.ident_convert.specs.Ident.{is_dollar, is_middle, expanded_len, keyword_len, replaced, expanded_behind, expanded, BeginsWithKeyword}
use Rattle.ident_convert.proofs.Keywords.{expanded-keyword}

-- the `$` after a middle is the first
behind_middle : (middle behind : List ℕ) → list_any is_dollar middle ≡ false → position_or_len is_dollar (middle ++ 36 ∷ behind) ≡ length middle
behind_middle [] behind none = refl
behind_middle (b ∷ middle) behind none = step (is_dollar b) refl none (behind_middle middle behind)
  where
    step : (t : Bool) → is_dollar b ≡ t → (t || list_any is_dollar middle) ≡ false
        → (list_any is_dollar middle ≡ false → position_or_len is_dollar (middle ++ 36 ∷ behind) ≡ length middle)
        → position_or_len is_dollar (b ∷ (middle ++ 36 ∷ behind)) ≡ suc (length middle)
    step true is none later = cc
    step false is none later = rw (is, later none) (omega arith)

len-expanded : (middle behind : List ℕ) → list_any is_dollar middle ≡ false → is_middle middle ≡ true
    → expanded_len (position is_dollar (middle ++ 36 ∷ behind)) (middle ++ 36 ∷ behind) ≡ Some (length middle + 5)
len-expanded middle behind none right =
    let lt : length middle < length (middle ++ 36 ∷ behind) = omega (arith, length-append middle (36 ∷ behind)) in
    let at : position is_dollar (middle ++ 36 ∷ behind) ≡ Some (length middle) = rw (behind_middle middle behind none, lt-ltb (length middle) (length (middle ++ 36 ∷ behind)) lt) refl in
    rw (at, take_at middle (36 ∷ behind) (length middle) refl, right) refl

keyword_len-plain : (behind : List ℕ) → keyword_len (codes "$Id$" ++ behind) ≡ Some 4
unfolding keyword_len
keyword_len-plain behind = refl

keyword_len-expanded : (middle behind : List ℕ) → list_any is_dollar middle ≡ false → is_middle middle ≡ true
    → keyword_len (codes "$Id:" ++ (middle ++ 36 ∷ behind)) ≡ Some (length middle + 5)
unfolding keyword_len
keyword_len-expanded middle behind none right = len-expanded middle behind none right

pub expanded-begins : (text behind keyword : List ℕ) → BeginsWithKeyword text behind → expanded keyword text ≡ keyword ++ expanded keyword behind
expanded-begins text behind keyword (inl is) =
    ap (expanded keyword) is ∙ expanded-keyword keyword (codes "$Id$" ++ behind) 4 (keyword_len-plain behind)
expanded-begins text behind keyword (inr begins) =
    let middle : List ℕ = begins.0 in
    let rest : List ℕ = middle ++ 36 ∷ behind in
    let next : length middle + 5 ≡ 4 + (length middle + 1) = omega arith in
    let gone : drop (length middle + 5) (codes "$Id:" ++ rest) ≡ behind =
    ap (λ (n : ℕ). drop n (codes "$Id:" ++ rest)) next ∙ sym (drop-drop (length middle + 1) 4 (codes "$Id:" ++ rest))
    ∙ sym (drop-drop 1 (length middle) rest) ∙ ap (drop 1) (drop_at middle (36 ∷ behind) (length middle) refl) in
    ap (expanded keyword) begins.1 ∙ expanded-keyword keyword (codes "$Id:" ++ rest) (length middle + 5) (keyword_len-expanded middle behind begins.2 begins.3)
    ∙ ap (λ (xs : List ℕ). keyword ++ expanded keyword xs) gone

-- a text that begins with a word is the word and the rest
begins_same : (word text : List ℕ) → pointwise nat_eq word (take (length word) text) ≡ true → text ≡ word ++ drop (length word) text
begins_same [] text is = refl
begins_same (w ∷ word) [] is = cc
begins_same (w ∷ word) (b ∷ text) is = step (nat_eq w b) refl is (begins_same word text)
  where
    step : (t : Bool) → nat_eq w b ≡ t → (t && pointwise nat_eq word (take (length word) text)) ≡ true
        → (pointwise nat_eq word (take (length word) text) ≡ true → text ≡ word ++ drop (length word) text)
        → b ∷ text ≡ (w ∷ word) ++ drop (length (w ∷ word)) (b ∷ text)
    step true same is later = let equal : b ≡ w = grind (arith, common_steps) in rw equal (ap (λ (xs : List ℕ). w ∷ xs) (later is))
    step false same is later = cc

none_before : (xs : List ℕ) (k : ℕ) → ((j : ℕ) → j < k → is_dollar (get_or xs j 0) ≡ false) → list_any is_dollar (take k xs) ≡ false
none_before xs zero none = refl
none_before [] (suc k) none = refl
none_before (x ∷ xs) (suc k) none = rw (none 0 (omega arith)) (none_before xs k (λ j lt. none (suc j) (omega arith)))

begins_expanded : (o : Option ℕ) (rest : List ℕ) (n : ℕ) → position is_dollar rest ≡ o → expanded_len o rest ≡ Some n
    → (behind : List ℕ) × BeginsWithKeyword (codes "$Id:" ++ rest) behind
begins_expanded None rest n at is = cc
begins_expanded (Some k) rest n at is = closed (is_middle (take k rest)) refl is
  where
    closed : (t : Bool) → is_middle (take k rest) ≡ t → cond t (Some (k + 5)) None ≡ Some n → (behind : List ℕ) × BeginsWithKeyword (codes "$Id:" ++ rest) behind
    closed false right is = cc
    closed true right is =
        let found = position-Some is_dollar rest k 0 at in
        let dollar : get_or rest k 0 ≡ 36 = grind (arith, common_steps, found.1) in
        let split : rest ≡ take k rest ++ 36 ∷ drop (suc k) rest =
        sym (take-append-drop k rest) ∙ ap (λ (xs : List ℕ). take k rest ++ xs) (drop-cons rest k 0 found.0 ∙ ap (λ (b : ℕ). b ∷ drop (suc k) rest) dollar) in
        (drop (suc k) rest, inr (take k rest, ap (λ (xs : List ℕ). codes "$Id:" ++ xs) split, none_before rest k found.2, right))

begins_cases : (plain old : Bool) (text : List ℕ) (n : ℕ) → starts_with nat_eq text (codes "$Id$") ≡ plain → starts_with nat_eq text (codes "$Id:") ≡ old
    → cond plain (Some 4) (cond old (expanded_len (position is_dollar (drop 4 text)) (drop 4 text)) None) ≡ Some n → (behind : List ℕ) × BeginsWithKeyword text behind
begins_cases true old text n is_plain is_old is = (drop 4 text, inl (begins_same (codes "$Id$") text is_plain))
begins_cases false true text n is_plain is_old is =
    let whole : text ≡ codes "$Id:" ++ drop 4 text = begins_same (codes "$Id:") text is_old in
    let begins = begins_expanded (position is_dollar (drop 4 text)) (drop 4 text) n refl is in
    let P : List ℕ → Type 0 = λ xs. BeginsWithKeyword xs begins.0 in
    (begins.0, subst P (sym whole) begins.1)
begins_cases false false text n is_plain is_old is = cc

begins-keyword : (text : List ℕ) (n : ℕ) → keyword_len text ≡ Some n → (behind : List ℕ) × BeginsWithKeyword text behind
unfolding keyword_len
begins-keyword text n is = begins_cases (starts_with nat_eq text (codes "$Id$")) (starts_with nat_eq text (codes "$Id:")) text n refl refl is

pub expanded-other : (b : ℕ) (text keyword : List ℕ) → ((behind : List ℕ) → ¬ BeginsWithKeyword (b ∷ text) behind) → expanded keyword (b ∷ text) ≡ b ∷ expanded keyword text
expanded-other b text keyword none = kept (keyword_len (b ∷ text)) refl
  where
    kept : (o : Option ℕ) → keyword_len (b ∷ text) ≡ o → replaced o keyword b (λ skip. expanded_behind keyword skip text) ≡ b ∷ expanded keyword text
    kept None is = refl
    kept (Some n) is = let begins = begins-keyword (b ∷ text) n is in absurd (none begins.0 begins.1)
