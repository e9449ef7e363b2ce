-- Keywords at the front of a text, and stretches in which none begins.
use Rattle.std.proofs.Common.{◌≡◌, ℕ, zero, suc, ◌+◌, ◌-◌, ◌<◌, ◌≤◌, Bool, true, false, ◌&&◌, ◌||◌, cond, nat_eq, List, [], ◌∷◌, ◌++◌, length, get_or, take, drop, codes, Option, Some, None, is_some, refl, sym, ◌∙◌, ap, append_assoc, inl, inr, arith}
use Rattle.std.proofs.lemmas.Bool.{eq-eqb, ne_eqb, cases_lt}
use Rattle.std.proofs.lemmas.Grind.{common_steps}
use Rattle.std.proofs.lemmas.List.{get_or-drop, length-drop, drop-drop, drop_all}
use Rattle.std.proofs.lemmas.List.Quantifiers.{position-Some}
use Rattle.std.specs.Cmp.Lexicographic.{pointwise}
use Rattle.std.specs.List.{position, starts_with}
use Rattle.ident_convert.specs.Ident.{is_dollar, is_middle, expanded_len, keyword_len, replaced, expanded_behind, expanded, has_keyword, IsFirstKeyword}

-- a keyword begins with `$`
no_keyword : (text : List ℕ) → (is_dollar (get_or text 0 0) ≡ true → ⊥) → keyword_len text ≡ None
unfolding keyword_len
no_keyword [] none = refl
no_keyword (b ∷ text) none = rw (ne_eqb 36 b (λ e. none (eq-eqb b 36 (sym e)))) refl

-- a text that begins with a word is at least as long
word_fits : (word text : List ℕ) → pointwise nat_eq word (take (length word) text) ≡ true → length word ≤ length text
word_fits [] text is = omega arith
word_fits (w ∷ word) [] is = cc
word_fits (w ∷ word) (b ∷ text) is = let later : length word ≤ length text = word_fits word text (both (nat_eq w b) (pointwise nat_eq word (take (length word) text)) is) in omega arith
  where
    both : (a b : Bool) → (a && b) ≡ true → b ≡ true
    both true b is = is
    both false b is = cc

expanded_within : (o : Option ℕ) (behind : List ℕ) (n : ℕ) → position is_dollar behind ≡ o → expanded_len o behind ≡ Some n → (0 < n) × (n ≤ length behind + 4)
expanded_within None behind n at is = cc
expanded_within (Some k) behind n at is = closed (is_middle (take k behind)) is
  where
    closed : (t : Bool) → cond t (Some (k + 5)) None ≡ Some n → (0 < n) × (n ≤ length behind + 4)
    closed true is =
        let low : k < length behind = (position-Some is_dollar behind k 0 at).0 in
        let same : k + 5 ≡ n = grind (arith, common_steps) in
        (omega arith, omega arith)
    closed false is = cc

len_cases : (plain old : Bool) (text : List ℕ) (n : ℕ) → starts_with nat_eq text (codes "$Id$") ≡ plain → starts_with nat_eq text (codes "$Id:") ≡ old
    → cond plain (Some 4) (cond old (expanded_len (position is_dollar (drop 4 text)) (drop 4 text)) None) ≡ Some n → (0 < n) × (n ≤ length text)
len_cases true old text n is_plain is_old is =
    let long : 4 ≤ length text = word_fits (codes "$Id$") text is_plain in
    let same : 4 ≡ n = grind (arith, common_steps) in
    (omega arith, omega arith)
len_cases false true text n is_plain is_old is =
    let long : 4 ≤ length text = word_fits (codes "$Id:") text is_old in
    let bounds : (0 < n) × (n ≤ length (drop 4 text) + 4) = expanded_within (position is_dollar (drop 4 text)) (drop 4 text) n refl is in
    (bounds.0, omega (arith, bounds.1, length-drop 4 text))
len_cases false false text n is_plain is_old is = cc

-- a keyword is within the text
keyword_len-within : (text : List ℕ) (n : ℕ) → keyword_len text ≡ Some n → (0 < n) × (n ≤ length text)
unfolding keyword_len
keyword_len-within text n is = len_cases (starts_with nat_eq text (codes "$Id$")) (starts_with nat_eq text (codes "$Id:")) text n refl refl is

-- the bytes of a keyword are skipped
expanded_behind-skip : (keyword : List ℕ) (n : ℕ) (text : List ℕ) → expanded_behind keyword n text ≡ expanded keyword (drop n text)
expanded_behind-skip keyword zero text = refl
expanded_behind-skip keyword (suc n) [] = refl
expanded_behind-skip keyword (suc n) (b ∷ text) = expanded_behind-skip keyword n text

pub expanded-keyword : (keyword text : List ℕ) (n : ℕ) → keyword_len text ≡ Some n → expanded keyword text ≡ keyword ++ expanded keyword (drop n text)
expanded-keyword keyword text zero is = absurd (omega (arith, (keyword_len-within text zero is).0))
expanded-keyword keyword [] (suc n) is = absurd (omega (arith, (keyword_len-within [] (suc n) is).1))
expanded-keyword keyword (b ∷ text) (suc n) is =
    let back : suc n - 1 ≡ n = omega arith in
    rw (is, back) (ap (λ (xs : List ℕ). keyword ++ xs) (expanded_behind-skip keyword n text))

has_keyword-here : (text : List ℕ) (n : ℕ) → keyword_len text ≡ Some n → has_keyword text ≡ true
has_keyword-here [] n is = absurd (omega (arith, (keyword_len-within [] n is).0, (keyword_len-within [] n is).1))
has_keyword-here (b ∷ text) n is = rw is refl

-- no keyword begins before n
abbrev pub IsQuiet : List ℕ → ℕ → Type 0
IsQuiet text n = (n ≤ length text) × ((k : ℕ) → k < n → keyword_len (drop k text) ≡ None)

expanded-quiet : (keyword text : List ℕ) (n : ℕ) → IsQuiet text n → expanded keyword text ≡ take n text ++ expanded keyword (drop n text)
expanded-quiet keyword text zero quiet = refl
expanded-quiet keyword [] (suc n) quiet = absurd (omega (arith, quiet.0))
expanded-quiet keyword (b ∷ text) (suc n) quiet =
    let here : keyword_len (b ∷ text) ≡ None = quiet.1 0 (omega arith) in
    let later : expanded keyword text ≡ take n text ++ expanded keyword (drop n text) = expanded-quiet keyword text n (omega (arith, quiet.0), λ k lt. quiet.1 (suc k) (omega arith)) in
    rw here (ap (λ (xs : List ℕ). b ∷ xs) later)

has_keyword-quiet : (text : List ℕ) (n : ℕ) → IsQuiet text n → has_keyword text ≡ has_keyword (drop n text)
has_keyword-quiet text zero quiet = refl
has_keyword-quiet [] (suc n) quiet = refl
has_keyword-quiet (b ∷ text) (suc n) quiet =
    let here : keyword_len (b ∷ text) ≡ None = quiet.1 0 (omega arith) in
    rw here (has_keyword-quiet text n (omega (arith, quiet.0), λ k lt. quiet.1 (suc k) (omega arith)))

-- none begins in a stretch without `$`
pub quiet-dollars : (text : List ℕ) (place n : ℕ) → IsQuiet text place → n ≤ length (drop place text)
    → ((k : ℕ) → 0 ≤ k → k < n → is_dollar (get_or (drop place text) k 0) ≡ true → ⊥) → IsQuiet text (place + n)
quiet-dollars text place n quiet le none = (
  omega (arith, quiet.0, length-drop place text),
  λ k lt. elim (cases_lt k place) [
    | inl before ↦ quiet.1 k before
    | inr behind ↦ no_keyword (drop k text) (λ is. none (k - place) (omega arith) (omega arith) (same k behind ∙ is))
  ],
)
  where
    same : (k : ℕ) → place ≤ k → is_dollar (get_or (drop place text) (k - place) 0) ≡ is_dollar (get_or (drop k text) 0 0)
    same k le =
        let at : place + (k - place) ≡ k + 0 = omega arith in
        ap is_dollar (get_or-drop place text (k - place) 0 ∙ ap (λ (i : ℕ). get_or text i 0) at ∙ sym (get_or-drop k text 0 0))

pub quiet-more : (text : List ℕ) (n : ℕ) → IsQuiet text n → n < length text → keyword_len (drop n text) ≡ None → IsQuiet text (n + 1)
quiet-more text n quiet lt here = (
  omega arith,
  λ k below. elim (cases_lt k n) [
    | inl before ↦ quiet.1 k before
    | inr behind ↦ let same : k ≡ n = omega arith in rw same here
  ],
)

pub has_keyword-nowhere : (text : List ℕ) (n : ℕ) → IsQuiet text n → length text ≤ n → has_keyword text ≡ false
has_keyword-nowhere text n quiet le = has_keyword-quiet text n quiet ∙ ap has_keyword (drop_all n text le)

pub first-is : (text : List ℕ) (start len : ℕ) → IsQuiet text start → keyword_len (drop start text) ≡ Some len → IsFirstKeyword text start len
first-is text start len quiet is =
    let bounds : (0 < len) × (len ≤ length (drop start text)) = keyword_len-within (drop start text) len is in
    record {
      has = has_keyword-quiet text start quiet ∙ has_keyword-here (drop start text) len is;
      some = bounds.0;
      within = omega (arith, bounds.1, quiet.0, length-drop start text);
      same = λ keyword. expanded-quiet keyword text start quiet
          ∙ ap (λ (xs : List ℕ). take start text ++ xs) (expanded-keyword keyword (drop start text) len is
          ∙ ap (λ (xs : List ℕ). keyword ++ expanded keyword xs) (drop-drop len start text));
    }

-- without a keyword, a text expands to itself
pub expanded-none : (keyword text : List ℕ) → has_keyword text ≡ false → expanded keyword text ≡ text
expanded-none keyword [] none = refl
expanded-none keyword (b ∷ text) none = kept (keyword_len (b ∷ text)) (λ later. expanded-none keyword text later) none
  where
    kept : (o : Option ℕ) → (has_keyword text ≡ false → expanded keyword text ≡ text) → (is_some o || has_keyword text) ≡ false
        → replaced o keyword b (λ skip. expanded_behind keyword skip text) ≡ b ∷ text
    kept None same later = ap (λ (xs : List ℕ). b ∷ xs) (same later)
    kept (Some n) same later = cc

-- one keyword more: what is done, the bytes before it and the keyword's new text, and what follows it
pub expanded-one_more : (keyword content done : List ℕ) (place start len : ℕ) → place ≤ length content → IsFirstKeyword (drop place content) start len
    → expanded keyword content ≡ done ++ expanded keyword (drop place content)
    → (place + (start + len) ≤ length content)
    × (expanded keyword content ≡ ((done ++ take start (drop place content)) ++ keyword) ++ expanded keyword (drop (place + (start + len)) content))
expanded-one_more keyword content done place start len le first same =
    let plain : List ℕ = take start (drop place content) in
    let behind : List ℕ = expanded keyword (drop (place + (start + len)) content) in
    let rest : expanded keyword (drop place content) ≡ plain ++ (keyword ++ behind) =
    first.same keyword ∙ ap (λ (xs : List ℕ). plain ++ (keyword ++ expanded keyword xs)) (drop-drop (start + len) place content) in (
      omega (arith, first.within, length-drop place content),
      same ∙ ap (λ (xs : List ℕ). done ++ xs) rest ∙ sym (append_assoc done plain (keyword ++ behind)) ∙ sym (append_assoc (done ++ plain) keyword behind),
    )
