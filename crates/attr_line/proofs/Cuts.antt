-- A text's first line and its first word.
use Rattle.std.proofs.Common.{◌≡◌, ℕ, suc, ◌+◌, ◌<◌, ◌≤◌, Bool, true, false, not, cond, ltb, List, [], ◌∷◌, length, get_or, take, drop, refl, sym, ap, ◌∙◌, inl, inr, arith, length-drop, drop-cons}
use Rattle.std.proofs.lemmas.Grind.{common_steps}
use Rattle.std.proofs.lemmas.Bool.{cases_lt, lt-ltb}
use Rattle.std.proofs.lemmas.List.{drop_all, take_all}
use Rattle.std.proofs.lemmas.List.Sums.{fails_before_first, passes_at_first}
use Rattle.std.proofs.lemmas.List.Splits.{slice_split_none, slice_split_first, slice_split-cons_yes}
use Rattle.std.specs.List.{filter, slice_split, position_or_len}
use Rattle.byte_path.specs.Front.{begins}
use Rattle.attr_line.specs.Text.{is_gap, ends_gaps, behind_gaps, words}

-- ---- words

abbrev kept : List (List ℕ) → List (List ℕ)
kept parts = filter (λ word. ltb 0 (length word)) parts

words-gap : (b : ℕ) (text : List ℕ) → is_gap b ≡ true → words (b ∷ text) ≡ words text
words-gap b text gap = ap kept (slice_split-cons_yes is_gap b text gap)

-- the gaps at the front have no word in them, and they end
pub record IsBehindGaps (text rest : List ℕ) : Type 0 where
  pub same : words text ≡ words rest
  pub ended : begins is_gap rest ≡ false
  pub within : length rest ≤ length text

behind_one : (gap : Bool) (b : ℕ) (text : List ℕ) → is_gap b ≡ gap → IsBehindGaps text (behind_gaps text) → IsBehindGaps (b ∷ text) (drop (cond (not (not gap)) (1 + position_or_len ends_gaps text) 0) (b ∷ text))
behind_one true b text gap later =
    let next : 1 + position_or_len ends_gaps text ≡ suc (position_or_len ends_gaps text) = omega arith in
    rw next (record { same = words-gap b text gap ∙ later.same; ended = later.ended; within = omega (arith, later.within) })
behind_one false b text gap later = record { same = refl; ended = gap; within = omega arith }

pub behind : (text : List ℕ) → IsBehindGaps text (behind_gaps text)
behind [] = record { same = refl; ended = refl; within = omega arith }
behind (b ∷ text) = behind_one (is_gap b) b text refl (behind text)

some_len : (gap : Bool) (n : ℕ) → gap ≡ false → 0 < cond (not gap) (1 + n) 0
some_len true n other = absurd (cc)
some_len false n other = omega arith

word_some : (text : List ℕ) → 0 < length text → begins is_gap text ≡ false → 0 < position_or_len is_gap text
word_some [] some other = absurd (omega arith)
word_some (b ∷ text) some other = some_len (is_gap b) (position_or_len is_gap text) other

kept-cons : (word : List ℕ) (parts : List (List ℕ)) → 0 < length word → kept (word ∷ parts) ≡ word ∷ kept parts
kept-cons word parts some = rw (lt-ltb 0 (length word) some) refl

pub first_word : (text : List ℕ) → 0 < length text → begins is_gap text ≡ false → words text ≡ take (position_or_len is_gap text) text ∷ words (drop (position_or_len is_gap text) text)
first_word text some other =
    let n : ℕ = position_or_len is_gap text in
    let low : 0 < n = word_some text some other in
    elim (cases_lt n (length text)) [
      | inl less ↦
          let word : 0 < length (take n text) = grind (arith, common_steps) in
          let next : suc n ≡ n + 1 = omega arith in
          let gap : drop n text ≡ get_or text n 0 ∷ drop (n + 1) text = drop-cons text n 0 less ∙ ap (λ (k : ℕ). get_or text n 0 ∷ drop k text) next in
          ap kept (slice_split_first is_gap text 0 less)
          ∙ kept-cons (take n text) (slice_split is_gap (drop (n + 1) text)) word
          ∙ ap (λ (ws : List (List ℕ)). take n text ∷ ws) (sym (words-gap (get_or text n 0) (drop (n + 1) text) (passes_at_first is_gap text 0 less)))
          ∙ ap (λ (xs : List ℕ). take n text ∷ words xs) (sym gap)
      | inr more ↦
          let all : take n text ≡ text = take_all n text more in
          let none : drop n text ≡ [] = drop_all n text more in
          ap kept (slice_split_none is_gap text (λ k d lt. fails_before_first is_gap text k d (omega arith)))
          ∙ kept-cons text [] some
          ∙ ap (λ (word : List ℕ). word ∷ []) (sym all)
          ∙ ap (λ (xs : List ℕ). take n text ∷ words xs) (sym none)
    ]

-- the first word after the gaps at the front
pub next_word : (text : List ℕ) → 0 < length (behind_gaps text) → words text ≡ take (position_or_len is_gap (behind_gaps text)) (behind_gaps text) ∷ words (drop (position_or_len is_gap (behind_gaps text)) (behind_gaps text))
next_word text some = (behind text).same ∙ first_word (behind_gaps text) some (behind text).ended

pub next_shorter : (text : List ℕ) → 0 < length (behind_gaps text) → length (drop (position_or_len is_gap (behind_gaps text)) (behind_gaps text)) < length text
next_shorter text some =
    let rest : List ℕ = behind_gaps text in
    let low : 0 < position_or_len is_gap rest = word_some rest some (behind text).ended in
    omega (arith, low, (behind text).within, length-drop (position_or_len is_gap rest) rest)

pub no_word : (text : List ℕ) → behind_gaps text ≡ [] → words text ≡ []
no_word text none = (behind text).same ∙ ap words none
