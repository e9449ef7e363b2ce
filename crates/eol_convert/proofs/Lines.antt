-- A content line by line.
use Rattle.std.proofs.Common.{◌≡◌, ℕ, zero, suc, ◌+◌, ◌-◌, ◌<◌, ◌≤◌, Bool, true, false, ◌&&◌, not, cond, eqb, nat_eq, List, [], ◌∷◌, ◌++◌, length, get_or, take, drop, Some, None, refl, sym, ◌∙◌, ap, append_assoc, arith}
use Rattle.std.proofs.Math.Seq.{drop-cons}
use Rattle.std.proofs.lemmas.Bool.{false_from_ne_true}
use Rattle.std.proofs.lemmas.Grind.{common_steps}
use Rattle.std.proofs.lemmas.List.{append-nil, drop_all, take_all, length-take, length-drop, length-append, take-append-drop}
use Rattle.std.specs.Cmp.Lexicographic.{pointwise}
use Rattle.std.specs.List.{ends_with}
use Rattle.memchr.specs.Find.{is_byte, IsFirstByte}
use Rattle.eol_convert.specs.Content.{crlf_for, with_crlf_from, with_crlf, line_end}

-- whether CR is right before the end of a stretch, which itself is after CR or not
abbrev pub behind : Bool → List ℕ → Bool
behind cr [] = cr
behind cr (b ∷ line) = behind (eqb b 13) line

pub lf_of : (b : ℕ) → is_byte 10 b ≡ true → b ≡ 10
lf_of b is = grind (arith, common_steps)

-- a text without LF stays
pub stays : (cr : Bool) (text : List ℕ) (k : ℕ) → k ≤ length text → ((j : ℕ) → 0 ≤ j → j < k → is_byte 10 (get_or text j 0) ≡ true → ⊥)
    → with_crlf_from cr text ≡ take k text ++ with_crlf_from (behind cr (take k text)) (drop k text)
stays cr text zero le none = refl
stays cr [] (suc k) le none = absurd (omega arith)
stays cr (b ∷ text) (suc k) le none =
    let other : eqb b 10 ≡ false = false_from_ne_true (eqb b 10) (none 0 (omega arith) (omega arith)) in
    let later : with_crlf_from (eqb b 13) text ≡ take k text ++ with_crlf_from (behind (eqb b 13) (take k text)) (drop k text) =
    stays (eqb b 13) text k (omega arith) (λ j low high. none (suc j) (omega arith) (omega arith)) in
    rw other (ap (λ (xs : List ℕ). b ∷ xs) later)

turned : (b : ℕ) → eqb b 13 ≡ (eqb 13 b && true)
turned b = grind (arith, common_steps)

-- CR is right before the end of a line that ends with it
behind-line : (line : List ℕ) → behind false line ≡ ends_with nat_eq line (13 ∷ [])
behind-line [] = refl
behind-line (b ∷ []) = turned b
behind-line (b ∷ c ∷ line) =
    let one : suc (length line) - 1 ≡ length line = omega arith in
    let two : suc (length line) ≡ suc (suc (length line)) - 1 = omega arith in
    behind-line (c ∷ line)
    ∙ ap (λ (n : ℕ). pointwise nat_eq (13 ∷ []) (drop n (c ∷ line))) one
    ∙ ap (λ (n : ℕ). pointwise nat_eq (13 ∷ []) (drop n (b ∷ c ∷ line))) two

-- the first LF and what follows it
from_lf : (text : List ℕ) (k : ℕ) → IsFirstByte (is_byte 10) text (Some k) → drop k text ≡ 10 ∷ drop (k + 1) text
from_lf text k first =
    let next : suc k ≡ k + 1 = omega arith in
    drop-cons text k 0 first.0.high
    ∙ ap (λ (b : ℕ). b ∷ drop (suc k) text) (lf_of (get_or text k 0) first.1)
    ∙ ap (λ (n : ℕ). 10 ∷ drop n text) next

-- one line, its end, and what follows it
pub one_line : (text : List ℕ) (k : ℕ) → IsFirstByte (is_byte 10) text (Some k)
    → with_crlf text ≡ take k text ++ (line_end (take k text) ++ with_crlf (drop (k + 1) text))
one_line text k first =
    stays false text k (omega (arith, first.0.high)) first.0.before
    ∙ ap (λ (xs : List ℕ). take k text ++ with_crlf_from (behind false (take k text)) xs) (from_lf text k first)
    ∙ ap (λ (cr : Bool). take k text ++ (crlf_for cr 10 ++ with_crlf (drop (k + 1) text))) (behind-line (take k text))

-- a content without LF
pub no_lf : (text : List ℕ) → IsFirstByte (is_byte 10) text None → with_crlf text ≡ text
no_lf text none =
    let rest : drop (length text) text ≡ [] = drop_all (length text) text (omega arith) in
    let front : take (length text) text ≡ text = take_all (length text) text (omega arith) in
    stays false text (length text) (omega arith) none
    ∙ ap (λ (xs : List ℕ). take (length text) text ++ with_crlf_from (behind false (take (length text) text)) xs) rest
    ∙ append-nil (take (length text) text) ∙ front

some_for : (t : Bool) (b : ℕ) → 1 ≤ length (cond t (13 ∷ 10 ∷ []) (b ∷ []))
some_for true b = omega arith
some_for false b = omega arith

-- no text gets shorter
length-with_crlf_from : (cr : Bool) (text : List ℕ) → length text ≤ length (with_crlf_from cr text)
length-with_crlf_from cr [] = omega arith
length-with_crlf_from cr (b ∷ text) =
    let later : length text ≤ length (with_crlf_from (eqb b 13) text) = length-with_crlf_from (eqb b 13) text in
    let some : 1 ≤ length (crlf_for cr b) = some_for (eqb b 10 && not cr) b in
    omega (arith, length-append (crlf_for cr b) (with_crlf_from (eqb b 13) text))

-- what is done, and one line more
pub one_more : (content done text : List ℕ) (k : ℕ) → with_crlf content ≡ done ++ with_crlf text → IsFirstByte (is_byte 10) text (Some k)
    → with_crlf content ≡ (done ++ (take k text ++ line_end (take k text))) ++ with_crlf (drop (k + 1) text)
one_more content done text k same first =
    let line : List ℕ = take k text in
    let end : List ℕ = line_end (take k text) in
    let rest : List ℕ = with_crlf (drop (k + 1) text) in
    same ∙ ap (λ (xs : List ℕ). done ++ xs) (one_line text k first ∙ sym (append_assoc line end rest))
    ∙ sym (append_assoc done (line ++ end) rest)

-- the LF of a line that doesn't end in CR gets one
pub bare_lf : (text : List ℕ) (k : ℕ) → IsFirstByte (is_byte 10) text (Some k) → ends_with nat_eq (take k text) (13 ∷ []) ≡ false
    → length text < length (with_crlf text)
bare_lf text k first bare =
    let rest : List ℕ = drop (k + 1) text in
    let whole : with_crlf text ≡ take k text ++ (13 ∷ 10 ∷ with_crlf rest) =
    one_line text k first ∙ ap (λ (cr : Bool). take k text ++ (crlf_for cr 10 ++ with_crlf rest)) bare in
    let later : length rest ≤ length (with_crlf rest) = length-with_crlf_from false rest in
    omega (arith, first.0.high, later, ap length whole, length-append (take k text) (13 ∷ 10 ∷ with_crlf rest), length-take k text, length-drop (k + 1) text)

-- a text changes exactly if what follows its first line does
pub record FollowsRest (text rest : List ℕ) : Type 0 where
  pub same : with_crlf rest ≡ rest → with_crlf text ≡ text
  pub longer : length rest < length (with_crlf rest) → length text < length (with_crlf text)

-- the LF of a line that ends in CR stays
pub kept_lf : (text : List ℕ) (k : ℕ) → IsFirstByte (is_byte 10) text (Some k) → ends_with nat_eq (take k text) (13 ∷ []) ≡ true
    → FollowsRest text (drop (k + 1) text)
kept_lf text k first kept =
    let rest : List ℕ = drop (k + 1) text in
    let whole : with_crlf text ≡ take k text ++ (10 ∷ with_crlf rest) =
    one_line text k first ∙ ap (λ (cr : Bool). take k text ++ (crlf_for cr 10 ++ with_crlf rest)) kept in
    let parts : take k text ++ (10 ∷ rest) ≡ text =
    ap (λ (xs : List ℕ). take k text ++ xs) (sym (from_lf text k first)) ∙ take-append-drop k text in record {
      same = λ is. whole ∙ ap (λ (xs : List ℕ). take k text ++ (10 ∷ xs)) is ∙ parts;
      longer = λ more. omega (arith, first.0.high, more, ap length whole, length-append (take k text) (10 ∷ with_crlf rest), length-take k text, length-drop (k + 1) text);
    }
