-- A stretch of a quoted text: plain bytes, and a closing quote or an escape.
use Rattle.std.proofs.Common.{◌≡◌, ◌≢◌, ℕ, zero, suc, ◌+◌, ◌<◌, ◌≤◌, Bool, true, false, cond, eqb, List, [], ◌∷◌, ◌++◌, length, get_or, take, drop, Option, Some, None, Result, Ok, Err, refl, sym, ◌∙◌, ap, append_assoc, arith}
use Rattle.std.proofs.Math.Seq.{drop-cons}
use Rattle.std.proofs.lemmas.Grind.{common_steps}
use Rattle.std.proofs.lemmas.List.{append-nil, drop_all, length-drop, drop-drop}
use Rattle.memchr.specs.Find.{is_byte2}
use Rattle.byte_path.specs.declared.unquoted.QuoteFault.{QuoteFault}
use Rattle.byte_path.specs.declared.unquoted.QuoteFault.TheVariants.{Unclosed, BadEscape}
use Rattle.byte_path.specs.Unquote.{byte_of_letter, has_octal, letter_or_octal, octal_value, escape_at, prefixed, escaped, unquoted_behind}

-- the type of an answer
abbrev pub Answer : Type 0
Answer = Result (List ℕ × ℕ) QuoteFault

prefixed-none : (r : Answer) → prefixed [] 0 r ≡ r
prefixed-none (Ok answer) = let size : 0 + answer.1 ≡ answer.1 = omega arith in rw size refl
prefixed-none (Err fault) = refl

-- two prefixes make one
pub prefixed-prefixed : (a b : List ℕ) (m n : ℕ) (r : Answer) → prefixed a m (prefixed b n r) ≡ prefixed (a ++ b) (m + n) r
prefixed-prefixed a b m n (Ok answer) =
    let bytes : a ++ (b ++ answer.0) ≡ (a ++ b) ++ answer.0 = sym (append_assoc a b answer.0) in
    let size : m + (n + answer.1) ≡ (m + n) + answer.1 = omega arith in
    rw (bytes, size) refl
prefixed-prefixed a b m n (Err fault) = refl

pub prefixed-count : (a : List ℕ) (m n : ℕ) (r : Answer) → m ≡ n → prefixed a m r ≡ prefixed a n r
prefixed-count a m n r same = ap (λ (k : ℕ). prefixed a k r) same

-- the bytes of an escape are skipped
pub unquoted_behind-skip : (n : ℕ) (text : List ℕ) → n ≤ length text → unquoted_behind n text ≡ prefixed [] n (unquoted_behind 0 (drop n text))
unquoted_behind-skip zero text le = sym (prefixed-none (unquoted_behind 0 text))
unquoted_behind-skip (suc n) [] le = absurd (omega arith)
unquoted_behind-skip (suc n) (b ∷ text) le =
    ap (prefixed [] 1) (unquoted_behind-skip n text (omega arith))
    ∙ prefixed-prefixed [] [] 1 n (unquoted_behind 0 (drop n text))
    ∙ prefixed-count [] (1 + n) (suc n) (unquoted_behind 0 (drop n text)) (omega arith)

-- neither a quote nor a backslash
not_special : (b : ℕ) → (is_byte2 34 92 b ≡ true → ⊥) → (eqb b 34 ≡ false) × (eqb b 92 ≡ false)
not_special b none = grind (arith, common_steps)

-- plain bytes stand for themselves
unquoted_behind-plain : (text : List ℕ) (k : ℕ) → k ≤ length text → ((j : ℕ) → 0 ≤ j → j < k → is_byte2 34 92 (get_or text j 0) ≡ true → ⊥)
    → unquoted_behind 0 text ≡ prefixed (take k text) k (unquoted_behind 0 (drop k text))
unquoted_behind-plain text zero le plain = sym (prefixed-none (unquoted_behind 0 text))
unquoted_behind-plain [] (suc k) le plain = absurd (omega arith)
unquoted_behind-plain (b ∷ text) (suc k) le plain =
    let first : (eqb b 34 ≡ false) × (eqb b 92 ≡ false) = not_special b (plain 0 (omega arith) (omega arith)) in
    let later : unquoted_behind 0 text ≡ prefixed (take k text) k (unquoted_behind 0 (drop k text)) =
    unquoted_behind-plain text k (omega arith) (λ j low high. plain (suc j) (omega arith) (omega arith)) in
    rw (first.0, first.1) (ap (prefixed (b ∷ []) 1) later
    ∙ prefixed-prefixed (b ∷ []) (take k text) 1 k (unquoted_behind 0 (drop k text))
    ∙ prefixed-count (b ∷ take k text) (1 + k) (suc k) (unquoted_behind 0 (drop k text)) (omega arith))

pub stretch-unclosed : (text : List ℕ) → ((j : ℕ) → 0 ≤ j → j < length text → is_byte2 34 92 (get_or text j 0) ≡ true → ⊥) → unquoted_behind 0 text ≡ Err Unclosed
stretch-unclosed text plain = unquoted_behind-plain text (length text) (omega arith) plain ∙ at_end
  where
    at_end : prefixed (take (length text) text) (length text) (unquoted_behind 0 (drop (length text) text)) ≡ Err Unclosed
    at_end = rw (drop_all (length text) text (omega arith)) refl

-- the text continues with a quote or a backslash
at_quote : (text : List ℕ) (k : ℕ) → k < length text → get_or text k 0 ≡ 34 → unquoted_behind 0 (drop k text) ≡ Ok ([], 1)
at_quote text k lt is = rw (drop-cons text k 0 lt, is) refl

at_backslash : (text : List ℕ) (k : ℕ) → k < length text → get_or text k 0 ≡ 92
    → unquoted_behind 0 (drop k text) ≡ escaped (escape_at (drop (k + 1) text)) (λ skip. unquoted_behind skip (drop (k + 1) text))
at_backslash text k lt is =
    let next : suc k ≡ k + 1 = omega arith in
    let head : drop k text ≡ 92 ∷ drop (k + 1) text =
    drop-cons text k 0 lt ∙ ap (λ (b : ℕ). b ∷ drop (suc k) text) is ∙ ap (λ (n : ℕ). 92 ∷ drop n text) next in
    rw head refl

is_backslash : (b : ℕ) → is_byte2 34 92 b ≡ true → b ≢ 34 → b ≡ 92
is_backslash b special other = grind (arith, common_steps)

pub stretch-closed : (old text : List ℕ) (k : ℕ) → k < length text → ((j : ℕ) → 0 ≤ j → j < k → is_byte2 34 92 (get_or text j 0) ≡ true → ⊥)
    → get_or text k 0 ≡ 34 → prefixed old 0 (unquoted_behind 0 text) ≡ Ok (old ++ take k text, k + 1)
stretch-closed old text k lt plain is =
    let bytes : old ++ (take k text ++ []) ≡ old ++ take k text = ap (λ (xs : List ℕ). old ++ xs) (append-nil (take k text)) in
    let size : 0 + (k + 1) ≡ k + 1 = omega arith in
    rw (unquoted_behind-plain text k (omega arith) plain, at_quote text k lt is, bytes, size) refl

pub stretch-bad : (text : List ℕ) (k : ℕ) → k < length text → ((j : ℕ) → 0 ≤ j → j < k → is_byte2 34 92 (get_or text j 0) ≡ true → ⊥)
    → is_byte2 34 92 (get_or text k 0) ≡ true → get_or text k 0 ≢ 34 → None ≡ escape_at (drop (k + 1) text) → unquoted_behind 0 text ≡ Err BadEscape
stretch-bad text k lt plain special other bad =
    rw (unquoted_behind-plain text k (omega arith) plain, at_backslash text k lt (is_backslash (get_or text k 0) special other), ← bad) refl

-- an escape is within the text
letter_there : (text : List ℕ) (byte : ℕ) → byte_of_letter (get_or text 0 0) ≡ Some byte → 0 < length text
letter_there [] byte is = cc
letter_there (c ∷ text) byte is = omega arith

octal_there : (text : List ℕ) → has_octal text ≡ true → 3 ≤ length text
octal_there text has = grind (arith, common_steps)

-- an escape as a pair: a bare pair has no type of its own
abbrev pub escape_of : ℕ → ℕ → Option (ℕ × ℕ)
escape_of byte n = Some (byte, n)

abbrev size_of : Option (ℕ × ℕ) → ℕ
size_of (Some escape) = escape.1
size_of None = 0

octal-within : (b : Bool) (text : List ℕ) (value byte n : ℕ) → (b ≡ true → 3 ≤ length text) → escape_of byte n ≡ cond b (escape_of value 3) None → n ≤ length text
octal-within true text value byte n there is = let same : n ≡ 3 = ap size_of is in omega (arith, same, there refl)
octal-within false text value byte n there is = cc

letter_or_octal-within : (o : Option ℕ) (text : List ℕ) (byte n : ℕ) → byte_of_letter (get_or text 0 0) ≡ o → escape_of byte n ≡ letter_or_octal o text → n ≤ length text
letter_or_octal-within (Some other) text byte n letter is = let same : n ≡ 1 = ap size_of is in omega (arith, same, letter_there text other letter)
letter_or_octal-within None text byte n letter is = octal-within (has_octal text) text (octal_value text) byte n (octal_there text) is

escape-within : (text : List ℕ) (byte n : ℕ) → escape_of byte n ≡ escape_at text → n ≤ length text
escape-within text byte n is = letter_or_octal-within (byte_of_letter (get_or text 0 0)) text byte n refl is

pub stretch-escaped : (old text : List ℕ) (k byte n : ℕ) → k < length text → ((j : ℕ) → 0 ≤ j → j < k → is_byte2 34 92 (get_or text j 0) ≡ true → ⊥)
    → is_byte2 34 92 (get_or text k 0) ≡ true → get_or text k 0 ≢ 34 → escape_of byte n ≡ escape_at (drop (k + 1) text)
    → (0 < k + 1 + n) × (k + 1 + n ≤ length text)
    × (prefixed old 0 (unquoted_behind 0 text) ≡ prefixed ((old ++ take k text) ++ byte ∷ []) (k + 1 + n) (unquoted_behind 0 (drop (k + 1 + n) text)))
stretch-escaped old text k byte n lt plain special other is =
    let within : n ≤ length (drop (k + 1) text) = escape-within (drop (k + 1) text) byte n is in
    let room : k + 1 + n ≤ length text = omega (arith, length-drop (k + 1) text) in
    let rest : List ℕ = drop (k + 1) text in
    let joined : drop n rest ≡ drop (k + 1 + n) text = drop-drop n (k + 1) text in
    let escape : unquoted_behind 0 (drop k text) ≡ prefixed (byte ∷ []) 1 (unquoted_behind n rest) =
    at_backslash text k lt (is_backslash (get_or text k 0) special other) ∙ ap (λ (o : Option (ℕ × ℕ)). escaped o (λ skip. unquoted_behind skip rest)) (sym is) in
    let skipped : unquoted_behind 0 (drop k text) ≡ prefixed (byte ∷ []) (1 + n) (unquoted_behind 0 (drop n rest)) =
    escape ∙ ap (prefixed (byte ∷ []) 1) (unquoted_behind-skip n rest within) ∙ prefixed-prefixed (byte ∷ []) [] 1 n (unquoted_behind 0 (drop n rest)) in
    let after : Answer = unquoted_behind 0 (drop (k + 1 + n) text) in
    let plain_first : unquoted_behind 0 text ≡ prefixed (take k text) k (prefixed (byte ∷ []) (1 + n) after) =
    unquoted_behind-plain text k (omega arith) plain ∙ ap (prefixed (take k text) k) (skipped ∙ ap (λ (xs : List ℕ). prefixed (byte ∷ []) (1 + n) (unquoted_behind 0 xs)) joined) in (
      omega arith,
      room,
      ap (prefixed old 0) plain_first
          ∙ ap (prefixed old 0) (prefixed-prefixed (take k text) (byte ∷ []) k (1 + n) after)
          ∙ prefixed-prefixed old (take k text ++ byte ∷ []) 0 (k + (1 + n)) after
          ∙ ap (λ (xs : List ℕ). prefixed xs (0 + (k + (1 + n))) after) (sym (append_assoc old (take k text) (byte ∷ [])))
          ∙ prefixed-count ((old ++ take k text) ++ byte ∷ []) (0 + (k + (1 + n))) (k + 1 + n) after (omega arith),
    )
