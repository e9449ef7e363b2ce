-- How many bytes the content of each kind has once it is converted.
use Rattle.std.proofs.Common.{◌≡◌, ℕ, zero, suc, ◌+◌, ◌*◌, ◌<◌, ◌≤◌, Bool, true, false, List, [], ◌∷◌, ◌++◌, length, length-append, refl, sym, ap, ◌∙◌, arith}
use Rattle.std.specs.Prelude.{codes, ◌==◌, ◌||◌, if◌then◌else◌}
use Rattle.std.specs.List.{range_with_len, list_all}
use Rattle.std.specs.Str.{chars, is_utf8}
use lib.Utf8.{encode}
use Rattle.std.proofs.lemmas.Bool.{true≢false}
use Rattle.hex.specs.Hex.{encode_with}
use Rattle.sha1.specs.Sha1.{sha1, digest_bytes}
use Rattle.ident_convert.specs.Ident.{keyword_text, keyword_len, expanded}
use Rattle.eol_convert.specs.Content.{with_crlf}
use Rattle.tree_encoding.specs.Encode.{encoded}
use Rattle.tree_encoding.specs.declared.encoding.Encoding.TheVariants.{Utf16Le}
use Rattle.convert_plan.specs.Prepared.{prepared}
use Rattle.rehearsal.specs.Paths.{kind, line_count, lines, line_of, ident_line, content}
use Rattle.rehearsal.specs.Blocks.{sized}
use Rattle.rehearsal_numbers.specs.Contents.{name_of}
use Rattle.rehearsal_numbers.specs.Plans.{conversion_at, is_alpha}
use Rattle.rehearsal_numbers.proofs.Apart.{passes, is_equal, few_lines}
use Rattle.rehearsal_numbers.proofs.Asked.{eight, below_eight}

crlf_sizes : list_all (λ n. length (with_crlf (lines n ++ [])) == length (lines n ++ []) + n) (range_with_len 0 50) ≡ true
crlf_sizes = refl

wide_sizes : list_all (λ n. length (encoded (lines n ++ []) Utf16Le).bytes == 2 * length (lines n ++ [])) (range_with_len 0 50) ≡ true
unfolding encoded is_utf8 chars encode
wide_sizes = refl

-- lines, the first one first
line_first : (n : ℕ) → lines (suc n) ≡ line_of (codes "line") ++ lines n
line_first zero = refl
line_first (suc n) = ap (λ (x : List ℕ). x ++ line_of (codes "line")) (line_first n)

kept_line : (keyword text : List ℕ)
    → expanded keyword (line_of (codes "line") ++ text) ≡ line_of (codes "line") ++ expanded keyword text
unfolding keyword_len
kept_line keyword text = refl

keyword_last : (keyword : List ℕ) → expanded keyword (line_of (codes "$Id$")) ≡ keyword ++ 10 ∷ []
unfolding keyword_len
keyword_last keyword = refl

with_keyword : (keyword : List ℕ) (n : ℕ)
    → expanded keyword (lines n ++ line_of (codes "$Id$")) ≡ lines n ++ (keyword ++ 10 ∷ [])
with_keyword keyword zero = keyword_last keyword
with_keyword keyword (suc n) =
    ap (λ (x : List ℕ). expanded keyword (x ++ line_of (codes "$Id$"))) (line_first n)
    ∙ kept_line keyword (lines n ++ line_of (codes "$Id$"))
    ∙ ap (λ (x : List ℕ). line_of (codes "line") ++ x) (with_keyword keyword n)
    ∙ ap (λ (x : List ℕ). x ++ (keyword ++ 10 ∷ [])) (sym (line_first n))

keyword_size : (text : List ℕ) → length (keyword_text (name_of text)) ≡ 47
unfolding sha1 digest_bytes encode_with
keyword_size text = refl

ident_size : (n : ℕ) (name : List ℕ) → length (keyword_text name) ≡ 47
    → length (expanded (keyword_text name) (lines n ++ line_of (codes "$Id$"))) ≡ length (lines n ++ line_of (codes "$Id$")) + 43
ident_size n name e =
    let k = keyword_text name in
    let all = ap length (with_keyword k n) in
    let one = length-append (lines n) (k ++ 10 ∷ []) in
    let two = length-append k (10 ∷ []) in
    let old = length-append (lines n) (line_of (codes "$Id$")) in
    omega (arith, all, one, two, old, e)

-- the kinds whose file is their content, converted
abbrev pub is_filtered : ℕ → Bool
is_filtered k = is_alpha k || (k == 6)

abbrev text_of : ℕ → ℕ → List ℕ
text_of k n = lines n ++ ident_line k

abbrev HasSize : ℕ → Type 0
HasSize k = (n : ℕ) → n < 50 → is_filtered k ≡ false
    → length (prepared (conversion_at k) (name_of (text_of k n)) (text_of k n)).bytes ≡ sized k n (length (text_of k n))

sizes : (k : ℕ) → k < 8 → HasSize k
sizes = eight HasSize
    (λ n lt h. refl)
    (λ n lt h. is_equal _ _ (passes (λ n. length (with_crlf (lines n ++ [])) == length (lines n ++ []) + n) 50 crlf_sizes n lt))
    (λ n lt h. ident_size n (name_of (lines n ++ line_of (codes "$Id$"))) (keyword_size (lines n ++ line_of (codes "$Id$"))))
    (λ n lt h. is_equal _ _ (passes (λ n. length (encoded (lines n ++ []) Utf16Le).bytes == 2 * length (lines n ++ [])) 50 wide_sizes n lt))
    (λ n lt h. absurd (true≢false h))
    (λ n lt h. absurd (true≢false h))
    (λ n lt h. absurd (true≢false h))
    (λ n lt h. refl)

pub size_is : (seed i : ℕ) → is_filtered (kind seed i) ≡ false
    → length (prepared (conversion_at (kind seed i)) (name_of (content seed i)) (content seed i)).bytes
    ≡ sized (kind seed i) (line_count seed i) (length (content seed i))
size_is seed i h = sizes (kind seed i) (below_eight (seed + 7 * i)) (line_count seed i) (few_lines seed i) h

lines_size : (n : ℕ) → length (lines n) ≡ 5 * n
lines_size zero = refl
lines_size (suc n) = omega (arith, length-append (lines n) (line_of (codes "line")), lines_size n)

keyword_short : (k : ℕ) → length (ident_line k) ≤ 5
keyword_short k = by (k == 2)
  where
    by : (b : Bool) → length (if b then line_of (codes "$Id$") else []) ≤ 5
    by true = omega arith
    by false = omega arith

pub short_content : (seed i : ℕ) → length (content seed i) ≤ 255
short_content seed i =
    omega (
      arith,
      length-append (lines (line_count seed i)) (ident_line (kind seed i)),
      lines_size (line_count seed i),
      keyword_short (kind seed i),
      few_lines seed i,
    )
