-- Windows that are copied to a block.
use Rattle.std.proofs.Common.{◌≡◌, ℕ, zero, suc, ◌+◌, ◌-◌, ◌<◌, ◌≤◌, Bool, true, false, not, cond, eqb, List, [], ◌∷◌, ◌++◌, length, get_or, set, take, drop, replicate, refl, sym, ◌∙◌, ap, subst, count_by, append_assoc, inl, inr, ◌&&◌, ltb, arith}
use Rattle.std.proofs.Math.Seq.{drop-cons, take-append-add}
use Rattle.std.proofs.lemmas.Bool.{cases_lt, lt-ltb, le-ltb}
use Rattle.std.proofs.lemmas.List.{take-take, take-set, take_more_set, length-take-le, length-append, drop-drop, append-nil, length-drop, get_or-drop, get_or-take}
use Rattle.std.proofs.lemmas.List.Sums.{count_by_more_yes, sum_by-take-le, prefix_len_passes, prefix_len_stops}
use Rattle.std.specs.List.{prefix_len}
use Rattle.std.proofs.lemmas.Simd.{length-replicate}
use Rattle.memchr.specs.Find.{is_byte}
use Rattle.eol_convert.specs.Content.{crlf_for, with_crlf_from}
use Rattle.eol_convert.specs.Windows.{is_behind_cr, crlf_from, window, before_lf, crs_before}
use Rattle.eol_convert.proofs.Lines.{behind, stays, lf_of}

-- what is before a place of a list whose first bytes are known
pub front_is : (block done text : List ℕ) (at place : ℕ) → take (at + 32) block ≡ done ++ take 32 text → at ≡ length done → place ≤ 32
    → take (at + place) block ≡ done ++ take place text
front_is block done text at place is same within =
    sym (take-take (at + place) (at + 32) block (omega (arith, within))) ∙ ap (take (at + place)) is
    ∙ ap (λ (n : ℕ). take (n + place) (done ++ take 32 text)) same ∙ take-append-add done (take 32 text) place
    ∙ ap (λ (xs : List ℕ). done ++ xs) (take-take place 32 text within)

-- a CR, or none, is set behind it
pub cr_set : (block done text : List ℕ) (at place more : ℕ) → take (at + 32) block ≡ done ++ take 32 text → at ≡ length done → place ≤ 32
    → more ≤ 1 → at + place < length block
    → take (at + place + more) (set block (at + place) 13) ≡ done ++ (take place text ++ replicate more 13)
cr_set block done text at place zero is same within few inside =
    ap (λ (n : ℕ). take n (set block (at + place) 13)) (omega arith) ∙ take-set block (at + place) 13 ∙ front_is block done text at place is same within
    ∙ ap (λ (xs : List ℕ). done ++ xs) (sym (append-nil (take place text)))
cr_set block done text at place (suc zero) is same within few inside =
    take_more_set block (at + place) 13 inside ∙ ap (λ (xs : List ℕ). xs ++ (13 ∷ [])) (front_is block done text at place is same within)
    ∙ append_assoc done (take place text) (13 ∷ [])
cr_set block done text at place (suc (suc more)) is same within few inside = absurd (omega arith)

-- whether CR is before the end of a stretch of a content
last_of : (content : List ℕ) (from n : ℕ) → from + n ≤ length content → behind (is_behind_cr content from) (take n (drop from content)) ≡ is_behind_cr content (from + n)
last_of content from zero within = ap (is_behind_cr content) (omega arith)
last_of content from (suc n) within =
    let next : suc from - 1 ≡ from = omega arith in
    let cut : drop from content ≡ get_or content from 0 ∷ drop (suc from) content = drop-cons content from 0 (omega (arith, within)) in
    ap (λ (xs : List ℕ). behind (is_behind_cr content from) (take (suc n) xs)) cut
    ∙ ap (λ (i : ℕ). behind (eqb (get_or content i 0) 13) (take n (drop (suc from) content))) (sym next)
    ∙ last_of content (suc from) n (omega (arith, within)) ∙ ap (is_behind_cr content) (omega arith)

-- no LF stands in so many bytes
abbrev pub NoLf : List ℕ → ℕ → Type 0
NoLf text n = (j : ℕ) → 0 ≤ j → j < n → is_byte 10 (get_or text j 0) ≡ true → ⊥

-- a stretch without LF stays
pub run_of : (content : List ℕ) (from n : ℕ) → from + n ≤ length content → NoLf (drop from content) n
    → crlf_from content from ≡ take n (drop from content) ++ crlf_from content (from + n)
run_of content from n within none =
    let text : List ℕ = drop from content in
    stays (is_behind_cr content from) text n (omega (arith, within, length-drop from content)) none
    ∙ ap (λ (cr : Bool). take n text ++ with_crlf_from cr (drop n text)) (last_of content from n within)
    ∙ ap (λ (xs : List ℕ). take n text ++ with_crlf_from (is_behind_cr content (from + n)) xs) (drop-drop n from content)

-- one byte, and what follows it
pub one_byte : (content : List ℕ) (at : ℕ) → at < length content
    → crlf_from content at ≡ crlf_for (is_behind_cr content at) (get_or content at 0) ++ crlf_from content (at + 1)
one_byte content at within =
    let next : suc at ≡ at + 1 = omega arith in
    let back : at ≡ at + 1 - 1 = omega arith in
    let cr : Bool = is_behind_cr content at in
    let front : List ℕ = crlf_for cr (get_or content at 0) in
    ap (with_crlf_from cr) (drop-cons content at 0 within)
    ∙ ap (λ (i : ℕ). front ++ with_crlf_from (eqb (get_or content i 0) 13) (drop (suc at) content)) back
    ∙ ap (λ (i : ℕ). front ++ with_crlf_from (is_behind_cr content (at + 1)) (drop i content)) next

-- where at most one byte passes, none does after it
pub alone : (p : ℕ → Bool) (xs : List ℕ) (k j : ℕ) → count_by p xs ≤ 1 → k < j → j < length xs → p (get_or xs k 0) ≡ true → p (get_or xs j 0) ≡ true → ⊥
alone p xs k j few later within first second =
    let one : count_by p (take (k + 1) xs) ≡ count_by p (take k xs) + 1 = count_by_more_yes p xs k 0 (omega (arith, later, within)) first in
    let two : count_by p (take (j + 1) xs) ≡ count_by p (take j xs) + 1 = count_by_more_yes p xs j 0 within second in
    let shorter : take (k + 1) (take j xs) ≡ take (k + 1) xs = take-take (k + 1) j xs (omega (arith, later)) in
    let less : count_by p (take (k + 1) (take j xs)) ≤ count_by p (take j xs) = sum_by-take-le (λ x. cond (p x) 1 0) (take j xs) (k + 1) in
    let all : count_by p (take (j + 1) xs) ≤ count_by p xs = sum_by-take-le (λ x. cond (p x) 1 0) xs (j + 1) in
    absurd (omega (arith, one, two, less, ap (count_by p) shorter, all, few))

-- of a block that begins with a front of a known length, so many bytes more
pub cut_at : (block done front crs text : List ℕ) (at place more n : ℕ) → take (at + place + more + 32) block ≡ done ++ (front ++ (crs ++ take 32 text))
    → at ≡ length done → place ≡ length front → more ≡ length crs → place ≤ n → n ≤ place + 32
    → take (at + n + more) block ≡ done ++ (front ++ (crs ++ take (n - place) text))
cut_at block done front crs text at place more n is done_long front_long crs_long low high =
    let whole : List ℕ = done ++ (front ++ crs) in
    let joined : (xs : List ℕ) → done ++ (front ++ (crs ++ xs)) ≡ whole ++ xs = λ xs.
    ap (λ (ys : List ℕ). done ++ ys) (sym (append_assoc front crs xs)) ∙ sym (append_assoc done (front ++ crs) xs) in
    let long : at + n + more ≡ length whole + (n - place) =
    omega (arith, low, done_long, front_long, crs_long, length-append done (front ++ crs), length-append front crs) in
    sym (take-take (at + n + more) (at + place + more + 32) block (omega (arith, high, low)))
    ∙ ap (take (at + n + more)) (is ∙ joined (take 32 text))
    ∙ ap (λ (m : ℕ). take m (whole ++ take 32 text)) long ∙ take-append-add whole (take 32 text) (n - place)
    ∙ ap (λ (xs : List ℕ). whole ++ xs) (take-take (n - place) 32 text (omega (arith, high, low)))
    ∙ sym (joined (take (n - place) text))

crlf_of : (cr : Bool) → crlf_for cr 10 ≡ replicate (cond cr 0 1) 13 ++ (10 ∷ [])
crlf_of true = refl
crlf_of false = refl

-- a stretch with one LF gets a CR before it if there is none
pub with_lf : (content : List ℕ) (from place more later : ℕ) → from + place + 1 + later ≤ length content → NoLf (drop from content) place
    → get_or content (from + place) 0 ≡ 10 → NoLf (drop (from + place + 1) content) later → more ≡ cond (is_behind_cr content (from + place)) 0 1
    → crlf_from content from ≡ take place (drop from content) ++ (replicate more 13 ++ (take (suc later) (drop (from + place) content)
    ++ crlf_from content (from + place + 1 + later)))
with_lf content from place more later within before lf after is =
    let at : ℕ = from + place in
    let next : suc at ≡ at + 1 = omega arith in
    let behind : List ℕ = crlf_from content (at + 1 + later) in
    let tail : List ℕ = take later (drop (at + 1) content) in
    let crs : List ℕ = replicate more 13 in
    let cut : take (suc later) (drop at content) ≡ 10 ∷ tail =
    ap (take (suc later)) (drop-cons content at 0 (omega (arith, within))) ∙ ap (λ (b : ℕ). b ∷ take later (drop (suc at) content)) lf
    ∙ ap (λ (i : ℕ). 10 ∷ take later (drop i content)) next in
    let end : crlf_for (is_behind_cr content at) (get_or content at 0) ≡ crs ++ (10 ∷ []) =
    ap (crlf_for (is_behind_cr content at)) lf ∙ crlf_of (is_behind_cr content at) ∙ ap (λ (n : ℕ). replicate n 13 ++ (10 ∷ [])) (sym is) in
    let here : crlf_from content at ≡ crs ++ (take (suc later) (drop at content) ++ behind) =
    one_byte content at (omega (arith, within)) ∙ ap (λ (xs : List ℕ). xs ++ crlf_from content (at + 1)) end
    ∙ append_assoc crs (10 ∷ []) (crlf_from content (at + 1))
    ∙ ap (λ (xs : List ℕ). crs ++ (10 ∷ xs)) (run_of content (at + 1) later within after)
    ∙ ap (λ (xs : List ℕ). crs ++ (xs ++ behind)) (sym cut) in
    run_of content from place (omega (arith, within)) before ∙ ap (λ (xs : List ℕ). take place (drop from content) ++ xs) here

flipped : (b : Bool) → not b ≡ false → b ≡ true
flipped true is = refl
flipped false is = absurd (cc)

-- the bytes of a window before its first LF
pub none_before : (text : List ℕ) (k : ℕ) → k ≡ prefix_len (λ b. not (is_byte 10 b)) (take 32 text) → k ≤ 32 → NoLf text k
none_before text k is within j low high passes =
    let other : not (is_byte 10 (get_or (take 32 text) j 0)) ≡ true = prefix_len_passes (λ b. not (is_byte 10 b)) (take 32 text) j 0 (omega (arith, high, is)) in
    let here : get_or (take 32 text) j 0 ≡ get_or text j 0 = get_or-take 32 text j 0 (omega (arith, high, within)) in
    let no : false ≡ true = sym (ap not (ap (is_byte 10) here ∙ passes)) ∙ other in absurd (cc)

lf_passes : (text : List ℕ) (k : ℕ) → k ≡ prefix_len (λ b. not (is_byte 10 b)) (take 32 text) → k < 32 → 32 ≤ length text
    → is_byte 10 (get_or (take 32 text) k 0) ≡ true
lf_passes text k is few long =
    let whole : length (take 32 text) ≡ 32 = length-take-le 32 text long in
    ap (λ (n : ℕ). is_byte 10 (get_or (take 32 text) n 0)) is
    ∙ flipped _ (prefix_len_stops (λ b. not (is_byte 10 b)) (take 32 text) 0 (omega (arith, whole, few, is)))

-- its first LF
pub lf_at : (content : List ℕ) (from k : ℕ) → k ≡ prefix_len (λ b. not (is_byte 10 b)) (take 32 (drop from content)) → k < 32 → from + 32 ≤ length content
    → get_or content (from + k) 0 ≡ 10
lf_at content from k is few long =
    let text : List ℕ = drop from content in
    let byte : ℕ = get_or (take 32 text) k 0 in
    sym (get_or-drop from content k 0) ∙ sym (get_or-take 32 text k 0 few)
    ∙ lf_of byte (lf_passes text k is few (omega (arith, long, length-drop from content)))

-- the bytes after it, if there is no other
pub after_lf : (content : List ℕ) (from k : ℕ) → k ≡ prefix_len (λ b. not (is_byte 10 b)) (take 32 (drop from content)) → k < 32 → from + 32 ≤ length content
    → count_by (is_byte 10) (take 32 (drop from content)) ≤ 1 → NoLf (drop (from + k + 1) content) (31 - k)
after_lf content from k is few long one j low high passes =
    let text : List ℕ = drop from content in
    let place : ℕ = k + 1 + j in
    let whole : length (take 32 text) ≡ 32 = length-take-le 32 text (omega (arith, long, length-drop from content)) in
    let here : get_or (take 32 text) place 0 ≡ get_or (drop (from + k + 1) content) j 0 =
    get_or-take 32 text place 0 (omega (arith, high, few)) ∙ get_or-drop from content place 0
    ∙ ap (λ (i : ℕ). get_or content i 0) (omega arith) ∙ sym (get_or-drop (from + k + 1) content j 0) in
    alone (is_byte 10) (take 32 text) k place one (omega arith) (omega (arith, whole, high, few))
    (lf_passes text k is few (omega (arith, long, length-drop from content))) (ap (is_byte 10) here ∙ passes)

bare_of : (few cr : Bool) → few ≡ true → cond {A = ℕ} (few && not cr) 1 0 ≡ cond cr 0 1
bare_of true true is = refl
bare_of true false is = refl
bare_of false cr is = absurd (cc)

none_of : (few cr : Bool) → few ≡ false → cond {A = ℕ} (few && not cr) 1 0 ≡ 0
none_of true cr is = absurd (cc)
none_of false cr is = refl

-- a window whose first LF is taken
pub with_first : (content : List ℕ) (from k n more : ℕ) → from + 64 ≤ length content → n ≤ 32 → k < n
    → k ≡ prefix_len (λ b. not (is_byte 10 b)) (take 32 (drop from content)) → NoLf (drop (from + k + 1) content) (n - k - 1)
    → more ≡ crs_before content from k
    → crlf_from content from ≡ take k (drop from content) ++ (replicate more 13 ++ (take (n - k) (drop (from + k) content) ++ crlf_from content (from + n)))
with_first content from k n more long high low is after added =
    let more_is : more ≡ cond (is_behind_cr content (from + k)) 0 1 = added ∙ bare_of (ltb k 32) (is_behind_cr content (from + k)) (lt-ltb k 32 (omega (arith, low, high))) in
    let later : ℕ = n - k - 1 in
    let end : from + k + 1 + later ≡ from + n = omega (arith, low) in
    let size : suc later ≡ n - k = omega (arith, low) in
    let front : List ℕ = take k (drop from content) in
    with_lf content from k more later (omega (arith, long, high, low)) (none_before (drop from content) k is (omega (arith, low, high)))
    (lf_at content from k is (omega (arith, low, high)) (omega (arith, long))) after more_is
    ∙ ap (λ (i : ℕ). front ++ (replicate more 13 ++ (take i (drop (from + k) content) ++ crlf_from content (from + k + 1 + later)))) size
    ∙ ap (λ (i : ℕ). front ++ (replicate more 13 ++ (take (n - k) (drop (from + k) content) ++ crlf_from content i))) end

-- a window without LF
pub with_none : (content : List ℕ) (from k more : ℕ) → from + 64 ≤ length content → k ≡ 32
    → k ≡ prefix_len (λ b. not (is_byte 10 b)) (take 32 (drop from content)) → more ≡ crs_before content from k
    → crlf_from content from ≡ take k (drop from content) ++ (replicate more 13 ++ (take (32 - k) (drop (from + k) content) ++ crlf_from content (from + 32)))
with_none content from k more long all is added =
    let none : more ≡ 0 = added ∙ none_of (ltb k 32) (is_behind_cr content (from + k)) (le-ltb k 32 (omega (arith, all))) in
    let size : 0 ≡ 32 - k = omega (arith, all) in
    let front : List ℕ = take k (drop from content) in
    run_of content from k (omega (arith, long, all)) (none_before (drop from content) k is (omega (arith, all)))
    ∙ ap (λ (i : ℕ). front ++ crlf_from content (from + i)) all
    ∙ ap (λ (i : ℕ). front ++ (take i (drop (from + k) content) ++ crlf_from content (from + 32))) size
    ∙ ap (λ (i : ℕ). front ++ (replicate i 13 ++ (take (32 - k) (drop (from + k) content) ++ crlf_from content (from + 32)))) (sym none)

-- a block that was filled, and what becomes of the rest
pub filled : (block done front crs text tail whole : List ℕ) (at place more n : ℕ) → take (at + place + more + 32) block ≡ done ++ (front ++ (crs ++ take 32 text))
    → at ≡ length done → place ≡ length front → more ≡ length crs → place ≤ n → n ≤ place + 32
    → whole ≡ front ++ (crs ++ (take (n - place) text ++ tail)) → take (at + n + more) block ++ tail ≡ done ++ whole
filled block done front crs text tail whole at place more n is done_long front_long crs_long low high becomes =
    let part : List ℕ = take (n - place) text in
    ap (λ (xs : List ℕ). xs ++ tail) (cut_at block done front crs text at place more n is done_long front_long crs_long low high)
    ∙ append_assoc done (front ++ (crs ++ part)) tail
    ∙ ap (λ (xs : List ℕ). done ++ xs) (append_assoc front (crs ++ part) tail ∙ ap (λ (xs : List ℕ). front ++ xs) (append_assoc crs part tail) ∙ sym becomes)

-- what was copied, and how much of it is taken
abbrev pub Copied : List ℕ → List ℕ → List ℕ → ℕ → ℕ → ℕ → ℕ → Type 0
Copied old new content at from first more =
    take (at + first + more + 32) new ≡ take at old ++ (take first (drop from content) ++ (replicate more 13 ++ take 32 (drop (from + first) content)))

abbrev pub Taken : List ℕ → List ℕ → List ℕ → ℕ → ℕ → ℕ → ℕ → Type 0
Taken old new content at from more n = take (at + n + more) new ++ crlf_from content (from + n) ≡ take at old ++ crlf_from content from

taken_of : (old new content : List ℕ) (at from first more n : ℕ) → at ≤ length old → from + 64 ≤ length content → first ≤ n → n ≤ 32
    → Copied old new content at from first more
    → crlf_from content from ≡ take first (drop from content) ++ (replicate more 13 ++ (take (n - first) (drop (from + first) content) ++ crlf_from content (from + n)))
    → Taken old new content at from more n
taken_of old new content at from first more n inside long low high is becomes =
    let text : List ℕ = drop from content in
    filled new (take at old) (take first text) (replicate more 13) (drop (from + first) content) (crlf_from content (from + n)) (crlf_from content from) at first more n is
    (sym (length-take-le at old inside)) (sym (length-take-le first text (omega (arith, length-drop from content, long, low, high))))
    (sym (length-replicate more 13)) low (omega (arith, high)) becomes

-- a window is taken up to its first LF
pub front_taken : (old new content : List ℕ) (at from first more : ℕ) → at ≤ length old → from + 64 ≤ length content → first ≡ before_lf content from → first < 32
    → more ≡ crs_before content from first → Copied old new content at from first more → Taken old new content at from more (first + 1)
front_taken old new content at from first more inside long is few added copied =
    taken_of old new content at from first more (first + 1) inside long (omega arith) (omega (arith, few)) copied
    (with_first content from first (first + 1) more long (omega (arith, few)) (omega arith) is (λ j low high passes. absurd (omega (arith, high))) added)

-- a window with one LF or none is taken whole
pub whole_taken : (old new content : List ℕ) (at from first more : ℕ) → at ≤ length old → from + 64 ≤ length content → first ≡ before_lf content from → first ≤ 32
    → count_by (is_byte 10) (window content from) ≤ 1
    → more ≡ crs_before content from first → Copied old new content at from first more → Taken old new content at from more 32
whole_taken old new content at from first more inside long is within alone added copied =
    let size : 31 - first ≡ 32 - first - 1 = omega arith in
    taken_of old new content at from first more 32 inside long within (omega arith) copied (elim (cases_lt first 32) [
      | inl few ↦
          with_first content from first 32 more long (omega arith) few is
          (subst (NoLf (drop (from + first + 1) content)) size (after_lf content from first is few (omega (arith, long)) alone)) added
      | inr many ↦ with_none content from first more long (omega (arith, many, within)) is added
    ])
