-- A value that is read is spelled.
use Rattle.std.proofs.Common.{◌≡◌, ℕ, zero, suc, ◌+◌, ◌≤◌, Bool, true, false, not, cond, List, [], ◌∷◌, ◌++◌, length, take, drop, map, Result, Ok, refl, sym, ap, subst, ◌∙◌, append_assoc, arith}
use Rattle.std.specs.List.{flat_map, list_all, position_or_len}
use Rattle.std.proofs.lemmas.List.{take-append-drop}
use Rattle.std.proofs.lemmas.List.Concat.{flat_map-cons}
use Rattle.git_config.specs.declared.fault.ConfigFault.{ConfigFault}
use Rattle.git_config.specs.Text.{is_line_end, is_comment_mark, line_end}
use Rattle.git_config.specs.Value.{Reading, ended_at, marked, with_blank, value_from, value_at}
use Rattle.git_config.specs.Spelling.{Sign, Stretch, Outside, InQuotes, Part, Bare, Quoted, Nothing, Escape, letter, meant, Ending, AtLineEnd, AtComment, AtCut}
use Rattle.git_config.specs.Spelling.{spelled_sign, is_sign, is_quoted_byte, is_bare_byte, spelled_stretch, is_stretch, bare_part, quoted_part, parts_of}
use Rattle.git_config.specs.Spelling.{spelled_ending, ending_parts, is_comment, is_ending, is_at_end, ends_or_begins, is_ended_by, text_of}
use Rattle.git_config.specs.Spelling as spelling
use Rattle.git_config.proofs.Bytes.{BareCase, ends, escapes, quotes, comments, blank, stands, bare_case}
use Rattle.git_config.proofs.Bytes.{QuotedCase, ends_quoted, escapes_quoted, closes, stands_quoted, quoted_case}
use Rattle.git_config.proofs.Bytes.{EscapeCase, continues, means, wrong, escape_case}
use Rattle.git_config.proofs.ValueText.{kept_of, kept_is_text}
use Rattle.git_config.proofs.ValueAgain.{read_to, cons_first}

-- what stands outside quotes from here on
pub record TakesBare (text value rest bytes : List ℕ) (kept : ℕ) : Type 0 where
  pub stretches : List Stretch
  pub ending : Ending
  pub good : list_all is_stretch stretches ≡ true
  pub ends_well : is_ending ending ≡ true
  pub stop : is_ended_by ending rest ≡ true
  pub parts : text ≡ flat_map spelled_stretch stretches ++ (spelled_ending ending ++ rest)
  pub value_is : value ≡ kept_of (flat_map parts_of stretches ++ ending_parts ending) bytes kept

-- what stands in quotes from here on, and outside them after the closing quote
pub record TakesQuoted (text value rest bytes : List ℕ) (kept : ℕ) : Type 0 where
  pub signs : List Sign
  pub stretches : List Stretch
  pub ending : Ending
  pub good_signs : list_all (is_sign is_quoted_byte) signs ≡ true
  pub good : list_all is_stretch stretches ≡ true
  pub ends_well : is_ending ending ≡ true
  pub stop : is_ended_by ending rest ≡ true
  pub parts : text ≡ flat_map spelled_sign signs ++ 34 ∷ (flat_map spelled_stretch stretches ++ (spelled_ending ending ++ rest))
  pub value_is : value ≡ kept_of (map quoted_part signs ++ Nothing ∷ (flat_map parts_of stretches ++ ending_parts ending)) bytes kept

abbrev pub Takes : Bool → List ℕ → List ℕ → List ℕ → List ℕ → ℕ → Type 0
Takes true = TakesQuoted
Takes false = TakesBare

-- a test's first byte, and what is before it
pub none_before : (p : ℕ → Bool) (xs : List ℕ) → list_all (λ b. not (p b)) (take (position_or_len p xs) xs) ≡ true
none_before p [] = refl
none_before p (x ∷ xs) = at (p x) refl (none_before p xs)
  where
    at : (t : Bool) → p x ≡ t → list_all (λ b. not (p b)) (take (position_or_len p xs) xs) ≡ true → list_all (λ b. not (p b)) (take (position_or_len p (x ∷ xs)) (x ∷ xs)) ≡ true
    at true is later = rw is refl
    at false is later = let e : 1 + position_or_len p xs ≡ suc (position_or_len p xs) = omega arith in rw (is, e, is) later

pub first_stops : (p : ℕ → Bool) (xs : List ℕ) → ends_or_begins p (drop (position_or_len p xs) xs) ≡ true
first_stops p [] = refl
first_stops p (x ∷ xs) = at (p x) refl (first_stops p xs)
  where
    at : (t : Bool) → p x ≡ t → ends_or_begins p (drop (position_or_len p xs) xs) ≡ true → ends_or_begins p (drop (position_or_len p (x ∷ xs)) (x ∷ xs)) ≡ true
    at true is later = rw is is
    at false is later = let e : 1 + position_or_len p xs ≡ suc (position_or_len p xs) = omega arith in rw (is, e) later

abbrev pub Oks : {A : Type 0} → A → Result A ConfigFault
Oks x = Ok x

pub ok_is : {A : Type 0} (x y : A) → Oks x ≡ Oks y → x ≡ y
ok_is x y e = cc

-- what an end gives
ended_ok : (line lines : ℕ) (bytes : List ℕ) (kept : ℕ) (text value rest : List ℕ) (l : ℕ) → ended_at line (read_to false bytes kept lines) text ≡ Ok (value, l, rest) → (take kept bytes ≡ value) × (text ≡ rest)
ended_ok line lines bytes kept text value rest l e =
    let same : (take kept bytes, lines, text) ≡ (value, l, rest) = ok_is (take kept bytes, lines, text) (value, l, rest) e in
    (ap (λ (x : List ℕ × ℕ × List ℕ). x.0) same, ap (λ (x : List ℕ × ℕ × List ℕ). x.2) same)

-- one byte more in front
bare_in_front : (s : Sign) (text value rest bytes bytes' : List ℕ) (kept kept' : ℕ) → is_sign is_bare_byte s ≡ true → ((ps : List Part) → kept_of (bare_part s ∷ ps) bytes kept ≡ kept_of ps bytes' kept')
    → TakesBare text value rest bytes' kept' → TakesBare (spelled_sign s ++ text) value rest bytes kept
bare_in_front s text value rest bytes bytes' kept kept' ok same t = record {
  stretches = Outside s ∷ t.stretches;
  ending = t.ending;
  good = rw ok t.good;
  ends_well = t.ends_well;
  stop = t.stop;
  parts = ap (λ (x : List ℕ). spelled_sign s ++ x) t.parts ∙ sym (cons_first spelled_stretch (Outside s) t.stretches (spelled_ending t.ending ++ rest));
  value_is = t.value_is ∙ sym (same (flat_map parts_of t.stretches ++ ending_parts t.ending));
}

quoted_in_front : (s : Sign) (text value rest bytes bytes' : List ℕ) (kept kept' : ℕ) → is_sign is_quoted_byte s ≡ true → ((ps : List Part) → kept_of (quoted_part s ∷ ps) bytes kept ≡ kept_of ps bytes' kept')
    → TakesQuoted text value rest bytes' kept' → TakesQuoted (spelled_sign s ++ text) value rest bytes kept
quoted_in_front s text value rest bytes bytes' kept kept' ok same t = record {
  signs = s ∷ t.signs;
  stretches = t.stretches;
  ending = t.ending;
  good_signs = rw ok t.good_signs;
  good = t.good;
  ends_well = t.ends_well;
  stop = t.stop;
  parts = ap (λ (x : List ℕ). spelled_sign s ++ x) t.parts ∙ sym (cons_first spelled_sign s t.signs (34 ∷ (flat_map spelled_stretch t.stretches ++ (spelled_ending t.ending ++ rest))));
  value_is = t.value_is ∙ sym (same (map quoted_part t.signs ++ Nothing ∷ (flat_map parts_of t.stretches ++ ending_parts t.ending)));
}

-- a quote opens
opens : (text value rest bytes : List ℕ) (kept : ℕ) → TakesQuoted text value rest bytes (length bytes) → TakesBare (34 ∷ text) value rest bytes kept
opens text value rest bytes kept t =
    let tail : List ℕ = flat_map spelled_stretch t.stretches ++ (spelled_ending t.ending ++ rest) in
    let last : List Part = flat_map parts_of t.stretches ++ ending_parts t.ending in
    let spelled : (flat_map spelled_sign t.signs ++ 34 ∷ []) ++ tail ≡ flat_map spelled_sign t.signs ++ 34 ∷ tail = append_assoc (flat_map spelled_sign t.signs) (34 ∷ []) tail in
    let ps : (map quoted_part t.signs ++ Nothing ∷ []) ++ last ≡ map quoted_part t.signs ++ Nothing ∷ last = append_assoc (map quoted_part t.signs) (Nothing ∷ []) last in
    record {
      stretches = InQuotes t.signs ∷ t.stretches;
      ending = t.ending;
      good = rw t.good_signs t.good;
      ends_well = t.ends_well;
      stop = t.stop;
      parts = ap (λ (x : List ℕ). 34 ∷ x) (t.parts ∙ sym spelled) ∙ sym (cons_first spelled_stretch (InQuotes t.signs) t.stretches (spelled_ending t.ending ++ rest));
      value_is = t.value_is ∙ ap (λ (qs : List Part). kept_of qs bytes (length bytes)) (sym ps)
          ∙ ap (λ (qs : List Part). kept_of qs bytes kept) (sym (append_assoc (parts_of (InQuotes t.signs)) (flat_map parts_of t.stretches) (ending_parts t.ending)) ∙ ap (λ (qs : List Part). qs ++ ending_parts t.ending) (sym (flat_map-cons parts_of (InQuotes t.signs) t.stretches)));
    }

-- a quote closes
shuts : (text value rest bytes : List ℕ) (kept : ℕ) → TakesBare text value rest bytes (length bytes) → TakesQuoted (34 ∷ text) value rest bytes kept
shuts text value rest bytes kept t = record {
  signs = [];
  stretches = t.stretches;
  ending = t.ending;
  good_signs = refl;
  good = t.good;
  ends_well = t.ends_well;
  stop = t.stop;
  parts = ap (λ (x : List ℕ). 34 ∷ x) t.parts;
  value_is = t.value_is;
}

-- the value ends here
ends_here : (ending : Ending) (text value rest bytes : List ℕ) (kept : ℕ) → is_ending ending ≡ true → is_ended_by ending rest ≡ true → text ≡ spelled_ending ending ++ rest → value ≡ kept_of (ending_parts ending) bytes kept → TakesBare text value rest bytes kept
ends_here ending text value rest bytes kept good stop parts value_is = record { stretches = []; ending = ending; good = refl; ends_well = good; stop = stop; parts = parts; value_is = value_is }

comment_here : (mark : ℕ) (text value rest bytes : List ℕ) (kept : ℕ) → is_comment_mark mark ≡ true → line_end text ≡ rest → take kept bytes ≡ value → TakesBare (mark ∷ text) value rest bytes kept
unfolding line_end
comment_here mark text value rest bytes kept is behind value_is =
    let n : ℕ = position_or_len is_line_end text in
    ends_here (AtComment mark (take n text)) (mark ∷ text) value rest bytes kept (rw is (none_before is_line_end text)) (subst (λ (r : List ℕ). is_at_end r ≡ true) behind (first_stops is_line_end text))
    (ap (λ (x : List ℕ). mark ∷ x) (sym (take-append-drop n text) ∙ ap (λ (r : List ℕ). take n text ++ r) behind)) (sym value_is)

-- what is taken of fewer bytes
abbrev Later : ℕ → ℕ → List ℕ → List ℕ → ℕ → Type 0
Later n line value rest l = (quoted : Bool) (bytes : List ℕ) (kept lines : ℕ) (text : List ℕ) → length text ≤ n → value_from line (read_to quoted bytes kept lines) text ≡ Ok (value, l, rest) → Takes quoted text value rest bytes kept

-- after a backslash
escaped_bare : (n line : ℕ) (value rest : List ℕ) (l : ℕ) → Later n line value rest l → (bytes : List ℕ) (kept lines : ℕ) (text : List ℕ) → length text ≤ n
    → value_from line (record { quoted = false; escaped = true; bytes = bytes; kept = length bytes; lines = lines }) text ≡ Ok (value, l, rest) → TakesBare (92 ∷ text) value rest bytes kept
unfolding value_from
escaped_bare n line value rest l later bytes kept lines [] le e =
    let same = ended_ok line lines bytes (length bytes) [] value rest l e in
    ends_here AtCut (92 ∷ []) value rest bytes kept refl (rw (sym same.1) refl) (ap (λ (r : List ℕ). 92 ∷ r) same.1) (sym same.0)
escaped_bare n line value rest l later bytes kept lines (b ∷ text) le e = at (escape_case b)
  where
    r : Reading
    r = record { quoted = false; escaped = true; bytes = bytes; kept = length bytes; lines = lines }

    at : EscapeCase b → TakesBare (92 ∷ b ∷ text) value rest bytes kept
    at (continues is piece) =
        let read : value_from line (read_to false bytes (length bytes) (lines + 1)) text ≡ Ok (value, l, rest) = sym (ap (λ m. marked line m r b text (λ then. value_from line then text)) piece) ∙ e in
        subst (λ (x : ℕ). TakesBare (92 ∷ x ∷ text) value rest bytes kept) (sym is)
        (bare_in_front spelling.Continued text value rest bytes bytes kept (length bytes) refl (λ ps. refl) (later false bytes (length bytes) (lines + 1) text (omega arith) read))
    at (means s is piece) =
        let read : value_from line (read_to false (bytes ++ meant s ∷ []) (length bytes + 1) lines) text ≡ Ok (value, l, rest) = sym (ap (λ m. marked line m r b text (λ then. value_from line then text)) piece) ∙ e in
        subst (λ (x : ℕ). TakesBare (92 ∷ x ∷ text) value rest bytes kept) (sym is)
        (bare_in_front (spelling.Escaped s) text value rest bytes (bytes ++ meant s ∷ []) kept (length bytes + 1) refl (λ ps. refl) (later false (bytes ++ meant s ∷ []) (length bytes + 1) lines text (omega arith) read))
    at (wrong piece) = let none = sym (ap (λ m. marked line m r b text (λ then. value_from line then text)) piece) ∙ e in absurd cc

escaped_quoted : (n line : ℕ) (value rest : List ℕ) (l : ℕ) → Later n line value rest l → (bytes : List ℕ) (kept lines : ℕ) (text : List ℕ) → length text ≤ n
    → value_from line (record { quoted = true; escaped = true; bytes = bytes; kept = length bytes; lines = lines }) text ≡ Ok (value, l, rest) → TakesQuoted (92 ∷ text) value rest bytes kept
unfolding value_from
escaped_quoted n line value rest l later bytes kept lines [] le e = absurd cc
escaped_quoted n line value rest l later bytes kept lines (b ∷ text) le e = at (escape_case b)
  where
    r : Reading
    r = record { quoted = true; escaped = true; bytes = bytes; kept = length bytes; lines = lines }

    at : EscapeCase b → TakesQuoted (92 ∷ b ∷ text) value rest bytes kept
    at (continues is piece) =
        let read : value_from line (read_to true bytes (length bytes) (lines + 1)) text ≡ Ok (value, l, rest) = sym (ap (λ m. marked line m r b text (λ then. value_from line then text)) piece) ∙ e in
        subst (λ (x : ℕ). TakesQuoted (92 ∷ x ∷ text) value rest bytes kept) (sym is)
        (quoted_in_front spelling.Continued text value rest bytes bytes kept (length bytes) refl (λ ps. refl) (later true bytes (length bytes) (lines + 1) text (omega arith) read))
    at (means s is piece) =
        let read : value_from line (read_to true (bytes ++ meant s ∷ []) (length bytes + 1) lines) text ≡ Ok (value, l, rest) = sym (ap (λ m. marked line m r b text (λ then. value_from line then text)) piece) ∙ e in
        subst (λ (x : ℕ). TakesQuoted (92 ∷ x ∷ text) value rest bytes kept) (sym is)
        (quoted_in_front (spelling.Escaped s) text value rest bytes (bytes ++ meant s ∷ []) kept (length bytes + 1) refl (λ ps. refl) (later true (bytes ++ meant s ∷ []) (length bytes + 1) lines text (omega arith) read))
    at (wrong piece) = let none = sym (ap (λ m. marked line m r b text (λ then. value_from line then text)) piece) ∙ e in absurd cc

bare_byte : (n line : ℕ) (value rest : List ℕ) (l : ℕ) → Later n line value rest l → (bytes : List ℕ) (kept lines b : ℕ) (text : List ℕ) → length text ≤ n
    → value_from line (read_to false bytes kept lines) (b ∷ text) ≡ Ok (value, l, rest) → BareCase b → TakesBare (b ∷ text) value rest bytes kept
unfolding value_from
bare_byte n line value rest l later bytes kept lines b text le e (ends is piece) =
    let read = sym (ap (λ m. marked line m (read_to false bytes kept lines) b text (λ then. value_from line then text)) piece) ∙ e in
    let same = ended_ok line lines bytes kept (b ∷ text) value rest l read in
    ends_here AtLineEnd (b ∷ text) value rest bytes kept refl (rw (sym same.1, is) refl) same.1 (sym same.0)
bare_byte n line value rest l later bytes kept lines b text le e (escapes is piece) =
    let read = sym (ap (λ m. marked line m (read_to false bytes kept lines) b text (λ then. value_from line then text)) piece) ∙ e in
    subst (λ (x : ℕ). TakesBare (x ∷ text) value rest bytes kept) (sym is) (escaped_bare n line value rest l later bytes kept lines text le read)
bare_byte n line value rest l later bytes kept lines b text le e (quotes is piece) =
    let read = sym (ap (λ m. marked line m (read_to false bytes kept lines) b text (λ then. value_from line then text)) piece) ∙ e in
    subst (λ (x : ℕ). TakesBare (x ∷ text) value rest bytes kept) (sym is) (opens text value rest bytes kept (later true bytes (length bytes) lines text le read))
bare_byte n line value rest l later bytes kept lines b text le e (comments is piece) =
    let read = sym (ap (λ m. marked line m (read_to false bytes kept lines) b text (λ then. value_from line then text)) piece) ∙ e in
    let same = ended_ok line lines bytes kept (line_end text) value rest l read in
    comment_here b text value rest bytes kept is same.1 same.0
bare_byte n line value rest l later bytes kept lines b text le e (blank bare is piece) =
    let read = sym (ap (λ m. marked line m (read_to false bytes kept lines) b text (λ then. value_from line then text)) piece) ∙ e in
    bare_in_front (spelling.Plain b) text value rest bytes (with_blank bytes b) kept kept bare
    (λ ps. ap (λ (t : Bool). cond t (kept_of ps (with_blank bytes b) kept) (kept_of ps (bytes ++ b ∷ []) (length bytes + 1))) is) (later false (with_blank bytes b) kept lines text le read)
bare_byte n line value rest l later bytes kept lines b text le e (stands bare is piece) =
    let read = sym (ap (λ m. marked line m (read_to false bytes kept lines) b text (λ then. value_from line then text)) piece) ∙ e in
    bare_in_front (spelling.Plain b) text value rest bytes (bytes ++ b ∷ []) kept (length bytes + 1) bare
    (λ ps. ap (λ (t : Bool). cond t (kept_of ps (with_blank bytes b) kept) (kept_of ps (bytes ++ b ∷ []) (length bytes + 1))) is) (later false (bytes ++ b ∷ []) (length bytes + 1) lines text le read)

quoted_byte : (n line : ℕ) (value rest : List ℕ) (l : ℕ) → Later n line value rest l → (bytes : List ℕ) (kept lines b : ℕ) (text : List ℕ) → length text ≤ n
    → value_from line (read_to true bytes kept lines) (b ∷ text) ≡ Ok (value, l, rest) → QuotedCase b → TakesQuoted (b ∷ text) value rest bytes kept
unfolding value_from
quoted_byte n line value rest l later bytes kept lines b text le e (ends_quoted is piece) =
    let none = sym (ap (λ m. marked line m (read_to true bytes kept lines) b text (λ then. value_from line then text)) piece) ∙ e in absurd cc
quoted_byte n line value rest l later bytes kept lines b text le e (escapes_quoted is piece) =
    let read = sym (ap (λ m. marked line m (read_to true bytes kept lines) b text (λ then. value_from line then text)) piece) ∙ e in
    subst (λ (x : ℕ). TakesQuoted (x ∷ text) value rest bytes kept) (sym is) (escaped_quoted n line value rest l later bytes kept lines text le read)
quoted_byte n line value rest l later bytes kept lines b text le e (closes is piece) =
    let read = sym (ap (λ m. marked line m (read_to true bytes kept lines) b text (λ then. value_from line then text)) piece) ∙ e in
    subst (λ (x : ℕ). TakesQuoted (x ∷ text) value rest bytes kept) (sym is) (shuts text value rest bytes kept (later false bytes (length bytes) lines text le read))
quoted_byte n line value rest l later bytes kept lines b text le e (stands_quoted good piece) =
    let read = sym (ap (λ m. marked line m (read_to true bytes kept lines) b text (λ then. value_from line then text)) piece) ∙ e in
    quoted_in_front (spelling.Plain b) text value rest bytes (bytes ++ b ∷ []) kept (length bytes + 1) good (λ ps. refl) (later true (bytes ++ b ∷ []) (length bytes + 1) lines text le read)

takes : (n line : ℕ) (value rest : List ℕ) (l : ℕ) → Later n line value rest l
unfolding value_from
takes n line value rest l true bytes kept lines [] le e = absurd cc
takes n line value rest l false bytes kept lines [] le e =
    let same = ended_ok line lines bytes kept [] value rest l e in
    ends_here AtLineEnd [] value rest bytes kept refl (rw (sym same.1) refl) same.1 (sym same.0)
takes zero line value rest l quoted bytes kept lines (b ∷ text) le e = absurd (omega arith)
takes (suc n) line value rest l true bytes kept lines (b ∷ text) le e = quoted_byte n line value rest l (takes n line value rest l) bytes kept lines b text (omega arith) e (quoted_case b)
takes (suc n) line value rest l false bytes kept lines (b ∷ text) le e = bare_byte n line value rest l (takes n line value rest l) bytes kept lines b text (omega arith) e (bare_case b)

pub record TakesValue (text value rest : List ℕ) : Type 0 where
  pub stretches : List Stretch
  pub ending : Ending
  pub good : list_all is_stretch stretches ≡ true
  pub ends_well : is_ending ending ≡ true
  pub stop : is_ended_by ending rest ≡ true
  pub parts : text ≡ flat_map spelled_stretch stretches ++ (spelled_ending ending ++ rest)
  pub value_is : value ≡ text_of (flat_map parts_of stretches ++ ending_parts ending)

pub value_takes : (line : ℕ) (text value rest : List ℕ) (lines : ℕ) → value_at line text ≡ Ok (value, lines, rest) → TakesValue text value rest
value_takes line text value rest lines e =
    let t : TakesBare text value rest [] 0 = takes (length text) line value rest lines false [] 0 0 text (omega arith) e in
    record {
      stretches = t.stretches;
      ending = t.ending;
      good = t.good;
      ends_well = t.ends_well;
      stop = t.stop;
      parts = t.parts;
      value_is = t.value_is ∙ kept_is_text (flat_map parts_of t.stretches ++ ending_parts t.ending);
    }
