-- A value that is spelled is read.
use Rattle.std.proofs.Common.{◌≡◌, ℕ, ◌+◌, Bool, true, false, not, cond, List, [], ◌∷◌, ◌++◌, length, take, drop, map, Ok, refl, sym, ap, subst, ◌∙◌, append_assoc, arith}
use Rattle.std.specs.List.{flat_map, list_all, position_or_len}
use Rattle.std.proofs.lemmas.Bool.{and_parts}
use Rattle.std.proofs.lemmas.List.{take_at, drop_at}
use Rattle.std.proofs.lemmas.List.Concat.{flat_map-cons}
use Rattle.std.proofs.lemmas.Grind.{common_steps}
use Rattle.git_config.specs.declared.value.Mark.TheVariants.{Comment, More}
use Rattle.git_config.specs.declared.value.Piece.TheVariants.{Quote, Blank, Byte, Continued}
use Rattle.git_config.specs.Text.{is_line_end, is_comment_mark, line_end}
use Rattle.git_config.specs.Value.{Reading, plain_of, escape_of, after_piece, ended_at, marked, with_blank, value_from, value_at}
use Rattle.git_config.specs.Spelling.{Sign, Stretch, Outside, InQuotes, Part, Escape, letter, meant, Ending, AtLineEnd, AtComment, AtCut}
use Rattle.git_config.specs.Spelling.{spelled_sign, is_sign, is_quoted_byte, is_bare_byte, spelled_stretch, is_stretch, bare_part, quoted_part, parts_of}
use Rattle.git_config.specs.Spelling.{spelled_ending, ending_parts, is_comment, is_ending, is_at_end, ends_or_begins, is_ended_by, text_of, Bare, Quoted, Nothing}
use Rattle.git_config.specs.Spelling as spelling
use Rattle.git_config.proofs.Bytes.{same, BareCase, ends, escapes, quotes, comments, blank, stands, bare_case}
use Rattle.git_config.proofs.Bytes.{QuotedCase, ends_quoted, escapes_quoted, closes, stands_quoted, quoted_case, escape_is}
use Rattle.git_config.proofs.ValueText.{kept_of, kept_is_text}

-- a reading outside an escape
abbrev pub read_to : Bool → List ℕ → ℕ → ℕ → Reading
read_to quoted bytes kept lines = record { quoted = quoted; escaped = false; bytes = bytes; kept = kept; lines = lines }

-- the value that is read from here on, and what is left after it
abbrev pub Gives : ℕ → Reading → List ℕ → List ℕ → List ℕ → Type 0
Gives line r text value rest = (lines : ℕ) × (value_from line r text ≡ Ok (value, lines, rest))

-- one byte further
on : (line : ℕ) (quoted : Bool) (bytes : List ℕ) (kept lines b : ℕ) (text value rest : List ℕ) (p : _) → plain_of quoted b ≡ More p
    → Gives line (after_piece p (read_to quoted bytes kept lines)) text value rest → Gives line (read_to quoted bytes kept lines) (b ∷ text) value rest
unfolding value_from
on line quoted bytes kept lines b text value rest p is later =
    (later.0, ap (λ m. marked line m (read_to quoted bytes kept lines) b text (λ then. value_from line then text)) is ∙ later.1)

-- after a backslash
escaped_on : (line : ℕ) (quoted : Bool) (bytes : List ℕ) (kept lines b : ℕ) (text value rest : List ℕ) (p : _) → escape_of b ≡ More p
    → Gives line (after_piece p (record { quoted = quoted; escaped = true; bytes = bytes; kept = length bytes; lines = lines })) text value rest
    → Gives line (read_to quoted bytes kept lines) (92 ∷ b ∷ text) value rest
unfolding value_from
escaped_on line quoted bytes kept lines b text value rest p is later =
    (later.0, ap (λ m. marked line m (record { quoted = quoted; escaped = true; bytes = bytes; kept = length bytes; lines = lines }) b text (λ then. value_from line then text)) is ∙ later.1)

-- what is read after a text, whatever was read before it
abbrev pub GivesBehind : ℕ → Bool → List ℕ → List Part → List ℕ → Type 0
GivesBehind line quoted text ps rest = (bytes : List ℕ) (kept lines : ℕ) → Gives line (read_to quoted bytes kept lines) text (kept_of ps bytes kept) rest

-- a sign in quotes
quoted_plain : (line b : ℕ) (text : List ℕ) (ps : List Part) (rest : List ℕ) → QuotedCase b → is_quoted_byte b ≡ true → GivesBehind line true text ps rest → GivesBehind line true (b ∷ text) (Quoted b ∷ ps) rest
quoted_plain line b text ps rest (ends_quoted is piece) ok later = let e : is_quoted_byte 10 ≡ true = subst (λ (x : ℕ). is_quoted_byte x ≡ true) is ok in absurd cc
quoted_plain line b text ps rest (escapes_quoted is piece) ok later = let e : is_quoted_byte 92 ≡ true = subst (λ (x : ℕ). is_quoted_byte x ≡ true) is ok in absurd cc
quoted_plain line b text ps rest (closes is piece) ok later = let e : is_quoted_byte 34 ≡ true = subst (λ (x : ℕ). is_quoted_byte x ≡ true) is ok in absurd cc
quoted_plain line b text ps rest (stands_quoted is piece) ok later = λ bytes kept lines.
    on line true bytes kept lines b text (kept_of ps (bytes ++ b ∷ []) (length bytes + 1)) rest (Byte b) piece (later (bytes ++ b ∷ []) (length bytes + 1) lines)

quoted_again : (line : ℕ) (s : Sign) (text : List ℕ) (ps : List Part) (rest : List ℕ) → is_sign is_quoted_byte s ≡ true → GivesBehind line true text ps rest → GivesBehind line true (spelled_sign s ++ text) (quoted_part s ∷ ps) rest
quoted_again line (spelling.Plain b) text ps rest ok later = quoted_plain line b text ps rest (quoted_case b) ok later
quoted_again line (spelling.Escaped e) text ps rest ok later = λ bytes kept lines.
    escaped_on line true bytes kept lines (letter e) text (kept_of ps (bytes ++ meant e ∷ []) (length bytes + 1)) rest (Byte (meant e)) (escape_is e) (later (bytes ++ meant e ∷ []) (length bytes + 1) lines)
quoted_again line spelling.Continued text ps rest ok later = λ bytes kept lines.
    escaped_on line true bytes kept lines 10 text (kept_of ps bytes (length bytes)) rest Continued refl (later bytes (length bytes) (lines + 1))

-- a sign outside quotes
bare_plain : (line b : ℕ) (text : List ℕ) (ps : List Part) (rest : List ℕ) → BareCase b → is_bare_byte b ≡ true → GivesBehind line false text ps rest → GivesBehind line false (b ∷ text) (Bare b ∷ ps) rest
bare_plain line b text ps rest (ends is piece) ok later = let e : is_bare_byte 10 ≡ true = subst (λ (x : ℕ). is_bare_byte x ≡ true) is ok in absurd cc
bare_plain line b text ps rest (escapes is piece) ok later = let e : is_bare_byte 92 ≡ true = subst (λ (x : ℕ). is_bare_byte x ≡ true) is ok in absurd cc
bare_plain line b text ps rest (quotes is piece) ok later = let e : is_bare_byte 34 ≡ true = subst (λ (x : ℕ). is_bare_byte x ≡ true) is ok in absurd cc
bare_plain line b text ps rest (comments is piece) ok later = let e = and_parts (is_quoted_byte b) (not (is_comment_mark b)) ok in let f : not true ≡ true = rw is at e.1 in absurd cc
bare_plain line b text ps rest (blank bare is piece) ok later = λ bytes kept lines.
    let value : kept_of (Bare b ∷ ps) bytes kept ≡ kept_of ps (with_blank bytes b) kept = ap (λ (t : Bool). cond t (kept_of ps (with_blank bytes b) kept) (kept_of ps (bytes ++ b ∷ []) (length bytes + 1))) is in
    subst (λ (v : List ℕ). Gives line (read_to false bytes kept lines) (b ∷ text) v rest) (sym value)
    (on line false bytes kept lines b text (kept_of ps (with_blank bytes b) kept) rest (Blank b) piece (later (with_blank bytes b) kept lines))
bare_plain line b text ps rest (stands bare is piece) ok later = λ bytes kept lines.
    let value : kept_of (Bare b ∷ ps) bytes kept ≡ kept_of ps (bytes ++ b ∷ []) (length bytes + 1) = ap (λ (t : Bool). cond t (kept_of ps (with_blank bytes b) kept) (kept_of ps (bytes ++ b ∷ []) (length bytes + 1))) is in
    subst (λ (v : List ℕ). Gives line (read_to false bytes kept lines) (b ∷ text) v rest) (sym value)
    (on line false bytes kept lines b text (kept_of ps (bytes ++ b ∷ []) (length bytes + 1)) rest (Byte b) piece (later (bytes ++ b ∷ []) (length bytes + 1) lines))

bare_again : (line : ℕ) (s : Sign) (text : List ℕ) (ps : List Part) (rest : List ℕ) → is_sign is_bare_byte s ≡ true → GivesBehind line false text ps rest → GivesBehind line false (spelled_sign s ++ text) (bare_part s ∷ ps) rest
bare_again line (spelling.Plain b) text ps rest ok later = bare_plain line b text ps rest (bare_case b) ok later
bare_again line (spelling.Escaped e) text ps rest ok later = λ bytes kept lines.
    escaped_on line false bytes kept lines (letter e) text (kept_of ps (bytes ++ meant e ∷ []) (length bytes + 1)) rest (Byte (meant e)) (escape_is e) (later (bytes ++ meant e ∷ []) (length bytes + 1) lines)
bare_again line spelling.Continued text ps rest ok later = λ bytes kept lines.
    escaped_on line false bytes kept lines 10 text (kept_of ps bytes (length bytes)) rest Continued refl (later bytes (length bytes) (lines + 1))

pub cons_first : {X : Type 0} (f : X → List ℕ) (x : X) (xs : List X) (text : List ℕ) → flat_map f (x ∷ xs) ++ text ≡ f x ++ (flat_map f xs ++ text)
cons_first f x xs text = ap (λ (t : List ℕ). t ++ text) (flat_map-cons f x xs) ∙ append_assoc (f x) (flat_map f xs) text

signs_again : (line : ℕ) (ss : List Sign) (text : List ℕ) (ps : List Part) (rest : List ℕ) → list_all (is_sign is_quoted_byte) ss ≡ true → GivesBehind line true text ps rest
    → GivesBehind line true (flat_map spelled_sign ss ++ text) (map quoted_part ss ++ ps) rest
signs_again line [] text ps rest ok later = later
signs_again line (s ∷ ss) text ps rest ok later =
    let both = and_parts (is_sign is_quoted_byte s) (list_all (is_sign is_quoted_byte) ss) ok in
    subst (λ (t : List ℕ). GivesBehind line true t (map quoted_part (s ∷ ss) ++ ps) rest) (sym (cons_first spelled_sign s ss text))
    (quoted_again line s (flat_map spelled_sign ss ++ text) (map quoted_part ss ++ ps) rest both.0 (signs_again line ss text ps rest both.1 later))

closed : (line : ℕ) (text : List ℕ) (ps : List Part) (rest : List ℕ) → GivesBehind line false text ps rest → GivesBehind line true (34 ∷ text) (Nothing ∷ ps) rest
closed line text ps rest later bytes kept lines = on line true bytes kept lines 34 text (kept_of ps bytes (length bytes)) rest Quote refl (later bytes (length bytes) lines)

opened : (line : ℕ) (text : List ℕ) (ps : List Part) (rest : List ℕ) → GivesBehind line true text ps rest → GivesBehind line false (34 ∷ text) (Nothing ∷ ps) rest
opened line text ps rest later bytes kept lines = on line false bytes kept lines 34 text (kept_of ps bytes (length bytes)) rest Quote refl (later bytes (length bytes) lines)

stretch_again : (line : ℕ) (s : Stretch) (text : List ℕ) (ps : List Part) (rest : List ℕ) → is_stretch s ≡ true → GivesBehind line false text ps rest → GivesBehind line false (spelled_stretch s ++ text) (parts_of s ++ ps) rest
stretch_again line (Outside s) text ps rest ok later = bare_again line s text ps rest ok later
stretch_again line (InQuotes ss) text ps rest ok later =
    let spelled : (flat_map spelled_sign ss ++ 34 ∷ []) ++ text ≡ flat_map spelled_sign ss ++ 34 ∷ text = append_assoc (flat_map spelled_sign ss) (34 ∷ []) text in
    let parts : (map quoted_part ss ++ Nothing ∷ []) ++ ps ≡ map quoted_part ss ++ Nothing ∷ ps = append_assoc (map quoted_part ss) (Nothing ∷ []) ps in
    let inner : GivesBehind line true (flat_map spelled_sign ss ++ 34 ∷ text) (map quoted_part ss ++ Nothing ∷ ps) rest =
    signs_again line ss (34 ∷ text) (Nothing ∷ ps) rest ok (closed line text ps rest later) in
    opened line ((flat_map spelled_sign ss ++ 34 ∷ []) ++ text) ((map quoted_part ss ++ Nothing ∷ []) ++ ps) rest
    (subst (λ (t : List ℕ). GivesBehind line true t ((map quoted_part ss ++ Nothing ∷ []) ++ ps) rest) (sym spelled)
    (subst (λ (qs : List Part). GivesBehind line true (flat_map spelled_sign ss ++ 34 ∷ text) qs rest) (sym parts) inner))

stretches_again : (line : ℕ) (ss : List Stretch) (text : List ℕ) (ps : List Part) (rest : List ℕ) → list_all is_stretch ss ≡ true → GivesBehind line false text ps rest
    → GivesBehind line false (flat_map spelled_stretch ss ++ text) (flat_map parts_of ss ++ ps) rest
stretches_again line [] text ps rest ok later = later
stretches_again line (s ∷ ss) text ps rest ok later =
    let both = and_parts (is_stretch s) (list_all is_stretch ss) ok in
    let parts : flat_map parts_of (s ∷ ss) ++ ps ≡ parts_of s ++ (flat_map parts_of ss ++ ps) = ap (λ (t : List Part). t ++ ps) (flat_map-cons parts_of s ss) ∙ append_assoc (parts_of s) (flat_map parts_of ss) ps in
    subst (λ (t : List ℕ). GivesBehind line false t (flat_map parts_of (s ∷ ss) ++ ps) rest) (sym (cons_first spelled_stretch s ss text))
    (subst (λ (qs : List Part). GivesBehind line false (spelled_stretch s ++ (flat_map spelled_stretch ss ++ text)) qs rest) (sym parts)
    (stretch_again line s (flat_map spelled_stretch ss ++ text) (flat_map parts_of ss ++ ps) rest both.0 (stretches_again line ss text ps rest both.1 later)))

-- Where the first byte that passes a test stands: right after a text of others, if the rest begins with one or is empty.
pub first_behind : (p : ℕ → Bool) (xs rest : List ℕ) → list_all (λ b. not (p b)) xs ≡ true → ends_or_begins p rest ≡ true → position_or_len p (xs ++ rest) ≡ length xs
first_behind p [] [] none stop = refl
first_behind p [] (b ∷ rest) none stop = let e : p b ≡ true = stop in rw e refl
first_behind p (x ∷ xs) rest none stop =
    let both = and_parts (not (p x)) (list_all (λ b. not (p b)) xs) none in
    let no : p x ≡ false = grind (arith, common_steps) in
    let later = first_behind p xs rest both.1 stop in
    rw (no, later) (omega arith)

pub taken_behind : (p : ℕ → Bool) (xs rest : List ℕ) → list_all (λ b. not (p b)) xs ≡ true → ends_or_begins p rest ≡ true → take (position_or_len p (xs ++ rest)) (xs ++ rest) ≡ xs
taken_behind p xs rest none stop = ap (λ (n : ℕ). take n (xs ++ rest)) (first_behind p xs rest none stop) ∙ take_at xs rest (length xs) refl

pub left_behind : (p : ℕ → Bool) (xs rest : List ℕ) → list_all (λ b. not (p b)) xs ≡ true → ends_or_begins p rest ≡ true → drop (position_or_len p (xs ++ rest)) (xs ++ rest) ≡ rest
left_behind p xs rest none stop = ap (λ (n : ℕ). drop n (xs ++ rest)) (first_behind p xs rest none stop) ∙ drop_at xs rest (length xs) refl

pub line_end_behind : (comment rest : List ℕ) → list_all (λ b. not (is_line_end b)) comment ≡ true → is_at_end rest ≡ true → line_end (comment ++ rest) ≡ rest
unfolding line_end
line_end_behind comment rest none stop = left_behind is_line_end comment rest none stop

comment_piece : (b : ℕ) → BareCase b → is_comment_mark b ≡ true → plain_of false b ≡ Comment
comment_piece b (ends is piece) ok = let e : is_comment_mark 10 ≡ true = subst (λ (x : ℕ). is_comment_mark x ≡ true) is ok in absurd cc
comment_piece b (escapes is piece) ok = let e : is_comment_mark 92 ≡ true = subst (λ (x : ℕ). is_comment_mark x ≡ true) is ok in absurd cc
comment_piece b (quotes is piece) ok = let e : is_comment_mark 34 ≡ true = subst (λ (x : ℕ). is_comment_mark x ≡ true) is ok in absurd cc
comment_piece b (comments is piece) ok = piece
comment_piece b (blank bare is piece) ok = let e = and_parts (is_quoted_byte b) (not (is_comment_mark b)) bare in let f : not true ≡ true = rw ok at e.1 in absurd cc
comment_piece b (stands bare is piece) ok = let e = and_parts (is_quoted_byte b) (not (is_comment_mark b)) bare in let f : not true ≡ true = rw ok at e.1 in absurd cc

ending_again : (line : ℕ) (e : Ending) (rest : List ℕ) → is_ending e ≡ true → is_ended_by e rest ≡ true → GivesBehind line false (spelled_ending e ++ rest) (ending_parts e) rest
unfolding value_from
ending_again line AtLineEnd [] ok stop bytes kept lines = (lines, refl)
ending_again line AtLineEnd (b ∷ rest) ok stop bytes kept lines = let is : b ≡ 10 = same b 10 stop in (lines, rw is refl)
ending_again line (AtComment mark comment) rest ok stop bytes kept lines =
    let both = and_parts (is_comment_mark mark) (list_all (λ b. not (is_line_end b)) comment) ok in (
      lines,
      ap (λ m. marked line m (read_to false bytes kept lines) mark (comment ++ rest) (λ then. value_from line then (comment ++ rest))) (comment_piece mark (bare_case mark) both.0)
          ∙ ap (ended_at line (read_to false bytes kept lines)) (line_end_behind comment rest both.1 stop),
    )
ending_again line AtCut [] ok stop bytes kept lines = (lines, refl)
ending_again line AtCut (b ∷ rest) ok stop bytes kept lines = absurd cc

pub value_again : (line : ℕ) (value : List Stretch) (ending : Ending) (rest : List ℕ) → list_all is_stretch value ≡ true → is_ending ending ≡ true → is_ended_by ending rest ≡ true
    → (lines : ℕ) × (value_at line (flat_map spelled_stretch value ++ (spelled_ending ending ++ rest)) ≡ Ok (text_of (flat_map parts_of value ++ ending_parts ending), lines, rest))
value_again line value ending rest ok ended stop =
    let read = stretches_again line value (spelled_ending ending ++ rest) (ending_parts ending) rest ok (ending_again line ending rest ended stop) [] 0 0 in
    (read.0, read.1 ∙ ap (λ (v : List ℕ). Ok (v, read.0, rest)) (kept_is_text (flat_map parts_of value ++ ending_parts ending)))
