-- What `clap`'s parses of the three tails give, word by word.
use Rattle.std.proofs.Common.{◌≡◌, ◌⊎◌, ◌∙◌, ℕ, ◌≤◌, ◌+◌, ◌-◌, ◌^◌, ◌==◌, ◌&&◌, ◌||◌, Bool, true, false, cond, not, suc, List, [], ◌∷◌, ◌++◌, length, take, drop, codes, Option, Some, None, Result, Ok, Err, IsErrAnd, refl, sym, ap, ap₂, inl, inr, arith}
use native.Mathlib.Numerals.{unary_clauses}
use Rattle.std.specs.List.{list_any, position_or_len, slice_get}
use Rattle.std.proofs.lemmas.List.{take-append-drop}
use Rattle.std.specs.Str.{bytes_eq, chars}
use Rattle.std.specs.Prelude.{nat_le, ok_or}
use Rattle.std.proofs.lemmas.Slice.Eq.{bytes_eq-Decides}
use Rattle.std.proofs.lemmas.Bool.Decides.{nat_tests}
use Rattle.clap.specs.Lexer.{strip_byte, long_of, long_of_rest, short_of, name_and_value}
use Rattle.clap.specs.Walk.{Held, Row, Text, Waiting, arg_by_index, arg_by_long, arg_by_short, first_of, idle, option, plain_word, positional, subcommand_met, walk_from, word_met}
use Rattle.clap.specs.Simple.{App, Shape, built}
use Rattle.clap.specs.Kinds.{HasKind, Kinds, or_else}
use Rattle.clap.specs.Values.{kind_of}
use Rattle.clap.specs.Words.{first_value, rows_of}
use Rattle.clap.specs.declared.parser.matches.Found.{Found}
use Rattle.clap.proofs.WalkLemmas.{first_value-rows}
use Rattle.clap.specs.declared.error.Error.{Error}
use Rattle.clap.specs.Faults.{long_fault, turn_fault, word_fault}
use Rattle.clap.proofs.OnLiterals.{clap_on_literals}
use Rattle.byte_path.specs.Decimal.{decimal_within}
use Rattle.checkout_words.specs.Words.{Reads, checkout_command, plan_command, rehearse_command, with_numbers, with_workers, workers_command}
use Rattle.checkout_words.specs.Tail.{Finds, checkout_app, checkout_by, fault_of_kind, is_plain_tail, plan_app, rehearse_app, rehearse_by, rows_in, unless_refused}
use Rattle.checkout_words.specs.declared.WordFault.{WordFault}
use Rattle.checkout_words.specs.declared.WordFault.TheVariants.{NoMemory, Usage}
use Rattle.checkout_words.specs.declared.Command.{Command}
use Rattle.checkout_words.specs.declared.Command.TheVariants.{Plan}

-- ---- what a word is

strip_byte-is : (c : ℕ) (word rest : List ℕ) → strip_byte c word ≡ Some rest → word ≡ c ∷ rest
strip_byte-is c [] rest e = cc
strip_byte-is c (x ∷ xs) rest e = go (x == c) refl
  where
    go : (t : Bool) → (x == c) ≡ t → x ∷ xs ≡ c ∷ rest
    go true t =
        let same : x ≡ c = grind (arith, nat_tests) in
        let left : Some xs ≡ Some rest = rw t at e in
        cc
    go false t = let bad : None ≡ Some rest = rw t at e in cc

-- what follows a long name
abbrev value_part : Option Text → Text
value_part None = []
value_part (Some v) = 61 ∷ v

joined_at : (x : ℕ) (xs : Text) (k m : ℕ) (t : Bool) → m ≡ suc k → xs ≡ take k xs ++ value_part (cond t (Some (drop (k + 1) xs)) None)
    → x ∷ xs ≡ take m (x ∷ xs) ++ value_part (cond t (Some (drop (m + 1) (x ∷ xs))) None)
joined_at x xs k m t e rest = rw e (simp unary_clauses (ap (λ ys. x ∷ ys) (simp unary_clauses at rest)))

name_and_value-joined : (text : Text) → text ≡ (name_and_value text).0 ++ value_part (name_and_value text).1
name_and_value-joined [] = refl
name_and_value-joined (x ∷ xs) = go (x == 61) refl (name_and_value-joined xs)
  where
    go : (t : Bool) → (x == 61) ≡ t → xs ≡ (name_and_value xs).0 ++ value_part (name_and_value xs).1
        → x ∷ xs ≡ (name_and_value (x ∷ xs)).0 ++ value_part (name_and_value (x ∷ xs)).1
    go true t rest = let same : x ≡ 61 = grind (arith, nat_tests) in rw t (ap (λ y. y ∷ xs) same)
    go false t rest = rw t (joined_at x xs (position_or_len (λ y. y == 61) xs) _ (list_any (λ y. y == 61) xs) (omega arith) rest)

long_of-is : (word name : Text) (v : Option Text) → long_of word ≡ Some (name, v) → word ≡ 45 ∷ 45 ∷ name ++ value_part v
long_of-is word name v e = go (strip_byte 45 word) refl
  where
    go_name : (rest : Text) → long_of_rest rest ≡ Some (name, v) → rest ≡ name ++ value_part v
    go_name [] e = cc
    go_name (x ∷ xs) e =
        let parts : name_and_value (x ∷ xs) ≡ (name, v) = cc in
        name_and_value-joined (x ∷ xs) ∙ ap (λ (p : Text × Option Text). p.0 ++ value_part p.1) parts

    go_rest : (rest : Text) → word ≡ 45 ∷ rest → (o : Option Text) → strip_byte 45 rest ≡ o → word ≡ 45 ∷ 45 ∷ name ++ value_part v
    go_rest rest is None o = let bad : ◌≡◌ {A = Option (Text × Option Text)} None (Some (name, v)) = rw (is, o) at e in cc
    go_rest rest is (Some more) o =
        let left : long_of_rest more ≡ Some (name, v) = rw (is, o) at e in
        is ∙ ap (λ ys. 45 ∷ ys) (strip_byte-is 45 rest more o ∙ ap (λ ys. 45 ∷ ys) (go_name more left))

    go : (o : Option Text) → strip_byte 45 word ≡ o → word ≡ 45 ∷ 45 ∷ name ++ value_part v
    go None o = let bad : ◌≡◌ {A = Option (Text × Option Text)} None (Some (name, v)) = rw o at e in cc
    go (Some rest) o = go_rest rest (strip_byte-is 45 word rest o) (strip_byte 45 rest) refl

wrong_digit : (a b c : Bool) (number : Option ℕ) → cond (a && false && b && c) number None ≡ None
wrong_digit true b c number = refl
wrong_digit false b c number = refl

-- a word that begins with a hyphen is no decimal
hyphen_no_decimal : (word rest : Text) (most : ℕ) → strip_byte 45 word ≡ Some rest → decimal_within word most ≡ None
hyphen_no_decimal word rest most e = rw (strip_byte-is 45 word rest e) (wrong_digit _ _ _ _)

long_no_decimal : (word : Text) (p : Text × Option Text) (most : ℕ) → long_of word ≡ Some p → decimal_within word most ≡ None
long_no_decimal word p most e = go (strip_byte 45 word) refl
  where
    go : (o : Option Text) → strip_byte 45 word ≡ o → decimal_within word most ≡ None
    go None o = let bad : None ≡ Some p = rw o at e in cc
    go (Some rest) o = hyphen_no_decimal word rest most o

short_no_decimal : (word flags : Text) (most : ℕ) → short_of word ≡ Some flags → decimal_within word most ≡ None
short_no_decimal word flags most e = go (strip_byte 45 word) refl
  where
    go : (o : Option Text) → strip_byte 45 word ≡ o → decimal_within word most ≡ None
    go None o = let bad : None ≡ Some flags = rw o at e in cc
    go (Some rest) o = hyphen_no_decimal word rest most o

-- ---- one word of a walk

-- what is held while no flag of a bundle is to be skipped
abbrev held : List Row → Option (Text × List Text) → Held
held rows pending = record { rows = rows; pending = pending; skip = 0 }

-- some kind of error comes
abbrev refuses : Kinds → Bool
refuses [] = false
refuses (kind ∷ more) = true

or_else_first : (first next : Kinds) → refuses first ≡ true → refuses (or_else first next) ≡ true
or_else_first [] next e = cc
or_else_first (k ∷ ks) next e = refl

no_subcommand : (waiting : Waiting) (word : Text) → subcommand_met [] waiting word ≡ None
no_subcommand idle word = refl
no_subcommand (option id) word = refl
no_subcommand positional word = refl

-- the word is refused, and since it begins with a hyphen it is no decimal
abbrev IsRefused : Shape → Waiting → Text → Held → Type 0
IsRefused s waiting word h = (refuses (word_fault s [] false waiting word h) ≡ true) × ((most : ℕ) → decimal_within word most ≡ None)

-- the word is taken as one that isn't a flag
abbrev GoesOn : Shape → Waiting → ℕ → Text → Held → Type 0
GoesOn s waiting position word h = (word_fault s [] false waiting word h ≡ [])
    × (word_met s.rules [] false waiting position word h ≡ plain_word s.rules waiting word h)

-- one of these holds for a command without short names, if each long name is refused
word_cases : (s : Shape) (waiting : Waiting) (position : ℕ) (rows : List Row) (pending : Option (Text × List Text)) (word : Text)
    → bytes_eq word (45 ∷ 45 ∷ []) ≡ false
    → ((name : Text) (v : Option Text) → long_of word ≡ Some (name, v) → refuses (long_fault s.rules s.args_override_self (arg_by_long s.rules name) v (held rows pending)) ≡ true)
    → ((x : ℕ) → arg_by_short s.rules x ≡ None)
    → IsRefused s waiting word (held rows pending) ⊎ GoesOn s waiting position word (held rows pending)
unfolding clap_on_literals
word_cases s waiting position rows pending word no_end longs shorts = go (long_of word) refl
  where
    go_chars : (y : ℕ) (ys : Text) (o : Option ℕ) → slice_get (chars (y ∷ ys)) 0 ≡ o → long_of word ≡ None → short_of word ≡ Some (y ∷ ys)
        → IsRefused s waiting word (held rows pending) ⊎ GoesOn s waiting position word (held rows pending)
    go_chars y ys None o l e = inr (rw (no_subcommand waiting word, no_end, l, e, o) refl, rw (no_subcommand waiting word, no_end, l, e, o) refl)
    go_chars y ys (Some x) o l e = inl (rw (no_subcommand waiting word, no_end, l, e, o, shorts x) refl, λ most. short_no_decimal word (y ∷ ys) most e)

    go_short : (o : Option Text) → short_of word ≡ o → long_of word ≡ None → IsRefused s waiting word (held rows pending) ⊎ GoesOn s waiting position word (held rows pending)
    go_short None e l = inr (rw (no_subcommand waiting word, no_end, l, e) refl, rw (no_subcommand waiting word, no_end, l, e) refl)
    go_short (Some []) e l = inr (rw (no_subcommand waiting word, no_end, l, e) refl, rw (no_subcommand waiting word, no_end, l, e) refl)
    go_short (Some (y ∷ ys)) e l = go_chars y ys (slice_get (chars (y ∷ ys)) 0) refl l e

    go : (o : Option (Text × Option Text)) → long_of word ≡ o → IsRefused s waiting word (held rows pending) ⊎ GoesOn s waiting position word (held rows pending)
    go None l = go_short (short_of word) refl l
    go (Some (name, v)) l = inl (rw (no_subcommand waiting word, no_end, l) (longs name v l), λ most. long_no_decimal word (name, v) most l)

-- ---- a word that a command has no place for

-- if no option waits and the command has no positional argument, any such word is refused
no_place : (s : Shape) (rows : List Row) (pending : Option (Text × List Text)) (word : Text) → s.is_leaf ≡ true
    → bytes_eq word (45 ∷ 45 ∷ []) ≡ false
    → ((name : Text) (v : Option Text) → long_of word ≡ Some (name, v) → refuses (long_fault s.rules s.args_override_self (arg_by_long s.rules name) v (held rows pending)) ≡ true)
    → ((x : ℕ) → arg_by_short s.rules x ≡ None) → arg_by_index s.rules 1 ≡ None
    → refuses (turn_fault s [] (walk_from (held rows pending)) word) ≡ true
no_place s rows pending word leaf no_end longs shorts none = elim (word_cases s idle 1 rows pending word no_end longs shorts) [
  | inl h ↦ or_else_first _ _ h.0
  | inr h ↦ rw (h.0, h.1, none, leaf) refl
]

no_rows : (kinds : Kinds) (rows : List Row) → refuses kinds ≡ true → unless_refused kinds rows ≡ None
no_rows [] rows e = cc
no_rows (kind ∷ more) rows e = refl

first_fails : (short first others : Bool) → (short && not (first || others)) ≡ true → first ≡ false
first_fails true true others e = cc
first_fails true false others e = refl
first_fails false first others e = cc

no_end_first : (word : Text) (more : List Text) → is_plain_tail (word ∷ more) ≡ true → bytes_eq word (codes "--") ≡ false
no_end_first word more plain =
    first_fails (nat_le (length (word ∷ more)) 2) (bytes_eq word (codes "--")) (list_any (λ other. bytes_eq other (codes "--")) more) plain

second_fails : (first second : Bool) → not (first || (second || false)) ≡ true → second ≡ false
second_fails true second e = cc
second_fails false true e = cc
second_fails false false e = refl

no_end_second : (first second : Text) → is_plain_tail (first ∷ second ∷ []) ≡ true → bytes_eq second (codes "--") ≡ false
no_end_second first second plain = second_fails (bytes_eq first (codes "--")) (bytes_eq second (codes "--")) plain

pub left_holds : (left right : Bool) → (left && right) ≡ true → left ≡ true
left_holds true right e = refl
left_holds false right e = cc

pub short_plain : (words : List Text) (found : Bool) → length words ≤ 2 → found ≡ list_any (λ word. bytes_eq word (codes "--")) words → not found ≡ is_plain_tail words
short_plain words found le same =
    let short : nat_le (length words) 2 ≡ true = grind (arith, nat_tests) in
    rw (short, ← same) refl

too_long : (one two three : Text) (more : List Text) → is_plain_tail (one ∷ two ∷ three ∷ more) ≡ true → ⊥
too_long one two three more plain =
    let short : nat_le (length (one ∷ two ∷ three ∷ more)) 2 ≡ true = left_holds _ _ plain in
    let le : length (one ∷ two ∷ three ∷ more) ≤ 2 = grind (arith, nat_tests) in
    omega arith

-- ---- what a parse gives

pub finds_rows : (kinds : Kinds) (rows found : List Row) → kinds ≡ [] → found ≡ rows → unless_refused kinds rows ≡ Some found
finds_rows kinds rows found none same = rw (none, same) refl

finds_none : (fault : WordFault) → Finds None (Err fault)
finds_none Usage = refl
finds_none NoMemory = tt

pub finds_fault : (kinds : Kinds) (rows : List Row) (error : Error) (fault : WordFault) → HasKind kinds error → fault ≡ fault_of_kind (kind_of error)
    → Finds (unless_refused kinds rows) (Err fault)
finds_fault kinds rows error fault (inl memory) is = rw (is, memory) tt
finds_fault [] rows error fault (inr among) is = absurd among
finds_fault (first ∷ more) rows error fault (inr among) is = finds_none fault

reads_found : (command found : Option Command) → command ≡ found → Reads command (ok_or found Usage)
reads_found command None same = same
reads_found command (Some c) same = same

-- if a parse fails, so does the reading of the command
pub reads_fault : (rows : Option (List Row)) (command : Option Command) (fault : WordFault) (result : Result Command WordFault)
    → (rows ≡ None → command ≡ None) → Finds rows (Err fault) → IsErrAnd result (λ e. e ≡ fault) → Reads command result
reads_fault rows command fault (Ok c) none found passed = absurd passed
reads_fault rows command Usage (Err e) none found passed = rw passed (none found)
reads_fault rows command NoMemory (Err e) none found passed = rw passed tt

-- ---- the plan

-- the command of what the parse finds
abbrev plan_of : Option (List Row) → Option Command
plan_of None = None
plan_of (Some rows) = Some Plan

plan_tail : (words : List Text) → is_plain_tail words ≡ true → plan_of (rows_in plan_app words) ≡ plan_command words
unfolding clap_on_literals
plan_tail [] plain = refl
plan_tail (word ∷ more) plain =
    ap plan_of (no_rows _ _ (or_else_first _ _ (or_else_first _ _ (no_place (built plan_app).top [] None word refl (no_end_first word more plain) (λ name v _. refl) (λ x. refl) refl))))

plan_by_app : (app : App) → app ≡ plan_app → (words : List Text) → is_plain_tail words ≡ true → plan_of (rows_in app words) ≡ plan_command words
plan_by_app app is words plain = rw is (plan_tail words plain)

pub plan_found : (app : App) → app ≡ plan_app → (words : List Text) → is_plain_tail words ≡ true → (rows : List Row) → rows_in app words ≡ Some rows
    → plan_command words ≡ Some Plan
plan_found app is words plain rows found = sym (plan_by_app app is words plain) ∙ ap plan_of found

pub plan_refused : (app : App) → app ≡ plan_app → (words : List Text) → is_plain_tail words ≡ true → rows_in app words ≡ None → plan_command words ≡ None
plan_refused app is words plain none = sym (plan_by_app app is words plain) ∙ ap plan_of none

-- ---- the checkout

abbrev Attached : Text → Type 0
Attached word = (number : Text) × (word ≡ codes "--workers=" ++ number)

-- neither `--workers=N` nor `--workers`
abbrev Other : Text → Type 0
Other word = (bytes_eq (take 10 word) (codes "--workers=") ≡ false) × (bytes_eq word (codes "--workers") ≡ false)

-- `--workers=N`, `--workers`, or another word
workers_word : (word : Text) → Attached word ⊎ ((word ≡ codes "--workers") ⊎ Other word)
workers_word word = go (bytes_eq (take 10 word) (codes "--workers=")) refl (bytes_eq word (codes "--workers")) refl
  where
    go : (attached : Bool) → bytes_eq (take 10 word) (codes "--workers=") ≡ attached → (alone : Bool) → bytes_eq word (codes "--workers") ≡ alone
        → Attached word ⊎ ((word ≡ codes "--workers") ⊎ Other word)
    go true e alone f = inl (drop 10 word, sym (take-append-drop 10 word) ∙ ap (λ front. front ++ drop 10 word) ((bytes_eq-Decides _ _).0 e))
    go false e true f = inr (inl ((bytes_eq-Decides _ _).0 f))
    go false e false f = inr (inr (e, f))

other_long : (word name : Text) (v : Option Text) (h : Held) → Other word → long_of word ≡ Some (name, v)
    → refuses (long_fault (built checkout_app).top.rules false (arg_by_long (built checkout_app).top.rules name) v h) ≡ true
other_long word name v h other e = go (bytes_eq (codes "workers") name) refl v (long_of-is word name v e)
  where
    go : (t : Bool) → bytes_eq (codes "workers") name ≡ t → (v : Option Text) → word ≡ 45 ∷ 45 ∷ name ++ value_part v
        → refuses (long_fault (built checkout_app).top.rules false (arg_by_long (built checkout_app).top.rules name) v h) ≡ true
    go false t v is = rw t refl
    go true t (Some v) is =
        let named : codes "workers" ≡ name = (bytes_eq-Decides _ _).0 t in
        let bad : true ≡ false = rw (is, ← named) at other.0 in
        cc
    go true t None is =
        let named : codes "workers" ≡ name = (bytes_eq-Decides _ _).0 t in
        let bad : true ≡ false = rw (is, ← named) at other.1 in
        cc

-- the command of what the parse finds
abbrev checkout_of : Option (List Row) → Option Command
checkout_of None = None
checkout_of (Some rows) = checkout_by (first_of (codes "workers") rows)

-- a first word that is another one is refused
other_first : (word : Text) (more : List Text) → bytes_eq word (45 ∷ 45 ∷ []) ≡ false → Other word → checkout_of (rows_in checkout_app (word ∷ more)) ≡ None
unfolding clap_on_literals
other_first word more no_end other =
    ap checkout_of (no_rows _ _ (or_else_first _ _ (or_else_first _ _ (no_place (built checkout_app).top [] None word refl no_end (λ name v. other_long word name v _ other) (λ x. refl) refl))))

one_attached : (number : Text) → checkout_of (rows_in checkout_app ((codes "--workers=" ++ number) ∷ [])) ≡ workers_command number
unfolding clap_on_literals
one_attached number = refl

one_alone : checkout_of (rows_in checkout_app (codes "--workers" ∷ [])) ≡ None
unfolding clap_on_literals
one_alone = refl

two_attached : (number other : Text) → checkout_of (rows_in checkout_app ((codes "--workers=" ++ number) ∷ (codes "--workers=" ++ other) ∷ [])) ≡ None
unfolding clap_on_literals
two_attached number other = refl

attached_alone : (number : Text) → checkout_of (rows_in checkout_app ((codes "--workers=" ++ number) ∷ codes "--workers" ∷ [])) ≡ None
unfolding clap_on_literals
attached_alone number = refl

attached_other : (number other : Text) → bytes_eq other (45 ∷ 45 ∷ []) ≡ false → Other other
    → checkout_of (rows_in checkout_app ((codes "--workers=" ++ number) ∷ other ∷ [])) ≡ None
unfolding clap_on_literals
attached_other number other no_end is_other =
    ap checkout_of (no_rows _ _ (or_else_first _ _ (or_else_first _ _ (no_place (built checkout_app).top _ None other refl no_end (λ name v. other_long other name v _ is_other) (λ x. refl) refl))))

-- while `--workers` waits for its number, each long name is refused
waiting_long : (name : Text) (v : Option Text)
    → refuses (long_fault (built checkout_app).top.rules false (arg_by_long (built checkout_app).top.rules name) v (held [] (Some (codes "workers", [])))) ≡ true
waiting_long name v = go (bytes_eq (codes "workers") name) refl v
  where
    go : (t : Bool) → bytes_eq (codes "workers") name ≡ t → (v : Option Text)
        → refuses (long_fault (built checkout_app).top.rules false (arg_by_long (built checkout_app).top.rules name) v (held [] (Some (codes "workers", [])))) ≡ true
    go false t v = rw t refl
    go true t None = rw t refl
    go true t (Some v) = rw t refl

alone_then : (number : Text) → bytes_eq number (45 ∷ 45 ∷ []) ≡ false → checkout_of (rows_in checkout_app (codes "--workers" ∷ number ∷ [])) ≡ workers_command number
unfolding clap_on_literals
alone_then number no_end = elim (word_cases (built checkout_app).top (option (codes "workers")) 1 [] (Some (codes "workers", [])) number no_end (λ name v _. waiting_long name v) (λ x. refl)) [
  | inl h ↦ ap checkout_of (no_rows _ _ (or_else_first _ _ (or_else_first _ _ (or_else_first _ _ h.0)))) ∙ sym (ap with_workers (h.1 16))
  | inr h ↦ rw (h.0, h.1) refl
]

checkout_tail : (words : List Text) → is_plain_tail words ≡ true → checkout_of (rows_in checkout_app words) ≡ checkout_command words
unfolding clap_on_literals
checkout_tail [] plain = refl
checkout_tail (word ∷ []) plain = elim (workers_word word) [
  | inl a ↦ rw a.1 (one_attached a.0)
  | inr (inl alone) ↦ rw alone one_alone
  | inr (inr other) ↦ rw other.0 (other_first word [] (no_end_first word [] plain) other)
]
checkout_tail (word ∷ number ∷ []) plain = elim (workers_word word) [
  | inl a ↦ elim (workers_word number) [
    | inl b ↦ rw (a.1, b.1) (two_attached a.0 b.0)
    | inr (inl alone) ↦ rw (a.1, alone) (attached_alone a.0)
    | inr (inr other) ↦ rw a.1 (attached_other a.0 number (no_end_second word number plain) other)
  ]
  | inr (inl alone) ↦ rw alone (alone_then number (no_end_second word number plain))
  | inr (inr other) ↦ rw other.1 (other_first word (number ∷ []) (no_end_first word (number ∷ []) plain) other)
]
checkout_tail (word ∷ number ∷ other ∷ more) plain = absurd (too_long word number other more plain)

checkout_by_app : (app : App) → app ≡ checkout_app → (words : List Text) → is_plain_tail words ≡ true → checkout_of (rows_in app words) ≡ checkout_command words
checkout_by_app app is words plain = rw is (checkout_tail words plain)

pub checkout_found : (app : App) → app ≡ checkout_app → (words : List Text) → is_plain_tail words ≡ true → (f : Found) → rows_in app words ≡ Some (rows_of f)
    → (command : Option Command) → command ≡ checkout_by (first_value f (codes "workers")) → Reads (checkout_command words) (ok_or command Usage)
checkout_found app is words plain f found command same =
    reads_found _ command (sym (checkout_by_app app is words plain) ∙ ap checkout_of found ∙ ap checkout_by (sym (first_value-rows f (codes "workers"))) ∙ sym same)

pub checkout_refused : (app : App) → app ≡ checkout_app → (words : List Text) → is_plain_tail words ≡ true → rows_in app words ≡ None → checkout_command words ≡ None
checkout_refused app is words plain none = sym (checkout_by_app app is words plain) ∙ ap checkout_of none

-- ---- the rehearsal

-- the command of what the parse finds
abbrev rehearse_of : Option (List Row) → Option Command
rehearse_of None = None
rehearse_of (Some rows) = rehearse_by (first_of (codes "seed") rows) (first_of (codes "paths") rows)

no_paths : (seed : Option ℕ) → with_numbers seed None ≡ None
no_paths None = refl
no_paths (Some n) = refl

rehearse_tail : (words : List Text) → is_plain_tail words ≡ true → rehearse_of (rows_in rehearse_app words) ≡ rehearse_command words
unfolding clap_on_literals
rehearse_tail [] plain = refl
rehearse_tail (seed ∷ []) plain = elim (word_cases (built rehearse_app).top idle 1 [] None seed (no_end_first seed [] plain) (λ name v _. refl) (λ x. refl)) [
  | inl h ↦ ap rehearse_of (no_rows _ _ (or_else_first _ _ (or_else_first _ _ (or_else_first _ _ h.0))))
  | inr h ↦ rw (h.0, h.1) refl
]
rehearse_tail (seed ∷ paths ∷ []) plain = elim (word_cases (built rehearse_app).top idle 1 [] None seed (no_end_first seed (paths ∷ []) plain) (λ name v _. refl) (λ x. refl)) [
  | inl h ↦ ap rehearse_of (no_rows _ _ (or_else_first _ _ (or_else_first _ _ (or_else_first _ _ h.0))))
      ∙ sym (ap (λ n. with_numbers n (decimal_within paths 99999)) (h.1 (2 ^ 64 - 1)))
  | inr h ↦ elim (word_cases (built rehearse_app).top idle 2 [] (Some (codes "seed", seed ∷ [])) paths (no_end_second seed paths plain) (λ name v _. refl) (λ x. refl)) [
    | inl k ↦ rw (h.0, h.1) (ap rehearse_of (no_rows _ _ (or_else_first _ _ (or_else_first _ _ (or_else_first _ _ k.0))))
        ∙ sym (ap (λ n. with_numbers (decimal_within seed (2 ^ 64 - 1)) n) (k.1 99999) ∙ no_paths _))
    | inr k ↦ rw (h.0, h.1, k.0, k.1) refl
  ]
]
rehearse_tail (seed ∷ paths ∷ other ∷ more) plain = absurd (too_long seed paths other more plain)

rehearse_by_app : (app : App) → app ≡ rehearse_app → (words : List Text) → is_plain_tail words ≡ true → rehearse_of (rows_in app words) ≡ rehearse_command words
rehearse_by_app app is words plain = rw is (rehearse_tail words plain)

pub rehearse_found : (app : App) → app ≡ rehearse_app → (words : List Text) → is_plain_tail words ≡ true → (f : Found) → rows_in app words ≡ Some (rows_of f)
    → (command : Option Command) → command ≡ rehearse_by (first_value f (codes "seed")) (first_value f (codes "paths")) → Reads (rehearse_command words) (ok_or command Usage)
rehearse_found app is words plain f found command same =
    reads_found _ command (sym (rehearse_by_app app is words plain) ∙ ap rehearse_of found
    ∙ ap₂ rehearse_by (sym (first_value-rows f (codes "seed"))) (sym (first_value-rows f (codes "paths"))) ∙ sym same)

pub rehearse_refused : (app : App) → app ≡ rehearse_app → (words : List Text) → is_plain_tail words ≡ true → rows_in app words ≡ None → rehearse_command words ≡ None
rehearse_refused app is words plain none = sym (rehearse_by_app app is words plain) ∙ ap rehearse_of none
