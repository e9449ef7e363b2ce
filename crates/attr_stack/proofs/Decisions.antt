-- Nothing more is decided once enough is read.
use Rattle.std.proofs.Common.{◌≡◌, ℕ, zero, suc, ◌+◌, ◌≤◌, Bool, true, false, cond, ◌||◌, List, [], ◌∷◌, ◌++◌, length, reverse, refl, sym, ◌∙◌, ap, arith, length-append}
use Rattle.std.proofs.lemmas.List.{length-reverse}
use Rattle.std.proofs.lemmas.List.Sums.{sum_by-cons}
use Rattle.std.proofs.lemmas.Slice.Eq.{bytes_eq-Decides}
use Rattle.std.specs.List.{sum_by}
use Rattle.std.specs.Str.{bytes_eq}
use Rattle.attr_line.specs.declared.state.AttrState.{AttrState}
use Rattle.attr_line.specs.declared.state.AttrState.TheVariants.{Set, Unset, Unspecified, Value}
use Rattle.attr_line.specs.declared.file.Pair.{Pair}
use Rattle.attr_stack.specs.Macros.{MacroLine, meaning}
use Rattle.attr_stack.specs.Decided.{Names, with_name, body_at, body_of, decided_within, line_length, most_read, decided, IsDecidedByRule}

-- how many pairs of macros may still be read
abbrev pub weight : Bool → List Pair → ℕ
weight true pairs = 0
weight false pairs = length pairs

abbrev pub unread : List MacroLine → Names → ℕ
unread [] names = 0
unread (line ∷ lines) names = weight (names line.name) line.pairs + unread lines names

abbrev pub room : List MacroLine → List Pair → Names → ℕ
room lines pairs names = length pairs + unread lines names

weight-le : (b : Bool) (pairs : List Pair) → weight b pairs ≤ length pairs
weight-le true pairs = omega arith
weight-le false pairs = omega arith

pub unread-le : (lines : List MacroLine) (names : Names) → unread lines names ≤ sum_by line_length lines
unread-le [] names = omega arith
unread-le (line ∷ lines) names = omega (arith, weight-le (names line.name) line.pairs, unread-le lines names, sum_by-cons line_length line lines)

weight-or : (a b : Bool) (pairs : List Pair) → weight (a || b) pairs ≤ weight b pairs
weight-or true b pairs = omega arith
weight-or false b pairs = omega arith

unread-with_name : (lines : List MacroLine) (name : List ℕ) (names : Names) → unread lines (with_name name names) ≤ unread lines names
unread-with_name [] name names = omega arith
unread-with_name (line ∷ lines) name names = omega (arith, weight-or (bytes_eq name line.name) (names line.name) line.pairs, unread-with_name lines name names)

-- a macro that a new name names isn't read again
meaning-read : (same : Bool) (line : MacroLine) (lines : List MacroLine) (name : List ℕ) (names : Names) → same ≡ bytes_eq line.name name → names name ≡ false
    → length (meaning lines name) + unread lines (with_name name names) ≤ unread lines names
    → length (cond same line.pairs (meaning lines name)) + unread (line ∷ lines) (with_name name names) ≤ unread (line ∷ lines) names
meaning-read true line lines name names is new later =
    let same : line.name ≡ name = (bytes_eq-Decides line.name name).0 (sym is) in
    let seen : bytes_eq name line.name ≡ true = (bytes_eq-Decides name line.name).1 (sym same) in
    let unseen : names line.name ≡ false = ap names same ∙ new in
    let before : weight (names line.name) line.pairs ≡ length line.pairs = ap (λ b. weight b line.pairs) unseen in
    let after : weight (bytes_eq name line.name || names line.name) line.pairs ≡ 0 = ap (λ b. weight (b || names line.name) line.pairs) seen in
    omega (arith, before, after, unread-with_name lines name names)
meaning-read false line lines name names is new later =
    omega (arith, later, weight-or (bytes_eq name line.name) (names line.name) line.pairs)

pub unread-meaning : (lines : List MacroLine) (name : List ℕ) (names : Names) → names name ≡ false → length (meaning lines name) + unread lines (with_name name names) ≤ unread lines names
unread-meaning [] name names new = omega arith
unread-meaning (line ∷ lines) name names new = meaning-read (bytes_eq line.name name) line lines name names refl new (unread-meaning lines name names new)

body-le : (lines : List MacroLine) (name : List ℕ) (state : AttrState) → length (body_at lines name state) ≤ length (meaning lines name)
body-le lines name Set = omega (arith, length-reverse (meaning lines name))
body-le lines name Unset = omega arith
body-le lines name Unspecified = omega arith
body-le lines name (Value value) = omega arith

-- the room after a pair that decides
pub room-decides : (lines : List MacroLine) (pair : Pair) (rest : List Pair) (names : Names) → names pair.name ≡ false
    → room lines (body_of lines pair ++ rest) (with_name pair.name names) + 1 ≤ room lines (pair ∷ rest) names
room-decides lines pair rest names new =
    omega (arith, length-append (body_of lines pair) rest, body-le lines pair.name pair.state, unread-meaning lines pair.name names new)

pub room-passes : (lines : List MacroLine) (pair : Pair) (rest : List Pair) (names : Names) → room lines rest names + 1 ≤ room lines (pair ∷ rest) names
room-passes lines pair rest names = omega arith

same-choice : (b : Bool) (pair : Pair) (x x' y y' : List Pair) → x ≡ x' → (b ≡ false → y ≡ y') → cond b x (pair ∷ y) ≡ cond b x' (pair ∷ y')
same-choice true pair x x' y y' passed decides = passed
same-choice false pair x x' y y' passed decides = ap (λ out. pair ∷ out) (decides refl)

pub enough : (n m : ℕ) (lines : List MacroLine) (pairs : List Pair) (names : Names) → room lines pairs names ≤ n → room lines pairs names ≤ m → decided_within n lines pairs names ≡ decided_within m lines pairs names
enough zero zero lines pairs names h k = refl
enough zero (suc m) lines [] names h k = refl
enough zero (suc m) lines (pair ∷ rest) names h k = absurd (omega arith)
enough (suc n) zero lines [] names h k = refl
enough (suc n) zero lines (pair ∷ rest) names h k = absurd (omega arith)
enough (suc n) (suc m) lines [] names h k = refl
enough (suc n) (suc m) lines (pair ∷ rest) names h k =
    same-choice (names pair.name) pair _ _ _ _
    (enough n m lines rest names (omega arith) (omega arith))
    (λ new. enough n m lines (body_of lines pair ++ rest) (with_name pair.name names)
    (omega (arith, room-decides lines pair rest names new, h)) (omega (arith, room-decides lines pair rest names new, k)))

most-suc : (lines : List MacroLine) (pair : Pair) (rest : List Pair) → most_read lines (pair ∷ rest) ≡ suc (most_read lines rest)
most-suc lines pair rest = omega arith

room-most : (lines : List MacroLine) (pairs : List Pair) (names : Names) → room lines pairs names ≤ most_read lines pairs
room-most lines pairs names = omega (arith, unread-le lines names)

pub decided-none : (lines : List MacroLine) (names : Names) → decided lines [] names ≡ []
unfolding decided
decided-none lines names = enough (most_read lines []) (suc (most_read lines [])) lines [] names (room-most lines [] names) (omega (arith, room-most lines [] names))

decided-cons : (lines : List MacroLine) (pair : Pair) (rest : List Pair) (names : Names) → decided lines (pair ∷ rest) names ≡ decided_within (suc (most_read lines rest)) lines (pair ∷ rest) names
unfolding decided
decided-cons lines pair rest names = ap (λ n. decided_within n lines (pair ∷ rest) names) (most-suc lines pair rest)

pub decided-passed : (lines : List MacroLine) (pair : Pair) (rest : List Pair) (names : Names) → names pair.name ≡ true → decided lines (pair ∷ rest) names ≡ decided lines rest names
unfolding decided
decided-passed lines pair rest names known =
    decided-cons lines pair rest names
    ∙ ap (λ b. cond b (decided_within (most_read lines rest) lines rest names) (pair ∷ decided_within (most_read lines rest) lines (body_of lines pair ++ rest) (with_name pair.name names))) known

pub decided-decides : (lines : List MacroLine) (pair : Pair) (rest : List Pair) (names : Names) → names pair.name ≡ false
    → decided lines (pair ∷ rest) names ≡ pair ∷ decided lines (body_of lines pair ++ rest) (with_name pair.name names)
unfolding decided
decided-decides lines pair rest names new =
    decided-cons lines pair rest names
    ∙ ap (λ b. cond b (decided_within (most_read lines rest) lines rest names) (pair ∷ decided_within (most_read lines rest) lines (body_of lines pair ++ rest) (with_name pair.name names))) new
    ∙ ap (λ out. pair ∷ out) (enough (most_read lines rest) (most_read lines (body_of lines pair ++ rest)) lines (body_of lines pair ++ rest) (with_name pair.name names)
    (omega (arith, room-decides lines pair rest names new, unread-le lines names)) (room-most lines (body_of lines pair ++ rest) (with_name pair.name names)))

pub by-rule : IsDecidedByRule
by-rule = record { none = decided-none; passed = decided-passed; decides = decided-decides }

-- ---- macros of one meaning decide the same

body-same : (lines others : List MacroLine) (name : List ℕ) (state : AttrState) → ((name : List ℕ) → meaning lines name ≡ meaning others name) → body_at lines name state ≡ body_at others name state
body-same lines others name Set same = ap reverse (same name)
body-same lines others name Unset same = refl
body-same lines others name Unspecified same = refl
body-same lines others name (Value value) same = refl

within-same : (n : ℕ) (lines others : List MacroLine) (pairs : List Pair) (names : Names) → ((name : List ℕ) → meaning lines name ≡ meaning others name)
    → decided_within n lines pairs names ≡ decided_within n others pairs names
within-same zero lines others pairs names same = refl
within-same (suc n) lines others [] names same = refl
within-same (suc n) lines others (pair ∷ rest) names same =
    ap (λ later. cond (names pair.name) later (pair ∷ decided_within n lines (body_of lines pair ++ rest) (with_name pair.name names))) (within-same n lines others rest names same)
    ∙ ap (λ later. cond (names pair.name) (decided_within n others rest names) (pair ∷ later))
    (within-same n lines others (body_of lines pair ++ rest) (with_name pair.name names) same
    ∙ ap (λ body. decided_within n others (body ++ rest) (with_name pair.name names)) (body-same lines others pair.name pair.state same))

pub decided-same : (lines others : List MacroLine) (pairs : List Pair) (names : Names) → ((name : List ℕ) → meaning lines name ≡ meaning others name) → decided lines pairs names ≡ decided others pairs names
unfolding decided
decided-same lines others pairs names same =
    let n : ℕ = most_read lines pairs + most_read others pairs in
    enough (most_read lines pairs) n lines pairs names (room-most lines pairs names) (omega (arith, room-most lines pairs names))
    ∙ within-same n lines others pairs names same
    ∙ sym (enough (most_read others pairs) n others pairs names (room-most others pairs names) (omega (arith, room-most others pairs names)))
