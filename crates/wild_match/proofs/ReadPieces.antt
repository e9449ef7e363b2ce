-- How a pattern is read to pieces.
use Rattle.std.proofs.Common.{◌≡◌, ◌≢◌, ℕ, zero, suc, ◌-◌, ◌<◌, ◌≤◌, Bool, true, false, cond, ◌&&◌, not, List, [], ◌∷◌, length, get_or, drop, eqb, ltb, Option, Some, None, refl, sym, ◌∙◌, ap, arith, length-drop}
use Rattle.std.specs.Prelude.{nat_eq}
use Rattle.std.proofs.lemmas.Bool.{ne_eqb, and_left, and_right, false_from_ne_true}
use Rattle.std.proofs.lemmas.Grind.{common_steps}
use Rattle.wild_match.specs.declared.sets.Member.{Member}
use Rattle.wild_match.specs.Members.{set_members}
use Rattle.wild_match.specs.Pieces.{Piece, Slash, One, Run, Folders, Rest, Never, set_piece, is_negated, set_front, escape_front, plain_front, any_byte, front, is_folders, is_rest, is_fresh_behind, onto, pieces_behind, pieces}
use Rattle.wild_match.specs.Fits.{is_slash, fits}
use Rattle.wild_match.specs.Steps.{one_length_of, one_of, slash_length_of, slash_of, PassesByte, PassesSlash, PassesStar, OpensFolders}

pub pieces-skip : (skip : ℕ) (fresh : Bool) (text : List ℕ) → pieces_behind skip fresh text ≡ pieces_behind 0 fresh (drop skip text)
pieces-skip zero fresh text = refl
pieces-skip (suc skip) fresh [] = refl
pieces-skip (suc skip) fresh (b ∷ text) = pieces-skip skip fresh text

front-onto : (first : Piece × ℕ) (b : ℕ) (text : List ℕ) → 0 < first.1
    → onto first (λ skip fresh. pieces_behind skip fresh text) ≡ first.0 ∷ pieces (is_fresh_behind first.0) (drop first.1 (b ∷ text))
front-onto (piece, zero) b text some = absurd (omega arith)
front-onto (piece, suc n) b text some =
    let one : suc n - 1 ≡ n = omega arith in
    ap (λ (ps : List Piece). piece ∷ ps) (ap (λ (k : ℕ). pieces_behind k (is_fresh_behind piece) text) one ∙ pieces-skip n (is_fresh_behind piece) text)

pub pieces-front : (fresh : Bool) (text : List ℕ) (piece : Piece) (n : ℕ) → 0 < length text → 0 < n → front fresh text ≡ (piece, n)
    → pieces fresh text ≡ piece ∷ pieces (is_fresh_behind piece) (drop n text)
pieces-front fresh [] piece n there some is = absurd (omega arith)
pieces-front fresh (b ∷ text) piece n there some is =
    ap (λ (first : Piece × ℕ). onto first (λ skip fresh. pieces_behind skip fresh text)) is ∙ front-onto (piece, n) b text some

-- away from the start of a part no piece crosses `/`
pub front-plain : (text : List ℕ) → front false text ≡ plain_front text
unfolding front
front-plain text = refl

pub front-same : (text : List ℕ) → is_folders text ≡ false → is_rest text ≡ false → front true text ≡ plain_front text
unfolding front
front-same text folders rest = rw (folders, rest) refl

pub pieces-same : (fresh : Bool) (text : List ℕ) → (fresh ≡ true → (is_folders text ≡ false) × (is_rest text ≡ false)) → pieces fresh text ≡ pieces false text
pieces-same false text other = refl
pieces-same true [] other = refl
pieces-same true (b ∷ text) other =
    let no = other refl in
    ap (λ (first : Piece × ℕ). onto first (λ skip fresh. pieces_behind skip fresh text)) (front-same (b ∷ text) no.0 no.1 ∙ sym (front-plain (b ∷ text)))

-- a piece that takes no more than one byte
abbrev pub is_simple : Piece → Bool
is_simple Slash = true
is_simple (One passes) = true
is_simple Never = true
is_simple Run = false
is_simple Folders = false
is_simple Rest = false

set_piece-simple : (negated : Bool) (n : ℕ) (set : Option (List Member × ℕ)) → is_simple (set_piece negated n set).0 ≡ true
set_piece-simple negated n None = refl
set_piece-simple negated n (Some set) = refl

set_front-simple : (text : List ℕ) → is_simple (set_front text).0 ≡ true
unfolding set_front
set_front-simple text =
    elim (is_negated text) as (λ c. is_simple (cond c (set_piece true 2 (set_members (drop 1 text))) (set_piece false 1 (set_members text))).0 ≡ true) [
      | true ↦ set_piece-simple true 2 (set_members (drop 1 text))
      | false ↦ set_piece-simple false 1 (set_members text)
    ]

simple-cond : (c : Bool) (x y : Piece × ℕ) → is_simple x.0 ≡ true → is_simple y.0 ≡ true → is_simple (cond c x y).0 ≡ true
simple-cond true x y left right = left
simple-cond false x y left right = right

escape_front-simple : (text : List ℕ) → is_simple (escape_front text).0 ≡ true
unfolding escape_front
escape_front-simple text =
    let none : Piece × ℕ = (Never, 1) in
    let slash : Piece × ℕ = (Slash, 2) in
    let byte : Piece × ℕ = (One (nat_eq (get_or text 0 0)), 2) in
    let there : Piece × ℕ = cond (eqb (get_or text 0 0) 47) slash byte in
    simple-cond (eqb (length text) 0) none there refl (simple-cond (eqb (get_or text 0 0) 47) slash byte refl refl)

plain_front-simple : (text : List ℕ) → get_or text 0 0 ≢ 42 → is_simple (plain_front text).0 ≡ true
unfolding plain_front
plain_front-simple text other =
    let no = ne_eqb (get_or text 0 0) 42 other in
    let first : ℕ = get_or text 0 0 in
    let slash : Piece × ℕ = (Slash, 1) in
    let any : Piece × ℕ = (One any_byte, 1) in
    let byte : Piece × ℕ = (One (nat_eq first), 1) in
    let escape : Piece × ℕ = cond (eqb first 92) (escape_front (drop 1 text)) byte in
    let set : Piece × ℕ = cond (eqb first 91) (set_front (drop 1 text)) escape in
    let mark : Piece × ℕ = cond (eqb first 63) any set in
    rw no (simple-cond (eqb first 47) slash mark refl
    (simple-cond (eqb first 63) any set refl
    (simple-cond (eqb first 91) (set_front (drop 1 text)) escape (set_front-simple (drop 1 text))
    (simple-cond (eqb first 92) (escape_front (drop 1 text)) byte (escape_front-simple (drop 1 text)) refl))))

one-cond : (c : Bool) (n k : ℕ) → Some n ≡ cond c (Some k) None → (c ≡ true) × (n ≡ k)
one-cond true n k is = (refl, cc)
one-cond false n k is = absurd (cc)

none-cond : (c : Bool) (k : ℕ) → None ≡ cond c (Some k) None → c ≡ false
none-cond true k is = absurd (cc)
none-cond false k is = refl

-- a byte that passes
one-reads : (b n k : ℕ) (piece : Piece) → Some n ≡ one_length_of b k piece → (passes : ℕ → Bool) × (piece ≡ One passes) × (passes b ≡ true) × (n ≡ k)
one-reads b n k (One passes) is = let h = one-cond (passes b) n k is in (passes, refl, h.0, h.1)
one-reads b n k Slash is = absurd (cc)
one-reads b n k Run is = absurd (cc)
one-reads b n k Folders is = absurd (cc)
one-reads b n k Rest is = absurd (cc)
one-reads b n k Never is = absurd (cc)

slash-reads : (n k : ℕ) (piece : Piece) → Some n ≡ slash_length_of k piece → (piece ≡ Slash) × (n ≡ k)
slash-reads n k Slash is = (refl, cc)
slash-reads n k (One passes) is = absurd (cc)
slash-reads n k Run is = absurd (cc)
slash-reads n k Folders is = absurd (cc)
slash-reads n k Rest is = absurd (cc)
slash-reads n k Never is = absurd (cc)

pair-same : (first : Piece × ℕ) (piece : Piece) (n : ℕ) → first.0 ≡ piece → n ≡ first.1 → first ≡ (piece, n)
pair-same (p, k) piece n left right = rw (left, right) refl

pub passes-byte : (pattern text : List ℕ) (b n : ℕ) → 0 < length pattern → 0 < length text → get_or text 0 0 ≡ b → b ≢ 47 → Some n ≡ one_of b (plain_front pattern) → 0 < n → n ≤ length pattern
    → PassesByte pattern text n
passes-byte pattern text b n front_there there is other reads some within =
    let h = one-reads b n (plain_front pattern).1 (plain_front pattern).0 reads in
    record {
      passes = h.0;
      reads = pieces-front false pattern (One h.0) n front_there some (front-plain pattern ∙ pair-same (plain_front pattern) (One h.0) n h.1 h.3);
      some = some;
      within = within;
      there = there;
      other = ne_eqb (get_or text 0 0) 47 (λ same. other (sym is ∙ same));
      passed = ap h.0 is ∙ h.2;
    }

pub passes-slash : (pattern text : List ℕ) (n : ℕ) → 0 < length pattern → 0 < length text → get_or text 0 0 ≡ 47 → Some n ≡ slash_of (plain_front pattern) → 0 < n → n ≤ length pattern
    → PassesSlash pattern text n
passes-slash pattern text n front_there there is reads some within =
    let h = slash-reads n (plain_front pattern).1 (plain_front pattern).0 reads in
    record {
      reads = pieces-front false pattern Slash n front_there some (front-plain pattern ∙ pair-same (plain_front pattern) Slash n h.0 h.1);
      some = some;
      within = within;
      there = there;
      slash = is;
    }

star-front : (text : List ℕ) → get_or text 0 0 ≡ 42 → plain_front text ≡ (Run, 1)
unfolding plain_front
star-front text is = rw is refl

pub passes-star : (pattern : List ℕ) → 0 < length pattern → get_or pattern 0 0 ≡ 42 → PassesStar pattern 1
passes-star pattern there is = record {
  reads = pieces-front false pattern Run 1 there (omega arith) (front-plain pattern ∙ star-front pattern is);
  some = omega arith;
  within = omega arith;
}

-- the front of a pattern that begins with no star
front-fits : (pattern text : List ℕ) → 0 < length pattern → get_or pattern 0 0 ≢ 42 → (later : List Piece) × (pieces false pattern ≡ (plain_front pattern).0 ∷ later)
front-fits [] text there other = absurd (omega arith)
front-fits (b ∷ pattern) text there other = (
  (λ (first : Piece × ℕ). pieces_behind (first.1 - 1) (is_fresh_behind first.0) pattern) (plain_front (b ∷ pattern)),
  ap (λ (first : Piece × ℕ). onto first (λ skip fresh. pieces_behind skip fresh pattern)) (front-plain (b ∷ pattern)),
)

simple-ended : (piece : Piece) (later : List Piece) → is_simple piece ≡ true → fits (piece ∷ later) [] ≡ false
simple-ended Slash later simple = refl
simple-ended (One passes) later simple = refl
simple-ended Never later simple = refl
simple-ended Run later simple = absurd (cc)
simple-ended Folders later simple = absurd (cc)
simple-ended Rest later simple = absurd (cc)

pub stuck-ended : (pattern text : List ℕ) → 0 < length pattern → get_or pattern 0 0 ≢ 42 → length text ≡ 0 → fits (pieces false pattern) text ≡ false
stuck-ended pattern [] there other ended =
    let h = front-fits pattern [] there other in
    ap (λ (ps : List Piece). fits ps []) h.1 ∙ simple-ended (plain_front pattern).0 h.0 (plain_front-simple pattern other)
stuck-ended pattern (b ∷ text) there other ended = absurd (omega arith)

simple-byte : (piece : Piece) (later : List Piece) (k b : ℕ) (text : List ℕ) → is_simple piece ≡ true → is_slash b ≡ false → None ≡ one_length_of b k piece → fits (piece ∷ later) (b ∷ text) ≡ false
simple-byte Slash later k b text simple other none = and_left (is_slash b) (fits later text) other
simple-byte (One passes) later k b text simple other none =
    and_left (not (is_slash b) && passes b) (fits later text) (and_right (not (is_slash b)) (passes b) (none-cond (passes b) k none))
simple-byte Never later k b text simple other none = refl
simple-byte Run later k b text simple other none = absurd (cc)
simple-byte Folders later k b text simple other none = absurd (cc)
simple-byte Rest later k b text simple other none = absurd (cc)

pub stuck-byte : (pattern text : List ℕ) (b : ℕ) → 0 < length pattern → get_or pattern 0 0 ≢ 42 → 0 < length text → get_or text 0 0 ≡ b → b ≢ 47 → None ≡ one_of b (plain_front pattern)
    → fits (pieces false pattern) text ≡ false
stuck-byte pattern [] b front_there other there is no_slash none = absurd (omega arith)
stuck-byte pattern (c ∷ text) b front_there other there is no_slash none =
    let h = front-fits pattern text front_there other in
    ap (λ (ps : List Piece). fits ps (c ∷ text)) h.1
    ∙ simple-byte (plain_front pattern).0 h.0 (plain_front pattern).1 c text (plain_front-simple pattern other) (ne_eqb c 47 (λ same. no_slash (sym is ∙ same))) (none ∙ ap (λ (x : ℕ). one_of x (plain_front pattern)) (sym is))

simple-slash : (piece : Piece) (later : List Piece) (k : ℕ) (text : List ℕ) → is_simple piece ≡ true → None ≡ slash_length_of k piece → fits (piece ∷ later) (47 ∷ text) ≡ false
simple-slash Slash later k text simple none = absurd (cc)
simple-slash (One passes) later k text simple none = refl
simple-slash Never later k text simple none = refl
simple-slash Run later k text simple none = absurd (cc)
simple-slash Folders later k text simple none = absurd (cc)
simple-slash Rest later k text simple none = absurd (cc)

pub stuck-slash : (pattern text : List ℕ) → 0 < length pattern → get_or pattern 0 0 ≢ 42 → 0 < length text → get_or text 0 0 ≡ 47 → None ≡ slash_of (plain_front pattern)
    → fits (pieces false pattern) text ≡ false
stuck-slash pattern [] front_there other there is none = absurd (omega arith)
stuck-slash pattern (c ∷ text) front_there other there is none =
    let h = front-fits pattern text front_there other in
    ap (λ (ps : List Piece). fits ps (c ∷ text)) h.1
    ∙ ap (λ (x : ℕ). fits ((plain_front pattern).0 ∷ h.0) (x ∷ text)) is
    ∙ simple-slash (plain_front pattern).0 h.0 (plain_front pattern).1 text (plain_front-simple pattern other) none

pub nothing-left : (pattern : List ℕ) → length pattern ≡ 0 → pieces false pattern ≡ []
nothing-left [] none = refl
nothing-left (b ∷ pattern) none = absurd (omega arith)

pub stuck-over : (pattern text : List ℕ) → length pattern ≡ 0 → 0 < length text → fits (pieces false pattern) text ≡ false
stuck-over [] (b ∷ text) none there = refl
stuck-over [] [] none there = absurd (omega arith)
stuck-over (b ∷ pattern) text none there = absurd (omega arith)

is_folders-length : (text : List ℕ) → is_folders text ≡ true → 3 ≤ length text
is_folders-length text is = grind (arith, common_steps)

folders-front : (text : List ℕ) → is_folders text ≡ true → front true text ≡ (Folders, 3)
unfolding front
folders-front text is = rw is refl

-- `**/` at the start of a part
pub opens-folders : (pattern text later : List ℕ) (fresh : Bool) → fresh ≡ true → is_folders pattern ≡ true → later ≡ drop 3 pattern → OpensFolders (pieces fresh pattern) pattern text later text
opens-folders pattern text later false start is behind = absurd (cc)
opens-folders pattern text later true start is behind =
    let long : 3 ≤ length pattern = is_folders-length pattern is in
    record {
      reads = pieces-front true pattern Folders 3 (omega arith) (omega arith) (folders-front pattern is) ∙ ap (λ (p : List ℕ). Folders ∷ pieces true p) (sym behind);
      same = refl;
      shorter = omega (arith, ap length behind, length-drop 3 pattern);
    }

is_rest-length : (text : List ℕ) → is_rest text ≡ true → length text ≡ 2
is_rest-length text is = grind (arith, common_steps)

is_rest-no_folders : (text : List ℕ) → is_rest text ≡ true → is_folders text ≡ false
is_rest-no_folders text is = false_from_ne_true (is_folders text) (λ h. absurd (omega (arith, is_rest-length text is, is_folders-length text h)))

rest-front : (text : List ℕ) → is_rest text ≡ true → front true text ≡ (Rest, 2)
unfolding front
rest-front text is = rw (is_rest-no_folders text is, is) refl

-- `**` at the end, at the start of a part
pub rest-fits : (pattern text : List ℕ) (fresh : Bool) → fresh ≡ true → is_rest pattern ≡ true → fits (pieces fresh pattern) text ≡ ltb 0 (length text)
rest-fits pattern text false start is = absurd (cc)
rest-fits pattern text true start is =
    let long : 0 < length pattern = omega (arith, is_rest-length pattern is) in
    ap (λ (ps : List Piece). fits ps text) (pieces-front true pattern Rest 2 long (omega arith) (rest-front pattern is))
