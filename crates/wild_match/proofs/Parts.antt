-- One part: going back to its last star is enough.
use Rattle.std.proofs.Common.{◌≡◌, ℕ, ◌+◌, ◌*◌, ◌≤◌, Bool, true, false, cond, ◌&&◌, ◌||◌, not, List, [], ◌∷◌, length, drop, Option, Some, None, refl, sym, ◌∙◌, ap, subst, arith, length-drop}
use Rattle.std.proofs.lemmas.Bool.{or_left, or_right, not_from_false}
use Rattle.wild_match.specs.Pieces.{Piece, Slash, One, Run, pieces}
use Rattle.wild_match.specs.Fits.{is_slash, some_split, fits}
use Rattle.wild_match.specs.Steps.{PassesByte, PassesSlash, PassesStar, from_stop, from_slash, BehindPart, next_byte, next_split}
use Rattle.wild_match.proofs.Splits.{one-step, slash-step, star-step}

-- what follows a place in a pattern that is not the start of a part
abbrev pub inside : List ℕ → List Piece
inside pattern = pieces false pattern

-- another split, after the one that was tried
abbrev pub other_split : (List ℕ → Bool) → List ℕ → Bool
other_split f [] = false
other_split f (b ∷ t) = not (is_slash b) && some_split f t

abbrev pub other_back : Option (List ℕ × List ℕ) → Bool
other_back None = false
other_back (Some tried) = other_split (fits (inside tried.0)) tried.1

-- how far the last star can still go
abbrev pub room : List ℕ → Option (List ℕ × List ℕ) → ℕ
room text None = length text + 1
room text (Some tried) = length tried.1

-- the measure: each step makes the room smaller, or else the pattern
abbrev pub work : List ℕ → List ℕ → List ℕ → Option (List ℕ × List ℕ) → ℕ
work start text pattern back = room text back * (length start + 1) + length pattern

pub record IsBack (first : List Piece) (start text pattern rest tried_pattern tried_rest : List ℕ) : Type 0 where
  pub enough : some_split (fits (inside tried_pattern)) tried_rest ≡ true → some_split (fits (inside pattern)) rest ≡ true
  pub stop : from_stop (inside tried_pattern) ≡ from_stop first
  pub slash : from_slash tried_rest ≡ from_slash text
  pub size : length tried_pattern ≤ length start
  pub bound : length rest ≤ length tried_rest

abbrev pub IsBackOr : List Piece → List ℕ → List ℕ → List ℕ → List ℕ → Option (List ℕ × List ℕ) → Type 0
IsBackOr first start text pattern rest None = length rest ≤ length text
IsBackOr first start text pattern rest (Some tried) = IsBack first start text pattern rest tried.0 tried.1

-- what holds before each step
pub record IsTrying (first : List Piece) (start text pattern rest : List ℕ) (back : Option (List ℕ × List ℕ)) : Type 0 where
  pub same : fits first text ≡ (fits (inside pattern) rest || other_back back)
  pub stop : from_stop (inside pattern) ≡ from_stop first
  pub slash : from_slash rest ≡ from_slash text
  pub size : length pattern ≤ length start
  pub known : IsBackOr first start text pattern rest back

pub or-none : (a : Bool) → a ≡ (a || false)
or-none true = refl
or-none false = refl

pub begins : (start text : List ℕ) → IsTrying (inside start) start text start text None
begins start text = record { same = or-none (fits (inside start) text); stop = refl; slash = refl; size = omega arith; known = omega arith }

-- two tests of which each gives the other
both : (a b : Bool) → (a ≡ true → b ≡ true) → (b ≡ true → a ≡ true) → a ≡ b
both true b there back = sym (there refl)
both false true there back = back refl
both false false there back = refl

other-some : (f : List ℕ → Bool) (t : List ℕ) → other_split f t ≡ true → some_split f t ≡ true
other-some f [] h = absurd (cc)
other-some f (b ∷ t) h = or_right (f (b ∷ t)) (not (is_slash b) && some_split f t) h

split-other : (f : List ℕ → Bool) (t : List ℕ) → some_split f t ≡ (f t || other_split f t)
split-other f [] = or-none (f [])
split-other f (b ∷ t) = refl

pub absorb : (a b c : Bool) → (b ≡ true → a ≡ true) → c ≡ (a || b) → c ≡ a
absorb true b c give is = is
absorb false true c give is = absurd (let no : false ≡ true = give refl in cc)
absorb false false c give is = is

-- where the last star could go on, what is left of the pattern would fit after bytes other than `/` from here
back-split : (first : List Piece) (start text pattern rest : List ℕ) (back : Option (List ℕ × List ℕ)) → IsBackOr first start text pattern rest back → other_back back ≡ true → some_split (fits (inside pattern)) rest ≡ true
back-split first start text pattern rest None known h = absurd (cc)
back-split first start text pattern rest (Some tried) known h = known.enough (other-some (fits (inside tried.0)) tried.1 h)

back-bound : (first : List Piece) (start text pattern rest : List ℕ) (back : Option (List ℕ × List ℕ)) → IsBackOr first start text pattern rest back → length rest ≤ room text back
back-bound first start text pattern rest None known = let bound : length rest ≤ length text = known in omega arith
back-bound first start text pattern rest (Some tried) known = known.bound

star-stop : (first : List Piece) (pattern later : List ℕ) → inside pattern ≡ Run ∷ inside later → from_stop (inside pattern) ≡ from_stop first → from_stop (inside later) ≡ from_stop first
star-stop first pattern later reads stop = sym (ap from_stop reads) ∙ stop

pub at-star : (first : List Piece) (start text pattern rest later : List ℕ) (n : ℕ) (back : Option (List ℕ × List ℕ)) → IsTrying first start text pattern rest back → PassesStar pattern n → later ≡ drop n pattern
    → IsTrying first start text later rest (Some (later, rest))
at-star first start text pattern rest later n back so_far star is =
    let reads : inside pattern ≡ Run ∷ inside later = star.reads ∙ ap (λ (p : List ℕ). Run ∷ inside p) (sym is) in
    let stop : from_stop (inside later) ≡ from_stop first = star-stop first pattern later reads so_far.stop in
    let size : length later ≤ length start = omega (arith, ap length is, length-drop n pattern, so_far.size) in
    let here : fits (inside pattern) rest ≡ some_split (fits (inside later)) rest = ap (λ (ps : List Piece). fits ps rest) reads in
    let give : other_back back ≡ true → fits (inside pattern) rest ≡ true = λ h. here ∙ star-step (inside later) rest (sym (ap (λ (ps : List Piece). some_split (fits ps) rest) reads) ∙ back-split first start text pattern rest back so_far.known h) in
    record {
      same = absorb (fits (inside pattern) rest) (other_back back) (fits first text) give so_far.same ∙ here ∙ split-other (fits (inside later)) rest;
      stop = stop;
      slash = so_far.slash;
      size = size;
      known = record { enough = λ h. h; stop = stop; slash = so_far.slash; size = size; bound = omega arith };
    }

slash-byte : (b : ℕ) (rest : List ℕ) → is_slash b ≡ false → from_slash (b ∷ rest) ≡ from_slash rest
slash-byte b rest other = rw other refl

one-fits : (p : ℕ → Bool) (later : List Piece) (b : ℕ) (rest : List ℕ) → is_slash b ≡ false → p b ≡ true → fits (One p ∷ later) (b ∷ rest) ≡ fits later rest
one-fits p later b rest other passed = rw (other, passed) refl

byte-known : (first : List Piece) (start text pattern later rest : List ℕ) (b : ℕ) (p : ℕ → Bool) (back : Option (List ℕ × List ℕ)) → inside pattern ≡ One p ∷ inside later
    → IsBackOr first start text pattern (b ∷ rest) back → IsBackOr first start text later rest back
byte-known first start text pattern later rest b p None reads known = let bound : length (b ∷ rest) ≤ length text = known in omega arith
byte-known first start text pattern later rest b p (Some tried) reads known = record {
  enough = λ h. one-step p (inside later) b rest (sym (ap (λ (ps : List Piece). some_split (fits ps) (b ∷ rest)) reads) ∙ known.enough h);
  stop = known.stop;
  slash = known.slash;
  size = known.size;
  bound = omega (arith, known.bound);
}

pub at-byte : (first : List Piece) (start text pattern rest later after : List ℕ) (n : ℕ) (back : Option (List ℕ × List ℕ)) → IsTrying first start text pattern rest back → PassesByte pattern rest n
    → later ≡ drop n pattern → after ≡ drop 1 rest → IsTrying first start text later after back
at-byte first start text pattern [] later after n back so_far byte is behind = absurd (omega (arith, byte.there))
at-byte first start text pattern (b ∷ rest) later after n back so_far byte is behind =
    let reads : inside pattern ≡ One byte.passes ∷ inside later = byte.reads ∙ ap (λ (p : List ℕ). One byte.passes ∷ inside p) (sym is) in
    let here : fits (inside pattern) (b ∷ rest) ≡ fits (inside later) rest =
    ap (λ (ps : List Piece). fits ps (b ∷ rest)) reads ∙ one-fits byte.passes (inside later) b rest byte.other byte.passed in
    let next : IsTrying first start text later rest back = record {
      same = so_far.same ∙ ap (λ (c : Bool). c || other_back back) here;
      stop = sym (ap from_stop reads) ∙ so_far.stop;
      slash = sym (slash-byte b rest byte.other) ∙ so_far.slash;
      size = omega (arith, ap length is, length-drop n pattern, so_far.size);
      known = byte-known first start text pattern later rest b byte.passes back reads so_far.known;
    } in
    let P : List ℕ → Type 0 = λ u. IsTrying first start text later u back in
    subst P (sym behind) next

slash-known : (first : List Piece) (start text pattern later rest : List ℕ) (back : Option (List ℕ × List ℕ)) → inside pattern ≡ Slash ∷ pieces true later → IsBackOr first start text pattern (47 ∷ rest) back
    → other_back back ≡ true → fits (pieces true later) rest ≡ true
slash-known first start text pattern later rest back reads known h =
    slash-step (pieces true later) rest (sym (ap (λ (ps : List Piece). some_split (fits ps) (47 ∷ rest)) reads) ∙ back-split first start text pattern (47 ∷ rest) back known h)

at-slash_here : (first : List Piece) (start text pattern rest later : List ℕ) (n : ℕ) (back : Option (List ℕ × List ℕ)) → IsTrying first start text pattern (47 ∷ rest) back → PassesSlash pattern (47 ∷ rest) n
    → later ≡ drop n pattern → BehindPart first start text later rest
at-slash_here first start text pattern rest later n back so_far slash is =
    let reads : inside pattern ≡ Slash ∷ pieces true later = slash.reads ∙ ap (λ (p : List ℕ). Slash ∷ pieces true p) (sym is) in
    let here : fits (inside pattern) (47 ∷ rest) ≡ fits (pieces true later) rest = ap (λ (ps : List Piece). fits ps (47 ∷ rest)) reads in
    record {
      same = absorb (fits (inside pattern) (47 ∷ rest)) (other_back back) (fits first text) (λ h. here ∙ slash-known first start text pattern later rest back reads so_far.known h) so_far.same ∙ here;
      stop = sym so_far.stop ∙ ap from_stop reads;
      slash = sym so_far.slash;
      shorter = omega (arith, ap length is, length-drop n pattern, so_far.size, slash.some, slash.within);
    }

pub at-slash : (first : List Piece) (start text pattern rest later after : List ℕ) (n : ℕ) (back : Option (List ℕ × List ℕ)) → IsTrying first start text pattern rest back → PassesSlash pattern rest n
    → later ≡ drop n pattern → after ≡ drop 1 rest → BehindPart first start text later after
at-slash first start text pattern [] later after n back so_far slash is behind = absurd (omega (arith, slash.there))
at-slash first start text pattern (b ∷ rest) later after n back so_far slash is behind =
    let Q : ℕ → Type 0 = λ c. IsTrying first start text pattern (c ∷ rest) back in
    let R : ℕ → Type 0 = λ c. PassesSlash pattern (c ∷ rest) n in
    let P : List ℕ → Type 0 = λ u. BehindPart first start text later u in
    subst P (sym behind) (at-slash_here first start text pattern rest later n back (subst Q slash.slash so_far) (subst R slash.slash slash) is)

pub at-end : (first : List Piece) (start text pattern rest : List ℕ) (back : Option (List ℕ × List ℕ)) → IsTrying first start text pattern rest back → inside pattern ≡ [] → length rest ≡ 0 → fits first text ≡ true
at-end first start text pattern [] back so_far reads none =
    so_far.same ∙ or_left (fits (inside pattern) []) (other_back back) (ap (λ (ps : List Piece). fits ps []) reads)
at-end first start text pattern (b ∷ rest) back so_far reads none = absurd (omega arith)

-- a pair of texts, since a bare pair has no type of its own
abbrev pub texts : List ℕ → List ℕ → Option (List ℕ × List ℕ)
texts pattern rest = Some (pattern, rest)

none-at : (c d : Bool) (pattern rest : List ℕ) → cond c None (texts pattern rest) ≡ None → (not c && d) ≡ false
none-at true d pattern rest h = refl
none-at false d pattern rest h = absurd (cc)

other-none : (pattern rest : List ℕ) → next_byte pattern rest ≡ None → other_split (fits (inside pattern)) rest ≡ false
other-none pattern [] none = refl
other-none pattern (b ∷ rest) none = none-at (is_slash b) (some_split (fits (inside pattern)) rest) pattern rest none

pub is-stuck : (first : List Piece) (start text pattern rest : List ℕ) (back : Option (List ℕ × List ℕ)) → IsTrying first start text pattern rest back → fits (inside pattern) rest ≡ false → next_split back ≡ None
    → fits first text ≡ false
is-stuck first start text pattern rest None so_far stuck none = so_far.same ∙ ap (λ (c : Bool). c || false) stuck
is-stuck first start text pattern rest (Some tried) so_far stuck none =
    so_far.same ∙ ap (λ (c : Bool). c || other_split (fits (inside tried.0)) tried.1) stuck ∙ other-none tried.0 tried.1 none

-- the next split, by its byte
pub record GoesBack (pattern rest later after : List ℕ) : Type 0 where
  pub byte : ℕ
  pub other : is_slash byte ≡ false
  pub pattern_same : later ≡ pattern
  pub rest_is : rest ≡ byte ∷ after

abbrev pub pattern_of : Option (List ℕ × List ℕ) → List ℕ
pattern_of None = []
pattern_of (Some at) = at.0

abbrev pub rest_of : Option (List ℕ × List ℕ) → List ℕ
rest_of None = []
rest_of (Some at) = at.1

goes-back_at : (c : Bool) (b : ℕ) (pattern rest later after : List ℕ) → is_slash b ≡ c → cond c None (texts pattern rest) ≡ texts later after → GoesBack pattern (b ∷ rest) later after
goes-back_at true b pattern rest later after is h = absurd (cc)
goes-back_at false b pattern rest later after is h = record { byte = b; other = is; pattern_same = sym (ap pattern_of h); rest_is = ap (λ (u : List ℕ). b ∷ u) (ap rest_of h) }

goes-back : (pattern rest later after : List ℕ) → next_byte pattern rest ≡ texts later after → GoesBack pattern rest later after
goes-back pattern [] later after h = absurd (cc)
goes-back pattern (b ∷ rest) later after h = goes-back_at (is_slash b) b pattern rest later after refl h

back-same : (pattern rest later after : List ℕ) → GoesBack pattern rest later after → other_split (fits (inside pattern)) rest ≡ (fits (inside later) after || other_split (fits (inside later)) after)
back-same pattern rest later after g =
    ap (other_split (fits (inside pattern))) g.rest_is
    ∙ ap (λ (c : Bool). c && some_split (fits (inside pattern)) after) (not_from_false (is_slash g.byte) g.other)
    ∙ ap (λ (p : List ℕ). some_split (fits (inside p)) after) (sym g.pattern_same)
    ∙ split-other (fits (inside later)) after

pub at-stuck : (first : List Piece) (start text pattern rest later after : List ℕ) (back : Option (List ℕ × List ℕ)) → IsTrying first start text pattern rest back → fits (inside pattern) rest ≡ false
    → next_split back ≡ texts later after → IsTrying first start text later after (texts later after) × (length after + 1 ≤ room text back)
at-stuck first start text pattern rest later after None so_far stuck next = absurd (cc)
at-stuck first start text pattern rest later after (Some tried) so_far stuck next =
    let g = goes-back tried.0 tried.1 later after next in
    let known : IsBack first start text pattern rest tried.0 tried.1 = so_far.known in
    let stop : from_stop (inside later) ≡ from_stop first = ap (λ (p : List ℕ). from_stop (inside p)) g.pattern_same ∙ known.stop in
    let slash : from_slash after ≡ from_slash text = sym (slash-byte g.byte after g.other) ∙ sym (ap from_slash g.rest_is) ∙ known.slash in
    let size : length later ≤ length start = omega (arith, ap length g.pattern_same, known.size) in (
      record {
        same = so_far.same ∙ ap (λ (c : Bool). c || other_split (fits (inside tried.0)) tried.1) stuck ∙ back-same tried.0 tried.1 later after g;
        stop = stop;
        slash = slash;
        size = size;
        known = record { enough = λ h. h; stop = stop; slash = slash; size = size; bound = omega arith };
      },
      omega (arith, ap length g.rest_is),
    )
