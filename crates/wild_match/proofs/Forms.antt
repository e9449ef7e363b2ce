-- Why the form of a pattern decides a path as the pattern does.
use Rattle.std.proofs.Common.{◌≡◌, ◌≢◌, ℕ, suc, ◌+◌, ◌-◌, Bool, true, false, cond, ◌&&◌, ◌||◌, not, List, [], ◌∷◌, inl, inr, length, take, drop, eqb, refl, sym, ◌∙◌, ap, arith, ◌<◌, ◌≤◌, ◌⊎◌, Some}
use Rattle.std.specs.Prelude.{nat_eq, slice_index}
use Rattle.std.specs.List.{list_any, prefix_len, starts_with, ends_with}
use Rattle.std.specs.Str.{bytes_eq}
use Rattle.std.specs.Cmp.Lexicographic.{pointwise}
use Rattle.std.proofs.Math.Seq.{drop-nil}
use Rattle.std.proofs.lemmas.Bool.{and_from, ne_eqb, eqb-true, eqb-false, eq-eqb, or_parts, and_parts, cases_lt, false_from_ne_true}
use Rattle.wild_match.specs.Pieces.{Piece, Slash, One, Run, Folders, Rest, Never, front, plain_front, is_folders, is_rest, onto, pieces_behind, pieces}
use Rattle.wild_match.specs.Fits.{is_slash, some_split, fits, is_match, last_part, without_slash}
use Rattle.wild_match.specs.Compiled.{is_plain, all_plain, is_ending, is_of_nothing, IsOfName, IsOfPath, IsForm, has_known, IsKnown}
use Rattle.std.proofs.lemmas.Grind.{common_steps}
use Rattle.wild_match.specs.declared.compiled.Known.{Known}
use Rattle.wild_match.specs.Steps.{single_of, IsSingle}
use Rattle.wild_match.proofs.Splits.{one-parts}
use Rattle.wild_match.specs.declared.compiled.PatternForm.TheVariants.{Nothing, Name, Ending, InName, Path, InPath}
use Rattle.wild_match.proofs.ReadPieces.{front-same, front-plain, pieces-front}

-- ---- one plain byte

nor_parts : (w x y z : Bool) → not (w || x || y || z) ≡ true → (w ≡ false) × (x ≡ false) × (y ≡ false) × (z ≡ false)
nor_parts false false false false h = (refl, refl, refl, refl)
nor_parts true x y z h = absurd (cc)
nor_parts false true y z h = absurd (cc)
nor_parts false false true z h = absurd (cc)
nor_parts false false false true h = absurd (cc)

-- the piece of a byte that stands for itself
abbrev plain_piece : ℕ → Piece × ℕ
plain_piece b = cond (eqb b 47) (Slash, 1) (One (nat_eq b), 1)

plain-reads : (b : ℕ) (text : List ℕ) → is_plain b ≡ true → plain_front (b ∷ text) ≡ plain_piece b
unfolding plain_front
plain-reads b text plain =
    let no = nor_parts (eqb b 42) (eqb b 63) (eqb b 91) (eqb b 92) plain in
    rw (no.0, no.1, no.2, no.3) refl

flip : (a b : ℕ) → eqb a b ≡ false → eqb b a ≡ false
flip a b h = ne_eqb b a (λ is. eqb-false a b h (sym is))

plain-front : (fresh : Bool) (b : ℕ) (text : List ℕ) → is_plain b ≡ true → front fresh (b ∷ text) ≡ plain_piece b
plain-front false b text plain = front-plain (b ∷ text) ∙ plain-reads b text plain
plain-front true b text plain =
    let no = nor_parts (eqb b 42) (eqb b 63) (eqb b 91) (eqb b 92) plain in
    let folders : is_folders (b ∷ text) ≡ false = rw (flip b 42 no.0) refl in
    let rest : is_rest (b ∷ text) ≡ false = rw no.0 refl in
    front-same (b ∷ text) folders rest ∙ plain-reads b text plain

-- the pieces from such a byte on
abbrev from_plain : Bool → ℕ → List ℕ → List Piece
from_plain true b text = Slash ∷ pieces true text
from_plain false b text = One (nat_eq b) ∷ pieces false text

onto_plain : (c : Bool) (b : ℕ) (text : List ℕ) → onto (cond c (Slash, 1) (One (nat_eq b), 1)) (λ skip fresh. pieces_behind skip fresh text) ≡ from_plain c b text
onto_plain true b text = refl
onto_plain false b text = refl

plain-pieces : (fresh : Bool) (b : ℕ) (text : List ℕ) → is_plain b ≡ true → pieces fresh (b ∷ text) ≡ from_plain (eqb b 47) b text
plain-pieces fresh b text plain =
    ap (λ (first : Piece × ℕ). onto first (λ skip fresh. pieces_behind skip fresh text)) (plain-front fresh b text plain) ∙ onto_plain (eqb b 47) b text

-- such a byte and one of a path
one_byte : (b c : ℕ) (same : Bool) (later : Bool) → eqb b c ≡ same → eqb b 47 ≡ false → (not (eqb c 47) && same && later) ≡ (same && later)
one_byte b c true later is other =
    let no : eqb c 47 ≡ false = ne_eqb c 47 (λ slash. eqb-false b 47 other (eqb-true b c is ∙ slash)) in rw no refl
one_byte b c false later is other = and_none (not (eqb c 47)) later
  where
    and_none : (x y : Bool) → (x && false && y) ≡ false
    and_none true y = refl
    and_none false y = refl

slash_byte : (b c : ℕ) → eqb b 47 ≡ true → eqb c 47 ≡ eqb b c
slash_byte b c is =
    elim (eqb c 47) as (λ s. eqb c 47 ≡ s → s ≡ eqb b c) [
      | true ↦ λ h. sym (eq-eqb b c (eqb-true b 47 is ∙ sym (eqb-true c 47 h)))
      | false ↦ λ h. sym (ne_eqb b c (λ same. eqb-false c 47 h (sym same ∙ eqb-true b 47 is)))
    ] refl

plain_fits_at : (s : Bool) (b c : ℕ) (text t : List ℕ) → eqb b 47 ≡ s → fits (from_plain s b text) (c ∷ t) ≡ (eqb b c && fits (pieces s text) t)
plain_fits_at true b c text t is = ap (λ (x : Bool). x && fits (pieces true text) t) (slash_byte b c is)
plain_fits_at false b c text t is = one_byte b c (eqb b c) (fits (pieces false text) t) refl is

plain-fits : (fresh : Bool) (b c : ℕ) (text t : List ℕ) → is_plain b ≡ true → fits (pieces fresh (b ∷ text)) (c ∷ t) ≡ (eqb b c && fits (pieces (eqb b 47) text) t)
plain-fits fresh b c text t plain =
    ap (λ (ps : List Piece). fits ps (c ∷ t)) (plain-pieces fresh b text plain) ∙ plain_fits_at (eqb b 47) b c text t refl

none_at : (s : Bool) (b : ℕ) (text : List ℕ) → fits (from_plain s b text) [] ≡ false
none_at true b text = refl
none_at false b text = refl

plain-none : (fresh : Bool) (b : ℕ) (text : List ℕ) → is_plain b ≡ true → fits (pieces fresh (b ∷ text)) [] ≡ false
plain-none fresh b text plain = ap (λ (ps : List Piece). fits ps []) (plain-pieces fresh b text plain) ∙ none_at (eqb b 47) b text

-- ---- plain bytes in front

and_at : (x y z : Bool) → (x && y) ≡ true → (y ≡ true → z ≡ true) → (x && z) ≡ true
and_at true y z h later = later h
and_at false y z h later = absurd (cc)

begins_at : (p : Bool) (fresh : Bool) (b : ℕ) (text t : List ℕ) → is_plain b ≡ p → fits (pieces fresh (b ∷ text)) t ≡ true
    → ((fresh : Bool) (t : List ℕ) → fits (pieces fresh text) t ≡ true → starts_with nat_eq t (take (prefix_len is_plain text) text) ≡ true)
    → starts_with nat_eq t (take (cond p (1 + prefix_len is_plain text) 0) (b ∷ text)) ≡ true
begins_at false fresh b text t is fit later = refl
begins_at true fresh b text [] is fit later = absurd (let no : true ≡ false = sym fit ∙ plain-none fresh b text is in cc)
begins_at true fresh b text (c ∷ t) is fit later =
    let size : 1 + prefix_len is_plain text ≡ suc (prefix_len is_plain text) = omega arith in
    let both = sym (plain-fits fresh b c text t is) ∙ fit in
    rw size (and_at (eqb b c) (fits (pieces (eqb b 47) text) t) (starts_with nat_eq t (take (prefix_len is_plain text) text)) both (later (eqb b 47) t))

-- a path that fits begins with the plain bytes in front of its pattern
pub begins : (fresh : Bool) (text t : List ℕ) → fits (pieces fresh text) t ≡ true → starts_with nat_eq t (take (prefix_len is_plain text) text) ≡ true
begins fresh [] t fit = refl
begins fresh (b ∷ text) t fit = begins_at (is_plain b) fresh b text t refl fit (λ fresh t. begins fresh text t)

absorbed : (x y : Bool) → (y ≡ true → x ≡ true) → (x && y) ≡ y
absorbed true y h = refl
absorbed false true h = absurd (let no : false ≡ true = h refl in cc)
absorbed false false h = refl

pub known-too : (known : Known) (fresh : Bool) (pattern text : List ℕ) → IsKnown pattern known → (has_known known pattern text && fits (pieces fresh pattern) text) ≡ fits (pieces fresh pattern) text
known-too known fresh pattern text is = absorbed (has_known known pattern text) (fits (pieces fresh pattern) text) (is fresh text)

-- ---- the plain bytes after one piece

tail_at : (p : Bool) (fresh : Bool) (b : ℕ) (text t : List ℕ) → is_plain b ≡ p → fits (pieces fresh (b ∷ text)) t ≡ true
    → ((fresh : Bool) (t : List ℕ) → fits (pieces fresh text) t ≡ true → (f : Bool) × (fits (pieces f (drop (prefix_len is_plain text) text)) (drop (prefix_len is_plain text) t) ≡ true))
    → (f : Bool) × (fits (pieces f (drop (cond p (1 + prefix_len is_plain text) 0) (b ∷ text))) (drop (cond p (1 + prefix_len is_plain text) 0) t) ≡ true)
tail_at false fresh b text t is fit later = (fresh, fit)
tail_at true fresh b text [] is fit later = absurd (let no : true ≡ false = sym fit ∙ plain-none fresh b text is in cc)
tail_at true fresh b text (c ∷ t) is fit later =
    let size : 1 + prefix_len is_plain text ≡ suc (prefix_len is_plain text) = omega arith in
    let both = sym (plain-fits fresh b c text t is) ∙ fit in
    rw size (later (eqb b 47) t (and_parts (eqb b c) (fits (pieces (eqb b 47) text) t) both).1)

-- what is left after the plain bytes in front
tail : (fresh : Bool) (text t : List ℕ) → fits (pieces fresh text) t ≡ true → (f : Bool) × (fits (pieces f (drop (prefix_len is_plain text) text)) (drop (prefix_len is_plain text) t) ≡ true)
tail fresh [] t fit = (fresh, fit)
tail fresh (b ∷ text) t fit = tail_at (is_plain b) fresh b text t refl fit (λ fresh t. tail fresh text t)

-- a `?` or a set isn't changed by what stands before it
single_front : (fresh : Bool) (pattern : List ℕ) (n : ℕ) → IsSingle pattern n → front fresh pattern ≡ plain_front pattern
single_front false pattern n is = front-plain pattern
single_front true [] n is = absurd (no_first (slice_index [] 0) refl is.first)
  where
    no_first : (b : ℕ) → b ≡ 0 → (b ≡ 63) ⊎ (b ≡ 91) → ⊥
    no_first b z (inl h) = omega (arith, z, h)
    no_first b z (inr h) = omega (arith, z, h)
single_front true (b ∷ text) n is =
    let other : b ≢ 42 = star_not is.first in
    let folders : is_folders (b ∷ text) ≡ false = rw (ne_eqb 42 b (λ h. other (sym h))) refl in
    let rest : is_rest (b ∷ text) ≡ false = rw (ne_eqb b 42 other) refl in
    front-same (b ∷ text) folders rest
  where
    star_not : (b ≡ 63) ⊎ (b ≡ 91) → b ≢ 42
    star_not (inl h) e = omega (arith, h, e)
    star_not (inr h) e = omega (arith, h, e)

single_piece : (first : Piece × ℕ) (n : ℕ) → single_of first ≡ Some n → (passes : ℕ → Bool) × (first ≡ (One passes, n))
single_piece (One passes, k) n is = (passes, ap (λ (m : ℕ). (One passes, m)) (cc))
single_piece (Slash, k) n is = absurd (cc)
single_piece (Run, k) n is = absurd (cc)
single_piece (Folders, k) n is = absurd (cc)
single_piece (Rest, k) n is = absurd (cc)
single_piece (Never, k) n is = absurd (cc)

behind_one : (passes : ℕ → Bool) (later : List Piece) (t : List ℕ) → fits (One passes ∷ later) t ≡ true → fits later (drop 1 t) ≡ true
behind_one passes later [] fit = absurd (cc)
behind_one passes later (c ∷ t) fit = (one-parts passes later c t fit).1

-- what is left after such a piece
behind_single : (fresh : Bool) (pattern t : List ℕ) (n : ℕ) → IsSingle pattern n → 0 < n → n ≤ length pattern → fits (pieces fresh pattern) t ≡ true → fits (pieces false (drop n pattern)) (drop 1 t) ≡ true
behind_single fresh pattern t n is some within fit =
    let piece = single_piece (plain_front pattern) n is.reads in
    let reads = pieces-front fresh pattern (One piece.0) n (omega (arith, some, within)) some (single_front fresh pattern n is ∙ piece.1) in
    behind_one piece.0 (pieces false (drop n pattern)) t (sym (ap (λ (ps : List Piece). fits ps t) reads) ∙ fit)

dropped : (n m : ℕ) (t : List ℕ) → drop m (drop n t) ≡ drop (n + m) t
dropped n m t = grind (arith, common_steps)

pub single_known : (pattern rest behind : List ℕ) (known : Known) (n : ℕ) → known.front ≡ prefix_len is_plain pattern → rest ≡ drop known.front pattern → IsSingle rest n → 0 < n → n ≤ length rest
    → known.next ≡ known.front + n → behind ≡ drop n rest → known.more ≡ prefix_len is_plain behind → IsKnown pattern known
single_known pattern rest behind known n front_is rest_is single some within next_is behind_is more_is fresh text fit =
    let k = prefix_len is_plain pattern in
    let left = tail fresh pattern text fit in
    let rest_at : rest ≡ drop k pattern = rest_is ∙ ap (λ (m : ℕ). drop m pattern) front_is in
    let fit_rest : fits (pieces left.0 rest) (drop k text) ≡ true = ap (λ (p : List ℕ). fits (pieces left.0 p) (drop k text)) rest_at ∙ left.1 in
    let fit_behind : fits (pieces false behind) (drop 1 (drop k text)) ≡ true = ap (λ (p : List ℕ). fits (pieces false p) (drop 1 (drop k text))) behind_is ∙ behind_single left.0 rest (drop k text) n single some within fit_rest in
    let more_in : starts_with nat_eq (drop 1 (drop k text)) (take (prefix_len is_plain behind) behind) ≡ true = begins false behind (drop 1 (drop k text)) fit_behind in
    let text_is : drop (known.front + 1) text ≡ drop 1 (drop k text) = ap (λ (m : ℕ). drop (m + 1) text) front_is ∙ sym (dropped k 1 text) in
    let behind_at : drop known.next pattern ≡ behind = ap (λ (m : ℕ). drop m pattern) next_is ∙ sym (dropped known.front n pattern) ∙ ap (λ (p : List ℕ). drop n p) (sym rest_is) ∙ sym behind_is in
    let first : starts_with nat_eq text (take known.front pattern) ≡ true = ap (λ (m : ℕ). starts_with nat_eq text (take m pattern)) front_is ∙ begins fresh pattern text fit in
    let second : starts_with nat_eq (drop (known.front + 1) text) (take known.more (drop known.next pattern)) ≡ true =
    ap (λ (t : List ℕ). starts_with nat_eq t (take known.more (drop known.next pattern))) text_is
    ∙ ap (λ (p : List ℕ). starts_with nat_eq (drop 1 (drop k text)) (take known.more p)) behind_at
    ∙ ap (λ (m : ℕ). starts_with nat_eq (drop 1 (drop k text)) (take m behind)) more_is ∙ more_in in
    and_from (starts_with nat_eq text (take known.front pattern)) (starts_with nat_eq (drop (known.front + 1) text) (take known.more (drop known.next pattern))) first second

pub none_known : (pattern : List ℕ) (known : Known) → known.front ≡ prefix_len is_plain pattern → known.more ≡ 0 → IsKnown pattern known
none_known pattern known front_is none fresh text fit =
    let first : starts_with nat_eq text (take known.front pattern) ≡ true = ap (λ (m : ℕ). starts_with nat_eq text (take m pattern)) front_is ∙ begins fresh pattern text fit in
    and_from (starts_with nat_eq text (take known.front pattern)) (starts_with nat_eq (drop (known.front + 1) text) (take known.more (drop known.next pattern))) first (rw none refl)

-- ---- plain bytes alone

plain_parts : (p : Bool) (n k : ℕ) → cond p (1 + n) 0 ≡ suc k → (p ≡ true) × (n ≡ k)
plain_parts true n k h = (refl, omega (arith, h))
plain_parts false n k h = absurd (omega (arith, h))

pub same-text : (fresh : Bool) (text t : List ℕ) → prefix_len is_plain text ≡ length text → fits (pieces fresh text) t ≡ bytes_eq text t
same-text fresh [] [] plain = refl
same-text fresh [] (c ∷ t) plain = refl
same-text fresh (b ∷ text) [] plain = plain-none fresh b text (plain_parts (is_plain b) (prefix_len is_plain text) (length text) plain).0
same-text fresh (b ∷ text) (c ∷ t) plain =
    let parts = plain_parts (is_plain b) (prefix_len is_plain text) (length text) plain in
    plain-fits fresh b c text t parts.0 ∙ ap (λ (x : Bool). eqb b c && x) (same-text (eqb b 47) text t parts.1)

-- ---- a star and plain bytes

longer : (text t : List ℕ) → length text ≢ length t → bytes_eq text t ≡ false
longer text t other = false_from_ne_true (bytes_eq text t) (λ is. other (pointwise_long text t is))
  where
    pointwise_long : (xs ys : List ℕ) → pointwise nat_eq xs ys ≡ true → length xs ≡ length ys
    pointwise_long [] [] h = refl
    pointwise_long [] (y ∷ ys) h = absurd (cc)
    pointwise_long (x ∷ xs) [] h = absurd (cc)
    pointwise_long (x ∷ xs) (y ∷ ys) h = ap suc (pointwise_long xs ys (and_parts (eqb x y) (pointwise nat_eq xs ys) h).1)

split_here : (x y z s : Bool) → x ≡ false → y ≡ z → s ≡ false → (x || (not s && y)) ≡ z
split_here true y z s first later other = absurd (cc)
split_here false y z true first later other = absurd (cc)
split_here false y z false first later other = later

split_end : (x y s : Bool) → y ≡ false → (x || (not s && y)) ≡ x
split_end true y s none = refl
split_end false true s none = absurd (cc)
split_end false false true none = refl
split_end false false false none = refl

pub ends : (f : List ℕ → Bool) (text : List ℕ) → ((t : List ℕ) → f t ≡ bytes_eq text t) → (t : List ℕ) → list_any is_slash t ≡ false → some_split f t ≡ ends_with nat_eq t text
ends f text is [] none = is [] ∙ ap (bytes_eq text) (sym (drop-nil (0 - length text)))
ends f text is (b ∷ t) none =
    let parts = or_parts (is_slash b) (list_any is_slash t) none in
    elim (cases_lt (length t) (length text)) [
      | inl short ↦
          let all : length (b ∷ t) - length text ≡ 0 = omega (arith, short) in
          let same : length t - length text ≡ 0 = omega (arith, short) in
          let later : some_split f t ≡ false = ends f text is t parts.1 ∙ ap (λ (n : ℕ). bytes_eq text (drop n t)) same ∙ longer text t (λ e. omega (arith, short, e)) in
          split_end (f (b ∷ t)) (some_split f t) (is_slash b) later ∙ is (b ∷ t) ∙ ap (λ (n : ℕ). bytes_eq text (drop n (b ∷ t))) (sym all)
      | inr long ↦
          let size : length (b ∷ t) - length text ≡ suc (length t - length text) = omega (arith, long) in
          let first : f (b ∷ t) ≡ false = is (b ∷ t) ∙ longer text (b ∷ t) (λ e. omega (arith, long, e)) in
          split_here (f (b ∷ t)) (some_split f t) (ends_with nat_eq t text) (is_slash b) first (ends f text is t parts.1) parts.0
          ∙ ap (λ (n : ℕ). bytes_eq text (drop n (b ∷ t))) (sym size)
    ]

-- the last part of a path has no `/`
pub last-plain : (path : List ℕ) → list_any is_slash (last_part path) ≡ false
last-plain [] = refl
last-plain (b ∷ text) =
    elim (list_any is_slash (b ∷ text)) as (λ s. list_any is_slash (b ∷ text) ≡ s → list_any is_slash (cond s (last_part text) (b ∷ text)) ≡ false) [
      | true ↦ λ h. last-plain text
      | false ↦ λ h. h
    ] refl

star_pieces : (text : List ℕ) → pieces false (42 ∷ text) ≡ Run ∷ pieces false text
unfolding front plain_front
star_pieces text = refl

pub star-ends : (text t : List ℕ) → prefix_len is_plain text ≡ length text → list_any is_slash t ≡ false → fits (pieces false (42 ∷ text)) t ≡ ends_with nat_eq t text
star-ends text t plain none =
    ap (λ (ps : List Piece). fits ps t) (star_pieces text) ∙ ends (fits (pieces false text)) text (λ u. same-text false text u plain) t none

-- ---- the forms

pub name_is : (pattern : List ℕ) → IsOfName pattern → prefix_len is_plain pattern ≡ length pattern → IsForm Name pattern
name_is pattern of plain = record {
  within = omega arith;
  right = λ path. sym (of path ∙ same-text false pattern (last_part path) plain);
}

ending_parts : (pattern : List ℕ) → is_ending pattern ≡ true → (text : List ℕ) × (pattern ≡ 42 ∷ text) × (prefix_len is_plain text ≡ length text)
ending_parts [] h = absurd (cc)
ending_parts (b ∷ text) h =
    let parts = and_parts (eqb b 42) (all_plain text) h in
    (text, ap (λ (n : ℕ). n ∷ text) (eqb-true b 42 parts.0), eqb-true (prefix_len is_plain text) (length text) parts.1)

ending_at : (pattern text : List ℕ) → IsOfName pattern → pattern ≡ 42 ∷ text → prefix_len is_plain text ≡ length text → (path : List ℕ) → ends_with nat_eq (last_part path) (drop 1 pattern) ≡ is_match pattern path
ending_at pattern text of is plain path =
    ap (λ (p : List ℕ). ends_with nat_eq (last_part path) (drop 1 p)) is
    ∙ sym (star-ends text (last_part path) plain (last-plain path))
    ∙ ap (λ (p : List ℕ). fits (pieces false p) (last_part path)) (sym is)
    ∙ sym (of path)

pub ending_is : (pattern : List ℕ) → IsOfName pattern → is_ending pattern ≡ true → IsForm Ending pattern
ending_is pattern of h =
    let parts = ending_parts pattern h in
    let long : length pattern ≡ suc (length parts.0) = ap length parts.1 in
    record {
      within = omega (arith, long);
      right = ending_at pattern parts.0 of parts.1 parts.2;
    }

pub in_name : (pattern : List ℕ) (known : Known) → IsOfName pattern → IsKnown pattern known → IsForm (InName known) pattern
in_name pattern known of is = record {
  within = omega arith;
  right = λ path. known-too known false pattern (last_part path) is ∙ sym (of path);
}

pub path_is : (pattern : List ℕ) → IsOfPath pattern → prefix_len is_plain (without_slash pattern) ≡ length (without_slash pattern) → IsForm Path pattern
path_is pattern of plain = record {
  within = omega arith;
  right = λ path. sym (of path ∙ same-text true (without_slash pattern) path plain);
}

pub in_path : (pattern : List ℕ) (known : Known) → IsOfPath pattern → IsKnown (without_slash pattern) known → IsForm (InPath known) pattern
in_path pattern known of is = record {
  within = omega arith;
  right = λ path. known-too known true (without_slash pattern) path is ∙ sym (of path);
}

-- ---- which form a pattern has

nothing_at : (none : Bool) (pattern path : List ℕ) → eqb (length pattern) 0 ≡ none → cond none true (is_slash (slice_index pattern (length pattern - 1))) ≡ true → false ≡ is_match pattern path
unfolding is_match
nothing_at true pattern path is h = rw is refl
nothing_at false pattern path is h = rw (is, h) refl

pub nothing_is : (pattern : List ℕ) → is_of_nothing pattern ≡ true → IsForm Nothing pattern
nothing_is pattern h = record { within = omega arith; right = λ path. nothing_at (eqb (length pattern) 0) pattern path refl h }

some_at : (none : Bool) (last : Bool) → cond none true last ≡ false → (none ≡ false) × (last ≡ false)
some_at true last h = absurd (cc)
some_at false last h = (refl, h)

pub of_path : (pattern : List ℕ) → is_of_nothing pattern ≡ false → list_any is_slash pattern ≡ true → IsOfPath pattern
unfolding is_match
of_path pattern some has path =
    let parts = some_at (eqb (length pattern) 0) (is_slash (slice_index pattern (length pattern - 1))) some in rw (parts.0, parts.1, has) refl

pub of_name : (pattern : List ℕ) → is_of_nothing pattern ≡ false → list_any is_slash pattern ≡ false → IsOfName pattern
unfolding is_match
of_name pattern some none path =
    let parts = some_at (eqb (length pattern) 0) (is_slash (slice_index pattern (length pattern - 1))) some in rw (parts.0, parts.1, none) refl
