-- The whole: going back to the last `**/` is enough.
use Rattle.std.proofs.Common.{◌≡◌, ℕ, ◌+◌, ◌*◌, ◌<◌, ◌≤◌, Bool, true, false, cond, ◌||◌, inl, inr, List, [], ◌∷◌, length, Option, Some, None, refl, sym, ◌∙◌, ap, arith}
use Rattle.std.specs.List.{position}
use Rattle.std.proofs.lemmas.Bool.{or_cases, or_left, or_right}
use Rattle.wild_match.specs.Pieces.{Piece, Slash, Folders, pieces}
use Rattle.wild_match.specs.Fits.{is_slash, some_split, some_folder, fits}
use Rattle.wild_match.specs.Steps.{from_stop, from_slash, BehindPart, behind_slash, next_folder}
use Rattle.wild_match.proofs.Splits.{stop-split, folder-each, folder-again, folder-opens, folder-split, folder-from}
use Rattle.wild_match.proofs.Parts.{texts, pattern_of, rest_of, room, work, absorb, or-none}
use Rattle.wild_match.proofs.LastPart.{found, ended}

-- another place for what follows the last `**/`
abbrev pub other_folder : Option (List ℕ × List ℕ) → Bool
other_folder None = false
other_folder (Some tried) = some_folder (fits (pieces true tried.0)) tried.1

pub record IsFolder (first : List Piece) (start rest tried_pattern tried_rest : List ℕ) : Type 0 where
  pub enough : some_folder (fits (pieces true tried_pattern)) tried_rest ≡ true → fits (Folders ∷ first) rest ≡ true
  pub size : length tried_pattern ≤ length start
  pub bound : length rest ≤ length tried_rest

abbrev pub IsFolderOr : List Piece → List ℕ → List ℕ → List ℕ → Option (List ℕ × List ℕ) → Type 0
IsFolderOr first start text rest None = length rest ≤ length text
IsFolderOr first start text rest (Some tried) = IsFolder first start rest tried.0 tried.1

-- what holds before each part
pub record IsWalking (whole : Bool) (start text : List ℕ) (fresh : Bool) (pattern rest : List ℕ) (back : Option (List ℕ × List ℕ)) : Type 0 where
  pub same : fits (pieces whole start) text ≡ (fits (pieces fresh pattern) rest || other_folder back)
  pub size : length pattern ≤ length start
  pub known : IsFolderOr (pieces fresh pattern) start text rest back

pub sets-out : (whole : Bool) (start text : List ℕ) → IsWalking whole start text whole start text None
sets-out whole start text = record { same = or-none (fits (pieces whole start) text); size = omega arith; known = omega arith }

folder-bound : (first : List Piece) (start text rest : List ℕ) (back : Option (List ℕ × List ℕ)) → IsFolderOr first start text rest back → length rest ≤ room text back
folder-bound first start text rest None known = let bound : length rest ≤ length text = known in omega arith
folder-bound first start text rest (Some tried) known = known.bound

other-enough : (first : List Piece) (start text rest : List ℕ) (back : Option (List ℕ × List ℕ)) → IsFolderOr first start text rest back → other_folder back ≡ true → fits (Folders ∷ first) rest ≡ true
other-enough first start text rest None known h = absurd (cc)
other-enough first start text rest (Some tried) known h = known.enough h

opens-again : (later : List Piece) (rest : List ℕ) → fits (Folders ∷ Folders ∷ later) rest ≡ true → fits (Folders ∷ later) rest ≡ true
opens-again later rest h =
    elim (or_cases (fits (Folders ∷ later) rest) (some_folder (fits (Folders ∷ later)) rest) h) [
      | inl here ↦ here
      | inr other ↦ or_right (fits later rest) (some_folder (fits later) rest) (folder-opens later rest other)
    ]

pub at-folders : (whole fresh : Bool) (start text pattern rest later : List ℕ) (back : Option (List ℕ × List ℕ)) → IsWalking whole start text fresh pattern rest back
    → pieces fresh pattern ≡ Folders ∷ pieces true later → length later < length pattern → IsWalking whole start text true later rest (Some (later, rest))
at-folders whole fresh start text pattern rest later back so_far reads shorter =
    let here : fits (pieces fresh pattern) rest ≡ fits (Folders ∷ pieces true later) rest = ap (λ (ps : List Piece). fits ps rest) reads in
    let give : other_folder back ≡ true → fits (pieces fresh pattern) rest ≡ true =
    λ h. here ∙ opens-again (pieces true later) rest (sym (ap (λ (ps : List Piece). fits (Folders ∷ ps) rest) reads) ∙ other-enough (pieces fresh pattern) start text rest back so_far.known h) in
    record {
      same = absorb (fits (pieces fresh pattern) rest) (other_folder back) (fits (pieces whole start) text) give so_far.same ∙ here;
      size = omega (arith, so_far.size);
      known = record {
        enough = λ h. or_right (fits (pieces true later) rest) (some_folder (fits (pieces true later)) rest) h;
        size = omega (arith, so_far.size);
        bound = omega arith;
      };
    }

-- a place after a folder for a part gives one for what follows it
behind-folder : (first later : List Piece) (rest : List ℕ) → from_stop first ≡ Slash ∷ later → fits first rest ≡ true → some_folder (fits later) rest ≡ true
behind-folder first later rest stop h = folder-split later rest (sym (ap (λ (ps : List Piece). some_split (fits ps) rest) stop) ∙ stop-split first rest h)

behind-enough : (first later : List Piece) (rest after : List ℕ) → fits first rest ≡ fits later after → from_stop first ≡ Slash ∷ later → from_slash rest ≡ 47 ∷ after
    → fits (Folders ∷ first) rest ≡ true → fits (Folders ∷ later) after ≡ true
behind-enough first later rest after same stop slash h =
    elim (or_cases (fits first rest) (some_folder (fits first) rest) h) [
      | inl here ↦ or_left (fits later after) (some_folder (fits later) after) (sym same ∙ here)
      | inr other ↦
          let moved : (fits first after || some_folder (fits first) after) ≡ true = sym (folder-from (fits first) rest ∙ ap (some_folder (fits first)) slash) ∙ other in
          or_right (fits later after) (some_folder (fits later) after) (elim (or_cases (fits first after) (some_folder (fits first) after) moved) [
            | inl here ↦ behind-folder first later after stop here
            | inr on ↦ folder-again (fits later) after (folder-each (fits first) (λ u. some_folder (fits later) u) (λ u fit. behind-folder first later u stop fit) after on)
          ])
    ]

from_slash-shorter_at : (c : Bool) (b : ℕ) (text rest after : List ℕ) → cond c (b ∷ text) rest ≡ 47 ∷ after → (rest ≡ 47 ∷ after → length after < length text) → length after < length (b ∷ text)
from_slash-shorter_at true b text rest after is later = omega (arith, ap (length {A = ℕ}) is)
from_slash-shorter_at false b text rest after is later = omega (arith, later is)

from_slash-shorter : (text after : List ℕ) → from_slash text ≡ 47 ∷ after → length after < length text
from_slash-shorter [] after is = absurd (cc)
from_slash-shorter (b ∷ text) after is = from_slash-shorter_at (is_slash b) b text (from_slash text) after is (from_slash-shorter text after)

behind-known : (first : List Piece) (start text pattern rest later after : List ℕ) (back : Option (List ℕ × List ℕ)) → BehindPart first pattern rest later after
    → IsFolderOr first start text rest back → IsFolderOr (pieces true later) start text after back
behind-known first start text pattern rest later after None part known =
    let bound : length rest ≤ length text = known in omega (arith, from_slash-shorter rest after part.slash)
behind-known first start text pattern rest later after (Some tried) part known = record {
  enough = λ h. behind-enough first (pieces true later) rest after part.same part.stop part.slash (known.enough h);
  size = known.size;
  bound = omega (arith, known.bound, from_slash-shorter rest after part.slash);
}

pub at-part : (whole fresh : Bool) (start text pattern rest later after : List ℕ) (back : Option (List ℕ × List ℕ)) → IsWalking whole start text fresh pattern rest back
    → BehindPart (pieces fresh pattern) pattern rest later after → IsWalking whole start text true later after back
at-part whole fresh start text pattern rest later after back so_far part = record {
  same = so_far.same ∙ ap (λ (c : Bool). c || other_folder back) part.same;
  size = omega (arith, so_far.size, part.shorter);
  known = behind-known (pieces fresh pattern) start text pattern rest later after back part so_far.known;
}

pub at-match : (whole fresh : Bool) (start text pattern rest : List ℕ) (back : Option (List ℕ × List ℕ)) → IsWalking whole start text fresh pattern rest back → fits (pieces fresh pattern) rest ≡ true
    → fits (pieces whole start) text ≡ true
at-match whole fresh start text pattern rest back so_far fit = so_far.same ∙ or_left (fits (pieces fresh pattern) rest) (other_folder back) fit

folder-none : (f : List ℕ → Bool) (rest : List ℕ) → None ≡ position is_slash rest → some_folder f rest ≡ false
folder-none f rest none = folder-from f rest ∙ ap (some_folder f) (ended rest none)

none-behind : (pattern rest : List ℕ) (o : Option ℕ) → behind_slash pattern rest o ≡ None → None ≡ o
none-behind pattern rest None h = refl
none-behind pattern rest (Some k) h = absurd (cc)

pub is-over : (whole fresh : Bool) (start text pattern rest : List ℕ) (back : Option (List ℕ × List ℕ)) → IsWalking whole start text fresh pattern rest back → fits (pieces fresh pattern) rest ≡ false
    → next_folder back ≡ None → fits (pieces whole start) text ≡ false
is-over whole fresh start text pattern rest None so_far stuck none = so_far.same ∙ ap (λ (c : Bool). c || false) stuck
is-over whole fresh start text pattern rest (Some tried) so_far stuck none =
    so_far.same
    ∙ ap (λ (c : Bool). c || some_folder (fits (pieces true tried.0)) tried.1) stuck
    ∙ folder-none (fits (pieces true tried.0)) tried.1 (none-behind tried.0 tried.1 (position is_slash tried.1) none)

-- the next place, after a `/`
pub record GoesOn (pattern rest later after : List ℕ) : Type 0 where
  pub pattern_same : later ≡ pattern
  pub slash : from_slash rest ≡ 47 ∷ after

goes-on_at : (o : Option ℕ) (pattern rest later after : List ℕ) → o ≡ position is_slash rest → behind_slash pattern rest o ≡ texts later after → GoesOn pattern rest later after
goes-on_at None pattern rest later after is h = absurd (cc)
goes-on_at (Some k) pattern rest later after is h = record {
  pattern_same = sym (ap pattern_of h);
  slash = (found rest k is).1 ∙ ap (λ (u : List ℕ). 47 ∷ u) (ap rest_of h);
}

pub at-next : (whole fresh : Bool) (start text pattern rest later after : List ℕ) (back : Option (List ℕ × List ℕ)) → IsWalking whole start text fresh pattern rest back → fits (pieces fresh pattern) rest ≡ false
    → next_folder back ≡ texts later after → IsWalking whole start text true later after (texts later after) × (length after + 1 ≤ room text back)
at-next whole fresh start text pattern rest later after None so_far stuck next = absurd (cc)
at-next whole fresh start text pattern rest later after (Some tried) so_far stuck next =
    let g = goes-on_at (position is_slash tried.1) tried.0 tried.1 later after refl next in
    let known : IsFolder (pieces fresh pattern) start rest tried.0 tried.1 = so_far.known in
    let size : length later ≤ length start = omega (arith, ap length g.pattern_same, known.size) in
    let moved : some_folder (fits (pieces true tried.0)) tried.1 ≡ (fits (pieces true later) after || some_folder (fits (pieces true later)) after) =
    folder-from (fits (pieces true tried.0)) tried.1
    ∙ ap (some_folder (fits (pieces true tried.0))) g.slash
    ∙ ap (λ (p : List ℕ). some_folder (fits (pieces true p)) (47 ∷ after)) (sym g.pattern_same) in (
      record {
        same = so_far.same ∙ ap (λ (c : Bool). c || some_folder (fits (pieces true tried.0)) tried.1) stuck ∙ moved;
        size = size;
        known = record {
          enough = λ h. or_right (fits (pieces true later) after) (some_folder (fits (pieces true later)) after) h;
          size = size;
          bound = omega arith;
        };
      },
      omega (arith, from_slash-shorter tried.1 after g.slash),
    )

less-work : (a b n m size : ℕ) → a + 1 ≤ b → n < size → a * size + n < b * size + m
less-work a b n m size less small =
    let whole : (a + 1) * size ≤ b * size = grind arith in
    let part : (a + 1) * size ≡ a * size + size = grind arith in
    omega arith

-- going back leaves less to do
pub shrinks : (start text pattern later after : List ℕ) (back : Option (List ℕ × List ℕ)) → length after + 1 ≤ room text back → length later ≤ length start
    → work start text later (texts later after) < work start text pattern back
shrinks start text pattern later after back less size = less-work (length after) (room text back) (length later) (length pattern) (length start + 1) less (omega arith)
