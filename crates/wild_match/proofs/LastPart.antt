-- The last part of a path, and the first `/` of a text.
use Rattle.std.proofs.Common.{◌≡◌, ℕ, suc, ◌+◌, ◌<◌, ◌≤◌, Bool, true, false, cond, ◌||◌, not, List, [], ◌∷◌, length, get_or, take, drop, ◌++◌, ◌-◌, ltb, Some, None, zero, length-drop, refl, sym, ◌∙◌, ap, arith}
use Rattle.std.specs.List.{list_any, position, position_or_len}
use Rattle.std.proofs.Math.Seq.{drop-cons}
use Rattle.std.proofs.lemmas.Bool.{ltb-false, eqb-true, or_from, or_right, false_from_ne_true}
use Rattle.std.proofs.lemmas.List.{drop_all, take-append-drop}
use Rattle.std.proofs.lemmas.List.Quantifiers.{position-Some}
use Rattle.wild_match.specs.Fits.{is_slash, last_part}
use Rattle.wild_match.specs.Steps.{from_slash}
use Rattle.memchr.specs.Find.{IsLastByte, Nowhere, Passes, is_byte}

-- how many bytes stand before the first `/`
abbrev pub before : List ℕ → ℕ
before text = position_or_len is_slash text

from-drop_at : (c : Bool) (b n : ℕ) (text rest : List ℕ) → rest ≡ drop n text → cond c (b ∷ text) rest ≡ drop (cond (not c) (1 + n) 0) (b ∷ text)
from-drop_at true b n text rest h = refl
from-drop_at false b n text rest h = let size : 1 + n ≡ suc n = omega arith in rw size h

from-drop : (text : List ℕ) → from_slash text ≡ drop (before text) text
from-drop [] = refl
from-drop (b ∷ text) = from-drop_at (is_slash b) b (before text) text (from_slash text) (from-drop text)

some-at : (c : Bool) (n k : ℕ) → Some k ≡ cond c (Some n) None → (c ≡ true) × (k ≡ n)
some-at true n k is = (refl, cc)
some-at false n k is = absurd (cc)

none-at : (c : Bool) (n : ℕ) → None ≡ cond c (Some n) None → c ≡ false
none-at true n is = absurd (cc)
none-at false n is = refl

-- a text from its first `/` on
pub found : (text : List ℕ) (k : ℕ) → Some k ≡ position is_slash text → (k < length text) × (from_slash text ≡ 47 ∷ drop (k + 1) text)
found text k is =
    let at = position-Some is_slash text k 0 (sym is) in
    let here = some-at (ltb (before text) (length text)) (before text) k is in
    let slash : get_or text k 0 ≡ 47 = eqb-true (get_or text k 0) 47 at.1 in
    let next : suc k ≡ k + 1 = omega arith in
    (at.0, from-drop text ∙ ap (λ (n : ℕ). drop n text) (sym here.1) ∙ drop-cons text k 0 at.0 ∙ ap (λ (b : ℕ). b ∷ drop (suc k) text) slash ∙ ap (λ (n : ℕ). 47 ∷ drop n text) next)

no-slash_at : (c d : Bool) (b : ℕ) (text rest : List ℕ) → is_slash b ≡ c → cond c (b ∷ text) rest ≡ [] → (rest ≡ [] → d ≡ false) → (c || d) ≡ false
no-slash_at true d b text rest is none later = absurd (cc)
no-slash_at false d b text rest is none later = later none

no-slash : (text : List ℕ) → from_slash text ≡ [] → list_any is_slash text ≡ false
no-slash [] none = refl
no-slash (b ∷ text) none = no-slash_at (is_slash b) (list_any is_slash text) b text (from_slash text) refl none (no-slash text)

has-slash_at : (c d : Bool) (b : ℕ) (text rest after : List ℕ) → cond c (b ∷ text) rest ≡ 47 ∷ after → (rest ≡ 47 ∷ after → d ≡ true) → (c || d) ≡ true
has-slash_at true d b text rest after is later = refl
has-slash_at false d b text rest after is later = later is

pub has-slash : (text after : List ℕ) → from_slash text ≡ 47 ∷ after → list_any is_slash text ≡ true
has-slash [] after is = absurd (cc)
has-slash (b ∷ text) after is = has-slash_at (is_slash b) (list_any is_slash text) b text (from_slash text) after is (has-slash text after)

last-none : (text : List ℕ) → list_any is_slash text ≡ false → last_part text ≡ text
last-none [] none = refl
last-none (b ∷ text) none = rw none refl

before-all : (text : List ℕ) → None ≡ position is_slash text → length text ≤ before text
before-all text is = ltb-false (before text) (length text) (none-at (ltb (before text) (length text)) (before text) is)

pub ended : (text : List ℕ) → None ≡ position is_slash text → from_slash text ≡ []
ended text is = from-drop text ∙ drop_all (before text) text (before-all text is)

-- ---- the last `/`

shifted : (b : ℕ) (text : List ℕ) (k n : ℕ) → Nowhere (Passes (is_byte 47) (b ∷ text)) (suc k) (suc n) → Nowhere (Passes (is_byte 47) text) k n
shifted b text k n none j low high = none (suc j) (omega (arith, low)) (omega (arith, high))

-- no `/` stands anywhere
pub nowhere : (text : List ℕ) → Nowhere (Passes (is_byte 47) text) 0 (length text) → list_any is_slash text ≡ false
nowhere [] none = refl
nowhere (b ∷ text) none =
    or_from (is_slash b) (list_any is_slash text) (false_from_ne_true (is_slash b) (none 0 (omega arith) (omega arith)))
    (nowhere text (λ j low high. none (suc j) (omega arith) (omega (arith, high))))

ends_at : (text : List ℕ) (k : ℕ) → k < length text → is_slash (get_or text k 0) ≡ true → Nowhere (Passes (is_byte 47) text) (k + 1) (length text)
    → (last_part text ≡ drop (suc k) text) × (list_any is_slash (drop (suc k) text) ≡ false) × (list_any is_slash text ≡ true)
ends_at [] k within slash none = absurd (omega (arith, within))
ends_at (b ∷ text) zero within slash none =
    let later : list_any is_slash text ≡ false = nowhere text (λ j low high. none (suc j) (omega arith) (omega (arith, high))) in
    let has : list_any is_slash (b ∷ text) ≡ true = rw slash refl in
    (rw has (last-none text later), later, has)
ends_at (b ∷ text) (suc k) within slash none =
    let rest = ends_at text k (omega (arith, within)) slash (λ j low high. none (suc j) (omega (arith, low)) (omega (arith, high))) in
    let has : list_any is_slash (b ∷ text) ≡ true = or_right (is_slash b) (list_any is_slash text) rest.2 in
    (rw has rest.0, rest.1, has)

-- the last part of a path, as the code finds it
pub record IsLastPart (path name : List ℕ) : Type 0 where
  pub value : name ≡ last_part path
  pub within : length name ≤ length path
  pub behind : path ≡ take (length path - length name) path ++ name
  pub no_slash : list_any is_slash name ≡ false

cut_at : (path : List ℕ) (n : ℕ) → n ≤ length path → path ≡ take (length path - length (drop n path)) path ++ drop n path
cut_at path n within =
    let size : length path - length (drop n path) ≡ n = omega (arith, length-drop n path, within) in
    rw size (sym (take-append-drop n path))

pub found_last : (path : List ℕ) (k : ℕ) (name : List ℕ) → IsLastByte (is_byte 47) path (Some k) → name ≡ drop (k + 1) path → IsLastPart path name
found_last path k name at is =
    let next : k + 1 ≡ suc k = omega arith in
    let name_is : name ≡ drop (suc k) path = is ∙ ap (λ (n : ℕ). drop n path) next in
    let ends = ends_at path k at.0.high at.1 at.0.after in
    record {
      value = name_is ∙ sym ends.0;
      within = rw name_is (omega (arith, length-drop (suc k) path));
      behind = rw name_is (cut_at path (suc k) (omega (arith, at.0.high)));
      no_slash = ap (list_any is_slash) name_is ∙ ends.1;
    }

pub none_last : (path : List ℕ) → IsLastByte (is_byte 47) path None → IsLastPart path path
none_last path none =
    let no = nowhere path none in
    let size : length path - length path ≡ 0 = omega arith in
    record {
      value = sym (last-none path no);
      within = omega arith;
      behind = rw size refl;
      no_slash = no;
    }
