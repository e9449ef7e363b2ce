-- Two contents that an encoding makes equal are equal.
use Rattle.std.proofs.Common.{◌≡◌, ℕ, ◌+◌, ◌-◌, ◌/◌, ◌%◌, ◌<◌, ◌≤◌, Bool, true, false, ltb, List, [], ◌∷◌, ◌++◌, length, Option, Some, None, refl, sym, ap, ◌∙◌, append_assoc, inl, inr, arith}
use Rattle.std.specs.List.{flat_map}
use Rattle.std.specs.Str.{IsUtf8, is_utf8, chars}
use Rattle.std.proofs.lemmas.Bool.{and_parts, ltb-true}
use Rattle.std.proofs.lemmas.Grind.{common_steps}
use Rattle.std.proofs.lemmas.List.{length-append, append_cancel_left}
use Rattle.std.proofs.lemmas.List.Concat.{flat_map-cons}
use Rattle.std.proofs.lemmas.Str.{IsUtf8-from_is_utf8, encodes-chars, scalars-chars}
use lib.Utf8.{scalar, scalars, scalar_cases, encodes}
use Rattle.tree_encoding.specs.declared.encoding.Encoding.{Encoding}
use Rattle.tree_encoding.specs.declared.encoding.Encoding.TheVariants.{Utf16, Utf16Le, Utf16Be, Utf16LeBom, Utf32, Utf32Le, Utf32Be}
use Rattle.tree_encoding.specs.declared.prepared.Prepared.{Prepared}
use Rattle.tree_encoding.specs.Encode.{units16, little16, big16, little32, big32, bytes_of, mark_of, text_in, encoded_if, encoded, in_encoding}

-- the bytes of characters, of which no two begin alike
record IsCode (f : ℕ → List ℕ) : Type 0 where
  pub some : (c : ℕ) → 2 ≤ length (f c)
  pub apart : (c d : ℕ) → scalar c ≡ true → scalar d ≡ true → (xs ys : List ℕ) → f c ++ xs ≡ f d ++ ys → (c ≡ d) × (xs ≡ ys)

same_parts : (a b c d a' b' c' d' : ℕ) (xs ys : List ℕ) → a ∷ b ∷ c ∷ d ∷ xs ≡ a' ∷ b' ∷ c' ∷ d' ∷ ys → (a ≡ a') × (b ≡ b') × (c ≡ c') × (d ≡ d') × (xs ≡ ys)
same_parts a b c d a' b' c' d' xs ys e = (cc, cc, cc, cc, cc)

small : (c : ℕ) → scalar c ≡ true → c < 1114112
small c is = elim (scalar_cases c is) [ inl low ↦ omega arith | inr high ↦ high.1 ]

from_four : (c d : ℕ) → c < 1114112 → d < 1114112 → c % 256 ≡ d % 256 → c / 256 % 256 ≡ d / 256 % 256 → c / 65536 % 256 ≡ d / 65536 % 256 → c ≡ d
from_four c d lc ld e0 e1 e2 = omega arith

little32_code : IsCode little32
little32_code = record {
  some = λ c. omega arith;
  apart = λ c d sc sd xs ys e.
      let p = same_parts (c % 256) (c / 256 % 256) (c / 65536 % 256) (c / 16777216 % 256) (d % 256) (d / 256 % 256) (d / 65536 % 256) (d / 16777216 % 256) xs ys e in
      (from_four c d (small c sc) (small d sd) p.0 p.1 p.2, p.4);
}

big32_code : IsCode big32
big32_code = record {
  some = λ c. omega arith;
  apart = λ c d sc sd xs ys e.
      let p = same_parts (c / 16777216 % 256) (c / 65536 % 256) (c / 256 % 256) (c % 256) (d / 16777216 % 256) (d / 65536 % 256) (d / 256 % 256) (d % 256) xs ys e in
      (from_four c d (small c sc) (small d sd) p.3 p.2 p.1, p.4);
}

-- the units of a character: one that is no surrogate, or a high one and a low one
pub data Units (c : ℕ) : Type 0 where
  one : c < 65536 → units16 c ≡ c ∷ [] → Units c
  two : 65536 ≤ c → units16 c ≡ (55296 + (c - 65536) / 1024) ∷ (56320 + (c - 65536) % 1024) ∷ [] → Units c

units : (c : ℕ) → Units c
units c = at (ltb c 65536) refl
  where
    at : (t : Bool) → ltb c 65536 ≡ t → Units c
    at true is = one (ltb-true c 65536 is) (rw is refl)
    at false is = two (grind (arith, common_steps)) (rw is refl)

-- two bytes of a unit, and the unit
record IsUnitCode (g : ℕ → List ℕ) : Type 0 where
  pub two_bytes : (u : ℕ) → length (g u) ≡ 2
  pub unit_is : (u v : ℕ) → u < 65536 → v < 65536 → (xs ys : List ℕ) → g u ++ xs ≡ g v ++ ys → (u ≡ v) × (xs ≡ ys)

from_two : (u v : ℕ) → u < 65536 → v < 65536 → u % 256 ≡ v % 256 → u / 256 % 256 ≡ v / 256 % 256 → u ≡ v
from_two u v lu lv e0 e1 = omega arith

same_two : (a b a' b' : ℕ) (xs ys : List ℕ) → a ∷ b ∷ xs ≡ a' ∷ b' ∷ ys → (a ≡ a') × (b ≡ b') × (xs ≡ ys)
same_two a b a' b' xs ys e = (cc, cc, cc)

little16_code : IsUnitCode little16
little16_code = record {
  two_bytes = λ u. refl;
  unit_is = λ u v lu lv xs ys e. let p = same_two (u % 256) (u / 256 % 256) (v % 256) (v / 256 % 256) xs ys e in (from_two u v lu lv p.0 p.1, p.2);
}

big16_code : IsUnitCode big16
big16_code = record {
  two_bytes = λ u. refl;
  unit_is = λ u v lu lv xs ys e. let p = same_two (u / 256 % 256) (u % 256) (v / 256 % 256) (v % 256) xs ys e in (from_two u v lu lv p.1 p.0, p.2);
}

-- a character in units
one_unit : (g : ℕ → List ℕ) (u : ℕ) (xs : List ℕ) → flat_map g (u ∷ []) ++ xs ≡ g u ++ xs
one_unit g u xs = simp append_assoc

two_units : (g : ℕ → List ℕ) (u v : ℕ) (xs : List ℕ) → flat_map g (u ∷ v ∷ []) ++ xs ≡ g u ++ (g v ++ xs)
two_units g u v xs = simp append_assoc

some_units : (g : ℕ → List ℕ) → IsUnitCode g → (c : ℕ) → Units c → 2 ≤ length (flat_map g (units16 c))
some_units g code c (one lt is) = rw is (omega (arith, code.two_bytes c, ap (length {A = ℕ}) (flat_map-cons g c []), length-append (g c) []))
some_units g code c (two le is) =
    let u : ℕ = 55296 + (c - 65536) / 1024 in
    let v : ℕ = 56320 + (c - 65536) % 1024 in
    rw is (omega (arith, code.two_bytes u, ap (length {A = ℕ}) (flat_map-cons g u (v ∷ [])), length-append (g u) (flat_map g (v ∷ []))))

-- the first unit of a pair is no character by itself
no_pair : (c d : ℕ) → scalar c ≡ true → scalar d ≡ true → c < 65536 → 65536 ≤ d → c ≡ 55296 + (d - 65536) / 1024 → ⊥
no_pair c d sc sd lt le is =
    let ld : d < 1114112 = small d sd in
    elim (scalar_cases c sc) [ inl low ↦ omega arith | inr high ↦ let h : 57344 ≤ c = high.0 in omega arith ]

apart_units : (g : ℕ → List ℕ) → IsUnitCode g → (c d : ℕ) → scalar c ≡ true → scalar d ≡ true → (xs ys : List ℕ) → Units c → Units d → flat_map g (units16 c) ++ xs ≡ flat_map g (units16 d) ++ ys → (c ≡ d) × (xs ≡ ys)
apart_units g code c d sc sd xs ys (one lc ic) (one ld id) e =
    code.unit_is c d lc ld xs ys (sym (one_unit g c xs) ∙ ap (λ (us : List ℕ). flat_map g us ++ xs) (sym ic) ∙ e ∙ ap (λ (us : List ℕ). flat_map g us ++ ys) id ∙ one_unit g d ys)
apart_units g code c d sc sd xs ys (one lc ic) (two ld id) e =
    let u : ℕ = 55296 + (d - 65536) / 1024 in
    let v : ℕ = 56320 + (d - 65536) % 1024 in
    let lu : u < 65536 = omega (arith, small d sd) in
    let p = code.unit_is c u lc lu xs (g v ++ ys) (sym (one_unit g c xs) ∙ ap (λ (us : List ℕ). flat_map g us ++ xs) (sym ic) ∙ e ∙ ap (λ (us : List ℕ). flat_map g us ++ ys) id ∙ two_units g u v ys) in
    absurd (no_pair c d sc sd lc ld p.0)
apart_units g code c d sc sd xs ys (two lc ic) (one ld id) e =
    let u : ℕ = 55296 + (c - 65536) / 1024 in
    let v : ℕ = 56320 + (c - 65536) % 1024 in
    let lu : u < 65536 = omega (arith, small c sc) in
    let p = code.unit_is u d lu ld (g v ++ xs) ys (sym (two_units g u v xs) ∙ ap (λ (us : List ℕ). flat_map g us ++ xs) (sym ic) ∙ e ∙ ap (λ (us : List ℕ). flat_map g us ++ ys) id ∙ one_unit g d ys) in
    absurd (no_pair d c sd sc ld lc (sym p.0))
apart_units g code c d sc sd xs ys (two lc ic) (two ld id) e =
    let a : ℕ = (c - 65536) / 1024 in
    let b : ℕ = (c - 65536) % 1024 in
    let a' : ℕ = (d - 65536) / 1024 in
    let b' : ℕ = (d - 65536) % 1024 in
    let hc : c < 1114112 = small c sc in
    let hd : d < 1114112 = small d sd in
    let p = code.unit_is (55296 + a) (55296 + a') (omega arith) (omega arith) (g (56320 + b) ++ xs) (g (56320 + b') ++ ys)
    (sym (two_units g (55296 + a) (56320 + b) xs) ∙ ap (λ (us : List ℕ). flat_map g us ++ xs) (sym ic) ∙ e ∙ ap (λ (us : List ℕ). flat_map g us ++ ys) id ∙ two_units g (55296 + a') (56320 + b') ys) in
    let q = code.unit_is (56320 + b) (56320 + b') (omega arith) (omega arith) xs ys p.1 in
    let first : 55296 + a ≡ 55296 + a' = p.0 in
    let second : 56320 + b ≡ 56320 + b' = q.0 in
    (omega arith, q.1)

units_code : (g : ℕ → List ℕ) → IsUnitCode g → IsCode (λ c. flat_map g (units16 c))
units_code g code = record {
  some = λ c. some_units g code c (units c);
  apart = λ c d sc sd xs ys e. apart_units g code c d sc sd xs ys (units c) (units d) e;
}

-- the characters of a text
same_chars : (f : ℕ → List ℕ) → IsCode f → (cs ds : List ℕ) → scalars cs ≡ true → scalars ds ≡ true → flat_map f cs ≡ flat_map f ds → cs ≡ ds
same_chars f code [] [] sc sd e = refl
same_chars f code [] (d ∷ ds) sc sd e =
    absurd (omega (arith, code.some d, ap (length {A = ℕ}) (flat_map-cons f d ds), length-append (f d) (flat_map f ds), ap (length {A = ℕ}) e))
same_chars f code (c ∷ cs) [] sc sd e =
    absurd (omega (arith, code.some c, ap (length {A = ℕ}) (flat_map-cons f c cs), length-append (f c) (flat_map f cs), ap (length {A = ℕ}) e))
same_chars f code (c ∷ cs) (d ∷ ds) sc sd e =
    let pc = and_parts (scalar c) (scalars cs) sc in
    let pd = and_parts (scalar d) (scalars ds) sd in
    let p = code.apart c d pc.0 pd.0 (flat_map f cs) (flat_map f ds) (sym (flat_map-cons f c cs) ∙ e ∙ flat_map-cons f d ds) in
    let rest : cs ≡ ds = same_chars f code cs ds pc.1 pd.1 p.1 in
    ap (λ (x : ℕ). x ∷ cs) p.0 ∙ ap (λ (xs : List ℕ). d ∷ xs) rest

code_of : (e : Encoding) → IsCode (bytes_of e)
code_of Utf16 = units_code little16 little16_code
code_of Utf16Le = units_code little16 little16_code
code_of Utf16Be = units_code big16 big16_code
code_of Utf16LeBom = units_code little16 little16_code
code_of Utf32 = little32_code
code_of Utf32Le = little32_code
code_of Utf32Be = big32_code

same_texts : (s t : List ℕ) → IsUtf8 s → IsUtf8 t → chars s ≡ chars t → s ≡ t
same_texts s t us ut e = sym (encodes-chars s us) ∙ ap encodes e ∙ encodes-chars t ut

-- a text with a byte has bytes in an encoding
some_bytes : (e : Encoding) (b : ℕ) (t : List ℕ) → IsUtf8 (b ∷ t) → text_in e (b ∷ t) ≡ [] → ⊥
some_bytes e b t ut none = at (chars (b ∷ t)) refl (encodes-chars (b ∷ t) ut)
  where
    at : (cs : List ℕ) → chars (b ∷ t) ≡ cs → encodes (chars (b ∷ t)) ≡ b ∷ t → ⊥
    at [] is back = let nothing : [] ≡ b ∷ t = sym (ap encodes is) ∙ back in absurd cc
    at (c ∷ cs) is back =
        let whole : mark_of e ++ flat_map (bytes_of e) (c ∷ cs) ≡ [] = sym (ap (λ (xs : List ℕ). mark_of e ++ flat_map (bytes_of e) xs) is) ∙ none in
        omega (arith, ap (length {A = ℕ}) whole, length-append (mark_of e) (flat_map (bytes_of e) (c ∷ cs)), ap (length {A = ℕ}) (flat_map-cons (bytes_of e) c cs), length-append (bytes_of e c) (flat_map (bytes_of e) cs), (code_of e).some c)

one_text : (e : Encoding) (s t : List ℕ) → IsUtf8 s → IsUtf8 t → text_in e s ≡ text_in e t → s ≡ t
one_text e [] [] us ut same = refl
one_text e [] (b ∷ t) us ut same = absurd (some_bytes e b t ut (sym same))
one_text e (b ∷ s) [] us ut same = absurd (some_bytes e b s us same)
one_text e (b ∷ s) (d ∷ t) us ut same =
    let bare = append_cancel_left (mark_of e) (flat_map (bytes_of e) (chars (b ∷ s))) (flat_map (bytes_of e) (chars (d ∷ t))) same in
    same_texts (b ∷ s) (d ∷ t) us ut (same_chars (bytes_of e) (code_of e) (chars (b ∷ s)) (chars (d ∷ t)) (scalars-chars (b ∷ s) us) (scalars-chars (d ∷ t) ut) bare)

-- what is encoded is UTF-8
is_text : (e : Encoding) (s : List ℕ) → (encoded s e).unencoded ≡ false → (is_utf8 s ≡ true) × (encoded s e ≡ record { bytes = text_in e s; unencoded = false })
unfolding encoded
is_text e s done = at (is_utf8 s) refl done
  where
    at : (t : Bool) → is_utf8 s ≡ t → (encoded_if t s e).unencoded ≡ false → (is_utf8 s ≡ true) × (encoded_if (is_utf8 s) s e ≡ record { bytes = text_in e s; unencoded = false })
    at true is done = (is, ap (λ (t : Bool). encoded_if t s e) is)
    at false is done = absurd cc

pub one_content : (encoding : Option Encoding) (s t : List ℕ) → (in_encoding encoding s).unencoded ≡ false → (in_encoding encoding t).unencoded ≡ false
    → (in_encoding encoding s).bytes ≡ (in_encoding encoding t).bytes → s ≡ t
one_content None s t ds dt same = same
one_content (Some e) s t ds dt same =
    let a = is_text e s ds in
    let b = is_text e t dt in
    one_text e s t (IsUtf8-from_is_utf8 s a.0) (IsUtf8-from_is_utf8 t b.0)
    (sym (ap (λ (p : Prepared). p.bytes) a.1) ∙ same ∙ ap (λ (p : Prepared). p.bytes) b.1)
