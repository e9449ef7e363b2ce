-- What the three kinds of contents become.
use Rattle.std.proofs.Common.{◌≡◌, ℕ, Bool, true, false, ◌&&◌, nat_lt, List, [], ◌∷◌, ◌++◌, length, refl, ap, arith}
use Rattle.std.proofs.lemmas.Bool.{false_from_ne_true}
use Rattle.std.proofs.lemmas.Grind.{common_steps}
use Rattle.std.proofs.lemmas.Str.{IsUtf8-from_is_utf8, is_utf8-from_IsUtf8, IsUtf8-nil}
use Rattle.std.specs.List.{flat_map}
use Rattle.std.specs.Str.{IsUtf8, is_utf8, chars}
use Rattle.tree_encoding.specs.declared.encoding.Encoding.{Encoding}
use Rattle.tree_encoding.specs.Encode.{bytes_of, mark_of, is_encodable, kept, encoded_if, encoded}

some : (b : ℕ) (content : List ℕ) → nat_lt 0 (length (b ∷ content)) ≡ true
some b content = grind (arith, common_steps)

-- what isn't UTF-8 can't be encoded
pub not_text : (content : List ℕ) → (IsUtf8 content → ⊥) → is_encodable content ≡ false
not_text content bad =
    let is : is_utf8 content ≡ false = false_from_ne_true (is_utf8 content) (λ good. bad (IsUtf8-from_is_utf8 content good)) in
    ap (λ (t : Bool). t && nat_lt 0 (length content)) is

-- a text that isn't empty can
pub text : (content : List ℕ) → IsUtf8 content → (content ≡ [] → ⊥) → is_encodable content ≡ true
text [] good full = absurd (full refl)
text (b ∷ content) good full =
    let is : is_utf8 (b ∷ content) ≡ true = is_utf8-from_IsUtf8 (b ∷ content) good in rw is (some b content)

both : (t u : Bool) → (t && u) ≡ true → (t ≡ true) × (u ≡ true)
both true true is = (refl, refl)
both true false is = absurd (cc)
both false u is = absurd (cc)

first_not : (t u : Bool) → (t && u) ≡ false → u ≡ true → t ≡ false
first_not true true is set = absurd (cc)
first_not true false is set = absurd (cc)
first_not false u is set = refl

-- what can be encoded becomes a text after a mark
pub encoded_of : (content : List ℕ) (e : Encoding) → is_encodable content ≡ true
    → encoded content e ≡ record { bytes = mark_of e ++ flat_map (bytes_of e) (chars content); unencoded = false }
unfolding encoded
encoded_of [] e is =
    let no : false ≡ true = (both (is_utf8 []) false is).1 in absurd (cc)
encoded_of (b ∷ content) e is =
    ap (λ (t : Bool). encoded_if t (b ∷ content) e) (both (is_utf8 (b ∷ content)) (nat_lt 0 (length (b ∷ content))) is).0

-- any other content stays, and the flag says whether it is empty
pub kept_of : (content : List ℕ) (e : Encoding) → is_encodable content ≡ false → encoded content e ≡ kept content
unfolding encoded
kept_of [] e is =
    let good : is_utf8 [] ≡ true = is_utf8-from_IsUtf8 [] IsUtf8-nil in ap (λ (t : Bool). encoded_if t [] e) good
kept_of (b ∷ content) e is =
    let bad : is_utf8 (b ∷ content) ≡ false = first_not (is_utf8 (b ∷ content)) (nat_lt 0 (length (b ∷ content))) is (some b content) in
    rw (bad, some b content) refl
