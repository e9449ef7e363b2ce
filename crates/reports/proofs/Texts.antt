-- Bytes that are a text, and bytes that are none.
use Rattle.std.proofs.Common.{◌≡◌, ℕ, Bool, true, false, List, refl}
use Rattle.std.specs.Str.{IsUtf8, is_utf8}
use Rattle.std.proofs.lemmas.Str.{IsUtf8-from_is_utf8, is_utf8-from_IsUtf8}

pub text : (bytes : List ℕ) → IsUtf8 bytes → is_utf8 bytes ≡ true
text bytes is = is_utf8-from_IsUtf8 bytes is

no_text_by : (bytes : List ℕ) (is : Bool) → is_utf8 bytes ≡ is → (IsUtf8 bytes → ⊥) → is ≡ false
no_text_by bytes true e not = absurd (not (IsUtf8-from_is_utf8 bytes e))
no_text_by bytes false e not = refl

pub no_text : (bytes : List ℕ) → (IsUtf8 bytes → ⊥) → is_utf8 bytes ≡ false
no_text bytes not = no_text_by bytes (is_utf8 bytes) refl not
