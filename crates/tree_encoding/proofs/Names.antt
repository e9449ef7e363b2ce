-- The names of encodings.
use Rattle.std.proofs.Common.{◌≡◌, Ok, Some, refl}
use Rattle.tree_encoding.specs.Named.{encoding_name, encoding_named, is_name}
use Rattle.tree_encoding.specs.declared.encoding.Encoding.{Encoding}
use Rattle.tree_encoding.specs.declared.encoding.Encoding.TheVariants.{Utf16, Utf16Le, Utf16Be, Utf16LeBom, Utf32, Utf32Le, Utf32Be}

pub named-name : (e : Encoding) → encoding_named (encoding_name e) ≡ Ok (Some e)
unfolding encoding_named is_name
named-name Utf16 = refl
named-name Utf16Le = refl
named-name Utf16Be = refl
named-name Utf16LeBom = refl
named-name Utf32 = refl
named-name Utf32Le = refl
named-name Utf32Be = refl
