-- What a byte of a value is to the reader, by cases.
use Rattle.std.proofs.Common.{◌≡◌, ℕ, Bool, true, false, eqb, refl, arith}
use Rattle.std.proofs.lemmas.Grind.{common_steps}
use Rattle.git_config.specs.declared.value.Mark.TheVariants.{End, Comment, Wrong, More}
use Rattle.git_config.specs.declared.value.Piece.TheVariants.{Backslash, Quote, Blank, Byte, Continued}
use Rattle.git_config.specs.Text.{is_blank, is_comment_mark}
use Rattle.git_config.specs.Value.{plain_of, escape_of}
use Rattle.git_config.specs.Spelling.{Escape, letter, meant, is_quoted_byte, is_bare_byte}
use Rattle.git_config.specs.Spelling as spelling

-- a byte outside quotes
pub data BareCase (b : ℕ) : Type 0 where
  ends : b ≡ 10 → plain_of false b ≡ End → BareCase b
  escapes : b ≡ 92 → plain_of false b ≡ More Backslash → BareCase b
  quotes : b ≡ 34 → plain_of false b ≡ More Quote → BareCase b
  comments : is_comment_mark b ≡ true → plain_of false b ≡ Comment → BareCase b
  blank : is_bare_byte b ≡ true → is_blank b ≡ true → plain_of false b ≡ More (Blank b) → BareCase b
  stands : is_bare_byte b ≡ true → is_blank b ≡ false → plain_of false b ≡ More (Byte b) → BareCase b

pub same : (b n : ℕ) → eqb b n ≡ true → b ≡ n
same b n is = grind (arith, common_steps)

pub bare_case : (b : ℕ) → BareCase b
bare_case b = at_end (eqb b 10) refl
  where
    at_blank : (t : Bool) → is_blank b ≡ t → eqb b 10 ≡ false → eqb b 92 ≡ false → eqb b 34 ≡ false → is_comment_mark b ≡ false → BareCase b
    at_blank true is n1 n2 n3 n4 = blank (rw (n1, n2, n3, n4) refl) is (rw (n1, n2, n3, n4, is) refl)
    at_blank false is n1 n2 n3 n4 = stands (rw (n1, n2, n3, n4) refl) is (rw (n1, n2, n3, n4, is) refl)

    at_comment : (t : Bool) → is_comment_mark b ≡ t → eqb b 10 ≡ false → eqb b 92 ≡ false → eqb b 34 ≡ false → BareCase b
    at_comment true is n1 n2 n3 = comments is (rw (n1, n2, n3, is) refl)
    at_comment false is n1 n2 n3 = at_blank (is_blank b) refl n1 n2 n3 is

    at_quote : (t : Bool) → eqb b 34 ≡ t → eqb b 10 ≡ false → eqb b 92 ≡ false → BareCase b
    at_quote true is n1 n2 = quotes (same b 34 is) (rw (n1, n2, is) refl)
    at_quote false is n1 n2 = at_comment (is_comment_mark b) refl n1 n2 is

    at_backslash : (t : Bool) → eqb b 92 ≡ t → eqb b 10 ≡ false → BareCase b
    at_backslash true is n1 = escapes (same b 92 is) (rw (n1, is) refl)
    at_backslash false is n1 = at_quote (eqb b 34) refl n1 is

    at_end : (t : Bool) → eqb b 10 ≡ t → BareCase b
    at_end true is = ends (same b 10 is) (rw is refl)
    at_end false is = at_backslash (eqb b 92) refl is

-- a byte in quotes
pub data QuotedCase (b : ℕ) : Type 0 where
  ends_quoted : b ≡ 10 → plain_of true b ≡ End → QuotedCase b
  escapes_quoted : b ≡ 92 → plain_of true b ≡ More Backslash → QuotedCase b
  closes : b ≡ 34 → plain_of true b ≡ More Quote → QuotedCase b
  stands_quoted : is_quoted_byte b ≡ true → plain_of true b ≡ More (Byte b) → QuotedCase b

pub quoted_case : (b : ℕ) → QuotedCase b
quoted_case b = at_end (eqb b 10) refl
  where
    at_quote : (t : Bool) → eqb b 34 ≡ t → eqb b 10 ≡ false → eqb b 92 ≡ false → QuotedCase b
    at_quote true is n1 n2 = closes (same b 34 is) (rw (n1, n2, is) refl)
    at_quote false is n1 n2 = stands_quoted (rw (n1, n2, is) refl) (rw (n1, n2, is) refl)

    at_backslash : (t : Bool) → eqb b 92 ≡ t → eqb b 10 ≡ false → QuotedCase b
    at_backslash true is n1 = escapes_quoted (same b 92 is) (rw (n1, is) refl)
    at_backslash false is n1 = at_quote (eqb b 34) refl n1 is

    at_end : (t : Bool) → eqb b 10 ≡ t → QuotedCase b
    at_end true is = ends_quoted (same b 10 is) (rw is refl)
    at_end false is = at_backslash (eqb b 92) refl is

-- a byte after a backslash
pub data EscapeCase (b : ℕ) : Type 0 where
  continues : b ≡ 10 → escape_of b ≡ More Continued → EscapeCase b
  means : (e : Escape) → b ≡ letter e → escape_of b ≡ More (Byte (meant e)) → EscapeCase b
  wrong : escape_of b ≡ Wrong → EscapeCase b

pub escape_case : (b : ℕ) → EscapeCase b
escape_case b = at_end (eqb b 10) refl
  where
    at_b : (t : Bool) → eqb b 98 ≡ t → eqb b 10 ≡ false → eqb b 34 ≡ false → eqb b 92 ≡ false → eqb b 110 ≡ false → eqb b 116 ≡ false → EscapeCase b
    at_b true is n1 n2 n3 n4 n5 = means spelling.OfBackspace (same b 98 is) (rw (n1, n2, n3, n4, n5, is) refl)
    at_b false is n1 n2 n3 n4 n5 = wrong (rw (n1, n2, n3, n4, n5, is) refl)

    at_t : (t : Bool) → eqb b 116 ≡ t → eqb b 10 ≡ false → eqb b 34 ≡ false → eqb b 92 ≡ false → eqb b 110 ≡ false → EscapeCase b
    at_t true is n1 n2 n3 n4 = means spelling.OfTab (same b 116 is) (rw (n1, n2, n3, n4, is) refl)
    at_t false is n1 n2 n3 n4 = at_b (eqb b 98) refl n1 n2 n3 n4 is

    at_n : (t : Bool) → eqb b 110 ≡ t → eqb b 10 ≡ false → eqb b 34 ≡ false → eqb b 92 ≡ false → EscapeCase b
    at_n true is n1 n2 n3 = means spelling.OfLineFeed (same b 110 is) (rw (n1, n2, n3, is) refl)
    at_n false is n1 n2 n3 = at_t (eqb b 116) refl n1 n2 n3 is

    at_backslash : (t : Bool) → eqb b 92 ≡ t → eqb b 10 ≡ false → eqb b 34 ≡ false → EscapeCase b
    at_backslash true is n1 n2 = means spelling.OfBackslash (same b 92 is) (rw (n1, n2, is) refl)
    at_backslash false is n1 n2 = at_n (eqb b 110) refl n1 n2 is

    at_quote : (t : Bool) → eqb b 34 ≡ t → eqb b 10 ≡ false → EscapeCase b
    at_quote true is n1 = means spelling.OfQuote (same b 34 is) (rw (n1, is) refl)
    at_quote false is n1 = at_backslash (eqb b 92) refl n1 is

    at_end : (t : Bool) → eqb b 10 ≡ t → EscapeCase b
    at_end true is = continues (same b 10 is) (rw is refl)
    at_end false is = at_quote (eqb b 34) refl is

pub escape_is : (e : Escape) → escape_of (letter e) ≡ More (Byte (meant e))
escape_is spelling.OfQuote = refl
escape_is spelling.OfBackslash = refl
escape_is spelling.OfLineFeed = refl
escape_is spelling.OfTab = refl
escape_is spelling.OfBackspace = refl
