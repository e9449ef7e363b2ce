-- Good answers of a driver to a handshake.
use Rattle.std.specs.Prelude.{◌≡◌, ◌≤◌, ℕ, Bool, List, length, ◌∷◌, codes}
use Rattle.std.specs.List.{list_any}
use Rattle.std.specs.Str.{bytes_eq}
use Rattle.pkt_line.specs.Packets.{Packet, Payload, Flush}
use Rattle.filter_words.specs.Words.{without_lf}
use Rattle.filter_words.specs.Grammar.{block}
use Rattle.filter_words.specs.declared.reply.BreakCause.{BreakCause}
use Rattle.filter_words.specs.declared.reply.BreakCause.TheVariants as cause
use Rattle.filter_words.specs.declared.reply.Caps.{Caps}

-- one of the lines is this text
abbrev pub has_line : List (List ℕ) → List ℕ → Bool
has_line lines text = list_any (λ line. bytes_eq (without_lf line) text) lines

abbrev pub caps_in : List (List ℕ) → Caps
caps_in lines = record {
  smudge = has_line lines (codes "capability=smudge");
  delay =
      has_line lines (codes "capability=delay");
}

-- two lines and a flush packet, and then lines of capabilities up to a flush packet
pub record IsHandshake (ps : List Packet) (caps : Caps) : Type 0 where
  pub server : List ℕ
  pub version : List ℕ
  pub lines : List (List ℕ)
  pub whole : ps ≡ Payload server ∷ Payload version ∷ Flush ∷ block lines
  pub server_is : without_lf server ≡ codes "git-filter-server"
  pub version_is : without_lf version ≡ codes "version=2"
  pub caps_are : caps ≡ caps_in lines

-- within the limit a handshake breaks in its first three packets alone, and with one cause
abbrev pub BreaksHandshake : List Packet → BreakCause → Type 0
BreaksHandshake ps why = (why ≡ cause.BadHandshake) × (length ps ≤ 3)
