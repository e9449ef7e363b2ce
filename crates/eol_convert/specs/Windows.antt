-- What becomes of a content from a place on.
use Rattle.std.specs.Prelude.{ℕ, ◌+◌, ◌-◌, ◌==◌, ◌&&◌, nat_lt, not, Bool, List, take, drop, get_or, if◌then◌else◌}
use Rattle.std.specs.List.{prefix_len}
use Rattle.memchr.specs.Find.{is_byte}
use Rattle.byte_path.specs.Characters.{line_feed, carriage_return}
use Rattle.eol_convert.specs.Content.{with_crlf_from}

-- Whether CR is before this place. At the start there is none: a content that starts with CR doesn't start with LF.
abbrev pub is_behind_cr : List ℕ → ℕ → Bool
is_behind_cr content at = get_or content (at - 1) 0 == carriage_return

-- what becomes of a content from this place on
abbrev pub crlf_from : List ℕ → ℕ → List ℕ
crlf_from content from = with_crlf_from (is_behind_cr content from) (drop from content)

-- the bytes that are looked at at once
abbrev pub window : List ℕ → ℕ → List ℕ
window content from = take 32 (drop from content)

-- how many of them stand before the first LF
abbrev pub before_lf : List ℕ → ℕ → ℕ
before_lf content from = prefix_len (λ b. not (is_byte line_feed b)) (window content from)

-- how many CRs are put before it: one, or none if there is no LF or a CR stands there
abbrev pub crs_before : List ℕ → ℕ → ℕ → ℕ
crs_before content from first = if nat_lt first 32 && not (is_behind_cr content (from + first)) then 1 else 0
