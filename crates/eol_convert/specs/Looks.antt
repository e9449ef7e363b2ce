-- The bytes by which most texts are known at the first look.
use Rattle.std.specs.Prelude.{ℕ, Bool, ◌&&◌, ◌||◌, ◌==◌, nat_lt, not}
use Rattle.byte_path.specs.Characters.{tab, line_feed, space, delete}

-- below the space except TAB and LF, and DEL: CR, NUL and each byte that isn't printing are among them
abbrev pub is_unusual : ℕ → Bool
is_unusual b = (nat_lt b space && not (b == tab) && not (b == line_feed)) || b == delete
