-- What stands in a set, between `[` and its `]`.
use Rattle.std.specs.Prelude.{ℕ, zero, suc, ◌+◌, ◌-◌, Bool, true, false, ◌&&◌, not, ◌==◌, nat_lt, List, []}
use Rattle.std.specs.Prelude.{◌∷◌, ◌++◌, length, take, drop, position, slice_index, Option, Some, None}
use Rattle.std.specs.Prelude.{if◌then◌else◌}
use Rattle.std.specs.List.{list_any}
use Rattle.wild_match.specs.Classes.{class_named, is_between, is_in_class}
use Rattle.wild_match.specs.declared.classes.Class.{Class}
use Rattle.wild_match.specs.declared.sets.Member.{Member}
use Rattle.wild_match.specs.declared.sets.Member.TheVariants.{Range, Named}
use Rattle.byte_path.specs.Characters.{hyphen, colon, open_bracket, backslash, close_bracket}

-- whether a member stands for a byte
abbrev pub has : Member → ℕ → Bool
has (Range low high) b = is_between low high b
has (Named class) b = is_in_class class b

abbrev pub and_then : {A B : Type 0} → Option A → (A → Option B) → Option B
and_then None f = None
and_then (Some x) f = f x

-- a byte, or `\` and a byte; and how many bytes of the text that takes
unfoldable pub end_at : List ℕ → Option (ℕ × ℕ)
end_at text =
    if length text == 0 then None
    else if not (slice_index text 0 == backslash) then Some (slice_index text 0, 1)
    else if length text == 1 then None
    else Some (slice_index text 1, 2)

-- whether `-` stands after n bytes, and then something that is not `]`
abbrev pub is_range_at : ℕ → List ℕ → Bool
is_range_at n text =
    nat_lt (n + 1) (length text) && (slice_index text n == hyphen) && not (slice_index text (n + 1) == close_bracket)

-- a range, by its two ends
abbrev pub range_to : ℕ × ℕ → Option (ℕ × ℕ) → Option (Member × ℕ)
range_to low None = None
range_to low (Some high) = Some (Range low.0 high.0, low.1 + 1 + high.1)

-- a range or a lone byte, by its first end
unfoldable pub range_at : List ℕ → ℕ × ℕ → Option (Member × ℕ)
range_at text low =
    if is_range_at low.1 text then range_to low (end_at (drop (low.1 + 1) text)) else Some (Range low.0 low.0, low.1)

abbrev pub is_close : ℕ → Bool
is_close b = b == close_bracket

-- how long a class's name is, by the place of the first `]`, which a `:` stands before
abbrev pub name_length : List ℕ → ℕ → Option ℕ
name_length text close = if nat_lt 0 close && (slice_index text (close - 1) == colon) then Some (close - 1) else None

-- whether a class may begin here
abbrev pub opens_class : List ℕ → Bool
opens_class text = nat_lt 1 (length text) && (slice_index text 0 == open_bracket) && (slice_index text 1 == colon)

-- how long the name is of the class that a text begins with
unfoldable pub class_length : List ℕ → Option ℕ
class_length text =
    if opens_class text then and_then (position is_close (drop 2 text)) (name_length (drop 2 text))
    else None

-- a class by its name of n bytes
abbrev pub named : ℕ → Option Class → Option (Member × ℕ)
named n None = None
named n (Some class) = Some (Named class, n + 4)

-- a class, or else a range or a byte
abbrev pub class_or : Option ℕ → List ℕ → Option (Member × ℕ)
class_or (Some n) text = named n (class_named (take n (drop 2 text)))
class_or None text = and_then (end_at text) (range_at text)

-- the member at the front of a text, and how many bytes it takes
unfoldable pub member_at : List ℕ → Option (Member × ℕ)
member_at text = class_or (class_length text) text

-- members, of which n bytes were read, before the set's rest
abbrev pub behind : ℕ → List Member → Option (List Member × ℕ) → Option (List Member × ℕ)
behind n members None = None
behind n members (Some set) = Some (members ++ set.0, n + set.1)

-- a member, and the set's rest
abbrev pub with_member : Option (Member × ℕ) → (ℕ → Option (List Member × ℕ)) → Option (List Member × ℕ)
with_member None later = None
with_member (Some member) later = behind 1 (member.0 ∷ []) (later (member.1 - 1))

-- the members up to `]`, which is a member itself if it comes first; after `skip` bytes of a member that was read
abbrev pub members_behind : ℕ → Bool → List ℕ → Option (List Member × ℕ)
members_behind skip first [] = None
members_behind (suc skip) first (b ∷ text) = behind 1 [] (members_behind skip first text)
members_behind zero first (b ∷ text) =
    if is_close b && not first then Some ([], 1)
    else with_member (member_at (b ∷ text)) (λ skip. members_behind skip false text)

-- the members after `[` and its negation, and how many bytes they take with the `]`
abbrev pub set_members : List ℕ → Option (List Member × ℕ)
set_members text = members_behind 0 true text

-- whether a byte is in the set
abbrev pub is_member : List Member → ℕ → Bool
is_member members b = list_any (λ m. has m b) members

-- what the set says of a byte
abbrev pub seen : ℕ → Option (List Member × ℕ) → Option (Bool × ℕ)
seen b None = None
seen b (Some set) = Some (is_member set.0 b, set.1)

-- whether `]` stands here, and not first
abbrev pub closes : List ℕ → ℕ → Bool
closes text place = nat_lt 0 place && nat_lt 0 (length text) && is_close (slice_index text 0)
