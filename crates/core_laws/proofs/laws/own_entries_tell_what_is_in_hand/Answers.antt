use Rattle.core_laws.proofs.Hands.{own_hands}
use Rattle.core_laws.proofs.laws.own_entries_tell_what_is_in_hand.Goals as goal

pub returns : goal.returns
returns c starts workers drivers a history other x y below run run2 same p =
    own_hands starts workers drivers a history other x y below run run2 same p
