-- Talks over one path, which its driver delays.
use Rattle.std.proofs.Common.{ℕ, true, false, List, [], ◌∷◌, refl}
use Rattle.filter_words.specs.declared.reply.Caps.{Caps}
use Rattle.filter_words.specs.declared.reply.BreakCause.TheVariants as cause
use Rattle.filter_words.specs.declared.reply.Reply.TheVariants as reply
use Rattle.filter_words.specs.declared.reply.ListReply.TheVariants as list
use Rattle.checkout_core.specs.Talks.{Talk, Between, InRound, opened}
use Rattle.filter_proto.specs.Exchanges.{Good}
use Rattle.driver_line.specs.Conversations.{Exchange, Opening, First, Listing, FitsTalk, LeadsTo}

abbrev caps : Caps
caps = record { smudge = true; delay = true }

abbrev delayed : Talk
delayed = InRound (record { delay = true; any_delayed = true; noting_list = false; rest = []; late = 7 ∷ []; turns = [] })

abbrev listed : List ℕ → List Exchange
listed late = Opening 7 (Good caps) ∷ First 7 reply.Delayed [] ∷ Listing late [] (list.Broken cause.StrangePath) ∷ []

strange_name : LeadsTo 0 (Between (7 ∷ [])) (listed (7 ∷ [])) (Between [])
strange_name = (opened caps (7 ∷ []), refl, refl, (delayed, tt, refl, (Between [], refl, refl, refl)))

-- the path that is late isn't strange
late_name : FitsTalk delayed (Listing [] [] (list.Broken cause.StrangePath)) → ⊥
late_name h = cc h

other_opening : FitsTalk (Between (7 ∷ 8 ∷ [])) (Opening 8 (Good caps)) → ⊥
other_opening h = cc h
