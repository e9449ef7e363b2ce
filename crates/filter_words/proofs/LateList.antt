-- A packet after the end of the answer to a list request.
use Rattle.std.proofs.Common.{◌≡◌, ℕ, List, ◌∷◌, refl}
use Rattle.pkt_line.specs.Packets.{Packet}
use Rattle.filter_words.specs.Outcomes.{outcome}
use Rattle.filter_words.specs.Listing.{list_step}
use Rattle.filter_words.specs.ListStates.{list_state}
use Rattle.filter_words.specs.declared.listing.ListPart.{ListPart}
use Rattle.filter_words.specs.declared.listing.ListEnd.{ListEnd}
use Rattle.filter_words.specs.declared.answer_state.AnswerState.{AnswerState}
use Rattle.filter_words.specs.declared.answer_state.AnswerState.TheVariants.{On, Done, Broken, Late}
use Rattle.filter_words.proofs.Runs.{stays_late}

pub late_list : (delayed names : List (List ℕ)) (room : ℕ) (t : AnswerState ListPart ListEnd) (p : Packet)
    (ps : List Packet)
    → ((part : ListPart) → t ≡ On part → ⊥) → outcome (list_step delayed) room Late ps ≡ outcome (list_step delayed)
    room (list_state t names) (p ∷ ps)
late_list delayed names room (On part) p ps never = absurd (never part refl)
late_list delayed names room (Done end) p ps never = stays_late (list_step delayed) room ps
late_list delayed names room (Broken why) p ps never = stays_late (list_step delayed) room ps
late_list delayed names room Late p ps never = stays_late (list_step delayed) room ps
