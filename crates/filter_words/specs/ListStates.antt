-- The answer to a list request as the code holds it.
use Rattle.std.specs.Prelude.{ℕ, List}
use Rattle.std.specs.Borrow.{Bor}
use Rattle.filter_words.specs.Listing as listing
use Rattle.filter_words.specs.Listing.{ListPhase, GoodList, list_step}
use Rattle.filter_words.specs.declared.listing.ListPart.{ListPart}
use Rattle.filter_words.specs.declared.listing.ListPart.TheVariants.{Names, KeyList}
use Rattle.filter_words.specs.declared.listing.ListEnd.{ListEnd}
use Rattle.filter_words.specs.declared.listing.ListEnd.TheVariants.{Success, Abort}
use Rattle.filter_words.specs.declared.answer_state.AnswerState.{AnswerState}
use Rattle.filter_words.specs.declared.answer_state.AnswerState.TheVariants.{On, Done, Broken, Late}

-- the part that is read, with the names so far
abbrev pub list_phase : ListPart → List (List ℕ) → ListPhase
list_phase Names names = listing.Names names
list_phase (KeyList s) names = listing.KeyList names s

abbrev pub good_list : ListEnd → List (List ℕ) → GoodList
good_list Success names = listing.Listed names
good_list Abort names = listing.Aborted

abbrev pub list_state : AnswerState ListPart ListEnd → List (List ℕ) → AnswerState ListPhase GoodList
list_state (On part) names = On (list_phase part names)
list_state (Done end) names = Done (good_list end names)
list_state (Broken why) names = Broken why
list_state Late names = Late

abbrev pub bytes_of : Bor (List ℕ) → List ℕ
bytes_of slice = slice.now
