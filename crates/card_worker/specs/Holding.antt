-- What a worker has in hand.
use Rattle.std.specs.Prelude.{◌≡◌, ◌++◌, ℕ, true, List, [], ◌∷◌, map, Option, Some, None, is_some, option_to_list}
use Rattle.atomic_table.specs.Seated.{TableId}
use Rattle.turn_lock.specs.History.{Begins}
use Rattle.turn_lock.specs.Seat.{SeatView, mine_of, seen_of}
use Rattle.object_dir.specs.declared.taken_blob.Taken.{Taken}
use Rattle.object_dir.specs.Taking.{IsTaken, stored_in}
use Rattle.delay_table.specs.Table.{contains, AreApart}
use Rattle.convert_plan.specs.declared.card.Card.{Card}
use Rattle.convert_plan.specs.Card.{CardSeen, IsCardOf}
use Rattle.checkout_core.specs.declared.event.Event.{Event}
use Rattle.checkout_core.specs.declared.event.Event.TheVariants.{Claim}
use Rattle.checkout_core.specs.declared.path.PathState.TheVariants.{Waiting}
use Rattle.checkout_core.specs.declared.verdict.FilterCause.{FilterCause}
use Rattle.checkout_core.specs.declared.verdict.Own.{Own}
use Rattle.checkout_core.specs.Desks.{was_read}
use Rattle.checkout_core.specs.Hands.{Holds, held_at}
use Rattle.checkout_core.specs.Notes.{noted}
use Rattle.checkout_core.specs.States.{Core}
use Rattle.checkout_book.specs.declared.plan.BookPlan.{BookPlan}
use Rattle.checkout_book.specs.declared.plan.HistoryEntry.{HistoryEntry}
use Rattle.checkout_book.specs.Sights.{Sight, seen}
use Rattle.checkout_book.specs.Shelves.{cards_of, IsPlanned, WaitsSo}
use Rattle.checkout_book.specs.Passes.{IsPass}
use Rattle.checkout_book.specs.Reserving.{AreNew}
use Rattle.checkout_book.specs.Turns.{NoneWaits}
use Rattle.driver_desk.specs.Cards.{KeepsCard}
use Rattle.card_worker.specs.declared.held.Held.{Held}
use Rattle.card_worker.specs.declared.hand.Hand.{Hand}
use Rattle.card_worker.specs.Fews.{items}
use Rattle.card_worker.specs.declared.written.Written.{Written}
use Rattle.card_worker.specs.Turns.{TurnSteps}
use Rattle.card_worker.specs.Working.{AreShown, own_events}
use Rattle.card_worker.specs.Writing.{IsToWrite, WritesCard}

-- A claimed card as it is held: nothing was taken of its blob, or this.
abbrev pub HoldsCard : CardSeen → CardSeen → Option Taken → Type 0
HoldsCard claimed card None = card ≡ claimed
HoldsCard claimed card (Some taken) = KeepsCard claimed card × (claimed.ready ≡ None)
    × IsTaken claimed.told claimed.object claimed.blob.faults card.blob.faults taken

-- How the writing of a claimed card ended, with this blob and this leaf in its card.
pub record WritesHeld (claimed card : CardSeen) (o : Own) : Type 0 where
  pub kept : IsCardOf claimed card
  pub wrote : WritesCard claimed o card.blob card.leaf
  pub read : is_some claimed.ready ≡ true → was_read o ≡ true

-- for which plan a worker works, its number, how many numbers it gave, and its pass as it began
pub record Shift (B L : Type 0) : Type 0 where
  pub plan : BookPlan B L
  pub number : ℕ
  pub made : ℕ
  pub pass : SeatView HistoryEntry (BookPlan B L)

module _ {B L : Type 0} where
  abbrev pub paths_in : List (Held B L) → List ℕ
  paths_in hs = map (λ h. h.card.path) hs

  -- the stored bytes that were taken of the object of a card
  abbrev pub stored_in_held : Held B L → List ℕ
  stored_in_held h = elim h.taken [ None ↦ [] | Some taken ↦ stored_in taken.stored ]

  -- and if there is a card
  abbrev pub stored_in_slot : Option (Held B L) → List ℕ
  stored_in_slot None = []
  stored_in_slot (Some h) = stored_in_held h

  -- the claims of these cards by the actor n
  abbrev pub claims_in : ℕ → List (Held B L) → List Event
  claims_in n hs = map (λ h. Claim h.card.path n) hs

  -- no path waits, by what the pass saw at its last turn
  abbrev pub SawNone : TableId → Shift B L → SeatView HistoryEntry (BookPlan B L) → Type 0
  SawNone lock w pass = (c : Core) × IsPass lock w.plan w.number w.made pass c × NoneWaits c

module _ {B L : Type 0} (see : Sight B L) where
  -- the same card, of which more may have been taken or be known
  abbrev pub SameHeld : Held B L → Held B L → Type 0
  SameHeld h k = (k.card.path ≡ h.card.path) × ((claimed : CardSeen) → HoldsCard claimed (seen see h.card) h.taken
      → HoldsCard claimed (seen see k.card) k.taken)

  abbrev pub AreSame : List (Held B L) → List (Held B L) → Type 0
  AreSame [] [] = Unit {0}
  AreSame (h ∷ hs) (k ∷ ks) = SameHeld h k × AreSame hs ks
  AreSame [] (k ∷ ks) = ⊥
  AreSame (h ∷ hs) [] = ⊥

  -- the slots hold the same cards
  abbrev pub AreSameSlots : List (Option (Held B L)) → List (Option (Held B L)) → Type 0
  AreSameSlots [] [] = Unit {0}
  AreSameSlots (x ∷ xs) (y ∷ ys) = AreSame (option_to_list x) (option_to_list y) × AreSameSlots xs ys
  AreSameSlots [] (y ∷ ys) = ⊥
  AreSameSlots (x ∷ xs) [] = ⊥

  -- the actor has the path of a planned card in hand, and this is the card as it was claimed
  pub record IsClaimed (cards : List (Card B L)) (c : Core) (n : ℕ) (card : Card B L) : Type 0 where
    pub planned : IsPlanned see cards card
    pub raw : Option FilterCause
    pub holds : Holds c card.path n raw
    pub ready : WaitsSo (seen see card) (Waiting raw) card.ready

  -- and this is how the card is held
  pub record IsHeld (cards : List (Card B L)) (c : Core) (n : ℕ) (h : Held B L) : Type 0 where
    pub card : Card B L
    pub claimed : IsClaimed cards c n card
    pub held : HoldsCard (seen see card) (seen see h.card) h.taken

  abbrev pub AreHeld : List (Card B L) → Core → ℕ → List (Held B L) → Type 0
  AreHeld cards c n [] = Unit {0}
  AreHeld cards c n (h ∷ hs) = IsHeld cards c n h × AreHeld cards c n hs

  -- The worker has these cards, of different paths, in hand. What it did since it began are claims and closes in their
  -- order, and each Close shows how the writing ended.
  pub record IsHand (lock : TableId) (w : Shift B L) (pass : SeatView HistoryEntry (BookPlan B L))
      (hs : List (Held B L)) : Type 0 where
    pub new : AreNew see (cards_of w.plan)
    pub core : Core
    pub is_pass : IsPass lock w.plan w.number w.made pass core
    pub none_other : (q : ℕ) → held_at core w.number q ≡ true → contains q (paths_in hs) ≡ true
    pub apart : AreApart (paths_in hs)
    pub held : AreHeld (cards_of w.plan) core w.number hs
    pub more : List HistoryEntry
    pub mine : mine_of pass ≡ mine_of w.pass ++ more
    pub turns : TurnSteps [] (own_events more) (claims_in w.number hs)
    pub shown : AreShown see (cards_of w.plan) more
    pub quiet : noted (own_events more) ≡ []
    pub begins : Begins (seen_of w.pass) (seen_of pass)

  -- the cards of this hand: those that are written next, and those after them
  abbrev pub IsInHand : TableId → Shift B L → Hand B L → Type 0
  IsInHand lock w hand = IsHand lock w hand.pass (items hand.cards ++ items hand.next)

  -- the card may be written, as it was claimed
  abbrev pub IsToBeWritten : Held B L → Type 0
  IsToBeWritten h = (card : Card B L) × IsToWrite (seen see card)
      × HoldsCard (seen see card) (seen see h.card) h.taken

  -- and it was written so
  abbrev pub IsWrittenSo : Held B L → Written B L → Type 0
  IsWrittenSo h x = (card : Card B L) → IsToWrite (seen see card) → HoldsCard (seen see card) (seen see h.card) h.taken
      → WritesHeld (seen see card) (seen see x.card) x.own
