-- What came of a starter's starts, against the starts that it tells.
use Rattle.std.specs.Prelude.{◌≡◌, ℕ, ◌<◌, List, [], ◌∷◌, Some}
use Rattle.edge_kit.specs.Links.{Left, led, TellsLeft, replies_in}
use Rattle.edge_kit.specs.Told.{Tells}
use Rattle.edge_kit.specs.Starters.{Had, Session, StartFailed, StartOutOfMemory, SessionHad}
use Rattle.edge_kit.specs.Starters.{Starts, NextGives, NextFails, behind_next}

-- A session took a first part of its output, and all of it where it met an end of input. Its driver answered as was
-- told, if that was told.
pub record TookOf (output : Left) (seen : SessionHad) : Type 0 where
  pub came : List ℕ
  pub left : Left
  pub part : output ≡ led came left
  pub taken : Tells seen.taken came
  pub whole : 0 < seen.ends → TellsLeft left []
  pub replies : seen.replies ≡ replies_in output

-- the same session, which tells what it sent and took
pub record FillsSession (seen full : SessionHad) : Type 0 where
  pub sent : List ℕ
  pub taken : List ℕ
  pub sent_is : Tells seen.sent sent
  pub taken_is : Tells seen.taken taken
  pub full_is : full ≡ record seen { sent = Some sent; taken = Some taken }

-- the same items, in which each session tells what it sent and took
abbrev pub Fills : List Had → List Had → Type 0
Fills [] [] = Unit {0}
Fills (Session seen ∷ hs) (Session full ∷ fs) = FillsSession seen full × Fills hs fs
Fills (StartFailed ∷ hs) (StartFailed ∷ fs) = Fills hs fs
Fills (StartOutOfMemory ∷ hs) (StartOutOfMemory ∷ fs) = Fills hs fs
Fills hs fs = ⊥

-- The items go by the told starts, in order, and leave the last ones: each failed start was told to fail or isn't told,
-- and each session took from the output that is told, or has the driver that is told. A start that was out of memory
-- uses up none.
abbrev pub GoBy : Starts → List Had → Starts → Type 0
GoBy told [] left = left ≡ told
GoBy told (StartOutOfMemory ∷ hs) left = GoBy told hs left
GoBy told (StartFailed ∷ hs) left = NextFails told × GoBy (behind_next told) hs left
GoBy told (Session seen ∷ hs) left = (output : Left) × NextGives told output × TookOf output seen
    × GoBy (behind_next told) hs left
