-- What is seen of a link to a driver, and how its calls change that.
use Rattle.std.specs.Prelude.{◌≡◌, ◌≤◌, ◌<◌, ℕ, List, [], ◌++◌, take, length, Bool, true, false}
use Rattle.std.specs.Prelude.{Option, Some, None, Result, Ok, Err}
use Rattle.edge_kit.specs.Faults.{Rose}
use Rattle.edge_kit.specs.Told.{Tells}
use Rattle.edge_kit.specs.Files.{grown}
use Rattle.edge_kit.specs.declared.faults.SendFault.{SendFault}
use Rattle.edge_kit.specs.declared.faults.Failed.{Failed}

-- How far a link was shut: its input was closed, and then its end was waited for.
pub data Stage : Type 0 where
  Open : Stage
  InputShut : Stage
  Shut : Stage

-- a told run of a command with an input: its output, and whether its exit status is 0
pub record RunTold : Type 0 where
  pub command : List ℕ
  pub input : List ℕ
  pub output : List ℕ
  pub zero : Bool

-- How a driver answers that runs a command once for each content, where its runs are told. One that isn't among them
-- fails.
pub record Replies : Type 0 where
  pub command : List ℕ
  pub runs : List RunTold

-- what is told of the bytes that are left to read: nothing, all of them, or that the driver answers so
pub data Left : Type 0 where
  LeftUntold : Left
  LeftBytes : List ℕ → Left
  LeftAnswers : Replies → Left

-- The bytes that were sent and those that were taken, each if it is told, and those that are left to
-- read; how often it has failed, how often it met an end of input, and how far it was shut.
pub record LinkSeen : Type 0 where
  pub sent : Option (List ℕ)
  pub taken : Option (List ℕ)
  pub left : Left
  pub faults : ℕ
  pub ends : ℕ
  pub stage : Stage

abbrev pub input_shut : Stage → Stage
input_shut Open = InputShut
input_shut InputShut = InputShut
input_shut Shut = Shut

-- a wait counts only after a closed input
abbrev pub waited : Stage → Stage
waited Open = Open
waited InputShut = Shut
waited Shut = Shut

abbrev pub is_shut : Stage → Bool
is_shut Open = false
is_shut InputShut = false
is_shut Shut = true

-- bytes before those that are left; a driver that answers goes on answering so
abbrev pub led : List ℕ → Left → Left
led piece LeftUntold = LeftUntold
led piece (LeftBytes bytes) = LeftBytes (piece ++ bytes)
led piece (LeftAnswers replies) = LeftAnswers replies

-- these bytes are left, if they are told
abbrev pub TellsLeft : Left → List ℕ → Type 0
TellsLeft LeftUntold bytes = Unit {0}
TellsLeft (LeftBytes told) bytes = told ≡ bytes
TellsLeft (LeftAnswers replies) bytes = Unit {0}

-- the bytes that are left, if they are told
abbrev pub bytes_in : Left → Option (List ℕ)
bytes_in LeftUntold = None
bytes_in (LeftBytes bytes) = Some bytes
bytes_in (LeftAnswers replies) = None

-- how the driver answers, if that is told
abbrev pub replies_in : Left → Option Replies
replies_in LeftUntold = None
replies_in (LeftBytes bytes) = None
replies_in (LeftAnswers replies) = Some replies

-- a link on which nothing was called
pub record IsNewLink (link : LinkSeen) : Type 0 where
  pub sent : Tells link.sent []
  pub taken : Tells link.taken []
  pub unfailed : link.faults ≡ 0
  pub unended : link.ends ≡ 0
  pub unshut : link.stage ≡ Open

-- a proper first part of the piece was sent, or nothing
pub record SendsPart (old : Option (List ℕ)) (piece : List ℕ) (new : Option (List ℕ)) : Type 0 where
  pub front : List ℕ
  pub after : List ℕ
  pub cut : piece ≡ front ++ after
  pub told : new ≡ grown old front
  pub proper : 0 < length piece → 0 < length after

-- a send ended early, by a fault or out of memory
pub record IsSendCut (piece : List ℕ) (old new : LinkSeen) : Type 0 where
  pub part : SendsPart old.sent piece new.sent
  pub kept : new ≡ record old { sent = new.sent; faults = new.faults }

-- the piece was sent whole, or not
abbrev pub Sends : {T : Type 0} → List ℕ → LinkSeen → LinkSeen → Result T SendFault → Type 0
Sends piece old new (Ok x) = new ≡ record old { sent = grown old.sent piece }
Sends piece old new (Err e) = IsSendCut piece old new

-- This many bytes were taken from the front of what is left, and are at the front of the buffer. 0
-- bytes are an end of input.
pub record IsRead (count : ℕ) (into : List ℕ) (old new : LinkSeen) : Type 0 where
  pub within : count ≤ length into
  pub left : old.left ≡ led (take count into) new.left
  pub kept : new ≡ record old {
    taken = grown old.taken (take count into);
    left = new.left;
    ends = new.ends;
  }
  pub ended : count ≡ 0 → Rose old.ends new.ends × TellsLeft old.left []
  pub going : 0 < count → new.ends ≡ old.ends
  pub all_taken : old.left ≡ LeftBytes [] → count ≡ 0

-- a read that fails has taken nothing
abbrev pub Reads : List ℕ → LinkSeen → LinkSeen → Result ℕ Failed → Type 0
Reads into old new (Ok count) = IsRead count into old new
Reads into old new (Err e) = new ≡ record old { faults = new.faults }
