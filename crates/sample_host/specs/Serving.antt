-- What is read and written.
use Rattle.std.specs.Prelude.{◌≡◌, ◌⊎◌, ℕ, List, ◌++◌, Option}
use Rattle.std.specs.Io.KnownBytes.{Appends, Consumes, IsAtEnd}
use Rattle.driver_host.specs.declared.work.Choice.{Choice}
use Rattle.driver_host.specs.HostText.{Over}
use Rattle.driver_host.specs.Chosen.{Contents}
use Rattle.driver_host.specs.Works.{WorkTold}
use Rattle.driver_host.specs.Hosts.{HostSeen, IsHostAfter}

-- A host took a piece after these bytes, and what it answers was written: its text goes on.
pub record AnswersPiece {W : Type 0} (told : W → WorkTold) (latest : W → Contents)
    (bytes : List ℕ) (cs : List Choice) (text piece : List ℕ)
    (held : Option (List ℕ)) (new : HostSeen W) (holds : Option (List ℕ)) : Type 0 where
  pub more : List Choice
  pub added : List ℕ
  pub host : IsHostAfter told latest (bytes ++ piece) (cs ++ more) (text ++ added) new
  pub written : Appends held holds added

-- Bytes were read, and the host's text of them was written.
pub record Answers {W : Type 0} (told : W → WorkTold) (latest : W → Contents)
    (bytes : List ℕ) (cs : List Choice) (text : List ℕ)
    (unread held : Option (List ℕ)) (new : HostSeen W) (left holds : Option (List ℕ)) : Type 0 where
  pub read : List ℕ
  pub taken : Consumes unread left read
  pub piece : AnswersPiece told latest bytes cs text read held new holds

-- All of the input was read, or a choice ended the talk.
pub record Serves {W : Type 0} (told : W → WorkTold) (latest : W → Contents)
    (bytes : List ℕ) (cs : List Choice) (text : List ℕ)
    (unread held : Option (List ℕ)) (new : HostSeen W) (left holds : Option (List ℕ)) : Type 0 where
  pub answers : Answers told latest bytes cs text unread held new left holds
  pub whole : IsAtEnd left ⊎ (new.talk.stage ≡ Over)
