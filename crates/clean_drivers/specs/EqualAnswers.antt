-- Two talks whose sessions have equal outputs: what they have in common.
use Rattle.std.specs.Prelude.{◌≡◌, ℕ, ◌<◌, List, [], ◌∷◌, ◌++◌, Some, Err}
use Rattle.edge_kit.specs.Starters.{SessionHad, Had, Session, StartFailed, StartTold, Fails, Gives}
use Rattle.clean_drivers.specs.declared.cause.CleanFault.TheVariants.{NoMemory}
use Rattle.clean_drivers.specs.CleanTalks.{Turn, IsCleanTalk}

-- A session took a first part of this output, and all of it if it met an end of input. Its link never failed.
pub record IsOf (output : List ℕ) (seen : SessionHad) : Type 0 where
  pub taken : List ℕ
  pub ahead : List ℕ
  pub told : seen.taken ≡ Some taken
  pub whole : output ≡ taken ++ ahead
  pub ended : 0 < seen.ends → ahead ≡ []
  pub unfailed : seen.faults ≡ 0

-- The items go by these starts, in order: one that fails, or isn't there, gave no session, and each other one gave a
-- session with its output.
abbrev pub AreOf : List StartTold → List Had → Type 0
AreOf starts [] = Unit {0}
AreOf [] (StartFailed ∷ items) = AreOf [] items
AreOf (Fails ∷ starts) (StartFailed ∷ items) = AreOf starts items
AreOf (Gives output ∷ starts) (Session seen ∷ items) = IsOf output seen × AreOf starts items
AreOf starts items = ⊥

-- the same paths with the same contents
abbrev pub AreAskedAlike : List Turn → List Turn → Type 0
AreAskedAlike [] [] = Unit {0}
AreAskedAlike (t ∷ ts) (u ∷ us) = (t.path ≡ u.path) × (t.content ≡ u.content) × AreAskedAlike ts us
AreAskedAlike ts us = ⊥

-- memory ran out for no path
abbrev pub HadMemory : List Turn → Type 0
HadMemory [] = Unit {0}
HadMemory (t ∷ ts) = (t.answer ≡ Err NoMemory → ⊥) × HadMemory ts

-- a talk that goes by these starts, in which memory never ran out
pub record IsTalkBy (starts : List StartTold) (items : List Had) (turns : List Turn) : Type 0 where
  pub talk : IsCleanTalk items turns
  pub by : AreOf starts items
  pub memory : HadMemory turns

-- Two talks over the same paths with the same contents, whose sessions have equal outputs, have equal answers.
abbrev pub EqualAnswers : Type 0
EqualAnswers = (starts : List StartTold) (i j : List Had) (a b : List Turn) → AreAskedAlike a b
    → IsTalkBy starts i a → IsTalkBy starts j b → a ≡ b
