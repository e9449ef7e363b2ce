-- Two check-ins whose drivers' sessions have equal outputs: what they have in common.
use Rattle.std.specs.Prelude.{◌≡◌, ℕ, false, List, [], ◌∷◌, Option, Some, None, slice_get}
use Rattle.edge_kit.specs.Starters.{Had, StartTold}
use Rattle.edge_kit.specs.Told.{Told, MayFail}
use Rattle.one_shot.specs.Starters.{is_single_run}
use Rattle.settings_view.specs.declared.view.Driver.{Driver}
use Rattle.clean_drivers.specs.EqualAnswers.{AreOf}
use Rattle.checkin_paths.specs.CleanedFiles.{Asked, text_in}
use Rattle.checkin_paths.specs.Outcomes.{Outcome}
use Rattle.checkin_engine.specs.Talks.{turns_of}
use Rattle.checkin_engine.specs.Ends.{AllTold, Seen, IsLookedThrough}

-- a path was asked for with the same bytes, or not at all
abbrev pub IsAskedAlike : Option Asked → Option Asked → Type 0
IsAskedAlike None None = Unit {0}
IsAskedAlike (Some a) (Some b) = a.bytes ≡ b.bytes
IsAskedAlike a b = ⊥

abbrev pub AreAlike : List Outcome → List Outcome → Type 0
AreAlike [] [] = Unit {0}
AreAlike (o ∷ os) (u ∷ us) = IsAskedAlike o.asked u.asked × AreAlike os us
AreAlike os us = ⊥

-- Starter by starter, what came of the starts of both goes by the same starts: sessions with equal outputs, none of
-- whose links failed.
abbrev pub HadAlike : List (List ℕ × List Had) → List (List ℕ × List Had) → Type 0
HadAlike [] [] = Unit {0}
HadAlike ((command, had) ∷ xs) ((other, also) ∷ ys) =
    ((starts : List StartTold) × AreOf starts had × AreOf starts also) × HadAlike xs ys
HadAlike xs ys = ⊥

-- two check-ins with the same paths and drivers, in which each path was asked for with the same bytes, and the sessions
-- had equal outputs
pub record AreLikeCheckins (told other : AllTold) (old new past now : Seen) (a : IsLookedThrough told old new)
    (b : IsLookedThrough other past now) : Type 0 where
  pub paths : a.paths ≡ b.paths
  pub drivers : a.drivers ≡ b.drivers
  pub asked : AreAlike a.checked.outcomes b.checked.outcomes
  pub sessions : HadAlike a.talks.backs b.talks.backs

-- In two such check-ins each driver that is no single run had the same turns: the same answers for the same paths.
abbrev pub EqualTurns : Type 0
EqualTurns = (told other : AllTold) (old new past now : Seen) (a : IsLookedThrough told old new)
    (b : IsLookedThrough other past now) → AreLikeCheckins told other old new past now a b → (place : ℕ) (d : Driver)
    → slice_get a.drivers place ≡ Some d → is_single_run (text_in (Some d)) ≡ false
    → turns_of place a.paths a.checked.outcomes ≡ turns_of place b.paths b.checked.outcomes

-- all is told, and that nothing fails
abbrev pub IsAllTold : (List ℕ → Told) → Type 0
IsAllTold tells = (name : List ℕ) → MayFail (tells name) → ⊥

-- two check-ins with the same paths and the same files, none of which fails, nor an object
pub record HaveSameFiles (told other : AllTold) (old new past now : Seen) (a : IsLookedThrough told old new)
    (b : IsLookedThrough other past now) : Type 0 where
  pub paths : a.paths ≡ b.paths
  pub files : told.files ≡ other.files
  pub ready : IsAllTold told.files
  pub objects : IsAllTold told.repo.object
  pub others : IsAllTold other.repo.object

-- in two such check-ins each path is asked for with the same bytes, or not at all
abbrev pub SameFilesAskAlike : Type 0
SameFilesAskAlike = (told other : AllTold) (old new past now : Seen) (a : IsLookedThrough told old new)
    (b : IsLookedThrough other past now) → HaveSameFiles told other old new past now a b
    → AreAlike a.checked.outcomes b.checked.outcomes
