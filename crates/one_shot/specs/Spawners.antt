-- A spawner of long-running drivers and of single runs, as it is seen.
use Rattle.std.specs.Prelude.{◌≡◌, ℕ, Bool, true, false, List, [], ◌∷◌, map, reverse, Option, Some, None, if◌then◌else◌}
use Rattle.std.specs.Option.{option_map}
use Rattle.edge_kit.specs.Links.{LinkSeen}
use Rattle.edge_kit.specs.Starters.{Starts, Had, StarterSeen, SpawnerSeen}
use Rattle.one_shot.specs.declared.starter.Source.{Source}
use Rattle.one_shot.specs.declared.starter.Source.TheVariants as source
use Rattle.one_shot.specs.Onces.{RunsTold}
use Rattle.one_shot.specs.Replies.{AreServed, TellNoAnswers}
use Rattle.one_shot.specs.Starters.{is_single_run, single_starts}

-- a single run tells how its driver answers if links keep, and every other command is told below
abbrev pub commands_tell : (List ℕ → Starts) → Bool → RunsTold → List ℕ → Starts
commands_tell told keeps tells command =
    if is_single_run command then single_starts keeps tells command else told command

-- the starters that were given back, the last first: those of the spawner below, and between them those that are kept
abbrev pub woven : {A : Type 0} → List (Option A) → List A → List A
woven [] below = below
woven (Some kept ∷ back) below = kept ∷ woven back below
woven (None ∷ back) [] = woven back []
woven (None ∷ back) (last ∷ below) = last ∷ woven back below

-- the starters that were given back, with what each kept one tells
abbrev pub all_back : {S : Type 0} → (S → List ℕ × List Had) → List (Option S) → List (List ℕ × List Had)
    → List (List ℕ × List Had)
all_back tells back below = reverse (woven (reverse (map (option_map tells) back)) (reverse below))

-- A single run has the command and a maker that tells the same, and its links keep what its spawner says; every other
-- command has a starter of the spawner below.
abbrev pub RunsBy : {S M : Type 0} → (M → RunsTold) → M → Bool → List ℕ → Source S M → Type 0
RunsBy tells maker keeps command (source.Inner s) = is_single_run command ≡ false
RunsBy tells maker keeps command (source.Single run) = (is_single_run command ≡ true) × (run.command ≡ command)
    × (run.keeps ≡ keeps) × (tells run.maker ≡ tells maker)

abbrev pub AllServed : List (List ℕ × List Had) → Type 0
AllServed [] = Unit {0}
AllServed (x ∷ xs) = AreServed x.1 × AllServed xs

-- No link of the spawner below tells how its driver answers, and so no session that it keeps is told of so falsely.
pub record IsPlainBelow {P S L : Type 0} (spawner : P → SpawnerSeen) (starter : S → StarterSeen) (link : L → LinkSeen)
    : Type 0 where
  pub returned : (p : P) → AllServed (spawner p).returned
  pub had : (s : S) → AreServed (starter s).had
  pub links : TellNoAnswers link
