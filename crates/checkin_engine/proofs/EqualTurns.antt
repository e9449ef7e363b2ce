-- Equal sessions give the drivers of two check-ins equal turns.
use Rattle.std.proofs.Common.{◌≡◌, ℕ, zero, suc, ◌+◌, eqb, Bool, true, false, List, [], ◌∷◌, ◌++◌, Option, Some, None, Result, Ok, Err, if◌then◌else◌, slice_get, refl, sym, ap, subst, ◌∙◌, arith}
use Rattle.edge_kit.specs.Starters.{Had}
use Rattle.one_shot.specs.Starters.{is_single_run}
use Rattle.settings_view.specs.declared.view.Driver.{Driver}
use Rattle.clean_drivers.specs.declared.cause.CleanCause.{CleanCause}
use Rattle.clean_drivers.specs.declared.cause.CleanFault.TheVariants.{NoMemory}
use Rattle.clean_drivers.specs.CleanTalks.{Turn}
use Rattle.clean_drivers.specs.EqualAnswers.{AreAskedAlike, HadMemory, EqualAnswers}
use Rattle.checkin_paths.specs.declared.path.CheckinPath.{CheckinPath}
use Rattle.checkin_paths.specs.declared.path.PathDriver.{PathDriver}
use Rattle.checkin_paths.specs.CleanedFiles.{Asked, as_answer, text_in}
use Rattle.checkin_paths.specs.Fates.{driver_of}
use Rattle.checkin_paths.specs.Outcomes.{Outcome}
use Rattle.checkin_engine.specs.Talks.{turn_of, turns_of, GivesTalk, GiveTalks}
use Rattle.checkin_engine.specs.EqualTurns.{IsAskedAlike, AreAlike, HadAlike, EqualTurns}

-- memory ran out for no turn
some_memory : (answer : Result (List ℕ) CleanCause) → as_answer answer ≡ Err NoMemory → ⊥
some_memory (Ok cleaned) is = cc is
some_memory (Err why) is = cc is

memory_if : (here : Bool) (path : List ℕ) (a : Asked) (ts : List Turn) → HadMemory ts → HadMemory ((if here then record { path = path; content = a.bytes; answer = as_answer a.answer } ∷ [] else []) ++ ts)
memory_if true path a ts has = (some_memory a.answer, has)
memory_if false path a ts has = has

memory_of : (place : ℕ) (path : List ℕ) (driver : Option PathDriver) (asked : Option Asked) (ts : List Turn) → HadMemory ts → HadMemory (turn_of place path driver asked ++ ts)
memory_of place path None None ts has = has
memory_of place path None (Some a) ts has = has
memory_of place path (Some d) None ts has = has
memory_of place path (Some d) (Some a) ts has = memory_if (eqb d.place place) path a ts has

had_memory : (place : ℕ) (ps : List CheckinPath) (os : List Outcome) → HadMemory (turns_of place ps os)
had_memory place [] os = tt
had_memory place (p ∷ ps) [] = tt
had_memory place (p ∷ ps) (o ∷ os) = memory_of place p.path (driver_of p.way) o.asked (turns_of place ps os) (had_memory place ps os)

-- the turns have the same paths with the same bytes
alike_if : (here : Bool) (path : List ℕ) (a b : Asked) (ts us : List Turn) → a.bytes ≡ b.bytes → AreAskedAlike ts us
    → AreAskedAlike ((if here then record { path = path; content = a.bytes; answer = as_answer a.answer } ∷ [] else []) ++ ts) ((if here then record { path = path; content = b.bytes; answer = as_answer b.answer } ∷ [] else []) ++ us)
alike_if true path a b ts us same are = (refl, same, are)
alike_if false path a b ts us same are = are

alike_of : (place : ℕ) (path : List ℕ) (driver : Option PathDriver) (asked also : Option Asked) (ts us : List Turn) → IsAskedAlike asked also → AreAskedAlike ts us → AreAskedAlike (turn_of place path driver asked ++ ts) (turn_of place path driver also ++ us)
alike_of place path None None None ts us alike are = are
alike_of place path (Some d) None None ts us alike are = are
alike_of place path driver None (Some b) ts us alike are = absurd alike
alike_of place path driver (Some a) None ts us alike are = absurd alike
alike_of place path None (Some a) (Some b) ts us alike are = are
alike_of place path (Some d) (Some a) (Some b) ts us alike are = alike_if (eqb d.place place) path a b ts us alike are

turns_alike : (place : ℕ) (ps : List CheckinPath) (os us : List Outcome) → AreAlike os us → AreAskedAlike (turns_of place ps os) (turns_of place ps us)
turns_alike place [] os us alike = tt
turns_alike place (p ∷ ps) [] [] alike = tt
turns_alike place (p ∷ ps) [] (u ∷ us) alike = absurd alike
turns_alike place (p ∷ ps) (o ∷ os) [] alike = absurd alike
turns_alike place (p ∷ ps) (o ∷ os) (u ∷ us) alike = alike_of place p.path (driver_of p.way) o.asked u.asked (turns_of place ps os) (turns_of place ps us) alike.0 (turns_alike place ps os us alike.1)

-- what is left of both behind one driver, which had the same turns
record AreBehind (R S : List (List ℕ × List Had) → Type 0) (single : Bool) (ts us : List Turn) : Type 0 where
  rest : List (List ℕ × List Had)
  also : List (List ℕ × List Had)
  one : R rest
  other : S also
  sessions : HadAlike rest also
  same : single ≡ false → ts ≡ us

one_driver : EqualAnswers → (R S : List (List ℕ × List Had) → Type 0) (single : Bool) (text : List ℕ) (ts us : List Turn) (xs ys : List (List ℕ × List Had)) → AreAskedAlike ts us → HadMemory ts → HadMemory us
    → GivesTalk single text ts xs R → GivesTalk single text us ys S → HadAlike xs ys → AreBehind R S single ts us
one_driver law R S true text ts us xs ys alike some others one other sessions = record { rest = xs; also = ys; one = one; other = other; sessions = sessions; same = λ never. absurd (cc never) }
one_driver law R S false text [] [] xs ys alike some others one other sessions = record { rest = xs; also = ys; one = one; other = other; sessions = sessions; same = λ is. refl }
one_driver law R S false text [] (u ∷ us) xs ys alike some others one other sessions = absurd alike
one_driver law R S false text (t ∷ ts) [] xs ys alike some others one other sessions = absurd alike
one_driver law R S false text (t ∷ ts) (u ∷ us) [] ys alike some others one other sessions = absurd one
one_driver law R S false text (t ∷ ts) (u ∷ us) (a ∷ xs) [] alike some others one other sessions = absurd other
one_driver law R S false text (t ∷ ts) (u ∷ us) ((command, had) ∷ xs) ((name, also) ∷ ys) alike some others (is, talk, one) (so, speech, other) ((starts, by, by'), sessions) = record {
  rest = xs;
  also = ys;
  one = one;
  other = other;
  sessions = sessions;
  same = λ is. law starts had also (t ∷ ts) (u ∷ us) alike (record { talk = talk; by = by; memory = some }) (record { talk = speech; by = by'; memory = others });
}

-- the drivers from a place on
at_start : (place : ℕ) → place ≡ place + 0
at_start place = omega arith

behind_start : (place k : ℕ) → place + 1 + k ≡ place + suc k
behind_start place k = omega arith

module _ (law : EqualAnswers) (ps : List CheckinPath) (os us : List Outcome) (alike : AreAlike os us) where
  first_driver : (place : ℕ) (e : Driver) (ds : List Driver) (xs ys : List (List ℕ × List Had)) → GiveTalks ps os place (e ∷ ds) xs → GiveTalks ps us place (e ∷ ds) ys → HadAlike xs ys
      → AreBehind (λ rest. GiveTalks ps os (place + 1) ds rest) (λ rest. GiveTalks ps us (place + 1) ds rest) (is_single_run (text_in (Some e))) (turns_of place ps os) (turns_of place ps us)
  first_driver place e ds xs ys one other sessions =
      one_driver law (λ rest. GiveTalks ps os (place + 1) ds rest) (λ rest. GiveTalks ps us (place + 1) ds rest) (is_single_run (text_in (Some e))) (text_in (Some e)) (turns_of place ps os) (turns_of place ps us) xs ys (turns_alike place ps os us alike)
      (had_memory place ps os) (had_memory place ps us) one other sessions

  all_drivers : (place : ℕ) (ds : List Driver) (xs ys : List (List ℕ × List Had)) → GiveTalks ps os place ds xs → GiveTalks ps us place ds ys → HadAlike xs ys
      → (j : ℕ) (d : Driver) → slice_get ds j ≡ Some d → is_single_run (text_in (Some d)) ≡ false → turns_of (place + j) ps os ≡ turns_of (place + j) ps us
  all_drivers place [] xs ys one other sessions j d at long = absurd (cc at)
  all_drivers place (e ∷ ds) xs ys one other sessions zero d at long =
      let first = first_driver place e ds xs ys one other sessions in
      let same : text_in (Some e) ≡ text_in (Some d) = ap (λ (x : Option Driver). text_in x) at in
      subst (λ (n : ℕ). turns_of n ps os ≡ turns_of n ps us) (at_start place) (first.same (ap is_single_run same ∙ long))
  all_drivers place (e ∷ ds) xs ys one other sessions (suc k) d at long =
      let first = first_driver place e ds xs ys one other sessions in
      subst (λ (n : ℕ). turns_of n ps os ≡ turns_of n ps us) (behind_start place k) (all_drivers (place + 1) ds first.rest first.also first.one first.other first.sessions k d at long)

from_start : (place : ℕ) → 0 + place ≡ place
from_start place = omega arith

pub equal_turns : EqualAnswers → EqualTurns
equal_turns law told other old new past now a b are place d at long =
    subst (λ (n : ℕ). turns_of n a.paths a.checked.outcomes ≡ turns_of n a.paths b.checked.outcomes) (from_start place)
    (all_drivers law a.paths a.checked.outcomes b.checked.outcomes are.asked 0 a.drivers a.talks.backs b.talks.backs a.talks.talks
    (subst (λ (ps : List CheckinPath). GiveTalks ps b.checked.outcomes 0 a.drivers b.talks.backs) (sym are.paths) (subst (λ (ds : List Driver). GiveTalks b.paths b.checked.outcomes 0 ds b.talks.backs) (sym are.drivers) b.talks.talks))
    are.sessions place d at long)
    ∙ ap (λ (ps : List CheckinPath). turns_of place ps b.checked.outcomes) are.paths
