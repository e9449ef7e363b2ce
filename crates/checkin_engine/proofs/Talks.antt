-- What the starter of each driver kept is a talk of the driver's paths.
use Rattle.std.proofs.Common.{◌≡◌, ℕ, zero, suc, ◌+◌, eqb, Bool, true, false, List, [], ◌∷◌, ◌++◌, length, replicate, Option, Some, None, Result, Ok, Err, if◌then◌else◌, slice_get, slice_set, refl, sym, ap, subst, inl, inr, ◌∙◌, append_assoc, append-nil, arith}
use Rattle.std.proofs.lemmas.Bool.{eqb-true, eqb-false}
use Rattle.edge_kit.specs.Seen.{RepoSeen}
use Rattle.edge_kit.specs.Starters.{Starts, SpawnerSeen, Had, new_starter, starter_back}
use Rattle.one_shot.specs.Starters.{is_single_run}
use Rattle.settings_view.specs.declared.view.Driver.{Driver}
use Rattle.clean_drivers.specs.declared.cause.CleanCause.{CleanCause}
use Rattle.clean_drivers.specs.declared.cause.CleanFault.{CleanFault}
use Rattle.clean_drivers.specs.declared.cause.CleanFault.TheVariants.{NoMemory}
use Rattle.clean_drivers.specs.CleanLines.{CleanLineView, line_of, Cleans}
use Rattle.clean_drivers.specs.CleanTalks.{Turn, CleansAll, IsCleanTalk, TurnsAreTalks}
use Rattle.clean_drivers.specs.Drivers.{DriversSeen, HasLine, TalksWith, AsksBy, GivesLine, GivesBack}
use Rattle.checkin_paths.specs.declared.path.CheckinPath.{CheckinPath}
use Rattle.checkin_paths.specs.declared.path.PathDriver.{PathDriver}
use Rattle.checkin_paths.specs.Outside.{FilesSeen, WorkSeen}
use Rattle.checkin_paths.specs.CleanedFiles.{Asked, Cleaning, text_in, text_at, as_answer, AsksOne}
use Rattle.checkin_paths.specs.Fates.{driver_of}
use Rattle.checkin_paths.specs.Outcomes.{Outcome, AreInTurn, AreLookedAt}
use Rattle.checkin_paths.specs.KeptPaths.{IsLeft, first_work}
use Rattle.checkin_engine.specs.Talks.{turn_of, turns_of, GivesTalk, GiveTalks, HaveTalks}

-- one chain of turns behind another
all_behind : (a b : List Turn) (old mid new : CleanLineView) → CleansAll a old mid → CleansAll b mid new → CleansAll (a ++ b) old new
all_behind [] b old mid new same rest = subst (λ (l : CleanLineView). CleansAll b l new) same rest
all_behind (t ∷ a) b old mid new (next, cleans, more) rest = (next, cleans, all_behind a b next mid new more rest)

-- the turns that are had over a line: a single run has none
abbrev over_line : Bool → List Turn → List Turn
over_line true ts = []
over_line false ts = ts

over_both : (single : Bool) (a b : List Turn) → over_line single (a ++ b) ≡ over_line single a ++ over_line single b
over_both true a b = refl
over_both false a b = refl

-- the line of a driver that no path has asked yet
abbrev new_line : (List ℕ → Starts) → List ℕ → CleanLineView
new_line starts text = line_of (new_starter text (starts text)) None None

-- these turns were had over the line at a place, which is made for the first of them
abbrev GoOver : CleanLineView → Option CleanLineView → List Turn → Option CleanLineView → Type 0
GoOver new None [] last = last ≡ None
GoOver new None (t ∷ ts) last = (l : CleanLineView) × (last ≡ Some l) × CleansAll (t ∷ ts) new l
GoOver new (Some line) ts last = (l : CleanLineView) × (last ≡ Some l) × CleansAll ts line l

none_over : (new : CleanLineView) (found : Option CleanLineView) → GoOver new found [] found
none_over new None = refl
none_over new (Some line) = (line, refl, refl)

both_over : (new : CleanLineView) (found : Option CleanLineView) (a b : List Turn) (mid last : Option CleanLineView) → GoOver new found a mid → GoOver new mid b last → GoOver new found (a ++ b) last
both_over new None [] b mid last is rest = subst (λ (m : Option CleanLineView). GoOver new m b last) is rest
both_over new None (t ∷ a) b mid last (l, is, all) rest =
    let more : GoOver new (Some l) b last = subst (λ (m : Option CleanLineView). GoOver new m b last) is rest in
    (more.0, more.1, all_behind (t ∷ a) b new l more.0 all more.2)
both_over new (Some line) a b mid last (l, is, all) rest =
    let more : GoOver new (Some l) b last = subst (λ (m : Option CleanLineView). GoOver new m b last) is rest in
    (more.0, more.1, all_behind a b line l more.0 all more.2)

abbrev Lines : Type 0
Lines = List (Option CleanLineView)

set_there : (xs : Lines) (i : ℕ) (x y : Option CleanLineView) → slice_get xs i ≡ Some y → slice_get (slice_set xs i x) i ≡ Some x
set_there [] i x y at = absurd (cc at)
set_there (z ∷ xs) zero x y at = refl
set_there (z ∷ xs) (suc i) x y at = set_there xs i x y at

set_elsewhere : (xs : Lines) (i j : ℕ) (x : Option CleanLineView) → (i ≡ j → ⊥) → slice_get (slice_set xs i x) j ≡ slice_get xs j
set_elsewhere [] i j x other = refl
set_elsewhere (z ∷ xs) zero zero x other = absurd (other refl)
set_elsewhere (z ∷ xs) zero (suc j) x other = refl
set_elsewhere (z ∷ xs) (suc i) zero x other = refl
set_elsewhere (z ∷ xs) (suc i) (suc j) x other = set_elsewhere xs i j x (λ same. other (ap suc same))

set_length : (xs : Lines) (i : ℕ) (x : Option CleanLineView) → length (slice_set xs i x) ≡ length xs
set_length [] i x = refl
set_length (z ∷ xs) zero x = refl
set_length (z ∷ xs) (suc i) x = ap suc (set_length xs i x)

found_is : (a b : Option CleanLineView) → Some a ≡ Some b → a ≡ b
found_is a b is = cc is

had_memory : (answer : Result (List ℕ) CleanCause) → as_answer answer ≡ Err NoMemory → ⊥
had_memory (Ok cleaned) is = cc is
had_memory (Err why) is = cc is

-- what a question does at a place
record GoesAt (new : CleanLineView) (i : ℕ) (ts : List Turn) (found : Option CleanLineView) (lines : Lines) : Type 0 where
  last : Option CleanLineView
  at : slice_get lines i ≡ Some last
  over : GoOver new found ts last

-- the turns of one place, over all paths
module _ (c : Cleaning) (i : ℕ) where
  abbrev text : List ℕ
  text = text_at c.drivers i

  abbrev fresh : CleanLineView
  fresh = new_line c.starts text

  abbrev own : List Turn → List Turn
  own ts = over_line (is_single_run text) ts

  -- nothing is had there
  stays : (single : Bool) (found : Option CleanLineView) (old new : Lines) → slice_get old i ≡ Some found → slice_get new i ≡ slice_get old i → GoesAt fresh i (over_line single []) found new
  stays true found old new at same = record { last = found; at = same ∙ at; over = none_over fresh found }
  stays false found old new at same = record { last = found; at = same ∙ at; over = none_over fresh found }

  -- one turn is
  talked : (t : Turn) (found : Option CleanLineView) (line last : CleanLineView) (before after : SpawnerSeen) (lines : Lines) → HasLine c.starts text found before after line → slice_get lines i ≡ Some (Some last)
      → Cleans t.path t.content line last t.answer → GoesAt fresh i (t ∷ []) found lines
  talked t None line last before after lines has at cleans =
      record { last = Some last; at = at; over = (last, refl, (last, subst (λ (l : CleanLineView). Cleans t.path t.content l last t.answer) has.1 cleans, refl)) }
  talked t (Some l) line last before after lines has at cleans =
      record { last = Some last; at = at; over = (last, refl, (last, subst (λ (l : CleanLineView). Cleans t.path t.content l last t.answer) has.1 cleans, refl)) }

  module _ (path : List ℕ) (d : PathDriver) (a : Asked) (old new : DriversSeen) (found : Option CleanLineView) (at : slice_get old.lines i ≡ Some found) where
    abbrev turn : Turn
    turn = record { path = path; content = a.bytes; answer = as_answer a.answer }

    -- a single run
    run_goes : (here : Bool) → eqb d.place i ≡ here → is_single_run (text_at c.drivers d.place) ≡ true → new.lines ≡ old.lines → GoesAt fresh i (own (if here then turn ∷ [] else [])) found new.lines
    run_goes true is single same =
        subst (λ (s : Bool). GoesAt fresh i (over_line s (turn ∷ [])) found new.lines) (sym single ∙ ap (λ (n : ℕ). is_single_run (text_at c.drivers n)) (eqb-true d.place i is))
        (stays true found old.lines new.lines at (ap (λ (l : Lines). slice_get l i) same))
    run_goes false is single same = stays (is_single_run text) found old.lines new.lines at (ap (λ (l : Lines). slice_get l i) same)

    -- a question over a line
    line_goes : (here : Bool) → eqb d.place i ≡ here → is_single_run (text_at c.drivers d.place) ≡ false → TalksWith c.starts d.place (text_at c.drivers d.place) path a.bytes old new (as_answer a.answer)
        → GoesAt fresh i (own (if here then turn ∷ [] else [])) found new.lines
    line_goes true is single talks =
        let same : d.place ≡ i = eqb-true d.place i is in
        let stood : slice_get old.lines i ≡ Some talks.found = ap (λ (n : ℕ). slice_get old.lines n) (sym same) ∙ talks.stood in
        let is_found : talks.found ≡ found = found_is talks.found found (sym stood ∙ at) in
        let has : HasLine c.starts text found old.spawner new.spawner talks.line =
        subst (λ (n : ℕ). HasLine c.starts (text_at c.drivers n) found old.spawner new.spawner talks.line) same
        (subst (λ (f : Option CleanLineView). HasLine c.starts (text_at c.drivers d.place) f old.spawner new.spawner talks.line) is_found talks.has) in
        let now : slice_get new.lines i ≡ Some (Some talks.last) =
        ap (λ (l : Lines). slice_get l i) (talks.lines ∙ ap (λ (n : ℕ). slice_set old.lines n (Some talks.last)) same) ∙ set_there old.lines i (Some talks.last) found at in
        subst (λ (s : Bool). GoesAt fresh i (over_line s (turn ∷ [])) found new.lines) (sym single ∙ ap (λ (n : ℕ). is_single_run (text_at c.drivers n)) same)
        (talked turn found talks.line talks.last old.spawner new.spawner new.lines has now talks.cleans)
    line_goes false is single talks =
        stays (is_single_run text) found old.lines new.lines at (ap (λ (l : Lines). slice_get l i) talks.lines ∙ set_elsewhere old.lines d.place i (Some talks.last) (eqb-false d.place i is))

    asked_goes : (single : Bool) → is_single_run (text_at c.drivers d.place) ≡ single → AsksBy single c.starts c.runs d.place (text_at c.drivers d.place) path a.bytes old new (as_answer a.answer)
        → GoesAt fresh i (own (turn_of i path (Some d) (Some a))) found new.lines
    asked_goes true is asks = run_goes (eqb d.place i) refl is (ap (λ (x : DriversSeen). x.lines) asks.1)
    asked_goes false is (inl talks) = line_goes (eqb d.place i) refl is talks
    asked_goes false is (inr none) = absurd (had_memory a.answer none.1)

  path_goes : (path : List ℕ) (driver : Option PathDriver) (asked : Option Asked) (old new : DriversSeen) (found : Option CleanLineView) → slice_get old.lines i ≡ Some found → AsksOne c path driver asked old new
      → GoesAt fresh i (own (turn_of i path driver asked)) found new.lines
  path_goes path None None old new found at same = stays (is_single_run text) found old.lines new.lines at (ap (λ (x : DriversSeen). slice_get x.lines i) same)
  path_goes path (Some d) None old new found at same = stays (is_single_run text) found old.lines new.lines at (ap (λ (x : DriversSeen). slice_get x.lines i) same)
  path_goes path None (Some a) old new found at never = absurd never
  path_goes path (Some d) (Some a) old new found at asks = asked_goes path d a old new found at (is_single_run (text_at c.drivers d.place)) refl asks

  paths_go : (ps : List CheckinPath) (os : List Outcome) (repo repo' : RepoSeen) (work work' : WorkSeen) (found : Option CleanLineView) → slice_get work.drivers.lines i ≡ Some found → AreInTurn c ps os repo repo' work work'
      → GoesAt fresh i (own (turns_of i ps os)) found work'.drivers.lines
  paths_go [] os repo repo' work work' found at (back, same) = stays (is_single_run text) found work.drivers.lines work'.drivers.lines at (ap (λ (w : WorkSeen). slice_get w.drivers.lines i) same)
  paths_go (p ∷ ps) [] repo repo' work work' found at (back, same) = stays (is_single_run text) found work.drivers.lines work'.drivers.lines at (ap (λ (w : WorkSeen). slice_get w.drivers.lines i) same)
  paths_go (p ∷ ps) (o ∷ os) repo repo' work work' found at (mid, mid_work, looked, rest) =
      let one = path_goes p.path (driver_of p.way) o.asked work.drivers mid_work.drivers found at looked.asks in
      let more = paths_go ps os mid repo' mid_work work' one.last one.at rest in
      let a = turn_of i p.path (driver_of p.way) o.asked in
      let b = turns_of i ps os in record {
        last = more.last;
        at = more.at;
        over = subst (λ (ts : List Turn). GoOver fresh found ts more.last) (sym (over_both (is_single_run text) a b)) (both_over fresh found (own a) (own b) one.last more.last one.over more.over);
      }

-- the lines are as many, and no starter is given back before the end
record IsHeld (old new : DriversSeen) : Type 0 where
  places : length new.lines ≡ length old.lines
  returned : new.spawner.returned ≡ old.spawner.returned

held_line : (starts : List ℕ → Starts) (command : List ℕ) (found : Option CleanLineView) (old new : SpawnerSeen) (line : CleanLineView) → HasLine starts command found old new line → new.returned ≡ old.returned
held_line starts command None old new line has = ap (λ (s : SpawnerSeen). s.returned) has.0
held_line starts command (Some l) old new line has = ap (λ (s : SpawnerSeen). s.returned) has.0

module _ (c : Cleaning) where
  held_by : (single : Bool) (place : ℕ) (command path content : List ℕ) (old new : DriversSeen) (answer : Result (List ℕ) CleanFault) → AsksBy single c.starts c.runs place command path content old new answer → IsHeld old new
  held_by true place command path content old new answer asks = record { places = ap (λ (x : DriversSeen). length x.lines) asks.1; returned = ap (λ (x : DriversSeen). x.spawner.returned) asks.1 }
  held_by false place command path content old new answer (inl talks) = record {
    places = ap (λ (l : Lines). length l) talks.lines ∙ set_length old.lines place (Some talks.last);
    returned = held_line c.starts command talks.found old.spawner new.spawner talks.line talks.has;
  }
  held_by false place command path content old new answer (inr none) = record { places = ap (λ (x : DriversSeen). length x.lines) none.2; returned = ap (λ (x : DriversSeen). x.spawner.returned) none.2 }

  held_one : (path : List ℕ) (driver : Option PathDriver) (asked : Option Asked) (old new : DriversSeen) → AsksOne c path driver asked old new → IsHeld old new
  held_one path None None old new same = record { places = ap (λ (x : DriversSeen). length x.lines) same; returned = ap (λ (x : DriversSeen). x.spawner.returned) same }
  held_one path (Some d) None old new same = record { places = ap (λ (x : DriversSeen). length x.lines) same; returned = ap (λ (x : DriversSeen). x.spawner.returned) same }
  held_one path None (Some a) old new never = absurd never
  held_one path (Some d) (Some a) old new asks = held_by (is_single_run (text_at c.drivers d.place)) d.place (text_at c.drivers d.place) path a.bytes old new (as_answer a.answer) asks

  held_all : (ps : List CheckinPath) (os : List Outcome) (repo repo' : RepoSeen) (work work' : WorkSeen) → AreInTurn c ps os repo repo' work work' → IsHeld work.drivers work'.drivers
  held_all [] os repo repo' work work' (back, same) = record { places = ap (λ (w : WorkSeen). length w.drivers.lines) same; returned = ap (λ (w : WorkSeen). w.drivers.spawner.returned) same }
  held_all (p ∷ ps) [] repo repo' work work' (back, same) = record { places = ap (λ (w : WorkSeen). length w.drivers.lines) same; returned = ap (λ (w : WorkSeen). w.drivers.spawner.returned) same }
  held_all (p ∷ ps) (o ∷ os) repo repo' work work' (mid, mid_work, looked, rest) =
      let one = held_one p.path (driver_of p.way) o.asked work.drivers mid_work.drivers looked.asks in
      let more = held_all ps os mid repo' mid_work work' rest in
      record { places = more.places ∙ one.places; returned = more.returned ∙ one.returned }

-- what was given back, of which this holds
record AreBack (Holds : List (List ℕ × List Had) → Type 0) (old new : SpawnerSeen) : Type 0 where
  backs : List (List ℕ × List Had)
  returned : new.returned ≡ old.returned ++ backs
  holds : Holds backs

-- the line of one driver was closed
module _ (law : TurnsAreTalks) (starts : List ℕ → Starts) (text : List ℕ) (Rest : List (List ℕ × List Had) → Type 0) (old mid new : SpawnerSeen) (rest : AreBack Rest mid new) where
  no_starter : mid ≡ old → new.returned ≡ old.returned ++ rest.backs
  no_starter same = rest.returned ∙ ap (λ (s : SpawnerSeen). s.returned ++ rest.backs) same

  closed_talk : (single : Bool) (ts : List Turn) (line : Option CleanLineView) → GoOver (new_line starts text) None (over_line single ts) line → GivesLine line old mid → AreBack (λ backs. GivesTalk single text ts backs Rest) old new
  closed_talk true ts line is gives = record { backs = rest.backs; returned = no_starter (subst (λ (l : Option CleanLineView). GivesLine l old mid) is gives); holds = rest.holds }
  closed_talk false [] line is gives = record { backs = rest.backs; returned = no_starter (subst (λ (l : Option CleanLineView). GivesLine l old mid) is gives); holds = rest.holds }
  closed_talk false (t ∷ ts) line (last, is, all) gives =
      let given : GivesLine (Some last) old mid = subst (λ (l : Option CleanLineView). GivesLine l old mid) is gives in
      let starter = given.0 in
      let talk = law (t ∷ ts) (new_starter text (starts text)) starter last all given.1 in record {
        backs = starter_back starter ∷ rest.backs;
        returned = rest.returned ∙ ap (λ (s : SpawnerSeen). s.returned ++ rest.backs) given.3 ∙ append_assoc old.returned (starter_back starter ∷ []) rest.backs;
        holds = (talk.1, subst (λ (l : List Had). IsCleanTalk l (t ∷ ts)) (sym talk.0.had) talk.0.talk, rest.holds);
      }

-- the lines of all drivers from a place on were closed
abbrev GoAll : (List ℕ → Starts) → List CheckinPath → List Outcome → ℕ → List Driver → Lines → Type 0
GoAll starts ps os place ds lines = (j : ℕ) (d : Driver) → slice_get ds j ≡ Some d
    → GoesAt (new_line starts (text_in (Some d))) j (over_line (is_single_run (text_in (Some d))) (turns_of (place + j) ps os)) None lines

next_place : (place j : ℕ) → place + suc j ≡ place + 1 + j
next_place place j = omega arith

from_start : (j : ℕ) → j ≡ 0 + j
from_start j = omega arith

same_place : (place : ℕ) → place + 0 ≡ place
same_place place = omega arith

closed_talks : TurnsAreTalks → (starts : List ℕ → Starts) (ps : List CheckinPath) (os : List Outcome) (place : ℕ) (ds : List Driver) (lines : Lines) (old new : SpawnerSeen) → length lines ≡ length ds → GoAll starts ps os place ds lines
    → GivesBack lines old new → AreBack (λ backs. GiveTalks ps os place ds backs) old new
closed_talks law starts ps os place [] [] old new many go back = record { backs = []; returned = ap (λ (s : SpawnerSeen). s.returned) back ∙ sym (append-nil old.returned); holds = refl }
closed_talks law starts ps os place [] (line ∷ lines) old new many go back = absurd (omega (arith, many))
closed_talks law starts ps os place (d ∷ ds) [] old new many go back = absurd (omega (arith, many))
closed_talks law starts ps os place (d ∷ ds) (line ∷ lines) old new many go (mid, gives, back) =
    let text = text_in (Some d) in
    let first = go 0 d refl in
    let over : GoOver (new_line starts text) None (over_line (is_single_run text) (turns_of (place + 0) ps os)) line =
    subst (λ (l : Option CleanLineView). GoOver (new_line starts text) None (over_line (is_single_run text) (turns_of (place + 0) ps os)) l) (sym (found_is line first.last first.at)) first.over in
    let rest = closed_talks law starts ps os (place + 1) ds lines mid new (omega (arith, many))
    (λ (j : ℕ) (e : Driver) at.
    let there = go (suc j) e at in record {
      last = there.last;
      at = there.at;
      over = subst (λ (n : ℕ). GoOver (new_line starts (text_in (Some e))) None (over_line (is_single_run (text_in (Some e))) (turns_of n ps os)) there.last) (next_place place j) there.over;
    })
    back in
    closed_talk law starts text (λ backs. GiveTalks ps os (place + 1) ds backs) old mid new rest (is_single_run text) (turns_of place ps os) line
    (subst (λ (n : ℕ). GoOver (new_line starts text) None (over_line (is_single_run text) (turns_of n ps os)) line) (same_place place) over) gives

none_at : (ds : List Driver) (j : ℕ) (d : Driver) → slice_get ds j ≡ Some d → slice_get (replicate {A = Option CleanLineView} (length ds) None) j ≡ Some None
none_at [] j d at = absurd (cc at)
none_at (e ∷ ds) zero d at = refl
none_at (e ∷ ds) (suc j) d at = none_at ds j d at

none_before : (n : ℕ) → length (replicate {A = Option CleanLineView} n None) ≡ n
none_before zero = refl
none_before (suc n) = ap suc (none_before n)

-- paths were looked at, and the starters given back
pub have_talks : TurnsAreTalks → (c : Cleaning) (ps : List CheckinPath) (os : List Outcome) (repo repo' : RepoSeen) (files files' : FilesSeen) (spawner spawner' : SpawnerSeen) (runs runs' : ℕ) (last : WorkSeen)
    → AreLookedAt c ps os repo repo' (first_work c.drivers files spawner runs) last → IsLeft last files' spawner' runs' → HaveTalks c.drivers ps os spawner spawner'
have_talks law c ps os repo repo' files files' spawner spawner' runs runs' last looked left =
    let turns = looked.turns in
    let held = held_all c ps os repo repo' (first_work c.drivers files spawner runs) last turns in
    let all = closed_talks law c.starts ps os 0 c.drivers last.drivers.lines last.drivers.spawner spawner' (held.places ∙ none_before (length c.drivers))
    (λ (j : ℕ) (d : Driver) at.
    subst (λ (n : ℕ). GoesAt (new_line c.starts (text_in (Some d))) j (over_line (is_single_run (text_in (Some d))) (turns_of n ps os)) None last.drivers.lines) (from_start j)
    (subst (λ (text : List ℕ). GoesAt (new_line c.starts text) j (over_line (is_single_run text) (turns_of j ps os)) None last.drivers.lines) (ap (λ (e : Option Driver). text_in e) at)
    (paths_go c j ps os repo repo' (first_work c.drivers files spawner runs) last None (none_at c.drivers j d at) turns)))
    left.back in
    record { backs = all.backs; returned = all.returned ∙ ap (λ (l : List (List ℕ × List Had)). l ++ all.backs) held.returned; talks = all.holds }
