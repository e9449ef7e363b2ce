-- Two checkouts over spawners of the same single runs hear the same.
use Rattle.std.proofs.Common.{◌≡◌, ◌⊎◌, inl, inr, ℕ, Bool, true, false, if◌then◌else◌, List, drop, length, Option, Some, None, refl, sym, ap, ◌∙◌, subst}
use Rattle.std.specs.Prelude.{slice_get, nat_lt}
use Rattle.std.proofs.lemmas.Bool.{ltb-true, ltb-false}
use Rattle.filter_words.specs.Outcomes.{limit}
use Rattle.filter_words.specs.Requests.{first_text}
use Rattle.filter_words.specs.declared.reply.BreakCause.TheVariants as broken
use Rattle.edge_kit.specs.Links.{RunTold}
use Rattle.edge_kit.specs.Starters.{Starts}
use Rattle.delay_table.specs.Table.{contains}
use Rattle.checkout_core.specs.Fates.{Fate, Known}
use Rattle.checkout_core.specs.declared.path.Heard.TheVariants as heard
use Rattle.checkout_core.specs.declared.verdict.FilterCause.TheVariants as refusal
use Rattle.driver_host.specs.declared.work.Choice.{Choice}
use Rattle.driver_host.specs.declared.work.Choice.TheVariants as choice
use Rattle.driver_line.specs.SameHeard.{fate_in, content_of}
use Rattle.checkout_engine.specs.Alike.{TalksDecide, TalksHaveMemory, AreSameTalks, HearAlike, AreListed}
use Rattle.checkout_engine.specs.PlannedPaths.{PlannedPathsAreSized}
use Rattle.checkout_paths.specs.Talks.{DriverTalk}
use Rattle.one_shot.specs.Commands.{once_command}
use Rattle.one_shot.specs.Onces.{OnceTold, RunsListed, told_of}
use Rattle.one_shot.specs.Works.{choice_told}
use Rattle.one_shot.specs.Starters.{is_single_run, single_starts}
use Rattle.one_shot.specs.Spawners.{commands_tell}
use Rattle.host_laws.specs.KeptTalks.{KeptHeard, KeptHadMemory}
use Rattle.host_laws.specs.OnceTalks.{IsHeardOf, HearsChoice, once_request}
use Rattle.host_laws.specs.SingleRuns.{run_at, AreHeard}
use Rattle.host_laws.specs.RunsAlike.{RunsChangeNothing}
use Rattle.host_laws.proofs.Runs.{heard_in_checkout, wants_in_checkout}

-- by one choice two paths hear the same
same_choice : (o : Option Choice) (f g : Fate) (x y : Option (List ℕ)) → HearsChoice o f x → HearsChoice o g y
    → (f ≡ g) × (f ≡ Known heard.Got → x ≡ y)
same_choice (Some (choice.Give output)) f g x y a b = (a.0 ∙ sym b.0, λ got. a.1 ∙ sym b.1)
same_choice (Some choice.Refuse) f g x y a b =
    (a ∙ sym b, λ got. let no : Known heard.Got ≡ Known (heard.Refused refusal.Error) = sym got ∙ a in absurd (cc no))
same_choice (Some choice.Later) f g x y a b = absurd a
same_choice (Some choice.Stop) f g x y a b = absurd a
same_choice None f g x y a b = absurd a

-- so they do by one run and one request
same_run : (run : OnceTold) (request : List ℕ) (f g : Fate) (x y : Option (List ℕ)) → IsHeardOf run request f x → IsHeardOf run request g y
    → (f ≡ g) × (f ≡ Known heard.Got → x ≡ y)
same_run run request f g x y a b = by (nat_lt limit (length request)) refl
  where
    by : (long : Bool) → nat_lt limit (length request) ≡ long → (f ≡ g) × (f ≡ Known heard.Got → x ≡ y)
    by true e =
        let over = ltb-true limit (length request) e in
        (a.over over ∙ sym (b.over over), λ got. let no : Known heard.Got ≡ Known (heard.Refused (refusal.Broken broken.Ended)) = sym got ∙ a.over over in absurd (cc no))
    by false e =
        let fits = ltb-false limit (length request) e in
        same_choice (choice_told run) f g x y (a.fits fits) (b.fits fits)

-- the run and the request of a path are the same in two talks

pub run_is : (runs : List RunTold) (a b p q i j : List ℕ) → b ≡ a → p ≡ q → i ≡ j
    → told_of (RunsListed runs) (once_command (drop 1 b) q) j ≡ told_of (RunsListed runs) (once_command (drop 1 a) p) i
run_is runs a b p q i j same path content =
    ap (λ (z : List ℕ). told_of (RunsListed runs) (once_command (drop 1 z) q) j) same
    ∙ (ap (λ (z : List ℕ). told_of (RunsListed runs) (once_command (drop 1 a) z) j) (sym path)
    ∙ ap (λ (z : List ℕ). told_of (RunsListed runs) (once_command (drop 1 a) p) z) (sym content))

pub request_is : (p q m n i j : List ℕ) → p ≡ q → m ≡ n → i ≡ j → first_text q n false j ≡ first_text p m false i
request_is p q m n i j path name content =
    ap (λ (z : List ℕ). first_text z n false j) (sym path)
    ∙ (ap (λ (z : List ℕ). first_text p z false j) (sym name)
    ∙ ap (λ (z : List ℕ). first_text p m false z) (sym content))

hear_alike : (runs : List RunTold) (d : ℕ) (t u : DriverTalk) → AreSameTalks t u → AreHeard runs d t → AreHeard runs d u → HearAlike d t u
hear_alike runs d t u same first second n is =
    let paths = same.paths n is in
    let there : contains n u.asked ≡ true = ap (λ (z : List ℕ). contains n z) same.asked ∙ is in
    let run : run_at runs u n ≡ run_at runs t n =
    run_is runs t.command u.command (t.paths.text n) (u.paths.text n) (t.paths.content n) (u.paths.content n) same.command paths.0 paths.2 in
    let request : once_request u.paths n ≡ once_request t.paths n =
    request_is (t.paths.text n) (u.paths.text n) (t.paths.name n) (u.paths.name n) (t.paths.content n) (u.paths.content n) paths.0 paths.1 paths.2 in
    same_run (run_at runs t n) (once_request t.paths n) (fate_in d n t.exchanges) (fate_in d n u.exchanges) (content_of n t.exchanges) (content_of n u.exchanges)
    (first n is)
    (subst (λ (z : List ℕ). IsHeardOf (run_at runs t n) z (fate_in d n u.exchanges) (content_of n u.exchanges)) request
    (subst (λ (z : OnceTold). IsHeardOf z (once_request u.paths n) (fate_in d n u.exchanges) (content_of n u.exchanges)) run (second n there)))

below_told : (below : List ℕ → Starts) (runs : List RunTold) (command : List ℕ) → is_single_run command ≡ false
    → commands_tell below true (RunsListed runs) command ≡ below command
below_told below runs command is = ap (λ (b : Bool). if b then single_starts true (RunsListed runs) command else below command) is

pub runs_alike : KeptHeard → KeptHadMemory → PlannedPathsAreSized → TalksDecide → TalksHaveMemory → RunsChangeNothing
runs_alike law had sized decide talks told told' below runs a b old new before after all hold c e served served' u w =
    decide told told' (commands_tell below true (RunsListed runs)) a b old new before after all.repo hold c e u w say
  where
    by : (d : ℕ) (t v : DriverTalk) → slice_get c.talks d ≡ Some t → slice_get e.talks d ≡ Some v → AreSameTalks t v → (single : Bool) → is_single_run t.command ≡ single
        → AreListed (commands_tell below true (RunsListed runs) t.command) ⊎ HearAlike d t v
    by d t v here there same false is =
        let listed = all.starts t.command is in inl (listed.0, below_told below runs t.command is ∙ listed.1)
    by d t v here there same true is =
        let other : is_single_run v.command ≡ true = ap is_single_run same.command ∙ is in
        inr (hear_alike runs d t v same
        (heard_in_checkout law sized told below runs a old new c served d t here is (wants_in_checkout had talks sized told below runs a old new c served d t here is (inl u.memory)))
        (heard_in_checkout law sized told' below runs b before after e served' d v there other (wants_in_checkout had talks sized told' below runs b before after e served' d v there other (inl w.memory))))

    say : (d : ℕ) (t v : DriverTalk) → slice_get c.talks d ≡ Some t → slice_get e.talks d ≡ Some v → AreSameTalks t v
        → AreListed (commands_tell below true (RunsListed runs) t.command) ⊎ HearAlike d t v
    say d t v here there same = by d t v here there same (is_single_run t.command) refl
