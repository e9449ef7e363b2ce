-- The notes of a whole transcript are a talk that is over.
use Rattle.std.proofs.Common.{◌≡◌, ◌==◌, ℕ, Bool, true, false, cond, List, [], ◌∷◌, ◌++◌, Option, Some, None, refl, sym}
use Rattle.std.proofs.Common.{ap, ◌∙◌, append_assoc}
use Rattle.std.specs.Prelude.{◌&&◌, not, map, length}
use Rattle.std.proofs.lemmas.Bool.{and_parts, and_from}
use Rattle.std.proofs.lemmas.List.{append-nil}
use Rattle.filter_words.specs.declared.reply.Reply.{Reply}
use Rattle.filter_words.specs.declared.reply.Reply.TheVariants as reply
use Rattle.filter_words.specs.declared.reply.ListReply.{ListReply}
use Rattle.filter_words.specs.declared.reply.ListReply.TheVariants as list
use Rattle.delay_table.specs.Table.{contains, without}
use Rattle.checkout_core.specs.declared.event.Event.{Event}
use Rattle.checkout_core.specs.declared.event.Event.TheVariants as ev
use Rattle.checkout_core.specs.Conditions.{is_good_opening, is_good_reply, is_delay}
use Rattle.checkout_core.specs.Talks.{Round, Talk, Between, Refusing, InRound, Ended, talk_step, talk_run, IsOver}
use Rattle.checkout_core.specs.Talks.{opened, answered, redone, is_empty}
use Rattle.checkout_core.specs.Transcripts.{NotedExchange, First, Listing, Second, End, Shut, NothingLeft, Aborted, Broke}
use Rattle.checkout_core.specs.Transcripts.{OutOfMemory, Item, NoSession, Session, reply_end, list_reply_end, GoesOn}
use Rattle.checkout_core.specs.Transcripts.{IsList, are_late, minus, Rounds, may_reply, late_after, Asks, IsSession}
use Rattle.checkout_core.specs.Transcripts.{Then, IsTalk, exchanges_notes, end_notes, notes_of}
use Rattle.checkout_core.proofs.Basics.{eqb_self}
use Rattle.core_laws.proofs.TalkNotes.{run_step}

-- where a talk stands, as a transcript sees it
pub data Phase : Type 0 where
  Before : (paths : List ℕ) → Phase
  Refuses : Phase
  Asking : (delay : Bool) → (rest late : List ℕ) → Phase
  Again : (delay : Bool) → (late turns : List ℕ) → Phase
  Noting : (delay : Bool) → (late turns : List ℕ) → Phase
  Over : Phase

abbrev pub round : Bool → Bool → Bool → List ℕ → List ℕ → List ℕ → Round
round delay some noting rest late turns = record {
  delay = delay;
  any_delayed = some;
  noting_list = noting;
  rest =
      rest;
  late = late;
  turns = turns;
}

abbrev pub talk_of : Phase → Talk
talk_of (Before paths) = Between paths
talk_of Refuses = Refusing
talk_of (Asking delay rest late) = InRound (round delay (not (is_empty late)) false rest late [])
talk_of (Again delay late turns) = InRound (round delay true false [] late turns)
talk_of (Noting delay late turns) = InRound (round delay true true [] late turns)
talk_of Over = Ended

-- the talk after a session
abbrev pub stands : End → List ℕ → Talk
stands Shut left = Ended
stands NothingLeft left = Ended
stands Aborted left = Ended
stands (Broke why) left = Between left
stands OutOfMemory left = Between left

-- the notes of a session's exchanges from here on, and those after them
abbrev pub said : ℕ → List NotedExchange → End → List Event → List Event
said d es end more = exchanges_notes d es ++ (end_notes d end ++ more)

-- after the last exchange
last : (d : ℕ) (es : List NotedExchange) (end made : End) (left : List ℕ) (more : List Event) (t : Talk) → es ≡ []
    → end ≡ made
    → talk_run d t (end_notes d made ++ more) ≡ talk_run d (stands made left) more
    → talk_run d t (said d es end more) ≡ talk_run d (stands end left) more
last d es end made left more t none is h =
    ap (λ (xs : List NotedExchange). talk_run d t (said d xs end more)) none
    ∙ (ap (λ (e : End). talk_run d t (end_notes d e ++ more)) is
    ∙ (h ∙ ap (λ (e : End). talk_run d (stands e left) more) (sym is)))

guarded : (b : Bool) (t : Talk) → b ≡ true → cond b (Some t) None ≡ Some t
guarded b t h = ap (λ (x : Bool). cond x (Some t) None) h

-- the note is of this driver
of_driver : (d : ℕ) (o : Option Talk) (t : Talk) → o ≡ Some t → cond (d == d) o None ≡ Some t
of_driver d o t h = ap (λ (x : Bool). cond x o None) (eqb_self d) ∙ h

same_path : (q p : ℕ) → q ≡ p → (q == p) ≡ true
same_path q p h = ap (λ (z : ℕ). z == p) h ∙ eqb_self p

-- names that are noted one by one
names_run : (d : ℕ) (delay : Bool) (late turns names : List ℕ) (more : List Event) → are_late names late ≡ true
    → talk_run d (talk_of (Noting delay late turns)) (map ev.Named names ++ more) ≡ talk_run d
    (talk_of (Noting delay (minus names late) (turns ++ names))) more
names_run d delay late turns [] more h = ap (λ (ts : List ℕ). talk_run d (talk_of (Noting delay late ts)) more)
    (sym (append-nil turns))
names_run d delay late turns (q ∷ names) more h =
    let k = and_parts (contains q late) (are_late names (without q late)) h in
    run_step d (talk_of (Noting delay late turns)) (talk_of (Noting delay (without q late) (turns ++ q ∷ [])))
    (ev.Named q) (map ev.Named names ++ more)
    (guarded (contains q late && true) (talk_of (Noting delay (without q late) (turns ++ q ∷ [])))
    (and_from (contains q late) true k.0 refl))
    ∙ (names_run d delay (without q late) (turns ++ q ∷ []) names more k.1
    ∙ ap (λ (ts : List ℕ). talk_run d (talk_of (Noting delay (minus names (without q late)) ts)) more)
    (append_assoc turns (q ∷ []) names))

-- the notes of a list, and those after it
pub list_said : (ns : List Event) (l : Event) (en more : List Event)
    → ((ns ++ l ∷ []) ++ en) ++ more ≡ ns ++ (l ∷ (en ++ more))
list_said [] l en more = refl
list_said (n ∷ ns) l en more = ap (λ (z : List Event). n ∷ z) (list_said ns l en more)

-- a list with names
list_run : (d : ℕ) (delay : Bool) (late names : List ℕ) (n : ℕ) (more : List Event) → IsList late names (list.Names n)
    → talk_run d (talk_of (Again delay late [])) (map ev.Named names ++ (ev.Listed d (list.Names n) ∷ more)) ≡
    talk_run d (talk_of (Again delay (minus names late) names)) more
list_run d delay late [] n more h = absurd (cc (h.0))
list_run d delay late (q ∷ names) n more h =
    let k = and_parts (contains q late) (are_late names (without q late)) h.2 in
    run_step d (talk_of (Again delay late [])) (talk_of (Noting delay (without q late) (q ∷ []))) (ev.Named q)
    (map ev.Named names ++ (ev.Listed d (list.Names n) ∷ more))
    (guarded (contains q late && true) (talk_of (Noting delay (without q late) (q ∷ [])))
    (and_from (contains q late) true k.0 refl))
    ∙ (names_run d delay (without q late) (q ∷ []) names (ev.Listed d (list.Names n) ∷ more) k.1
    ∙ run_step d (talk_of (Noting delay (minus names (without q late)) (q ∷ names)))
    (talk_of (Again delay (minus names (without q late)) (q ∷ names))) (ev.Listed d (list.Names n)) more
    (of_driver d (cond (n == length (q ∷ names)) (Some (talk_of
    (Again delay (minus names (without q late)) (q ∷ names)))) None)
    (talk_of (Again delay (minus names (without q late)) (q ∷ names)))
    (guarded (n == length (q ∷ names)) (talk_of (Again delay (minus names (without q late)) (q ∷ names)))
    (same_path n (length (q ∷ names)) h.1))))

-- a list that is the last, after which the talk stands at u
last_list : (d : ℕ) (delay : Bool) (late names : List ℕ) (y : ListReply) (u : Talk) (es : List NotedExchange)
    (end made : End) (more : List Event)
    → names ≡ [] → talk_step d (talk_of (Again delay late [])) (ev.Listed d y) ≡ Some u → end ≡ made → es ≡ []
    → talk_run d u (end_notes d made ++ more) ≡ talk_run d (stands made []) more
    → talk_run d (talk_of (Again delay late [])) (said d (Listing names y ∷ es) end more) ≡ talk_run d
    (stands end []) more
last_list d delay late names y u es end made more none step is over h =
    ap (λ (ns : List ℕ). talk_run d (talk_of (Again delay late [])) (said d (Listing ns y ∷ es) end more)) none
    ∙ (run_step d (talk_of (Again delay late [])) u (ev.Listed d y) (said d es end more) step
    ∙ last d es end made [] more u over is h)

second_goes : (d : ℕ) (delay : Bool) (late turns : List ℕ) (y : Reply) (es : List NotedExchange) (end : End)
    (more : List Event)
    → GoesOn (reply_end y) end (es ≡ []) (Rounds late turns es end)
    → (Rounds late turns es end → talk_run d (talk_of (Again delay late turns)) (said d es end more) ≡ talk_run d
    (stands end []) more)
    → is_delay y ≡ false
    → talk_run d (redone (round delay true false [] late turns) turns y) (said d es end more) ≡ talk_run d
    (stands end []) more
second_goes d delay late turns reply.Content es end more g ih no_delay = ih g
second_goes d delay late turns reply.Error es end more g ih no_delay = ih g
second_goes d delay late turns reply.ErrorAfter es end more g ih no_delay = ih g
second_goes d delay late turns reply.Delayed es end more g ih no_delay = absurd (cc (no_delay))
second_goes d delay late turns reply.Abort es end more g ih no_delay = last d es end Aborted [] more Ended g.1 g.0 refl
second_goes d delay late turns (reply.Broken why) es end more g ih no_delay =
    last d es end (Broke why) [] more (Between []) g.1 g.0 refl
second_goes d delay late turns reply.NoMemory es end more g ih no_delay =
    last d es end OutOfMemory [] more (Between []) g.1 g.0 refl

second_step : (d : ℕ) (delay : Bool) (late turns : List ℕ) (p q : ℕ) (y : Reply) → q ≡ p → is_delay y ≡ false
    → is_good_reply y ≡ true
    → talk_step d (talk_of (Again delay late (p ∷ turns))) (ev.Redone q y) ≡ Some
    (redone (round delay true false [] late (p ∷ turns)) turns y)
second_step d delay late turns p q y same no_delay good =
    guarded (q == p && (not (is_delay y) && is_good_reply y))
    (redone (round delay true false [] late (p ∷ turns)) turns y)
    (and_from (q == p) (not (is_delay y) && is_good_reply y) (same_path q p same)
    (and_from (not (is_delay y)) (is_good_reply y) (ap not no_delay) good))

list_goes : (d : ℕ) (delay : Bool) (late names : List ℕ) (y : ListReply) (es : List NotedExchange) (end : End)
    (more : List Event)
    → IsList late names y → GoesOn (list_reply_end y) end (es ≡ []) (Rounds (minus names late) names es end)
    → (Rounds (minus names late) names es end → talk_run d (talk_of (Again delay (minus names late) names))
    (said d es end more) ≡ talk_run d (stands end []) more)
    → talk_run d (talk_of (Again delay late [])) (said d (Listing names y ∷ es) end more) ≡ talk_run d
    (stands end []) more
list_goes d delay late names (list.Names n) es end more is g ih =
    ap (talk_run d (talk_of (Again delay late []))) (list_said (map ev.Named names) (ev.Listed d (list.Names n))
    (exchanges_notes d es) (end_notes d end ++ more))
    ∙ (list_run d delay late names n (said d es end more) is ∙ ih g)
list_goes d delay late names list.Empty es end more is g ih =
    last_list d delay late names list.Empty Ended es end NothingLeft more is
    (of_driver d (Some Ended) Ended refl) g.0 g.1 refl
list_goes d delay late names list.Abort es end more is g ih =
    last_list d delay late names list.Abort Ended es end Aborted more is
    (of_driver d (Some Ended) Ended refl) g.0 g.1 refl
list_goes d delay late names (list.Broken why) es end more is g ih =
    last_list d delay late names (list.Broken why) (Between []) es end (Broke why) more is
    (of_driver d (Some (Between [])) (Between []) refl) g.0 g.1 refl
list_goes d delay late names list.NoMemory es end more is g ih =
    last_list d delay late names list.NoMemory (Between []) es end OutOfMemory more is
    (of_driver d (Some (Between [])) (Between []) refl) g.0 g.1 refl

rounds_run : (d : ℕ) (delay : Bool) (late turns : List ℕ) (es : List NotedExchange) (end : End) (more : List Event)
    → Rounds late turns es end
    → talk_run d (talk_of (Again delay late turns)) (said d es end more) ≡ talk_run d (stands end []) more
rounds_run d delay late [] [] end more h = absurd h
rounds_run d delay late (p ∷ turns) [] end more h = absurd h
rounds_run d delay late [] (First q y ∷ es) end more h = absurd h
rounds_run d delay late [] (Second q y ∷ es) end more h = absurd h
rounds_run d delay late (p ∷ turns) (First q y ∷ es) end more h = absurd h
rounds_run d delay late (p ∷ turns) (Listing names y ∷ es) end more h = absurd h
rounds_run d delay late [] (Listing names y ∷ es) end more h =
    list_goes d delay late names y es end more h.0 h.1 (λ g. rounds_run d delay (minus names late) names es end more g)
rounds_run d delay late (p ∷ turns) (Second q y ∷ es) end more h =
    run_step d (talk_of (Again delay late (p ∷ turns))) (redone
    (round delay true false [] late (p ∷ turns)) turns y) (ev.Redone q y) (said d es end more)
    (second_step d delay late turns p q y h.0 h.1 h.2)
    ∙ second_goes d delay late turns y es end more h.3 (λ g. rounds_run d delay late turns es end more g) h.1

first_goes : (d : ℕ) (delay : Bool) (p : ℕ) (rest late : List ℕ) (y : Reply) (es : List NotedExchange) (end : End)
    (left : List ℕ) (more : List Event)
    → GoesOn (reply_end y) end ((es ≡ []) × (left ≡ rest)) (Asks delay rest (late_after y p late) es end left)
    → (Asks delay rest (late_after y p late) es end left → talk_run d
    (talk_of (Asking delay rest (late_after y p late))) (said d es end more) ≡ talk_run d (stands end left) more)
    → talk_run d (answered (round delay (not (is_empty late)) false (p ∷ rest) late []) p rest y)
    (said d es end more) ≡ talk_run d (stands end left) more
first_goes d delay p rest late reply.Content es end left more g ih = ih g
first_goes d delay p rest late reply.Error es end left more g ih = ih g
first_goes d delay p rest late reply.ErrorAfter es end left more g ih = ih g
first_goes d delay p rest late reply.Delayed es end left more g ih = ih g
first_goes d delay p rest late reply.Abort es end left more g ih = last d es end Aborted left more Ended g.1.0 g.0 refl
first_goes d delay p rest late (reply.Broken why) es end left more g ih =
    last d es end (Broke why) left more (Between rest) g.1.0 g.0
    (ap (λ (z : List ℕ). talk_run d (Between z) more) (sym g.1.1))
first_goes d delay p rest late reply.NoMemory es end left more g ih =
    last d es end OutOfMemory left more (Between rest) g.1.0 g.0
    (ap (λ (z : List ℕ). talk_run d (Between z) more) (sym g.1.1))

asks_run : (d : ℕ) (delay : Bool) (rest late : List ℕ) (es : List NotedExchange) (end : End) (left : List ℕ)
    (more : List Event)
    → Asks delay rest late es end left
    → talk_run d (talk_of (Asking delay rest late)) (said d es end more) ≡ talk_run d (stands end left) more
asks_run d delay [] [] es end left more h =
    last d es end Shut left more (talk_of (Asking delay [] [])) h.0 h.1
    (run_step d (talk_of (Asking delay [] [])) Ended (ev.Shut d) more (of_driver d (Some Ended) Ended refl))
asks_run d delay [] (q ∷ late) es end left more h =
    rounds_run d delay (q ∷ late) [] es end more h.0 ∙ ap (λ (z : List ℕ). talk_run d (stands end z) more) (sym h.1)
asks_run d delay (p ∷ rest) late [] end left more h = absurd h
asks_run d delay (p ∷ rest) late (Listing names y ∷ es) end left more h = absurd h
asks_run d delay (p ∷ rest) late (Second q y ∷ es) end left more h = absurd h
asks_run d delay (p ∷ rest) late (First q y ∷ es) end left more h =
    run_step d (talk_of (Asking delay (p ∷ rest) late)) (answered
    (round delay (not (is_empty late)) false (p ∷ rest) late []) p rest y) (ev.Answered q y) (said d es end more)
    (guarded (q == p && may_reply delay y) (answered (round delay (not (is_empty late)) false (p ∷ rest) late []) p
    rest y) (and_from (q == p) (may_reply delay y) (same_path q p h.0) h.1))
    ∙ first_goes d delay p rest late y es end left more h.2 (λ g.
    asks_run d delay rest (late_after y p late) es end left more g)

session_run : (d : ℕ) (smudge delay : Bool) (paths : List ℕ) (es : List NotedExchange) (end : End) (left : List ℕ)
    (more : List Event)
    → IsSession smudge delay paths es end left
    → talk_run d (cond smudge (talk_of (Asking delay paths [])) Refusing) (said d es end more) ≡ talk_run d
    (stands end left) more
session_run d true delay paths es end left more h = asks_run d delay paths [] es end left more h
session_run d false delay paths es end left more h =
    last d es end Shut left more Refusing h.0 h.1 (run_step d Refusing Ended (ev.Shut d) more
    (of_driver d (Some Ended) Ended refl))

abbrev IsWhole : ℕ → Talk → List Event → Type 0
IsWhole d t es = (u : Talk) × (talk_run d t es ≡ Some u) × IsOver u

then_run : (d : ℕ) (end : End) (left : List ℕ) (items : List Item) → Then end (IsTalk left items) (items ≡ [])
    → (IsTalk left items → IsWhole d (Between left) (notes_of d items))
    → IsWhole d (stands end left) (notes_of d items)
then_run d Shut left items h ih = (Ended, ap (λ (is : List Item). talk_run d Ended (notes_of d is)) h, tt)
then_run d NothingLeft left items h ih = (Ended, ap (λ (is : List Item). talk_run d Ended (notes_of d is)) h, tt)
then_run d Aborted left items h ih = (Ended, ap (λ (is : List Item). talk_run d Ended (notes_of d is)) h, tt)
then_run d (Broke why) left items h ih = ih h
then_run d OutOfMemory left items h ih = ih h

pub transcript_runs : (d : ℕ) (paths : List ℕ) (items : List Item) → IsTalk paths items
    → (u : Talk) × (talk_run d (Between paths) (notes_of d items) ≡ Some u) × IsOver u
transcript_runs d [] [] h = (Between [], refl, tt)
transcript_runs d (p ∷ rest) [] h = absurd h
transcript_runs d [] (item ∷ items) h = absurd h
transcript_runs d (p ∷ rest) (NoSession q why ∷ items) h =
    let k = transcript_runs d rest items h.2 in (
      k.0,
      run_step d (Between (p ∷ rest)) (Between rest) (ev.OpenFailed q why) (notes_of d items)
          (guarded (q == p && is_good_opening why) (Between rest)
          (and_from (q == p) (is_good_opening why) (same_path q p h.0) h.1)) ∙ k.1,
      k.2,
    )
transcript_runs d (p ∷ rest) (Session caps es end ∷ items) h =
    let k = then_run d end h.0 items h.2 (λ t. transcript_runs d h.0 items t) in (
      k.0,
      run_step d (Between (p ∷ rest)) (opened caps (p ∷ rest)) (ev.Opened d caps) (said d es end (notes_of d items))
          (of_driver d (Some (opened caps (p ∷ rest))) (opened caps (p ∷ rest)) refl)
          ∙ (session_run d caps.smudge caps.delay (p ∷ rest) es end h.0 (notes_of d items) h.1 ∙ k.1),
      k.2,
    )
