-- A talk that is over is the notes of a whole transcript.
use Rattle.std.proofs.Common.{◌≡◌, ◌==◌, ℕ, Bool, true, false, cond, List, [], ◌∷◌, ◌++◌, Option, Some, None, refl, sym}
use Rattle.std.proofs.Common.{ap, ◌∙◌, subst, append_assoc}
use Rattle.std.specs.Prelude.{◌&&◌, not, map, length}
use Rattle.std.proofs.lemmas.Bool.{and_parts, and_from}
use Rattle.std.proofs.lemmas.List.{append-nil}
use Rattle.filter_words.specs.declared.reply.Caps.{Caps}
use Rattle.filter_words.specs.declared.reply.Reply.{Reply}
use Rattle.filter_words.specs.declared.reply.Reply.TheVariants as reply
use Rattle.filter_words.specs.declared.reply.ListReply.{ListReply}
use Rattle.filter_words.specs.declared.reply.ListReply.TheVariants as list
use Rattle.delay_table.specs.Table.{contains, without}
use Rattle.checkout_core.specs.declared.event.Event.{Event}
use Rattle.checkout_core.specs.declared.event.Event.TheVariants as ev
use Rattle.checkout_core.specs.Conditions.{is_good_opening, is_good_reply, is_delay}
use Rattle.checkout_core.specs.Talks.{Talk, Between, Refusing, InRound, Ended, talk_next, talk_run, is_with, IsOver}
use Rattle.checkout_core.specs.Talks.{opened, answered, redone, is_empty}
use Rattle.checkout_core.specs.Transcripts.{NotedExchange, First, Listing, Second, End, Shut, NothingLeft, Aborted, Broke}
use Rattle.checkout_core.specs.Transcripts.{OutOfMemory, Item, NoSession, Session, are_late, minus, Rounds, may_reply}
use Rattle.checkout_core.specs.Transcripts.{reply_end, GoesOn, late_after}
use Rattle.checkout_core.specs.Transcripts.{Asks, IsSession, Then, IsTalk, exchanges_notes, end_notes, notes_of}
use Rattle.checkout_core.proofs.Basics.{none_is_some, some_is, same_number}
use Rattle.core_laws.proofs.Transcripts.{Phase, Before, Refuses, Asking, Again, Noting, Over, round, talk_of, said}
use Rattle.core_laws.proofs.Transcripts.{list_said}

-- these notes bring the talk from this phase to its end, as a transcript does
abbrev From : ℕ → Phase → List Event → Type 0
From d (Before paths) ns = (items : List Item) × IsTalk paths items × (notes_of d items ≡ ns)
From d Refuses ns = ns ≡ ev.Shut d ∷ []
From d (Asking delay rest late) ns =
    (es : List NotedExchange) × (end : End) × (left : List ℕ) × (items : List Item)
    × Asks delay rest late es end left × Then end (IsTalk left items) (items ≡ [])
    × (said d es end (notes_of d items) ≡ ns)
From d (Again delay late turns) ns =
    (es : List NotedExchange) × (end : End) × (items : List Item)
    × Rounds late turns es end × Then end (IsTalk [] items) (items ≡ []) × (said d es end (notes_of d items) ≡ ns)
From d (Noting delay late turns) ns =
    (names : List ℕ) × (es : List NotedExchange) × (end : End) × (items : List Item)
    × (are_late names late ≡ true) × Rounds (minus names late) (turns ++ names) es end
    × Then end (IsTalk [] items) (items ≡ [])
    × (map ev.Named names ++ (ev.Listed d (list.Names (length (turns ++ names))) ∷ said d es end (notes_of d items))
    ≡ ns)
From d Over ns = ns ≡ []

-- a note more in front
abbrev Back : ℕ → Phase → Event → Talk → Type 0
Back d at e u = (next : Phase) × (talk_of next ≡ u) × ((ns : List Event) → From d next ns → From d at (e ∷ ns))

pub given_talk : (b : Bool) (x u : Talk) → cond b (Some x) None ≡ Some u → (b ≡ true) × (x ≡ u)
given_talk true x u h = (refl, some_is x u h)
given_talk false x u h = none_is_some h

more : (e : Event) (xs ys : List Event) → xs ≡ ys → e ∷ xs ≡ e ∷ ys
more e xs ys h = ap (λ (z : List Event). e ∷ z) h

never : {A : Type 0} (a b : Bool) → (a && (false && b)) ≡ true → A
never a b h = let k = (and_parts a (false && b) h).1 in absurd (cc (k))

never_last : {A : Type 0} (a : Bool) → (a && false) ≡ true → A
never_last a h = let k = (and_parts a false h).1 in absurd (cc (k))

-- an answer that ends no session
second_on : (d : ℕ) (delay : Bool) (late : List ℕ) (p : ℕ) (turns : List ℕ) (q : ℕ) (y : Reply) (u : Talk)
    → q ≡ p → is_delay y ≡ false → is_good_reply y ≡ true → reply_end y ≡ None → talk_of (Again delay late turns) ≡ u
    → Back d (Again delay late (p ∷ turns)) (ev.Redone q y) u
second_on d delay late p turns q y u same no_delay good goes is = (
  Again delay late turns,
  is,
  λ ns f. (
    Second q y ∷ f.0,
    f.1,
    f.2,
    (
      same,
      no_delay,
      good,
      subst (λ (o : Option End). GoesOn o f.1 (f.0 ≡ []) (Rounds late turns f.0 f.1)) (sym goes) f.3,
    ),
    f.4,
    more (ev.Redone q y) _ ns f.5,
  ),
)

first_on : (d : ℕ) (delay : Bool) (p : ℕ) (rest late more_late : List ℕ) (q : ℕ) (y : Reply) (u : Talk) → q ≡ p
    → may_reply delay y ≡ true → reply_end y ≡ None → late_after y p late ≡ more_late
    → talk_of (Asking delay rest more_late) ≡ u → Back d (Asking delay (p ∷ rest) late) (ev.Answered q y) u
first_on d delay p rest late more_late q y u same may goes behind is = (
  Asking delay rest more_late,
  is,
  λ ns f. (
    First q y ∷ f.0,
    f.1,
    f.2,
    f.3,
    (
      same,
      may,
      subst (λ (o : Option End). GoesOn o f.1 ((f.0 ≡ []) × (f.2 ≡ rest))
          (Asks delay rest (late_after y p late) f.0 f.1 f.2))
          (sym goes)
          (subst (λ (l : List ℕ). Asks delay rest l f.0 f.1 f.2) (sym behind) f.4),
    ),
    f.5,
    more (ev.Answered q y) _ ns f.6,
  ),
)

-- a second request
second_back : (d : ℕ) (delay : Bool) (late : List ℕ) (p : ℕ) (turns : List ℕ) (q : ℕ) (y : Reply) (u : Talk)
    → q ≡ p → is_delay y ≡ false → is_good_reply y ≡ true
    → redone (round delay true false [] late (p ∷ turns)) turns y ≡ u
    → Back d (Again delay late (p ∷ turns)) (ev.Redone q y) u
second_back d delay late p turns q reply.Content u same no_delay good is =
    second_on d delay late p turns q reply.Content u same no_delay good refl is
second_back d delay late p turns q reply.Error u same no_delay good is =
    second_on d delay late p turns q reply.Error u same no_delay good refl is
second_back d delay late p turns q reply.ErrorAfter u same no_delay good is =
    second_on d delay late p turns q reply.ErrorAfter u same no_delay good refl is
second_back d delay late p turns q reply.Delayed u same no_delay good is = absurd (cc (no_delay))
second_back d delay late p turns q reply.Abort u same no_delay good is = (
  Over,
  is,
  λ ns f. (
    Second q reply.Abort ∷ [],
    Aborted,
    [],
    (same, refl, refl, (refl, refl)),
    refl,
    more (ev.Redone q reply.Abort) [] ns (sym f),
  ),
)
second_back d delay late p turns q (reply.Broken why) u same no_delay good is = (
  Before [],
  is,
  λ ns f. (
    Second q (reply.Broken why) ∷ [],
    Broke why,
    f.0,
    (same, refl, good, (refl, refl)),
    f.1,
    more (ev.Redone q (reply.Broken why)) _ ns f.2,
  ),
)
second_back d delay late p turns q reply.NoMemory u same no_delay good is = (
  Before [],
  is,
  λ ns f. (
    Second q reply.NoMemory ∷ [],
    OutOfMemory,
    f.0,
    (same, refl, refl, (refl, refl)),
    f.1,
    more (ev.Redone q reply.NoMemory) _ ns f.2,
  ),
)

-- the first name of a list
name_back : (d : ℕ) (delay : Bool) (late : List ℕ) (q : ℕ) (u : Talk) → contains q late ≡ true
    → talk_of (Noting delay (without q late) (q ∷ [])) ≡ u → Back d (Again delay late []) (ev.Named q) u
name_back d delay late q u there is = (
  Noting delay (without q late) (q ∷ []),
  is,
  λ ns f. (
    Listing (q ∷ f.0) (list.Names (length (q ∷ f.0))) ∷ f.1,
    f.2,
    f.3,
    ((refl, refl, and_from (contains q late) (are_late f.0 (without q late)) there f.4), f.5),
    f.6,
    list_said (map ev.Named (q ∷ f.0)) (ev.Listed d (list.Names (length (q ∷ f.0)))) (exchanges_notes d f.1)
        (end_notes d f.2 ++ notes_of d f.3)
        ∙ more (ev.Named q) _ ns f.7,
  ),
)

-- a list that is the last
empty_back : (d : ℕ) (delay : Bool) (late : List ℕ) (y : ListReply) (u : Talk)
    → talk_next (talk_of (Again delay late [])) (ev.Listed d y) ≡ Some u
    → Back d (Again delay late []) (ev.Listed d y) u
empty_back d delay late (list.Names n) u h = none_is_some h
empty_back d delay late list.Empty u h = (
  Over,
  some_is Ended u h,
  λ ns f. (
    Listing [] list.Empty ∷ [],
    NothingLeft,
    [],
    (refl, (refl, refl)),
    refl,
    more (ev.Listed d list.Empty) [] ns (sym f),
  ),
)
empty_back d delay late list.Abort u h = (
  Over,
  some_is Ended u h,
  λ ns f. (
    Listing [] list.Abort ∷ [],
    Aborted,
    [],
    (refl, (refl, refl)),
    refl,
    more (ev.Listed d list.Abort) [] ns (sym f),
  ),
)
empty_back d delay late (list.Broken why) u h = (
  Before [],
  some_is (Between []) u h,
  λ ns f. (
    Listing [] (list.Broken why) ∷ [],
    Broke why,
    f.0,
    (refl, (refl, refl)),
    f.1,
    more (ev.Listed d (list.Broken why)) _ ns f.2,
  ),
)
empty_back d delay late list.NoMemory u h = (
  Before [],
  some_is (Between []) u h,
  λ ns f. (
    Listing [] list.NoMemory ∷ [],
    OutOfMemory,
    f.0,
    (refl, (refl, refl)),
    f.1,
    more (ev.Listed d list.NoMemory) _ ns f.2,
  ),
)

-- while paths are listed that weren't asked again, no list comes
no_list : {A : Type 0} (delay : Bool) (late : List ℕ) (p : ℕ) (turns : List ℕ) (d : ℕ) (y : ListReply) (u : Talk)
    → talk_next (talk_of (Again delay late (p ∷ turns))) (ev.Listed d y) ≡ Some u → A
no_list delay late p turns d (list.Names n) u h = none_is_some h
no_list delay late p turns d list.Empty u h = none_is_some h
no_list delay late p turns d list.Abort u h = none_is_some h
no_list delay late p turns d (list.Broken why) u h = none_is_some h
no_list delay late p turns d list.NoMemory u h = none_is_some h

again_back : (d : ℕ) (delay : Bool) (late turns : List ℕ) (e : Event) (u : Talk) → is_with d e ≡ true
    → talk_next (talk_of (Again delay late turns)) e ≡ Some u
    → Back d (Again delay late turns) e u
again_back d delay late turns (ev.Claim p a) u w h = none_is_some h
again_back d delay late turns (ev.Close p a o) u w h = none_is_some h
again_back d delay late turns (ev.Opened f caps) u w h = none_is_some h
again_back d delay late turns (ev.OpenFailed q why) u w h = none_is_some h
again_back d delay late turns (ev.Answered q y) u w h = none_is_some h
again_back d delay late turns (ev.HandBack q) u w h = none_is_some h
again_back d delay late turns (ev.Shut f) u w h = none_is_some h
again_back d delay late [] (ev.Redone q y) u w h = none_is_some h
again_back d delay late (p ∷ turns) (ev.Redone q y) u w h =
    let g = given_talk (q == p && (not (is_delay y) && is_good_reply y))
    (redone (round delay true false [] late (p ∷ turns)) turns y) u h in
    let one = and_parts (q == p) (not (is_delay y) && is_good_reply y) g.0 in
    let two = and_parts (not (is_delay y)) (is_good_reply y) one.1 in
    second_back d delay late p turns q y u (same_number q p one.0) (not_true (is_delay y) two.0) two.1 g.1
  where
    not_true : (b : Bool) → not b ≡ true → b ≡ false
    not_true true k = absurd (cc (k))
    not_true false k = refl
again_back d delay late [] (ev.Named q) u w h =
    let g = given_talk (contains q late && true) (talk_of (Noting delay (without q late) (q ∷ []))) u h in
    name_back d delay late q u (and_parts (contains q late) true g.0).0 g.1
again_back d delay late (p ∷ turns) (ev.Named q) u w h =
    let g = given_talk (contains q late && false) (talk_of (Noting delay (without q late) ((p ∷ turns) ++ q ∷ [])))
    u h in
    never_last (contains q late) g.0
again_back d delay late [] (ev.Listed f y) u w h =
    subst (λ (z : ℕ). Back d (Again delay late []) (ev.Listed z y) u) (same_number d f w)
    (empty_back d delay late y u h)
again_back d delay late (p ∷ turns) (ev.Listed f y) u w h = no_list delay late p turns f y u h

-- one more name
noting_name : (d : ℕ) (delay : Bool) (late turns : List ℕ) (q : ℕ) (u : Talk) → contains q late ≡ true
    → talk_of (Noting delay (without q late) (turns ++ q ∷ [])) ≡ u → Back d (Noting delay late turns) (ev.Named q) u
noting_name d delay late turns q u there is = (
  Noting delay (without q late) (turns ++ q ∷ []),
  is,
  λ ns f. let same : (turns ++ q ∷ []) ++ f.0 ≡ turns ++ (q ∷ f.0) = append_assoc turns (q ∷ []) f.0 in (
    q ∷ f.0,
    f.1,
    f.2,
    f.3,
    and_from (contains q late) (are_late f.0 (without q late)) there f.4,
    subst (λ (ts : List ℕ). Rounds (minus f.0 (without q late)) ts f.1 f.2) same f.5,
    f.6,
    more (ev.Named q) _ ns (ap (λ (ts : List ℕ). map ev.Named f.0 ++
        (ev.Listed d (list.Names (length ts)) ∷ said d f.1 f.2 (notes_of d f.3))) (sym same) ∙ f.7),
  ),
)

-- the end of the list
noting_end : (d : ℕ) (delay : Bool) (late turns : List ℕ) (n : ℕ) (u : Talk) → n ≡ length turns
    → talk_of (Again delay late turns) ≡ u → Back d (Noting delay late turns) (ev.Listed d (list.Names n)) u
noting_end d delay late turns n u count is = (
  Again delay late turns,
  is,
  λ ns f. let none : turns ≡ turns ++ [] = sym (append-nil turns) in (
    [],
    f.0,
    f.1,
    f.2,
    refl,
    subst (λ (ts : List ℕ). Rounds late ts f.0 f.1) none f.3,
    f.4,
    ap (λ (k : ℕ). ev.Listed d (list.Names k) ∷ said d f.0 f.1 (notes_of d f.2))
        (ap length (append-nil turns) ∙ sym count) ∙ more (ev.Listed d (list.Names n)) _ ns f.5,
  ),
)

noting_list_back : (d : ℕ) (delay : Bool) (late turns : List ℕ) (y : ListReply) (u : Talk)
    → talk_next (talk_of (Noting delay late turns)) (ev.Listed d y) ≡ Some u
    → Back d (Noting delay late turns) (ev.Listed d y) u
noting_list_back d delay late turns (list.Names n) u h =
    let g = given_talk (n == length turns) (talk_of (Again delay late turns)) u h in
    noting_end d delay late turns n u (same_number n (length turns) g.0) g.1
noting_list_back d delay late turns list.Empty u h = none_is_some h
noting_list_back d delay late turns list.Abort u h = none_is_some h
noting_list_back d delay late turns (list.Broken why) u h = none_is_some h
noting_list_back d delay late turns list.NoMemory u h = none_is_some h

noting_back : (d : ℕ) (delay : Bool) (late turns : List ℕ) (e : Event) (u : Talk) → is_with d e ≡ true
    → talk_next (talk_of (Noting delay late turns)) e ≡ Some u
    → Back d (Noting delay late turns) e u
noting_back d delay late turns (ev.Claim p a) u w h = none_is_some h
noting_back d delay late turns (ev.Close p a o) u w h = none_is_some h
noting_back d delay late turns (ev.Opened f caps) u w h = none_is_some h
noting_back d delay late turns (ev.OpenFailed q why) u w h = none_is_some h
noting_back d delay late turns (ev.Answered q y) u w h = none_is_some h
noting_back d delay late turns (ev.HandBack q) u w h = none_is_some h
noting_back d delay late turns (ev.Shut f) u w h = none_is_some h
noting_back d delay late [] (ev.Redone q y) u w h = none_is_some h
noting_back d delay late (p ∷ turns) (ev.Redone q y) u w h = none_is_some h
noting_back d delay late turns (ev.Named q) u w h =
    let g = given_talk (contains q late && true) (talk_of (Noting delay (without q late) (turns ++ q ∷ []))) u h in
    noting_name d delay late turns q u (and_parts (contains q late) true g.0).0 g.1
noting_back d delay late turns (ev.Listed f y) u w h =
    subst (λ (z : ℕ). Back d (Noting delay late turns) (ev.Listed z y) u) (same_number d f w)
    (noting_list_back d delay late turns y u h)

-- a first request
first_back : (d : ℕ) (delay : Bool) (p : ℕ) (rest late : List ℕ) (q : ℕ) (y : Reply) (u : Talk) → q ≡ p
    → may_reply delay y ≡ true
    → answered (round delay (not (is_empty late)) false (p ∷ rest) late []) p rest y ≡ u
    → Back d (Asking delay (p ∷ rest) late) (ev.Answered q y) u
first_back d delay p rest late q reply.Content u same may is =
    first_on d delay p rest late late q reply.Content u same may refl refl is
first_back d delay p rest late q reply.Error u same may is =
    first_on d delay p rest late late q reply.Error u same may refl refl is
first_back d delay p rest late q reply.ErrorAfter u same may is =
    first_on d delay p rest late late q reply.ErrorAfter u same may refl refl is
first_back d delay p rest late q reply.Delayed u same may is =
    first_on d delay p rest late (p ∷ late) q reply.Delayed u same may refl refl is
first_back d delay p rest late q reply.Abort u same may is = (
  Over,
  is,
  λ ns f. (
    First q reply.Abort ∷ [],
    Aborted,
    rest,
    [],
    (same, may, (refl, (refl, refl))),
    refl,
    more (ev.Answered q reply.Abort) [] ns (sym f),
  ),
)
first_back d delay p rest late q (reply.Broken why) u same may is = (
  Before rest,
  is,
  λ ns f. (
    First q (reply.Broken why) ∷ [],
    Broke why,
    rest,
    f.0,
    (same, may, (refl, (refl, refl))),
    f.1,
    more (ev.Answered q (reply.Broken why)) _ ns f.2,
  ),
)
first_back d delay p rest late q reply.NoMemory u same may is = (
  Before rest,
  is,
  λ ns f. (
    First q reply.NoMemory ∷ [],
    OutOfMemory,
    rest,
    f.0,
    (same, may, (refl, (refl, refl))),
    f.1,
    more (ev.Answered q reply.NoMemory) _ ns f.2,
  ),
)

-- before all are asked for, no list comes
early_list : {A : Type 0} (delay : Bool) (p : ℕ) (rest late : List ℕ) (d : ℕ) (y : ListReply) (u : Talk)
    → talk_next (talk_of (Asking delay (p ∷ rest) late)) (ev.Listed d y) ≡ Some u → A
early_list delay p rest late d (list.Names n) u h = none_is_some h
early_list delay p rest late d list.Empty u h = never (not (is_empty late)) true
    (given_talk (not (is_empty late) && (false && true)) Ended u h).0
early_list delay p rest late d list.Abort u h = never (not (is_empty late)) true
    (given_talk (not (is_empty late) && (false && true)) Ended u h).0
early_list delay p rest late d (list.Broken why) u h = never (not (is_empty late)) true
    (given_talk (not (is_empty late) && (false && true)) (Between (p ∷ rest)) u h).0
early_list delay p rest late d list.NoMemory u h = never (not (is_empty late)) true
    (given_talk (not (is_empty late) && (false && true)) (Between (p ∷ rest)) u h).0

asking_back : (d : ℕ) (delay : Bool) (p : ℕ) (rest late : List ℕ) (e : Event) (u : Talk) → is_with d e ≡ true
    → talk_next (talk_of (Asking delay (p ∷ rest) late)) e ≡ Some u
    → Back d (Asking delay (p ∷ rest) late) e u
asking_back d delay p rest late (ev.Claim q a) u w h = none_is_some h
asking_back d delay p rest late (ev.Close q a o) u w h = none_is_some h
asking_back d delay p rest late (ev.Opened f caps) u w h = none_is_some h
asking_back d delay p rest late (ev.OpenFailed q why) u w h = none_is_some h
asking_back d delay p rest late (ev.HandBack q) u w h = none_is_some h
asking_back d delay p rest late (ev.Redone q y) u w h = none_is_some h
asking_back d delay p rest late (ev.Shut f) u w h =
    never_last (not (not (is_empty late))) (given_talk (not (not (is_empty late)) && false) Ended u h).0
asking_back d delay p rest late (ev.Named q) u w h =
    never (not (is_empty late)) (contains q late && true)
    (given_talk (not (is_empty late) && (false && (contains q late && true)))
    (InRound (round delay (not (is_empty late)) true (p ∷ rest) (without q late) (q ∷ []))) u h).0
asking_back d delay p rest late (ev.Listed f y) u w h = early_list delay p rest late f y u h
asking_back d delay p rest late (ev.Answered q y) u w h =
    let g = given_talk (q == p && may_reply delay y) (answered
    (round delay (not (is_empty late)) false (p ∷ rest) late []) p rest y) u h in
    let k = and_parts (q == p) (may_reply delay y) g.0 in
    first_back d delay p rest late q y u (same_number q p k.0) k.1 g.1

-- where nothing was delayed and all are asked for
plain_list : {A : Type 0} (delay : Bool) (d : ℕ) (y : ListReply) (u : Talk)
    → talk_next (talk_of (Asking delay [] [])) (ev.Listed d y) ≡ Some u → A
plain_list delay d (list.Names n) u h = none_is_some h
plain_list delay d list.Empty u h = none_is_some h
plain_list delay d list.Abort u h = none_is_some h
plain_list delay d (list.Broken why) u h = none_is_some h
plain_list delay d list.NoMemory u h = none_is_some h

plain_back : (d : ℕ) (delay : Bool) (e : Event) (u : Talk) → is_with d e ≡ true
    → talk_next (talk_of (Asking delay [] [])) e ≡ Some u → Back d (Asking delay [] []) e u
plain_back d delay (ev.Claim q a) u w h = none_is_some h
plain_back d delay (ev.Close q a o) u w h = none_is_some h
plain_back d delay (ev.Opened f caps) u w h = none_is_some h
plain_back d delay (ev.OpenFailed q why) u w h = none_is_some h
plain_back d delay (ev.HandBack q) u w h = none_is_some h
plain_back d delay (ev.Answered q y) u w h = none_is_some h
plain_back d delay (ev.Redone q y) u w h = none_is_some h
plain_back d delay (ev.Named q) u w h = none_is_some h
plain_back d delay (ev.Listed f y) u w h = plain_list delay f y u h
plain_back d delay (ev.Shut f) u w h = (
  Over,
  some_is Ended u h,
  λ ns f1. (
    [],
    Shut,
    [],
    [],
    (refl, refl, refl),
    refl,
    ap (λ (z : ℕ). ev.Shut z ∷ []) (same_number d f w) ∙ more (ev.Shut f) [] ns (sym f1),
  ),
)

-- the last first request is followed by rounds
late_back : (d : ℕ) (delay : Bool) (l : ℕ) (late : List ℕ) (e : Event) (u : Talk)
    → Back d (Again delay (l ∷ late) []) e u → Back d (Asking delay [] (l ∷ late)) e u
late_back d delay l late e u b = (b.0, b.1, λ ns f. let k = b.2 ns f in (k.0, k.1, [], k.2, (k.3, refl), k.4, k.5))

opened_back : (d : ℕ) (p : ℕ) (rest : List ℕ) (caps : Caps) (u : Talk) (smudge : Bool) → caps.smudge ≡ smudge
    → opened caps (p ∷ rest) ≡ u
    → Back d (Before (p ∷ rest)) (ev.Opened d caps) u
opened_back d p rest caps u true with_it is = (
  Asking caps.delay (p ∷ rest) [],
  ap (λ (b : Bool). cond b (talk_of (Asking caps.delay (p ∷ rest) [])) Refusing) (sym with_it) ∙ is,
  λ ns f. (
    Session caps f.0 f.1 ∷ f.3,
    (f.2, subst (λ (b : Bool). IsSession b caps.delay (p ∷ rest) f.0 f.1 f.2) (sym with_it) f.4, f.5),
    more (ev.Opened d caps) _ ns f.6,
  ),
)
opened_back d p rest caps u false with_it is = (
  Refuses,
  ap (λ (b : Bool). cond b (talk_of (Asking caps.delay (p ∷ rest) [])) Refusing) (sym with_it) ∙ is,
  λ ns f. (
    Session caps [] Shut ∷ [],
    ([], subst (λ (b : Bool). IsSession b caps.delay (p ∷ rest) [] Shut []) (sym with_it) (refl, refl, refl), refl),
    more (ev.Opened d caps) _ ns (sym f),
  ),
)

before_back : (d p : ℕ) (rest : List ℕ) (e : Event) (u : Talk) → is_with d e ≡ true
    → talk_next (talk_of (Before (p ∷ rest))) e ≡ Some u → Back d (Before (p ∷ rest)) e u
before_back d p rest (ev.Claim q a) u w h = none_is_some h
before_back d p rest (ev.Close q a o) u w h = none_is_some h
before_back d p rest (ev.HandBack q) u w h = none_is_some h
before_back d p rest (ev.Answered q y) u w h = none_is_some h
before_back d p rest (ev.Redone q y) u w h = none_is_some h
before_back d p rest (ev.Named q) u w h = none_is_some h
before_back d p rest (ev.Listed f y) u w h = none_is_some h
before_back d p rest (ev.Shut f) u w h = none_is_some h
before_back d p rest (ev.OpenFailed q why) u w h =
    let g = given_talk (q == p && is_good_opening why) (Between rest) u h in
    let k = and_parts (q == p) (is_good_opening why) g.0 in (
      Before rest,
      g.1,
      λ ns f. (
        NoSession q why ∷ f.0,
        (same_number q p k.0, k.1, f.1),
        more (ev.OpenFailed q why) _ ns f.2,
      ),
    )
before_back d p rest (ev.Opened f caps) u w h =
    subst (λ (z : ℕ). Back d (Before (p ∷ rest)) (ev.Opened z caps) u) (same_number d f w)
    (opened_back d p rest caps u caps.smudge refl (some_is (opened caps (p ∷ rest)) u h))

refuses_back : (d : ℕ) (e : Event) (u : Talk) → is_with d e ≡ true → talk_next Refusing e ≡ Some u
    → Back d Refuses e u
refuses_back d (ev.Claim q a) u w h = none_is_some h
refuses_back d (ev.Close q a o) u w h = none_is_some h
refuses_back d (ev.Opened f caps) u w h = none_is_some h
refuses_back d (ev.OpenFailed q why) u w h = none_is_some h
refuses_back d (ev.HandBack q) u w h = none_is_some h
refuses_back d (ev.Answered q y) u w h = none_is_some h
refuses_back d (ev.Redone q y) u w h = none_is_some h
refuses_back d (ev.Named q) u w h = none_is_some h
refuses_back d (ev.Listed f y) u w h = none_is_some h
refuses_back d (ev.Shut f) u w h = (
  Over,
  some_is Ended u h,
  λ ns f1. more (ev.Shut f) ns [] f1
      ∙ ap (λ (z : ℕ). ev.Shut z ∷ []) (sym (same_number d f w)),
)

step_back : (d : ℕ) (at : Phase) (e : Event) (u : Talk) → is_with d e ≡ true → talk_next (talk_of at) e ≡ Some u
    → Back d at e u
step_back d (Before []) e u w h = none_is_some h
step_back d (Before (p ∷ rest)) e u w h = before_back d p rest e u w h
step_back d Refuses e u w h = refuses_back d e u w h
step_back d (Asking delay [] []) e u w h = plain_back d delay e u w h
step_back d (Asking delay [] (l ∷ late)) e u w h = late_back d delay l late e u
    (again_back d delay (l ∷ late) [] e u w h)
step_back d (Asking delay (p ∷ rest) late) e u w h = asking_back d delay p rest late e u w h
step_back d (Again delay late turns) e u w h = again_back d delay late turns e u w h
step_back d (Noting delay late turns) e u w h = noting_back d delay late turns e u w h
step_back d Over e u w h = none_is_some h

-- nothing more is noted
over_back : (d : ℕ) (at : Phase) (u : Talk) → talk_of at ≡ u → IsOver u → From d at []
over_back d at u is over = done at (subst IsOver (sym is) over)
  where
    done : (at : Phase) → IsOver (talk_of at) → From d at []
    done (Before []) over = ([], tt, refl)
    done (Before (p ∷ rest)) over = absurd over
    done Refuses over = absurd over
    done (Asking delay rest late) over = absurd over
    done (Again delay late turns) over = absurd over
    done (Noting delay late turns) over = absurd over
    done Over over = refl

-- a run's first note
pub run_first : (d : ℕ) (t u : Talk) (e : Event) (es : List Event) → talk_run d t (e ∷ es) ≡ Some u
    → (is_with d e ≡ true) × ((v : Talk) × (talk_next t e ≡ Some v) × (talk_run d v es ≡ Some u))
run_first d t u e es h = guard (is_with d e) refl (talk_next t e) refl h
  where
    guard : (b : Bool) → is_with d e ≡ b → (o : Option Talk) → talk_next t e ≡ o
        → elim (cond b o None) as (λ _. Option Talk) [ None ↦ None | Some v ↦ talk_run d v es ] ≡ Some u
        → (is_with d e ≡ true) × ((v : Talk) × (talk_next t e ≡ Some v) × (talk_run d v es ≡ Some u))
    guard false w o n k = none_is_some k
    guard true w None n k = none_is_some k
    guard true w (Some v) n k = (w, (v, n, k))

run_back : (d : ℕ) (es : List Event) (at : Phase) (u : Talk) → talk_run d (talk_of at) es ≡ Some u → IsOver u
    → From d at es
run_back d [] at u run over = over_back d at u (some_is (talk_of at) u run) over
run_back d (e ∷ es) at u run over =
    let f = run_first d (talk_of at) u e es run in
    let b = step_back d at e f.1.0 f.0 f.1.1 in
    b.2 es (run_back d es b.0 u (ap (λ (z : Talk). talk_run d z es) b.1 ∙ f.1.2) over)

pub talk_transcript : (d : ℕ) (paths : List ℕ) (es : List Event) (u : Talk)
    → talk_run d (Between paths) es ≡ Some u → IsOver u
    → (items : List Item) × IsTalk paths items × (notes_of d items ≡ es)
talk_transcript d paths es u run over = run_back d es (Before paths) u run over
