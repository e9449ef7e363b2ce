-- The talks of a checkout with its drivers, by the starters that its pool leaves.
use Rattle.std.proofs.Common.{◌≡◌, ◌+◌, ◌<◌, ℕ, zero, suc, Bool, true, false, List, [], ◌∷◌, ◌++◌, length, map, Option, Some, None, Result, Ok, Err, eq-eqb, refl, sym, ap, ◌∙◌, subst, arith}
use Rattle.std.specs.Prelude.{slice_get}
use Rattle.std.specs.Option.{option_map}
use Rattle.std.proofs.lemmas.Option.{same_Some, slice_get-map}
use Rattle.edge_kit.specs.Seen.{LeafSeen}
use Rattle.edge_kit.specs.Told.{Told}
use Rattle.edge_kit.specs.Starters.{Had, Starts, StarterSeen, SpawnerSeen, starter_back}
use Rattle.settings_view.specs.declared.view.Driver.{Driver}
use Rattle.tree_encoding.specs.declared.prepared.Prepared.{Prepared}
use Rattle.delay_table.specs.Table.{contains}
use Rattle.convert_plan.specs.declared.card.Card.{Card}
use Rattle.convert_plan.specs.Card.{CardSeen, IsPrepared}
use Rattle.checkout_core.specs.declared.event.Event.{Event}
use Rattle.checkout_core.specs.declared.event.Event.TheVariants.{Close}
use Rattle.checkout_core.specs.declared.path.Heard.{Heard}
use Rattle.checkout_core.specs.declared.path.Heard.TheVariants as heard
use Rattle.checkout_core.specs.declared.path.Start.{Start}
use Rattle.checkout_core.specs.declared.path.Start.TheVariants as start
use Rattle.checkout_core.specs.declared.verdict.Own.{Own}
use Rattle.checkout_core.specs.declared.verdict.Own.TheVariants as own
use Rattle.checkout_core.specs.declared.verdict.Verdict.{Verdict}
use Rattle.checkout_core.specs.Desks.{was_read as own_read}
use Rattle.checkout_core.specs.Fates.{Fate, Untold, Later, Known, fate_of, desk_verdict}
use Rattle.checkout_core.specs.Notes.{notes}
use Rattle.checkout_core.specs.States.{is_at}
use Rattle.checkout_core.specs.Verdicts.{heard_verdict, write_failed}
use Rattle.checkout_book.specs.Sights.{Sight, seen}
use Rattle.checkout_plan.specs.declared.path_plan.PathPlan.{PathPlan}
use Rattle.driver_line.specs.Conversations.{notes_in}
use Rattle.driver_line.specs.Lines.{Paths}
use Rattle.driver_line.specs.ToldStarts.{Fills, GoBy}
use Rattle.driver_desk.specs.Serving.{Holds}
use Rattle.driver_desk.specs.Ties.{FitsOwn}
use Rattle.driver_desk.specs.Works.{WorkSeen, AreRead, ReadsAs, ReadsTo, FitAll, FitsContent, FitsWork, asked_in, cards_in, label_of}
use Rattle.writer_pool.specs.declared.pooled.DeskSeed.{DeskSeed}
use Rattle.writer_pool.specs.Pools.{HasTalked, IsSeed, AreSeeds, IsStarterBack, AreStartersBack}
use Rattle.writer_pool.specs.Sealing.{EndsAt, leaf_at}
use Rattle.writer_pool.specs.Tying.{content_in, has_content}
use Rattle.checkout_paths.specs.Cards.{IsCardFor}
use Rattle.checkout_paths.specs.Dealing.{IsSeedFor, AreSeedsFor, AreEnded}
use Rattle.checkout_paths.specs.Prepared.{IsPreparedTo}
use Rattle.checkout_paths.specs.Talks.{DriverTalk, IsTalkBy, IsDriverTalk, AreDriverTalks, was_read, with_talks, is_no_memory}
use Rattle.checkout_paths.specs.Workers.{starts_of}
use Rattle.checkout_paths.proofs.DeskEnds.{wrote, not_fine, not_write_failed}
use Rattle.checkout_paths.proofs.Places.{get_map, get_map_back}
use Rattle.checkout_paths.proofs.Seeds.{at_desk}

-- The talk has the notes of the driver d. It has what the leaf of each card holds that the desk closed, and is over each path of
-- which something was written, or was to be.
pub record IsTalkOf {B L : Type 0} (see : Sight B L) (paths : List PathPlan) (history : List Event) (leaf_of : ℕ → Option L) (d : ℕ) (t : DriverTalk) : Type 0 where
  pub noted : notes (starts_of paths) d history ≡ notes_in d t.exchanges
  pub answers : (n : ℕ) (leaf : LeafSeen) → EndsAt see (starts_of paths) history leaf_of d n leaf → Holds t.exchanges n leaf
  pub asked : (n place actor : ℕ) (required : Bool) (own : Own) → slice_get (starts_of paths) n ≡ Some (start.Desk d required) → slice_get history place ≡ Some (Close n actor own) → wrote own ≡ true
      → contains n t.asked ≡ true

-- the laws of the pool that are used here
pub record AsksForRead {S B L : Type 0} (starter : S → StarterSeen) (see : Sight B L) : Type 0 where
  pub asked : (starts : List Start) (d : ℕ) (seed : DeskSeed S B L) (works : List WorkSeen) → IsSeed starter starts d seed → map (λ c. seen see c) seed.cards.items ≡ cards_in works
      → (k : ℕ) (w : WorkSeen) → slice_get works k ≡ Some w → contains w.card.path (asked_in works) ≡ has_content w.content
  pub each : (works : List WorkSeen) (p : ℕ) → contains p (asked_in works) ≡ true → (k : ℕ) × (w : WorkSeen) × (slice_get works k ≡ Some w) × (w.card.path ≡ p) × (has_content w.content ≡ true)
  pub rises : (starts : List Start) (d : ℕ) (seed : DeskSeed S B L) (works : List WorkSeen) → IsSeed starter starts d seed → map (λ c. seen see c) seed.cards.items ≡ cards_in works
      → (i j p q : ℕ) → i < j → slice_get (asked_in works) i ≡ Some p → slice_get (asked_in works) j ≡ Some q → p < q
  pub fit : (starts : List Start) (d : ℕ) (seed : DeskSeed S B L) (works : List WorkSeen) → IsSeed starter starts d seed → map (λ c. seen see c) seed.cards.items ≡ cards_in works
      → (text name : ℕ → List ℕ) → ((k : ℕ) (w : WorkSeen) → slice_get works k ≡ Some w → label_of w.card ≡ (text w.card.path, name w.card.path))
      → FitAll (record { text = text; name = name; content = content_in works }) works

-- the works of a list, one by one
card_there : (works : List WorkSeen) (k : ℕ) (w : WorkSeen) → slice_get works k ≡ Some w → slice_get (cards_in works) k ≡ Some w.card
card_there [] k w at = absurd cc
card_there (x ∷ ws) zero w at = ap (λ (y : WorkSeen). Some y.card) (same_Some x w at)
card_there (x ∷ ws) (suc k) w at = card_there ws k w at

work_there : (works : List WorkSeen) (k : ℕ) (c : CardSeen) → slice_get (cards_in works) k ≡ Some c → (w : WorkSeen) × (slice_get works k ≡ Some w) × (w.card ≡ c)
work_there [] k c at = absurd cc
work_there (x ∷ ws) zero c at = (x, refl, same_Some x.card c at)
work_there (x ∷ ws) (suc k) c at = work_there ws k c at

read_at : (works : List WorkSeen) (k : ℕ) (w : WorkSeen) → AreRead works → slice_get works k ≡ Some w → ReadsAs w.card w.content
read_at [] k w read at = absurd cc
read_at (x ∷ ws) zero w read at = subst (λ (y : WorkSeen). ReadsAs y.card y.content) (same_Some x w at) read.0
read_at (x ∷ ws) (suc k) w read at = read_at ws k w read.1 at

fit_at : (paths : Paths) (works : List WorkSeen) (k : ℕ) (w : WorkSeen) → FitAll paths works → slice_get works k ≡ Some w → FitsWork paths w
fit_at paths [] k w fit at = absurd cc
fit_at paths (x ∷ ws) zero w fit at = subst (FitsWork paths) (same_Some x w at) fit.0
fit_at paths (x ∷ ws) (suc k) w fit at = fit_at paths ws k w fit.1 at

-- A verdict at a desk says whether the object was read, if memory was left.
told_read : (required : Bool) (h : Heard) (u : Bool) → was_read (heard_verdict required h u) ≡ true
told_read required heard.Got u = refl
told_read true (heard.Refused why) u = refl
told_read false (heard.Refused why) u = refl
told_read required heard.Lost u = refl
told_read required heard.OutOfMemory u = refl

failed_read : (h : Heard) → was_read (write_failed h) ≡ true
failed_read heard.Got = refl
failed_read (heard.Refused why) = refl
failed_read heard.Lost = refl
failed_read heard.OutOfMemory = refl

verdict_read : (required : Bool) (f : Fate) (o : Own) → own_read o ≡ true → was_read (desk_verdict required f o) ≡ true
verdict_read required (Known h) (own.Fine u) read = told_read required h u
verdict_read required Later (own.Fine u) read = refl
verdict_read required Untold (own.Fine u) read = refl
verdict_read required (Known h) own.WriteFailed read = failed_read h
verdict_read required Later own.WriteFailed read = refl
verdict_read required Untold own.WriteFailed read = refl
verdict_read required (Known h) own.NoMemory read = refl
verdict_read required Later own.NoMemory read = refl
verdict_read required Untold own.NoMemory read = refl
verdict_read required f (own.Object k) read = absurd cc
verdict_read required f own.ReadFailed read = absurd cc

verdict_unread : (required : Bool) (f : Fate) (c : CardSeen) (o : Own) → ReadsTo c (Err o) → is_no_memory (desk_verdict required f o) ≡ false → was_read (desk_verdict required f o) ≡ false
verdict_unread required (Known h) c own.ReadFailed reads left = refl
verdict_unread required Later c own.ReadFailed reads left = refl
verdict_unread required Untold c own.ReadFailed reads left = refl
verdict_unread required (Known h) c (own.Object k) reads left = refl
verdict_unread required Later c (own.Object k) reads left = refl
verdict_unread required Untold c (own.Object k) reads left = refl
verdict_unread required (Known h) c own.NoMemory reads left = absurd cc
verdict_unread required Later c own.NoMemory reads left = absurd cc
verdict_unread required Untold c own.NoMemory reads left = absurd cc
verdict_unread required f c (own.Fine u) reads left = absurd (not_fine u reads.fault reads.own)
verdict_unread required f c own.WriteFailed reads left = absurd (not_write_failed reads.fault reads.own)

content_read : (required : Bool) (f : Fate) (c : CardSeen) (content : Result (List ℕ) Own) (o : Own) → ReadsAs c content → FitsOwn content o → is_no_memory (desk_verdict required f o) ≡ false
    → has_content content ≡ was_read (desk_verdict required f o)
content_read required f c (Ok bytes) o reads fits left = sym (verdict_read required f o fits)
content_read required f c (Err e) o reads fits left =
    subst (λ (x : Own). false ≡ was_read (desk_verdict required f x)) (sym fits)
    (sym (verdict_unread required f c e reads (subst (λ (x : Own). is_no_memory (desk_verdict required f x) ≡ false) fits left)))

-- what was written was read
wrote_read : (c : CardSeen) (content : Result (List ℕ) Own) (o : Own) → ReadsAs c content → FitsOwn content o → wrote o ≡ true → has_content content ≡ true
wrote_read c (Ok bytes) o reads fits did = refl
wrote_read c (Err e) o reads fits did = absurd (never e reads (subst (λ (x : Own). wrote x ≡ true) fits did))
  where
    never : (e : Own) → ReadsTo c (Err e) → wrote e ≡ true → ⊥
    never (own.Fine u) reads did = not_fine u reads.fault reads.own
    never own.WriteFailed reads did = not_write_failed reads.fault reads.own
    never own.NoMemory reads did = absurd cc
    never (own.Object k) reads did = absurd cc
    never own.ReadFailed reads did = absurd cc

-- what was read is what the object is prepared to
read_ready : (paths : Paths) (c : CardSeen) (content : Result (List ℕ) Own) → ReadsAs c content → FitsContent paths c.path content → has_content content ≡ true
    → (ready : Prepared) × IsPrepared c ready × (paths.content c.path ≡ ready.bytes)
read_ready paths c (Ok bytes) reads fits has = (reads.0, reads.1, fits ∙ sym reads.2)
read_ready paths c (Err e) reads fits has = absurd cc

prepares : (object : List ℕ → Told) (p : PathPlan) (c : CardSeen) (ready : Prepared) (n : ℕ) → IsCardFor object n p c → IsPrepared c ready → IsPreparedTo (object p.object) p ready
prepares object p c ready n made is =
    let r = subst (λ (y : CardSeen). IsPrepared y ready) made.same is in
    record { content = r.0; object = r.1; is = r.2 }

abbrev pub text_or : Option PathPlan → List ℕ
text_or None = []
text_or (Some p) = p.path

abbrev pub name_or : Option PathPlan → List ℕ
name_or None = []
name_or (Some p) = p.object

abbrev label_or : Option PathPlan → List ℕ × List ℕ
label_or o = (text_or o, name_or o)

-- the texts of paths, and the names of their objects
abbrev pub texts_of : List PathPlan → ℕ → List ℕ
texts_of paths n = text_or (slice_get paths n)

abbrev pub names_of : List PathPlan → ℕ → List ℕ
names_of paths n = name_or (slice_get paths n)

-- a driver as it is found in the list
at_it : (d : ℕ) (required : Bool) → is_at d (start.Desk d required) ≡ true
at_it d required = eq-eqb d d refl

-- what is told of the paths of the driver d
pub record IsEndTold (paths : List PathPlan) (history : List Event) (verdicts : List Verdict) : Type 0 where
  pub closes : (n d : ℕ) (required : Bool) → slice_get (starts_of paths) n ≡ Some (start.Desk d required) → (place actor : ℕ) × (own : Own) × (slice_get history place ≡ Some (Close n actor own))
      × (slice_get verdicts n ≡ Some (desk_verdict required (fate_of n Untold (notes (starts_of paths) d history)) own))

module _ {S B L : Type 0} (starter : S → StarterSeen) (see : Sight B L) (ahead : List ℕ → Starts) (object : List ℕ → Told) (paths : List PathPlan) (history : List Event) (leaves : List L) where
  -- the driver d, its seed, and its starter that is back
  pub record IsDeskBack (d : ℕ) (x : Driver) (seed : DeskSeed S B L) (s : S) : Type 0 where
    pub made : IsSeedFor starter see ahead object paths d x seed
    pub dealt : IsSeed starter (starts_of paths) d seed
    pub back : IsStarterBack starter see (starts_of paths) history leaves d seed s

  module _ (laws : AsksForRead starter see) (d : ℕ) (x : Driver) (seed : DeskSeed S B L) (s : S) (h : IsDeskBack d x seed s) where
    abbrev pub works : List WorkSeen
    works = h.back.works

    abbrev pub over : Paths
    over = record { text = texts_of paths; name = names_of paths; content = content_in works }

    -- a work is that of a path of the driver
    path_of : (k : ℕ) (w : WorkSeen) → slice_get works k ≡ Some w → (p : PathPlan) × (slice_get paths w.card.path ≡ Some p) × (is_at d p.start ≡ true) × IsCardFor object w.card.path p w.card
    path_of k w at =
        let c = get_map_back (λ (c : Card B L). seen see c) seed.cards.items k w.card (ap (λ (l : List CardSeen). slice_get l k) h.back.cards ∙ card_there works k w at) in
        let one = h.made.cards.there k c.0 c.1 in
        subst (λ (y : CardSeen). (p : PathPlan) × (slice_get paths y.path ≡ Some p) × (is_at d p.start ≡ true) × IsCardFor object y.path p y) c.2 (one.0, one.1, one.2, one.3)

    -- and each path of the driver has a work
    work_of : (n : ℕ) (p : PathPlan) → slice_get paths n ≡ Some p → is_at d p.start ≡ true → (k : ℕ) × (w : WorkSeen) × (slice_get works k ≡ Some w) × (w.card.path ≡ n)
    work_of n p at is =
        let one = h.made.cards.all n p at is in
        let w = work_there works one.0 (seen see one.1) (ap (λ (l : List CardSeen). slice_get l one.0) (sym h.back.cards) ∙ get_map (λ (c : Card B L). seen see c) seed.cards.items one.0 one.1 one.2) in
        (one.0, w.0, w.1, ap (λ (y : CardSeen). y.path) w.2 ∙ one.3)

    pub fits : FitAll over works
    fits = laws.fit (starts_of paths) d seed works h.dealt h.back.cards (texts_of paths) (names_of paths) (λ k w at.
        let p = path_of k w at in
        ap label_of (p.3).same ∙ sym (ap label_or p.1))

    pub said : HasTalked d over (asked_in works) (starter seed.starter) (starter s) (notes (starts_of paths) d history) (EndsAt see (starts_of paths) history (leaf_at (starts_of paths) leaves) d)
    said = h.back.talked over fits

    abbrev pub talk : DriverTalk
    talk = record { command = (starter s).command; paths = over; asked = asked_in works; had = (starter s).had; exchanges = said.exchanges }

    command_is : (starter s).command ≡ h.made.command
    command_is = said.stays.command ∙ ap (λ (y : StarterSeen). y.command) h.made.starter_is

    had_is : (starter s).had ≡ said.items
    had_is = said.kept ∙ ap (λ (y : StarterSeen). y.had ++ said.items) h.made.starter_is

    ahead_is : (starter seed.starter).ahead ≡ ahead (starter s).command
    ahead_is = ap (λ (y : StarterSeen). y.ahead) h.made.starter_is ∙ ap ahead (sym command_is)

    talks_by : IsTalkBy (ahead (starter s).command) d talk
    talks_by = record {
      left = (starter s).ahead;
      full = said.full;
      fills = subst (λ (hs : List Had). Fills hs said.full) (sym had_is) said.fills;
      starts = subst (λ (told : Starts). GoBy told said.full (starter s).ahead) ahead_is said.starts;
      talk = said.talk;
      results = said.results;
      whole = said.whole;
      same = said.same;
    }

    -- no link is out
    pub links_back : (starter s).out ≡ 0
    links_back = said.links ∙ ap (λ (y : StarterSeen). y.out) h.made.starter_is

    -- a path of the driver that was closed so
    asked_where_read : (n : ℕ) (p : PathPlan) → slice_get paths n ≡ Some p → is_at d p.start ≡ true → (place actor : ℕ) (own : Own) → slice_get history place ≡ Some (Close n actor own)
        → (c : CardSeen) × (content : Result (List ℕ) Own) × ReadsAs c content × FitsOwn content own × (contains n (asked_in works) ≡ has_content content)
    asked_where_read n p at is place actor own entry =
        let w = work_of n p at is in
        let closed : slice_get history place ≡ Some (Close w.1.card.path actor own) = entry ∙ ap (λ (m : ℕ). Some (Close m actor own)) (sym w.3) in (
          w.1.card,
          w.1.content,
          read_at works w.0 w.1 h.back.read w.2,
          h.back.tied w.0 w.1 w.2 place actor own closed,
          ap (λ (m : ℕ). contains m (asked_in works)) (sym w.3) ∙ laws.asked (starts_of paths) d seed works h.dealt h.back.cards w.0 w.1 w.2,
        )

    -- the path of a start
    plan_at : (n : ℕ) (required : Bool) → slice_get (starts_of paths) n ≡ Some (start.Desk d required) → (p : PathPlan) × (slice_get paths n ≡ Some p) × (is_at d p.start ≡ true)
    plan_at n required at =
        let p = get_map_back (λ (p : PathPlan). p.start) paths n (start.Desk d required) at in
        (p.0, p.1, ap (is_at d) p.2 ∙ at_it d required)

    pub talk_is : IsTalkOf see paths history (leaf_at (starts_of paths) leaves) d talk
    talk_is = record {
      noted = said.noted_is;
      answers = said.answers;
      asked = λ n place actor required own begins entry did.
          let p = plan_at n required begins in
          let r = asked_where_read n p.0 p.1 p.2 place actor own entry in
          r.4 ∙ wrote_read r.0 r.1 own r.2 r.3 did;
    }

    asked_is : (verdicts : List Verdict) → IsEndTold paths history verdicts → (n : ℕ) (p : PathPlan) (v : Verdict) → slice_get paths n ≡ Some p → slice_get verdicts n ≡ Some v → is_at d p.start ≡ true
        → is_no_memory v ≡ false → contains n (asked_in works) ≡ was_read v
    asked_is verdicts ends n p v at verdict is left =
        let begun = at_desk d p.start is in
        let end = ends.closes n d begun.0 (slice_get-map (λ (q : PathPlan). q.start) paths n ∙ (ap (option_map (λ (q : PathPlan). q.start)) at ∙ ap Some begun.1)) in
        let fate = fate_of n Untold (notes (starts_of paths) d history) in
        let same : desk_verdict begun.0 fate end.2 ≡ v = same_Some (desk_verdict begun.0 fate end.2) v (sym end.4 ∙ verdict) in
        let r = asked_where_read n p at is end.0 end.1 end.2 end.3 in
        r.4 ∙ (content_read begun.0 fate r.0 r.1 end.2 r.2 r.3 (ap is_no_memory same ∙ left) ∙ ap was_read same)

    each_is : (n : ℕ) → contains n (asked_in works) ≡ true → (p : PathPlan) × (slice_get paths n ≡ Some p) × (is_at d p.start ≡ true) × (texts_of paths n ≡ p.path) × (names_of paths n ≡ p.object)
        × (ready : Prepared) × IsPreparedTo (object p.object) p ready × (content_in works n ≡ ready.bytes)
    each_is n has =
        let w = laws.each works n has in
        let p = path_of w.0 w.1 w.2 in
        let at : slice_get paths n ≡ Some p.0 = ap (slice_get paths) (sym w.3) ∙ p.1 in
        let read = read_ready over w.1.card w.1.content (read_at works w.0 w.1 h.back.read w.2) (fit_at over works w.0 w.1 fits w.2).1 w.4 in
        let ready : IsPreparedTo (object (p.0).object) p.0 read.0 = prepares object p.0 w.1.card read.0 w.1.card.path p.3 read.1 in
        (p.0, at, p.2, ap text_or at, ap name_or at, read.0, ready, ap (content_in works) (sym w.3) ∙ read.2)

    -- the driver of the plan has this talk
    pub driver_talk : (verdicts : List Verdict) → IsEndTold paths history verdicts → IsDriverTalk ahead object paths verdicts history d x talk
    driver_talk verdicts ends = record {
      command = h.made.process ∙ ap Some (sym command_is);
      talk = talks_by;
      over = record {
        asked = asked_is verdicts ends;
        each = each_is;
        rises = laws.rises (starts_of paths) d seed works h.dealt h.back.cards;
      };
      noted = said.noted_is;
    }

  -- the talks with the drivers from d on, of which these starters are back
  pub record AreTalked (d : ℕ) (drivers : List Driver) (ss : List S) : Type 0 where
    pub talks : List DriverTalk
    pub conversations : (verdicts : List Verdict) → IsEndTold paths history verdicts → AreDriverTalks ahead object paths verdicts history d drivers talks
    pub back : map (λ (t : DriverTalk). (t.command, t.had)) talks ≡ map (λ (s : S). starter_back (starter s)) ss
    pub each : (i : ℕ) → i < length drivers → (t : DriverTalk) × (slice_get talks i ≡ Some t) × IsTalkOf see paths history (leaf_at (starts_of paths) leaves) (d + i) t
    pub ended : AreEnded starter ss

  none_talked : (d : ℕ) → AreTalked d [] []
  none_talked d = record {
    talks = [];
    conversations = λ verdicts ends. tt;
    back = refl;
    each = λ i less. absurd (omega (arith, less));
    ended = tt;
  }

  one_talked : AsksForRead starter see → (d : ℕ) (x : Driver) (seed : DeskSeed S B L) (s : S) (drivers : List Driver) (ss : List S) → IsDeskBack d x seed s → AreTalked (suc d) drivers ss → AreTalked d (x ∷ drivers) (s ∷ ss)
  one_talked laws d x seed s drivers ss h rest = record {
    talks = talk laws d x seed s h ∷ rest.talks;
    conversations = λ verdicts ends. (driver_talk laws d x seed s h verdicts ends, rest.conversations verdicts ends);
    back = ap (λ (l : List (List ℕ × List Had)). starter_back (starter s) ∷ l) rest.back;
    each = at;
    ended = (links_back laws d x seed s h, rest.ended);
  }
    where
      at : (i : ℕ) → i < length (x ∷ drivers) → (t : DriverTalk) × (slice_get (talk laws d x seed s h ∷ rest.talks) i ≡ Some t) × IsTalkOf see paths history (leaf_at (starts_of paths) leaves) (d + i) t
      at zero less =
          let here : ◌≡◌ {A = ℕ} d (d + zero) = omega arith in
          (talk laws d x seed s h, refl, subst (λ (k : ℕ). IsTalkOf see paths history (leaf_at (starts_of paths) leaves) k (talk laws d x seed s h)) here (talk_is laws d x seed s h))
      at (suc i) less =
          let r = rest.each i (omega (arith, less)) in
          let next : ◌≡◌ {A = ℕ} (suc d + i) (d + suc i) = omega arith in
          (r.0, r.1, subst (λ (k : ℕ). IsTalkOf see paths history (leaf_at (starts_of paths) leaves) k r.0) next r.2)

  pub talks_back : AsksForRead starter see → (d : ℕ) (drivers : List Driver) (seeds : List (DeskSeed S B L)) (ss : List S) → AreSeedsFor starter see ahead object paths d drivers seeds
      → AreSeeds starter (starts_of paths) d seeds → AreStartersBack starter see (starts_of paths) history leaves d seeds ss → AreTalked d drivers ss
  talks_back laws d [] [] [] made dealt back = none_talked d
  talks_back laws d [] [] (s ∷ ss) made dealt back = absurd back
  talks_back laws d [] (seed ∷ seeds) ss made dealt back = absurd made
  talks_back laws d (x ∷ xs) [] ss made dealt back = absurd made
  talks_back laws d (x ∷ xs) (seed ∷ seeds) [] made dealt back = absurd back
  talks_back laws d (x ∷ xs) (seed ∷ seeds) (s ∷ ss) made dealt back =
      one_talked laws d x seed s xs ss (record { made = made.0; dealt = dealt.0; back = back.0 }) (talks_back laws (suc d) xs seeds ss made.1 dealt.1 back.1)

-- starters that were made and given back
pub starters_got : (old mid new : SpawnerSeen) (n count : ℕ) (talks : List DriverTalk) (xs : List (List ℕ × List Had)) → mid ≡ record old { out = old.out + n } → count ≡ n → new.out + count ≡ mid.out
    → new ≡ record mid { out = new.out; returned = mid.returned ++ xs } → map (λ (t : DriverTalk). (t.command, t.had)) talks ≡ xs → new ≡ with_talks old talks
starters_got old mid new n count talks xs made same down back is =
    let out : new.out ≡ old.out = omega (arith, same, down, ap (λ (x : SpawnerSeen). x.out) made) in
    back ∙ ap (λ (m : SpawnerSeen). record m { out = new.out; returned = m.returned ++ xs }) made
    ∙ ap (λ (k : ℕ). record old { out = k; returned = old.returned ++ xs }) out
    ∙ ap (λ (l : List (List ℕ × List Had)). record old { returned = old.returned ++ l }) (sym is)
