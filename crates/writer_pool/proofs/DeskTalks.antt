-- What a desk's pass lists has just the notes of the desk's talk.
use Rattle.std.proofs.Common.{◌≡◌, ℕ, ◌-◌, ◌&&◌, Bool, true, false, cond, List, [], ◌∷◌, ◌++◌, length, refl, sym, ap, ◌∙◌, subst, arith}
use mathlib.Core.List.{map-append}
use Rattle.atomic_table.specs.Seated.{TableId}
use Rattle.turn_lock.specs.Seat.{SeatView, mine_of, number_of}
use Rattle.edge_kit.specs.Seen.{LeafSeen}
use Rattle.edge_kit.specs.Starters.{StarterSeen}
use Rattle.checkout_core.specs.declared.event.Event.{Event}
use Rattle.checkout_core.specs.declared.path.Start.{Start}
use Rattle.checkout_core.specs.Actors.{is_actor, driver_in}
use Rattle.checkout_core.specs.Notes.{is_noted, noted, notes}
use Rattle.checkout_book.specs.declared.plan.BookPlan.{BookPlan}
use Rattle.checkout_book.specs.declared.plan.HistoryEntry.{HistoryEntry}
use Rattle.checkout_book.specs.Sights.{Sight}
use Rattle.checkout_book.specs.Passes.{close_entry}
use Rattle.driver_line.specs.Lines.{Paths}
use Rattle.driver_desk.specs.declared.desk.Served.{Served}
use Rattle.driver_desk.specs.Desks.{DeskView, IsDealt, AreThrough}
use Rattle.driver_desk.specs.Works.{asked_in}
use Rattle.driver_desk.specs.Recorders.{Standing, events_in}
use Rattle.driver_desk.specs.Serving.{Given, Noted, Closed, HandedBack, AllClosed, Holds, noted_in, IsServed}
use Rattle.writer_pool.specs.OnBook.{IsDeskPass, given_in, place_of, standing_of, given_of}
use Rattle.writer_pool.specs.Jobs.{HasServed}
use Rattle.writer_pool.specs.Pools.{HasTalked}
use Rattle.writer_pool.specs.Sealing.{EndsIn}
use Rattle.writer_pool.specs.Serving.{IsServedOn, recording}
use Rattle.card_worker.specs.Turns.{AreTurns}
use Rattle.card_worker.specs.Working.{Idled, own_events}
use Rattle.writer_pool.proofs.Places.{get_map, get_within, get_behind, split}
use Rattle.writer_pool.proofs.Acting.{turn_claim}
use Rattle.writer_pool.proofs.Recordings.{standing_is, events_own}
use Rattle.writer_pool.proofs.DeskClosings.{closed_own}
use Rattle.writer_pool.proofs.DeskActing.{standing_same}
use Rattle.writer_pool.proofs.Tied.{desk_tied}

abbrev AllNoted : List Event → Type 0
AllNoted [] = Unit {0}
AllNoted (e ∷ es) = (is_noted e ≡ true) × AllNoted es

noted_is : (s : Standing) (given : List Given) → AllNoted (noted_in given)
    → noted (events_in s given) ≡ noted_in given
noted_is s [] all = refl
noted_is s (Noted e ∷ gs) all =
    ap (λ (b : Bool). cond b (e ∷ noted (events_in s gs)) (noted (events_in s gs))) all.0
    ∙ ap (λ (l : List Event). e ∷ l) (noted_is s gs all.1)
noted_is s (Closed o c ∷ gs) all = noted_is s gs all
noted_is s (HandedBack p ∷ gs) all = noted_is s gs all

noted_quiet : (xs ys : List Event) → noted ys ≡ [] → noted (xs ++ ys) ≡ noted xs
noted_quiet [] ys e = e
noted_quiet (x ∷ xs) ys e =
    ap (λ (l : List Event). cond (is_noted x) (x ∷ l) l) (noted_quiet xs ys e)

notes_noted : (starts : List Start) (d : ℕ) (es : List Event) → AllNoted (notes starts d es)
notes_noted starts d [] = tt
notes_noted starts d (e ∷ es) = go (is_noted e) refl (is_actor d (driver_in starts e)) (notes_noted starts d es)
  where
    go : (b : Bool) → is_noted e ≡ b → (a : Bool) → AllNoted (notes starts d es)
        → AllNoted (cond (b && a) (e ∷ notes starts d es) (notes starts d es))
    go true is true more = (is, more)
    go true is false more = more
    go false is a more = more

module _ {B L : Type 0} (see : Sight B L) where
  -- the leaves that the pass closed without a claim are those that its desk closed
  desk_answered : (lock : TableId) (s0 s : SeatView HistoryEntry (BookPlan B L)) (more : List HistoryEntry) (required : Bool)
      (j : IsDeskPass lock s) (desk : DeskView)
      → place_of (recording required s) ≡ place_of (recording required s0)
      → IsDealt (standing_of see (record { pass = s0; required = required })) desk → AreTurns (own_events more)
      → (P : ℕ → LeafSeen → Type 0)
      → AllClosed P (given_of see (record { pass = s; required = required }))
      → (p : ℕ) (leaf : LeafSeen) → EndsIn (mine_of s ++ more) p leaf → P p leaf
  desk_answered lock s0 s more required j desk place dealt turns P all p leaf z =
      let d = j.plan in
      let n = number_of s in
      let is = standing_is see lock s required j in
      let of = subst (λ (y : Standing). IsDealt y desk)
      (sym (standing_same see s0 s required place) ∙ is) dealt in
      let given = subst (λ (y : Standing). AllClosed P (given_in y.cards (mine_of s))) is all in
      let e = close_entry p z.actor z.own z.ended in
      split z.place (length (mine_of s))
      (λ lt. subst (P p) z.is (closed_own see d n required desk (mine_of s) j.dealt j.own of P given z.place p
      z.actor z.own z.ended (sym (get_within (mine_of s) more z.place lt) ∙ z.here)))
      (λ le.
      let at = sym (get_behind (mine_of s) more z.place le) ∙ z.here in
      let t = turn_claim (mine_of s) more (z.place - length (mine_of s)) z.place p z.actor z.own turns
      (omega (arith, le)) (get_map (λ (x : HistoryEntry). x.event) more (z.place - length (mine_of s)) e at) in
      absurd (z.unclaimed t.0 t.1 t.2))

  -- what the pass lists has just the notes of the desk's talk
  pub desk_noted : (lock : TableId) (s t : SeatView HistoryEntry (BookPlan B L)) (required : Bool) (j : IsDeskPass lock s)
      → AreThrough (standing_of see (recording required s)) (given_of see (recording required s))
      → Idled see lock j.plan (number_of s) j.made s t
      → noted (own_events (mine_of t)) ≡ noted_in (given_of see (recording required s))
  desk_noted lock s t required j through idled =
      let w = idled.worked in
      let x = standing_of see (recording required s) in
      let given = given_of see (recording required s) in
      let all = subst AllNoted through.noted (notes_noted x.starts x.driver (events_in x given)) in
      let own : noted (own_events (mine_of s)) ≡ noted_in given =
      ap (λ (l : List Event). noted l) (sym (events_own see lock s required j)) ∙ noted_is x given all in
      let after : noted (own_events (mine_of t)) ≡ noted (own_events (mine_of s)) =
      ap (λ (l : List HistoryEntry). noted (own_events l)) w.mine
      ∙ (ap (λ (l : List Event). noted l) (map-append (λ (z : HistoryEntry). z.event) (mine_of s) w.more)
      ∙ noted_quiet (own_events (mine_of s)) (own_events w.more) w.quiet) in
      after ∙ own

  pub desk_talked : (lock : TableId) (s0 s t : SeatView HistoryEntry (BookPlan B L)) (required : Bool) (j : IsDeskPass lock s)
      (desk : DeskView) → place_of (recording required s) ≡ place_of (recording required s0)
      → IsDealt (standing_of see (recording required s0)) desk
      → AreThrough (standing_of see (recording required s)) (given_of see (recording required s))
      → (d : ℕ) (paths : Paths) (asked : List ℕ) (old new : StarterSeen)
      → IsServed d paths asked old new [] (given_of see (recording required s))
      → Idled see lock j.plan (number_of s) j.made s t
      → HasTalked d paths asked old new (noted (own_events (mine_of t))) (EndsIn (mine_of t))
  desk_talked lock s0 s t required j desk place dealt through d paths asked old new served idled =
      let w = idled.worked in
      record {
        items = served.items;
        full = served.full;
        exchanges = served.exchanges;
        results = served.results;
        kept = served.kept;
        fills = served.fills;
        starts = served.starts;
        links = served.links;
        stays = served.stays;
        talk = served.talk;
        whole = served.whole;
        same = served.same;
        noted_is = desk_noted lock s t required j through idled
            ∙ (ap (λ (l : List Given). noted_in l) served.told ∙ served.noted);
        answers = λ p leaf ends. desk_answered lock s0 s w.more required j desk place dealt w.turns
            (Holds served.exchanges) (subst (AllClosed (Holds served.exchanges)) (sym served.told) served.answers)
            p leaf (subst (λ (l : List HistoryEntry). EndsIn l p leaf) w.mine ends);
      }

  -- what is left of a desk that has served and worked
  pub desk_left_so : {S : Type 0} (starter : S → StarterSeen) (lock : TableId) (s0 s t : SeatView HistoryEntry (BookPlan B L))
      (required : Bool) (desk : DeskView) (left : Served S)
      (e : IsServedOn starter see lock required desk s0 s left)
      → IsDealt (standing_of see (recording required s0)) desk
      → Idled see lock e.pass.plan (number_of s) e.pass.made s t → HasServed starter desk left (mine_of t)
  desk_left_so starter lock s0 s t required desk left e dealt idled = record {
    talk = e.talk ∙ sym (desk_noted lock s t required e.pass e.through idled);
    works = e.works;
    cards = e.cards;
    read = e.read;
    talked = λ paths fit. desk_talked lock s0 s t required e.pass desk e.place dealt e.through desk.driver paths
        (asked_in e.works) desk.starter (starter left.starter) (e.served paths fit) idled;
    tied = desk_tied see lock s0 s t required e.pass desk e.place dealt e.works e.tied idled;
  }
