-- A desk's pass, after the desk has served, and after it has worked.
use Rattle.std.proofs.Common.{◌≡◌, ◌==◌, ◌||◌, ℕ, zero, suc, ◌+◌, ◌-◌, ◌<◌, ◌≤◌, inr, ⊎_elim, Bool, true, false, cond, List, [], ◌∷◌, ◌++◌, length, Option, Some, None, refl, sym, ap, ◌∙◌, subst, arith}
use Rattle.std.specs.Prelude.{slice_get}
use mathlib.Core.List.{map-append}
use Rattle.atomic_table.specs.Seated.{TableId}
use Rattle.delay_table.specs.Table.{contains}
use Rattle.turn_lock.specs.Seat.{SeatView, mine_of, number_of, seen_of}
use Rattle.convert_plan.specs.Card.{CardSeen}
use Rattle.checkout_core.specs.declared.path.Start.{Start}
use Rattle.checkout_core.specs.declared.path.Start.TheVariants.{Pool}
use Rattle.checkout_core.specs.declared.event.Event.{Event}
use Rattle.checkout_core.specs.declared.event.Event.TheVariants.{Claim, Close, HandBack}
use Rattle.checkout_core.specs.Actors.{is_claim, driver_at, own_driver}
use Rattle.checkout_core.specs.Desks.{paths_of, is_left, leaves}
use Rattle.checkout_core.specs.Hands.{NoClaims, held_at}
use Rattle.checkout_core.specs.declared.verdict.Own.{Own}
use Rattle.checkout_core.specs.Fates.{Untold, fate_of}
use Rattle.checkout_core.specs.Notes.{noted, notes}
use Rattle.checkout_book.specs.declared.plan.BookPlan.{BookPlan}
use Rattle.checkout_book.specs.declared.plan.Parts.{Parts}
use Rattle.checkout_book.specs.declared.plan.HistoryEntry.{HistoryEntry}
use Rattle.checkout_book.specs.Shelves.{cards_of}
use Rattle.checkout_book.specs.Sights.{Sight, seen}
use Rattle.checkout_book.specs.Passes.{IsPass}
use Rattle.checkout_book.specs.Reserving.{AreNew, AreDealt, HasNothing}
use Rattle.driver_desk.specs.Desks.{DeskView, IsDealt, AreThrough}
use Rattle.driver_desk.specs.Recorders.{Standing, events_in, times}
use Rattle.driver_desk.specs.Serving.{Given, Noted, Closed, HandedBack}
use Rattle.driver_desk.specs.Works.{card_paths}
use Rattle.writer_pool.specs.Closing.{IsFromBook, RefusedBacks, ServesCard}
use Rattle.writer_pool.specs.Ends.{ShowsEnd, IsShownAll, IsBack}
use Rattle.writer_pool.specs.OnBook.{given_in, CloseOwn, Recording, Place, place_of, IsDeskPass, standing_at, standing_of, given_of}
use Rattle.writer_pool.specs.Serving.{recording}
use Rattle.card_worker.specs.Turns.{AreTurns}
use Rattle.card_worker.specs.Working.{AreShown, IsReady, Idled, blob_in, leaf_in, own_events}
use Rattle.writer_pool.proofs.Places.{some_is, get_map, get_map_back, get_within, get_behind, split}
use Rattle.writer_pool.proofs.TurnSteps.{turns_back}
use Rattle.writer_pool.proofs.Acting.{work_shown}
use Rattle.writer_pool.proofs.Closings.{notes_quiet}
use Rattle.writer_pool.proofs.Recordings.{AllBy, own_by, seat_is, standing_is, events_own}
use Rattle.writer_pool.proofs.DeskClosings.{DeskClose, desk_closed, desk_refused}

module _ {B L : Type 0} where
  -- a desk's pass of a book that begins
  unfoldable pub new_desk : (lock : TableId) (d : BookPlan B L) (n made : ℕ) (s : SeatView HistoryEntry (BookPlan B L)) → d.workers ≤ n
      → AreDealt d.starts.items 0 d.desks.items → HasNothing lock d n made s → mine_of s ≡ [] → IsDeskPass lock s
  new_desk lock d n made s le dealt nothing fresh =
      let named : number_of s ≡ n = nothing.1.seat.named in
      record {
        plan = d;
        made = made;
        core = nothing.0;
        pass = subst (λ (k : ℕ). IsPass lock d k made s nothing.0) (sym named) nothing.1;
        desk = subst (λ (k : ℕ). d.workers ≤ k) (sym named) le;
        dealt = dealt;
        hands = subst (λ (k : ℕ). (q : ℕ) → held_at nothing.0 k q ≡ false) (sym named) nothing.2;
        own = subst (CloseOwn d.starts.items (number_of s - d.workers)) (sym fresh) tt;
      }

module _ {B L : Type 0} (see : Sight B L) where
  -- a recorder stands for its pass
  pub same_standing : (s t : SeatView HistoryEntry (BookPlan B L)) (required : Bool) (r : Recording B L)
      → standing_of see r ≡ standing_of see (recording required s) → place_of r ≡ place_of (recording required s)
      → t ≡ r.pass → standing_of see (recording required t) ≡ standing_of see r
  same_standing s t required r standing place is =
      let told = ap (λ (p : Place B L). p.plan) place in
      let number = ap (λ (p : Place B L). p.number) place in
      let at : standing_of see (recording required r.pass) ≡ standing_of see (recording required s) =
      λ k. standing_at see (told k) (number k) required in
      ap (λ (x : SeatView HistoryEntry (BookPlan B L)). standing_of see (recording required x)) is ∙ (at ∙ sym standing)

  -- what it was given is what its pass lists
  pub same_given : (s t : SeatView HistoryEntry (BookPlan B L)) (required : Bool) (r : Recording B L)
      → standing_of see r ≡ standing_of see (recording required s) → place_of r ≡ place_of (recording required s)
      → t ≡ r.pass → given_of see r ≡ given_of see (recording required t)
  same_given s t required r standing place is =
      sym (ap (λ (x : Standing). given_in x.cards (mine_of t)) (same_standing s t required r standing place is)
      ∙ ap (λ (x : SeatView HistoryEntry (BookPlan B L)). given_in (standing_of see r).cards (mine_of x)) is)

  pub none_given : (s : SeatView HistoryEntry (BookPlan B L)) (required : Bool) (r : Recording B L)
      → r ≡ record { pass = s; required = required } → mine_of s ≡ [] → given_of see r ≡ []
  none_given s required r is fresh =
      ap (λ (l : List HistoryEntry). given_in (standing_of see r).cards l)
      (ap (λ (x : Recording B L). mine_of x.pass) is ∙ fresh)

no_claim_at : (es : List Event) (j p a : ℕ) → NoClaims es → slice_get es j ≡ Some (Claim p a) → ⊥
no_claim_at [] j p a free at = absurd (cc (at))
no_claim_at (e ∷ es) zero p a free at =
    let is : e ≡ Claim p a = some_is e (Claim p a) at in
    let u : is_claim (Claim p a) ≡ false = ap is_claim (sym is) ∙ free.0 in
    cc (u)
no_claim_at (e ∷ es) (suc j) p a free at = no_claim_at es j p a free.1 at

-- a path that starts in the pool has no driver
pool_free : (starts : List Start) (q p : ℕ) → driver_at starts p ≡ Some q → slice_get starts p ≡ Some Pool → ⊥
pool_free starts q p driver pool =
    let u : None ≡ Some q =
    sym (ap (λ (o : Option Start). elim o [ None ↦ None | Some s ↦ own_driver s ]) pool) ∙ driver in
    cc (u)

or_true : (x y : Bool) → y ≡ true → (x || y) ≡ true
or_true true y e = refl
or_true false y e = e

left_more : (p : ℕ) (xs ys : List Event) → is_left p xs ≡ true → is_left p (xs ++ ys) ≡ true
left_more p [] ys h = absurd (cc (h))
left_more p (x ∷ xs) ys h = go (left_more p xs ys) (leaves p x) h
  where
    go : (is_left p xs ≡ true → is_left p (xs ++ ys) ≡ true) → (b : Bool) → (b || is_left p xs) ≡ true
        → (b || is_left p (xs ++ ys)) ≡ true
    go more true h = refl
    go more false h = more h

-- a path whose card was closed or handed back is left
ended_left : (b x : Bool) (n : ℕ) → (cond b 1 0 + n ≡ 0 → ⊥) → ((n ≡ 0 → ⊥) → x ≡ true) → (b || x) ≡ true
ended_left true x n some more = refl
ended_left false x n some more = more (λ e. some (omega (arith, e)))

times_left : (s : Standing) (given : List Given) (p : ℕ) → (times p given ≡ 0 → ⊥)
    → is_left p (events_in s given) ≡ true
times_left s [] p some = absurd (some refl)
times_left s (Noted e ∷ gs) p some =
    or_true (leaves p e) (is_left p (events_in s gs)) (times_left s gs p (λ z. some (omega (arith, z))))
times_left s (Closed o c ∷ gs) p some =
    ended_left (p == c.path) (is_left p (events_in s gs)) (times p gs) some (λ z. times_left s gs p z)
times_left s (HandedBack q ∷ gs) p some =
    ended_left (p == q) (is_left p (events_in s gs)) (times p gs) some (λ z. times_left s gs p z)

module _ {B L : Type 0} (see : Sight B L) where
  -- what the desk gave has no claim, and closes no path of the pool
  not_from_book : (d : BookPlan B L) (q : ℕ) (first more : List HistoryEntry) (i p a : ℕ) → NoClaims (own_events first)
      → driver_at d.starts.items p ≡ Some q → i < length first
      → IsFromBook d.starts.items (own_events (first ++ more)) i p a → ⊥
  not_from_book d q first more i p a free driver lt from = ⊎_elim
      (λ (pool : slice_get d.starts.items p ≡ Some Pool). pool_free d.starts.items q p driver pool)
      (λ (claim : (j : ℕ) × (j < i) × (slice_get (own_events (first ++ more)) j ≡ Some (Claim p a))).
      let less = claim.1 in
      let x = get_map_back (λ (z : HistoryEntry). z.event) (first ++ more) claim.0 (Claim p a) claim.2 in
      let there = sym (get_within first more claim.0 (omega (arith, less, lt))) ∙ x.1 in
      no_claim_at (own_events first) claim.0 p a free
      (get_map (λ (z : HistoryEntry). z.event) first claim.0 x.0 there ∙ ap (λ (z : Event). Some z) x.2))
      from

  -- a Close that the desk gave shows how the desk served the card
  first_shown : (d : BookPlan B L) (q : ℕ) (first more : List HistoryEntry) (i p a : ℕ) (o : Own) (parts : Option Parts)
      → NoClaims (own_events first) → noted (own_events more) ≡ [] → i < length first
      → DeskClose see d q (own_events first) p a o parts
      → ShowsEnd see d (own_events (first ++ more)) i p a o parts
  first_shown d q first more i p a o parts free quiet lt c = record {
    ended = c.ended;
    there = c.there;
    number = c.number;
    card = c.card;
    planned = c.planned;
    path = c.path;
    ends =
        let same : notes d.starts.items q (own_events first)
        ≡ notes d.starts.items q (own_events (first ++ more)) =
        sym (ap (notes d.starts.items q) (map-append (λ (z : HistoryEntry). z.event) first more)
        ∙ notes_quiet d.starts.items q (own_events first) (own_events more) quiet) in
        inr (record {
          driver = q;
          required = c.required;
          desk = record {
            begun = c.begun;
            unclaimed = λ j less claim.
                not_from_book d q first more i p a free c.driver lt (inr (j, less, claim));
          };
          serves = subst (λ (l : List Event). ServesCard c.required (fate_of p Untold l) (seen see c.card) o
              (blob_in c.ended) (leaf_in c.ended)) same c.served;
        });
    desk = λ k required from.
        let begun : driver_at d.starts.items p ≡ Some k =
        ap (λ (o : Option Start). elim o [ None ↦ None | Some s ↦ own_driver s ]) from.begun in
        c.seat ∙ ap (λ (z : ℕ). d.workers + z) (some_is q k (sym c.driver ∙ begun));
  }

  desk_shown : (d : BookPlan B L) (q : ℕ) (first more : List HistoryEntry) → NoClaims (own_events first)
      → ((i : ℕ) (e : HistoryEntry) (p a : ℕ) (o : Own) → slice_get first i ≡ Some e → e.event ≡ Close p a o
      → DeskClose see d q (own_events first) p a o e.parts)
      → noted (own_events more) ≡ [] → AreTurns (own_events more) → AreShown see (cards_of d) more
      → IsShownAll see d (first ++ more)
  desk_shown d q first more free closed quiet turns shown i e p a o at is = split i (length first)
      (λ lt. first_shown d q first more i p a o e.parts free quiet lt
      (closed i e p a o (sym (get_within first more i lt) ∙ at) is))
      (λ le. work_shown see d first more turns shown (i - length first) i e p a o (omega (arith, le))
      (sym (get_behind first more i le) ∙ at) is)

  pub standing_same : (s0 s : SeatView HistoryEntry (BookPlan B L)) (required : Bool)
      → place_of (record { pass = s; required = required }) ≡ place_of (record { pass = s0; required = required })
      → standing_of see (record { pass = s; required = required })
      ≡ standing_of see (record { pass = s0; required = required })
  standing_same s0 s required place =
      let told = ap (λ (p : Place B L). p.plan) place in
      let number = ap (λ (p : Place B L). p.number) place in
      λ k. standing_at see (told k) (number k) required

  -- it is for the same plan
  pub same_plan : (lock : TableId) (s0 s : SeatView HistoryEntry (BookPlan B L)) (required : Bool) (i : IsDeskPass lock s0)
      (j : IsDeskPass lock s)
      → place_of (record { pass = s; required = required }) ≡ place_of (record { pass = s0; required = required })
      → j.plan ≡ i.plan
  same_plan lock s0 s required i j place =
      some_is j.plan i.plan (sym j.pass.seat.told ∙ (ap (λ (p : Place B L). p.plan) place ∙ i.pass.seat.told))

  pub desk_ready : (lock : TableId) (s0 s : SeatView HistoryEntry (BookPlan B L)) (required : Bool) (i : IsDeskPass lock s0)
      (j : IsDeskPass lock s)
      → place_of (record { pass = s; required = required }) ≡ place_of (record { pass = s0; required = required })
      → AreNew see (cards_of i.plan) → IsReady see lock j.plan (number_of s) j.made s
  desk_ready lock s0 s required i j place new = (
    (j.core, j.pass, j.hands),
    subst (λ (d : BookPlan B L). AreNew see (cards_of d)) (sym (same_plan lock s0 s required i j place)) new,
  )

  -- all paths of the driver are left
  desk_left : (lock : TableId) (s0 s : SeatView HistoryEntry (BookPlan B L)) (required : Bool) (j : IsDeskPass lock s)
      (desk : DeskView)
      → place_of (record { pass = s; required = required }) ≡ place_of (record { pass = s0; required = required })
      → IsDealt (standing_of see (record { pass = s0; required = required })) desk
      → AreThrough (standing_of see (record { pass = s; required = required }))
      (given_of see (record { pass = s; required = required })) → (q p : ℕ)
      → number_of s ≡ j.plan.workers + q → contains p (paths_of q j.plan.starts.items) ≡ true
      → is_left p (own_events (mine_of s)) ≡ true
  desk_left lock s0 s required j desk place dealt through q p seat own =
      let x0 = standing_of see (record { pass = s0; required = required }) in
      let x = standing_of see (record { pass = s; required = required }) in
      let given = given_of see (record { pass = s; required = required }) in
      let all0 : card_paths x0.cards ≡ paths_of x0.driver x0.starts =
      ap (λ (l : List CardSeen). card_paths l) dealt.cards ∙ dealt.all in
      let all1 = subst (λ (y : Standing). card_paths y.cards ≡ paths_of y.driver y.starts)
      (sym (standing_same s0 s required place)) all0 in
      let all2 = subst (λ (y : Standing). paths_of y.driver y.starts ≡ card_paths x.cards)
      (standing_is see lock s required j) (sym all1) in
      let n : q ≡ number_of s - j.plan.workers = omega (arith, seat) in
      let there : contains p (card_paths x.cards) ≡ true =
      ap (contains p) (sym all2) ∙ subst (λ (z : ℕ). contains p (paths_of z j.plan.starts.items) ≡ true) n own in
      let one : times p given ≡ 1 = through.once p ∙ ap (λ (b : Bool). cond b 1 0) there in
      ap (is_left p) (sym (events_own see lock s required j))
      ∙ times_left x given p (λ z. omega (arith, one, z))

  -- what is known of a desk that served, by its plan
  record Served (d : BookPlan B L) (n : ℕ) (required : Bool) (desk : DeskView) (mine : List HistoryEntry) : Type 0 where
    pub dealt : IsDealt (standing_at see (Some d) n required) desk
    pub by : AllBy d.starts.items d.workers n mine
    pub through : AreThrough (standing_at see (Some d) n required)
        (given_in (standing_at see (Some d) n required).cards mine)
    pub events : events_in (standing_at see (Some d) n required)
        (given_in (standing_at see (Some d) n required).cards mine) ≡ own_events mine

  served_by : (lock : TableId) (s0 s : SeatView HistoryEntry (BookPlan B L)) (required : Bool) (j : IsDeskPass lock s)
      (desk : DeskView)
      → place_of (record { pass = s; required = required }) ≡ place_of (record { pass = s0; required = required })
      → IsDealt (standing_of see (record { pass = s0; required = required })) desk
      → AreThrough (standing_of see (record { pass = s; required = required }))
      (given_of see (record { pass = s; required = required }))
      → Served j.plan (number_of s) required desk (mine_of s)
  served_by lock s0 s required j desk place dealt through =
      let is = standing_is see lock s required j in
      record {
        dealt = subst (λ (y : Standing). IsDealt y desk) (sym (standing_same s0 s required place) ∙ is) dealt;
        by = subst (AllBy j.plan.starts.items j.plan.workers (number_of s)) (sym j.pass.seat.receipts)
            (own_by j.plan.starts.items j.plan.workers (number_of s) (seen_of s) j.pass.reads.stamped);
        through = subst (λ (y : Standing). AreThrough y (given_in y.cards (mine_of s))) is through;
        events = subst (λ (y : Standing). events_in y (given_in y.cards (mine_of s)) ≡ own_events (mine_of s)) is
            (events_own see lock s required j);
      }

  -- a path that is handed back in the whole list was handed back by the desk
  backs_more : (d : BookPlan B L) (first more : List HistoryEntry) → RefusedBacks d.starts.items (own_events first)
      → noted (own_events more) ≡ [] → AreTurns (own_events more)
      → RefusedBacks d.starts.items (own_events (first ++ more))
  backs_more d first more backs quiet turns i p q required at begun =
      let x = get_map_back (λ (z : HistoryEntry). z.event) (first ++ more) i (HandBack p) at in
      split i (length first)
      (λ lt.
      let here = get_map (λ (z : HistoryEntry). z.event) first i x.0 (sym (get_within first more i lt) ∙ x.1)
      ∙ ap (λ (z : Event). Some z) x.2 in
      let r = backs i p q required here begun in
      let same = ap (notes d.starts.items q) (map-append (λ (z : HistoryEntry). z.event) first more)
      ∙ notes_quiet d.starts.items q (own_events first) (own_events more) quiet in
      (r.0, r.1, ap (fate_of p Untold) same ∙ r.2))
      (λ le.
      absurd (turns_back (own_events more) (i - length first) p turns
      (get_map (λ (z : HistoryEntry). z.event) more (i - length first) x.0 (sym (get_behind first more i le) ∙ x.1)
      ∙ ap (λ (z : Event). Some z) x.2)))

  pub desk_back : (lock : TableId) (s0 s t : SeatView HistoryEntry (BookPlan B L)) (required : Bool) (i : IsDeskPass lock s0)
      (j : IsDeskPass lock s) (desk : DeskView)
      → place_of (record { pass = s; required = required }) ≡ place_of (record { pass = s0; required = required })
      → IsDealt (standing_of see (record { pass = s0; required = required })) desk
      → AreThrough (standing_of see (record { pass = s; required = required }))
      (given_of see (record { pass = s; required = required }))
      → Idled see lock j.plan (number_of s) j.made s t → IsBack see lock i.plan (number_of s0) i.made t
  desk_back lock s0 s t required i j desk place dealt through idled =
      let w = idled.worked in
      let v = served_by lock s0 s required j desk place dealt through in
      let free = subst NoClaims (events_own see lock s required j) through.claims in
      let number = ap (λ (p : Place B L). p.number) place in
      let made : j.made ≡ i.made =
      sym j.pass.seat.makes ∙ (ap (λ (p : Place B L). p.made) place ∙ i.pass.seat.makes) in
      let back : IsBack see lock j.plan (number_of s) j.made t = record {
        nothing = w.nothing;
        shown = subst (IsShownAll see j.plan) (sym w.mine)
            (desk_shown j.plan (number_of s - j.plan.workers) (mine_of s) w.more free
            (desk_closed see j.plan (number_of s) required desk (mine_of s) (seat_is see lock s j) j.dealt j.own v.by
            v.dealt v.through v.events) w.quiet w.turns w.shown);
        backs = subst (λ (l : List HistoryEntry). RefusedBacks j.plan.starts.items (own_events l)) (sym w.mine)
            (backs_more j.plan (mine_of s) w.more
            (desk_refused see j.plan (number_of s) required desk (mine_of s) v.by v.dealt v.through v.events) w.quiet
            w.turns);
        left = λ q p lt seat own.
            let first = desk_left lock s0 s required j desk place dealt through q p seat own in
            ap (λ (l : List HistoryEntry). is_left p (own_events l)) w.mine
            ∙ (ap (is_left p) (map-append (λ (z : HistoryEntry). z.event) (mine_of s) w.more)
            ∙ left_more p (own_events (mine_of s)) (own_events w.more) first);
      } in
      subst (λ (d : BookPlan B L). IsBack see lock d (number_of s0) i.made t) (same_plan lock s0 s required i j place)
      (subst (λ (n : ℕ). IsBack see lock j.plan n i.made t) number
      (subst (λ (m : ℕ). IsBack see lock j.plan (number_of s) m t) made back))
