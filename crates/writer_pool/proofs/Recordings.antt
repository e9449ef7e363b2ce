-- What a recorder over a book was given, and what may follow.
use Rattle.std.proofs.Common.{◌≡◌, ◌==◌, ℕ, zero, suc, ◌+◌, ◌-◌, ◌≤◌, Bool, true, false, cond, List, [], ◌∷◌, ◌++◌, map, length, Option, Some, None, refl, sym, ap, ◌∙◌, subst, arith}
use Rattle.std.specs.Prelude.{slice_get}
use mathlib.Core.List.{map-append}
use Rattle.std.specs.Global.{Vec}
use Rattle.atomic_table.specs.Seated.{TableId}
use Rattle.turn_lock.specs.History.{own}
use Rattle.turn_lock.specs.Seat.{SeatView, mine_of, seen_of, told_of, number_of, made_of}
use Rattle.convert_plan.specs.declared.card.Card.{Card}
use Rattle.convert_plan.specs.Card.{CardSeen, IsCardOf, IsOneOf, IsRefusedCard, IsRefusedOneOf}
use Rattle.checkout_core.specs.declared.verdict.Own.{Own}
use Rattle.checkout_core.specs.declared.path.Start.{Start}
use Rattle.checkout_core.specs.declared.event.Event.{Event}
use Rattle.checkout_core.specs.declared.event.Event.TheVariants as ev
use Rattle.checkout_core.specs.declared.event.Event.TheVariants.{Close, HandBack}
use Rattle.checkout_core.specs.States.{Core}
use Rattle.checkout_core.specs.declared.path.Start.TheVariants as start
use Rattle.checkout_core.specs.States.{is_at}
use Rattle.checkout_core.specs.Hands.{held_at}
use Rattle.checkout_core.specs.Steps.{IsLegal}
use Rattle.checkout_core.specs.Actors.{actor_of, own_entries, is_claim, is_step, driver_in, driver_at, seat, own_driver}
use Rattle.checkout_core.specs.Desks.{MayNext, paths_of}
use Rattle.checkout_core.specs.Notes.{is_noted}
use Rattle.checkout_book.specs.declared.plan.BookPlan.{BookPlan}
use Rattle.checkout_book.specs.declared.plan.Parts.{Parts}
use Rattle.checkout_book.specs.declared.plan.HistoryEntry.{HistoryEntry}
use Rattle.checkout_book.specs.Sights.{Sight, seen, tell}
use Rattle.checkout_book.specs.Entries.{events_of}
use Rattle.checkout_book.specs.Shelves.{cards_of, joined, IsOut, IsRefused}
use Rattle.checkout_book.specs.Passes.{Stamped, IsPass, Closes, Appends, note_entry, close_entry}
use Rattle.checkout_book.specs.Reserving.{AreDealt}
use Rattle.driver_desk.specs.Recorders.{Standing, RecorderSeen, gave, event_of, events_in, MayDo}
use Rattle.driver_desk.specs.Serving.{Given, Noted, Closed, HandedBack}
use Rattle.card_worker.specs.Working.{own_events}
use Rattle.writer_pool.specs.OnBook.{card_of, closed_by, given_by, given_in, ClosesOwn, CloseOwn, Recording, place_of, items_of, desk_cards, IsDeskPass, Place, standing_at, standing_of, given_of, recorder_of}
use Rattle.writer_pool.proofs.Places.{some_is, same_number, eqb_self, get_map, get_map_back, get_front, get_second}
use Rattle.writer_pool.proofs.Dealt.{same_place, starts_at}

-- the entries are the actor's
abbrev pub AllBy : List Start → ℕ → ℕ → List HistoryEntry → Type 0
AllBy starts workers n [] = Unit {0}
AllBy starts workers n (e ∷ es) = (actor_of starts workers e.event ≡ Some n) × AllBy starts workers n es

pub own_by : (starts : List Start) (workers n : ℕ) (h : List (ℕ × HistoryEntry)) → Stamped starts workers h
    → AllBy starts workers n (own n h)
own_by starts workers n [] s = tt
own_by starts workers n (x ∷ xs) s = go (x.0 == n) refl (own_by starts workers n xs s.1)
  where
    go : (b : Bool) → (x.0 == n) ≡ b → AllBy starts workers n (own n xs)
        → AllBy starts workers n (cond b (x.1 ∷ own n xs) (own n xs))
    go true e more = (s.0 ∙ ap (λ (k : ℕ). Some k) (same_number x.0 n e), more)
    go false e more = more

-- the card that is found has the path
found_path : (p : ℕ) (cards : List CardSeen) (card : CardSeen) → card_of p cards ≡ Some card → card.path ≡ p
found_path p [] card e = absurd (cc (e))
found_path p (c ∷ cs) card e = go (λ f. found_path p cs card f) (c.path == p) refl e
  where
    go : (card_of p cs ≡ Some card → card.path ≡ p) → (b : Bool) → (c.path == p) ≡ b
        → cond b (Some c) (card_of p cs) ≡ Some card → card.path ≡ p
    go more true same f =
        let is : c ≡ card = some_is c card f in
        ap (λ (k : CardSeen). k.path) (sym is) ∙ same_number c.path p same
    go more false other f = more f

-- where no other card has its path, the card is found
pub is_found : (p : ℕ) (cards : List CardSeen) (card : CardSeen) (k : ℕ) → slice_get cards k ≡ Some card → card.path ≡ p
    → ((i : ℕ) (x : CardSeen) → slice_get cards i ≡ Some x → x.path ≡ p → x ≡ card) → card_of p cards ≡ Some card
is_found p [] card k at path one = absurd (cc (at))
is_found p (c ∷ cs) card zero at path one =
    let is : c ≡ card = some_is c card at in
    let same : (c.path == p) ≡ true =
    ap (λ (z : ℕ). z == p) (ap (λ (x : CardSeen). x.path) is ∙ path) ∙ eqb_self p in
    ap (λ (b : Bool). cond b (Some c) (card_of p cs)) same ∙ at
is_found p (c ∷ cs) card (suc k) at path one =
    go (is_found p cs card k at path (λ i x. one (suc i) x)) (c.path == p) refl
  where
    go : card_of p cs ≡ Some card → (b : Bool) → (c.path == p) ≡ b → cond b (Some c) (card_of p cs) ≡ Some card
    go more true same = ap (λ (x : CardSeen). Some x) (one zero c refl (same_number c.path p same))
    go more false other = more

-- what was given has the events of the own list
closed_event : (s : Standing) (p a n : ℕ) (o : Own) (x : Parts) (found : Option CardSeen) → s.workers + s.driver ≡ a
    → ((card : CardSeen) → found ≡ Some card → card.path ≡ p)
    → event_of s (closed_by (Close p a o) o x found) ≡ Close p a o
closed_event s p a n o x None same path = refl
closed_event s p a n o x (Some card) same path =
    ap (λ (q : ℕ). Close q (s.workers + s.driver) o) (path card refl) ∙ ap (λ (k : ℕ). Close p k o) same

given_event : (s : Standing) (n : ℕ) (starts : List Start) (cards : List CardSeen) (e : Event) (x : Option Parts)
    → s.workers + s.driver ≡ n → actor_of starts s.workers e ≡ Some n → event_of s (given_by cards e x) ≡ e
given_event s n starts cards (Close p a o) (Some x) seat by =
    let same : a ≡ n = some_is a n by in
    closed_event s p a n o x (card_of p cards) (seat ∙ sym same) (λ card e. found_path p cards card e)
given_event s n starts cards (Close p a o) None seat by = refl
given_event s n starts cards (HandBack p) x seat by = refl
given_event s n starts cards (ev.Claim p a) x seat by = refl
given_event s n starts cards (ev.Opened d c) x seat by = refl
given_event s n starts cards (ev.OpenFailed p o) x seat by = refl
given_event s n starts cards (ev.Answered p y) x seat by = refl
given_event s n starts cards (ev.Named p) x seat by = refl
given_event s n starts cards (ev.Listed d y) x seat by = refl
given_event s n starts cards (ev.Redone p y) x seat by = refl
given_event s n starts cards (ev.Shut d) x seat by = refl

given_events : (s : Standing) (n : ℕ) (starts : List Start) (cards : List CardSeen) (es : List HistoryEntry)
    → s.workers + s.driver ≡ n → AllBy starts s.workers n es → events_in s (given_in cards es) ≡ own_events es
given_events s n starts cards [] seat by = refl
given_events s n starts cards (e ∷ es) seat by =
    ap (λ (f : Event). f ∷ events_in s (given_in cards es)) (given_event s n starts cards e.event e.parts seat by.0)
    ∙ ap (λ (l : List Event). e.event ∷ l) (given_events s n starts cards es seat by.1)

given_more : (cards : List CardSeen) (xs : List HistoryEntry) (e : HistoryEntry)
    → given_in cards (xs ++ e ∷ []) ≡ given_in cards xs ++ given_by cards e.event e.parts ∷ []
given_more cards xs e = map-append (λ (z : HistoryEntry). given_by cards z.event z.parts) xs (e ∷ [])

-- a note is given as it is
noted_given : (cards : List CardSeen) (e : Event) → is_noted e ≡ true → given_by cards e None ≡ Noted e
noted_given cards (ev.Claim p a) is = absurd (cc (is))
noted_given cards (Close p a o) is = absurd (cc (is))
noted_given cards (HandBack p) is = absurd (cc (is))
noted_given cards (ev.Opened d c) is = refl
noted_given cards (ev.OpenFailed p o) is = refl
noted_given cards (ev.Answered p y) is = refl
noted_given cards (ev.Named p) is = refl
noted_given cards (ev.Listed d y) is = refl
noted_given cards (ev.Redone p y) is = refl
noted_given cards (ev.Shut d) is = refl

-- the actor of a note is the desk of its driver
note_actor : (starts : List Start) (workers q : ℕ) (e : Event) → is_noted e ≡ true → driver_in starts e ≡ Some q
    → actor_of starts workers e ≡ Some (workers + q)
note_actor starts workers q (ev.Claim p a) is of = absurd (cc (is))
note_actor starts workers q (Close p a o) is of = absurd (cc (is))
note_actor starts workers q (HandBack p) is of = absurd (cc (is))
note_actor starts workers q (ev.Opened d c) is of = ap (seat workers) of
note_actor starts workers q (ev.OpenFailed p o) is of = ap (seat workers) of
note_actor starts workers q (ev.Answered p y) is of = ap (seat workers) of
note_actor starts workers q (ev.Named p) is of = ap (seat workers) of
note_actor starts workers q (ev.Listed d y) is of = ap (seat workers) of
note_actor starts workers q (ev.Redone p y) is of = ap (seat workers) of
note_actor starts workers q (ev.Shut d) is of = ap (seat workers) of

note_free : (e : Event) → is_noted e ≡ true → is_claim e ≡ false
note_free (ev.Claim p a) is = absurd (cc (is))
note_free (Close p a o) is = refl
note_free (HandBack p) is = refl
note_free (ev.Opened d c) is = refl
note_free (ev.OpenFailed p o) is = refl
note_free (ev.Answered p y) is = refl
note_free (ev.Named p) is = refl
note_free (ev.Listed d y) is = refl
note_free (ev.Redone p y) is = refl
note_free (ev.Shut d) is = refl

drops : (b x : Bool) → x ≡ false → cond b false x ≡ false
drops true x e = refl
drops false x e = e

-- what may follow an actor's own entries is a step
abbrev pub FollowIsStep : Type 0
FollowIsStep = (starts : List Start) (workers drivers a : ℕ) (history : List Event) (x : Core) (e : Event)
    → IsLegal starts workers drivers history x → actor_of starts workers e ≡ Some a
    → MayNext starts workers drivers (own_entries starts workers a history) e → is_claim e ≡ false
    → is_step x e ≡ true

abbrev pub ListsOwn : Type 0 → Type 0 → Type 0
ListsOwn B L = (lock : TableId) (d : BookPlan B L) (n made : ℕ) (pass : SeatView HistoryEntry (BookPlan B L)) (c : Core)
    → IsPass lock d n made pass c
    → own_entries d.starts.items d.workers n (events_of (seen_of pass)) ≡ map (λ e. e.event) (mine_of pass)

own_more : (starts : List Start) (q : ℕ) (xs : List HistoryEntry) (e : HistoryEntry) → CloseOwn starts q xs
    → ClosesOwn starts q e.event e.parts → CloseOwn starts q (xs ++ e ∷ [])
own_more starts q [] e all last = (last, tt)
own_more starts q (x ∷ xs) e all last = (all.0, own_more starts q xs e all.1 last)

note_own : (starts : List Start) (q : ℕ) (e : Event) → is_noted e ≡ true → ClosesOwn starts q e None
note_own starts q (ev.Claim p a) is = tt
note_own starts q (Close p a o) is = absurd (cc (is))
note_own starts q (HandBack p) is = tt
note_own starts q (ev.Opened d c) is = tt
note_own starts q (ev.OpenFailed p o) is = tt
note_own starts q (ev.Answered p y) is = tt
note_own starts q (ev.Named p) is = tt
note_own starts q (ev.Listed d y) is = tt
note_own starts q (ev.Redone p y) is = tt
note_own starts q (ev.Shut d) is = tt

driver_is : (q : ℕ) (s : Start) → is_at q s ≡ true → own_driver s ≡ Some q
driver_is q start.Pool at = absurd (cc (at))
driver_is q (start.Done v) at = absurd (cc (at))
driver_is q (start.Desk d r) at = ap (λ (k : ℕ). Some k) (sym (same_number q d at))

-- a path of a driver
path_driver : (q : ℕ) (starts : List Start) (i p : ℕ) → slice_get (paths_of q starts) i ≡ Some p
    → driver_at starts p ≡ Some q
path_driver q starts i p e =
    let s = starts_at q starts i p e in
    ap (λ (o : Option Start). elim o [ None ↦ None | Some s ↦ own_driver s ]) s.there ∙ driver_is q s.start s.at

module _ {B L : Type 0} where
  in_joined : (vs : List (Vec (Card B L))) (q : ℕ) (k : ℕ) (c : Card B L)
      → slice_get (items_of (slice_get vs q)) k ≡ Some c → (j : ℕ) × (slice_get (joined vs) j ≡ Some c)
  in_joined [] q k c e = absurd (cc (e))
  in_joined (v ∷ vs) zero k c e = (k, get_front v.items (joined vs) k c e)
  in_joined (v ∷ vs) (suc q) k c e =
      let r = in_joined vs q k c e in
      (length v.items + r.0, get_second v.items (joined vs) r.0 ∙ r.1)

  -- a desk's card is a planned one
  pub in_cards : (d : BookPlan B L) (q k : ℕ) (c : Card B L) → slice_get (desk_cards d q) k ≡ Some c
      → (j : ℕ) × (slice_get (cards_of d) j ≡ Some c)
  in_cards d q k c e =
      let r = in_joined d.desks.items q k c e in
      (length d.pool.items + r.0, get_second d.pool.items (joined d.desks.items) r.0 ∙ r.1)

  -- the paths of a desk's cards
  dealt_at : (starts : List Start) (k : ℕ) (vs : List (Vec (Card B L))) (q i : ℕ) (c : Card B L)
      → AreDealt starts k vs → slice_get (items_of (slice_get vs q)) i ≡ Some c
      → slice_get (paths_of (k + q) starts) i ≡ Some c.path
  dealt_at starts k [] q i c dealt e = absurd (cc (e))
  dealt_at starts k (v ∷ vs) zero i c dealt e =
      let n : k ≡ k + zero = omega arith in
      subst (λ (z : ℕ). slice_get (paths_of z starts) i ≡ Some c.path) n
      (ap (λ (l : List ℕ). slice_get l i) (sym dealt.0) ∙ get_map (λ (x : Card B L). x.path) v.items i c e)
  dealt_at starts k (v ∷ vs) (suc q) i c dealt e =
      let n : suc k + q ≡ k + suc q = omega arith in
      subst (λ (z : ℕ). slice_get (paths_of z starts) i ≡ Some c.path) n (dealt_at starts (suc k) vs q i c dealt.1 e)

module _ {B L : Type 0} (see : Sight B L) where
  -- a desk has one card of each path
  pub one_card : (d : BookPlan B L) (q : ℕ) → AreDealt d.starts.items 0 d.desks.items → (i j : ℕ) (x y : CardSeen)
      → slice_get (map (λ c. seen see c) (desk_cards d q)) i ≡ Some x
      → slice_get (map (λ c. seen see c) (desk_cards d q)) j ≡ Some y → x.path ≡ y.path → x ≡ y
  one_card d q dealt i j x y e f same =
      let cards = map (λ (c : Card B L). seen see c) (desk_cards d q) in
      let n : 0 + q ≡ q = omega arith in
      let a = get_map_back (λ (c : Card B L). seen see c) (desk_cards d q) i x e in
      let b = get_map_back (λ (c : Card B L). seen see c) (desk_cards d q) j y f in
      let first = ap (λ (z : ℕ). slice_get (paths_of z d.starts.items) i) (sym n)
      ∙ dealt_at d.starts.items 0 d.desks.items q i a.0 dealt a.1
      ∙ ap (λ (c : CardSeen). Some c.path) a.2 in
      let second = ap (λ (z : ℕ). slice_get (paths_of z d.starts.items) j) (sym n)
      ∙ dealt_at d.starts.items 0 d.desks.items q j b.0 dealt b.1
      ∙ (ap (λ (c : CardSeen). Some c.path) b.2 ∙ ap (λ (p : ℕ). Some p) (sym same)) in
      let place : i ≡ j = same_place q d.starts.items i j x.path first second in
      some_is x y (sym e ∙ (ap (slice_get cards) place ∙ f))

  close_own : (d : BookPlan B L) (q : ℕ) (card : Card B L) → AreDealt d.starts.items 0 d.desks.items
      → IsOneOf (map (λ c. seen see c) (desk_cards d q)) (seen see card) → driver_at d.starts.items card.path ≡ Some q
  close_own d q card dealt of =
      let n : 0 + q ≡ q = omega arith in
      let b = get_map_back (λ (c : Card B L). seen see c) (desk_cards d q) of.0 of.1 of.2 in
      let path : b.0.path ≡ card.path =
      ap (λ (c : CardSeen). c.path) b.2 ∙ sym (ap (λ (c : CardSeen). c.path) of.3) in
      let there = subst (λ (z : ℕ). slice_get (paths_of z d.starts.items) of.0 ≡ Some b.0.path) n
      (dealt_at d.starts.items 0 d.desks.items q of.0 b.0 dealt b.1) in
      path_driver q d.starts.items of.0 card.path (there ∙ ap (λ (p : ℕ). Some p) path)

  -- a card that is closed is given whole
  closed_whole : (planned card : CardSeen) → IsCardOf planned card → card.ready ≡ None
      → record planned { blob = card.blob; leaf = card.leaf; ready = None } ≡ card
  closed_whole planned card of unready =
      sym (ap (λ (k : CardSeen). record k { blob = card.blob; leaf = card.leaf; ready = None }) of)
      ∙ ap (λ r. record card { ready = r }) (sym unready)

  given_close : (d : BookPlan B L) (q n : ℕ) (o : Own) (card : Card B L) → AreDealt d.starts.items 0 d.desks.items
      → IsOneOf (map (λ c. seen see c) (desk_cards d q)) (seen see card) → card.ready ≡ None
      → given_by (map (λ c. seen see c) (desk_cards d q)) (Close card.path n o) (Some (tell see card.blob card.leaf))
      ≡ Closed o (seen see card)
  given_close d q n o card dealt of unready =
      let cards = map (λ (c : Card B L). seen see c) (desk_cards d q) in
      let planned = of.1 in
      let path : planned.path ≡ card.path = sym (ap (λ (c : CardSeen). c.path) of.3) in
      let x = tell see card.blob card.leaf in
      ap (λ (f : Option CardSeen). closed_by (Close card.path n o) o x f)
      (is_found card.path cards planned of.0 of.2 path
      (λ i y at same. one_card d q dealt i of.0 y planned at of.2 (same ∙ sym path)))
      ∙ ap (λ (c : CardSeen). Closed o c) (closed_whole planned (seen see card) of.3 unready)

  -- after an entry more
  pub record After (lock : TableId) (r : Recording B L) (t : SeatView HistoryEntry (BookPlan B L)) (required : Bool) (g : Given)
      : Type 0 where
    pub desk : IsDeskPass lock t
    pub given : given_of see (record { pass = t; required = required }) ≡ given_of see r ++ g ∷ []
    pub standing : standing_of see (record { pass = t; required = required }) ≡ standing_of see r
    pub place : place_of (record { pass = t; required = required }) ≡ place_of r

  -- it is one more entry, and nothing else
  pub is_gave : (r s : Recording B L) (g : Given) → given_of see s ≡ given_of see r ++ g ∷ []
      → standing_of see s ≡ standing_of see r → place_of s ≡ place_of r → recorder_of see s ≡ gave (recorder_of see r) g
  is_gave r s g given standing place =
      ap (λ (z : Standing). recorded z (given_of see s) (place_of s)) standing
      ∙ (ap (λ (z : List Given). recorded (standing_of see r) z (place_of s)) given
      ∙ ap (λ (z : Place B L). recorded (standing_of see r) (given_of see r ++ g ∷ []) z) place)
    where
      recorded : Standing → List Given → Place B L → RecorderSeen (Place B L)
      recorded z gs p = record { standing = z; given = gs; fixed = p }

  pub standing_is : (lock : TableId) (s : SeatView HistoryEntry (BookPlan B L)) (required : Bool) (i : IsDeskPass lock s)
      → standing_of see (record { pass = s; required = required })
      ≡ standing_at see (Some i.plan) (number_of s) required
  standing_is lock s required i =
      ap (λ (o : Option (BookPlan B L)). standing_at see o (number_of s) required) i.pass.seat.told

  after : (lock : TableId) (s t : SeatView HistoryEntry (BookPlan B L)) (required : Bool) (g : Given) (i : IsDeskPass lock s)
      (c : Core) (e : HistoryEntry) → IsPass lock i.plan (number_of s) i.made t c → mine_of t ≡ mine_of s ++ e ∷ []
      → ((q : ℕ) → held_at c (number_of s) q ≡ false)
      → ClosesOwn i.plan.starts.items (number_of s - i.plan.workers) e.event e.parts
      → given_by (map (λ c. seen see c) (desk_cards i.plan (number_of s - i.plan.workers))) e.event e.parts ≡ g
      → After lock (record { pass = s; required = required }) t required g
  after lock s t required g i c e pass mine hands own is =
      let d = i.plan in
      let told : told_of t ≡ told_of s = pass.seat.told ∙ sym i.pass.seat.told in
      let number : number_of t ≡ number_of s = pass.seat.named in
      let place : t.lock ≡ s.lock = pass.seat.of ∙ sym i.pass.seat.of in
      let made : made_of t ≡ made_of s = pass.seat.makes ∙ sym i.pass.seat.makes in
      let cards0 = (standing_of see (record { pass = s; required = required })).cards in
      let standing : standing_of see (record { pass = t; required = required })
      ≡ standing_of see (record { pass = s; required = required }) =
      λ k. standing_at see (told k) (number k) required in
      let there = ap (λ (x : Standing). given_by x.cards e.event e.parts) (standing_is lock s required i) ∙ is in
      record {
        desk = record {
          plan = d;
          made = i.made;
          core = c;
          pass = subst (λ (n : ℕ). IsPass lock d n i.made t c) (sym number) pass;
          desk = subst (λ (n : ℕ). d.workers ≤ n) (sym number) i.desk;
          dealt = i.dealt;
          hands = subst (λ (n : ℕ). (q : ℕ) → held_at c n q ≡ false) (sym number) hands;
          own = subst (λ (n : ℕ). CloseOwn d.starts.items (n - d.workers) (mine_of t)) (sym number)
              (subst (CloseOwn d.starts.items (number_of s - d.workers)) (sym mine)
              (own_more d.starts.items (number_of s - d.workers) (mine_of s) e i.own own));
        };
        given = ap (λ (x : Standing). given_in x.cards (mine_of t)) standing
            ∙ (ap (λ (l : List HistoryEntry). given_in cards0 l) mine
            ∙ (given_more cards0 (mine_of s) e
            ∙ ap (λ (x : Given). given_in cards0 (mine_of s) ++ x ∷ []) there));
        standing = standing;
        place = λ k. record { lock = place k; plan = told k; number = number k; made = made k };
      }

  pub seat_is : (lock : TableId) (s : SeatView HistoryEntry (BookPlan B L)) (i : IsDeskPass lock s)
      → i.plan.workers + (number_of s - i.plan.workers) ≡ number_of s
  seat_is lock s i = let le = i.desk in omega (arith, le)

  -- what was given has the events of the pass's own list
  pub events_own : (lock : TableId) (s : SeatView HistoryEntry (BookPlan B L)) (required : Bool) (i : IsDeskPass lock s)
      → events_in (standing_of see (record { pass = s; required = required }))
      (given_of see (record { pass = s; required = required })) ≡ own_events (mine_of s)
  events_own lock s required i =
      let d = i.plan in
      let n = number_of s in
      let x = standing_at see (Some d) n required in
      let by_own = subst (AllBy d.starts.items d.workers n) (sym i.pass.seat.receipts)
      (own_by d.starts.items d.workers n (seen_of s) i.pass.reads.stamped) in
      ap (λ (y : Standing). events_in y (given_in y.cards (mine_of s))) (standing_is lock s required i)
      ∙ given_events x n d.starts.items x.cards (mine_of s) (seat_is lock s i) by_own

  -- what the recorder may be given is a step of the book's pass
  may_step : FollowIsStep → ListsOwn B L → (lock : TableId) (s : SeatView HistoryEntry (BookPlan B L)) (required : Bool)
      (i : IsDeskPass lock s) (e : Event) → is_claim e ≡ false
      → actor_of i.plan.starts.items i.plan.workers e ≡ Some (number_of s)
      → MayDo (standing_at see (Some i.plan) (number_of s) required)
      (given_in (standing_at see (Some i.plan) (number_of s) required).cards (mine_of s)) e → is_step i.core e ≡ true
  may_step follows lists lock s required i e free by may =
      let d = i.plan in
      let n = number_of s in
      let x = standing_at see (Some d) n required in
      let by_own = subst (AllBy d.starts.items d.workers n) (sym i.pass.seat.receipts)
      (own_by d.starts.items d.workers n (seen_of s) i.pass.reads.stamped) in
      let same = given_events x n d.starts.items x.cards (mine_of s) (seat_is lock s i) by_own
      ∙ sym (lists lock d n i.made s i.core i.pass) in
      follows d.starts.items d.workers d.drivers n (events_of (seen_of s)) i.core e i.pass.reads.run by
      (subst (λ (l : List Event). MayNext d.starts.items d.workers d.drivers l e) same may) free

  note_by : (lock : TableId) (s : SeatView HistoryEntry (BookPlan B L)) (required : Bool) (i : IsDeskPass lock s) (e : Event)
      → is_noted e ≡ true
      → driver_in (standing_of see (record { pass = s; required = required })).starts e
      ≡ Some (standing_of see (record { pass = s; required = required })).driver
      → actor_of i.plan.starts.items i.plan.workers e ≡ Some (number_of s)
  note_by lock s required i e is own =
      let own1 = subst (λ (x : Standing). driver_in x.starts e ≡ Some x.driver) (standing_is lock s required i) own in
      note_actor i.plan.starts.items i.plan.workers (number_of s - i.plan.workers) e is own1
      ∙ ap (λ (n : ℕ). Some n) (seat_is lock s i)

  note_step : FollowIsStep → ListsOwn B L → (lock : TableId) (s : SeatView HistoryEntry (BookPlan B L)) (required : Bool)
      (i : IsDeskPass lock s) (e : Event) → is_noted e ≡ true
      → driver_in (standing_of see (record { pass = s; required = required })).starts e
      ≡ Some (standing_of see (record { pass = s; required = required })).driver
      → MayDo (standing_of see (record { pass = s; required = required }))
      (given_of see (record { pass = s; required = required })) e → is_step i.core e ≡ true
  note_step follows lists lock s required i e is own may =
      may_step follows lists lock s required i e (note_free e is) (note_by lock s required i e is own)
      (subst (λ (x : Standing). MayDo x (given_in x.cards (mine_of s)) e) (standing_is lock s required i) may)

  after_note : (lock : TableId) (s t : SeatView HistoryEntry (BookPlan B L)) (required : Bool) (i : IsDeskPass lock s)
      (e : Event) → is_noted e ≡ true → Appends lock i.plan (number_of s) i.made s t i.core e
      → After lock (record { pass = s; required = required }) t required (Noted e)
  after_note lock s t required i e is k =
      after lock s t required (Noted e) i k.core (note_entry e) k.turn.pass k.mine
      (λ q. k.hands q ∙ i.hands q) (note_own i.plan.starts.items (number_of s - i.plan.workers) e is)
      (noted_given (map (λ (c : Card B L). seen see c) (desk_cards i.plan (number_of s - i.plan.workers))) e is)

  close_step : FollowIsStep → ListsOwn B L → (lock : TableId) (s : SeatView HistoryEntry (BookPlan B L)) (required : Bool)
      (i : IsDeskPass lock s) (p : ℕ) (o : Own)
      → MayDo (standing_of see (record { pass = s; required = required }))
      (given_of see (record { pass = s; required = required }))
      (Close p ((standing_of see (record { pass = s; required = required })).workers
      + (standing_of see (record { pass = s; required = required })).driver) o)
      → is_step i.core (Close p (number_of s) o) ≡ true
  close_step follows lists lock s required i p o may =
      let x = standing_at see (Some i.plan) (number_of s) required in
      let may1 = subst (λ (x : Standing). MayDo x (given_in x.cards (mine_of s)) (Close p (x.workers + x.driver) o))
      (standing_is lock s required i) may in
      may_step follows lists lock s required i (Close p (number_of s) o) refl refl
      (subst (λ (n : ℕ). MayDo x (given_in x.cards (mine_of s)) (Close p n o)) (seat_is lock s i) may1)

  close_out : (lock : TableId) (s : SeatView HistoryEntry (BookPlan B L)) (required : Bool) (i : IsDeskPass lock s)
      (card : Card B L)
      → IsOneOf (standing_of see (record { pass = s; required = required })).cards (seen see card)
      → IsOut see (cards_of i.plan) card
  close_out lock s required i card of0 =
      let q = number_of s - i.plan.workers in
      let of = subst (λ (x : Standing). IsOneOf x.cards (seen see card)) (standing_is lock s required i) of0 in
      let b = get_map_back (λ (c : Card B L). seen see c) (desk_cards i.plan q) of.0 of.1 of.2 in
      let r = in_cards i.plan q of.0 b.0 b.1 in
      (r.0, b.0, r.1, subst (λ (c : CardSeen). IsCardOf c (seen see card)) (sym b.2) of.3)

  after_close : (lock : TableId) (s t : SeatView HistoryEntry (BookPlan B L)) (required : Bool) (i : IsDeskPass lock s)
      (card : Card B L) (o : Own)
      → IsOneOf (standing_of see (record { pass = s; required = required })).cards (seen see card)
      → card.ready ≡ None
      → Closes lock i.plan (number_of s) i.made s t i.core card.path o (tell see card.blob card.leaf)
      → After lock (record { pass = s; required = required }) t required (Closed o (seen see card))
  after_close lock s t required i card o of0 unready k =
      let q = number_of s - i.plan.workers in
      let of = subst (λ (x : Standing). IsOneOf x.cards (seen see card)) (standing_is lock s required i) of0 in
      after lock s t required (Closed o (seen see card)) i k.core
      (close_entry card.path (number_of s) o (tell see card.blob card.leaf)) k.turn.pass k.mine
      (λ r. k.hands r ∙ drops (r == card.path) (held_at i.core (number_of s) r) (i.hands r))
      (close_own i.plan q card i.dealt of)
      (given_close i.plan q (number_of s) o card i.dealt of unready)

  back_by : (lock : TableId) (s : SeatView HistoryEntry (BookPlan B L)) (required : Bool) (i : IsDeskPass lock s) (p : ℕ)
      → driver_at (standing_of see (record { pass = s; required = required })).starts p
      ≡ Some (standing_of see (record { pass = s; required = required })).driver
      → actor_of i.plan.starts.items i.plan.workers (HandBack p) ≡ Some (number_of s)
  back_by lock s required i p own =
      let own1 = subst (λ (x : Standing). driver_at x.starts p ≡ Some x.driver) (standing_is lock s required i) own in
      ap (seat i.plan.workers) own1 ∙ ap (λ (n : ℕ). Some n) (seat_is lock s i)

  back_step : FollowIsStep → ListsOwn B L → (lock : TableId) (s : SeatView HistoryEntry (BookPlan B L)) (required : Bool)
      (i : IsDeskPass lock s) (p : ℕ)
      → driver_at (standing_of see (record { pass = s; required = required })).starts p
      ≡ Some (standing_of see (record { pass = s; required = required })).driver
      → MayDo (standing_of see (record { pass = s; required = required }))
      (given_of see (record { pass = s; required = required })) (HandBack p) → is_step i.core (HandBack p) ≡ true
  back_step follows lists lock s required i p own may =
      may_step follows lists lock s required i (HandBack p) refl (back_by lock s required i p own)
      (subst (λ (x : Standing). MayDo x (given_in x.cards (mine_of s)) (HandBack p)) (standing_is lock s required i)
      may)

  back_refused : (lock : TableId) (s : SeatView HistoryEntry (BookPlan B L)) (required : Bool) (i : IsDeskPass lock s)
      (card : Card B L)
      → IsRefusedOneOf (standing_of see (record { pass = s; required = required })).cards (seen see card)
      → IsRefused see (cards_of i.plan) card
  back_refused lock s required i card of0 =
      let q = number_of s - i.plan.workers in
      let of = subst (λ (x : Standing). IsRefusedOneOf x.cards (seen see card)) (standing_is lock s required i) of0 in
      let b = get_map_back (λ (c : Card B L). seen see c) (desk_cards i.plan q) of.0 of.1 of.2 in
      let r = in_cards i.plan q of.0 b.0 b.1 in
      (r.0, b.0, r.1, subst (λ (c : CardSeen). IsRefusedCard c (seen see card)) (sym b.2) of.3)

  after_back : (lock : TableId) (s t : SeatView HistoryEntry (BookPlan B L)) (required : Bool) (i : IsDeskPass lock s) (p : ℕ)
      → Appends lock i.plan (number_of s) i.made s t i.core (HandBack p)
      → After lock (record { pass = s; required = required }) t required (HandedBack p)
  after_back lock s t required i p k =
      after lock s t required (HandedBack p) i k.core (note_entry (HandBack p)) k.turn.pass k.mine
      (λ q. k.hands q ∙ i.hands q) tt refl

  -- the same of what is seen of a recorder
  pub note_may : FollowIsStep → ListsOwn B L → (lock : TableId) (s : SeatView HistoryEntry (BookPlan B L)) (required : Bool)
      (r : Recording B L) → record { pass = s; required = required } ≡ r → (i : IsDeskPass lock s) (e : Event)
      → is_noted e ≡ true → driver_in (standing_of see r).starts e ≡ Some (standing_of see r).driver
      → MayDo (standing_of see r) (given_of see r) e
      → (actor_of i.plan.starts.items i.plan.workers e ≡ Some (number_of s)) × (is_step i.core e ≡ true)
  note_may follows lists lock s required r is i e noted = subst (λ (x : Recording B L).
      driver_in (standing_of see x).starts e ≡ Some (standing_of see x).driver
      → MayDo (standing_of see x) (given_of see x) e
      → (actor_of i.plan.starts.items i.plan.workers e ≡ Some (number_of s)) × (is_step i.core e ≡ true)) is
      (λ own may. (
        note_by lock s required i e noted own,
        note_step follows lists lock s required i e noted own may,
      ))

  pub noted : (lock : TableId) (s t : SeatView HistoryEntry (BookPlan B L)) (required : Bool) (r : Recording B L)
      → record { pass = s; required = required } ≡ r → (i : IsDeskPass lock s) (e : Event) → is_noted e ≡ true
      → Appends lock i.plan (number_of s) i.made s t i.core e → After lock r t required (Noted e)
  noted lock s t required r is i e free k =
      subst (λ (x : Recording B L). After lock x t required (Noted e)) is (after_note lock s t required i e free k)

  pub close_may : FollowIsStep → ListsOwn B L → (lock : TableId) (s : SeatView HistoryEntry (BookPlan B L)) (required : Bool)
      (r : Recording B L) → record { pass = s; required = required } ≡ r → (i : IsDeskPass lock s) (card : Card B L)
      (o : Own) → IsOneOf (standing_of see r).cards (seen see card)
      → MayDo (standing_of see r) (given_of see r)
      (Close card.path ((standing_of see r).workers + (standing_of see r).driver) o)
      → (is_step i.core (Close card.path (number_of s) o) ≡ true) × IsOut see (cards_of i.plan) card
  close_may follows lists lock s required r is i card o = subst (λ (x : Recording B L).
      IsOneOf (standing_of see x).cards (seen see card) → MayDo (standing_of see x) (given_of see x)
      (Close card.path ((standing_of see x).workers + (standing_of see x).driver) o)
      → (is_step i.core (Close card.path (number_of s) o) ≡ true) × IsOut see (cards_of i.plan) card) is
      (λ of may. (
        close_step follows lists lock s required i card.path o may,
        close_out lock s required i card of,
      ))

  pub closed : (lock : TableId) (s t : SeatView HistoryEntry (BookPlan B L)) (required : Bool) (r : Recording B L)
      → record { pass = s; required = required } ≡ r → (i : IsDeskPass lock s) (card : Card B L) (o : Own)
      → IsOneOf (standing_of see r).cards (seen see card) → card.ready ≡ None
      → Closes lock i.plan (number_of s) i.made s t i.core card.path o (tell see card.blob card.leaf)
      → After lock r t required (Closed o (seen see card))
  closed lock s t required r is i card o of unready k = subst (λ (x : Recording B L).
      IsOneOf (standing_of see x).cards (seen see card) → After lock x t required (Closed o (seen see card))) is
      (λ of0. after_close lock s t required i card o of0 unready k) of

  pub back_may : FollowIsStep → ListsOwn B L → (lock : TableId) (s : SeatView HistoryEntry (BookPlan B L)) (required : Bool)
      (r : Recording B L) → record { pass = s; required = required } ≡ r → (i : IsDeskPass lock s) (card : Card B L)
      → IsRefusedOneOf (standing_of see r).cards (seen see card)
      → driver_at (standing_of see r).starts card.path ≡ Some (standing_of see r).driver
      → MayDo (standing_of see r) (given_of see r) (HandBack card.path)
      → (actor_of i.plan.starts.items i.plan.workers (HandBack card.path) ≡ Some (number_of s))
      × (is_step i.core (HandBack card.path) ≡ true) × IsRefused see (cards_of i.plan) card
  back_may follows lists lock s required r is i card = subst (λ (x : Recording B L).
      IsRefusedOneOf (standing_of see x).cards (seen see card)
      → driver_at (standing_of see x).starts card.path ≡ Some (standing_of see x).driver
      → MayDo (standing_of see x) (given_of see x) (HandBack card.path)
      → (actor_of i.plan.starts.items i.plan.workers (HandBack card.path) ≡ Some (number_of s))
      × (is_step i.core (HandBack card.path) ≡ true) × IsRefused see (cards_of i.plan) card) is
      (λ of own may. (
        back_by lock s required i card.path own,
        back_step follows lists lock s required i card.path own may,
        back_refused lock s required i card of,
      ))

  pub handed_back : (lock : TableId) (s t : SeatView HistoryEntry (BookPlan B L)) (required : Bool) (r : Recording B L)
      → record { pass = s; required = required } ≡ r → (i : IsDeskPass lock s) (p : ℕ)
      → Appends lock i.plan (number_of s) i.made s t i.core (HandBack p) → After lock r t required (HandedBack p)
  handed_back lock s t required r is i p k =
      subst (λ (x : Recording B L). After lock x t required (HandedBack p)) is (after_back lock s t required i p k)
