-- What a desk's own list shows of the cards that it closed.
use Rattle.std.proofs.Common.{◌≡◌, ◌==◌, ◌⊎◌, ℕ, zero, suc, ◌+◌, ◌-◌, Bool, true, false, cond, List, [], ◌∷◌, map, Option, Some, None, Result, refl, sym, ap, ◌∙◌, subst, arith}
use Rattle.std.specs.Prelude.{slice_get}
use Rattle.edge_kit.specs.Seen.{LeafSeen}
use Rattle.delay_table.specs.Table.{contains}
use Rattle.convert_plan.specs.declared.card.Card.{Card}
use Rattle.convert_plan.specs.Card.{CardSeen}
use Rattle.checkout_core.specs.declared.event.Event.{Event}
use Rattle.checkout_core.specs.declared.event.Event.TheVariants.{Close, HandBack}
use Rattle.checkout_core.specs.declared.path.Heard.{Heard}
use Rattle.checkout_core.specs.declared.path.Start.{Start}
use Rattle.checkout_core.specs.declared.path.Start.TheVariants.{Pool, Desk, Done}
use Rattle.checkout_core.specs.declared.verdict.Own.{Own}
use Rattle.checkout_core.specs.States.{is_at}
use Rattle.checkout_core.specs.Actors.{actor_of, driver_at, own_driver, seat}
use Rattle.checkout_core.specs.Desks.{paths_of}
use Rattle.checkout_core.specs.Fates.{Fate, Untold, Known, fate_of}
use Rattle.checkout_core.specs.Notes.{notes}
use Rattle.checkout_book.specs.declared.plan.BookPlan.{BookPlan}
use Rattle.checkout_book.specs.declared.plan.Parts.{Parts}
use Rattle.checkout_book.specs.declared.plan.HistoryEntry.{HistoryEntry}
use Rattle.checkout_book.specs.Sights.{Sight, seen}
use Rattle.checkout_book.specs.Shelves.{cards_of}
use Rattle.checkout_book.specs.Passes.{close_entry}
use Rattle.checkout_book.specs.Reserving.{AreDealt}
use Rattle.driver_desk.specs.Desks.{DeskView, IsDealt, AreThrough}
use Rattle.driver_desk.specs.Recorders.{Standing, ShowsClose, Shows, AreShown, events_in, fate_now}
use Rattle.driver_desk.specs.Serving.{Given, Closed, IfClosed, AllClosed}
use Rattle.driver_desk.specs.Shown.{ShowsRead, ShowsUnread}
use Rattle.driver_desk.specs.Ties.{FitsOwn, HasContent, FitsEnd, AllFit}
use Rattle.driver_desk.specs.Works.{card_paths}
use Rattle.writer_pool.specs.Closing.{RefusedBacks, closed_card, ServesCard}
use Rattle.writer_pool.specs.OnBook.{card_of, closed_by, given_by, given_in, ClosesOwn, CloseOwn, desk_cards, standing_at}
use Rattle.card_worker.specs.Working.{blob_in, leaf_in, own_events}
use Rattle.writer_pool.proofs.Places.{some_is, eqb_self, get_map, get_map_back}
use Rattle.writer_pool.proofs.Recordings.{AllBy, is_found, in_cards, one_card}

own_at : (starts : List Start) (q : ℕ) (es : List HistoryEntry) (i : ℕ) (e : HistoryEntry) → CloseOwn starts q es
    → slice_get es i ≡ Some e → ClosesOwn starts q e.event e.parts
own_at starts q [] i e own at = absurd (cc (at))
own_at starts q (x ∷ es) zero e own at =
    subst (λ (z : HistoryEntry). ClosesOwn starts q z.event z.parts) (some_is x e at) own.0
own_at starts q (x ∷ es) (suc i) e own at = own_at starts q es i e own.1 at

by_at : (starts : List Start) (workers n : ℕ) (es : List HistoryEntry) (i : ℕ) (e : HistoryEntry) → AllBy starts workers n es
    → slice_get es i ≡ Some e → actor_of starts workers e.event ≡ Some n
by_at starts workers n [] i e all at = absurd (cc (at))
by_at starts workers n (x ∷ es) zero e all at =
    subst (λ (z : HistoryEntry). actor_of starts workers z.event ≡ Some n) (some_is x e at) all.0
by_at starts workers n (x ∷ es) (suc i) e all at = by_at starts workers n es i e all.1 at

closes_own : (starts : List Start) (q : ℕ) (e : Event) (x : Option Parts) (p a : ℕ) (o : Own) → e ≡ Close p a o
    → ClosesOwn starts q e x → (y : Parts) × (x ≡ Some y) × (driver_at starts p ≡ Some q)
closes_own starts q e x p a o is own = go x (subst (λ (z : Event). ClosesOwn starts q z x) is own)
  where
    go : (x : Option Parts) → ClosesOwn starts q (Close p a o) x
        → (y : Parts) × (x ≡ Some y) × (driver_at starts p ≡ Some q)
    go None own = absurd own
    go (Some y) own = (y, refl, own)

own_start : (s : Start) (q : ℕ) → own_driver s ≡ Some q → is_at q s ≡ true
own_start Pool q e = absurd (cc (e))
own_start (Done v) q e = absurd (cc (e))
own_start (Desk d r) q e = ap (λ (z : ℕ). q == z) (some_is d q e) ∙ eqb_self q

driver_start : (starts : List Start) (p q : ℕ) → driver_at starts p ≡ Some q
    → (s : Start) × (slice_get starts p ≡ Some s) × (is_at q s ≡ true)
driver_start starts p q e = go (slice_get starts p) refl e
  where
    go : (o : Option Start) → slice_get starts p ≡ o
        → elim o as (λ _. Option ℕ) [ None ↦ None | Some s ↦ own_driver s ] ≡ Some q
        → (s : Start) × (slice_get starts p ≡ Some s) × (is_at q s ≡ true)
    go None is e = absurd (cc (e))
    go (Some s) is e = (s, is, own_start s q e)

-- a path of a driver has a place among the driver's
path_there : (q : ℕ) (starts : List Start) (p : ℕ) (s : Start) → slice_get starts p ≡ Some s → is_at q s ≡ true
    → (i : ℕ) × (slice_get (paths_of q starts) i ≡ Some p)
path_there q [] p s e at = absurd (cc (e))
path_there q (x ∷ ss) zero s e at =
    let is : is_at q x ≡ true = ap (is_at q) (some_is x s e) ∙ at in
    let rest = map (λ (n : ℕ). suc n) (paths_of q ss) in
    (0, ap (λ (b : Bool). slice_get (cond b (zero ∷ rest) rest) 0) is)
path_there q (x ∷ ss) (suc p) s e at = go (is_at q x) (path_there q ss p s e at)
  where
    go : (b : Bool) → (i : ℕ) × (slice_get (paths_of q ss) i ≡ Some p)
        → (i : ℕ) × (slice_get (cond b (zero ∷ map (λ (n : ℕ). suc n) (paths_of q ss))
        (map (λ (n : ℕ). suc n) (paths_of q ss))) i ≡ Some (suc p))
    go true r = (suc r.0, get_map (λ (n : ℕ). suc n) (paths_of q ss) r.0 p r.1)
    go false r = (r.0, get_map (λ (n : ℕ). suc n) (paths_of q ss) r.0 p r.1)

card_at : (cards : List CardSeen) (i p : ℕ) → slice_get (card_paths cards) i ≡ Some p
    → (c : CardSeen) × (slice_get cards i ≡ Some c) × (c.path ≡ p)
card_at [] i p e = absurd (cc (e))
card_at (c ∷ cs) zero p e = (c, refl, some_is c.path p e)
card_at (c ∷ cs) (suc i) p e = card_at cs i p e

pub contains_at : (ps : List ℕ) (i p : ℕ) → slice_get ps i ≡ Some p → contains p ps ≡ true
contains_at [] i p e = absurd (cc (e))
contains_at (q ∷ ps) zero p e =
    ap (λ (b : Bool). cond b true (contains p ps)) (ap (λ (z : ℕ). p == z) (some_is q p e) ∙ eqb_self p)
contains_at (q ∷ ps) (suc i) p e = go (p == q) (contains_at ps i p e)
  where
    go : (b : Bool) → contains p ps ≡ true → cond b true (contains p ps) ≡ true
    go true h = refl
    go false h = h

shows_at : (s : Standing) (given gs : List Given) (i : ℕ) (g : Given) → AreShown s given gs → slice_get gs i ≡ Some g
    → Shows s given g
shows_at s given [] i g all at = absurd (cc (at))
shows_at s given (x ∷ gs) zero g all at = subst (Shows s given) (some_is x g at) all.0
shows_at s given (x ∷ gs) (suc i) g all at = shows_at s given gs i g all.1 at

closed_at : (P : ℕ → LeafSeen → Type 0) (gs : List Given) (i : ℕ) (g : Given) → AllClosed P gs
    → slice_get gs i ≡ Some g → IfClosed P g
closed_at P [] i g all at = absurd (cc (at))
closed_at P (x ∷ gs) zero g all at = subst (IfClosed P) (some_is x g at) all.0
closed_at P (x ∷ gs) (suc i) g all at = closed_at P gs i g all.1 at

fits_at : (p : ℕ) (content : Result (List ℕ) Own) (gs : List Given) (i : ℕ) (g : Given) → AllFit p content gs
    → slice_get gs i ≡ Some g → FitsEnd p content g
fits_at p content [] i g all at = absurd (cc (at))
fits_at p content (x ∷ gs) zero g all at = subst (FitsEnd p content) (some_is x g at) all.0
fits_at p content (x ∷ gs) (suc i) g all at = fits_at p content gs i g all.1 at

-- a card that was handed back has a content
pub back_fits : (cards : List CardSeen) (mine : List HistoryEntry) (content : Result (List ℕ) Own) (p : ℕ)
    → AllFit p content (given_in cards mine) → (i : ℕ) (e : HistoryEntry) → slice_get mine i ≡ Some e
    → e.event ≡ HandBack p → HasContent content
back_fits cards mine content p all i e at is =
    let here = subst (FitsEnd p content) (ap (λ (f : Event). given_by cards f e.parts) is)
    (fits_at p content (given_in cards mine) i (given_by cards e.event e.parts) all
    (get_map (λ (z : HistoryEntry). given_by cards z.event z.parts) mine i e at)) in
    here refl

-- the path that an actor hands back is its driver's
back_driver : (starts : List Start) (workers n p : ℕ) → seat workers (driver_at starts p) ≡ Some n
    → driver_at starts p ≡ Some (n - workers)
back_driver starts workers n p e = go (driver_at starts p) e
  where
    go : (o : Option ℕ) → seat workers o ≡ Some n → o ≡ Some (n - workers)
    go None e = absurd (cc (e))
    go (Some q) e =
        let is : workers + q ≡ n = some_is (workers + q) n e in
        ap (λ (z : ℕ). Some z) (omega (arith, is))

module _ {B L : Type 0} (see : Sight B L) where
  -- a Close of a desk that claimed nothing, in its own list
  pub record DeskClose (d : BookPlan B L) (q : ℕ) (mine : List Event) (p a : ℕ) (o : Own) (parts : Option Parts)
      : Type 0 where
    pub ended : Parts
    pub there : parts ≡ Some ended
    pub number : ℕ
    pub card : Card B L
    pub planned : slice_get (cards_of d) number ≡ Some card
    pub path : card.path ≡ p
    pub driver : driver_at d.starts.items p ≡ Some q
    pub seat : a ≡ d.workers + q
    pub required : Bool
    pub begun : slice_get d.starts.items p ≡ Some (Desk q required)
    pub served : ServesCard required (fate_of p Untold (notes d.starts.items q mine)) (seen see card) o
        (blob_in ended) (leaf_in ended)

  -- its card
  record ClosedCard (d : BookPlan B L) (q : ℕ) (required : Bool) (p : ℕ) : Type 0 where
    pub place : ℕ
    pub card : Card B L
    pub number : ℕ
    pub planned : slice_get (cards_of d) number ≡ Some card
    pub here : slice_get (map (λ c. seen see c) (desk_cards d q)) place ≡ Some (seen see card)
    pub path : card.path ≡ p
    pub begun : slice_get d.starts.items p ≡ Some (Desk q required)

  card_closed : (d : BookPlan B L) (n : ℕ) (required : Bool) (desk : DeskView) (p : ℕ)
      → IsDealt (standing_at see (Some d) n required) desk → driver_at d.starts.items p ≡ Some (n - d.workers)
      → ClosedCard d (n - d.workers) required p
  card_closed d n required desk p dealt driver =
      let q = n - d.workers in
      let starts = d.starts.items in
      let cards = map (λ (c : Card B L). seen see c) (desk_cards d q) in
      let s = driver_start starts p q driver in
      let i = path_there q starts p s.0 s.1 s.2 in
      let all : card_paths cards ≡ paths_of q starts = ap (λ (l : List CardSeen). card_paths l) dealt.cards ∙ dealt.all in
      let c = card_at cards i.0 p (ap (λ (l : List ℕ). slice_get l i.0) all ∙ i.1) in
      let k = get_map_back (λ (c : Card B L). seen see c) (desk_cards d q) i.0 c.0 c.1 in
      let j = in_cards d q i.0 k.0 k.1 in
      record {
        place = i.0;
        card = k.0;
        number = j.0;
        planned = j.1;
        here = c.1 ∙ ap (λ (x : CardSeen). Some x) (sym k.2);
        path = ap (λ (x : CardSeen). x.path) k.2 ∙ c.2;
        begun = dealt.own p (ap (contains p) dealt.all ∙ contains_at (paths_of q starts) i.0 p i.1);
      }

  -- what was given for its entry
  given_closed : (d : BookPlan B L) (q : ℕ) (required : Bool) (e : HistoryEntry) (p a : ℕ) (o : Own) (x : Parts)
      → AreDealt d.starts.items 0 d.desks.items → e.event ≡ Close p a o → e.parts ≡ Some x
      → (c : ClosedCard d q required p)
      → given_by (map (λ c. seen see c) (desk_cards d q)) e.event e.parts
      ≡ Closed o (closed_card (seen see c.card) (blob_in x) (leaf_in x))
  given_closed d q required e p a o x dealt is parts c =
      let cards = map (λ (c : Card B L). seen see c) (desk_cards d q) in
      let found : card_of p cards ≡ Some (seen see c.card) = is_found p cards (seen see c.card) c.place c.here c.path
      (λ m y at same. one_card see d q dealt m c.place y (seen see c.card) at c.here (same ∙ sym c.path)) in
      (λ k. given_by cards (is k) (parts k)) ∙ ap (λ (f : Option CardSeen). closed_by (Close p a o) o x f) found

  card_served : (d : BookPlan B L) (n : ℕ) (required : Bool) (given : List Given) (p : ℕ) (o : Own) (x : Parts)
      → AreDealt d.starts.items 0 d.desks.items → (c : ClosedCard d (n - d.workers) required p)
      → ShowsClose (standing_at see (Some d) n required) given o
      (closed_card (seen see c.card) (blob_in x) (leaf_in x))
      → ServesCard required (fate_now (standing_at see (Some d) n required) given p) (seen see c.card) o (blob_in x)
      (leaf_in x)
  card_served d n required given p o x dealt c shows =
      let s = standing_at see (Some d) n required in
      let card = seen see c.card in
      let closed = closed_card card (blob_in x) (leaf_in x) in
      let is : shows.planned ≡ card = one_card see d (n - d.workers) dealt shows.place c.place shows.planned card
      shows.here c.here (sym (ap (λ (k : CardSeen). k.path) shows.same)) in
      subst (λ (f : Fate). ServesCard required f card o (blob_in x) (leaf_in x)) (ap (fate_now s given) c.path)
      (subst (λ (y : CardSeen). ShowsUnread y o closed ⊎ ((h : Heard) × (fate_now s given card.path ≡ Known h)
      × ShowsRead required h y o closed)) is shows.shows)

  pub desk_closed : (d : BookPlan B L) (n : ℕ) (required : Bool) (desk : DeskView) (mine : List HistoryEntry)
      → d.workers + (n - d.workers) ≡ n → AreDealt d.starts.items 0 d.desks.items
      → CloseOwn d.starts.items (n - d.workers) mine → AllBy d.starts.items d.workers n mine
      → IsDealt (standing_at see (Some d) n required) desk
      → AreThrough (standing_at see (Some d) n required)
      (given_in (standing_at see (Some d) n required).cards mine)
      → events_in (standing_at see (Some d) n required) (given_in (standing_at see (Some d) n required).cards mine)
      ≡ own_events mine
      → (i : ℕ) (e : HistoryEntry) (p a : ℕ) (o : Own) → slice_get mine i ≡ Some e → e.event ≡ Close p a o
      → DeskClose d (n - d.workers) (own_events mine) p a o e.parts
  desk_closed d n required desk mine seat dealt closes by of through events i e p a o at is =
      let q = n - d.workers in
      let s = standing_at see (Some d) n required in
      let given = given_in s.cards mine in
      let own = closes_own d.starts.items q e.event e.parts p a o is (own_at d.starts.items q mine i e closes at) in
      let c = card_closed d n required desk p of own.2 in
      let shows = subst (Shows s given) (given_closed d q required e p a o own.0 dealt is own.1 c)
      (shows_at s given given i (given_by s.cards e.event e.parts) through.shown
      (get_map (λ (z : HistoryEntry). given_by s.cards z.event z.parts) mine i e at)) in
      let actor : Some a ≡ Some n = sym (ap (actor_of d.starts.items d.workers) is)
      ∙ by_at d.starts.items d.workers n mine i e by at in
      record {
        ended = own.0;
        there = own.1;
        number = c.number;
        card = c.card;
        planned = c.planned;
        path = c.path;
        driver = own.2;
        seat = some_is a n actor ∙ sym seat;
        required = required;
        begun = c.begun;
        served = subst (λ (es : List Event). ServesCard required (fate_of p Untold (notes d.starts.items q es))
            (seen see c.card) o (blob_in own.0) (leaf_in own.0)) events
            (card_served d n required given p o own.0 dealt c shows);
      }

  -- what holds of the leaf of each card that the desk closed
  pub closed_own : (d : BookPlan B L) (n : ℕ) (required : Bool) (desk : DeskView) (mine : List HistoryEntry)
      → AreDealt d.starts.items 0 d.desks.items → CloseOwn d.starts.items (n - d.workers) mine
      → IsDealt (standing_at see (Some d) n required) desk → (P : ℕ → LeafSeen → Type 0)
      → AllClosed P (given_in (standing_at see (Some d) n required).cards mine)
      → (i p a : ℕ) (o : Own) (x : Parts) → slice_get mine i ≡ Some (close_entry p a o x) → P p (leaf_in x)
  closed_own d n required desk mine dealt closes of P all i p a o x at =
      let q = n - d.workers in
      let s = standing_at see (Some d) n required in
      let e = close_entry p a o x in
      let c = card_closed d n required desk p of (own_at d.starts.items q mine i e closes at) in
      let here = subst (IfClosed P) (given_closed d q required e p a o x dealt refl refl c)
      (closed_at P (given_in s.cards mine) i (given_by s.cards e.event e.parts) all
      (get_map (λ (z : HistoryEntry). given_by s.cards z.event z.parts) mine i e at)) in
      subst (λ (z : ℕ). P z (leaf_in x)) c.path here

  -- each Close that the desk gave fits what its card's object gave
  pub closed_fits : (d : BookPlan B L) (n : ℕ) (required : Bool) (desk : DeskView) (mine : List HistoryEntry)
      → AreDealt d.starts.items 0 d.desks.items → CloseOwn d.starts.items (n - d.workers) mine
      → IsDealt (standing_at see (Some d) n required) desk → (content : Result (List ℕ) Own) (p : ℕ)
      → AllFit p content (given_in (standing_at see (Some d) n required).cards mine)
      → (i a : ℕ) (o : Own) (e : HistoryEntry) → slice_get mine i ≡ Some e → e.event ≡ Close p a o → FitsOwn content o
  closed_fits d n required desk mine dealt closes of content p all i a o e at is =
      let q = n - d.workers in
      let s = standing_at see (Some d) n required in
      let own = closes_own d.starts.items q e.event e.parts p a o is (own_at d.starts.items q mine i e closes at) in
      let c = card_closed d n required desk p of own.2 in
      let here = subst (FitsEnd p content) (given_closed d q required e p a o own.0 dealt is own.1 c)
      (fits_at p content (given_in s.cards mine) i (given_by s.cards e.event e.parts) all
      (get_map (λ (z : HistoryEntry). given_by s.cards z.event z.parts) mine i e at)) in
      here c.path

  -- what was handed back was refused
  pub desk_refused : (d : BookPlan B L) (n : ℕ) (required : Bool) (desk : DeskView) (mine : List HistoryEntry)
      → AllBy d.starts.items d.workers n mine → IsDealt (standing_at see (Some d) n required) desk
      → AreThrough (standing_at see (Some d) n required)
      (given_in (standing_at see (Some d) n required).cards mine)
      → events_in (standing_at see (Some d) n required) (given_in (standing_at see (Some d) n required).cards mine)
      ≡ own_events mine
      → RefusedBacks d.starts.items (own_events mine)
  desk_refused d n required desk mine by of through events i p k wanted at begun =
      let q = n - d.workers in
      let starts = d.starts.items in
      let s = standing_at see (Some d) n required in
      let given = given_in s.cards mine in
      let x = get_map_back (λ (e : HistoryEntry). e.event) mine i (HandBack p) at in
      let e = x.0 in
      let actor = sym (ap (actor_of starts d.workers) x.2) ∙ by_at starts d.workers n mine i e by x.1 in
      let driver = back_driver starts d.workers n p actor in
      let c = card_closed d n required desk p of driver in
      let back = subst (Shows s given) (ap (λ (f : Event). given_by s.cards f e.parts) x.2)
      (shows_at s given given i (given_by s.cards e.event e.parts) through.shown
      (get_map (λ (z : HistoryEntry). given_by s.cards z.event z.parts) mine i e x.1)) in
      let start : Desk q required ≡ Desk k wanted =
      some_is (Desk q required) (Desk k wanted) (sym c.begun ∙ begun) in
      let same_driver : q ≡ k = cc (start) in
      let same : required ≡ wanted = cc (start) in (
        sym same ∙ back.free,
        back.why,
        sym (λ m. fate_of p Untold (notes starts (same_driver m) (events m))) ∙ back.told,
      )
