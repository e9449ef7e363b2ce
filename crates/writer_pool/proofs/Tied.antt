-- How a desk's cards ended, by what their objects gave: in its own list, and in the history.
use Rattle.std.proofs.Common.{◌≡◌, ℕ, zero, suc, ◌+◌, ◌-◌, ◌<◌, ◌≤◌, ⊎_elim, Bool, true, false, cond, List, [], ◌∷◌, ◌++◌, length, Option, Some, None, Result, Ok, Err, refl, sym, ap, ◌∙◌, subst, arith}
use Rattle.std.specs.Prelude.{slice_get}
use Rattle.atomic_table.specs.Seated.{TableId}
use Rattle.turn_lock.specs.Seat.{SeatView, mine_of, number_of}
use Rattle.checkout_core.specs.declared.event.Event.{Event}
use Rattle.checkout_core.specs.declared.event.Event.TheVariants.{Claim, Close, HandBack}
use Rattle.checkout_core.specs.declared.path.Start.{Start}
use Rattle.checkout_core.specs.declared.path.Start.TheVariants.{Desk}
use Rattle.checkout_core.specs.declared.verdict.Own.{Own}
use Rattle.checkout_core.specs.Actors.{actor_of, own_entries, is_actor, is_own, own_driver, seat}
use Rattle.checkout_core.specs.Desks.{was_read}
use Rattle.checkout_core.specs.States.{Core}
use Rattle.checkout_core.specs.Steps.{IsLegal}
use Rattle.checkout_book.specs.declared.plan.BookPlan.{BookPlan}
use Rattle.checkout_book.specs.declared.plan.HistoryEntry.{HistoryEntry}
use Rattle.checkout_book.specs.Sights.{Sight}
use Rattle.driver_desk.specs.Desks.{DeskView, IsDealt}
use Rattle.driver_desk.specs.Recorders.{Standing}
use Rattle.driver_desk.specs.Serving.{Given}
use Rattle.driver_desk.specs.Ties.{FitsOwn, HasContent, AllFit, AreTied}
use Rattle.driver_desk.specs.Works.{WorkSeen}
use Rattle.writer_pool.specs.OnBook.{IsDeskPass, given_in, place_of, standing_of, given_of}
use Rattle.writer_pool.specs.Tying.{IsTiedIn, AreTiedIn, IsTiedAt}
use Rattle.card_worker.specs.Turns.{AreTurns}
use Rattle.card_worker.specs.Working.{Idled, own_events}
use Rattle.writer_pool.proofs.Places.{some_is, eqb_self, get_map, get_map_back, get_within, get_behind, split}
use Rattle.writer_pool.proofs.TurnSteps.{turns_back}
use Rattle.writer_pool.proofs.Resting.{TakesPath, ClosesPath}
use Rattle.writer_pool.proofs.Rows.{BacksPath, KeepsPaths}
use Rattle.writer_pool.proofs.Backs.{closed_by_desk}
use Rattle.writer_pool.proofs.Acting.{turn_claim}
use Rattle.writer_pool.proofs.Recordings.{standing_is}
use Rattle.writer_pool.proofs.DeskClosings.{closed_fits, back_fits}
use Rattle.writer_pool.proofs.DeskActing.{standing_same}

tied_at : (works : List WorkSeen) (given : List Given) (k : ℕ) (w : WorkSeen) → AreTied works given
    → slice_get works k ≡ Some w → AllFit w.card.path w.content given
tied_at [] given k w all at = absurd (cc (at))
tied_at (x ∷ ws) given zero w all at =
    subst (λ (y : WorkSeen). AllFit y.card.path y.content given) (some_is x w at) all.0
tied_at (x ∷ ws) given (suc k) w all at = tied_at ws given k w all.1 at

-- an event of a list is that of an entry
entry_of : (es : List HistoryEntry) (i : ℕ) (e : Event) → slice_get (own_events es) i ≡ Some e
    → (x : HistoryEntry) × (slice_get es i ≡ Some x) × (x.event ≡ e)
entry_of es i e at = get_map_back (λ (z : HistoryEntry). z.event) es i e at

-- behind the first entries, the event is one of the others
later_event : (first more : List HistoryEntry) (i : ℕ) (e : Event) → length first ≤ i
    → slice_get (own_events (first ++ more)) i ≡ Some e
    → slice_get (own_events more) (i - length first) ≡ Some e
later_event first more i e le at =
    let x = entry_of (first ++ more) i e at in
    get_map (λ (z : HistoryEntry). z.event) more (i - length first) x.0 (sym (get_behind first more i le) ∙ x.1)
    ∙ ap (λ (z : Event). Some z) x.2

module _ {B L : Type 0} (see : Sight B L) where
  -- a card that the desk served ended as what its object gave says
  work_tied : (lock : TableId) (s0 s : SeatView HistoryEntry (BookPlan B L)) (more : List HistoryEntry) (required : Bool)
      (j : IsDeskPass lock s) (desk : DeskView)
      → place_of (record { pass = s; required = required }) ≡ place_of (record { pass = s0; required = required })
      → IsDealt (standing_of see (record { pass = s0; required = required })) desk → AreTurns (own_events more)
      → (w : WorkSeen)
      → AllFit w.card.path w.content (given_of see (record { pass = s; required = required }))
      → IsTiedIn (own_events (mine_of s ++ more)) w
  work_tied lock s0 s more required j desk place dealt turns w all =
      let d = j.plan in
      let n = number_of s in
      let p = w.card.path in
      let is = standing_is see lock s required j in
      let of = subst (λ (y : Standing). IsDealt y desk)
      (sym (standing_same see s0 s required place) ∙ is) dealt in
      let given = subst (λ (y : Standing). AllFit p w.content (given_in y.cards (mine_of s))) is all in
      record {
        closed = λ i a o at free. split i (length (mine_of s))
            (λ lt.
            let x = entry_of (mine_of s ++ more) i (Close p a o) at in
            closed_fits see d n required desk (mine_of s) j.dealt j.own of w.content p given i a o x.0
            (sym (get_within (mine_of s) more i lt) ∙ x.1) x.2)
            (λ le.
            let t = turn_claim (mine_of s) more (i - length (mine_of s)) i p a o turns (omega (arith, le))
            (later_event (mine_of s) more i (Close p a o) le at) in
            absurd (free t.0 t.1 t.2));
        back = λ i at. split i (length (mine_of s))
            (λ lt.
            let x = entry_of (mine_of s ++ more) i (HandBack p) at in
            back_fits _ (mine_of s) w.content p given i x.0 (sym (get_within (mine_of s) more i lt) ∙ x.1) x.2)
            (λ le. absurd (turns_back (own_events more) (i - length (mine_of s)) p turns
            (later_event (mine_of s) more i (HandBack p) le at)));
      }

  pub desk_tied : (lock : TableId) (s0 s t : SeatView HistoryEntry (BookPlan B L)) (required : Bool)
      (j : IsDeskPass lock s) (desk : DeskView)
      → place_of (record { pass = s; required = required }) ≡ place_of (record { pass = s0; required = required })
      → IsDealt (standing_of see (record { pass = s0; required = required })) desk → (works : List WorkSeen)
      → AreTied works (given_of see (record { pass = s; required = required }))
      → Idled see lock j.plan (number_of s) j.made s t → AreTiedIn (own_events (mine_of t)) works
  desk_tied lock s0 s t required j desk place dealt works tied idled k w at =
      let x = idled.worked in
      subst (λ (l : List HistoryEntry). IsTiedIn (own_events l) w) (sym x.mine)
      (work_tied lock s0 s x.more required j desk place dealt x.turns w
      (tied_at works (given_of see (record { pass = s; required = required })) k w tied at))

-- where an event of the history stands among its actor's own, behind just such as came before it in the history
record OwnEvent (starts : List Start) (workers n : ℕ) (es : List Event) (i : ℕ) (e : Event) : Type 0 where
  pub place : ℕ
  pub there : slice_get (own_entries starts workers n es) place ≡ Some e
  pub before : (k : ℕ) (f : Event) → k < place → slice_get (own_entries starts workers n es) k ≡ Some f
      → (j : ℕ) × (j < i) × (slice_get es j ≡ Some f)

module _ (starts : List Start) (workers n : ℕ) where
  own_first : (x : Event) (es : List Event) (e : Event) → x ≡ e → actor_of starts workers e ≡ Some n
      → OwnEvent starts workers n (x ∷ es) zero e
  own_first x es e is by =
      let mine = own_entries starts workers n es in
      let own : is_own starts workers n x ≡ true =
      ap (is_own starts workers n) is ∙ (ap (is_actor n) by ∙ eqb_self n) in
      record {
        place = zero;
        there = ap (λ (b : Bool). slice_get (cond b (x ∷ mine) mine) zero) own ∙ ap (λ (y : Event). Some y) is;
        before = λ k f lt at. absurd (omega (arith, lt));
      }

  own_later : (x : Event) (es : List Event) (i : ℕ) (e : Event) → OwnEvent starts workers n es i e
      → OwnEvent starts workers n (x ∷ es) (suc i) e
  own_later x es i e r = go (is_own starts workers n x) refl
    where
      mine : List Event
      mine = own_entries starts workers n es

      go : (b : Bool) → is_own starts workers n x ≡ b → OwnEvent starts workers n (x ∷ es) (suc i) e
      go true own = record {
        place = suc r.place;
        there = ap (λ (l : List Event). slice_get l (suc r.place)) list ∙ r.there;
        before = λ k f lt at. first k f lt (sym (ap (λ (l : List Event). slice_get l k) list) ∙ at);
      }
        where
          list : own_entries starts workers n (x ∷ es) ≡ x ∷ mine
          list = ap (λ (b : Bool). cond b (x ∷ mine) mine) own

          first : (k : ℕ) (f : Event) → k < suc r.place → slice_get (x ∷ mine) k ≡ Some f
              → (j : ℕ) × (j < suc i) × (slice_get (x ∷ es) j ≡ Some f)
          first zero f lt at = (zero, omega arith, at)
          first (suc k) f lt at =
              let q = r.before k f (omega (arith, lt)) at in
              let less = q.1 in
              (suc q.0, omega (arith, less), q.2)
      go false other = record {
        place = r.place;
        there = ap (λ (l : List Event). slice_get l r.place) list ∙ r.there;
        before = λ k f lt at.
            let q = r.before k f lt (sym (ap (λ (l : List Event). slice_get l k) list) ∙ at) in
            let less = q.1 in
            (suc q.0, omega (arith, less), q.2);
      }
        where
          list : own_entries starts workers n (x ∷ es) ≡ mine
          list = ap (λ (b : Bool). cond b (x ∷ mine) mine) other

  own_event : (es : List Event) (i : ℕ) (e : Event) → slice_get es i ≡ Some e → actor_of starts workers e ≡ Some n
      → OwnEvent starts workers n es i e
  own_event [] i e at by = absurd (cc (at))
  own_event (x ∷ es) zero e at by = own_first x es e (some_is x e at) by
  own_event (x ∷ es) (suc i) e at by = own_later x es i e (own_event es i e at by)

fits_read : (content : Result (List ℕ) Own) (o : Own) → HasContent content → was_read o ≡ true → FitsOwn content o
fits_read (Ok content) o has read = read
fits_read (Err own) o has read = absurd has

-- what ended as its object's content says in the own list of its desk was closed so in the history
pub tied_in_history : TakesPath → ClosesPath → BacksPath → KeepsPaths → (starts : List Start)
    (workers drivers q : ℕ) (history : List Event) (x : Core) → IsLegal starts workers drivers history x
    → (mine : List Event) → own_entries starts workers (workers + q) history ≡ mine → (w : WorkSeen) (required : Bool)
    → IsTiedIn mine w → slice_get starts w.card.path ≡ Some (Desk q required) → IsTiedAt history w
tied_in_history takes closes backs keeps starts workers drivers q history x legal mine same w required tied begun place
    actor o at =
    let n = workers + q in
    let p = w.card.path in ⊎_elim
    (λ (h : (actor ≡ n) × ((j : ℕ) → j < place → slice_get history j ≡ Some (Claim p actor) → ⊥)).
    let e = own_event starts workers n history place (Close p actor o) at (ap (λ (k : ℕ). Some k) h.0) in
    tied.closed e.place actor o (ap (λ (l : List Event). slice_get l e.place) (sym same) ∙ e.there)
    (λ j lt claim.
    let y = e.before j (Claim p actor) lt (ap (λ (l : List Event). slice_get l j) same ∙ claim) in
    h.1 y.0 y.1 y.2))
    (λ (h : ((k : ℕ) × (slice_get history k ≡ Some (HandBack p))) × (was_read o ≡ true)).
    let e = own_event starts workers n history h.0.0 (HandBack p) h.0.1
    (ap (λ (s : Option Start). seat workers (elim s as (λ _. Option ℕ) [ None ↦ None | Some s ↦ own_driver s ]))
    begun) in
    fits_read w.content o (tied.back e.place (ap (λ (l : List Event). slice_get l e.place) (sym same) ∙ e.there)) h.1)
    (closed_by_desk takes closes backs keeps starts workers drivers p q required history x begun legal place actor o at)
