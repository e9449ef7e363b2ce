-- What a pool leaves, from the plan of its book to what the caller gave.
use Rattle.std.proofs.Common.{◌≡◌, ℕ, zero, suc, ◌+◌, ◌<◌, List, [], ◌∷◌, length, Some, sym, ap, ◌∙◌, subst, arith}
use Rattle.edge_kit.specs.Seen.{LeafSeen}
use Rattle.std.specs.Prelude.{slice_get}
use Rattle.atomic_table.specs.Seated.{TableId}
use Rattle.turn_lock.specs.Seat.{SeatView, mine_of}
use Rattle.edge_kit.specs.Starters.{StarterSeen}
use Rattle.convert_plan.specs.declared.card.Card.{Card}
use Rattle.checkout_core.specs.declared.event.Event.{Event}
use Rattle.checkout_core.specs.declared.path.Start.{Start}
use Rattle.checkout_core.specs.declared.verdict.Verdict.{Verdict}
use Rattle.checkout_core.specs.Actors.{own_entries}
use Rattle.checkout_core.specs.Notes.{noted, notes}
use Rattle.checkout_book.specs.declared.plan.BookPlan.{BookPlan}
use Rattle.checkout_book.specs.declared.plan.HistoryEntry.{HistoryEntry}
use Rattle.checkout_book.specs.Shape.{Shelf}
use Rattle.checkout_book.specs.Sights.{Sight}
use Rattle.writer_pool.specs.declared.jobs.JobEnd.{JobEnd}
use Rattle.writer_pool.specs.Dealing.{JobSeen}
use Rattle.writer_pool.specs.Ends.{AreBack, IsRun, AreEnds}
use Rattle.writer_pool.specs.Jobs.{EndSeen, AreThroughJobs, passes_in}
use Rattle.writer_pool.specs.Sealing.{EndsIn, EndsAt, EndsOn, leaf_at}
use Rattle.card_worker.specs.Working.{own_events}
use Rattle.writer_pool.proofs.Places.{some_is}
use Rattle.writer_pool.proofs.Acting.{passes_back, passes_length}

pub run_is : (starts0 starts : List Start) (w0 w d0 d : ℕ) (history : List Event) (verdicts : List Verdict)
    → starts0 ≡ starts → w0 ≡ w → d0 ≡ d → IsRun starts0 w0 d0 history verdicts → IsRun starts w d history verdicts
run_is starts0 starts w0 w d0 d history verdicts a b c run =
    subst (λ (l : List Start). IsRun l w d history verdicts) a
    (subst (λ (n : ℕ). IsRun starts0 n d history verdicts) b
    (subst (λ (n : ℕ). IsRun starts0 w0 n history verdicts) c run))

pass_at : {P S : Type 0} (ts : List (JobEnd P S)) (i : ℕ) (t : JobEnd P S) → slice_get ts i ≡ Some t
    → slice_get (passes_in ts) i ≡ Some t.pass
pass_at [] i t at = absurd (cc (at))
pass_at (x ∷ ts) zero t at = ap (λ y. Some (y.pass)) (some_is x t at)
pass_at (x ∷ ts) (suc i) t at = pass_at ts i t at

module _ {B L : Type 0} (see : Sight B L) where
  pub ends_in : (starts0 starts : List Start) (history : List Event) (cards0 cards : List (Card B L)) (bs : List B)
      (ls : List L) → starts0 ≡ starts → cards0 ≡ cards → AreEnds see starts0 history cards0 0 starts0 bs ls
      → AreEnds see starts history cards 0 starts bs ls
  ends_in starts0 starts history cards0 cards bs ls a b ends =
      subst (λ (l : List Start). AreEnds see l history cards 0 l bs ls) a
      (subst (λ (l : List (Card B L)). AreEnds see starts0 history l 0 starts0 bs ls) b ends)

module _ {S B L : Type 0} (starter : S → StarterSeen) (see : Sight B L) where
  pub pool_back : (lock : TableId) (d : BookPlan B L) (js : List (JobSeen B L)) (ts : List (EndSeen S B L))
      (ps : List (SeatView HistoryEntry (BookPlan B L))) → ps ≡ passes_in ts
      → AreThroughJobs starter see lock d 0 (length js) js ts
      → AreBack see lock d 0 (length ps) ps × (length ps ≡ length js)
  pool_back lock d js ts ps is through =
      let n : length ps ≡ length js =
      ap length is ∙ (passes_length starter see lock d 0 (length js) js ts through).1 in (
        subst (λ (m : ℕ). AreBack see lock d 0 m ps) (sym n)
            (subst (λ (l : List (SeatView HistoryEntry (BookPlan B L))). AreBack see lock d 0 (length js) l) (sym is)
            (passes_back starter see lock d 0 (length js) js ts through)),
        n,
      )

-- the history has of each driver what its desk's own list notes
pub pool_noted : {S B L : Type 0} (d : BookPlan B L) (ts : List (EndSeen S B L)) (ps : List (SeatView HistoryEntry (BookPlan B L)))
    (starts : List Start) (history events : List Event) (w : ℕ) → ps ≡ passes_in ts → d.starts.items ≡ starts
    → d.workers ≡ w → history ≡ events
    → ((q : ℕ) (s : SeatView HistoryEntry (BookPlan B L)) → slice_get ps (d.workers + q) ≡ Some s
    → notes d.starts.items q events ≡ noted (own_events (mine_of s))) → (i : ℕ) (u : EndSeen S B L)
    → slice_get ts (w + i) ≡ Some u → notes starts i history ≡ noted (own_events (mine_of u.pass))
pool_noted {S} {B} {L} d ts ps starts history events w is starts_are workers_are same each i u at =
    ap (notes starts i) same
    ∙ (ap (λ (l : List Start). notes l i events) (sym starts_are)
    ∙ each i u.pass (ap (λ (l : List (SeatView HistoryEntry (BookPlan B L))). slice_get l (d.workers + i)) is
    ∙ (ap (λ (n : ℕ). slice_get (passes_in ts) (n + i)) workers_are ∙ pass_at ts (w + i) u at)))

-- and what its desk did
pub pool_own : {S B L : Type 0} (d : BookPlan B L) (ts : List (EndSeen S B L)) (ps : List (SeatView HistoryEntry (BookPlan B L)))
    (starts : List Start) (history events : List Event) (w : ℕ) → ps ≡ passes_in ts → d.starts.items ≡ starts
    → d.workers ≡ w → history ≡ events → 0 < w
    → ((n : ℕ) (s : SeatView HistoryEntry (BookPlan B L)) → 0 < n → slice_get ps n ≡ Some s
    → own_entries d.starts.items d.workers n events ≡ own_events (mine_of s)) → (i : ℕ) (u : EndSeen S B L)
    → slice_get ts (w + i) ≡ Some u → own_entries starts w (w + i) history ≡ own_events (mine_of u.pass)
pool_own {S} {B} {L} d ts ps starts history events w is starts_are workers_are same some each i u at =
    ap (own_entries starts w (w + i)) same
    ∙ ((λ k. own_entries (sym starts_are k) (sym workers_are k) (w + i) events)
    ∙ each (w + i) u.pass (omega (arith, some))
    (ap (λ (l : List (SeatView HistoryEntry (BookPlan B L))). slice_get l (w + i)) is ∙ pass_at ts (w + i) u at))

module _ {S B L : Type 0} (see : Sight B L) where
  -- and of each leaf that its desk sealed
  pub pool_sealed : (d : BookPlan B L) (ts : List (EndSeen S B L)) (ps : List (SeatView HistoryEntry (BookPlan B L)))
      (starts : List Start) (history : List Event) (leaves : List L) (s : Shelf B L) (w : ℕ) → ps ≡ passes_in ts
      → d.starts.items ≡ starts → d.workers ≡ w
      → ((q : ℕ) (x : SeatView HistoryEntry (BookPlan B L)) → slice_get ps (d.workers + q) ≡ Some x → (p : ℕ)
      (leaf : LeafSeen) → EndsOn see s q p leaf → EndsIn (mine_of x) p leaf)
      → ((q p : ℕ) (leaf : LeafSeen)
      → EndsAt see d.starts.items history (leaf_at d.starts.items leaves) q p leaf → EndsOn see s q p leaf)
      → (i : ℕ) (u : EndSeen S B L) → slice_get ts (w + i) ≡ Some u → (p : ℕ) (leaf : LeafSeen)
      → EndsAt see starts history (leaf_at starts leaves) i p leaf → EndsIn (mine_of u.pass) p leaf
  pool_sealed d ts ps starts history leaves s w is starts_are workers_are each left i u at p leaf z =
      each i u.pass (ap (λ (l : List (SeatView HistoryEntry (BookPlan B L))). slice_get l (d.workers + i)) is
      ∙ (ap (λ (n : ℕ). slice_get (passes_in ts) (n + i)) workers_are ∙ pass_at ts (w + i) u at)) p leaf
      (left i p leaf (subst (λ (l : List Start). EndsAt see l history (leaf_at l leaves) i p leaf) (sym starts_are) z))
