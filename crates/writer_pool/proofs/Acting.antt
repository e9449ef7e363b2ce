-- What all actors did.
use Rattle.std.proofs.Common.{◌≡◌, ℕ, zero, suc, ◌+◌, ◌<◌, List, [], ◌∷◌, ◌++◌, length, map, Bool, Option, Some, None, inl, inr, refl, sym, ap, ◌∙◌, subst, arith}
use Rattle.edge_kit.specs.Seen.{LeafSeen}
use Rattle.std.specs.Prelude.{slice_get, Result, Ok, Err, IfOk}
use Rattle.atomic_table.specs.Seated.{TableId}
use Rattle.turn_lock.specs.Seat.{SeatView, mine_of}
use Rattle.edge_kit.specs.Starters.{StarterSeen}
use Rattle.convert_plan.specs.declared.card.Card.{Card}
use Rattle.convert_plan.specs.Card.{CardSeen}
use Rattle.checkout_core.specs.declared.event.Event.{Event}
use Rattle.checkout_core.specs.declared.event.Event.TheVariants.{Claim, Close}
use Rattle.checkout_core.specs.declared.verdict.Own.{Own}
use Rattle.checkout_core.specs.declared.path.Start.{Start}
use Rattle.checkout_core.specs.declared.path.Start.TheVariants.{Desk}
use Rattle.checkout_core.specs.Desks.{paths_of}
use Rattle.checkout_core.specs.Notes.{noted, notes}
use Rattle.checkout_book.specs.declared.plan.BookPlan.{BookPlan}
use Rattle.checkout_book.specs.declared.plan.Parts.{Parts}
use Rattle.checkout_book.specs.declared.plan.HistoryEntry.{HistoryEntry}
use Rattle.checkout_book.specs.Sights.{Sight, seen}
use Rattle.checkout_book.specs.Shelves.{cards_of}
use Rattle.checkout_book.specs.Reserving.{AreIdle}
use Rattle.driver_desk.specs.declared.desk.Served.{Served}
use Rattle.driver_desk.specs.Desks.{DeskView}
use Rattle.driver_desk.specs.Works.{WorkSeen, asked_in, cards_in}
use Rattle.writer_pool.specs.declared.pooled.DeskSeed.{DeskSeed}
use Rattle.writer_pool.specs.declared.jobs.DeskJob.{DeskJob}
use Rattle.writer_pool.specs.declared.jobs.JobEnd.{JobEnd}
use Rattle.writer_pool.specs.Dealing.{JobSeen, desk_of, head_of}
use Rattle.writer_pool.specs.Jobs.{EndSeen, IsJob, AreJobs, LeavesDesk, IsThroughJob, AreThroughJobs, AreSeedJobs, AreActors, passes_in, with_served, served_in}
use Rattle.writer_pool.specs.Pools.{IsSeed, AreSeeds, AreStartersBack, AreTalks}
use Rattle.writer_pool.specs.Sealing.{EndsIn, EndsAt, leaf_at}
use Rattle.writer_pool.specs.Tying.{IsTiedIn, IsTiedAt}
use Rattle.card_worker.specs.Writing.{WritesCard}
use Rattle.card_worker.specs.Turns.{AreTurns}
use Rattle.card_worker.specs.Working.{IsShown, AreShown, Idled, blob_in, leaf_in, own_events}
use Rattle.writer_pool.specs.Ends.{ShowsEnd, IsShownAll, IsBack, AreBack}
use Rattle.writer_pool.proofs.Places.{some_is, get_map, get_map_back, get_second}
use Rattle.writer_pool.proofs.TurnSteps.{turns_claimed, turns_back}
use Rattle.writer_pool.proofs.Talked.{talked_of}
use Rattle.writer_pool.proofs.DeskClosings.{contains_at}

card_there : (works : List WorkSeen) (k : ℕ) (w : WorkSeen) → slice_get works k ≡ Some w
    → slice_get (cards_in works) k ≡ Some w.card
card_there [] k w at = absurd (cc (at))
card_there (x ∷ ws) zero w at = ap (λ (y : WorkSeen). Some y.card) (some_is x w at)
card_there (x ∷ ws) (suc k) w at = card_there ws k w at

-- a Close among what an actor did in turns, behind other entries, was claimed before
pub turn_claim : (first more : List HistoryEntry) (i j p a : ℕ) (o : Own) → AreTurns (own_events more) → length first + i ≡ j
    → slice_get (own_events more) i ≡ Some (Close p a o)
    → (k : ℕ) × (k < j) × (slice_get (own_events (first ++ more)) k ≡ Some (Claim p a))
turn_claim first more i j p a o turns place at =
    let t = turns_claimed (own_events more) i p a o turns at in
    let c = get_map_back (λ (z : HistoryEntry). z.event) more t.0 (Claim p a) t.2 in
    let before = t.1 in (
      length first + t.0,
      omega (arith, before, place),
      get_map (λ (z : HistoryEntry). z.event) (first ++ more) (length first + t.0) c.0 (get_second first more t.0 ∙ c.1)
          ∙ ap (λ (z : Event). Some z) c.2,
    )

module _ {B L : Type 0} (see : Sight B L) where
  pub shown_each : (cards : List (Card B L)) (es : List HistoryEntry) (i : ℕ) (e : HistoryEntry) → AreShown see cards es
      → slice_get es i ≡ Some e → IsShown see cards e.event e.parts
  shown_each cards [] i e all at = absurd (cc (at))
  shown_each cards (x ∷ es) zero e all at =
      let is : x ≡ e = cc (at) in
      subst (λ (y : HistoryEntry). IsShown see cards y.event y.parts) is all.0
  shown_each cards (x ∷ es) (suc i) e all at = shown_each cards es i e all.1 at

  shown_parts : (cards : List (Card B L)) (e : Event) (parts : Option Parts) (p a : ℕ) (o : Own) → e ≡ Close p a o
      → IsShown see cards e parts
      → (x : Parts) × (parts ≡ Some x) × (k : ℕ) × (card : Card B L) × (slice_get cards k ≡ Some card)
      × (card.path ≡ p) × WritesCard (seen see card) o (blob_in x) (leaf_in x)
  shown_parts cards e parts p a o is shown = go parts (subst (λ (z : Event). IsShown see cards z parts) is shown)
    where
      go : (parts : Option Parts) → IsShown see cards (Close p a o) parts
          → (x : Parts) × (parts ≡ Some x) × (k : ℕ) × (card : Card B L) × (slice_get cards k ≡ Some card)
          × (card.path ≡ p) × WritesCard (seen see card) o (blob_in x) (leaf_in x)
      go None h = absurd h
      go (Some x) h = (x, refl, h.0, h.1, h.2, h.3, h.4)

  -- it shows how the writing ended
  pub work_shown : (d : BookPlan B L) (first more : List HistoryEntry) → AreTurns (own_events more)
      → AreShown see (cards_of d) more → (i j : ℕ) (e : HistoryEntry) (p a : ℕ) (o : Own) → length first + i ≡ j
      → slice_get more i ≡ Some e → e.event ≡ Close p a o
      → ShowsEnd see d (own_events (first ++ more)) j p a o e.parts
  work_shown d first more turns shown i j e p a o place at is =
      let w = shown_parts (cards_of d) e.event e.parts p a o is (shown_each (cards_of d) more i e shown at) in
      let t = turn_claim first more i j p a o turns place
      (get_map (λ (z : HistoryEntry). z.event) more i e at ∙ ap (λ (z : Event). Some z) is) in
      record {
        ended = w.0;
        there = w.1;
        number = w.2;
        card = w.3;
        planned = w.4;
        path = w.5;
        ends = inl (inr t, w.6);
        desk = λ q required from. absurd (from.unclaimed t.0 t.1 t.2);
      }

  pub is_back : (lock : TableId) (d : BookPlan B L) (n made : ℕ) (s t : SeatView HistoryEntry (BookPlan B L)) → n < d.workers
      → mine_of s ≡ [] → Idled see lock d n made s t → IsBack see lock d n made t
  is_back lock d n made s t worker fresh idled =
      let mine : mine_of t ≡ idled.worked.more =
      idled.worked.mine ∙ ap (λ (l : List HistoryEntry). l ++ idled.worked.more) fresh in
      record {
        nothing = idled.worked.nothing;
        shown = subst (IsShownAll see d) (sym mine) (λ i e p a o at is.
            work_shown d [] idled.worked.more idled.worked.turns idled.worked.shown i i e p a o (omega arith) at is);
        backs = λ i p q required at begun.
            absurd (turns_back (own_events idled.worked.more) i p idled.worked.turns
            (ap (λ (l : List HistoryEntry). slice_get (own_events l) i) (sym mine) ∙ at));
        left = λ q p lt desk own. absurd (omega (arith, worker, desk));
      }

  pub job_at : (lock : TableId) (d : BookPlan B L) (k made : ℕ) (js : List (JobSeen B L)) (i : ℕ) (j : JobSeen B L)
      → AreJobs see lock d k made js → slice_get js i ≡ Some j → (m : ℕ) × IsJob see lock d (k + i) m j
  job_at lock d k made [] i j a e = absurd (cc (e))
  job_at lock d k made (x ∷ js) zero j a e =
      let is : x ≡ j = cc (e) in
      let n : k ≡ k + zero = omega arith in
      (made, subst (λ q. IsJob see lock d q made j) n (subst (IsJob see lock d k made) is a.0))
  job_at lock d k made (x ∷ js) (suc i) j a e =
      let r = job_at lock d (suc k) 0 js i j a.1 e in
      let n : suc k + i ≡ k + suc i = omega arith in
      (r.0, subst (λ q. IsJob see lock d q r.0 j) n r.1)

  pub back_idle : (lock : TableId) (d : BookPlan B L) (k made : ℕ) (ts : List (SeatView HistoryEntry (BookPlan B L)))
      → AreBack see lock d k made ts → AreIdle lock d k made ts
  back_idle lock d k made [] a = tt
  back_idle lock d k made (t ∷ ts) a = (a.0.nothing, back_idle lock d (suc k) 0 ts a.1)

  pub back_at : (lock : TableId) (d : BookPlan B L) (k made : ℕ) (ts : List (SeatView HistoryEntry (BookPlan B L))) (i : ℕ)
      (t : SeatView HistoryEntry (BookPlan B L)) → AreBack see lock d k made ts → slice_get ts i ≡ Some t
      → (m : ℕ) × IsBack see lock d (k + i) m t
  back_at lock d k made [] i t a e = absurd (cc (e))
  back_at lock d k made (x ∷ ts) zero t a e =
      let is : x ≡ t = cc (e) in
      let n : k ≡ k + zero = omega arith in
      (made, subst (λ j. IsBack see lock d j made t) n (subst (IsBack see lock d k made) is a.0))
  back_at lock d k made (x ∷ ts) (suc i) t a e =
      let r = back_at lock d (suc k) 0 ts i t a.1 e in
      let n : suc k + i ≡ k + suc i = omega arith in
      (r.0, subst (λ j. IsBack see lock d j r.0 t) n r.1)

module _ {S B L : Type 0} (starter : S → StarterSeen) (see : Sight B L) where
  pub through_all : (lock : TableId) (d : BookPlan B L) (k made : ℕ) (js : List (JobSeen B L)) (ts : List (EndSeen S B L))
      → length ts ≡ length js → AreJobs see lock d k made js
      → ((i m : ℕ) (j : JobSeen B L) → slice_get js i ≡ Some j → IsJob see lock d (k + i) m j
      → (t : EndSeen S B L) × (slice_get ts i ≡ Some t) × IsThroughJob starter see lock d (k + i) m j t)
      → AreThroughJobs starter see lock d k made js ts
  through_all lock d k made [] [] e a h = tt
  through_all lock d k made [] (t ∷ ts) e a h = absurd (omega arith)
  through_all lock d k made (j ∷ js) [] e a h = absurd (omega arith)
  through_all lock d k made (j ∷ js) (t ∷ ts) e a h =
      let n : k + 0 ≡ k = omega arith in
      let r = h 0 made j refl (subst (λ q. IsJob see lock d q made j) (sym n) a.0) in
      let is : t ≡ r.0 = let u : Some t ≡ Some r.0 = r.1 in cc (u) in (
        subst (λ (x : EndSeen S B L). IsThroughJob starter see lock d k made j x) (sym is)
            (subst (λ q. IsThroughJob starter see lock d q made j r.0) n r.2),
        through_all lock d (suc k) 0 js ts (omega arith) a.1 (λ i m x at new.
            let f : suc k + i ≡ k + suc i = omega arith in
            let q = h (suc i) m x at (subst (λ z. IsJob see lock d z m x) f new) in
            (q.0, q.1, subst (λ z. IsThroughJob starter see lock d z m x q.0) (sym f) q.2)),
      )

  -- the passes are back
  pub passes_back : (lock : TableId) (d : BookPlan B L) (k made : ℕ) (js : List (JobSeen B L)) (ts : List (EndSeen S B L))
      → AreThroughJobs starter see lock d k made js ts → AreBack see lock d k made (passes_in ts)
  passes_back lock d k made [] [] h = tt
  passes_back lock d k made [] (t ∷ ts) h = absurd h
  passes_back lock d k made (j ∷ js) [] h = absurd h
  passes_back lock d k made (j ∷ js) (t ∷ ts) h = (h.0.back, passes_back lock d (suc k) 0 js ts h.1)

  pub passes_length : (lock : TableId) (d : BookPlan B L) (k made : ℕ) (js : List (JobSeen B L))
      (ts : List (EndSeen S B L)) → AreThroughJobs starter see lock d k made js ts
      → (length ts ≡ length js) × (length (passes_in ts) ≡ length js)
  passes_length lock d k made [] [] h = (refl, refl)
  passes_length lock d k made [] (t ∷ ts) h = absurd h
  passes_length lock d k made (j ∷ js) [] h = absurd h
  passes_length lock d k made (j ∷ js) (t ∷ ts) h =
      let r = passes_length lock d (suc k) 0 js ts h.1 in
      (ap suc r.0, ap suc r.1)

  -- each desk's starter is back
  desks_count : (lock : TableId) (d : BookPlan B L) (k made workers q : ℕ) (xs : List (DeskSeed S B L))
      (js : List (JobSeen B L)) (ts : List (EndSeen S B L)) → AreSeedJobs starter see workers q xs js
      → AreThroughJobs starter see lock d k made js ts → length (served_in ts) ≡ length xs
  desks_count lock d k made workers q [] [] [] a h = refl
  desks_count lock d k made workers q [] [] (t ∷ ts) a h = absurd h
  desks_count lock d k made workers q [] (j ∷ js) ts a h = absurd a
  desks_count lock d k made workers q (x ∷ xs) [] ts a h = absurd a
  desks_count lock d k made workers q (x ∷ xs) (j ∷ js) [] a h = absurd h
  desks_count lock d k made workers q (x ∷ xs) (j ∷ js) (t ∷ ts) a h =
      go (desks_count lock d (suc k) 0 workers (suc q) xs js ts a.1 h.1) t.served
      (subst (λ (o : Option (DeskJob DeskView)). LeavesDesk starter o t.served (mine_of t.pass)) a.0
      h.0.desk_is)
    where
      go : length (served_in ts) ≡ length xs → (o : Option (Served S))
          → LeavesDesk starter (Some (record {
            required = x.required;
            desk = desk_of starter see workers q (head_of x) x.cards.items;
          })) o (mine_of t.pass) → length (with_served o (served_in ts)) ≡ suc (length xs)
      go more None l = absurd l
      go more (Some s) l = ap suc more

  pub served_count : (lock : TableId) (d : BookPlan B L) (k made workers n : ℕ) (xs : List (DeskSeed S B L))
      (js : List (JobSeen B L)) (ts : List (EndSeen S B L)) → AreActors starter see n workers xs js
      → AreThroughJobs starter see lock d k made js ts → length (served_in ts) ≡ length xs
  served_count lock d k made workers zero xs js ts a h = desks_count lock d k made workers 0 xs js ts a h
  served_count lock d k made workers (suc n) xs [] ts a h = absurd a
  served_count lock d k made workers (suc n) xs (j ∷ js) [] a h = absurd h
  served_count lock d k made workers (suc n) xs (j ∷ js) (t ∷ ts) a h =
      go (served_count lock d (suc k) 0 workers n xs js ts a.1 h.1) t.served
      (subst (λ (o : Option (DeskJob DeskView)). LeavesDesk starter o t.served (mine_of t.pass)) a.0
      h.0.desk_is)
    where
      go : length (served_in ts) ≡ length xs → (o : Option (Served S)) → LeavesDesk starter None o (mine_of t.pass)
          → length (with_served o (served_in ts)) ≡ length xs
      go more None l = more
      go more (Some s) l = absurd l

  -- by the history and the leaves, its own list has the notes of its driver, and the leaves that it sealed, and a work
  -- that ended there as its object gave says did so in the history
  pub record Tells (starts : List Start) (history : List Event) (leaves : List L) (q : ℕ) (mine : List HistoryEntry)
      : Type 0 where
    pub notes_are : notes starts q history ≡ noted (own_events mine)
    pub seals : (p : ℕ) (leaf : LeafSeen) → EndsAt see starts history (leaf_at starts leaves) q p leaf
        → EndsIn mine p leaf
    pub tied : (w : WorkSeen) (required : Bool) → IsTiedIn (own_events mine) w
        → slice_get starts w.card.path ≡ Some (Desk q required) → IsTiedAt history w

  -- the path of a work is one of the seed's driver
  pub seed_path : (starts : List Start) (q : ℕ) (x : DeskSeed S B L) → IsSeed starter starts q x
      → (works : List WorkSeen) → map (λ c. seen see c) x.cards.items ≡ cards_in works → (k : ℕ) (w : WorkSeen)
      → slice_get works k ≡ Some w → slice_get (paths_of q starts) k ≡ Some w.card.path
  seed_path starts q x seed works cards k w at =
      let c = get_map_back (λ (c : Card B L). seen see c) x.cards.items k w.card
      (ap (λ (l : List CardSeen). slice_get l k) cards ∙ card_there works k w at) in
      ap (λ (l : List ℕ). slice_get l k) (sym seed.paths)
      ∙ (get_map (λ (c : Card B L). c.path) x.cards.items k c.0 c.1 ∙ ap (λ (y : CardSeen). Some y.path) c.2)

  -- what is left of the desks from that of the driver q on: their starters and their talks
  abbrev pub AreLeft : List Start → List Event → List L → ℕ → List (DeskSeed S B L) → List (Served S) → Type 0
  AreLeft starts history leaves q xs left =
      AreStartersBack starter see starts history leaves q xs (map (λ s. s.starter) left)
      × AreTalks starts history q (map (λ s. s.talk) left)

  -- and has talked so
  desks_back : (lock : TableId) (d : BookPlan B L) (k made workers q : ℕ) (xs : List (DeskSeed S B L))
      (js : List (JobSeen B L)) (ts : List (EndSeen S B L)) (starts : List Start) (history : List Event)
      (leaves : List L)
      → AreSeedJobs starter see workers q xs js → AreThroughJobs starter see lock d k made js ts
      → AreSeeds starter starts q xs
      → ((i : ℕ) (t : EndSeen S B L) → slice_get ts i ≡ Some t → Tells starts history leaves (q + i) (mine_of t.pass))
      → AreLeft starts history leaves q xs (served_in ts)
  desks_back lock d k made workers q [] [] [] starts history leaves a h seeds n = (tt, tt)
  desks_back lock d k made workers q [] [] (t ∷ ts) starts history leaves a h seeds n = absurd h
  desks_back lock d k made workers q [] (j ∷ js) ts starts history leaves a h seeds n = absurd a
  desks_back lock d k made workers q (x ∷ xs) [] ts starts history leaves a h seeds n = absurd a
  desks_back lock d k made workers q (x ∷ xs) (j ∷ js) [] starts history leaves a h seeds n = absurd h
  desks_back lock d k made workers q (x ∷ xs) (j ∷ js) (t ∷ ts) starts history leaves a h seeds n =
      go (desks_back lock d (suc k) 0 workers (suc q) xs js ts starts history leaves a.1 h.1 seeds.1 (λ i u at.
      let z : q + suc i ≡ suc q + i = omega arith in
      subst (λ (e : ℕ). Tells starts history leaves e (mine_of u.pass)) z (n (suc i) u at))) t.served
      (subst (λ (o : Option (DeskJob DeskView)). LeavesDesk starter o t.served (mine_of t.pass)) a.0
      h.0.desk_is)
    where
      own : Tells starts history leaves q (mine_of t.pass)
      own = let z : q + 0 ≡ q = omega arith in
          subst (λ (e : ℕ). Tells starts history leaves e (mine_of t.pass)) z (n 0 t refl)

      go : AreLeft starts history leaves (suc q) xs (served_in ts) → (o : Option (Served S))
          → LeavesDesk starter (Some (record {
            required = x.required;
            desk = desk_of starter see workers q (head_of x) x.cards.items;
          })) o (mine_of t.pass)
          → AreLeft starts history leaves q (x ∷ xs) (with_served o (served_in ts))
      go more None l = absurd l
      go more (Some s) l = (
        (
          record {
            works = l.works;
            cards = l.cards;
            read = l.read;
            talked = λ paths fit. talked_of q paths (asked_in l.works) (starter x.starter) (starter s.starter)
                (noted (own_events (mine_of t.pass))) (notes starts q history) (EndsIn (mine_of t.pass))
                (EndsAt see starts history (leaf_at starts leaves) q) (sym own.notes_are) own.seals (l.talked paths fit);
            tied = λ i w at. own.tied w x.required (l.tied i w at)
                (seeds.0.desk w.card.path (contains_at (paths_of q starts) i w.card.path
                (seed_path starts q x seeds.0 l.works l.cards i w at)));
          },
          more.0,
        ),
        (l.talk ∙ sym own.notes_are, more.1),
      )

  pub starters_back : (lock : TableId) (d : BookPlan B L) (k made workers n : ℕ) (xs : List (DeskSeed S B L))
      (js : List (JobSeen B L)) (ts : List (EndSeen S B L)) (starts : List Start) (history : List Event)
      (leaves : List L)
      → AreActors starter see n workers xs js → AreThroughJobs starter see lock d k made js ts
      → AreSeeds starter starts 0 xs
      → ((i : ℕ) (t : EndSeen S B L) → slice_get ts (n + i) ≡ Some t → Tells starts history leaves i (mine_of t.pass))
      → AreLeft starts history leaves 0 xs (served_in ts)
  starters_back lock d k made workers zero xs js ts starts history leaves a h seeds n =
      desks_back lock d k made workers 0 xs js ts starts history leaves a h seeds (λ i t at.
      let z : 0 + i ≡ i = omega arith in
      subst (λ (e : ℕ). Tells starts history leaves e (mine_of t.pass)) (sym z) (n i t (ap (slice_get ts) z ∙ at)))
  starters_back lock d k made workers (suc n) xs [] ts starts history leaves a h seeds f = absurd a
  starters_back lock d k made workers (suc n) xs (j ∷ js) [] starts history leaves a h seeds f = absurd h
  starters_back lock d k made workers (suc n) xs (j ∷ js) (t ∷ ts) starts history leaves a h seeds f =
      go (starters_back lock d (suc k) 0 workers n xs js ts starts history leaves a.1 h.1 seeds (λ i u at.
      let z : suc n + i ≡ suc (n + i) = omega arith in
      f i u (ap (slice_get (t ∷ ts)) z ∙ at))) t.served
      (subst (λ (o : Option (DeskJob DeskView)). LeavesDesk starter o t.served (mine_of t.pass)) a.0
      h.0.desk_is)
    where
      go : AreLeft starts history leaves 0 xs (served_in ts) → (o : Option (Served S))
          → LeavesDesk starter None o (mine_of t.pass)
          → AreLeft starts history leaves 0 xs (with_served o (served_in ts))
      go more None l = more
      go more (Some s) l = absurd l

with_more : {S : Type 0} (o : Option S) (xs ys : List S) → with_served o (xs ++ ys) ≡ with_served o xs ++ ys
with_more None xs ys = refl
with_more (Some s) xs ys = refl

-- what one more leaves
module _ {P D : Type 0} where
  pub passes_more : (ts : List (JobEnd P D)) (t : JobEnd P D) → passes_in (ts ++ t ∷ []) ≡ passes_in ts ++ t.pass ∷ []
  passes_more [] t = refl
  passes_more (x ∷ ts) t = ap (λ (l : List P). x.pass ∷ l) (passes_more ts t)

  pub passes_long : (ts : List (JobEnd P D)) → length (passes_in ts) ≡ length ts
  passes_long [] = refl
  passes_long (t ∷ ts) = ap suc (passes_long ts)

  pub served_more : (ts us : List (JobEnd P D)) → served_in (ts ++ us) ≡ served_in ts ++ served_in us
  served_more [] us = refl
  served_more (x ∷ ts) us =
      ap (with_served x.served) (served_more ts us) ∙ with_more x.served (served_in ts) (served_in us)

pub ok_two : {X Y : Type 0} (P Q S : X → Type 0) (r : Result X Y) → ((x : X) → P x → Q x → S x) → IfOk r P → IfOk r Q
    → IfOk r S
ok_two P Q S (Ok x) h p q = h x p q
ok_two P Q S (Err y) h p q = tt
