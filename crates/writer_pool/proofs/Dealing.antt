-- The desks that are made of seeds, with the cards that the book dealt.
use Rattle.std.proofs.Common.{◌≡◌, ◌==◌, ℕ, zero, suc, ◌+◌, ◌-◌, ◌<◌, ⊎_elim, Bool, true, false, cond, List, [], ◌∷◌, ◌++◌, map, length, Option, Some, None, refl, sym, ap, ◌∙◌, subst, append_assoc, eq-eqb, ne_eqb, arith}
use Rattle.std.specs.Prelude.{slice_get}
use Rattle.std.specs.Global.{Vec}
use Rattle.std.proofs.lemmas.List.{length-map}
use Rattle.atomic_table.specs.Seated.{TableId}
use Rattle.turn_lock.specs.Seat.{SeatView}
use Rattle.edge_kit.specs.Starters.{StarterSeen}
use Rattle.delay_table.specs.Table.{IsRising, contains, AreApart}
use Rattle.convert_plan.specs.declared.card.Card.{Card}
use Rattle.checkout_core.specs.declared.path.Start.{Start}
use Rattle.checkout_core.specs.declared.path.Start.TheVariants.{Desk}
use Rattle.checkout_core.specs.States.{AreBelow, is_at}
use Rattle.checkout_core.specs.Desks.{paths_of}
use Rattle.checkout_book.specs.declared.plan.BookPlan.{BookPlan}
use Rattle.checkout_book.specs.declared.plan.HistoryEntry.{HistoryEntry}
use Rattle.checkout_book.specs.Sights.{Sight, seen}
use Rattle.checkout_book.specs.Shelves.{cards_of, joined}
use Rattle.checkout_book.specs.Reserving as book
use Rattle.checkout_book.specs.Reserving.{AreDealt, AreIdle, AreFresh}
use Rattle.driver_desk.specs.Desks.{DeskView}
use Rattle.driver_desk.specs.Works.{AreNew, card_paths, card_texts}
use Rattle.writer_pool.specs.declared.pooled.DeskSeed.{DeskSeed}
use Rattle.writer_pool.specs.declared.desks.DeskHead.{DeskHead}
use Rattle.writer_pool.specs.Dealing.{JobSeen, AreDecks, desk_job, desk_of, desk_jobs, head_of}
use Rattle.writer_pool.specs.Jobs.{FitsActor, AreJobs, AreSeedJobs, AreActors}
use Rattle.writer_pool.specs.OnBook.{items_of, desk_cards}
use Rattle.writer_pool.specs.Pools.{IsSeed, AreSeeds, seed_cards}
use Rattle.writer_pool.proofs.Places.{some_is, same_or, get_map, place_is}

-- the first values of two equal lists, and those behind them
first_same : {A : Type 0} (x y : A) (xs ys : List A) → x ∷ xs ≡ y ∷ ys → x ≡ y
first_same x y xs ys e = cc (e)

rest_same : {A : Type 0} (x y : A) (xs ys : List A) → x ∷ xs ≡ y ∷ ys → xs ≡ ys
rest_same x y xs ys e = cc (e)

not_empty : {A : Type 0} (x : A) (xs : List A) → x ∷ xs ≡ [] → ⊥
not_empty x xs e = cc (e)

-- the paths of a driver differ
not_behind : (ps : List ℕ) → contains zero (map (λ i. suc i) ps) ≡ false
not_behind [] = refl
not_behind (p ∷ ps) =
    ap (λ (b : Bool). cond b true (contains zero (map (λ i. suc i) ps))) (ne_eqb zero (suc p) (λ e. omega (arith, e)))
    ∙ not_behind ps

same_next : (p q : ℕ) → (suc p == suc q) ≡ (p == q)
same_next p q = ⊎_elim
    (λ (h : (p ≡ q) × ((p == q) ≡ true)). eq-eqb (suc p) (suc q) (ap suc h.0) ∙ sym h.1)
    (λ (h : ((p ≡ q) → ⊥) × ((p == q) ≡ false)).
    ne_eqb (suc p) (suc q) (λ e. h.0 (omega (arith, e))) ∙ sym h.1)
    (same_or p q)

same_behind : (p : ℕ) (ps : List ℕ) → contains (suc p) (map (λ i. suc i) ps) ≡ contains p ps
same_behind p [] = refl
same_behind p (q ∷ ps) =
    ap (λ (b : Bool). cond b true (contains (suc p) (map (λ i. suc i) ps))) (same_next p q)
    ∙ ap (λ (b : Bool). cond (p == q) true b) (same_behind p ps)

apart_behind : (ps : List ℕ) → AreApart ps → AreApart (map (λ i. suc i) ps)
apart_behind [] a = tt
apart_behind (p ∷ ps) a = (same_behind p ps ∙ a.0, apart_behind ps a.1)

apart_first : (b : Bool) (ps : List ℕ) → AreApart ps
    → AreApart (cond b (zero ∷ map (λ i. suc i) ps) (map (λ i. suc i) ps))
apart_first true ps a = (not_behind ps, apart_behind ps a)
apart_first false ps a = apart_behind ps a

apart_paths : (d : ℕ) (starts : List Start) → AreApart (paths_of d starts)
apart_paths d [] = tt
apart_paths d (s ∷ ss) = apart_first (is_at d s) (paths_of d ss) (apart_paths d ss)

module _ {B L : Type 0} (see : Sight B L) where
  paths_seen : (cs : List (Card B L)) → card_paths (map (λ c. seen see c) cs) ≡ map (λ c. c.path) cs
  paths_seen [] = refl
  paths_seen (c ∷ cs) = ap (λ (l : List ℕ). c.path ∷ l) (paths_seen cs)

  texts_seen : (cs : List (Card B L)) → card_texts (map (λ c. seen see c) cs) ≡ map (λ c. c.text) cs
  texts_seen [] = refl
  texts_seen (c ∷ cs) = ap (λ (l : List (List ℕ)). c.text ∷ l) (texts_seen cs)

  new_seen : (cs : List (Card B L)) → book.AreNew see cs → AreNew (map (λ c. seen see c) cs)
  new_seen [] new = tt
  new_seen (c ∷ cs) new = (new 0 c refl, new_seen cs (λ k x at. new (suc k) x at))

  pub new_front : (xs ys : List (Card B L)) → book.AreNew see (xs ++ ys) → book.AreNew see xs
  new_front [] ys new k c at = absurd (cc (at))
  new_front (x ∷ xs) ys new zero c at = new 0 c at
  new_front (x ∷ xs) ys new (suc k) c at = new_front xs ys (λ j y e. new (suc j) y e) k c at

  pub new_back : (xs ys : List (Card B L)) → book.AreNew see (xs ++ ys) → book.AreNew see ys
  new_back [] ys new = new
  new_back (x ∷ xs) ys new = new_back xs ys (λ j y e. new (suc j) y e)

-- the cards of dealt desks, and those of seeds
module _ {B L : Type 0} where
  abbrev deck_of : List (SeatView HistoryEntry (BookPlan B L) × Vec (Card B L)) → List (Vec (Card B L))
  deck_of dealt = map (λ (y : SeatView HistoryEntry (BookPlan B L) × Vec (Card B L)). y.1) dealt

module _ {S B L : Type 0} where
  abbrev seed_decks : List (DeskSeed S B L) → List (Vec (Card B L))
  seed_decks xs = map (λ x. x.cards) xs

-- the cards of the seeds are what the book deals
module _ {S B L : Type 0} where
  pub joined_seeds : (xs : List (DeskSeed S B L)) → joined (map (λ x. x.cards) xs) ≡ seed_cards xs
  joined_seeds [] = refl
  joined_seeds (x ∷ xs) = ap (λ (l : List (Card B L)). x.cards.items ++ l) (joined_seeds xs)

module _ {S B L : Type 0} (starter : S → StarterSeen) where
  pub seeds_dealt : (starts : List Start) (q : ℕ) (xs : List (DeskSeed S B L)) → AreSeeds starter starts q xs
      → AreDealt starts q (map (λ x. x.cards) xs)
  seeds_dealt starts q [] seeds = tt
  seeds_dealt starts q (x ∷ xs) seeds = (seeds.0.paths, seeds_dealt starts (suc q) xs seeds.1)

  pub seed_at : (starts : List Start) (q : ℕ) (xs : List (DeskSeed S B L)) (i : ℕ) (x : DeskSeed S B L)
      → AreSeeds starter starts q xs → slice_get xs i ≡ Some x → IsSeed starter starts (q + i) x
  seed_at starts q [] i x seeds at = absurd (cc (at))
  seed_at starts q (y ∷ xs) zero x seeds at =
      let is : y ≡ x = some_is y x at in
      let n : q ≡ q + zero = omega arith in
      subst (λ j. IsSeed starter starts j x) n (subst (IsSeed starter starts q) is seeds.0)
  seed_at starts q (y ∷ xs) (suc i) x seeds at =
      let n : suc q + i ≡ q + suc i = omega arith in
      subst (λ j. IsSeed starter starts j x) n (seed_at starts (suc q) xs i x seeds.1 at)

module _ {S B L : Type 0} (starter : S → StarterSeen) (see : Sight B L) where
  pub decks_are : (starts : List Start) (q : ℕ) (xs : List (DeskSeed S B L)) → AreSeeds starter starts q xs
      → book.AreNew see (seed_cards xs) → AreDecks see (map (λ x. x.cards) xs)
  decks_are starts q [] seeds new = tt
  decks_are starts q (x ∷ xs) seeds new = (
    record {
      few = let few = seeds.0.few in
          omega (arith, few, length-map x.cards.items (λ (c : Card B L). seen see c));
      new = new_seen see x.cards.items (new_front see x.cards.items (seed_cards xs) new);
      rising = subst IsRising (sym (texts_seen see x.cards.items)) seeds.0.texts;
      apart = subst AreApart (sym (paths_seen see x.cards.items ∙ seeds.0.paths)) (apart_paths q starts);
    },
    decks_are starts (suc q) xs seeds.1 (new_back see x.cards.items (seed_cards xs) new),
  )

  -- the desk of a seed is dealt what its actor's standing says
  seed_fits : (d : BookPlan B L) (xs : List (DeskSeed S B L)) (i : ℕ) (x : DeskSeed S B L)
      → AreBelow d.drivers d.starts.items → d.drivers ≡ length xs → d.desks.items ≡ map (λ x. x.cards) xs
      → IsSeed starter d.starts.items i x → slice_get xs i ≡ Some x
      → FitsActor see d (d.workers + i) (Some (record {
        required = x.required;
        desk = desk_of starter see d.workers i (head_of x) x.cards.items;
      }))
  seed_fits d xs i x below count desks seed at =
      let n : d.workers + i - d.workers ≡ i = omega arith in
      let lt = place_is xs i x at in
      let here : slice_get d.desks.items i ≡ Some x.cards =
      ap (λ (l : List (Vec (Card B L))). slice_get l i) desks ∙ get_map (λ (y : DeskSeed S B L). y.cards) xs i x at in
      let cards : desk_cards d i ≡ x.cards.items = ap (λ (o : Option (Vec (Card B L))). items_of o) here in
      let few = seed.few in
      let all : card_paths (map (λ c. seen see c) x.cards.items) ≡ paths_of i d.starts.items =
      paths_seen see x.cards.items ∙ seed.paths in (
        omega arith,
        omega (arith, few, length-map x.cards.items (λ (c : Card B L). seen see c)),
        record {
          actor = ap (λ (j : ℕ). d.workers + j) n;
          driver = n;
          required = refl;
          cards = ap (λ (j : ℕ). map (λ c. seen see c) (desk_cards d j)) n
              ∙ ap (λ (l : List (Card B L)). map (λ c. seen see c) l) cards;
          there = omega (arith, lt, count, n);
          below = below;
          all = all ∙ ap (λ (j : ℕ). paths_of j d.starts.items) (sym n);
          own = λ p there. seed.desk p (ap (contains p) (sym all) ∙ there)
              ∙ ap (λ (j : ℕ). Some (Desk j x.required)) (sym n);
        },
      )

  same_cards : (h : DeskSeed S B L) (v : Vec (Card B L)) → v ≡ h.cards → v.items ≡ h.cards.items
  same_cards h v is = ap (λ (w : Vec (Card B L)). w.items) is

  -- the jobs of the desks
  desk_part : (lock : TableId) (d : BookPlan B L) (k made q : ℕ) (xs : List (DeskSeed S B L))
      (dealt : List (SeatView HistoryEntry (BookPlan B L) × Vec (Card B L)))
      → map (λ (y : SeatView HistoryEntry (BookPlan B L) × Vec (Card B L)). y.1) dealt ≡ map (λ x. x.cards) xs
      → AreIdle lock d k made (map (λ (y : SeatView HistoryEntry (BookPlan B L) × Vec (Card B L)). y.0) dealt)
      → AreFresh (map (λ (y : SeatView HistoryEntry (BookPlan B L) × Vec (Card B L)). y.0) dealt) → k ≡ d.workers + q
      → book.AreNew see (cards_of d) → AreDealt d.starts.items 0 d.desks.items
      → ((i : ℕ) (x : DeskSeed S B L) → slice_get xs i ≡ Some x
      → FitsActor see d (d.workers + (q + i)) (Some (record {
        required = x.required;
        desk = desk_of starter see d.workers (q + i) (head_of x) x.cards.items;
      }))) → AreJobs see lock d k made (desk_jobs starter see d.workers q (map (λ x. head_of x) xs) dealt)
  desk_part lock d k made q [] [] same idle fresh is new deal fits = tt
  desk_part lock d k made q [] (y ∷ dealt) same idle fresh is new deal fits = absurd (not_empty y.1 (deck_of dealt) same)
  desk_part lock d k made q (x ∷ xs) [] same idle fresh is new deal fits = absurd (not_empty x.cards (seed_decks xs) (sym same))
  desk_part lock d k made q (x ∷ xs) (y ∷ dealt) same idle fresh is new deal fits =
      let z : q + 0 ≡ q = omega arith in
      let first = first_same y.1 x.cards (deck_of dealt) (seed_decks xs) same in
      let rest = rest_same y.1 x.cards (deck_of dealt) (seed_decks xs) same in
      let here = subst (λ (j : ℕ). FitsActor see d (d.workers + j) (Some (record {
        required = x.required;
        desk = desk_of starter see d.workers j (head_of x) x.cards.items;
      }))) z (fits 0 x refl) in
      let there = subst (λ (l : List (Card B L)). FitsActor see d (d.workers + q) (Some (record {
        required = x.required;
        desk = desk_of starter see d.workers q (head_of x) l;
      }))) (sym (same_cards x y.1 first)) here in (
        record {
          nothing = idle.0;
          fresh = fresh.0;
          new = new;
          dealt = deal;
          actor = subst (λ (n : ℕ). FitsActor see d n (Some (record {
            required = x.required;
            desk = desk_of starter see d.workers q (head_of x) (y.1).items;
          }))) (sym is) there;
        },
        desk_part lock d (suc k) 0 (suc q) xs dealt rest idle.1 fresh.2 (omega (arith, is)) new deal (λ i w at.
            let s : q + suc i ≡ suc q + i = omega arith in
            subst (λ (j : ℕ). FitsActor see d (d.workers + j) (Some (record {
              required = w.required;
              desk = desk_of starter see d.workers j (head_of w) w.cards.items;
            }))) s (fits (suc i) w at)),
      )

  jobs_part : (lock : TableId) (d : BookPlan B L) (k made : ℕ) (ps : List (SeatView HistoryEntry (BookPlan B L)))
      (xs : List (DeskSeed S B L)) (dealt : List (SeatView HistoryEntry (BookPlan B L) × Vec (Card B L)))
      → map (λ (y : SeatView HistoryEntry (BookPlan B L) × Vec (Card B L)). y.1) dealt ≡ map (λ x. x.cards) xs
      → AreIdle lock d k made (ps ++ map (λ (y : SeatView HistoryEntry (BookPlan B L) × Vec (Card B L)). y.0) dealt)
      → AreFresh (ps ++ map (λ (y : SeatView HistoryEntry (BookPlan B L) × Vec (Card B L)). y.0) dealt)
      → k + length ps ≡ d.workers → book.AreNew see (cards_of d) → AreDealt d.starts.items 0 d.desks.items
      → ((i : ℕ) (x : DeskSeed S B L) → slice_get xs i ≡ Some x → FitsActor see d (d.workers + i) (Some (record {
        required = x.required;
        desk = desk_of starter see d.workers i (head_of x) x.cards.items;
      }))) → AreJobs see lock d k made (map (λ (p : SeatView HistoryEntry (BookPlan B L)). record { pass = p; desk = None }) ps
      ++ desk_jobs starter see d.workers 0 (map (λ x. head_of x) xs) dealt)
  jobs_part lock d k made [] xs dealt same idle fresh is new deal fits =
      desk_part lock d k made 0 xs dealt same idle fresh (omega (arith, is)) new deal (λ i x at.
      let z : i ≡ 0 + i = omega arith in
      subst (λ (j : ℕ). FitsActor see d (d.workers + j) (Some (record {
        required = x.required;
        desk = desk_of starter see d.workers j (head_of x) x.cards.items;
      }))) z (fits i x at))
  jobs_part lock d k made (p ∷ ps) xs dealt same idle fresh is new deal fits = (
    record {
      nothing = idle.0;
      fresh = fresh.0;
      new = new;
      dealt = deal;
      actor = let lt : k < d.workers = omega (arith, is) in lt;
    },
    jobs_part lock d (suc k) 0 ps xs dealt same idle.1 fresh.2 (omega (arith, is)) new deal fits,
  )

  pub jobs_are : (lock : TableId) (d : BookPlan B L) (made : ℕ) (ps : List (SeatView HistoryEntry (BookPlan B L)))
      (xs : List (DeskSeed S B L)) (dealt : List (SeatView HistoryEntry (BookPlan B L) × Vec (Card B L)))
      → map (λ (y : SeatView HistoryEntry (BookPlan B L) × Vec (Card B L)). y.1) dealt ≡ d.desks.items
      → AreIdle lock d 0 made (ps ++ map (λ (y : SeatView HistoryEntry (BookPlan B L) × Vec (Card B L)). y.0) dealt)
      → AreFresh (ps ++ map (λ (y : SeatView HistoryEntry (BookPlan B L) × Vec (Card B L)). y.0) dealt)
      → length ps ≡ d.workers → book.AreNew see (cards_of d) → AreSeeds starter d.starts.items 0 xs
      → AreBelow d.drivers d.starts.items → d.drivers ≡ length xs → d.desks.items ≡ map (λ x. x.cards) xs
      → AreJobs see lock d 0 made (map (λ (p : SeatView HistoryEntry (BookPlan B L)). record { pass = p; desk = None }) ps
      ++ desk_jobs starter see d.workers 0 (map (λ x. head_of x) xs) dealt)
  jobs_are lock d made ps xs dealt same idle fresh count new seeds below drivers desks =
      jobs_part lock d 0 made ps xs dealt (same ∙ desks) idle fresh (omega (arith, count)) new
      (subst (AreDealt d.starts.items 0) (sym desks) (seeds_dealt starter d.starts.items 0 xs seeds)) (λ i x at.
      let z : 0 + i ≡ i = omega arith in
      seed_fits d xs i x below drivers desks
      (subst (λ (j : ℕ). IsSeed starter d.starts.items j x) z (seed_at starter d.starts.items 0 xs i x seeds at)) at)

  -- they are made of their seeds
  seed_jobs : (workers q : ℕ) (xs : List (DeskSeed S B L))
      (dealt : List (SeatView HistoryEntry (BookPlan B L) × Vec (Card B L)))
      → map (λ (y : SeatView HistoryEntry (BookPlan B L) × Vec (Card B L)). y.1) dealt ≡ map (λ x. x.cards) xs
      → AreSeedJobs starter see workers q xs (desk_jobs starter see workers q (map (λ x. head_of x) xs) dealt)
  seed_jobs workers q [] [] same = tt
  seed_jobs workers q [] (y ∷ dealt) same = absurd (not_empty y.1 (deck_of dealt) same)
  seed_jobs workers q (x ∷ xs) [] same = absurd (not_empty x.cards (seed_decks xs) (sym same))
  seed_jobs workers q (x ∷ xs) (y ∷ dealt) same =
      let first = first_same y.1 x.cards (deck_of dealt) (seed_decks xs) same in
      let rest = rest_same y.1 x.cards (deck_of dealt) (seed_decks xs) same in (
        ap (λ (v : Vec (Card B L)). Some (record {
          required = x.required;
          desk = desk_of starter see workers q (head_of x) v.items;
        })) first,
        seed_jobs workers (suc q) xs dealt rest,
      )

  pub actors_are : (n workers : ℕ) (ps : List (SeatView HistoryEntry (BookPlan B L))) (xs : List (DeskSeed S B L))
      (dealt : List (SeatView HistoryEntry (BookPlan B L) × Vec (Card B L)))
      → map (λ (y : SeatView HistoryEntry (BookPlan B L) × Vec (Card B L)). y.1) dealt ≡ map (λ x. x.cards) xs → length ps ≡ n
      → AreActors starter see n workers xs
      (map (λ (p : SeatView HistoryEntry (BookPlan B L)). record { pass = p; desk = None }) ps
      ++ desk_jobs starter see workers 0 (map (λ x. head_of x) xs) dealt)
  actors_are zero workers [] xs dealt same count = seed_jobs workers 0 xs dealt same
  actors_are zero workers (p ∷ ps) xs dealt same count = absurd (omega (arith, count))
  actors_are (suc n) workers [] xs dealt same count = absurd (omega (arith, count))
  actors_are (suc n) workers (p ∷ ps) xs dealt same count =
      (refl, actors_are n workers ps xs dealt same (omega (arith, count)))

  pub desk_jobs_length : (workers q : ℕ) (hs : List (DeskHead S))
      (dealt : List (SeatView HistoryEntry (BookPlan B L) × Vec (Card B L))) → length hs ≡ length dealt
      → length (desk_jobs starter see workers q hs dealt) ≡ length dealt
  desk_jobs_length workers q [] [] same = refl
  desk_jobs_length workers q [] (y ∷ dealt) same = absurd (omega (arith, same))
  desk_jobs_length workers q (h ∷ hs) [] same = absurd (omega (arith, same))
  desk_jobs_length workers q (h ∷ hs) (y ∷ dealt) same =
      ap suc (desk_jobs_length workers (suc q) hs dealt (omega (arith, same)))

  -- one more desk is made, and its job is pushed
  pub desks_more : (w q : ℕ) (jobs new all : List (JobSeen B L)) (hs0 hs : List (DeskHead S))
      (xs0 xs : List (SeatView HistoryEntry (BookPlan B L) × Vec (Card B L))) (head : DeskHead S) (required : Bool)
      (x : SeatView HistoryEntry (BookPlan B L) × Vec (Card B L)) (desk : DeskView)
      → jobs ++ desk_jobs starter see w q hs0 xs0 ≡ all → hs0 ≡ head ∷ hs → xs0 ≡ x ∷ xs
      → desk ≡ desk_of starter see w q head x.1.items → head.required ≡ required
      → new ≡ jobs ++ record { pass = x.0; desk = Some (record { required = required; desk = desk }) } ∷ []
      → new ++ desk_jobs starter see w (q + 1) hs xs ≡ all
  desks_more w q jobs new all hs0 hs xs0 xs head required x desk whole heads cards made same pushed =
      let X : Type 0 = SeatView HistoryEntry (BookPlan B L) × Vec (Card B L) in
      let view = desk_of starter see w q head x.1.items in
      let job : JobSeen B L = desk_job view x.0 in
      let more = desk_jobs starter see w (q + 1) hs xs in
      let next : suc q ≡ q + 1 = omega arith in
      let rest : desk_jobs starter see w q hs0 xs0 ≡ job ∷ more =
      ap (λ (l : List (DeskHead S)). desk_jobs starter see w q l xs0) heads
      ∙ (ap (λ (l : List X). desk_jobs starter see w q (head ∷ hs) l) cards
      ∙ ap (λ (j : ℕ). job ∷ desk_jobs starter see w j hs xs) next) in
      let one : JobSeen B L = record { pass = x.0; desk = Some (record { required = required; desk = desk }) } in
      let is : one ≡ job =
      ap (λ (k : DeskView). record { pass = x.0; desk = Some (record { required = required; desk = k }) }) made
      ∙ ap (λ (b : Bool). record { pass = x.0; desk = Some (record { required = b; desk = view }) }) (sym same) in
      ap (λ (l : List (JobSeen B L)). l ++ more) (pushed ∙ ap (λ (j : JobSeen B L). jobs ++ j ∷ []) is)
      ∙ (append_assoc jobs (job ∷ []) more ∙ (ap (λ (l : List (JobSeen B L)). jobs ++ l) (sym rest) ∙ whole))
