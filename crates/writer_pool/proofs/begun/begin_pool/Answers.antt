use Rattle.std.proofs.Common.{◌≡◌, ◌+◌, ◌++◌, ℕ, List, None, map, length, length-append, refl, sym, ap, ◌∙◌, subst, arith}
use Rattle.std.specs.Global.{Vec}
use Rattle.std.proofs.lemmas.List.{length-map}
use Rattle.turn_lock.specs.Seat.{SeatView}
use Rattle.convert_plan.specs.declared.card.Card.{Card}
use Rattle.checkout_core.specs.States.{AreBelow}
use Rattle.checkout_book.specs.declared.plan.BookPlan.{BookPlan}
use Rattle.checkout_book.specs.declared.plan.HistoryEntry.{HistoryEntry}
use Rattle.checkout_book.specs.Sights.{sight}
use Rattle.checkout_book.specs.Shelves.{joined}
use Rattle.checkout_book.specs.Reserving.{AreNew, AreDealt}
use Rattle.writer_pool.specs.declared.pooled.DeskSeed.{DeskSeed}
use Rattle.writer_pool.specs.declared.desks.DeskHead.{DeskHead}
use Rattle.writer_pool.specs.Dealing.{JobSeen, AreDecks, desk_jobs, head_of}
use Rattle.writer_pool.specs.Jobs.{AreJobs, AreActors}
use Rattle.writer_pool.proofs.Dealing.{new_back, joined_seeds, seeds_dealt, decks_are, jobs_are, actors_are, desk_jobs_length}
use Rattle.writer_pool.proofs.begun.begin_pool.Goals as goal

pub reserve-requires-clause-plan : goal.reserve-requires-clause-plan
reserve-requires-clause-plan g c =
    let see = sight g.B.Blob.told g.B.Blob.seen g.L.Leaf.seen in
    let n = ap length c.in_ok-heads.ensures.cards
    ∙ length-map c.args.desks.items (λ (x : DeskSeed g.row.S.Denot g.row.B.Denot g.row.L.Denot). x.cards) in
    let cards = ap (λ (l : List (Vec (Card g.row.B.Denot g.row.L.Denot))). joined l) c.in_ok-heads.ensures.cards
    ∙ joined_seeds c.args.desks.items in record {
      few_paths = c.requires.few_paths;
      below = subst (λ (j : ℕ). AreBelow j c.args.starts.items) (sym n) c.requires.below;
      some = c.requires.some;
      few_workers = c.requires.few_workers;
      few_desks = omega (arith, n, c.requires.few_desks);
      pool_is = c.requires.pool_is;
      new = subst (λ (l : List (Card g.row.B.Denot g.row.L.Denot)). AreNew see (c.args.pool.items ++ l)) (sym cards)
          c.requires.new;
    }

pub reserve-requires-clause-desks : goal.reserve-requires-clause-desks
reserve-requires-clause-desks g c =
    subst (AreDealt c.args.starts.items 0) (sym c.in_ok-heads.ensures.cards)
    (seeds_dealt g.S.Starter.seen c.args.starts.items 0 c.args.desks.items c.requires.seeds_are)

pub with_desks-requires-clause-few_desks : goal.with_desks-requires-clause-few_desks
with_desks-requires-clause-few_desks g c κs within =
    let B = g.row.B.Denot in
    let L = g.row.L.Denot in
    let n = ap length c.in_ok-heads.ensures.cards
    ∙ length-map c.args.desks.items (λ (x : DeskSeed g.row.S.Denot B L). x.cards) in
    let dealt = c.in_ok-begun.begun.desks.items in
    omega (
      arith,
      n,
      ap length c.in_ok-begun.ensures.cards,
      length-map dealt (λ (x : SeatView HistoryEntry (BookPlan B L) × Vec (Card B L)). x.1),
      c.requires.few_desks,
    )

pub with_desks-requires-clause-heads : goal.with_desks-requires-clause-heads
with_desks-requires-clause-heads g c κs within =
    let S = g.row.S.Denot in
    let B = g.row.B.Denot in
    let L = g.row.L.Denot in
    let n = ap length c.in_ok-heads.ensures.cards ∙ length-map c.args.desks.items (λ (x : DeskSeed S B L). x.cards) in
    let m = ap length c.in_ok-heads.ensures.heads ∙ length-map c.args.desks.items (λ (x : DeskSeed S B L). head_of x) in
    let dealt = c.in_ok-begun.begun.desks.items in
    omega (
      arith,
      n,
      m,
      ap length c.in_ok-begun.ensures.cards,
      length-map dealt (λ (x : SeatView HistoryEntry (BookPlan B L) × Vec (Card B L)). x.1),
    )

pub with_desks-requires-clause-decks : goal.with_desks-requires-clause-decks
with_desks-requires-clause-decks g c κs within =
    let see = sight g.B.Blob.told g.B.Blob.seen g.L.Leaf.seen in
    subst (AreDecks see) (sym (c.in_ok-begun.ensures.cards ∙ c.in_ok-heads.ensures.cards))
    (decks_are g.S.Starter.seen see c.args.starts.items 0 c.args.desks.items c.requires.seeds_are
    (new_back see c.args.pool.items _ c.requires.new))

pub returns : goal.returns
returns g c =
    let S = g.row.S.Denot in
    let B = g.row.B.Denot in
    let L = g.row.L.Denot in
    let P : Type 0 = SeatView HistoryEntry (BookPlan B L) in
    let see = sight g.B.Blob.told g.B.Blob.seen g.L.Leaf.seen in
    let starter = g.S.Starter.seen in
    let seeds = c.args.desks.items in
    let decks = c.in_ok-heads.ensures.cards in
    let e = c.in_ok-begun.ensures in
    let ps = c.in_ok-begun.begun.workers.items in
    let dealt = c.in_ok-begun.begun.desks.items in
    let lock = c.in_ok-begun.begun.book in
    let w = c.args.workers in
    let d : BookPlan B L = record {
      pool = c.args.pool;
      desks = c.in_ok-heads.cards;
      starts = c.args.starts;
      workers = w;
      drivers = length c.in_ok-heads.cards.items;
    } in
    let n : length c.in_ok-heads.cards.items ≡ length seeds =
    ap length decks ∙ length-map seeds (λ (x : DeskSeed S B L). x.cards) in
    let cards = ap (λ (l : List (Vec (Card B L))). joined l) decks ∙ joined_seeds seeds in
    let new = subst (λ (l : List (Card B L)). AreNew see (c.args.pool.items ++ l)) (sym cards) c.requires.new in
    let first : List (JobSeen B L) = map (λ (p : P). record { pass = p; desk = None }) ps in
    let is : c.in_ok-jobs-2.jobs.items ≡ first ++ desk_jobs starter see w 0 (map (λ x. head_of x) seeds) dealt =
    c.in_ok-jobs-2.ensures
    ∙ (ap (λ (l : List (JobSeen B L)). l ++ desk_jobs starter see w 0 c.in_ok-heads.heads.items dealt)
    c.in_ok-jobs.ensures
    ∙ ap (λ (l : List (DeskHead S)). first ++ desk_jobs starter see w 0 l dealt) c.in_ok-heads.ensures.heads) in
    let long : length dealt ≡ length seeds =
    sym (length-map dealt (λ (x : P × Vec (Card B L)). x.1)) ∙ (ap length e.cards ∙ n) in
    let heads : length (map (λ (x : DeskSeed S B L). head_of x) seeds) ≡ length dealt =
    length-map seeds (λ (x : DeskSeed S B L). head_of x) ∙ sym long in
    let some = e.count in
    let count : length c.in_ok-jobs-2.jobs.items ≡ w + length seeds = omega (
      arith,
      ap length is,
      length-append first (desk_jobs starter see w 0 (map (λ x. head_of x) seeds) dealt),
      length-map {B = JobSeen B L} ps (λ (p : P). record { pass = p; desk = None }),
      desk_jobs_length starter see w 0 (map (λ x. head_of x) seeds) dealt heads,
      long,
      some,
    ) in
    let made : w + length c.in_ok-heads.cards.items ≡ length c.in_ok-jobs-2.jobs.items =
    omega (arith, n, count) in
    let jobs = jobs_are starter see lock d (w + length c.in_ok-heads.cards.items) ps seeds dealt e.cards e.passes
    e.fresh e.count new c.requires.seeds_are (subst (λ (j : ℕ). AreBelow j c.args.starts.items) (sym n) c.requires.below)
    n decks in
    record {
      plan = d;
      starts_are = refl;
      workers_are = refl;
      drivers_are = n;
      pool_is = refl;
      cards_are = ap (λ (l : List (Card B L)). c.args.pool.items ++ l) cards;
      dealt = subst (AreDealt c.args.starts.items 0) (sym decks)
          (seeds_dealt starter c.args.starts.items 0 seeds c.requires.seeds_are);
      count = count;
      ready = subst (λ (m : ℕ). AreJobs see lock d 0 m c.in_ok-jobs-2.jobs.items) made
          (subst (AreJobs see lock d 0 (w + length c.in_ok-heads.cards.items)) (sym is) jobs);
      actors = subst (AreActors starter see w w seeds) (sym is)
          (actors_are starter see w w ps seeds dealt (e.cards ∙ decks) e.count);
    }
