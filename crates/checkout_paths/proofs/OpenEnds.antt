-- How the open paths of a checkout end, by what its pool leaves.
use Rattle.std.proofs.Common.{◌≡◌, ℕ, ◌+◌, ◌<◌, Bool, true, List, Option, Some, None, refl, sym, ap, ◌∙◌, subst, ⊎_elim, arith}
use Rattle.std.specs.Prelude.{slice_get}
use Rattle.std.proofs.lemmas.Option.{same_Some}
use Rattle.edge_kit.specs.Told.{Told}
use Rattle.edge_kit.specs.Joins.{JoinsLeaf}
use Rattle.edge_kit.specs.Seen.{BlobSeen, LeafSeen}
use Rattle.edge_kit.specs.declared.tree_file.TreeFile.{TreeFile}
use Rattle.delay_table.specs.Table.{contains}
use Rattle.convert_plan.specs.declared.card.Card.{Card}
use Rattle.convert_plan.specs.Card.{CardSeen}
use Rattle.checkout_core.specs.declared.event.Event.{Event}
use Rattle.checkout_core.specs.declared.event.Event.TheVariants.{Close}
use Rattle.checkout_core.specs.declared.path.Heard.TheVariants as heard
use Rattle.checkout_core.specs.declared.path.Start.{Start}
use Rattle.checkout_core.specs.declared.path.Start.TheVariants as start
use Rattle.checkout_core.specs.declared.verdict.Own.{Own}
use Rattle.checkout_core.specs.Closes.{own_of}
use Rattle.checkout_core.specs.Fates.{Fate, Untold, Known, fate_of, pool_verdict, desk_verdict, told_verdict}
use Rattle.checkout_core.specs.Notes.{notes}
use Rattle.checkout_core.specs.States.{Core, AreBelow}
use Rattle.checkout_book.specs.Sights.{Sight, seen}
use Rattle.checkout_plan.specs.declared.path_plan.PathPlan.{PathPlan}
use Rattle.driver_line.specs.Conversations.{notes_in}
use Rattle.writer_pool.specs.Closing.{IsFromDesk, ServesCard, EndsAtDesk, MayLeaveDesk, ClosesCard}
use Rattle.writer_pool.specs.Ends.{IsEndOf}
use Rattle.card_worker.specs.Writing.{WritesCard}
use Rattle.checkout_paths.specs.Cards.{IsCardFor, AreTexts, IsTextIn, IsText}
use Rattle.checkout_paths.specs.Made.{is_open}
use Rattle.checkout_paths.specs.Talks.{DriverTalk}
use Rattle.checkout_paths.specs.Workers.{starts_of}
use Rattle.checkout_paths.proofs.DeskEnds.{IsDeskCard, wrote, unread_ends, read_ends, book_ends}
use Rattle.checkout_paths.proofs.DriverTalks.{IsTalkOf}
use Rattle.checkout_paths.proofs.PathEnds.{IsWrittenCard, card_ends, card_for}
use Rattle.checkout_paths.proofs.PathsEnd.{IsTold, IsOpenEnd, OpenPathsEnd, start_at}
use Rattle.checkout_paths.proofs.PoolCards.{text_at}

-- a path that starts in the pool has no desk, and is written
pool_wrote : (starts : List Start) (history : List Event) (place p actor : ℕ) (o : Own) (card : CardSeen) (blob : BlobSeen) (leaf : LeafSeen) → slice_get starts p ≡ Some start.Pool
    → ClosesCard starts history place p actor o card blob leaf → WritesCard card o blob leaf
pool_wrote starts history place p actor o card blob leaf pool closes = ⊎_elim
    (λ (h : MayLeaveDesk starts history p × WritesCard card o blob leaf). h.1)
    (λ (h : EndsAtDesk starts history place p actor o card blob leaf). absurd (
    let no : Some start.Pool ≡ Some (start.Desk h.driver h.required) = sym pool ∙ h.desk.begun in
    cc no))
    closes

-- what a card shows that never left the desk of this driver
abbrev ServesHere : List Start → List Event → ℕ → ℕ → ℕ → Own → CardSeen → BlobSeen → LeafSeen → ℕ → Bool → Type 0
ServesHere starts history place p actor o card blob leaf d required =
    IsFromDesk starts history place p actor d required × ServesCard required (fate_of p Untold (notes starts d history)) card o blob leaf

driver_is : (d e : ℕ) (r s : Bool) → Some (start.Desk d r) ≡ Some (start.Desk e s) → d ≡ e
driver_is d e r s same = cc same

required_is : (d e : ℕ) (r s : Bool) → Some (start.Desk d r) ≡ Some (start.Desk e s) → r ≡ s
required_is d e r s same = cc same

-- a path has one desk
desk_served : (starts : List Start) (history : List Event) (place p actor : ℕ) (o : Own) (card : CardSeen) (blob : BlobSeen) (leaf : LeafSeen) (d : ℕ) (required : Bool)
    → slice_get starts p ≡ Some (start.Desk d required) → EndsAtDesk starts history place p actor o card blob leaf → ServesHere starts history place p actor o card blob leaf d required
desk_served starts history place p actor o card blob leaf d required begins h =
    let same : Some (start.Desk h.driver h.required) ≡ Some (start.Desk d required) = sym h.desk.begun ∙ begins in
    subst (λ (e : ℕ). ServesHere starts history place p actor o card blob leaf e required) (driver_is h.driver d h.required required same)
    (subst (λ (r : Bool). ServesHere starts history place p actor o card blob leaf h.driver r) (required_is h.driver d h.required required same) (h.desk, h.serves))

-- each card is that of a path
abbrev pub AreMadeFor : {B L : Type 0} → Sight B L → (List ℕ → Told) → List PathPlan → List (Card B L) → Type 0
AreMadeFor {B} {L} see objects paths cards = (k : ℕ) (c : Card B L) → slice_get cards k ≡ Some c → (p : PathPlan) × (slice_get paths c.path ≡ Some p) × IsCardFor objects c.path p (seen see c)

pool_told : (starts : List Start) (history : List Event) (n : ℕ) (o : Own) → own_of n None history ≡ Some o → told_verdict starts history n start.Pool ≡ Some (pool_verdict o)
pool_told starts history n o is = rw is refl

pub desk_told : (starts : List Start) (history : List Event) (n d : ℕ) (required : Bool) (o : Own) → own_of n None history ≡ Some o
    → told_verdict starts history n (start.Desk d required) ≡ Some (desk_verdict required (fate_of n Untold (notes starts d history)) o)
desk_told starts history n d required o is = rw is refl

module _ {B L : Type 0} (see : Sight B L) (objects : List ℕ → Told) (talks : List DriverTalk) (paths : List PathPlan) (history : List Event) (cards : List (Card B L)) (core : Core) (leaf_of : ℕ → Option L) where
  -- the card of a path, and how it was closed
  record IsClosedCard (n : ℕ) (p : PathPlan) (b : B) (l : L) : Type 0 where
    card : Card B L
    made : IsCardFor objects n p (seen see card)
    actor : ℕ
    own : Own
    place : ℕ
    entry : slice_get history place ≡ Some (Close n actor own)
    name : (see.blob b).name ≡ p.object
    path : (see.leaf l).path ≡ p.path
    own_is : own_of n None history ≡ Some own
    ends : ClosesCard (starts_of paths) history place n actor own (card_for objects n p (see.leaf card.leaf)) (see.blob b) (see.leaf l)

  closed_card_of : AreMadeFor see objects paths cards → (n : ℕ) (p : PathPlan) (b : B) (l : L) → slice_get paths n ≡ Some p → IsEndOf see (starts_of paths) history cards n b l → IsClosedCard n p b l
  closed_card_of are n p b l at (k, card, there, path, closed) =
      let one = are k card there in
      let same : one.0 ≡ p = same_Some one.0 p (sym one.1 ∙ (ap (slice_get paths) path ∙ at)) in
      let made : IsCardFor objects n p (seen see card) = subst (λ (q : PathPlan). IsCardFor objects n q (seen see card)) same
      (subst (λ (m : ℕ). IsCardFor objects m one.0 (seen see card)) path one.2) in
      record {
        card = card;
        made = made;
        actor = closed.actor;
        own = closed.own;
        place = closed.place;
        entry = closed.entry ∙ ap (λ (m : ℕ). Some (Close m closed.actor closed.own)) path;
        name = closed.name ∙ ap (λ (c : CardSeen). c.blob.name) made.same;
        path = closed.path ∙ made.new_leaf.named;
        own_is = subst (λ (m : ℕ). own_of m None history ≡ Some closed.own) path closed.own_is;
        ends = subst (λ (c : CardSeen). ClosesCard (starts_of paths) history closed.place n closed.actor closed.own c (see.blob b) (see.leaf l)) made.same
            (subst (λ (m : ℕ). ClosesCard (starts_of paths) history closed.place m closed.actor closed.own (seen see card) (see.blob b) (see.leaf l)) path closed.ends);
      }

  text_here : (n : ℕ) (p : PathPlan) (s : Start) → AreTexts paths → slice_get paths n ≡ Some p → p.start ≡ s → IsTextIn s p.path
  text_here n p s texts at is = subst (λ (s : Start). IsTextIn s p.path) is (text_at paths n p texts at)

  -- a path of the pool
  pub pool_end : AreMadeFor see objects paths cards → AreTexts paths → IsTold see objects talks paths history cards core leaf_of → (n : ℕ) (p : PathPlan) (b : B) (l : L) (old new : Option (List TreeFile)) → slice_get paths n ≡ Some p
      → p.start ≡ start.Pool → IsEndOf see (starts_of paths) history cards n b l → JoinsLeaf (see.leaf l) old new → IsOpenEnd see objects talks paths history cards core leaf_of n p b l old new
  pool_end are texts law n p b l old new at begun ends joins =
      let c = closed_card_of are n p b l at ends in
      let begins : slice_get (starts_of paths) n ≡ Some start.Pool = start_at see objects talks paths history cards core leaf_of n p at ∙ ap Some begun in
      let text : IsText p.path = text_here n p start.Pool texts at begun in
      let w : IsWrittenCard p (see.leaf (c.card).leaf) (see.blob b) (see.leaf l) old new = record {
        begun = begun;
        text = text.text;
        new_leaf = c.made.new_leaf;
        name = c.name;
        path = c.path;
        joins = joins;
      } in
      record {
        verdict = pool_verdict c.own;
        end = card_ends objects talks n p c.own (see.leaf (c.card).leaf) (see.blob b) (see.leaf l) old new w
            (pool_wrote (starts_of paths) history c.place n c.actor c.own (card_for objects n p (see.leaf (c.card).leaf)) (see.blob b) (see.leaf l) begins c.ends);
        told = law.told n start.Pool begins ∙ pool_told (starts_of paths) history n c.own c.own_is;
      }

  -- a path at the desk of a driver
  pub desk_end : AreMadeFor see objects paths cards → AreTexts paths → IsTold see objects talks paths history cards core leaf_of → (d : ℕ) (required : Bool) (t : DriverTalk) → slice_get talks d ≡ Some t → IsTalkOf see paths history leaf_of d t
      → (n : ℕ) (p : PathPlan) (b : B) (l : L) (old new : Option (List TreeFile)) → slice_get paths n ≡ Some p → p.start ≡ start.Desk d required
      → IsEndOf see (starts_of paths) history cards n b l → leaf_of n ≡ Some l → JoinsLeaf (see.leaf l) old new → IsOpenEnd see objects talks paths history cards core leaf_of n p b l old new
  desk_end are texts law d required t in_talks talk n p b l old new at begun ends there joins =
      let c = closed_card_of are n p b l at ends in
      let begins : slice_get (starts_of paths) n ≡ Some (start.Desk d required) = start_at see objects talks paths history cards core leaf_of n p at ∙ ap Some begun in
      let text : IsText p.path = text_here n p (start.Desk d required) texts at begun in
      let w : IsDeskCard objects talks n p d required t (see.leaf (c.card).leaf) (see.blob b) (see.leaf l) old new = record {
        begun = begun;
        talk = in_talks;
        text = text.text;
        new_leaf = c.made.new_leaf;
        name = c.name;
        path = c.path;
        joins = joins;
      } in
      let noted : fate_of n Untold (notes (starts_of paths) d history) ≡ fate_of n Untold (notes_in d t.exchanges) = ap (fate_of n Untold) talk.noted in
      let asked : wrote c.own ≡ true → contains n t.asked ≡ true = talk.asked n c.place c.actor required c.own begins c.entry in
      let told = law.told n (start.Desk d required) begins ∙ desk_told (starts_of paths) history n d required c.own c.own_is in
      ⊎_elim
      (λ (left : MayLeaveDesk (starts_of paths) history n × WritesCard (card_for objects n p (see.leaf (c.card).leaf)) c.own (see.blob b) (see.leaf l)).
      let refused = left.0 d required begins in
      record {
        verdict = desk_verdict required (Known (heard.Refused refused.1)) c.own;
        end = book_ends objects talks n p d required t (see.leaf (c.card).leaf) (see.blob b) (see.leaf l) old new w refused.1 c.own refused.0 (sym noted ∙ refused.2) asked left.1;
        told = told ∙ ap (λ (f : Fate). Some (desk_verdict required f c.own)) refused.2;
      })
      (λ (stayed : EndsAtDesk (starts_of paths) history c.place n c.actor c.own (card_for objects n p (see.leaf (c.card).leaf)) (see.blob b) (see.leaf l)).
      let here = desk_served (starts_of paths) history c.place n c.actor c.own (card_for objects n p (see.leaf (c.card).leaf)) (see.blob b) (see.leaf l) d required begins stayed in
      let holds = talk.answers n (see.leaf l) (record {
        place = c.place;
        actor = c.actor;
        own = c.own;
        required = required;
        leaf = l;
        entry = c.entry;
        desk = here.0;
        there = there;
        is = refl;
      }) in
      ⊎_elim
      (λ unread. record {
        verdict = desk_verdict required (fate_of n Untold (notes (starts_of paths) d history)) c.own;
        end = unread_ends objects talks n p d required t (see.leaf (c.card).leaf) (see.blob b) (see.leaf l) old new w (fate_of n Untold (notes (starts_of paths) d history)) c.own holds unread;
        told = told;
      })
      (λ served. record {
        verdict = desk_verdict required (Known served.0) c.own;
        end = read_ends objects talks n p d required t (see.leaf (c.card).leaf) (see.blob b) (see.leaf l) old new w served.0 c.own (sym noted ∙ served.1) asked
            holds served.2;
        told = told ∙ ap (λ (f : Fate). Some (desk_verdict required f c.own)) served.1;
      })
      here.1)
      c.ends

  -- each open path
  pub open_ends : AreMadeFor see objects paths cards → AreTexts paths → IsTold see objects talks paths history cards core leaf_of → (drivers : ℕ) → AreBelow drivers (starts_of paths)
      → ((i : ℕ) → i < drivers → (t : DriverTalk) × (slice_get talks i ≡ Some t) × IsTalkOf see paths history leaf_of (0 + i) t) → OpenPathsEnd see objects talks paths history cards core leaf_of
  open_ends are texts law drivers below each n p b l old new at opens ends there joins = by p.start refl opens
    where
      by : (s : Start) → p.start ≡ s → is_open s ≡ true → IsOpenEnd see objects talks paths history cards core leaf_of n p b l old new
      by (start.Done v) is opens = absurd cc
      by start.Pool is opens = pool_end are texts law n p b l old new at is ends joins
      by (start.Desk d required) is opens =
          let t = each d (below n d required (start_at see objects talks paths history cards core leaf_of n p at ∙ ap Some is)) in
          let same : ◌≡◌ {A = ℕ} (0 + d) d = omega arith in
          desk_end are texts law d required t.0 t.1 (subst (λ (k : ℕ). IsTalkOf see paths history leaf_of k t.0) same t.2) n p b l old new at is ends there joins
