-- What a worker did, turn by turn.
use Rattle.std.proofs.Common.{◌≡◌, ℕ, Bool, true, false, cond, List, [], ◌∷◌, ◌++◌, Option, Some, None, refl, sym, ap, ◌∙◌, subst, append_assoc}
use Rattle.std.specs.Prelude.{is_some}
use Rattle.turn_lock.specs.History.{Begins}
use Rattle.edge_kit.specs.Told.{Tells}
use Rattle.edge_kit.specs.Seen.{BlobSeen, LeafSeen}
use Rattle.tree_encoding.specs.declared.prepared.Prepared.{Prepared}
use Rattle.convert_plan.specs.declared.card.Card.{Card}
use Rattle.convert_plan.specs.Card.{CardSeen, IsCardOf, IsPrepared}
use Rattle.checkout_core.specs.declared.verdict.FilterCause.{FilterCause}
use Rattle.checkout_core.specs.declared.verdict.Own.{Own}
use Rattle.checkout_core.specs.declared.verdict.Own.TheVariants as own
use Rattle.checkout_core.specs.declared.verdict.Verdict.{Verdict}
use Rattle.checkout_core.specs.declared.path.PathState.TheVariants.{Waiting}
use Rattle.checkout_core.specs.declared.event.Event.{Event}
use Rattle.checkout_core.specs.declared.event.Event.TheVariants.{Close}
use Rattle.checkout_core.specs.States.{Core}
use Rattle.checkout_core.specs.Verdicts.{held_close}
use Rattle.checkout_core.specs.Actors.{is_step}
use Rattle.checkout_core.specs.Hands.{Holds}
use Rattle.checkout_core.specs.Desks.{was_read}
use Rattle.checkout_core.specs.Notes.{is_noted, noted}
use Rattle.checkout_book.specs.declared.plan.HistoryEntry.{HistoryEntry}
use Rattle.checkout_book.specs.Sights.{Sight, seen, tell}
use Rattle.checkout_book.specs.Shelves.{IsPlanned, IsOut, WaitsSo}
use Rattle.checkout_book.specs.Reserving.{AreNew}
use Rattle.card_worker.specs.Writing.{IsToWrite, WritesCard}
use Rattle.card_worker.specs.Working.{IsShown, AreShown}

pub begins_trans : {E : Type 0} (xs ys zs : List (ℕ × E)) → Begins xs ys → Begins ys zs → Begins xs zs
begins_trans xs ys zs b c = (b.0 ++ c.0, sym (append_assoc xs b.0 c.0) ∙ (ap (λ l. l ++ c.0) b.1 ∙ c.1))

pub noted_more : (xs ys : List Event) → noted ys ≡ [] → noted xs ≡ [] → noted (xs ++ ys) ≡ []
noted_more [] ys e f = e
noted_more (x ∷ xs) ys e f = go (is_noted x) f (noted_more xs ys e)
  where
    go : (b : Bool) → cond b (x ∷ noted xs) (noted xs) ≡ [] → (noted xs ≡ [] → noted (xs ++ ys) ≡ [])
        → cond b (x ∷ noted (xs ++ ys)) (noted (xs ++ ys)) ≡ []
    go true h more = absurd (cc (h))
    go false h more = more h

-- what was prepared for a card that was claimed is its own
ready_is_prepared : (card : CardSeen) (raw : Option FilterCause) (ready : Option Prepared)
    → WaitsSo card (Waiting raw) ready → (p : Prepared) → ready ≡ Some p → IsPrepared card p
ready_is_prepared card None None so p e = absurd (cc (e))
ready_is_prepared card None (Some r) so p e = absurd so
ready_is_prepared card (Some why) None so p e = absurd so
ready_is_prepared card (Some why) (Some r) so p e = let same : r ≡ p = cc (e) in subst (IsPrepared card) same so

-- there is a verdict for each outcome that a claimed card may have
pub has_verdict : (card : CardSeen) (raw : Option FilterCause) (ready : Option Prepared) (o : Own)
    → WaitsSo card (Waiting raw) ready → (is_some ready ≡ true → was_read o ≡ true)
    → (v : Verdict) × (held_close raw o ≡ Some v)
has_verdict card None ready (own.Fine u) so read = (_, refl)
has_verdict card None ready own.WriteFailed so read = (_, refl)
has_verdict card None ready own.NoMemory so read = (_, refl)
has_verdict card None ready (own.Object k) so read = (_, refl)
has_verdict card None ready own.ReadFailed so read = (_, refl)
has_verdict card (Some why) None o so read = absurd so
has_verdict card (Some why) (Some r) (own.Fine u) so read = (_, refl)
has_verdict card (Some why) (Some r) own.WriteFailed so read = (_, refl)
has_verdict card (Some why) (Some r) own.NoMemory so read = (_, refl)
has_verdict card (Some why) (Some r) (own.Object k) so read = absurd (let h = read refl in cc (h))
has_verdict card (Some why) (Some r) own.ReadFailed so read = absurd (let h = read refl in cc (h))

-- `ready` doesn't show in how the writing of a card ended
pub wrote_planned : (card : CardSeen) (ready : Option Prepared) (o : Own) (blob : BlobSeen) (leaf : LeafSeen)
    → WritesCard (record card { ready = ready }) o blob leaf → WritesCard card o blob leaf
wrote_planned card ready (own.Fine u) blob leaf h = h
wrote_planned card ready own.WriteFailed blob leaf h = h
wrote_planned card ready own.ReadFailed blob leaf h = h
wrote_planned card ready (own.Object k) blob leaf h =
    (record { fault = h.0.fault; object = h.0.object; own = h.0.own }, h.1, h.2)
wrote_planned card ready own.NoMemory blob leaf h = h

module _ {B L : Type 0} (see : Sight B L) where
  -- a planned card may be written
  pub planned_to_write : (cards : List (Card B L)) (k : Card B L) (raw : Option FilterCause) → AreNew see cards
      → IsPlanned see cards k → WaitsSo (seen see k) (Waiting raw) k.ready → IsToWrite (seen see k)
  planned_to_write cards k raw new p so =
      let card = new p.0 p.1 p.2 in
      record {
        fresh = ap (λ (z : CardSeen). z.leaf.state) p.3 ∙ card.new_leaf.fresh;
        empty = subst (λ (z : CardSeen). Tells z.leaf.content []) (sym p.3) card.new_leaf.content;
        ready = λ r is. ready_is_prepared (seen see k) raw k.ready so r is;
      }

  -- a card that an actor has in hand may be closed after it was written
  pub held_may_close : ((c : Core) (p a : ℕ) (raw : Option FilterCause) (o : Own) (v : Verdict) → Holds c p a raw
      → held_close raw o ≡ Some v → is_step c (Close p a o) ≡ true)
      → (x : Core) (k w : Card B L) (raw : Option FilterCause) (n : ℕ) (o : Own) → Holds x k.path n raw
      → WaitsSo (seen see k) (Waiting raw) k.ready → IsCardOf (seen see k) (seen see w)
      → (is_some k.ready ≡ true → was_read o ≡ true) → is_step x (Close w.path n o) ≡ true
  held_may_close law x k w raw n o holds so kept read =
      let v = has_verdict (seen see k) raw k.ready o so read in
      subst (λ (p : ℕ). is_step x (Close p n o) ≡ true) (sym (ap (λ (z : CardSeen). z.path) kept))
      (law x k.path n raw o v.0 holds v.1)

  pub out_again : (cards : List (Card B L)) (k w : Card B L) → IsPlanned see cards k
      → IsCardOf (seen see k) (seen see w) → IsOut see cards w
  out_again cards k w p is = (p.0, p.1, p.2, subst (λ (z : CardSeen). IsCardOf z (seen see w)) p.3 is)

  -- how the writing of a claimed card ended shows in the entry of its Close
  pub shown : (cards : List (Card B L)) (k w : Card B L) (n : ℕ) (o : Own) → IsPlanned see cards k
      → IsCardOf (seen see k) (seen see w) → WritesCard (seen see k) o (see.blob w.blob) (see.leaf w.leaf)
      → IsShown see cards (Close w.path n o) (Some (tell see w.blob w.leaf))
  shown cards k w n o p kept wrote = (
    p.0,
    p.1,
    p.2,
    sym (ap (λ (z : CardSeen). z.path) p.3) ∙ sym (ap (λ (z : CardSeen). z.path) kept),
    wrote_planned (seen see p.1) k.ready o (see.blob w.blob) (see.leaf w.leaf)
        (subst (λ (z : CardSeen). WritesCard z o (see.blob w.blob) (see.leaf w.leaf)) p.3 wrote),
  )

  pub shown_more : (cards : List (Card B L)) (xs ys : List HistoryEntry) → AreShown see cards xs → AreShown see cards ys
      → AreShown see cards (xs ++ ys)
  shown_more cards [] ys h k = k
  shown_more cards (x ∷ xs) ys h k = (h.0, shown_more cards xs ys h.1 k)
