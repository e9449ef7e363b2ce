-- How a held card is written.
use Rattle.std.proofs.Common.{◌≡◌, ℕ, Bool, true, Option, Some, None, Ok, Err, refl, sym, ap, ◌∙◌, subst}
use Rattle.std.specs.Prelude.{is_some}
use Rattle.edge_kit.specs.Told.{MayFail}
use Rattle.edge_kit.specs.Seen.{LeafSeen}
use Rattle.edge_kit.specs.declared.leaf_state.Mark.{Mark}
use Rattle.object_dir.specs.Object.{IsObject}
use Rattle.object_dir.specs.declared.fault.ObjectFault.{ObjectFault}
use Rattle.object_dir.specs.declared.fault.ObjectFault.TheVariants as fault
use Rattle.object_dir.specs.declared.taken_blob.Taken.{Taken}
use Rattle.tree_encoding.specs.declared.prepared.Prepared.{Prepared}
use Rattle.convert_plan.specs.Card.{CardSeen, IsCardOf, IsPrepared}
use Rattle.checkout_core.specs.declared.verdict.Own.{Own}
use Rattle.checkout_core.specs.declared.verdict.Own.TheVariants as own
use Rattle.checkout_core.specs.Desks.{was_read}
use Rattle.driver_desk.specs.Cards.{KeepsCard}
use Rattle.driver_desk.specs.Works.{ReadsTo, CountsRead, own_of}
use Rattle.card_worker.specs.Holding.{HoldsCard, WritesHeld}
use Rattle.card_worker.specs.Writing.{WritesContent, WritesCard}

-- what was prepared for a card shows that its object was read
unready : (c : CardSeen) (o : Own) → c.ready ≡ None → is_some c.ready ≡ true → was_read o ≡ true
unready c o none some = absurd (let e = ap (λ (x : Option Prepared). is_some x) none in cc (e, some))

same_card : (c card : CardSeen) → KeepsCard c card → card.blob.faults ≡ c.blob.faults → card ≡ c
same_card c card keeps same = keeps ∙ ap (λ (n : ℕ). record c { blob = record c.blob { faults = n } }) same

written_path : (mark : Mark) (ready : Prepared) (old new : LeafSeen) (o : Own) → WritesContent mark ready old o new
    → new.path ≡ old.path
written_path mark ready old new (own.Fine u) h = h.1.path
written_path mark ready old new own.WriteFailed h = h.path
written_path mark ready old new own.NoMemory h = ap (λ (l : LeafSeen). l.path) h
written_path mark ready old new own.ReadFailed h = absurd h
written_path mark ready old new (own.Object k) h = absurd h

wrote_ready : (c : CardSeen) (ready : Prepared) (o : Own) (leaf : LeafSeen) → IsPrepared c ready
    → WritesContent c.mark ready c.leaf o leaf → WritesCard c o c.blob leaf
wrote_ready c ready (own.Fine u) leaf is h = (ready, is, h, refl)
wrote_ready c ready own.WriteFailed leaf is h = (ready, is, h, refl)
wrote_ready c ready own.NoMemory leaf is h = (refl, h)
wrote_ready c ready own.ReadFailed leaf is h = absurd h
wrote_ready c ready (own.Object k) leaf is h = absurd h

-- the card's content was written
pub held_written : (c card : CardSeen) (taken : Taken) (ready : Prepared) (o : Own) (leaf : LeafSeen)
    → HoldsCard c card (Some taken) → ReadsTo c (Ok ready) → card.blob.faults ≡ c.blob.faults
    → WritesContent card.mark ready card.leaf o leaf → WritesHeld c (record card { leaf = leaf }) o
held_written c card taken ready o leaf holds is same wrote =
    let e = same_card c card holds.0 same in
    let w = subst (λ (x : CardSeen). WritesContent x.mark ready x.leaf o leaf) e wrote in
    subst (λ (x : CardSeen). WritesHeld c (record x { leaf = leaf }) o) (sym e) record {
      kept = ap (λ p. record c { leaf = record leaf { path = p } }) (written_path c.mark ready c.leaf leaf o w);
      wrote = wrote_ready c ready o leaf is w;
      read = unready c o holds.1;
    }

may_fail : (c : CardSeen) (f : ObjectFault) → own.ReadFailed ≡ own_of f → IsObject c.told c.object (Err f)
    → MayFail c.told
may_fail c fault.ReadFailed is h = h
may_fail c fault.Absent is h = absurd (cc (is))
may_fail c fault.TooLarge is h = absurd (cc (is))
may_fail c fault.Header is h = absurd (cc (is))
may_fail c fault.Size is h = absurd (cc (is))
may_fail c (fault.WrongName name) is h = absurd (cc (is))
may_fail c fault.NoMemory is h = absurd (cc (is))

not_fine : (u : Bool) (f : ObjectFault) → own.Fine u ≡ own_of f → ⊥
not_fine u fault.ReadFailed is = cc (is)
not_fine u fault.Absent is = cc (is)
not_fine u fault.TooLarge is = cc (is)
not_fine u fault.Header is = cc (is)
not_fine u fault.Size is = cc (is)
not_fine u (fault.WrongName name) is = cc (is)
not_fine u fault.NoMemory is = cc (is)

not_write_failed : (f : ObjectFault) → own.WriteFailed ≡ own_of f → ⊥
not_write_failed fault.ReadFailed is = cc (is)
not_write_failed fault.Absent is = cc (is)
not_write_failed fault.TooLarge is = cc (is)
not_write_failed fault.Header is = cc (is)
not_write_failed fault.Size is = cc (is)
not_write_failed (fault.WrongName name) is = cc (is)
not_write_failed fault.NoMemory is = cc (is)

wrote_none : (c card : CardSeen) (o : Own) → KeepsCard c card → ReadsTo c (Err o)
    → CountsRead {T = Prepared} c.blob.faults card.blob.faults (Err o) → WritesCard c o card.blob card.leaf
wrote_none c card (own.Fine u) keeps reads counts = absurd (not_fine u reads.fault reads.own)
wrote_none c card own.WriteFailed keeps reads counts = absurd (not_write_failed reads.fault reads.own)
wrote_none c card own.ReadFailed keeps reads counts =
    (may_fail c reads.fault reads.own reads.object, counts, ap (λ (x : CardSeen). x.leaf) keeps)
wrote_none c card (own.Object k) keeps reads counts =
    let e = same_card c card keeps counts in
    (reads, ap (λ (x : CardSeen). x.blob) e, ap (λ (x : CardSeen). x.leaf) e)
wrote_none c card own.NoMemory keeps reads counts =
    let e = same_card c card keeps counts in (ap (λ (x : CardSeen). x.blob) e, ap (λ (x : CardSeen). x.leaf) e)

-- the card's object gave no content
pub held_unread : (c card : CardSeen) (taken : Taken) (o : Own) → HoldsCard c card (Some taken) → ReadsTo c (Err o)
    → CountsRead {T = Prepared} c.blob.faults card.blob.faults (Err o) → WritesHeld c card o
held_unread c card taken o holds reads counts = record {
  kept = subst (IsCardOf c) (sym holds.0) refl;
  wrote = wrote_none c card o holds.0 reads counts;
  read = unready c o holds.1;
}
