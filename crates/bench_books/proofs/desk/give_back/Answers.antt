use Rattle.std.proofs.Common.{ℕ, Some, refl, sym, ap, ◌∙◌}
use Rattle.checkout_core.specs.declared.event.Event.TheVariants.{HandBack}
use Rattle.bench_books.proofs.Working.{by_number, note_named}
use Rattle.bench_books.proofs.Pairing.{not_started, by_desk, first_note, back_by, may_fail, may_hand_back, nothing_after}
use Rattle.bench_books.proofs.desk.give_back.Goals as goal

pub note-requires : goal.note-requires
note-requires g c =
    let r = c.requires.first in
    let f = r.2 in
    let h = f.idle in (
      r.0,
      r.1,
      h.0,
      by_number _ r.0 _ r.1 _ h.0 h.1,
      refl,
      by_desk _ r.0 r.1 _ f not_started refl ∙ ap (λ (k : ℕ). Some k) (sym h.1.seat.named),
      may_fail _ r.0 r.1 _ f h.0 h.1,
    )

pub hand_back-requires : goal.hand_back-requires
hand_back-requires g c =
    let r = c.requires.first in
    let f = r.2 in
    let h = f.idle in
    let t = first_note _ r.0 r.1 _ f _ h.0 h.1 (c.note.ensures r.0 r.1) in
    let now = t.turn.pass in (
      r.0,
      r.1,
      t.core,
      by_number _ r.0 _ r.1 _ t.core now,
      back_by _ r.0 r.1 _ f _ _ c.requires.path now.seat.named,
      may_hand_back _ r.0 r.1 _ f c.what_may_follow_is_a_step.ensures c.a_pass_lists_its_own_entries.ensures _ h.0 t
          h.1 _ c.requires.path,
      r.3,
    )

pub returns : goal.returns
returns g c d made f =
    let h = f.idle in
    let t = first_note _ d made _ f _ h.0 h.1 (c.note.ensures d made) in
    let now = t.turn.pass in
    let u = note_named c.args.book.now d 1 made c.note.new.pass c.hand_back.new.pass t.core (HandBack c.args.card.path)
    now.seat.named
    (c.hand_back.ensures d made t.core (by_number c.args.book.now d 1 made c.note.new.pass t.core now)
    (back_by c.args.book.now d made c.args.pass f c.args.card.path _ c.requires.path now.seat.named)) in
    nothing_after c.args.book.now d made c.args.pass f c.note.new.pass c.hand_back.new.pass h.0 t c.args.card.path u h.2
