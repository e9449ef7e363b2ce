use Rattle.std.proofs.Common.{length, map, ap, ◌∙◌, arith}
use Rattle.checkout_book.specs.Shelves.{waits}
use Rattle.checkout_book.specs.Reserving.{placed}
use Rattle.checkout_book.proofs.Flags.{flags_length}
use Rattle.checkout_book.proofs.Finishing.{aways_length, placed_length}
use Rattle.checkout_book.proofs.reserved_cards.lay.Goals as goal

pub place-slots-requires : goal.place-slots-requires
place-slots-requires g c k card at = omega (
  arith,
  c.requires.there k card at,
  ap length c.in_ok-slots.ensures,
  aways_length g.row.B.Denot g.row.L.Denot c.args.paths,
)

pub reserve-requires : goal.reserve-requires
reserve-requires g c = omega (
  arith,
  ap length c.in_ok-flags.ensures,
  flags_length c.as_slice.result.now,
  ap length c.as_slice.ensures.value,
  ap length c.place-slots.ensures,
  placed_length c.in_ok-slots.slots.items c.args.pool.items,
  ap length c.in_ok-slots.ensures,
  aways_length g.row.B.Denot g.row.L.Denot c.args.paths,
  c.requires.few,
)

pub returns-clause-slots : goal.returns-clause-slots
returns-clause-slots g c = c.place-slots.ensures ∙ ap (λ l. placed l c.args.pool.items) c.in_ok-slots.ensures

pub returns-clause-waiting : goal.returns-clause-waiting
returns-clause-waiting g c = c.in_ok-waiting.ensures ∙ (c.in_ok-flags.ensures ∙ ap (λ l. map (λ s. waits s) l)
    c.as_slice.ensures.value)
