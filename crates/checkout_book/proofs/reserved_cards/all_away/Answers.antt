use Rattle.std.proofs.Common.{◌≡◌, ◌++◌, ◌∷◌, [], sym, ap, ◌∙◌, add-one, arith}
use Rattle.checkout_book.specs.declared.shelf.Slot.TheVariants.{Away}
use Rattle.checkout_book.specs.Reserving.{aways}
use Rattle.checkout_book.proofs.Finishing.{aways_more}
use Rattle.checkout_book.proofs.reserved_cards.all_away.Goals as goal

pub loop-at-preserved : goal.loop-at-preserved
loop-at-preserved g c = c.in_ok-push.ensures.items ∙ (ap (λ l. l ++ Away ∷ []) c.loop-at.invariant ∙ (aways_more
    c.loop-at._at ∙ ap aways (sym (add-one c.loop-at._at))))

pub loop-at-init : goal.loop-at-init
loop-at-init g c = c.in_ok-slots.ensures.items

pub returns : goal.returns
returns g c =
    let at_end : c.loop-at._at ≡ c.args.count = omega (arith, c.loop-at-test.false, c.loop-at.auto._at-end) in
    c.loop-at.invariant ∙ ap aways at_end
