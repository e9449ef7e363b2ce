use Rattle.std.proofs.Common.{slice_get, sym, ltb-false, length, ◌∙◌, ap}
use Rattle.std.proofs.lemmas.Option.{slice_get_past}
use Rattle.attr_stack.proofs.Frames.{at-place, items_of, links-at}
use Rattle.attr_stack.proofs.linked_macros.LinkedMacros.links_at.Goals as goal

pub returns-in-Some : goal.returns-in-Some
returns-in-Some c =
    let self = c.args.self.now in
    let numbers = c.in-Some.links.now in
    c.as_slice.ensures.value
    ∙ ap items_of (sym (at-place c.deref.result.now c.args.number numbers c.in-Some.ensures.lookup.3.0 (c.in-Some.ensures.lookup.3.1 numbers)))
    ∙ ap (λ links. items_of (slice_get links c.args.number)) c.deref.ensures.value ∙ links-at self.macros self.links.items c.args.number self.linked

pub returns-in-None : goal.returns-in-None
returns-in-None c =
    let self = c.args.self.now in
    ap items_of (sym (slice_get_past c.deref.result.now c.args.number (ltb-false c.args.number (length c.deref.result.now) (sym c.in-None.ensures.lookup.0))))
    ∙ ap (λ links. items_of (slice_get links c.args.number)) c.deref.ensures.value ∙ links-at self.macros self.links.items c.args.number self.linked
