use Rattle.std.proofs.Common.{ℕ, List, length, sym, ap, subst, ◌∙◌}
use Rattle.std.specs.List.{prefix_len}
use Rattle.wild_match.specs.Compiled.{is_plain, IsKnown}
use Rattle.wild_match.proofs.Forms.{path_is, in_path}
use Rattle.wild_match.proofs.compiled.path_form.Goals as goal

pub returns-then-plain-whole : goal.returns-then-plain-whole
returns-then-plain-whole c =
    let whole = c.without_slash-whole.ensures in
    path_is c.args.pattern.now c.requires
    (ap (λ (t : List ℕ). prefix_len is_plain t) (sym whole) ∙ sym c.plain_len-plain.ensures.value ∙ c.if-plain-whole.true ∙ ap (λ (t : List ℕ). length t) whole)

pub returns-else-plain-whole : goal.returns-else-plain-whole
returns-else-plain-whole c =
    in_path c.args.pattern.now c.known_of.result c.requires (subst (λ (t : List ℕ). IsKnown t c.known_of.result) c.without_slash-whole.ensures c.known_of.ensures)
