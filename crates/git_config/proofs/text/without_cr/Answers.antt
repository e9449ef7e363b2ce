use Rattle.std.proofs.Common.{◌≡◌, ◌++◌, List, ℕ, ap, sym, ◌∙◌, rules}
use Rattle.git_config.specs.Text.{without_cr}
use Rattle.git_config.proofs.LineEnds.{no_cr}
use Rattle.git_config.proofs.text.without_cr.Goals as goal

pub returns-clause-value : goal.returns-clause-value
returns-clause-value c =
    let whole : c.extend_from_slice-2.new.self.items ≡ c.stretches.text.items ++ c.stretches.rest.now = search rules in
    let rest : without_cr c.stretches.rest.now ≡ c.stretches.rest.now = no_cr c.stretches.rest.now c.in_default.ensures in
    whole ∙ sym (ap (λ (xs : List ℕ). c.stretches.text.items ++ xs) rest) ∙ sym c.stretches.invariant.same
