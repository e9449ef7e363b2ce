use Rattle.std.proofs.Common.{List, ℕ, take, sym, ap, ◌∙◌, arith}
use Rattle.tree_encoding.proofs.Fronts.{may_cut}
use Rattle.tree_encoding.proofs.text.split_sixteen.Goals as goal

pub split_at-requires : goal.split_at-requires
split_at-requires c =
    let first = c.in_ok-sixteen.ensures.cases in
    may_cut c.args.text.now c.in_ok-sixteen.sixteen.now c.utf8.text (omega (arith, first.enough, c.as_bytes.ensures.len))
    (first.same ∙ ap (λ (xs : List ℕ). take 16 xs) c.as_bytes.ensures.value) (sym c.if-not-is_ascii.ensures)
