use Rattle.std.proofs.Common.{◌≡◌, true, false, nat_eq, [], ◌∷◌, length, take, ap, rules, arith}
use Rattle.std.specs.List.{ends_with}
use Rattle.eol_convert.proofs.Lines.{bare_lf, kept_lf, no_lf}
use Rattle.eol_convert.proofs.content.has_bare_lf.Goals as goal

pub returns-then-not-ends_with-clause-changed : goal.returns-then-not-ends_with-clause-changed
returns-then-not-ends_with-clause-changed c =
    let bare : ends_with nat_eq (take c.in-Some.end c.lines.rest.now) (13 ∷ []) ≡ false = search rules in
    let longer = c.lines.invariant.longer (bare_lf c.lines.rest.now c.in-Some.end c.in-Some.ensures bare) in
    λ is. omega (arith, longer, ap length is)

pub lines-preserved : goal.lines-preserved
lines-preserved c =
    let kept : ends_with nat_eq (take c.in-Some.end c.lines.rest.now) (13 ∷ []) ≡ true = search rules in
    let follows = kept_lf c.lines.rest.now c.in-Some.end c.in-Some.ensures kept in
    rw c.split_at-in-Some.ensures.back (record {
      same = λ is. c.lines.invariant.same (follows.same is);
      longer = λ more. c.lines.invariant.longer (follows.longer more);
    })

pub returns-clause-same : goal.returns-clause-same
returns-clause-same c = c.lines.invariant.same (no_lf c.lines.rest.now c.in_default.ensures)
