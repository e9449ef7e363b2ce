use Rattle.std.proofs.Common.{rules, arith, ◌<◌, ◌-◌, ◌^◌, length, sym, ◌∙◌}
use Rattle.git_index.proofs.Changing.{refused, made}
use Rattle.git_index.proofs.path_part.changed_of.Goals as goal

pub returns-then-told-min-clause-value : goal.returns-then-told-min-clause-value
returns-then-told-min-clause-value c n capped =
    let small : length c.args.last.now < 2 ^ 64 - 1 = search rules in
    refused c.args.k c.args.told c.args.cut n c.in-Some.len c.args.last.now c.args.tail.now capped (omega (arith, c.if-cut-last.false)) small c.in-Some.ensures (λ e. c.if-told-min.true (e ∙ sym c.min.ensures))

pub returns-clause-value : goal.returns-clause-value
returns-clause-value c n capped =
    let small : length c.args.last.now < 2 ^ 64 - 1 = search rules in
    made c.args.k c.args.told c.args.cut n c.in-Some.len c.args.last.now c.args.tail.now c.split_at.result.0.now c.split_at.result.1.now c.split_at-2.result.1.now capped (omega (arith, c.if-cut-last.false)) small c.in-Some.ensures (c.if-told-min.false ∙ c.min.ensures) c.split_at.ensures.front c.split_at.ensures.back c.split_at-2.ensures.back
