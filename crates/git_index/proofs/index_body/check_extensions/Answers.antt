use Rattle.std.proofs.Common.{arith, ◌≡◌, ◌<◌, length, sym}
use Rattle.std.proofs.lemmas.Result.{err_from_is_err_and}
use Rattle.std.proofs.lemmas.Grind.{common_steps}
use Rattle.git_index.specs.Reading.{extensions_fault}
use Rattle.git_index.proofs.Loop.{passes, fails_passing, all_passed}
use Rattle.git_index.proofs.index_body.check_extensions.Goals as goal

pub returns-in_err-rest : goal.returns-in_err-rest
returns-in_err-rest c =
    let p = err_from_is_err_and c.from_residual.result c.from_residual.ensures.1 in
    let some : 0 < length c.loop-rest.rest.now = grind (arith, common_steps) in
    rw (p.1, p.2) (sym (fails_passing c.loop-rest.rest.now c.in_err-rest.field-0.0 (extensions_fault (length c.args.bytes.now) c.args.bytes.now) c.loop-rest.invariant some (sym c.in_err-rest.ensures.value)))

pub loop-rest-preserved : goal.loop-rest-preserved
loop-rest-preserved c =
    let some : 0 < length c.loop-rest.rest.now = grind (arith, common_steps) in
    passes c.loop-rest.rest.now c.in_ok-rest.rest.now (extensions_fault (length c.args.bytes.now) c.args.bytes.now) c.loop-rest.invariant some (sym c.in_ok-rest.ensures.value) c.in_ok-rest.ensures.shorter

pub returns : goal.returns
returns c =
    let none : length c.loop-rest.rest.now ≡ 0 = grind (arith, common_steps) in
    sym (all_passed c.loop-rest.rest.now (extensions_fault (length c.args.bytes.now) c.args.bytes.now) c.loop-rest.invariant none)
