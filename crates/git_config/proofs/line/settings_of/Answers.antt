use Rattle.std.proofs.Common.{◌≡◌, ◌<◌, [], None, length, arith, rules}
use Rattle.std.proofs.lemmas.Result.{err_from_is_err_and}
use Rattle.std.proofs.lemmas.Grind.{common_steps}
use Rattle.git_config.specs.Reading.{text_at}
use Rattle.git_config.specs.Seen.{place_of}
use Rattle.git_config.proofs.Steps.{starts, steps, fails, all_done}
use Rattle.git_config.proofs.line.settings_of.Goals as goal

pub steps-init : goal.steps-init
unfolding text_at
steps-init c =
    let none : c.new.result.items ≡ [] = search rules in
    record { few = omega arith; stepping = rw none (starts (record { line = 1; head = None; settings = []; rest = c.args.text.now })) }

pub returns-in_err-rest : goal.returns-in_err-rest
returns-in_err-rest c =
    let p = err_from_is_err_and c.from_residual.result c.from_residual.ensures.1 in
    let some : 0 < length c.steps.rest.now = grind (arith, common_steps) in
    rw (p.1, p.2) (λ known. fails (place_of c.steps.reader c.steps.rest.now) c.in_err-rest.field-0.0 (text_at c.args.text.now) c.steps.invariant.stepping some (c.in_err-rest.ensures.value known))

pub steps-preserved : goal.steps-preserved
steps-preserved c =
    let some : 0 < length c.steps.rest.now = grind (arith, common_steps) in
    record {
      few = omega (arith, c.in_ok-rest.ensures.within);
      stepping = steps (place_of c.steps.reader c.steps.rest.now) (place_of c.step.new.self c.in_ok-rest.rest.now) (text_at c.args.text.now) c.steps.invariant.stepping some c.in_ok-rest.ensures.value c.in_ok-rest.ensures.shorter;
    }

pub returns : goal.returns
returns c =
    let none : length c.steps.rest.now ≡ 0 = grind (arith, common_steps) in
    all_done (place_of c.steps.reader c.steps.rest.now) (text_at c.args.text.now) c.steps.invariant.stepping none
