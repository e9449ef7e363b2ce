use Rattle.std.proofs.Common.{rules, arith, ◌≡◌, ◌∷◌}
use Rattle.std.proofs.lemmas.List.{nil_from_length}
use Rattle.git_index.specs.Reading.{count_at}
use Rattle.git_index.proofs.Counting.{begins, ends, goes_on, is_over}
use Rattle.git_index.proofs.path_part.count_of.Goals as goal

pub loop-byte-init : goal.loop-byte-init
loop-byte-init c = begins c.args.bytes.now

pub returns-then-byte-lt128 : goal.returns-then-byte-lt128
returns-then-byte-lt128 c =
    let parts : c.loop-byte.rest.now ≡ c.in-Some.byte.now ∷ c.in-Some.after.now = search rules in
    ends c.loop-byte.carry c.in-Some.byte.now c.saturating_mul-shifted.result c.saturating_add.result c.loop-byte.rest.now c.in-Some.after.now (count_at 0 c.args.bytes.now) c.loop-byte.invariant parts c.if-byte-lt128.true c.saturating_mul-shifted.ensures c.saturating_add.ensures

pub loop-byte-smaller : goal.loop-byte-smaller
loop-byte-smaller c = search rules

pub loop-byte-preserved : goal.loop-byte-preserved
loop-byte-preserved c =
    let parts : c.loop-byte.rest.now ≡ c.in-Some.byte.now ∷ c.in-Some.after.now = search rules in
    goes_on c.loop-byte.carry c.in-Some.byte.now c.saturating_mul-shifted.result c.saturating_add-carry.result c.loop-byte.rest.now c.in-Some.after.now (count_at 0 c.args.bytes.now) c.loop-byte.invariant parts (omega arith) c.saturating_mul-shifted.ensures c.saturating_add-carry.ensures

pub returns : goal.returns
returns c =
    is_over c.loop-byte.carry c.loop-byte.rest.now (count_at 0 c.args.bytes.now) c.loop-byte.invariant (nil_from_length c.loop-byte.rest.now c.in_default.ensures.cases)
