use Rattle.std.proofs.Common.{ℕ, take, drop, vec_len, vec_capacity, arith, ◌∙◌, ap}
use Rattle.pkt_line.proofs.Pieces.{underway_next}
use Rattle.pkt_line.proofs.writer.push_content.Goals as goal

pub loop-rest-preserved : goal.loop-rest-preserved
loop-rest-preserved c =
    underway_next c.reserve.new.self.items c.args.content.now c.loop-rest.out.items c.loop-rest.rest.now
    c.append_digits.new.out.items c.split_at.result.0.now c.split_at.result.1.now c.append.new.out.items
    (vec_len c.loop-rest.out) (vec_capacity c.loop-rest.out) (vec_len c.append.new.out)
    (vec_capacity c.append.new.out)
    c.loop-rest.invariant (grind arith)
    (c.split_at.ensures.front ∙ ap (λ (n : ℕ). take n c.loop-rest.rest.now) c.min.ensures)
    (c.split_at.ensures.back ∙ ap (λ (n : ℕ). drop n c.loop-rest.rest.now) c.min.ensures)
    c.append_digits.ensures.items c.append.ensures.items (omega arith) (omega arith)
