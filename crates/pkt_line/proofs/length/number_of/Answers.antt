use Rattle.std.proofs.Common.{◌∙◌, Some, sym, ap, arith}
use Rattle.pkt_line.proofs.Digits.{number_at-ok, number_at-err}
use Rattle.pkt_line.proofs.Fronts.{number_at-take}
use Rattle.pkt_line.specs.Packets.{number_at}
use Rattle.pkt_line.proofs.length.number_of.Goals as goal

pub returns-in-Ok : goal.returns-in-Ok
returns-in-Ok c =
    ap Some c.from_be_bytes.ensures
    ∙ (sym (number_at-ok c.split_at.result.0.now c.decode_to_slice.result c.decode_to_slice.new.out c.in-Ok.field-0
    c.split_at.ensures.front_len c.decode_to_slice.ensures.value c.in-Ok.is)
    ∙ (ap number_at c.split_at.ensures.front ∙ number_at-take 4 c.args.bytes.now (omega arith)))

pub returns-in-Err : goal.returns-in-Err
returns-in-Err c =
    sym (number_at-err c.split_at.result.0.now c.decode_to_slice.result c.decode_to_slice.new.out c.in-Err.field-0
    c.split_at.ensures.front_len c.decode_to_slice.ensures.value c.in-Err.is)
    ∙ (ap number_at c.split_at.ensures.front ∙ number_at-take 4 c.args.bytes.now (omega arith))
