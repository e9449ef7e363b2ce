use Rattle.std.proofs.Common.{◌∙◌, Some, sym, ap, arith}
use Rattle.pkt_line.proofs.Fronts.{flush_stands}
use Rattle.pkt_line.proofs.reader.front_of.Goals as goal

pub returns-then-size-eq0-clause-fronts : goal.returns-then-size-eq0-clause-fronts
returns-then-size-eq0-clause-fronts c =
    flush_stands c.args.unread.now (omega arith) (sym c.number_of.ensures ∙ c.in-Some.is ∙ ap Some (omega arith))
