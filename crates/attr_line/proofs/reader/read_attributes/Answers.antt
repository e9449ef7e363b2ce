use Rattle.std.proofs.Common.{◌≡◌, ◌∷◌, map, ap}
use Rattle.attr_line.specs.Line.{line_outcome}
use Rattle.attr_line.specs.File.{outcomes_at}
use Rattle.attr_line.proofs.Taking.{lines-more}
use Rattle.attr_line.proofs.reader.read_attributes.Goals as goal

pub lines-preserved : goal.lines-preserved
lines-preserved c =
    let next : map (line_outcome c.args.top) c.lines.line-iterator ≡ c.in_ok-line_of.field-0 ∷ map (line_outcome c.args.top) c.next.new.self =
    rw (c.in_ok-line_of.ensures) (ap (map (line_outcome c.args.top)) c.in-Some.ensures.steps) in
    lines-more (outcomes_at c.args.file.now c.args.top) (map (line_outcome c.args.top) c.next.new.self) c.in_ok-line_of.field-0
    c.lines.reader.rows.items c.take.new.self.rows.items c.lines.reader.skipped c.take.new.self.skipped
    (rw next at c.lines.invariant) c.in_ok-take.ensures.rows c.in_ok-take.ensures.skipped
