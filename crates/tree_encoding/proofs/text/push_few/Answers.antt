use Rattle.std.proofs.Common.{◌<◌, length, arith}
use Rattle.std.proofs.lemmas.Str.{IsUtf8-past_char}
use Rattle.std.specs.Str.Iter.{chars_rest}
use Rattle.tree_encoding.proofs.Fronts.{first_on, shorter_behind}
use Rattle.tree_encoding.proofs.text.push_few.Goals as goal

pub loop-count-preserved : goal.loop-count-preserved
loop-count-preserved g c =
    let held = c.loop-count.invariant in
    let parts = c.in-Some.ensures.steps.0 in
    let less : length (chars_rest c.next.new.self) < length (chars_rest c.loop-count.rest) = shorter_behind _ _ c.in-Some.character parts in record {
      utf8 = IsUtf8-past_char _ _ c.in-Some.character held.utf8 parts;
      same = rw c.put-end.ensures.written (first_on g.F.Form.bytes_of _ _ _ _ c.in-Some.character held.utf8 parts held.same);
      within = omega (arith, held.within, less);
      shorter = λ _. omega (arith, held.within, less);
      room = omega (arith, held.room, c.put-end.ensures.end.1);
    }
