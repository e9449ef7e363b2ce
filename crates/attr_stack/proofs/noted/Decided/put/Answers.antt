use Rattle.std.proofs.Common.{refl, sym, ◌∙◌}
use Rattle.attr_stack.proofs.Maps.{put-marked}
use Rattle.attr_stack.proofs.noted.Decided.put.Goals as goal

pub returns-in-Some-clause-state : goal.returns-in-Some-clause-state
returns-in-Some-clause-state c =
    let old = c.args.self.now in
    put-marked old (record { macros = old.macros; marks = c.set_mark.new.marks; others = old.others }) c.args.pair.now c.in-Some.place _
    (sym c.requires ∙ c.in-Some.ensures.0) c.in-Some.ensures.1 refl c.set_mark.ensures refl refl
