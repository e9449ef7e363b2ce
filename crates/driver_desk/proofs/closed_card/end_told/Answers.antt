use Rattle.std.proofs.Common.{ap, subst, sym}
use Rattle.filter_words.specs.declared.reply.Reply.{Reply}
use Rattle.driver_desk.specs.Endings.{Read}
use Rattle.driver_desk.specs.Progress.{EndsPut}
use Rattle.checkout_core.specs.declared.path.Heard.TheVariants as heard
use Rattle.checkout_core.specs.Fates.{fate_here}
use Rattle.driver_desk.proofs.Calls.{may_refused, may_empty}
use Rattle.driver_desk.proofs.Ended.{ends_how, read_unsealed}
use Rattle.driver_desk.proofs.closed_card.end_told.Goals as goal

pub close_got-requires-clause-may : goal.close_got-requires-clause-may
close_got-requires-clause-may g c = c.requires.may heard.Got (ap fate_here c.in-Content.is)

pub refuse-requires-clause-may : goal.refuse-requires-clause-may
refuse-requires-clause-may g c = may_refused _ _ c.args.work.card.path c.args.reply c.in-Error.is c.requires.may

pub close_empty-requires-clause-may : goal.close_empty-requires-clause-may
close_empty-requires-clause-may g c = may_empty _ _ c.args.work.card.path c.args.reply c.args.put c.in-Delayed.is c.requires.told c.requires.may

pub returns-in-Content : goal.returns-in-Content
returns-in-Content g c = record {
  ends = ends_how _ _ _ _ _ (λ x h. subst (λ (r : Reply). Read (EndsPut r c.args.put c.args.work.card.path (g.L.Leaf.seen c.args.work.card.leaf).content) x) (sym c.in-Content.is) h) c.close_got.ensures.ends;
}

pub returns-in-Error : goal.returns-in-Error
returns-in-Error g c = record {
  ends = ends_how _ _ _ _ _ (read_unsealed _ _ _ _) c.refuse.ensures.ends;
}

pub returns-in-Delayed : goal.returns-in-Delayed
returns-in-Delayed g c = record {
  ends = ends_how _ _ _ _ _ (read_unsealed _ _ _ _) c.close_empty.ensures.ends;
}
