use Rattle.driver_desk.proofs.Closings.{discards_gone, discards_shows, discards_path}
use Rattle.std.proofs.Common.{refl}
use Rattle.driver_desk.proofs.closed_card.write_failed.Goals as goal

pub returns-clause-gone : goal.returns-clause-gone
returns-clause-gone g c = discards_gone _ _ _ c.discard.ensures

pub returns-clause-shows : goal.returns-clause-shows
returns-clause-shows g c before fine u rose = discards_shows before _ _ _ rose c.discard.ensures

pub returns-clause-own : goal.returns-clause-own
returns-clause-own g c = refl

pub returns-clause-path : goal.returns-clause-path
returns-clause-path g c = discards_path _ _ _ c.discard.ensures
