use Rattle.std.proofs.Common.{rules}
use Rattle.checkout_paths.proofs.cards.is_of.Goals as goal

pub returns-in-Some-Desk : goal.returns-in-Some-Desk
returns-in-Some-Desk c = search rules
