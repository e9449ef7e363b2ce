use Rattle.core_laws.proofs.OwnNotes.{notes_own}
use Rattle.core_laws.proofs.laws.notes_are_own_entries.Goals as goal

pub returns : goal.returns
returns c starts workers d history = notes_own starts workers d history
