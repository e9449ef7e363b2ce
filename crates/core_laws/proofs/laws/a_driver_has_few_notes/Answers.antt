use Rattle.core_laws.proofs.NotesCount.{notes_few}
use Rattle.core_laws.proofs.laws.a_driver_has_few_notes.Goals as goal

pub returns : goal.returns
returns c starts workers drivers history x d below there run = notes_few starts workers drivers history x d below there
    run
