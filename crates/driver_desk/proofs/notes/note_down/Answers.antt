use Rattle.driver_desk.proofs.NotedTalks.{note_fits, noting_note}
use Rattle.driver_desk.proofs.Gave.{gave_given, gave_standing}
use Rattle.driver_desk.proofs.notes.note_down.Goals as goal

pub add-requires : goal.add-requires
add-requires g c =
    note_fits c.a_driver_has_few_notes.ensures _ _ _ _ _ _ c.requires.noting c.requires.noted c.requires.own
    c.requires.next

pub returns-clause-noting : goal.returns-clause-noting
returns-clause-noting g c =
    noting_note _ _ _ _ _ _ _ _ _ _ _ c.requires.noting c.requires.noted c.requires.own (gave_standing _ _ _ c.note.ensures.gave)
    (gave_given _ _ _ c.note.ensures.gave) c.add.ensures.items c.add.ensures.len c.add.ensures.capacity
