use Rattle.core_laws.proofs.DeskPaths.{told_ahead, told_later, told_known}
use Rattle.core_laws.proofs.laws.a_talk_tells_of_its_paths.Goals as goal

pub returns-clause-ahead : goal.returns-clause-ahead
returns-clause-ahead c starts workers drivers d given rest first t p required below a there stays in0 =
    told_ahead starts workers drivers given a.core p d required below a.run there rest first t a.agrees stays in0

pub returns-clause-later : goal.returns-clause-later
returns-clause-later c starts workers drivers d given rest first t p required below a there stays wait =
    told_later starts workers drivers given a.core p d required below a.run there rest first t a.agrees stays wait

pub returns-clause-known : goal.returns-clause-known
returns-clause-known c starts workers drivers d given rest first t p required below a there stays out no_wait =
    told_known starts workers drivers given a.core p d required below a.run there rest first t a.agrees stays out no_wait
