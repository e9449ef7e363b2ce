use Rattle.std.proofs.Common.{ℕ, Result, subst}
use Rattle.std.specs.Global.{Vec}
use Rattle.object_dir.specs.Object.{IsObject, AfterRead}
use Rattle.object_dir.specs.declared.fault.ObjectFault.{ObjectFault}
use Rattle.driver_desk.proofs.ReadCards.{read_done, count_done, read_fault, count_fault}
use Rattle.driver_desk.proofs.card_read.prepared_from.Goals as goal

pub returns-in-Ok-clause-read : goal.returns-in-Ok-clause-read
returns-in-Ok-clause-read g c seen object conversion is =
    read_done seen c.args.card.now.conversion c.args.card.now.object c.in-Ok.content c.prepared_of.result object
    conversion (subst (λ (o : Result (Vec ℕ) ObjectFault). IsObject seen.told seen.object o) c.in-Ok.is is)
    c.prepared_of.ensures.done c.prepared_of.ensures.fails

pub returns-in-Ok-clause-counts : goal.returns-in-Ok-clause-counts
returns-in-Ok-clause-counts g c before after same =
    count_done before after c.prepared_of.result
    (subst (λ (o : Result (Vec ℕ) ObjectFault). AfterRead before after o) c.in-Ok.is same) c.prepared_of.ensures.fails

pub returns-in-Err-clause-read : goal.returns-in-Err-clause-read
returns-in-Err-clause-read g c seen object conversion is =
    let k = read_fault seen c.in-Err.fault
    (subst (λ (o : Result (Vec ℕ) ObjectFault). IsObject seen.told seen.object o) c.in-Err.is is) in
    rw c.own_of.ensures k

pub returns-in-Err-clause-counts : goal.returns-in-Err-clause-counts
returns-in-Err-clause-counts g c before after same =
    let k = count_fault before after c.in-Err.fault
    (subst (λ (o : Result (Vec ℕ) ObjectFault). AfterRead before after o) c.in-Err.is same) in
    rw c.own_of.ensures k
