use Rattle.std.proofs.Common.{rules, of_calls}
use Rattle.std.proofs.lemmas.List.Sorted.{IsPartitionPoint-from_clause}
use Rattle.delay_table.proofs.Names.{before, parted}
use Rattle.delay_table.proofs.search.before.Goals as goal

pub returns-clause-point : goal.returns-clause-point
returns-clause-point c =
    IsPartitionPoint-from_clause (before c.args.name.now) c.args.names.now c.partition_point.result
    c.partition_point.ensures.partitioned
    (parted c.args.name.now c.args.names.now c.requires) (search (rules, of_calls))
