use Rattle.std.proofs.Common.{rules}
use Rattle.std.proofs.lemmas.List.Sorted.{IsPartitionPoint-from_clause}
use Rattle.edge_kit.proofs.PathOrder.{goes_behind, are_parted, with_file-at}
use Rattle.edge_kit.proofs.memory_tree.place_of.Goals as goal

pub returns-clause-place : goal.returns-clause-place
returns-clause-place c =
    λ f named.
    with_file-at f c.args.files.now c.partition_point.result c.partition_point.ensures.bound
    (IsPartitionPoint-from_clause (goes_behind f.path) c.args.files.now c.partition_point.result c.partition_point.ensures.partitioned
    (are_parted f c.args.files.now c.requires) (search rules))
