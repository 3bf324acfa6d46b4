use Rattle.std.proofs.Common.{ltb, ltb-true, arith, rules}
use Rattle.std.proofs.lemmas.List.Sorted.{IsPartitionPoint-from_clause, IsPartitionedBy-ltb}
use Rattle.std.specs.Prelude.{slice_index_or}
use Rattle.fin_lists.proofs.MemberLemmas.{number, differs_below}
use Rattle.fin_lists.proofs.group.Group.place_of.Goals as goal

pub loop-index-init : goal.loop-index-init
loop-index-init g c =
    let xs = c.self.inside.members.items in
    let member = c.args.member in
    let parted = IsPartitionedBy-ltb number xs member.object c.self.invariant.0 in
    let point = IsPartitionPoint-from_clause (λ m. ltb m.object member.object) xs c.partition_point-start.result c.partition_point-start.ensures.partitioned parted (λ a r q k. search rules) in
    λ k d h. differs_below member (slice_index_or xs k d) (ltb-true _ _ (point.0 k d (omega arith) h))
