use Rattle.std.proofs.Common.{leb, leb-true, leb-false, arith, rules}
use Rattle.std.proofs.lemmas.List.Sorted.{IsPartitionPoint-from_clause, IsPartitionedBy-leb}
use Rattle.fin_lists.proofs.MemberLemmas.{number}
use Rattle.fin_lists.proofs.group.Group.place_for.Goals as goal

pub returns : goal.returns
returns g c =
    let xs = c.self.inside.members.items in
    let parted = IsPartitionedBy-leb number xs c.args.object c.self.invariant.0 in
    let point = IsPartitionPoint-from_clause (λ m. leb m.object c.args.object) xs c.partition_point.result c.partition_point.ensures.partitioned parted (λ a r q k. search rules) in
    rw (← c.self.view_is) (record {
      within = search (rules, c.partition_point.ensures.bound);
      before = λ k d h. leb-true _ _ (point.0 k d (omega arith) h);
      after = λ k d h l. leb-false _ _ (point.1 k d h l);
    })
