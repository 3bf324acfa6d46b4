use Rattle.std.proofs.Common.{◌≡◌, drop}
use Rattle.fin_lists.specs.Lists.{Lists, without_sets, KeepsNumbers}
use Rattle.fin_lists.proofs.lists.FinLists.drop_sets.Given as goal

abbrev pub invariant-loop-set : goal.invariant-loop-set
invariant-loop-set g l =
    let now : Lists = record { masters = l.self-inside.masters.values; sets = l.self-inside.sets.values; groups = l.self-inside.groups.values; masters_given = l.self-inside.masters_given; sets_given = l.self-inside.sets_given } in
    (without_sets (drop l.set-index l.sets) now ≡ without_sets l.sets l.fn.self) × KeepsNumbers l.fn.self now
