use Rattle.std.proofs.Common.{sym}
use Rattle.owned_numbers.proofs.Items.{taken_out, taken_same}
use Rattle.owned_numbers.proofs.lists.take_out.Goals as goal

pub returns-in-None : goal.returns-in-None
returns-in-None c =
    let a = c.args in
    let lists = a.lists.now.values in
    taken_same a.owner a.index c.swap_out-moved.result lists _ c.free_empty.new.lists.values c.free_empty.ensures (taken_out lists a.owner a.index c.swap_out-moved.result c.in-Some.list.now c.swap_out-moved.new.list (sym c.in-Some.ensures.value) c.swap_out-moved.ensures)

pub returns-in_default-moved : goal.returns-in_default-moved
returns-in_default-moved c =
    let a = c.args in
    taken_out a.lists.now.values a.owner a.index c.swap_out-moved.result c.in-Some.list.now c.swap_out-moved.new.list (sym c.in-Some.ensures.value) c.swap_out-moved.ensures
