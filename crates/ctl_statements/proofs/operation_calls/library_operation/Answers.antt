use Rattle.ctl_statements.proofs.Threes.{three_of}
use Rattle.ctl_statements.proofs.operation_calls.library_operation.Goals as goal

pub returns-in-Allocate-len3 : goal.returns-in-Allocate-len3
returns-in-Allocate-len3 c =
    let i = c.in-Allocate-len3 in
    let more = three_of c.args.more.now c.address-item.result c.size-item.result c.alignment-item.result i.len_at_least i.len_below c.address-item.is c.size-item.is c.alignment-item.is in
    rw (i.is-0, more) c.library_allocate.ensures

pub returns-in-Deallocate-len3 : goal.returns-in-Deallocate-len3
returns-in-Deallocate-len3 c =
    let i = c.in-Deallocate-len3 in
    let address = c.address-item-then-this-lt4-2 in
    let size = c.size-item-then-this-lt4-2 in
    let alignment = c.alignment-item-then-this-lt4-2 in
    let more = three_of c.args.more.now address.result size.result alignment.result i.len_at_least i.len_below address.is size.is alignment.is in
    rw (i.is-0, more) c.library_deallocate.ensures
