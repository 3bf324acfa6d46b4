use Rattle.std.proofs.Common.{◌∙◌, ◌*◌, ap, sym}
use Rattle.pool_store.specs.Store.{hold_block, is_exhausted_in, take_block}
use Rattle.ctl_storage.proofs.Calls.{exhausted_is, words_of_cells}
use Rattle.ctl_storage.proofs.storage.allocate_for.Goals as goal

pub returns-in-Ok-clause-answer : goal.returns-in-Ok-clause-answer
returns-in-Ok-clause-answer c =
    let a = c.args in
    (c.in-Ok.ensures.ok.0, c.in-Ok.ensures.ok.1, c.in-Ok.ensures.ok.2 ∙ ap (λ n. hold_block a.pool c.in-Ok.field-0.0 a.number n (take_block a.pool a.store.now)) (words_of_cells a.cells))

pub returns-in-Err-Exhausted-clause-answer : goal.returns-in-Err-Exhausted-clause-answer
returns-in-Err-Exhausted-clause-answer c =
    (exhausted_is (is_exhausted_in c.args.pool (8 * c.args.cells) c.args.store.now) (sym c.in-Err-Exhausted.field-0-is ∙ c.in-Err-Exhausted.ensures.fault), c.in-Err-Exhausted.ensures.err)
