use Rattle.std.proofs.Common.{◌∙◌, ◌*◌, ap, sym}
use Rattle.pool_store.specs.Store.{hold_block, is_fit_in}
use Rattle.ctl_storage.specs.Calls.{placing}
use Rattle.ctl_storage.proofs.Calls.{unfit_is, words_of_cells}
use Rattle.ctl_storage.proofs.storage.occupy.Goals as goal

pub returns-in-Ok-clause-answer : goal.returns-in-Ok-clause-answer
returns-in-Ok-clause-answer c = ap placing (sym c.in-Ok.ensures.ok.0)

pub returns-in-Ok-clause-placed : goal.returns-in-Ok-clause-placed
returns-in-Ok-clause-placed c = c.in-Ok.ensures.ok.1 ∙ ap (λ n. hold_block c.args.spot.pool c.args.spot.address c.args.number n c.args.store.now) (words_of_cells c.args.cells)

pub returns-in-Err-BadAddress-clause-answer : goal.returns-in-Err-BadAddress-clause-answer
returns-in-Err-BadAddress-clause-answer c = ap placing (sym (unfit_is (is_fit_in c.args.spot.pool c.args.spot.address (8 * c.args.cells) c.args.store.now) (sym c.in-Err-BadAddress.field-0-is ∙ c.in-Err-BadAddress.ensures.fault)))
