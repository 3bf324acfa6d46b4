use Rattle.std.proofs.Common.{◌+◌, map, sym, ap, ◌∙◌, length}
use Rattle.std.proofs.lemmas.List.{length-map}
use Rattle.ctl_layout.specs.Values.{actual_code, numbers_in}
use Rattle.ctl_emitter.proofs.Emission.{on_ok}
use Rattle.ctl_emitter.proofs.EmittedCalls.{copies_emitted, no_copies_emitted}
use Rattle.ctl_emitter.proofs.emit.Emitter.copies_behind.Goals as goal

pub returns-then-goes_back : goal.returns-then-goes_back
returns-then-goes_back c = on_ok _ _ c.all_copies_back.result c.all_copies_back.ensures (λ e.
    let xs = c.args.actuals.now in
    copies_emitted (numbers_in (map actual_code xs) + length xs) (map actual_code xs) c.args.self.now c.all_copies_back.new.self (ap (λ n. numbers_in (map actual_code xs) + n) (sym (length-map xs actual_code))) (sym c.goes_back.ensures ∙ c.if-goes_back.true) e)

pub returns-else-goes_back : goal.returns-else-goes_back
returns-else-goes_back c = no_copies_emitted (map actual_code c.args.actuals.now) c.args.self.now (sym c.goes_back.ensures ∙ c.if-goes_back.false)
