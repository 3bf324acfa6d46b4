use Rattle.std.proofs.Common.{◌-◌, ◌+◌, map, refl, sym, ap, ◌∙◌, length}
use Rattle.std.proofs.lemmas.List.{length-map}
use Rattle.ctl_layout.specs.Values.{actual_code, copied_back}
use Rattle.ctl_emitter.specs.Emitted.{lined}
use Rattle.ctl_emitter.proofs.EmittedCalls.{copied_back_emitted}
use Rattle.ctl_emitter.proofs.emit.Emitter.all_copies_back.Goals as goal

pub returns : goal.returns
returns c =
    let xs = c.args.actuals.now in
    let n = c.count_numbers.result + length xs in
    copied_back_emitted n (length xs) (length xs) c.saturating_sub-at.result (map actual_code xs) c.args.self.now c.enter_numbers.new.self c.copies_back.new.self c.put.new.self c.leave_operands.new.self
    (ap (λ k. k + length xs) c.count_numbers.ensures.same) (sym (length-map xs actual_code)) refl c.in_ok-enter_numbers.ensures (c.saturating_sub-at.ensures ∙ ap (λ k. k - length xs) c.height.ensures) c.in_ok-copies_back.ensures c.in_ok-put.ensures c.leave_operands.ensures
    ∙ ap (λ k. lined (copied_back (map actual_code xs) (k + length xs)) c.args.self.now) c.count_numbers.ensures.same
