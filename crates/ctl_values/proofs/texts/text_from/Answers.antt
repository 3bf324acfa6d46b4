use Rattle.std.proofs.Common.{◌++◌, ◌∙◌, ap, drop, sym}
use Rattle.std.proofs.lemmas.List.{append-nil, drop_all}
use Rattle.ctl_code.specs.Table.{text_of}
use Rattle.ctl_values.proofs.Printed.{text_of_taken}
use Rattle.ctl_values.proofs.texts.text_from.Goals as goal

-- no part is left
pub returns : goal.returns
returns c =
    let parts = c.args.parts.now in
    let none_left = sym (drop_all c.loop-part.part-index parts c.loop-part-test.false) in
    sym (append-nil c.loop-part.text)
    ∙ (ap (λ ps. c.loop-part.text ++ text_of ps (drop c.loop-part.next c.args.cells.now)) none_left
    ∙ (c.loop-part.invariant.0
    ∙ sym (text_of_taken parts (drop c.args.first c.args.cells.now))))
