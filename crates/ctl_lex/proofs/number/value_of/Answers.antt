use Rattle.std.proofs.Common.{◌+◌, ◌≤◌, take, get_or, count_by, sym, ◌∙◌, arith}
use Rattle.ctl_lexis.specs.Bytes.{is_digit}
use Rattle.ctl_lex.proofs.Numbers.{more_fits, digit_value, digits_left}
use Rattle.ctl_lex.proofs.number.value_of.Goals as goal

pub overflow_mul-value : goal.overflow_mul-value
overflow_mul-value c =
    let left : count_by is_digit (take c.loop-byte.byte-index c.args.text.now) + 1 ≤ count_by is_digit c.args.text.now = digits_left c.args.text.now c.loop-byte.byte-index (omega arith) (sym c.is_digit.ensures ∙ c.if-is_digit.true) in
    omega (arith, more_fits c.loop-byte.value 0 _ c.loop-byte.invariant.bound (omega arith) (omega (arith, left)))

pub overflow_add-value : goal.overflow_add-value
overflow_add-value c =
    let left : count_by is_digit (take c.loop-byte.byte-index c.args.text.now) + 1 ≤ count_by is_digit c.args.text.now = digits_left c.args.text.now c.loop-byte.byte-index (omega arith) (sym c.is_digit.ensures ∙ c.if-is_digit.true) in
    let digit = digit_value (get_or c.args.text.now c.loop-byte.byte-index 0) (sym c.is_digit.ensures ∙ c.if-is_digit.true) in
    omega (arith, more_fits c.loop-byte.value c.from.result _ c.loop-byte.invariant.bound (omega (arith, digit, c.from.ensures)) (omega (arith, left)))
