use Rattle.std.proofs.Common.{◌≡◌, List, ◌∷◌, [], ◌+◌, ap, sym, ◌∙◌, map, drop, length, length-drop, Some, None, option_map, arith}
use Rattle.std.proofs.lemmas.List.{drop_all, length-map}
use Rattle.ctl_program.specs.declared.types.Ty.TheVariants.{Boolean, Record}
use Rattle.ctl_program.specs.declared.operators.UnaryOp.TheVariants.{Plus}
use Rattle.ctl_program.specs.declared.expression.Actual.{Actual}
use Rattle.ctl_program.specs.declared.expression.Operand.{Operand, out-Operand}
use Rattle.ctl_code.specs.declared.code.Instr.TheVariants as InstrOf
use Rattle.ctl_code.specs.declared.kinds.Kind.TheVariants as KindOf
use Rattle.ctl_layout.specs.Around.{new_operand}
use Rattle.ctl_layout.specs.Parts.{Part, Object, access_value, any_type, begun_code, first_position, seen}
use Rattle.ctl_emitter.specs.Emitted.{holding, kept, lined, one, passed, set_at}
use Rattle.ctl_layout.specs.Values.{OperatorCode, ValueCode, actual_code, begun_by, by_copy, by_reference, by_value, constant, denoted, designating, function_call, given, missing_value, convert, operator_code, operator_of, other_code, others_code, read, unary, chain, short, first_type, held, left_held, new, copied, unary_code, value_code, value_type, reached_by, discriminant, discriminant_code}
use Rattle.ctl_emitter.proofs.Emission.{nothing, on_ok, standing_is}
use Rattle.ctl_emitter.proofs.EmittedParts.{component_begun, copy_allocated_emitted, discriminant_emitted, is_denoted, part_begun, part_located}
use Rattle.ctl_layout.proofs.Turns.{turn_of}
use Rattle.ctl_emitter.proofs.EmittedCalls.{access_called, actual_emitted, actual_renamed, copy_type, elementary_value, function_emitted, next_actual, no_actual, no_record_passed, over_actuals, part_kept, record_called, record_passed, reference_code, reference_type, value_lines, value_type_is}
use Rattle.ctl_emitter.proofs.EmittedValues.{binary_emitted, chain_emitted, constant_emitted, elementary_given, evaluated_emitted, further_emitted, allocated_with, kept_emitted, next_operator, next_other, no_operator, no_other, other_emitted, over_new, read_emitted, short_emitted, unary_emitted, value_emitted}
use Rattle.ctl_layout.proofs.Layers.{access_given, actual_copied, actual_part, actual_value, begun_given, begun_variable, operator_is, read_copied, value_access, value_call, value_constant, value_convert, value_new, value_read, value_unary, value_chain, value_short, value_subpool, value_discriminant, uncalled, unread_copied}
use Rattle.ctl_emitter.proofs.emit.Emitter.+expressions.Goals as goal

-- Each expression -----------------------------------------------------------------------------------

pub expression-returns-in-Constant : goal.expression-returns-in-Constant
expression-returns-in-Constant t c = on_ok _ _ c.constant.result c.constant.ensures (value_emitted c.args.to c.args.ty _ (constant c.in-Constant.value) c.args.self.now c.constant.new.self (ap value_code c.in-Constant.is ∙ value_constant c.in-Constant.value))

pub expression-returns-in-Read : goal.expression-returns-in-Read
expression-returns-in-Read t c = on_ok _ _ c.read.result c.read.ensures (λ e.
    let i = c.in-Read in
    value_emitted c.args.to c.args.ty _ (read (reached_by i.name) i.field-1) c.args.self.now c.read.new.self (ap value_code i.is ∙ value_read i.name i.field-1)
    (read_emitted (reached_by i.name) i.field-1 c.args.ty c.args.to c.args.self.now c.read.new.self e))

pub expression-returns-in-Unary : goal.expression-returns-in-Unary
expression-returns-in-Unary t c = on_ok _ _ c.unary.result c.unary.ensures (λ e.
    let i = c.in-Unary in
    let to = c.args.to in
    let e0 = c.args.self.now in
    value_emitted to c.args.ty _ (unary i.op i.own (value_code i.operand)) e0 c.unary.new.self (ap value_code i.is ∙ value_unary i.op i.own i.operand)
    (e ∙ ap (λ y. lined (λ s. unary_code i.op i.own i.own to (held (value_code y) i.own s)) e0) c.get.ensures))

pub expression-returns-in-Convert : goal.expression-returns-in-Convert
expression-returns-in-Convert t c = on_ok _ _ c.unary-in-Convert.result c.unary-in-Convert.ensures (λ e.
    let i = c.in-Convert in
    let x = value_code i.operand in
    let own = c.value_type-own.result in
    let to = c.args.to in
    let e0 = c.args.self.now in
    let same : own ≡ value_type x = c.value_type-own.ensures ∙ ap (λ y. value_type (value_code y)) c.get-in-Convert.ensures in
    value_emitted to c.args.ty _ (convert i.ty x) e0 c.unary-in-Convert.new.self (ap value_code i.is ∙ value_convert i.ty i.operand)
    (e ∙ ap (λ y. lined (λ s. unary_code Plus own i.ty to (held (value_code y) own s)) e0) c.get-in-Convert-2.ensures
    ∙ ap (λ k. lined (λ s. unary_code Plus k i.ty to (held x k s)) e0) same))

pub unary-returns : goal.unary-returns
unary-returns t c = on_ok _ _ c.take.result c.take.ensures (unary_emitted c.args.op c.args.operand c.args.ty (value_code c.args.expression.now) c.args.to c.in_ok-from.from c.args.self.now c.held.new.self c.take.new.self c.in_ok-from.ensures.held c.in_ok-from.ensures.cell)

pub expression-returns-in_ok-operator-in-Chain : goal.expression-returns-in_ok-operator-in-Chain
expression-returns-in_ok-operator-in-Chain t c = on_ok _ _ c.operators.result c.operators.ensures (λ e.
    let i = c.in-Chain in
    let to = c.args.to in
    let ty = c.first_type-operands.result in
    let x = value_code i.first in
    let o = operator_of i.second in
    let more = map operator_of i.more in
    let e0 = c.args.self.now in
    let s = e0.notes.standing in
    let e1 = c.left.new.self in
    let e3 = c.release.new.self in
    let left = c.in_ok-left-in-Chain.left in
    let target = c.target-target.result in
    let r = c.right_of.result in
    let taken : r ≡ o.right.right = c.right_of.ensures ∙ ap (λ (y : Operand). (value_code (out-Operand y).right).right) c.get-in-Chain-3.ensures ∙ sym (ap (λ (z : OperatorCode). z.right.right) (operator_is i.second)) in
    value_emitted to c.args.ty _ (chain x o more) e0 c.operators.new.self (ap value_code i.is ∙ value_chain i.first i.second i.more)
    (chain_emitted x o more left target to ty c.args.ty e0 e1 c.operator.new.self e3 c.operators.new.self
    (c.first_type-operands.ensures ∙ ap (λ y. first_type (value_code y) (operator_of c.get-in-Chain-2.result.now)) c.get-in-Chain.ensures ∙ ap (λ y. first_type x (operator_of y)) c.get-in-Chain-2.ensures)
    (c.in_ok-left-in-Chain.ensures.held ∙ ap (λ k. holding (left_held k (value_code c.get-in-Chain-4.result.now) ty) e0) taken ∙ ap (λ y. holding (left_held o.right.right (value_code y) ty) e0) c.get-in-Chain-4.ensures)
    (c.in_ok-left-in-Chain.ensures.cell ∙ ap (λ k. (left_held k (value_code c.get-in-Chain-4.result.now) ty s).cell) taken ∙ ap (λ y. (left_held o.right.right (value_code y) ty s).cell) c.get-in-Chain-4.ensures)
    (c.target-target.ensures more s (ap length c.as_slice.ensures ∙ sym (length-map i.more operator_of)) c.new_operand-base.ensures)
    (c.in_ok-operator-in-Chain.ensures ∙ ap (λ y. lined (operator_code (operator_of y) left ty target) e1) c.get-in-Chain-5.ensures)
    c.release.ensures
    (e ∙ ap (λ (y : Operand). lined (over_new (out-Operand y).ty (map operator_of c.as_slice-in-Chain.result.now) to) e3) c.get-in-Chain-6.ensures
    ∙ ap (λ (y : OperatorCode). lined (over_new y.ty (map operator_of c.as_slice-in-Chain.result.now) to) e3) (sym (operator_is i.second))
    ∙ ap (λ ys. lined (over_new o.ty (map operator_of ys) to) e3) c.as_slice-in-Chain.ensures)))

pub expression-returns-in_ok-others-in-Short : goal.expression-returns-in_ok-others-in-Short
expression-returns-in_ok-others-in-Short t c = on_ok _ _ c.moved_to.result c.moved_to.ensures (λ e.
    let i = c.in-Short in
    let to = c.args.to in
    let x = value_code i.first in
    let y = value_code i.second in
    let more = map value_code i.more in
    let base = c.new_operand.result in
    let e0 = c.args.self.now in
    let e1 = c.expression.new.self in
    let e2 = c.other.new.self in
    value_emitted to c.args.ty _ (short i.form x y more) e0 c.moved_to.new.self (ap value_code i.is ∙ value_short i.form i.first i.second i.more)
    (short_emitted i.form x y more base to c.args.ty e0 e1 e2 c.others.new.self c.moved_to.new.self c.new_operand.ensures
    (c.in_ok-expression-in-Short.ensures ∙ ap (λ z. lined ((value_code z).code base Boolean) e0) c.get-in-Short.ensures)
    (c.in_ok-other-in-Short.ensures ∙ ap (λ z. lined (other_code i.form (value_code z)) e1) c.get-in-Short-2.ensures)
    (c.in_ok-others-in-Short.ensures ∙ ap (λ zs. lined (others_code i.form (map value_code zs)) e2) c.as_slice-in-Short.ensures)
    e))

pub expression-returns-in-Call : goal.expression-returns-in-Call
expression-returns-in-Call t c =
    let i = c.in-Call in
    let code = λ (xs : List Actual). function_call i.function (map actual_code xs) i.field-2 in
    on_ok _ _ c.function_call.result c.function_call.ensures (value_emitted c.args.to c.args.ty (value_code c.args.expression.now) (code c.as_slice-in-Call.result.now) c.args.self.now c.function_call.new.self
    (ap value_code i.is ∙ value_call i.function i.actuals i.field-2 ∙ ap code (sym c.as_slice-in-Call.ensures)))

pub expression-returns-in-New : goal.expression-returns-in-New
expression-returns-in-New t c =
    let i = c.in-New in
    on_ok _ _ c.allocator.result c.allocator.ensures (value_emitted c.args.to c.args.ty (value_code c.args.expression.now) (new i.access i.designated (option_map value_code i.handle) (option_map value_code i.value)) c.args.self.now c.allocator.new.self
    (ap value_code i.is ∙ value_new i.access i.designated i.handle i.value))

pub expression-returns-in-Access : goal.expression-returns-in-Access
expression-returns-in-Access t c = on_ok _ _ c.designating.result c.designating.ensures (value_emitted c.args.to c.args.ty _ (designating c.in-Access.variable) c.args.self.now c.designating.new.self (ap value_code c.in-Access.is ∙ value_access c.in-Access.variable))

pub expression-returns-in-Subpool : goal.expression-returns-in-Subpool
expression-returns-in-Subpool t c = on_ok _ _ c.put.result c.put.ensures (value_emitted c.args.to c.args.ty _ (missing_value None) c.args.self.now c.put.new.self (ap value_code c.in-Subpool.is ∙ value_subpool c.in-Subpool.field-0 c.in-Subpool.field-1))

pub expression-returns-in-Discriminant : goal.expression-returns-in-Discriminant
expression-returns-in-Discriminant t c =
    let i = c.in-Discriminant in
    on_ok _ _ c.discriminant.result c.discriminant.ensures (value_emitted c.args.to c.args.ty (value_code c.args.expression.now) (discriminant (reached_by i.name) i.position) c.args.self.now c.discriminant.new.self
    (ap value_code i.is ∙ value_discriminant i.name i.position))

-- Names ---------------------------------------------------------------------------------------------

pub begin-returns-in-Variable : goal.begin-returns-in-Variable
begin-returns-in-Variable t c =
    let i = c.in-Variable in
    let e = c.args.self.now in
    nothing e ∙ ap (λ b. lined (begun_code b) e) (sym (ap begun_by i.is ∙ begun_variable i.field-0 i.field-1))

pub begin-returns-in-Given : goal.begin-returns-in-Given
begin-returns-in-Given t c = on_ok _ _ c.start.result c.start.ensures (λ e.
    let i = c.in-Given in
    let e0 = c.args.self.now in
    e ∙ ap (λ y. lined (begun_code (given (value_code y))) e0) c.get.ensures
    ∙ ap (λ b. lined (begun_code b) e0) (sym (ap begun_by i.is ∙ begun_given i.value i.field-1)))

pub start-returns-in-Call : goal.start-returns-in-Call
start-returns-in-Call t c = on_ok _ _ c.called.result c.called.ensures (λ e.
    let i = c.in-Call in
    let e0 = c.args.self.now in
    e ∙ ap (λ xs. lined (begun_code (given (function_call i.function (map actual_code xs) i.ty))) e0) c.as_slice.ensures
    ∙ ap (λ (x : ValueCode). lined (begun_code (given x)) e0) (sym (ap value_code i.is ∙ value_call i.function i.actuals i.ty)))

pub start-returns-in_default : goal.start-returns-in_default
start-returns-in_default t c = on_ok _ _ c.expression.result c.expression.ensures (λ e.
    let x = value_code c.args.value.now in
    let e0 = c.args.self.now in
    e ∙ ap (λ k. lined (x.code k access_value) e0) c.new_operand.ensures
    ∙ ap (λ b. lined (begun_code b) e0) (sym (access_given x (uncalled c.args.value.now c.in_default.not-Call))))

pub called-returns-in-Integer : goal.called-returns-in-Integer
called-returns-in-Integer t c = on_ok _ _ c.function_call.result c.function_call.ensures (λ e.
    access_called c.args.function (map actual_code c.args.actuals.now) c.args.ty c.new_operand.result c.args.self.now c.function_call.new.self c.in-Integer.is c.new_operand.ensures e)

pub part-returns-in_ok-begin-in-Part : goal.part-returns-in_ok-begin-in-Part
part-returns-in_ok-begin-in-Part t c = on_ok _ _ c.select.result c.select.ensures (λ e.
    let x = c.in-Part in
    let b = begun_by c.args.of.now in
    let e0 = c.args.self.now in
    part_begun (Part b x.steps.now x.whole x.position) c.args.record e0 c.begin.new.self c.select.new.self c.in_ok-begin-in-Part.ensures e
    ∙ ap (λ r. lined ((by_reference (seen b (Some r)) (Record c.args.record)).code 0) e0) (sym x.is))

pub part-returns-in_ok-begin-in-Object : goal.part-returns-in_ok-begin-in-Object
part-returns-in_ok-begin-in-Object t c = on_ok _ _ c.behind_start.result c.behind_start.ensures (λ e.
    let x = c.in-Object in
    let b = begun_by c.args.of.now in
    let e0 = c.args.self.now in
    part_begun (Object b x.steps.now) c.args.record e0 c.begin-in-Object.new.self c.behind_start.new.self c.in_ok-begin-in-Object.ensures e
    ∙ ap (λ r. lined ((by_reference (seen b (Some r)) (Record c.args.record)).code 0) e0) (sym x.is))

pub read-returns-in_ok-begin-in-Some-Part : goal.read-returns-in_ok-begin-in-Some-Part
read-returns-in_ok-begin-in-Some-Part t c = on_ok _ _ c.component.result c.component.ensures (λ e.
    let x = c.in-Some-Part in
    let b = begun_by c.args.name.now in
    let e0 = c.args.self.now in
    component_begun b x.steps.now x.record x.position c.args.ty c.args.to e0 c.begin.new.self c.component.new.self c.in_ok-begin-in-Some-Part.ensures e
    ∙ ap (λ o. lined ((read o c.args.ty).code c.args.to c.args.ty) e0) (sym (ap (λ r. seen b (Some r)) x.field-0-is) ∙ sym (ap (seen b) x.is) ∙ c.reached_by.ensures))

pub read-returns-in_ok-begin-in-Some-Object : goal.read-returns-in_ok-begin-in-Some-Object
read-returns-in_ok-begin-in-Some-Object t c = on_ok _ _ c.component-in-Some-Object.result c.component-in-Some-Object.ensures (λ e.
    let x = c.in-Some-Object in
    let b = begun_by c.args.name.now in
    let e0 = c.args.self.now in
    component_begun b x.steps.now any_type first_position c.args.ty c.args.to e0 c.begin-in-Some-Object.new.self c.component-in-Some-Object.new.self c.in_ok-begin-in-Some-Object.ensures e
    ∙ ap (λ o. lined ((read o c.args.ty).code c.args.to c.args.ty) e0) (sym (ap (λ r. seen b (Some r)) x.field-0-is) ∙ sym (ap (seen b) x.is) ∙ c.reached_by.ensures))

pub discriminant-returns : goal.discriminant-returns
discriminant-returns t c = on_ok _ _ c.over_operand.result c.over_operand.ensures (λ e.
    let b = begun_by c.args.name.now in
    let found = c.in-Some in
    let e0 = c.args.self.now in
    let e2 = c.over_operand.new.self in
    let which = c.discriminant_at-which.result in
    discriminant_emitted b found.part which c.args.to e0 c.part.new.self e2 c.in_ok-part.ensures e
    ∙ ap (λ o. lined (discriminant_code o which c.args.to) e0) (sym (ap (seen b) found.is) ∙ c.reached_by.ensures)
    ∙ ap (λ w. lined (discriminant_code (reached_by c.args.name.now) w c.args.to) e0) c.discriminant_at-which.ensures)

-- Allocators ----------------------------------------------------------------------------------------

pub new_with-returns-in-Integer : goal.new_with-returns-in-Integer
new_with-returns-in-Integer t c = on_ok _ _ c.new_given.result c.new_given.ensures (elementary_given c.args.access c.args.designated (value_code c.args.value.now) c.args.to c.args.ty c.args.self.now c.new_given.new.self c.in-Integer.is)

pub new_given-returns : goal.new_given-returns
new_given-returns t c = on_ok _ _ c.moved_to.result c.moved_to.ensures (
    allocated_with c.args.access c.args.of (value_code c.args.value.now) c.height-at.result c.args.to c.args.ty c.args.self.now c.put.new.self c.evaluated.new.self c.allocate.new.self c.over_operand.new.self c.leave.new.self c.moved_to.new.self
    c.height-at.ensures c.in_ok-put.ensures c.in_ok-_value.ensures.held c.in_ok-allocate.ensures c.in_ok-over_operand.ensures c.leave.ensures)

pub new_copy-returns : goal.new_copy-returns
new_copy-returns t c = on_ok _ _ c.moved_to.result c.moved_to.ensures (λ e.
    let d = is_denoted c.in-Some._part in
    let o = copied c.args.record (value_code c.args.value.now) in
    copy_allocated_emitted o d.0 (sym c.copied.ensures ∙ ap denoted c.in-Some.is ∙ d.1) c.args.access c.args.record c.height-at.result c.args.to c.args.ty c.args.self.now c.put-2.new.self c.copied_value.new.self c.over_operand.new.self c.over_value_and_address.new.self c.moved_to.new.self
    c.height-at.ensures c.in_ok-put.ensures c.in_ok-copied_value.ensures c.in_ok-over_operand.ensures c.in_ok-over_value_and_address.ensures e)

pub copied_value-returns-in-Read : goal.copied_value-returns-in-Read
copied_value-returns-in-Read t c = on_ok _ _ c.copied_part.result c.copied_part.ensures (λ e.
    let i = c.in-Read in
    let u = c.args.record in
    let e0 = c.args.self.now in
    e ∙ ap (λ o. lined ((by_reference o (Record u)).code 0) e0) (sym (read_copied u i.name i.own) ∙ ap (λ x. copied u (value_code x)) (sym i.is)))

pub copied_value-returns-in_default : goal.copied_value-returns-in_default
copied_value-returns-in_default t c = on_ok _ _ c.record_actual.result c.record_actual.ensures (λ e.
    let u = c.args.record in
    e ∙ ap (λ o. lined ((by_reference o (Record u)).code 0) c.args.self.now) (sym (unread_copied u c.args.value.now c.in_default.not-Read)))

pub copied_part-returns-in-Some : goal.copied_part-returns-in-Some
copied_part-returns-in-Some t c = on_ok _ _ c.part.result c.part.ensures (λ e.
    let u = c.args.record in
    e ∙ ap (λ o. lined ((by_reference o (Record u)).code 0) c.args.self.now) (sym (ap (seen (begun_by c.args.name.now)) c.in-Some.is) ∙ c.copied_from.ensures))

pub copied_part-returns-in-None : goal.copied_part-returns-in-None
copied_part-returns-in-None t c = on_ok _ _ c.put.result c.put.ensures (λ e.
    let u = c.args.record in
    e ∙ ap (λ o. lined ((by_reference o (Record u)).code 0) c.args.self.now) (sym (ap (seen (begun_by c.args.name.now)) c.in-None.is) ∙ c.copied_from.ensures))

-- Calls ---------------------------------------------------------------------------------------------

pub record_call-returns : goal.record_call-returns
record_call-returns t c = on_ok _ _ c.over_actuals.result c.over_actuals.ensures (λ e.
    let xs = c.args.actuals.now in
    record_called c.args.function (length xs) c.height-at.result (map actual_code xs) c.args.record c.args.self.now c.over_actuals.new.self (sym (length-map xs actual_code)) c.height-at.ensures e)

pub function_call-returns : goal.function_call-returns
function_call-returns t c = on_ok _ _ c.moved_to.result c.moved_to.ensures (λ e.
    let xs = c.args.actuals.now in
    function_emitted c.args.function (length xs) c.height-at.result (map actual_code xs) c.args.to c.args.ty c.args.self.now c.over_actuals.new.self c.moved_to.new.self
    (sym (length-map xs actual_code)) c.height-at.ensures c.in_ok-over_actuals.ensures e)

pub over_actuals-returns : goal.over_actuals-returns
over_actuals-returns t c =
    let xs = c.args.actuals.now in
    over_actuals c.args.instr (length xs) (map actual_code xs) c.args.self.now c.actuals.new.self c.put.new.self c.leave_actuals.new.self
    (sym (length-map xs actual_code)) c.in_ok-actuals.ensures c.in_ok-put.ensures c.leave_actuals.ensures

pub actuals-loop-actual-preserved : goal.actuals-loop-actual-preserved
actuals-loop-actual-preserved t c =
    let all = c.args.actuals.now in
    let i = c.loop-actual.actual-index in
    let x = c.actual-item.result in
    let over = c.loop-actual.over in
    let few = c.loop-actual.invariant.1 in
    let two = c.numbers_of.ensures.few in (
      next_actual over (over + (1 + c.numbers_of.result)) (actual_code x) (map actual_code (drop (i + 1) all)) c.loop-actual.self c.actual.new.self (ap (λ n. over + (1 + n)) c.numbers_of.ensures.same) c.in_ok-actual.ensures
          ∙ turn_of (λ xs. passed over (map actual_code xs) c.loop-actual.self) all i x c.loop-actual-test.true c.actual-item.is
          ∙ c.loop-actual.invariant.0,
      omega (arith, few, two),
    )

pub actuals-returns : goal.actuals-returns
actuals-returns t c =
    no_actual c.loop-actual.over c.loop-actual.self
    ∙ ap (λ xs. passed c.loop-actual.over (map actual_code xs) c.loop-actual.self) (sym (drop_all c.loop-actual.actual-index c.args.actuals.now c.loop-actual-test.false))
    ∙ c.loop-actual.invariant.0

pub located-returns : goal.located-returns
located-returns t c = on_ok _ _ c.behind_start.result c.behind_start.ensures (
    part_located (begun_by c.args.of.now) c.args.steps.now c.args.record c.args.self.now c.begin.new.self c.behind_start.new.self c.in_ok-begin.ensures)

pub actual-returns-in_ok-value_actual-in-ByValue : goal.actual-returns-in_ok-value_actual-in-ByValue
actual-returns-in_ok-value_actual-in-ByValue t c = on_ok _ _ c.enter.result c.enter.ensures (λ e.
    let i = c.in-ByValue in
    let x = value_code i.value in
    let e0 = c.args.self.now in
    let e2 = c.enter.new.self in
    actual_renamed c.args.over (by_value x i.ty) (actual_code c.args.actual.now) e0 e2 (ap actual_code i.is ∙ actual_value i.value i.ty)
    (actual_emitted c.args.over (by_value x i.ty) i.ty e0 c.value_actual.new.self e2 (value_type_is x i.ty) (c.in_ok-value_actual-in-ByValue.ensures ∙ ap (λ f. lined f e0) (value_lines x i.ty c.args.over)) e))

pub value_actual-returns-in-Integer : goal.value_actual-returns-in-Integer
value_actual-returns-in-Integer t c = on_ok _ _ c.expression.result c.expression.ensures (λ e.
    elementary_value (value_code c.args.value.now) c.args.ty c.new_operand.result c.args.self.now c.expression.new.self c.in-Integer.is c.new_operand.ensures e)

pub record_actual-returns-then-is_called_of : goal.record_actual-returns-then-is_called_of
record_actual-returns-then-is_called_of t c = on_ok _ _ c.start.result c.start.ensures (
    record_passed c.args.record (value_code c.args.value.now) c.args.self.now c.start.new.self (sym c.is_called_of.ensures ∙ c.if-is_called_of.true))

pub record_actual-returns-else-is_called_of : goal.record_actual-returns-else-is_called_of
record_actual-returns-else-is_called_of t c = on_ok _ _ c.put.result c.put.ensures (
    no_record_passed c.args.record (value_code c.args.value.now) c.args.self.now c.put.new.self (sym c.is_called_of.ensures ∙ c.if-is_called_of.false))

pub actual-returns-in_ok-reference-in-Part : goal.actual-returns-in_ok-reference-in-Part
actual-returns-in_ok-reference-in-Part t c = on_ok _ _ c.enter-in-Part.result c.enter-in-Part.ensures (λ e.
    let i = c.in-Part in
    let o = reached_by i.name in
    let e0 = c.args.self.now in
    let e2 = c.enter-in-Part.new.self in
    actual_renamed c.args.over (by_reference o i.ty) (actual_code c.args.actual.now) e0 e2 (ap actual_code i.is ∙ actual_part i.name i.ty)
    (actual_emitted c.args.over (by_reference o i.ty) i.ty e0 c.reference.new.self e2 (reference_type o i.ty) (c.in_ok-reference-in-Part.ensures ∙ ap (λ f. lined f e0) (reference_code o i.ty c.args.over)) e))

pub actual-returns-in_ok-copied_actual-in-Copied : goal.actual-returns-in_ok-copied_actual-in-Copied
actual-returns-in_ok-copied_actual-in-Copied t c = on_ok _ _ c.enter-in-Copied.result c.enter-in-Copied.ensures (λ e.
    let i = c.in-Copied in
    let o = reached_by i.name in
    let e0 = c.args.self.now in
    let e2 = c.enter-in-Copied.new.self in
    actual_renamed c.args.over (by_copy o i.ty i.begins) (actual_code c.args.actual.now) e0 e2 (ap actual_code i.is ∙ actual_copied i.name i.ty i.begins)
    (actual_emitted c.args.over (by_copy o i.ty i.begins) i.ty e0 c.copied_actual.new.self e2 (copy_type o i.ty i.begins) c.in_ok-copied_actual-in-Copied.ensures e))

-- The copy of a component --------------------------------------------------------------------------

pub copied_actual-returns-in_ok-located-in-Some-Part : goal.copied_actual-returns-in_ok-located-in-Some-Part
copied_actual-returns-in_ok-located-in-Some-Part t c = on_ok _ _ c.keep.result c.keep.ensures (λ e.
    let x = c.in-Some-Part in
    let b = begun_by c.args.name.now in
    let e0 = c.args.self.now in
    part_kept b x.steps.now x.record x.position c.args.begins c.args.ty c.args.over e0 c.located.new.self c.keep.new.self c.in_ok-located-in-Some-Part.ensures e
    ∙ ap (λ o. lined ((by_copy o c.args.ty c.args.begins).code c.args.over) e0) (sym (ap (λ r. seen b (Some r)) x.field-0-is) ∙ sym (ap (seen b) x.is) ∙ c.reached_by.ensures))

pub copied_actual-returns-in_ok-located-in-Some-Object : goal.copied_actual-returns-in_ok-located-in-Some-Object
copied_actual-returns-in_ok-located-in-Some-Object t c = on_ok _ _ c.keep-in-Some-Object.result c.keep-in-Some-Object.ensures (λ e.
    let x = c.in-Some-Object in
    let b = begun_by c.args.name.now in
    let e0 = c.args.self.now in
    part_kept b x.steps.now any_type first_position c.args.begins c.args.ty c.args.over e0 c.located-in-Some-Object.new.self c.keep-in-Some-Object.new.self c.in_ok-located-in-Some-Object.ensures e
    ∙ ap (λ o. lined ((by_copy o c.args.ty c.args.begins).code c.args.over) e0) (sym (ap (λ r. seen b (Some r)) x.field-0-is) ∙ sym (ap (seen b) x.is) ∙ c.reached_by.ensures))

-- Operands ------------------------------------------------------------------------------------------

pub evaluated-returns-clause-held : goal.evaluated-returns-clause-held
evaluated-returns-clause-held t c = evaluated_emitted (value_code c.args.expression.now) c.args.ty c.new_operand-to.result c.args.self.now c.expression.new.self c.enter.new.self c.new_operand-to.ensures c.in_ok-expression.ensures c.in_ok-enter.ensures

pub held-returns-in-Some-clause-held : goal.held-returns-in-Some-clause-held
held-returns-in-Some-clause-held t c =
    let e = c.args.self.now in
    kept_emitted (value_code c.args.expression.now) c.args.ty c.in-Some.cell e (ap (λ r. kept r e.notes.standing) (sym c.right_of.ensures) ∙ sym c.kept.ensures ∙ c.in-Some.is)

-- Operators -----------------------------------------------------------------------------------------

pub operator-returns-in-Constant : goal.operator-returns-in-Constant
operator-returns-in-Constant t c = on_ok _ _ c.put.result c.put.ensures (λ e.
    let o = operator_of c.args.operand.now in
    let n = c.in-Constant.right in
    constant_emitted o c.args.left c.args.ty c.args.to n c.args.self.now c.put.new.self
    (ap (λ (z : OperatorCode). z.right.right) (operator_is c.args.operand.now) ∙ sym c.right_of.ensures ∙ c.in-Constant.is)
    (e ∙ ap (λ k. lined (one (InstrOf.BinaryConstant k c.args.left n c.args.to)) c.args.self.now) c.operator_for-op.ensures))

pub operator-returns-in_ok-right-in-Variable : goal.operator-returns-in_ok-right-in-Variable
operator-returns-in_ok-right-in-Variable t c = on_ok _ _ c.take.result c.take.ensures (λ e.
    let is = operator_is c.args.operand.now in
    let e0 = c.args.self.now in
    binary_emitted (operator_of c.args.operand.now) c.right_of.result c.operator_for-op.result c.args.left c.in_ok-right-in-Variable.right c.args.ty c.args.to e0 c.held.new.self c.take.new.self
    c.in-Variable.is
    (ap (λ (z : OperatorCode). z.right.right) is ∙ sym c.right_of.ensures)
    c.operator_for-op.ensures
    (c.in_ok-right-in-Variable.ensures.held ∙ ap (λ (z : OperatorCode). holding (held z.right c.args.ty) e0) (sym is))
    (c.in_ok-right-in-Variable.ensures.cell ∙ ap (λ (z : OperatorCode). (held z.right c.args.ty e0.notes.standing).cell) (sym is))
    e)

pub further-returns : goal.further-returns
further-returns t c = further_emitted (operator_of c.args.operand.now) c.args.ty c.new_operand-left.result c.args.to c.args.self.now c.enter.new.self c.operator.new.self c.leave.new.self c.new_operand-left.ensures c.in_ok-enter.ensures c.in_ok-operator.ensures c.leave.ensures

pub operators-loop-operand-preserved : goal.operators-loop-operand-preserved
operators-loop-operand-preserved t c =
    let all = c.args.operands.now in
    let i = c.loop-operand.operand-index in
    let x = c.operand-item.result in
    let rest = drop (i + 1) all in
    let os = map operator_of rest in
    let ty = c.loop-operand.ty in
    let e0 = c.loop-operand.self in
    let s = e0.notes.standing in
    let e1 = c.further.new.self in
    let target = c.target.result in
    let following = c.saturating_sub-following.result in
    let count : following + (i + 1) ≡ length all = omega (arith, c.saturating_sub-following.ensures, c.loop-operand.invariant.1, c.loop-operand-test.true) in
    let long = length-drop (i + 1) all in
    let same = length-map rest operator_of in
    let left : following ≡ length os = omega (arith, count, long, same) in
    let goes = c.target.ensures os s left c.loop-operand.invariant.2 in (
      ap (λ (o : OperatorCode). lined (over_new o.ty os c.args.to) e1) (sym (operator_is x))
          ∙ next_operator (operator_of x) os ty target c.args.to e0 e1 goes c.in_ok-further.ensures
          ∙ turn_of (λ xs. lined (over_new ty (map operator_of xs) c.args.to) e0) all i x c.loop-operand-test.true c.operand-item.is
          ∙ c.loop-operand.invariant.0,
      count,
      c.loop-operand.invariant.2 ∙ ap new_operand (sym (standing_is (operator_code (operator_of x) (new_operand s) ty target (KindOf.Operand ty ∷ s)) [] s e0 e1 c.in_ok-further.ensures)),
    )

pub operators-returns : goal.operators-returns
operators-returns t c =
    no_operator c.loop-operand.ty c.args.to c.loop-operand.self
    ∙ ap (λ xs. lined (over_new c.loop-operand.ty (map operator_of xs) c.args.to) c.loop-operand.self) (sym (drop_all c.loop-operand.operand-index c.args.operands.now c.loop-operand-test.false))
    ∙ c.loop-operand.invariant.0

-- Short-circuit forms -------------------------------------------------------------------------------

pub others-loop-other-preserved : goal.others-loop-other-preserved
others-loop-other-preserved t c =
    let all = c.args.others.now in
    let i = c.loop-other.other-index in
    let x = c.other-item.result in
    next_other c.args.form (value_code x) (map value_code (drop (i + 1) all)) c.loop-other.self c.other.new.self c.in_ok-other.ensures
    ∙ turn_of (λ xs. lined (others_code c.args.form (map value_code xs)) c.loop-other.self) all i x c.loop-other-test.true c.other-item.is
    ∙ c.loop-other.invariant

pub others-returns : goal.others-returns
others-returns t c =
    no_other c.args.form c.loop-other.self
    ∙ ap (λ xs. lined (others_code c.args.form (map value_code xs)) c.loop-other.self) (sym (drop_all c.loop-other.other-index c.args.others.now c.loop-other-test.false))
    ∙ c.loop-other.invariant

pub other-returns : goal.other-returns
other-returns t c =
    let e2 = c.expression.new.self in
    let to = c.new_operand-to.result in
    other_emitted c.args.form (value_code c.args.operand.now) to c.args.self.now c.over_operand.new.self e2 c.set.new.self c.place-head.result
    c.place-head.ensures c.new_operand-to.ensures c.in_ok-over_operand.ensures c.in_ok-expression.ensures
    (c.set.ensures ∙ ap (λ n. set_at c.place-head.result (InstrOf.Decide c.args.form to.at n) e2) c.behind-length.ensures)
