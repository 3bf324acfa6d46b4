use Rattle.std.proofs.Common.{◌+◌, ◌-◌, None, ap, sym, ◌∙◌, map, take, drop, length, option_map, arith, false, true}
use Rattle.std.proofs.lemmas.List.{drop_all}
use Rattle.ctl_program.specs.declared.statement.Arm.{out-Arm, size-Arm}
use Rattle.ctl_program.specs.declared.statement.Master.{out-Master}
use Rattle.ctl_code.specs.declared.code.Instr.TheVariants as InstrOf
use Rattle.ctl_code.specs.declared.code.Way.TheVariants as WayOf
use Rattle.ctl_emitter.specs.Emitted.{chosen, first_end, further_arms, further_handlers, lined, one, one_handler, open_arms, set_at, stated, statements_of}
use Rattle.ctl_layout.specs.Values.{value_code, reached_by, sourced, actual_code}
use Rattle.ctl_layout.specs.Layout.{MasterCode, all, all_items, arm_code, handler_code, assign, assign_record, block, branches, call, call_nothing, exit, for, for_of, free, handled, item_code, library_allocate, library_deallocate, loop, master_code, missing_statement, next_of, one_statement, print, return, statement_code, tested, while}
use Rattle.ctl_emitter.proofs.Emission.{on_ok}
use Rattle.ctl_layout.proofs.Turns.{turn_of}
use Rattle.ctl_emit.proofs.EmittedStatements.{assigned_anywhere, freed_anywhere, next_statement, no_statement, renamed, returned_anywhere, statement_emitted}
use Rattle.ctl_emit.proofs.EmittedLoops.{block_emitted, for_emitted, inside_emitted, landing_within, line_within, loop_emitted, statement_within, test_within, tested_emitted}
use Rattle.ctl_emit.proofs.EmittedArms.{arm_emitted, behind_first, branches_emitted, end_at, end_before, first_end_is, guarded, next_arm, no_arm, no_deeper, none_open, open_emitted}
use Rattle.ctl_emit.proofs.EmittedHandlers.{chosen_emitted, exceptions_emitted, handled_emitted, headed_emitted, next_handler, no_handler, others_emitted, outside, skipped_emitted}
use Rattle.ctl_program.specs.declared.statement.Stmt.TheVariants.{rolls-Assign, rolls-AssignRecord, rolls-Block, rolls-Call, rolls-Exit, rolls-For, rolls-Free, rolls-If, rolls-LibraryAllocate, rolls-LibraryDeallocate, rolls-Loop, rolls-NewLine, rolls-Nothing, rolls-Null, rolls-Put, rolls-PutLine, rolls-Raise, rolls-RaiseAgain, rolls-Return, rolls-While}
use Rattle.ctl_emitter.proofs.EmittedParts.{nothing_anywhere, record_anywhere}
use Rattle.ctl_emitter.proofs.EmittedStorage.{allocated_anywhere, deallocated_anywhere}
use Rattle.ctl_emitter.proofs.EmittedCalls.{call_anywhere}
use Rattle.ctl_layout.proofs.StatementLayers.{master_is, missing_is}
use Rattle.ctl_layout.proofs.TreeLayers.{layer_of}
use Rattle.ctl_emit.proofs.+emit.Goals as goal

-- Statements in turn --------------------------------------------------------------------------------

pub emit_statements::statements-loop-one-preserved : goal.emit_statements::statements-loop-one-preserved
emit_statements::statements-loop-one-preserved t c =
    let whole = c.args.statements.now in
    let i = c.loop-one.one-index in
    let x = c.one-item.result in
    let e0 = c.loop-one.emitter in
    let e1 = c.statement.new.emitter in
    let within = c.loop-one.invariant.1 in (
      next_statement (statement_code x) (map statement_code (drop (i + 1) whole)) c.args.landing e0 e1 within c.in_ok-statement.ensures
          ∙ turn_of (λ xs. stated (all (map statement_code xs)) c.args.landing e0) whole i x c.loop-one-test.true c.one-item.is
          ∙ c.loop-one.invariant.0,
      statement_within (statement_code x) c.args.landing e0 e1 within c.in_ok-statement.ensures,
    )

pub emit_statements::statements-returns : goal.emit_statements::statements-returns
emit_statements::statements-returns t c =
    no_statement c.args.landing c.loop-one.emitter
    ∙ ap (λ xs. stated (all (map statement_code xs)) c.args.landing c.loop-one.emitter) (sym (drop_all c.loop-one.one-index c.args.statements.now c.loop-one-test.false))
    ∙ c.loop-one.invariant.0

-- Each statement ------------------------------------------------------------------------------------

pub emit_statements::statement-returns-in-Null : goal.emit_statements::statement-returns-in-Null
emit_statements::statement-returns-in-Null t c = no_statement c.args.landing c.args.emitter.now ∙ ap (λ x. stated x c.args.landing c.args.emitter.now) (sym (layer_of _ (c.in-Null.is ∙ sym rolls-Null)))

pub emit_statements::statement-returns-in-Assign : goal.emit_statements::statement-returns-in-Assign
emit_statements::statement-returns-in-Assign t c = on_ok _ _ c.assign.result c.assign.ensures (λ e.
    let i = c.in-Assign in
    statement_emitted _ (assign (reached_by i.name) (value_code i.value)) c.args.landing c.args.emitter.now c.assign.new.emitter (layer_of _ (i.is ∙ sym (rolls-Assign i.name i.value)))
    (assigned_anywhere (reached_by i.name) (value_code i.value) c.args.landing c.args.emitter.now c.assign.new.emitter e))

pub emit_statements::statement-returns-in-Put : goal.emit_statements::statement-returns-in-Put
emit_statements::statement-returns-in-Put t c = on_ok _ _ c.print.result c.print.ensures (λ e.
    let i = c.in-Put in
    statement_emitted _ (print false i.pieces) c.args.landing c.args.emitter.now c.print.new.emitter (layer_of _ (i.is ∙ sym (rolls-Put i.pieces)))
    (e ∙ ap (λ ps. stated (print false ps) c.args.landing c.args.emitter.now) c.as_slice.ensures))

pub emit_statements::statement-returns-in-PutLine : goal.emit_statements::statement-returns-in-PutLine
emit_statements::statement-returns-in-PutLine t c = on_ok _ _ c.print-in-PutLine.result c.print-in-PutLine.ensures (λ e.
    let i = c.in-PutLine in
    statement_emitted _ (print true i.pieces) c.args.landing c.args.emitter.now c.print-in-PutLine.new.emitter (layer_of _ (i.is ∙ sym (rolls-PutLine i.pieces)))
    (e ∙ ap (λ ps. stated (print true ps) c.args.landing c.args.emitter.now) c.as_slice-in-PutLine.ensures))

pub emit_statements::statement-returns-in-NewLine : goal.emit_statements::statement-returns-in-NewLine
emit_statements::statement-returns-in-NewLine t c = on_ok _ _ c.put.result c.put.ensures (
    statement_emitted _ (one_statement InstrOf.NewLine) c.args.landing c.args.emitter.now c.put.new.self (layer_of _ (c.in-NewLine.is ∙ sym rolls-NewLine)))

pub emit_statements::statement-returns-in-Raise : goal.emit_statements::statement-returns-in-Raise
emit_statements::statement-returns-in-Raise t c = on_ok _ _ c.put-in-Raise.result c.put-in-Raise.ensures (
    let i = c.in-Raise in
    statement_emitted _ (one_statement (InstrOf.Transfer (WayOf.Raise i.exception))) c.args.landing c.args.emitter.now c.put-in-Raise.new.self (layer_of _ (i.is ∙ sym (rolls-Raise i.exception))))

pub emit_statements::statement-returns-in-RaiseAgain : goal.emit_statements::statement-returns-in-RaiseAgain
emit_statements::statement-returns-in-RaiseAgain t c = on_ok _ _ c.put-in-RaiseAgain.result c.put-in-RaiseAgain.ensures (
    statement_emitted _ (one_statement InstrOf.RaiseAgain) c.args.landing c.args.emitter.now c.put-in-RaiseAgain.new.self (layer_of _ (c.in-RaiseAgain.is ∙ sym rolls-RaiseAgain)))

pub emit_statements::statement-returns-in-Return : goal.emit_statements::statement-returns-in-Return
emit_statements::statement-returns-in-Return t c = on_ok _ _ c.leave_body.result c.leave_body.ensures (λ e.
    let i = c.in-Return in
    statement_emitted _ (return (option_map value_code i.value)) c.args.landing c.args.emitter.now c.leave_body.new.emitter (layer_of _ (i.is ∙ sym (rolls-Return i.value)))
    (returned_anywhere (option_map value_code i.value) c.args.landing c.args.emitter.now c.leave_body.new.emitter e))

pub emit_statements::statement-returns-in-Exit : goal.emit_statements::statement-returns-in-Exit
emit_statements::statement-returns-in-Exit t c = on_ok _ _ c.exit.result c.exit.ensures (
    let i = c.in-Exit in
    statement_emitted _ (exit (option_map value_code i.condition)) c.args.landing c.args.emitter.now c.exit.new.emitter (layer_of _ (i.is ∙ sym (rolls-Exit i.condition))))

pub emit_statements::statement-returns-in_ok-statements-in-If : goal.emit_statements::statement-returns-in_ok-statements-in-If
emit_statements::statement-returns-in_ok-statements-in-If t c =
    let i = c.in-If in
    let l = c.args.landing in
    let e0 = c.args.emitter.now in
    let e1 = c.arms.new.emitter in
    let e2 = c.statements.new.emitter in
    statement_emitted _ (branches (map arm_code i.branches) (all (map statement_code i.others))) l e0 c.skip_from.new.emitter (layer_of _ (i.is ∙ sym (rolls-If i.branches i.others)))
    (branches_emitted (map arm_code i.branches) (all (map statement_code i.others)) l e0 e1 e2 c.skip_from.new.emitter c.in_ok-end-in-If.end c.requires
    (c.in_ok-end-in-If.ensures.emitted ∙ ap (λ xs. stated (open_arms (map arm_code xs)) l e0) c.as_slice-in-If.ensures)
    (c.in_ok-statements-in-If.ensures ∙ ap (λ xs. stated (all (map statement_code xs)) l e1) c.as_slice-in-If-2.ensures)
    (c.in_ok-end-in-If.ensures.end ∙ ap (λ xs. first_end l (map arm_code xs) e0) c.as_slice-in-If.ensures)
    c.skip_from.ensures)

pub emit_statements::statement-returns-in-Loop : goal.emit_statements::statement-returns-in-Loop
emit_statements::statement-returns-in-Loop t c = on_ok _ _ c.endless.result c.endless.ensures (λ e.
    let i = c.in-Loop in
    statement_emitted _ (loop (all (map statement_code i.body))) c.args.landing c.args.emitter.now c.endless.new.emitter (layer_of _ (i.is ∙ sym (rolls-Loop i.body)))
    (renamed (λ xs. loop (all (map statement_code xs))) c.as_slice-in-Loop.result.now i.body c.args.landing c.args.emitter.now c.endless.new.emitter c.as_slice-in-Loop.ensures e))

pub emit_statements::statement-returns-in-While : goal.emit_statements::statement-returns-in-While
emit_statements::statement-returns-in-While t c = on_ok _ _ c.while_loop.result c.while_loop.ensures (λ e.
    let i = c.in-While in
    statement_emitted _ (while (value_code i.test) (all (map statement_code i.body))) c.args.landing c.args.emitter.now c.while_loop.new.emitter (layer_of _ (i.is ∙ sym (rolls-While i.test i.body)))
    (renamed (λ xs. while (value_code i.test) (all (map statement_code xs))) c.as_slice-in-While.result.now i.body c.args.landing c.args.emitter.now c.while_loop.new.emitter c.as_slice-in-While.ensures e))

pub emit_statements::statement-returns-in-For : goal.emit_statements::statement-returns-in-For
emit_statements::statement-returns-in-For t c = on_ok _ _ c.for_loop.result c.for_loop.ensures (λ e.
    let i = c.in-For in
    statement_emitted _ (for i.parameter i.way (value_code i.low) (value_code i.high) (all (map statement_code i.body))) c.args.landing c.args.emitter.now c.for_loop.new.emitter (layer_of _ (i.is ∙ sym (rolls-For i.parameter i.way i.low i.high i.body)))
    (renamed (λ xs. for i.parameter i.way (value_code i.low) (value_code i.high) (all (map statement_code xs))) c.as_slice-in-For.result.now i.body c.args.landing c.args.emitter.now c.for_loop.new.emitter c.as_slice-in-For.ensures e))

pub emit_statements::statement-returns-in-Block : goal.emit_statements::statement-returns-in-Block
emit_statements::statement-returns-in-Block t c = on_ok _ _ c.block.result c.block.ensures (λ e.
    let i = c.in-Block in
    statement_emitted _ (block (master_code i.master)) c.args.landing c.args.emitter.now c.block.new.emitter (layer_of _ (i.is ∙ sym (rolls-Block i.master)))
    (renamed (λ m. block (master_code m)) c.get.result.now i.master c.args.landing c.args.emitter.now c.block.new.emitter c.get.ensures e))

pub emit_statements::statement-returns-in-AssignRecord : goal.emit_statements::statement-returns-in-AssignRecord
emit_statements::statement-returns-in-AssignRecord t c = on_ok _ _ c.assign_record.result c.assign_record.ensures (λ e.
    let i = c.in-AssignRecord in
    statement_emitted _ (assign_record (reached_by i.name) i.record (sourced i.value)) c.args.landing c.args.emitter.now c.assign_record.new.emitter (layer_of _ (i.is ∙ sym (rolls-AssignRecord i.name i.record i.value)))
    (record_anywhere (reached_by i.name) i.record (sourced i.value) c.args.landing c.args.emitter.now c.assign_record.new.emitter e))

pub emit_statements::statement-returns-in-Free : goal.emit_statements::statement-returns-in-Free
emit_statements::statement-returns-in-Free t c = on_ok _ _ c.free.result c.free.ensures (λ e.
    let i = c.in-Free in
    statement_emitted _ (free i.access (reached_by i.name)) c.args.landing c.args.emitter.now c.free.new.emitter (layer_of _ (i.is ∙ sym (rolls-Free i.access i.name)))
    (freed_anywhere i.access (reached_by i.name) c.args.landing c.args.emitter.now c.free.new.emitter e))

pub emit_statements::statement-returns-in-LibraryAllocate : goal.emit_statements::statement-returns-in-LibraryAllocate
emit_statements::statement-returns-in-LibraryAllocate t c = on_ok _ _ c.library_allocate.result c.library_allocate.ensures (λ e.
    let i = c.in-LibraryAllocate in
    statement_emitted _ (library_allocate (reached_by i.pool) (reached_by i.address) (value_code i.size) (value_code i.alignment)) c.args.landing c.args.emitter.now c.library_allocate.new.emitter
    (layer_of _ (i.is ∙ sym (rolls-LibraryAllocate i.pool i.address i.size i.alignment)))
    (allocated_anywhere (reached_by i.pool) (reached_by i.address) (value_code i.size) (value_code i.alignment) c.args.landing c.args.emitter.now c.library_allocate.new.emitter e))

pub emit_statements::statement-returns-in-LibraryDeallocate : goal.emit_statements::statement-returns-in-LibraryDeallocate
emit_statements::statement-returns-in-LibraryDeallocate t c = on_ok _ _ c.library_deallocate.result c.library_deallocate.ensures (λ e.
    let i = c.in-LibraryDeallocate in
    statement_emitted _ (library_deallocate (reached_by i.pool) (value_code i.address) (value_code i.size) (value_code i.alignment)) c.args.landing c.args.emitter.now c.library_deallocate.new.emitter
    (layer_of _ (i.is ∙ sym (rolls-LibraryDeallocate i.pool i.address i.size i.alignment)))
    (deallocated_anywhere (reached_by i.pool) (value_code i.address) (value_code i.size) (value_code i.alignment) c.args.landing c.args.emitter.now c.library_deallocate.new.emitter e))

pub emit_statements::statement-returns-in-Call : goal.emit_statements::statement-returns-in-Call
emit_statements::statement-returns-in-Call t c = on_ok _ _ c.call.result c.call.ensures (λ e.
    let i = c.in-Call in
    statement_emitted _ (call i.procedure (map actual_code i.actuals)) c.args.landing c.args.emitter.now c.call.new.self (layer_of _ (i.is ∙ sym (rolls-Call i.procedure i.actuals)))
    (renamed (λ xs. call i.procedure (map actual_code xs)) c.as_slice-in-Call.result.now i.actuals c.args.landing c.args.emitter.now c.call.new.self c.as_slice-in-Call.ensures
    (call_anywhere i.procedure (map actual_code c.as_slice-in-Call.result.now) c.args.landing c.args.emitter.now c.call.new.self e)))

pub emit_statements::statement-returns-in-Nothing : goal.emit_statements::statement-returns-in-Nothing
emit_statements::statement-returns-in-Nothing t c = on_ok _ _ c.call_nothing.result c.call_nothing.ensures (λ e.
    let n = c.in-Nothing.name in
    statement_emitted _ (call_nothing (reached_by n)) c.args.landing c.args.emitter.now c.call_nothing.new.emitter (layer_of _ (c.in-Nothing.is ∙ sym (rolls-Nothing n)))
    (nothing_anywhere (reached_by n) c.args.landing c.args.emitter.now c.call_nothing.new.emitter e))

pub emit_statements::statement-returns-in-Dispatch : goal.emit_statements::statement-returns-in-Dispatch
emit_statements::statement-returns-in-Dispatch t c = on_ok _ _ c.put-in-Dispatch.result c.put-in-Dispatch.ensures (
    statement_emitted _ missing_statement c.args.landing c.args.emitter.now c.put-in-Dispatch.new.self (missing_is c.args.statement.now c.in-Dispatch.is))

-- Arms ----------------------------------------------------------------------------------------------

pub emit_statements::arms-returns-in-empty-clause-emitted : goal.emit_statements::arms-returns-in-empty-clause-emitted
emit_statements::arms-returns-in-empty-clause-emitted t c =
    none_open c.args.landing c.args.emitter.now ∙ ap (λ xs. stated (open_arms (map arm_code xs)) c.args.landing c.args.emitter.now) (sym (drop_all 0 c.args.arms.now (omega (arith, c.in-empty.len_below))))

pub emit_statements::arms-returns-in_ok-further_arms-in-len1-up-clause-emitted : goal.emit_statements::arms-returns-in_ok-further_arms-in-len1-up-clause-emitted
emit_statements::arms-returns-in_ok-further_arms-in-len1-up-clause-emitted t c =
    let whole = c.args.arms.now in
    let x = c.first-item.result in
    let l = c.args.landing in
    let e0 = c.args.emitter.now in
    let e2 = c.put.new.self in
    open_emitted (arm_code x) (map arm_code (drop 1 whole)) l e0 c.tested.new.emitter e2 c.further_arms.new.emitter c.place-end.result c.requires
    (arm_emitted x c.as_slice.result.now l e0 c.tested.new.emitter c.as_slice.ensures c.in_ok-tested-in-len1-up.ensures)
    c.place-end.ensures c.in_ok-put-in-len1-up.ensures
    (c.in_ok-further_arms-in-len1-up.ensures ∙ ap (λ xs. stated (further_arms (length e2.instructions - c.place-end.result) (map arm_code xs)) l e2) (behind_first whole))
    ∙ turn_of (λ xs. stated (open_arms (map arm_code xs)) l e0) whole 0 x c.in-len1-up.len_at_least c.first-item.is

pub emit_statements::arms-returns-in_ok-further_arms-in-len1-up-clause-end : goal.emit_statements::arms-returns-in_ok-further_arms-in-len1-up-clause-end
emit_statements::arms-returns-in_ok-further_arms-in-len1-up-clause-end t c =
    let whole = c.args.arms.now in
    let x = c.first-item.result in
    let l = c.args.landing in
    let e0 = c.args.emitter.now in
    first_end_is (arm_code x) (map arm_code (drop 1 whole)) l e0 c.tested.new.emitter c.place-end.result
    (arm_emitted x c.as_slice.result.now l e0 c.tested.new.emitter c.as_slice.ensures c.in_ok-tested-in-len1-up.ensures)
    c.place-end.ensures
    ∙ turn_of (λ xs. first_end l (map arm_code xs) e0) whole 0 x c.in-len1-up.len_at_least c.first-item.is

pub emit_statements::arms-further_arms-requires : goal.emit_statements::arms-further_arms-requires
emit_statements::arms-further_arms-requires t c =
    let h = no_deeper (λ y. size-Arm y) c.args.arms.now in
    let e1 = c.tested.new.emitter in
    let e2 = c.put.new.self in
    let arm = tested (value_code (out-Arm c.first-item.result).test) (all (map statement_code c.as_slice.result.now)) in (
      omega (arith, h, c.decreases),
      (
        line_within (InstrOf.Skip 0) c.args.landing e1 e2 (statement_within arm c.args.landing c.args.emitter.now e1 c.requires c.in_ok-tested-in-len1-up.ensures) c.in_ok-put-in-len1-up.ensures,
        end_at (InstrOf.Skip 0) e1 e2 c.place-end.result c.place-end.ensures c.in_ok-put-in-len1-up.ensures,
      ),
    )

pub emit_statements::arms-returns-in_ok-further_arms-in-len1-up-clause-landing : goal.emit_statements::arms-returns-in_ok-further_arms-in-len1-up-clause-landing
emit_statements::arms-returns-in_ok-further_arms-in-len1-up-clause-landing t c =
    let l = c.args.landing in
    let e1 = c.tested.new.emitter in
    let e2 = c.put.new.self in
    let e3 = c.further_arms.new.emitter in
    let arm = tested (value_code (out-Arm c.first-item.result).test) (all (map statement_code c.as_slice.result.now)) in
    let rest = map arm_code (take (length c.args.arms.now - 1) (drop 1 c.args.arms.now)) in
    statement_within (further_arms (length e2.instructions - c.place-end.result) rest) l e2 e3
    (line_within (InstrOf.Skip 0) l e1 e2 (statement_within arm l c.args.emitter.now e1 c.requires c.in_ok-tested-in-len1-up.ensures) c.in_ok-put-in-len1-up.ensures)
    c.in_ok-further_arms-in-len1-up.ensures

pub emit_statements::further_arms-loop-arm-preserved : goal.emit_statements::further_arms-loop-arm-preserved
emit_statements::further_arms-loop-arm-preserved t c =
    let whole = c.args.arms.now in
    let i = c.loop-arm.arm-index in
    let x = c.arm-item.result in
    let l = c.args.landing in
    let e0 = c.loop-arm.emitter in
    let e1 = c.tested.new.emitter in
    let e2 = c.put.new.self in
    let back = c.since-back.result in
    let within = c.loop-arm.invariant.1 in
    let first = arm_emitted x c.as_slice.result.now l e0 e1 c.as_slice.ensures c.in_ok-tested.ensures in (
      next_arm (arm_code x) (map arm_code (drop (i + 1) whole)) l e0 e1 e2 c.args.end back within c.loop-arm.invariant.2 first c.since-back.ensures c.in_ok-put.ensures
          ∙ turn_of (λ xs. stated (further_arms (length e0.instructions - c.args.end) (map arm_code xs)) l e0) whole i x c.loop-arm-test.true c.arm-item.is
          ∙ c.loop-arm.invariant.0,
      line_within (InstrOf.Back back) l e1 e2 (statement_within (guarded (arm_code x)) l e0 e1 within first) c.in_ok-put.ensures,
      end_before (guarded (arm_code x)) (InstrOf.Back back) l e0 e1 e2 c.args.end c.loop-arm.invariant.2 first c.in_ok-put.ensures,
    )

pub emit_statements::further_arms-returns : goal.emit_statements::further_arms-returns
emit_statements::further_arms-returns t c =
    let e0 = c.loop-arm.emitter in
    no_arm (length e0.instructions - c.args.end) c.args.landing e0
    ∙ ap (λ xs. stated (further_arms (length e0.instructions - c.args.end) (map arm_code xs)) c.args.landing e0) (sym (drop_all c.loop-arm.arm-index c.args.arms.now c.loop-arm-test.false))
    ∙ c.loop-arm.invariant.0

-- Statements under a condition ------------------------------------------------------------------------

pub emit_statements::tested-returns : goal.emit_statements::tested-returns
emit_statements::tested-returns t c =
    let e3 = c.statements.new.emitter in
    let cell = c.in_ok-from.from in
    tested_emitted (value_code c.args.test.now) (all (map statement_code c.args.body.now)) cell c.args.landing c.args.emitter.now c.held.new.self c.take.new.self e3 c.set.new.self c.place-head.result c.requires
    c.in_ok-from.ensures.held c.in_ok-from.ensures.cell c.place-head.ensures c.in_ok-take.ensures c.in_ok-statements.ensures
    (c.set.ensures ∙ ap (λ n. set_at c.place-head.result (InstrOf.Unless cell n) e3) c.since-length.ensures)

pub emit_statements::tested-statements-requires : goal.emit_statements::tested-statements-requires
emit_statements::tested-statements-requires t c = (
  omega (arith, c.decreases),
  test_within (value_code c.args.test.now) c.in_ok-from.from c.args.landing c.args.emitter.now c.held.new.self c.take.new.self c.requires c.in_ok-from.ensures.held c.in_ok-from.ensures.cell c.in_ok-take.ensures,
)

-- Loops ---------------------------------------------------------------------------------------------

pub emit_statements::endless-returns : goal.emit_statements::endless-returns
emit_statements::endless-returns t c = on_ok _ _ c.repeat.result c.repeat.ensures (
    loop_emitted (all (map statement_code c.args.body.now)) c.place-landing.result c.args.emitter.now c.put.new.self c.put-2.new.self c.statements.new.emitter c.repeat.new.emitter
    c.in_ok-put.ensures c.place-landing.ensures c.in_ok-put-2.ensures c.in_ok-statements.ensures)

pub emit_statements::endless-statements-requires : goal.emit_statements::endless-statements-requires
emit_statements::endless-statements-requires t c = (omega (arith, c.decreases), landing_within (InstrOf.Skip 0) c.place-landing.result c.put.new.self c.put-2.new.self c.place-landing.ensures c.in_ok-put-2.ensures)

pub emit_statements::while_loop-returns : goal.emit_statements::while_loop-returns
emit_statements::while_loop-returns t c = on_ok _ _ c.repeat.result c.repeat.ensures (
    loop_emitted (tested (value_code c.args.test.now) (all (map statement_code c.args.body.now))) c.place-landing.result c.args.emitter.now c.put.new.self c.put-2.new.self c.tested.new.emitter c.repeat.new.emitter
    c.in_ok-put.ensures c.place-landing.ensures c.in_ok-put-2.ensures c.in_ok-tested.ensures)

pub emit_statements::while_loop-tested-requires : goal.emit_statements::while_loop-tested-requires
emit_statements::while_loop-tested-requires t c = (omega (arith, c.decreases), landing_within (InstrOf.Skip 0) c.place-landing.result c.put.new.self c.put-2.new.self c.place-landing.ensures c.in_ok-put-2.ensures)

pub emit_statements::for_loop-returns : goal.emit_statements::for_loop-returns
emit_statements::for_loop-returns t c =
    let v = c.args.parameter in
    let way = c.args.way in
    let o = c.newest_at-at.result in
    let base = c.height-base.result in
    let head = c.place-head.result in
    let landing = c.place-landing.result in
    let e4 = c.statements.new.emitter in
    let e5 = c.put-3.new.self in
    let e6 = c.set.new.self in
    for_emitted v way (value_code c.args.low.now) (value_code c.args.high.now) (all (map statement_code c.args.body.now)) o base head landing
    c.args.emitter.now c.bounds.new.emitter c.put.new.self c.put-2.new.self e4 e5 e6 c.set-2.new.self c.leave.new.self c.leave-2.new.self
    c.newest_at-at.ensures c.height-base.ensures c.in_ok-bounds.ensures c.place-head.ensures c.in_ok-put.ensures c.place-landing.ensures c.in_ok-put-2.ensures c.in_ok-statements.ensures
    (c.in_ok-put-3.ensures ∙ ap (λ i. lined (one i) e4) c.next_of.ensures ∙ ap (λ n. lined (one (next_of o base v way n)) e4) c.behind-length.ensures)
    (c.set.ensures ∙ ap (λ n. set_at landing (InstrOf.Abandon n) e5) c.behind-length-2.ensures)
    (c.set-2.ensures ∙ ap (λ i. set_at head i e6) c.for_of.ensures ∙ ap (λ n. set_at head (for_of o base v way n) e6) c.behind-length-3.ensures)
    c.leave.ensures c.leave-2.ensures

pub emit_statements::for_loop-statements-requires : goal.emit_statements::for_loop-statements-requires
emit_statements::for_loop-statements-requires t c = (omega (arith, c.decreases), landing_within (InstrOf.Abandon 0) c.place-landing.result c.put.new.self c.put-2.new.self c.place-landing.ensures c.in_ok-put-2.ensures)

-- Masters -------------------------------------------------------------------------------------------

pub emit_statements::block-returns : goal.emit_statements::block-returns
emit_statements::block-returns t c = on_ok _ _ c.exit_to.result c.exit_to.ensures (
    let slots = (out-Master c.args.inside.now).slots in
    let e4 = c.leave.new.self in
    block_emitted slots (master_code c.args.inside.now) c.args.landing c.place-head.result c.args.emitter.now c.put.new.self c.enter.new.self c.master.new.emitter e4 c.set.new.self c.exit_to.new.emitter c.requires
    (sym (ap (λ (m : MasterCode). m.slots) (master_is c.args.inside.now))) c.place-head.ensures c.in_ok-put.ensures c.in_ok-enter.ensures c.in_ok-master.ensures c.leave.ensures
    (c.set.ensures ∙ ap (λ n. set_at c.place-head.result (InstrOf.Enter slots n) e4) c.behind-length.ensures))

pub emit_statements::master-returns : goal.emit_statements::master-returns
emit_statements::master-returns t c = on_ok _ _ c.put.result c.put.ensures (λ e.
    let o = out-Master c.args.master.now in
    let x = all_items (map item_code o.items) in
    let e0 = c.args.emitter.now in
    inside_emitted x (statements_of o) e0 c.items.new.emitter c.handled.new.emitter c.put.new.self
    (c.in_ok-items.ensures ∙ ap (λ xs. lined (all_items (map item_code xs)).code e0) c.as_slice.ensures)
    c.in_ok-handled.ensures
    e
    ∙ ap (λ (m : MasterCode). stated m.inside None e0) (sym (master_is c.args.master.now)))

-- Handlers ------------------------------------------------------------------------------------------

pub emit_handlers::handlers-loop-one-preserved : goal.emit_handlers::handlers-loop-one-preserved
emit_handlers::handlers-loop-one-preserved t c =
    let whole = c.args.handlers.now in
    let i = c.loop-one.one-index in
    let x = c.one-item.result in
    let e0 = c.loop-one.emitter in
    let e1 = c.handler.new.emitter in
    let back = c.since-back.result in
    let first = c.in_ok-handler.ensures in
    let lt = c.loop-one.invariant.1 in (
      next_handler (handler_code x) (map handler_code (drop (i + 1) whole)) e0 e1 c.put.new.self c.args.end back lt first c.since-back.ensures c.in_ok-put.ensures
          ∙ turn_of (λ xs. stated (further_handlers (length e0.instructions - c.args.end) (map handler_code xs)) None e0) whole i x c.loop-one-test.true c.one-item.is
          ∙ c.loop-one.invariant.0,
      end_before (one_handler (handler_code x)) (InstrOf.Back back) None e0 e1 c.put.new.self c.args.end lt first c.in_ok-put.ensures,
    )

pub emit_handlers::handlers-returns : goal.emit_handlers::handlers-returns
emit_handlers::handlers-returns t c = on_ok _ _ c.put-2.result c.put-2.ensures (λ e.
    let e0 = c.loop-one.emitter in
    let back = length e0.instructions - c.args.end in
    no_handler back e0 c.put-2.new.self e
    ∙ ap (λ xs. stated (further_handlers back (map handler_code xs)) None e0) (sym (drop_all c.loop-one.one-index c.args.handlers.now c.loop-one-test.false))
    ∙ c.loop-one.invariant.0)

pub emit_handlers::skipped_handlers-handlers-requires : goal.emit_handlers::skipped_handlers-handlers-requires
emit_handlers::skipped_handlers-handlers-requires t c = (omega (arith, c.decreases), end_at (InstrOf.Skip 0) c.args.emitter.now c.put.new.self c.place-end.result c.place-end.ensures c.in_ok-put.ensures)

pub emit_handlers::skipped_handlers-returns : goal.emit_handlers::skipped_handlers-returns
emit_handlers::skipped_handlers-returns t c =
    let end = c.place-end.result in
    let e2 = c.handlers.new.emitter in
    skipped_emitted (map handler_code c.args.all.now) end c.args.emitter.now c.put.new.self e2 c.set.new.self c.place-end.ensures c.in_ok-put.ensures c.in_ok-handlers.ensures
    (c.set.ensures ∙ ap (λ n. set_at end (InstrOf.Skip n) e2) c.behind-length.ensures)

pub emit_handlers::handler-returns-in-Others : goal.emit_handlers::handler-returns-in-Others
emit_handlers::handler-returns-in-Others t c = on_ok _ _ c.statements.result c.statements.ensures (
    others_emitted c.args.handler.now c.as_slice.result.now c.args.emitter.now c.statements.new.emitter c.in-Others.is c.as_slice.ensures)

pub emit_handlers::handler-returns-in-Exceptions : goal.emit_handlers::handler-returns-in-Exceptions
emit_handlers::handler-returns-in-Exceptions t c = on_ok _ _ c.chosen.result c.chosen.ensures (λ e.
    let i = c.in-Exceptions in
    let xs = c.as_slice-in-Exceptions.result.now in
    exceptions_emitted c.args.handler.now i.exceptions xs c.args.emitter.now c.chosen.new.emitter i.is c.as_slice-in-Exceptions.ensures
    (e ∙ ap (λ es. stated (chosen es (all (map statement_code xs))) None c.args.emitter.now) c.as_slice-in-Exceptions-2.ensures))

pub emit_handlers::chosen-statements-requires : goal.emit_handlers::chosen-statements-requires
emit_handlers::chosen-statements-requires t c = (omega (arith, c.decreases), outside c.put.new.self)

pub emit_handlers::chosen-returns : goal.emit_handlers::chosen-returns
emit_handlers::chosen-returns t c =
    let head = c.place-head.result in
    let e1 = c.sought.new.emitter in
    let e3 = c.statements.new.emitter in
    let body = all (map statement_code c.args.body.now) in
    chosen_emitted c.args.exceptions.now body c.args.emitter.now e1 c.set.new.self c.in_ok-sought.ensures
    (headed_emitted InstrOf.Skip body head e1 c.put.new.self e3 c.set.new.self c.place-head.ensures c.in_ok-put.ensures c.in_ok-statements.ensures
    (c.set.ensures ∙ ap (λ n. set_at head (InstrOf.Skip n) e3) c.since-length.ensures))

-- Statements with their handlers --------------------------------------------------------------------

pub emit_handlers::handled-returns : goal.emit_handlers::handled-returns
emit_handlers::handled-returns t c = on_ok _ _ c.skipped_handlers.result c.skipped_handlers.ensures (λ e.
    let o = out-Master c.args.master.now in
    let xs = c.as_slice-2.result.now in
    let hs = c.as_slice-handlers.result.now in
    let body = all (map statement_code xs) in
    let head = c.place-head.result in
    let e0 = c.args.emitter.now in
    let e2 = c.statements-2.new.emitter in
    handled_emitted body hs e0 c.set.new.self c.skipped_handlers.new.emitter c.if-is_empty.ensures
    (headed_emitted InstrOf.Handle body head e0 c.put.new.self e2 c.set.new.self c.place-head.ensures c.in_ok-put.ensures c.in_ok-statements.ensures
    (c.set.ensures ∙ ap (λ n. set_at head (InstrOf.Handle n) e2) c.since-length.ensures))
    e
    ∙ ap (λ ys. stated (handled (all (map statement_code ys)) (map handler_code hs)) None e0) c.as_slice-2.ensures
    ∙ ap (λ ys. stated (handled (all (map statement_code o.body)) (map handler_code ys)) None e0) c.as_slice-handlers.ensures)
