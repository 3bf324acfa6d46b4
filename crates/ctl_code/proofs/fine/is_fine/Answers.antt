use Rattle.std.proofs.Common.{◌≡◌, ◌↔◌, ℕ, Bool, IsTrue, sym, subst}
use Rattle.ctl_code.specs.declared.code.Code.{Code}
use Rattle.ctl_code.specs.declared.code.Instr.{Instr}
use Rattle.ctl_code.specs.Kinds.{stack_at}
use Rattle.ctl_code.specs.Valid.{IsFine}
use Rattle.ctl_code.proofs.fine.is_fine.Goals as goal

-- what is told of an instruction is told of the one at the place, which it is
told : (code : Code) (place : ℕ) (i j : Instr) (fine : Bool) → i ≡ j → IsTrue fine ↔ IsFine code place j (stack_at code.kinds place) → IsTrue fine ↔ IsFine code place i (stack_at code.kinds place)
told code place i j fine is h = subst (λ (k : Instr). IsTrue fine ↔ IsFine code place k (stack_at code.kinds place)) (sym is) h

pub returns-in-Start : goal.returns-in-Start
returns-in-Start c = told c.args.code.now c.args.place c.args.instr.now _ c.is_start_fine.result c.in-Start.is c.is_start_fine.ensures

pub returns-in-Enter : goal.returns-in-Enter
returns-in-Enter c = told c.args.code.now c.args.place c.args.instr.now _ c.is_enter_fine.result c.in-Enter.is c.is_enter_fine.ensures

pub returns-in-Call : goal.returns-in-Call
returns-in-Call c = told c.args.code.now c.args.place c.args.instr.now _ c.is_call_fine.result c.in-Call.is c.is_call_fine.ensures

pub returns-in-CopyBack : goal.returns-in-CopyBack
returns-in-CopyBack c = told c.args.code.now c.args.place c.args.instr.now _ c.is_copy_back_fine.result c.in-CopyBack.is c.is_copy_back_fine.ensures

pub returns-in-Reserve : goal.returns-in-Reserve
returns-in-Reserve c = told c.args.code.now c.args.place c.args.instr.now _ c.is_reserve_fine.result c.in-Reserve.is c.is_reserve_fine.ensures

pub returns-in-Discard : goal.returns-in-Discard
returns-in-Discard c = told c.args.code.now c.args.place c.args.instr.now _ c.is_discard_fine.result c.in-Discard.is c.is_discard_fine.ensures

pub returns-in-Evaluate : goal.returns-in-Evaluate
returns-in-Evaluate c = told c.args.code.now c.args.place c.args.instr.now _ c.is_evaluate_fine.result c.in-Evaluate.is c.is_evaluate_fine.ensures

pub returns-in-EvaluateRecord : goal.returns-in-EvaluateRecord
returns-in-EvaluateRecord c = told c.args.code.now c.args.place c.args.instr.now _ c.is_record_fine.result c.in-EvaluateRecord.is c.is_record_fine.ensures

pub returns-in-Transfer : goal.returns-in-Transfer
returns-in-Transfer c = told c.args.code.now c.args.place c.args.instr.now _ c.is_transfer_fine.result c.in-Transfer.is c.is_transfer_fine.ensures

pub returns-in-Return : goal.returns-in-Return
returns-in-Return c = told c.args.code.now c.args.place c.args.instr.now _ c.is_return_fine.result c.in-Return.is c.is_return_fine.ensures

pub returns-in-ReturnRecord : goal.returns-in-ReturnRecord
returns-in-ReturnRecord c = told c.args.code.now c.args.place c.args.instr.now _ c.gives_record.result c.in-ReturnRecord.is c.gives_record.ensures

pub returns-in-Handle : goal.returns-in-Handle
returns-in-Handle c = told c.args.code.now c.args.place c.args.instr.now _ c.is_handle_fine.result c.in-Handle.is c.is_handle_fine.ensures

pub returns-in-Catch : goal.returns-in-Catch
returns-in-Catch c = told c.args.code.now c.args.place c.args.instr.now _ c.is_catch_fine.result c.in-Catch.is c.is_catch_fine.ensures

pub returns-in-Declare : goal.returns-in-Declare
returns-in-Declare c = told c.args.code.now c.args.place c.args.instr.now _ c.is_declare_fine.result c.in-Declare.is c.is_declare_fine.ensures

pub returns-in-DeclareCopy : goal.returns-in-DeclareCopy
returns-in-DeclareCopy c = told c.args.code.now c.args.place c.args.instr.now _ c.is_copy_fine.result c.in-DeclareCopy.is c.is_copy_fine.ensures

pub returns-in-New : goal.returns-in-New
returns-in-New c = told c.args.code.now c.args.place c.args.instr.now _ c.is_new_fine.result c.in-New.is c.is_new_fine.ensures

pub returns-in-NewCopy : goal.returns-in-NewCopy
returns-in-NewCopy c = told c.args.code.now c.args.place c.args.instr.now _ c.is_new_copy_fine.result c.in-NewCopy.is c.is_new_copy_fine.ensures

pub returns-in-NewIn : goal.returns-in-NewIn
returns-in-NewIn c = told c.args.code.now c.args.place c.args.instr.now _ c.is_new_in_fine.result c.in-NewIn.is c.is_new_in_fine.ensures

pub returns-in-GiveValue : goal.returns-in-GiveValue
returns-in-GiveValue c = told c.args.code.now c.args.place c.args.instr.now _ c.is_given_fine.result c.in-GiveValue.is c.is_given_fine.ensures

pub returns-in-NewCopyIn : goal.returns-in-NewCopyIn
returns-in-NewCopyIn c = told c.args.code.now c.args.place c.args.instr.now _ c.is_new_copy_in_fine.result c.in-NewCopyIn.is c.is_new_copy_in_fine.ensures

pub returns-in-TakeBlock : goal.returns-in-TakeBlock
returns-in-TakeBlock c = told c.args.code.now c.args.place c.args.instr.now _ c.is_taking_fine.result c.in-TakeBlock.is c.is_taking_fine.ensures

pub returns-in-GiveBlock : goal.returns-in-GiveBlock
returns-in-GiveBlock c = told c.args.code.now c.args.place c.args.instr.now _ c.is_giving_fine.result c.in-GiveBlock.is c.is_giving_fine.ensures

pub returns-in-Free : goal.returns-in-Free
returns-in-Free c = told c.args.code.now c.args.place c.args.instr.now _ c.is_free_fine.result c.in-Free.is c.is_free_fine.ensures

pub returns-in-Dereference : goal.returns-in-Dereference
returns-in-Dereference c = told c.args.code.now c.args.place c.args.instr.now _ c.is_dereference_fine.result c.in-Dereference.is c.is_dereference_fine.ensures

pub returns-in-Locate : goal.returns-in-Locate
returns-in-Locate c = told c.args.code.now c.args.place c.args.instr.now _ c.is_locate_fine.result c.in-Locate.is c.is_locate_fine.ensures

pub returns-in-Store : goal.returns-in-Store
returns-in-Store c = told c.args.code.now c.args.place c.args.instr.now _ c.is_store_fine.result c.in-Store.is c.is_store_fine.ensures

pub returns-in-Abandon : goal.returns-in-Abandon
returns-in-Abandon c = told c.args.code.now c.args.place c.args.instr.now _ c.is_abandon_fine.result c.in-Abandon.is c.is_abandon_fine.ensures

pub returns-in-Unless : goal.returns-in-Unless
returns-in-Unless c = told c.args.code.now c.args.place c.args.instr.now _ c.is_unless_fine.result c.in-Unless.is c.is_unless_fine.ensures

pub returns-in-FreePart : goal.returns-in-FreePart
returns-in-FreePart c = told c.args.code.now c.args.place c.args.instr.now _ c.is_free_part_fine.result c.in-FreePart.is (c.is_free_part_fine.ensures c.in-FreePart.position)

pub returns-in-TakeBlockInto : goal.returns-in-TakeBlockInto
returns-in-TakeBlockInto c = told c.args.code.now c.args.place c.args.instr.now _ c.is_taking_into_fine.result c.in-TakeBlockInto.is (c.is_taking_into_fine.ensures c.in-TakeBlockInto.position)

pub returns-in-KeepPart : goal.returns-in-KeepPart
returns-in-KeepPart c = told c.args.code.now c.args.place c.args.instr.now _ c.is_keep_part_fine.result c.in-KeepPart.is (c.is_keep_part_fine.ensures c.in-KeepPart.position c.in-KeepPart.begins)

pub returns-in-CopyBackPart : goal.returns-in-CopyBackPart
returns-in-CopyBackPart c = told c.args.code.now c.args.place c.args.instr.now _ c.is_copy_back_part_fine.result c.in-CopyBackPart.is (c.is_copy_back_part_fine.ensures c.in-CopyBackPart.record c.in-CopyBackPart.position)

pub returns-in-Leave : goal.returns-in-Leave
returns-in-Leave c = told c.args.code.now c.args.place c.args.instr.now _ c.is_at_end.result c.in-Leave.is c.is_at_end.ensures

pub returns-in-DeclarePool : goal.returns-in-DeclarePool
returns-in-DeclarePool c = told c.args.code.now c.args.place c.args.instr.now _ c.is_pool_fine.result c.in-DeclarePool.is c.is_pool_fine.ensures

pub returns-in-Gather : goal.returns-in-Gather
returns-in-Gather c = told c.args.code.now c.args.place c.args.instr.now _ c.is_gather_fine.result c.in-Gather.is c.is_gather_fine.ensures

pub returns-in-Assign : goal.returns-in-Assign
returns-in-Assign c = told c.args.code.now c.args.place c.args.instr.now _ c.is_assign_fine.result c.in-Assign.is c.is_assign_fine.ensures

pub returns-in-Select : goal.returns-in-Select
returns-in-Select c = told c.args.code.now c.args.place c.args.instr.now _ c.selects.result c.in-Select.is c.selects.ensures
