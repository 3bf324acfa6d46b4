-- Statements, masters and handlers (5, 11). Each statement is a tick, and each construct that is left.
--
-- As with expressions: what a construct does is one function of what its parts do; `exec_step` and the like name it for each layer of a tree.
use Rattle.std.specs.Prelude.{ℕ, zero, suc, ◌+◌, List, [], ◌∷◌, ◌++◌, Option, Some, None, Bool, true, false, nat_eq, if◌then◌else◌, map, option_map, ℤ, pos, negsuc, ◌+ℤ◌, ◌-ℤ◌, replicate}
use Rattle.ctl_program.specs.declared.types.Ty.TheVariants.{Record}
use Rattle.ctl_program.specs.declared.types.Var.{Var}
use Rattle.ctl_program.specs.declared.operators.Operation.{Operation}
use Rattle.ctl_program.specs.declared.operators.Operation.TheVariants.{Initialize, Adjust, Finalize}
use Rattle.ctl_program.specs.declared.operators.Direction.{Direction}
use Rattle.ctl_program.specs.declared.operators.Direction.TheVariants.{Upward, Downward}
use Rattle.ctl_program.specs.declared.statement.Piece.{Piece}
use Rattle.ctl_program.specs.declared.statement.Choices.{Choices}
use Rattle.ctl_program.specs.declared.statement.Choices.TheVariants.{Others, Exceptions}
use Rattle.ctl_program.specs.declared.statement.Stmt.{Stmt, fold-Stmt}
use Rattle.ctl_program.specs.declared.statement.Stmt.TheOpen.{Stmt-F}
use Rattle.ctl_program.specs.declared.statement.Arm.{Arm, Arm-F, fold-Arm}
use Rattle.ctl_program.specs.declared.statement.Handler.{Handler, Handler-F, fold-Handler}
use Rattle.ctl_program.specs.declared.statement.Master.{Master, Master-F, fold-Master}
use Rattle.ctl_tree.specs.declared.event.Cause as CauseOf
use Rattle.ctl_tree.specs.declared.event.Event.TheVariants.{Print, Newline}
use Rattle.ctl_meaning.specs.World.{Slot, unset}
use Rattle.ctl_meaning.specs.Lists.{contains, last_of}
use Rattle.ctl_meaning.specs.Activations.{master_of}
use Rattle.ctl_meaning.specs.Changes.{set_value}
use Rattle.ctl_meaning.specs.Outcome.{completes_loop, raised_by, ByExit, ByReturn, Result, Goes, Leaves, Cut, Act, Done, given, ◌>>=◌, ◌>>◌, done, nothing, leave_by, raise, counted, ticked, then_always, spend, change, show, when, either, on_some}
use Rattle.ctl_meaning.specs.Numbers.{signed, cell_of, is_true, integer_image, boolean_image}
use Rattle.ctl_meaning.specs.Types.{Tables, Elementary, Composite, cells_of, has_controlled, operation, record_of}
use Rattle.ctl_meaning.specs.Names.{Tools, among, Found, InObject, on_variable, existing, scalar_of, read_found, write_found, object_of, same_found}
use Rattle.ctl_meaning.specs.Expressions.{no_actuals, with_formal, by_reference, call_with, Valued, Naming, Supplied, pass_each, eval, eval_name, supply}
use Rattle.ctl_meaning.specs.Finalization.{Spot, Every, finalize}
use Rattle.ctl_meaning.specs.Adjustment.{adjust}
use Rattle.ctl_meaning.specs.Storage.{library_allocate, library_deallocate, unchecked_deallocate_subpool}
use Rattle.ctl_meaning.specs.Allocation.{free}
use Rattle.ctl_meaning.specs.Masters.{in_master, Elaborating, elaborate_item, elaborate}

-- Calls (6.4) ----------------------------------------------------------------------------

unfoldable pub operation_named : Operation → Tables → ℕ → Option ℕ
operation_named Initialize k t = operation (λ x. x.initialize) k t
operation_named Adjust k t = operation (λ x. x.adjust) k t
operation_named Finalize k t = operation (λ x. x.finalize) k t

-- an explicit call of an operation of a class-wide object: by the object's own type (3.9.2)
unfoldable pub dispatch : Tools → List ℕ → Operation → Found → Act Done
dispatch k env op f =
    existing (object_of f) (λ o. on_some (operation_named op k.tables (record_of o.ty)) nothing (λ s. by_reference f >>= (λ x. call_with k env s (with_formal x no_actuals)) >> nothing))

-- Texts (A.10.7) ----------------------------------------------------------------------------

unfoldable pub literal : List ℕ → Valued
literal v k env = ticked (done v)

unfoldable pub integer_text : Valued → Valued
integer_text e k env = ticked (e k env >>= (λ v. done (integer_image (scalar_of v))))

unfoldable pub boolean_text : Valued → Valued
boolean_text e k env = ticked (e k env >>= (λ v. done (boolean_image (scalar_of v))))

abbrev pub eval_piece : Piece → Valued
eval_piece (Piece.Text v) = literal v
eval_piece (Piece.IntegerImage e) = integer_text (eval e)
eval_piece (Piece.BooleanImage e) = boolean_text (eval e)

-- each `&` is an expression node
unfoldable pub join_pieces : Tools → List ℕ → List Valued → List ℕ → Act (List ℕ)
join_pieces k env [] v = done v
join_pieces k env (p ∷ ps) v = ticked (p k env) >>= (λ u. join_pieces k env ps (v ++ u))

unfoldable pub eval_text : Tools → List ℕ → List Valued → Act (List ℕ)
eval_text k env [] = done []
eval_text k env (p ∷ ps) = p k env >>= join_pieces k env ps

-- Assignment (5.2, 7.6) -----------------------------------------------------------

unfoldable pub spot_of : Found → Spot
spot_of (InObject o offset path) = record { object = o; offset = offset; path = path }
spot_of _ = record { object = 0; offset = 0; path = [] }

-- the target is finalized, takes the value and is adjusted, by the type at its place: its operations are called among the masters of the
-- statement, where that type is seen
unfoldable pub overwrite : Tools → List ℕ → ℕ → Found → List ℕ → Act Done
overwrite k env t target v = on_variable target
    (when (has_controlled k.tables (Record t)) (finalize (among env k) CauseOf.TheVariants.Assign Every (spot_of target) t >> nothing)
    >> write_found target v
    >> adjust (among env k) None (spot_of target) (Record t))

-- the source's value is read; an object that is assigned to itself stays as it is (profile)
unfoldable pub assign_record : Tools → List ℕ → ℕ → Found → Found → Act Done
assign_record k env t target source = read_found (cells_of k.tables (Record t)) source >>= (λ v. either (same_found target source) nothing (overwrite k env t target v))

-- Loops (5.5) -----------------------------------------------------------------------------------

-- a construct that is left is a tick, whatever it gives
unfoldable pub leaving : Act Done → Act Done
leaving m = then_always m (λ r. ticked (given r))

-- whether another turn follows
unfoldable pub turned : Act Done → Result Bool → Act Done
turned again (Goes true) = again
turned again (Goes false) = nothing
turned again (Leaves y) = given (if completes_loop y then Goes tt else Leaves y)

unfoldable pub turns : ℕ → Act Bool → Act Done
turns zero turn c l w = Cut 0 c l
turns (suc n) turn c l w = then_always turn (turned (turns n turn)) c l w

-- each turn takes one from the clock, so there are no more than it has
unfoldable pub loop : Act Bool → Act Done
loop turn c l w = turns (suc c) turn c l w

unfoldable pub one_turn : Act Done → Act Bool
one_turn body = spend (ticked (body >> done true))

-- a condition that does not hold takes nothing from the clock
unfoldable pub while : Act (List ℕ) → Act Done → Act Bool
while test body = test >>= (λ v. either (is_true (scalar_of v)) (one_turn body) (done false))

unfoldable pub for_turns : ℕ → (ℤ → ℤ) → (ℤ → Act Done) → ℤ → Act Done
for_turns zero next body at = nothing
for_turns (suc n) next body at = then_always (one_turn (body at)) (turned (for_turns n next body (next at)))

unfoldable pub count_up : ℤ → ℕ
count_up (pos n) = n + 1
count_up (negsuc n) = 0

-- from the low bound up, or in reverse from the high one down
unfoldable pub for : Direction → (ℤ → Act Done) → ℤ → ℤ → Act Done
for Upward body low high = for_turns (count_up (high -ℤ low)) (λ z. z +ℤ pos 1) body low
for Downward body low high = for_turns (count_up (high -ℤ low)) (λ z. z -ℤ pos 1) body high

unfoldable pub set_loop : List ℕ → Var → ℤ → Act Done
set_loop env v z = change (set_value (master_of env v) v.slot (cell_of z))

-- Handlers (11.4) ---------------------------------------------------------------------------------

unfoldable pub handled : (ℕ → Act Done) → Result Done → Act Done
handled f (Goes a) = nothing
handled f (Leaves y) = on_some (raised_by y) (leave_by y) f

-- whether a handler with these choices handles an exception (11.4)
unfoldable pub does_handle : Choices → ℕ → Bool
does_handle Others e = true
does_handle (Exceptions es) e = contains e es

-- how many are looked at: as far as the one that is meant, or all of them
unfoldable pub looked_at : ℕ → List ℕ → ℕ
looked_at e [] = 0
looked_at e (x ∷ xs) = if nat_eq e x then 1 else 1 + looked_at e xs

-- `others` is looked at as one choice
unfoldable pub choices_looked_at : Choices → ℕ → ℕ
choices_looked_at Others e = 1
choices_looked_at (Exceptions es) e = looked_at e es

-- What the parts of a statement mean ---------------------------------------------------------------

-- statements are done where a display is seen, inside a handler of this exception
abbrev pub Doing : Type 0
Doing = Tools → List ℕ → ℕ → Act Done

-- an arm or a handler, before what is done where it does not apply: an arm inside a handler of this exception, a handler for it
abbrev pub Guarding : Type 0
Guarding = Tools → List ℕ → ℕ → Act Done → Act Done

-- a master: how many slots it has, and what is done in it
pub record Body : Type 0 where
  pub slots : ℕ
  pub inside : Doing

unfoldable pub do_each : Tools → List ℕ → ℕ → List Doing → Act Done
do_each k env caught [] = nothing
do_each k env caught (s ∷ rest) = s k env caught >> do_each k env caught rest

-- the first that applies, and else this
unfoldable pub do_first : Tools → List ℕ → ℕ → List Guarding → Act Done → Act Done
do_first k env e [] others = others
do_first k env e (x ∷ rest) others = x k env e (do_first k env e rest others)

-- the first handler with a choice that is meant; else the exception goes on
unfoldable pub handle : Tools → List ℕ → List Guarding → ℕ → Act Done
handle k env handlers e = do_first k env e handlers (raise e)

unfoldable pub scalar : Act (List ℕ) → (ℕ → Act Done) → Act Done
scalar m f = m >>= (λ v. f (scalar_of v))

unfoldable pub unset_slots : Body → List Slot
unset_slots b = replicate b.slots unset

-- Each construct ---------------------------------------------------------------------------------

unfoldable pub null : Doing
null k env caught = ticked nothing

unfoldable pub assign : Naming → Valued → Doing
assign n e k env caught = ticked (n Elementary k env >>= (λ f. e k env >>= write_found f))

unfoldable pub assign_part : Naming → ℕ → Supplied → Doing
assign_part n t a k env caught = ticked (n Composite k env >>= (λ f. a.source k env >>= assign_record k env t f))

unfoldable pub call : ℕ → List Supplied → Doing
call f actuals k env caught = ticked (pass_each k env actuals no_actuals >>= call_with k env f >> nothing)

unfoldable pub call_nothing : Naming → Doing
call_nothing n k env caught = ticked (n Composite k env >> nothing)

unfoldable pub call_dispatching : Operation → Naming → Doing
call_dispatching op n k env caught = ticked (n Composite k env >>= dispatch k env op)

unfoldable pub call_allocate : Naming → Naming → Valued → Valued → Doing
call_allocate p a size alignment k env caught =
    ticked (p Composite k env >>= (λ f. a Elementary k env >>= (λ g. scalar (size k env) (λ s. alignment k env >> library_allocate (object_of f) s >>= (λ x. write_found g (x ∷ []))))))

unfoldable pub call_deallocate : Naming → Valued → Valued → Valued → Doing
call_deallocate p a size alignment k env caught =
    ticked (p Composite k env >>= (λ f. scalar (a k env) (λ x. size k env >> alignment k env >> library_deallocate (object_of f) x)))

unfoldable pub put : List Valued → Doing
put pieces k env caught = ticked (eval_text k env pieces >>= (λ v. show (Print v)))

unfoldable pub put_line : List Valued → Doing
put_line pieces k env caught = ticked (eval_text k env pieces >>= (λ v. show (Print v) >> show Newline))

unfoldable pub new_line : Doing
new_line k env caught = ticked (show Newline)

unfoldable pub exit : Option Valued → Doing
exit None k env caught = ticked (leave_by ByExit)
exit (Some e) k env caught = ticked (scalar (e k env) (λ b. either (is_true b) (leave_by ByExit) nothing))

unfoldable pub return : Option Valued → Doing
return None k env caught = ticked (leave_by (ByReturn []))
return (Some e) k env caught = ticked (e k env >>= (λ v. leave_by (ByReturn v)))

unfoldable pub raise_new : ℕ → Doing
raise_new e k env caught = ticked (raise e)

unfoldable pub raise_again : Doing
raise_again k env caught = ticked (raise caught)

unfoldable pub choose_arm : List Guarding → List Doing → Doing
choose_arm arms others k env caught = ticked (leaving (do_first k env caught arms (do_each k env caught others)))

unfoldable pub loop_plainly : List Doing → Doing
loop_plainly body k env caught = ticked (leaving (loop (one_turn (do_each k env caught body))))

unfoldable pub loop_while : Valued → List Doing → Doing
loop_while e body k env caught = ticked (leaving (loop (while (e k env) (do_each k env caught body))))

unfoldable pub loop_for : Var → Direction → Valued → Valued → List Doing → Doing
loop_for v way low high body k env caught =
    ticked (leaving (scalar (low k env) (λ a. scalar (high k env) (λ b. for way (λ z. set_loop env v z >> do_each k env caught body) (signed a) (signed b)))))

unfoldable pub do_block : Body → Doing
do_block b k env caught = ticked (in_master k env (unset_slots b) (λ inner. b.inside k inner caught) >>= (λ x. given x.result))

unfoldable pub free_object_of : ℕ → Naming → Doing
free_object_of access n k env caught = ticked (n Elementary k env >>= free k env access)

unfoldable pub release_subpool : Naming → Doing
release_subpool n k env caught = ticked (n Elementary k env >>= unchecked_deallocate_subpool k)

-- the statements of an arm, if its condition holds
unfoldable pub guard : Valued → List Doing → Guarding
guard test body k env caught others = scalar (test k env) (λ b. either (is_true b) (do_each k env caught body) others)

-- the statements of a handler, if it handles the exception
unfoldable pub handler : Choices → List Doing → Guarding
handler choices body k env e others = counted (choices_looked_at choices e) (either (does_handle choices e) (do_each k env e body) others)

-- a part, its statements, and its handlers; an exception of the part is not handled here (11.4)
unfoldable pub within : List Elaborating → List Doing → List Guarding → Doing
within items body handlers k env caught = elaborate k env (last_of env) items >> then_always (do_each k env caught body) (handled (handle k env handlers))

-- Layers of a tree ---------------------------------------------------------------------------------

abbrev pub exec_step : Stmt-F Doing Guarding Guarding Body → Doing
exec_step Stmt-F.Null = null
exec_step (Stmt-F.Assign n e) = assign (eval_name n) (eval e)
exec_step (Stmt-F.AssignRecord n t a) = assign_part (eval_name n) t (supply a)
exec_step (Stmt-F.Call f actuals) = call f (map supply actuals)
exec_step (Stmt-F.Nothing n) = call_nothing (eval_name n)
exec_step (Stmt-F.Dispatch op n) = call_dispatching op (eval_name n)
exec_step (Stmt-F.LibraryAllocate p a size alignment) = call_allocate (eval_name p) (eval_name a) (eval size) (eval alignment)
exec_step (Stmt-F.LibraryDeallocate p a size alignment) = call_deallocate (eval_name p) (eval a) (eval size) (eval alignment)
exec_step (Stmt-F.Put pieces) = put (map eval_piece pieces)
exec_step (Stmt-F.PutLine pieces) = put_line (map eval_piece pieces)
exec_step Stmt-F.NewLine = new_line
exec_step (Stmt-F.Exit test) = exit (option_map eval test)
exec_step (Stmt-F.Return value) = return (option_map eval value)
exec_step (Stmt-F.Raise e) = raise_new e
exec_step Stmt-F.RaiseAgain = raise_again
exec_step (Stmt-F.If arms others) = choose_arm arms others
exec_step (Stmt-F.Loop body) = loop_plainly body
exec_step (Stmt-F.While test body) = loop_while (eval test) body
exec_step (Stmt-F.For v way low high body) = loop_for v way (eval low) (eval high) body
exec_step (Stmt-F.Block b) = do_block b
exec_step (Stmt-F.Free access n) = free_object_of access (eval_name n)
exec_step (Stmt-F.Release n) = release_subpool (eval_name n)

abbrev pub arm_step : Arm-F Doing Guarding Guarding Body → Guarding
arm_step a = guard (eval a.test) a.body

abbrev pub handler_step : Handler-F Doing Guarding Guarding Body → Guarding
handler_step h = handler h.choices h.body

abbrev pub master_step : Master-F Doing Guarding Guarding Body → Body
master_step m = record { slots = m.slots; inside = within (map elaborate_item m.items) m.body m.handlers }

-- Whole trees --------------------------------------------------------------------------------------

unfoldable pub exec : Stmt → Doing
exec = fold-Stmt Doing Guarding Guarding Body exec_step arm_step handler_step master_step

unfoldable pub arm_of : Arm → Guarding
arm_of = fold-Arm Doing Guarding Guarding Body exec_step arm_step handler_step master_step

unfoldable pub handler_of : Handler → Guarding
handler_of = fold-Handler Doing Guarding Guarding Body exec_step arm_step handler_step master_step

unfoldable pub body_of : Master → Body
body_of = fold-Master Doing Guarding Guarding Body exec_step arm_step handler_step master_step

-- everything here, opened at once
unfoldable pub opened_statements : Unit {0}
unfolding operation_named dispatch literal integer_text boolean_text join_pieces eval_text spot_of overwrite assign_record leaving turned turns loop one_turn while for_turns count_up for set_loop handled does_handle looked_at choices_looked_at do_each do_first handle scalar unset_slots null assign assign_part call call_nothing call_dispatching call_allocate call_deallocate put put_line new_line exit return raise_new raise_again choose_arm loop_plainly loop_while loop_for do_block free_object_of release_subpool guard handler within exec arm_of handler_of body_of
opened_statements = tt
