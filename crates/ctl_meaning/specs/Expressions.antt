-- Expressions, names and actual parameters, from left to right (4.1, 4.4, 4.5, 6.2, 6.4.1). Each expression node, each part of a name and
-- each parameter is a tick.
--
-- What each of them means is one function of what its parts mean: `eval_step` and the like have a line for each construct, in which the
-- parts stand as acts already; `eval` and the like, below them, take a whole tree by these steps.
use Rattle.std.specs.Prelude.{ℕ, List, [], ◌∷◌, ◌++◌, length, Option, Some, None, Bool, not, slice_get, replicate}
use Rattle.ctl_program.specs.declared.operators.Shortcut.{Shortcut}
use Rattle.ctl_program.specs.declared.operators.Shortcut.TheVariants.{AndThen, OrElse}
use Rattle.ctl_program.specs.declared.operators.CopyStart as CopyStartOf
use Rattle.ctl_program.specs.declared.operators.CopyStart.{CopyStart}
use Rattle.ctl_program.specs.declared.types.Ty.{Ty}
use Rattle.ctl_program.specs.declared.types.Var.{Var}
use Rattle.ctl_program.specs.declared.expression.Expr.{Expr, fold-Expr}
use Rattle.ctl_program.specs.declared.expression.Name.{Name, fold-Name}
use Rattle.ctl_program.specs.declared.expression.Actual.{Actual, fold-Actual}
use Rattle.ctl_program.specs.declared.expression.Actual.TheOpen.{Actual-F, Expr-F, Name-F}
use Rattle.ctl_program.specs.declared.expression.Operand.{Operand, Operand-F, fold-Operand}
use Rattle.ctl_meaning.specs.World.{Slot, Binds, Copies, holding, unset, valued}
use Rattle.ctl_meaning.specs.Lists.{item_or}
use Rattle.ctl_meaning.specs.Outcome.{Act, Done, ◌>>=◌, ◌>>◌, done, nothing, ticked, spend, look, either}
use Rattle.ctl_meaning.specs.Numbers.{unary, binary, converted, is_true}
use Rattle.ctl_meaning.specs.Changes.{slot_at}
use Rattle.ctl_meaning.specs.Types.{Category, Composite, category_of, cells_of, Elementary}
use Rattle.ctl_meaning.specs.Names.{OfSubprogram, OfAllocator, Returned, Tools, Found, InObject, InVariable, Alone, scalar_of, on_variable, read_found, write_found, find_var, object_of, walk, begins_as, or_constraint_error}
use Rattle.ctl_meaning.specs.Marks.{subpool_function, discriminant}

-- Parameters (6.2, 6.4.1) --------------------------------------------------------

-- what a formal's slot holds, and where its copy goes back to
pub record Formal : Type 0 where
  pub slot : Slot
  pub back : Option Found

-- the slots of the formals, and where copies go back to
pub record Passed : Type 0 where
  pub slots : List Slot
  pub back : List (ℕ × Found)

unfoldable pub no_actuals : Passed
no_actuals = record { slots = []; back = [] }

unfoldable pub going_back : ℕ → Option Found → List (ℕ × Found)
going_back n None = []
going_back n (Some f) = (n, f) ∷ []

-- a further parameter
unfoldable pub with_formal : Formal → Passed → Passed
with_formal x p = record { slots = p.slots ++ x.slot ∷ []; back = p.back ++ going_back (length p.slots) x.back }

-- a record that an object holds is passed by reference, and any other one as a copy
unfoldable pub bound : Found → Act Slot
bound (InObject o offset path) = done (holding (Binds o offset path))
bound (InVariable m i) = look (λ w. done (valued (slot_at m i w).value))
bound (Alone v) = done (holding (Copies v))

unfoldable pub by_reference : Found → Act Formal
by_reference f = bound f >>= (λ x. done (record { slot = x; back = None }))

-- an elementary value is that of the formal from the beginning, and a record that no object holds is its copy (6.2)
unfoldable pub by_value : Category → Found → Act Formal
by_value Elementary f = read_found 1 f >>= (λ v. done (record { slot = valued (scalar_of v); back = None }))
by_value Composite f = by_reference f

-- an `out` copy of an access type or handle, and each `in out` copy, begins with the actual's value (6.4.1)
unfoldable pub copied : ℕ → CopyStart → Found → Act (List ℕ)
copied n CopyStartOf.TheVariants.Actual f = read_found n f
copied n CopyStartOf.TheVariants.Beginning f = done (replicate n 0)

unfoldable pub by_copy : ℕ → CopyStart → Found → Act Formal
by_copy n begins f = on_variable f (copied n begins f >>= (λ v. done (record { slot = valued (scalar_of v); back = Some f })))

-- on a normal return the copies go back, from left to right (6.4.1)
unfoldable pub copy_back : List Slot → List (ℕ × Found) → Act Done
copy_back slots [] = nothing
copy_back slots (b ∷ bs) = write_found b.1 ((item_or unset (slice_get slots b.0)).value ∷ []) >> copy_back slots bs

unfoldable pub call_with : Tools → List ℕ → ℕ → Passed → Act Returned
call_with k env f p = k.call (OfSubprogram f p.slots) env >>= (λ r. copy_back r.slots p.back >> done r)

-- What the parts of an expression mean ----------------------------------------------

-- an expression gives the cells of its value, where a display is seen
abbrev pub Valued : Type 0
Valued = Tools → List ℕ → Act (List ℕ)

-- a name finds what it denotes, which is of some category
abbrev pub Naming : Type 0
Naming = Category → Tools → List ℕ → Act Found

-- an operator with its right operand, behind the value of the left one
abbrev pub Applied : Type 0
Applied = Tools → List ℕ → List ℕ → Act (List ℕ)

-- an actual: what it denotes, which is the source of a record assignment too, and how the formal takes it
pub record Supplied : Type 0 where
  pub source : Tools → List ℕ → Act Found
  pub taken : Tools → Found → Act Formal

unfoldable pub pass_each : Tools → List ℕ → List Supplied → Passed → Act Passed
pass_each k env [] p = done p
pass_each k env (a ∷ rest) p = ticked (a.source k env >>= a.taken k) >>= (λ x. pass_each k env rest (with_formal x p))

-- operators of one precedence, each applied to what stands before it
unfoldable pub apply_each : Tools → List ℕ → List Applied → List ℕ → Act (List ℕ)
apply_each k env [] v = done v
apply_each k env (o ∷ rest) v = o k env v >>= apply_each k env rest

-- whether the value so far decides `and then` or `or else` (4.5.1)
unfoldable pub decides : Shortcut → List ℕ → Bool
decides AndThen v = not (is_true (scalar_of v))
decides OrElse v = is_true (scalar_of v)

-- an operand that is not needed is not evaluated
unfoldable pub join_each : Tools → List ℕ → Shortcut → List Valued → List ℕ → Act (List ℕ)
join_each k env op [] v = done v
join_each k env op (e ∷ rest) v = ticked (either (decides op v) (done v) (e k env)) >>= join_each k env op rest

unfoldable pub var_part : Category → List ℕ → Var → Act Found
var_part c env v = ticked (find_var c env v)

-- the cells of a value that may be left out
unfoldable pub if_given : {A : Type 0} → (A → Act (List ℕ)) → Option A → Act (Option (List ℕ))
if_given f None = done None
if_given f (Some e) = f e >>= (λ v. done (Some v))

-- the handle and the value of an allocator
unfoldable pub operands : Tools → List ℕ → Option Valued → Option Valued → Act (Option (List ℕ) × Option (List ℕ))
operands k env handle value = if_given (λ e. e k env) handle >>= (λ h. if_given (λ e. e k env) value >>= (λ v. done (h, v)))

-- an allocator takes one from the clock, first of all
unfoldable pub allocator : Tools → List ℕ → ℕ → Ty → Act (Option (List ℕ) × Option (List ℕ)) → Act Returned
allocator k env access ty m = spend (m >>= (λ p. k.call (OfAllocator access ty p.0 p.1) env))

-- Each construct ---------------------------------------------------------------------

unfoldable pub eval_step : Expr-F Supplied Valued Naming Applied → Valued
eval_step (Expr-F.Constant n) k env = ticked (done (n ∷ []))
eval_step (Expr-F.Read name ty) k env = ticked (name (category_of ty) k env >>= read_found (cells_of k.tables ty))
eval_step (Expr-F.Call f actuals ty) k env = ticked (pass_each k env actuals no_actuals >>= call_with k env f >>= (λ r. read_found (cells_of k.tables ty) (Alone r.cells)))
eval_step (Expr-F.Unary op ty e) k env = ticked (e k env >>= (λ v. or_constraint_error (unary op ty (scalar_of v))))
eval_step (Expr-F.Chain e first rest) k env = e k env >>= apply_each k env (first ∷ rest)
eval_step (Expr-F.Short op e first rest) k env = e k env >>= join_each k env op (first ∷ rest)
eval_step (Expr-F.Convert ty e) k env = ticked (e k env >>= (λ v. or_constraint_error (converted ty (scalar_of v))))
eval_step (Expr-F.Access v) k env = ticked (var_part Composite env v >>= (λ f. done (object_of f ∷ [])))
eval_step (Expr-F.New access ty handle value) k env = ticked (allocator k env access ty (operands k env handle value) >>= (λ r. done r.cells))
eval_step (Expr-F.Subpool which name) k env = ticked (name Composite k env >>= (λ f. subpool_function which (object_of f)))
eval_step (Expr-F.Discriminant name n) k env = ticked (name Composite k env >>= (λ f. discriminant (object_of f) n))

unfoldable pub operand_step : Operand-F Supplied Valued Naming Applied → Applied
operand_step o k env v = ticked (o.right k env >>= (λ u. or_constraint_error (binary o.op o.ty (scalar_of v) (scalar_of u))))

-- a variable, or the value of a function call or of a converted access value; and then the steps
unfoldable pub name_step : Name-F Supplied Valued Naming Applied → Naming
name_step (Name-F.Variable v steps) c k env = var_part (begins_as steps c) env v >>= walk k steps
name_step (Name-F.Given e steps) c k env = e k env >>= (λ v. done (Alone v)) >>= walk k steps

-- an actual that is a name is an expression node too
unfoldable pub actual_step : Actual-F Supplied Valued Naming Applied → Supplied
actual_step (Actual-F.ByValue e ty) = record { source = λ k env. e k env >>= (λ v. done (Alone v)); taken = λ k. by_value (category_of ty) }
actual_step (Actual-F.Part name ty) = record { source = λ k env. ticked (name Composite k env); taken = λ k. by_reference }
actual_step (Actual-F.Copied name ty begins) = record { source = λ k env. ticked (name (category_of ty) k env); taken = λ k. by_copy (cells_of k.tables ty) begins }

-- Whole trees -----------------------------------------------------------------------

unfoldable pub eval : Expr → Valued
eval = fold-Expr Supplied Valued Naming Applied actual_step eval_step name_step operand_step

unfoldable pub eval_name : Name → Naming
eval_name = fold-Name Supplied Valued Naming Applied actual_step eval_step name_step operand_step

unfoldable pub supply : Actual → Supplied
supply = fold-Actual Supplied Valued Naming Applied actual_step eval_step name_step operand_step

unfoldable pub apply : Operand → Applied
apply = fold-Operand Supplied Valued Naming Applied actual_step eval_step name_step operand_step

-- everything here, opened at once
unfoldable pub opened_expressions : Unit {0}
unfolding no_actuals going_back with_formal bound by_reference by_value copied by_copy copy_back call_with pass_each apply_each decides join_each var_part if_given operands allocator eval_step operand_step name_step actual_step eval eval_name supply apply
opened_expressions = tt
