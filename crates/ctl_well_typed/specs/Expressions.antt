-- When expressions, names and actual parameters are well typed inside these masters (4.1, 4.4 to 4.8, 6.4.1).
use Rattle.std.specs.Prelude.{◌≡◌, ℕ, true, List, [], ◌∷◌, slice_get, Option, Some, None}
use Rattle.ctl_program.specs.declared.types.Ty.{Ty}
use Rattle.ctl_program.specs.declared.types.Ty.TheVariants as ty
use Rattle.ctl_program.specs.declared.types.Root.{Root}
use Rattle.ctl_program.specs.declared.types.Root.TheVariants as root
use Rattle.ctl_program.specs.declared.types.Var.{Var}
use Rattle.ctl_program.specs.declared.types.AccessType.{AccessType}
use Rattle.ctl_program.specs.declared.expression.Expr.{Expr}
use Rattle.ctl_program.specs.declared.expression.Expr.TheVariants as e
use Rattle.ctl_program.specs.declared.expression.Operand.{Operand, roll-Operand}
use Rattle.ctl_program.specs.declared.expression.Name.{Name}
use Rattle.ctl_program.specs.declared.expression.Name.TheVariants as n
use Rattle.ctl_program.specs.declared.expression.Actual.{Actual}
use Rattle.ctl_program.specs.declared.expression.Actual.TheVariants as actual
use Rattle.ctl_program.specs.declared.expression.Step.{Step}
use Rattle.ctl_program.specs.declared.operators.UnaryOp.{UnaryOp}
use Rattle.ctl_program.specs.declared.operators.BinaryOp.{BinaryOp}
use Rattle.ctl_program.specs.declared.operators.Shortcut.{Shortcut}
use Rattle.ctl_program.specs.declared.operators.SubpoolFunction.{SubpoolFunction}
use Rattle.ctl_well_typed.specs.Setting.{Passing, In, Formal, Holding, Declared, Stands, Frames, Names, Signature, Setting, HasAccess, InView, Callable}
use Rattle.ctl_well_typed.specs.Types.{is_number, is_scalar, IsCell, Covers, HasRoot, HasDiscriminant, HasSubpools, Walks, Takes, Joins, copy_of, is_written}

-- what stands for no object: a value of one cell, or the result of a call (4.1, 6.2)
pub data IsValue : Expr → Ty → Type 0 where
  of_one_cell : {x : Expr} {t : Ty} → is_scalar t ≡ true → IsValue x t
  of_call : (s : ℕ) (actuals : List Actual) (t : Ty) → IsValue (e.Call s actuals t) t

mutual
  -- an expression, and its type
  pub data Typed (k : Setting) (env : Frames) : Expr → Ty → Type 0 where
    constant : {cell : ℕ} {t : Ty} → is_scalar t ≡ true → IsCell t cell → InView k env t → Typed k env (e.Constant cell) t
    read : {x : Name} {t : Ty} → Denotes k env x t → Typed k env (e.Read x t) t
    call : {s : ℕ} {is : Signature} {actuals : List Actual} {t : Ty} → Callable k env s is → is.result ≡ Some t → FitEach k env is.formals actuals → Typed k env (e.Call s actuals t) t
    unary : {o : UnaryOp} {x : Expr} {t : Ty} → Takes o t → Typed k env x t → Typed k env (e.Unary o t x) t
    chain : {x : Expr} {o : Operand} {more : List Operand} {s t : Ty} → Typed k env x s → Chains k env s (o ∷ more) t → Typed k env (e.Chain x o more) t
    short : {form : Shortcut} {x y : Expr} {more : List Expr} → Typed k env x ty.Boolean → Typed k env y ty.Boolean → Truths k env more → Typed k env (e.Short form x y more) ty.Boolean
    convert : {x : Expr} {s t : Ty} → is_number t ≡ true → is_number s ≡ true → Typed k env x s → Typed k env (e.Convert t x) t
    -- access values of one designated type are converted without a sign in the program (4.6)
    as_access : {x : Expr} {a b : ℕ} {from to : AccessType} → slice_get k.accesses a ≡ Some from → slice_get k.accesses b ≡ Some to → from.designated ≡ to.designated → Typed k env x (ty.Access a) → Typed k env x (ty.Access b)
    access : {v : Var} {t a : ℕ} {x : AccessType} → Names env v (Declared (ty.Record t)) → slice_get k.accesses a ≡ Some x → x.designated ≡ ty.Record t → Typed k env (e.Access v) (ty.Access a)
    allocate : {a : ℕ} {t : Ty} {handle value : Option Expr} → (to : HasAccess k env a) → to.is.designated ≡ t → InView k to.home t → Handled k env to.home to.is handle → Perhaps k env value t → Typed k env (e.New a t handle value) (ty.Access a)
    subpool : {which : SubpoolFunction} {x : Name} {t : ℕ} {s : Ty} → Covers k (ty.Record t) s → Denotes k env x s → HasRoot k t root.MarkPool → Typed k env (e.Subpool which x) ty.Handle
    discriminant : {x : Name} {t i : ℕ} {r : Root} → Denotes k env x (ty.Record t) → HasRoot k t r → HasDiscriminant r i → Typed k env (e.Discriminant x i) ty.Count

  -- an expression that may be left out
  pub data Perhaps (k : Setting) (env : Frames) : Option Expr → Ty → Type 0 where
    left_out : {t : Ty} → Perhaps k env None t
    given : {x : Expr} {t : Ty} → Typed k env x t → Perhaps k env (Some x) t

  -- a handle stands where the objects of the access type stand in subpools; without one the object stands where its pool puts it (4.8, 13.11.4)
  pub data Handled (k : Setting) (env : Frames) : Frames → AccessType → Option Expr → Type 0 where
    by_pool : {home : Frames} {to : AccessType} → Handled k env home to None
    in_subpool : {home : Frames} {to : AccessType} {x : Expr} → HasSubpools k home to.pool → Typed k env x ty.Handle → Handled k env home to (Some x)

  -- operands of `and then` or `or else`
  pub data Truths (k : Setting) (env : Frames) : List Expr → Type 0 where
    no_more_truths : Truths k env []
    one_more_truth : {x : Expr} {more : List Expr} → Typed k env x ty.Boolean → Truths k env more → Truths k env (x ∷ more)

  -- operators with their right operands: from the type of what stands before them to that of the whole
  pub data Chains (k : Setting) (env : Frames) : Ty → List Operand → Ty → Type 0 where
    ended : {t : Ty} → Chains k env t [] t
    behind : {o : BinaryOp} {x : Expr} {more : List Operand} {s t u : Ty} → Joins o s t → Typed k env x s → Chains k env t more u → Chains k env s (roll-Operand (record { op = o; ty = t; right = x }) ∷ more) u

  -- a name, and the type of what it denotes
  pub data Denotes (k : Setting) (env : Frames) : Name → Ty → Type 0 where
    variable : {v : Var} {h : Holding} {steps : List Step} {s t : Ty} → Names env v h → Stands h s → Walks k s steps t → Denotes k env (n.Variable v steps) t
    value : {x : Expr} {steps : List Step} {s t : Ty} → Typed k env x s → Walks k s steps t → Denotes k env (n.Given x steps) t

  -- an actual for a formal (6.4.1): a value, a record that a name denotes, or a variable that is copied
  pub data Fits (k : Setting) (env : Frames) : Formal → Actual → Type 0 where
    by_value : {x : Expr} {s t : Ty} → Covers k t s → IsValue x s → Typed k env x s → Fits k env (record { passing = In; ty = t }) (actual.ByValue x t)
    by_reference : {x : Name} {p : Passing} {u : ℕ} {s t : Ty} → Covers k (ty.Record u) s → Covers k t s → Denotes k env x s → Fits k env (record { passing = p; ty = ty.Record u }) (actual.Part x t)
    by_copy : {x : Name} {p : Passing} {t : Ty} → is_written p ≡ true → is_scalar t ≡ true → Denotes k env x t → Fits k env (record { passing = p; ty = t }) (actual.Copied x t (copy_of p t))

  -- as many actuals as formals, each for its own
  pub data FitEach (k : Setting) (env : Frames) : List Formal → List Actual → Type 0 where
    no_more_formals : FitEach k env [] []
    one_more_formal : {f : Formal} {a : Actual} {fs : List Formal} {more : List Actual} → Fits k env f a → FitEach k env fs more → FitEach k env (f ∷ fs) (a ∷ more)

-- a name of an object of this type, or of a descendant
pub data Views (k : Setting) (env : Frames) : Name → Ty → Type 0 where
  view : {x : Name} {s t : Ty} → Covers k t s → Denotes k env x s → Views k env x t
