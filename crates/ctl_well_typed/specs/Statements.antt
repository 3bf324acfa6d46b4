-- When statements, declarative parts and masters are well typed inside these masters (3.11, 5, 6.3, 11).
use Rattle.std.specs.Prelude.{◌≡◌, ◌<◌, ℕ, Bool, true, false, List, [], ◌∷◌, ◌++◌, length, Option, Some, None}
use Rattle.ctl_program.specs.declared.types.Ty.{Ty}
use Rattle.ctl_program.specs.declared.types.Ty.TheVariants as ty
use Rattle.ctl_program.specs.declared.types.Root.{Root}
use Rattle.ctl_program.specs.declared.types.Root.TheVariants as root
use Rattle.ctl_program.specs.declared.expression.Expr.{Expr}
use Rattle.ctl_program.specs.declared.expression.Name.{Name}
use Rattle.ctl_program.specs.declared.expression.Actual.{Actual}
use Rattle.ctl_program.specs.declared.operators.Direction.{Direction}
use Rattle.ctl_program.specs.declared.operators.Operation.{Operation}
use Rattle.ctl_program.specs.declared.statement.Arm.{Arm, roll-Arm}
use Rattle.ctl_program.specs.declared.statement.Association.{Association}
use Rattle.ctl_program.specs.declared.statement.Choices.{Choices}
use Rattle.ctl_program.specs.declared.statement.Choices.TheVariants as choices
use Rattle.ctl_program.specs.declared.statement.Handler.{Handler, roll-Handler}
use Rattle.ctl_program.specs.declared.statement.Item.{Item}
use Rattle.ctl_program.specs.declared.statement.Item.TheVariants as item
use Rattle.ctl_program.specs.declared.statement.Master.{Master, roll-Master}
use Rattle.ctl_program.specs.declared.statement.Piece.{Piece}
use Rattle.ctl_program.specs.declared.statement.Piece.TheVariants as piece
use Rattle.ctl_program.specs.declared.statement.Stmt.{Stmt}
use Rattle.ctl_program.specs.declared.statement.Stmt.TheVariants as stmt
use Rattle.ctl_well_typed.specs.Setting.{In, Holding, Declared, LoopParameter, Collection, Frame, Frames, Names, Signature, Setting, HasAccess, InView, Callable}
use Rattle.ctl_well_typed.specs.Types.{is_scalar, HasRoot, HasDiscriminant}
use Rattle.ctl_well_typed.specs.Expressions.{Typed, Perhaps, Denotes, Fits, FitEach, Views}

-- What stands around a statement -----------------------------------------------------------

-- whether a loop or a handler stands around in the same body (5.7, 11.3), and what a return of the body gives (6.5)
pub record Around : Type 0 where
  pub in_loop : Bool
  pub in_handler : Bool
  pub gives : Option Ty

abbrev pub inside_loop : Around → Around
inside_loop a = record a { in_loop = true }

abbrev pub inside_handler : Around → Around
inside_handler a = record a { in_handler = true }

-- What is put (A.10.7) ------------------------------------------------------------------------

pub data Puts (k : Setting) (env : Frames) : List Piece → Type 0 where
  no_more_pieces : Puts k env []
  literal : {s : List ℕ} {more : List Piece} → Puts k env more → Puts k env (piece.Text s ∷ more)
  integer : {x : Expr} {more : List Piece} → Typed k env x ty.Integer → Puts k env more → Puts k env (piece.IntegerImage x ∷ more)
  boolean : {x : Expr} {more : List Piece} → Typed k env x ty.Boolean → Puts k env more → Puts k env (piece.BooleanImage x ∷ more)

-- Items (3.11) -----------------------------------------------------------------------------------

-- the slot of this number in the innermost master is for this
pub data Fills (env : Frames) : ℕ → Holding → Type 0 where
  fills : {number : ℕ} {h : Holding} → Names env (record { level = length env; slot = number }) h → Fills env number h

-- access types whose collections are made here (7.6.1)
pub data Gathers (k : Setting) (env : Frames) : List ℕ → Type 0 where
  no_more_collections : Gathers k env []
  one_more_collection : {a : ℕ} {more : List ℕ} → (of : HasAccess k env a) → of.is.collection.level ≡ length env → Names env of.is.collection (Collection a) → Gathers k env more → Gathers k env (a ∷ more)

-- each discriminant has a value of type Storage_Count (3.7.1, 13.7.1)
pub data Given (k : Setting) (env : Frames) (r : Root) : List Association → Type 0 where
  no_more_values : Given k env r []
  one_more_value : {i : ℕ} {x : Expr} {more : List Association} → HasDiscriminant r i → Typed k env x ty.Count → Given k env r more → Given k env r (record { position = i; value = x } ∷ more)

-- no value is given at this position
abbrev pub NoneAt : ℕ → List Association → Type 0
NoneAt i [] = Unit {0}
NoneAt i (a ∷ more) = (a.position ≡ i → ⊥) × NoneAt i more

-- no discriminant is given twice (3.7.1)
abbrev pub EachOnce : List Association → Type 0
EachOnce [] = Unit {0}
EachOnce (a ∷ more) = NoneAt a.position more × EachOnce more

-- how many discriminants a pool type has (13.11, profile)
abbrev pub discriminants : Root → ℕ
discriminants root.BlockPool = 2
discriminants root.MarkPool = 1
discriminants r = 0

abbrev pub is_pool : Root → Bool
is_pool root.BlockPool = true
is_pool root.MarkPool = true
is_pool r = false

pub data Elaborated (k : Setting) (env : Frames) : Item → Type 0 where
  collections : {a : ℕ} {as' : List ℕ} → Gathers k env (a ∷ as') → Elaborated k env (item.Collections (a ∷ as'))
  object : {number : ℕ} {t : Ty} {value : Option Expr} → Fills env number (Declared t) → InView k env t → Perhaps k env value t → Elaborated k env (item.Object number t value)
  pool : {number t : ℕ} {r : Root} {ds : List Association} → Fills env number (Declared (ty.Record t)) → InView k env (ty.Record t) → HasRoot k t r → is_pool r ≡ true → length ds ≡ discriminants r → EachOnce ds → Given k env r ds → Elaborated k env (item.Pool number t ds)
  silent : Elaborated k env item.Silent

pub data ElaboratedEach (k : Setting) (env : Frames) : List Item → Type 0 where
  no_more_items : ElaboratedEach k env []
  one_more_item : {i : Item} {more : List Item} → Elaborated k env i → ElaboratedEach k env more → ElaboratedEach k env (i ∷ more)

-- Handlers (11.2) -----------------------------------------------------------------------------------

-- exceptions that there are
pub data Raised (k : Setting) : List ℕ → Type 0 where
  no_more_exceptions : Raised k []
  one_more_exception : {x : ℕ} {more : List ℕ} → x < k.exceptions → Raised k more → Raised k (x ∷ more)

pub data Chosen (k : Setting) : Choices → Type 0 where
  others : Chosen k choices.Others
  exceptions : {xs : List ℕ} → Raised k xs → Chosen k (choices.Exceptions xs)

-- Statements -------------------------------------------------------------------------------------------

-- the value that a return gives
pub data Returns (k : Setting) (env : Frames) : Option Ty → Option Expr → Type 0 where
  nothing : Returns k env None None
  result : {x : Expr} {t : Ty} → Typed k env x t → Returns k env (Some t) (Some x)

mutual
  pub data Done (k : Setting) : Frames → Around → Stmt → Type 0 where
    null : {env : Frames} {a : Around} → Done k env a stmt.Null
    assign : {env : Frames} {a : Around} {x : Name} {v : Expr} {t : Ty} → is_scalar t ≡ true → Denotes k env x t → Typed k env v t → Done k env a (stmt.Assign x v)
    assign_record : {env : Frames} {a : Around} {x : Name} {t : ℕ} {v : Actual} → Denotes k env x (ty.Record t) → InView k env (ty.Record t) → Fits k env (record { passing = In; ty = ty.Record t }) v → Done k env a (stmt.AssignRecord x t v)
    call : {env : Frames} {a : Around} {s : ℕ} {is : Signature} {actuals : List Actual} → Callable k env s is → is.result ≡ None → FitEach k env is.formals actuals → Done k env a (stmt.Call s actuals)
    nothing_done : {env : Frames} {a : Around} {x : Name} {t : ℕ} → Views k env x (ty.Record t) → Done k env a (stmt.Nothing x)
    dispatch : {env : Frames} {a : Around} {o : Operation} {x : Name} {t : ℕ} → Views k env x (ty.Record t) → Done k env a (stmt.Dispatch o x)
    library_allocate : {env : Frames} {a : Around} {p x : Name} {size alignment : Expr} {t : ℕ} → Views k env p (ty.Record t) → HasRoot k t root.BlockPool → Denotes k env x ty.Address → Typed k env size ty.Count → Typed k env alignment ty.Count → Done k env a (stmt.LibraryAllocate p x size alignment)
    library_deallocate : {env : Frames} {a : Around} {p : Name} {x size alignment : Expr} {t : ℕ} → Views k env p (ty.Record t) → HasRoot k t root.BlockPool → Typed k env x ty.Address → Typed k env size ty.Count → Typed k env alignment ty.Count → Done k env a (stmt.LibraryDeallocate p x size alignment)
    put : {env : Frames} {a : Around} {ps : List Piece} → Puts k env ps → Done k env a (stmt.Put ps)
    put_line : {env : Frames} {a : Around} {ps : List Piece} → Puts k env ps → Done k env a (stmt.PutLine ps)
    new_line : {env : Frames} {a : Around} → Done k env a stmt.NewLine
    exit : {env : Frames} {a : Around} {x : Option Expr} → a.in_loop ≡ true → Perhaps k env x ty.Boolean → Done k env a (stmt.Exit x)
    return : {env : Frames} {a : Around} {x : Option Expr} → Returns k env a.gives x → Done k env a (stmt.Return x)
    raise : {env : Frames} {a : Around} {x : ℕ} → x < k.exceptions → Done k env a (stmt.Raise x)
    raise_again : {env : Frames} {a : Around} → a.in_handler ≡ true → Done k env a stmt.RaiseAgain
    choose : {env : Frames} {a : Around} {arms : List Arm} {others : List Stmt} → GuardedEach k env a arms → DoneEach k env a others → Done k env a (stmt.If arms others)
    loop : {env : Frames} {a : Around} {body : List Stmt} → DoneEach k env (inside_loop a) body → Done k env a (stmt.Loop body)
    while : {env : Frames} {a : Around} {test : Expr} {body : List Stmt} → Typed k env test ty.Boolean → DoneEach k env (inside_loop a) body → Done k env a (stmt.While test body)
    for : {env : Frames} {a : Around} {number : ℕ} {way : Direction} {low high : Expr} {body : List Stmt} → Fills env number LoopParameter → Typed k env low ty.Integer → Typed k env high ty.Integer → DoneEach k env (inside_loop a) body → Done k env a (stmt.For (record { level = length env; slot = number }) way low high body)
    block : {env : Frames} {a : Around} {m : Master} {f : Frame} → Mastered k env f a m → Done k env a (stmt.Block m)
    free : {env : Frames} {a : Around} {t : ℕ} {x : Name} → HasAccess k env t → Denotes k env x (ty.Access t) → Done k env a (stmt.Free t x)
    release : {env : Frames} {a : Around} {x : Name} → Denotes k env x ty.Handle → Done k env a (stmt.Release x)

  pub data DoneEach (k : Setting) : Frames → Around → List Stmt → Type 0 where
    no_more_statements : {env : Frames} {a : Around} → DoneEach k env a []
    one_more_statement : {env : Frames} {a : Around} {s : Stmt} {more : List Stmt} → Done k env a s → DoneEach k env a more → DoneEach k env a (s ∷ more)

  -- the arms of a conditional statement (5.3)
  pub data GuardedEach (k : Setting) : Frames → Around → List Arm → Type 0 where
    no_more_arms : {env : Frames} {a : Around} → GuardedEach k env a []
    one_more_arm : {env : Frames} {a : Around} {test : Expr} {body : List Stmt} {more : List Arm} → Typed k env test ty.Boolean → DoneEach k env a body → GuardedEach k env a more → GuardedEach k env a (roll-Arm (record { test = test; body = body }) ∷ more)

  pub data HandledEach (k : Setting) : Frames → Around → List Handler → Type 0 where
    no_more_handlers : {env : Frames} {a : Around} → HandledEach k env a []
    one_more_handler : {env : Frames} {a : Around} {c : Choices} {body : List Stmt} {more : List Handler} → Chosen k c → DoneEach k env (inside_handler a) body → HandledEach k env a more → HandledEach k env a (roll-Handler (record { choices = c; body = body }) ∷ more)

  -- a master with these slots, inside the masters around it (7.6.1)
  pub data Mastered (k : Setting) : Frames → Frame → Around → Master → Type 0 where
    master : {env : Frames} {f : Frame} {a : Around} {is : List Item} {body : List Stmt} {hs : List Handler} →
        ElaboratedEach k (env ++ f ∷ []) is → DoneEach k (env ++ f ∷ []) a body → HandledEach k (env ++ f ∷ []) a hs →
        Mastered k env f a (roll-Master (record { slots = length f; items = is; body = body; handlers = hs }))
