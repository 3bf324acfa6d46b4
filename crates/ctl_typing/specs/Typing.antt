-- The type and the checked form of an expression, of which its place may ask something (4.4 to 4.8).
use Rattle.std.specs.Prelude.{ℕ, Bool, true, false, ◌&&◌, ◌||◌, not, if◌then◌else◌, nat_eq, nat_lt, List, [], ◌∷◌, ◌++◌, length, map, slice_get, Option, Some, None, codes}
use Rattle.ctl_grammar.specs.Spelling.{same_name}
use Rattle.ctl_tree.specs.declared.span.Span.{Span}
use Rattle.ctl_tree.specs.declared.fault.FaultCode.TheVariants as rule
use Rattle.ctl_program.specs.Library.{controlled, limited_controlled, block_pool, mark_release_pool}
use Rattle.ctl_program.specs.declared.types.Ty.{Ty}
use Rattle.ctl_program.specs.declared.types.Ty.TheVariants as ty
use Rattle.ctl_program.specs.declared.types.Var.{Var}
use Rattle.ctl_program.specs.declared.types.Root.{Root}
use Rattle.ctl_program.specs.declared.types.Root.TheVariants as root
use Rattle.ctl_program.specs.declared.expression.Expr.{Expr}
use Rattle.ctl_program.specs.declared.expression.Expr.TheVariants as e
use Rattle.ctl_program.specs.declared.expression.Operand.{Operand as Checked_operand, roll-Operand}
use Rattle.ctl_program.specs.declared.expression.Name.{Name as Checked_name}
use Rattle.ctl_program.specs.declared.expression.Name.TheVariants as n
use Rattle.ctl_program.specs.declared.expression.Actual.{Actual}
use Rattle.ctl_program.specs.declared.expression.Actual.TheVariants as actual
use Rattle.ctl_program.specs.declared.expression.Step.{Step}
use Rattle.ctl_program.specs.declared.expression.Step.TheVariants as step
use Rattle.ctl_program.specs.declared.operators.UnaryOp.{UnaryOp}
use Rattle.ctl_program.specs.declared.operators.BinaryOp.{BinaryOp}
use Rattle.ctl_program.specs.declared.operators.BinaryOp.TheVariants as op
use Rattle.ctl_program.specs.declared.operators.CopyStart.{CopyStart}
use Rattle.ctl_program.specs.declared.operators.CopyStart.TheVariants as copy
use Rattle.ctl_program.specs.declared.operators.SubpoolFunction.{SubpoolFunction}
use Rattle.ctl_program.specs.declared.operators.SubpoolFunction.TheVariants as subpool
use Rattle.ctl_program.specs.declared.statement.Piece.{Piece}
use Rattle.ctl_program.specs.declared.statement.Piece.TheVariants as piece
use Rattle.ctl_program.specs.Limits.{integer_last, integer_first_cell}
use Rattle.ctl_syntax.specs.declared.denoted.Denoted.{Denoted}
use Rattle.ctl_syntax.specs.declared.denoted.Denoted.TheVariants as denoted
use Rattle.ctl_syntax.specs.declared.denoted.LibraryName.{LibraryName}
use Rattle.ctl_syntax.specs.declared.denoted.LibraryName.TheVariants as library
use Rattle.ctl_syntax.specs.declared.denoted.Use.{Use}
use Rattle.ctl_syntax.specs.declared.item.Mode.{Mode}
use Rattle.ctl_syntax.specs.declared.item.Mode.TheVariants as mode
use Rattle.ctl_syntax.specs.declared.item.Aliasing.{Aliasing}
use Rattle.ctl_syntax.specs.declared.item.Aliasing.TheVariants as aliasing
use Rattle.ctl_syntax.specs.declared.name.Suffix.{Suffix}
use Rattle.ctl_syntax.specs.declared.name.Suffix.TheVariants as suffix
use Rattle.ctl_syntax.specs.declared.name.Attribute.{Attribute}
use Rattle.ctl_syntax.specs.declared.name.Attribute.TheVariants as attribute
use Rattle.ctl_typing.specs.declared.table.Tables.{Tables}
use Rattle.ctl_typing.specs.declared.table.Entry.{Entry}
use Rattle.ctl_typing.specs.declared.table.Entry.TheVariants as entry
use Rattle.ctl_typing.specs.declared.table.ObjectEntry.{ObjectEntry}
use Rattle.ctl_typing.specs.declared.table.FormalEntry.{FormalEntry}
use Rattle.ctl_typing.specs.declared.table.Profile.{Profile}
use Rattle.ctl_typing.specs.declared.table.Mutability.{Mutability}
use Rattle.ctl_typing.specs.declared.table.Mutability.TheVariants as mutability
use Rattle.ctl_typing.specs.declared.notes.Deed.{Deed}
use Rattle.ctl_typing.specs.declared.notes.Deed.TheVariants.{Freezes, Creates, Initializes, Allocates, Calls}
use Rattle.ctl_program.specs.declared.operators.UnaryOp.TheVariants as one
use Rattle.ctl_program.specs.declared.operators.Shortcut.TheVariants as shortcut
use Rattle.ctl_syntax.specs.declared.expression.Expression.{Expression, fold-Expression}
use Rattle.ctl_syntax.specs.declared.expression.Expression.TheOpen.{Expression-F}
use Rattle.ctl_syntax.specs.declared.name.Identifier.{Identifier}
use Rattle.ctl_syntax.specs.declared.name.Mark.{Mark}
use Rattle.ctl_syntax.specs.declared.name.Name.{Name}
use Rattle.ctl_syntax.specs.declared.operators.Operand.{Operand}
use Rattle.ctl_syntax.specs.declared.operators.ArithmeticOperator.{ArithmeticOperator}
use Rattle.ctl_syntax.specs.declared.operators.ArithmeticOperator.TheVariants as arithmetic
use Rattle.ctl_syntax.specs.declared.operators.RelationalOperator.{RelationalOperator}
use Rattle.ctl_syntax.specs.declared.operators.RelationalOperator.TheVariants as relational
use Rattle.ctl_syntax.specs.declared.operators.LogicalOperator.{LogicalOperator}
use Rattle.ctl_syntax.specs.declared.operators.LogicalOperator.TheVariants as logical
use Rattle.ctl_syntax.specs.declared.operators.UnaryOperator.{UnaryOperator}
use Rattle.ctl_syntax.specs.declared.operators.UnaryOperator.TheVariants as unary
use Rattle.ctl_typing.specs.declared.table.RecordEntry.{RecordEntry}
use Rattle.ctl_typing.specs.declared.table.Concreteness.{Concreteness}
use Rattle.ctl_typing.specs.declared.table.Concreteness.TheVariants as concreteness
use Rattle.ctl_typing.specs.declared.found.Asked.{Asked}
use Rattle.ctl_typing.specs.declared.found.Asked.TheVariants.{Anything, Exactly, Number, Ordered, Comparable}
use Rattle.ctl_typing.specs.declared.found.Adopts.{Adopts}
use Rattle.ctl_typing.specs.declared.found.Adopts.TheVariants.{Nothing, Numbers, Accesses}
use Rattle.ctl_typing.specs.declared.found.Typed.{Typed}
use Rattle.ctl_typing.specs.declared.found.Head.{Head}
use Rattle.ctl_typing.specs.declared.found.Head.TheVariants.{At, Given}
use Rattle.ctl_typing.specs.declared.found.Place.{Place}
use Rattle.ctl_typing.specs.declared.found.Found.{Found}
use Rattle.ctl_typing.specs.declared.found.Found.TheVariants.{Part, TypeName, Callable, Computed, Subpools, Image, Imaged, Discriminant, View, Accessed}
use Rattle.ctl_typing.specs.Judgement.{Judgement, known, but, wrong, unresolved, doing, noting, onward, ◌>>=◌, both, following, each}
use Rattle.ctl_typing.specs.Lookup.{same, is_numeric, is_ordered, is_comparable, is_record, component_of, descends, root_of, designated_by, is_general, is_convertible, is_limited, has_subpools, level_of, level_of_access}

-- What a place asks -------------------------------------------------------------

abbrev pub meets : Asked → Ty → Bool
meets Anything t = true
meets (Exactly s) t = same s t
meets Number t = is_numeric t
meets Ordered t = is_ordered t
meets Comparable t = is_comparable t

-- whether an expression takes on a type from its place
abbrev pub adopts : Adopts → Bool
adopts Nothing = false
adopts _ = true

-- an expression whose type is not the one that its place asks is wrong itself
abbrev pub fits : Span → Asked → Typed → Judgement Typed
fits place asked t = if meets asked t.ty then noting t.ty t else wrong rule.Type place

-- the number type that literals take on
abbrev pub adopted : Asked → Ty
adopted (Exactly ty.Count) = ty.Count
adopted _ = ty.Integer

-- What a name is, as far as it was read ---------------------------------------------

-- what is known of an expression without its place
pub record Sense : Type 0 where
  pub place : Span
  -- where it begins inside of the parentheses around it
  pub within : Span
  pub adopts : Adopts
  pub judged : Tables → Asked → Judgement Typed
  -- where it is a name alone
  pub bare : Option (Tables → Judgement Found)
  -- where it is a name, perhaps in parentheses
  pub named : Option (Tables → Judgement Found)
  -- as what is put
  pub texts : Tables → Judgement (List Piece)

-- The beginning of a name ------------------------------------------------------------

abbrev pub variable : ObjectEntry → Place
variable o = record { head = At o.var; steps = []; ty = o.ty; mutability = o.mutability; aliasing = o.aliasing }

-- nothing is told of what stands behind a declaration that is wrong itself
abbrev pub entry_found : Span → ℕ → Option Entry → Judgement Found
entry_found place number (Some (entry.Object o)) = known (Part (variable o))
entry_found place number (Some (entry.«Type» t)) = known (TypeName t)
entry_found place number (Some (entry.Subprogram p)) = doing (Calls p.subprogram ∷ []) (Callable number)
entry_found place number (Some entry.Unknown) = λ n. (None, n)
entry_found place number _ = wrong rule.«Type» place

abbrev pub constant : Ty → ℕ → Found
constant t cell = Computed (record { ty = t; value = e.Constant cell })

abbrev pub library_found : Span → LibraryName → Judgement Found
library_found place library.Integer = known (TypeName ty.Integer)
library_found place library.Boolean = known (TypeName ty.Boolean)
library_found place library.StorageCount = known (TypeName ty.Count)
library_found place library.Address = known (TypeName ty.Address)
library_found place library.SubpoolHandle = known (TypeName ty.Handle)
library_found place library.Controlled = known (TypeName (ty.Record controlled))
library_found place library.LimitedControlled = known (TypeName (ty.Record limited_controlled))
library_found place library.BlockPool = known (TypeName (ty.Record block_pool))
library_found place library.MarkReleasePool = known (TypeName (ty.Record mark_release_pool))
library_found place library.True = known (constant ty.Boolean 1)
library_found place library.False = known (constant ty.Boolean 0)
library_found place library.NullAddress = known (constant ty.Address 0)
library_found place library.Mark = known (Subpools subpool.Mark)
library_found place library.DefaultSubpool = known (Subpools subpool.Default)
library_found place _ = wrong rule.«Type» place

abbrev pub first_found : Tables → Use → Judgement Found
first_found tables u = denotes tables u.span u.denoted
  where
    denotes : Tables → Span → Denoted → Judgement Found
    denotes tables place (denoted.Declared number level) = entry_found place number (slice_get tables.entries number)
    denotes tables place (denoted.Library l) = library_found place l
    denotes tables place (denoted.Operation o) = wrong rule.«Type» place
    denotes tables place denoted.Unknown = unresolved place

-- Calls (6.4) ----------------------------------------------------------------------------

abbrev pub given_place : Typed → Place
given_place t = record { head = Given t.value; steps = []; ty = t.ty; mutability = mutability.Constant; aliasing = aliasing.Unaliased }

-- the value of a call; a procedure gives none
abbrev pub result_found : Span → Profile → List Actual → Judgement Found
result_found place p actuals = of_result place p.result p.subprogram actuals
  where
    of_result : Span → Option Ty → ℕ → List Actual → Judgement Found
    of_result place None s actuals = wrong rule.Type place
    of_result place (Some t) s actuals = known (Part (given_place (record { ty = t; value = e.Call s actuals t })))

abbrev pub profile_in : Option Entry → Option Profile
profile_in (Some (entry.Subprogram p)) = Some p
profile_in e = None

-- the subprogram that a declaration in view declares
abbrev pub profile_of : Tables → ℕ → Option Profile
profile_of tables number = profile_in (slice_get tables.entries number)

abbrev pub parameterless : Span → Profile → List FormalEntry → Judgement Found
parameterless place p [] = result_found place p []
parameterless place p (f ∷ fs) = wrong rule.Type place

abbrev pub called_alone : Span → Option Profile → Judgement Found
called_alone place None = wrong rule.Type place
called_alone place (Some p) = parameterless place p p.formals

-- a function without formals is called by its name alone
abbrev pub settled : Tables → Span → Found → Judgement Found
settled tables place (Callable number) = called_alone place (profile_of tables number)
settled tables place f = known f

abbrev pub name_at : Head → List Step → Checked_name
name_at (At v) steps = n.Variable v steps
name_at (Given x) steps = n.Given x steps

abbrev pub name_of : Place → Checked_name
name_of p = name_at p.head p.steps

-- the value of a part of a type; a value that no object holds is that value
abbrev pub value_at : Head → List Step → Ty → Expr
value_at (Given x) [] t = x
value_at h steps t = e.Read (name_at h steps) t

-- What a name is, as a value ---------------------------------------------------------------------

-- what is designated lives as long as the type (3.10.2)
abbrev pub at_level : {A : Type 0} → Span → ℕ → ℕ → A → Judgement A
at_level place operand target a = if nat_lt target operand then but rule.Level place a else known a

abbrev pub designates_this : Ty → Option Ty → Bool
designates_this t None = false
designates_this t (Some s) = same s t

-- `X'Access` has the general access type that its place asks, with the type of X designated; X lives as long as that (3.10.2)
abbrev pub access_value : Tables → Span → Var → Ty → Asked → Judgement Typed
access_value tables place v t (Exactly (ty.Access a)) = if is_general (slice_get tables.states.accesses a) && designates_this t (designated_by tables a) then at_level place v.level (level_of_access (slice_get tables.states.accesses a)) (record { ty = ty.Access a; value = e.Access v }) else wrong rule.Type place
access_value tables place v t asked = wrong rule.Type place

abbrev pub value_found : Tables → Span → Asked → Found → Judgement Typed
value_found tables place asked (Part p) = fits place asked (record { ty = p.ty; value = value_at p.head p.steps p.ty })
value_found tables place asked (Computed t) = fits place asked t
value_found tables place asked (Discriminant p k) = fits place asked (record { ty = ty.Count; value = e.Discriminant (name_of p) k })
value_found tables place asked (Accessed v t) = access_value tables place v t asked
value_found tables place asked f = wrong rule.Type place

-- What is written to (6.4.1) ----------------------------------------------------------------------

-- a name that is written to denotes a variable (6.4.1)
abbrev pub as_variable : {A : Type 0} → Span → Mutability → A → Judgement A
as_variable place mutability.Variable a = known a
as_variable place mutability.Constant a = but rule.Mode place a

abbrev pub variable_part : Span → Ty → Place → Judgement Place
variable_part place t p = if same t p.ty then as_variable place p.mutability p else wrong rule.Type place

-- a value of the type that is asked, where no variable is named
abbrev pub no_variable : Span → Typed → Judgement Place
no_variable place x = wrong rule.Mode place

abbrev pub variable_found : Tables → Span → Ty → Found → Judgement Place
variable_found tables place t (Part p) = variable_part place t p
variable_found tables place t (View p) = variable_part place t p
variable_found tables place t f = value_found tables place (Exactly t) f >>= no_variable place

abbrev pub variable_by : Tables → Ty → Sense → Option (Tables → Judgement Found) → Judgement Place
variable_by tables t x None = x.judged tables (Exactly t) >>= no_variable x.place
variable_by tables t x (Some name) = name tables >>= settled tables x.place >>= variable_found tables x.place t

-- what is written to is a variable that a name denotes; first of all it has the type that is asked
abbrev pub variable_of : Tables → Ty → Sense → Judgement Place
variable_of tables t x = variable_by tables t x x.bare

-- Actual parameters (6.2, 6.4.1) -------------------------------------------------------------

-- an `out` copy of an access type or a handle begins with the actual's value (6.4.1)
abbrev pub start_of : Mode → Ty → CopyStart
start_of mode.InOut t = copy.Actual
start_of m (ty.Access a) = copy.Actual
start_of m ty.Handle = copy.Actual
start_of m t = copy.Beginning

abbrev pub by_name : Mode → Place → Actual
by_name m p = if is_record p.ty then actual.Part (name_of p) p.ty else actual.Copied (name_of p) p.ty (start_of m p.ty)

abbrev pub by_value : Typed → Judgement Actual
by_value t = known (actual.ByValue t.value t.ty)

-- a record that a name denotes is passed by reference; one that no object holds is a value (6.2)
abbrev pub handed_on : Head → List Step → Ty → Actual
handed_on (Given x) [] t = actual.ByValue x t
handed_on h steps t = actual.Part (name_at h steps) t

abbrev pub record_part : Span → Ty → Place → Judgement Actual
record_part place t p = if same t p.ty then noting t (handed_on p.head p.steps p.ty) else wrong rule.Type place

abbrev pub record_found : Span → Ty → Found → Judgement Actual
record_found place t (Part p) = record_part place t p
record_found place t (View p) = record_part place t p
record_found place t _ = wrong rule.Type place

-- in parentheses stands a value, and a view is none (profile)
abbrev pub record_enclosed : Span → Ty → Found → Judgement Actual
record_enclosed place t (Part p) = record_part place t p
record_enclosed place t _ = wrong rule.Type place

-- by what it is where it is a name alone, or a name in parentheses
abbrev pub record_by : Tables → Ty → Sense → Option (Tables → Judgement Found) → Option (Tables → Judgement Found) → Judgement Actual
record_by tables t x (Some alone) named = alone tables >>= settled tables x.within >>= record_found x.within t
record_by tables t x None (Some name) = name tables >>= settled tables x.within >>= record_enclosed x.within t
record_by tables t x None None = x.judged tables (Exactly t) >>= by_value

abbrev pub read_by : Tables → Ty → Sense → Judgement Actual
read_by tables t x = if is_record t then record_by tables t x x.bare x.named else (x.judged tables (Exactly t) >>= by_value)

abbrev pub actual_by : Tables → Mode → Ty → Sense → Judgement Actual
actual_by tables mode.In t x = read_by tables t x
actual_by tables m t x = variable_of tables t x >>= (λ p. known (by_name m p))

abbrev pub actual_of : Tables → FormalEntry × Sense → Judgement Actual
actual_of tables p = actual_by tables p.0.mode p.0.ty p.1

abbrev pub matched : {A B : Type 0} → List A → List B → List (A × B)
matched [] bs = []
matched (a ∷ as') [] = []
matched (a ∷ as') (b ∷ bs) = (a, b) ∷ matched as' bs

-- as many actuals as formals, each of its formal's type (6.4.1)
abbrev pub actuals_of : Tables → Span → List FormalEntry → List Sense → Judgement (List Actual)
actuals_of tables place formals xs = if nat_eq (length formals) (length xs) then each (actual_of tables) (Some []) (matched formals xs) else wrong rule.Type place

abbrev pub called : Tables → Span → Option Profile → List Sense → Judgement Found
called tables place None xs = wrong rule.Type place
called tables place (Some p) xs = actuals_of tables place p.formals xs >>= result_found place p

-- Conversions (4.6) --------------------------------------------------------------------------

abbrev pub converted_number : Ty → Typed → Judgement Found
converted_number t x = known (Computed (record { ty = t; value = e.Convert t x.value }))

-- the operand, which begins at `inner`, is wrong itself where its type does not convert
abbrev pub converted_access : Tables → Span → Span → ℕ → Typed → Judgement Found
converted_access tables place inner a x =
    if is_convertible tables a x.ty
    then at_level place (level_of tables x.ty) (level_of_access (slice_get tables.states.accesses a)) (Part (given_place (record { ty = ty.Access a; value = x.value })))
    else wrong rule.Type inner

abbrev pub as_type : Ty → Place → Place
as_type t p = record { head = p.head; steps = p.steps; ty = t; mutability = p.mutability; aliasing = p.aliasing }

-- the view of a record object as its ancestor; the object is an expression, and freezes its type (4.6, 13.14)
abbrev pub viewed_as : Tables → Span → ℕ → Place → Ty → Judgement Found
viewed_as tables place t p (ty.Record s) = if descends tables t s then noting (ty.Record s) (View (as_type (ty.Record t) p)) else wrong rule.Type place
viewed_as tables place t p s = wrong rule.Type place

-- what stands in the conversion begins at `inner`: another view is no value, and wrong itself
abbrev pub viewed : Tables → Span → Span → ℕ → Found → Judgement Found
viewed tables place inner t (Part p) = viewed_as tables place t p p.ty
viewed tables place inner t (View p) = wrong rule.Type inner
viewed tables place inner t f = wrong rule.Type place

abbrev pub viewed_by : Tables → Span → Span → ℕ → Option (Tables → Judgement Found) → Judgement Found
viewed_by tables place inner t None = wrong rule.Type place
viewed_by tables place inner t (Some name) = name tables >>= viewed tables place inner t

abbrev pub converted : Tables → Span → Ty → Sense → Judgement Found
converted tables place ty.Integer x = x.judged tables Number >>= converted_number ty.Integer
converted tables place ty.Count x = x.judged tables Number >>= converted_number ty.Count
converted tables place (ty.Access a) x = x.judged tables Anything >>= converted_access tables place x.within a
converted tables place (ty.Record t) x = viewed_by tables place x.place t x.bare
converted tables place t x = wrong rule.Type place

-- Functions on mark pools (13.11.4) -------------------------------------------------------------

-- they take a variable of the one type of pools with marks
abbrev pub subpool_by : Tables → SubpoolFunction → Sense → Judgement Found
subpool_by tables which x = variable_of tables (ty.Record mark_release_pool) x >>= (λ p. known (Computed (record { ty = ty.Handle; value = e.Subpool which (name_of p) })))

-- Arguments behind a name ------------------------------------------------------------------------

abbrev pub imaged : Typed → Judgement Found
imaged x = known (Imaged x)

abbrev pub with_one : Tables → Span → Found → Sense → Judgement Found
with_one tables place (TypeName t) x = converted tables place t x
with_one tables place (Subpools which) x = subpool_by tables which x
with_one tables place (Image t) x = x.judged tables (Exactly t) >>= imaged
with_one tables place f x = wrong rule.Type place

-- only a subprogram takes more than one
abbrev pub with_arguments : Tables → Span → Found → Sense → List Sense → Judgement Found
with_arguments tables place (Callable number) x more = called tables place (profile_of tables number) (x ∷ more)
with_arguments tables place f x [] = with_one tables place f x
with_arguments tables place f x (y ∷ more) = wrong rule.Type place

-- Selectors, dereferences and attributes (4.1) --------------------------------------------------------

abbrev pub designates : Span → Place → Option Ty → Judgement Place
designates place p None = wrong rule.Type place
designates place p (Some t) = known (record { head = p.head; steps = p.steps ++ step.Dereference ∷ []; ty = t; mutability = mutability.Variable; aliasing = aliasing.Unaliased })

abbrev pub dereferenced : Tables → Span → Ty → Place → Judgement Place
dereferenced tables place (ty.Access a) p = designates place p (designated_by tables a)
dereferenced tables place t p = wrong rule.Type place

abbrev pub component_at : ℕ → Place → ℕ × Ty → Place
component_at t p c = record { head = p.head; steps = p.steps ++ step.Component t c.0 ∷ []; ty = c.1; mutability = p.mutability; aliasing = aliasing.Unaliased }

-- the discriminants of a pool type are read as constants (3.7; profile)
abbrev pub discriminant_named : Root → List ℕ → Option ℕ
discriminant_named root.BlockPool name = if same_name name (codes "block_size") then Some 0 else (if same_name name (codes "block_count") then Some 1 else None)
discriminant_named root.MarkPool name = if same_name name (codes "pool_size") then Some 0 else None
discriminant_named r name = None

abbrev pub discriminant_at : Span → Place → Option ℕ → Judgement Found
discriminant_at place p None = wrong rule.Type place
discriminant_at place p (Some k) = known (Discriminant p k)

abbrev pub selected_in : Tables → Span → List ℕ → ℕ → Place → Option (ℕ × Ty) → Judgement Found
selected_in tables place name t p (Some c) = known (Part (component_at t p c))
selected_in tables place name t p None = discriminant_at place p (discriminant_named (root_of (slice_get tables.records t)) name)

-- a component of a record (4.1.3)
abbrev pub selected_of : Tables → Span → List ℕ → Ty → Place → Judgement Found
selected_of tables place name (ty.Record t) p = selected_in tables place name t p (component_of tables name t)
selected_of tables place name t p = wrong rule.Type place

-- an access value is dereferenced by itself before a selector (4.1(8))
abbrev pub selected_through : Tables → Span → List ℕ → Ty → Place → Judgement Found
selected_through tables place name (ty.Access a) p = dereferenced tables place (ty.Access a) p >>= (λ q. selected_of tables place name q.ty q)
selected_through tables place name t p = selected_of tables place name t p

abbrev pub selected : Tables → Span → List ℕ → Found → Judgement Found
selected tables place name (Part p) = selected_through tables place name p.ty p
selected tables place name f = wrong rule.Type place

abbrev pub all_of : Tables → Span → Found → Judgement Found
all_of tables place (Part p) = dereferenced tables place p.ty p >>= (λ q. known (Part q))
all_of tables place f = wrong rule.Type place

-- an aliased variable of a record type that is declared so (3.10.2)
abbrev pub accessed : Span → Head → List Step → Ty → Mutability → Aliasing → Judgement Found
accessed place (At v) [] (ty.Record t) mutability.Variable aliasing.Aliased = known (Accessed v (ty.Record t))
accessed place h steps t m a = wrong rule.Type place

abbrev pub image_of : Span → Ty → Judgement Found
image_of place ty.Integer = known (Image ty.Integer)
image_of place ty.Boolean = known (Image ty.Boolean)
image_of place t = wrong rule.Type place

-- of Integer alone (3.5, profile)
abbrev pub bound_of : Span → Ty → ℕ → Judgement Found
bound_of place ty.Integer cell = known (constant ty.Integer cell)
bound_of place t cell = wrong rule.Type place

abbrev pub attributed : Span → Attribute → Found → Judgement Found
attributed place attribute.Access (Part p) = accessed place p.head p.steps p.ty p.mutability p.aliasing
attributed place attribute.Image (TypeName t) = image_of place t
attributed place attribute.First (TypeName t) = bound_of place t integer_first_cell
attributed place attribute.Last (TypeName t) = bound_of place t integer_last
attributed place a f = wrong rule.Type place

-- a name with one suffix more, told at its beginning where it is wrong
abbrev pub suffixed : Tables → Span → Found → Suffix Sense → Judgement Found
suffixed tables place f (suffix.Selector i) = settled tables place f >>= selected tables place i.text
suffixed tables place f (suffix.All s) = settled tables place f >>= all_of tables place
suffixed tables place f (suffix.Arguments s x more) = with_arguments tables place f x more
suffixed tables place f (suffix.Attribute s a) = attributed place a f

abbrev pub suffixes : Tables → Span → List (Suffix Sense) → Found → Judgement Found
suffixes tables place [] f = known f
suffixes tables place (x ∷ xs) f = suffixed tables place f x >>= suffixes tables place xs

abbrev pub found : Use → List (Suffix Sense) → Tables → Judgement Found
found u xs tables = first_found tables u >>= suffixes tables u.span xs

-- The value of a name -----------------------------------------------------------------------------

abbrev pub name_judged : Use → List (Suffix Sense) → Tables → Asked → Judgement Typed
name_judged u xs tables asked = found u xs tables >>= settled tables u.span >>= value_found tables u.span asked

-- Operators (4.5) -----------------------------------------------------------------------------------

-- what is asked of an operand that has the type of another: that type, where it is known
abbrev pub asked_like : Asked → Option Typed → Asked
asked_like asked None = asked
asked_like asked (Some t) = Exactly t.ty

abbrev pub operand_of : BinaryOp → Ty → Expr → Checked_operand
operand_of o t x = roll-Operand (record { op = o; ty = t; right = x })

-- a chain of one operand is that operand
abbrev pub chain_of : Expr → List Checked_operand → Expr
chain_of x [] = x
chain_of x (o ∷ os) = e.Chain x o os

abbrev pub operator_of : ArithmeticOperator → BinaryOp
operator_of arithmetic.Minus = op.Subtract
operator_of arithmetic.Times = op.Multiply
operator_of arithmetic.Divide = op.Divide
operator_of arithmetic.Mod = op.Modulo
operator_of arithmetic.Rem = op.Remainder
operator_of _ = op.Add

-- a further operand, with the operator before it
abbrev pub operand_as : Tables → Asked → Operand Sense → Judgement Checked_operand
operand_as tables asked o = o.operand.judged tables asked >>= (λ r. known (operand_of (operator_of o.operator) r.ty r.value))

abbrev pub operands_as : Tables → Asked → List (Operand Sense) → Judgement (List Checked_operand)
operands_as tables asked os n = each (operand_as tables asked) (Some []) os n

-- the first operand has a type of its own, and the others have that (4.5.3)
abbrev pub by_first : Tables → Sense → List (Operand Sense) → Judgement Typed
by_first tables x os =
    following (x.judged tables Number) (λ r. operands_as tables (asked_like Number r) os) >>= (λ r. known (record { ty = r.0.ty; value = chain_of r.0.value r.1 }))

-- the operands before the first that has a type of its own, that one, and those behind it
pub record Split : Type 0 where
  pub before : List (Operand Sense)
  pub typed : Option (Operand Sense)
  pub behind : List (Operand Sense)

abbrev pub put_before : Operand Sense → Split → Split
put_before o s = record { before = o ∷ s.before; typed = s.typed; behind = s.behind }

abbrev pub split : List (Operand Sense) → Split
split [] = record { before = []; typed = None; behind = [] }
split (o ∷ os) = if adopts o.operand.adopts then put_before o (split os) else (record { before = []; typed = Some o; behind = os })

-- a first operand that takes on the type of another
abbrev pub first_as : Tables → Asked → Sense → List (Operand Sense) → Judgement (Expr × List Checked_operand)
first_as tables asked x os = both (x.judged tables asked >>= (λ r. known r.value)) (operands_as tables asked os)

abbrev pub around : Tables → Sense → List (Operand Sense) → List (Operand Sense) → Asked → Judgement ((Expr × List Checked_operand) × List Checked_operand)
around tables x before behind asked = both (first_as tables asked x before) (operands_as tables asked behind)

abbrev pub joined : BinaryOp → Typed → (Expr × List Checked_operand) × List Checked_operand → Typed
joined o t r = record { ty = t.ty; value = chain_of r.0.0 (r.0.1 ++ operand_of o t.ty t.value ∷ r.1) }

-- literals take on the type of the first operand that has one of its own; where none has, the one that the place asks (profile)
abbrev pub by_other : Tables → Asked → Sense → List (Operand Sense) → Option (Operand Sense) → List (Operand Sense) → Judgement Typed
by_other tables asked x before (Some o) behind =
    following (o.operand.judged tables Number) (λ r. around tables x before behind (asked_like Number r)) >>= (λ r. known (joined (operator_of o.operator) r.0 r.1))
by_other tables asked x before None behind =
    first_as tables (Exactly (adopted asked)) x before >>= (λ r. known (record { ty = adopted asked; value = chain_of r.0 r.1 }))

abbrev pub arithmetic_of : Tables → Asked → Sense → List (Operand Sense) → Split → Judgement Typed
arithmetic_of tables asked x os s = if adopts x.adopts then by_other tables asked x s.before s.typed s.behind else by_first tables x os

abbrev pub is_joining : ArithmeticOperator → Bool
is_joining arithmetic.Concatenate = true
is_joining _ = false

abbrev pub has_joining : List (Operand Sense) → Bool
has_joining [] = false
has_joining (o ∷ os) = is_joining o.operator || has_joining os

-- a string is no value outside of Put and Put_Line (profile)
abbrev pub chain_judged : Span → Sense → List (Operand Sense) → Tables → Asked → Judgement Typed
chain_judged place x os tables asked = if has_joining os then wrong rule.Type place else (arithmetic_of tables asked x os (split os) >>= fits place asked)

-- what a comparison takes (4.5.2)
abbrev pub compared : RelationalOperator → Asked
compared relational.Equal = Comparable
compared relational.NotEqual = Comparable
compared _ = Ordered

abbrev pub comparison : RelationalOperator → BinaryOp
comparison relational.Equal = op.Equal
comparison relational.NotEqual = op.Unequal
comparison relational.Less = op.Less
comparison relational.LessEqual = op.LessEqual
comparison relational.Greater = op.Greater
comparison relational.GreaterEqual = op.GreaterEqual

abbrev pub relation_of : RelationalOperator → Typed → Typed → Typed
relation_of o l r = record { ty = ty.Boolean; value = e.Chain l.value (operand_of (comparison o) ty.Boolean r.value) [] }

-- what is asked of the other operand of a comparison with one that takes on its type
abbrev pub asked_beside : RelationalOperator → Adopts → Asked
asked_beside o Numbers = Number
asked_beside o a = compared o

-- the right operand has the type of the left one; a literal or null on the left takes on that of the right one
abbrev pub relation_judged : Span → RelationalOperator → Sense → Sense → Tables → Asked → Judgement Typed
relation_judged place o l r tables asked =
    if adopts l.adopts && not (adopts r.adopts)
    then (following (r.judged tables (asked_beside o l.adopts)) (λ t. l.judged tables (asked_like (compared o) t)) >>= (λ p. fits place asked (relation_of o p.1 p.0)))
    else (following (l.judged tables (compared o)) (λ t. r.judged tables (asked_like (compared o) t)) >>= (λ p. fits place asked (relation_of o p.0 p.1)))

-- an operand of a logical operator (4.5.1)
abbrev pub truth_of : Tables → Sense → Judgement Expr
truth_of tables x = x.judged tables (Exactly ty.Boolean) >>= (λ r. known r.value)

abbrev pub truths_of : Tables → List Sense → Judgement (List Expr)
truths_of tables xs n = each (truth_of tables) (Some []) xs n

abbrev pub logical_operand : BinaryOp → Expr → Checked_operand
logical_operand o x = operand_of o ty.Boolean x

abbrev pub logical_of : LogicalOperator → Expr → Expr → List Expr → Expr
logical_of logical.And a b more = e.Chain a (logical_operand op.And b) (map (logical_operand op.And) more)
logical_of logical.Or a b more = e.Chain a (logical_operand op.Or b) (map (logical_operand op.Or) more)
logical_of logical.Xor a b more = e.Chain a (logical_operand op.Xor b) (map (logical_operand op.Xor) more)
logical_of logical.AndThen a b more = e.Short shortcut.AndThen a b more
logical_of logical.OrElse a b more = e.Short shortcut.OrElse a b more

abbrev pub logical_judged : Span → LogicalOperator → Sense → Sense → List Sense → Tables → Asked → Judgement Typed
logical_judged place o a b more tables asked =
    both (both (truth_of tables a) (truth_of tables b)) (truths_of tables more) >>= (λ r. fits place asked (record { ty = ty.Boolean; value = logical_of o r.0.0 r.0.1 r.1 }))

-- what an operator with one operand takes (4.5.4, 4.5.6): a literal has the type that the place of the whole asks
abbrev pub asked_by_one : UnaryOperator → Asked → Adopts → Asked
asked_by_one unary.Not asked a = Exactly ty.Boolean
asked_by_one o asked Nothing = Number
asked_by_one o asked a = Exactly (adopted asked)

abbrev pub unary_of : UnaryOperator → UnaryOp
unary_of unary.Plus = one.Plus
unary_of unary.Minus = one.Minus
unary_of unary.Abs = one.Abs
unary_of unary.Not = one.Not

abbrev pub unary_judged : Span → UnaryOperator → Sense → Tables → Asked → Judgement Typed
unary_judged place o x tables asked =
    x.judged tables (asked_by_one o asked x.adopts) >>= (λ r. fits place asked (record { ty = r.ty; value = e.Unary (unary_of o) r.ty r.value }))

-- Literals ------------------------------------------------------------------------------------------

abbrev pub in_range : Span → ℕ → Typed → Judgement Typed
in_range place m t = if nat_lt integer_last m then but rule.Range place t else known t

-- one that is out of range stands as 0, once that is told
abbrev pub number_cell : ℕ → ℕ
number_cell m = if nat_lt integer_last m then 0 else m

-- above Integer'Last, which is Storage_Count'Last too, it is out of range, and a number all the same (2.4, profile)
abbrev pub number_judged : Span → ℕ → Tables → Asked → Judgement Typed
number_judged place m tables asked = in_range place m (record { ty = adopted asked; value = e.Constant (number_cell m) }) >>= fits place asked

abbrev pub null_judged : Span → Tables → Asked → Judgement Typed
null_judged place tables (Exactly (ty.Access a)) = known (record { ty = ty.Access a; value = e.Constant 0 })
null_judged place tables (Exactly ty.Handle) = known (record { ty = ty.Handle; value = e.Constant 0 })
null_judged place tables asked = wrong rule.Type place

-- Allocators (4.8) -------------------------------------------------------------------------------------

abbrev pub marked : Span → Found → Judgement Ty
marked place (TypeName t) = known t
marked place f = wrong rule.Type place

-- a use that is told of at another place than its own
abbrev pub told_at : Span → Use → Use
told_at place u = record { span = place; denoted = u.denoted }

-- the type that a mark denotes; an expanded name denotes nothing of a text (profile)
abbrev pub mark_judged : Tables → Use → List Identifier → Judgement Ty
mark_judged tables u [] = first_found tables u >>= marked u.span
mark_judged tables u (i ∷ is) = wrong rule.Type u.span

abbrev pub handle_found : Span → Found → Judgement Expr
handle_found place (Part p) = if same p.ty ty.Handle then known (value_at p.head p.steps p.ty) else wrong rule.Type place
handle_found place (Computed t) = if same t.ty ty.Handle then known t.value else wrong rule.Type place
handle_found place f = wrong rule.Type place

-- a handle goes with an access type whose objects stand in subpools; with another it counts for none, once that is told (4.8, 13.11.4)
abbrev pub in_subpools : {A : Type 0} → Tables → Span → Asked → A → Judgement (Option A)
in_subpools tables place (Exactly (ty.Access a)) x = if has_subpools tables (slice_get tables.states.accesses a) then known (Some x) else but rule.Pool place None
in_subpools tables place asked x = known (Some x)

-- the handle of an allocator of which its place may ask something
abbrev pub handle_judged : Tables → Asked → Name Use Sense → Judgement (Option Expr)
handle_judged tables asked h = found h.first h.suffixes tables >>= settled tables h.first.span >>= handle_found h.first.span >>= in_subpools tables h.first.span asked

-- there may be none
abbrev pub handle_given : Tables → Asked → Option (Name Use Sense) → Judgement (Option Expr)
handle_given tables asked None = known None
handle_given tables asked (Some h) = handle_judged tables asked h

abbrev pub is_abstract : Concreteness → Bool
is_abstract concreteness.Abstract = true
is_abstract concreteness.Concrete = false

-- Controlled and Limited_Controlled are abstract: there is no object of them (3.9.3, 7.6)
abbrev pub has_objects : Tables → Ty → Bool
has_objects tables (ty.Record t) = concrete_in (slice_get tables.records t)
  where
    concrete_in : Option RecordEntry → Bool
    concrete_in None = false
    concrete_in (Some r) = not (is_abstract r.concreteness)
has_objects tables t = true

-- the access type that the place asks designates the type of the new object (4.8)
abbrev pub allocates : Tables → Span → Asked → Ty → Judgement ℕ
allocates tables place (Exactly (ty.Access a)) t = if designates_this t (designated_by tables a) && has_objects tables t then known a else wrong rule.Type place
allocates tables place asked t = wrong rule.Type place

-- what is asked of the value of a new object: its type, where that is known; an allocator gives no value to a limited object (7.5)
abbrev pub value_asked : Tables → Span → Option Ty → Judgement Asked
value_asked tables place None = known Anything
value_asked tables place (Some t) = if is_limited tables t then but rule.Limited place (Exactly t) else known (Exactly t)

abbrev pub value_judged : Tables → Span → Option Ty → Option Sense → Judgement (Option Expr)
value_judged tables place t None = known None
value_judged tables place t (Some x) = value_asked tables place t >>= x.judged tables >>= (λ r. known (Some r.value))

-- it allocates, and creates an object, whose type is frozen with its own (13.14)
abbrev pub creating : ℕ → Ty → List Deed
creating a t = Freezes (ty.Access a) ∷ Freezes t ∷ Allocates a ∷ Creates t ∷ []

-- what an allocator does: the object begins with its value, or with its defaults
abbrev pub making : ℕ → Ty → Option Expr → List Deed
making a t None = creating a t ++ Initializes t ∷ []
making a t (Some v) = creating a t

-- where the type of the new object is known, the access type that the place asks, and the value: each is judged whatever the other is
abbrev pub object_judged : Tables → Span → Asked → Option Sense → Option Ty → Judgement (ℕ × Option Expr)
object_judged tables place asked value t = both (onward t (allocates tables place asked)) (value_judged tables place t value)

-- an allocator of another type than its place asks is wrong itself, and so is one of what is no type; whatever its handle and its value are
abbrev pub new_judged : Span → Option (Name Use Sense) → Mark Use → Option Sense → Tables → Asked → Judgement Typed
new_judged place handle mark value tables asked =
    both (handle_given tables asked handle) (following (mark_judged tables (told_at place mark.first) mark.rest) (object_judged tables place asked value)) >>= (λ r.
    doing (making r.1.1.0 r.1.0 r.1.1.1) (record { ty = ty.Access r.1.1.0; value = e.New r.1.1.0 r.1.0 r.0 r.1.1.1 }))

-- What is put (A.10.7; profile) --------------------------------------------------------------------------

-- an expression that is no string is wrong itself, once nothing in it is
abbrev pub no_text : Span → (Tables → Asked → Judgement Typed) → Tables → Judgement (List Piece)
no_text place judged tables = judged tables Anything >>= (λ t. wrong rule.Type place)

abbrev pub image_piece : Ty → Expr → Piece
image_piece ty.Boolean x = piece.BooleanImage x
image_piece t x = piece.IntegerImage x

abbrev pub text_found : Span → Found → Judgement (List Piece)
text_found place (Imaged t) = known (image_piece t.ty t.value ∷ [])
text_found place f = wrong rule.Type place

abbrev pub name_texts : Use → List (Suffix Sense) → Tables → Judgement (List Piece)
name_texts u xs tables = found u xs tables >>= settled tables u.span >>= text_found u.span

abbrev pub all_joining : List (Operand Sense) → Bool
all_joining [] = true
all_joining (o ∷ os) = is_joining o.operator && all_joining os

abbrev pub operand_texts : Tables → List (Operand Sense) → Judgement (List (List Piece))
operand_texts tables os n = each (λ o. o.operand.texts tables) (Some []) os n

abbrev pub together : {A : Type 0} → List (List A) → List A
together [] = []
together (x ∷ xs) = x ++ together xs

-- literals and images that `&` joins (4.5.3)
abbrev pub chain_texts : Span → Sense → List (Operand Sense) → Tables → Judgement (List Piece)
chain_texts place x os tables =
    if all_joining os then (both (x.texts tables) (operand_texts tables os) >>= (λ r. known (r.0 ++ together r.1))) else no_text place (chain_judged place x os) tables

-- Expressions -----------------------------------------------------------------------------------------

-- operations on literals alone take on a type as literals do
abbrev pub joint : Adopts → Adopts → Adopts
joint Numbers Numbers = Numbers
joint a b = Nothing

abbrev pub all_adopt : Adopts → List (Operand Sense) → Adopts
all_adopt a [] = a
all_adopt a (o ∷ os) = all_adopt (joint a o.operand.adopts) os

abbrev pub of_unary : UnaryOperator → Adopts → Adopts
of_unary unary.Not a = Nothing
of_unary o a = joint a a

-- an expression that is no name and no string
abbrev pub plain : Span → Adopts → (Tables → Asked → Judgement Typed) → Sense
plain place a judged = record { place = place; within = place; adopts = a; judged = judged; bare = None; named = None; texts = no_text place judged }

abbrev pub string_sense : Span → List ℕ → Sense
string_sense place s =
    record { place = place; within = place; adopts = Nothing; judged = λ tables asked. wrong rule.Type place; bare = None; named = None; texts = λ tables. known (piece.Text s ∷ []) }

abbrev pub chain_sense : Span → Sense → List (Operand Sense) → Sense
chain_sense place x os =
    record { place = place; within = place; adopts = all_adopt x.adopts os; judged = chain_judged place x os; bare = None; named = None; texts = chain_texts place x os }

abbrev pub name_sense : Span → Use → List (Suffix Sense) → Sense
name_sense place u xs =
    record { place = place; within = place; adopts = Nothing; judged = name_judged u xs; bare = Some (found u xs); named = Some (found u xs); texts = name_texts u xs }

abbrev pub enclosed_sense : Span → Sense → Sense
enclosed_sense place x = record { place = place; within = x.within; adopts = x.adopts; judged = x.judged; bare = None; named = x.named; texts = x.texts }

abbrev pub step_of : Expression-F Use Sense → Sense
step_of (Expression-F.Logical place o a b more) = plain place Nothing (logical_judged place o a b more)
step_of (Expression-F.Relation place o l r) = plain place Nothing (relation_judged place o l r)
step_of (Expression-F.Chain place x o os) = chain_sense place x (o ∷ os)
step_of (Expression-F.Unary place o x) = plain place (of_unary o x.adopts) (unary_judged place o x)
step_of (Expression-F.Number place m) = plain place Numbers (number_judged place m)
step_of (Expression-F.String place s) = string_sense place s
step_of (Expression-F.Null place) = plain place Accesses (null_judged place)
step_of (Expression-F.Name place u) = name_sense place u.first u.suffixes
step_of (Expression-F.Parentheses place x) = enclosed_sense place x
step_of (Expression-F.New place handle mark value) = plain place Nothing (new_judged place handle mark value)

-- what an expression is, over what is known at its place
abbrev pub sense : Expression Use → Sense
sense = fold-Expression Use Sense step_of

-- the type and the checked form of an expression
abbrev pub expression : Expression Use → Tables → Asked → Judgement Typed
expression x = (sense x).judged
