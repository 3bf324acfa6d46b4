-- Objects, exceptions, instances and headings of subprograms as they are declared (3.3.1, 11.1, 12.3, 6.1, 8.3.1).
use Rattle.std.specs.Prelude.{ℕ, zero, suc, Bool, true, false, ◌&&◌, ◌||◌, not, if◌then◌else◌, nat_eq, List, [], ◌∷◌, ◌++◌, length, map, slice_get, Option, Some, None, option_map}
use Rattle.ctl_resolve.specs.Library.{operation_named}
use Rattle.ctl_tree.specs.declared.span.Span.{Span}
use Rattle.ctl_tree.specs.declared.fault.FaultCode.TheVariants as rule
use Rattle.ctl_program.specs.declared.types.Ty.{Ty}
use Rattle.ctl_program.specs.declared.types.Ty.TheVariants as ty
use Rattle.ctl_program.specs.declared.types.Operations.{Operations}
use Rattle.ctl_program.specs.declared.expression.Expr.{Expr}
use Rattle.ctl_program.specs.declared.statement.Association.{Association as Checked_association}
use Rattle.ctl_program.specs.declared.statement.Item.{Item as Checked_item}
use Rattle.ctl_program.specs.declared.statement.Item.TheVariants as made
use Rattle.ctl_syntax.specs.declared.denoted.Denoted.{Denoted}
use Rattle.ctl_syntax.specs.declared.denoted.Denoted.TheVariants as denoted
use Rattle.ctl_syntax.specs.declared.denoted.Definition.{Definition}
use Rattle.ctl_syntax.specs.declared.denoted.LibraryName.TheVariants as library
use Rattle.ctl_syntax.specs.declared.denoted.OperationName.{OperationName}
use Rattle.ctl_syntax.specs.declared.denoted.OperationName.TheVariants.{Initialize, Adjust, Finalize, Allocate, Deallocate}
use Rattle.ctl_syntax.specs.declared.denoted.Use.{Use}
use Rattle.ctl_syntax.specs.declared.item.Aliasing.{Aliasing}
use Rattle.ctl_syntax.specs.declared.item.Aliasing.TheVariants as aliasing
use Rattle.ctl_syntax.specs.declared.item.Association.{Association}
use Rattle.ctl_syntax.specs.declared.item.Constancy.{Constancy}
use Rattle.ctl_syntax.specs.declared.item.Constancy.TheVariants as constancy
use Rattle.ctl_syntax.specs.declared.item.Formal.{Formal}
use Rattle.ctl_syntax.specs.declared.item.Indicator.{Indicator}
use Rattle.ctl_syntax.specs.declared.item.Indicator.TheVariants as indicator
use Rattle.ctl_syntax.specs.declared.item.Mode.{Mode}
use Rattle.ctl_syntax.specs.declared.item.Mode.TheVariants as mode
use Rattle.ctl_syntax.specs.declared.item.Objects.{Objects}
use Rattle.ctl_syntax.specs.declared.item.Specification.{Specification}
use Rattle.ctl_syntax.specs.declared.name.Identifier.{Identifier}
use Rattle.ctl_syntax.specs.declared.name.Mark.{Mark}
use Rattle.ctl_syntax.specs.declared.name.Suffix.{Suffix}
use Rattle.ctl_typing.specs.declared.notes.Deed.{Deed}
use Rattle.ctl_typing.specs.declared.notes.Deed.TheVariants.{Freezes, Initializes}
use Rattle.ctl_typing.specs.declared.notes.Notes.{Notes}
use Rattle.ctl_typing.specs.declared.table.Tables.{Tables}
use Rattle.ctl_typing.specs.declared.table.Entry.TheVariants as entry
use Rattle.ctl_typing.specs.declared.table.FormalEntry.{FormalEntry}
use Rattle.ctl_typing.specs.declared.table.Mutability.{Mutability}
use Rattle.ctl_typing.specs.declared.table.Mutability.TheVariants as mutability
use Rattle.ctl_typing.specs.declared.table.RecordEntry.{RecordEntry}
use Rattle.ctl_typing.specs.declared.table.RecordState.{RecordState}
use Rattle.ctl_typing.specs.declared.table.Standing.TheVariants as standing
use Rattle.ctl_typing.specs.declared.found.Asked.{Asked}
use Rattle.ctl_typing.specs.declared.found.Asked.TheVariants.{Anything, Exactly}
use Rattle.ctl_draft.specs.declared.associations.Associated.TheVariants.{Discriminants, Deallocation}
use Rattle.ctl_typing.specs.declared.found.Found.{Found}
use Rattle.ctl_typing.specs.declared.found.Found.TheVariants.{TypeName}
use Rattle.ctl_draft.specs.declared.draft.Draft.{Draft}
use Rattle.ctl_draft.specs.declared.draft.Around.{Around}
use Rattle.ctl_draft.specs.declared.draft.Order.{Order}
use Rattle.ctl_draft.specs.declared.draft.Order.TheVariants as order
use Rattle.ctl_draft.specs.declared.draft.Role.{Role}
use Rattle.ctl_draft.specs.declared.draft.Role.TheVariants as role
use Rattle.ctl_typing.specs.Judgement.{Judgement, known, but, wrong, unresolved, ◌>>=◌, both, followed_by, each}
use Rattle.ctl_typing.specs.Lookup.{same, root_of, is_limited, designated_by}
use Rattle.ctl_typing.specs.Typing.{Sense, sense, found, together, designates_this}
use Rattle.ctl_draft.specs.Draft.{Doing, by_tables, early_when, fault_when, asking, deeds_of, asked, declare, declare_object, enter}
use Rattle.ctl_draft.specs.Marks.{is_root_pool, named_type, concrete_type, no_pool, is_pool, has_controlled, positions, root_of_type}
use Rattle.ctl_draft.specs.Freezing.{changed, with_records, is_free_type, done_by}
use Rattle.ctl_draft.specs.Operations.{provides, operation_formals, formal}
use Rattle.ctl_declarations.specs.Types.{is_given, record_type, extension}
use Rattle.ctl_access_types.specs.AccessTypes.{access_type}
use Rattle.ctl_syntax.specs.declared.item.Definition.{Definition as Type_definition}
use Rattle.ctl_syntax.specs.declared.item.Definition.TheVariants as definition
use Rattle.ctl_syntax.specs.declared.item.Taggedness.{Taggedness}

-- Names of operations (7.6, 13.11) --------------------------------------------------------------------------

-- what is no subprogram has no name of an operation (profile)
abbrev pub name_kept : Definition → Draft → Draft
name_kept n d = fault_when (is_given (operation_named n.identifier.text)) rule.Override n.identifier.span d

abbrev pub names_kept : List Definition → Draft → Draft
names_kept [] d = d
names_kept (n ∷ ns) d = names_kept ns (name_kept n d)

-- Types, by their definitions or without one (3.2.1, 3.10.1) -------------------------------------------------------

abbrev pub defined_by : Span → Definition → Type_definition Use → Around → Draft → List Checked_item × Draft
defined_by place name (definition.Record l cs) around d = record_type place name.number l cs around d
defined_by place name (definition.Extension m cs) around d = extension place name.number m cs around d
defined_by place name (definition.Access g m c pool) around d = access_type place name g m c pool around d

abbrev pub definition_of : Span → Definition → Type_definition Use → Around → Draft → List Checked_item × Draft
definition_of place name def around d = defined_by place name def around (name_kept name d)

abbrev pub incomplete : Definition → Taggedness → Around → Draft → List Checked_item × Draft
incomplete name t around d = (made.Silent ∷ [], enter around name.number (entry.Incomplete t) (name_kept name d))

-- Objects (3.3.1) ------------------------------------------------------------------------------------------

abbrev pub is_aliased : Aliasing → Bool
is_aliased aliasing.Aliased = true
is_aliased aliasing.Unaliased = false

abbrev pub is_constant : Constancy → Bool
is_constant constancy.Constant = true
is_constant constancy.Variable = false

abbrev pub mutability_of : Constancy → Mutability
mutability_of constancy.Constant = mutability.Constant
mutability_of constancy.Variable = mutability.Variable

-- a pool is not aliased (profile)
abbrev pub no_aliased_pool : Tables → Span → Aliasing → Ty → Judgement Ty
no_aliased_pool tables place aliasing.Aliased t = no_pool tables place t
no_aliased_pool tables place aliasing.Unaliased t = known t

abbrev pub object_type : Span → Objects Definition Use → Tables → Judgement Ty
object_type place o tables = concrete_type tables place o.mark >>= no_aliased_pool tables o.mark.first.span o.aliasing

abbrev pub asked_of : Option Ty → Asked
asked_of None = Anything
asked_of (Some t) = Exactly t

abbrev pub value_of : Option Ty → Option Sense → Tables → Judgement (Option Expr)
value_of t None tables = known None
value_of t (Some x) tables = x.judged tables (asked_of t) >>= (λ r. known (Some r.value))

abbrev pub discriminant : Tables → ℕ × Association Use → Judgement Checked_association
discriminant tables p = (sense p.1.value).judged tables (Exactly ty.Count) >>= (λ r. known (record { position = p.0; value = r.value }))

abbrev pub discriminants_at : List ℕ → List (Association Use) → List (ℕ × Association Use)
discriminants_at [] as' = []
discriminants_at (n ∷ ns) [] = []
discriminants_at (n ∷ ns) (a ∷ as') = (n, a) ∷ discriminants_at ns as'

abbrev pub anything : Tables → Association Use → Judgement Expr
anything tables a = (sense a.value).judged tables Anything >>= (λ r. known r.value)

-- those that are wrong in number or name are judged without a type
abbrev pub discriminants_by : Span → Option (List ℕ) → List (Association Use) → Tables → Judgement (List Checked_association)
discriminants_by place (Some ns) as' tables = λ n. each (discriminant tables) (Some []) (discriminants_at ns as') n
discriminants_by place None as' tables = (λ n. each (anything tables) (Some []) as' n) >>= (λ xs. wrong rule.Type place)

-- a pool has all its discriminants, and nothing else has any (3.7.1)
abbrev pub discriminants_given : Span → Option Ty → List (Association Use) → Tables → Judgement (List Checked_association)
discriminants_given place None as' tables = (λ n. each (anything tables) (Some []) as' n) >>= (λ xs. known [])
discriminants_given place (Some t) as' tables = discriminants_by place (positions (Discriminants (root_of_type tables t)) as') as' tables

abbrev pub object_item : Tables → Ty → ℕ → List Checked_association → Option Expr → Checked_item
object_item tables (ty.Record t) slot as' v = if is_pool tables (ty.Record t) then made.Pool slot t as' else made.Object slot (ty.Record t) v
object_item tables t slot as' v = made.Object slot t v

-- what is known of an object: its type, its discriminants and its value
abbrev pub object_made : Tables → ℕ → Option Ty → Option (List Checked_association) → Option (Option Expr) → Option (List Checked_item)
object_made tables slot (Some t) (Some as') (Some v) = Some (object_item tables t slot as' v ∷ [])
object_made tables slot t as' v = None

abbrev pub declare_as : Around → Objects Definition Use → Option Ty → Draft → Draft
declare_as around o None d = declare entry.Unknown d
declare_as around o (Some t) d = declare_object around t standing.Declared (mutability_of o.constancy) o.aliasing d

-- the object may stand too early where a body stands behind it
abbrev pub wait : Order → Span → Ty → List Deed → Draft → Draft
wait order.BeforeBody place t ds d = record d { waiting = d.waiting ++ (record { span = place; ty = t; deeds = ds }) ∷ [] }
wait order.BehindBodies place t ds d = d

abbrev pub wait_as : Order → Span → Option Ty → Draft → Draft
wait_as o place None d = wait o place ty.Integer (deeds_of d) d
wait_as o place (Some t) d = wait o place t (deeds_of d) d

-- an object freezes its type (13.14(6)); without a value it begins with its defaults
abbrev pub object_deeds : Option Ty → Bool → List Deed
object_deeds None given = []
object_deeds (Some t) true = Freezes t ∷ []
object_deeds (Some t) false = Freezes t ∷ Initializes t ∷ []

abbrev pub limited_as : Tables → Option Ty → Bool
limited_as tables None = false
limited_as tables (Some t) = is_limited tables t

abbrev pub with_layers : Option (List Checked_item) → List Checked_item → Option (List Checked_item)
with_layers None layers = None
with_layers (Some is) layers = Some (layers ++ is)

abbrev pub object_declared : Around → Objects Definition Use → Option Ty → Option (List Checked_item) → List Checked_item × Draft → Option (List Checked_item) × Draft
object_declared around o t is (layers, d) = (with_layers is layers, declare_as around o t d)

abbrev pub object_frozen : Around → Objects Definition Use → Option Ty → Option (List Checked_item) → Draft → Option (List Checked_item) × Draft
object_frozen around o t is d = object_declared around o t is (done_by around (object_deeds t (is_given o.value) ++ deeds_of d) (asked d))

-- a constant has a value (3.3.1(5)), and a limited object, of this name, has none (7.5)
abbrev pub value_kept : Span → Objects Definition Use → Span → Option Ty → Draft → Draft
value_kept place o name t d =
    fault_when ((limited_as d.tables t || is_root_pool o.mark) && is_given o.value) rule.Limited name (fault_when (is_constant o.constancy && not (is_given o.value)) rule.Type place d)

abbrev pub object_kept : Around → Order → Span → Objects Definition Use → Span → Option Ty → Option (List Checked_item) → Draft → Option (List Checked_item) × Draft
object_kept around order place o name t is d = object_frozen around o t is (wait_as order name t (value_kept place o name t d))

abbrev pub object_valued : Around → Order → Span → Objects Definition Use → Span → Option Ty → Option (List Checked_association) → Option (Option Expr) × Draft → Option (List Checked_item) × Draft
object_valued around order place o name t as' (v, d) = object_kept around order place o name t (object_made d.tables (length d.slots) t as' v) d

abbrev pub object_given : Around → Order → Span → Objects Definition Use → Span → Option Ty → Option (List Checked_association) × Draft → Option (List Checked_item) × Draft
object_given around order place o name t (as', d) = object_valued around order place o name t as' (by_tables (value_of t (option_map sense o.value)) d)

abbrev pub object_typed : Around → Order → Span → Objects Definition Use → Span → Option Ty × Draft → Option (List Checked_item) × Draft
object_typed around order place o name (t, d) = object_given around order place o name t (by_tables (discriminants_given place t o.discriminants) d)

-- one object
abbrev pub object : Around → Order → Span → Objects Definition Use → Definition → Doing (List Checked_item)
object around order place o name d = object_typed around order place o name.identifier.span (by_tables (object_type place o) (asking d))

abbrev pub objects_named : Around → Order → Span → Objects Definition Use → List Definition → Doing (List (List Checked_item))
objects_named around order place o names d = each (object around order place o) (Some []) names d

-- `A, B : T` are two (3.3.1(7))
abbrev pub objects : Span → Objects Definition Use → Order → Around → Doing (List Checked_item)
objects place o order around d = (objects_named around order place o o.names >>= (λ is. known (together is))) (names_kept o.names d)

-- Exceptions (11.1) --------------------------------------------------------------------------------------------

abbrev pub exception : Definition → Draft → Draft
exception name d = declare (entry.Exception (length d.exceptions)) (record d { exceptions = d.exceptions ++ name.identifier.text ∷ [] })

-- those of each name, behind the items so far
abbrev pub exceptions_on : List Checked_item → List Definition → Draft → List Checked_item × Draft
exceptions_on before [] d = (before, d)
exceptions_on before (n ∷ ns) d = exceptions_on (before ++ made.Silent ∷ []) ns (exception n d)

abbrev pub exceptions : List Definition → Draft → List Checked_item × Draft
exceptions ns d = exceptions_on [] ns (names_kept ns d)

-- Instances of Ada.Unchecked_Deallocation (12.3, 13.11.2) ----------------------------------------------------------

abbrev pub type_found : Span → Found → Judgement Ty
type_found place (TypeName t) = known t
type_found place f = wrong rule.Type place

-- what is no type is told of at the item, also where it is wrong itself
abbrev pub type_known : Span → Option Found → Judgement Ty
type_known place None = wrong rule.Type place
type_known place (Some f) = type_found place f

abbrev pub type_named : Span → Use → List (Suffix Sense) → Tables → Judgement Ty
type_named place u xs tables = followed_by (found u xs tables) (type_known place)

abbrev pub type_by : Tables → Span → Option (Tables → Judgement Found) → Judgement Ty
type_by tables place None = wrong rule.Type place
type_by tables place (Some name) = followed_by (name tables) (type_known place)

abbrev pub actual_type : Tables → Span → Sense → Judgement Ty
actual_type tables place x = type_by tables place x.bare

-- the access type designates the object type
abbrev pub deallocated : Tables → Span → Ty → Ty → Judgement (ℕ × Ty)
deallocated tables place t (ty.Access a) = if designates_this t (designated_by tables a) then known (a, t) else wrong rule.Type place
deallocated tables place t s = wrong rule.Type place

-- by the actual for the object type, and that for the access type
abbrev pub instance_types : Tables → Span → Sense → Sense → Judgement (ℕ × Ty)
instance_types tables place x y = both (actual_type tables place x) (actual_type tables place y) >>= (λ r. deallocated tables place r.0 r.1)

-- by the position that the first actual is given for
abbrev pub instance_with : Tables → Span → ℕ → Sense → Sense → Judgement (ℕ × Ty)
instance_with tables place zero x y = instance_types tables place x y
instance_with tables place (suc n) x y = instance_types tables place y x

abbrev pub instance_at : Tables → Span → List ℕ → List (Association Use) → Judgement (ℕ × Ty)
instance_at tables place (n ∷ m ∷ []) (x ∷ y ∷ []) = instance_with tables place n (sense x.value) (sense y.value)
instance_at tables place ns as' = wrong rule.Type place

abbrev pub instance_by : Tables → Span → Option (List ℕ) → List (Association Use) → Judgement (ℕ × Ty)
instance_by tables place None as' = wrong rule.Type place
instance_by tables place (Some ns) as' = instance_at tables place ns as'

abbrev pub instance_given : Tables → Span → List (Association Use) → Judgement (ℕ × Ty)
instance_given tables place as' = instance_by tables place (positions Deallocation as') as'

abbrev pub instance_denoted : Tables → Span → Denoted → List (Association Use) → Judgement (ℕ × Ty)
instance_denoted tables place (denoted.Library library.UncheckedDeallocation) as' = instance_given tables place as'
instance_denoted tables place denoted.Unknown as' = unresolved place
instance_denoted tables place d as' = wrong rule.Type place

abbrev pub instance_marked : Tables → Span → Use → List Identifier → List (Association Use) → Judgement (ℕ × Ty)
instance_marked tables place u [] as' = instance_denoted tables place u.denoted as'
instance_marked tables place u (i ∷ is) as' = wrong rule.Type place

abbrev pub instance_of : Span → Mark Use → List (Association Use) → Tables → Judgement (ℕ × Ty)
instance_of place m as' tables = instance_marked tables place m.first m.rest as'

abbrev pub instance_declared : ℕ → List Checked_item × Draft → Option (List Checked_item) × Draft
instance_declared a (layers, d) = (Some (layers ++ made.Silent ∷ []), declare (entry.Deallocation a) d)

abbrev pub instance_frozen : Around → ℕ → Ty → Doing (List Checked_item)
instance_frozen around a t d = instance_declared a (done_by around (Freezes t ∷ Freezes (ty.Access a) ∷ []) d)

abbrev pub instance_known : Around → Option (ℕ × Ty) × Draft → Option (List Checked_item) × Draft
instance_known around (None, d) = (None, declare entry.Unknown d)
instance_known around (Some p, d) = instance_frozen around p.0 p.1 d

-- an instance freezes the types that it names (13.14(5))
abbrev pub instance : Span → Definition → Mark Use → List (Association Use) → Around → Doing (List Checked_item)
instance place name m as' around d = instance_known around (by_tables (instance_of place m as') (name_kept name d))

-- Headings (6.1) -----------------------------------------------------------------------------------------------------

abbrev pub formal_type : Tables → Span → Formal Definition Use → Judgement (List FormalEntry)
formal_type tables place f = named_type tables place f.mark >>= (λ t. known (map (λ n. formal f.mode t) f.names))

abbrev pub more_formals : Option (List FormalEntry) → Option (List FormalEntry) → Option (List FormalEntry)
more_formals None more = None
more_formals (Some before) None = None
more_formals (Some before) (Some more) = Some (before ++ more)

abbrev pub formals_next : Tables → Span → Option (List FormalEntry) → Option (List FormalEntry) × Notes → List (Formal Definition Use) → Option (List FormalEntry) × Notes
formals_next tables place before (more, n) [] = (more_formals before more, n)
formals_next tables place before (more, n) (f ∷ fs) = formals_next tables place (more_formals before more) (formal_type tables place f n) fs

-- those of each, behind those so far; known where each of them is
abbrev pub formals_on : Tables → Span → Option (List FormalEntry) → List (Formal Definition Use) → Judgement (List FormalEntry)
formals_on tables place before [] n = (before, n)
formals_on tables place before (f ∷ fs) n = formals_next tables place before (formal_type tables place f n) fs

abbrev pub formal_types : Span → List (Formal Definition Use) → Tables → Judgement (List FormalEntry)
formal_types place fs tables = formals_on tables place (Some []) fs

abbrev pub is_in : Mode → Bool
is_in mode.In = true
is_in m = false

abbrev pub not_in : Mode → List Definition → Draft → Draft
not_in m [] d = d
not_in m (n ∷ ns) d = not_in m ns (fault_when (not (is_in m)) rule.Mode n.identifier.span d)

-- a function's parameters are of mode `in` (profile)
abbrev pub only_in : List (Formal Definition Use) → Draft → Draft
only_in [] d = d
only_in (f ∷ fs) d = only_in fs (not_in f.mode f.names d)

-- a function returns no limited type, and none with controlled parts (profile)
abbrev pub returned : Tables → Span → Ty → Judgement Ty
returned tables place t = if is_limited tables t || has_controlled tables t then but rule.Limited place t else known t

abbrev pub returned_type : Tables → Span → Mark Use → Judgement Ty
returned_type tables place m =
    if is_root_pool m then wrong rule.Limited m.first.span else (named_type tables place m >>= returned tables m.first.span)

abbrev pub result_type : Span → Option (Mark Use) → Tables → Judgement (Option Ty)
result_type place None tables = known None
result_type place (Some m) tables = returned_type tables place m >>= (λ t. known (Some t))

-- the types of a subprogram's formals, and of its result
abbrev pub heading_types : Span → Specification Definition Use → Tables → Judgement (List FormalEntry × Option Ty)
heading_types place s tables = both (formal_types place s.formals tables) (result_type place s.result tables)

abbrev pub modes_kept : Option (Mark Use) → List (Formal Definition Use) → Draft → Draft
modes_kept None fs d = d
modes_kept (Some m) fs d = only_in fs d

abbrev pub heading : Span → Specification Definition Use → Doing (List FormalEntry × Option Ty)
heading place s d = by_tables (heading_types place s) (modes_kept s.result s.formals d)

-- Overriding (3.2.3, 7.6, 8.3.1, 13.11) --------------------------------------------------------------------------------

abbrev pub same_mode : Mode → Mode → Bool
same_mode mode.In mode.In = true
same_mode mode.Out mode.Out = true
same_mode mode.InOut mode.InOut = true
same_mode m n = false

abbrev pub same_formals : List FormalEntry → List FormalEntry → Bool
same_formals [] [] = true
same_formals (f ∷ fs) (g ∷ gs) = same_mode f.mode g.mode && same f.ty g.ty && same_formals fs gs
same_formals fs gs = false

abbrev pub is_at_level : ℕ → Option RecordEntry → Bool
is_at_level level None = false
is_at_level level (Some r) = nat_eq r.level level

-- whether a subprogram with these formals is this operation of a type of the same part
abbrev pub is_operation : Tables → ℕ → OperationName → ℕ → List FormalEntry → Bool
is_operation tables level o t fs =
    is_at_level level (slice_get tables.records t) && provides (root_of (slice_get tables.records t)) (is_limited tables (ty.Record t)) o
    && same_formals fs (operation_formals o (ty.Record t))

abbrev pub overriding_first : Tables → ℕ → OperationName → List FormalEntry → Ty → Role
overriding_first tables level o fs (ty.Record t) = if is_operation tables level o t fs then role.Overrides o t else role.Misplaced
overriding_first tables level o fs t = role.Misplaced

abbrev pub overriding_by : Tables → ℕ → OperationName → List FormalEntry → Option Ty → Role
overriding_by tables level o (f ∷ fs) None = overriding_first tables level o (f ∷ fs) f.ty
overriding_by tables level o fs r = role.Misplaced

abbrev pub role_by : Tables → ℕ → Indicator → Option OperationName → List FormalEntry → Option Ty → Role
role_by tables level i (Some o) fs r = overriding_by tables level o fs r
role_by tables level indicator.Overriding None fs r = role.Misplaced
role_by tables level indicator.Absent None fs r = role.Plain

abbrev pub with_operation : OperationName → ℕ → Operations → Operations
with_operation Initialize s os = record os { initialize = Some s }
with_operation Adjust s os = record os { adjust = Some s }
with_operation Finalize s os = record os { finalize = Some s }
with_operation Allocate s os = record os { allocate = Some s }
with_operation Deallocate s os = record os { deallocate = Some s }

abbrev pub overridden : OperationName → ℕ → RecordState → RecordState
overridden o s r = record r { operations = with_operation o s r.operations }

-- the type calls this subprogram from here on; once it is frozen, it is too late (13.14(16))
abbrev pub override : Span → OperationName → ℕ → ℕ → Draft → Draft
override place o t s d =
    early_when (not (is_free_type d.tables.states (ty.Record t))) rule.LatePrimitive place
    (with_records (changed (overridden o s) t d.tables.states.records) d)

abbrev pub play : Span → ℕ → Role → Draft → Draft
play place s role.Plain d = d
play place s role.Misplaced d = fault_when true rule.Override place d
play place s (role.Overrides o t) d = override place o t s d

abbrev pub role_of : Around → Specification Definition Use → Option (List FormalEntry × Option Ty) → Tables → Role
role_of around s None tables = role.Plain
role_of around s (Some h) tables = role_by tables around.level s.indicator (operation_named s.name.identifier.text) h.0 h.1

-- a body that completes a declaration says `overriding` only where that is an operation (8.3.1(4)); whether it overrides was told there
abbrev pub is_unfounded : Indicator → Option OperationName → Bool
is_unfounded indicator.Overriding None = true
is_unfounded i o = false

abbrev pub indicator_kept : Specification Definition Use → Draft → Draft
indicator_kept s d = fault_when (is_unfounded s.indicator (operation_named s.name.identifier.text)) rule.Override s.name.identifier.span d

-- Formals in view (6.1) ------------------------------------------------------------------------------------------------

abbrev pub formal_mutability : Mode → Mutability
formal_mutability mode.In = mutability.Constant
formal_mutability m = mutability.Variable

abbrev pub enter_formal_as : Around → Mode → Option Ty → Draft → Draft
enter_formal_as around m None d = declare entry.Unknown d
enter_formal_as around m (Some t) d = declare_object around t standing.Formal (formal_mutability m) aliasing.Unaliased d

abbrev pub enter_names : Around → Mode → Option Ty → List Definition → Draft → Draft
enter_names around m t [] d = d
enter_names around m t (n ∷ ns) d = enter_names around m t ns (enter_formal_as around m t d)

abbrev pub enter_typed : Around → Formal Definition Use → Option Ty × Draft → Draft
enter_typed around f (t, d) = enter_names around f.mode t f.names d

abbrev pub enter_formal : Around → Span → Formal Definition Use → Draft → Draft
enter_formal around place f d = enter_typed around f (by_tables (λ tables. named_type tables place f.mark) d)

abbrev pub enter_formals : Around → Span → List (Formal Definition Use) → Draft → Draft
enter_formals around place [] d = d
enter_formals around place (f ∷ fs) d = enter_formals around place fs (enter_formal around place f d)
