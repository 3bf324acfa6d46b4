-- Types and their components as they are declared (3.8, 3.9.1, 3.10, 13.11), and the pools of access types.
use Rattle.std.specs.Prelude.{ℕ, ◌+◌, Bool, true, false, ◌&&◌, ◌||◌, if◌then◌else◌, nat_eq, nat_le, List, [], ◌∷◌, ◌++◌, length, slice_get, Option, Some, None, option_map}
use Rattle.ctl_tree.specs.declared.span.Span.{Span}
use Rattle.ctl_tree.specs.declared.fault.FaultCode.TheVariants as rule
use Rattle.ctl_program.specs.declared.types.Ty.{Ty}
use Rattle.ctl_program.specs.declared.types.Ty.TheVariants as ty
use Rattle.ctl_program.specs.declared.types.Root.{Root}
use Rattle.ctl_program.specs.declared.types.Root.TheVariants as root
use Rattle.ctl_program.specs.declared.types.Var.{Var}
use Rattle.ctl_program.specs.declared.types.Component.{Component}
use Rattle.ctl_program.specs.declared.expression.Expr.{Expr}
use Rattle.ctl_program.specs.declared.statement.Item.{Item as Checked_item}
use Rattle.ctl_program.specs.declared.statement.Item.TheVariants as made
use Rattle.ctl_syntax.specs.declared.denoted.Denoted.{Denoted}
use Rattle.ctl_syntax.specs.declared.denoted.Denoted.TheVariants as denoted
use Rattle.ctl_syntax.specs.declared.denoted.LibraryName.{LibraryName}
use Rattle.ctl_syntax.specs.declared.denoted.LibraryName.TheVariants as library
use Rattle.ctl_syntax.specs.declared.denoted.Use.{Use}
use Rattle.ctl_syntax.specs.declared.item.Components.{Components}
use Rattle.ctl_syntax.specs.declared.item.Limitation.{Limitation}
use Rattle.ctl_syntax.specs.declared.item.Limitation.TheVariants as limitation
use Rattle.ctl_syntax.specs.declared.name.Identifier.{Identifier}
use Rattle.ctl_syntax.specs.declared.name.Mark.{Mark}
use Rattle.ctl_typing.specs.declared.notes.Deed.TheVariants.{Freezes}
use Rattle.ctl_typing.specs.declared.table.Tables.{Tables}
use Rattle.ctl_typing.specs.declared.table.Entry.{Entry}
use Rattle.ctl_typing.specs.declared.table.Entry.TheVariants as entry
use Rattle.ctl_typing.specs.declared.table.RecordEntry.{RecordEntry}
use Rattle.ctl_typing.specs.declared.table.RecordState.{RecordState}
use Rattle.ctl_typing.specs.declared.table.ComponentEntry.{ComponentEntry}
use Rattle.ctl_typing.specs.declared.table.AccessEntry.{AccessEntry}
use Rattle.ctl_typing.specs.declared.table.Beginning.{Beginning}
use Rattle.ctl_typing.specs.declared.table.Beginning.TheVariants as beginning
use Rattle.ctl_typing.specs.declared.table.Concreteness.TheVariants as concreteness
use Rattle.ctl_typing.specs.declared.table.Control.{Control}
use Rattle.ctl_typing.specs.declared.table.Control.TheVariants as control
use Rattle.ctl_typing.specs.declared.table.Defaults.TheVariants.{Unused}
use Rattle.ctl_typing.specs.declared.table.Freezing.TheVariants.{Free}
use Rattle.ctl_typing.specs.declared.found.Asked.TheVariants.{Exactly}
use Rattle.ctl_draft.specs.declared.draft.Draft.{Draft}
use Rattle.ctl_draft.specs.declared.draft.Around.{Around}
use Rattle.ctl_draft.specs.declared.draft.Enclosing.{Enclosing}
use Rattle.ctl_typing.specs.Judgement.{Judgement, known, but, wrong, unresolved, ◌>>=◌, each, with_early}
use Rattle.ctl_typing.specs.Lookup.{component_of, root_of, is_limited}
use Rattle.ctl_typing.specs.Typing.{Sense, sense, discriminant_named, together}
use Rattle.ctl_draft.specs.Draft.{Doing, by_tables, early_when, asking, deeds_of, asked, enter}
use Rattle.ctl_draft.specs.Marks.{concrete_type, named_type, is_alone, is_root_pool, no_pool, has_controlled, pool_named}
use Rattle.ctl_draft.specs.Names.{is_name_among}
use Rattle.ctl_draft.specs.Freezing.{changed, with_accesses, is_free_type, done_by}
use Rattle.ctl_draft.specs.Operations.{operations_of}
use Rattle.ctl_access_types.specs.AccessTypes.{enter_type, no_pool_awaited, untagged_kept, pool_for}

-- Components (3.8) --------------------------------------------------------------------------------

abbrev pub is_name_of : ℕ → Denoted → Bool
is_name_of number (denoted.Declared n level) = nat_eq n number
is_name_of number d = false

-- the type of a component: a type with objects, and no pool; not the record itself (3.8, profile)
abbrev pub component_type : Tables → Enclosing → Span → Mark Use → Judgement Ty
component_type tables within place m =
    if is_name_of within.number m.first.denoted && is_alone m
    then wrong rule.SelfContained place
    else (concrete_type tables within.place m >>= no_pool tables m.first.span)

-- whether the parent, if there is one, is not limited
abbrev pub is_unlimited : Option Limitation → Bool
is_unlimited (Some limitation.Nonlimited) = true
is_unlimited l = false

abbrev pub is_given : {A : Type 0} → Option A → Bool
is_given None = false
is_given (Some a) = true

-- a limited component has no default (7.5), and stands in no extension of a type that is not limited (3.9.1)
abbrev pub excludes_limited : Enclosing → Bool → Bool
excludes_limited within has_default = has_default || is_unlimited within.limitation

abbrev pub may_be_limited : Tables → Enclosing → Span → Bool → Ty → Judgement Ty
may_be_limited tables within place has_default t = if is_limited tables t && excludes_limited within has_default then but rule.Limited place t else known t

abbrev pub default_of : Tables → Option Ty → Option Sense → Judgement (Option Expr)
default_of tables t None = known None
default_of tables None (Some x) = λ n. (None, n)
default_of tables (Some t) (Some x) = x.judged tables (Exactly t) >>= (λ r. known (Some r.value))

abbrev pub beginning_of : {A : Type 0} → Option A → Beginning
beginning_of None = beginning.Default
beginning_of (Some a) = beginning.Value

abbrev pub inherited_count : Option RecordEntry → ℕ
inherited_count None = 0
inherited_count (Some r) = r.count

abbrev pub on_parent : Tables → Option ℕ → Option RecordEntry
on_parent tables None = None
on_parent tables (Some t) = slice_get tables.records t

abbrev pub last_position : ℕ → List ComponentEntry → ℕ
last_position count [] = count
last_position count (c ∷ cs) = last_position c.position cs

-- inherited components have the first positions (3.9.1)
abbrev pub next_position : Draft → Option ℕ → ℕ
next_position d parent = last_position (inherited_count (on_parent d.tables parent)) d.own + 1

abbrev pub has_inherited : Tables → List ℕ → Option ℕ → Bool
has_inherited tables name None = false
has_inherited tables name (Some t) = is_given (component_of tables name t) || is_given (discriminant_named (root_of (slice_get tables.records t)) name)

-- one of this name is there already (8.3(26), 3.9.1)
abbrev pub is_repeated : Draft → Option ℕ → List ℕ → Bool
is_repeated d parent name = is_name_among name d.own_names || has_inherited d.tables name parent

abbrev pub with_name : List ℕ → Draft → Draft
with_name name d = record d { own_names = d.own_names ++ name ∷ [] }

abbrev pub name_component : Enclosing → Identifier → Draft → Draft
name_component within i d = with_name i.text (early_when (is_repeated d within.parent i.text) rule.Duplicate i.span d)

abbrev pub component_entry : Enclosing → List ℕ → Beginning → Ty → Draft → ComponentEntry
component_entry within name b t d = record { name = name; position = next_position d within.parent; ty = t; beginning = b }

abbrev pub enter_component : Enclosing → List ℕ → Beginning → Option Ty → Draft → Draft
enter_component within name b None d = d
enter_component within name b (Some t) d = record d { own = d.own ++ component_entry within name b t d ∷ [] }

abbrev pub checked_component : Option Ty → Option (Option Expr) → Option Component
checked_component (Some t) (Some v) = Some (record { ty = t; default = v })
checked_component t v = None

abbrev pub component_made : Enclosing → Identifier → Beginning → Option Ty → Option (Option Expr) × Draft → Option Component × Draft
component_made within i b t (v, d) = (checked_component t v, enter_component within i.text b t d)

abbrev pub component_default : Enclosing → Identifier → Option Sense → Option Ty × Draft → Option Component × Draft
component_default within i value (t, d) = component_made within i (beginning_of value) t (by_tables (λ tables. default_of tables t value) d)

-- Root_Storage_Pool is limited, too
abbrev pub component_judged : Enclosing → Mark Use → Option Sense → Identifier → Tables → Judgement Ty
component_judged within m value i tables =
    if is_root_pool m && excludes_limited within (is_given value)
    then wrong rule.Limited i.span
    else (component_type tables within i.span m >>= may_be_limited tables within i.span (is_given value))

-- one component; `A, B : T` are two (3.8(17))
abbrev pub component : Enclosing → Mark Use → Option Sense → Identifier → Doing Component
component within m value i d = component_default within i value (by_tables (component_judged within m value i) (name_component within i d))

abbrev pub components_named : Enclosing → Mark Use → Option Sense → List Identifier → Doing (List Component)
components_named within m value is d = each (component within m value) (Some []) is d

abbrev pub components_of : Enclosing → Components Use → Doing (List Component)
components_of within c d = components_named within c.mark (option_map sense c.default) c.names d

abbrev pub component_rows : Enclosing → List (Components Use) → Doing (List (List Component))
component_rows within cs d = each (components_of within) (Some []) cs d

-- the components that a type adds to those of its parent
abbrev pub components : Enclosing → List (Components Use) → Doing (List Component)
components within cs = component_rows within cs >>= (λ rows. known (together rows))

abbrev pub without_own : Draft → Draft
without_own d = record d { own = []; own_names = [] }

-- Record types (3.8, 3.9.1) ---------------------------------------------------------------------------------

abbrev pub any_limited : Tables → List ComponentEntry → Bool
any_limited tables [] = false
any_limited tables (c ∷ cs) = is_limited tables c.ty || any_limited tables cs

-- a record that says so, or has a component that is, is limited (7.5)
abbrev pub limitation_of : Tables → Limitation → List ComponentEntry → Limitation
limitation_of tables limitation.Limited own = limitation.Limited
limitation_of tables limitation.Nonlimited own = if any_limited tables own then limitation.Limited else limitation.Nonlimited

abbrev pub any_controlled : Tables → List ComponentEntry → Bool
any_controlled tables [] = false
any_controlled tables (c ∷ cs) = has_controlled tables c.ty || any_controlled tables cs

abbrev pub is_tagged : Root → Bool
is_tagged root.Untagged = false
is_tagged r = true

abbrev pub control_of : Tables → Root → List ComponentEntry → Control
control_of tables r own = if is_tagged r || any_controlled tables own then control.Controlled else control.Uncontrolled

-- a record type behind its definition: its root, what it says of limitation, its parent, and the operations that it inherits
abbrev pub record_entry : Around → Root → Limitation → Option ℕ → Draft → RecordEntry
record_entry around r l parent d =
    record {
      level = around.level;
      root = r;
      limitation = limitation_of d.tables l d.own;
      concreteness = concreteness.Concrete;
      control = control_of d.tables r d.own;
      parent = parent;
      own = d.own;
      count = last_position (inherited_count (on_parent d.tables parent)) d.own;
      deeds = deeds_of d;
    }

abbrev pub inherited_state : Option RecordState → RecordState
inherited_state s = record { operations = operations_of s; freezing = Free; defaults = Unused; called = None }

abbrev pub state_on : Tables → Option ℕ → Option RecordState
state_on tables None = None
state_on tables (Some t) = slice_get tables.states.records t

abbrev pub add_record : RecordEntry → RecordState → Option (List Component) → Draft → Draft
add_record r s cs d =
    record d {
      tables = record d.tables { records = d.tables.records ++ r ∷ []; states = record d.tables.states { records = d.tables.states.records ++ s ∷ [] } };
      components = d.components ++ cs ∷ [];
    }

-- Types by their definitions ------------------------------------------------------------------------------------

abbrev pub enter_record : Around → Enclosing → Root → Limitation → Option (List Component) × Draft → Draft
enter_record around within r l (cs, d) =
    enter_type around within.number (ty.Record (length d.tables.records))
    (asked (without_own (add_record (record_entry around r l within.parent d) (inherited_state (state_on d.tables within.parent)) cs d)))

-- the components, once it is told where a pool type completes what an access type designates
abbrev pub awaited_kept : Around → ℕ → Root → Option (List Component) × Draft → Option (List Component) × Draft
awaited_kept around number r (cs, d) = (cs, no_pool_awaited around number r d)

-- the record type that is declared here, with its components
abbrev pub declare_record : Around → Enclosing → Root → Limitation → List (Components Use) → Draft → Draft
declare_record around within r l cs d = enter_record around within r l (awaited_kept around within.number r (components within cs (asking d)))

abbrev pub underived : Span → ℕ → Enclosing
underived place number = record { place = place; number = number; parent = None; limitation = None }

abbrev pub record_type : Span → ℕ → Limitation → List (Components Use) → Around → Draft → List Checked_item × Draft
record_type place number l cs around d = (made.Silent ∷ [], declare_record around (underived place number) root.Untagged l cs (untagged_kept place number d))

-- a type may extend a controlled one, or a block pool; no other pool type (3.9.1, profile)
abbrev pub parent_with : Span → Span → ℕ → Root → Judgement ℕ
parent_with place mark t root.Controlled = known t
parent_with place mark t root.BlockPool = known t
parent_with place mark t root.MarkPool = wrong rule.Pool mark
parent_with place mark t root.Untagged = wrong rule.Type place

abbrev pub parent_of_type : Tables → Span → Span → Ty → Judgement ℕ
parent_of_type tables place mark (ty.Record t) = parent_with place mark t (root_of (slice_get tables.records t))
parent_of_type tables place mark t = wrong rule.Type place

abbrev pub parent_named : Span → Mark Use → Tables → Judgement ℕ
parent_named place m tables = named_type tables place m >>= parent_of_type tables place m.first.span

abbrev pub limitation_in : Option RecordEntry → Limitation
limitation_in None = limitation.Nonlimited
limitation_in (Some r) = r.limitation

abbrev pub derived : Span → ℕ → ℕ → Draft → Enclosing
derived place number t d = record { place = place; number = number; parent = Some t; limitation = Some (limitation_in (slice_get d.tables.records t)) }

abbrev pub extend : Around → Span → ℕ → ℕ → List (Components Use) → List Checked_item × Draft → List Checked_item × Draft
extend around place number t cs (layers, d) =
    (layers ++ made.Silent ∷ [], declare_record around (derived place number t d) (root_of (slice_get d.tables.records t)) (limitation_in (slice_get d.tables.records t)) cs d)

-- where the parent is wrong, nothing is known of the type; its components are judged all the same
abbrev pub enter_unknown : Around → ℕ → Option (List Component) × Draft → Draft
enter_unknown around number (cs, d) = enter around number entry.Unknown (without_own d)

abbrev pub extension_of : Span → ℕ → List (Components Use) → Around → Option ℕ × Draft → List Checked_item × Draft
extension_of place number cs around (None, d) = (made.Silent ∷ [], enter_unknown around number (components (underived place number) cs d))
extension_of place number cs around (Some t, d) = extend around place number t cs (done_by around (Freezes (ty.Record t) ∷ []) d)

-- an extension freezes its parent (13.14(7))
abbrev pub extension : Span → ℕ → Mark Use → List (Components Use) → Around → Draft → List Checked_item × Draft
extension place number m cs around d = extension_of place number cs around (by_tables (parent_named place m) d)

-- Storage_Pool clauses (13.3, 13.11) ------------------------------------------------------------------------------------

abbrev pub is_library_type : LibraryName → Bool
is_library_type library.Integer = true
is_library_type library.Boolean = true
is_library_type library.StorageCount = true
is_library_type library.Address = true
is_library_type library.SubpoolHandle = true
is_library_type library.Controlled = true
is_library_type library.LimitedControlled = true
is_library_type library.RootStoragePool = true
is_library_type library.BlockPool = true
is_library_type library.MarkReleasePool = true
is_library_type l = false

abbrev pub order_broken : {A : Type 0} → Span → Judgement A
order_broken place n = (None, with_early rule.Order place n)

-- what has no clause here: a type that is frozen or of another part, or no access type
abbrev pub misplaced : {A : Type 0} → Bool → Span → Judgement A
misplaced is_late place = if is_late then order_broken place else wrong rule.Type place

-- an access type of the part that is not frozen (13.1(5), 13.1(9))
abbrev pub clause_access : Tables → Around → Span → Ty → Judgement ℕ
clause_access tables around place (ty.Access a) = if nat_le around.first_access a && is_free_type tables.states (ty.Access a) then known a else order_broken place
clause_access tables around place t = if is_free_type tables.states t then wrong rule.Type place else order_broken place

abbrev pub clause_entry : Tables → Around → Span → ℕ → Option Entry → Judgement ℕ
clause_entry tables around place number (Some (entry.«Type» t)) = if nat_le around.start number then clause_access tables around place t else order_broken place
clause_entry tables around place number (Some (entry.Incomplete t)) = λ n. (None, n)
clause_entry tables around place number (Some entry.Unknown) = λ n. (None, n)
clause_entry tables around place number e = wrong rule.Type place

abbrev pub clause_type : Around → Span → Denoted → Tables → Judgement ℕ
clause_type around place (denoted.Declared number level) tables = clause_entry tables around place number (slice_get tables.entries number)
clause_type around place (denoted.Library l) tables = if is_library_type l then order_broken place else wrong rule.Type place
clause_type around place (denoted.Operation o) tables = wrong rule.Type place
clause_type around place denoted.Unknown tables = unresolved place

-- a type has one pool (13.11)
abbrev pub pool_for_entry : Tables → Span → Option AccessEntry → Var × ℕ → Judgement (Var × ℕ)
pool_for_entry tables place None p = known p
pool_for_entry tables place (Some a) p = if is_given a.pool then wrong rule.Pool place else pool_for tables a.generality a.level a.span place p

abbrev pub pool_for_type : Tables → Span → Option ℕ → Var × ℕ → Judgement (Var × ℕ)
pool_for_type tables place None p = known p
pool_for_type tables place (Some a) p = pool_for_entry tables place (slice_get tables.states.accesses a) p

abbrev pub clause_pool : Mark Use → Option ℕ → Tables → Judgement (Var × ℕ)
clause_pool m a tables = pool_named tables m >>= pool_for_type tables m.first.span a

abbrev pub with_pool : Var × ℕ → AccessEntry → AccessEntry
with_pool p a = record a { pool = Some p }

abbrev pub give_pool : Option ℕ → Option (Var × ℕ) × Draft → Draft
give_pool (Some a) (Some p, d) = with_accesses (changed (with_pool p) a d.tables.states.accesses) d
give_pool a (p, d) = d

abbrev pub clause_with : Mark Use → Option ℕ × Draft → Draft
clause_with m (a, d) = give_pool a (by_tables (clause_pool m a) d)

abbrev pub pool_clause : Span → Use → Mark Use → Around → Draft → List Checked_item × Draft
pool_clause place u m around d = (made.Silent ∷ [], clause_with m (by_tables (clause_type around place u.denoted) d))
