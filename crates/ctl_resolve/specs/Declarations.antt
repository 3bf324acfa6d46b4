-- What declarations declare: names, subprograms, types, objects (3.3.1, 3.8, 3.10, 6.1, 8.3, 11.1, 12.3).
use Rattle.std.specs.Prelude.{ℕ, nat_le, nat_eq, Bool, true, false, ◌||◌, List, [], ◌∷◌, length, drop, Option, Some, None, is_some, if◌then◌else◌}
use Rattle.std.specs.List.{list_any}
use Rattle.ctl_grammar.specs.Spelling.{same_name}
use Rattle.ctl_tree.specs.declared.span.Span.{Span}
use Rattle.ctl_tree.specs.declared.fault.FaultCode.TheVariants as rule
use Rattle.ctl_syntax.specs.declared.name.Identifier.{Identifier}
use Rattle.ctl_syntax.specs.declared.name.Mark.{Mark}
use Rattle.ctl_syntax.specs.declared.expression.Expression.{Expression}
use Rattle.ctl_syntax.specs.declared.denoted.Use.{Use}
use Rattle.ctl_syntax.specs.declared.denoted.Denoted.{Denoted}
use Rattle.ctl_syntax.specs.declared.denoted.Denoted.TheVariants as denoted
use Rattle.ctl_syntax.specs.declared.denoted.Definition.{Definition}
use Rattle.ctl_syntax.specs.declared.denoted.OperationName.{OperationName}
use Rattle.ctl_syntax.specs.declared.item.Association.{Association}
use Rattle.ctl_syntax.specs.declared.item.Components.{Components}
use Rattle.ctl_syntax.specs.declared.item.Definition.{Definition as Type_definition}
use Rattle.ctl_syntax.specs.declared.item.Definition.TheVariants as type_definition
use Rattle.ctl_syntax.specs.declared.item.Formal.{Formal}
use Rattle.ctl_syntax.specs.declared.item.Objects.{Objects}
use Rattle.ctl_syntax.specs.declared.item.Specification.{Specification}
use Rattle.ctl_resolve.specs.declared.view.Filing.{Filing}
use Rattle.ctl_resolve.specs.declared.view.Known.{Known}
use Rattle.ctl_resolve.specs.declared.view.Meaning.{Meaning}
use Rattle.ctl_resolve.specs.declared.view.Meaning.TheVariants.{Means}
use Rattle.ctl_resolve.specs.declared.view.Progress.{Progress}
use Rattle.ctl_resolve.specs.declared.view.Progress.TheVariants.{BeforeBodies, BehindBody}
use Rattle.ctl_resolve.specs.declared.view.Role.{Role}
use Rattle.ctl_resolve.specs.declared.view.Role.TheVariants as role
use Rattle.ctl_resolve.specs.declared.view.Sought.{Sought}
use Rattle.ctl_resolve.specs.declared.view.Sought.TheVariants as sought
use Rattle.ctl_resolve.specs.declared.view.Stage.{Stage}
use Rattle.ctl_resolve.specs.declared.view.Stage.TheVariants as stage
use Rattle.ctl_resolve.specs.declared.view.Usage.TheVariants as usage
use Rattle.ctl_resolve.specs.declared.view.View.{View}
use Rattle.ctl_resolve.specs.Library.{operation_named}
use Rattle.ctl_resolve.specs.Table.{folded, find, is_overridden}
use Rattle.ctl_resolve.specs.Naming.{Naming, pure, ◌>>=◌, after, changed, each, optional, note_if, declare, set_stage, cut, enter_master, within}
use Rattle.ctl_resolve.specs.Expressions.{meaning, mark, expression}

-- What a region declares ------------------------------------------------------------------------------

-- the declaration, if the region that is read has it
abbrev pub own : View → Option Known → Option Known
own v None = None
own v (Some k) = if nat_le v.part.start k.number then Some k else None

abbrev pub own_found : View → Sought → List ℕ → Option Known
own_found v s key = own v (find s key v.table)

abbrev pub is_overridden_here : View → Option OperationName → Bool
is_overridden_here v None = false
is_overridden_here v (Some o) = is_overridden o (drop v.part.start v.table)

-- Does the region declare the name? Overrides of an operation have its name too.
abbrev pub is_taken : View → Identifier → Bool
is_taken v id = is_some (own_found v sought.Direct (folded id)) || is_overridden_here v (operation_named id.text)

abbrev pub definition : Identifier → ℕ → ℕ → Definition
definition id number level = record { identifier = id; number = number; level = level }

-- the definition of a name that is declared next
abbrev pub next : View → Identifier → Definition
next v id = definition id (length v.table) v.part.level

-- A second declaration in one region declares nothing: the name goes on denoting the first one.
abbrev pub role_as : Bool → Role → Role
role_as is_second r = if is_second then role.Repeated else r

-- DUPLICATE: a second declaration of a name in one region (8.3(26))
abbrev pub declare_name : Stage → Identifier → View → View
declare_name s id v = declare (folded id) (role_as (is_taken v id) role.Direct) s id.span (note_if (is_taken v id) rule.Duplicate id.span v)

unfoldable pub new_name : Stage → Identifier → Naming Definition
new_name s id v = (next v id, declare_name s id v)

abbrev pub new_names : List Identifier → Naming (List Definition)
new_names ids = each (new_name stage.Complete) [] ids

-- Names are hidden in their own declaration, and so are their homographs (8.3(17)).
abbrev pub hide : Identifier → View → View
hide id v = declare (folded id) role.Direct stage.Hidden id.span v

abbrev pub hide_each : List Identifier → View → View
hide_each [] v = v
hide_each (id ∷ ids) v = hide_each ids (hide id v)

-- what stands in the declaration of these names
abbrev pub hidden_in : {A : Type 0} → List Identifier → Naming A → Naming A
hidden_in ids p v = changed (cut (length v.table)) (p (hide_each ids v))

-- Subprograms (6.1, 6.3) -------------------------------------------------------------------------------

abbrev pub last_identifier : Identifier → List Identifier → Identifier
last_identifier id [] = id
last_identifier id (x ∷ xs) = last_identifier x xs

-- what a name denotes that has so many identifiers behind the first; where some are left, it denotes no type
abbrev pub in_full : ℕ → Meaning → Denoted
in_full count (Means d k) = if nat_eq k count then d else denoted.Unknown
in_full count m = denoted.Unknown

abbrev pub is_one_of : Identifier → List Identifier → Bool
is_one_of name ids = list_any (λ id. same_name name.text id.text) ids

-- what the mark of parameters denotes where the heading begins; one of its own name hides the type (8.3(17))
abbrev pub formal_denoted : View → Formal Identifier Identifier → Denoted
formal_denoted v f = if is_one_of f.mark.first f.names then denoted.Unknown else in_full (length f.mark.rest) (meaning v f.mark.first f.mark.rest)

-- An operation may be overridden for several types (8.3(12)).
abbrev pub filed_override : View → OperationName → List (Formal Identifier Identifier) → Filing
filed_override v o [] = record { key = []; role = role.Override o denoted.Unknown }
filed_override v o (f ∷ fs) = record { key = folded (last_identifier f.mark.first f.mark.rest); role = role.Override o (formal_denoted v f) }

abbrev pub filed_by : View → Specification Identifier Identifier → Option OperationName → Filing
filed_by v s None = record { key = folded s.name; role = role.Direct }
filed_by v s (Some o) = filed_override v o s.formals

-- what a subprogram is filed under
abbrev pub filed : View → Specification Identifier Identifier → Filing
filed v s = filed_by v s (operation_named s.name.text)

abbrev pub sought_of : Role → Sought
sought_of (role.Override o d) = sought.Override o d
sought_of r = sought.Direct

abbrev pub bodiless_of : Role → Sought
bodiless_of (role.Override o d) = sought.BodilessOverride o d
bodiless_of r = sought.Bodiless

-- Does the region declare a subprogram of this heading, or something else of its name?
abbrev pub is_declared : View → Specification Identifier Identifier → Filing → Bool
is_declared v s f = is_some (own_found v (sought_of f.role) f.key) || is_some (own_found v sought.Direct (folded s.name))

-- a new subprogram, hidden in its heading; DUPLICATE where its region has one already
abbrev pub declare_subprogram : Specification Identifier Identifier → Filing → View → View
declare_subprogram s f v =
    declare f.key (role_as (is_declared v s f) f.role) stage.Hidden s.name.span (note_if (is_declared v s f) rule.Duplicate s.name.span v)

-- parameters of one mode and type: each is hidden in their declaration (6.1)
abbrev pub formal : Formal Identifier Identifier → Naming (Formal Definition Use)
formal f = do
  m ← hidden_in f.names (mark usage.Plain f.mark)
  ds ← new_names f.names
  pure (record { names = ds; mode = f.mode; mark = m })

abbrev pub heading : Specification Identifier Identifier → Definition → Naming (Specification Definition Use)
heading s d = do
  fs ← each formal [] s.formals
  r ← optional (mark usage.Plain) s.result
  pure (record { indicator = s.indicator; span = s.span; name = d; formals = fs; result = r })

-- A declaration waits for its body; a second one of the same heading does not, so that the body completes the first.
abbrev pub announced : Bool → Stage
announced is_second = if is_second then stage.Complete else stage.Bodiless

abbrev pub announce : Specification Identifier Identifier → Filing → Naming (Specification Definition Use)
announce s f v = changed (set_stage (length v.table) (announced (is_declared v s f))) (within enter_master (heading s (next v s.name)) (declare_subprogram s f v))

-- a subprogram's declaration
abbrev pub declaration : Specification Identifier Identifier → Naming (Specification Definition Use)
declaration s v = announce s (filed v s) v

abbrev pub begun_as : Specification Identifier Identifier → Filing → Option Known → Naming Definition
begun_as s f (Some k) v = (definition s.name k.number k.level, v)
begun_as s f None v = (next v s.name, declare_subprogram s f v)

-- A body completes the declaration of its region that waits for it, or declares a new subprogram.
abbrev pub begun_by : Specification Identifier Identifier → Filing → Naming Definition
begun_by s f v = begun_as s f (own_found v (bodiless_of f.role) f.key) v

abbrev pub begun : Specification Identifier Identifier → Naming Definition
begun s v = begun_by s (filed v s) v

-- Types (3.8, 3.9.1, 3.10) --------------------------------------------------------------------------------

abbrev pub is_behind : Progress → Bool
is_behind BehindBody = true
is_behind BeforeBodies = false

-- ORDER: a type after the first body of its part (profile)
abbrev pub note_order : Span → View → View
note_order at v = note_if (is_behind v.part.progress) rule.Order at v

-- A second incomplete declaration waits for nothing.
abbrev pub promised : Bool → Stage
promised is_second = if is_second then stage.Complete else stage.Incomplete

abbrev pub incomplete : Identifier → Naming Definition
incomplete id v = new_name (promised (is_taken v id)) id v

-- how far a type has come from the word `record` on
abbrev pub begun_type_as : Identifier → Option Known → Naming (Definition × Stage)
begun_type_as id (Some k) v = ((definition id k.number k.level, stage.Incomplete), v)
begun_type_as id None v = ((next v id, stage.Complete), declare_name stage.Hidden id v)

-- A full type completes an incomplete one of its region, or declares a new type.
abbrev pub begun_type : Identifier → Naming (Definition × Stage)
begun_type id v = begun_type_as id (own_found v sought.Incomplete (folded id)) v

-- A component is no direct name (8.3, 4.1.3).
abbrev pub component : Components Identifier → Naming (Components Use)
component c = do
  m ← mark usage.Plain c.mark
  x ← optional expression c.default
  pure (record { names = c.names; mark = m; default = x })

abbrev pub components : List (Components Identifier) → Naming (List (Components Use))
components cs = each component [] cs

-- The name of a new type is hidden until the word `record`, or until the end of its declaration (8.3(17)); the designated type may be
-- incomplete (3.10.1).
abbrev pub type_defined : ℕ → Stage → Type_definition Identifier → Naming (Type_definition Use)
type_defined n s (type_definition.Record l cs) = after (set_stage n s) (components cs) >>= (λ xs. pure (type_definition.Record l xs))
type_defined n s (type_definition.Extension parent cs) = do
  m ← mark usage.Plain parent
  xs ← after (set_stage n s) (components cs)
  pure (type_definition.Extension m xs)
type_defined n s (type_definition.Access g type c pool) = do
  m ← mark usage.Designated type
  p ← optional (mark usage.Plain) pool
  pure (type_definition.Access g m c p)

abbrev pub completed : {A : Type 0} → ℕ → A × View → A × View
completed n r = changed (set_stage n stage.Complete) r

abbrev pub full_type_of : Type_definition Identifier → Definition × Stage → Naming (Definition × Type_definition Use)
full_type_of t d v = completed d.0.number ((type_defined d.0.number d.1 t >>= (λ x. pure (d.0, x))) v)

abbrev pub full_type : Identifier → Type_definition Identifier → Naming (Definition × Type_definition Use)
full_type id t = begun_type id >>= full_type_of t

-- Objects and instances (3.3.1, 12.3) ------------------------------------------------------------------------

abbrev pub association : Association Identifier → Naming (Association Use)
association a = expression a.value >>= (λ x. pure (record { name = a.name; value = x }))

abbrev pub associations : List (Association Identifier) → Naming (List (Association Use))
associations xs = each association [] xs

abbrev pub instance_of : Mark Identifier → List (Association Identifier) → Naming (Mark Use × List (Association Use))
instance_of unit actuals = do
  m ← mark usage.Plain unit
  xs ← associations actuals
  pure (m, xs)

abbrev pub object_of : Objects Identifier Identifier → Naming (Mark Use × List (Association Use) × Option (Expression Use))
object_of o = do
  m ← mark usage.Plain o.mark
  ds ← associations o.discriminants
  x ← optional expression o.value
  pure (m, ds, x)

abbrev pub objects : Objects Identifier Identifier → Naming (Objects Definition Use)
objects o = do
  x ← hidden_in o.names (object_of o)
  ds ← new_names o.names
  pure (record { names = ds; aliasing = o.aliasing; constancy = o.constancy; mark = x.0; discriminants = x.1; value = x.2 })
