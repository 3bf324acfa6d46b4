-- What names denote, and the names in expressions (4.1, 4.4, 8.3, 8.6).
use Rattle.std.specs.Prelude.{ℕ, ◌+◌, ◌-◌, ◌==◌, Bool, false, List, [], ◌∷◌, length, map, drop, Option, Some, None, if◌then◌else◌, slice_get}
use Rattle.ctl_tree.specs.declared.span.Span.{Span}
use Rattle.ctl_tree.specs.declared.fault.FaultCode.TheVariants as rule
use Rattle.ctl_syntax.specs.declared.name.Identifier.{Identifier}
use Rattle.ctl_syntax.specs.declared.name.Mark.{Mark}
use Rattle.ctl_syntax.specs.declared.name.Name.{Name}
use Rattle.ctl_syntax.specs.declared.name.Suffix.{Suffix}
use Rattle.ctl_syntax.specs.declared.name.Suffix.TheVariants as suffix
use Rattle.ctl_syntax.specs.declared.operators.Operand.{Operand}
use Rattle.ctl_syntax.specs.declared.expression.Expression.{Expression, fold-Expression}
use Rattle.ctl_syntax.specs.declared.expression.Expression.TheOpen.{Expression-F}
use Rattle.ctl_syntax.specs.declared.expression.Expression.TheVariants as e
use Rattle.ctl_syntax.specs.declared.denoted.Use.{Use}
use Rattle.ctl_syntax.specs.declared.denoted.Denoted.{Denoted}
use Rattle.ctl_syntax.specs.declared.denoted.Denoted.TheVariants as denoted
use Rattle.ctl_syntax.specs.declared.denoted.LibraryName.{LibraryName}
use Rattle.ctl_syntax.specs.declared.denoted.OperationName.{OperationName}
use Rattle.ctl_resolve.specs.declared.library.Unit.{Unit as LibraryUnit}
use Rattle.ctl_resolve.specs.declared.library.Unit.TheVariants as unit
use Rattle.ctl_resolve.specs.declared.view.Known.{Known}
use Rattle.ctl_resolve.specs.declared.view.Sought.TheVariants as sought
use Rattle.ctl_resolve.specs.declared.view.Way.{Way}
use Rattle.ctl_resolve.specs.declared.view.Way.TheVariants.{Reaches, Stops}
use Rattle.ctl_resolve.specs.declared.view.Meaning.{Meaning}
use Rattle.ctl_resolve.specs.declared.view.Meaning.TheVariants.{Means, UnknownAt, NotWithed}
use Rattle.ctl_resolve.specs.declared.view.Usage.{Usage}
use Rattle.ctl_resolve.specs.declared.view.Usage.TheVariants as usage
use Rattle.ctl_resolve.specs.declared.view.View.{View}
use Rattle.ctl_resolve.specs.Library.{root_unit, child_of, name_in, direct_name, operation_named, unit_itself, is_among}
use Rattle.ctl_resolve.specs.Table.{folded, find, is_hidden, is_incomplete}
use Rattle.ctl_resolve.specs.Naming.{Naming, pure, ◌>>=◌, each, optional, note, note_if}

-- Library units (10.1.2) ---------------------------------------------------------------------------

-- An identifier that is no child of a unit may still be a name that it declares.
abbrev pub way_on : LibraryUnit → ℕ → List ℕ → (LibraryUnit → Way) → Option LibraryUnit → Way
way_on u k n on None = Stops u k (name_in u n)
way_on u k n on (Some c) = on c

-- from a unit, where the first of these identifiers has this number in the name
abbrev pub way_from : LibraryUnit → ℕ → List Identifier → Way
way_from u k [] = Reaches u
way_from u k (id ∷ ids) = way_on u k id.text (λ c. way_from c (k + 1) ids) (child_of u id.text)

abbrev pub way_of_root : List Identifier → Option LibraryUnit → Option Way
way_of_root rest None = None
way_of_root rest (Some u) = Some (way_from u 1 rest)

-- where a path leads
abbrev pub way_of : Identifier → List Identifier → Option Way
way_of id rest = way_of_root rest (root_unit id.text)

-- a unit that no with clause brings; Ada itself is no unit, and is visible where a child of it is
abbrev pub not_brought : LibraryUnit → Meaning
not_brought unit.Ada = UnknownAt 0
not_brought _ = NotWithed

-- what a name in a unit means: it uses up the identifiers to its own
abbrev pub name_meaning : ℕ → Option LibraryName → Meaning
name_meaning k None = UnknownAt k
name_meaning k (Some l) = Means (denoted.Library l) k

-- what a path means, whose identifiers behind the first are so many
abbrev pub way_meaning : List LibraryUnit → ℕ → Option Way → Meaning
way_meaning units count None = UnknownAt 0
way_meaning units count (Some (Reaches u)) = if is_among units u then Means (denoted.Library (unit_itself u)) count else not_brought u
way_meaning units count (Some (Stops u k l)) = if is_among units u then name_meaning k l else not_brought u

-- What a name means (8.3, 8.6) -----------------------------------------------------------------------

-- The operations are known everywhere; any other name that nothing declares begins with a library unit.
abbrev pub elsewhere : View → Identifier → List Identifier → Option OperationName → Meaning
elsewhere v id rest (Some o) = Means (denoted.Operation o) 0
elsewhere v id rest None = way_meaning v.brought (length rest) (way_of id rest)

-- Standard's names, and those that use clauses make direct, stand outermost (8.4(8)).
abbrev pub undeclared : View → Identifier → List Identifier → Option LibraryName → Meaning
undeclared v id rest (Some l) = Means (denoted.Library l) 0
undeclared v id rest None = elsewhere v id rest (operation_named id.text)

-- A declaration gives no name before its end (8.3(17)).
abbrev pub declared : Known → Meaning
declared k = if is_hidden k.stage then UnknownAt 0 else Means (denoted.Declared k.number k.level) 0

abbrev pub meaning_by : View → Identifier → List Identifier → Option Known → Meaning
meaning_by v id rest (Some k) = declared k
meaning_by v id rest None = undeclared v id rest (direct_name v.used id.text)

-- what a name means that begins with these identifiers
abbrev pub meaning : View → Identifier → List Identifier → Meaning
meaning v id rest = meaning_by v id rest (find sought.Direct (folded id) v.table)

-- Uses ------------------------------------------------------------------------------------------------

-- where the identifier of this number stands
abbrev pub span_or : Span → Option Identifier → Span
span_or at None = at
span_or at (Some id) = id.span

abbrev pub identifier_at : Identifier → List Identifier → ℕ → Span
identifier_at id rest k = if k == 0 then id.span else span_or id.span (slice_get rest (k - 1))

-- UNKNOWN: a name that no visible declaration gives (8.3, 8.6). NOT_WITHED: a library unit without its with clause (10.1.2)
abbrev pub note_meaning : Identifier → List Identifier → Meaning → View → View
note_meaning id rest (Means d k) v = v
note_meaning id rest (UnknownAt k) v = note rule.Unknown (identifier_at id rest k) v
note_meaning id rest NotWithed v = note rule.NotWithed id.span v

abbrev pub what : Meaning → Denoted
what (Means d k) = d
what _ = denoted.Unknown

-- how many identifiers behind the first the name uses up
abbrev pub used_up : Meaning → ℕ
used_up (Means d k) = k
used_up _ = 0

-- ORDER: the use of a type before its full declaration ends, other than as a designated type (3.10.1(5))
abbrev pub is_too_early : Usage → Option Known → Bool
is_too_early usage.Designated k = false
is_too_early u None = false
is_too_early u (Some k) = is_incomplete k.stage

-- a use, and how many identifiers behind it it uses up
abbrev pub use_of : Identifier → Meaning → Use × ℕ
use_of id m = (record { span = id.span; denoted = what m }, used_up m)

abbrev pub used : Usage → Identifier → List Identifier → Naming (Use × ℕ)
used u id rest v = (use_of id (meaning v id rest), note_if (is_too_early u (find sought.Direct (folded id) v.table)) rule.Order id.span (note_meaning id rest (meaning v id rest) v))

abbrev pub with_rest : List Identifier → Use × ℕ → Mark Use
with_rest rest u = record { first = u.0; rest = drop u.1 rest }

-- the name of a type, of an exception, of a generic unit
abbrev pub mark : Usage → Mark Identifier → Naming (Mark Use)
mark u m = used u m.first m.rest >>= (λ x. pure (with_rest m.rest x))

-- Names and expressions (4.1, 4.4) --------------------------------------------------------------------

-- the identifiers that are selected at the beginning of a name
abbrev pub leading : {E : Type 0} → List (Suffix E) → List Identifier
leading [] = []
leading (suffix.Selector id ∷ more) = id ∷ leading more
leading (x ∷ more) = []

abbrev pub Named_expression : Type 0
Named_expression = Naming (Expression Use)

abbrev pub every : List Named_expression → Naming (List (Expression Use))
every xs = each (λ x. x) [] xs

abbrev pub suffix_of : Suffix Named_expression → Naming (Suffix (Expression Use))
suffix_of (suffix.Selector id) = pure (suffix.Selector id)
suffix_of (suffix.All at) = pure (suffix.All at)
suffix_of (suffix.Arguments at first more) = do
  x ← first
  xs ← every more
  pure (suffix.Arguments at x xs)
suffix_of (suffix.Attribute at a) = pure (suffix.Attribute at a)

abbrev pub name : Name Identifier Named_expression → Naming (Name Use (Expression Use))
name n = do
  x ← used usage.Plain n.first (leading n.suffixes)
  xs ← each suffix_of [] (drop x.1 n.suffixes)
  pure (record { first = x.0; suffixes = xs })

abbrev pub operand : Operand Named_expression → Naming (Operand (Expression Use))
operand o = o.operand >>= (λ x. pure (record { operator = o.operator; operand = x }))

abbrev pub itself : Named_expression → Named_expression
itself x = x

abbrev pub step : Expression-F Identifier Named_expression → Named_expression
step (Expression-F.Logical at o first second more) = do
  a ← first
  b ← second
  xs ← every more
  pure (e.Logical at o a b xs)
step (Expression-F.Relation at o left right) = do
  a ← left
  b ← right
  pure (e.Relation at o a b)
step (Expression-F.Chain at first second more) = do
  a ← first
  b ← operand second
  xs ← each operand [] more
  pure (e.Chain at a b xs)
step (Expression-F.Unary at o x) = x >>= (λ a. pure (e.Unary at o a))
step (Expression-F.Number at n) = pure (e.Number at n)
step (Expression-F.String at s) = pure (e.String at s)
step (Expression-F.Null at) = pure (e.Null at)
step (Expression-F.Name at n) = name n >>= (λ a. pure (e.Name at a))
step (Expression-F.Parentheses at x) = x >>= (λ a. pure (e.Parentheses at a))
step (Expression-F.New at handle type value) = do
  h ← optional name handle
  m ← mark usage.Plain type
  x ← optional itself value
  pure (e.New at h m x)

-- an expression with what its names denote
abbrev pub expression : Expression Identifier → Named_expression
expression = fold-Expression Identifier Named_expression step

-- the same of what stands in operands and names, wherever these stand
abbrev pub operand_parts : Operand (Expression Identifier) → Operand Named_expression
operand_parts o = record { operator = o.operator; operand = expression o.operand }

abbrev pub suffix_parts : Suffix (Expression Identifier) → Suffix Named_expression
suffix_parts (suffix.Selector id) = suffix.Selector id
suffix_parts (suffix.All at) = suffix.All at
suffix_parts (suffix.Arguments at first more) = suffix.Arguments at (expression first) (map expression more)
suffix_parts (suffix.Attribute at a) = suffix.Attribute at a

abbrev pub named_operand : Operand (Expression Identifier) → Naming (Operand (Expression Use))
named_operand o = operand (operand_parts o)

abbrev pub named_suffix : Suffix (Expression Identifier) → Naming (Suffix (Expression Use))
named_suffix s = suffix_of (suffix_parts s)

abbrev pub name_of : Name Identifier (Expression Identifier) → Naming (Name Use (Expression Use))
name_of n = name (record { first = n.first; suffixes = map suffix_parts n.suffixes })
