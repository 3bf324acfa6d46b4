-- The context, and the whole text (10.1.1, 10.1.2, 8.4).
use Rattle.std.specs.Prelude.{ℕ, Bool, true, false, ◌||◌, List, [], ◌∷◌, ◌++◌, length, Option, Some, None, if◌then◌else◌}
use Rattle.ctl_tree.specs.declared.fault.Fault.{Fault}
use Rattle.ctl_tree.specs.declared.fault.FaultCode.TheVariants as rule
use Rattle.ctl_tree.specs.Faults.{first_of, fault_at}
use Rattle.ctl_syntax.specs.declared.name.Identifier.{Identifier}
use Rattle.ctl_syntax.specs.declared.name.Mark.{Mark}
use Rattle.ctl_syntax.specs.declared.denoted.Use.{Use}
use Rattle.ctl_syntax.specs.declared.denoted.Denoted.TheVariants as denoted
use Rattle.ctl_syntax.specs.declared.denoted.LibraryName.{LibraryName}
use Rattle.ctl_syntax.specs.declared.denoted.LibraryName.TheVariants as name
use Rattle.ctl_syntax.specs.declared.denoted.Definition.{Definition}
use Rattle.ctl_syntax.specs.declared.item.Context.{Context}
use Rattle.ctl_syntax.specs.declared.item.ContextKind.{ContextKind}
use Rattle.ctl_syntax.specs.declared.item.ContextKind.TheVariants.{With, Use as Using}
use Rattle.ctl_syntax.specs.declared.item.Tree.{Tree}
use Rattle.ctl_resolve.specs.declared.library.Unit.{Unit as LibraryUnit}
use Rattle.ctl_resolve.specs.declared.context.Broken.{Broken}
use Rattle.ctl_resolve.specs.declared.view.Meaning.{Meaning}
use Rattle.ctl_resolve.specs.declared.view.Meaning.TheVariants.{Means, UnknownAt}
use Rattle.ctl_resolve.specs.declared.view.Progress.TheVariants.{BeforeBodies}
use Rattle.ctl_resolve.specs.declared.view.Stage.TheVariants as stage
use Rattle.ctl_resolve.specs.declared.view.View.{View}
use Rattle.ctl_resolve.specs.declared.view.Way.{Way}
use Rattle.ctl_resolve.specs.declared.view.Way.TheVariants.{Reaches, Stops}
use Rattle.ctl_resolve.specs.Library.{with_ancestors, is_among, unit_itself}
use Rattle.ctl_resolve.specs.Naming.{Naming, pure, ◌>>=◌, enter_master, within}
use Rattle.ctl_resolve.specs.Expressions.{way_of, way_meaning, note_meaning}
use Rattle.ctl_resolve.specs.Declarations.{new_name}
use Rattle.ctl_resolve.specs.Parts.{body_of}

-- What the context brings -----------------------------------------------------------------------------------

abbrev pub reached : Option Way → Option LibraryUnit
reached None = None
reached (Some (Reaches u)) = Some u
reached (Some (Stops u k l)) = None

abbrev pub unit_named : Mark Identifier → Option LibraryUnit
unit_named m = reached (way_of m.first m.rest)

-- A with clause brings a unit with its ancestors (10.1.2).
abbrev pub bring : List LibraryUnit → Option LibraryUnit → List LibraryUnit
bring units None = units
bring units (Some u) = if is_among units u then units else units ++ with_ancestors u

abbrev pub bring_each : List LibraryUnit → List (Mark Identifier) → List LibraryUnit
bring_each units [] = units
bring_each units (m ∷ ms) = bring_each (bring units (unit_named m)) ms

abbrev pub brought_by : List LibraryUnit → Context → List LibraryUnit
brought_by units c = elim c.kind [ With ↦ bring_each units c.units | Using ↦ units ]

-- the units that the with clauses of the whole context bring
abbrev pub brought : List LibraryUnit → List Context → List LibraryUnit
brought units [] = units
brought units (c ∷ cs) = brought (brought_by units c) cs

-- A use clause makes a unit's names direct (8.4).
abbrev pub open_unit : List LibraryUnit → Option LibraryUnit → List LibraryUnit
open_unit units None = units
open_unit units (Some u) = if is_among units u then units else units ++ u ∷ []

abbrev pub open_each : List LibraryUnit → List (Mark Identifier) → List LibraryUnit
open_each units [] = units
open_each units (m ∷ ms) = open_each (open_unit units (unit_named m)) ms

abbrev pub opened_by : List LibraryUnit → Context → List LibraryUnit
opened_by units c = elim c.kind [ With ↦ units | Using ↦ open_each units c.units ]

abbrev pub opened : List LibraryUnit → List Context → List LibraryUnit
opened units [] = units
opened units (c ∷ cs) = opened (opened_by units c) cs

-- The clauses themselves --------------------------------------------------------------------------------------

-- what a path in a with clause means: it has to lead to a unit (10.1.2)
abbrev pub with_meaning : ℕ → Option Way → Meaning
with_meaning count None = UnknownAt 0
with_meaning count (Some (Reaches u)) = Means (denoted.Library (unit_itself u)) count
with_meaning count (Some (Stops u k l)) = UnknownAt k

abbrev pub note_with : Mark Identifier → View → View
note_with m v = note_meaning m.first m.rest (with_meaning (length m.rest) (way_of m.first m.rest)) v

-- A use clause names a unit that is brought.
abbrev pub note_use : Mark Identifier → View → View
note_use m v = note_meaning m.first m.rest (way_meaning v.brought (length m.rest) (way_of m.first m.rest)) v

abbrev pub note_clause : ContextKind → Mark Identifier → View → View
note_clause With m v = note_with m v
note_clause Using m v = note_use m v

abbrev pub note_clauses : ContextKind → List (Mark Identifier) → View → View
note_clauses k [] v = v
note_clauses k (m ∷ ms) v = note_clauses k ms (note_clause k m v)

abbrev pub note_contexts : List Context → View → View
note_contexts [] v = v
note_contexts (c ∷ cs) v = note_contexts cs (note_clauses c.kind c.units v)

-- What is no package (8.4(5)) -----------------------------------------------------------------------------------

abbrev pub is_package : LibraryName → Bool
is_package name.Package = true
is_package _ = false

-- A path leads elsewhere than to a package: to a procedure, or to what a package declares. One that leads nowhere breaks a rule on names.
abbrev pub leads_elsewhere : Option Way → Bool
leads_elsewhere None = false
leads_elsewhere (Some (Reaches u)) = if is_package (unit_itself u) then false else true
leads_elsewhere (Some (Stops u k None)) = false
leads_elsewhere (Some (Stops u k (Some l))) = true

abbrev pub any_elsewhere : List (Mark Identifier) → Bool
any_elsewhere [] = false
any_elsewhere (m ∷ ms) = leads_elsewhere (way_of m.first m.rest) || any_elsewhere ms

-- TYPE: a use clause of what is no package. The first of such faults so far, and of this clause
abbrev pub uses_by : Option Fault → Context → Option Fault
uses_by f c = elim c.kind [ With ↦ f | Using ↦ if any_elsewhere c.units then first_of f (fault_at rule.Type c.span) else f ]

abbrev pub uses_broken : Option Fault → List Context → Option Fault
uses_broken f [] = f
uses_broken f (c ∷ cs) = uses_broken (uses_by f c) cs

-- The whole text --------------------------------------------------------------------------------------------------

-- nothing is declared yet
abbrev pub outermost : List Context → View
outermost cs = record {
  table = [];
  part = record { start = 0; level = 0; progress = BeforeBodies };
  brought = brought [] cs;
  used = opened [] cs;
  fault = None;
}

abbrev pub main : Tree Identifier Identifier → Naming (Tree Definition Use)
main t = do
  d ← new_name stage.Complete t.name
  b ← within enter_master (body_of t.body)
  pure (record { contexts = t.contexts; span = t.span; name = d; body = b })

abbrev pub with_broken : {A : Type 0} → Option Fault → A × View → A × Broken
with_broken uses (a, v) = (a, record { names = v.fault; uses = uses })

-- a text with what its names denote, and the first broken rules by place
abbrev pub named : Tree Identifier Identifier → Tree Definition Use × Broken
named t = with_broken (uses_broken None t.contexts) (main t (note_contexts t.contexts (outermost t.contexts)))
