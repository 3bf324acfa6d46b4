-- Which items and statements by themselves this version runs.
use Rattle.std.specs.Prelude.{Bool, true, false, not, ◌&&◌, ◌||◌, List, [], ◌∷◌, codes, is_some, Option, Some, None, if◌then◌else◌}
use Rattle.ctl_grammar.specs.Spelling.{same_name}
use Rattle.ctl_syntax.specs.declared.denoted.Definition.{Definition}
use Rattle.ctl_syntax.specs.declared.denoted.Denoted.{Denoted}
use Rattle.ctl_syntax.specs.declared.denoted.Denoted.TheVariants.{Declared, Library, Operation}
use Rattle.ctl_syntax.specs.declared.denoted.LibraryName.TheVariants.{Integer, Boolean, Address, StorageCount, True, False, Put, PutLine, NewLine, Controlled, LimitedControlled, BlockPool}
use Rattle.ctl_syntax.specs.declared.denoted.Use.{Use}
use Rattle.ctl_syntax.specs.declared.expression.Expression.{Expression, out-Expression}
use Rattle.ctl_syntax.specs.declared.expression.Expression.TheOpen.{Expression-F}
use Rattle.ctl_syntax.specs.declared.item.Association.{Association}
use Rattle.ctl_syntax.specs.declared.item.Components.{Components}
use Rattle.ctl_syntax.specs.declared.item.Coverage.{Coverage}
use Rattle.ctl_syntax.specs.declared.item.Coverage.TheVariants.{Specific, ClassWide}
use Rattle.ctl_syntax.specs.declared.item.Definition.{Definition as Type_definition}
use Rattle.ctl_syntax.specs.declared.item.Definition.TheVariants.{Access, Extension, Record}
use Rattle.ctl_syntax.specs.declared.item.Formal.{Formal}
use Rattle.ctl_syntax.specs.declared.item.Objects.{Objects}
use Rattle.ctl_syntax.specs.declared.item.Specification.{Specification}
use Rattle.ctl_syntax.specs.declared.name.Mark.{Mark}
use Rattle.ctl_syntax.specs.declared.name.Name.{Name}
use Rattle.ctl_slice.specs.declared.construct.Support.{Support}
use Rattle.ctl_slice.specs.declared.construct.Support.TheVariants.{Run, LeftOut}

abbrev pub support_when : Bool → Support
support_when is_run = if is_run then Run else LeftOut

-- Controlled, Limited_Controlled (7.6) or Block_Pool (13.11), or a type of the text, which is judged where it is declared
abbrev pub may_be_extended : Denoted → Bool
may_be_extended (Library Controlled) = true
may_be_extended (Library LimitedControlled) = true
may_be_extended (Library BlockPool) = true
may_be_extended (Declared number level) = true
may_be_extended d = false

abbrev pub is_empty : {A : Type 0} → List A → Bool
is_empty [] = true
is_empty (x ∷ xs) = false

-- Initialize, Adjust and Finalize of a controlled type (7.6)
abbrev pub is_operation : Specification Definition Use → Bool
is_operation s = same_name s.name.identifier.text (codes "initialize") || (same_name s.name.identifier.text (codes "adjust") || same_name s.name.identifier.text (codes "finalize"))

-- Integer, Boolean (3.5.3, 3.5.4), Address (13.7) or Storage_Count (13.7.1)
abbrev pub is_scalar : Denoted → Bool
is_scalar (Library Integer) = true
is_scalar (Library Boolean) = true
is_scalar (Library Address) = true
is_scalar (Library StorageCount) = true
is_scalar d = false

-- a subprogram or type of the text, which is judged where it is declared
abbrev pub is_of_text : Denoted → Bool
is_of_text (Declared number level) = true
is_of_text d = false

-- formals of a type of the text, or of a scalar one (6.1, 6.2)
abbrev pub may_be_passed : Formal Definition Use → Bool
may_be_passed f = is_of_text f.mark.first.denoted || is_scalar f.mark.first.denoted

abbrev pub may_all_be_passed : List (Formal Definition Use) → Bool
may_all_be_passed [] = true
may_all_be_passed (f ∷ fs) = may_be_passed f && may_all_be_passed fs

-- no result, or one of a type of the text, or of a scalar one (6.1)
abbrev pub may_be_given : Option (Mark Use) → Bool
may_be_given None = true
may_be_given (Some m) = is_of_text m.first.denoted || is_scalar m.first.denoted

-- a procedure with such parameters, or with none, and a function with such ones that gives such a result (6.1)
abbrev pub is_subprogram : Specification Definition Use → Bool
is_subprogram s = may_be_given s.result && may_all_be_passed s.formals

abbrev pub of_heading : Specification Definition Use → Support
of_heading s = support_when (is_operation s || is_subprogram s)

-- True or False (3.5.3)
abbrev pub is_truth : Denoted → Bool
is_truth (Library True) = true
is_truth (Library False) = true
is_truth d = false

-- a numeric literal, True or False: one layer of an expression (2.4)
abbrev pub literal_layer : {A : Type 0} → Expression-F Use A → Bool
literal_layer (Expression-F.Number place n) = true
literal_layer (Expression-F.Name place name) = is_truth name.first.denoted && is_empty name.suffixes
literal_layer e = false

abbrev pub is_literal : Expression Use → Bool
is_literal e = literal_layer (out-Expression Use e)

-- a name: one layer of an expression (4.1)
abbrev pub name_layer : {A : Type 0} → Expression-F Use A → Bool
name_layer (Expression-F.Name place name) = true
name_layer e = false

-- no value of an allocator, that of what a name denotes, or one of a scalar type (4.8)
abbrev pub is_value_run : Denoted → Option (Expression Use) → Bool
is_value_run mark None = true
is_value_run mark (Some e) = is_scalar mark || name_layer (out-Expression Use e)

-- an allocator with another value, or with a handle: one layer of an expression (4.8, 13.11.4)
abbrev pub allocator_layer : Expression-F Use (Expression Use) → Bool
allocator_layer (Expression-F.New place handle mark value) = is_some handle || not (is_value_run mark.first.denoted value)
allocator_layer e = false

abbrev pub is_left_out_allocator : Expression Use → Bool
is_left_out_allocator e = allocator_layer (out-Expression Use e)

abbrev pub has_left_out_allocator : Option (Expression Use) → Bool
has_left_out_allocator None = false
has_left_out_allocator (Some e) = is_left_out_allocator e

-- components of a scalar type, or of one of the text, which is judged where it is declared; their default is no such allocator (3.8)
abbrev pub may_be_component : Components Use → Bool
may_be_component c = (is_scalar c.mark.first.denoted || is_of_text c.mark.first.denoted) && not (has_left_out_allocator c.default)

abbrev pub may_all_be_components : List (Components Use) → Bool
may_all_be_components [] = true
may_all_be_components (c ∷ cs) = may_be_component c && may_all_be_components cs

abbrev pub is_specific : Coverage → Bool
is_specific Specific = true
is_specific ClassWide = false

-- a type that objects of an access type may have: one of the text, or a scalar one (3.10)
abbrev pub may_be_designated : Denoted → Bool
may_be_designated d = is_of_text d || is_scalar d

-- a record of such components (3.8), a type that extends such a type by them (3.9.1), or an access type for one such type (3.10)
abbrev pub of_type : Type_definition Use → Support
of_type (Record limitation components) = support_when (may_all_be_components components)
of_type (Extension parent added) = support_when (may_be_extended parent.first.denoted && may_all_be_components added)
of_type (Access generality designated coverage pool) = support_when (may_be_designated designated.first.denoted && is_specific coverage)

-- discriminants that are all such literals, if there are any (13.11)
abbrev pub are_literals : List (Association Use) → Bool
are_literals [] = true
are_literals (x ∷ xs) = is_literal x.value && are_literals xs

-- objects of this type, with these discriminants: of a type of the text and of Block_Pool with such ones, and of a scalar type (3.3.1, 13.11)
abbrev pub are_objects_run : Denoted → List (Association Use) → Bool
are_objects_run (Declared number level) discriminants = are_literals discriminants
are_objects_run (Library BlockPool) discriminants = are_literals discriminants
are_objects_run d discriminants = is_scalar d

abbrev pub of_objects : Objects Definition Use → Support
of_objects o = support_when (are_objects_run o.mark.first.denoted o.discriminants && not (has_left_out_allocator o.value))

-- a value that is assigned or returned (5.2, 6.5)
abbrev pub of_value : Option (Expression Use) → Support
of_value e = support_when (not (has_left_out_allocator e))

-- calls of Put, Put_Line and New_Line (A.10.7)
abbrev pub is_output : Denoted → Bool
is_output (Library Put) = true
is_output (Library PutLine) = true
is_output (Library NewLine) = true
is_output d = false

-- an operation that a type may have of its own, Allocate and Deallocate among them (7.6, 13.11)
abbrev pub is_own : Denoted → Bool
is_own (Operation o) = true
is_own d = false

-- and of a subprogram of the text (6.4), or of such an operation
abbrev pub of_call : Name Use (Expression Use) → Support
of_call n = support_when (is_output n.first.denoted || (is_of_text n.first.denoted || is_own n.first.denoted))
