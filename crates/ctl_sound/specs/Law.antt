-- What holds of all that the check gives.
use Rattle.std.specs.Prelude.{Option, ◌≡◌, ℕ, List, [], length, map, Some, Ok}
use Rattle.ctl_program.specs.declared.types.Ty.{Ty}
use Rattle.ctl_program.specs.declared.types.Ty.TheVariants.{Boolean}
use Rattle.ctl_program.specs.declared.program.Checked.{Checked}
use Rattle.ctl_tree.specs.declared.fault.Fault.{Fault}
use Rattle.ctl_tree.specs.declared.span.Span.{Span}
use Rattle.ctl_syntax.specs.declared.name.Mark.{Mark}
use Rattle.ctl_syntax.specs.declared.name.Name.{Name}
use Rattle.ctl_typing.specs.declared.found.Asked.TheVariants.{Exactly}
use Rattle.ctl_typing.specs.Senses.{suffix_sense}
use Rattle.ctl_statements.specs.Statements.{assignment, call, raising, return_value}
use Rattle.ctl_syntax.specs.declared.denoted.Use.{Use}
use Rattle.ctl_syntax.specs.declared.expression.Expression.{Expression}
use Rattle.ctl_program.specs.declared.types.Root.{Root}
use Rattle.ctl_syntax.specs.declared.denoted.Definition.{Definition}
use Rattle.ctl_syntax.specs.declared.item.Association.{Association}
use Rattle.ctl_syntax.specs.declared.item.Objects.{Objects}
use Rattle.ctl_syntax.specs.declared.item.Specification.{Specification}
use Rattle.ctl_syntax.specs.declared.item.Tree.{Tree}
use Rattle.ctl_typing.specs.declared.table.Tables.{Tables}
use Rattle.ctl_typing.specs.declared.found.Asked.{Asked}
use Rattle.ctl_typing.specs.Judgement.{each}
use Rattle.ctl_types.specs.Elaboration.{Elaborates}
use Rattle.ctl_declarations.specs.Declarations.{object_type, value_of, discriminant, heading_types}
use Rattle.ctl_well_typed.specs.Programs.{WellTyped}
use Rattle.ctl_well_typed.specs.Types.{HasDiscriminant}
use Rattle.ctl_well_typed.specs.Expressions.{Perhaps, Typed}
use Rattle.ctl_typing.specs.Typing.{sense, expression, truth_of}
use Rattle.ctl_well_typed.specs.Setting.{Frames, Setting, InView}
use Rattle.ctl_well_typed.specs.Statements.{Around, Given, Puts, Done}
use Rattle.ctl_sound.specs.Known.{All, Gives, IfSome, Stays}
use Rattle.ctl_sound.specs.Sound.{Sound, AskedFine, Fine}

-- wherever the tables are sound: what is known of an expression is well typed and of a type that its place asks, and as what is put it is
-- a text
pub record ExpressionWellTyped (x : Expression Use) : Type 0 where
  pub of_type : (k : Setting) (env : Frames) (tables : Tables) → Sound k env tables → (asked : Asked) → AskedFine k env asked → Gives (Fine k env asked (sense x).named) (expression x tables asked)
  pub put : (k : Setting) (env : Frames) (tables : Tables) → Sound k env tables → Gives (Puts k env) ((sense x).texts tables)

-- a fault that was noted before an expression is not taken back by it
pub record ExpressionKeepsFaults (x : Expression Use) : Type 0 where
  pub of_type : (tables : Tables) (asked : Asked) → Stays (expression x tables asked)
  pub put : (tables : Tables) → Stays ((sense x).texts tables)

-- wherever the tables are sound: what is known of an assignment or a call of this name, of a raise, of a return with this value, and of this
-- value as a condition (5.3, 5.5, 5.7), is well typed
pub record SimpleStatementsWellTyped (n : Name Use (Expression Use)) (x : Expression Use) : Type 0 where
  pub assignment : (k : Setting) (env : Frames) (tables : Tables) → Sound k env tables → (a : Around) → Gives (Done k env a) (assignment n.first (map suffix_sense n.suffixes) (sense x) tables)
  pub call : (k : Setting) (env : Frames) (tables : Tables) → Sound k env tables → (a : Around) (place : Span) → Gives (Done k env a) (call place n.first (map suffix_sense n.suffixes) tables)
  pub raise : (k : Setting) (env : Frames) (tables : Tables) → Sound k env tables → (a : Around) (place : Span) (m : Mark Use) → Gives (Done k env a) (raising place m tables)
  -- in the body of a function with this result
  pub return : (k : Setting) (env : Frames) (tables : Tables) → Sound k env tables → (a : Around) (t : Ty) → a.gives ≡ Some t → InView k env t → Gives (Done k env a) (return_value (Exactly t) (sense x) tables)
  pub condition : (k : Setting) (env : Frames) (tables : Tables) → Sound k env tables → Gives (λ c. Typed k env c Boolean) (truth_of tables (sense x))

-- wherever the tables are sound: the type of these objects can be used there, a value of them and discriminants in their positions are well
-- typed, and the types of this heading can be used there
pub record DeclarationsWellTyped (o : Objects Definition Use) (s : Specification Definition Use) : Type 0 where
  pub object_type : (k : Setting) (env : Frames) (tables : Tables) → Sound k env tables → (place : Span) → Gives (InView k env) (object_type place o tables)
  pub value : (k : Setting) (env : Frames) (tables : Tables) → Sound k env tables → (t : Ty) (x : Expression Use) → InView k env t → Gives (λ v. Perhaps k env v t) (value_of (Some t) (Some (sense x)) tables)
  pub discriminants : (k : Setting) (env : Frames) (tables : Tables) → Sound k env tables → (r : Root) (ps : List (ℕ × Association Use)) → All (λ (p : ℕ × Association Use). HasDiscriminant r p.0) ps → Gives (λ as'. Given k env r as' × (length as' ≡ length ps)) (λ n. each (discriminant tables) (Some []) ps n)
  pub heading : (k : Setting) (env : Frames) (tables : Tables) → Sound k env tables → (place : Span) → Gives (λ h. All (λ f. InView k env f.ty) h.0 × IfSome (InView k env) h.1) (heading_types place s tables)

-- nor by these statements
pub record SimpleStatementsKeepFaults (n : Name Use (Expression Use)) (x : Expression Use) : Type 0 where
  pub assignment : (tables : Tables) → Stays (assignment n.first (map suffix_sense n.suffixes) (sense x) tables)
  pub call : (tables : Tables) (place : Span) → Stays (call place n.first (map suffix_sense n.suffixes) tables)
  pub raise : (tables : Tables) (place : Span) (m : Mark Use) → Stays (raising place m tables)
  pub return : (tables : Tables) (asked : Asked) → Stays (return_value asked (sense x) tables)
  pub condition : (tables : Tables) → Stays (truth_of tables (sense x))

-- nor by what these declarations name and hold
pub record DeclarationsKeepFaults (o : Objects Definition Use) (s : Specification Definition Use) : Type 0 where
  pub object_type : (tables : Tables) (place : Span) → Stays (object_type place o tables)
  pub value : (tables : Tables) (t : Option Ty) (x : Expression Use) → Stays (value_of t (Some (sense x)) tables)
  pub discriminants : (tables : Tables) (ps : List (ℕ × Association Use)) → Stays (λ n. each (discriminant tables) (Some []) ps n)
  pub heading : (tables : Tables) (place : Span) → Stays (heading_types place s tables)

-- the program that the check gives of a tree is well typed, whatever the tree is, and whatever faults were found before
pub record ProgramWellTyped (t : Tree Definition Use) : Type 0 where
  pub well_typed : (names uses : Option Fault) (p : Checked) → Elaborates names uses t (Ok p) → WellTyped p
