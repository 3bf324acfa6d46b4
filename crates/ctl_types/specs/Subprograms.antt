-- Subprograms as they are declared, and bodies that complete them (6.1, 6.3.1).
use Rattle.std.specs.Prelude.{ℕ, Bool, true, false, ◌&&◌, not, if◌then◌else◌, nat_eq, List, [], ◌∷◌, ◌++◌, length, map, slice_get, slice_set, Option, Some, None}
use Rattle.ctl_grammar.specs.Spelling.{same_name}
use Rattle.ctl_tree.specs.declared.span.Span.{Span}
use Rattle.ctl_tree.specs.declared.fault.FaultCode.TheVariants as rule
use Rattle.ctl_program.specs.declared.types.Ty.{Ty}
use Rattle.ctl_program.specs.declared.operators.SubprogramKind.{SubprogramKind}
use Rattle.ctl_program.specs.declared.operators.SubprogramKind.TheVariants as kind
use Rattle.ctl_program.specs.declared.statement.Item.{Item as Checked_item}
use Rattle.ctl_program.specs.declared.statement.Item.TheVariants as made
use Rattle.ctl_program.specs.declared.statement.Master.{Master}
use Rattle.ctl_syntax.specs.declared.denoted.Definition.{Definition}
use Rattle.ctl_syntax.specs.declared.denoted.Use.{Use}
use Rattle.ctl_syntax.specs.declared.item.Formal.{Formal}
use Rattle.ctl_syntax.specs.declared.item.Specification.{Specification}
use Rattle.ctl_syntax.specs.declared.name.Mark.{Mark}
use Rattle.ctl_typing.specs.declared.table.Entry.{Entry}
use Rattle.ctl_typing.specs.declared.table.Entry.TheVariants as entry
use Rattle.ctl_typing.specs.declared.table.FormalEntry.{FormalEntry}
use Rattle.ctl_typing.specs.declared.table.Profile.{Profile}
use Rattle.ctl_draft.specs.declared.draft.Draft.{Draft}
use Rattle.ctl_draft.specs.declared.draft.Routine.{Routine}
use Rattle.ctl_draft.specs.declared.draft.Around.{Around}
use Rattle.ctl_draft.specs.declared.draft.Giving.{Giving}
use Rattle.ctl_draft.specs.declared.draft.Giving.TheVariants as giving
use Rattle.ctl_typing.specs.Lookup.{same}
use Rattle.ctl_draft.specs.Draft.{fault_when, is_declared_in, declare}
use Rattle.ctl_declarations.specs.Declarations.{heading, same_formals, play, role_of, indicator_kept}

abbrev pub formal_names : List (Formal Definition Use) → List (List ℕ)
formal_names [] = []
formal_names (f ∷ fs) = map (λ n. n.identifier.text) f.names ++ formal_names fs

abbrev pub kind_of : Option (Mark Use) → SubprogramKind
kind_of None = kind.Procedure
kind_of (Some m) = kind.Function

-- its body has not come yet
abbrev pub add_subprogram : Around → SubprogramKind → Draft → Draft
add_subprogram around k d = record d { subprograms = d.subprograms ++ (record { level = around.level; kind = k; body = None }) ∷ [] }

-- a subprogram takes a body where its heading is known
abbrev pub numbered : ℕ → Option (List FormalEntry × Option Ty) → Option ℕ
numbered s None = None
numbered s (Some h) = Some s

abbrev pub profile : ℕ → List (List ℕ) → List FormalEntry × Option Ty → Profile
profile s names h = record { subprogram = s; formals = h.0; names = names; result = h.1 }

abbrev pub entry_of : ℕ → List (List ℕ) → Option (List FormalEntry × Option Ty) → Entry
entry_of s names None = entry.Unknown
entry_of s names (Some h) = entry.Subprogram (profile s names h)

-- a subprogram that is declared here, with the next number
abbrev pub introduce : Around → Specification Definition Use → Option (List FormalEntry × Option Ty) × Draft → Option ℕ × Draft
introduce around s (h, d) = (
  numbered (length d.subprograms) h,
  declare (entry_of (length d.subprograms) (formal_names s.formals) h)
      (add_subprogram around (kind_of s.result) (play s.name.identifier.span (length d.subprograms) (role_of around s h d.tables) d)),
)

abbrev pub declaration : Span → Specification Definition Use → Around → Draft → List Checked_item × Draft
declaration place s around d = silent (introduce around s (heading place s d))
  where
    silent : Option ℕ × Draft → List Checked_item × Draft
    silent (n, d) = (made.Silent ∷ [], d)

-- the same names, but for case
abbrev pub same_names : List (List ℕ) → List (List ℕ) → Bool
same_names [] [] = true
same_names (a ∷ as') (b ∷ bs) = same_name a b && same_names as' bs
same_names as' bs = false

abbrev pub same_results : Option Ty → Option Ty → Bool
same_results None None = true
same_results (Some s) (Some t) = same s t
same_results s t = false

-- a body repeats the names, modes and types of its declaration (6.3.1)
abbrev pub conforms : Profile → List (List ℕ) → List FormalEntry × Option Ty → Bool
conforms p names h = same_formals p.formals h.0 && same_names p.names names && same_results p.result h.1

abbrev pub conformed : Profile → List (List ℕ) → Option (List FormalEntry × Option Ty) → Bool
conformed p names None = true
conformed p names (Some h) = conforms p names h

abbrev pub is_of_level : ℕ → Option Routine → Bool
is_of_level level None = false
is_of_level level (Some r) = nat_eq r.level level

-- a subprogram of the part takes the body that repeats its declaration
abbrev pub completes : Around → List Routine → Profile → List (List ℕ) → Option (List FormalEntry × Option Ty) → Option ℕ
completes around rs p names None = None
completes around rs p names (Some h) = if conforms p names h && is_of_level around.level (slice_get rs p.subprogram) then Some p.subprogram else None

abbrev pub completed : Around → Span → Specification Definition Use → Option Entry → Option (List FormalEntry × Option Ty) × Draft → Option ℕ × Draft
completed around place s (Some (entry.Subprogram p)) (h, d) =
    (completes around d.subprograms p (formal_names s.formals) h, indicator_kept s (fault_when (not (conformed p (formal_names s.formals) h)) rule.Type place d))
completed around place s e (h, d) = (None, d)

-- the subprogram of a body, which may complete a declaration
abbrev pub subprogram_of : Around → Span → Specification Definition Use → Option (List FormalEntry × Option Ty) × Draft → Option ℕ × Draft
subprogram_of around place s (h, d) =
    if is_declared_in around s.name.number d then completed around place s (slice_get d.tables.entries s.name.number) (h, d) else introduce around s (h, d)

abbrev pub giving_of : Option (Mark Use) → Option (List FormalEntry × Option Ty) → Giving
giving_of None h = giving.Nothing
giving_of (Some m) (Some (fs, Some t)) = giving.Value t
giving_of (Some m) h = giving.Unclear

-- the body of this number is known
abbrev pub with_body : ℕ → Master → Option Routine → Draft → Draft
with_body s m None d = d
with_body s m (Some p) d = record d { subprograms = slice_set d.subprograms s (record { level = p.level; kind = p.kind; body = Some m }) }

abbrev pub put_body : Option ℕ → Option Master → Draft → Draft
put_body (Some s) (Some m) d = with_body s m (slice_get d.subprograms s) d
put_body s m d = d
