-- The tables before the text are sound.
use Rattle.std.proofs.Common.{arith, ◌≡◌, ◌<◌, refl, sym, ◌∙◌, subst, ℕ, zero, suc, nat_eq, nat_lt, Bool, true, false, ◌||◌, if◌then◌else◌, List, [], slice_get, Option, Some, None}
use Rattle.std.proofs.lemmas.Bool.Decides.{nat_tests}
use Rattle.ctl_program.specs.declared.types.Ty.TheVariants as ty
use Rattle.ctl_syntax.specs.declared.denoted.OperationName.{OperationName}
use Rattle.ctl_syntax.specs.declared.denoted.OperationName.TheVariants.{Initialize, Adjust, Finalize, Allocate, Deallocate}
use Rattle.ctl_typing.specs.declared.table.Tables.{Tables}
use Rattle.ctl_typing.specs.declared.table.RecordEntry.{RecordEntry}
use Rattle.ctl_typing.specs.Lookup.{component_of, descends, designated_by, has_subpools}
use Rattle.ctl_types.specs.Elaboration.{library_records, main_declared, library, begun, outside}
use Rattle.ctl_draft.specs.Draft.{declare}
use Rattle.ctl_resolve.specs.Library.{operation_named}
use Rattle.ctl_types.specs.Subprograms.{add_subprogram}
use Rattle.ctl_declarations.specs.Types.{is_given}
use Rattle.ctl_typing.specs.declared.table.Entry.TheVariants as entry
use Rattle.ctl_typing.specs.Judgement.{with_fault}
use Rattle.ctl_program.specs.declared.operators.SubprogramKind.TheVariants as kind
use Rattle.ctl_tree.specs.declared.fault.Fault.{Fault}
use Rattle.ctl_tree.specs.declared.fault.FaultCode.TheVariants as rule
use Rattle.ctl_syntax.specs.declared.denoted.Definition.{Definition}
use Rattle.ctl_draft.specs.Operations.{user_operation, operations_of}
use Rattle.ctl_well_typed.specs.Setting.{Frames, Setting, InView}
use Rattle.ctl_well_typed.specs.Types.{Descends, itself, HasRoot}
use Rattle.ctl_sound.specs.Known.{IfSome}
use Rattle.ctl_sound.specs.Sound.{EntryFine, TypesFine, Sound}
use Rattle.ctl_sound.specs.Library.{HasLibrary, BeginningSound}

-- the tables before the text, however the main procedure is called
abbrev tables : Tables
tables = (declare (entry.Subprogram (record { subprogram = 0; formals = []; names = []; result = None })) (add_subprogram outside kind.Procedure library)).tables

same_tables : (name : Definition) (names uses : Option Fault) → tables ≡ (main_declared name (begun names uses)).tables
same_tables name names uses = by_name (is_given (operation_named name.identifier.text))
  where
    by_name : (b : Bool) → tables ≡ (declare (entry.Subprogram (record { subprogram = 0; formals = []; names = []; result = None })) (add_subprogram outside kind.Procedure (if b then record (begun names uses) { notes = with_fault rule.Override name.identifier.span (begun names uses).notes } else begun names uses))).tables
    by_name true = refl
    by_name false = refl

module _ (k : Setting) (env : Frames) (has : HasLibrary k) where
  rooted : (n : ℕ) (r : RecordEntry) → slice_get library_records n ≡ Some r → HasRoot k n r.root
  rooted n r e = let h = has.records n r e in record { is = h.is; found = h.found; rooted = h.rooted }

  in_view : (n : ℕ) (r : RecordEntry) → slice_get library_records n ≡ Some r → InView k env (ty.Record n)
  in_view n r e = let h = has.records n r e in record { is = h.is; home = []; found = h.found; at_home = h.home; encloses = refl }

  no_component : (name : List ℕ) (t : ℕ) → component_of tables name t ≡ None
  no_component name zero = refl
  no_component name (suc zero) = refl
  no_component name (suc (suc zero)) = refl
  no_component name (suc (suc (suc zero))) = refl
  no_component name (suc (suc (suc (suc t)))) = refl

  only_itself : (u t : ℕ) → descends tables u t ≡ (nat_eq t u || false)
  only_itself u zero = refl
  only_itself u (suc zero) = refl
  only_itself u (suc (suc zero)) = refl
  only_itself u (suc (suc (suc zero))) = refl
  only_itself u (suc (suc (suc (suc t)))) = refl

  ancestor : (u t : ℕ) → descends tables u t ≡ true → Descends k u t
  ancestor u t h = by_test (nat_eq t u) refl (sym (only_itself u t) ∙ h)
    where
      by_test : (b : Bool) → nat_eq t u ≡ b → (b || false) ≡ true → Descends k u t
      by_test true e h = let same : u ≡ t = grind (arith, nat_tests) in subst (λ n. Descends k u n) same itself
      by_test false e h = absurd (cc)

  library_in_view : (t : ℕ) → nat_lt t 4 ≡ true → InView k env (ty.Record t)
  library_in_view zero h = in_view 0 _ refl
  library_in_view (suc zero) h = in_view 1 _ refl
  library_in_view (suc (suc zero)) h = in_view 2 _ refl
  library_in_view (suc (suc (suc zero))) h = in_view 3 _ refl
  library_in_view (suc (suc (suc (suc t)))) h = absurd (grind (arith, nat_tests))

  no_operation : (o : OperationName) (t : ℕ) → user_operation o (operations_of (slice_get tables.states.records t)) ≡ None
  no_operation Initialize zero = refl
  no_operation Initialize (suc zero) = refl
  no_operation Initialize (suc (suc zero)) = refl
  no_operation Initialize (suc (suc (suc zero))) = refl
  no_operation Initialize (suc (suc (suc (suc t)))) = refl
  no_operation Adjust zero = refl
  no_operation Adjust (suc zero) = refl
  no_operation Adjust (suc (suc zero)) = refl
  no_operation Adjust (suc (suc (suc zero))) = refl
  no_operation Adjust (suc (suc (suc (suc t)))) = refl
  no_operation Finalize zero = refl
  no_operation Finalize (suc zero) = refl
  no_operation Finalize (suc (suc zero)) = refl
  no_operation Finalize (suc (suc (suc zero))) = refl
  no_operation Finalize (suc (suc (suc (suc t)))) = refl
  no_operation Allocate zero = refl
  no_operation Allocate (suc zero) = refl
  no_operation Allocate (suc (suc zero)) = refl
  no_operation Allocate (suc (suc (suc zero))) = refl
  no_operation Allocate (suc (suc (suc (suc t)))) = refl
  no_operation Deallocate zero = refl
  no_operation Deallocate (suc zero) = refl
  no_operation Deallocate (suc (suc zero)) = refl
  no_operation Deallocate (suc (suc (suc zero))) = refl
  no_operation Deallocate (suc (suc (suc (suc t)))) = refl

  nothing_designated : (a : ℕ) → designated_by tables a ≡ None
  nothing_designated a = refl

  nothing_in_subpools : (a : ℕ) → has_subpools tables (slice_get tables.states.accesses a) ≡ false
  nothing_in_subpools a = refl

  pub types_sound : TypesFine k env tables
  types_sound = record {
    component = λ name t i c e v. absurd (let no = no_component name t in cc);
    ancestor = ancestor;
    rooted = rooted;
    library = library_in_view;
    mark_pool = rooted 3 _ refl;
    designated = λ a t x e f. absurd (let no = nothing_designated a in cc);
    designated_in_view = λ a t e v. absurd (let no = nothing_designated a in cc);
    designated_at_home = λ a t e to. absurd (let no = nothing_designated a in cc);
    subpools = λ a e to. absurd (let no = nothing_in_subpools a in cc);
  }

  entries_sound : (n : ℕ) → IfSome (EntryFine k env) (slice_get tables.entries n)
  entries_sound zero = record { is = _; callable = record { found = has.main; encloses = refl }; formals = refl; result = refl; formals_in_view = tt; result_in_view = tt }
  entries_sound (suc n) = tt

  beginning : Sound k env tables
  beginning = record {
    entries = entries_sound;
    types = types_sound;
    operations = λ o t s v e. absurd (let no = no_operation o t in cc);
    exceptions = λ n h. let below : n < 3 = grind (arith, nat_tests) in omega (arith, has.exceptions, below);
  }

pub beginning_sound : BeginningSound
beginning_sound = record { sound = λ k env has name names uses. subst (λ t. Sound k env t) (same_tables name names uses) (beginning k env has) }
