use Rattle.std.proofs.Common.{◌≡◌, refl, sym, ap, ◌∙◌, List, Option, option_map, Some, None}
use Rattle.std.specs.Option.{option_zip}
use Rattle.ctl_draft.specs.declared.draft.Draft.{Draft}
use Rattle.ctl_draft.specs.declared.draft.Routine.{Routine}
use Rattle.ctl_program.specs.declared.program.Checked.{Checked}
use Rattle.ctl_program.specs.declared.program.Subprogram.{Subprogram}
use Rattle.ctl_program.specs.declared.types.AccessType.{AccessType}
use Rattle.ctl_program.specs.declared.types.Component.{Component}
use Rattle.ctl_program.specs.declared.types.RecordType.{RecordType}
use Rattle.ctl_tree.specs.declared.text.Text.{Text}
use Rattle.ctl_typing.specs.declared.table.Tables.{Tables}
use Rattle.ctl_types.specs.Elaboration as spec
use Rattle.ctl_types.proofs.programs.checked_of.Goals as goal

abbrev Kept : Type 0
Kept = (Tables × List Text) × (List (Option (List Component)) × List Routine)

abbrev kept : Draft → Kept
kept d = ((d.tables, d.exceptions), (d.components, d.subprograms))

abbrev types : Tables → List (List Component) → List RecordType
types tables css = spec.record_types tables.records tables.states.records css

abbrev known : Kept → Option ((List RecordType × List Subprogram) × List AccessType)
known k = option_zip (option_zip (option_map (types k.0.0) (spec.components_known k.1.0)) (spec.subprograms k.1.1)) (spec.access_types k.0.0.states.accesses)

abbrev program : List Text → (List RecordType × List Subprogram) × List AccessType → Checked
program names m = record { exceptions = names; records = m.0.0; accesses = m.1; subprograms = m.0.1; main = 0 }

-- in whichever order the parts are looked at
checked_with_is : (d : Draft) (as' : Option (List AccessType)) (ss : Option (List Subprogram)) (css : Option (List (List Component))) → option_map (program d.exceptions) (option_zip (option_zip (option_map (types d.tables) css) ss) as') ≡ spec.checked_with d as' ss css
checked_with_is d (Some as') (Some ss) (Some css) = refl
checked_with_is d (Some as') (Some ss) None = refl
checked_with_is d (Some as') None (Some css) = refl
checked_with_is d (Some as') None None = refl
checked_with_is d None (Some ss) (Some css) = refl
checked_with_is d None (Some ss) None = refl
checked_with_is d None None (Some css) = refl
checked_with_is d None None None = refl

checked_is : (d : Draft) (k : Kept) (m : Option ((List RecordType × List Subprogram) × List AccessType)) → k ≡ kept d → m ≡ known k → option_map (program k.0.1) m ≡ spec.checked_of d
checked_is d k m same all =
    ap (option_map (program k.0.1)) all
    ∙ ap (λ (q : Kept). option_map (program q.0.1) (known q)) same
    ∙ checked_with_is d (spec.access_types d.tables.states.accesses) (spec.subprograms d.subprograms) (spec.components_known d.components)

pub returns : goal.returns
returns c = ap (option_map (program c.kept-tables.result.0.1)) (sym c.in-Some.is) ∙ checked_is c.args.draft c.kept-tables.result c.in_ok-all.field-0 c.kept-tables.ensures c.in_ok-all.ensures

pub returns-in_default : goal.returns-in_default
returns-in_default c = ap (option_map (program c.kept-tables.result.0.1)) (sym c.in_default.is) ∙ checked_is c.args.draft c.kept-tables.result c.in_ok-all.field-0 c.kept-tables.ensures c.in_ok-all.ensures
