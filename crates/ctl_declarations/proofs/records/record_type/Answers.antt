use Rattle.std.proofs.Common.{sym, ap, ◌∙◌, [], ◌∷◌}
use Rattle.ctl_draft.specs.declared.draft.Draft.{Draft}
use Rattle.ctl_draft.specs.declared.draft.Enclosing.{Enclosing}
use Rattle.ctl_program.specs.declared.statement.Item.TheVariants.{Silent}
use Rattle.ctl_program.specs.declared.types.Root.TheVariants.{Untagged}
use Rattle.ctl_declarations.specs.Types as spec
use Rattle.ctl_declarations.proofs.Yielded.{yielded}
use Rattle.ctl_declarations.proofs.records.record_type.Goals as goal

pub returns : goal.returns
returns c =
    let place = c.args.place in
    let number = c.args.number in
    let said = c.args.said in
    let declared = c.args.declared.now in
    let around = c.args.around in
    let kept = c.untagged_kept.new.draft in
    let ended = c.declare_record.new.draft in
    yielded (spec.record_type place number said declared around) (Silent ∷ []) c.args.draft.now ended c.silent.result
    (ap (λ (d : Draft). (Silent ∷ [], d))
    (ap (λ (d : Draft). spec.declare_record around (spec.underived place number) Untagged said declared d) (sym c.untagged_kept.ensures)
    ∙ ap (λ (w : Enclosing). spec.declare_record around w Untagged said declared kept) (sym c.underived-within.ensures)
    ∙ sym c.in_ok-declare_record.ensures))
    c.silent.ensures
