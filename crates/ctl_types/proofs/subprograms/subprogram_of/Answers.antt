use Rattle.std.proofs.Common.{◌∙◌, sym, ap, Bool, if◌then◌else◌, slice_get}
use Rattle.ctl_draft.proofs.Drafts.{judges_as}
use Rattle.ctl_types.specs.Subprograms as spec
use Rattle.ctl_types.proofs.subprograms.subprogram_of.Goals as goal

pub returns-then-is_declared_in : goal.returns-then-is_declared_in
returns-then-is_declared_in c =
    let s = c.args.specification.now in
    let place = c.args.place in
    let around = c.args.around in
    let h = c.args.heading in
    let d = c.args.draft.now in
    let in_part = sym c.is_declared_in.ensures ∙ c.if-is_declared_in.true in
    let completes = ap (λ (b : Bool). if b then spec.completed around place s (slice_get d.tables.entries s.name.number) (h, d) else spec.introduce around s (h, d)) in_part in
    judges_as (λ e. spec.subprogram_of around place s (h, e)) (λ e. spec.completed around place s (slice_get e.tables.entries s.name.number) (h, e)) d d c.completed.result c.completed.new.draft completes c.completed.ensures
