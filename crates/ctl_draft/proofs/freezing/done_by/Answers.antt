use Rattle.std.proofs.Common.{◌≡◌, Bool, true, [], if◌then◌else◌, ap, sym, ◌∙◌}
use Rattle.ctl_draft.specs.Freezing as spec
use Rattle.ctl_draft.proofs.InTurn.{yields_behind}
use Rattle.ctl_draft.proofs.freezing.done_by.Goals as goal

pub returns : goal.returns
returns c =
    let d = c.args.draft.now in
    let around = c.args.around in
    let ds = c.args.deeds.now in
    let new : spec.are_new d.tables.states ds ≡ true = sym c.are_new.ensures ∙ c.if-not-are_new.false in
    let all = spec.all_done d.tables.records ds d.tables.states in
    let by_test : spec.done_by around ds d ≡ spec.placed around (spec.with_states all d) = ap (λ (b : Bool). if b then spec.placed around (spec.with_states all d) else ([], d)) new in
    let records = ap (λ rs. spec.placed around (spec.with_states (spec.all_done rs ds d.tables.states) d)) (sym c.as_slice-records.ensures) in
    let same = by_test ∙ records ∙ sym (ap (λ s. spec.placed around (spec.with_states s d)) c.in_ok-do_all.ensures) in
    yields_behind (spec.placed around) (spec.done_by around ds) d (spec.with_states c.do_all.new.states d) c.placed.new.draft c.placed.result same c.placed.ensures
