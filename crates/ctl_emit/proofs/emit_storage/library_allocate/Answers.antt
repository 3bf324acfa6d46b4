use Rattle.std.proofs.Common.{rules, ◌≡◌, ◌∙◌, Some, None, ap, sym}
use Rattle.ctl_layout.specs.Layout as spec
use Rattle.ctl_layout.specs.Parts.{Object, Part, Variable, any_type, first_position}
use Rattle.ctl_layout.specs.Values.{begun_by, reached_by, value_code}
use Rattle.ctl_emitter.specs.Emitted.{stated}
use Rattle.ctl_emitter.proofs.Emission.{on_ok}
use Rattle.ctl_emitter.proofs.EmittedStorage.{allocate_into_emitted}
use Rattle.ctl_emit.proofs.emit_storage.library_allocate.Goals as goal

pub returns-in_ok-pool_and_part-in-Some-Variable-Some-Part : goal.returns-in_ok-pool_and_part-in-Some-Variable-Some-Part
returns-in_ok-pool_and_part-in-Some-Variable-Some-Part c = on_ok _ _ c.request_into.result c.request_into.ensures (λ e.
    let a = c.args in
    let i = c.in-Some-Variable-Some-Part in
    let size = value_code a.size.now in
    let alignment = value_code a.alignment.now in
    let pool : reached_by a.pool.now ≡ Some (Variable i.pool) = search rules in
    let part : reached_by a.address.now ≡ Some (Part (begun_by a.address.now) i.steps.now i.record i.position) = search rules in
    allocate_into_emitted i.pool (begun_by a.address.now) i.steps.now i.record i.position size alignment a.emitter.now c.pool_and_part.new.emitter c.request_into.new.emitter c.in_ok-pool_and_part-in-Some-Variable-Some-Part.ensures e
    ∙ ap (λ o. stated (spec.library_allocate o (Some (Part (begun_by a.address.now) i.steps.now i.record i.position)) size alignment) None a.emitter.now) (sym pool)
    ∙ ap (λ o. stated (spec.library_allocate (reached_by a.pool.now) o size alignment) None a.emitter.now) (sym part))

pub returns-in_ok-pool_and_part-in-Some-Variable-Some-Object : goal.returns-in_ok-pool_and_part-in-Some-Variable-Some-Object
returns-in_ok-pool_and_part-in-Some-Variable-Some-Object c = on_ok _ _ c.request_into-in-Some-Variable-Some-Object.result c.request_into-in-Some-Variable-Some-Object.ensures (λ e.
    let a = c.args in
    let i = c.in-Some-Variable-Some-Object in
    let size = value_code a.size.now in
    let alignment = value_code a.alignment.now in
    let pool : reached_by a.pool.now ≡ Some (Variable i.pool) = search rules in
    let whole : reached_by a.address.now ≡ Some (Object (begun_by a.address.now) i.steps.now) = search rules in
    allocate_into_emitted i.pool (begun_by a.address.now) i.steps.now any_type first_position size alignment a.emitter.now c.pool_and_part-in-Some-Variable-Some-Object.new.emitter c.request_into-in-Some-Variable-Some-Object.new.emitter c.in_ok-pool_and_part-in-Some-Variable-Some-Object.ensures e
    ∙ ap (λ o. stated (spec.library_allocate o (Some (Object (begun_by a.address.now) i.steps.now)) size alignment) None a.emitter.now) (sym pool)
    ∙ ap (λ o. stated (spec.library_allocate (reached_by a.pool.now) o size alignment) None a.emitter.now) (sym whole))
