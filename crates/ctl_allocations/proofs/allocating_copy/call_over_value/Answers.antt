use Rattle.std.proofs.Common.{◌+◌, ◌<◌, ◌∙◌, ◌∷◌, List, ap, arith, drop, length, refl, subst, sym, ℕ}
use Rattle.std.specs.Prelude.{vec_capacity, vec_len}
use Rattle.ctl_meaning.specs.Objects.{object_in}
use Rattle.ctl_code.specs.declared.kinds.Kind.{Kind}
use Rattle.ctl_code.specs.declared.kinds.Kind.TheVariants.{RecordValue}
use Rattle.ctl_code.specs.Valid.{over_numbers}
use Rattle.ctl_code.specs.States.{Cells}
use Rattle.ctl_code.specs.Windows.{height}
use Rattle.ctl_engine.specs.Shows.{Kept}
use Rattle.ctl_frames.specs.Spots.{first_spot}
use Rattle.ctl_places.specs.StorageCalling.{AsksAllocate}
use Rattle.ctl_engine.proofs.Blocks.{stack_is}
use Rattle.ctl_allocations.proofs.CopyAllocated.{source_part}
use Rattle.ctl_engine.proofs.Following.{makes_later}
use Rattle.ctl_frames.proofs.Lists.{length_set}
use Rattle.ctl_allocations.proofs.UserAllocates.{next_within}
use Rattle.ctl_allocations.proofs.ValueKept.{asks_over_value}
use Rattle.ctl_allocations.proofs.allocating_copy.call_over_value.Goals as goal

pub overflow_add-cell : goal.overflow_add-cell
overflow_add-cell g c =
    let code = c.args.code.now in
    let old = c.args.engine.now in
    let s = g.s.0 in
    let b = c.requires.1.0.3 in
    let window = c.window.ensures in
    let under = c.height_at.ensures in
    let same = ap (λ (l : List Kind). height (drop 1 l)) (stack_is code c.args.place b.stack b.leads ∙ b.fine.2.1) in
    let within = next_within code old c.args.place b.stack (over_numbers 4 (RecordValue ∷ b.fine.2.0)) s.control s.operands s.world c.requires.0 b.inside b.fine.2.2.1 in
    let bound = old.cells.ok.0 in
    let most = old.cells.ok.1 in
    omega (arith, window, under, same, within, bound, most)

pub overflow_add-base : goal.overflow_add-base
overflow_add-base g c =
    let code = c.args.code.now in
    let old = c.args.engine.now in
    let s = g.s.0 in
    let b = c.requires.1.0.3 in
    let window = c.window.ensures in
    let under = c.height_at.ensures in
    let same = ap (λ (l : List Kind). height (drop 1 l)) (stack_is code c.args.place b.stack b.leads ∙ b.fine.2.1) in
    let within = next_within code old c.args.place b.stack (over_numbers 4 (RecordValue ∷ b.fine.2.0)) s.control s.operands s.world c.requires.0 b.inside b.fine.2.2.1 in
    let bound = old.cells.ok.0 in
    let most = old.cells.ok.1 in
    omega (arith, window, under, same, within, bound, most)

pub put_value-requires : goal.put_value-requires
put_value-requires g c =
    let code = c.args.code.now in
    let old = c.args.engine.now in
    let s = g.s.0 in
    let before = c.requires.1.0 in
    let p = source_part code old before.0 c.args.place c.args.record before.2 before.1 s before.3 in
    let wide = c.in_ok-prepare.ensures.cells in
    let spots = ap (λ v. v.items) c.in_ok-prepare.ensures.spots in
    (omega (arith, wide), (first_spot s.operands, spots ∙ p.spots))

pub enter_allocate-requires : goal.enter_allocate-requires
enter_allocate-requires g c =
    let code = c.args.code.now in
    let old = c.args.engine.now in
    let ready = c.prepare.new.self in
    let put = c.put_value.new.engine in
    let s = g.s.0 in
    let t = c.args.record in
    let before = c.requires.1.0 in
    let b = before.3 in
    let goes = c.in_ok-prepare.ensures.ok.1 in
    let window = c.window.ensures in
    let under = c.height_at.ensures in
    let same = ap (λ (l : List Kind). height (drop 1 l)) (stack_is code c.args.place b.stack b.leads ∙ b.fine.2.1) in
    let cell = c.window.result + c.height_at.result in
    let wide = c.in_ok-prepare.ensures.cells in
    let asks = asks_over_value code old ready put before.0 c.args.place t before.2 cell (cell + 1) before.1 c.args.value.items s c.in_ok-prepare.ensures.ok.0 b goes.kept (omega (arith, window, under, same)) (omega (arith, wide)) refl c.put_value.ensures.kept in
    let control = c.in_ok-prepare.ensures.control in
    let formals = c.in_ok-prepare.ensures.formals in
    let given = c.put_value.ensures.given ∙ c.in_ok-prepare.ensures.number in
    let fewer = c.requires.1.1.1.1.1.1 in
    let total = ap (λ (e : Kept). length e.cells) c.put_value.ensures.kept ∙ length_set ready.cells.items cell 1 in
    let stock = c.put_value.ensures.stock ∙ c.in_ok-prepare.ensures.existing in (
      c.requires.0,
      (
        subst (λ (v : List ℕ). AsksAllocate code put c.args.place (cell + 1) (record s { operands = Cells v ∷ drop 1 s.operands })) (sym c.requires.1.1.0) asks,
        (
          c.requires.1.1.1.0,
          (
            ap (λ x. object_in c.args.pool x.objects) stock ∙ c.requires.1.1.1.1.0,
            (
              c.requires.1.1.1.1.1.0,
              (
                record {
                  masters = subst (λ v. vec_len v < vec_capacity v) (sym c.put_value.ensures.masters) c.in_ok-prepare.ensures.masters;
                  control = subst (λ v. vec_len v < vec_capacity v) (sym c.put_value.ensures.control) (omega (arith, control));
                  events = subst (λ v. vec_len v < vec_capacity v) (sym c.put_value.ensures.events) c.in_ok-prepare.ensures.events;
                  formals = subst (λ v. vec_len v < vec_capacity v) (sym c.put_value.ensures.formals) (omega (arith, formals));
                  cells = omega (arith, wide, total);
                  number = omega (arith, given, fewer);
                },
                c.requires.1.1.1.1.1.1.0,
              ),
            ),
          ),
        ),
      ),
    )

pub returns-clause-ok : goal.returns-clause-ok
returns-clause-ok g c =
    let goes = c.in_ok-prepare.ensures.ok.1 in
    makes_later c.args.code.now c.args.engine.now c.put_value.new.engine c.enter_allocate.new.engine _ (ap (λ v. v.items) c.put_value.ensures.events ∙ goes.events) (ap (λ v. v.items) c.put_value.ensures.picks ∙ goes.picks) c.enter_allocate.ensures
