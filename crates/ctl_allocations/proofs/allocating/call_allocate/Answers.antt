use Rattle.std.proofs.Common.{◌+◌, ◌∙◌, ap, arith}
use Rattle.ctl_meaning.specs.Objects.{object_in}
use Rattle.ctl_code.specs.Windows.{height}
use Rattle.ctl_engine.proofs.Blocks.{stack_is}
use Rattle.ctl_engine.proofs.Following.{makes_later}
use Rattle.ctl_allocations.proofs.UserAllocates.{asks_over}
use Rattle.ctl_allocations.proofs.allocating.call_allocate.Goals as goal

pub enter_allocate-requires : goal.enter_allocate-requires
enter_allocate-requires g c =
    let code = c.args.code.now in
    let old = c.args.engine.now in
    let b = c.requires.1.0.3 in
    let goes = c.in_ok-prepare.ensures.ok.1 in
    let window = c.window.ensures in
    let under = c.height_at.ensures in
    let same = ap height (stack_is code c.args.place b.stack b.leads) in
    let first = c.window.result + c.height_at.result in
    let existing = c.in_ok-prepare.ensures.existing in
    let given = c.in_ok-prepare.ensures.number in
    let fewer = c.requires.1.1.1.1.1.1 in
    let formals = c.in_ok-prepare.ensures.formals in
    let control = c.in_ok-prepare.ensures.control in (
      c.requires.0,
      (
        asks_over code old c.prepare.new.self c.args.place first b.stack g.s.0 c.in_ok-prepare.ensures.ok.0 b.mode b.fine.3 b.inside (omega (arith, window, under, same)) goes.kept,
        (
          c.requires.1.1.0,
          (
            ap (λ x. object_in c.args.pool x.objects) existing ∙ c.requires.1.1.1.0,
            (
              c.requires.1.1.1.1.0,
              (
                record {
                  masters = c.in_ok-prepare.ensures.masters;
                  control = omega (arith, control);
                  events = c.in_ok-prepare.ensures.events;
                  formals = omega (arith, formals);
                  cells = c.in_ok-prepare.ensures.cells;
                  number = omega (arith, given, fewer);
                },
                c.requires.1.1.1.1.1.0,
              ),
            ),
          ),
        ),
      ),
    )

pub returns-clause-ok : goal.returns-clause-ok
returns-clause-ok g c =
    let goes = c.in_ok-prepare.ensures.ok.1 in
    makes_later c.args.code.now c.args.engine.now c.prepare.new.self c.enter_allocate.new.engine _ goes.events goes.picks c.enter_allocate.ensures
