use Rattle.std.proofs.Common.{◌+◌, ◌-◌, ◌<◌, Some, length, reverse, sym, subst, arith}
use Rattle.ctl_code.specs.declared.code.Instr.{Instr}
use Rattle.ctl_code.specs.Table as Table
use Rattle.ctl_frames.specs.Masters.{first_window}
use Rattle.ctl_engine.specs.Moves.{Before, Makes, here_of}
use Rattle.ctl_engine.proofs.Leading.{led_within}
use Rattle.ctl_engine.proofs.Bounds.{low_within, high_within, counted_within, parameter_within}
use Rattle.ctl_engine.proofs.Turns.{BeginsTurn, for_loop, next_loop, for_makes, next_makes}
use Rattle.ctl_engine.proofs.InWindow.{read_in, within_in, turn_in}
use Rattle.ctl_engine.proofs.loops.turn.Goals as goal

pub read-first-requires : goal.read-first-requires
read-first-requires g c = within_in g.at.engine c.args.window c.args.cells.now c.in-For.low c.requires.1.1.1.1 (low_within c.args.code.now _ c.in-For.low c.in-For.slot c.in-For.parameter _ _ _ _ (for_loop c.args.code.now g.at.engine c.args.place c.in-For.low c.in-For.slot c.in-For.parameter c.in-For.length c.in-For.way g.at.state (subst (λ (i : Instr). Before c.args.code.now g.at.engine c.args.place i g.at.state) c.in-For.is c.requires.1.0)))

pub read-last-requires : goal.read-last-requires
read-last-requires g c = within_in g.at.engine c.args.window c.args.cells.now (c.in-For.low + 1) c.requires.1.1.1.1 (high_within c.args.code.now _ c.in-For.low c.in-For.slot c.in-For.parameter _ _ _ _ (for_loop c.args.code.now g.at.engine c.args.place c.in-For.low c.in-For.slot c.in-For.parameter c.in-For.length c.in-For.way g.at.state (subst (λ (i : Instr). Before c.args.code.now g.at.engine c.args.place i g.at.state) c.in-For.is c.requires.1.0)))

pub overflow_add-place : goal.overflow_add-place
overflow_add-place g c = let within = led_within c.args.code.now (c.args.place + 2) _ c.requires.0 (subst (λ (i : Instr). Before c.args.code.now g.at.engine c.args.place i g.at.state) c.in-For.is c.requires.1.0).fine.2.2.0 in omega (arith, within)

pub overflow_add-place-in-For-2 : goal.overflow_add-place-in-For-2
overflow_add-place-in-For-2 g c = let within = led_within c.args.code.now (c.args.place + 1 + c.in-For.length) _ c.requires.0 (subst (λ (i : Instr). Before c.args.code.now g.at.engine c.args.place i g.at.state) c.in-For.is c.requires.1.0).fine.2.2.1 in omega (arith, within)

pub begin_turn-requires-clause-bound : goal.begin_turn-requires-clause-bound
begin_turn-requires-clause-bound g c = let within = within_in g.at.engine c.args.window c.args.cells.now c.counted-bound.result c.requires.1.1.1.1 (subst (λ cell. first_window (reverse g.at.engine.masters.items) + cell < length g.at.engine.cells.items) (sym c.counted-bound.ensures) (counted_within c.args.code.now _ c.in-For.low c.in-For.slot c.in-For.parameter c.in-For.way _ _ _ _ (for_loop c.args.code.now g.at.engine c.args.place c.in-For.low c.in-For.slot c.in-For.parameter c.in-For.length c.in-For.way g.at.state (subst (λ (i : Instr). Before c.args.code.now g.at.engine c.args.place i g.at.state) c.in-For.is c.requires.1.0)))) in omega (arith, within)

pub begin_turn-requires-clause-parameter : goal.begin_turn-requires-clause-parameter
begin_turn-requires-clause-parameter g c = within_in g.at.engine c.args.window c.args.cells.now c.in-For.parameter c.requires.1.1.1.1 (parameter_within c.args.code.now _ c.in-For.low c.in-For.slot c.in-For.parameter _ _ _ _ (for_loop c.args.code.now g.at.engine c.args.place c.in-For.low c.in-For.slot c.in-For.parameter c.in-For.length c.in-For.way g.at.state (subst (λ (i : Instr). Before c.args.code.now g.at.engine c.args.place i g.at.state) c.in-For.is c.requires.1.0)))

pub returns-in-For-clause-comes : goal.returns-in-For-clause-comes
returns-in-For-clause-comes g c = λ new goes. subst (λ (i : Instr). Makes c.args.code.now g.at.engine new (Table.by_instr c.args.code.now (Some i) g.at.state.operands (here_of c.args.place g.at.state))) (sym c.in-For.is)
    (for_makes c.args.code.now g.at.engine new c.args.place c.in-For.low c.in-For.slot c.in-For.parameter c.in-For.length c.in-For.way g.at.state c.read-first.result c.read-last.result c.first_value-value.result (subst (λ (i : Instr). Before c.args.code.now g.at.engine c.args.place i g.at.state) c.in-For.is c.requires.1.0)
    (record { first = (read_in g.at.engine c.args.window c.args.cells.now c.in-For.low c.read-first.result c.requires.1.1.1.1 c.read-first.ensures); last = read_in g.at.engine c.args.window c.args.cells.now (c.in-For.low + 1) c.read-last.result c.requires.1.1.1.1 c.read-last.ensures; first_fits = c.read-first.type_inv; last_fits = c.read-last.type_inv }) c.first_value-value.ensures
    (subst (λ cell. BeginsTurn g.at.engine new c.first_value-value.result cell c.in-For.parameter (c.args.place + 2) (c.args.place + 1 + c.in-For.length)) c.counted-bound.ensures (turn_in g.at.engine new c.args.window c.args.cells.now c.begin_turn.new.cells c.first_value-value.result c.counted-bound.result c.in-For.parameter (c.args.place + 2) (c.args.place + 1 + c.in-For.length) c.begin_turn.result c.requires.1.1.1.1 c.begin_turn.ensures.begins goes)))

pub read-first-requires-in-Next : goal.read-first-requires-in-Next
read-first-requires-in-Next g c = within_in g.at.engine c.args.window c.args.cells.now c.in-Next.low c.requires.1.1.1.1 (low_within c.args.code.now _ c.in-Next.low c.in-Next.slot c.in-Next.parameter _ _ _ _ (next_loop c.args.code.now g.at.engine c.args.place c.in-Next.low c.in-Next.slot c.in-Next.parameter c.in-Next.length c.in-Next.way g.at.state (subst (λ (i : Instr). Before c.args.code.now g.at.engine c.args.place i g.at.state) c.in-Next.is c.requires.1.0)))

pub read-last-requires-in-Next : goal.read-last-requires-in-Next
read-last-requires-in-Next g c = within_in g.at.engine c.args.window c.args.cells.now (c.in-Next.low + 1) c.requires.1.1.1.1 (high_within c.args.code.now _ c.in-Next.low c.in-Next.slot c.in-Next.parameter _ _ _ _ (next_loop c.args.code.now g.at.engine c.args.place c.in-Next.low c.in-Next.slot c.in-Next.parameter c.in-Next.length c.in-Next.way g.at.state (subst (λ (i : Instr). Before c.args.code.now g.at.engine c.args.place i g.at.state) c.in-Next.is c.requires.1.0)))

pub begin_turn-requires-in-Next-clause-bound : goal.begin_turn-requires-in-Next-clause-bound
begin_turn-requires-in-Next-clause-bound g c = let within = within_in g.at.engine c.args.window c.args.cells.now c.counted-bound-in-Next.result c.requires.1.1.1.1 (subst (λ cell. first_window (reverse g.at.engine.masters.items) + cell < length g.at.engine.cells.items) (sym c.counted-bound-in-Next.ensures) (counted_within c.args.code.now _ c.in-Next.low c.in-Next.slot c.in-Next.parameter c.in-Next.way _ _ _ _ (next_loop c.args.code.now g.at.engine c.args.place c.in-Next.low c.in-Next.slot c.in-Next.parameter c.in-Next.length c.in-Next.way g.at.state (subst (λ (i : Instr). Before c.args.code.now g.at.engine c.args.place i g.at.state) c.in-Next.is c.requires.1.0)))) in omega (arith, within)

pub begin_turn-requires-in-Next-clause-parameter : goal.begin_turn-requires-in-Next-clause-parameter
begin_turn-requires-in-Next-clause-parameter g c = within_in g.at.engine c.args.window c.args.cells.now c.in-Next.parameter c.requires.1.1.1.1 (parameter_within c.args.code.now _ c.in-Next.low c.in-Next.slot c.in-Next.parameter _ _ _ _ (next_loop c.args.code.now g.at.engine c.args.place c.in-Next.low c.in-Next.slot c.in-Next.parameter c.in-Next.length c.in-Next.way g.at.state (subst (λ (i : Instr). Before c.args.code.now g.at.engine c.args.place i g.at.state) c.in-Next.is c.requires.1.0)))

pub returns-in-Next-clause-comes : goal.returns-in-Next-clause-comes
returns-in-Next-clause-comes g c = λ new goes. subst (λ (i : Instr). Makes c.args.code.now g.at.engine new (Table.by_instr c.args.code.now (Some i) g.at.state.operands (here_of c.args.place g.at.state))) (sym c.in-Next.is)
    (next_makes c.args.code.now g.at.engine new c.args.place c.in-Next.low c.in-Next.slot c.in-Next.parameter c.in-Next.length c.in-Next.way g.at.state c.read-first-in-Next.result c.read-last-in-Next.result c.next_value-value.result (subst (λ (i : Instr). Before c.args.code.now g.at.engine c.args.place i g.at.state) c.in-Next.is c.requires.1.0)
    (record { first = (read_in g.at.engine c.args.window c.args.cells.now c.in-Next.low c.read-first-in-Next.result c.requires.1.1.1.1 c.read-first-in-Next.ensures); last = read_in g.at.engine c.args.window c.args.cells.now (c.in-Next.low + 1) c.read-last-in-Next.result c.requires.1.1.1.1 c.read-last-in-Next.ensures; first_fits = c.read-first-in-Next.type_inv; last_fits = c.read-last-in-Next.type_inv }) c.next_value-value.ensures
    (subst (λ cell. BeginsTurn g.at.engine new c.next_value-value.result cell c.in-Next.parameter (c.args.place - c.in-Next.length) (c.args.place + 1)) c.counted-bound-in-Next.ensures (turn_in g.at.engine new c.args.window c.args.cells.now c.begin_turn-in-Next.new.cells c.next_value-value.result c.counted-bound-in-Next.result c.in-Next.parameter (c.args.place - c.in-Next.length) (c.args.place + 1) c.begin_turn-in-Next.result c.requires.1.1.1.1 c.begin_turn-in-Next.ensures.begins goes)))
