-- What is emitted, and what is still to be emitted, make up the whole.
use Rattle.std.proofs.Common.{◌≡◌, ◌+◌, ◌*◌, ◌≤◌, ◌-◌, None, drop, length, map}
use Rattle.ctl_emitter.specs.Emitted.{further_arms, further_handlers, stated}
use Rattle.ctl_layout.specs.Layout.{all, arm_code, handler_code, statement_code}
use Rattle.ctl_emitter.proofs.Emission.{IsWithin}
use Rattle.ctl_emit.proofs.+emit.Given as goal

abbrev pub invariant-emit_statements::statements-loop-one : goal.invariant-emit_statements::statements-loop-one
invariant-emit_statements::statements-loop-one l =
    (stated (all (map statement_code (drop l.one-index l.statements))) l.landing l.emitter ≡ stated (all (map statement_code l.statements)) l.landing l.fn.emitter)
    × IsWithin l.landing l.emitter

abbrev pub invariant-emit_statements::further_arms-loop-arm : goal.invariant-emit_statements::further_arms-loop-arm
invariant-emit_statements::further_arms-loop-arm l =
    (stated (further_arms (length l.emitter.instructions - l.end) (map arm_code (drop l.arm-index l.arms))) l.landing l.emitter ≡ stated (further_arms (length l.fn.emitter.instructions - l.end) (map arm_code l.arms)) l.landing l.fn.emitter)
    × IsWithin l.landing l.emitter
    × (l.end ≤ length l.emitter.instructions)

abbrev pub invariant-emit_handlers::handlers-loop-one : goal.invariant-emit_handlers::handlers-loop-one
invariant-emit_handlers::handlers-loop-one l =
    (stated (further_handlers (length l.emitter.instructions - l.end) (map handler_code (drop l.one-index l.handlers))) None l.emitter ≡ stated (further_handlers (length l.fn.emitter.instructions - l.end) (map handler_code l.handlers)) None l.fn.emitter)
    × (l.end ≤ length l.emitter.instructions)

-- Each call goes down the statement, or at one size to a function of lower rank.

abbrev pub decreases-emit_statements::statement : goal.decreases-emit_statements::statement
decreases-emit_statements::statement l = goal.size-emit_statements::statement l * 16 + 0

abbrev pub decreases-emit_statements::master : goal.decreases-emit_statements::master
decreases-emit_statements::master l = goal.size-emit_statements::master l * 16 + 1

abbrev pub decreases-emit_statements::statements : goal.decreases-emit_statements::statements
decreases-emit_statements::statements l = goal.size-emit_statements::statements l * 16 + 1

abbrev pub decreases-emit_statements::tested : goal.decreases-emit_statements::tested
decreases-emit_statements::tested l = goal.size-emit_statements::tested l * 16 + 2

abbrev pub decreases-emit_statements::block : goal.decreases-emit_statements::block
decreases-emit_statements::block l = goal.size-emit_statements::block l * 16 + 2

abbrev pub decreases-emit_statements::endless : goal.decreases-emit_statements::endless
decreases-emit_statements::endless l = goal.size-emit_statements::endless l * 16 + 2

abbrev pub decreases-emit_statements::while_loop : goal.decreases-emit_statements::while_loop
decreases-emit_statements::while_loop l = goal.size-emit_statements::while_loop l * 16 + 3

abbrev pub decreases-emit_statements::for_loop : goal.decreases-emit_statements::for_loop
decreases-emit_statements::for_loop l = goal.size-emit_statements::for_loop l * 16 + 2

abbrev pub decreases-emit_statements::further_arms : goal.decreases-emit_statements::further_arms
decreases-emit_statements::further_arms l = goal.size-emit_statements::further_arms l * 16 + 3

abbrev pub decreases-emit_statements::arms : goal.decreases-emit_statements::arms
decreases-emit_statements::arms l = goal.size-emit_statements::arms l * 16 + 4

abbrev pub decreases-emit_handlers::handled : goal.decreases-emit_handlers::handled
decreases-emit_handlers::handled l = goal.size-emit_handlers::handled l * 16 + 0

abbrev pub decreases-emit_handlers::handler : goal.decreases-emit_handlers::handler
decreases-emit_handlers::handler l = goal.size-emit_handlers::handler l * 16 + 0

abbrev pub decreases-emit_handlers::handlers : goal.decreases-emit_handlers::handlers
decreases-emit_handlers::handlers l = goal.size-emit_handlers::handlers l * 16 + 1

abbrev pub decreases-emit_handlers::skipped_handlers : goal.decreases-emit_handlers::skipped_handlers
decreases-emit_handlers::skipped_handlers l = goal.size-emit_handlers::skipped_handlers l * 16 + 2

abbrev pub decreases-emit_handlers::chosen : goal.decreases-emit_handlers::chosen
decreases-emit_handlers::chosen l = goal.size-emit_handlers::chosen l * 16 + 2
