use Rattle.std.proofs.Common.{◌+◌, ap, sym, ◌∙◌, drop, get_or, length-drop, arith}
use Rattle.std.proofs.lemmas.List.{drop_all}
use Rattle.std.proofs.lemmas.Grind.{get_or_default_zero}
use Rattle.ctl_emitter.specs.Emitted.{lined, sought_code}
use Rattle.ctl_layout.proofs.Turns.{turn_of}
use Rattle.ctl_emit.proofs.EmittedHandlers.{next_sought, none_sought}
use Rattle.ctl_emit.proofs.emit_handlers.sought.Goals as goal

pub loop-one-preserved : goal.loop-one-preserved
loop-one-preserved c =
    let xs = c.args.exceptions.now in
    let i = c.loop-one.one-index in
    let x = get_or xs i 0 in
    let size = c.loop-one.length in
    let e0 = c.loop-one.emitter in
    let within = c.loop-one-test.true in
    let left = c.loop-one.invariant.1 in
    let rest = length-drop (i + 1) xs in (
      next_sought x (drop (i + 1) xs) size e0 c.put.new.self (omega (arith, left, rest, within)) c.in_ok-put.ensures
          ∙ turn_of (λ ys. lined (sought_code ys) e0) xs i x within (sym (get_or_default_zero xs i x within))
          ∙ c.loop-one.invariant.0,
      omega (arith, left, within, c.saturating_sub-length.ensures),
    )

pub returns : goal.returns
returns c =
    none_sought c.loop-one.emitter
    ∙ ap (λ ys. lined (sought_code ys) c.loop-one.emitter) (sym (drop_all c.loop-one.one-index c.args.exceptions.now c.loop-one-test.false))
    ∙ c.loop-one.invariant.0
