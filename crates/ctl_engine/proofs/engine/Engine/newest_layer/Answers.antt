use Rattle.std.proofs.Common.{◌≡◌, ◌-◌, ◌∙◌, suc, drop, arith, ap}
use Rattle.ctl_frames.specs.Masters.{layer_of, rising_layers}
use Rattle.ctl_frames.proofs.Links.{got}
use Rattle.ctl_engine.proofs.NewestLayers.{none_from, none_there, none_below, not_a_layer}
use Rattle.ctl_engine.proofs.engine.Engine.newest_layer.Goals as goal

pub returns-then-index-clause-some : goal.returns-then-index-clause-some
returns-then-index-clause-some c =
    let owned = c.args.self.now.owned.items in
    let some = c.loop-end-test.true in
    let within = c.loop-end.invariant.0 in
    let next : suc (c.loop-end.end - 1) ≡ c.loop-end.end = omega (arith, some) in
    let found = got owned (c.loop-end.end - 1) c.index.result.now (omega (arith, some, within)) c.index.ensures in
    (c.index.result.now, record { is_own = omega (arith, some); found = found; is_layer = c.if-index.true; behind = ap (λ j. rising_layers (drop j owned)) next ∙ c.loop-end.invariant.1 })

pub returns-clause-none : goal.returns-clause-none
returns-clause-none c = none_from c.args.self.now.owned.items c.loop-end.end c.args.master.now.owned c.loop-end-test.false c.loop-end.invariant.1

pub loop-end-preserved : goal.loop-end-preserved
loop-end-preserved c =
    let owned = c.args.self.now.owned.items in
    let some = c.loop-end-test.true in
    let within = c.loop-end.invariant.0 in
    let next : suc (c.loop-end.end - 1) ≡ c.loop-end.end = omega (arith, some) in
    let found = got owned (c.loop-end.end - 1) c.index.result.now (omega (arith, some, within)) c.index.ensures in
    (omega (arith, within), none_there owned (c.loop-end.end - 1) c.index.result.now found (not_a_layer c.index.result.now.is_layer (layer_of c.index.result.now) c.if-index.false) (ap (λ j. rising_layers (drop j owned)) next ∙ c.loop-end.invariant.1))

pub loop-end-init : goal.loop-end-init
loop-end-init c =
    let least = c.min-end.ensures in
    let count = c.count_owned.ensures in
    (omega (arith, least, count), none_below c.args.self.now.owned.items c.args.next c.min-end.result (omega (arith, least, count)) c.requires)
