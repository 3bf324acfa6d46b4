use Rattle.std.proofs.Common.{◌≡◌, ℕ, suc, ◌-◌, ◌∙◌, sym, ap, arith}
use Rattle.ctl_code.specs.Table.{out_of}
use Rattle.ctl_frames.specs.Masters.{display_from}
use Rattle.ctl_frames.proofs.Links.{got}
use Rattle.ctl_engine.proofs.Reached.{out_here, out_further, out_of_all}
use Rattle.ctl_places.proofs.variables.master_out.Goals as goal

pub returns-then-left-eq0-clause-there : goal.returns-then-left-eq0-clause-there
returns-then-left-eq0-clause-there g c =
    let some = c.loop-count-test.true in
    let within = c.loop-count.invariant.0 in
    let found = got c.args.engine.now.masters.items (c.loop-count.count - 1) c.index-master.result.now (omega (arith, some, within)) c.index-master.ensures in
    let none : c.loop-count.left ≡ 0 = omega (arith, c.if-left-eq0.true) in
    (c.index-master.result.now, found, sym c.loop-count.invariant.1 ∙ (ap (λ (n : ℕ). out_of (display_from c.loop-count.count g.hs) n) none ∙ out_here c.loop-count.count c.args.engine.now.masters.items g.hs c.index-master.result.now c.requires (omega (arith, some)) found))

pub loop-count-smaller : goal.loop-count-smaller
loop-count-smaller g c =
    let some = c.loop-count-test.true in
    let within = c.loop-count.invariant.0 in
    let found = got c.args.engine.now.masters.items (c.loop-count.count - 1) c.index-master.result.now (omega (arith, some, within)) c.index-master.ensures in
    (out_further c.loop-count.count (c.loop-count.left - 1) c.args.engine.now.masters.items g.hs c.index-master.result.now c.requires (omega (arith, some)) within found).0

pub loop-count-preserved : goal.loop-count-preserved
loop-count-preserved g c =
    let some = c.loop-count-test.true in
    let within = c.loop-count.invariant.0 in
    let found = got c.args.engine.now.masters.items (c.loop-count.count - 1) c.index-master.result.now (omega (arith, some, within)) c.index-master.ensures in
    let f = out_further c.loop-count.count (c.loop-count.left - 1) c.args.engine.now.masters.items g.hs c.index-master.result.now c.requires (omega (arith, some)) within found in
    let one : suc (c.loop-count.left - 1) ≡ c.loop-count.left = omega (arith, c.if-left-eq0.false) in
    (f.1, f.2 ∙ (ap (λ (n : ℕ). out_of (display_from c.loop-count.count g.hs) n) one ∙ c.loop-count.invariant.1))

pub returns-clause-none : goal.returns-clause-none
returns-clause-none g c = λ t. sym c.loop-count.invariant.1 ∙ out_of_all c.loop-count.count c.loop-count.left g.hs (omega (arith, c.loop-count-test.false))
