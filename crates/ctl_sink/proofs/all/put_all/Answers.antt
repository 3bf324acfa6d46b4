use Rattle.std.proofs.Common.{rules}
use Rattle.ctl_sink.proofs.Parts.{Appends-then}
use Rattle.ctl_sink.proofs.all.put_all.Goals as goal

pub loop-done-preserved : goal.loop-done-preserved
loop-done-preserved g c = record {
  within = search rules;
  taken = Appends-then _ _ _ c.args.bytes.now _ _ c.loop-done.invariant.taken c.in_ok-done.ensures.taken;
  kept = search rules;
}
