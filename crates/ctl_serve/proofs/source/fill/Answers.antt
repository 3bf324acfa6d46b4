use Rattle.std.proofs.Common.{◌∙◌, rules}
use Rattle.ctl_serve.proofs.Filled.{Consumes-filled}
use Rattle.ctl_serve.proofs.source.fill.Goals as goal

pub loop-held-preserved : goal.loop-held-preserved
loop-held-preserved g c = record {
  within = let a = c.in_ok-n.ensures.bound in let b = c.read.auto.buffer in search rules;
  bytes = Consumes-filled _ _ _ c.loop-held.held c.in_ok-n.n c.loop-held.buffer c.read.new.buffer _ c.loop-held.invariant.within c.in_ok-n.ensures.bound.0
      c.loop-held.invariant.bytes c.in_ok-n.ensures.bytes.0;
  kept = c.in_ok-n.ensures.ok ∙ c.loop-held.invariant.kept;
}
