use Rattle.std.proofs.Common.{subst, sym}
use Rattle.ctl_meaning.specs.Objects.{with_begun}
use Rattle.ctl_meaning.specs.Changes.{begin_finalization, opened_changes}
use Rattle.ctl_engine.specs.Shows.{Holds, Kept, kept}
use Rattle.ctl_engine.proofs.Owned.{begun_keeps, holds_changed}
use Rattle.ctl_engine.proofs.Stocked.{stocked}
use Rattle.ctl_engine.proofs.engine.Engine.begin_finalization.Goals as goal

pub returns-clause-holds : goal.returns-clause-holds
unfolding opened_changes
returns-clause-holds c = λ code k ops w h.
    let old = c.args.self.now in
    let n = c.args.number in
    subst (λ (e : Kept). Holds code e k ops (begin_finalization n w)) (sym (stocked (kept old) c.begin_finalization.new.self _ c.begin_finalization.ensures.objects c.begin_finalization.ensures.same)) (holds_changed code (kept old) k ops w n with_begun begun_keeps h)
