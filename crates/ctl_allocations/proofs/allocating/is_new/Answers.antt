use Rattle.std.proofs.Common.{◌≡◌, ◌⊎◌, inl, inr, false, ap, sym}
use Rattle.std.specs.Prelude.{◌&&◌, not}
use Rattle.ctl_meaning.specs.Objects.{is_untouched}
use Rattle.ctl_storage.specs.Stages.{state_of}
use Rattle.ctl_storage.specs.declared.existing.Life.{Life}
use Rattle.ctl_storage.specs.declared.existing.Life.TheVariants as LifeOf
use Rattle.ctl_allocations.proofs.allocating.is_new.Goals as goal

pub returns-in-Untouched : goal.returns-in-Untouched
unfolding is_untouched
returns-in-Untouched c = ap (λ (l : Life). is_untouched (state_of l) && not c.args.stage.has_joined) (sym c.in-Untouched.is)

pub returns-in-Finalizing : goal.returns-in-Finalizing
unfolding is_untouched
returns-in-Finalizing c = by c.in-Finalizing.is
  where
    by : (c.args.stage.life ≡ LifeOf.Finalizing) ⊎ (c.args.stage.life ≡ LifeOf.Finalized) → false ≡ (is_untouched (state_of c.args.stage.life) && not c.args.stage.has_joined)
    by (inl is) = ap (λ (l : Life). is_untouched (state_of l) && not c.args.stage.has_joined) (sym is)
    by (inr is) = ap (λ (l : Life). is_untouched (state_of l) && not c.args.stage.has_joined) (sym is)
