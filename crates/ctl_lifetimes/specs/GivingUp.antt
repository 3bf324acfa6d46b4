-- The creation of a part that is given up, and what is finalized then.
use Rattle.std.specs.Prelude.{◌≡◌, List, ◌∷◌}
use Rattle.ctl_meaning.specs.Finalization.{Spot}
use Rattle.ctl_code.specs.declared.code.Begun.{Begun}
use Rattle.ctl_code.specs.States as T

-- what the table gives up: a part, the components of it that are complete, and what waits behind its creation
pub record GivenUp : Type 0 where
  pub spot : Spot
  pub complete : List Begun
  pub control : List T.Frame

-- the newest frame creates this part, and these wait behind it
abbrev pub Creates : List T.Frame → Spot → List T.Frame → Type 0
Creates (T.Filling x left incomplete ∷ k) s behind = (x.spot ≡ s) × (k ≡ behind)
Creates (T.Initializing x ∷ k) s behind = (x.spot ≡ s) × (k ≡ behind)
Creates _ s behind = ⊥
