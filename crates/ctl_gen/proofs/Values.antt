-- The cells of elementary variables.
use Rattle.std.proofs.Common.{◌≡◌, ℕ, List, [], ◌∷◌, refl}
use Rattle.ctl_program.specs.declared.types.Ty.{Ty}
use Rattle.ctl_program.specs.declared.types.Ty.TheVariants as TyOf
use Rattle.ctl_meaning.specs.Lists.{opened_lists}
use Rattle.ctl_meaning.specs.Objects.{first_cells, opened_objects}
use Rattle.ctl_meaning.specs.Types.{Tables, cells_of, opened_types}
use Rattle.ctl_meaning.specs.Names.{scalar_of, opened_names}
use Rattle.ctl_gen.proofs.Known.{IsScalar}

-- the one cell of an elementary variable, 0 where its slot has none
pub one_cell : (v : List ℕ) → first_cells 1 v ≡ scalar_of (first_cells 1 v) ∷ []
unfolding opened_objects opened_names opened_lists
one_cell [] = refl
one_cell (x ∷ v) = refl

-- a scalar type has one cell
pub scalar_cells : (k : Tables) (ty : Ty) → IsScalar ty → cells_of k ty ≡ 1
unfolding opened_types
scalar_cells k TyOf.Integer h = refl
scalar_cells k TyOf.Count h = refl
scalar_cells k TyOf.Boolean h = refl
scalar_cells k TyOf.Address h = refl
scalar_cells k TyOf.Handle h = absurd h
scalar_cells k (TyOf.Access a) h = refl
scalar_cells k (TyOf.Record t) h = absurd h
