-- An allocation is opaque: its words are in the region or in Blocks, so a `&` to it has none to show. Assumes `Logic`.
use mathlib.Core.Path.{refl}
use denote.RattleType.{RattleType}
use denote.Param.Laws.{Laws}
use Rattle.std.specs.declared.alloc.Allocator.{Ghosts}
use Rattle.raw_region.specs.contracts.allocation.Allocation.{the_written}
use Rattle.raw_region.proofs.Opaque.{opaque_law}
use Rattle.raw_region.proofs.allocation.Allocation.TheLaw.Statement.{statement}

pub shares : (A : RattleType) (g : Ghosts A.Denot) (L : Laws A) → statement A g L
shares A g L = opaque_law (the_written A g) (λ home block offset. refl)
