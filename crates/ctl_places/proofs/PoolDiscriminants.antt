-- Discriminants of pools: one takes the place of the pool, the newest part (3.7, 13.11).
use Rattle.std.proofs.Common.{◌≡◌, ℕ, ◌+◌, ◌-◌, ◌<◌, List, Option, Some, None, drop, length, refl, sym, ap, ◌∙◌, subst, reverse}
use Rattle.std.specs.Prelude.{slice_index_or, slice_set}
use Rattle.std.specs.Option.{option_map}
use Rattle.ctl_tree.specs.declared.ending.Stop.TheVariants.{UseAfterFree}
use Rattle.ctl_program.specs.declared.types.Ty.TheVariants.{Count}
use Rattle.ctl_meaning.specs.World as W
use Rattle.ctl_meaning.specs.World.{BlockPool}
use Rattle.ctl_meaning.specs.Pools.{block_pool_at}
use Rattle.ctl_meaning.specs.Finalization.{Spot}
use Rattle.ctl_code.specs.declared.kinds.Kind.{Kind}
use Rattle.ctl_code.specs.declared.code.Code.{Code}
use Rattle.ctl_code.specs.declared.code.Cell.{Cell}
use Rattle.ctl_code.specs.declared.code.Named.{Named}
use Rattle.ctl_code.specs.declared.code.PoolDiscriminant.{PoolDiscriminant}
use Rattle.ctl_code.specs.declared.code.Instr.TheVariants.{TakeDiscriminant}
use Rattle.ctl_code.specs.States.{Word, Move, State, object_of}
use Rattle.ctl_code.specs.Table.{Here, by_discriminant, by_instr, discriminant_in, on_top}
use Rattle.ctl_code.specs.Valid.{IsValid}
use Rattle.ctl_engine.specs.declared.engine.Engine.{Engine}
use Rattle.ctl_frames.specs.declared.frame.Mode.TheVariants as ModeOf
use Rattle.ctl_frames.specs.Masters.{first_window}
use Rattle.ctl_engine.specs.Moves.{Before, GoesOn, Inside, Makes, here_of}
use Rattle.ctl_engine.specs.Shows.{Kept, kept, with_spots}
use Rattle.ctl_frames.specs.Spots.{first_spot, standing}
use Rattle.ctl_engine.proofs.Following.{makes_later}
use Rattle.ctl_places.proofs.Located.{part_on_top}
use Rattle.ctl_engine.proofs.Operands.{HasPart}
use Rattle.ctl_engine.proofs.Plain.{put_makes, put_within}
use Rattle.ctl_places.proofs.Touched.{gone_makes, part_move}
use Rattle.ctl_frames.proofs.Words.{newest_read}

-- what is known of the pool of a number in these pools
abbrev pub discriminant_at : PoolDiscriminant → ℕ → W.Pools → Option ℕ
discriminant_at which n x = option_map (discriminant_in which) (block_pool_at n x)

discriminant_is : (which : PoolDiscriminant) (p : Option BlockPool) (to : Named) (ops : List Word) (h : Here) → by_discriminant which p to ops h ≡ part_move (option_map (discriminant_in which) p) to ops h
discriminant_is which None to ops h = refl
discriminant_is which (Some p) to ops h = refl

-- the table's move, once the discriminant is read
discriminant_move : (code : Code) (e : Engine) (place : ℕ) (s : State) (below : List Kind) (t : ℕ) (which : PoolDiscriminant) (to : Cell) (x : Option ℕ) → HasPart code (kept e) below s.control s.operands s.world → x ≡ discriminant_at which (first_spot s.operands).object s.world.pools
    → by_instr code (Some (TakeDiscriminant t which to)) s.operands (here_of place s) ≡ part_move x to.named (drop 1 s.operands) (here_of place s)
discriminant_move code e place s below t which to x p is =
    let h = here_of place s in
    let rest = drop 1 s.operands in
    ap (λ (l : List Word). on_top (λ z below. by_discriminant which (block_pool_at (object_of z) s.world.pools) to.named below h) l h) p.are
    ∙ (ap (λ n. by_discriminant which (block_pool_at n s.world.pools) to.named rest h) p.object
    ∙ (discriminant_is which (block_pool_at (first_spot s.operands).object s.world.pools) to.named rest h
    ∙ ap (λ z. part_move z to.named rest h) (sym is)))

pub discriminant_makes : (code : Code) (old mid new : Engine) (place : ℕ) (s : State) (t : ℕ) (which : PoolDiscriminant) (to : Cell) (x : ℕ) → IsValid code → Before code old place (TakeDiscriminant t which to) s
    → Some x ≡ discriminant_at which (first_spot s.operands).object s.world.pools → kept mid ≡ with_spots (kept old) (standing s.control (drop 1 s.operands)) → mid.events.items ≡ old.events.items → mid.picks.items ≡ old.picks.items
    → GoesOn mid new (ModeOf.At (place + 1)) (slice_set mid.cells.items (first_window (reverse mid.masters.items) + to.at) x)
    → (t' : ℕ) → Makes code old new (by_instr code (Some (TakeDiscriminant t' which to)) s.operands (here_of place s))
discriminant_makes code old mid new place s t which to x valid b is mid_is events picks g t' =
    let below = b.fine.0 in
    let p = part_on_top code old t b.stack below s b.inside b.fine.1 in
    let made = put_makes code mid new place to Count below s.control (drop 1 s.operands) s.world x tt valid (subst (λ (e : Kept). Inside code e below s.control (drop 1 s.operands) s.world) (sym mid_is) p.left) b.fine.2 g in
    subst (λ (m : Move). Makes code old new m) (sym (discriminant_move code old place s below t' which to (Some x) p is))
    (makes_later code old mid new _ events picks made)

-- the pool that is read is the newest part
pub discriminant_read : (code : Code) (old : Engine) (place : ℕ) (s : State) (t : ℕ) (which : PoolDiscriminant) (to : Cell) → Before code old place (TakeDiscriminant t which to) s → (q : Spot) (count n : ℕ) → count ≡ length old.spots.items → q ≡ slice_index_or old.spots.items (count - 1) q → n ≡ q.object
    → discriminant_at which n s.world.pools ≡ discriminant_at which (first_spot s.operands).object s.world.pools
discriminant_read code old place s t which to b q count n many read is =
    let p = part_on_top code old t b.stack b.fine.0 s b.inside b.fine.1 in
    let newest = newest_read old.spots.items (standing s.control (drop 1 s.operands)) (first_spot s.operands) q count p.spots many read in
    ap (λ (i : ℕ). discriminant_at which i s.world.pools) (is ∙ ap (λ (z : Spot). z.object) newest)

pub discriminant_within : (code : Code) (old mid : Engine) (place : ℕ) (s : State) (t : ℕ) (which : PoolDiscriminant) (to : Cell) → IsValid code → Before code old place (TakeDiscriminant t which to) s → kept mid ≡ with_spots (kept old) (standing s.control (drop 1 s.operands))
    → first_window (reverse mid.masters.items) + to.at < length mid.cells.items
discriminant_within code old mid place s t which to valid b mid_is =
    let below = b.fine.0 in
    let p = part_on_top code old t b.stack below s b.inside b.fine.1 in
    put_within code mid place to Count below s.control (drop 1 s.operands) s.world tt valid (subst (λ (e : Kept). Inside code e below s.control (drop 1 s.operands) s.world) (sym mid_is) p.left) b.fine.2

pub discriminant_gone : (code : Code) (old new : Engine) (place : ℕ) (s : State) (t : ℕ) (which : PoolDiscriminant) (to : Cell) → Before code old place (TakeDiscriminant t which to) s
    → None ≡ discriminant_at which (first_spot s.operands).object s.world.pools → GoesOn old new (ModeOf.Stopped UseAfterFree) old.cells.items
    → (t' : ℕ) → Makes code old new (by_instr code (Some (TakeDiscriminant t' which to)) s.operands (here_of place s))
discriminant_gone code old new place s t which to b is g t' =
    let below = b.fine.0 in
    let p = part_on_top code old t b.stack below s b.inside b.fine.1 in
    subst (λ (m : Move). Makes code old new m) (sym (discriminant_move code old place s below t' which to None p is))
    (gone_makes code old new s.control s.operands s.world b.inside.holds g)
