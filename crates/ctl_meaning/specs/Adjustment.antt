-- Adjust (7.6), and when a part comes to life.
use Rattle.std.specs.Prelude.{ℕ, zero, suc, List, [], ◌∷◌, ◌++◌, length, Option, Some, None, Bool, true, false, is_some}
use Rattle.ctl_program.specs.declared.types.Ty.{Ty}
use Rattle.ctl_tree.specs.declared.event.Owner.{Owner}
use Rattle.ctl_tree.specs.declared.event.Event.TheVariants.{Adjust, Live}
use Rattle.ctl_meaning.specs.World.{Origin, World}
use Rattle.ctl_meaning.specs.Lists.{keep, pull_item, pull_rest}
use Rattle.ctl_meaning.specs.Changes.{home_of, owner_of, begin_finalization}
use Rattle.ctl_meaning.specs.Outcome.{program_error, Act, Done, ◌>>=◌, ◌>>◌, done, nothing, raise, ticked, change, show, choose, Tried, Fine, Raised, attempt, when, either}
use Rattle.ctl_meaning.specs.Types.{Placed, placed, has_controlled, is_controlled, operation, depth, of_record}
use Rattle.ctl_meaning.specs.Names.{Tools}
use Rattle.ctl_meaning.specs.Finalization.{Spot, component_at, part_of, no_component, is_whole, call_operation, finalize_failed}

-- a creation: whose the object is, and the display of its type's operations and defaults. The object may be gone before it ends
pub record Birth : Type 0 where
  pub owner : Owner
  pub home : List ℕ

unfoldable pub birth_of : Origin → World → Birth
birth_of x w = record { owner = owner_of x; home = home_of x w }

-- a part with a user-written Finalize comes to life
unfoldable pub lives : Tools → Birth → Spot → ℕ → Act Done
lives k b s t = either (is_some (operation (λ x. x.finalize) k.tables t)) (show (Live (part_of s) b.owner)) nothing

-- only in a creation, never by an assignment
unfoldable pub lives_if : Tools → Option Birth → Spot → ℕ → Act Done
lives_if k None s t = nothing
lives_if k (Some b) s t = lives k b s t

-- whether an Adjust raised, and the paths of the parts that are adjusted
pub record Adjusted : Type 0 where
  pub failed : Bool
  pub paths : List (List ℕ)

unfoldable pub unadjusted : Adjusted
unadjusted = record { failed = false; paths = [] }

-- one that raises does not stop the others
unfoldable pub adjust_each : Tools → (Placed → Adjusted → Act Adjusted) → ℕ → List Placed → Adjusted → Act Adjusted
adjust_each k f zero left a = done a
adjust_each k f (suc n) left a = choose k.ask (suc n) >>= (λ i. ticked (f (pull_item no_component i left) a) >>= adjust_each k f n (pull_rest i left))

unfoldable pub after_adjust : Tools → Option Birth → Spot → ℕ → Adjusted → Tried Done → Act Adjusted
after_adjust k creation s t a (Raised e) = done (record { failed = true; paths = a.paths })
after_adjust k creation s t a (Fine x) = lives_if k creation s t >> done (record { failed = a.failed; paths = a.paths ++ s.path ∷ [] })

unfoldable pub own_adjust : Tools → Option Birth → Spot → ℕ → Adjusted → Act Adjusted
own_adjust k creation s t a =
    either (is_controlled k.tables t)
    (attempt (call_operation k s (operation (λ x. x.adjust) k.tables t) (Adjust (part_of s))) >>= after_adjust k creation s t a)
    (done a)

-- what Adjust and Finalize choose among: components with a controlled part
unfoldable pub controlled_parts : Tools → ℕ → List Placed
controlled_parts k t = keep (λ p. has_controlled k.tables p.ty) (placed k.tables t)

-- the components first, in a chosen order, and then the whole (7.6)
unfoldable pub adjust_part : Tools → Option Birth → ℕ → Spot → ℕ → Adjusted → Act Adjusted
adjust_part k creation zero s t a = done a
adjust_part k creation (suc n) s t a =
    adjust_each k (λ p b. of_record (done b) (λ u. adjust_part k creation n (component_at s p) u b) p.ty) (length (controlled_parts k t)) (controlled_parts k t) a
    >>= own_adjust k creation s t

-- a whole object is being finalized then
unfoldable pub clean_up_copy : Tools → Spot → ℕ → List (List ℕ) → Act Done
clean_up_copy k s t paths = when (is_whole s) (change (begin_finalization s.object)) >> finalize_failed k paths s t >> nothing

-- Program_Error where one raised (7.6.1); in a creation the parts that succeeded are finalized before (profile)
unfoldable pub adjusted : Tools → Option Birth → Spot → ℕ → Adjusted → Act Done
adjusted k creation s t a = either a.failed (when (is_some creation) (clean_up_copy k s t a.paths) >> raise program_error) nothing

unfoldable pub adjust_record : Tools → Option Birth → Spot → ℕ → Act Done
adjust_record k creation s t = adjust_part k creation (depth k.tables) s t unadjusted >>= adjusted k creation s t

unfoldable pub adjust : Tools → Option Birth → Spot → Ty → Act Done
adjust k creation s ty = of_record nothing (adjust_record k creation s) ty

-- everything here, opened at once
unfoldable pub opened_adjustment : Unit {0}
unfolding birth_of lives lives_if unadjusted adjust_each after_adjust own_adjust controlled_parts adjust_part clean_up_copy adjusted adjust_record adjust
opened_adjustment = tt
