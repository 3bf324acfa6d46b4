-- Initialize, and the creation of objects (7.6, 3.3.1).
use Rattle.std.specs.Prelude.{ℕ, zero, suc, ◌+◌, List, [], ◌∷◌, ◌++◌, length, Option, Some, None, Bool, true, false, if◌then◌else◌}
use Rattle.ctl_program.specs.declared.types.Ty.{Ty}
use Rattle.ctl_tree.specs.declared.event.Event.TheVariants.{Initialize}
use Rattle.ctl_meaning.specs.Lists.{keep, pull_item, pull_rest}
use Rattle.ctl_meaning.specs.Changes.{begin_finalization}
use Rattle.ctl_meaning.specs.Outcome.{program_error, Act, Done, ◌>>=◌, ◌>>◌, done, nothing, raise, ticked, change, choose, Tried, Fine, Raised, attempt, when, either, on_some}
use Rattle.ctl_meaning.specs.Types.{Placed, placed, is_initialized, is_controlled, operation, depth, of_record}
use Rattle.ctl_meaning.specs.Names.{Tools, must_exist, write_part}
use Rattle.ctl_meaning.specs.Finalization.{Spot, whole, component_at, part_of, no_component, call_operation, finalize_failed}
use Rattle.ctl_meaning.specs.Adjustment.{Birth, lives, adjust}

-- the paths of all controlled parts of the part at a path
unfoldable pub paths_within : Tools → ℕ → List ℕ → ℕ → List (List ℕ)
paths_within k zero path t = []
paths_within k (suc n) path t = (if is_controlled k.tables t then path ∷ [] else []) ++ each_path (λ p. of_record [] (paths_within k n (path ++ p.position ∷ [])) p.ty) (placed k.tables t)
  where
    each_path : (Placed → List (List ℕ)) → List Placed → List (List ℕ)
    each_path f [] = []
    each_path f (p ∷ ps) = f p ++ each_path f ps

unfoldable pub paths_of : Tools → Spot → Placed → List (List ℕ)
paths_of k s p = of_record [] (paths_within k (depth k.tables) (component_at s p).path) p.ty

-- the controlled parts that are complete, and the exception that ended the initialization
pub record Begun : Type 0 where
  pub paths : List (List ℕ)
  pub failure : Option ℕ

unfoldable pub begun_with : List (List ℕ) → Act Begun
begun_with paths = done (record { paths = paths; failure = None })

-- after a step that completes these parts: the next one, unless it raised
unfoldable pub begin_next : List (List ℕ) → (List (List ℕ) → Act Begun) → List (List ℕ) → Tried Done → Act Begun
begin_next paths next more (Fine a) = next (paths ++ more)
begin_next paths next more (Raised e) = done (record { paths = paths; failure = Some e })

-- where one raises, no further one is begun (profile)
unfoldable pub begin_each : Tools → Spot → (Placed → Act Done) → ℕ → List Placed → List (List ℕ) → Act Begun
begin_each k s f zero left paths = begun_with paths
begin_each k s f (suc n) left paths =
    choose k.ask (suc n) >>= (λ i. attempt (ticked (f (pull_item no_component i left))) >>= begin_next paths (begin_each k s f n (pull_rest i left)) (paths_of k s (pull_item no_component i left)))

unfoldable pub own_initialize : Tools → Spot → ℕ → List (List ℕ) → Act Begun
own_initialize k s t paths =
    either (is_controlled k.tables t)
    (attempt (call_operation k s (operation (λ x. x.initialize) k.tables t) (Initialize (part_of s))) >>= begin_next paths begun_with [])
    (begun_with paths)

unfoldable pub unless_failed : (List (List ℕ) → Act Begun) → Begun → Act Begun
unless_failed f b = on_some b.failure (f b.paths) (λ e. done b)

-- the exception goes on, or Program_Error where a Finalize of the clean-up raised
unfoldable pub failed_with : ℕ → Bool → Act Done
failed_with e true = raise program_error
failed_with e false = raise e

-- the object is being finalized from then on, and what is complete of the part is finalized
unfoldable pub clean_up : Tools → Spot → ℕ → List (List ℕ) → ℕ → Act Done
clean_up k s t paths e = change (begin_finalization s.object) >> finalize_failed k paths s t >>= failed_with e

unfoldable pub begun : Tools → Birth → Spot → ℕ → Begun → Act Done
begun k birth s t b = on_some b.failure (when (is_controlled k.tables t) (lives k birth s t)) (clean_up k s t b.paths)

-- a component by its default expression, or else by default itself (3.8, 7.6)
unfoldable pub begin_component : Tools → Birth → (Spot → ℕ → Act Done) → Spot → ℕ → Placed → Act Done
begin_component k birth f s t p =
    either p.defaulted
    (k.default t p.position birth.home >>= write_part s.object (s.offset + p.offset) >> adjust k (Some birth) (component_at s p) p.ty)
    (of_record nothing (f (component_at s p)) p.ty)

unfoldable pub parts_to_begin : Tools → ℕ → List Placed
parts_to_begin k t = keep (is_initialized k.tables) (placed k.tables t)

-- the components first, in a chosen order, and then the whole (7.6)
unfoldable pub initialize_part : Tools → Birth → ℕ → Spot → ℕ → Act Done
initialize_part k birth zero s t = nothing
initialize_part k birth (suc n) s t =
    begin_each k s (begin_component k birth (initialize_part k birth n) s t) (length (parts_to_begin k t)) (parts_to_begin k t) []
    >>= unless_failed (own_initialize k s t)
    >>= begun k birth s t

unfoldable pub initialize : Tools → Birth → Spot → Ty → Act Done
initialize k birth s ty = of_record nothing (initialize_part k birth (depth k.tables) s) ty

-- a whole object: by default, or by a value that is copied and then adjusted; it must exist in the end
unfoldable pub fill : Tools → Birth → ℕ → Ty → Option (List ℕ) → Act Done
fill k birth n ty value =
    on_some value (initialize k birth (whole n) ty) (λ v. write_part n 0 v >> adjust k (Some birth) (whole n) ty) >> must_exist n

-- everything here, opened at once
unfoldable pub opened_initialization : Unit {0}
unfolding paths_within paths_of begun_with begin_next begin_each own_initialize unless_failed failed_with clean_up begun begin_component parts_to_begin initialize_part initialize fill
opened_initialization = tt
