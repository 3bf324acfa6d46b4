-- Parts of objects, the calls that the rules make of their operations, and Finalize (7.6, 7.6.1).
use Rattle.std.specs.Prelude.{ℕ, zero, suc, ◌+◌, List, [], ◌∷◌, ◌++◌, length, Option, Some, None, Bool, true, false, ◌&&◌, ◌||◌}
use Rattle.ctl_program.specs.declared.types.Ty.TheVariants.{Integer}
use Rattle.ctl_tree.specs.declared.event.Part.{Part}
use Rattle.ctl_tree.specs.declared.event.Cause.{Cause}
use Rattle.ctl_tree.specs.declared.event.Cause.TheVariants.{Assign, Failed}
use Rattle.ctl_tree.specs.declared.event.Event.{Event}
use Rattle.ctl_tree.specs.declared.event.Event.TheVariants.{Finalize}
use Rattle.ctl_meaning.specs.World.{Member, Binds, holding}
use Rattle.ctl_meaning.specs.Lists.{keep, any_of, same_list, begins, pull_item, pull_rest}
use Rattle.ctl_meaning.specs.Changes.{home_of, begin_finalization, end_finalization}
use Rattle.ctl_meaning.specs.Members.{Group, candidates_of, count_due}
use Rattle.ctl_meaning.specs.Outcome.{program_error, Cut, Act, Done, ◌>>=◌, ◌>>◌, done, nothing, raise, ticked, look, change, show, choose, Tried, Fine, Raised, attempt, when, either}
use Rattle.ctl_meaning.specs.Types.{Placed, placed, has_controlled, is_controlled, operation, depth, of_record}
use Rattle.ctl_meaning.specs.Names.{OfSubprogram, Tools, existing, must_exist}

-- Parts ------------------------------------------------------------------------

-- a part: its object, the place of its cells, and its path
pub record Spot : Type 0 where
  pub object : ℕ
  pub offset : ℕ
  pub path : List ℕ

unfoldable pub whole : ℕ → Spot
whole n = record { object = n; offset = 0; path = [] }

unfoldable pub component_at : Spot → Placed → Spot
component_at s p = record { object = s.object; offset = s.offset + p.offset; path = s.path ++ p.position ∷ [] }

unfoldable pub part_of : Spot → Part
part_of s = record { object = s.object; path = s.path }

unfoldable pub is_whole : Spot → Bool
is_whole s = same_list s.path []

unfoldable pub no_component : Placed
no_component = record { position = 0; offset = 0; ty = Integer; defaulted = false }

-- Calls of operations -------------------------------------------------------------

-- the display that the operations of an object's type are called with, where the object exists
unfoldable pub with_home : {A : Type 0} → ℕ → (List ℕ → Act A) → Act A
with_home n f = existing n (λ o. look (λ w. f (home_of o.origin w)))

-- a call that the rules make of an operation of a part: shown where the user wrote the operation; the library's does nothing. An assignment
-- makes it with tools by which each call is among the masters of its statement
unfoldable pub call_operation : Tools → Spot → Option ℕ → Event → Act Done
call_operation k s None e = ticked (must_exist s.object)
call_operation k s (Some f) e = with_home s.object (λ d. show e >> k.call (OfSubprogram f (holding (Binds s.object s.offset s.path) ∷ [])) d >> nothing)

-- Finalize -----------------------------------------------------------------------

-- which controlled parts are finalized: all, or in a clean-up those with these paths
pub data Chosen : Type 0 where
  Every : Chosen
  These : (paths : List (List ℕ)) → Chosen

unfoldable pub is_chosen : List ℕ → Chosen → Bool
is_chosen path Every = true
is_chosen path (These paths) = any_of (same_list path) paths

-- whether the part at a path has a part that is chosen
unfoldable pub has_chosen : List ℕ → Chosen → Bool
has_chosen path Every = true
has_chosen path (These paths) = any_of (begins path) paths

-- a Finalize that raises is remembered; in an assignment it is Program_Error at once (7.6.1)
unfoldable pub after_finalize : Cause → Tried Done → Act Bool
after_finalize cause (Fine a) = done false
after_finalize Assign (Raised e) = raise program_error
after_finalize cause (Raised e) = done true

-- the part's own Finalize, if it is controlled and chosen; whether it raised
unfoldable pub own_finalize : Tools → Cause → Chosen → Spot → ℕ → Act Bool
own_finalize k cause want s t =
    either (is_controlled k.tables t && is_chosen s.path want)
    (attempt (call_operation k s (operation (λ x. x.finalize) k.tables t) (Finalize (part_of s) cause)) >>= after_finalize cause)
    (done false)

-- parts in a chosen order, each of them though others fail; whether one raised
unfoldable pub in_any_order : Tools → (Placed → Act Bool) → ℕ → List Placed → Bool → Act Bool
in_any_order k f zero left failed = done failed
in_any_order k f (suc n) left failed =
    choose k.ask (suc n) >>= (λ i. f (pull_item no_component i left) >>= (λ b. in_any_order k f n (pull_rest i left) (failed || b)))

unfoldable pub parts_to_finalize : Tools → Chosen → Spot → ℕ → List Placed
parts_to_finalize k want s t = keep (λ p. has_controlled k.tables p.ty && has_chosen (component_at s p).path want) (placed k.tables t)

-- the whole first, then its components in a chosen order (7.6.1); whether one raised
unfoldable pub finalize_part : Tools → Cause → Chosen → ℕ → Spot → ℕ → Act Bool
finalize_part k cause want zero s t = done false
finalize_part k cause want (suc n) s t =
    ticked (own_finalize k cause want s t
    >>= in_any_order k (λ p. of_record (done false) (finalize_part k cause want n (component_at s p)) p.ty) (length (parts_to_finalize k want s t)) (parts_to_finalize k want s t))

unfoldable pub finalize : Tools → Cause → Chosen → Spot → ℕ → Act Bool
finalize k cause want s t = finalize_part k cause want (depth k.tables) s t

-- a whole object by its own type, and then it is finalized
unfoldable pub finalize_begun : Tools → Cause → Member → Act Bool
finalize_begun k cause m = of_record (done false) (finalize k cause Every (whole m.number)) m.ty >>= (λ b. change (end_finalization m.number) >> done b)

-- it is being finalized from the start, and no candidate any more
unfoldable pub finalize_object : Tools → Cause → Member → Act Bool
finalize_object k cause m = must_exist m.number >> change (begin_finalization m.number) >> finalize_begun k cause m

-- nothing is done where it has no controlled part
unfoldable pub finalize_if_controlled : Tools → Cause → Member → Act Bool
finalize_if_controlled k cause m = either (has_controlled k.tables m.ty) (finalize_object k cause m) (done false)

-- the parts of a failed creation that are complete; whether one raised
unfoldable pub finalize_failed : Tools → List (List ℕ) → Spot → ℕ → Act Bool
finalize_failed k paths s t = finalize k Failed (These paths) s t >>= (λ b. when (is_whole s) (change (end_finalization s.object)) >> done b)

-- Members of collections and subpools ------------------------------------------------

-- one of these that is chosen, and then the others; whether one raised
unfoldable pub finalize_one : Tools → Cause → (Bool → Act Bool) → Bool → List Member → Act Bool
finalize_one k cause others failed [] = done failed
finalize_one k cause others failed (m ∷ ms) =
    choose k.ask (length (m ∷ ms)) >>= (λ i. finalize_object k cause (pull_item m i (m ∷ ms)) >>= (λ b. others (failed || b)))

-- one after another, as long as there are candidates; at most so many
unfoldable pub finalize_members : Tools → Cause → Group → ℕ → Bool → Act Bool
finalize_members k cause g zero failed c l w = Cut 0 c l
finalize_members k cause g (suc n) failed c l w = finalize_one k cause (finalize_members k cause g n) failed (candidates_of k.tables g w) c l w

-- until no candidate of a group is left (7.6.1, 13.11.5). With each turn one is no candidate any more, and a further one takes one
-- from the clock, so there are no more turns than this
unfoldable pub finalize_group : Tools → Cause → Group → Act Bool
finalize_group k cause g c l w = finalize_members k cause g (suc (c + count_due k.tables w)) false c l w

-- everything here, opened at once
unfoldable pub opened_finalization : Unit {0}
unfolding whole component_at part_of is_whole no_component with_home call_operation is_chosen has_chosen after_finalize own_finalize in_any_order parts_to_finalize finalize_part finalize finalize_begun finalize_object finalize_if_controlled finalize_failed finalize_one finalize_members finalize_group
opened_finalization = tt
