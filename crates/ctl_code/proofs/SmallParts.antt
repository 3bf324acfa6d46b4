-- Small moves: what finalizes, adjusts and creates parts of objects, and whole objects.
use Rattle.std.proofs.Common.{◌≡◌, ℕ, ◌+◌, ◌≤◌, List, [], ◌∷◌, length, Option, Some, None, Bool, true, false, refl, arith}
use Rattle.std.specs.Prelude.{slice_get, ◌||◌, if◌then◌else◌}
use Rattle.ctl_tree.specs.declared.event.Cause.{Cause}
use Rattle.ctl_tree.specs.declared.event.Cause.TheVariants as CauseOf
use Rattle.ctl_tree.specs.declared.event.Event.{Event}
use Rattle.ctl_tree.specs.declared.event.Part.{Part}
use Rattle.ctl_tree.specs.declared.event.Owner.{Owner}
use Rattle.ctl_tree.specs.declared.event.Owner.TheVariants as OwnerOf
use Rattle.ctl_meaning.specs.World.{Object, Collection, Slot, World}
use Rattle.ctl_meaning.specs.Allocation.{is_new, set_of}
use Rattle.ctl_meaning.specs.Objects.{cells_at}
use Rattle.ctl_meaning.specs.Ledger.{opened_ledger}
use Rattle.ctl_meaning.specs.Lists.{any_of, last_of, pull_item, pull_rest, same_list}
use Rattle.ctl_meaning.specs.Changes.{object_at, begin_finalization, end_finalization, join, opened_changes, write_cells}
use Rattle.ctl_meaning.specs.Finalization.{Spot, is_whole}
use Rattle.ctl_meaning.specs.Outcome.{ByRaise, Tried, Fine, Raised}
use Rattle.ctl_code.specs.declared.code.Begun.{Begun}
use Rattle.ctl_code.specs.declared.code.Initial.{Initial}
use Rattle.ctl_code.specs.declared.code.Initial.TheVariants.{Constant, ByType, Computed}
use Rattle.ctl_code.specs.declared.code.Parts.{Parts}
use Rattle.ctl_code.specs.declared.code.Parts.TheVariants as PartsOf
use Rattle.ctl_code.specs.declared.code.Entry.{Entry}
use Rattle.ctl_code.specs.declared.code.Code.{Code}
use Rattle.ctl_code.specs.States as S
use Rattle.ctl_code.specs.States.{Word, Handed, Complete, OperationFailed, Point, After, AfterBody, whole_spot, Newborn, Maker, ByDeclaration, ByPoolDeclaration, ByAllocator, Frame, Creating, Initializing, Adjusting, AdjustingOwn, Undoing, UndoingOwn, UndoingParts, FinalizingOwn, FinalizingParts}
use Rattle.ctl_code.specs.Table.{joins, gone, uncreated, on_with, begin_part, newborn, Here, enter_body, call_operation, operation_of, gives, component_of, controlled_of, part_at, birth, completed, fail, failed_with, by_failing, finalize_left, finalize_own, finalize_part, own_failed, by_own_finalize, finalize_component, by_finalizing_parts, birth_in, adjusted, adjust_by, adjust_own, adjust_left, adjust_component, by_adjusting, by_own_adjust, adjusted_in, adjusted_of, undo_left, undo_components, undo_by, undo_own, undo_part, undo_component, by_undoing_parts, take_default, begin_component, initialize_by, initialize_own, complete_of, by_filling, by_initializing, come_to_life, by_creating, with_object, behind_declaration, by_declare, by_copying, adjust_new, parts_of, says_failed, transfers, take_value, by_copy, size_of, is_made_at_once, create_object, begun_of, declare_with}

-- a move from a world
pub record Small (w : World) (m : S.Move) : Type 0 where
  pub shows : length m.shows ≤ 2
  pub masters : m.world.ledger.next_master ≤ w.ledger.next_master + 1
  pub objects : m.world.ledger.next_object ≤ w.ledger.next_object + 1
  pub collections : m.world.ledger.next_collection ≤ w.ledger.next_collection + 1

-- what neither enters a master nor creates an object nor makes a collection
pub same_world : (w : World) (m : S.Move) → length m.shows ≤ 2 → m.world.ledger.next_master ≡ w.ledger.next_master → m.world.ledger.next_object ≡ w.ledger.next_object → m.world.ledger.next_collection ≡ w.ledger.next_collection → Small w m
same_world w m n a b d = record { shows = n; masters = omega (arith, a); objects = omega (arith, b); collections = omega (arith, d) }

-- a move from a world with the same numbers
pub moved_from : (w v : World) (m : S.Move) → v.ledger.next_master ≡ w.ledger.next_master → v.ledger.next_object ≡ w.ledger.next_object → v.ledger.next_collection ≡ w.ledger.next_collection → Small v m → Small w m
moved_from w v m x y z s = record { shows = s.shows; masters = omega (arith, x, s.masters); objects = omega (arith, y, s.objects); collections = omega (arith, z, s.collections) }

-- Bodies and objects -----------------------------------------------------------------------------

pub small_enter : (e : Option Entry) (es : List Event) (d : List ℕ) (actuals : List Slot) (after : After) (k : List Frame) (w : World) → length es ≤ 2 → Small w (enter_body e es d actuals after k w)
unfolding opened_changes opened_ledger
small_enter None es d actuals after k w le = record { shows = le; masters = omega arith; objects = omega arith; collections = omega arith }
small_enter (Some e) es d actuals after k w le = record { shows = le; masters = omega arith; objects = omega arith; collections = omega arith }

small_call : (code : Code) (f : ℕ) (e : Event) (n : Spot) (o : Object) (k : List Frame) (w : World) → Small w (call_operation code f e n o k w)
small_call code f e n o k w = small_enter (slice_get code.entries.items f) (e ∷ []) _ _ AfterBody k w (omega arith)

-- Finalization of parts --------------------------------------------------------------------------

small_left : (cause : Cause) (s : Spot) (left : List Begun) (failed : Bool) (k : List Frame) (w : World) → Small w (finalize_left cause s left failed k w)
small_left cause s [] failed k w = same_world w _ (omega arith) refl refl refl
small_left cause s (x ∷ xs) failed k w = same_world w _ (omega arith) refl refl refl

small_finalize_own : (code : Code) (f : Option ℕ) (cause : Cause) (s : Spot) (t : ℕ) (o : Option Object) (k : List Frame) (w : World) → Small w (finalize_own code f cause s t o k w)
small_finalize_own code f cause s t None k w = same_world w _ (omega arith) refl refl refl
small_finalize_own code None cause s t (Some o) k w = small_left cause s (controlled_of code t) false k w
small_finalize_own code (Some f) cause s t (Some o) k w = small_call code f _ s o (FinalizingOwn cause s t ∷ k) w

pub small_finalize_part : (code : Code) (parts : Parts) (cause : Cause) (s : Spot) (t : ℕ) (k : List Frame) (w : World) → Small w (finalize_part code parts cause s t k w)
small_finalize_part code PartsOf.Controlled cause s t k w = small_finalize_own code (operation_of (λ x. x.finalize) code t) cause s t (object_at s.object w) k w
small_finalize_part code PartsOf.Within cause s t k w = small_left cause s (controlled_of code t) false k w
small_finalize_part code PartsOf.Plain cause s t k w = same_world w _ (omega arith) refl refl refl

small_own_failed : (code : Code) (cause : Cause) (s : Spot) (t : ℕ) (k : List Frame) (w : World) → Small w (own_failed code cause s t k w)
small_own_failed code CauseOf.Assign s t k w = same_world w _ (omega arith) refl refl refl
small_own_failed code CauseOf.Scope s t k w = small_left CauseOf.Scope s (controlled_of code t) true k w
small_own_failed code CauseOf.Collection s t k w = small_left CauseOf.Collection s (controlled_of code t) true k w
small_own_failed code CauseOf.Free s t k w = small_left CauseOf.Free s (controlled_of code t) true k w
small_own_failed code CauseOf.Subpool s t k w = small_left CauseOf.Subpool s (controlled_of code t) true k w
small_own_failed code CauseOf.Failed s t k w = small_left CauseOf.Failed s (controlled_of code t) true k w

pub small_own_finalize : (code : Code) (t : Tried Handed) (cause : Cause) (s : Spot) (ty : ℕ) (k : List Frame) (w : World) → Small w (by_own_finalize code t cause s ty k w)
small_own_finalize code (Fine h) cause s ty k w = small_left cause s (controlled_of code ty) false k w
small_own_finalize code (Raised e) cause s ty k w = small_own_failed code cause s ty k w

small_component : (code : Code) (cause : Cause) (s : Spot) (x : Begun) (initial : Initial) (k : List Frame) (w : World) → Small w (finalize_component code cause s x initial k w)
small_component code cause s x (Constant v) k w = same_world w _ (omega arith) refl refl refl
small_component code cause s x (ByType t) k w = small_finalize_part code (parts_of code t) cause (component_of s x.offset x.position) t k w
small_component code cause s x Computed k w = same_world w _ (omega arith) refl refl refl

pub small_finalizing_parts : (code : Code) (t : Tried Handed) (cause : Cause) (s : Spot) (left : List Begun) (failed : Bool) (pick : ℕ) (k : List Frame) (w : World) → Small w (by_finalizing_parts code t cause s left failed pick k w)
small_finalizing_parts code (Raised e) cause s left failed pick k w = same_world w _ (omega arith) refl refl refl
small_finalizing_parts code (Fine h) cause s [] failed pick k w = same_world w _ (omega arith) refl refl refl
small_finalizing_parts code (Fine h) cause s (x ∷ xs) failed pick k w =
    let b = pull_item x pick (x ∷ xs) in small_component code cause s b b.initial (FinalizingParts cause s (pull_rest pick (x ∷ xs)) (failed || says_failed (Fine h)) ∷ k) w

-- Adjustment of parts ----------------------------------------------------------------------------

few : (f : Option ℕ) (part : Part) (owner : Owner) → length (birth f part owner) ≤ 2
few None part owner = omega arith
few (Some f) part owner = omega arith

few_in : (code : Code) (creation : Option Owner) (s : Spot) (t : ℕ) → length (birth_in code creation s t) ≤ 2
few_in code None s t = omega arith
few_in code (Some owner) s t = few (operation_of (λ o. o.finalize) code t) (part_at s) owner

small_own_adjusted : (code : Code) (creation : Option Owner) (s : Spot) (t : ℕ) (failed : Bool) (k : List Frame) (w : World) → Small w (adjusted code creation s t failed k w)
small_own_adjusted code creation s t failed k w = same_world w _ (few_in code creation s t) refl refl refl

small_adjust_by : (code : Code) (f : Option ℕ) (creation : Option Owner) (s : Spot) (t : ℕ) (failed : Bool) (o : Option Object) (k : List Frame) (w : World) → Small w (adjust_by code f creation s t failed o k w)
small_adjust_by code f creation s t failed None k w = same_world w _ (omega arith) refl refl refl
small_adjust_by code None creation s t failed (Some o) k w = small_own_adjusted code creation s t failed k w
small_adjust_by code (Some f) creation s t failed (Some o) k w = small_call code f _ s o (AdjustingOwn creation s t failed ∷ k) w

small_adjust_own : (code : Code) (parts : Parts) (creation : Option Owner) (s : Spot) (t : ℕ) (failed : Bool) (k : List Frame) (w : World) → Small w (adjust_own code parts creation s t failed k w)
small_adjust_own code PartsOf.Controlled creation s t failed k w = small_adjust_by code (operation_of (λ x. x.adjust) code t) creation s t failed (object_at s.object w) k w
small_adjust_own code PartsOf.Within creation s t failed k w = same_world w _ (omega arith) refl refl refl
small_adjust_own code PartsOf.Plain creation s t failed k w = same_world w _ (omega arith) refl refl refl

pub small_adjust_left : (code : Code) (creation : Option Owner) (s : Spot) (t : ℕ) (left : List Begun) (failed : Bool) (k : List Frame) (w : World) → Small w (adjust_left code creation s t left failed k w)
small_adjust_left code creation s t [] failed k w = small_adjust_own code (parts_of code t) creation s t failed k w
small_adjust_left code creation s t (x ∷ xs) failed k w = same_world w _ (omega arith) refl refl refl

small_adjust_component : (code : Code) (creation : Option Owner) (s : Spot) (x : Begun) (initial : Initial) (failed : Bool) (k : List Frame) (w : World) → Small w (adjust_component code creation s x initial failed k w)
small_adjust_component code creation s x (Constant v) failed k w = same_world w _ (omega arith) refl refl refl
small_adjust_component code creation s x (ByType t) failed k w = small_adjust_left code creation (component_of s x.offset x.position) t (controlled_of code t) failed k w
small_adjust_component code creation s x Computed failed k w = same_world w _ (omega arith) refl refl refl

pub small_adjusting : (code : Code) (t : Tried Handed) (creation : Option Owner) (s : Spot) (ty : ℕ) (left : List Begun) (pick : ℕ) (k : List Frame) (w : World) → Small w (by_adjusting code t creation s ty left pick k w)
small_adjusting code (Raised e) creation s ty left pick k w = same_world w _ (omega arith) refl refl refl
small_adjusting code (Fine h) creation s ty [] pick k w = small_adjust_own code (parts_of code ty) creation s ty (says_failed (Fine h)) k w
small_adjusting code (Fine h) creation s ty (x ∷ xs) pick k w =
    let b = pull_item x pick (x ∷ xs) in small_adjust_component code creation s b b.initial (says_failed (Fine h)) (Adjusting creation s ty (pull_rest pick (x ∷ xs)) ∷ k) w

pub small_own_adjust : (code : Code) (t : Tried Handed) (creation : Option Owner) (s : Spot) (ty : ℕ) (failed : Bool) (k : List Frame) (w : World) → Small w (by_own_adjust code t creation s ty failed k w)
small_own_adjust code (Fine h) creation s ty failed k w = small_own_adjusted code creation s ty failed k w
small_own_adjust code (Raised e) creation s ty failed k w = same_world w _ (omega arith) refl refl refl

-- Copies that failed -----------------------------------------------------------------------------

small_undo_left : (s : Spot) (left : List Begun) (k : List Frame) (w : World) → Small w (undo_left s left k w)
small_undo_left s [] k w = same_world w _ (omega arith) refl refl refl
small_undo_left s (x ∷ xs) k w = same_world w _ (omega arith) refl refl refl

pub small_undo_components : (code : Code) (s : Spot) (t : ℕ) (k : List Frame) (w : World) → Small w (undo_components code s t k w)
small_undo_components code s t k w = small_undo_left s (adjusted_of code s t (adjusted_in k)) k w

small_undo_by : (code : Code) (f : Option ℕ) (s : Spot) (t : ℕ) (o : Option Object) (k : List Frame) (w : World) → Small w (undo_by code f s t o k w)
small_undo_by code f s t None k w = same_world w _ (omega arith) refl refl refl
small_undo_by code None s t (Some o) k w = small_undo_components code s t k w
small_undo_by code (Some f) s t (Some o) k w = small_call code f _ s o (UndoingOwn s t ∷ k) w

small_undo_own : (code : Code) (b : Bool) (s : Spot) (t : ℕ) (k : List Frame) (w : World) → Small w (undo_own code b s t k w)
small_undo_own code true s t k w = small_undo_by code (operation_of (λ x. x.finalize) code t) s t (object_at s.object w) k w
small_undo_own code false s t k w = small_undo_components code s t k w

small_undo_part : (code : Code) (parts : Parts) (s : Spot) (t : ℕ) (k : List Frame) (w : World) → Small w (undo_part code parts s t k w)
small_undo_part code PartsOf.Controlled s t k w = small_undo_own code (any_of (same_list s.path) (adjusted_in k)) s t k w
small_undo_part code PartsOf.Within s t k w = small_undo_components code s t k w
small_undo_part code PartsOf.Plain s t k w = same_world w _ (omega arith) refl refl refl

small_undo_component : (code : Code) (s : Spot) (x : Begun) (initial : Initial) (k : List Frame) (w : World) → Small w (undo_component code s x initial k w)
small_undo_component code s x (Constant v) k w = same_world w _ (omega arith) refl refl refl
small_undo_component code s x (ByType t) k w = small_undo_part code (parts_of code t) (component_of s x.offset x.position) t k w
small_undo_component code s x Computed k w = same_world w _ (omega arith) refl refl refl

pub small_undoing_parts : (code : Code) (t : Tried Handed) (s : Spot) (left : List Begun) (pick : ℕ) (k : List Frame) (w : World) → Small w (by_undoing_parts code t s left pick k w)
small_undoing_parts code (Raised e) s left pick k w = same_world w _ (omega arith) refl refl refl
small_undoing_parts code (Fine h) s [] pick k w = same_world w _ (omega arith) refl refl refl
small_undoing_parts code (Fine h) s (x ∷ xs) pick k w =
    let b = pull_item x pick (x ∷ xs) in small_undo_component code s b b.initial (UndoingParts s (pull_rest pick (x ∷ xs)) ∷ k) w

-- Creation of parts ------------------------------------------------------------------------------

small_completed : (code : Code) (x : Newborn) (k : List Frame) (w : World) → Small w (completed code x k w)
small_completed code x k w = same_world w _ (few (operation_of (λ o. o.finalize) code x.type) _ x.owner) refl refl refl

small_fail : (s : Spot) (complete : List Begun) (e : ℕ) (k : List Frame) (w : World) → Small w (fail s complete e k w)
unfolding opened_changes
small_fail s complete e k w = same_world w _ (omega arith) refl refl refl

pub small_failing : (t : Tried Handed) (s : Spot) (e : ℕ) (k : List Frame) (w : World) → Small w (by_failing t s e k w)
unfolding opened_changes
small_failing t s e k w = by (is_whole s)
  where
    by : (b : Bool) → Small w (gives (Raised (failed_with e (says_failed t))) k (if b then end_finalization s.object w else w))
    by true = same_world w _ (omega arith) refl refl refl
    by false = same_world w _ (omega arith) refl refl refl

small_default : (x : Newborn) (offset v : ℕ) (rest : List Begun) (o : Option Object) (k : List Frame) (w : World) → Small w (take_default x offset v rest o k w)
unfolding opened_changes
small_default x offset v rest None k w = same_world w _ (omega arith) refl refl refl
small_default x offset v rest (Some o) k w = same_world w _ (omega arith) refl refl refl

small_begin : (code : Code) (x : Newborn) (b : Begun) (initial : Initial) (rest before : List Begun) (k : List Frame) (w : World) → Small w (begin_component code x b initial rest before k w)
small_begin code x b (Constant v) rest before k w = small_default x b.offset v rest (object_at x.spot.object w) k w
small_begin code x b (ByType t) rest before k w = same_world w _ (omega arith) refl refl refl
small_begin code x b Computed rest before k w = same_world w _ (omega arith) refl refl refl

small_initialize_by : (code : Code) (f : Option ℕ) (x : Newborn) (o : Option Object) (k : List Frame) (w : World) → Small w (initialize_by code f x o k w)
small_initialize_by code f x None k w = same_world w _ (omega arith) refl refl refl
small_initialize_by code None x (Some o) k w = small_completed code x k w
small_initialize_by code (Some f) x (Some o) k w = small_call code f _ x.spot o (Initializing x ∷ k) w

small_initialize_own : (code : Code) (parts : Parts) (x : Newborn) (k : List Frame) (w : World) → Small w (initialize_own code parts x k w)
small_initialize_own code PartsOf.Controlled x k w = small_initialize_by code (operation_of (λ o. o.initialize) code x.type) x (object_at x.spot.object w) k w
small_initialize_own code PartsOf.Within x k w = same_world w _ (omega arith) refl refl refl
small_initialize_own code PartsOf.Plain x k w = same_world w _ (omega arith) refl refl refl

pub small_filling : (code : Code) (t : Tried Handed) (x : Newborn) (left incomplete : List Begun) (pick : ℕ) (k : List Frame) (w : World) → Small w (by_filling code t x left incomplete pick k w)
small_filling code (Raised e) x left incomplete pick k w = small_fail x.spot (complete_of code x.type incomplete) e k w
small_filling code (Fine h) x [] incomplete pick k w = small_initialize_own code (parts_of code x.type) x k w
small_filling code (Fine h) x (b ∷ bs) incomplete pick k w =
    let c = pull_item b pick (b ∷ bs) in small_begin code x c c.initial (pull_rest pick (b ∷ bs)) (b ∷ bs) k w

pub small_initializing : (code : Code) (t : Tried Handed) (x : Newborn) (k : List Frame) (w : World) → Small w (by_initializing code t x k w)
small_initializing code (Fine h) x k w = small_completed code x k w
small_initializing code (Raised e) x k w = small_fail x.spot (controlled_of code x.type) e k w

-- Created objects --------------------------------------------------------------------------------

-- a move that neither enters a master nor creates an object nor makes a collection
pub record Stays (w : World) (m : S.Move) : Type 0 where
  pub shows : length m.shows ≤ 2
  pub masters : m.world.ledger.next_master ≡ w.ledger.next_master
  pub objects : m.world.ledger.next_object ≡ w.ledger.next_object
  pub collections : m.world.ledger.next_collection ≡ w.ledger.next_collection

is_small_stay : (w : World) (m : S.Move) → Stays w m → Small w m
is_small_stay w m x = same_world w m x.shows x.masters x.objects x.collections

joins_stays : (n : ℕ) (o : Object) (c : Option Collection) (p : Point) (k : List Frame) (w : World) → Stays w (joins n o c p k w)
unfolding opened_changes
joins_stays n o None p k w = record { shows = omega arith; masters = refl; objects = refl; collections = refl }
joins_stays n o (Some c) p k w = one (is_new o)
  where
    one : (b : Bool) → Stays w (if b then on_with n p k (join n w) else gone k w)
    one true = record { shows = omega arith; masters = refl; objects = refl; collections = refl }
    one false = record { shows = omega arith; masters = refl; objects = refl; collections = refl }

pub life_stays : (by : Maker) (n : ℕ) (o : Option Object) (p : Point) (k : List Frame) (w : World) → Stays w (come_to_life by n o p k w)
unfolding opened_changes opened_ledger
life_stays by n None p k w = record { shows = omega arith; masters = refl; objects = refl; collections = refl }
life_stays ByDeclaration n (Some o) p k w = record { shows = omega arith; masters = refl; objects = refl; collections = refl }
life_stays ByPoolDeclaration n (Some o) p k w = record { shows = omega arith; masters = refl; objects = refl; collections = refl }
life_stays ByAllocator n (Some o) p k w = joins_stays n o (set_of o.origin w) p k w

small_life : (by : Maker) (n : ℕ) (o : Option Object) (p : Point) (k : List Frame) (w : World) → Small w (come_to_life by n o p k w)
small_life by n o p k w = is_small_stay w _ (life_stays by n o p k w)

small_uncreated : (by : Maker) (n e : ℕ) (k : List Frame) (w : World) → Small w (transfers (ByRaise e) k (uncreated by n w))
unfolding opened_changes
small_uncreated ByDeclaration n e k w = same_world w _ (omega arith) refl refl refl
small_uncreated ByPoolDeclaration n e k w = same_world w _ (omega arith) refl refl refl
small_uncreated ByAllocator n e k w = same_world w _ (omega arith) refl refl refl

pub small_creating : (t : Tried Handed) (by : Maker) (n : ℕ) (p : Point) (k : List Frame) (w : World) → Small w (by_creating t by n p k w)
small_creating (Fine x) by n p k w = small_life by n (object_at n w) p k w
small_creating (Raised e) by n p k w = small_uncreated by n e k w

pub small_copying : (code : Code) (t : Tried Handed) (by : Maker) (n ty : ℕ) (paths : List (List ℕ)) (p : Point) (k : List Frame) (w : World) → Small w (by_copying code t by n ty paths p k w)
unfolding opened_changes
small_copying code (Raised e) by n ty paths p k w = small_uncreated by n e k w
small_copying code (Fine Complete) by n ty paths p k w = small_life by n (object_at n w) p k w
small_copying code (Fine OperationFailed) by n ty paths p k w = let v = begin_finalization n w in moved_from w v _ refl refl refl (small_undo_part code (parts_of code ty) (whole_spot n) ty (Undoing n paths ∷ Creating by n ty p ∷ k) v)

pub creation_stays : (code : Code) (by : Maker) (x : Newborn) (p : Point) (k : List Frame) (w : World) → Stays w (create_object code by x p k w)
creation_stays code by x p k w = one (is_made_at_once (parts_of code x.type) (begun_of code x.type))
  where
    one : (b : Bool) → Stays w (if b then come_to_life by x.spot.object (object_at x.spot.object w) p k w else begin_part code x (Creating by x.spot.object x.type p ∷ k) w)
    one true = life_stays by x.spot.object (object_at x.spot.object w) p k w
    one false = record { shows = omega arith; masters = refl; objects = refl; collections = refl }

pub small_declare : (code : Code) (slot t : ℕ) (ops : List Word) (h : Here) → Small h.world (by_declare code slot t ops h)
unfolding opened_changes opened_ledger
small_declare code slot t ops h =
    let x = creation_stays code ByDeclaration (newborn h.world.ledger.next_object t (OwnerOf.Master (last_of h.display))) (behind_declaration ops h) h.control (with_object code h.display slot t h.world) in
    record { shows = x.shows; masters = omega (arith, x.masters); objects = omega (arith, x.objects); collections = omega (arith, x.collections) }

new_stays : (code : Code) (parts : Parts) (by : Maker) (x : Newborn) (p : Point) (k : List Frame) (w : World) → Stays w (adjust_new code parts by x p k w)
new_stays code PartsOf.Plain by x p k w = life_stays by x.spot.object (object_at x.spot.object w) p k w
new_stays code PartsOf.Within by x p k w = record { shows = omega arith; masters = refl; objects = refl; collections = refl }
new_stays code PartsOf.Controlled by x p k w = record { shows = omega arith; masters = refl; objects = refl; collections = refl }

pub value_stays : (code : Code) (by : Maker) (x : Newborn) (v : List ℕ) (o : Option Object) (p : Point) (k : List Frame) (w : World) → Stays w (take_value code by x v o p k w)
unfolding opened_changes
value_stays code by x v None p k w = record { shows = omega arith; masters = refl; objects = refl; collections = refl }
value_stays code by x v (Some o) p k w = let y = new_stays code (parts_of code x.type) by x p k (write_cells x.spot.object 0 v w) in record { shows = y.shows; masters = y.masters; objects = y.objects; collections = y.collections }

pub small_declare_with : (code : Code) (slot t : ℕ) (v : List ℕ) (ops : List Word) (h : Here) → Small h.world (declare_with code slot t v ops h)
unfolding opened_changes opened_ledger
small_declare_with code slot t v ops h =
    let w = with_object code h.display slot t h.world in
    let x = value_stays code ByDeclaration (newborn h.world.ledger.next_object t (OwnerOf.Master (last_of h.display))) v (object_at h.world.ledger.next_object w) (behind_declaration ops h) h.control w in
    record { shows = x.shows; masters = omega (arith, x.masters); objects = omega (arith, x.objects); collections = omega (arith, x.collections) }

pub small_copy : (code : Code) (slot t offset : ℕ) (o : Option Object) (ops : List Word) (h : Here) → Small h.world (by_copy code slot t offset o ops h)
small_copy code slot t offset None ops h = same_world h.world _ (omega arith) refl refl refl
small_copy code slot t offset (Some o) ops h = small_declare_with code slot t (cells_at offset (size_of code t) o) ops h
