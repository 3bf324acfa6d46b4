-- The creation of a part by default: its components in a chosen order, each by its default or by its own record type, and then its own
-- Initialize. Where one of them raises, what is complete of the part is finalized (3.8, 7.6, 7.6.1).
use Rattle.std.proofs.Common.{◌≡◌, ℕ, zero, suc, ◌+◌, ◌<◌, ◌≤◌, List, [], ◌∷◌, ◌++◌, length, Option, Some, None, true, false, refl, sym, ap, ◌∙◌, subst, arith, inr}
use Rattle.std.specs.Prelude.{slice_get, is_some}
use Rattle.std.proofs.lemmas.List.{take_all}
use Rattle.ctl_program.specs.declared.types.Ty.{Ty}
use Rattle.ctl_program.specs.declared.types.Ty.TheVariants.{Record}
use Rattle.ctl_program.specs.declared.operators.SubprogramKind.TheVariants.{Procedure}
use Rattle.ctl_tree.specs.declared.ending.Stop.TheVariants.{UseAfterFree}
use Rattle.ctl_tree.specs.declared.event.Event.{Event}
use Rattle.ctl_tree.specs.declared.event.Event.TheVariants as EventOf
use Rattle.ctl_tree.specs.declared.event.Owner.{Owner}
use Rattle.ctl_meaning.specs.World.{Object, Origin, Declared, Binds, holding, Log, World}
use Rattle.ctl_meaning.specs.Lists.{last_of, pull_item, pull_rest}
use Rattle.ctl_meaning.specs.Changes.{object_at, write_cells, home_master, home_of}
use Rattle.ctl_meaning.specs.Choice.{Ask, picked}
use Rattle.ctl_meaning.specs.Outcome.{Way, ByRaise, Result, Goes, Leaves, Out, Gives, Stops, Cut, Act, Done, Tried, Fine, Raised, add, after_pick, ticked, bind, on_goes, ◌>>=◌, ◌>>◌, nothing, tell, show, look, change, told, attempt, when, either, on_some, opened_outcome}
use Rattle.ctl_meaning.specs.Types.{Tables, Placed, is_controlled, operation, of_record}
use Rattle.ctl_meaning.specs.Names.{OfSubprogram, Call, Default, Tools, gone, write_part, Returned, opened_names}
use Rattle.ctl_meaning.specs.Finalization.{Spot, no_component, component_at, part_of, call_operation, opened_finalization}
use Rattle.ctl_meaning.specs.Adjustment.{Birth, adjust, adjust_record, birth_of, lives}
use Rattle.ctl_meaning.specs.Initialization as M
use Rattle.ctl_meaning.specs.Initialization.{paths_of, begun_with, begin_next, begin_each, begin_component, own_initialize, unless_failed, clean_up, begun, initialize_part, parts_to_begin}
use Rattle.ctl_code.specs.declared.code.Begun.{Begun}
use Rattle.ctl_code.specs.declared.code.Code.{Code}
use Rattle.ctl_code.specs.declared.code.Initial.{Initial}
use Rattle.ctl_code.specs.declared.code.Initial.TheVariants.{Constant, ByType, Computed}
use Rattle.ctl_code.specs.declared.code.Parts.{Parts}
use Rattle.ctl_code.specs.declared.code.Parts.TheVariants.{Plain, Within, Controlled}
use Rattle.ctl_code.specs.States.{Complete, Giving, AfterBody, Point, Maker, Frame, Newborn, Creating, Filling, Evaluating, Initializing, State}
use Rattle.ctl_code.specs.Table as Table
use Rattle.ctl_code.specs.Table.{begun_in, begun_of, birth, complete_of, completed, component_of, controlled_of, created_in, default_of, fail, initialize_by, initialize_own, is_one_of, operation_of, part_at, parts_of, showing, take_default, is_made_at_once}
use Rattle.ctl_code.specs.Steps.{moved, step, stepped}
use Rattle.ctl_code.specs.Valid.{AreBegunBy, IsBegunBy, IsDeclarable, IsValid, PositionsRise}
use Rattle.ctl_layout.specs.Layout.{evaluation}
use Rattle.ctl_layout.specs.Values.{value_code}
use Rattle.ctl_code.proofs.Declarable.{layout_of}
use Rattle.ctl_gen.proofs.Known.{IsPlainType}
use Rattle.ctl_gen.proofs.Given.{GivesEach}
use Rattle.ctl_gen.proofs.Evaluation.{evaluation_runs}
use Rattle.ctl_gen.proofs.Collections.{home}
use Rattle.ctl_gen.proofs.Place.{Laid}
use Rattle.ctl_gen.proofs.Parted.{AgreesOn, AreBegun, BeginsBy, IsComputed, begun_length, begun_pulled, begun_rest, is_itself}
use Rattle.ctl_gen.proofs.Picks.{picked_less, rest_length}
use Rattle.ctl_gen.proofs.Plain.{scalar_of_record}
use Rattle.ctl_gen.proofs.Worlds.{Fits, Since, since_written, still_home, origin_nested}
use Rattle.ctl_gen.proofs.Scopes.{begun_inside, initialize_in, pulled_inside, rest_inside}
use Rattle.ctl_gen.proofs.Complete.{AreSame, Progress, behind, begins, complete_paths, goes_on, initialized_parts, paths_in, placed_at}
use Rattle.ctl_gen.proofs.FinalizedParts.{call_is}
use Rattle.ctl_gen.proofs.FailedParts.{Fallen, all_complete, failed_runs}
use Rattle.ctl_gen.proofs.KeptPaths.{are_complete}
use Rattle.ctl_gen.proofs.Setting.{IsMadeAmong, Setting, tools_with, returns, Told, Calls, enter_shows}
use Rattle.ctl_gen.proofs.Follow.{by_raise, at, gives, way_of, Runs, add_none, added, bind_add, bind_bind, both, end_step, one_step, stop_step, weaker, within}

-- Joined constructs -----------------------------------------------------------------------------------

-- what is tried, with two constructs behind it
tried_then : {B : Type 0} (n : ℕ) (o : Out Done) (g : Result (Tried Done) → Act B) (f : Result B → Act Done) → bind (bind (bind (add n o) told) g) f ≡ add n (bind o (λ r c l w. bind (bind (told r c l w) g) f))
tried_then n o g f =
    ap (λ x. bind (bind x g) f) (bind_add n o told)
    ∙ ap (λ x. bind x f) (bind_add n (bind o told) g)
    ∙ bind_add n (bind (bind o told) g) f
    ∙ ap (add n) (ap (λ x. bind x f) (bind_bind o told g) ∙ bind_bind o (λ r c l w. bind (told r c l w) g) f)

-- the positions of the components that the layout names rise
positions_rise : (code : Code) → IsValid code → (masters t : ℕ) → IsDeclarable code masters t → PositionsRise 0 (begun_of code t)
positions_rise code valid masters t inside =
    let has = layout_of code masters t inside in
    subst (λ o. PositionsRise 0 (begun_in o)) (sym has.found) (valid.layouts t has.layout has.found).rise

-- Calls of operations ---------------------------------------------------------------------------------

module _ (ask : Ask) (k : Tables) (call : Call) (default : Default) where
  -- one that the user wrote, for a part of an object that exists, or is gone
  pub called_is : (f : ℕ) (s : Spot) (c : ℕ) (e : Event) (l : Log) (w : World) (o : Object) → object_at s.object w ≡ Some o → call_operation (tools_with ask k call default) s (Some f) e c l w ≡ bind (call (OfSubprogram f (holding (Binds s.object s.offset s.path) ∷ [])) (home_of o.origin w) c (tell e l) w) (on_goes (λ _. nothing))
  called_is f s c e l w o at = call_is ask k call default f s c e l w o at ∙ ap (λ x. bind x (on_goes (λ _. nothing))) (add_none (call (OfSubprogram f (holding (Binds s.object s.offset s.path) ∷ [])) (home_of o.origin w) c (tell e l) w))

  pub call_gone : (f : ℕ) (s : Spot) (c : ℕ) (e : Event) (l : Log) (w : World) → object_at s.object w ≡ None → call_operation (tools_with ask k call default) s (Some f) e c l w ≡ Stops UseAfterFree 0 l
  unfolding opened_finalization opened_outcome opened_names
  call_gone f s c e l w at = ap (λ x. on_some x gone (λ o1. look (λ w1. show e >> call (OfSubprogram f (holding (Binds s.object s.offset s.path) ∷ [])) (home_of o1.origin w1) >> nothing)) c l w) at

  -- and one of the library
  pub library_is : (s : Spot) (c : ℕ) (e : Event) (l : Log) (w : World) (o : Object) → object_at s.object w ≡ Some o → call_operation (tools_with ask k call default) s None e c l w ≡ Gives (Goes tt) 1 c l w
  unfolding opened_finalization opened_outcome opened_names
  library_is s c e l w o at = ap (λ x. add 1 (on_some x gone (λ _. nothing) c l w)) at

  pub library_gone : (s : Spot) (c : ℕ) (e : Event) (l : Log) (w : World) → object_at s.object w ≡ None → call_operation (tools_with ask k call default) s None e c l w ≡ Stops UseAfterFree 1 l
  unfolding opened_finalization opened_outcome opened_names
  library_gone s c e l w at = ap (λ x. add 1 (on_some x gone (λ _. nothing) c l w)) at

-- a part that is created
abbrev pub new_part : Spot → ℕ → Owner → Newborn
new_part s t owner = record { spot = s; type = t; owner = owner }

-- the object of this number was there in an earlier world, and the type is declared in the masters around its operations
abbrev pub IsAround : Code → ℕ → ℕ → World → Type 0
IsAround code n t w = (o : Object) × (object_at n w ≡ Some o) × IsDeclarable code (length (home_of o.origin w)) t

-- its defaults mean what they do in these masters, which are the first of those that are seen where these frames create it
abbrev pub IsBornAmong : Birth → List ℕ → List Frame → World → Type 0
IsBornAmong born outer ks w = (born.home ≡ outer) × IsMadeAmong outer (created_in ks) w

-- so it is where an object is declared (3.3.1)
pub declared_among : (code : Code) (by : Maker) (n t : ℕ) (p : Point) (ks : List Frame) (x : Object) (v w : World) (inside : IsAround code n t w) → object_at n w ≡ Some x → x.origin ≡ Declared (last_of p.display) → home (last_of p.display) v.activations ≡ p.display → last_of p.display < w.ledger.next_master → home (last_of p.display) w.activations ≡ p.display → IsBornAmong (birth_of (Declared (last_of p.display)) v) (home_of inside.0.origin w) (Creating by n t p ∷ ks) w
unfolding birth_of home_of home_master
declared_among code by n t p ks x v w inside there origin before old now =
    let same : inside.0 ≡ x = (let both : Some inside.0 ≡ Some x = sym inside.1 ∙ there in cc both) in
    let outer : home_of inside.0.origin w ≡ p.display = ap (λ (y : Object). home_of y.origin w) same ∙ (ap (λ (z : Origin). home_of z w) origin ∙ now) in
    (before ∙ sym outer, subst (λ (e : List ℕ). IsMadeAmong e p.display w) (sym outer) (old, now, omega arith, sym (take_all (length p.display) p.display (omega arith))))

module _ (ask : Ask) (k : Tables) (code : Code) (setting : Setting k code) (call : Call) (default : Default) (defaults : GivesEach ask k code setting call default) (bound : ℕ) (calls : Calls ask k code setting bound call) where
  abbrev K : Tools
  K = tools_with ask k call default

  -- what is complete of a part whose creation failed is finalized, and the exception goes on: from the step that begins it, where these
  -- components are not complete, and these are the paths of the controlled parts of all the others
  clean_up_runs : (s : Spot) (t : ℕ) (left : List Begun) (paths : List (List ℕ)) (e : ℕ) (w0 : World) (ks : List Frame) (c : ℕ) (l : Log) (w : World) (s0 : State)
      → IsPlainType k (Record t) → c ≤ bound → Fits k code w0 → IsAround code s.object t w0 → Since k code w0 w → AreSame K s paths (paths_in K s (placed_at (behind left) (initialized_parts k t)))
      → step ask code s0 ≡ moved l (fail s (complete_of code t left) e ks w) → Runs ask code (Told k code w0) 0 0 s0 c (returns ks) (clean_up K s t paths e c l w)
  clean_up_runs s t left paths e w0 ks c l w s0 plain le fits0 inside fits same first =
      weaker ask code (Fallen k code w0) (Told k code w0) 0 0 s0 c (returns ks) (clean_up K s t paths e c l w) told_of
      (failed_runs ask k code setting call default defaults.constants bound calls w0 inside.0 fits0 s t paths left e ks c l w s0 inside.1 plain inside.2 (are_complete K s t left paths same) le fits first)
    where
      told_of : (y : Option Way) (v : World) → Fallen k code w0 y v → Told k code w0 y v
      told_of None v h = absurd h.0
      told_of (Some y) v h = h

  -- parts of the first so many types are created as the meaning says
  abbrev pub PartsRun : ℕ → Type 0
  PartsRun m =
      (t : ℕ) → t < m → IsPlainType k (Record t) → (s : Spot) (owner : Owner) (born : Birth) → born.owner ≡ owner → (w0 : World) → Fits k code w0 → (inside : IsAround code s.object t w0) → (ks : List Frame) → IsBornAmong born (home_of inside.0.origin w0) ks w0 → (c : ℕ) (l : Log) (w : World) → c ≤ bound → Since k code w0 w
      → Runs ask code (Told k code w0) 3 3 (gives (Filling (new_part s t owner) (begun_of code t) (begun_of code t) ∷ ks) (Fine Complete) l w) c (returns ks) (initialize_part K born m s t c l w)

  -- What the creation means -----------------------------------------------------------------------------

  -- what follows the beginning of the components
  abbrev after : Birth → Spot → ℕ → Result M.Begun → Act Done
  after born s t r c l w = bind (on_goes (unless_failed (own_initialize K s t)) r c l w) (on_goes (begun K born s t))

  -- components in a chosen order
  abbrev each : ℕ → Birth → Spot → ℕ → ℕ → List Placed → List (List ℕ) → Act M.Begun
  each m born s t count left paths = begin_each K s (begin_component K born (initialize_part K born m) s t) count left paths

  part_is : (m : ℕ) (born : Birth) (s : Spot) (t c : ℕ) (l : Log) (w : World) → initialize_part K born (suc m) s t c l w ≡ bind (each m born s t (length (initialized_parts k t)) (initialized_parts k t) [] c l w) (after born s t)
  unfolding initialize_part parts_to_begin opened_outcome
  part_is m born s t c l w = bind_bind (each m born s t (length (initialized_parts k t)) (initialized_parts k t) [] c l w) (on_goes (unless_failed (own_initialize K s t))) (on_goes (begun K born s t))

  -- after one that was chosen
  abbrev one_more : ℕ → Birth → Spot → ℕ → ℕ → ℕ → List Placed → List (List ℕ) → Result Done → Act Done
  one_more m born s t count i left paths r c l w = bind (bind (told r c l w) (on_goes (begin_next paths (each m born s t count (pull_rest i left)) (paths_of K s (pull_item no_component i left))))) (after born s t)

  each_more : (m : ℕ) (born : Birth) (s : Spot) (t count i c : ℕ) (left : List Placed) (paths : List (List ℕ)) (l l1 : Log) (w : World) → picked ask (suc count) l ≡ Some (i, l1) → bind (each m born s t (suc count) left paths c l w) (after born s t) ≡ add (suc count + 0) (add 1 (bind (begin_component K born (initialize_part K born m) s t (pull_item no_component i left) c l1 w) (one_more m born s t count i left paths)))
  unfolding begin_each opened_outcome
  each_more m born s t count i c left paths l l1 w is =
      ap (λ o. bind (bind (add (suc count) (after_pick o c l w)) (on_goes chosen)) (after born s t)) is
      ∙ bind_add (suc count + 0) (bind (bind (add 1 (begin_component K born (initialize_part K born m) s t (pull_item no_component i left) c l1 w)) told) next) (after born s t)
      ∙ ap (add (suc count + 0)) (tried_then 1 (begin_component K born (initialize_part K born m) s t (pull_item no_component i left) c l1 w) next (after born s t))
    where
      next : Result (Tried Done) → Act M.Begun
      next = on_goes (begin_next paths (each m born s t count (pull_rest i left)) (paths_of K s (pull_item no_component i left)))

      chosen : ℕ → Act M.Begun
      chosen q = attempt (ticked (begin_component K born (initialize_part K born m) s t (pull_item no_component q left))) >>= begin_next paths (each m born s t count (pull_rest q left)) (paths_of K s (pull_item no_component q left))

  -- where no candidate is answered, the machine waits
  each_none : (m : ℕ) (born : Birth) (s : Spot) (t count c : ℕ) (left : List Placed) (paths : List (List ℕ)) (l : Log) (w : World) → picked ask (suc count) l ≡ None → bind (each m born s t (suc count) left paths c l w) (after born s t) ≡ Cut (suc count + 0) c l
  unfolding begin_each opened_outcome
  each_none m born s t count c left paths l w is = ap (λ o. bind (bind (add (suc count) (after_pick o c l w)) (on_goes (λ q. attempt (ticked (begin_component K born (initialize_part K born m) s t (pull_item no_component q left))) >>= begin_next paths (each m born s t count (pull_rest q left)) (paths_of K s (pull_item no_component q left))))) (after born s t)) is

  -- where none is left, the part itself follows
  each_over : (m : ℕ) (born : Birth) (s : Spot) (t c : ℕ) (left : List Placed) (paths : List (List ℕ)) (l : Log) (w : World) → bind (each m born s t 0 left paths c l w) (after born s t) ≡ add 0 (bind (own_initialize K s t paths c l w) (on_goes (begun K born s t)))
  unfolding begin_each begun_with unless_failed opened_outcome
  each_over m born s t c left paths l w = refl

  -- one that is complete, and one that raised
  more_is : (m : ℕ) (born : Birth) (s : Spot) (t count i c : ℕ) (left : List Placed) (paths : List (List ℕ)) (l : Log) (w : World) → one_more m born s t count i left paths (Goes tt) c l w ≡ add 0 (bind (each m born s t count (pull_rest i left) (paths ++ paths_of K s (pull_item no_component i left)) c l w) (after born s t))
  unfolding begin_next opened_outcome
  more_is m born s t count i c left paths l w = bind_add 0 (each m born s t count (pull_rest i left) (paths ++ paths_of K s (pull_item no_component i left)) c l w) (after born s t)

  raised_is : (m : ℕ) (born : Birth) (s : Spot) (t count i e c : ℕ) (left : List Placed) (paths : List (List ℕ)) (l : Log) (w : World) → one_more m born s t count i left paths (Leaves (ByRaise e)) c l w ≡ add 0 (add 0 (clean_up K s t paths e c l w))
  unfolding begin_next unless_failed begun opened_outcome
  raised_is m born s t count i e c left paths l w = refl

  -- what a component that takes its constant comes to
  abbrev one_filled : ℕ → ℕ → ℕ → ℕ → Log → World → Option Object → Out Done
  one_filled n offset v c l w None = Stops UseAfterFree 1 l
  one_filled n offset v c l w (Some o) = Gives (Goes tt) 1 c l (write_cells n offset (v ∷ []) w)

  constant_is : (m : ℕ) (born : Birth) (s : Spot) (t : ℕ) (p : Placed) (v offset c : ℕ) (l : Log) (w : World) → offset ≡ p.offset → BeginsBy k default t p (Constant v) → begin_component K born (initialize_part K born m) s t p c l w ≡ one_filled s.object (s.offset + offset) v c l w (object_at s.object w)
  unfolding begin_component write_part opened_names opened_outcome adjust
  constant_is m born s t p v offset c l w place h =
      ap (λ b. either b (λ c1 l1 w1. bind (bind (default t p.position born.home c1 l1 w1) (on_goes (λ x. write_part s.object (s.offset + p.offset) x))) (on_goes (λ _. of_record nothing (adjust_record K (Some born) (component_at s p)) p.ty))) (of_record nothing (initialize_part K born m (component_at s p)) p.ty) c l w) h.0
      ∙ (ap (λ o. bind (bind o (on_goes (λ x. write_part s.object (s.offset + p.offset) x))) (on_goes (λ _. of_record nothing (adjust_record K (Some born) (component_at s p)) p.ty))) (h.2 born.home c l w)
      ∙ (ap (λ a. bind (add 1 (write_part s.object (s.offset + p.offset) (v ∷ []) c l w)) (on_goes (λ _. a))) (scalar_of_record nothing (adjust_record K (Some born) (component_at s p)) p.ty h.1)
      ∙ (ap (λ i. bind (add 1 (write_part s.object (s.offset + i) (v ∷ []) c l w)) (on_goes (λ _. nothing))) (sym place)
      ∙ by (object_at s.object w))))
    where
      by : (o : Option Object) → bind (add 1 (on_some o gone (λ z. change (write_cells s.object (s.offset + offset) (v ∷ []))) c l w)) (on_goes (λ _. nothing)) ≡ one_filled s.object (s.offset + offset) v c l w o
      by None = refl
      by (Some z) = refl

  -- and what one comes to whose default is evaluated: its value goes into its cell
  default_is : (m : ℕ) (born : Birth) (s : Spot) (t : ℕ) (p : Placed) (offset c : ℕ) (l : Log) (w : World) → offset ≡ p.offset → BeginsBy k default t p Computed → begin_component K born (initialize_part K born m) s t p c l w ≡ bind (bind (default t p.position born.home c l w) (on_goes (λ x. write_part s.object (s.offset + offset) x))) (on_goes (λ _. nothing))
  unfolding begin_component opened_names opened_outcome adjust
  default_is m born s t p offset c l w place h =
      ap (λ b. either b (λ c1 l1 w1. bind (bind (default t p.position born.home c1 l1 w1) (on_goes (λ x. write_part s.object (s.offset + p.offset) x))) (on_goes (λ _. of_record nothing (adjust_record K (Some born) (component_at s p)) p.ty))) (of_record nothing (initialize_part K born m (component_at s p)) p.ty) c l w) h.0
      ∙ (ap (λ a. bind (bind (default t p.position born.home c l w) (on_goes (λ x. write_part s.object (s.offset + p.offset) x))) (on_goes (λ _. a))) (scalar_of_record nothing (adjust_record K (Some born) (component_at s p)) p.ty h.1)
      ∙ ap (λ i. bind (bind (default t p.position born.home c l w) (on_goes (λ x. write_part s.object (s.offset + i) x))) (on_goes (λ _. nothing))) (sym place))

  -- and what one of a record type comes to
  record_is : (m : ℕ) (born : Birth) (s : Spot) (t : ℕ) (p : Placed) (u offset position c : ℕ) (l : Log) (w : World) → offset ≡ p.offset → position ≡ p.position → BeginsBy k default t p (ByType u) → begin_component K born (initialize_part K born m) s t p c l w ≡ initialize_part K born m (component_of s offset position) u c l w
  unfolding begin_component component_at of_record opened_outcome
  record_is m born s t p u offset position c l w place number h =
      ap (λ b. either b ((default t p.position born.home >>= write_part s.object (s.offset + p.offset)) >> adjust K (Some born) (component_at s p) p.ty) (of_record nothing (initialize_part K born m (component_at s p)) p.ty) c l w) h.0
      ∙ ap (λ ty. of_record nothing (initialize_part K born m (component_at s p)) ty c l w) h.1
      ∙ ap (λ i. initialize_part K born m (component_of s i p.position) u c l w) (sym place)
      ∙ ap (λ i. initialize_part K born m (component_of s offset i) u c l w) (sym number)

  -- Its own Initialize ----------------------------------------------------------------------------------

  -- an object with a user-written Finalize comes to life
  abbrev alive : Option ℕ → Birth → Spot → Act Done
  alive g born s = either (is_some g) (show (EventOf.Live (part_at s) born.owner)) nothing

  -- after the Initialize of a part whose components have these paths
  abbrev own_then : Birth → Spot → ℕ → List (List ℕ) → Result Done → Act Done
  own_then born s t paths r c l w = bind (bind (told r c l w) (on_goes (begin_next paths begun_with []))) (on_goes (λ b. on_some b.failure (alive (operation (λ x. x.finalize) k t) born s) (clean_up K s t b.paths)))

  abbrev starts : Spot → Event
  starts s = EventOf.Initialize (part_at s)

  -- the part's own Initialize, and what follows it
  own_is : (born : Birth) (s : Spot) (t : ℕ) (paths : List (List ℕ)) (g : Option ℕ) (c : ℕ) (l : Log) (w : World) → operation (λ x. x.initialize) k t ≡ g → is_controlled k t ≡ true → bind (own_initialize K s t paths c l w) (on_goes (begun K born s t)) ≡ bind (call_operation K s g (starts s) c l w) (own_then born s t paths)
  unfolding own_initialize begun lives part_of opened_outcome
  own_is born s t paths g c l w e controlled =
      ap (λ b. bind (either b (λ c1 l1 w1. bind (bind (call_operation K s (operation (λ x. x.initialize) k t) (starts s) c1 l1 w1) told) (on_goes (begin_next paths begun_with []))) (begun_with paths) c l w) (on_goes (λ x. on_some x.failure (when b (alive (operation (λ y. y.finalize) k t) born s)) (clean_up K s t x.paths)))) controlled
      ∙ ap (λ x. bind (bind (bind (call_operation K s x (starts s) c l w) told) (on_goes (begin_next paths begun_with []))) (on_goes (λ b. on_some b.failure (alive (operation (λ y. y.finalize) k t) born s) (clean_up K s t b.paths)))) e
      ∙ (ap (λ x. bind x (on_goes (λ b. on_some b.failure (alive (operation (λ y. y.finalize) k t) born s) (clean_up K s t b.paths)))) (bind_bind (call_operation K s g (starts s) c l w) told (on_goes (begin_next paths begun_with [])))
      ∙ bind_bind (call_operation K s g (starts s) c l w) (λ r c1 l1 w1. bind (told r c1 l1 w1) (on_goes (begin_next paths begun_with []))) (on_goes (λ b. on_some b.failure (alive (operation (λ y. y.finalize) k t) born s) (clean_up K s t b.paths))))

  -- a part that is not controlled has none
  none_is : (born : Birth) (s : Spot) (t : ℕ) (paths : List (List ℕ)) (c : ℕ) (l : Log) (w : World) → is_controlled k t ≡ false → bind (own_initialize K s t paths c l w) (on_goes (begun K born s t)) ≡ Gives (Goes tt) 0 c l w
  unfolding own_initialize begun begun_with opened_outcome
  none_is born s t paths c l w free =
      ap (λ b. bind (either b (attempt (call_operation K s (operation (λ x. x.initialize) k t) (EventOf.Initialize (part_of s))) >>= begin_next paths begun_with []) (begun_with paths) c l w) (on_goes (λ x. on_some x.failure (when b (lives K born s t)) (clean_up K s t x.paths)))) free

  -- nothing is executed for a part of a type whose objects are made at once
  pub at_once_is : (m : ℕ) (born : Birth) (s : Spot) (t c : ℕ) (l : Log) (w : World) → IsPlainType k (Record t) → is_made_at_once (parts_of code t) (begun_of code t) ≡ true → initialize_part K born (suc m) s t c l w ≡ Gives (Goes tt) 0 c l w
  unfolding opened_outcome
  at_once_is m born s t c l w plain once = part_is m born s t c l w ∙ by (initialized_parts k t) (begun_of code t) (parts_of code t) agrees.begun agrees.itself once
    where
      agrees : AgreesOn k code default t
      agrees = setting.agrees default defaults.constants t plain

      by : (left : List Placed) (items : List Begun) (q : Parts) → AreBegun k default t left items → is_controlled k t ≡ is_itself q → is_made_at_once q items ≡ true → bind (each m born s t (length left) left [] c l w) (after born s t) ≡ Gives (Goes tt) 0 c l w
      by [] [] Plain are itself once = each_over m born s t c [] [] l w ∙ ap (add 0) (none_is born s t [] c l w itself)
      by (p ∷ ps) [] Plain are itself once = absurd are
      by left (b ∷ bs) Plain are itself once = absurd (let bad : false ≡ true = once in cc)
      by left items Within are itself once = absurd (let bad : false ≡ true = once in cc)
      by left items Controlled are itself once = absurd (let bad : false ≡ true = once in cc)

  -- what follows it where it raised nothing, and where it raised
  own_done : (born : Birth) (s : Spot) (t : ℕ) (paths : List (List ℕ)) (c : ℕ) (l : Log) (w : World) → own_then born s t paths (Goes tt) c l w ≡ add 0 (alive (operation (λ x. x.finalize) k t) born s c l w)
  unfolding begin_next begun_with opened_outcome
  own_done born s t paths c l w = refl

  own_raised : (born : Birth) (s : Spot) (t : ℕ) (paths : List (List ℕ)) (e c : ℕ) (l : Log) (w : World) → own_then born s t paths (Leaves (ByRaise e)) c l w ≡ add 0 (clean_up K s t paths e c l w)
  unfolding begin_next begun_with opened_outcome
  own_raised born s t paths e c l w = refl

  -- What its code does ----------------------------------------------------------------------------------

  -- the part is complete, from the step that shows it
  alive_runs : (born : Birth) (s : Spot) (t : ℕ) (owner : Owner) → born.owner ≡ owner → (w0 : World) (ks : List Frame) (s0 : State) (c : ℕ) (l : Log) (w : World) → Since k code w0 w → step ask code s0 ≡ moved l (completed code (new_part s t owner) ks w) → Runs ask code (Told k code w0) 1 1 s0 c (returns ks) (alive (operation (λ x. x.finalize) k t) born s c l w)
  unfolding opened_outcome
  alive_runs born s t owner owned w0 ks s0 c l w fits first = by (operation (λ x. x.finalize) k t) (first ∙ ap (λ g. moved l (showing (birth g (part_at s) owner) (Giving (Fine Complete)) ks [] w)) (setting.finalize t))
    where
      by : (g : Option ℕ) → step ask code s0 ≡ moved l (showing (birth g (part_at s) owner) (Giving (Fine Complete)) ks [] w) → Runs ask code (Told k code w0) 1 1 s0 c (returns ks) (alive g born s c l w)
      by None go = end_step ask code (Told k code w0) {A = Done} 1 s0 c 0 (returns ks) (Goes tt) l w (tt, fits) go
      by (Some f) go = end_step ask code (Told k code w0) {A = Done} 1 s0 c 0 (returns ks) (Goes tt) (tell (EventOf.Live (part_at s) born.owner) l) w (tt, fits) (go ∙ ap (λ o. gives ks (Fine Complete) (tell (EventOf.Live (part_at s) o) l) w) (sym owned))

  module _ (t : ℕ) (plain : IsPlainType k (Record t)) (s : Spot) (owner : Owner) (born : Birth) (owned : born.owner ≡ owner) (w0 : World) (fits0 : Fits k code w0) (inside : IsAround code s.object t w0) (ks : List Frame) where
    -- all the components but these are complete, and their controlled parts have these paths
    abbrev HavePaths : List Begun → List (List ℕ) → Type 0
    HavePaths left paths = AreSame K s paths (paths_in K s (placed_at (behind left) (initialized_parts k t)))

    -- after its own Initialize the part is complete, or is cleaned up
    called_runs : (paths : List (List ℕ)) → HavePaths [] paths → (s0 : State) (c : ℕ) (o : Out Returned) → c ≤ bound → Runs ask code (Told k code w0) 0 3 s0 c (returns (Initializing (new_part s t owner) ∷ ks)) o → Runs ask code (Told k code w0) 3 3 s0 c (returns ks) (bind (bind o (on_goes (λ _. nothing))) (own_then born s t paths))
    unfolding picked opened_outcome
    called_runs paths clean s0 c o le z =
        subst (Runs ask code (Told k code w0) 3 3 s0 c (returns ks)) (sym (bind_bind o (on_goes (λ _. nothing)) (own_then born s t paths)))
        (both ask code (Told k code w0) (Told k code w0) 0 3 1 1 3 3 s0 c (returns (Initializing (new_part s t owner) ∷ ks)) (returns ks) o _ (omega arith) (omega arith) (omega arith) z over)
      where
        over : (r : Result Returned) (c1 : ℕ) (l1 : Log) (w1 : World) → c1 ≤ c → Told k code w0 (way_of r) w1 → Runs ask code (Told k code w0) 1 1 (returns (Initializing (new_part s t owner) ∷ ks) r l1 w1) c1 (returns ks) (bind (on_goes (λ _. nothing) r c1 l1 w1) (own_then born s t paths))
        over (Goes u) c1 l1 w1 lo told1 =
            subst (Runs ask code (Told k code w0) 1 1 (gives (Initializing (new_part s t owner) ∷ ks) (Fine Complete) l1 w1) c1 (returns ks)) (sym (ap (add 0) (own_done born s t paths c1 l1 w1)))
            (added ask code (Told k code w0) 0 1 1 1 1 _ c1 (returns ks) _ (omega arith) (omega arith)
            (added ask code (Told k code w0) 0 1 1 1 1 _ c1 (returns ks) _ (omega arith) (omega arith)
            (alive_runs born s t owner owned w0 ks _ c1 l1 w1 told1.1 refl)))
        over (Leaves y) c1 l1 w1 lo told1 =
            by_raise (λ v. Runs ask code (Told k code w0) 1 1 (returns {A = Returned} (Initializing (new_part s t owner) ∷ ks) (Leaves v) l1 w1) c1 (returns ks) (bind (on_goes {A = Returned} (λ _. nothing) (Leaves v) c1 l1 w1) (own_then born s t paths)))
            (λ e.
            subst (Runs ask code (Told k code w0) 1 1 (gives (Initializing (new_part s t owner) ∷ ks) (Raised e) l1 w1) c1 (returns ks)) (sym (ap (add 0) (own_raised born s t paths e c1 l1 w1)))
            (added ask code (Told k code w0) 0 1 1 1 1 _ c1 (returns ks) _ (omega arith) (omega arith)
            (added ask code (Told k code w0) 0 0 0 1 1 _ c1 (returns ks) _ (omega arith) (omega arith)
            (clean_up_runs s t [] paths e w0 ks c1 l1 w1 _ plain (omega (arith, lo, le)) fits0 inside told1.1 clean (ap (λ xs. moved l1 (fail s xs e ks w1)) (sym (all_complete code t)))))))
            y told1.0

    -- the part itself, once its components have begun
    own_runs : AgreesOn k code default t → (incomplete : List Begun) (paths : List (List ℕ)) (c : ℕ) (l : Log) (w : World) → c ≤ bound → Since k code w0 w → HavePaths [] paths → Runs ask code (Told k code w0) 3 3 (gives (Filling (new_part s t owner) [] incomplete ∷ ks) (Fine Complete) l w) c (returns ks) (bind (own_initialize K s t paths c l w) (on_goes (begun K born s t)))
    unfolding picked opened_outcome
    own_runs agrees incomplete paths c l w le fits clean = by (parts_of code t) agrees.itself refl
      where
        s0 : State
        s0 = gives (Filling (new_part s t owner) [] incomplete ∷ ks) (Fine Complete) l w

        goal : Out Done → Type 0
        goal o = Runs ask code (Told k code w0) 3 3 (gives (Filling (new_part s t owner) [] incomplete ∷ ks) (Fine Complete) l w) c (returns ks) o

        starts_by : (g : Option ℕ) (o : Option Object) → operation (λ z. z.initialize) k t ≡ g → object_at s.object w ≡ o → step ask code (gives (Filling (new_part s t owner) [] incomplete ∷ ks) (Fine Complete) l w) ≡ moved l (initialize_by code g (new_part s t owner) o ks w) → goal (bind (call_operation K s g (starts s) c l w) (own_then born s t paths))
        starts_by None None op at go = subst goal (sym (ap (λ y. bind y (own_then born s t paths)) (library_gone ask k call default s c (starts s) l w at))) (stop_step ask code (Told k code w0) {A = Done} 3 3 _ _ c 1 (returns ks) UseAfterFree l (omega arith) go refl refl)
        starts_by None (Some o) op at go =
            subst goal (sym (ap (λ y. bind y (own_then born s t paths)) (library_is ask k call default s c (starts s) l w o at) ∙ ap (add 1) (own_done born s t paths c l w)))
            (added ask code (Told k code w0) 1 3 3 3 3 _ c (returns ks) _ (omega arith) (omega arith)
            (added ask code (Told k code w0) 0 1 1 3 3 _ c (returns ks) _ (omega arith) (omega arith)
            (alive_runs born s t owner owned w0 ks _ c l w fits go)))
        starts_by (Some f) None op at go = subst goal (sym (ap (λ y. bind y (own_then born s t paths)) (call_gone ask k call default f s c (starts s) l w at))) (stop_step ask code (Told k code w0) {A = Done} 3 3 _ _ c 0 (returns ks) UseAfterFree l (omega arith) go refl refl)
        starts_by (Some f) (Some o) op at go =
            let body = setting.initialize_body t f op in
            let here = subst (λ (d : List ℕ). IsDeclarable code (length d) t) (sym (still_home k code s.object w0 w inside.0 o fits0 fits.1 inside.1 at)) inside.2 in
            subst goal (sym (ap (λ y. bind y (own_then born s t paths)) (called_is ask k call default f s c (starts s) l w o at)))
            (called_runs paths clean _ c _ le
            (calls.runs f body.0 body.1 w0 (home_of o.origin w) (holding (Binds s.object s.offset s.path) ∷ []) AfterBody (Initializing (new_part s t owner) ∷ ks) c (tell (starts s) l) w _ Procedure 1 tt le fits (initialize_in code setting.valid (length (home_of o.origin w)) t f here (setting.initialize t ∙ op)) (origin_nested k code o.origin w fits.0) (tt, tt)
            (go ∙ enter_shows (slice_get code.entries.items f) (starts s) (home_of o.origin w) (holding (Binds s.object s.offset s.path) ∷ []) AfterBody (Initializing (new_part s t owner) ∷ ks) l w)))

        free : is_controlled k t ≡ false → step ask code (gives (Filling (new_part s t owner) [] incomplete ∷ ks) (Fine Complete) l w) ≡ gives ks (Fine Complete) l w → goal (bind (own_initialize K s t paths c l w) (on_goes (begun K born s t)))
        free is go = subst goal (sym (none_is born s t paths c l w is)) (within ask code (Told k code w0) {A = Done} 1 3 3 3 s0 c (returns ks) (Gives (Goes tt) 0 c l w) (omega arith) (omega arith) (end_step ask code (Told k code w0) {A = Done} 3 s0 c 0 (returns ks) (Goes tt) l w (tt, fits) go))

        by : (q : Parts) → is_controlled k t ≡ is_itself q → parts_of code t ≡ q → goal (bind (own_initialize K s t paths c l w) (on_goes (begun K born s t)))
        by Plain is e = free is (ap (λ q. moved l (initialize_own code q (new_part s t owner) ks w)) e)
        by Within is e = free is (ap (λ q. moved l (initialize_own code q (new_part s t owner) ks w)) e)
        by Controlled is e =
            subst goal (sym (own_is born s t paths (operation (λ z. z.initialize) k t) c l w refl is))
            (starts_by (operation (λ z. z.initialize) k t) (object_at s.object w) refl refl (ap (λ q. moved l (initialize_own code q (new_part s t owner) ks w)) e ∙ ap (λ g. moved l (initialize_by code g (new_part s t owner) (object_at s.object w) ks w)) (setting.initialize t)))

    -- what the frame that fills a part does with the component that is chosen
    fill_step : (count : ℕ) (incomplete : List Begun) (l : Log) (w : World) (b : Begun) (bs : List Begun) (o : Option (ℕ × Log)) → length (b ∷ bs) ≡ suc count → picked ask (suc count) l ≡ o
        → step ask code (gives (Filling (new_part s t owner) (b ∷ bs) incomplete ∷ ks) (Fine Complete) l w) ≡ stepped code (gives (Filling (new_part s t owner) (b ∷ bs) incomplete ∷ ks) (Fine Complete) l w) o
    fill_step count incomplete l w b bs o long is = ap (λ j. stepped code (gives (Filling (new_part s t owner) (b ∷ bs) incomplete ∷ ks) (Fine Complete) l w) (picked ask j l)) long ∙ ap (stepped code (gives (Filling (new_part s t owner) (b ∷ bs) incomplete ∷ ks) (Fine Complete) l w)) is

    module _ (agrees : AgreesOn k code default t) (m : ℕ) (parts : PartsRun m) (old : t < suc m) (among : IsBornAmong born (home_of inside.0.origin w0) ks w0) where
      -- the types of components are declared where the whole is
      abbrev AreAround : List Begun → Type 0
      AreAround items = AreBegunBy code (length (home_of inside.0.origin w0)) items

      -- so many components that are left begin, and then the part itself
      abbrev Others : ℕ → Type 0
      Others count =
          (c : ℕ) (l : Log) (w : World) (left : List Placed) (items incomplete : List Begun) (paths : List (List ℕ)) → c ≤ bound → length left ≡ count → AreBegun k default t left items → AreAround items → Progress K s (initialized_parts k t) left items paths → Since k code w0 w
          → Runs ask code (Told k code w0) 3 3 (gives (Filling (new_part s t owner) items incomplete ∷ ks) (Fine Complete) l w) c (returns ks) (bind (each m born s t count left paths c l w) (after born s t))

      -- the components that are left are these, one of them is chosen, and so many others remain
      abbrev Stands : ℕ → ℕ → List Placed → List Begun → List (List ℕ) → Type 0
      Stands count i left items paths = (length left ≡ suc count) × (i < length left) × AreBegun k default t left items × AreAround items × Progress K s (initialized_parts k t) left items paths

      -- after one that is complete
      goes_runs : (count i : ℕ) (left : List Placed) (items : List Begun) (paths : List (List ℕ)) (y : Begun) → Others count → Stands count i left items paths → (incomplete : List Begun) (c : ℕ) (l : Log) (w : World) → c ≤ bound → Since k code w0 w
          → Runs ask code (Told k code w0) 3 3 (gives (Filling (new_part s t owner) (pull_rest i items) incomplete ∷ ks) (Fine Complete) l w) c (returns ks) (one_more m born s t count i left paths (Goes tt) c l w)
      goes_runs count i left items paths y others h incomplete c l w le fits =
          subst (Runs ask code (Told k code w0) 3 3 (gives (Filling (new_part s t owner) (pull_rest i items) incomplete ∷ ks) (Fine Complete) l w) c (returns ks)) (sym (more_is m born s t count i c left paths l w))
          (added ask code (Told k code w0) 0 3 3 3 3 _ c (returns ks) _ (omega arith) (omega arith)
          (others c l w (pull_rest i left) (pull_rest i items) incomplete (paths ++ paths_of K s (pull_item no_component i left)) le (rest_length i count left h.1 h.0) (begun_rest k default t i left items h.2) (rest_inside code (length (home_of inside.0.origin w0)) i items h.3)
          (goes_on K s k default t i (initialized_parts k t) left items paths y h.2 h.1 (begun_pulled k default t no_component y i left items h.2 h.1) h.4) fits))

      -- and after one that raised
      after_one : (count i : ℕ) (left : List Placed) (items : List Begun) (paths : List (List ℕ)) (y : Begun) → Others count → Stands count i left items paths → (c : ℕ) → c ≤ bound
          → (r : Result Done) (c1 : ℕ) (l1 : Log) (w1 : World) → c1 ≤ c → Told k code w0 (way_of r) w1 → Runs ask code (Told k code w0) 3 3 (returns (Filling (new_part s t owner) (pull_rest i items) items ∷ ks) r l1 w1) c1 (returns ks) (one_more m born s t count i left paths r c1 l1 w1)
      unfolding picked
      after_one count i left items paths y others h c le (Goes u) c1 l1 w1 lo told1 = goes_runs count i left items paths y others h items c1 l1 w1 (omega (arith, lo, le)) told1.1
      after_one count i left items paths y others h c le (Leaves v) c1 l1 w1 lo told1 =
          by_raise (λ z. Runs ask code (Told k code w0) 3 3 (returns {A = Done} (Filling (new_part s t owner) (pull_rest i items) items ∷ ks) (Leaves z) l1 w1) c1 (returns ks) (one_more m born s t count i left paths (Leaves z) c1 l1 w1))
          (λ e.
          subst (Runs ask code (Told k code w0) 3 3 (gives (Filling (new_part s t owner) (pull_rest i items) items ∷ ks) (Raised e) l1 w1) c1 (returns ks)) (sym (raised_is m born s t count i e c1 left paths l1 w1))
          (added ask code (Told k code w0) 0 3 3 3 3 _ c1 (returns ks) _ (omega arith) (omega arith)
          (added ask code (Told k code w0) 0 0 0 3 3 _ c1 (returns ks) _ (omega arith) (omega arith)
          (clean_up_runs s t items paths e w0 ks c1 l1 w1 _ plain (omega (arith, lo, le)) fits0 inside told1.1 (complete_paths K s k default t (initialized_parts k t) left items paths h.2 h.4) refl))))
          v told1.0

      -- the evaluation of a default, for the frames that create the object
      default_runs : (q : ℕ) (ty : Ty) (x : IsComputed k t q ty) (offset position : ℕ) → position ≡ q → (mid : List Frame) (c : ℕ) (l : Log) (w : World) → c ≤ bound → Since k code w0 w
          → Runs ask code (Told k code w0) 0 0 (at (created_in ks) (default_of code t position) (Evaluating s.object offset ∷ mid) [] l w) c (returns mid) (bind (bind (default t q (created_in ks) c l w) (on_goes (write_part s.object offset))) (on_goes (λ _. nothing)))
      default_runs q ty x offset position number mid c l w le fits =
          let d = created_in ks in
          let outer = home_of inside.0.origin w0 in
          let has = setting.defaults t q ty x in
          let low = has.around (length outer) inside.2 in
          let few = among.1.2 in
          evaluation_runs ask k code w0 bound has.level has.number (value_code x.expression) ty (default t q) (defaults.values bound calls t q ty x w0) s.object offset mid d (default_of code t position) c l w le fits
          (among.1.0, among.1.1, (omega (arith, low, few), λ entered. absurd entered))
          (subst (λ i. Laid code (default_of code t i) (evaluation has.level has.number (value_code x.expression) ty)) (sym number) has.laid)

      -- the one that is chosen, from the step that begins it
      chosen_runs : (count i : ℕ) (left : List Placed) (items : List Begun) (paths : List (List ℕ)) (y : Begun) → Others count → Stands count i left items paths → (c : ℕ) (l : Log) (w : World) → c ≤ bound → Since k code w0 w
          → (place position : ℕ) → place ≡ (pull_item no_component i left).offset → position ≡ (pull_item no_component i left).position → (j : Initial) → BeginsBy k default t (pull_item no_component i left) j → IsBegunBy code (length (home_of inside.0.origin w0)) j
          → (s0 : State) → step ask code s0 ≡ moved l (Table.begin_component code (new_part s t owner) (record { position = position; offset = place; initial = j }) j (pull_rest i items) items ks w)
          → Runs ask code (Told k code w0) 30 30 s0 c (returns ks) (bind (begin_component K born (initialize_part K born m) s t (pull_item no_component i left) c l w) (one_more m born s t count i left paths))
      unfolding opened_outcome
      chosen_runs count i left items paths y others h c l w le fits place position offset number (Constant v) begins_by declared s0 first =
          subst (λ o. Runs ask code (Told k code w0) 30 30 s0 c (returns ks) (bind o (one_more m born s t count i left paths))) (sym (constant_is m born s t (pull_item no_component i left) v place c l w offset begins_by))
          (filled (object_at s.object w) first)
        where
          filled : (o : Option Object) → step ask code s0 ≡ moved l (take_default (new_part s t owner) place v (pull_rest i items) o ks w) → Runs ask code (Told k code w0) 30 30 s0 c (returns ks) (bind (one_filled s.object (s.offset + place) v c l w o) (one_more m born s t count i left paths))
          filled None go = stop_step ask code (Told k code w0) {A = Done} 30 30 s0 _ c 1 (returns ks) UseAfterFree l (omega arith) go refl refl
          filled (Some o) go =
              let w1 = write_cells s.object (s.offset + place) (v ∷ []) w in
              one_step ask code (Told k code w0) 3 3 30 30 s0 (gives (Filling (new_part s t owner) (pull_rest i items) (pull_rest i items) ∷ ks) (Fine Complete) l w1) c c (returns ks) (add 1 (one_more m born s t count i left paths (Goes tt) c l w1)) (omega arith) (omega arith) (omega arith) (omega arith) go
              (added ask code (Told k code w0) 1 3 3 3 3 (gives (Filling (new_part s t owner) (pull_rest i items) (pull_rest i items) ∷ ks) (Fine Complete) l w1) c (returns ks) (one_more m born s t count i left paths (Goes tt) c l w1) (omega arith) (omega arith)
              (goes_runs count i left items paths y others h (pull_rest i items) c l w1 le (since_written k code s.object (s.offset + place) (v ∷ []) w0 w fits)))
      chosen_runs count i left items paths y others h c l w le fits place position offset number (ByType u) begins_by declared s0 first =
          let part = component_of s place position in
          let mid = Filling (new_part s t owner) (pull_rest i items) items ∷ ks in
          let s1 = gives (Filling (new_part part u owner) (begun_of code u) (begun_of code u) ∷ mid) (Fine Complete) l w in
          let older = begins_by.2 in
          subst (λ o. Runs ask code (Told k code w0) 30 30 s0 c (returns ks) (bind o (one_more m born s t count i left paths))) (sym (record_is m born s t (pull_item no_component i left) u place position c l w offset number begins_by))
          (one_step ask code (Told k code w0) 20 20 30 30 s0 s1 c c (returns ks) (bind (initialize_part K born m part u c l w) (one_more m born s t count i left paths)) (omega arith) (omega arith) (omega arith) (omega arith) first
          (both ask code (Told k code w0) (Told k code w0) 3 3 3 3 20 20 s1 c (returns mid) (returns ks) (initialize_part K born m part u c l w) (one_more m born s t count i left paths) (omega arith) (omega arith) (omega arith)
          (parts u (omega (arith, older, old)) begins_by.3 part owner born owned w0 fits0 (inside.0, inside.1, declared) mid among c l w le fits)
          (after_one count i left items paths y others h c le)))
      chosen_runs count i left items paths y others h c l w le fits place position offset number Computed begins_by declared s0 first =
          let p = pull_item no_component i left in
          let x = begins_by.2 in
          let outer = home_of inside.0.origin w0 in
          let d = created_in ks in
          let mid = Filling (new_part s t owner) (pull_rest i items) items ∷ ks in
          let s1 = at d (default_of code t position) (Evaluating s.object (s.offset + place) ∷ mid) [] l w in
          let becomes : Out (List ℕ) → Out Done = λ o. bind (bind o (on_goes (write_part s.object (s.offset + place)))) (on_goes (λ _. nothing)) in
          let seen : default t p.position born.home c l w ≡ default t p.position d c l w = ap (λ e. default t p.position e c l w) (among.0 ∙ among.1.3) ∙ defaults.alike t p.position p.ty x (length outer) d inside.2 c l w in
          subst (λ o. Runs ask code (Told k code w0) 30 30 s0 c (returns ks) (bind o (one_more m born s t count i left paths))) (sym (default_is m born s t p place c l w offset begins_by ∙ ap becomes seen))
          (one_step ask code (Told k code w0) 20 20 30 30 s0 s1 c c (returns ks) (bind (becomes (default t p.position d c l w)) (one_more m born s t count i left paths)) (omega arith) (omega arith) (omega arith) (omega arith) first
          (both ask code (Told k code w0) (Told k code w0) 0 0 3 3 20 20 s1 c (returns mid) (returns ks) (becomes (default t p.position d c l w)) (one_more m born s t count i left paths) (omega arith) (omega arith) (omega arith)
          (default_runs p.position p.ty x (s.offset + place) position number mid c l w le fits)
          (after_one count i left items paths y others h c le)))

      each_runs : (count : ℕ) → Others count
      unfolding picked
      each_runs zero c l w [] [] incomplete paths le long are around progress fits =
          subst (Runs ask code (Told k code w0) 3 3 (gives (Filling (new_part s t owner) [] incomplete ∷ ks) (Fine Complete) l w) c (returns ks)) (sym (each_over m born s t c [] paths l w))
          (added ask code (Told k code w0) 0 3 3 3 3 _ c (returns ks) _ (omega arith) (omega arith)
          (own_runs agrees incomplete paths c l w le fits (complete_paths K s k default t (initialized_parts k t) [] [] paths are progress)))
      each_runs zero c l w [] (b ∷ bs) incomplete paths le long are around progress fits = absurd are
      each_runs zero c l w (q ∷ qs) items incomplete paths le long are around progress fits = absurd (omega (arith, long))
      each_runs (suc count) c l w [] items incomplete paths le long are around progress fits = absurd (omega (arith, long))
      each_runs (suc count) c l w (q ∷ qs) [] incomplete paths le long are around progress fits = absurd are
      each_runs (suc count) c l w (q ∷ qs) (b ∷ bs) incomplete paths le long are around progress fits = by (each_runs count) (picked ask (suc count) l) refl
        where
          s0 : State
          s0 = gives (Filling (new_part s t owner) (b ∷ bs) incomplete ∷ ks) (Fine Complete) l w

          goal : Out Done → Type 0
          goal o = Runs ask code (Told k code w0) 3 3 s0 c (returns ks) o

          many : length (b ∷ bs) ≡ suc count
          many = let same = begun_length k default t (q ∷ qs) (b ∷ bs) are in omega (arith, same, long)

          by : Others count → (o : Option (ℕ × Log)) → picked ask (suc count) l ≡ o → goal (bind (each m born s t (suc count) (q ∷ qs) paths c l w) (after born s t))
          by others None is = subst goal (sym (each_none m born s t count c (q ∷ qs) paths l w is)) (record { n = 0; in_time = omega arith; logged = refl; going = tt; why = inr (fill_step count incomplete l w b bs None many is) })
          by others (Some a) is =
              let small = picked_less ask count l a is in
              let less : a.0 < length (q ∷ qs) = omega (arith, small, long) in
              let one = begun_pulled k default t no_component b a.0 (q ∷ qs) (b ∷ bs) are less in
              let y = pull_item b a.0 (b ∷ bs) in
              subst goal (sym (each_more m born s t count a.0 c (q ∷ qs) paths l a.1 w is))
              (added ask code (Told k code w0) (suc count + 0) 66 66 3 3 s0 c (returns ks) (add 1 (bind (begin_component K born (initialize_part K born m) s t (pull_item no_component a.0 (q ∷ qs)) c a.1 w) (one_more m born s t count a.0 (q ∷ qs) paths))) (omega arith) (omega arith)
              (added ask code (Told k code w0) 1 30 30 66 66 s0 c (returns ks) (bind (begin_component K born (initialize_part K born m) s t (pull_item no_component a.0 (q ∷ qs)) c a.1 w) (one_more m born s t count a.0 (q ∷ qs) paths)) (omega arith) (omega arith)
              (chosen_runs count a.0 (q ∷ qs) (b ∷ bs) paths b others (long, less, are, around, progress) c a.1 w le fits y.offset y.position one.offset one.position y.initial one.how (pulled_inside code (length (home_of inside.0.origin w0)) b a.0 (b ∷ bs) around (omega (arith, small, many))) s0 (fill_step count incomplete l w b bs (Some a) many is))))

  -- Parts of parts --------------------------------------------------------------------------------------

  pub parts_run : (m : ℕ) → PartsRun m
  parts_run zero t less plain s owner born owned w0 fits0 inside ks among c l w le fits = absurd (omega (arith, less))
  parts_run (suc m) t less plain s owner born owned w0 fits0 inside ks among c l w le fits =
      let agrees = setting.agrees default defaults.constants t plain in
      subst (Runs ask code (Told k code w0) 3 3 (gives (Filling (new_part s t owner) (begun_of code t) (begun_of code t) ∷ ks) (Fine Complete) l w) c (returns ks)) (sym (part_is m born s t c l w))
      (each_runs t plain s owner born owned w0 fits0 inside ks agrees m (parts_run m) less among (length (initialized_parts k t)) c l w (initialized_parts k t) (begun_of code t) (begun_of code t) [] le refl agrees.begun (begun_inside code setting.valid (length (home_of inside.0.origin w0)) t inside.2)
      (begins K s (initialized_parts k t) (begun_of code t) (positions_rise code setting.valid (length (home_of inside.0.origin w0)) t inside.2)) fits)
