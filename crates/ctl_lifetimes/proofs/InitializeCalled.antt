-- The Initialize of a part is called.
use Rattle.std.proofs.Common.{◌≡◌, ℕ, ◌≤◌, List, [], ◌∷◌, ◌++◌, Option, Some, None, length, refl, sym, ap, ◌∙◌, subst, arith, reverse, drop, unwrap_or}
use Rattle.std.specs.Prelude.{slice_get}
use Rattle.ctl_tree.specs.declared.event.Owner.{Owner}
use Rattle.ctl_tree.specs.declared.event.Event.{Event}
use Rattle.ctl_tree.specs.declared.event.Event.TheVariants.{Initialize}
use Rattle.ctl_meaning.specs.World as W
use Rattle.ctl_meaning.specs.World.{World}
use Rattle.ctl_meaning.specs.Objects.{object_in}
use Rattle.ctl_meaning.specs.Changes.{object_at}
use Rattle.ctl_code.specs.declared.code.Code.{Code}
use Rattle.ctl_code.specs.declared.code.Entry.{Entry}
use Rattle.ctl_code.specs.States as T
use Rattle.ctl_code.specs.States.{Move}
use Rattle.ctl_code.specs.Table.{call_operation, completed, initialize_by, operation_of, part_at}
use Rattle.ctl_engine.specs.declared.engine.Engine.{Engine}
use Rattle.ctl_frames.specs.declared.frame.Frame.{Frame}
use Rattle.ctl_frames.specs.declared.frame.Frame.TheVariants as FrameOf
use Rattle.ctl_frames.specs.declared.frame.Master.{Master}
use Rattle.ctl_engine.specs.Assigning.{Called, Calls}
use Rattle.ctl_engine.specs.Initializing.{CreatesPart, Grown, Grows, IsInitializeOf, without_top}
use Rattle.ctl_frames.specs.Links.{end_behind}
use Rattle.ctl_frames.specs.Masters.{heads_of}
use Rattle.ctl_engine.specs.Moves.{Makes}
use Rattle.ctl_frames.specs.Owned.{IsObject}
use Rattle.ctl_engine.proofs.Homes.{home_shown}
use Rattle.ctl_engine.specs.Shows.{Kept, Holds, kept, with_cells}
use Rattle.ctl_frames.specs.Under.{tall}
use Rattle.ctl_engine.proofs.Bodies.{more_cells}
use Rattle.ctl_lifetimes.proofs.Creations.{with_next}
use Rattle.ctl_engine.proofs.Owned.{object_shown}
use Rattle.ctl_lifetimes.proofs.NextWindow.{end_is, tall_within}
use Rattle.ctl_lifetimes.proofs.PartFrames.{initializes, part_comes}

-- Where its window begins ------------------------------------------------------------------------------

-- the frame of a part has no cell
pub ends_below : (code : Code) (ms : List Master) (fs : List Frame) → CreatesPart fs → end_behind code ms fs ≡ end_behind code ms (drop 1 fs)
ends_below code ms (FrameOf.Filling t owner those incomplete ∷ fs) c = refl
ends_below code ms (FrameOf.Initializing t owner ∷ fs) c = refl
ends_below code ms _ c = elim c [ ]

pub begins_there : (code : Code) (e : Engine) (type : ℕ) (owner : Owner) (t : Grown) → Grows code e type owner t → end_behind code (reverse e.masters.items) (reverse e.control.items) ≡ tall t.control (heads_of t.world.activations)
begins_there code e type owner t g = ends_below code (reverse e.masters.items) (reverse e.control.items) g.newest ∙ end_is code (without_top (kept e)) t.control [] t.world g.holds g.waits g.sized

pub begins_within : (code : Code) (e : Engine) (type : ℕ) (owner : Owner) (t : Grown) → Grows code e type owner t → end_behind code (reverse e.masters.items) (reverse e.control.items) ≤ length e.cells.items
begins_within code e type owner t g = let there = begins_there code e type owner t g in let within = tall_within code (without_top (kept e)) t.control [] t.world g.holds in omega (arith, there, within)

-- The call ---------------------------------------------------------------------------------------------

-- the body that the user wrote for a record type, by its number; 0 where there is none
abbrev pub body_of_initialize : Code → ℕ → ℕ
body_of_initialize code t = unwrap_or (operation_of (λ x. x.initialize) code t) 0

-- what the body is called for
abbrev pub call_of : Code → W.Object → Grown → Called
call_of code o t = record { object = o; spot = t.new.spot; body = body_of_initialize code t.new.type; control = T.Initializing t.new ∷ t.control; world = t.world }

pub calls_initialize : (code : Code) (old ready : Engine) (type : ℕ) (owner : Owner) (home base : ℕ) (o : W.Object) (entry : Entry) (t : Grown) (more : List ℕ) → Grows code old type owner t → IsObject old.owned.items old.stock.objects t.new.spot.object home o → IsInitializeOf code type entry → base ≡ tall t.control (heads_of t.world.activations)
    → kept ready ≡ with_cells (with_next (FrameOf.Initializing type owner) (kept old)) (old.cells.items ++ more) → Calls code ready entry home base (call_of code o t)
calls_initialize code old ready type owner home base o entry t more g part i begins is =
    let w = t.world in
    let k' : List T.Frame = T.Initializing t.new ∷ t.control in
    let e = with_next (FrameOf.Initializing type owner) (kept old) in
    let h : Holds code e k' [] w = part_comes code (without_top (kept old)) (FrameOf.Initializing type owner) (T.Initializing t.new) t.new.spot t.control w (initializes refl g.is_of.type_is g.is_of.owner_is) g.holds in
    let body : body_of_initialize code t.new.type ≡ i.body = ap (λ n. body_of_initialize code n) g.is_of.type_is ∙ ap (λ (x : Option ℕ). unwrap_or x 0) i.operation in
    record {
      holds = subst (λ (z : Kept). Holds code z k' [] w) (sym is) (more_cells code e more k' [] w h);
      spots = ap (λ (z : Kept). z.spots) is ∙ g.spots;
      sized = g.sized;
      window = begins;
      home = home_shown code (without_top (kept old)) t.control [] w o.origin g.holds ∙ part.home;
      body = ap (λ c. slice_get code.entries.items c) body ∙ i.found;
      slots = i.slots;
    }

table_calls : (code : Code) (f : Option ℕ) (body : ℕ) (x : T.Newborn) (o : W.Object) (k : List T.Frame) (w : World) → f ≡ Some body → object_at x.spot.object w ≡ Some o
    → initialize_by code f x (object_at x.spot.object w) k w ≡ call_operation code body (Initialize (part_at x.spot)) x.spot o (T.Initializing x ∷ k) w
table_calls code f body x o k w is there = rw (is, there) refl

pub initialize_makes : (code : Code) (old new : Engine) (type : ℕ) (owner : Owner) (home : ℕ) (o : W.Object) (entry : Entry) (event : Event) (t : Grown) → Grows code old type owner t → IsObject old.owned.items old.stock.objects t.new.spot.object home o → IsInitializeOf code type entry → event ≡ Initialize (part_at t.new.spot)
    → Makes code old new (call_operation code (body_of_initialize code t.new.type) event t.new.spot o (T.Initializing t.new ∷ t.control) t.world)
    → Makes code old new (initialize_by code (operation_of (λ x. x.initialize) code type) t.new (object_at t.new.spot.object t.world) t.control t.world)
initialize_makes code old new type owner home o entry event t g part i shown made =
    let k' : List T.Frame = T.Initializing t.new ∷ t.control in
    let body : body_of_initialize code t.new.type ≡ i.body = ap (λ n. body_of_initialize code n) g.is_of.type_is ∙ ap (λ (x : Option ℕ). unwrap_or x 0) i.operation in
    subst (λ (y : Move). Makes code old new y) (sym (table_calls code (operation_of (λ x. x.initialize) code type) i.body t.new o t.control t.world i.operation (object_shown code (without_top (kept old)) t.control [] t.world t.new.spot.object g.holds ∙ part.found)))
    (subst (λ (y : Event). Makes code old new (call_operation code i.body y t.new.spot o k' t.world)) shown
    (subst (λ f. Makes code old new (call_operation code f event t.new.spot o k' t.world)) body made))

-- The user wrote none ----------------------------------------------------------------------------------

table_completes : (code : Code) (f : Option ℕ) (x : T.Newborn) (o : W.Object) (k : List T.Frame) (w : World) → f ≡ None → object_at x.spot.object w ≡ Some o → initialize_by code f x (object_at x.spot.object w) k w ≡ completed code x k w
table_completes code f x o k w none there = rw (none, there) refl

pub completes_at_once : (code : Code) (old new : Engine) (type : ℕ) (owner : Owner) (o : W.Object) (t : Grown) → Grows code old type owner t → object_in t.new.spot.object old.stock.objects ≡ Some o → operation_of (λ x. x.initialize) code type ≡ None → Makes code old new (completed code t.new t.control t.world)
    → Makes code old new (initialize_by code (operation_of (λ x. x.initialize) code type) t.new (object_at t.new.spot.object t.world) t.control t.world)
completes_at_once code old new type owner o t g found none made =
    subst (λ (y : Move). Makes code old new y) (sym (table_completes code (operation_of (λ x. x.initialize) code type) t.new o t.control t.world none (object_shown code (without_top (kept old)) t.control [] t.world t.new.spot.object g.holds ∙ found))) made
