-- The part of an object is assigned to.
use Rattle.std.proofs.Common.{◌≡◌, ℕ, ◌+◌, List, [], ◌∷◌, ◌++◌, Option, Some, None, Bool, true, false, refl, sym, ap, ◌∙◌, subst, drop, ◌⊎◌, inl, inr}
use Rattle.std.specs.Prelude.{if◌then◌else◌}
use Rattle.ctl_tree.specs.declared.ending.Stop.TheVariants.{UseAfterFree}
use Rattle.ctl_meaning.specs.World as W
use Rattle.ctl_meaning.specs.Finalization.{Spot}
use Rattle.ctl_meaning.specs.Objects.{cells_at, object_in, first_cells}
use Rattle.ctl_meaning.specs.Changes.{object_at}
use Rattle.ctl_code.specs.declared.kinds.Kind.{Kind}
use Rattle.ctl_code.specs.declared.code.Code.{Code}
use Rattle.ctl_code.specs.declared.code.Instr.TheVariants.{Assign}
use Rattle.ctl_code.specs.States as T
use Rattle.ctl_code.specs.States.{Word, State, Move, Scalar, Located, Cells}
use Rattle.ctl_code.specs.Table.{Here, assigned, by_instr, is_same_part, locating, on, replace_value, size_of, assigned_value, gone, on_record}
use Rattle.ctl_code.specs.Valid.{IsValid, Leads}
use Rattle.ctl_engine.specs.declared.engine.Engine.{Engine}
use Rattle.ctl_frames.specs.declared.frame.Mode.TheVariants as ModeOf
use Rattle.ctl_engine.specs.Assigning.{Assigned, Replaces}
use Rattle.ctl_frames.specs.Masters.{heads_of, first_display}
use Rattle.ctl_engine.specs.Moves.{Before, Inside, Makes, GoesOn, here_of}
use Rattle.ctl_engine.specs.Shows.{Kept, kept, with_spots}
use Rattle.ctl_frames.specs.Spots.{first_spot, standing, value_on_top}
use Rattle.ctl_places.proofs.Located.{goes_keeping, locating_is, part_on_top, on_part, on_value, taking_none}
use Rattle.ctl_engine.proofs.Owned.{object_shown}
use Rattle.ctl_engine.proofs.Operands.{has_part}
use Rattle.ctl_places.proofs.Touched.{gone_makes}
use Rattle.ctl_engine.specs.RecordValues.{IsPart, IsValue}

-- the source, which is the newest operand, the target below it, and what stands below both
abbrev pub source_of : State → Spot
source_of s = first_spot s.operands

abbrev pub target_of : State → Spot
target_of s = first_spot (drop 1 s.operands)

abbrev pub rest_of : State → List Word
rest_of s = drop 1 (drop 1 s.operands)

-- where the assignment goes on
abbrev pub point_of : ℕ → State → T.Point
point_of next s = record { display = first_display (heads_of s.world.activations); place = next; operands = rest_of s }

-- what is assigned to
abbrev pub assigned_at : ℕ → State → Assigned
assigned_at next s = record { spot = target_of s; point = point_of next s; control = s.control; world = s.world }

-- the value that is assigned
abbrev pub value_of : Code → ℕ → W.Object → State → List ℕ
value_of code t o s = cells_at (source_of s).offset (size_of code t) o

-- that of an object, if there is one
abbrev pub value_found : Code → ℕ → Option W.Object → State → List ℕ
value_found code t None s = []
value_found code t (Some o) s = value_of code t o s

pub record AreGiven (code : Code) (e : Engine) (place : ℕ) (s : State) (t : ℕ) : Type 0 where
  pub below : List Kind
  pub leads : Leads code (place + 1) below
  pub spots : e.spots.items ≡ (standing s.control (rest_of s) ++ target_of s ∷ []) ++ source_of s ∷ []
  pub left : Inside code (with_spots (kept e) (standing s.control (rest_of s))) below s.control (rest_of s) s.world
  pub move : IsPart s.operands → IsPart (drop 1 s.operands) → by_instr code (Some (Assign t)) s.operands (here_of place s) ≡ assigned code (target_of s) (source_of s) t (object_at (source_of s).object s.world) (rest_of s) (here_of place s)
  pub gives : IsValue s.operands → IsPart (drop 1 s.operands) → by_instr code (Some (Assign t)) s.operands (here_of place s) ≡ assigned_value code (target_of s) t (first_cells (size_of code t) (value_on_top s.operands)) (rest_of s) (here_of place s)
  pub none : IsValue (drop 1 s.operands) → by_instr code (Some (Assign t)) s.operands (here_of place s) ≡ gone s.control s.world

-- what takes the value of a record is a part
takes_none : (f : Spot → Spot → List Word → Move) (g : List ℕ → Spot → List Word → Move) (ops : List Word) (h : Here) → IsPart ops ⊎ IsValue ops → IsValue (drop 1 ops)
    → on_record (λ x rest. locating (f x) rest h) (λ v rest. locating (g v) rest h) ops h ≡ gone h.control h.world
takes_none f g (Located s ∷ ops) h top lower = taking_none (f s) ops h lower
takes_none f g (Cells v ∷ ops) h top lower = taking_none (g v) ops h lower
takes_none f g (Scalar n ∷ ops) h top lower = elim top [ inl is ↦ absurd is | inr is ↦ absurd is ]
takes_none f g [] h top lower = elim top [ inl is ↦ absurd is | inr is ↦ absurd is ]

pub are_given : (code : Code) (e : Engine) (place : ℕ) (s : State) (t : ℕ) → IsValid code → Before code e place (Assign t) s → AreGiven code e place s t
are_given code e place s t valid b =
    let drops = b.fine.1.2 in
    let below = b.fine.1.0 in
    let k = s.control in
    let w = s.world in
    let h : Here = here_of place s in
    let one = drop 1 s.operands in
    let m = source_of s in
    let p = part_on_top code e t b.stack below s b.inside b.fine.1.1 in
    let lower : Kept = with_spots (kept e) (standing k one) in
    let q = has_part code lower t drops.0 k one w (subst (λ (l : List Kind). Inside code lower l k one w) drops.1 p.left) in
    record {
      below = drops.0;
      leads = drops.2;
      spots = p.spots ∙ ap (λ (l : List Spot). l ++ m ∷ []) q.spots;
      left = q.left;
      move = λ top lower. on_part (λ x rest. locating (λ y below. assigned code y x t (object_at x.object w) below h) rest h) (λ v rest. locating (λ y below. assigned_value code y t (first_cells (size_of code t) v) below h) rest h) s.operands h top
          ∙ locating_is (λ y below. assigned code y m t (object_at m.object w) below h) one h lower;
      gives = λ top lower. on_value (λ x rest. locating (λ y below. assigned code y x t (object_at x.object w) below h) rest h) (λ v rest. locating (λ y below. assigned_value code y t (first_cells (size_of code t) v) below h) rest h) s.operands h top
          ∙ locating_is (λ y below. assigned_value code y t (first_cells (size_of code t) (value_on_top s.operands)) below h) one h lower;
      none = λ lower. takes_none (λ x y below. assigned code y x t (object_at x.object w) below h) (λ v y below. assigned_value code y t (first_cells (size_of code t) v) below h) s.operands h p.either lower;
    }

-- The source is not there ------------------------------------------------------------------------------

pub source_gone : (code : Code) (old new : Engine) (place : ℕ) (s : State) (t : ℕ) → IsValid code → Before code old place (Assign t) s → IsPart s.operands → IsPart (drop 1 s.operands) → object_in (source_of s).object old.stock.objects ≡ None
    → GoesOn old new (ModeOf.Stopped UseAfterFree) old.cells.items → Makes code old new (by_instr code (Some (Assign t)) s.operands (here_of place s))
source_gone code old new place s t valid b top lower none g =
    let i = are_given code old place s t valid b in
    let m = source_of s in
    let object : object_at m.object s.world ≡ None = object_shown code (kept old) s.control s.operands s.world m.object b.inside.holds ∙ none in
    subst (λ (y : Move). Makes code old new y) (sym (i.move top lower ∙ ap (λ (o : Option W.Object). assigned code (target_of s) m t o (rest_of s) (here_of place s)) object))
    (gone_makes code old new s.control s.operands s.world b.inside.holds g)

-- It is there ------------------------------------------------------------------------------------------

-- what the table makes of it, then
abbrev chosen_by : Code → ℕ → ℕ → W.Object → State → Bool → Move
chosen_by code place t o s same = if same then on (rest_of s) s.world (here_of place s) else replace_value code (target_of s) t (value_of code t o s) (point_of (place + 1) s) s.control s.world

source_there : (code : Code) (old : Engine) (place : ℕ) (s : State) (t : ℕ) (o : W.Object) (same : Bool) → IsValid code → Before code old place (Assign t) s → IsPart s.operands → IsPart (drop 1 s.operands) → object_in (source_of s).object old.stock.objects ≡ Some o → same ≡ is_same_part (target_of s) (source_of s)
    → by_instr code (Some (Assign t)) s.operands (here_of place s) ≡ chosen_by code place t o s same
source_there code old place s t o same valid b top lower there is =
    let i = are_given code old place s t valid b in
    let m = source_of s in
    let object : object_at m.object s.world ≡ Some o = object_shown code (kept old) s.control s.operands s.world m.object b.inside.holds ∙ there in
    i.move top lower
    ∙ (ap (λ (x : Option W.Object). assigned code (target_of s) m t x (rest_of s) (here_of place s)) object
    ∙ ap (λ (x : Bool). chosen_by code place t o s x) (sym is))

-- a part that is assigned to itself
pub same_makes : (code : Code) (old new : Engine) (place : ℕ) (s : State) (t : ℕ) (o : W.Object) → IsValid code → Before code old place (Assign t) s → IsPart s.operands → IsPart (drop 1 s.operands) → object_in (source_of s).object old.stock.objects ≡ Some o → true ≡ is_same_part (target_of s) (source_of s)
    → new.mode ≡ ModeOf.At (place + 1) → kept new ≡ with_spots (kept old) (standing s.control (rest_of s)) → new.events.items ≡ old.events.items → new.picks.items ≡ old.picks.items → Makes code old new (by_instr code (Some (Assign t)) s.operands (here_of place s))
same_makes code old new place s t o valid b top lower there same mode kept_is events picks =
    let i = are_given code old place s t valid b in
    subst (λ (y : Move). Makes code old new y) (sym (source_there code old place s t o true valid b top lower there same))
    (goes_keeping code old new (with_spots (kept old) (standing s.control (rest_of s))) (place + 1) i.below s.control (rest_of s) s.world i.leads i.left mode kept_is events picks)

-- another one takes its value
pub replaces_now : (code : Code) (old : Engine) (place : ℕ) (s : State) (t : ℕ) (o : W.Object) → IsValid code → Before code old place (Assign t) s → object_in (source_of s).object old.stock.objects ≡ Some o → Replaces code old t false (place + 1) (assigned_at (place + 1) s) (value_of code t o s)
replaces_now code old place s t o valid b found =
    let i = are_given code old place s t valid b in
    record { stack = i.below; leads = i.leads; from = source_of s; inside = i.left; spots = i.spots; seen = refl; goes_on = refl; source = (o, found, refl) }

pub replaced_makes : (code : Code) (old new : Engine) (place : ℕ) (s : State) (t : ℕ) (o : W.Object) → IsValid code → Before code old place (Assign t) s → IsPart s.operands → IsPart (drop 1 s.operands) → object_in (source_of s).object old.stock.objects ≡ Some o → false ≡ is_same_part (target_of s) (source_of s)
    → Makes code old new (replace_value code (target_of s) t (value_of code t o s) (point_of (place + 1) s) s.control s.world)
    → Makes code old new (by_instr code (Some (Assign t)) s.operands (here_of place s))
replaced_makes code old new place s t o valid b top lower there differs made =
    subst (λ (y : Move). Makes code old new y) (sym (source_there code old place s t o false valid b top lower there differs)) made

-- The value of a record --------------------------------------------------------------------------------

-- it is assigned
pub gives_now : (code : Code) (old : Engine) (place : ℕ) (s : State) (t : ℕ) → IsValid code → Before code old place (Assign t) s → IsValue s.operands → Replaces code old t true (place + 1) (assigned_at (place + 1) s) (first_cells (size_of code t) (value_on_top s.operands))
gives_now code old place s t valid b top =
    let i = are_given code old place s t valid b in
    record { stack = i.below; leads = i.leads; from = source_of s; inside = i.left; spots = i.spots; seen = refl; goes_on = refl; source = ap (λ (l : List ℕ). first_cells (size_of code t) l) (cells_there s.operands top) }
  where
    cells_there : (ops : List Word) → IsValue ops → value_on_top ops ≡ (first_spot ops).path
    cells_there (Cells v ∷ ops) is = refl
    cells_there (Located m ∷ ops) is = absurd is
    cells_there (Scalar n ∷ ops) is = absurd is
    cells_there [] is = absurd is

pub given_makes : (code : Code) (old new : Engine) (place : ℕ) (s : State) (t : ℕ) → IsValid code → Before code old place (Assign t) s → IsValue s.operands → IsPart (drop 1 s.operands)
    → Makes code old new (replace_value code (target_of s) t (first_cells (size_of code t) (value_on_top s.operands)) (point_of (place + 1) s) s.control s.world)
    → Makes code old new (by_instr code (Some (Assign t)) s.operands (here_of place s))
given_makes code old new place s t valid b top lower made = subst (λ (y : Move). Makes code old new y) (sym ((are_given code old place s t valid b).gives top lower)) made

-- and it takes none
pub value_stops : (code : Code) (old new : Engine) (place : ℕ) (s : State) (t : ℕ) → IsValid code → Before code old place (Assign t) s → IsValue (drop 1 s.operands) → GoesOn old new (ModeOf.Stopped UseAfterFree) old.cells.items
    → Makes code old new (by_instr code (Some (Assign t)) s.operands (here_of place s))
value_stops code old new place s t valid b lower g =
    subst (λ (y : Move). Makes code old new y) (sym ((are_given code old place s t valid b).none lower)) (gone_makes code old new s.control s.operands s.world b.inside.holds g)
