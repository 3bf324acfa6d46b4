-- A new object takes the value below its access value (4.8).
use Rattle.std.proofs.Common.{◌≡◌, ℕ, ◌+◌, ◌<◌, List, [], ◌∷◌, Option, Some, None, length, sym, ap, ◌∙◌, subst, reverse}
use Rattle.std.specs.Prelude.{slice_get, slice_set}
use Rattle.std.proofs.lemmas.Option.{slice_get_within}
use Rattle.ctl_tree.specs.declared.ending.Stop.TheVariants.{UseAfterFree}
use Rattle.ctl_program.specs.declared.types.Ty.{Ty}
use Rattle.ctl_meaning.specs.World as W
use Rattle.ctl_meaning.specs.Objects as Objects
use Rattle.ctl_meaning.specs.Objects.{object_in}
use Rattle.ctl_meaning.specs.Changes.{object_at, write_cells, opened_changes}
use Rattle.ctl_code.specs.declared.kinds.Kind.{Kind}
use Rattle.ctl_code.specs.declared.kinds.Kind.TheVariants.{Operand}
use Rattle.ctl_code.specs.declared.code.Code.{Code}
use Rattle.ctl_code.specs.declared.code.Instr.TheVariants.{GiveValue}
use Rattle.ctl_code.specs.States.{Move, Scalar, State, Word}
use Rattle.ctl_code.specs.Table.{by_instr, stored}
use Rattle.ctl_code.specs.Valid.{IsValid}
use Rattle.ctl_engine.specs.declared.engine.Engine.{Engine}
use Rattle.ctl_frames.specs.declared.frame.Mode.TheVariants as ModeOf
use Rattle.ctl_frames.specs.Masters.{first_window}
use Rattle.ctl_engine.specs.Moves.{Before, GoesOn, Inside, Makes, here_of}
use Rattle.ctl_engine.specs.Shows.{kept, with_cells}
use Rattle.ctl_engine.proofs.Computed.{same_value}
use Rattle.ctl_places.proofs.Located.{goes_keeping}
use Rattle.ctl_engine.proofs.Operands.{AreNewest, are_newest}
use Rattle.ctl_engine.proofs.Owned.{cells_keep, holds_changed, object_shown}
use Rattle.ctl_places.proofs.PartStored.{stored_in}
use Rattle.ctl_places.proofs.Touched.{gone_makes}
use Rattle.ctl_engine.proofs.Values.{operand_stands}

-- a cell of the newest window holds a number
abbrev pub IsRead : Engine → ℕ → ℕ → Type 0
IsRead e at x = slice_get e.cells.items (first_window (reverse e.masters.items) + at) ≡ Some x

-- the access value, over the value
pub value_and_access : (code : Code) (e : Engine) (place : ℕ) (of ty : Ty) (at : ℕ) (s : State) → (b : Before code e place (GiveValue of ty at) s) → AreNewest code (kept e) at b.fine.2.0 s.control s.operands s.world
value_and_access code e place of ty at s b =
    are_newest code (kept e) at of ty b.fine.2.0 s.control s.operands s.world b.fine.0 b.fine.1 (subst (λ (l : List Kind). Inside code (kept e) l s.control s.operands s.world) b.fine.2.1 b.inside) b.fine.2.2.0

pub access_within : (code : Code) (e : Engine) (place : ℕ) (of ty : Ty) (at : ℕ) (s : State) → Before code e place (GiveValue of ty at) s → first_window (reverse e.masters.items) + (at + 1) < length e.cells.items
access_within code e place of ty at s b =
    let n = value_and_access code e place of ty at s b in
    slice_get_within e.cells.items (first_window (reverse e.masters.items) + (at + 1)) n.upper n.upper_read

pub value_within : (code : Code) (e : Engine) (place : ℕ) (of ty : Ty) (at : ℕ) (s : State) → Before code e place (GiveValue of ty at) s → first_window (reverse e.masters.items) + at < length e.cells.items
value_within code e place of ty at s b =
    let n = value_and_access code e place of ty at s b in
    slice_get_within e.cells.items (first_window (reverse e.masters.items) + at) n.lower n.lower_read

-- what the table makes of it, once the access value is read
give_move : (code : Code) (e : Engine) (place : ℕ) (of ty : Ty) (at access : ℕ) (s : State) (o : Option W.Object) → (b : Before code e place (GiveValue of ty at) s) → IsRead e (at + 1) access → object_in access e.stock.objects ≡ o
    → (of' ty' : Ty) → (let n = value_and_access code e place of ty at s b in by_instr code (Some (GiveValue of' ty' at)) s.operands (here_of place s) ≡ stored access 0 n.lower o (Scalar access ∷ n.rest) (here_of place s))
give_move code e place of ty at access s o b read found of' ty' =
    let n = value_and_access code e place of ty at s b in
    let h = here_of place s in
    let number : n.upper ≡ access = same_value n.upper access (slice_get e.cells.items (first_window (reverse e.masters.items) + (at + 1))) n.upper_read read in
    ap (λ (l : List Word). by_instr code (Some (GiveValue of' ty' at)) l h) n.are
    ∙ (ap (λ i. stored i 0 n.lower (object_at i s.world) (Scalar i ∷ n.rest) h) number
    ∙ ap (λ (z : Option W.Object). stored access 0 n.lower z (Scalar access ∷ n.rest) h) (object_shown code (kept e) s.control s.operands s.world access b.inside.holds ∙ found))

-- the object is there
pub gives_makes : (code : Code) (old new : Engine) (place : ℕ) (of ty : Ty) (at access value : ℕ) (s : State) (o : W.Object) → IsValid code → Before code old place (GiveValue of ty at) s → IsRead old (at + 1) access → IsRead old at value → object_in access old.stock.objects ≡ Some o
    → new.mode ≡ ModeOf.At (place + 1) → kept new ≡ with_cells (stored_in access 0 value (kept old)) (slice_set old.cells.items (first_window (reverse old.masters.items) + at) access) → new.events.items ≡ old.events.items → new.picks.items ≡ old.picks.items
    → (of' ty' : Ty) → Makes code old new (by_instr code (Some (GiveValue of' ty' at)) s.operands (here_of place s))
unfolding opened_changes
gives_makes code old new place of ty at access value s o valid b read below there mode kept_is events picks of' ty' =
    let n = value_and_access code old place of ty at s b in
    let w = s.world in
    let cells = slice_set old.cells.items (first_window (reverse old.masters.items) + at) access in
    let e = with_cells (kept old) cells in
    let put = operand_stands code (kept old) (place + 1) ty b.fine.2.0 s.control n.rest w access at b.fine.1 valid n.left b.fine.2.2.1 b.fine.2.2.0 in
    let inside : Inside code (stored_in access 0 value e) (Operand ty ∷ b.fine.2.0) s.control (Scalar access ∷ n.rest) (write_cells access 0 (value ∷ []) w) = record {
      stands = put.1.stands;
      sized = put.1.sized;
      holds = holds_changed code e s.control (Scalar access ∷ n.rest) w access (Objects.with_cells 0 (value ∷ [])) (cells_keep 0 (value ∷ [])) put.1.holds;
      spots = put.1.spots;
    } in
    let same : n.lower ≡ value = same_value n.lower value (slice_get old.cells.items (first_window (reverse old.masters.items) + at)) n.lower_read below in
    subst (λ (m : Move). Makes code old new m) (sym (give_move code old place of ty at access s (Some o) b read there of' ty' ∙ ap (λ x. stored access 0 x (Some o) (Scalar access ∷ n.rest) (here_of place s)) same))
    (goes_keeping code old new (stored_in access 0 value e) (place + 1) (Operand ty ∷ b.fine.2.0) s.control (Scalar access ∷ n.rest) (write_cells access 0 (value ∷ []) w) b.fine.2.2.1 inside mode kept_is events picks)

-- it has ceased to exist
pub gives_none : (code : Code) (old new : Engine) (place : ℕ) (of ty : Ty) (at access : ℕ) (s : State) → Before code old place (GiveValue of ty at) s → IsRead old (at + 1) access → object_in access old.stock.objects ≡ None
    → GoesOn old new (ModeOf.Stopped UseAfterFree) old.cells.items → (of' ty' : Ty) → Makes code old new (by_instr code (Some (GiveValue of' ty' at)) s.operands (here_of place s))
gives_none code old new place of ty at access s b read none goes of' ty' =
    subst (λ (m : Move). Makes code old new m) (sym (give_move code old place of ty at access s None b read none of' ty')) (gone_makes code old new s.control s.operands s.world b.inside.holds goes)
