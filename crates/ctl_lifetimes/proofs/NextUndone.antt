-- One of the components that are left is finalized, of a part of a copy that failed.
use Rattle.std.proofs.Common.{◌≡◌, ℕ, ◌<◌, List, [], ◌∷◌, ◌++◌, length, refl, sym, ap, ◌∙◌, arith}
use Rattle.ctl_meaning.specs.World.{World}
use Rattle.ctl_meaning.specs.Finalization.{Spot}
use Rattle.ctl_meaning.specs.Lists.{pull_item, pull_rest}
use Rattle.ctl_meaning.specs.Outcome.{Fine}
use Rattle.ctl_code.specs.declared.code.Begun.{Begun}
use Rattle.ctl_code.specs.declared.code.Code.{Code}
use Rattle.ctl_code.specs.declared.code.Initial.{Initial}
use Rattle.ctl_code.specs.declared.code.Initial.TheVariants.{Constant, ByType, Computed}
use Rattle.ctl_code.specs.States as T
use Rattle.ctl_code.specs.Table.{component_of, controlled_of, gives, parts_of, undo_component, undo_next, undo_part}
use Rattle.ctl_engine.specs.declared.engine.Engine.{Engine}
use Rattle.ctl_frames.specs.declared.frame.Frame.TheVariants as FrameOf
use Rattle.ctl_frames.specs.declared.frame.Left.{Left}
use Rattle.ctl_engine.specs.Departing.{with_top}
use Rattle.ctl_frames.specs.Filling.{AreAmong, is_undone}
use Rattle.ctl_engine.specs.Finishing.{Finished, Finishes}
use Rattle.ctl_engine.specs.Shows.{kept, with_cells}
use Rattle.ctl_lifetimes.specs.Undoing.{UndoesParts}
use Rattle.ctl_lifetimes.proofs.NextPart.{changed_finishes}
use Rattle.ctl_lifetimes.proofs.PartFrames.{undoes_parts}

-- The table ----------------------------------------------------------------------------------------------

-- nothing is done of a component of an elementary type
elementary : (code : Code) (s : Spot) (x : Begun) (i : Initial) (k : List T.Frame) (w : World) → ((t : ℕ) → i ≡ ByType t → ⊥) → undo_component code s x i k w ≡ gives (Fine T.Complete) k w
elementary code s x (Constant v) k w other = refl
elementary code s x Computed k w other = refl
elementary code s x (ByType t) k w other = absurd (other t refl)

pub next_elementary : (code : Code) (s : Spot) (left : List Begun) (pick : ℕ) (k : List T.Frame) (w : World) (y : Begun) → 0 < length left → ((d : Begun) → y ≡ pull_item d pick left) → ((t : ℕ) → y.initial ≡ ByType t → ⊥)
    → undo_next code s left pick k w ≡ gives (Fine T.Complete) (T.UndoingParts s (pull_rest pick left) ∷ k) w
next_elementary code s [] pick k w y some is other = absurd (omega (arith, some))
next_elementary code s (x ∷ xs) pick k w y some is other =
    let z = pull_item x pick (x ∷ xs) in
    elementary code s z z.initial (T.UndoingParts s (pull_rest pick (x ∷ xs)) ∷ k) w (λ t e. other t (ap (λ (b : Begun). b.initial) (is x) ∙ e))

pub next_by_type : (code : Code) (s : Spot) (left : List Begun) (pick : ℕ) (k : List T.Frame) (w : World) (y : Begun) (t : ℕ) → 0 < length left → ((d : Begun) → y ≡ pull_item d pick left) → y.initial ≡ ByType t
    → undo_next code s left pick k w ≡ undo_part code (parts_of code t) (component_of s y.offset y.position) t (T.UndoingParts s (pull_rest pick left) ∷ k) w
next_by_type code s [] pick k w y t some is type = absurd (omega (arith, some))
next_by_type code s (x ∷ xs) pick k w y t some is type =
    let rest : List T.Frame = T.UndoingParts s (pull_rest pick (x ∷ xs)) ∷ k in
    ap (λ (i : Initial). undo_component code s (pull_item x pick (x ∷ xs)) i rest w) (ap (λ (z : Begun). z.initial) (sym (is x)) ∙ type)
    ∙ ap (λ (z : Begun). undo_part code (parts_of code t) (component_of s z.offset z.position) t rest w) (sym (is x))

-- The frame with the rest --------------------------------------------------------------------------------

-- with further cells
pub rest_undoes : (code : Code) (old new : Engine) (type count fewer first : ℕ) (those rest : Left) (p : Spot) (t : Finished) (left right : List Begun) (more : List ℕ) → UndoesParts code old type those count first t left → AreAmong (controlled_of code type) rest (is_undone t.spot t.control) right → fewer ≡ length right
    → kept new ≡ with_top (FrameOf.UndoingParts type rest fewer first) (with_cells (kept old) (old.cells.items ++ more)) → Finishes code new (record { spot = p; control = T.UndoingParts t.spot right ∷ t.control; world = t.world })
rest_undoes code old new type count fewer first those rest p t left right more f b many are =
    changed_finishes code old new (FrameOf.UndoingParts type those count first) (FrameOf.UndoingParts type rest fewer first) (T.UndoingParts t.spot left) (T.UndoingParts t.spot right) p f.frames t more (undoes_parts f.undone f.are f.many) (undoes_parts f.undone b many) f.top f.holds f.spots f.sized are
