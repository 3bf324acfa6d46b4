-- One of the components that are left is finalized.
use Rattle.std.proofs.Common.{◌≡◌, ℕ, ◌<◌, List, [], ◌∷◌, ◌++◌, Bool, length, refl, sym, ap, ◌∙◌, subst, arith, drop, reverse}
use Rattle.ctl_tree.specs.declared.event.Cause.{Cause}
use Rattle.ctl_tree.specs.declared.request.Order.{Order}
use Rattle.ctl_meaning.specs.World.{World}
use Rattle.ctl_meaning.specs.Finalization.{Spot}
use Rattle.ctl_meaning.specs.Lists.{pull_item, pull_rest}
use Rattle.ctl_meaning.specs.Outcome.{Fine}
use Rattle.ctl_code.specs.declared.code.Begun.{Begun}
use Rattle.ctl_code.specs.declared.code.Code.{Code}
use Rattle.ctl_code.specs.declared.code.Initial.{Initial}
use Rattle.ctl_code.specs.declared.code.Initial.TheVariants.{Constant, ByType, Computed}
use Rattle.ctl_code.specs.States as T
use Rattle.ctl_code.specs.States.{Move}
use Rattle.ctl_code.specs.Table.{component_of, controlled_of, finalize_component, finalize_next, finalize_part, gives, part_at, parts_of}
use Rattle.ctl_engine.specs.declared.engine.Engine.{Engine}
use Rattle.ctl_engine.specs.declared.finalizing.Doubles.{Doubles}
use Rattle.ctl_frames.specs.declared.frame.Apart.{Apart}
use Rattle.ctl_frames.specs.declared.frame.Frame.{Frame}
use Rattle.ctl_frames.specs.declared.frame.Frame.TheVariants as FrameOf
use Rattle.ctl_engine.specs.Departing.{with_top}
use Rattle.ctl_frames.specs.Filling.{AreApart, noted_among, pick_among}
use Rattle.ctl_engine.specs.Finishing.{AreDoubles, FinalizesParts, Finished, Finishes}
use Rattle.ctl_engine.specs.Moves.{Chooses, Makes}
use Rattle.ctl_frames.specs.Masters.{heads_of}
use Rattle.ctl_engine.specs.Shows.{Holds, Kept, SizedBelow, kept, with_cells}
use Rattle.ctl_frames.specs.Spots.{spots_in}
use Rattle.ctl_engine.proofs.Bodies.{more_cells}
use Rattle.ctl_lifetimes.proofs.PartFrames.{IsPartFrame, finalizes_parts, part_comes, part_goes, sized_with, spots_with}

-- any component
abbrev pub some_begun : Begun
some_begun = record { position = 0; offset = 0; initial = Constant 0 }

-- The table ----------------------------------------------------------------------------------------------

-- nothing is done of a component of an elementary type
elementary : (code : Code) (cause : Cause) (s : Spot) (x : Begun) (i : Initial) (k : List T.Frame) (w : World) → ((t : ℕ) → i ≡ ByType t → ⊥) → finalize_component code cause s x i k w ≡ gives (Fine T.Complete) k w
elementary code cause s x (Constant v) k w other = refl
elementary code cause s x Computed k w other = refl
elementary code cause s x (ByType t) k w other = absurd (other t refl)

pub next_elementary : (code : Code) (cause : Cause) (s : Spot) (left : List Begun) (failed : Bool) (pick : ℕ) (k : List T.Frame) (w : World) (y : Begun) → 0 < length left → ((d : Begun) → y ≡ pull_item d pick left) → ((t : ℕ) → y.initial ≡ ByType t → ⊥)
    → finalize_next code cause s left failed pick k w ≡ gives (Fine T.Complete) (T.FinalizingParts cause s (pull_rest pick left) failed ∷ k) w
next_elementary code cause s [] failed pick k w y some is other = absurd (omega (arith, some))
next_elementary code cause s (x ∷ xs) failed pick k w y some is other =
    let z = pull_item x pick (x ∷ xs) in
    elementary code cause s z z.initial (T.FinalizingParts cause s (pull_rest pick (x ∷ xs)) failed ∷ k) w (λ t e. other t (ap (λ (b : Begun). b.initial) (is x) ∙ e))

pub next_by_type : (code : Code) (cause : Cause) (s : Spot) (left : List Begun) (failed : Bool) (pick : ℕ) (k : List T.Frame) (w : World) (y : Begun) (t : ℕ) → 0 < length left → ((d : Begun) → y ≡ pull_item d pick left) → y.initial ≡ ByType t
    → finalize_next code cause s left failed pick k w ≡ finalize_part code (parts_of code t) cause (component_of s y.offset y.position) t (T.FinalizingParts cause s (pull_rest pick left) failed ∷ k) w
next_by_type code cause s [] failed pick k w y t some is type = absurd (omega (arith, some))
next_by_type code cause s (x ∷ xs) failed pick k w y t some is type =
    let rest : List T.Frame = T.FinalizingParts cause s (pull_rest pick (x ∷ xs)) failed ∷ k in
    ap (λ (i : Initial). finalize_component code cause s (pull_item x pick (x ∷ xs)) i rest w) (ap (λ (z : Begun). z.initial) (sym (is x)) ∙ type)
    ∙ ap (λ (z : Begun). finalize_part code (parts_of code t) cause (component_of s z.offset z.position) t rest w) (sym (is x))

-- The frame with the rest --------------------------------------------------------------------------------

-- another frame stands in place of the newest, and waits for the same part
frame_changes : (code : Code) (e : Kept) (f f' : Frame) (g g' : T.Frame) (s : Spot) (fs : List Frame) (k : List T.Frame) (w : World) → IsPartFrame code k f g s → IsPartFrame code k f' g' s → e.control ≡ f ∷ fs → Holds code e (g ∷ k) [] w → Holds code (with_top f' e) (g' ∷ k) [] w
frame_changes code e f f' g g' s fs k w is is' top h =
    let comes = part_comes code (record e { control = fs }) f' g' s k w is' (part_goes code e f fs g s k [] w is top h) in
    subst (λ (l : List Frame). Holds code (record e { control = f' ∷ l }) (g' ∷ k) [] w) (sym (ap (λ (l : List Frame). drop 1 l) top)) comes

-- the same with further cells
pub changed_finishes : (code : Code) (old new : Engine) (f f' : Frame) (g g' : T.Frame) (p : Spot) (fs : List Frame) (t : Finished) (more : List ℕ) → IsPartFrame code t.control f g t.spot → IsPartFrame code t.control f' g' t.spot → reverse old.control.items ≡ f ∷ fs → Holds code (kept old) (g ∷ t.control) [] t.world
    → old.spots.items ≡ spots_in t.control ++ t.spot ∷ [] → SizedBelow code t.control (heads_of t.world.activations) → kept new ≡ with_top f' (with_cells (kept old) (old.cells.items ++ more)) → Finishes code new (record { spot = p; control = g' ∷ t.control; world = t.world })
changed_finishes code old new f f' g g' p fs t more is is' top h spots sized are =
    let wider = more_cells code (kept old) more (g ∷ t.control) [] t.world h in
    record {
      holds = subst (λ (e : Kept). Holds code e (g' ∷ t.control) [] t.world) (sym are) (frame_changes code (with_cells (kept old) (old.cells.items ++ more)) f f' g g' t.spot fs t.control t.world is is' top wider);
      spots = ap (λ (e : Kept). e.spots) are ∙ (spots ∙ sym (spots_with code is'));
      sized = subst (λ (x : Type 0). x) (sym (sized_with code is' (heads_of t.world.activations))) sized;
    }

pub rest_finishes : (code : Code) (old new : Engine) (cause : Cause) (type : ℕ) (those rest : Apart) (fails : Bool) (p : Spot) (t : Finished) (left right : List Begun) (more : List ℕ) → FinalizesParts code old cause type those t left → AreApart (controlled_of code type) rest right
    → kept new ≡ with_top (FrameOf.FinalizingParts cause type rest fails) (with_cells (kept old) (old.cells.items ++ more)) → Finishes code new (record { spot = p; control = T.FinalizingParts cause t.spot right fails ∷ t.control; world = t.world })
rest_finishes code old new cause type those rest fails p t left right more f b are =
    changed_finishes code old new (FrameOf.FinalizingParts cause type those f.failed) (FrameOf.FinalizingParts cause type rest fails) (T.FinalizingParts cause t.spot left f.failed) (T.FinalizingParts cause t.spot right fails) p f.frames t more
    (finalizes_parts f.are) (finalizes_parts b) f.top f.holds f.spots f.sized are

-- The component that is chosen -------------------------------------------------------------------------

-- three times
pub own_doubles : (doubles : Doubles) (s : Spot) → AreDoubles doubles s → AreDoubles doubles doubles.spot
own_doubles doubles s d = record { spot = refl; formal = d.formal ∙ sym d.spot; part = d.part ∙ ap (λ (x : Spot). part_at x) (sym d.spot) }

-- A choice is noted --------------------------------------------------------------------------------------

pub noted_so : (old mid new : List ℕ) (count many pick : ℕ) (order : Order) → new ≡ mid ++ noted_among count pick → mid ≡ old → count ≡ many → pick ≡ pick_among order many → new ≡ old ++ noted_among many (pick_among order many)
noted_so old mid new count many pick order is same counted picked =
    is
    ∙ (ap (λ (l : List ℕ). l ++ noted_among count pick) same
    ∙ (ap (λ n. old ++ noted_among n pick) counted
    ∙ ap (λ n. old ++ noted_among many n) picked))

pub chooses : (code : Code) (old mid new : Engine) (move : Move) (noted : List ℕ) → mid.events.items ≡ old.events.items → mid.picks.items ≡ old.picks.items ++ noted → Makes code mid new move → Chooses code old new move noted
chooses code old mid new move noted events picks m = record { mode = m.mode; holds = m.holds; spots = m.spots; shows = m.shows ∙ ap (λ es. es ++ move.shows) events; picks = m.picks ∙ picks }
