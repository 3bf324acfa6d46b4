-- What stands last in a name that denotes a value in an object: a selector, which finds a component of the part before it, or nothing, where the
-- value of an object of an elementary type is meant, which is its first cell (4.1, 4.1.3).
use Rattle.std.proofs.Common.{◌≡◌, ℕ, ◌+◌, List, [], ◌∷◌, ◌++◌, drop, refl, ap, ◌∙◌, arith}
use Rattle.ctl_program.specs.declared.expression.Step.{Step}
use Rattle.ctl_program.specs.declared.expression.Step.TheVariants.{Component}
use Rattle.ctl_meaning.specs.World.{Log, World}
use Rattle.ctl_meaning.specs.Outcome.{Goes, Leaves, Out, Gives, Stops, Cut, Act, bind, on_goes, done, opened_outcome}
use Rattle.ctl_meaning.specs.Types.{Tables, offset_in, placed}
use Rattle.ctl_meaning.specs.Names.{Found, Alone, InObject, Tools, moved as found_behind}
use Rattle.ctl_meaning.specs.Finalization.{Spot}
use Rattle.ctl_code.specs.declared.code.Code.{Code}
use Rattle.ctl_code.specs.Table.{offset_of}
use Rattle.ctl_layout.specs.Parts.{Start, any_type, first_position}
use Rattle.ctl_gen.proofs.Parts.{OfCells, OfObject, RecordOperand, component_found, find_by, found_at, stepping}

-- what is found so many cells further on in what was found, with this path if that is a part of an object
abbrev pub last_found : ℕ → (Spot → List ℕ) → RecordOperand → Found
last_found offset path (OfObject p) = InObject p.object (p.offset + offset) (path p)
last_found offset path (OfCells v) = Alone (drop offset v)

-- the code takes the component at a position of the part that was found: this is where it begins, and what the meaning finds in its place
pub record Last (code : Code) (t position : ℕ) : Type 0 where
  pub offset : ℕ
  pub there : offset_of code t position ≡ offset
  pub step : Found → Act Found
  pub ticks : ℕ
  pub path : Spot → List ℕ
  pub is : (p : RecordOperand) (c : ℕ) (l : Log) (w : World) → step (found_at p) c l w ≡ Gives (Goes (last_found offset path p)) ticks c l w

selected_is : (k : Tables) (t position : ℕ) (p : RecordOperand) (c : ℕ) (l : Log) (w : World) → stepping k t position (found_at p) c l w ≡ Gives (Goes (last_found (offset_in position (placed k t)) (λ s. s.path ++ position ∷ []) p)) 1 c l w
unfolding found_behind
selected_is k t position (OfObject p) c l w = refl
selected_is k t position (OfCells v) c l w = refl

-- a selector, in one tick
pub selected : (k : Tables) (code : Code) (t position : ℕ) → offset_of code t position ≡ offset_in position (placed k t) → Last code t position
selected k code t position lies = record { offset = offset_in position (placed k t); there = lies; step = stepping k t position; ticks = 1; path = λ p. p.path ++ position ∷ []; is = selected_is k t position }

itself_is : (p : RecordOperand) (c : ℕ) (l : Log) (w : World) → done (found_at p) c l w ≡ Gives (Goes (last_found 0 (λ s. s.path) p)) 0 c l w
unfolding opened_outcome
itself_is (OfObject p) c l w = let same : p.offset ≡ p.offset + 0 = omega arith in ap (λ n. Gives (Goes (InObject p.object n p.path)) 0 c l w) same
itself_is (OfCells v) c l w = refl

-- nothing
pub itself : (code : Code) → offset_of code any_type first_position ≡ 0 → Last code any_type first_position
itself code lies = record { offset = 0; there = lies; step = done; ticks = 0; path = λ p. p.path; is = itself_is }

-- what the steps before it find, and then that
abbrev pub ends_in : {code : Code} {t position : ℕ} → Tools → Last code t position → (List ℕ → Act (List ℕ)) → List Step → Start → List ℕ → Act Found
ends_in K x given steps b d c l w = bind (find_by K given steps b d c l w) (on_goes x.step)

-- so means a name
abbrev pub Ends : {code : Code} {t position : ℕ} → Tools → Last code t position → (List ℕ → Act (List ℕ)) → List Step → Start → (List ℕ → Act Found) → Type 0
Ends K x given steps b find = (d : List ℕ) (c : ℕ) (l : Log) (w : World) → find d c l w ≡ ends_in K x given steps b d c l w

pub selector_ends : (K : Tools) (code : Code) (t position : ℕ) (lies : offset_of code t position ≡ offset_in position (placed K.tables t)) (given : List ℕ → Act (List ℕ)) (steps : List Step) (b : Start) (find : List ℕ → Act Found) → find ≡ find_by K given (steps ++ Component t position ∷ []) b → Ends K (selected K.tables code t position lies) given steps b find
unfolding selected
selector_ends K code t position lies given steps b find is d c l w = ap (λ (g : List ℕ → Act Found). g d c l w) is ∙ component_found K given b steps t position d c l w

-- nothing more is done
pub nothing_more : (o : Out Found) → o ≡ bind o (on_goes done)
unfolding opened_outcome
nothing_more (Gives (Goes f) t c l w) = let same : t ≡ t + 0 = omega arith in ap (λ n. Gives (Goes f) n c l w) same
nothing_more (Gives (Leaves y) t c l w) = let same : t ≡ t + 0 = omega arith in ap (λ n. Gives (Leaves y) n c l w) same
nothing_more (Stops why t l) = refl
nothing_more (Cut t c l) = refl

pub itself_ends : (K : Tools) (code : Code) (lies : offset_of code any_type first_position ≡ 0) (given : List ℕ → Act (List ℕ)) (steps : List Step) (b : Start) (find : List ℕ → Act Found) → find ≡ find_by K given steps b → Ends K (itself code lies) given steps b find
unfolding itself done
itself_ends K code lies given steps b find is d c l w = ap (λ (g : List ℕ → Act Found). g d c l w) is ∙ nothing_more (find_by K given steps b d c l w)
