-- The newest operands of record types: what stands among the parts for them, their cells, and which of them are the values of records.
use Rattle.std.proofs.Common.{◌≡◌, ◌⊎◌, inl, inr, ℕ, zero, suc, ◌+◌, ◌-◌, ◌<◌, List, [], ◌∷◌, ◌++◌, Option, Some, None, Bool, true, false, arith, ap, drop, length, refl, reverse, subst, sym, ◌∙◌}
use Rattle.std.specs.Prelude.{IsFalse, IsTrue, ◌&&◌, nat_eq, slice_get}
use Rattle.ctl_program.specs.declared.types.Ty.TheVariants.{Record}
use Rattle.ctl_meaning.specs.Finalization.{Spot}
use Rattle.ctl_meaning.specs.World.{World}
use Rattle.ctl_code.specs.declared.kinds.Kind.{Kind}
use Rattle.ctl_code.specs.declared.kinds.Kind.TheVariants.{Operand}
use Rattle.ctl_code.specs.declared.code.Code.{Code}
use Rattle.ctl_code.specs.Kinds.{stack_at}
use Rattle.ctl_code.specs.States as T
use Rattle.ctl_code.specs.States.{Word, Scalar, Located, Cells, State, worth}
use Rattle.ctl_code.specs.Windows.{height}
use Rattle.ctl_engine.specs.declared.engine.Engine.{Engine}
use Rattle.ctl_frames.specs.Masters.{first_window}
use Rattle.ctl_engine.specs.Moves.{Inside}
use Rattle.ctl_engine.specs.RecordValues.{FindsRecord, FindsRecords, IsPart, IsValue, is_value_as, is_value_in}
use Rattle.ctl_engine.specs.Shows.{Holds, Kept, kept, with_spots}
use Rattle.ctl_frames.specs.Spots.{first_spot, standing}
use Rattle.ctl_engine.proofs.Blocks.{stack_is}
use Rattle.ctl_frames.proofs.Lists.{eq_differs, eq_same}
use Rattle.ctl_engine.proofs.Operands.{HasPart, has_part}
use Rattle.ctl_engine.proofs.Values.{top_read, window_in}
use Rattle.ctl_frames.proofs.Words.{last_there, many_of, next_there}

-- The two tests ------------------------------------------------------------------------------------------

-- what is no value has another number, or another cell
no_value : (s : Spot) (cell : ℕ) → (s.object ≡ 0 → ⊥) → is_value_as s cell ≡ false
no_value s cell differs = ap (λ b. b && nat_eq cell 1) (eq_differs s.object 0 differs)

pub no_value_in : (s : Spot) (cell : Option ℕ) → (s.object ≡ 0 → ⊥) → is_value_in (Some s) cell ≡ false
no_value_in s None differs = refl
no_value_in s (Some cell) differs = no_value s cell differs

pub not_both : (n : ℕ) → (nat_eq n 0 && nat_eq n 1) ≡ false
not_both zero = ap (λ b. nat_eq 0 0 && b) (eq_differs 0 1 (λ e. omega (arith, e))) ∙ and_false (nat_eq 0 0)
  where
    and_false : (b : Bool) → (b && false) ≡ false
    and_false true = refl
    and_false false = refl
not_both (suc n) = ap (λ b. b && nat_eq (suc n) 1) (eq_differs (suc n) 0 (λ e. omega (arith, e)))

pub both : (nat_eq 0 0 && nat_eq 1 1) ≡ true
both = ap (λ b. b && nat_eq 1 1) (eq_same 0 0 refl) ∙ eq_same 1 1 refl

no_truth : true ≡ false → ⊥
no_truth e = cc

told_value : (ops : List Word) (top : Word) → ops ≡ top ∷ drop 1 ops → IsPart ops ⊎ IsValue ops → is_value_as (first_spot ops) (worth top) ≡ true → IsValue ops
told_value [] top are (inl h) is = absurd h
told_value [] top are (inr h) is = absurd h
told_value (Scalar n ∷ ops) top are (inl h) is = absurd h
told_value (Scalar n ∷ ops) top are (inr h) is = absurd h
told_value (Cells v ∷ ops) top are h is = tt
told_value (Located s ∷ ops) top are h is =
    let same : top ≡ Located s = cc in
    absurd (no_truth (sym is ∙ (ap (λ (x : Word). is_value_as s (worth x)) same ∙ not_both s.object)))

told_part : (ops : List Word) (top : Word) → ops ≡ top ∷ drop 1 ops → IsPart ops ⊎ IsValue ops → is_value_as (first_spot ops) (worth top) ≡ false → IsPart ops
told_part [] top are (inl h) is = absurd h
told_part [] top are (inr h) is = absurd h
told_part (Scalar n ∷ ops) top are (inl h) is = absurd h
told_part (Scalar n ∷ ops) top are (inr h) is = absurd h
told_part (Located s ∷ ops) top are h is = tt
told_part (Cells v ∷ ops) top are h is =
    let same : top ≡ Cells v = cc in
    absurd (no_truth (sym both ∙ (sym (ap (λ (x : Word). nat_eq 0 0 && nat_eq (worth x) 1) same) ∙ is)))

pub some_part : (spots below : List Spot) (s : Spot) → spots ≡ below ++ s ∷ [] → 0 < length spots
some_part spots below s is = let many = many_of spots below s is in omega (arith, many)

-- Where they stand ---------------------------------------------------------------------------------------

-- an operand of a record type, over these cells: it stands at this place among the parts
pub record StandsThere (e : Kept) (at cell : ℕ) (ops : List Word) : Type 0 where
  pub top : Word
  pub are : ops ≡ top ∷ drop 1 ops
  pub either : IsPart ops ⊎ IsValue ops
  pub spot_read : slice_get e.spots at ≡ Some (first_spot ops)
  pub cell_read : slice_get e.cells cell ≡ Some (worth top)

top_cell : (code : Code) (e : Kept) (t : ℕ) (below : List Kind) (k : List T.Frame) (ops : List Word) (w : World) → Inside code e (Operand (Record t) ∷ below) k ops w → (p : HasPart code e below k ops w)
    → slice_get e.cells (first_window e.masters + height below) ≡ Some (worth p.top)
top_cell code e t below k ops w i p = top_read code e (height below) below k p.top (drop 1 ops) w (subst (λ (l : List Word). Holds code e k l w) p.are i.holds) (window_in p.left) refl

pub newest_stands : (code : Code) (e : Engine) (place at : ℕ) (s : State) → FindsRecord code e place s → at ≡ length e.spots.items - 1
    → StandsThere (kept e) at (first_window (reverse e.masters.items) + height (drop 1 (stack_at code.kinds place))) s.operands
newest_stands code e place at s f is =
    let b = f.1 in
    let below = f.3 in
    let k = s.control in
    let ops = s.operands in
    let i = subst (λ (l : List Kind). Inside code (kept e) l k ops s.world) f.4 b.inside in
    let p = has_part code (kept e) f.2 below k ops s.world i in
    let same : drop 1 (stack_at code.kinds place) ≡ below = ap (λ (l : List Kind). drop 1 l) (stack_is code place b.stack b.leads ∙ f.4) in
    record {
      top = p.top;
      are = p.are;
      either = p.either;
      spot_read = ap (λ n. slice_get e.spots.items n) is ∙ last_there e.spots.items (standing k (drop 1 ops)) (first_spot ops) p.spots;
      cell_read = ap (λ (l : List Kind). slice_get e.cells.items (first_window (reverse e.masters.items) + height l)) same ∙ top_cell code (kept e) f.2 below k ops s.world i p;
    }

pub next_stands : (code : Code) (e : Engine) (place at : ℕ) (s : State) → FindsRecords code e place s → at ≡ length e.spots.items - 2
    → StandsThere (kept e) at (first_window (reverse e.masters.items) + height (drop 2 (stack_at code.kinds place))) (drop 1 s.operands)
next_stands code e place at s f is =
    let b = f.1 in
    let below = f.4 in
    let k = s.control in
    let ops = s.operands in
    let w = s.world in
    let i = subst (λ (l : List Kind). Inside code (kept e) l k ops w) f.5 b.inside in
    let p = has_part code (kept e) f.2 (Operand (Record f.3) ∷ below) k ops w i in
    let left = with_spots (kept e) (standing k (drop 1 ops)) in
    let q = has_part code left f.3 below k (drop 1 ops) w p.left in
    let same : drop 2 (stack_at code.kinds place) ≡ below = ap (λ (l : List Kind). drop 2 l) (stack_is code place b.stack b.leads ∙ f.5) in
    let spots : e.spots.items ≡ (standing k (drop 1 (drop 1 ops)) ++ first_spot (drop 1 ops) ∷ []) ++ first_spot ops ∷ [] = p.spots ∙ ap (λ (l : List Spot). l ++ first_spot ops ∷ []) q.spots in
    record {
      top = q.top;
      are = q.are;
      either = q.either;
      spot_read = ap (λ n. slice_get e.spots.items n) is ∙ next_there e.spots.items (standing k (drop 1 (drop 1 ops))) (first_spot (drop 1 ops)) (first_spot ops) (length e.spots.items) spots refl;
      cell_read = ap (λ (l : List Kind). slice_get e.cells.items (first_window (reverse e.masters.items) + height l)) same ∙ top_cell code left f.3 below k (drop 1 ops) w p.left q;
    }

-- what is read there tells which it is
told_there : (e : Kept) (at cell : ℕ) (ops : List Word) (r : Bool) (h : StandsThere e at cell ops) → r ≡ is_value_in (slice_get e.spots at) (slice_get e.cells cell) → r ≡ is_value_as (first_spot ops) (worth h.top)
told_there e at cell ops r h is =
    is
    ∙ (ap (λ o. is_value_in o (slice_get e.cells cell)) h.spot_read
    ∙ ap (λ o. is_value_in (Some (first_spot ops)) o) h.cell_read)

pub value_there : (e : Kept) (at cell : ℕ) (ops : List Word) (r : Bool) → StandsThere e at cell ops → r ≡ is_value_in (slice_get e.spots at) (slice_get e.cells cell) → IsTrue r → IsValue ops
value_there e at cell ops r h is t = told_value ops h.top h.are h.either (sym (told_there e at cell ops r h is) ∙ t)

pub part_read_there : (e : Kept) (at cell : ℕ) (ops : List Word) (r : Bool) → StandsThere e at cell ops → r ≡ is_value_in (slice_get e.spots at) (slice_get e.cells cell) → IsFalse r → IsPart ops
part_read_there e at cell ops r h is f = told_part ops h.top h.are h.either (sym (told_there e at cell ops r h is) ∙ f)
