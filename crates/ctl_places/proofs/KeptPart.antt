-- Which part has a component is kept in two numbers under other operands, and what its copy begins with takes the place of the part (6.4.1).
use Rattle.std.proofs.Common.{◌≡◌, ℕ, zero, suc, ◌+◌, ◌-◌, ◌<◌, List, [], ◌∷◌, ◌++◌, Option, Some, None, drop, length, refl, sym, ap, ◌∙◌, subst, arith, reverse}
use Rattle.std.specs.Prelude.{slice_get, slice_set}
use Rattle.std.proofs.lemmas.List.{length-append, length-reverse, reverse-append}
use Rattle.std.proofs.lemmas.Option.{slice_get_within}
use Rattle.ctl_tree.specs.declared.ending.Stop.TheVariants.{UseAfterFree}
use Rattle.ctl_program.specs.declared.operators.CopyStart.{CopyStart}
use Rattle.ctl_program.specs.declared.operators.CopyStart.TheVariants as CopyStartOf
use Rattle.ctl_program.specs.declared.types.Ty.{Ty}
use Rattle.ctl_program.specs.declared.types.Ty.TheVariants.{Integer, Record}
use Rattle.ctl_meaning.specs.World.{World}
use Rattle.ctl_meaning.specs.Finalization.{Spot}
use Rattle.ctl_meaning.specs.Changes.{object_at}
use Rattle.ctl_code.specs.declared.kinds.Kind.{Kind}
use Rattle.ctl_code.specs.declared.kinds.Kind.TheVariants.{Operand, RecordValue, Block, Body, Default}
use Rattle.ctl_code.specs.declared.code.Code.{Code}
use Rattle.ctl_code.specs.declared.code.Named.TheVariants as NamedOf
use Rattle.ctl_code.specs.declared.code.Instr.TheVariants.{KeepPart}
use Rattle.ctl_code.specs.States as T
use Rattle.ctl_code.specs.States.{Word, Scalar, Located, Cells, Move, State, cells_of}
use Rattle.ctl_code.specs.Table.{Here, by_begin_copy, by_instr, keeping, offset_of}
use Rattle.ctl_code.specs.Valid.{CanKeep, HaveOperands, IsValid}
use Rattle.ctl_code.specs.Windows.{height}
use Rattle.ctl_code.proofs.Fitting.{kept_stand}
use Rattle.ctl_code.proofs.Keeping.{kept_cells, kept_scalars}
use Rattle.ctl_engine.specs.declared.engine.Engine.{Engine}
use Rattle.ctl_frames.specs.declared.frame.Mode.TheVariants as ModeOf
use Rattle.ctl_frames.specs.Masters.{HaveRoom, first_window, heads_of}
use Rattle.ctl_engine.specs.Moves.{Before, GoesOn, Inside, Makes, here_of}
use Rattle.ctl_places.specs.Parts.{begun_with, part_in}
use Rattle.ctl_engine.specs.Shows.{Holds, Kept, kept, with_cells, with_spots}
use Rattle.ctl_frames.specs.Spots.{first_spot, located, spots_in, standing, value_spot}
use Rattle.ctl_frames.specs.Under.{tall, under}
use Rattle.ctl_engine.proofs.Following.{makes_later}
use Rattle.ctl_frames.proofs.Lists.{length_set, set_left, set_right}
use Rattle.ctl_places.proofs.Located.{locating_is, part_on_top, taking_none}
use Rattle.ctl_engine.proofs.Places.{place_is}
use Rattle.ctl_engine.proofs.Plain.{put_makes, put_within}
use Rattle.ctl_engine.proofs.Slots.{tall_is}
use Rattle.ctl_places.proofs.Touched.{fetched_is, gone_makes, part_move}
use Rattle.ctl_engine.proofs.Values.{room_for, window_in}
use Rattle.ctl_frames.proofs.Words.{length_cells}
use Rattle.ctl_engine.specs.RecordValues.{IsPart, IsValue}

-- Rows of cells ----------------------------------------------------------------------------------------

-- an item of a list that is turned
set_turned : (xs : List ℕ) (i j x : ℕ) → i + suc j ≡ length xs → slice_set (reverse xs) i x ≡ reverse (slice_set xs j x)
set_turned [] i j x e = absurd (omega (arith, e))
set_turned (y ∷ ys) i zero x e =
    let long = length-reverse ys in
    ap (λ (l : List ℕ). slice_set l i x) (reverse-append (y ∷ []) ys)
    ∙ (set_right (reverse ys) (y ∷ []) 0 i x (omega (arith, e, long))
    ∙ sym (reverse-append (x ∷ []) ys))
set_turned (y ∷ ys) i (suc j) x e =
    let long = length-reverse ys in
    ap (λ (l : List ℕ). slice_set l i x) (reverse-append (y ∷ []) ys)
    ∙ (set_left (reverse ys) (y ∷ []) i x (omega (arith, e, long))
    ∙ (ap (λ (l : List ℕ). l ++ y ∷ []) (set_turned ys i j x (omega (arith, e)))
    ∙ sym (reverse-append (y ∷ []) (slice_set ys j x))))

-- such a list between others
set_between : (low row rest : List ℕ) (at i j x : ℕ) → at ≡ length low + i → i + suc j ≡ length row → slice_set ((low ++ reverse row) ++ rest) at x ≡ (low ++ reverse (slice_set row j x)) ++ rest
set_between low row rest at i j x first last =
    let turned = length-reverse row in
    let long = length-append low (reverse row) in
    let within : at < length (low ++ reverse row) = omega (arith, first, last, turned, long) in
    set_left (low ++ reverse row) rest at x within
    ∙ ap (λ (l : List ℕ). l ++ rest) (set_right low (reverse row) i at x first ∙ ap (λ (l : List ℕ). low ++ l) (set_turned row i j x last))

-- Two numbers keep a part ---------------------------------------------------------------------------------

-- the parts among operands stay, where two numbers stood
kept_located : (n : ℕ) (s : Spot) (x y : ℕ) (ops : List Word) → slice_get ops n ≡ Some (Scalar x) → slice_get ops (suc n) ≡ Some (Scalar y) → located (keeping n s ops) ≡ located ops
kept_located zero s x y [] first second = absurd (cc first)
kept_located zero s x y (z ∷ []) first second = absurd (cc second)
kept_located zero s x y (Scalar a ∷ Scalar b ∷ ops) first second = refl
kept_located zero s x y (Scalar a ∷ Located t ∷ ops) first second = absurd (cc second)
kept_located zero s x y (Scalar a ∷ Cells v ∷ ops) first second = absurd (cc second)
kept_located zero s x y (Located t ∷ b ∷ ops) first second = absurd (cc first)
kept_located zero s x y (Cells v ∷ b ∷ ops) first second = absurd (cc first)
kept_located (suc n) s x y [] first second = absurd (cc first)
kept_located (suc n) s x y (Scalar a ∷ ops) first second = kept_located n s x y ops first second
kept_located (suc n) s x y (Located t ∷ ops) first second = ap (λ (l : List Spot). l ++ t ∷ []) (kept_located n s x y ops first second)
kept_located (suc n) s x y (Cells v ∷ ops) first second = ap (λ (l : List Spot). l ++ value_spot v ∷ []) (kept_located n s x y ops first second)

-- with a part that is kept in a cell and the next one, by its object and its first cell
abbrev pub with_part_in : ℕ → Spot → Kept → Kept
with_part_in at s e = with_cells e (slice_set (slice_set e.cells (at + 1) s.offset) at s.object)

-- this is written, where the part was taken off
pub part_kept : (e : Kept) (spots below : List Spot) (at object start : ℕ) (y : Spot) → spots ≡ below → object ≡ y.object → start ≡ y.offset → with_cells (with_spots e spots) (slice_set (slice_set e.cells (at + 1) start) at object) ≡ with_part_in at y (with_spots e below)
part_kept e spots below at object start y same number first =
    ap (λ (l : List Spot). with_cells (with_spots e l) (slice_set (slice_set e.cells (at + 1) start) at object)) same
    ∙ (ap (λ n. with_cells (with_spots e below) (slice_set (slice_set e.cells (at + 1) n) at object)) first
    ∙ ap (λ n. with_cells (with_spots e below) (slice_set (slice_set e.cells (at + 1) y.offset) at n)) number)

-- the cells of these operands show it
kept_holds : (code : Code) (e : Kept) (n at : ℕ) (s : Spot) (x y : Word) (k : List T.Frame) (ops : List Word) (w : World) → Holds code e k ops w → slice_get ops n ≡ Some x → slice_get ops (suc n) ≡ Some y → at + suc (suc n) ≡ tall k (heads_of w.activations) + length ops
    → Holds code (with_part_in at s e) k (keeping n s ops) w
kept_holds code e n at s x y k ops w h first second is =
    let low = under k w.activations in
    let row = cells_of ops in
    let rest = h.cells.0 in
    let i = length ops - suc (suc n) in
    let enough = slice_get_within ops (suc n) y second in
    let tall_low = tall_is k w.activations in
    let many = length_cells ops in
    let as_many = length_set row n s.offset in
    let upper = set_between low row rest (at + 1) (i + 1) n s.offset (omega (arith, is, enough, tall_low)) (omega (arith, enough, many)) in
    let lower = set_between low (slice_set row n s.offset) rest at i (suc n) s.object (omega (arith, is, enough, tall_low)) (omega (arith, enough, many, as_many)) in
    record {
      cells = (
        rest,
        ap (λ c. slice_set (slice_set c (at + 1) s.offset) at s.object) h.cells.1
            ∙ (ap (λ c. slice_set c at s.object) upper
            ∙ (lower
            ∙ ap (λ l. (low ++ reverse l) ++ rest) (sym (kept_cells n s x y ops first second)))),
      );
      room = subst (λ m. HaveRoom code.room e.masters m) (sym (length_set (slice_set e.cells (at + 1) s.offset) at s.object ∙ length_set e.cells (at + 1) s.offset)) h.room;
      masters = h.masters;
      below = h.below;
      waits = h.waits;
      objects = h.objects;
      needs = h.needs;
      pools = h.pools;
      owns = h.owns;
      held = h.held;
      rise = h.rise;
      next_master = h.next_master;
      next_object = h.next_object;
      next_collection = h.next_collection;
      collections = h.collections;
      left = h.left;
      saved = h.saved;
      noted = h.noted;
    }

-- so many operands take as many cells
operands_high : (n : ℕ) (stack : List Kind) → HaveOperands n stack → height (drop n stack) + n ≡ height stack
operands_high zero stack h = omega arith
operands_high (suc n) (Operand ty ∷ stack) h = let ih = operands_high n stack h in omega (arith, ih)
operands_high (suc n) [] h = absurd h
operands_high (suc n) (RecordValue ∷ stack) h = absurd h
operands_high (suc n) (Block slots ∷ stack) h = absurd h
operands_high (suc n) (Body level slots number ∷ stack) h = absurd h
operands_high (suc n) (Default level number ∷ stack) h = absurd h

-- two numbers under so many operands, the lower of which stands in this cell
record HaveTwo (n at : ℕ) (stack : List Kind) : Type 0 where
  operands : HaveOperands (suc (suc n)) stack
  upper : slice_get stack n ≡ Some (Operand Integer)
  lower : slice_get stack (suc n) ≡ Some (Operand Integer)
  cell : at ≡ height (drop (suc (suc n)) stack)

have_two : (depth base t : ℕ) (below : List Kind) → CanKeep depth base (Operand (Record t) ∷ below) → HaveTwo (depth - 3) base below
have_two depth base t below c =
    let n = depth - 3 in
    let enough = c.0 in
    let all : depth ≡ suc (suc (suc n)) = omega (arith, enough) in
    let upper : depth - 2 ≡ suc n = omega (arith, enough) in
    let lower : depth - 1 ≡ suc (suc n) = omega (arith, enough) in
    let stack : List Kind = Operand (Record t) ∷ below in
    record {
      operands = subst (λ m. HaveOperands m stack) all c.1;
      upper = subst (λ m. slice_get stack m ≡ Some (Operand Integer)) upper c.2;
      lower = subst (λ m. slice_get stack m ≡ Some (Operand Integer)) lower c.3;
      cell = c.4 ∙ ap (λ m. height (drop m stack)) all;
    }

kept_inside : (code : Code) (e : Kept) (n at : ℕ) (s : Spot) (stack : List Kind) (k : List T.Frame) (ops : List Word) (w : World) → Inside code e stack k ops w → HaveTwo n at stack
    → Inside code (with_part_in (first_window e.masters + at) s e) stack k (keeping n s ops) w
kept_inside code e n at s stack k ops w i two =
    let here = place_is (window_in i) in
    let high = operands_high (suc (suc n)) stack two.operands in
    let cell = two.cell in
    let there = kept_scalars code n stack k ops two.operands two.upper two.lower i.stands in
    record {
      stands = kept_stand code n s stack k ops two.operands two.upper two.lower i.stands;
      sized = i.sized;
      holds = kept_holds code e n (first_window e.masters + at) s (Scalar there.0) (Scalar there.1) k ops w i.holds there.2 there.3 (omega (arith, here, high, cell));
      spots = i.spots ∙ ap (λ (l : List Spot). spots_in k ++ l) (sym (kept_located n s there.0 there.1 ops there.2 there.3));
    }

-- The instruction ---------------------------------------------------------------------------------------

-- what stands under the part
two_below : (code : Code) (e : Engine) (place t position : ℕ) (begins : CopyStart) (ty : Ty) (depth base at : ℕ) (s : State) → (b : Before code e place (KeepPart t position begins ty depth base at) s) → HaveTwo (depth - 3) base b.fine.2.0
two_below code e place t position begins ty depth base at s b = have_two depth base t b.fine.2.0 (subst (λ (l : List Kind). CanKeep depth base l) b.fine.2.1 b.fine.1)

-- both cells are there
pub keep_within : (code : Code) (e : Engine) (place t position : ℕ) (begins : CopyStart) (ty : Ty) (depth base at : ℕ) (s : State) → IsValid code → Before code e place (KeepPart t position begins ty depth base at) s → first_window (reverse e.masters.items) + base + 1 < length e.cells.items
keep_within code e place t position begins ty depth base at s valid b =
    let room = room_for code.room (reverse e.masters.items) (length e.cells.items) b.inside.holds.room in
    let fits = valid.room place b.stack b.leads in
    let two = two_below code e place t position begins ty depth base at s b in
    let high = operands_high (suc (suc (depth - 3))) b.fine.2.0 two.operands in
    let over = ap height b.fine.2.1 in
    let cell = two.cell in
    omega (arith, room, fits, high, over, cell)

-- the part is kept
keep_inside : (code : Code) (e : Engine) (place t position : ℕ) (begins : CopyStart) (ty : Ty) (depth base at : ℕ) (s : State) → (b : Before code e place (KeepPart t position begins ty depth base at) s)
    → Inside code (with_part_in (first_window (reverse e.masters.items) + base) (first_spot s.operands) (with_spots (kept e) (standing s.control (drop 1 s.operands)))) b.fine.2.0 s.control (keeping (depth - 3) (first_spot s.operands) (drop 1 s.operands)) s.world
keep_inside code e place t position begins ty depth base at s b =
    let below = b.fine.2.0 in
    let rest = drop 1 s.operands in
    let p = part_on_top code e t b.stack below s b.inside b.fine.2.1 in
    kept_inside code (with_spots (kept e) (standing s.control rest)) (depth - 3) base (first_spot s.operands) below s.control rest s.world p.left (two_below code e place t position begins ty depth base at s b)

-- what the copy begins with is put
begins_is : (begins : CopyStart) (offset : ℕ) (y : Spot) (ops : List Word) (h : Here) → by_begin_copy begins offset y ops h ≡ part_move (begun_with begins (part_in (y.offset + offset) (object_at y.object h.world))) NamedOf.Operand ops h
begins_is CopyStartOf.Actual offset y ops h = fetched_is (y.offset + offset) (object_at y.object h.world) NamedOf.Operand ops h
begins_is CopyStartOf.Beginning offset y ops h = refl

keep_move : (code : Code) (e : Engine) (place : ℕ) (s : State) (below : List Kind) (t position offset : ℕ) (begins : CopyStart) (ty : Ty) (depth base at : ℕ) (x : Option ℕ) → IsPart s.operands → offset ≡ offset_of code t position
    → x ≡ begun_with begins (part_in ((first_spot s.operands).offset + offset) (object_at (first_spot s.operands).object s.world))
    → by_instr code (Some (KeepPart t position begins ty depth base at)) s.operands (here_of place s) ≡ part_move x NamedOf.Operand (keeping (depth - 3) (first_spot s.operands) (drop 1 s.operands)) (here_of place s)
keep_move code e place s below t position offset begins ty depth base at x top same is =
    let h = here_of place s in
    let y = first_spot s.operands in
    let rest = keeping (depth - 3) y (drop 1 s.operands) in
    locating_is (λ z others. by_begin_copy begins (offset_of code t position) z (keeping (depth - 3) z others) h) s.operands h top
    ∙ (ap (λ n. by_begin_copy begins n y rest h) (sym same)
    ∙ (begins_is begins offset y rest h
    ∙ ap (λ z. part_move z NamedOf.Operand rest h) (sym is)))

pub keep_makes : (code : Code) (old mid new : Engine) (place : ℕ) (s : State) (t position offset : ℕ) (begins : CopyStart) (ty : Ty) (depth base at x : ℕ) → IsValid code → Before code old place (KeepPart t position begins ty depth base at) s → IsPart s.operands
    → Some x ≡ begun_with begins (part_in ((first_spot s.operands).offset + offset) (object_at (first_spot s.operands).object s.world))
    → kept mid ≡ with_part_in (first_window (reverse old.masters.items) + base) (first_spot s.operands) (with_spots (kept old) (standing s.control (drop 1 s.operands))) → mid.events.items ≡ old.events.items → mid.picks.items ≡ old.picks.items
    → GoesOn mid new (ModeOf.At (place + 1)) (slice_set mid.cells.items (first_window (reverse mid.masters.items) + at) x)
    → (t' position' : ℕ) (ty' : Ty) → offset ≡ offset_of code t' position' → Makes code old new (by_instr code (Some (KeepPart t' position' begins ty' depth base at)) s.operands (here_of place s))
keep_makes code old mid new place s t position offset begins ty depth base at x valid b top is mid_is events picks g t' position' ty' same =
    let below = b.fine.2.0 in
    let rest = keeping (depth - 3) (first_spot s.operands) (drop 1 s.operands) in
    let i = subst (λ (e : Kept). Inside code e below s.control rest s.world) (sym mid_is) (keep_inside code old place t position begins ty depth base at s b) in
    let made = put_makes code mid new place (record { at = at; named = NamedOf.Operand }) ty below s.control rest s.world x b.fine.0 valid i b.fine.2.2 g in
    subst (λ (m : Move). Makes code old new m) (sym (keep_move code old place s below t' position' offset begins ty' depth base at (Some x) top same is))
    (makes_later code old mid new _ events picks made)

-- and there is a cell for it
pub copy_within : (code : Code) (old mid : Engine) (place : ℕ) (s : State) (t position : ℕ) (begins : CopyStart) (ty : Ty) (depth base at : ℕ) → IsValid code → Before code old place (KeepPart t position begins ty depth base at) s
    → kept mid ≡ with_part_in (first_window (reverse old.masters.items) + base) (first_spot s.operands) (with_spots (kept old) (standing s.control (drop 1 s.operands))) → first_window (reverse mid.masters.items) + at < length mid.cells.items
copy_within code old mid place s t position begins ty depth base at valid b mid_is =
    let below = b.fine.2.0 in
    let rest = keeping (depth - 3) (first_spot s.operands) (drop 1 s.operands) in
    let i = subst (λ (e : Kept). Inside code e below s.control rest s.world) (sym mid_is) (keep_inside code old place t position begins ty depth base at s b) in
    put_within code mid place (record { at = at; named = NamedOf.Operand }) ty below s.control rest s.world b.fine.0 valid i b.fine.2.2

pub keep_gone : (code : Code) (old new : Engine) (place : ℕ) (s : State) (t position offset : ℕ) (begins : CopyStart) (ty : Ty) (depth base at : ℕ) → Before code old place (KeepPart t position begins ty depth base at) s → IsPart s.operands
    → None ≡ begun_with begins (part_in ((first_spot s.operands).offset + offset) (object_at (first_spot s.operands).object s.world)) → GoesOn old new (ModeOf.Stopped UseAfterFree) old.cells.items
    → (t' position' : ℕ) (ty' : Ty) → offset ≡ offset_of code t' position' → Makes code old new (by_instr code (Some (KeepPart t' position' begins ty' depth base at)) s.operands (here_of place s))
keep_gone code old new place s t position offset begins ty depth base at b top is g t' position' ty' same =
    let below = b.fine.2.0 in
    subst (λ (m : Move). Makes code old new m) (sym (keep_move code old place s below t' position' offset begins ty' depth base at None top same is))
    (gone_makes code old new s.control s.operands s.world b.inside.holds g)

-- the value of a record is kept nowhere: what goes back is given to a variable, which it is not (3.3)
pub keep_none : (code : Code) (old new : Engine) (place : ℕ) (s : State) (t position : ℕ) (begins : CopyStart) (ty : Ty) (depth base at : ℕ) → Before code old place (KeepPart t position begins ty depth base at) s → IsValue s.operands → GoesOn old new (ModeOf.Stopped UseAfterFree) old.cells.items
    → (t' position' : ℕ) (ty' : Ty) → Makes code old new (by_instr code (Some (KeepPart t' position' begins ty' depth base at)) s.operands (here_of place s))
keep_none code old new place s t position begins ty depth base at b top g t' position' ty' =
    let h = here_of place s in
    subst (λ (m : Move). Makes code old new m) (sym (taking_none (λ z others. by_begin_copy begins (offset_of code t' position') z (keeping (depth - 3) z others) h) s.operands h top))
    (gone_makes code old new s.control s.operands s.world b.inside.holds g)
