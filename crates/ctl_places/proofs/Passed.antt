-- The actuals of a call become the first slots of a body: their cells stand where the slots begin, and formals stand for the objects.
use Rattle.std.proofs.Common.{◌≡◌, ℕ, zero, suc, ◌+◌, ◌-◌, ◌<◌, ◌≤◌, List, [], ◌∷◌, ◌++◌, Some, Bool, true, false, length, refl, sym, ap, ◌∙◌, subst, arith, map, reverse, drop, take, replicate}
use Rattle.std.specs.Prelude.{slice_get, slice_set, nat_eq, if◌then◌else◌}
use Rattle.std.proofs.lemmas.List.{length-append, length-drop, length-reverse, append-nil, append_assoc, reverse-append, map-append, length-replicate, drop-replicate}
use Rattle.std.proofs.lemmas.Bool.Decides.{nat_tests}
use Rattle.ctl_program.specs.declared.types.Ty.{Ty}
use Rattle.ctl_program.specs.declared.types.Ty.TheVariants.{Integer, Count, Boolean, Address, Handle, Access, Record}
use Rattle.ctl_meaning.specs.World as W
use Rattle.ctl_meaning.specs.World.{Content, Slot, unset}
use Rattle.ctl_meaning.specs.Finalization.{Spot}
use Rattle.ctl_meaning.specs.Lists.{opened_lists}
use Rattle.ctl_meaning.specs.Names.{opened_names}
use Rattle.ctl_code.specs.declared.code.Code.{Code}
use Rattle.ctl_code.specs.declared.code.Entry.{Entry}
use Rattle.ctl_code.specs.Fits.{IsOperandOf, Stands}
use Rattle.ctl_code.specs.States as T
use Rattle.ctl_code.specs.States.{Word, Scalar, Located, Cells, cells_of, worth}
use Rattle.ctl_frames.specs.Masters.{Head}
use Rattle.ctl_engine.specs.Shows.{Sized}
use Rattle.ctl_code.specs.declared.kinds.Kind.{Kind}
use Rattle.ctl_code.specs.declared.kinds.Kind.TheVariants.{Operand, RecordValue, Block, Body, Default}
use Rattle.ctl_code.specs.Table.{formal_of, slots_of}
use Rattle.ctl_code.specs.Table as Table
use Rattle.ctl_code.specs.Valid.{HaveOperands}
use Rattle.ctl_frames.specs.Holders.{binding, bound_in, formal_in}
use Rattle.ctl_engine.specs.Moves.{cleared}
use Rattle.ctl_places.specs.Passing.{AreActuals, StandIn, is_located, is_part, is_part_at, is_part_if, cell_passed, passed, bound, formal_if, formal_with}
use Rattle.ctl_engine.specs.RecordValues.{is_value_as}
use Rattle.ctl_frames.specs.Spots.{located, value_spot}
use Rattle.ctl_frames.specs.declared.frame.Formal.{Formal}
use Rattle.ctl_frames.specs.Under.{cell_in}
use Rattle.ctl_engine.proofs.Cleared.{cleared_is, unset_cells}
use Rattle.ctl_engine.proofs.Held.{content_in, get_other, unset_contents}
use Rattle.ctl_places.proofs.TopValues.{both, not_both}
use Rattle.ctl_frames.proofs.Lists.{eq_differs, eq_same, get_right, length_set, same_at, set_right}
use Rattle.ctl_frames.proofs.Words.{length_cells, same_front}

-- One slot more -------------------------------------------------------------------------------------------

eq_next : (a b : ℕ) → nat_eq (suc a) (suc b) ≡ nat_eq a b
eq_next a b = by (nat_eq a b) refl
  where
    by : (c : Bool) → nat_eq a b ≡ c → nat_eq (suc a) (suc b) ≡ nat_eq a b
    by true e = let same : a ≡ b = grind (arith, nat_tests, e) in eq_same (suc a) (suc b) (omega (arith, same)) ∙ sym e
    by false e = eq_differs (suc a) (suc b) (λ same. let is : a ≡ b = omega (arith, same) in grind (arith, nat_tests, e, is)) ∙ sym e

content_more : (xs : List Slot) (y : Slot) (slot : ℕ) → content_in (xs ++ y ∷ []) slot ≡ (if nat_eq (length xs) slot then y.content else content_in xs slot)
unfolding opened_lists
content_more [] y zero = refl
content_more [] y (suc slot) = sym (ap (λ b. if b then y.content else W.Nothing) (eq_differs 0 (suc slot) (λ e. omega (arith, e))))
content_more (x ∷ xs) y zero = sym (ap (λ b. if b then y.content else x.content) (eq_differs (suc (length xs)) 0 (λ e. omega (arith, e))))
content_more (x ∷ xs) y (suc slot) = content_more xs y slot ∙ ap (λ b. if b then y.content else content_in xs slot) (sym (eq_next (length xs) slot))

content_same : (xs : List Slot) (y : Slot) (slot : ℕ) → y.content ≡ W.Nothing → content_in (xs ++ y ∷ []) slot ≡ content_in xs slot
unfolding opened_lists
content_same [] y zero e = e
content_same [] y (suc slot) e = refl
content_same (x ∷ xs) y zero e = refl
content_same (x ∷ xs) y (suc slot) e = content_same xs y slot e

-- the slots behind them hold nothing
content_padded : (xs : List Slot) (n slot : ℕ) → content_in (xs ++ replicate n unset) slot ≡ content_in xs slot
unfolding opened_lists
content_padded [] n slot = unset_contents n slot
content_padded (x ∷ xs) n zero = refl
content_padded (x ∷ xs) n (suc slot) = content_padded xs n slot

pub length_map : (xs : List Slot) → length (map cell_in xs) ≡ length xs
length_map [] = refl
length_map (z ∷ xs) = ap (λ j. suc j) (length_map xs)

-- the formals of the first slots say nothing of later ones
none_bound : (n : ℕ) (ops : List Word) (slot : ℕ) (c : Content) → n ≤ slot → bound_in (bound n ops) slot c ≡ c
none_bound zero ops slot c less = refl
none_bound (suc n) [] slot c less = refl
none_bound (suc n) (Scalar x ∷ ops) slot c less = none_bound n ops slot c (omega (arith, less))
none_bound (suc n) (Located s ∷ ops) slot c less =
    ap (λ b. bound_in (bound n ops) slot (if b then binding s else c)) (eq_differs n slot (λ e. omega (arith, e, less)))
    ∙ none_bound n ops slot c (omega (arith, less))
none_bound (suc n) (Cells v ∷ ops) slot c less =
    ap (λ b. bound_in (bound n ops) slot (if b then W.Copies v else c)) (eq_differs n slot (λ e. omega (arith, e, less)))
    ∙ none_bound n ops slot c (omega (arith, less))

-- All of them -------------------------------------------------------------------------------------------

-- so many actuals stand behind these cells, and others behind them
pub record ArePassed (n : ℕ) (u : List ℕ) (ops : List Word) (rest : List ℕ) (base : ℕ) (row : List ℕ) : Type 0 where
  pub cells : passed n ops base row ≡ ((u ++ reverse (cells_of (drop n ops))) ++ map cell_in (Table.formals_of n ops)) ++ rest
  pub contents : (slot : ℕ) → content_in (Table.formals_of n ops) slot ≡ formal_in (bound n ops) slot
  pub many : length (Table.formals_of n ops) ≡ n

with_next : (u row rest : List ℕ) (x : ℕ) → (u ++ reverse (x ∷ row)) ++ rest ≡ (u ++ reverse row) ++ (x ∷ rest)
with_next u row rest x =
    ap (λ l. (u ++ l) ++ rest) (reverse-append (x ∷ []) row)
    ∙ (ap (λ (l : List ℕ). l ++ rest) (sym (append_assoc u (reverse row) (x ∷ [])))
    ∙ append_assoc (u ++ reverse row) (x ∷ []) rest)

next_cell : (x : Word) (front rest row : List ℕ) (at : ℕ) → at ≡ length front + 0 → row ≡ front ++ worth x ∷ rest → cell_passed x at row ≡ front ++ cell_in (formal_of x) ∷ rest
unfolding opened_lists opened_names
next_cell (Scalar n) front rest row at long is = is
next_cell (Located s) front rest row at long is = ap (λ l. slice_set l at 0) is ∙ set_right front (s.object ∷ rest) 0 at 0 long
next_cell (Cells v) front rest row at long is = ap (λ l. slice_set l at 0) is ∙ set_right front (1 ∷ rest) 0 at 0 long

held_content : (c : W.Content) (y : Slot) (n : ℕ) (xs : List Slot) (ops : List Word) (slot : ℕ) → y.content ≡ c → length xs ≡ n → content_in xs slot ≡ formal_in (bound n ops) slot → content_in (xs ++ y ∷ []) slot ≡ bound_in (bound n ops) slot (if nat_eq n slot then c else W.Nothing)
unfolding opened_lists opened_names
held_content c y n xs ops slot holds many h =
    content_more xs y slot
    ∙ (ap (λ z. if nat_eq (length xs) slot then z else content_in xs slot) holds
    ∙ (ap (λ j. if nat_eq j slot then c else content_in xs slot) many
    ∙ by (nat_eq n slot) refl))
  where
    by : (b : Bool) → nat_eq n slot ≡ b → (if nat_eq n slot then c else content_in xs slot) ≡ bound_in (bound n ops) slot (if nat_eq n slot then c else W.Nothing)
    by true e =
        let same : n ≡ slot = grind (arith, nat_tests, e) in
        ap (λ b. if b then c else content_in xs slot) e
        ∙ (sym (none_bound n ops slot c (omega (arith, same)))
        ∙ ap (λ b. bound_in (bound n ops) slot (if b then c else W.Nothing)) (sym e))
    by false e =
        ap (λ b. if b then c else content_in xs slot) e
        ∙ (h ∙ ap (λ b. bound_in (bound n ops) slot (if b then c else W.Nothing)) (sym e))

next_content : (x : Word) (n : ℕ) (xs : List Slot) (ops : List Word) (slot : ℕ) → length xs ≡ n → content_in xs slot ≡ formal_in (bound n ops) slot → content_in (xs ++ formal_of x ∷ []) slot ≡ formal_in (formal_if x n ++ bound n ops) slot
unfolding opened_lists opened_names
next_content (Scalar v) n xs ops slot many h = content_same xs (formal_of (Scalar v)) slot refl ∙ h
next_content (Located s) n xs ops slot many h = held_content (binding s) (formal_of (Located s)) n xs ops slot refl many h
next_content (Cells v) n xs ops slot many h = held_content (W.Copies v) (formal_of (Cells v)) n xs ops slot refl many h

pub are_passed : (n : ℕ) (u : List ℕ) (ops : List Word) (rest : List ℕ) (base : ℕ) (row : List ℕ) → n ≤ length ops → base ≡ length (u ++ reverse (cells_of (drop n ops))) → row ≡ (u ++ reverse (cells_of ops)) ++ rest → ArePassed n u ops rest base row
unfolding opened_lists
are_passed zero u ops rest base row enough e is = record { cells = is ∙ ap (λ (l : List ℕ). l ++ rest) (sym (append-nil (u ++ reverse (cells_of ops)))); contents = λ slot. refl; many = refl }
are_passed (suc n) u [] rest base row enough e is = absurd (omega (arith, enough))
are_passed (suc n) u (x ∷ ops) rest base row enough e is =
    let y = formal_of x in
    let fs = Table.formals_of n ops in
    let a : List ℕ = u ++ reverse (cells_of (drop n ops)) in
    let all : List ℕ = u ++ reverse (cells_of ops) in
    let below = length-append u (reverse (cells_of (drop n ops))) in
    let above = length-append u (reverse (cells_of ops)) in
    let turned : length (reverse (cells_of (drop n ops))) ≡ length (drop n ops) = length-reverse (cells_of (drop n ops)) ∙ length_cells (drop n ops) in
    let turned' : length (reverse (cells_of ops)) ≡ length ops = length-reverse (cells_of ops) ∙ length_cells ops in
    let fewer : length (drop n ops) ≡ length ops - n = length-drop n ops in
    let long : base + n ≡ length all + 0 = omega (arith, e, below, above, turned, turned', fewer, enough) in
    let next = next_cell x all rest row (base + n) long (is ∙ with_next u (cells_of ops) rest (worth x)) in
    let ih = are_passed n u ops (cell_in y ∷ rest) base (cell_passed x (base + n) row) (omega (arith, enough)) e next in
    let many = ih.many in
    record {
      cells = ih.cells
          ∙ (sym (append_assoc (a ++ map cell_in fs) (cell_in y ∷ []) rest)
          ∙ (ap (λ (l : List ℕ). l ++ rest) (append_assoc a (map cell_in fs) (cell_in y ∷ []))
          ∙ ap (λ (l : List ℕ). (a ++ l) ++ rest) (sym (map-append cell_in fs (y ∷ [])))));
      contents = λ slot. next_content x n fs ops slot many (ih.contents slot);
      many = length-append fs (y ∷ []) ∙ omega (arith, many);
    }

-- What stands below them -----------------------------------------------------------------------------------

pub record Below (code : Code) (n : ℕ) (stack : List Kind) (k : List T.Frame) (ops : List Word) (hs : List Head) : Type 0 where
  pub enough : n ≤ length ops
  pub stands : Stands code (drop n stack) k (drop n ops)
  pub sized : Sized code (drop n stack) k hs

pub below_actuals : (code : Code) (n : ℕ) (stack : List Kind) (k : List T.Frame) (ops : List Word) (hs : List Head) → HaveOperands n stack → Stands code stack k ops → Sized code stack k hs → Below code n stack k ops hs
below_actuals code zero stack k ops hs h stands sized = record { enough = omega arith; stands = stands; sized = sized }
below_actuals code (suc n) [] k ops hs h stands sized = absurd h
below_actuals code (suc n) (RecordValue ∷ stack) k ops hs h stands sized = absurd h
below_actuals code (suc n) (Block slots ∷ stack) k ops hs h stands sized = absurd h
below_actuals code (suc n) (Body level slots number ∷ stack) k ops hs h stands sized = absurd h
below_actuals code (suc n) (Default level number ∷ stack) k ops hs h stands sized = absurd h
below_actuals code (suc n) (Operand ty ∷ stack) k [] hs h stands sized = absurd stands
below_actuals code (suc n) (Operand ty ∷ stack) k (x ∷ ops) hs h stands sized =
    let b = below_actuals code n stack k ops hs h stands.1 sized in
    let enough = b.enough in
    record { enough = omega (arith, enough); stands = b.stands; sized = b.sized }

-- and they are of these kinds
pub are_actuals : (code : Code) (n : ℕ) (stack : List Kind) (k : List T.Frame) (ops : List Word) → HaveOperands n stack → Stands code stack k ops → AreActuals n stack ops
are_actuals code zero stack k ops h stands = tt
are_actuals code (suc n) [] k ops h stands = absurd h
are_actuals code (suc n) (RecordValue ∷ stack) k ops h stands = absurd h
are_actuals code (suc n) (Block slots ∷ stack) k ops h stands = absurd h
are_actuals code (suc n) (Body level slots number ∷ stack) k ops h stands = absurd h
are_actuals code (suc n) (Default level number ∷ stack) k ops h stands = absurd h
are_actuals code (suc n) (Operand ty ∷ stack) k [] h stands = absurd stands
are_actuals code (suc n) (Operand ty ∷ stack) k (x ∷ ops) h stands = (stands.0, are_actuals code n stack k ops h stands.1)

-- One actual after another ------------------------------------------------------------------------------

kind_is : (ty : Ty) (x : Word) → IsOperandOf ty x → is_part (Operand ty) ≡ is_located x
kind_is (Record t) (Scalar n) h = absurd h
kind_is (Record t) (Located s) h = refl
kind_is Integer (Scalar n) h = refl
kind_is Count (Scalar n) h = refl
kind_is Boolean (Scalar n) h = refl
kind_is Address (Scalar n) h = refl
kind_is Handle (Scalar n) h = refl
kind_is (Access a) (Scalar n) h = refl
kind_is Integer (Located s) h = absurd h
kind_is Count (Located s) h = absurd h
kind_is Boolean (Located s) h = absurd h
kind_is Address (Located s) h = absurd h
kind_is Handle (Located s) h = absurd h
kind_is (Access a) (Located s) h = absurd h
kind_is (Record t) (Cells v) h = refl
kind_is Integer (Cells v) h = absurd h
kind_is Count (Cells v) h = absurd h
kind_is Boolean (Cells v) h = absurd h
kind_is Address (Cells v) h = absurd h
kind_is Handle (Cells v) h = absurd h
kind_is (Access a) (Cells v) h = absurd h

dropped_next : {X : Type 0} (xs : List X) (i : ℕ) (x : X) (ys : List X) → drop i xs ≡ x ∷ ys → (slice_get xs i ≡ Some x) × (drop (suc i) xs ≡ ys)
dropped_next [] zero x ys e = absurd (cc)
dropped_next [] (suc i) x ys e = absurd (cc)
dropped_next (z ∷ xs) zero x ys e = (cc, cc)
dropped_next (z ∷ xs) (suc i) x ys e = dropped_next xs i x ys e

-- the actual that is passed next, of so many that are left
pub record IsNext (m i : ℕ) (stack : List Kind) (ops : List Word) : Type 0 where
  pub word : Word
  pub rest : List Word
  pub are : drop i ops ≡ word ∷ rest
  pub next : drop (suc i) ops ≡ rest
  pub is : is_part_at stack i ≡ is_located word
  pub actuals : AreActuals m (drop (suc i) stack) (drop (suc i) ops)

pub is_next : (m i : ℕ) (stack : List Kind) (ops : List Word) → AreActuals (suc m) (drop i stack) (drop i ops) → IsNext m i stack ops
is_next m i stack ops h = by (drop i stack) (drop i ops) refl refl h
  where
    by : (kinds : List Kind) (words : List Word) → drop i stack ≡ kinds → drop i ops ≡ words → AreActuals (suc m) kinds words → IsNext m i stack ops
    by (Operand ty ∷ kinds) (x ∷ words) e f g =
        let k = dropped_next stack i (Operand ty) kinds e in
        let w = dropped_next ops i x words f in
        record {
          word = x;
          rest = words;
          are = f;
          next = w.1;
          is = ap (λ o. is_part_if o) k.0 ∙ kind_is ty x g.0;
          actuals = subst (λ (l : List Kind). AreActuals m l (drop (suc i) ops)) (sym k.1) (subst (λ (l : List Word). AreActuals m kinds l) (sym w.1) g.1);
        }
    by _ _ e f g = elim g [ ]

-- the newest part among operands
pub located_more : (x : Word) (ops : List Word) → located (x ∷ ops) ≡ located ops ++ located (x ∷ [])
located_more (Scalar n) ops = sym (append-nil (located ops))
located_more (Located s) ops = refl
located_more (Cells v) ops = refl

pub located_parted : (n : ℕ) (ops : List Word) → located ops ≡ located (drop n ops) ++ located (take n ops)
located_parted zero ops = sym (append-nil (located ops))
located_parted (suc n) [] = refl
located_parted (suc n) (x ∷ ops) =
    located_more x ops
    ∙ (ap (λ (l : List Spot). l ++ located (x ∷ [])) (located_parted n ops)
    ∙ (append_assoc (located (drop n ops)) (located (take n ops)) (located (x ∷ []))
    ∙ ap (λ (l : List Spot). located (drop n ops) ++ l) (sym (located_more x (take n ops)))))

-- where no part stands, no actual is one
pub record ArePlain (n : ℕ) (ops : List Word) : Type 0 where
  pub cells : (base : ℕ) (row : List ℕ) → passed n ops base row ≡ row
  pub formals : bound n ops ≡ []

none_behind : (xs : List Spot) (s : Spot) → xs ++ s ∷ [] ≡ [] → ⊥
none_behind xs s e =
    let long = ap (λ (l : List Spot). length l) e in
    let both = length-append xs (s ∷ []) in
    omega (arith, long, both)

plain_actuals : (n : ℕ) (ops : List Word) → located (take n ops) ≡ [] → ArePlain n ops
plain_actuals zero ops e = record { cells = λ base row. refl; formals = refl }
plain_actuals (suc n) [] e = record { cells = λ base row. refl; formals = refl }
plain_actuals (suc n) (Scalar x ∷ ops) e = let p = plain_actuals n ops e in record { cells = λ base row. p.cells base row; formals = p.formals }
plain_actuals (suc n) (Located s ∷ ops) e = absurd (none_behind (located (take n ops)) s e)
plain_actuals (suc n) (Cells v ∷ ops) e = absurd (none_behind (located (take n ops)) (value_spot v) e)

pub nothing_is : (spots : List Spot) → length spots ≡ 0 → spots ≡ []
nothing_is [] e = refl
nothing_is (s ∷ spots) e = absurd (omega (arith, e))

pub record NonePassed (n : ℕ) (ops : List Word) (below : List Spot) : Type 0 where
  pub none : below ≡ []
  pub plain : ArePlain n ops

pub none_passed : (n : ℕ) (ops : List Word) (below : List Spot) → [] ≡ below ++ located (take n ops) → NonePassed n ops below
none_passed n ops [] e = record { none = refl; plain = plain_actuals n ops (sym e) }
none_passed n ops (s ∷ below) e = absurd (cc)

pub some_located : (x : Word) → is_located x ≡ true → length (located (x ∷ [])) ≡ 1
some_located (Scalar n) e = absurd (cc)
some_located (Located s) e = refl
some_located (Cells v) e = refl

-- the actual that is passed next is the newest part, if it is one
pub next_spots : (m i : ℕ) (stack : List Kind) (ops : List Word) (below spots : List Spot) (x : IsNext m i stack ops) → spots ≡ below ++ located (take (suc m) (drop i ops)) → spots ≡ (below ++ located (take m (drop (suc i) ops))) ++ located (x.word ∷ [])
next_spots m i stack ops below spots x e =
    e
    ∙ (ap (λ (l : List Word). below ++ located (take (suc m) l)) x.are
    ∙ (ap (λ (l : List Spot). below ++ l) (located_more x.word (take m x.rest))
    ∙ (sym (append_assoc below (located (take m x.rest)) (located (x.word ∷ [])))
    ∙ ap (λ (l : List Word). (below ++ located (take m l)) ++ located (x.word ∷ [])) (sym x.next))))

-- One actual is passed -----------------------------------------------------------------------------------

-- a part, or the value of a record
pub record IsPassed (x : Word) (below left : List Spot) (s : Spot) (row : List ℕ) (cell at slot : ℕ) : Type 0 where
  pub cells : slice_set row at 0 ≡ cell_passed x at row
  pub spots : left ≡ below
  pub formal : formal_with slot s (is_value_as s cell) ∷ [] ≡ formal_if x slot

pub part_passed : (x : Word) (below all spots : List Spot) (s : Spot) (cells : List ℕ) (at cell slot : ℕ) → is_located x ≡ true → all ≡ spots ++ s ∷ [] → all ≡ below ++ located (x ∷ []) → slice_get cells at ≡ Some cell → slice_get cells at ≡ Some (worth x)
    → IsPassed x below spots s cells cell at slot
part_passed (Scalar n) below all spots s cells at cell slot is are stand read here = absurd (cc)
part_passed (Located y) below all spots s cells at cell slot is are stand read here =
    let same = same_front spots below s y (sym are ∙ stand) in
    let told = same_at cell y.object (slice_get cells at) read here in
    record {
      cells = refl;
      spots = same.0;
      formal = ap (λ b. formal_with slot s b ∷ []) (ap (λ (z : Spot). is_value_as z cell) same.1 ∙ (ap (λ n. is_value_as y n) told ∙ not_both y.object)) ∙ ap (λ (z : Spot). formal_with slot z false ∷ []) same.1;
    }
part_passed (Cells v) below all spots s cells at cell slot is are stand read here =
    let same = same_front spots below s (value_spot v) (sym are ∙ stand) in
    let told = same_at cell 1 (slice_get cells at) read here in
    record {
      cells = refl;
      spots = same.0;
      formal = ap (λ b. formal_with slot s b ∷ []) (ap (λ (z : Spot). is_value_as z cell) same.1 ∙ (ap (λ n. is_value_as (value_spot v) n) told ∙ both)) ∙ ap (λ (z : Spot). formal_with slot z true ∷ []) same.1;
    }

-- any other stays as it is
pub no_part_passed : (x : Word) (below all : List Spot) (cells : List ℕ) (at slot : ℕ) (formals : List Formal) → is_located x ≡ false → all ≡ below ++ located (x ∷ []) → (cells ≡ cell_passed x at cells) × (all ≡ below) × (formals ≡ formals ++ formal_if x slot)
no_part_passed (Scalar n) below all cells at slot formals is stand = (refl, stand ∙ append-nil below, sym (append-nil formals))
no_part_passed (Located s) below all cells at slot formals is stand = absurd (cc)
no_part_passed (Cells v) below all cells at slot formals is stand = absurd (cc)

-- Where their cells stand --------------------------------------------------------------------------------

-- the newest one
pub stand_here : (m : ℕ) (x : Word) (rest : List Word) (base : ℕ) (cells : List ℕ) → StandIn (suc m) (x ∷ rest) base cells → slice_get cells (base + m) ≡ Some (worth x)
stand_here m x rest base cells h =
    let same : base + m ≡ base + (suc m - 1 - 0) = omega arith in
    ap (λ n. slice_get cells n) same ∙ h 0 x (omega arith) refl

-- and those below it, when it is passed
other_cell : (x : Word) (at other : ℕ) (cells : List ℕ) → (at ≡ other → ⊥) → slice_get (cell_passed x at cells) other ≡ slice_get cells other
other_cell (Scalar n) at other cells differs = refl
other_cell (Located s) at other cells differs = get_other cells at other 0 differs
other_cell (Cells v) at other cells differs = get_other cells at other 0 differs

pub stand_next : (m : ℕ) (x : Word) (rest : List Word) (base : ℕ) (cells : List ℕ) → StandIn (suc m) (x ∷ rest) base cells → StandIn m rest base (cell_passed x (base + m) cells)
stand_next m x rest base cells h = λ i y less found.
    let same : base + (m - 1 - i) ≡ base + (suc m - 1 - suc i) = omega (arith, less) in
    other_cell x (base + m) (base + (m - 1 - i)) cells (λ e. omega (arith, less, e))
    ∙ (ap (λ n. slice_get cells n) same ∙ h (suc i) y (omega (arith, less)) found)

-- those of the newest operands stand in the newest window
pub stands_in : (n : ℕ) (u : List ℕ) (ops : List Word) (rest : List ℕ) (base : ℕ) (row : List ℕ) → n ≤ length ops → base ≡ length (u ++ reverse (cells_of (drop n ops))) → row ≡ (u ++ reverse (cells_of ops)) ++ rest → StandIn n ops base row
stands_in zero u ops rest base row enough e is = λ i x less found. absurd (omega (arith, less))
stands_in (suc n) u [] rest base row enough e is = absurd (omega (arith, enough))
stands_in (suc n) u (y ∷ ops) rest base row enough e is = by (stands_in n u ops (worth y ∷ rest) base row (omega (arith, enough)) e (is ∙ with_next u (cells_of ops) rest (worth y)))
  where
    all : List ℕ
    all = u ++ reverse (cells_of ops)

    front : row ≡ all ++ worth y ∷ rest
    front = is ∙ with_next u (cells_of ops) rest (worth y)

    long : base + n ≡ length all + 0
    long =
        let below = length-append u (reverse (cells_of (drop n ops))) in
        let above = length-append u (reverse (cells_of ops)) in
        let turned : length (reverse (cells_of (drop n ops))) ≡ length (drop n ops) = length-reverse (cells_of (drop n ops)) ∙ length_cells (drop n ops) in
        let turned' : length (reverse (cells_of ops)) ≡ length ops = length-reverse (cells_of ops) ∙ length_cells ops in
        let fewer : length (drop n ops) ≡ length ops - n = length-drop n ops in
        omega (arith, e, below, above, turned, turned', fewer, enough)

    here : slice_get row (base + n) ≡ Some (worth y)
    here = ap (λ (l : List ℕ). slice_get l (base + n)) front ∙ get_right all (worth y ∷ rest) 0 (base + n) long

    by : StandIn n ops base row → (i : ℕ) (x : Word) → i < suc n → slice_get (y ∷ ops) i ≡ Some x → slice_get row (base + (suc n - 1 - i)) ≡ Some (worth x)
    by below zero x less found =
        let same : base + (suc n - 1 - 0) ≡ base + n = omega arith in
        let is_it : y ≡ x = same_at y x (Some y) refl found in
        ap (λ j. slice_get row j) same ∙ (here ∙ ap (λ (z : Word). Some (worth z)) is_it)
    by below (suc i) x less found =
        let same : base + (suc n - 1 - suc i) ≡ base + (n - 1 - i) = omega (arith, less) in
        ap (λ j. slice_get row j) same ∙ below i x (omega (arith, less)) found

-- The other slots ----------------------------------------------------------------------------------------

pub length_cell : (x : Word) (at : ℕ) (cells : List ℕ) → length (cell_passed x at cells) ≡ length cells
length_cell (Scalar n) at cells = refl
length_cell (Located s) at cells = length_set cells at 0
length_cell (Cells v) at cells = length_set cells at 0

pub length_passed : (n : ℕ) (ops : List Word) (base : ℕ) (cells : List ℕ) → length (passed n ops base cells) ≡ length cells
length_passed zero ops base cells = refl
length_passed (suc n) [] base cells = refl
length_passed (suc n) (x ∷ ops) base cells = length_passed n ops base (cell_passed x (base + n) cells) ∙ length_cell x (base + n) cells

-- the slots of a body with so many actuals
slots_are : (actuals : List Slot) (entry : Entry) → slots_of actuals entry ≡ actuals ++ replicate (entry.slots - length actuals) unset
slots_are actuals entry = ap (λ (l : List Slot). actuals ++ l) (drop-replicate (length actuals) entry.slots unset)

pub slots_many : (actuals : List Slot) (entry : Entry) → length actuals ≤ entry.slots → length (slots_of actuals entry) ≡ entry.slots
slots_many actuals entry less =
    let both = ap (λ (l : List Slot). length l) (slots_are actuals entry) ∙ length-append actuals (replicate (entry.slots - length actuals) unset) in
    let rest : length (replicate (entry.slots - length actuals) unset) ≡ entry.slots - length actuals = length-replicate (entry.slots - length actuals) unset in
    omega (arith, less, both, rest)

pub slots_contents : (actuals : List Slot) (entry : Entry) (slot : ℕ) → content_in (slots_of actuals entry) slot ≡ content_in actuals slot
slots_contents actuals entry slot = ap (λ (l : List Slot). content_in l slot) (slots_are actuals entry) ∙ content_padded actuals (entry.slots - length actuals) slot

-- their cells, where those behind the actuals are cleared
pub slots_cells : (actuals : List Slot) (entry : Entry) (count base : ℕ) (below rest row : List ℕ) → length actuals ≡ count → base + count ≡ length (below ++ map cell_in actuals) → row ≡ (below ++ map cell_in actuals) ++ rest → base + entry.slots ≤ length row → count ≤ entry.slots
    → (more : List ℕ) × (cleared (base + count) (entry.slots - count) row ≡ (below ++ map cell_in (slots_of actuals entry)) ++ more)
slots_cells actuals entry count base below rest row many long is within less =
    let front : List ℕ = below ++ map cell_in actuals in
    let made = cleared_is front rest (base + count) (entry.slots - count) long (subst (λ (l : List ℕ). base + count + (entry.slots - count) ≤ length l) is (omega (arith, within, less))) in
    let pad = replicate (entry.slots - count) unset in
    let cells : map cell_in (slots_of actuals entry) ≡ map cell_in actuals ++ replicate (entry.slots - count) 0 =
    ap (λ (l : List Slot). map cell_in l) (slots_are actuals entry)
    ∙ (ap (λ j. map cell_in (actuals ++ replicate (entry.slots - j) unset)) many
    ∙ (map-append cell_in actuals pad
    ∙ ap (λ (l : List ℕ). map cell_in actuals ++ l) (unset_cells (entry.slots - count)))) in (
      made.0,
      ap (λ (l : List ℕ). cleared (base + count) (entry.slots - count) l) is
          ∙ (made.1
          ∙ (ap (λ (l : List ℕ). l ++ made.0) (append_assoc below (map cell_in actuals) (replicate (entry.slots - count) 0))
          ∙ ap (λ (l : List ℕ). (below ++ l) ++ made.0) (sym cells))),
    )
