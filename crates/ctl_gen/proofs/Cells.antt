-- Where values stand on the machine: an operand, or the cell of a variable.
use Rattle.std.proofs.Common.{◌≡◌, ℕ, ◌+◌, ◌-◌, ◌<◌, ◌≤◌, List, [], ◌∷◌, length, reverse, Some, Bool, true, false, refl, sym, ap, ◌∙◌, arith, subst}
use Rattle.std.specs.Prelude.{slice_get, nat_lt, if◌then◌else◌, get_or}
use Rattle.std.proofs.lemmas.Option.{slice_get-get_or, slice_get_past}
use Rattle.std.proofs.lemmas.List.{get_or-reverse, length-reverse}
use Rattle.std.proofs.lemmas.Bool.{ltb-true, ltb-false}
use Rattle.ctl_program.specs.declared.types.Var.{Var}
use Rattle.ctl_meaning.specs.World.{Log, World}
use Rattle.ctl_meaning.specs.Lists.{item_or, opened_lists}
use Rattle.ctl_meaning.specs.Objects.{first_cells}
use Rattle.ctl_meaning.specs.Activations.{master_of}
use Rattle.ctl_meaning.specs.Outcome.{Way, Result, Goes, Leaves}
use Rattle.ctl_meaning.specs.Choice.{Ask, picked}
use Rattle.ctl_meaning.specs.Changes.{slot_at}
use Rattle.ctl_meaning.specs.Names.{scalar_of}
use Rattle.ctl_code.specs.declared.code.Named.{Named}
use Rattle.ctl_code.specs.declared.code.Named.TheVariants.{Operand, Variable}
use Rattle.ctl_code.specs.declared.code.Instr.{Instr}
use Rattle.ctl_code.specs.declared.code.Code.{Code}
use Rattle.ctl_code.specs.declared.kinds.Kind.{Kind}
use Rattle.ctl_code.specs.States as S
use Rattle.ctl_code.specs.States.{Word, Scalar, Cells, Frame, State}
use Rattle.ctl_code.specs.Table.{Here, cell_at, with_cell, out_of, taking, put, by_instr}
use Rattle.ctl_code.specs.Steps.{moved, step}
use Rattle.ctl_code.specs.Windows.{depth}
use Rattle.ctl_layout.specs.Around.{out_to}
use Rattle.ctl_gen.proofs.Follow.{IsRaise, at, transferred}

abbrev pub here : List ℕ → ℕ → List Frame → World → Here
here d place k w = record { display = d; place = place; control = k; world = w }

-- one instruction
pub by_code : (ask : Ask) (code : Code) (d : List ℕ) (place : ℕ) (k : List Frame) (ops : List Word) (l : Log) (w : World) (i : Instr) → slice_get code.instructions.items place ≡ Some i → step ask code (at d place k ops l w) ≡ moved l (by_instr code (Some i) ops (here d place k w))
unfolding picked
by_code ask code d place k ops l w i h = ap (λ o. moved l (by_instr code o ops (here d place k w))) h

-- Values where they are wanted ----------------------------------------------------------------------

-- where an evaluation leads: behind it, where the value stands in this cell, or out of the statement
abbrev pub landed : Named → List ℕ → ℕ → List Frame → List Word → Result (List ℕ) → Log → World → State
landed Operand d place ks ops (Goes u) l w = at d place ks (Scalar (scalar_of u) ∷ ops) l w
landed Operand d place ks ops (Leaves y) l w = transferred y ks l w
landed (Variable out slot) d place ks ops (Goes u) l w = at d place ks ops l (with_cell d out slot (scalar_of u) w)
landed (Variable out slot) d place ks ops (Leaves y) l w = transferred y ks l w

pub landed_leaves : (to : Named) (d : List ℕ) (place : ℕ) (ks : List Frame) (ops : List Word) (y : Way) (l : Log) (w : World) → transferred y ks l w ≡ landed to d place ks ops (Leaves y) l w
landed_leaves Operand d place ks ops y l w = refl
landed_leaves (Variable out slot) d place ks ops y l w = refl

pub put_is : (to : Named) (n : ℕ) (d : List ℕ) (place : ℕ) (ks : List Frame) (ops : List Word) (l : Log) (w : World) → moved l (put to n ops (here d place ks w)) ≡ landed to d (place + 1) ks ops (Goes (n ∷ [])) l w
unfolding scalar_of opened_lists
put_is Operand n d place ks ops l w = refl
put_is (Variable out slot) n d place ks ops l w = refl

-- the newest operand goes there
pub put_there : (to : Named) (u : List ℕ) (d : List ℕ) (place : ℕ) (ks : List Frame) (ops : List Word) (l : Log) (w : World) → moved l (put to (scalar_of u) ops (here d place ks w)) ≡ landed to d (place + 1) ks ops (Goes u) l w
put_there Operand u d place ks ops l w = refl
put_there (Variable out slot) u d place ks ops l w = refl

-- Values that wait for an operator ------------------------------------------------------------------

-- the operands with a value that waits in this cell: a variable is none of them
abbrev pub waiting : Named → ℕ → List Word → List Word
waiting Operand n ops = Scalar n ∷ ops
waiting (Variable out slot) n ops = ops

-- what must be true of the world that it is that value
abbrev pub Stays : Named → ℕ → List ℕ → World → Type 0
Stays Operand n d w = Unit {0}
Stays (Variable out slot) n d w = cell_at d out slot w ≡ n

abbrev pub held_in : Named → List ℕ → ℕ → List Frame → List Word → Result (List ℕ) → Log → World → State
held_in x d place ks ops (Goes u) l w = at d place ks (waiting x (scalar_of u) ops) l w
held_in x d place ks ops (Leaves y) l w = transferred y ks l w

pub taking_is : (x : Named) (n : ℕ) (f : ℕ → List Word → S.Move) (ops : List Word) (d : List ℕ) (place : ℕ) (ks : List Frame) (w : World) → Stays x n d w → taking x f (waiting x n ops) (here d place ks w) ≡ f n ops
taking_is Operand n f ops d place ks w h = refl
taking_is (Variable out slot) n f ops d place ks w h = ap (λ m. f m ops) h

-- Variables -----------------------------------------------------------------------------------------

-- the value of an elementary variable
abbrev pub value_of : List ℕ → Var → World → ℕ
value_of d v w = (slot_at (master_of d v) v.slot w).value

item_at : (xs : List ℕ) (i : ℕ) → i < length xs → item_or 0 (slice_get xs i) ≡ get_or xs i 0
unfolding opened_lists
item_at xs i lt = ap (item_or 0) (slice_get-get_or xs i 0 lt)

item_past : (xs : List ℕ) (i : ℕ) → length xs ≤ i → item_or 0 (slice_get xs i) ≡ 0
unfolding opened_lists
item_past xs i le = ap (item_or 0) (slice_get_past xs i le)

-- the master that a use names is as many masters out as its layout says
pub out_is : (d : List ℕ) (s : List Kind) (v : Var) → length d ≡ depth s → out_of d (out_to s v) ≡ master_of d v
unfolding master_of
out_is d s v long = by (nat_lt (v.level - 1) (depth s)) refl
  where
    by : (b : Bool) → nat_lt (v.level - 1) (depth s) ≡ b → out_of d (if b then depth s - 1 - (v.level - 1) else depth s) ≡ item_or 0 (slice_get d (v.level - 1))
    by true e =
        let lt : v.level - 1 < length d = subst (λ n. v.level - 1 < n) (sym long) (ltb-true (v.level - 1) (depth s) e) in
        let i : length d - 1 - (depth s - 1 - (v.level - 1)) ≡ v.level - 1 = omega (arith, long, lt) in
        item_at (reverse d) (depth s - 1 - (v.level - 1)) (omega (arith, long, lt, length-reverse d))
        ∙ get_or-reverse d (depth s - 1 - (v.level - 1)) 0 (omega (arith, long, lt))
        ∙ ap (λ n. get_or d n 0) i
        ∙ sym (item_at d (v.level - 1) lt)
    by false e =
        let le = ltb-false (v.level - 1) (depth s) e in
        item_past (reverse d) (depth s) (omega (arith, long, length-reverse d)) ∙ sym (item_past d (v.level - 1) (omega (arith, long, le)))

pub cell_is : (d : List ℕ) (s : List Kind) (v : Var) (w : World) → length d ≡ depth s → cell_at d (out_to s v) v.slot w ≡ value_of d v w
cell_is d s v w long = ap (λ m. (slot_at m v.slot w).value) (out_is d s v long)

-- What an act gives ---------------------------------------------------------------------------------

-- one cell, of which something is true in the world that is left, which fits; nothing but an exception leaves an expression
abbrev pub OneCell : (World → Type 0) → (ℕ → World → Type 0) → Result (List ℕ) → World → Type 0
OneCell Fits P (Goes u) w = Fits w × ((n : ℕ) × (u ≡ n ∷ []) × P n w)
OneCell Fits P (Leaves y) w = Fits w × IsRaise y

abbrev pub Any : ℕ → World → Type 0
Any n w = Unit {0}

-- the value of a record of so many cells, in a world that fits
abbrev pub OneRecord : (World → Type 0) → ℕ → Result (List ℕ) → World → Type 0
OneRecord Fits n (Goes u) w = Fits w × (first_cells n u ≡ u)
OneRecord Fits n (Leaves y) w = Fits w × IsRaise y

-- where its evaluation leads: behind it, where the value is a new operand, or out of the statement
abbrev pub landed_record : List ℕ → ℕ → List Frame → List Word → Result (List ℕ) → Log → World → State
landed_record d place ks ops (Goes u) l w = at d place ks (Cells u ∷ ops) l w
landed_record d place ks ops (Leaves y) l w = transferred y ks l w
