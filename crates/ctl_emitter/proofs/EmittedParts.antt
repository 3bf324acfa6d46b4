-- What the emitter makes of parts of objects, and of what takes them, is their layout (4.1, 4.1.3, 5.2).
use Rattle.std.proofs.Common.{◌≡◌, ℕ, ◌-◌, ◌<◌, ◌≤◌, List, [], ◌∷◌, ◌++◌, length, take, drop, length-drop, Option, Some, None, false, refl, sym, ap, ◌∙◌, arith, append-nil, append_assoc, subst}
use Rattle.std.proofs.lemmas.List.{take_all}
use Rattle.ctl_program.specs.declared.types.Ty.{Ty}
use Rattle.ctl_program.specs.declared.types.Ty.TheVariants.{Record}
use Rattle.ctl_program.specs.declared.types.Var.{Var}
use Rattle.ctl_program.specs.declared.expression.Step.{Step}
use Rattle.ctl_program.specs.declared.expression.Step.TheVariants.{Component, Dereference, Narrow}
use Rattle.ctl_code.specs.declared.code.Cell.{Cell}
use Rattle.ctl_code.specs.declared.code.Instr.{Instr}
use Rattle.ctl_code.specs.declared.code.Instr.TheVariants as InstrOf
use Rattle.ctl_code.specs.declared.code.PoolDiscriminant.{PoolDiscriminant}
use Rattle.ctl_code.specs.declared.kinds.Kind.{Kind}
use Rattle.ctl_code.specs.declared.kinds.Kind.TheVariants.{Operand, RecordValue}
use Rattle.ctl_code.specs.Kinds.{below_newest}
use Rattle.ctl_code.specs.Valid.{over_numbers}
use Rattle.ctl_code.specs.Windows.{height}
use Rattle.ctl_layout.specs.declared.right.Reached as C
use Rattle.ctl_layout.specs.declared.right.Reached.TheVariants as ReachedOf
use Rattle.ctl_layout.specs.declared.right.Denoted as D
use Rattle.ctl_layout.specs.declared.right.Denoted.TheVariants as DenotedOf
use Rattle.ctl_layout.specs.Around.{Line}
use Rattle.ctl_layout.specs.Parts.{Start, OfVariable, OfValue, OfRecord, Reached, Variable, Part, Object, Result, access_value, any_type, begun_code, behind_code, component_code, first_code, first_type, is_dereferenced, located_code, part_code, rest_code, rest_component, rest_taken, seen, selected, selects_code, whole_code}
use Rattle.ctl_program.specs.Library.{block_pool}
use Rattle.ctl_layout.specs.Values.{ValueCode, address_numbers, begun_by, denoted, discriminant_code, given, given_by, held, moved_to, new_copy, value_code, value_type, by_reference}
use Rattle.ctl_layout.specs.Layout.{assign, assign_record, call_nothing, copy, copy_of, dropped_code, record_code, return_record, store_part_code, stored_part, take_over_code}
use Rattle.ctl_emitter.specs.Emitted.{Emitted, appended, holding, lined, one, standing, stated, taking}
use Rattle.ctl_emitter.proofs.Emission.{lined_both, nothing, standing_is}
use Rattle.ctl_emitter.proofs.EmittedValues.{operand_taken, over_operand}
use Rattle.ctl_emitter.proofs.Walked.{start_of}

-- an instruction over a part of this record type
abbrev over_part : ℕ → Instr → List Kind → List Line
over_part t i s = (i, Operand (Record t) ∷ s) ∷ []

-- Steps -------------------------------------------------------------------------------------------

-- all steps from a place on
pub steps_from : (steps : List Step) (i : ℕ) → take (length steps - i) (drop i steps) ≡ drop i steps
steps_from steps i = let long = length-drop i steps in take_all (length steps - i) (drop i steps) (omega (arith, long))

pub next_selector : (u position t : ℕ) (steps : List Step) (i : Instr) (e0 e1 : Emitted) → i ≡ selected u position steps t e0.notes.standing → e1 ≡ lined (λ s. (i, Operand (Record u) ∷ s) ∷ []) e0 → lined (selects_code steps t) e1 ≡ lined (selects_code (Component u position ∷ steps) t) e0
next_selector u position t steps i e0 e1 same a =
    lined_both (λ s. (selected u position steps t s, Operand (Record u) ∷ s) ∷ []) (selects_code steps t) e0 e1 (lined (selects_code steps t) e1) (a ∙ ap (λ j. lined (over_part u j) e0) same) refl

pub next_dereference : (t : ℕ) (steps : List Step) (i : Instr) (e0 e1 e2 : Emitted) → i ≡ InstrOf.Dereference (first_type steps t) (height e0.notes.standing) → e1 ≡ lined (λ s. (i, Operand access_value ∷ s) ∷ []) e0 → e2 ≡ lined (whole_code steps) e1 → lined (selects_code steps t) e2 ≡ lined (selects_code (Dereference ∷ steps) t) e0
next_dereference t steps i e0 e1 e2 same a b =
    lined_both (λ s. (InstrOf.Dereference (first_type steps t) (height s), Operand access_value ∷ s) ∷ []) (λ s. whole_code steps s ++ selects_code steps t s) e0 e1 (lined (selects_code steps t) e2) (a ∙ ap (λ j. lined (λ s. (j, Operand access_value ∷ s) ∷ []) e0) same)
    (lined_both (whole_code steps) (selects_code steps t) e1 e2 (lined (selects_code steps t) e2) b refl)

pub no_step : (t : ℕ) (e : Emitted) → e ≡ lined (selects_code [] t) e
no_step t e = nothing e

-- nothing is taken where no dereference follows
pub none_whole : (steps : List Step) (e : Emitted) → is_dereferenced steps ≡ false → e ≡ lined (whole_code steps) e
none_whole [] e h = nothing e
none_whole (Component u position ∷ steps) e h = nothing e
none_whole (Narrow u ∷ steps) e h = nothing e
none_whole (Dereference ∷ steps) e h = absurd (cc h)

-- Parts -------------------------------------------------------------------------------------------

-- steps behind what finds the object in a variable, or reads its value
pub start_behind : (b : Start) (steps : List Step) (t : ℕ) (e0 e1 e2 : Emitted) → e1 ≡ lined (first_code b steps t) e0 → e2 ≡ lined (selects_code steps t) e1 → e2 ≡ lined (behind_code b steps t) e0
start_behind b steps t e0 e1 e2 a c = lined_both (first_code b steps t) (selects_code steps t) e0 e1 e2 a c

-- lines behind a value, and others behind these
beside : (code rest last : List Kind → List Line) (e0 e1 e2 : Emitted) → e1 ≡ lined code e0 → e2 ≡ lined (λ s. rest s ++ last s) e1 → e2 ≡ lined (λ s. (code s ++ rest s) ++ last s) e0
beside code rest last e0 e1 e2 a c =
    let s = e0.notes.standing in
    lined_both code (λ r. rest r ++ last r) e0 e1 e2 a c ∙ ap (λ xs. appended xs [] s e0) (sym (append_assoc (code s) (rest s) (last s)))

-- behind the value that a name begins with, if it begins with one
pub part_located : (b : Start) (steps : List Step) (t : ℕ) (e0 e1 e2 : Emitted) → e1 ≡ lined (begun_code b) e0 → e2 ≡ lined (behind_code b steps t) e1 → e2 ≡ lined (located_code b steps t) e0
part_located (OfVariable v) steps t e0 e1 e2 a c = lined_both (begun_code (OfVariable v)) (behind_code (OfVariable v) steps t) e0 e1 e2 a c
part_located (OfValue runs code) steps t e0 e1 e2 a c = lined_both code (behind_code (OfValue runs code) steps t) e0 e1 e2 a c
part_located (OfRecord u runs code) steps t e0 e1 e2 a c = lined_both code (behind_code (OfRecord u runs code) steps t) e0 e1 e2 a c

-- the last selector of a name
pub part_selected : (b : Start) (steps : List Step) (u position t : ℕ) (e0 e1 e2 : Emitted) → e1 ≡ lined (behind_code b steps u) e0 → e2 ≡ lined (λ s. (InstrOf.Select u position t, Operand (Record u) ∷ s) ∷ []) e1 → e2 ≡ lined (rest_code (Part b steps u position) t) e0
part_selected b steps u position t e0 e1 e2 a c = lined_both (behind_code b steps u) (over_part u (InstrOf.Select u position t)) e0 e1 e2 a c

-- a part, with what its name begins with
pub part_begun : (x : Reached) (t : ℕ) (e0 e1 e2 : Emitted) → e1 ≡ lined (begun_code (start_of x)) e0 → e2 ≡ lined (rest_code x t) e1 → e2 ≡ lined (part_code x t) e0
part_begun (Variable v) t e0 e1 e2 a c = part_located (OfVariable v) [] t e0 e1 e2 a c
part_begun (Object b steps) t e0 e1 e2 a c = part_located b steps t e0 e1 e2 a c
part_begun (Result b) t e0 e1 e2 a c = part_located b [] t e0 e1 e2 a c
part_begun (Part (OfVariable v) steps u position) t e0 e1 e2 a c = lined_both (begun_code (OfVariable v)) (rest_code (Part (OfVariable v) steps u position) t) e0 e1 e2 a c
part_begun (Part (OfValue runs code) steps u position) t e0 e1 e2 a c = beside code (selects_code steps u) (over_part u (InstrOf.Select u position t)) e0 e1 e2 a c
part_begun (Part (OfRecord v runs code) steps u position) t e0 e1 e2 a c = beside code (selects_code steps u) (over_part u (InstrOf.Select u position t)) e0 e1 e2 a c

-- a value that a name begins with is no variable
abbrev IsGiven : Start → Type 0
IsGiven (OfVariable v) = ⊥
IsGiven b = Unit {0}

is_given : (x : ValueCode) → IsGiven (given x)
is_given x = by x.reached
  where
    by : (o : Option Reached) → IsGiven (given_by o x)
    by None = tt
    by (Some (Variable v)) = tt
    by (Some (Part b steps u position)) = tt
    by (Some (Object b steps)) = tt
    by (Some (Result (OfVariable v))) = tt
    by (Some (Result (OfValue runs code))) = tt
    by (Some (Result (OfRecord u runs code))) = tt

-- nothing finds it
pub value_first : (x : ValueCode) (steps : List Step) (t : ℕ) (e : Emitted) → e ≡ lined (first_code (given x) steps t) e
value_first x steps t e = by (given x) (is_given x)
  where
    by : (b : Start) → IsGiven b → e ≡ lined (first_code b steps t) e
    by (OfVariable v) is = absurd is
    by (OfValue runs code) is = nothing e
    by (OfRecord u runs code) is = nothing e

-- the value of a component is taken behind its steps, whatever they are
pub value_component : (x : ValueCode) (steps : List Step) (t position : ℕ) (ty : Ty) (to : Cell) (e : Emitted) → lined (rest_taken (given x) steps t position ty to) e ≡ lined (rest_component (given x) steps t position ty to) e
value_component x steps t position ty to e = by (given x) (is_given x)
  where
    by : (b : Start) → IsGiven b → lined (rest_taken b steps t position ty to) e ≡ lined (rest_component b steps t position ty to) e
    by (OfVariable v) is = absurd is
    by (OfValue runs code) is = refl
    by (OfRecord u runs code) is = refl

-- alone, it is what the name denotes
pub value_located : (x : ValueCode) (t : ℕ) (s : List Kind) → begun_code (given x) s ≡ part_code (Result (given x)) t s
value_located x t s = by (given x) (is_given x)
  where
    by : (b : Start) → IsGiven b → begun_code b s ≡ part_code (Result b) t s
    by (OfVariable v) is = absurd is
    by (OfValue runs code) is = sym (append-nil (code s))
    by (OfRecord u runs code) is = sym (append-nil (code s))

pub value_emitted_alone : (x : ValueCode) (t : ℕ) (e0 e1 : Emitted) → e1 ≡ lined (begun_code (given x)) e0 → e1 ≡ lined (part_code (Result (given x)) t) e0
value_emitted_alone x t e0 e1 a = let s = e0.notes.standing in a ∙ ap (λ lines. appended lines [] s e0) (value_located x t s)

-- what is denoted is something
pub is_denoted : (x : D.Denoted) → (y : Reached) × (denoted (Some x) ≡ Some y)
is_denoted (DenotedOf.Named name (ReachedOf.Variable v)) = (Variable v, refl)
is_denoted (DenotedOf.Named name (ReachedOf.Part steps t position)) = (Part (begun_by name.now) steps.now t position, refl)
is_denoted (DenotedOf.Named name (ReachedOf.Object steps)) = (Object (begun_by name.now) steps.now, refl)
is_denoted (DenotedOf.Called call) = (Result (given (value_code call.now)), refl)

-- the value of a component of a part
pub component_taken : (b : Start) (steps : List Step) (t position : ℕ) (ty : Ty) (to : Cell) (e0 e1 e2 : Emitted) → e1 ≡ lined (behind_code b steps t) e0 → e2 ≡ lined (λ s. (InstrOf.TakePart t position ty to, Operand (Record t) ∷ s) ∷ []) e1 → e2 ≡ lined (rest_taken b steps t position ty to) e0
component_taken b steps t position ty to e0 e1 e2 a c = lined_both (behind_code b steps t) (over_part t (InstrOf.TakePart t position ty to)) e0 e1 e2 a c

-- one of the object in a variable
pub component_fetched : (v : Var) (steps : List Step) (t position : ℕ) (ty : Ty) (to : Cell) (e0 e1 : Emitted) → length steps < 1 → e1 ≡ lined (λ s. (InstrOf.FetchPart v t position ty to, s) ∷ []) e0 → e1 ≡ lined (rest_component (OfVariable v) steps t position ty to) e0
component_fetched v [] t position ty to e0 e1 few a = a
component_fetched v (step ∷ steps) t position ty to e0 e1 few a = absurd (omega (arith, few))

-- one behind some steps from a variable
pub component_behind : (v : Var) (steps : List Step) (t position : ℕ) (ty : Ty) (to : Cell) (e0 e1 : Emitted) → 1 ≤ length steps → e1 ≡ lined (rest_taken (OfVariable v) steps t position ty to) e0 → e1 ≡ lined (rest_component (OfVariable v) steps t position ty to) e0
component_behind v [] t position ty to e0 e1 some a = absurd (omega (arith, some))
component_behind v (step ∷ steps) t position ty to e0 e1 some a = a

-- behind the value that a name begins with, if it begins with one
pub component_begun : (b : Start) (steps : List Step) (t position : ℕ) (ty : Ty) (to : Cell) (e0 e1 e2 : Emitted) → e1 ≡ lined (begun_code b) e0 → e2 ≡ lined (rest_component b steps t position ty to) e1 → e2 ≡ lined (component_code b steps t position ty to) e0
component_begun (OfVariable v) [] t position ty to e0 e1 e2 a c = lined_both (begun_code (OfVariable v)) (rest_component (OfVariable v) [] t position ty to) e0 e1 e2 a c
component_begun (OfVariable v) (step ∷ steps) t position ty to e0 e1 e2 a c = lined_both (begun_code (OfVariable v)) (rest_component (OfVariable v) (step ∷ steps) t position ty to) e0 e1 e2 a c
component_begun (OfValue runs code) steps t position ty to e0 e1 e2 a c = beside code (selects_code steps t) (over_part t (InstrOf.TakePart t position ty to)) e0 e1 e2 a c
component_begun (OfRecord u runs code) steps t position ty to e0 e1 e2 a c = beside code (selects_code steps t) (over_part t (InstrOf.TakePart t position ty to)) e0 e1 e2 a c

-- Assignments -------------------------------------------------------------------------------------

-- a value over the part, and what gives it to the component
pub part_stored : (x : ValueCode) (t position : ℕ) (ty : Ty) (cell : Cell) (e0 e1 e2 e3 e4 : Emitted) → ty ≡ value_type x → e1 ≡ standing (Operand (Record t) ∷ e0.notes.standing) e0 → e2 ≡ holding (held x ty) e1 → cell ≡ (held x ty e1.notes.standing).cell → e3 ≡ taking (InstrOf.StorePart cell ty t position) cell e2 → e4 ≡ standing (below_newest e3.notes.standing) e3 → e4 ≡ lined (store_part_code t position x) e0
part_stored x t position ty cell e0 e1 e2 e3 e4 same a b at c d =
    let s1 = e1.notes.standing in
    over_operand (λ s. stored_part t position (value_type x) (held x (value_type x) s)) (Operand (Record t)) e0 e1 e3 e4 a
    (operand_taken x ty (InstrOf.StorePart cell ty t position) cell e1 e2 e3 b at c
    ∙ ap (λ k. lined (λ s. (held x ty s).code ++ (InstrOf.StorePart k ty t position, (held x ty s).after) ∷ []) e1) at
    ∙ ap (λ u. lined (λ s. (held x u s).code ++ (InstrOf.StorePart (held x u s1).cell u t position, (held x u s).after) ∷ []) e1) same) d

-- behind what finds the part
pub part_assigned : (b : Start) (steps : List Step) (t position : ℕ) (x : ValueCode) (e0 e1 e2 : Emitted) → e1 ≡ lined (located_code b steps t) e0 → e2 ≡ lined (store_part_code t position x) e1 → e2 ≡ stated (assign (Some (Part b steps t position)) x) None e0
part_assigned b steps t position x e0 e1 e2 a c = lined_both (located_code b steps t) (store_part_code t position x) e0 e1 e2 a c

-- a new object takes the value of a part, or of a function (3.3.1)
copy_declared : (x : Reached) (slot t : ℕ) (e0 e1 e2 : Emitted) → e1 ≡ lined (part_code x t) e0 → e2 ≡ lined (over_part t (InstrOf.DeclareCopy slot t)) e1 → e2 ≡ lined (copy_of slot t x) e0
copy_declared x slot t e0 e1 e2 a b = lined_both (part_code x t) (over_part t (InstrOf.DeclareCopy slot t)) e0 e1 e2 a b

copied_emitted : (o : Option Reached) (x : Reached) → o ≡ Some x → (slot t : ℕ) (e0 e1 e2 : Emitted) → e1 ≡ lined ((by_reference o (Record t)).code 0) e0 → e2 ≡ lined (λ s. (InstrOf.DeclareCopy slot t, Operand (Record t) ∷ s) ∷ []) e1 → e2 ≡ lined (copy slot t o).code e0
copied_emitted o x is slot t e0 e1 e2 = subst (λ p. e1 ≡ lined ((by_reference p (Record t)).code 0) e0 → e2 ≡ lined (λ s. (InstrOf.DeclareCopy slot t, Operand (Record t) ∷ s) ∷ []) e1 → e2 ≡ lined (copy slot t p).code e0) (sym is) (copy_declared x slot t e0 e1 e2)

pub copy_emitted : (x : D.Denoted) (slot t : ℕ) (e0 e1 e2 : Emitted) → e1 ≡ lined ((by_reference (denoted (Some x)) (Record t)).code 0) e0 → e2 ≡ lined (λ s. (InstrOf.DeclareCopy slot t, Operand (Record t) ∷ s) ∷ []) e1 → e2 ≡ lined (copy slot t (denoted (Some x))).code e0
copy_emitted x = let is = is_denoted x in copied_emitted (denoted (Some x)) is.0 is.1

-- a return statement gives one (6.5)
record_given_back : (x : Reached) (t : ℕ) (e0 e1 e2 : Emitted) → e1 ≡ lined (part_code x t) e0 → e2 ≡ lined (over_part t (InstrOf.ReturnRecord t)) e1 → e2 ≡ stated (return_record t (Some x)) None e0
record_given_back x t e0 e1 e2 a b = lined_both (part_code x t) (over_part t (InstrOf.ReturnRecord t)) e0 e1 e2 a b

pub record_returned : (x : D.Denoted) (t : ℕ) (e0 e1 e2 : Emitted) → e1 ≡ lined ((by_reference (denoted (Some x)) (Record t)).code 0) e0 → e2 ≡ lined (λ s. (InstrOf.ReturnRecord t, Operand (Record t) ∷ s) ∷ []) e1 → e2 ≡ stated (return_record t (denoted (Some x))) None e0
record_returned x t e0 e1 e2 =
    let is = is_denoted x in
    subst (λ p. e1 ≡ lined ((by_reference p (Record t)).code 0) e0 → e2 ≡ lined (λ s. (InstrOf.ReturnRecord t, Operand (Record t) ∷ s) ∷ []) e1 → e2 ≡ stated (return_record t p) None e0) (sym is.1) (record_given_back is.0 t e0 e1 e2)

taken_over : (target source : Reached) (t : ℕ) (e0 e1 e2 e3 e4 e5 : Emitted) → e1 ≡ lined (part_code target t) e0 → e2 ≡ standing (Operand (Record t) ∷ e1.notes.standing) e1 → e3 ≡ lined (part_code source t) e2 → e4 ≡ lined (over_part t (InstrOf.Assign t)) e3 → e5 ≡ standing (below_newest e4.notes.standing) e4 → e5 ≡ lined (record_code target t source) e0
taken_over target source t e0 e1 e2 e3 e4 e5 a b c d e =
    lined_both (part_code target t) (λ s. take_over_code t source (Operand (Record t) ∷ s)) e0 e1 e5 a
    (over_operand (take_over_code t source) (Operand (Record t)) e1 e2 e4 e5 b (lined_both (part_code source t) (over_part t (InstrOf.Assign t)) e2 e3 e4 c d) e)

-- one part takes the value of another
pub overwritten : (target source : D.Denoted) (t : ℕ) (e0 e1 e2 e3 e4 e5 : Emitted) → e1 ≡ lined ((by_reference (denoted (Some target)) (Record t)).code 0) e0 → e2 ≡ standing (Operand (Record t) ∷ e1.notes.standing) e1 → e3 ≡ lined ((by_reference (denoted (Some source)) (Record t)).code 0) e2 → e4 ≡ lined (λ s. (InstrOf.Assign t, Operand (Record t) ∷ s) ∷ []) e3 → e5 ≡ standing (below_newest e4.notes.standing) e4 → e5 ≡ stated (assign_record (denoted (Some target)) t (denoted (Some source))) None e0
overwritten target source t e0 e1 e2 e3 e4 e5 a b c d e =
    let x = is_denoted target in
    let y = is_denoted source in
    let first : e1 ≡ lined (part_code x.0 t) e0 = a ∙ ap (λ o. lined ((by_reference o (Record t)).code 0) e0) x.1 in
    let second : e3 ≡ lined (part_code y.0 t) e2 = c ∙ ap (λ o. lined ((by_reference o (Record t)).code 0) e2) y.1 in
    taken_over x.0 y.0 t e0 e1 e2 e3 e4 e5 first b second d e
    ∙ ap (λ o. stated (assign_record o t (Some y.0)) None e0) (sym x.1)
    ∙ ap (λ o. stated (assign_record (denoted (Some target)) t o) None e0) (sym y.1)

-- it is the same wherever control lands
pub record_anywhere : (o : Option Reached) (t : ℕ) (q : Option Reached) (landing : Option ℕ) (e0 e1 : Emitted) → e1 ≡ stated (assign_record o t q) None e0 → e1 ≡ stated (assign_record o t q) landing e0
record_anywhere None t q landing e0 e1 a = a
record_anywhere (Some o) t None landing e0 e1 a = a
record_anywhere (Some o) t (Some x) landing e0 e1 a = a

-- The library's Initialize, Adjust and Finalize (7.6) ---------------------------------------------

part_dropped : (x : Reached) (e0 e1 e2 : Emitted) → e1 ≡ lined (part_code x any_type) e0 → e2 ≡ lined (over_part any_type (InstrOf.DropPart any_type)) e1 → e2 ≡ lined (dropped_code x) e0
part_dropped x e0 e1 e2 a b = lined_both (part_code x any_type) (over_part any_type (InstrOf.DropPart any_type)) e0 e1 e2 a b

-- what a name denotes is found and dropped
pub nothing_called : (x : D.Denoted) (e0 e1 e2 : Emitted) → e1 ≡ lined ((by_reference (denoted (Some x)) (Record any_type)).code 0) e0 → e2 ≡ lined (λ s. (InstrOf.DropPart any_type, Operand (Record any_type) ∷ s) ∷ []) e1 → e2 ≡ stated (call_nothing (denoted (Some x))) None e0
nothing_called x e0 e1 e2 a b =
    let is = is_denoted x in
    part_dropped is.0 e0 e1 e2 (a ∙ ap (λ o. lined ((by_reference o (Record any_type)).code 0) e0) is.1) b
    ∙ ap (λ o. stated (call_nothing o) None e0) (sym is.1)

-- it is the same wherever control lands
pub nothing_anywhere : (o : Option Reached) (landing : Option ℕ) (e0 e1 : Emitted) → e1 ≡ stated (call_nothing o) None e0 → e1 ≡ stated (call_nothing o) landing e0
nothing_anywhere None landing e0 e1 a = a
nothing_anywhere (Some x) landing e0 e1 a = a

-- Discriminants (3.7, 13.11) -------------------------------------------------------------------------

discriminant_taken : (x : Reached) (which : PoolDiscriminant) (to : Cell) (e0 e1 e2 : Emitted) → e1 ≡ lined (part_code x block_pool) e0 → e2 ≡ lined (over_part block_pool (InstrOf.TakeDiscriminant block_pool which to)) e1 → e2 ≡ lined (discriminant_code (Some x) which to) e0
discriminant_taken x which to e0 e1 e2 a c = lined_both (part_code x block_pool) (over_part block_pool (InstrOf.TakeDiscriminant block_pool which to)) e0 e1 e2 a c

-- the pool is found first
pub discriminant_emitted : (b : Start) (x : C.Reached) (which : PoolDiscriminant) (to : Cell) (e0 e1 e2 : Emitted) → e1 ≡ lined ((by_reference (seen b (Some x)) (Record block_pool)).code 0) e0 → e2 ≡ lined (λ s. (InstrOf.TakeDiscriminant block_pool which to, Operand (Record block_pool) ∷ s) ∷ []) e1 → e2 ≡ lined (discriminant_code (seen b (Some x)) which to) e0
discriminant_emitted b (ReachedOf.Variable v) which to = discriminant_taken (Variable v) which to
discriminant_emitted b (ReachedOf.Part steps u position) which to = discriminant_taken (Part b steps.now u position) which to
discriminant_emitted b (ReachedOf.Object steps) which to = discriminant_taken (Object b steps.now) which to

-- Allocators (4.8) ----------------------------------------------------------------------------------

-- an instruction over the value of a record and what an Allocate left
abbrev over_value : Instr → List Kind → List Line
over_value i s = (i, over_numbers address_numbers (RecordValue ∷ s)) ∷ []

-- one whose value is that of a part or of a function, behind an instruction that does nothing
copy_allocated : (x : Reached) (access t at : ℕ) (to : Cell) (ty : Ty) (e0 e1 e2 e3 e4 e5 : Emitted) → at ≡ height e0.notes.standing → e1 ≡ lined (one (InstrOf.Skip 0)) e0 → e2 ≡ lined (part_code x t) e1 → e3 ≡ lined (over_part t (InstrOf.NewCopy access t ty at)) e2 → e4 ≡ lined (over_value (InstrOf.NewCopyIn t ty at)) e3 → e5 ≡ lined (moved_to to ty) e4 → e5 ≡ lined ((new_copy access t (Some x)).code to ty) e0
copy_allocated x access t at to ty e0 e1 e2 e3 e4 e5 here a b c v d =
    let first = one (InstrOf.Skip 0) in
    let last = λ (n : ℕ) (r : List Kind). over_part t (InstrOf.NewCopy access t ty n) r ++ over_value (InstrOf.NewCopyIn t ty n) r in
    let found = λ (r : List Kind). part_code x t r ++ last (height r) r in
    let s = e0.notes.standing in
    let s1 = e1.notes.standing in
    let below : at ≡ height e2.notes.standing = here ∙ ap height (sym (standing_is (first s) [] s e0 e1 a)) ∙ ap height (sym (standing_is (part_code x t s1) [] s1 e1 e2 b)) in
    let both : e4 ≡ lined (last at) e2 = lined_both (over_part t (InstrOf.NewCopy access t ty at)) (over_value (InstrOf.NewCopyIn t ty at)) e2 e3 e4 c v in
    lined_both first (λ r. found r ++ moved_to to ty r) e0 e1 e5 a
    (lined_both found (moved_to to ty) e1 e4 e5
    (lined_both (part_code x t) (λ r. last (height r) r) e1 e2 e4 b (both ∙ ap (λ n. lined (last n) e2) below)) d)

pub copy_allocated_emitted : (o : Option Reached) (x : Reached) → o ≡ Some x → (access t at : ℕ) (to : Cell) (ty : Ty) (e0 e1 e2 e3 e4 e5 : Emitted) → at ≡ height e0.notes.standing → e1 ≡ lined (one (InstrOf.Skip 0)) e0 → e2 ≡ lined ((by_reference o (Record t)).code 0) e1 → e3 ≡ lined (λ s. (InstrOf.NewCopy access t ty at, Operand (Record t) ∷ s) ∷ []) e2 → e4 ≡ lined (λ s. (InstrOf.NewCopyIn t ty at, over_numbers address_numbers (RecordValue ∷ s)) ∷ []) e3 → e5 ≡ lined (moved_to to ty) e4 → e5 ≡ lined ((new_copy access t o).code to ty) e0
copy_allocated_emitted o x is access t at to ty e0 e1 e2 e3 e4 e5 here a b c v d =
    copy_allocated x access t at to ty e0 e1 e2 e3 e4 e5 here a (b ∙ ap (λ p. lined ((by_reference p (Record t)).code 0) e1) is) c v d
    ∙ ap (λ p. lined ((new_copy access t p).code to ty) e0) (sym is)
