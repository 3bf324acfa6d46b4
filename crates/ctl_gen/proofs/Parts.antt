-- Parts of objects (4.1, 4.1.3): what a name denotes, what it means to find that, and the instructions that find it behind a variable. The
-- walk of a name reads values on its way, so that what is said is what follows it: the part is on top, or an exception is under way, or it
-- has stopped.
use Rattle.std.proofs.Common.{◌≡◌, ℕ, zero, suc, ◌+◌, ◌≤◌, List, [], ◌∷◌, ◌++◌, length, drop, Option, Some, None, true, refl, sym, ap, ◌∙◌, subst, arith}
use Rattle.std.specs.Prelude.{slice_get, option_map}
use Rattle.ctl_program.specs.declared.types.Var.{Var}
use Rattle.ctl_program.specs.declared.expression.Name.{Name, roll-Name, out-Name, roll-out-Name}
use Rattle.ctl_program.specs.declared.expression.Actual.{Actual}
use Rattle.ctl_program.specs.declared.expression.Expr.{Expr}
use Rattle.ctl_program.specs.declared.expression.Operand.{Operand}
use Rattle.ctl_program.specs.declared.expression.Actual.TheOpen.{Name-F}
use Rattle.ctl_program.specs.declared.expression.Step.{Step}
use Rattle.ctl_program.specs.declared.expression.Step.TheVariants.{Component, Dereference, Narrow}
use Rattle.ctl_tree.specs.declared.ending.Stop.TheVariants.{UseAfterFree}
use Rattle.ctl_meaning.specs.World.{Object as ObjectOf, Content, Nothing, Holds, Binds, Copies, Gathers, Log, World}
use Rattle.ctl_meaning.specs.Lists.{opened_lists}
use Rattle.ctl_meaning.specs.Objects.{cells_at, first_cells}
use Rattle.ctl_meaning.specs.Activations.{master_of}
use Rattle.ctl_meaning.specs.Changes.{object_at, slot_at}
use Rattle.ctl_meaning.specs.Choice.{Ask}
use Rattle.ctl_meaning.specs.Outcome.{constraint_error, ByRaise, Result, Goes, Leaves, Out, Gives, Stops, Cut, Act, add, bind, on_goes, ◌>>=◌, done, nothing, stop, ticked, on_some, opened_outcome}
use Rattle.ctl_meaning.specs.Types.{Tables, Category, Composite, Elementary, offset_in, placed}
use Rattle.ctl_meaning.specs.Names.{Found, Alone, InObject, found_in, find_var, Tools, gone, existing, must_exist, dereferenced, object_of as object_found_in, read_found, read_part, scalar_of, moved as found_behind, one_step as step_meant, walk, begins_as}
use Rattle.ctl_meaning.specs.Finalization.{Spot}
use Rattle.ctl_meaning.specs.Expressions.{Naming, Valued, eval, eval_name, name_step as name_meaning, var_part}
use Rattle.ctl_meaning.proofs.Trees.{name_roll}
use Rattle.ctl_code.specs.declared.code.Instr.TheVariants as InstrOf
use Rattle.ctl_code.specs.declared.code.Named.TheVariants as NamedOf
use Rattle.ctl_code.specs.declared.code.Code.{Code}
use Rattle.ctl_code.specs.declared.kinds.Kind.{Kind}
use Rattle.ctl_code.specs.States.{Word, Scalar, Located, Cells, Frame, State, object_of, whole_spot}
use Rattle.ctl_code.specs.Steps.{moved, step}
use Rattle.ctl_code.specs.Table.{by_locate, component_in, component_of, designated, fetch_from, fetched, offset_of, word_of}
use Rattle.ctl_code.specs.Windows.{height}
use Rattle.ctl_layout.specs.Around.{local_at, new_operand}
use Rattle.ctl_layout.specs.Parts.{Start, OfVariable, OfValue, OfRecord, Reached, Variable, Part, Object, Result as ResultOf, access_value, any_type, are_followed, are_walked, first_position, first_type, located_code, onward_code, part_runs, parts_run, selectors_run}
use Rattle.ctl_layout.specs.Values.{ValueCode, given, given_by as start_by, reached_by, value_code}
use Rattle.ctl_layout.proofs.TreeLayers.{reached_roll}
use Rattle.ctl_gen.proofs.Known.{both_true}
use Rattle.ctl_emitter.proofs.Walked.{AreSome, IsLed, behind_is, start_of, steps_before, steps_of}
use Rattle.ctl_gen.proofs.Place.{Laid}
use Rattle.ctl_gen.proofs.Setting.{ArePlaced}
use Rattle.ctl_gen.proofs.Entered.{IsAsLong}
use Rattle.ctl_gen.proofs.Cells.{by_code, here, landed, value_of}
use Rattle.ctl_gen.proofs.Expressions.{read_step}
use Rattle.ctl_gen.proofs.Follow.{RunsTo, added_to, at, bind_add, one_step_to, stop_step_to, transferred}

-- What it means to find a part --------------------------------------------------------------------

-- what a variable of this category denotes behind these steps
abbrev pub variable_as : Tools → Category → List Step → Var → List ℕ → Act Found
variable_as K c ss v d = var_part c d v >>= walk K ss

-- and one of a record type, which a variable of an access type may lead to
abbrev pub variable_by : Tools → List Step → Var → List ℕ → Act Found
variable_by K ss v = variable_as K (begins_as ss Composite) ss v

-- what a name begins with: a variable of this category, or the value that this act gives
abbrev pub begin_as : (List ℕ → Act (List ℕ)) → Category → Start → List ℕ → Act Found
begin_as act c (OfVariable v) d = var_part c d v
begin_as act c (OfValue runs lines) d = act d >>= (λ v. done (Alone v))
begin_as act c (OfRecord t runs lines) d = act d >>= (λ v. done (Alone v))

-- what it denotes behind these steps
abbrev pub find_as : Tools → (List ℕ → Act (List ℕ)) → Category → List Step → Start → List ℕ → Act Found
find_as K act c ss b d = begin_as act c b d >>= walk K ss

abbrev pub find_by : Tools → (List ℕ → Act (List ℕ)) → List Step → Start → List ℕ → Act Found
find_by K act ss b = find_as K act (begins_as ss Composite) ss b

-- the value that a name begins with, if it begins with one
abbrev pub given_layer : Name-F Actual Expr Name Operand → Valued
given_layer (Name-F.Variable v ss) = λ k d. done []
given_layer (Name-F.Given e ss) = eval e

abbrev pub given_by : Name → Valued
given_by n = given_layer (out-Name n)

-- a value that a name begins with is found alone
pub begins_value : (x : ValueCode) (act : List ℕ → Act (List ℕ)) (c : Category) → begin_as act c (given x) ≡ (λ d. act d >>= (λ v. done (Alone v)))
begins_value x act c = by x.reached
  where
    by : (o : Option Reached) → begin_as act c (start_by o x) ≡ (λ d. act d >>= (λ v. done (Alone v)))
    by None = refl
    by (Some (Variable v)) = refl
    by (Some (Part b steps t position)) = refl
    by (Some (Object b steps)) = refl
    by (Some (ResultOf (OfVariable v))) = refl
    by (Some (ResultOf (OfValue runs code))) = refl
    by (Some (ResultOf (OfRecord t runs code))) = refl

-- what a name means that reaches this, and begins with the value of this act, if it begins with one
pub record Leads (K : Tools) (x : Reached) (act : List ℕ → Act (List ℕ)) (find : Naming) : Type 0 where
  pub walked : are_followed (start_of x) (steps_before x) ≡ true
  pub led : IsLed x
  pub finds : (c : Category) → find c K ≡ find_as K act (begins_as (steps_of x) c) (steps_of x) (start_of x)

name_rolled : (K : Tools) (y : Name-F Actual Expr Name Operand) (x : Reached) → reached_by (roll-Name y) ≡ Some x → Leads K x (given_layer y K) (eval_name (roll-Name y))
unfolding name_meaning
name_rolled K (Name-F.Variable v ss) x is =
    let act : List ℕ → Act (List ℕ) = λ d. done [] in
    let h = behind_is (OfVariable v) ss x (sym (reached_roll (Name-F.Variable v ss)) ∙ is) in
    record {
      walked = h.walked;
      led = h.led;
      finds = λ c. ap (λ (m : Naming). m c K) (name_roll (Name-F.Variable v ss)) ∙ ap (λ s. find_as K act (begins_as s c) s (OfVariable v)) h.steps ∙ ap (find_as K act (begins_as (steps_of x) c) (steps_of x)) h.start;
    }
name_rolled K (Name-F.Given e ss) x is =
    let b = given (value_code e) in
    let h = behind_is b ss x (sym (reached_roll (Name-F.Given e ss)) ∙ is) in
    let walked : (List ℕ → Act Found) → List ℕ → Act Found = λ f d. f d >>= walk K ss in
    record {
      walked = h.walked;
      led = h.led;
      finds = λ c. ap (λ (m : Naming). m c K) (name_roll (Name-F.Given e ss)) ∙ ap walked (sym (begins_value (value_code e) (eval e K) (begins_as ss c))) ∙ ap (λ s. find_as K (eval e K) (begins_as s c) s b) h.steps ∙ ap (find_as K (eval e K) (begins_as (steps_of x) c) (steps_of x)) h.start;
    }

pub name_leads : (K : Tools) (n : Name) (x : Reached) → reached_by n ≡ Some x → Leads K x (given_by n K) (eval_name n)
name_leads K n x = subst (λ m. reached_by m ≡ Some x → Leads K x (given_by n K) (eval_name m)) (roll-out-Name n) (name_rolled K (out-Name n) x)

-- what is found where it is of a record type
pub composite_leads : (K : Tools) (x : Reached) (act : List ℕ → Act (List ℕ)) (find : Naming) → Leads K x act find → find Composite K ≡ find_by K act (steps_of x) (start_of x)
composite_leads K x act find h = h.finds Composite

-- the variable of a component is the one of the part that has it
begins_part : (steps : List Step) (t position : ℕ) (c : Category) → begins_as (steps ++ Component t position ∷ []) c ≡ begins_as steps Composite
unfolding begins_as
begins_part [] t position c = refl
begins_part (Component u i ∷ steps) t position c = refl
begins_part (Dereference ∷ steps) t position c = refl
begins_part (Narrow u ∷ steps) t position c = refl

pub part_leads : (K : Tools) (b : Start) (steps : List Step) (t position : ℕ) (act : List ℕ → Act (List ℕ)) (find : Naming) (c : Category) → Leads K (Part b steps t position) act find → find c K ≡ find_by K act (steps ++ Component t position ∷ []) b
part_leads K b steps t position act find c h =
    let all = steps ++ Component t position ∷ [] in
    h.finds c ∙ ap (λ q. find_as K act q all b) (begins_part steps t position c ∙ sym (begins_part steps t position Composite))

-- and so it is of an object, to which steps lead
pub object_leads : (K : Tools) (b : Start) (steps : List Step) (act : List ℕ → Act (List ℕ)) (find : Naming) → Leads K (Object b steps) act find → find Elementary K ≡ find_by K act steps b
unfolding begins_as
object_leads K b steps act find h = h.finds Elementary ∙ ap (λ q. find_as K act q steps b) (by steps h.led)
  where
    by : (ss : List Step) → AreSome ss → begins_as ss Elementary ≡ begins_as ss Composite
    by [] some = absurd some
    by (Component u i ∷ ss) some = refl
    by (Dereference ∷ ss) some = refl
    by (Narrow u ∷ ss) some = refl

-- What is found -----------------------------------------------------------------------------------

abbrev pub content_of : List ℕ → Var → World → Content
content_of d v w = (slot_at (master_of d v) v.slot w).content

-- a record as an operand: a part of an object, or a value alone, that of a call or of a copy that a formal holds
pub data RecordOperand : Type 0 where
  OfObject : (spot : Spot) → RecordOperand
  OfCells : (cells : List ℕ) → RecordOperand

-- the operand that it is, and what is found there
abbrev pub word : RecordOperand → Word
word (OfObject s) = Located s
word (OfCells v) = Cells v

abbrev pub found_at : RecordOperand → Found
found_at (OfObject s) = InObject s.object s.offset s.path
found_at (OfCells v) = Alone v

-- a component of it
abbrev pub component_at : RecordOperand → ℕ → ℕ → RecordOperand
component_at (OfObject s) offset position = OfObject (component_of s offset position)
component_at (OfCells v) offset position = OfCells (drop offset v)

-- what a slot holds
abbrev pub held : Content → Option RecordOperand
held (Holds n) = Some (OfObject (record { object = n; offset = 0; path = [] }))
held (Binds n offset path) = Some (OfObject (record { object = n; offset = offset; path = path }))
held (Copies v) = Some (OfCells v)
held _ = None

pub held_word : (x : Content) → word_of x ≡ option_map word (held x)
held_word Nothing = refl
held_word (Holds n) = refl
held_word (Binds n offset path) = refl
held_word (Copies v) = refl
held_word (Gathers n) = refl

pub component_is : (p : RecordOperand) (offset position : ℕ) → found_behind offset position (found_at p) ≡ found_at (component_at p offset position)
unfolding found_behind
component_is (OfObject s) offset position = refl
component_is (OfCells v) offset position = refl

pub component_word : (p : RecordOperand) (offset position : ℕ) → component_in (word p) offset position ≡ word (component_at p offset position)
component_word (OfObject s) offset position = refl
component_word (OfCells v) offset position = refl

-- the number of its object: a value alone is a part of none
pub same_object : (p : RecordOperand) → object_of (word p) ≡ object_found_in (found_at p)
unfolding object_found_in
same_object (OfObject s) = refl
same_object (OfCells v) = refl

-- the first cell of some, 0 where there is none
pub first_is : (v : List ℕ) → first_cells 1 v ≡ scalar_of v ∷ []
unfolding first_cells scalar_of opened_lists
first_is [] = refl
first_is (x ∷ v) = refl

pub first_scalar : (v : List ℕ) → scalar_of (first_cells 1 v) ≡ scalar_of v
unfolding first_cells scalar_of opened_lists
first_scalar [] = refl
first_scalar (x ∷ v) = refl

-- a step from what was found to its component
abbrev pub stepping : Tables → ℕ → ℕ → Found → Act Found
stepping k t position f c l w = Gives (Goes (found_behind (offset_in position (placed k t)) position f)) 1 c l w

-- what follows is the same whatever goes on
bind_same : (o : Out Found) (g h next : Found → Act Found) → ((a : Found) (c : ℕ) (l : Log) (w : World) → g a c l w ≡ bind (h a c l w) (on_goes next)) → bind o (on_goes g) ≡ bind (bind o (on_goes h)) (on_goes next)
unfolding opened_outcome
bind_same (Gives (Goes a) t c l w) g h next same = ap (add t) (same a c l w) ∙ sym (bind_add t (h a c l w) (on_goes next))
bind_same (Gives (Leaves y) t c l w) g h next same = sym (bind_add t (Gives (Leaves y) 0 c l w) (on_goes next))
bind_same (Stops why t l) g h next same = refl
bind_same (Cut t c l) g h next same = refl

-- a selector behind other steps
walks_last : (K : Tools) (steps : List Step) (t position : ℕ) (f : Found) (c : ℕ) (l : Log) (w : World) → walk K (steps ++ Component t position ∷ []) f c l w ≡ bind (walk K steps f c l w) (on_goes (stepping K.tables t position))
unfolding walk step_meant opened_outcome
walks_last K [] t position f c l w = refl
walks_last K (s ∷ steps) t position f c l w = bind_same (ticked (step_meant K s f) c l w) (walk K (steps ++ Component t position ∷ [])) (walk K steps) (stepping K.tables t position) (walks_last K steps t position)

-- the last selector comes behind the others
pub component_found : (K : Tools) (act : List ℕ → Act (List ℕ)) (b : Start) (steps : List Step) (t position : ℕ) (d : List ℕ) (c : ℕ) (l : Log) (w : World) → find_by K act (steps ++ Component t position ∷ []) b d c l w ≡ bind (find_by K act steps b d c l w) (on_goes (stepping K.tables t position))
unfolding opened_outcome
component_found K act b steps t position d c l w =
    ap (λ q. find_as K act q (steps ++ Component t position ∷ []) b d c l w) (begins_part steps t position Composite)
    ∙ bind_same (begin_as act (begins_as steps Composite) b d c l w) (walk K (steps ++ Component t position ∷ [])) (walk K steps) (stepping K.tables t position) (walks_last K steps t position)

-- what is found in a variable of a record type, by its slot
abbrev pub object_found : Option RecordOperand → Act Found
object_found None c l w = Stops UseAfterFree 1 l
object_found (Some p) c l w = Gives (Goes (found_at p)) 1 c l w

found_part : (m i : ℕ) (x : Content) (c : ℕ) (l : Log) (w : World) → add 1 (found_in m i x c l w) ≡ object_found (held x) c l w
unfolding found_in gone opened_outcome
found_part m i Nothing c l w = refl
found_part m i (Holds n) c l w = refl
found_part m i (Binds n offset path) c l w = refl
found_part m i (Copies v) c l w = refl
found_part m i (Gathers n) c l w = refl

-- in one tick
pub var_found : (v : Var) (d : List ℕ) (c : ℕ) (l : Log) (w : World) → var_part Composite d v c l w ≡ object_found (held (content_of d v w)) c l w
unfolding var_part find_var opened_outcome
var_found v d c l w = found_part (master_of d v) v.slot (content_of d v w) c l w

finds_composite : (K : Tools) (v : Var) (steps : List Step) (d : List ℕ) (c : ℕ) (l : Log) (w : World) → variable_as K Composite steps v d c l w ≡ bind (object_found (held (content_of d v w)) c l w) (on_goes (walk K steps))
unfolding opened_outcome
finds_composite K v steps d c l w = ap (λ o. bind o (on_goes (walk K steps))) (var_found v d c l w)

-- the object in a variable
pub finds_object : (K : Tools) (v : Var) (d : List ℕ) (c : ℕ) (l : Log) (w : World) → variable_by K [] v d c l w ≡ object_found (held (content_of d v w)) c l w
unfolding begins_as walk opened_outcome
finds_object K v d c l w = finds_composite K v [] d c l w ∙ by (held (content_of d v w))
  where
    by : (o : Option RecordOperand) → bind (object_found o c l w) (on_goes (walk K [])) ≡ object_found o c l w
    by None = refl
    by (Some p) = refl

-- a variable whose value is dereferenced
reads_variable : (K : Tools) (v : Var) (steps : List Step) (d : List ℕ) (c : ℕ) (l : Log) (w : World) → variable_by K (Dereference ∷ steps) v d c l w ≡ add 1 (bind (add 1 (add 0 (dereferenced (value_of d v w) c l w))) (on_goes (walk K steps)))
unfolding begins_as var_part find_var walk step_meant read_found first_cells scalar_of opened_lists opened_outcome
reads_variable K v steps d c l w = refl

-- a value that is dereferenced
pub dereferences_value : (K : Tools) (n : ℕ) (steps : List Step) (c : ℕ) (l : Log) (w : World) → walk K (Dereference ∷ steps) (Alone (n ∷ [])) c l w ≡ bind (add 1 (add 0 (dereferenced n c l w))) (on_goes (walk K steps))
unfolding walk step_meant read_found first_cells scalar_of opened_lists opened_outcome
dereferences_value K n steps c l w = refl

-- a value that is a new operand
pub on_top : (n : ℕ) (d : List ℕ) (place : ℕ) (ks : List Frame) (ops : List Word) (l : Log) (w : World) → landed NamedOf.Operand d place ks ops (Goes (n ∷ [])) l w ≡ at d place ks (Scalar n ∷ ops) l w
unfolding scalar_of opened_lists
on_top n d place ks ops l w = refl

-- Where components lie ------------------------------------------------------------------------------

module _ (k : Tables) (code : Code) where
  -- the component of each of these selectors lies where the tables say, and the value of each object that is dereferenced in its first cell
  abbrev pub Agree : List Step → Type 0
  Agree [] = Unit {0}
  Agree (Component t position ∷ steps) = (offset_of code t position ≡ offset_in position (placed k t)) × Agree steps
  Agree (Dereference ∷ steps) = (offset_of code any_type first_position ≡ 0) × Agree steps
  Agree (_ ∷ steps) = Agree steps

  -- and so does the one that a name denotes
  abbrev pub AgreePart : Reached → Type 0
  AgreePart (Variable v) = Unit {0}
  AgreePart (Part b steps t position) = Agree steps × (offset_of code t position ≡ offset_in position (placed k t))
  AgreePart (Object b steps) = Agree steps
  AgreePart (ResultOf b) = Unit {0}

  module _ (placed_so : ArePlaced k code) where
    agree_steps : (steps : List Step) → selectors_run k.records steps ≡ true → Agree steps
    agree_steps [] h = tt
    agree_steps (Component u i ∷ steps) h = let g = both_true _ _ h in (placed_so.each u i g.0, agree_steps steps g.1)
    agree_steps (Dereference ∷ steps) h = (placed_so.first any_type, agree_steps steps h)
    agree_steps (Narrow u ∷ steps) h = agree_steps steps h

    -- and so does each component of the type behind them
    pub agree_run : (b : Start) (steps : List Step) (t : ℕ) → parts_run k.records b steps t ≡ true → Agree steps × ((position : ℕ) → offset_of code t position ≡ offset_in position (placed k t))
    agree_run b steps t h = let g = both_true _ _ (both_true _ _ h).1 in (agree_steps steps g.0, λ position. placed_so.each t position g.1)

    pub agree_part : (x : Reached) → part_runs x k.records ≡ true → AgreePart x
    agree_part (Variable v) h = tt
    agree_part (Part b steps t position) h = let g = agree_run b steps t h in (g.0, g.1 position)
    agree_part (Object b steps) h = agree_steps steps (both_true _ _ h).1
    agree_part (ResultOf b) h = tt

-- Instructions ------------------------------------------------------------------------------------

-- a value is dereferenced, which is paid by the tick of its step
paid_first : {A : Type 0} (o : Out Found) (f : Result Found → Act Found) (g : Result Found → Act A) → bind (bind (add 1 (add 0 o)) f) g ≡ add 1 (add 0 (bind (bind o f) g))
paid_first o f g =
    ap (λ z. bind z g) (bind_add 1 (add 0 o) f ∙ ap (add 1) (bind_add 0 o f))
    ∙ bind_add 1 (add 0 (bind o f)) g
    ∙ ap (add 1) (bind_add 0 (bind o f) g)

module _ (ask : Ask) (code : Code) (K : Tools) where
  -- what follows a name, where this is seen, with these operands below the part: it is on top, or it was null that was dereferenced
  module _ {A : Type 0} (Ends : Result A → World → Type 0) (next : Result A → Log → World → State) (g : Result Found → Act A) (d : List ℕ) (ks : List Frame) (ops : List Word) (c : ℕ) (l : Log) (w : World) where
    abbrev pub Puts : ℕ → ℕ → ℕ → Type 0
    Puts b h place = (p : RecordOperand) → RunsTo ask code Ends b h (at d place ks (word p ∷ ops) l w) c next (g (Goes (found_at p)) c l w)

    abbrev pub Raises : ℕ → ℕ → Type 0
    Raises b h = RunsTo ask code Ends b h (transferred (ByRaise constraint_error) ks l w) c next (g (Leaves (ByRaise constraint_error)) c l w)

    abbrev pub Meets : ℕ → ℕ → State → Out Found → Type 0
    Meets b h s o = RunsTo ask code Ends b h s c next (bind o g)

    -- an access value on top, and what follows the object that it designates
    pub designates : (b h n t cell place : ℕ) (f : Found → Act Found) → slice_get code.instructions.items place ≡ Some (InstrOf.Dereference t cell) → ((m : ℕ) → Meets b h (at d (place + 1) ks (Located (whole_spot m) ∷ ops) l w) (f (found_at (OfObject (whole_spot m))) c l w)) → Raises b h → Meets (b + 3) (h + 3) (at d place ks (Scalar n ∷ ops) l w) (bind (dereferenced n c l w) (on_goes f))
    unfolding dereferenced must_exist existing gone opened_outcome
    designates b h zero t cell place f has then raises =
        added_to ask code Ends 0 (b + 3) (h + 3) (b + 3) (h + 3) _ c next _ (omega arith) (omega arith)
        (one_step_to ask code Ends b h (b + 3) (h + 3) _ (transferred (ByRaise constraint_error) ks l w) c c next _ (omega arith) (omega arith) (omega arith) (omega arith) (by_code ask code d place ks (Scalar zero ∷ ops) l w (InstrOf.Dereference t cell) has) raises)
    designates b h (suc n) t cell place f has then raises = by (object_at (suc n) w) (by_code ask code d place ks (Scalar (suc n) ∷ ops) l w (InstrOf.Dereference t cell) has)
      where
        s0 : State
        s0 = at d place ks (Scalar (suc n) ∷ ops) l w

        by : (x : Option ObjectOf) → step ask code (at d place ks (Scalar (suc n) ∷ ops) l w) ≡ moved l (designated (suc n) x ops (here d place ks w)) → Meets (b + 3) (h + 3) (at d place ks (Scalar (suc n) ∷ ops) l w) (bind (bind (on_some x (stop UseAfterFree) (λ o. nothing) c l w) (on_goes (λ _. done (InObject (suc n) 0 [])))) (on_goes f))
        by None first = stop_step_to ask code Ends (b + 3) (h + 3) s0 _ c 0 next UseAfterFree l (omega arith) first refl refl
        by (Some o) first =
            let m = found_at (OfObject (whole_spot (suc n))) in
            subst (RunsTo ask code Ends (b + 3) (h + 3) s0 c next) (sym (bind_add 0 (f m c l w) g))
            (added_to ask code Ends 0 (b + 3) (h + 3) (b + 3) (h + 3) s0 c next (bind (f m c l w) g) (omega arith) (omega arith)
            (one_step_to ask code Ends b h (b + 3) (h + 3) s0 (at d (place + 1) ks (Located (whole_spot (suc n)) ∷ ops) l w) c c next _ (omega arith) (omega arith) (omega arith) (omega arith) first (then (suc n))))

    -- the step that puts an access value on top, and what follows its dereference
    reads_value : (b h n t cell place : ℕ) (s0 : State) (f : Found → Act Found) → step ask code s0 ≡ at d place ks (Scalar n ∷ ops) l w → slice_get code.instructions.items place ≡ Some (InstrOf.Dereference t cell) → ((m : ℕ) → Meets b h (at d (place + 1) ks (Located (whole_spot m) ∷ ops) l w) (f (found_at (OfObject (whole_spot m))) c l w)) → Raises b h → Meets b h s0 (bind (add 1 (add 0 (dereferenced n c l w))) (on_goes f))
    reads_value b h n t cell place s0 f first has then raises =
        subst (RunsTo ask code Ends b h s0 c next) (sym (paid_first (dereferenced n c l w) (on_goes f) g))
        (added_to ask code Ends 1 (b + 4) (h + 4) b h s0 c next _ (omega arith) (omega arith)
        (added_to ask code Ends 0 (b + 4) (h + 4) (b + 4) (h + 4) s0 c next _ (omega arith) (omega arith)
        (one_step_to ask code Ends (b + 3) (h + 3) (b + 4) (h + 4) s0 (at d place ks (Scalar n ∷ ops) l w) c c next _ (omega arith) (omega arith) (omega arith) (omega arith) first (designates b h n t cell place f has then raises))))

    -- where the tick of another step of the name comes before
    reads_access : (b h n t cell place : ℕ) (s0 : State) (f : Found → Act Found) → step ask code s0 ≡ at d place ks (Scalar n ∷ ops) l w → slice_get code.instructions.items place ≡ Some (InstrOf.Dereference t cell) → ((m : ℕ) → Meets b h (at d (place + 1) ks (Located (whole_spot m) ∷ ops) l w) (f (found_at (OfObject (whole_spot m))) c l w)) → Raises b h → Meets b h s0 (add 1 (bind (add 1 (add 0 (dereferenced n c l w))) (on_goes f)))
    reads_access b h n t cell place s0 f first has then raises =
        subst (RunsTo ask code Ends b h s0 c next) (sym (bind_add 1 (bind (add 1 (add 0 (dereferenced n c l w))) (on_goes f)) g))
        (added_to ask code Ends 1 b h b h s0 c next _ (omega arith) (omega arith) (reads_value b h n t cell place s0 f first has then raises))

    -- a component in place of the part that has it
    puts_part : (b h u i part place : ℕ) (p : RecordOperand) (f : Found → Act Found) → offset_of code u i ≡ offset_in i (placed K.tables u) → slice_get code.instructions.items place ≡ Some (InstrOf.Select u i part) → ((q : RecordOperand) → Meets b h (at d (place + 1) ks (word q ∷ ops) l w) (f (found_at q) c l w)) → Meets b h (at d place ks (word p ∷ ops) l w) (add 1 (f (found_behind (offset_in i (placed K.tables u)) i (found_at p)) c l w))
    puts_part b h u i part place p f lies has then =
        let offset = offset_in i (placed K.tables u) in
        let q = component_at p offset i in
        let s0 = at d place ks (word p ∷ ops) l w in
        subst (λ x. RunsTo ask code Ends b h s0 c next (bind (add 1 (f x c l w)) g)) (sym (component_is p offset i))
        (subst (RunsTo ask code Ends b h s0 c next) (sym (bind_add 1 (f (found_at q) c l w) g))
        (added_to ask code Ends 1 (b + 1) (h + 1) b h s0 c next _ (omega arith) (omega arith)
        (one_step_to ask code Ends b h (b + 1) (h + 1) s0 (at d (place + 1) ks (word q ∷ ops) l w) c c next _ (omega arith) (omega arith) (omega arith) (omega arith)
        (by_code ask code d place ks (word p ∷ ops) l w (InstrOf.Select u i part) has
        ∙ ap (λ j. at d (place + 1) ks (component_in (word p) j i ∷ ops) l w) lies
        ∙ ap (λ y. at d (place + 1) ks (y ∷ ops) l w) (component_word p offset i)) (then q))))

    -- a component whose value is dereferenced
    takes_part : (b h u i t cell place : ℕ) (s : List Kind) (p : RecordOperand) (more : List Step) → offset_of code u i ≡ offset_in i (placed K.tables u) → slice_get code.instructions.items place ≡ Some (InstrOf.TakePart u i access_value (new_operand s)) → slice_get code.instructions.items (place + 1) ≡ Some (InstrOf.Dereference t cell) → ((m : ℕ) → Meets b h (at d (place + 1 + 1) ks (Located (whole_spot m) ∷ ops) l w) (walk K more (found_at (OfObject (whole_spot m))) c l w)) → Raises b h
        → Meets b h (at d place ks (word p ∷ ops) l w) (walk K (Component u i ∷ Dereference ∷ more) (found_at p) c l w)
    unfolding walk step_meant found_behind read_found read_part existing gone opened_outcome
    takes_part b h u i t cell place s (OfCells v) more lies has has1 then raises =
        let x = drop (offset_in i (placed K.tables u)) v in
        let s0 = at d place ks (Cells v ∷ ops) l w in
        subst (λ n. Meets b h s0 (add 1 (bind (add 1 (add 0 (dereferenced n c l w))) (on_goes (walk K more))))) (sym (first_scalar x))
        (reads_access b h (scalar_of x) t cell (place + 1) s0 (walk K more)
        (by_code ask code d place ks (Cells v ∷ ops) l w (InstrOf.TakePart u i access_value (new_operand s)) has
        ∙ ap (λ j. moved l (fetch_from j (Cells v) NamedOf.Operand ops (here d place ks w))) lies) has1 then raises)
    takes_part b h u i t cell place s (OfObject p) more lies has has1 then raises =
        by (object_at p.object w)
        (by_code ask code d place ks (Located p ∷ ops) l w (InstrOf.TakePart u i access_value (new_operand s)) has
        ∙ ap (λ j. moved l (fetch_from j (Located p) NamedOf.Operand ops (here d place ks w))) lies)
      where
        offset : ℕ
        offset = p.offset + offset_in i (placed K.tables u)

        s0 : State
        s0 = at d place ks (Located p ∷ ops) l w

        by : (x : Option ObjectOf) → step ask code (at d place ks (Located p ∷ ops) l w) ≡ moved l (fetched (p.offset + offset_in i (placed K.tables u)) x NamedOf.Operand ops (here d place ks w)) → Meets b h (at d place ks (Located p ∷ ops) l w) (add 1 (bind (add 1 (bind (on_some x (stop UseAfterFree) (λ o. done (cells_at (p.offset + offset_in i (placed K.tables u)) 1 o)) c l w) (on_goes (λ v. dereferenced (scalar_of v))))) (on_goes (walk K more))))
        by None first = stop_step_to ask code Ends b h s0 _ c 2 next UseAfterFree l (omega arith) first refl refl
        by (Some o) first = reads_access b h (scalar_of (cells_at offset 1 o)) t cell (place + 1) s0 (walk K more) first has1 then raises

    -- the object on top, whose value is dereferenced
    takes_whole : (b h t cell place : ℕ) (s : List Kind) (p : RecordOperand) (more : List Step) → offset_of code any_type first_position ≡ 0 → slice_get code.instructions.items place ≡ Some (InstrOf.TakePart any_type first_position access_value (new_operand s)) → slice_get code.instructions.items (place + 1) ≡ Some (InstrOf.Dereference t cell) → ((m : ℕ) → Meets b h (at d (place + 1 + 1) ks (Located (whole_spot m) ∷ ops) l w) (walk K more (found_at (OfObject (whole_spot m))) c l w)) → Raises b h
        → Meets b h (at d place ks (word p ∷ ops) l w) (walk K (Dereference ∷ more) (found_at p) c l w)
    unfolding walk step_meant read_found read_part existing gone opened_outcome
    takes_whole b h t cell place s (OfCells v) more lies has has1 then raises =
        let s0 = at d place ks (Cells v ∷ ops) l w in
        subst (λ n. Meets b h s0 (bind (add 1 (add 0 (dereferenced n c l w))) (on_goes (walk K more)))) (sym (first_scalar v))
        (reads_value b h (scalar_of v) t cell (place + 1) s0 (walk K more)
        (by_code ask code d place ks (Cells v ∷ ops) l w (InstrOf.TakePart any_type first_position access_value (new_operand s)) has
        ∙ ap (λ j. moved l (fetch_from j (Cells v) NamedOf.Operand ops (here d place ks w))) lies) has1 then raises)
    takes_whole b h t cell place s (OfObject p) more lies has has1 then raises =
        let same : p.offset + 0 ≡ p.offset = omega arith in
        by (object_at p.object w)
        (by_code ask code d place ks (Located p ∷ ops) l w (InstrOf.TakePart any_type first_position access_value (new_operand s)) has
        ∙ ap (λ j. moved l (fetch_from j (Located p) NamedOf.Operand ops (here d place ks w))) lies
        ∙ ap (λ j. moved l (fetched j (object_at p.object w) NamedOf.Operand ops (here d place ks w))) same)
      where
        s0 : State
        s0 = at d place ks (Located p ∷ ops) l w

        by : (x : Option ObjectOf) → step ask code (at d place ks (Located p ∷ ops) l w) ≡ moved l (fetched p.offset x NamedOf.Operand ops (here d place ks w)) → Meets b h (at d place ks (Located p ∷ ops) l w) (bind (add 1 (bind (on_some x (stop UseAfterFree) (λ o. done (cells_at p.offset 1 o)) c l w) (on_goes (λ v. dereferenced (scalar_of v))))) (on_goes (walk K more)))
        by None first = stop_step_to ask code Ends b h s0 _ c 1 next UseAfterFree l (omega arith) first refl refl
        by (Some o) first = reads_value b h (scalar_of (cells_at p.offset 1 o)) t cell (place + 1) s0 (walk K more) first has1 then raises

    -- from a part on top to the one behind these steps; there are at most n of them
    selects_in : (n b h : ℕ) (steps : List Step) (t : ℕ) (s : List Kind) (p : RecordOperand) (place : ℕ) → length steps ≤ n → are_walked steps ≡ true → Agree K.tables code steps → Laid code place (onward_code steps t s) → Puts b h (place + length (onward_code steps t s)) → Raises b h → Meets b h (at d place ks (word p ∷ ops) l w) (walk K steps (found_at p) c l w)
    unfolding walk step_meant opened_outcome
    selects_in n b h [] t s p place le walked agree has then raises =
        let e : place + 0 ≡ place = omega arith in
        added_to ask code Ends 0 b h b h _ c next (g (Goes (found_at p)) c l w) (omega arith) (omega arith) (subst (Puts b h) e then p)
    selects_in zero b h (x ∷ steps) t s p place le walked agree has then raises = absurd (omega (arith, le))
    selects_in (suc n) b h (Component u i ∷ []) t s p place le walked agree has then raises =
        let e : place + 1 ≡ place + 1 + 0 = omega arith in
        puts_part b h u i t place p (walk K []) agree.0 has.0 (λ q. selects_in n b h [] t s q (place + 1) (omega arith) refl tt tt (subst (Puts b h) e then) raises)
    selects_in (suc n) b h (Component u i ∷ Component u2 i2 ∷ more) t s p place le walked agree has then raises =
        let rest = Component u2 i2 ∷ more in
        let e : place + length (onward_code (Component u i ∷ rest) t s) ≡ place + 1 + length (onward_code rest t s) = omega arith in
        puts_part b h u i u2 place p (walk K rest) agree.0 has.0 (λ q. selects_in n b h rest t s q (place + 1) (omega (arith, le)) walked agree.1 has.2 (subst (Puts b h) e then) raises)
    selects_in (suc n) b h (Component u i ∷ Dereference ∷ more) t s p place le walked agree has then raises =
        let e : place + length (onward_code (Component u i ∷ Dereference ∷ more) t s) ≡ place + 1 + 1 + length (onward_code more t s) = omega arith in
        takes_part b h u i (first_type more t) (height s) place s p more agree.0 has.0 has.2.0 (λ m. selects_in n b h more t s (OfObject (whole_spot m)) (place + 1 + 1) (omega (arith, le)) walked agree.1.1 has.2.2 (subst (Puts b h) e then) raises) raises
    selects_in (suc n) b h (Component u i ∷ Narrow u2 ∷ more) t s p place le walked agree has then raises = absurd (cc walked)
    selects_in (suc n) b h (Dereference ∷ more) t s p place le walked agree has then raises =
        let e : place + length (onward_code (Dereference ∷ more) t s) ≡ place + 1 + 1 + length (onward_code more t s) = omega arith in
        takes_whole b h (first_type more t) (height s) place s p more agree.0 has.0 has.2.0 (λ m. selects_in n b h more t s (OfObject (whole_spot m)) (place + 1 + 1) (omega (arith, le)) walked agree.1 has.2.2 (subst (Puts b h) e then) raises) raises
    selects_in (suc n) b h (Narrow u ∷ steps) t s p place le walked agree has then raises = absurd (cc walked)

    pub selects : (b h : ℕ) (steps : List Step) (t : ℕ) (s : List Kind) (p : RecordOperand) (place : ℕ) → are_walked steps ≡ true → Agree K.tables code steps → Laid code place (onward_code steps t s) → Puts b h (place + length (onward_code steps t s)) → Raises b h → Meets b h (at d place ks (word p ∷ ops) l w) (walk K steps (found_at p) c l w)
    selects b h steps t s p place = selects_in (length steps) b h steps t s p place (omega arith)

    -- from a variable of a record type
    object_from : (b h : ℕ) (v : Var) (steps : List Step) (first t : ℕ) (s : List Kind) (place : ℕ) → are_walked steps ≡ true → Agree K.tables code steps → slice_get code.instructions.items place ≡ Some (InstrOf.Locate v first (height s)) → Laid code (place + 1) (onward_code steps t s) → Puts b h (place + 1 + length (onward_code steps t s)) → Raises b h → Meets b h (at d place ks ops l w) (variable_as K Composite steps v d c l w)
    unfolding opened_outcome
    object_from b h v steps first t s place walked agree has rest then raises =
        subst (Meets b h (at d place ks ops l w)) (sym (finds_composite K v steps d c l w))
        (by (held (content_of d v w))
        (by_code ask code d place ks ops l w (InstrOf.Locate v first (height s)) has
        ∙ ap (λ o. moved l (by_locate o ops (here d place ks w))) (held_word (content_of d v w))))
      where
        by : (o : Option RecordOperand) → step ask code (at d place ks ops l w) ≡ moved l (by_locate (option_map word o) ops (here d place ks w)) → Meets b h (at d place ks ops l w) (bind (object_found o c l w) (on_goes (walk K steps)))
        by None go = stop_step_to ask code Ends b h _ _ c 1 next UseAfterFree l (omega arith) go refl refl
        by (Some p) go =
            let s0 = at d place ks ops l w in
            subst (RunsTo ask code Ends b h s0 c next) (sym (bind_add 1 (walk K steps (found_at p) c l w) g))
            (added_to ask code Ends 1 (b + 1) (h + 1) b h s0 c next _ (omega arith) (omega arith)
            (one_step_to ask code Ends b h (b + 1) (h + 1) s0 (at d (place + 1) ks (word p ∷ ops) l w) c c next _ (omega arith) (omega arith) (omega arith) (omega arith) go
            (selects b h steps t s p (place + 1) walked agree rest then raises)))

    -- what finds a part behind a variable, and what follows it: each instruction is paid by the tick of its step of the name
    pub variable_from : (b h : ℕ) (v : Var) (steps : List Step) (t : ℕ) (s : List Kind) (place : ℕ) → are_walked steps ≡ true → Agree K.tables code steps → IsAsLong d s → Laid code place (located_code (OfVariable v) steps t s) → Puts b h (place + length (located_code (OfVariable v) steps t s)) → Raises b h → Meets b h (at d place ks ops l w) (variable_by K steps v d c l w)
    unfolding begins_as
    variable_from b h v [] t s place walked agree long has then raises =
        let e : place + 1 ≡ place + 1 + 0 = omega arith in
        object_from b h v [] t t s place refl tt has.0 has.2 (subst (Puts b h) e then) raises
    variable_from b h v (Component u i ∷ steps) t s place walked agree long has then raises =
        let all = Component u i ∷ steps in
        let e : place + length (located_code (OfVariable v) all t s) ≡ place + 1 + length (onward_code all t s) = omega arith in
        object_from b h v all u t s place walked agree has.0 has.2 (subst (Puts b h) e then) raises
    variable_from b h v (Dereference ∷ steps) t s place walked agree long has then raises =
        let s0 = at d place ks ops l w in
        let e : place + length (located_code (OfVariable v) (Dereference ∷ steps) t s) ≡ place + 1 + 1 + length (onward_code steps t s) = omega arith in
        subst (Meets b h s0) (sym (reads_variable K v steps d c l w))
        (reads_access b h (value_of d v w) (first_type steps t) (height s) (place + 1) s0 (walk K steps) (read_step ask K.tables code 0 w (local_at s v) v access_value (new_operand s) s d place ks ops l w refl long has.0 ∙ on_top (value_of d v w) d (place + 1) ks ops l w) has.2.0
        (λ m. selects b h steps t s (OfObject (whole_spot m)) (place + 1 + 1) walked agree.1 has.2.2 (subst (Puts b h) e then) raises) raises)
    variable_from b h v (Narrow u ∷ steps) t s place walked agree long has then raises = absurd (cc walked)
