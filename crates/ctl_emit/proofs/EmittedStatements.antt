-- What the emitter makes of items and of statements without a stretch of others is their layout.
use Rattle.std.proofs.Common.{◌≡◌, ◌<◌, ℕ, zero, suc, List, [], ◌∷◌, ◌++◌, drop, length, arith, Option, Some, None, unwrap_or, option_map, refl, sym, ap, ◌∙◌, ◌+◌}
use Rattle.ctl_program.specs.declared.types.Ty.{Ty}
use Rattle.ctl_program.specs.declared.types.Ty.TheVariants.{Integer, Count, Boolean, Address, Handle, Access, Record}
use Rattle.ctl_program.specs.declared.types.Ty.TheVariants as TyOf
use Rattle.ctl_program.specs.declared.types.Var.{Var}
use Rattle.ctl_program.specs.declared.expression.Step.{Step}
use Rattle.ctl_code.specs.declared.code.Cell.{Cell}
use Rattle.ctl_code.specs.declared.code.DiscriminantOrder.{DiscriminantOrder}
use Rattle.ctl_code.specs.declared.code.Instr.TheVariants as InstrOf
use Rattle.ctl_code.specs.declared.kinds.Kind.{Kind}
use Rattle.ctl_code.specs.declared.kinds.Kind.TheVariants.{Operand}
use Rattle.ctl_code.specs.Kinds.{below_newest}
use Rattle.ctl_code.specs.Windows.{height, variable_at}
use Rattle.ctl_layout.specs.Around.{behind, local_at, local_cell, newest_cell, out_to}
use Rattle.ctl_layout.specs.Parts.{Start, Reached, Variable, Part, Object, Result, located_code}
use Rattle.ctl_emitter.specs.Emitted.{Emitted, appended, around, holding, lined, one, standing, stated, taking}
use Rattle.ctl_layout.specs.Values.{ValueCode, copied, evaluated, held, value_type}
use Rattle.ctl_layout.specs.Layout.{ItemCode, StatementCode, all, all_items, assign, assign_code, declaration, discriminants_code, failed_code, free, gathers_code, layer_of, null, only_if, ordered_pool, return, return_held, return_of, return_record, scalar_code, silent, store_code, test_code, test_length, valued, valued_code, with_discriminants, with_value}
use Rattle.ctl_emitter.proofs.Emission.{IsWithin, lined_both, lined_stated, nothing, one_longer, stated_both}
use Rattle.ctl_emitter.proofs.EmittedValues.{IsElementary, of_elementary, operand_taken, two_evaluated, two_taken}

-- another name of the same statement
pub statement_emitted : (x y : StatementCode) (landing : Option ℕ) (e0 e1 : Emitted) → x ≡ y → e1 ≡ stated y landing e0 → e1 ≡ stated x landing e0
statement_emitted x y landing e0 e1 same a = a ∙ ap (λ z. stated z landing e0) (sym same)

-- the same statement of the same parts
pub renamed : {A : Type 0} (f : A → StatementCode) (x y : A) (landing : Option ℕ) (e0 e1 : Emitted) → x ≡ y → e1 ≡ stated (f x) landing e0 → e1 ≡ stated (f y) landing e0
renamed f x y landing e0 e1 same a = a ∙ ap (λ z. stated (f z) landing e0) same

-- Items -------------------------------------------------------------------------------------------

pub next_item : (x : ItemCode) (xs : List ItemCode) (e0 e1 : Emitted) → e1 ≡ lined x.code e0 → lined (all_items xs).code e1 ≡ lined (all_items (x ∷ xs)).code e0
next_item x xs e0 e1 a = lined_both x.code (all_items xs).code e0 e1 (lined (all_items xs).code e1) a refl

pub no_item : (e : Emitted) → e ≡ lined silent.code e
no_item e = nothing e

-- the collections of a freezing place: the next one, with how many of them are a layer behind it
pub next_gather : (a : ℕ) (more : List ℕ) (i count : ℕ) (e0 e1 : Emitted) → count ≡ layer_of more (i + 1) → e1 ≡ lined (one (InstrOf.Gather a count)) e0 → lined (gathers_code more (i + 1)) e1 ≡ lined (gathers_code (a ∷ more) i) e0
next_gather a more i count e0 e1 many is = lined_both (one (InstrOf.Gather a (layer_of more (i + 1)))) (gathers_code more (i + 1)) e0 e1 (lined (gathers_code more (i + 1)) e1) (is ∙ ap (λ n. lined (one (InstrOf.Gather a n)) e0) many) refl

pub no_gather : (i : ℕ) (e : Emitted) → e ≡ lined (gathers_code [] i) e
no_gather i e = nothing e

-- none are where a further one follows
pub not_last : (xs : List ℕ) (n count : ℕ) → n < length xs → 0 ≡ layer_of (drop n xs) count
not_last [] n count less = absurd (omega (arith, less))
not_last (x ∷ xs) zero count less = refl
not_last (x ∷ xs) (suc n) count less = not_last xs n count (omega (arith, less))

-- an elementary variable takes a value in its cell
pub scalar_emitted : (o : Option ℕ) (slot : ℕ) (ty : Ty) (to : Cell) (e0 e1 e2 : Emitted) → Some to ≡ option_map (newest_cell slot) o → e1 ≡ lined (one (InstrOf.Set 0 ty to)) e0 → e2 ≡ lined (one InstrOf.Number) e1 → e2 ≡ lined (scalar_code o slot ty) e0
scalar_emitted None slot ty to e0 e1 e2 at a b = absurd (cc)
scalar_emitted (Some n) slot ty to e0 e1 e2 at a b =
    lined_both (one (InstrOf.Set 0 ty to)) (one InstrOf.Number) e0 e1 e2 a b
    ∙ ap (λ k. lined (λ s. (InstrOf.Set 0 ty k, s) ∷ (InstrOf.Number, s) ∷ []) e0) (ap (λ o. unwrap_or o to) at)

pub valued_emitted : (o : Option ℕ) (slot : ℕ) (ty : Ty) (x : ValueCode) (to : Cell) (e0 e1 e2 : Emitted) → Some to ≡ option_map (newest_cell slot) o → e1 ≡ lined (x.code to ty) e0 → e2 ≡ lined (one InstrOf.Number) e1 → e2 ≡ lined (valued_code o slot ty x) e0
valued_emitted None slot ty x to e0 e1 e2 at a b = absurd (cc)
valued_emitted (Some n) slot ty x to e0 e1 e2 at a b =
    lined_both (x.code to ty) (one InstrOf.Number) e0 e1 e2 a b
    ∙ ap (λ k. lined (λ s. x.code k ty s ++ (InstrOf.Number, s) ∷ []) e0) (ap (λ o. unwrap_or o to) at)

-- Pools (13.11) -----------------------------------------------------------------------------------

-- its discriminants are two operands
pub discriminants_emitted : (first second : ValueCode) (e0 e1 e2 : Emitted) → e1 ≡ holding (evaluated first TyOf.Count) e0 → e2 ≡ holding (evaluated second TyOf.Count) e1 → e2 ≡ appended (discriminants_code first second e0.notes.standing) [] (with_discriminants e0.notes.standing) e0
discriminants_emitted first second e0 e1 e2 a b = two_evaluated TyOf.Count first second e0 e1 e2 a b

-- a block pool takes its discriminants
pub pool_emitted : (slot t : ℕ) (order : DiscriminantOrder) (o : Option DiscriminantOrder) (first second : ValueCode) (at : ℕ) (e0 e1 e2 e3 e4 : Emitted) → o ≡ Some order → at ≡ height e0.notes.standing → e1 ≡ appended (discriminants_code first second e0.notes.standing) [] (with_discriminants e0.notes.standing) e0 → e2 ≡ lined (one (InstrOf.DeclarePool slot t order at)) e1 → e3 ≡ standing (below_newest e2.notes.standing) e2 → e4 ≡ standing (below_newest e3.notes.standing) e3 → e4 ≡ lined (ordered_pool slot t o first second).code e0
pool_emitted slot t order o first second at e0 e1 e2 e3 e4 which here a b c d =
    let s = e0.notes.standing in
    two_taken TyOf.Count (discriminants_code first second s) (InstrOf.DeclarePool slot t order at) e0 e1 e2 e3 e4 a b c d
    ∙ ap (λ n. appended (discriminants_code first second s ++ (InstrOf.DeclarePool slot t order n, with_discriminants s) ∷ []) [] s e0) here
    ∙ ap (λ q. lined (ordered_pool slot t q first second).code e0) (sym which)

-- Statements --------------------------------------------------------------------------------------

pub next_statement : (x : StatementCode) (xs : List StatementCode) (landing : Option ℕ) (e0 e1 : Emitted) → IsWithin landing e0 → e1 ≡ stated x landing e0 → stated (all xs) landing e1 ≡ stated (all (x ∷ xs)) landing e0
next_statement x xs landing e0 e1 within a = stated_both x (all xs) landing e0 e1 (stated (all xs) landing e1) within a refl

pub no_statement : (landing : Option ℕ) (e : Emitted) → e ≡ stated null landing e
no_statement landing e = nothing e

-- an assignment is the same wherever control lands
pub assigned_anywhere : (o : Option Reached) (x : ValueCode) (landing : Option ℕ) (e0 e1 : Emitted) → e1 ≡ stated (assign o x) None e0 → e1 ≡ stated (assign o x) landing e0
assigned_anywhere None x landing e0 e1 a = a
assigned_anywhere (Some (Variable v)) x landing e0 e1 a = a
assigned_anywhere (Some (Part v steps t position)) x landing e0 e1 a = a
assigned_anywhere (Some (Object v steps)) x landing e0 e1 a = a
assigned_anywhere (Some (Result b)) x landing e0 e1 a = a

stored : (o : Option ℕ) (v : Var) (x : ValueCode) (e : Emitted) → None ≡ option_map (local_cell e.notes.standing v) o → lined (λ s. store_code v (value_type x) s (held x (value_type x) s)) e ≡ lined (assign_code o v x) e
stored None v x e at = refl
stored (Some n) v x e at = absurd (cc)

-- to a variable of a body around
pub assigned_out : (v : Var) (x : ValueCode) (ty : Ty) (out : ℕ) (cell : Cell) (e0 e1 e2 : Emitted) → ty ≡ value_type x → None ≡ option_map (local_cell e0.notes.standing v) (local_at e0.notes.standing v) → out ≡ out_to e0.notes.standing v → e1 ≡ holding (held x ty) e0 → cell ≡ (held x ty e0.notes.standing).cell → e2 ≡ taking (InstrOf.Store cell ty out v.slot) cell e1 → e2 ≡ stated (assign (Some (Variable v)) x) None e0
assigned_out v x ty out cell e0 e1 e2 same at far a found b =
    let s = e0.notes.standing in
    operand_taken x ty (InstrOf.Store cell ty out v.slot) cell e0 e1 e2 a found b
    ∙ ap (λ k. lined (λ s. (held x ty s).code ++ (InstrOf.Store k ty out v.slot, (held x ty s).after) ∷ []) e0) found
    ∙ ap (λ k. lined (λ r. (held x ty r).code ++ (InstrOf.Store (held x ty s).cell ty k v.slot, (held x ty r).after) ∷ []) e0) far
    ∙ ap (λ t. lined (λ r. (held x t r).code ++ (InstrOf.Store (held x t s).cell t (out_to s v) v.slot, (held x t r).after) ∷ []) e0) same
    ∙ stored (local_at s v) v x e0 at

-- Unchecked_Deallocation (13.11.2) ----------------------------------------------------------------

-- the access value is in a variable: behind what frees its object stands what fails
pub variable_freed : (access out : ℕ) (v : Var) (e0 e1 e2 : Emitted) → out ≡ out_to e0.notes.standing v → e1 ≡ lined (one (InstrOf.Free access out v.slot)) e0 → e2 ≡ lined failed_code e1 → e2 ≡ stated (free access (Some (Variable v))) None e0
variable_freed access out v e0 e1 e2 far a b =
    lined_both (one (InstrOf.Free access out v.slot)) failed_code e0 e1 e2 a b
    ∙ ap (λ k. lined (λ s. (InstrOf.Free access k v.slot, s) ∷ failed_code s) e0) far

-- it is in a component: what frees its object stands behind what finds the part
pub part_freed : (access : ℕ) (b : Start) (steps : List Step) (t position : ℕ) (e0 e1 e2 e3 : Emitted) → e1 ≡ lined (located_code b steps t) e0 → e2 ≡ lined (λ s. (InstrOf.FreePart access t position, Operand (TyOf.Record t) ∷ s) ∷ []) e1 → e3 ≡ lined failed_code e2 → e3 ≡ stated (free access (Some (Part b steps t position))) None e0
part_freed access b steps t position e0 e1 e2 e3 a c d =
    let freed = λ (s : List Kind). one (InstrOf.FreePart access t position) (Operand (TyOf.Record t) ∷ s) in
    lined_both (located_code b steps t) (λ s. freed s ++ failed_code s) e0 e1 e3 a (lined_both freed failed_code e1 e2 e3 c d)

-- it is the same wherever control lands
pub freed_anywhere : (access : ℕ) (o : Option Reached) (landing : Option ℕ) (e0 e1 : Emitted) → e1 ≡ stated (free access o) None e0 → e1 ≡ stated (free access o) landing e0
freed_anywhere access None landing e0 e1 a = a
freed_anywhere access (Some (Variable v)) landing e0 e1 a = a
freed_anywhere access (Some (Part v steps t position)) landing e0 e1 a = a
freed_anywhere access (Some (Object v steps)) landing e0 e1 a = a
freed_anywhere access (Some (Result b)) landing e0 e1 a = a

-- Return statements (6.5) -------------------------------------------------------------------------

-- with a value of an elementary type
pub value_returned : (x : ValueCode) (ty : Ty) (cell : Cell) (e0 e1 e2 : Emitted) → e1 ≡ holding (held x ty) e0 → cell ≡ (held x ty e0.notes.standing).cell → e2 ≡ taking (InstrOf.Return cell ty) cell e1 → e2 ≡ lined (λ s. return_held ty (held x ty s)) e0
value_returned x ty cell e0 e1 e2 a found b =
    operand_taken x ty (InstrOf.Return cell ty) cell e0 e1 e2 a found b
    ∙ ap (λ k. lined (λ s. (held x ty s).code ++ (InstrOf.Return k ty, (held x ty s).after) ∷ []) e0) found

pub elementary_returned : (x : ValueCode) (ty : Ty) (e0 e1 : Emitted) → IsElementary ty → e1 ≡ lined (λ s. return_held ty (held x ty s)) e0 → e1 ≡ stated (return_of ty x) None e0
elementary_returned x ty e0 e1 = of_elementary (λ t. e1 ≡ lined (λ s. return_held t (held x t s)) e0 → e1 ≡ stated (return_of t x) None e0) (λ a. a) (λ a. a) (λ a. a) (λ a. a) (λ a. a) (λ k a. a) ty

-- they are the same wherever control lands
record_anywhere : (o : Option Reached) (t : ℕ) (landing : Option ℕ) (e0 e1 : Emitted) → e1 ≡ stated (return_record t o) None e0 → e1 ≡ stated (return_record t o) landing e0
record_anywhere None t landing e0 e1 a = a
record_anywhere (Some x) t landing e0 e1 a = a

of_anywhere : (ty : Ty) (x : ValueCode) (landing : Option ℕ) (e0 e1 : Emitted) → e1 ≡ stated (return_of ty x) None e0 → e1 ≡ stated (return_of ty x) landing e0
of_anywhere (Record t) x landing e0 e1 a = record_anywhere (copied t x) t landing e0 e1 a
of_anywhere Integer x landing e0 e1 a = a
of_anywhere Count x landing e0 e1 a = a
of_anywhere Boolean x landing e0 e1 a = a
of_anywhere Address x landing e0 e1 a = a
of_anywhere Handle x landing e0 e1 a = a
of_anywhere (Access k) x landing e0 e1 a = a

pub returned_anywhere : (o : Option ValueCode) (landing : Option ℕ) (e0 e1 : Emitted) → e1 ≡ stated (return o) None e0 → e1 ≡ stated (return o) landing e0
returned_anywhere None landing e0 e1 a = a
returned_anywhere (Some x) landing e0 e1 a = of_anywhere (value_type x) x landing e0 e1 a

-- Conditions --------------------------------------------------------------------------------------

-- a condition, and what passes over so many instructions where it does not hold
pub test_emitted : (x : ValueCode) (cell : Cell) (n : ℕ) (e0 e1 e2 : Emitted) → e1 ≡ holding (held x Boolean) e0 → cell ≡ (held x Boolean e0.notes.standing).cell → e2 ≡ taking (InstrOf.Unless cell n) cell e1 → e2 ≡ lined (λ s. test_code x s n) e0
test_emitted x cell n e0 e1 e2 a found b =
    operand_taken x Boolean (InstrOf.Unless cell n) cell e0 e1 e2 a found b
    ∙ ap (λ k. lined (λ s. (held x Boolean s).code ++ (InstrOf.Unless k n, (held x Boolean s).after) ∷ []) e0) found

pub test_long : (x : ValueCode) (s : List Kind) (n : ℕ) → length (test_code x s n) ≡ test_length x s
test_long x s n = let h = held x Boolean s in one_longer h.code (InstrOf.Unless h.cell n, h.after)

-- what it guards, whose length is known before
pub only_if_emitted : (x : ValueCode) (y : StatementCode) (size : ℕ) (cell : Cell) (landing : Option ℕ) (e0 e1 e2 e3 : Emitted) → IsWithin landing e0 → length (y.code (behind (test_length x e0.notes.standing) (around landing e0)) (length e0.texts)) + 0 ≡ size → e1 ≡ holding (held x Boolean) e0 → cell ≡ (held x Boolean e0.notes.standing).cell → e2 ≡ taking (InstrOf.Unless cell size) cell e1 → e3 ≡ stated y landing e2 → e3 ≡ stated (only_if x y) landing e0
only_if_emitted x y size cell landing e0 e1 e2 e3 within long a found b c =
    let s = e0.notes.standing in
    let n = length e0.texts in
    lined_stated (λ r. test_code x r size) y landing e0 e2 e3 within (test_emitted x cell size e0 e1 e2 a found b) c
    ∙ ap (λ j. appended (test_code x s size ++ y.code (behind j (around landing e0)) n) y.texts s e0) (test_long x s size)
    ∙ ap (λ j. appended (test_code x s j ++ y.code (behind (test_length x s) (around landing e0)) n) y.texts s e0) (sym long)

-- Declarations of elementary variables --------------------------------------------------------------

pub declared : (slot : ℕ) (ty : Ty) (s : List Kind) → IsElementary ty → scalar_code (variable_at s 0 slot) slot ty s ≡ declaration slot ty s
declared slot ty s = of_elementary (λ x. scalar_code (variable_at s 0 slot) slot x s ≡ declaration slot x s) refl refl refl refl refl (λ a. refl) ty

pub elementary_emitted : (slot : ℕ) (ty : Ty) (e0 e1 : Emitted) → IsElementary ty → e1 ≡ lined (scalar_code (variable_at e0.notes.standing 0 slot) slot ty) e0 → e1 ≡ lined (declaration slot ty) e0
elementary_emitted slot ty e0 e1 is a = a ∙ ap (λ l. appended l [] e0.notes.standing e0) (declared slot ty e0.notes.standing is)

-- and of those with a value
valued_given : (slot : ℕ) (ty : Ty) (x : ValueCode) → IsElementary ty → valued slot ty x ≡ with_value slot ty x
valued_given slot ty x = of_elementary (λ t. valued slot t x ≡ with_value slot t x) refl refl refl refl refl (λ a. refl) ty

pub given_emitted : (slot : ℕ) (ty : Ty) (x : ValueCode) (e0 e1 : Emitted) → IsElementary ty → e1 ≡ lined (valued slot ty x).code e0 → e1 ≡ lined (with_value slot ty x).code e0
given_emitted slot ty x e0 e1 is a = a ∙ ap (λ (i : ItemCode). lined i.code e0) (valued_given slot ty x is)
