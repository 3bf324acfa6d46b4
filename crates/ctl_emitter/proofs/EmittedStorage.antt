-- What the emitter makes of calls of the library's Allocate and Deallocate is their layout (13.11).
use Rattle.std.proofs.Common.{◌≡◌, ℕ, List, [], ◌∷◌, ◌++◌, drop, Option, Some, None, refl, ap, ◌∙◌, append_assoc}
use Rattle.ctl_program.specs.declared.expression.Step.{Step}
use Rattle.ctl_program.specs.declared.types.Ty.{Ty}
use Rattle.ctl_program.specs.declared.types.Ty.TheVariants.{Address, Count, Record}
use Rattle.ctl_program.specs.declared.types.Var.{Var}
use Rattle.ctl_code.specs.declared.code.Instr.{Instr}
use Rattle.ctl_code.specs.declared.code.Instr.TheVariants as InstrOf
use Rattle.ctl_code.specs.declared.kinds.Kind.TheVariants.{Operand}
use Rattle.ctl_code.specs.Valid.{over_numbers}
use Rattle.ctl_code.proofs.Numbered.{below_over}
use Rattle.ctl_layout.specs.Around.{new_operand, out_to}
use Rattle.ctl_layout.specs.Parts.{Start, OfVariable, Reached, Variable, Part, Object, Result, located_code}
use Rattle.ctl_layout.specs.Values.{ValueCode, evaluated}
use Rattle.ctl_layout.specs.Layout.{library_allocate, library_deallocate, on_pool, pool_operand, pool_type, request, values_code, values_then, with_pool, with_pool_and_part, with_types}
use Rattle.ctl_emitter.specs.Emitted.{Emitted, appended, holding, lined, one, standing, stated, with_values}
use Rattle.ctl_emitter.proofs.Emission.{in_two, lined_at, nothing, stands, stands_before, stands_behind, standing_is}
use Rattle.ctl_emitter.proofs.EmittedCalls.{left, numbered}

-- an instruction over so many numbers, which it takes
pub over_numbers_emitted : (n : ℕ) (i : Instr) (e0 e1 e2 e3 : Emitted) → e1 ≡ numbered n e0 → e2 ≡ lined (one i) e1 → e3 ≡ left n e2 → e3 ≡ lined (λ s. (i, over_numbers n s) ∷ []) e0
over_numbers_emitted n i e0 e1 e2 e3 a b c =
    let s = e0.notes.standing in
    let top = over_numbers n s in
    let over : e2 ≡ appended (one i top) [] top e1 = lined_at (one i) top e1 e2 (stands top e0 e1 a) b in
    let whole : e2 ≡ appended (one i top) [] top e0 = stands_before (one i top) [] top top e0 e1 e2 a over in
    stands_behind (one i top) [] top s e0 e2 e3 whole
    (c ∙ ap (λ r. standing (drop n r) e2) (standing_is (one i top) [] top e0 e2 whole)
    ∙ ap (λ r. standing r e2) (below_over n s))

-- Values ------------------------------------------------------------------------------------------

pub next_value : (x : ValueCode) (ty : Ty) (more : List (ValueCode × Ty)) (e0 e1 : Emitted) → e1 ≡ holding (evaluated x ty) e0 → with_values more e1 ≡ with_values ((x, ty) ∷ more) e0
next_value x ty more e0 e1 a =
    let s = e0.notes.standing in
    let top = Operand ty ∷ s in
    let lines = x.code (new_operand s) ty s in
    in_two lines (values_code more top) [] [] top (with_types more top) e0 e1 (with_values more e1) a
    (ap (λ r. appended (values_code more r) [] (with_types more r) e1) (standing_is lines [] top e0 e1 a))

pub no_value : (e : Emitted) → e ≡ with_values [] e
no_value e = nothing e

-- one value, and then others
pub first_value : (x : ValueCode) (ty : Ty) (more : List (ValueCode × Ty)) (e0 e1 e2 : Emitted) → e1 ≡ holding (evaluated x ty) e0 → e2 ≡ with_values more e1 → e2 ≡ with_values ((x, ty) ∷ more) e0
first_value x ty more e0 e1 e2 a b = b ∙ next_value x ty more e0 e1 a

pub two_values : (x y : ValueCode) (ty u : Ty) (e0 e1 e2 : Emitted) → e1 ≡ holding (evaluated x ty) e0 → e2 ≡ holding (evaluated y u) e1 → e2 ≡ with_values ((x, ty) ∷ (y, u) ∷ []) e0
two_values x y ty u e0 e1 e2 a b = first_value x ty ((y, u) ∷ []) e0 e1 e2 a (no_value e2 ∙ next_value y u [] e1 e2 b)

-- Calls -------------------------------------------------------------------------------------------

-- the pool is a new operand
pub pool_emitted : (p : Var) (e0 e1 e2 : Emitted) → e1 ≡ lined (located_code (OfVariable p) [] pool_type) e0 → e2 ≡ standing (Operand (Record pool_type) ∷ e1.notes.standing) e1 → e2 ≡ appended (pool_operand p e0.notes.standing) [] (with_pool e0.notes.standing) e0
pool_emitted p e0 e1 e2 a b =
    let s = e0.notes.standing in
    stands_behind (pool_operand p s) [] s (with_pool s) e0 e1 e2 a (b ∙ ap (λ r. standing (with_pool r) e1) (standing_is (pool_operand p s) [] s e0 e1 a))

-- over what stands there, values and an instruction that takes them, and so many operands in all
pub values_then_emitted : (xs : List (ValueCode × Ty)) (i : Instr) (n : ℕ) (e0 e1 e2 e3 : Emitted) → (let s = e0.notes.standing in e1 ≡ with_values xs e0 → e2 ≡ lined (one i) e1 → e3 ≡ left n e2 → e3 ≡ appended (values_then xs i s) [] (drop n (with_types xs s)) e0)
values_then_emitted xs i n e0 e1 e2 e3 a b c =
    let s = e0.notes.standing in
    let top = with_types xs s in
    let lines = values_then xs i s in
    let taken : e2 ≡ appended lines [] top e0 = in_two (values_code xs s) (one i top) [] [] top top e0 e1 e2 a (lined_at (one i) top e1 e2 (standing_is (values_code xs s) [] top e0 e1 a) b) in
    stands_behind lines [] top (drop n top) e0 e2 e3 taken (c ∙ ap (λ r. standing (drop n r) e2) (standing_is lines [] top e0 e2 taken))

-- a pool, values, and an instruction that takes them all
pub on_pool_emitted : (p : Var) (xs : List (ValueCode × Ty)) (i : Instr) (n : ℕ) (e0 e1 e2 e3 e4 : Emitted) → drop n (with_types xs (with_pool e0.notes.standing)) ≡ e0.notes.standing → e1 ≡ appended (pool_operand p e0.notes.standing) [] (with_pool e0.notes.standing) e0 → e2 ≡ with_values xs e1 → e3 ≡ lined (one i) e2 → e4 ≡ left n e3 → e4 ≡ lined (on_pool p xs i) e0
on_pool_emitted p xs i n e0 e1 e2 e3 e4 below a b c d =
    let s = e0.notes.standing in
    let pool = with_pool s in
    in_two (pool_operand p s) (values_then xs i pool) [] [] pool s e0 e1 e4 a
    (values_then_emitted xs i n e1 e2 e3 e4 b c d
    ∙ ap (λ r. appended (values_then xs i r) [] (drop n (with_types xs r)) e1) (standing_is (pool_operand p s) [] pool e0 e1 a)
    ∙ ap (λ r. appended (values_then xs i pool) [] r e1) below)

-- a variable takes the address
pub allocate_emitted : (p v : Var) (size alignment : ValueCode) (out : ℕ) (e0 e1 e2 e3 e4 : Emitted) → out ≡ out_to e0.notes.standing v → e1 ≡ appended (pool_operand p e0.notes.standing) [] (with_pool e0.notes.standing) e0 → e2 ≡ with_values ((size, Count) ∷ (alignment, Count) ∷ []) e1 → e3 ≡ lined (one (InstrOf.TakeBlock pool_type out v.slot)) e2 → e4 ≡ left 3 e3 → e4 ≡ stated (library_allocate (Some (Variable p)) (Some (Variable v)) size alignment) None e0
allocate_emitted p v size alignment out e0 e1 e2 e3 e4 far a b c d =
    let xs = request size alignment in
    on_pool_emitted p xs (InstrOf.TakeBlock pool_type out v.slot) 3 e0 e1 e2 e3 e4 refl a b c d
    ∙ ap (λ k. lined (on_pool p xs (InstrOf.TakeBlock pool_type k v.slot)) e0) far

-- the part whose component takes it is an operand over the pool
pub pool_and_part_emitted : (p : Var) (b : Start) (steps : List Step) (t : ℕ) (e0 e1 e2 e3 : Emitted) → (let s = e0.notes.standing in e1 ≡ appended (pool_operand p s) [] (with_pool s) e0 → e2 ≡ lined (located_code b steps t) e1 → e3 ≡ standing (Operand (Record t) ∷ e2.notes.standing) e2 → e3 ≡ appended (pool_operand p s ++ located_code b steps t (with_pool s)) [] (with_pool_and_part t s) e0)
pool_and_part_emitted p b steps t e0 e1 e2 e3 x y z =
    let s = e0.notes.standing in
    let pool = with_pool s in
    let lines = pool_operand p s ++ located_code b steps t pool in
    let found : e2 ≡ appended lines [] pool e0 = in_two (pool_operand p s) (located_code b steps t pool) [] [] pool pool e0 e1 e2 x (lined_at (located_code b steps t) pool e1 e2 (standing_is (pool_operand p s) [] pool e0 e1 x) y) in
    stands_behind lines [] pool (with_pool_and_part t s) e0 e2 e3 found (z ∙ ap (λ r. standing (Operand (Record t) ∷ r) e2) (standing_is lines [] pool e0 e2 found))

-- and a component of it does
pub allocate_into_emitted : (p : Var) (b : Start) (steps : List Step) (t position : ℕ) (size alignment : ValueCode) (e0 e1 e2 : Emitted)
    → (let s = e0.notes.standing in let i = InstrOf.TakeBlockInto pool_type t position in e1 ≡ appended (pool_operand p s ++ located_code b steps t (with_pool s)) [] (with_pool_and_part t s) e0
    → (let r = e1.notes.standing in e2 ≡ appended (values_then (request size alignment) i r) [] (drop 2 r) e1 → e2 ≡ stated (library_allocate (Some (Variable p)) (Some (Part b steps t position)) size alignment) None e0))
allocate_into_emitted p b steps t position size alignment e0 e1 e2 x y =
    let s = e0.notes.standing in
    let pool = with_pool s in
    let over = with_pool_and_part t s in
    let lines = pool_operand p s in
    let found = located_code b steps t pool in
    let last = values_then (request size alignment) (InstrOf.TakeBlockInto pool_type t position) over in
    in_two (lines ++ found) last [] [] over s e0 e1 e2 x
    (y ∙ ap (λ r. appended (values_then (request size alignment) (InstrOf.TakeBlockInto pool_type t position) r) [] (drop 2 r) e1) (standing_is (lines ++ found) [] over e0 e1 x))
    ∙ ap (λ l. appended l [] s e0) (append_assoc lines found last)

pub deallocate_emitted : (p : Var) (address size alignment : ValueCode) (e0 e1 e2 e3 e4 : Emitted) → e1 ≡ appended (pool_operand p e0.notes.standing) [] (with_pool e0.notes.standing) e0 → e2 ≡ with_values ((address, Address) ∷ (size, Count) ∷ (alignment, Count) ∷ []) e1 → e3 ≡ lined (one (InstrOf.GiveBlock pool_type)) e2 → e4 ≡ left 4 e3 → e4 ≡ stated (library_deallocate (Some (Variable p)) address size alignment) None e0
deallocate_emitted p address size alignment e0 e1 e2 e3 e4 a b c d =
    on_pool_emitted p ((address, Address) ∷ (size, Count) ∷ (alignment, Count) ∷ []) (InstrOf.GiveBlock pool_type) 4 e0 e1 e2 e3 e4 refl a b c d

-- they are the same wherever control lands
pub allocated_anywhere : (p o : Option Reached) (size alignment : ValueCode) (landing : Option ℕ) (e0 e1 : Emitted) → e1 ≡ stated (library_allocate p o size alignment) None e0 → e1 ≡ stated (library_allocate p o size alignment) landing e0
allocated_anywhere None o size alignment landing e0 e1 a = a
allocated_anywhere (Some (Part b steps t position)) o size alignment landing e0 e1 a = a
allocated_anywhere (Some (Object b steps)) o size alignment landing e0 e1 a = a
allocated_anywhere (Some (Result b)) o size alignment landing e0 e1 a = a
allocated_anywhere (Some (Variable p)) None size alignment landing e0 e1 a = a
allocated_anywhere (Some (Variable p)) (Some (Variable v)) size alignment landing e0 e1 a = a
allocated_anywhere (Some (Variable p)) (Some (Part b steps t position)) size alignment landing e0 e1 a = a
allocated_anywhere (Some (Variable p)) (Some (Object b steps)) size alignment landing e0 e1 a = a
allocated_anywhere (Some (Variable p)) (Some (Result b)) size alignment landing e0 e1 a = a

pub deallocated_anywhere : (p : Option Reached) (address size alignment : ValueCode) (landing : Option ℕ) (e0 e1 : Emitted) → e1 ≡ stated (library_deallocate p address size alignment) None e0 → e1 ≡ stated (library_deallocate p address size alignment) landing e0
deallocated_anywhere None address size alignment landing e0 e1 a = a
deallocated_anywhere (Some (Variable p)) address size alignment landing e0 e1 a = a
deallocated_anywhere (Some (Part b steps t position)) address size alignment landing e0 e1 a = a
deallocated_anywhere (Some (Object b steps)) address size alignment landing e0 e1 a = a
deallocated_anywhere (Some (Result b)) address size alignment landing e0 e1 a = a
