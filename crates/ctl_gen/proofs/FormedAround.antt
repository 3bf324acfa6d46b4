-- What stands in the window agrees with the masters around: as many stand there, each with as many slots. And where a stretch can be left.
use Rattle.std.proofs.Common.{◌≡◌, ℕ, zero, suc, ◌+◌, ◌-◌, ◌<◌, ◌≤◌, List, [], ◌∷◌, ◌++◌, length, take, Option, Some, None, Bool, true, false, refl, sym, ap, ◌∙◌, subst, arith, length-append}
use Rattle.std.specs.Prelude.{nat_eq, nat_lt, if◌then◌else◌, slice_get}
use Rattle.std.proofs.lemmas.Bool.{eq-eqb, eqb-true, ltb-false, ltb-true}
use Rattle.std.proofs.lemmas.Bool.Decides.{nat_tests}
use Rattle.std.proofs.lemmas.Option.{slice_get_within}
use Rattle.ctl_program.specs.declared.types.Ty.{Ty}
use Rattle.ctl_program.specs.declared.types.Ty.TheVariants.{Integer}
use Rattle.ctl_program.specs.declared.types.Ty.TheVariants as TyOf
use Rattle.ctl_program.specs.declared.types.Var.{Var}
use Rattle.ctl_well_typed.specs.Setting as W
use Rattle.ctl_code.specs.declared.kinds.Kind.{Kind}
use Rattle.ctl_code.specs.declared.kinds.Kind.TheVariants.{Operand, RecordValue, Block, Body, Default}
use Rattle.ctl_code.specs.declared.code.Code.{Code}
use Rattle.ctl_code.specs.declared.homes.Declaration.{Declaration}
use Rattle.ctl_code.specs.declared.homes.Declaration.TheVariants.{Subprogram, Record}
use Rattle.ctl_code.specs.declared.kinds.MasterAt.{MasterAt}
use Rattle.ctl_code.specs.declared.kinds.MasterAt.TheVariants.{Entered, Around as AroundOf}
use Rattle.ctl_code.specs.Windows.{Counts, HasHome, HasHomeOf, HasSlot, OwnsSlot, depth, height, master_at, said, slot_over, slots_at, slots_of, variable_at}
use Rattle.ctl_code.specs.Valid.{HasCollection, HasVariable, IsAtEnd, IsDeclarable, IsFine, IsKnown, Leads, over_numbers}
use Rattle.ctl_layout.specs.Around.{Landing, OutOfMaster, BeforeLoop, Around, behind, land, further, newest_at, out_to}
use Rattle.ctl_layout.specs.Layout.{leaves_code}
use Rattle.ctl_gen.proofs.Entered.{IsEntered}
use Rattle.ctl_gen.proofs.Formed.{FormedAt, leads_at}

-- Slots -------------------------------------------------------------------------------------------

-- there is a cell for each slot of a master
slot_there : (below slots slot : ℕ) → slot < slots → slot_over below slots slot ≡ Some (below + slot)
slot_there below slots slot lt = tested (nat_lt slot slots) refl
  where
    tested : (b : Bool) → nat_lt slot slots ≡ b → (if b then Some (below + slot) else None) ≡ Some (below + slot)
    tested true e = refl
    tested false e = absurd (grind (arith, nat_tests))

-- and so for each slot of the newest one
pub cell_there : (s : List Kind) (slot : ℕ) → OwnsSlot s slot → (at : ℕ) × (variable_at s 0 slot ≡ Some at)
cell_there [] slot h = absurd h
cell_there (Operand ty ∷ s) slot h = cell_there s slot h
cell_there (RecordValue ∷ s) slot h = cell_there s slot h
cell_there (Block slots ∷ s) slot h = (height s + slot, slot_there (height s) slots slot h)
cell_there (Body level slots number ∷ s) slot h = (height s + slot, slot_there (height s) slots slot h)
cell_there (Default level number ∷ s) slot h = absurd h

same_number : (n : ℕ) → nat_eq n n ≡ true
same_number n = eq-eqb n n refl

not_less : (n : ℕ) → nat_lt n n ≡ false
not_less n = by (nat_lt n n) refl
  where
    by : (b : Bool) → nat_lt n n ≡ b → b ≡ false
    by true e = absurd (let less = ltb-true n n e in omega (arith, less))
    by false e = refl

-- where the body has entered the newest master, it has its slots
owned : (counts : Counts) (s : List Kind) (slot : ℕ) → IsEntered s → HasSlot counts s 0 slot → OwnsSlot s slot
owned counts [] slot entered h = absurd entered
owned counts (Operand ty ∷ s) slot entered h = owned counts s slot entered h
owned counts (RecordValue ∷ s) slot entered h = owned counts s slot entered h
owned counts (Block slots ∷ s) slot entered h =
    let level : depth s + 1 - 1 - 0 ≡ depth s = omega arith in
    let there = ap (λ (l : ℕ). master_at (Block slots ∷ s) l) level ∙ ap (λ (b : Bool). if b then Entered slots else master_at s (depth s)) (same_number (depth s)) in
    subst (λ (m : MasterAt). slot < slots_of counts m (depth s + 1 - 1 - 0)) there h.1
owned counts (Body own slots number ∷ s) slot entered h =
    let level : own + 1 - 1 - 0 ≡ own = omega arith in
    let there = ap (λ (l : ℕ). master_at (Body own slots number ∷ s) l) level
    ∙ ap (λ (b : Bool). if b then AroundOf (Subprogram number) else (if nat_eq own own then Entered slots else Entered 0)) (not_less own)
    ∙ ap (λ (b : Bool). if b then Entered slots else Entered 0) (same_number own) in
    subst (λ (m : MasterAt). slot < slots_of counts m (own + 1 - 1 - 0)) there h.1
owned counts (Default level number ∷ s) slot entered h = absurd entered

-- what is declared at a level is so many masters further out than the newest
out_by : (d level out : ℕ) → level + out ≡ d → 1 ≤ level → (if nat_lt (level - 1) d then d - 1 - (level - 1) else d) ≡ out
out_by d level out e some = tested (nat_lt (level - 1) d) refl
  where
    tested : (b : Bool) → nat_lt (level - 1) d ≡ b → (if b then d - 1 - (level - 1) else d) ≡ out
    tested true g = omega (arith, e, some)
    tested false g = absurd (grind (arith, nat_tests))

-- Frames -----------------------------------------------------------------------------------------

-- how many slots a master has, if it is there
abbrev pub size_of : Option W.Frame → ℕ
size_of None = 0
size_of (Some f) = length f

-- the one at a level
abbrev pub size_at : W.Frames → ℕ → ℕ
size_at env level = size_of (slice_get env level)

-- the innermost of these and one more
innermost : (env : W.Frames) (f : W.Frame) → slice_get (env ++ f ∷ []) (length env) ≡ Some f
innermost [] f = refl
innermost (x ∷ env) f = innermost env f

-- each other one is one of these
others : (env : W.Frames) (f : W.Frame) (level : ℕ) → (level ≡ length env → ⊥) → slice_get (env ++ f ∷ []) level ≡ slice_get env level
others [] f zero other = absurd (other refl)
others [] f (suc level) other = refl
others (x ∷ env) f zero other = refl
others (x ∷ env) f (suc level) other = others env f level (λ e. other (ap suc e))

-- there is none behind them
none_behind : (env : W.Frames) (level : ℕ) → length env ≤ level → slice_get env level ≡ None
none_behind [] level far = refl
none_behind (x ∷ env) zero far = absurd (omega (arith, far))
none_behind (x ∷ env) (suc level) far = none_behind env level (omega (arith, far))

-- where a frame is among the first ones
taken_there : (n : ℕ) (env : W.Frames) (level : ℕ) (f : W.Frame) → slice_get (take n env) level ≡ Some f → slice_get env level ≡ Some f
taken_there zero env level f e = absurd (cc e)
taken_there (suc n) [] level f e = e
taken_there (suc n) (x ∷ env) zero f e = e
taken_there (suc n) (x ∷ env) (suc level) f e = taken_there n env level f e

-- masters that stand around others are there with as many slots
pub size_around : (home env : W.Frames) (level : ℕ) → W.Encloses home env → size_at home level ≤ size_at env level
size_around home env level encloses = by (slice_get home level) refl
  where
    by : (o : Option W.Frame) → slice_get home level ≡ o → size_of o ≤ size_at env level
    by None e = omega arith
    by (Some f) e =
        let there = taken_there (length home) env level f (subst (λ fs. slice_get fs level ≡ Some f) (sym encloses) e) in
        let same : size_at env level ≡ length f = ap size_of there in
        omega (arith, same)

-- Masters around ----------------------------------------------------------------------------------

-- as many masters stand there as are around, each slot of them that is for something is there, and each has as many slots
abbrev pub Surrounds : Code → W.Frames → List Kind → Type 0
Surrounds code env s = (depth s ≡ length env) × ((v : Var) (h : W.Holding) → W.Names env v h → HasSlot code.homes s (out_to s v) v.slot) × ((level : ℕ) → slots_at code.homes s level ≡ size_at env level)

-- and the body has entered the newest of them
abbrev pub Agrees : Code → W.Frames → List Kind → Type 0
Agrees code env s = Surrounds code env s × IsEntered s

-- a variable that is named there
abbrev pub IsNamed : W.Frames → Var → Type 0
IsNamed env v = (h : W.Holding) × W.Names env v h

-- the code says of the masters around a declaration no more than of those around
abbrev pub Granted : Code → W.Frames → Declaration → Type 0
Granted code env of = (level : ℕ) → said code.homes of level ≤ size_at env level

-- nor of those around the declaration of a type, if that is a record type
abbrev pub GrantedOf : Code → W.Frames → Ty → Type 0
GrantedOf code env (TyOf.Record t) = Granted code env (Record t)
GrantedOf code env ty = Unit {0}

-- objects of a type can be made there
abbrev pub IsCreatable : Code → W.Frames → Ty → Type 0
IsCreatable code env of = IsKnown code of × GrantedOf code env of

-- so they stand there
pub granted_home : (code : Code) (env : W.Frames) (s : List Kind) (of : Declaration) → Surrounds code env s → Granted code env of → HasHome code.homes s of
granted_home code env s of a granted level = let there = a.2 level in let least = granted level in omega (arith, there, least)

pub granted_home_of : (code : Code) (env : W.Frames) (s : List Kind) (of : Ty) → Surrounds code env s → GrantedOf code env of → HasHomeOf code.homes s of
granted_home_of code env s (TyOf.Record t) a granted = granted_home code env s (Record t) a granted
granted_home_of code env s ty a granted = tt

-- an object of the record type of a number can be declared or assigned to there
abbrev pub MayHold : Code → List Kind → ℕ → Type 0
MayHold code s t = IsDeclarable code (depth s) t × HasHome code.homes s (Record t)

-- where numbers stand on top
pub surrounds_over : (code : Code) (n : ℕ) (env : W.Frames) (s : List Kind) → Surrounds code env s → Surrounds code env (over_numbers n s)
surrounds_over code zero env s a = a
surrounds_over code (suc n) env s a = surrounds_over code n env (Operand Integer ∷ s) a

-- a slot that is for something is there
slot_named : (counts : Counts) (env : W.Frames) (s : List Kind) → depth s ≡ length env → ((level : ℕ) → slots_at counts s level ≡ size_at env level) → (v : Var) (h : W.Holding) → W.Names env v h → HasSlot counts s (out_to s v) v.slot
slot_named counts env s deep sizes v h (W.slot {level = level} {number = number} {f = f} master held) =
    let lt = slice_get_within env level f master in
    let m = depth s - suc level in
    let out : out_to s (record { level = suc level; slot = number }) ≡ m = out_by (depth s) (suc level) m (omega (arith, deep, lt)) (omega arith) in
    let back : depth s - 1 - m ≡ level = omega (arith, deep, lt) in
    let size : slots_at counts s level ≡ length f = sizes level ∙ ap size_of master in
    let within = slice_get_within f number h held in
    subst (λ o. HasSlot counts s o number) (sym out) (omega (arith, deep, lt), subst (λ l. number < slots_at counts s l) (sym back) (omega (arith, size, within)))

surrounds_by : (code : Code) (env : W.Frames) (s : List Kind) → depth s ≡ length env → ((level : ℕ) → slots_at code.homes s level ≡ size_at env level) → Surrounds code env s
surrounds_by code env s deep sizes = (deep, slot_named code.homes env s deep sizes, sizes)

-- inside a block
pub agrees_inside : (code : Code) (env : W.Frames) (f : W.Frame) (s : List Kind) → Agrees code env s → Agrees code (env ++ f ∷ []) (Block (length f) ∷ s)
agrees_inside code env f s a = (surrounds_by code (env ++ f ∷ []) (Block (length f) ∷ s) (let e = a.0.0 in omega (arith, e, length-append env (f ∷ []))) (λ level. by level (nat_eq level (depth s)) refl), tt)
  where
    by : (level : ℕ) (b : Bool) → nat_eq level (depth s) ≡ b → slots_of code.homes (if b then Entered (length f) else master_at s level) level ≡ size_at (env ++ f ∷ []) level
    by level true e =
        let same : level ≡ length env = eqb-true level (depth s) e ∙ a.0.0 in
        sym (ap (size_at (env ++ f ∷ [])) same ∙ ap size_of (innermost env f))
    by level false e =
        let other : level ≡ length env → ⊥ = λ same. let here = eq-eqb level (depth s) (same ∙ sym a.0.0) in cc (here, e) in
        a.0.2 level ∙ sym (ap size_of (others env f level other))

-- a number that is no less than another one, and not the same
past_it : (m n : ℕ) → n ≤ m → nat_eq m n ≡ false → n + 1 ≤ m
past_it m n least apart = by (nat_lt n m) refl
  where
    by : (b : Bool) → nat_lt n m ≡ b → n + 1 ≤ m
    by true e = let less = ltb-true n m e in omega (arith, less)
    by false e =
        let most = ltb-false n m e in
        let same : m ≡ n = omega (arith, least, most) in
        absurd (let here = eq-eqb m n same in cc (here, apart))

-- in a body, of the masters around whose declaration the code says what they are
pub agrees_body : (code : Code) (home : W.Frames) (f : W.Frame) (level number : ℕ) → level ≡ length home → ((l : ℕ) → said code.homes (Subprogram number) l ≡ size_at home l) → Agrees code (home ++ f ∷ []) (Body level (length f) number ∷ [])
agrees_body code home f own number deep told = (surrounds_by code (home ++ f ∷ []) (Body own (length f) number ∷ []) (omega (arith, deep, length-append home (f ∷ []))) (λ level. by level (nat_lt level own) refl), tt)
  where
    here : (level : ℕ) (b : Bool) → nat_lt level own ≡ false → nat_eq level own ≡ b → slots_of code.homes (if b then Entered (length f) else Entered 0) level ≡ size_at (home ++ f ∷ []) level
    here level true past e =
        let same : level ≡ length home = eqb-true level own e ∙ deep in
        sym (ap (size_at (home ++ f ∷ [])) same ∙ ap size_of (innermost home f))
    here level false past e =
        let far : length (home ++ f ∷ []) ≤ level = (let size = length-append home (f ∷ []) in let beyond = past_it level own (ltb-false level own past) e in omega (arith, size, beyond, deep)) in
        sym (ap size_of (none_behind (home ++ f ∷ []) level far))

    by : (level : ℕ) (b : Bool) → nat_lt level own ≡ b → slots_of code.homes (if b then AroundOf (Subprogram number) else (if nat_eq level own then Entered (length f) else Entered 0)) level ≡ size_at (home ++ f ∷ []) level
    by level true e =
        let other : level ≡ length home → ⊥ = λ same. let less = ltb-true level own e in omega (arith, less, same, deep) in
        told level ∙ sym (ap size_of (others home f level other))
    by level false e = here level (nat_eq level own) e refl

-- where a default is evaluated of a record type of which the code says that (3.8)
pub surrounds_default : (code : Code) (home : W.Frames) (own number : ℕ) → own ≡ length home → ((l : ℕ) → said code.homes (Record number) l ≡ size_at home l) → Surrounds code home (Default own number ∷ [])
surrounds_default code home own number deep told = surrounds_by code home (Default own number ∷ []) deep (λ level. by level (nat_lt level own) refl)
  where
    by : (level : ℕ) (b : Bool) → nat_lt level own ≡ b → slots_of code.homes (if b then AroundOf (Record number) else Entered 0) level ≡ size_at home level
    by level true e = told level
    by level false e = let beyond = ltb-false level own e in sym (ap size_of (none_behind home level (omega (arith, beyond, deep))))

-- Variables of the newest master ------------------------------------------------------------------

some_master : (env : W.Frames) (v : Var) (h : W.Holding) → W.Names env v h → (1 ≤ v.level) × (v.level ≤ length env)
some_master env v h (W.slot {level = level} master held) = let lt = slice_get_within env level _ master in (omega arith, omega (arith, lt))

out_of_newest : (code : Code) (env : W.Frames) (s : List Kind) (v : Var) (h : W.Holding) → Surrounds code env s → W.Names env v h → v.level ≡ length env → out_to s v ≡ 0
out_of_newest code env s v h a names newest = let deep = a.0 in out_by (depth s) v.level 0 (omega (arith, newest, deep)) (some_master env v h names).0

pub newest_slot : (code : Code) (env : W.Frames) (s : List Kind) (v : Var) (h : W.Holding) → Agrees code env s → W.Names env v h → v.level ≡ length env → OwnsSlot s v.slot
newest_slot code env s v h a names newest = owned code.homes s v.slot a.1 (subst (λ o. HasSlot code.homes s o v.slot) (out_of_newest code env s v h a.0 names newest) (a.0.1 v h names))

pub newest_there : (code : Code) (env : W.Frames) (s : List Kind) (v : Var) (h : W.Holding) → Agrees code env s → W.Names env v h → v.level ≡ length env → (at : ℕ) × (newest_at s v ≡ Some at) × (variable_at s 0 v.slot ≡ Some at)
newest_there code env s v h a names newest =
    let out = out_of_newest code env s v h a.0 names newest in
    let there = cell_there s v.slot (newest_slot code env s v h a names newest) in
    (there.0, rw out there.1, there.1)

-- Variables that are named further out ------------------------------------------------------------

-- what is named around a declaration is named where that is seen
pub named_around : (home env : W.Frames) (v : Var) (h : W.Holding) → W.Encloses home env → W.Names home v h → W.Names env v h
named_around home env v h encloses (W.slot {level = level} {f = f} master held) = W.slot (taken_there (length home) env level f (subst (λ fs. slice_get fs level ≡ Some f) (sym encloses) master)) held

pub variable_there : (code : Code) (env : W.Frames) (s : List Kind) (v : Var) (h : W.Holding) → Surrounds code env s → W.Names env v h → HasVariable code.homes s v
variable_there code env s v h a names =
    let deep = a.0 in
    let around = some_master env v h names in
    let high = around.1 in
    let out = out_by (depth s) v.level (depth s - v.level) (omega (arith, deep, high)) around.0 in
    (around.0, omega (arith, deep, high), subst (λ o. HasSlot code.homes s o v.slot) out (a.1 v h names))

-- wherever these masters stand, the collection of an access type has its slot there
abbrev pub IsHoused : Code → W.Frames → ℕ → Type 0
IsHoused code env access = (s : List Kind) → Surrounds code env s → HasCollection code s access

-- Where a stretch can be left ----------------------------------------------------------------------

module _ (code : Code) where
  abbrev LeavesBy : ℕ → Landing → List Kind → Type 0
  LeavesBy p OutOfMaster s = IsAtEnd s
  LeavesBy p (BeforeLoop back) s = (landing : ℕ) × (landing + back ≡ p) × Leads code landing s

  -- control at a place leaves the newest master, or goes back to a landing, before which the same stands
  abbrev pub CanLeave : ℕ → Around → Type 0
  CanLeave p a = LeavesBy p a.landing a.stack

  left_fine : (p : ℕ) (e : Landing) (s : List Kind) → LeavesBy p e s → IsFine code p (land e) s
  left_fine p OutOfMaster s h = h
  left_fine p (BeforeLoop back) s (landing, from, lead) =
      let count : back ≤ p = omega (arith, from) in
      let there : landing ≡ p - back = omega (arith, from) in
      (count, leads_at code landing (p - back) s there lead)

  pub leaves_formed : (p : ℕ) (a : Around) → CanLeave p a → FormedAt code p (leaves_code a) a.stack (Some a.stack)
  leaves_formed p a can h = (h.0, (left_fine p a.landing a.stack can, tt))

  left_further : (p n q : ℕ) (e : Landing) (s : List Kind) → p + n ≡ q → LeavesBy p e s → LeavesBy q (further n e) s
  left_further p n q OutOfMaster s same h = h
  left_further p n q (BeforeLoop back) s same (landing, from, lead) = (landing, omega (arith, from, same), lead)

  -- so many instructions further on
  pub leave_behind : (p n q : ℕ) (a : Around) → p + n ≡ q → CanLeave p a → CanLeave q (behind n a)
  leave_behind p n q a same h = left_further p n q a.landing a.stack same h
