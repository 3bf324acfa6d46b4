-- The least numbers of slots of the masters around declarations: what is raised is no greater than it has to be, and where nothing is raised
-- all is as it should be.
use Rattle.std.proofs.Common.{◌≡◌, ℕ, zero, suc, ◌+◌, ◌<◌, ◌≤◌, List, [], ◌∷◌, length, Option, Some, None, Bool, true, false, refl, sym, ap, ◌∙◌, subst, arith}
use Rattle.std.specs.Prelude.{◌||◌, nat_lt, slice_get}
use Rattle.std.proofs.lemmas.Bool.{ltb-true, ltb-false}
use Rattle.std.proofs.lemmas.Option.{slice_get_within}
use Rattle.ctl_code.specs.declared.code.Begun.{Begun}
use Rattle.ctl_code.specs.declared.code.Code.{Code}
use Rattle.ctl_code.specs.declared.code.Initial.TheVariants.{Computed}
use Rattle.ctl_code.specs.declared.code.Instr.{Instr}
use Rattle.ctl_code.specs.declared.code.Instr.TheVariants.{Call, CopyBack, Evaluate, EvaluateRecord, Declare, DeclareCopy, DeclarePool, New, NewCopy, TakeBlock, Free, FreePart, Fetch, Store, FetchPart, Locate, Designate, Assign}
use Rattle.ctl_code.specs.declared.code.Layout.{Layout}
use Rattle.ctl_code.specs.declared.code.Operations.{Operations}
use Rattle.ctl_code.specs.declared.homes.Declaration.{Declaration}
use Rattle.ctl_code.specs.declared.homes.Declaration.TheVariants.{Record}
use Rattle.ctl_code.specs.declared.kinds.Kind.{Kind}
use Rattle.ctl_code.specs.declared.kinds.Kind.TheVariants.{Default}
use Rattle.ctl_code.specs.Demands.{AreAround, AreFine, IsAround, IsFineAt, IsMet, demand_of, place_of, with_counts}
use Rattle.ctl_code.specs.Homes.{Below, Raises}
use Rattle.ctl_code.specs.Table.{default_of}
use Rattle.ctl_code.specs.Kinds.{or_empty, stack_at}
use Rattle.ctl_code.specs.Valid.{AreInitialsWithin, AreOperationsWithin, IsFine, IsInitialWithin, IsLaid, IsOperationWithin, IsValid, kinds_at}
use Rattle.ctl_code.specs.Windows.{Counts, HasHome, IsWithin, said, slots_at}

-- Raising ----------------------------------------------------------------------------------------

neither : (a b : Bool) → (a || b) ≡ false → (a ≡ false) × (b ≡ false)
neither true b e = absurd (cc e)
neither false b e = (refl, e)

-- for one thing and then for another
pub both_raised : (P Q : Counts → Type 0) (old mid new : Counts) (a b : Bool) → Raises P old mid a → Raises Q mid new b → Raises (λ c. P c × Q c) old new (a || b)
both_raised P Q old mid new a b first second = (
  λ most below p. second.0 most (first.0 most below p.0) p.1,
  λ e.
      let none = neither a b e in
      let x = first.1 none.0 in
      let y = second.1 none.1 in
      (y.0 ∙ x.0, λ most below p. (x.1 most below p.0, subst Q x.0 (y.1 most (subst (λ (c : Counts). Below c most) (sym x.0) below) p.1))),
)

-- what is another way to say it
pub raised_as : (P Q : Counts → Type 0) (old new : Counts) (a : Bool) → ((most : Counts) → Below old most → Q most → P most) → ((most : Counts) → Below old most → Q most → P old → Q old) → Raises P old new a → Raises Q old new a
raised_as P Q old new a to back h = (λ most below q. h.0 most below (to most below q), λ e. let x = h.1 e in (x.0, λ most below q. back most below q (x.1 most below (to most below q))))

-- for each number below one
abbrev pub UpTo : (Counts → ℕ → Type 0) → ℕ → Counts → Type 0
UpTo R n c = (i : ℕ) → i < n → R c i

one_more : (P : ℕ → Type 0) (n : ℕ) → ((i : ℕ) → i < n → P i) → P n → (i : ℕ) → i < n + 1 → P i
one_more P n before here i lt = by (nat_lt i n) refl
  where
    by : (b : Bool) → nat_lt i n ≡ b → P i
    by true is = before i (ltb-true i n is)
    by false is =
        let least = ltb-false i n is in
        let same : n ≡ i = omega (arith, least, lt) in
        subst P same here

pub one_more_up_to : (R : Counts → ℕ → Type 0) (n : ℕ) (old mid new : Counts) (a b : Bool) → Raises (UpTo R n) old mid a → Raises (λ c. R c n) mid new b → Raises (UpTo R (n + 1)) old new (a || b)
one_more_up_to R n old mid new a b first second =
    raised_as (λ c. UpTo R n c × R c n) (UpTo R (n + 1)) old new (a || b)
    (λ most below h. (λ i lt. h i (omega (arith, lt)), h n (omega arith)))
    (λ most below q p. one_more (R old) n p.0 p.1)
    (both_raised (UpTo R n) (λ c. R c n) old mid new a b first second)

pub all_up_to : (R : Counts → ℕ → Type 0) (n : ℕ) (old new : Counts) (a : Bool) → ((i : ℕ) → n ≤ i → R old i) → Raises (UpTo R n) old new a → Raises (λ c. (i : ℕ) → R c i) old new a
all_up_to R n old new a rest h = raised_as (UpTo R n) (λ c. (i : ℕ) → R c i) old new a (λ most below q i lt. q i) (λ most below q p i. by i p (nat_lt i n) refl) h
  where
    by : (i : ℕ) → UpTo R n old → (b : Bool) → nat_lt i n ≡ b → R old i
    by i p true is = p i (ltb-true i n is)
    by i p false is = rest i (ltb-false i n is)

-- Masters around an instruction -------------------------------------------------------------------

-- the master at a level has as many slots as that at this level around a declaration
abbrev pub HasLevel : List Kind → Declaration → Counts → ℕ → Type 0
HasLevel s of c level = said c of level ≤ slots_at c s level

pub home_raised : (s : List Kind) (of : Declaration) (n : ℕ) (old new : Counts) (a : Bool) → ((level : ℕ) → n ≤ level → said old of level ≡ 0) → Raises (UpTo (HasLevel s of) n) old new a → Raises (λ c. HasHome c s of) old new a
home_raised s of n old new a rest h = all_up_to (HasLevel s of) n old new a (λ level far. let none = rest level far in omega (arith, none)) h

-- the one master has as many slots as the other
abbrev pub HasLevelOf : Declaration → Declaration → Counts → ℕ → Type 0
HasLevelOf outer of c level = said c of level ≤ said c outer level

pub level_within : (old new : Counts) (outer of : Declaration) (level : ℕ) (raised : Bool) → Raises (λ c. said old of level ≤ said c outer level) old new raised → Raises (λ c. HasLevelOf outer of c level) old new raised
level_within old new outer of level raised h =
    raised_as (λ c. said old of level ≤ said c outer level) (λ c. HasLevelOf outer of c level) old new raised
    (λ most below q. let y = below of level in omega (arith, q, y))
    (λ most below q p. p)
    h

pub within_raised : (outer of : Declaration) (n : ℕ) (old new : Counts) (a : Bool) → ((level : ℕ) → n ≤ level → said old of level ≡ 0) → Raises (UpTo (HasLevelOf outer of) n) old new a → Raises (λ c. IsWithin c outer of) old new a
within_raised outer of n old new a rest h = all_up_to (HasLevelOf outer of) n old new a (λ level far. let none = rest level far in omega (arith, none)) h

-- Instructions ------------------------------------------------------------------------------------

-- what an instruction asks is true where it is as it should be
pub asks : (code : Code) (c : Counts) (place : ℕ) (i : Instr) (s : List Kind) → IsFine (with_counts c code) place i s → IsMet (with_counts c code) s (demand_of i)
asks code c place (Call f count copies) s h = h.0.3
asks code c place (Evaluate f count ty at) s h = h.1.3
asks code c place (EvaluateRecord f count t at) s h = h.0.3
asks code c place (Declare slot t) s h = h.3
asks code c place (DeclareCopy slot t) s h = h.3
asks code c place (DeclarePool slot t order at) s h = h.3
asks code c place (Assign t) s h = h.2
asks code c place (New access of ty at) s h = (h.5, h.6)
asks code c place (NewCopy access t ty at) s h = (h.3, h.4)
asks code c place (Free access out slot) s h = (h.0, h.3)
asks code c place (FreePart access t position) s h = h.0
asks code c place (CopyBack depth at out slot) s h = h.4
asks code c place (TakeBlock t out slot) s h = h.1
asks code c place (Fetch v ty to) s h = h.2
asks code c place (Store from ty out slot) s h = h.2
asks code c place (FetchPart v t position ty to) s h = h.2
asks code c place (Locate v t at) s h = h.2
asks code c place (Designate v ty to) s h = h.2
asks code c place _ s h = tt

-- and it is as it should be with other numbers that are as it asks
pub answered : (code : Code) (most c : Counts) (place : ℕ) (i : Instr) (s : List Kind) → IsFine (with_counts most code) place i s → IsMet (with_counts c code) s (demand_of i) → IsFine (with_counts c code) place i s
answered code most c place (Call f count copies) s h met = ((h.0.0, h.0.1, h.0.2, met), h.1, h.2)
answered code most c place (Evaluate f count ty at) s h met = (h.0, (h.1.0, h.1.1, h.1.2, met), h.2, h.3)
answered code most c place (EvaluateRecord f count t at) s h met = ((h.0.0, h.0.1, h.0.2, met), h.1, h.2)
answered code most c place (Declare slot t) s h met = (h.0, h.1, h.2, met)
answered code most c place (DeclareCopy slot t) s h met = (h.0, h.1, h.2, met)
answered code most c place (DeclarePool slot t order at) s h met = (h.0, h.1, h.2, met)
answered code most c place (Assign t) s h met = (h.0, h.1, met)
answered code most c place (New access of ty at) s h met = (h.0, h.1, h.2, h.3, h.4, met.0, met.1)
answered code most c place (NewCopy access t ty at) s h met = (h.0, h.1, h.2, met.0, met.1)
answered code most c place (Free access out slot) s h met = (met.0, h.1, h.2, met.1)
answered code most c place (FreePart access t position) s h met = (met, h.1)
answered code most c place (CopyBack depth at out slot) s h met = (h.0, h.1, h.2, h.3, met)
answered code most c place (TakeBlock t out slot) s h met = (h.0, met)
answered code most c place (Fetch v ty to) s h met = (h.0, h.1, met)
answered code most c place (Store from ty out slot) s h met = (h.0, h.1, met)
answered code most c place (FetchPart v t position ty to) s h met = (h.0, h.1, met)
answered code most c place (Locate v t at) s h met = (h.0, h.1, met)
answered code most c place (Designate v ty to) s h met = (h.0, h.1, met)
answered code most c place _ s h met = h

one_instr : (o : Option Instr) (x y : Instr) → o ≡ Some x → o ≡ Some y → x ≡ y
one_instr o x y e f = let same : Some x ≡ Some y = sym e ∙ f in cc same

pub instruction_raised : (code : Code) (place : ℕ) (i : Instr) (old new : Counts) (a : Bool) → slice_get code.instructions.items place ≡ Some i
    → Raises (λ c. IsMet (with_counts c code) (stack_at code.kinds place) (demand_of i)) old new a → Raises (λ c. IsFineAt (with_counts c code) place) old new a
instruction_raised code place i old new a found h =
    let s = stack_at code.kinds place in
    raised_as (λ c. IsMet (with_counts c code) s (demand_of i)) (λ c. IsFineAt (with_counts c code) place) old new a
    (λ c below q. asks code c place i s (q i found))
    (λ most below q p j there.
    let same = one_instr (slice_get code.instructions.items place) i j found there in
    subst (λ (x : Instr). IsFine (with_counts old code) place x s) same (answered code most old place i s (q i found) p))
    h

-- the one of a number, from the first one on or from the last one
abbrev pub IsFineBy : Code → Bool → Counts → ℕ → Type 0
IsFineBy code from_last c number = IsFineAt (with_counts c code) (place_of from_last (length code.instructions.items) number)

-- the number of a place is the place of its number
there_and_back : (from_last : Bool) (count place : ℕ) → place < count → place_of from_last count (place_of from_last count place) ≡ place
there_and_back true count place lt = omega (arith, lt)
there_and_back false count place lt = refl

number_within : (from_last : Bool) (count place : ℕ) → place < count → place_of from_last count place < count
number_within true count place lt = omega (arith, lt)
number_within false count place lt = lt

pub instructions_raised : (code : Code) (from_last : Bool) (old new : Counts) (a : Bool) → Raises (UpTo (IsFineBy code from_last) (length code.instructions.items)) old new a → Raises (λ c. AreFine (with_counts c code)) old new a
instructions_raised code from_last old new a h =
    let n = length code.instructions.items in
    raised_as (UpTo (IsFineBy code from_last) n) (λ c. AreFine (with_counts c code)) old new a
    (λ most below q number lt. q (place_of from_last n number))
    (λ most below q p place i there.
    let within = slice_get_within code.instructions.items place i there in
    subst (IsFineAt (with_counts old code)) (there_and_back from_last n place within) (p (place_of from_last n place) (number_within from_last n place within)) i there)
    h

-- Record types ------------------------------------------------------------------------------------

one_of : (o : Option Operations) (x y : Operations) → o ≡ Some x → o ≡ Some y → x ≡ y
one_of o x y e f = let same : Some x ≡ Some y = sym e ∙ f in cc same

-- each of these operations
abbrev pub EachWithin : Counts → ℕ → Operations → Type 0
EachWithin c t o = IsOperationWithin c t o.initialize × (IsOperationWithin c t o.finalize × (IsOperationWithin c t o.adjust × (IsOperationWithin c t o.allocate × IsOperationWithin c t o.deallocate)))

pub operations_raised : (code : Code) (t : ℕ) (o : Operations) (old new : Counts) (a : Bool) → slice_get code.records.items t ≡ Some o
    → Raises (λ c. EachWithin c t o) old new a → Raises (λ c. AreOperationsWithin (with_counts c code) t) old new a
operations_raised code t o old new a found h =
    raised_as (λ c. EachWithin c t o) (λ c. AreOperationsWithin (with_counts c code) t) old new a
    (λ c below q. subst (EachWithin c t) (one_of _ q.0 o q.1 found) (q.2, (q.3, (q.4, (q.5, q.6)))))
    (λ most below q p. (o, found, p.0, p.1.0, p.1.1.0, p.1.1.1.0, p.1.1.1.1))
    h

-- the component at a place
abbrev pub IsWithinAt : Code → ℕ → List Begun → Counts → ℕ → Type 0
IsWithinAt code t xs c i = (x : Begun) → slice_get xs i ≡ Some x → IsInitialWithin (with_counts c code) t (default_of code t x.position) x.initial

each_within : (code : Code) (c : Counts) (t : ℕ) (xs : List Begun) → ((i : ℕ) → IsWithinAt code t xs c i) → AreInitialsWithin (with_counts c code) t xs
each_within code c t [] h = tt
each_within code c t (x ∷ xs) h = (h 0 x refl, each_within code c t xs (λ i y e. h (suc i) y e))

within_each : (code : Code) (c : Counts) (t : ℕ) (xs : List Begun) → AreInitialsWithin (with_counts c code) t xs → (i : ℕ) → IsWithinAt code t xs c i
within_each code c t [] h i x e = absurd (cc e)
within_each code c t (x ∷ xs) h zero y e = let same : x ≡ y = cc e in subst (λ (z : Begun). IsInitialWithin (with_counts c code) t (default_of code t z.position) z.initial) same h.0
within_each code c t (x ∷ xs) h (suc i) y e = within_each code c t xs h.1 i y e

one_begun : (o : Option Begun) (x y : Begun) → o ≡ Some x → o ≡ Some y → x ≡ y
one_begun o x y e f = let same : Some x ≡ Some y = sym e ∙ f in cc same

pub initial_raised : (code : Code) (t : ℕ) (xs : List Begun) (i : ℕ) (x : Begun) (old new : Counts) (a : Bool) → slice_get xs i ≡ Some x → Raises (λ c. IsInitialWithin (with_counts c code) t (default_of code t x.position) x.initial) old new a → Raises (λ c. IsWithinAt code t xs c i) old new a
initial_raised code t xs i x old new a found h =
    raised_as (λ c. IsInitialWithin (with_counts c code) t (default_of code t x.position) x.initial) (λ c. IsWithinAt code t xs c i) old new a
    (λ c below q. q x found)
    (λ most below q p y there. subst (λ (z : Begun). IsInitialWithin (with_counts old code) t (default_of code t z.position) z.initial) (one_begun (slice_get xs i) x y found there) p)
    h

-- the type whose default is evaluated at a place
pub one_default : (o : Option (List Kind)) (l m n i : ℕ) → o ≡ Some (Default l m ∷ []) → o ≡ Some (Default n i ∷ []) → m ≡ i
one_default o l m n i e f = let same : Some (Default l m ∷ []) ≡ Some (Default n i ∷ []) = sym e ∙ f in cc same

pub default_raised : (code : Code) (t place level number : ℕ) (old new : Counts) (a : Bool) → kinds_at code place ≡ Some (Default level number ∷ [])
    → Raises (λ c. IsWithin c (Record t) (Record number)) old new a → Raises (λ c. IsInitialWithin (with_counts c code) t place Computed) old new a
default_raised code t place level number old new a found h =
    raised_as (λ c. IsWithin c (Record t) (Record number)) (λ c. IsInitialWithin (with_counts c code) t place Computed) old new a
    (λ c below q. q level number found)
    (λ most below q p l n there. subst (λ m. IsWithin old (Record t) (Record m)) (one_default (kinds_at code place) level number l n found there) p)
    h

pub initials_raised : (code : Code) (t : ℕ) (xs : List Begun) (n : ℕ) (old new : Counts) (a : Bool) → length xs ≤ n → Raises (UpTo (IsWithinAt code t xs) n) old new a → Raises (λ c. AreInitialsWithin (with_counts c code) t xs) old new a
initials_raised code t xs n old new a all h =
    raised_as (λ c. (i : ℕ) → IsWithinAt code t xs c i) (λ c. AreInitialsWithin (with_counts c code) t xs) old new a
    (λ c below q. within_each code c t xs q)
    (λ most below q p. each_within code old t xs p)
    (all_up_to (IsWithinAt code t xs) n old new a (λ i far x there. let within = slice_get_within xs i x there in absurd (omega (arith, within, far, all))) h)

-- the record type of a number
abbrev pub IsAroundAt : Code → Counts → ℕ → Type 0
IsAroundAt code c t = (x : Layout) → slice_get code.layouts.items t ≡ Some x → IsAround (with_counts c code) t x

one_layout : (o : Option Layout) (x y : Layout) → o ≡ Some x → o ≡ Some y → x ≡ y
one_layout o x y e f = let same : Some x ≡ Some y = sym e ∙ f in cc same

pub layout_raised : (code : Code) (t : ℕ) (x : Layout) (old new : Counts) (a : Bool) → slice_get code.layouts.items t ≡ Some x → Raises (λ c. IsAround (with_counts c code) t x) old new a → Raises (λ c. IsAroundAt code c t) old new a
layout_raised code t x old new a found h =
    raised_as (λ c. IsAround (with_counts c code) t x) (λ c. IsAroundAt code c t) old new a
    (λ c below q. q x found)
    (λ most below q p y there. subst (λ (z : Layout). IsAround (with_counts old code) t z) (one_layout (slice_get code.layouts.items t) x y found there) p)
    h

pub layouts_raised : (code : Code) (n : ℕ) (old new : Counts) (a : Bool) → length code.layouts.items ≤ n → Raises (UpTo (IsAroundAt code) n) old new a → Raises (λ c. AreAround (with_counts c code)) old new a
layouts_raised code n old new a all h = all_up_to (IsAroundAt code) n old new a (λ t far x there. let within = slice_get_within code.layouts.items t x there in absurd (omega (arith, within, far, all))) h

-- Whole code --------------------------------------------------------------------------------------

laid_with : (code : Code) (most c : Counts) (t : ℕ) (x : Layout) → IsLaid (with_counts most code) t x → IsAround (with_counts c code) t x → IsLaid (with_counts c code) t x
laid_with code most c t x h around = record {
  operations = h.operations;
  storage = h.storage;
  types = h.types;
  defaults = h.defaults;
  units = h.units;
  rise = h.rise;
  controlled = h.controlled;
  operations_within = around.0;
  types_within = around.1;
}

valid_with : (code : Code) (most c : Counts) → IsValid (with_counts most code) → AreFine (with_counts c code) → AreAround (with_counts c code) → IsValid (with_counts c code)
valid_with code most c h fine around = record {
  long = h.long;
  start = h.start;
  each = λ place i stack got at. subst (IsFine (with_counts c code) place i) (ap or_empty at) (fine place i got);
  room = h.room;
  entries = h.entries;
  records = h.records;
  formals = h.formals;
  storage = h.storage;
  layouts = λ t x there. laid_with code most c t x (h.layouts t x there) (around t x there);
}

-- each instruction has its stack in the table
all_fine : (code : Code) → IsValid code → AreFine code
all_fine code h place i got = by (kinds_at code place) refl
  where
    by : (o : Option (List Kind)) → kinds_at code place ≡ o → IsFine code place i (stack_at code.kinds place)
    by (Some stack) at = subst (IsFine code place i) (sym (ap or_empty at)) (h.each place i stack got at)
    by None at =
        let within = slice_get_within code.instructions.items place i got in
        let long = h.long in
        absurd (no_stack code.kinds place at (omega (arith, within, long)))
      where
        no_stack : (ks : List (List Kind)) (n : ℕ) → slice_get ks n ≡ None → n < length ks → ⊥
        no_stack [] n none lt = absurd (omega (arith, lt))
        no_stack (k ∷ ks) zero none lt = absurd (cc none)
        no_stack (k ∷ ks) (suc n) none lt = no_stack ks n none (omega (arith, lt))

pub whole_raised : (code : Code) (old new : Counts) (a : Bool) → Raises (λ c. AreFine (with_counts c code) × AreAround (with_counts c code)) old new a → Raises (λ c. IsValid (with_counts c code)) old new a
whole_raised code old new a h =
    raised_as (λ c. AreFine (with_counts c code) × AreAround (with_counts c code)) (λ c. IsValid (with_counts c code)) old new a
    (λ c below q. (all_fine (with_counts c code) q, λ t x there. let laid = q.layouts t x there in (laid.operations_within, laid.types_within)))
    (λ most below q p. valid_with code most old q p.0 p.1)
    h
