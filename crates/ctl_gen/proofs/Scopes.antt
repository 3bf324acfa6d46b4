-- Operations are called where their type is declared: of a type that is declared around a place, its own ones are in scope there, and so are
-- those of its components.
use Rattle.std.proofs.Common.{◌≡◌, ℕ, zero, suc, ◌<◌, ◌≤◌, List, [], ◌∷◌, length, Option, Some, None, Bool, true, false, sym, ap, ◌∙◌, subst, arith}
use Rattle.std.specs.Prelude.{slice_get, if◌then◌else◌}
use Rattle.ctl_program.specs.declared.types.Ty.TheVariants.{Record}
use Rattle.ctl_program.specs.declared.operators.SubprogramKind.{SubprogramKind}
use Rattle.ctl_program.specs.declared.operators.SubprogramKind.TheVariants.{Procedure}
use Rattle.ctl_meaning.specs.World.{Object, World}
use Rattle.ctl_meaning.specs.Lists.{keep, pull_item, pull_rest}
use Rattle.ctl_meaning.specs.Changes.{object_at, home_of}
use Rattle.ctl_meaning.specs.Types.{Tables}
use Rattle.ctl_code.specs.declared.code.Begun.{Begun}
use Rattle.ctl_code.specs.declared.code.Initial.{Initial}
use Rattle.ctl_code.specs.declared.code.Initial.TheVariants.{Constant, ByType, Computed}
use Rattle.ctl_code.specs.declared.code.Layout.{Layout}
use Rattle.ctl_code.specs.declared.code.Operations.{Operations}
use Rattle.ctl_code.specs.declared.code.Code.{Code}
use Rattle.ctl_code.specs.Table.{begun_in, begun_of, called_among, controlled_in, controlled_of, operation_in, operation_of}
use Rattle.ctl_code.specs.Valid.{AreBegunBy, AreInScope, HasFormals, IsBegunBy, IsDeclarable, IsDeclaredIn, IsInScope, IsStorageInScope, IsValid, MayLie, PositionsRise, TakesObject, TakesStorage, storage_formals}
use Rattle.ctl_code.proofs.Declarable.{layout_of}
use Rattle.ctl_gen.proofs.Each.{IfFound}
use Rattle.ctl_gen.proofs.Collections.{home, belongs_home}
use Rattle.ctl_gen.proofs.Worlds.{Fits, IsNested, Settled, Since, object_fits, origin_nested, still_home}

-- Inside more masters -------------------------------------------------------------------------------

pub in_scope_later : (code : Code) (a b : ℕ) (x : Option ℕ) → a ≤ b → IsInScope code a x → IsInScope code b x
in_scope_later code a b None le h = tt
in_scope_later code a b (Some f) le h = let level = h.2 in (h.0, h.1, omega (arith, level, le))

pub declarable_later : (code : Code) (a b t : ℕ) → a ≤ b → IsDeclarable code a t → IsDeclarable code b t
declarable_later code a b t le h = by (slice_get code.layouts.items t) h
  where
    by : (o : Option Layout) → IsDeclaredIn a o → IsDeclaredIn b o
    by None h1 = absurd h1
    by (Some x) h1 = omega (arith, h1, le)

begun_by_later : (code : Code) (a b : ℕ) (x : Initial) → a ≤ b → IsBegunBy code a x → IsBegunBy code b x
begun_by_later code a b (Constant v) le h = tt
begun_by_later code a b Computed le h = tt
begun_by_later code a b (ByType u) le h = declarable_later code a b u le h

begun_later : (code : Code) (a b : ℕ) (xs : List Begun) → a ≤ b → AreBegunBy code a xs → AreBegunBy code b xs
begun_later code a b [] le h = tt
begun_later code a b (x ∷ xs) le h = (begun_by_later code a b x.initial le h.0, begun_later code a b xs le h.1)

-- Operations ----------------------------------------------------------------------------------------

-- those of a type that is declared in so many masters
pub operations_in : (code : Code) → IsValid code → (n t : ℕ) → IsDeclarable code n t → AreInScope code n t
operations_in code valid n t inside =
    let has = layout_of code n t inside in
    let at = (valid.layouts t has.layout has.found).operations in
    (at.0, at.1, in_scope_later code has.layout.level n at.0.initialize has.level at.2, in_scope_later code has.layout.level n at.0.finalize has.level at.3, in_scope_later code has.layout.level n at.0.adjust has.level at.4)

-- a body of this kind can be called where so many masters are around, with so many actuals
abbrev pub IsCallable : Code → SubprogramKind → ℕ → ℕ → ℕ → Type 0
IsCallable code kind masters f count = IsInScope code masters (Some f) × HasFormals code kind f count

-- one that is in scope, and takes its object, can be called
operation_callable : (code : Code) (n t f : ℕ) (g : Operations → Option ℕ) (o : Operations) → slice_get code.records.items t ≡ Some o → operation_of g code t ≡ Some f → IsInScope code n (g o) → TakesObject code (g o) → IsCallable code Procedure n f 1
operation_callable code n t f g o at op scope takes =
    let named : g o ≡ Some f = sym (ap (operation_in g) at) ∙ op in
    (subst (IsInScope code n) named scope, subst (TakesObject code) named takes)

pub initialize_in : (code : Code) → IsValid code → (n t f : ℕ) → IsDeclarable code n t → operation_of (λ x. x.initialize) code t ≡ Some f → IsCallable code Procedure n f 1
initialize_in code valid n t f inside op = let at = operations_in code valid n t inside in operation_callable code n t f (λ x. x.initialize) at.0 at.1 op at.2 (valid.formals t at.0 at.1).0

pub finalize_in : (code : Code) → IsValid code → (n t f : ℕ) → IsDeclarable code n t → operation_of (λ x. x.finalize) code t ≡ Some f → IsCallable code Procedure n f 1
finalize_in code valid n t f inside op = let at = operations_in code valid n t inside in operation_callable code n t f (λ x. x.finalize) at.0 at.1 op at.3 (valid.formals t at.0 at.1).1

pub adjust_in : (code : Code) → IsValid code → (n t f : ℕ) → IsDeclarable code n t → operation_of (λ x. x.adjust) code t ≡ Some f → IsCallable code Procedure n f 1
adjust_in code valid n t f inside op = let at = operations_in code valid n t inside in operation_callable code n t f (λ x. x.adjust) at.0 at.1 op at.4 (valid.formals t at.0 at.1).2

-- Allocate and Deallocate of a type of pools that is declared in so many masters, where the user wrote them (13.11)
pub storage_in : (code : Code) → IsValid code → (n t : ℕ) → IsDeclarable code n t → IsStorageInScope code n t
storage_in code valid n t inside =
    let has = layout_of code n t inside in
    let at = (valid.layouts t has.layout has.found).storage in
    (at.0, at.1, in_scope_later code has.layout.level n at.0.allocate has.level at.2, in_scope_later code has.layout.level n at.0.deallocate has.level at.3)

-- one that is in scope, and takes a pool, an address, a size and an alignment, can be called
storage_callable : (code : Code) (n t f : ℕ) (g : Operations → Option ℕ) (o : Operations) → slice_get code.records.items t ≡ Some o → operation_of g code t ≡ Some f → IsInScope code n (g o) → TakesStorage code (g o) → IsCallable code Procedure n f storage_formals
storage_callable code n t f g o at op scope takes =
    let named : g o ≡ Some f = sym (ap (operation_in g) at) ∙ op in
    (subst (IsInScope code n) named scope, subst (TakesStorage code) named takes)

pub allocate_in : (code : Code) → IsValid code → (n t f : ℕ) → IsDeclarable code n t → operation_of (λ x. x.allocate) code t ≡ Some f → IsCallable code Procedure n f storage_formals
allocate_in code valid n t f inside op = let at = storage_in code valid n t inside in storage_callable code n t f (λ x. x.allocate) at.0 at.1 op at.2 (valid.storage t at.0 at.1).0

pub deallocate_in : (code : Code) → IsValid code → (n t f : ℕ) → IsDeclarable code n t → operation_of (λ x. x.deallocate) code t ≡ Some f → IsCallable code Procedure n f storage_formals
deallocate_in code valid n t f inside op = let at = storage_in code valid n t inside in storage_callable code n t f (λ x. x.deallocate) at.0 at.1 op at.3 (valid.storage t at.0 at.1).1

-- Components ----------------------------------------------------------------------------------------

-- the type of each component that begins with something is declared where the whole is
pub begun_inside : (code : Code) → IsValid code → (n t : ℕ) → IsDeclarable code n t → AreBegunBy code n (begun_of code t)
begun_inside code valid n t inside =
    let has = layout_of code n t inside in
    subst (λ o. AreBegunBy code n (begun_in o)) (sym has.found) (begun_later code has.layout.level n has.layout.begun.items has.level (valid.layouts t has.layout has.found).types)

-- their positions rise
pub begun_rise : (code : Code) → IsValid code → (n t : ℕ) → IsDeclarable code n t → PositionsRise 0 (begun_of code t)
begun_rise code valid n t inside =
    let has = layout_of code n t inside in
    subst (λ o. PositionsRise 0 (begun_in o)) (sym has.found) (valid.layouts t has.layout has.found).rise

pub kept_inside : (code : Code) (n : ℕ) (p : Begun → Bool) (xs : List Begun) → AreBegunBy code n xs → AreBegunBy code n (keep p xs)
unfolding keep
kept_inside code n p [] h = tt
kept_inside code n p (x ∷ xs) h = one (p x) (kept_inside code n p xs h.1)
  where
    one : (b : Bool) → AreBegunBy code n (keep p xs) → AreBegunBy code n (if b then x ∷ keep p xs else keep p xs)
    one true rest = (h.0, rest)
    one false rest = rest

-- and that of each one with a controlled part
pub controlled_inside : (code : Code) → IsValid code → (n t : ℕ) → IsDeclarable code n t → AreBegunBy code n (controlled_of code t)
controlled_inside code valid n t inside =
    let has = layout_of code n t inside in
    let laid = valid.layouts t has.layout has.found in
    subst (λ o. AreBegunBy code n (controlled_in o)) (sym has.found)
    (subst (AreBegunBy code n) (sym laid.controlled) (kept_inside code n _ has.layout.begun.items (begun_later code has.layout.level n has.layout.begun.items has.level laid.types)))

-- one that is chosen, and the others
pub pulled_inside : (code : Code) (n : ℕ) (d : Begun) (i : ℕ) (xs : List Begun) → AreBegunBy code n xs → i < length xs → IsBegunBy code n (pull_item d i xs).initial
unfolding pull_item
pulled_inside code n d i [] h less = absurd (omega (arith, less))
pulled_inside code n d zero (x ∷ xs) h less = h.0
pulled_inside code n d (suc i) (x ∷ xs) h less = pulled_inside code n d i xs h.1 (omega (arith, less))

pub rest_inside : (code : Code) (n i : ℕ) (xs : List Begun) → AreBegunBy code n xs → AreBegunBy code n (pull_rest i xs)
unfolding pull_rest
rest_inside code n i [] h = tt
rest_inside code n zero (x ∷ xs) h = h.1
rest_inside code n (suc i) (x ∷ xs) h = (h.0, rest_inside code n i xs h.1)

-- Objects -------------------------------------------------------------------------------------------

-- the display that the operations of a settled object are called with
home_is : (k : Tables) (code : Code) (w : World) (o : Object) → (h : Settled k code w.ledger.next_master w.activations w.ledger.collections o) → home_of o.origin w ≡ home h.master w.activations
home_is k code w o h = belongs_home h.master w o.origin h.origin

-- the type of an object that is there is declared around its operations, whether it was declared or allocated
pub type_inside : (k : Tables) (code : Code) (n : ℕ) (w : World) (o : Object) (t : ℕ) → Fits k code w → object_at n w ≡ Some o → o.ty ≡ Record t → IsDeclarable code (length (home_of o.origin w)) t
type_inside k code n w o t fits at ty =
    let h = subst (IfFound (Settled k code w.ledger.next_master w.activations w.ledger.collections)) at (object_fits k code n w fits) in
    subst (λ (d : List ℕ). IsDeclarable code (length d) t) (sym (home_is k code w o h)) (subst (λ y. MayLie code (length (home h.master w.activations)) y) ty h.inside)

-- since an earlier world the operations of the object of this number have been called among at least so many masters, whenever it existed,
-- which are nested: those of a statement that assigns, if one does, or else its own
abbrev pub IsSurrounded : Tables → Code → Option (List ℕ) → World → ℕ → ℕ → Type 0
IsSurrounded k code assigning w0 masters n = (w : World) (o : Object) → Since k code w0 w → object_at n w ≡ Some o → (masters ≤ length (called_among assigning o.origin w)) × IsNested w (called_among assigning o.origin w)

-- its own that were around them where it existed then
pub still_surrounded : (k : Tables) (code : Code) (w0 : World) (n : ℕ) (o : Object) → Fits k code w0 → object_at n w0 ≡ Some o → IsSurrounded k code None w0 (length (home_of o.origin w0)) n
still_surrounded k code w0 n o fits was w p since at = (
  subst (λ (d : List ℕ). length (home_of o.origin w0) ≤ length d) (sym (still_home k code n w0 w o p fits since.1 was at)) (omega arith),
  origin_nested k code p.origin w since.0,
)
