-- What the meaning and the code say alike of the parts of a record type that this version runs: which components begin with something, and
-- how, and which have a controlled part (3.8, 7.6).
use Rattle.std.proofs.Common.{◌≡◌, ℕ, zero, suc, ◌+◌, ◌<◌, List, [], ◌∷◌, length, Bool, true, false, refl, sym, ap, ◌∙◌, subst, arith}
use Rattle.std.specs.Prelude.{slice_get, Some, if◌then◌else◌}
use Rattle.ctl_program.specs.declared.expression.Expr.{Expr}
use Rattle.ctl_program.specs.declared.types.Ty.{Ty}
use Rattle.ctl_program.specs.declared.types.Ty.TheVariants.{Record}
use Rattle.ctl_program.specs.declared.types.Component.{Component}
use Rattle.ctl_program.specs.declared.types.RecordType.{RecordType}
use Rattle.ctl_meaning.specs.World.{Log, World}
use Rattle.ctl_meaning.specs.Lists.{keep, pull_item, pull_rest}
use Rattle.ctl_meaning.specs.Outcome.{Goes, Gives, Act}
use Rattle.ctl_meaning.specs.Types.{Tables, Placed, has_controlled, is_controlled, is_initialized, of_record, placed}
use Rattle.ctl_meaning.specs.Names.{Default}
use Rattle.ctl_meaning.specs.Finalization.{Spot, component_at}
use Rattle.ctl_code.specs.declared.code.Begun.{Begun}
use Rattle.ctl_code.specs.declared.code.Code.{Code}
use Rattle.ctl_code.specs.declared.code.Initial.{Initial}
use Rattle.ctl_code.specs.declared.code.Initial.TheVariants.{Constant, ByType, Computed}
use Rattle.ctl_code.specs.declared.code.Parts.{Parts}
use Rattle.ctl_code.specs.declared.code.Parts.TheVariants.{Controlled}
use Rattle.ctl_code.specs.Table.{begun_of, component_of, controlled_of, has_part, parts_of}
use Rattle.ctl_layout.specs.Defaults.{constant_of}
use Rattle.ctl_layout.specs.Layout.{computed}
use Rattle.ctl_gen.proofs.Known.{IsLaid, IsPlain, IsPlainType, IsScalar}

-- Defaults ----------------------------------------------------------------------------------------

-- defaults that are constants are evaluated in one tick
abbrev pub GivesConstant : Default → ℕ → ℕ → ℕ → Type 0
GivesConstant default t position n = (env : List ℕ) (c : ℕ) (l : Log) (w : World) → default t position env c l w ≡ Gives (Goes (n ∷ [])) 1 c l w

abbrev pub GivesDefaults : Tables → Default → Type 0
GivesDefaults k default = (t : ℕ) (r : RecordType) → slice_get k.records t ≡ Some r → (plain : IsPlain k t r) → (i : ℕ) (x : Component) (n : ℕ) → slice_get plain.components i ≡ Some x → constant_of x ≡ Some n → GivesConstant default t (i + 1) n

-- Components that begin with something ------------------------------------------------------------

-- a default that is no constant: that of the component at a position of a type
pub record IsComputed (k : Tables) (t position : ℕ) (ty : Ty) : Type 0 where
  pub components : List Component
  pub laid : IsLaid k.records t components
  pub index : ℕ
  pub component : Component
  pub there : slice_get components index ≡ Some component
  pub place : position ≡ index + 1
  pub expression : Expr
  pub is : computed component ≡ Some expression
  pub of : component.ty ≡ ty

-- by a constant, which is its default, or by its value, or by its own record type, which stands before this one in the table and is run
abbrev pub BeginsBy : Tables → Default → ℕ → Placed → Initial → Type 0
BeginsBy k default t p (Constant v) = (p.defaulted ≡ true) × IsScalar p.ty × GivesConstant default t p.position v
BeginsBy k default t p Computed = (p.defaulted ≡ true) × IsScalar p.ty × IsComputed k t p.position p.ty
BeginsBy k default t p (ByType u) = (p.defaulted ≡ false) × (p.ty ≡ Record u) × (u < t) × IsPlainType k (Record u)

pub record Begins (k : Tables) (default : Default) (t : ℕ) (p : Placed) (x : Begun) : Type 0 where
  pub position : x.position ≡ p.position
  pub offset : x.offset ≡ p.offset
  pub how : BeginsBy k default t p x.initial

abbrev pub AreBegun : Tables → Default → ℕ → List Placed → List Begun → Type 0
AreBegun k default t [] [] = Unit {0}
AreBegun k default t (p ∷ ps) (x ∷ xs) = Begins k default t p x × AreBegun k default t ps xs
AreBegun k default t _ _ = ⊥

-- Components with a controlled part ---------------------------------------------------------------

pub record HasPart (k : Tables) (t : ℕ) (p : Placed) (x : Begun) : Type 0 where
  pub position : x.position ≡ p.position
  pub offset : x.offset ≡ p.offset
  pub number : ℕ
  pub initial : x.initial ≡ ByType number
  pub ty : p.ty ≡ Record number
  pub less : number < t
  pub plain : IsPlainType k (Record number)

abbrev pub HaveParts : Tables → ℕ → List Placed → List Begun → Type 0
HaveParts k t [] [] = Unit {0}
HaveParts k t (p ∷ ps) (x ∷ xs) = HasPart k t p x × HaveParts k t ps xs
HaveParts k t _ _ = ⊥

-- Types -------------------------------------------------------------------------------------------

-- whether the objects of a type are controlled themselves
abbrev pub is_itself : Parts → Bool
is_itself Controlled = true
is_itself _ = false

pub record AgreesOn (k : Tables) (code : Code) (default : Default) (t : ℕ) : Type 0 where
  pub begun : AreBegun k default t (keep (is_initialized k) (placed k t)) (begun_of code t)
  pub controlled : HaveParts k t (keep (λ p. has_controlled k p.ty) (placed k t)) (controlled_of code t)
  pub itself : is_controlled k t ≡ is_itself (parts_of code t)
  pub has : has_controlled k (Record t) ≡ has_part (parts_of code t)

abbrev pub Agree : Tables → Code → Default → Type 0
Agree k code default = (t : ℕ) → IsPlainType k (Record t) → AgreesOn k code default t

-- Choices among them ------------------------------------------------------------------------------

pub begun_length : (k : Tables) (default : Default) (t : ℕ) (ps : List Placed) (xs : List Begun) → AreBegun k default t ps xs → length ps ≡ length xs
begun_length k default t [] [] h = refl
begun_length k default t [] (x ∷ xs) h = absurd h
begun_length k default t (p ∷ ps) [] h = absurd h
begun_length k default t (p ∷ ps) (x ∷ xs) h = ap suc (begun_length k default t ps xs h.1)

pub begun_pulled : (k : Tables) (default : Default) (t : ℕ) (d : Placed) (y : Begun) (i : ℕ) (ps : List Placed) (xs : List Begun) → AreBegun k default t ps xs → i < length ps → Begins k default t (pull_item d i ps) (pull_item y i xs)
unfolding pull_item
begun_pulled k default t d y i [] [] h less = absurd (omega (arith, less))
begun_pulled k default t d y i [] (x ∷ xs) h less = absurd h
begun_pulled k default t d y i (p ∷ ps) [] h less = absurd h
begun_pulled k default t d y zero (p ∷ ps) (x ∷ xs) h less = h.0
begun_pulled k default t d y (suc i) (p ∷ ps) (x ∷ xs) h less = begun_pulled k default t d y i ps xs h.1 (omega (arith, less))

pub begun_rest : (k : Tables) (default : Default) (t i : ℕ) (ps : List Placed) (xs : List Begun) → AreBegun k default t ps xs → AreBegun k default t (pull_rest i ps) (pull_rest i xs)
unfolding pull_rest
begun_rest k default t i [] [] h = tt
begun_rest k default t i [] (x ∷ xs) h = absurd h
begun_rest k default t i (p ∷ ps) [] h = absurd h
begun_rest k default t zero (p ∷ ps) (x ∷ xs) h = h.1
begun_rest k default t (suc i) (p ∷ ps) (x ∷ xs) h = (h.0, begun_rest k default t i ps xs h.1)

pub parts_length : (k : Tables) (t : ℕ) (ps : List Placed) (xs : List Begun) → HaveParts k t ps xs → length ps ≡ length xs
parts_length k t [] [] h = refl
parts_length k t [] (x ∷ xs) h = absurd h
parts_length k t (p ∷ ps) [] h = absurd h
parts_length k t (p ∷ ps) (x ∷ xs) h = ap suc (parts_length k t ps xs h.1)

pub parts_pulled : (k : Tables) (t : ℕ) (d : Placed) (y : Begun) (i : ℕ) (ps : List Placed) (xs : List Begun) → HaveParts k t ps xs → i < length ps → HasPart k t (pull_item d i ps) (pull_item y i xs)
unfolding pull_item
parts_pulled k t d y i [] [] h less = absurd (omega (arith, less))
parts_pulled k t d y i [] (x ∷ xs) h less = absurd h
parts_pulled k t d y i (p ∷ ps) [] h less = absurd h
parts_pulled k t d y zero (p ∷ ps) (x ∷ xs) h less = h.0
parts_pulled k t d y (suc i) (p ∷ ps) (x ∷ xs) h less = parts_pulled k t d y i ps xs h.1 (omega (arith, less))

pub parts_rest : (k : Tables) (t i : ℕ) (ps : List Placed) (xs : List Begun) → HaveParts k t ps xs → HaveParts k t (pull_rest i ps) (pull_rest i xs)
unfolding pull_rest
parts_rest k t i [] [] h = tt
parts_rest k t i [] (x ∷ xs) h = absurd h
parts_rest k t i (p ∷ ps) [] h = absurd h
parts_rest k t zero (p ∷ ps) (x ∷ xs) h = h.1
parts_rest k t (suc i) (p ∷ ps) (x ∷ xs) h = (h.0, parts_rest k t i ps xs h.1)

-- those at some positions
pub have_kept : (k : Tables) (t : ℕ) (g : ℕ → Bool) (ps : List Placed) (xs : List Begun) → HaveParts k t ps xs → HaveParts k t (keep (λ p. g p.position) ps) (keep (λ x. g x.position) xs)
unfolding keep
have_kept k t g [] [] h = tt
have_kept k t g [] (x ∷ xs) h = absurd h
have_kept k t g (p ∷ ps) [] h = absurd h
have_kept k t g (p ∷ ps) (x ∷ xs) h =
    subst (λ b. HaveParts k t (if g p.position then p ∷ keep (λ p1. g p1.position) ps else keep (λ p1. g p1.position) ps) (if b then x ∷ keep (λ x1. g x1.position) xs else keep (λ x1. g x1.position) xs)) (ap g (sym h.0.position))
    (one (g p.position) (have_kept k t g ps xs h.1))
  where
    one : (b : Bool) → HaveParts k t (keep (λ p1. g p1.position) ps) (keep (λ x1. g x1.position) xs) → HaveParts k t (if b then p ∷ keep (λ p1. g p1.position) ps else keep (λ p1. g p1.position) ps) (if b then x ∷ keep (λ x1. g x1.position) xs else keep (λ x1. g x1.position) xs)
    one true rest = (h.0, rest)
    one false rest = rest

-- what is done of such a component goes by its record type
pub component_is : {A : Type 0} (k : Tables) (t : ℕ) (otherwise : Act A) (f : Spot → ℕ → Act A) (s : Spot) (p : Placed) (x : Begun) (part : HasPart k t p x) → of_record otherwise (f (component_at s p)) p.ty ≡ f (component_of s x.offset x.position) part.number
unfolding component_at of_record
component_is k t otherwise f s p x part =
    ap (of_record otherwise (f (component_at s p))) part.ty
    ∙ ap (λ i. f (component_of s i p.position) part.number) (sym part.offset)
    ∙ ap (λ i. f (component_of s x.offset i) part.number) (sym part.position)
