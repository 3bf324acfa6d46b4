-- Where objects come from, as they come, change and go.
use Rattle.std.proofs.Common.{◌≡◌, ℕ, List, [], ◌∷◌, ◌++◌, Option, Some, None, Bool, true, false, cond, refl, sym, subst}
use Rattle.std.specs.Prelude.{nat_eq, IfSome}
use Rattle.std.specs.Option.{option_map, option_or}
use Rattle.ctl_meaning.specs.World as W
use Rattle.ctl_meaning.specs.World.{Object, Origin}
use Rattle.ctl_meaning.specs.Lists.{keep}
use Rattle.ctl_meaning.specs.Objects.{change_in, object_in, opened_objects, with_cells, with_finalized}
use Rattle.ctl_storage.specs.declared.existing.Step.{Step}
use Rattle.ctl_storage.specs.declared.existing.Step.TheVariants as StepOf
use Rattle.ctl_storage.specs.Order.{Rise}
use Rattle.ctl_storage.specs.Stages.{with_step}
use Rattle.ctl_storage.proofs.Rising.{KeepsNumbers, in_change, in_keep, in_newest, kept_one}

abbrev pub KeepsOrigins : (Object → Object) → Type 0
KeepsOrigins f = (o : Object) → (f o).origin ≡ o.origin

pub step_stays : (x : Step) → KeepsOrigins (with_step x)
unfolding opened_objects
step_stays StepOf.Begin o = refl
step_stays StepOf.Join o = refl
step_stays StepOf.End o = by o.state
  where
    by : (l : W.State) → (with_finalized (record o { state = l })).origin ≡ o.origin
    by W.Untouched = refl
    by W.Finalizing = refl
    by W.Finalized = refl

pub cells_stay : (offset : ℕ) (v : List ℕ) → KeepsOrigins (with_cells offset v)
unfolding opened_objects
cells_stay offset v o = refl

-- this is true of the origin of each object
abbrev pub AreOfOrigin : (Origin → Type 0) → List Object → Type 0
AreOfOrigin P os = (n : ℕ) → IfSome (object_in n os) (λ o. P o.origin)

pub origins_changed : (P : Origin → Type 0) (n : ℕ) (f : Object → Object) → KeepsNumbers f → KeepsOrigins f → (os : List Object) → AreOfOrigin P os → AreOfOrigin P (change_in n f os)
origins_changed P n f numbers origins os h k = subst (λ o. IfSome o (λ z. P z.origin)) (sym (in_change n f numbers k os)) (own (nat_eq k n) (object_in k os) (h k))
  where
    own : (b : Bool) (o : Option Object) → IfSome o (λ z. P z.origin) → IfSome (cond b (option_map f o) o) (λ z. P z.origin)
    own false o i = i
    own true None i = i
    own true (Some z) i = subst P (sym (origins z)) i

pub origins_kept : (P : Origin → Type 0) (p : Object → Bool) (os : List Object) → Rise 0 os → AreOfOrigin P os → AreOfOrigin P (keep p os)
origins_kept P p os rise h k = subst (λ o. IfSome o (λ z. P z.origin)) (sym (in_keep p 0 k os rise)) (own (object_in k os) (h k))
  where
    by : (z : Object) (b : Bool) → P z.origin → IfSome (cond b (Some z) None) (λ y. P y.origin)
    by z true i = i
    by z false i = tt

    own : (o : Option Object) → IfSome o (λ z. P z.origin) → IfSome (kept_one p o) (λ z. P z.origin)
    own None i = tt
    own (Some z) i = by z (p z) i

pub origins_newest : (P : Origin → Type 0) (os : List Object) (x : Object) → P x.origin → AreOfOrigin P os → AreOfOrigin P (os ++ x ∷ [])
origins_newest P os x is h k = subst (λ o. IfSome o (λ z. P z.origin)) (sym (in_newest k os x)) (own (nat_eq x.number k) (object_in k os) (h k))
  where
    own : (b : Bool) (o : Option Object) → IfSome o (λ z. P z.origin) → IfSome (option_or o (cond b (Some x) None)) (λ z. P z.origin)
    own b (Some z) i = i
    own true None i = is
    own false None i = tt
