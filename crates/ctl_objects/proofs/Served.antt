-- An object comes whose block goes out for it: what its group sees, and what is said of each answer.
use Rattle.std.proofs.Common.{◌≡◌, ◌∙◌, ℕ, ◌+◌, List, Option, Some, None, cond, false, ap, refl}
use Rattle.std.specs.Prelude.{nat_eq, ◌&&◌, IfNone, IfOk, IfSome, OnErr, Result, Ok, Err}
use Rattle.std.specs.Option.{option_map_or}
use Rattle.ctl_program.specs.declared.types.Ty.{Ty}
use Rattle.ctl_program.specs.declared.types.Ty.TheVariants as TyOf
use Rattle.ctl_meaning.specs.World.{Allocated, Object}
use Rattle.ctl_meaning.specs.Objects.{is_untouched}
use Rattle.ctl_storage.specs.declared.existing.Place.{Place}
use Rattle.ctl_storage.specs.Allocated.{known, place_of}
use Rattle.ctl_groups.specs.declared.groups.Group.{Group}
use Rattle.ctl_groups.specs.declared.groups.Groups.{Groups}
use Rattle.ctl_groups.specs.declared.needs.Need.{Need}
use Rattle.ctl_groups.specs.Groups.{Moves, count, group_by, is_in, is_open, is_same, one}
use Rattle.ctl_objects.proofs.Filed.{fresh}

-- The group of an object -----------------------------------------------------------------------------------

-- it is the same wherever the object lies
group_placed : (needs : List Need) (ty : Ty) (set : ℕ) (p q : Place) → group_by needs (Allocated set (place_of p)) ty ≡ group_by needs (Allocated set (place_of q)) ty
group_placed needs TyOf.Integer set p q = refl
group_placed needs TyOf.Count set p q = refl
group_placed needs TyOf.Boolean set p q = refl
group_placed needs TyOf.Address set p q = refl
group_placed needs TyOf.Handle set p q = refl
group_placed needs (TyOf.Access a) set p q = refl
group_placed needs (TyOf.Record r) set p q = refl

pub comes_placed : (needs : List Need) (n : ℕ) (ty : Ty) (set : ℕ) (p q : Place) (cells : ℕ) (s t : Groups) → Moves needs n None (Some (known n (fresh ty set p cells))) s t → Moves needs n None (Some (known n (fresh ty set q cells))) s t
comes_placed needs n ty set p q cells s t m = record {
  members = λ g k. m.members g k ∙ ap (λ b. cond (nat_eq n k) b (is_in g k s)) (open_alike g);
  entered = m.entered;
  counts = λ g. m.counts g ∙ ap (λ b. count g s + one (x.joined && b)) (open_alike g);
}
  where
    x : Object
    x = known n (fresh ty set p cells)

    y : Object
    y = known n (fresh ty set q cells)

    open_alike : (g : Group) → is_open needs g x ≡ is_open needs g y
    open_alike g = ap (λ (r : Option Group). is_untouched x.state && option_map_or (λ h. is_same h g) r false) (group_placed needs ty set p q)

-- What is said of each answer ------------------------------------------------------------------------------

pub served_either : {E : Type 0} (r : Result (Option ℕ) E) (P : ℕ → Type 0) (Q R G : Type 0) → IfOk r (λ o. IfSome o P) → IfOk r (λ o. IfNone o Q) → OnErr r R → ((a : ℕ) → P a → G) → (Q → G) → (R → G) → G
served_either (Ok (Some a)) P Q R G p q e f g h = f a p
served_either (Ok None) P Q R G p q e f g h = g q
served_either (Err z) P Q R G p q e f g h = h e

pub if_served : {E : Type 0} (r : Result (Option ℕ) E) (P Q : ℕ → Type 0) → IfOk r (λ o. IfSome o P) → ((a : ℕ) → P a → Q a) → IfOk r (λ o. IfSome o Q)
if_served (Ok (Some a)) P Q p f = f a p
if_served (Ok None) P Q p f = tt
if_served (Err z) P Q p f = p

pub served_both : {E : Type 0} (r : Result (Option ℕ) E) (P Q : ℕ → Type 0) → IfOk r (λ o. IfSome o P) → IfOk r (λ o. IfSome o Q) → IfOk r (λ o. IfSome o (λ a. P a × Q a))
served_both (Ok (Some a)) P Q p q = (p, q)
served_both (Ok None) P Q p q = tt
served_both (Err z) P Q p q = p

pub if_exhausted : {E : Type 0} (r : Result (Option ℕ) E) (P Q : Type 0) → IfOk r (λ o. IfNone o P) → (P → Q) → IfOk r (λ o. IfNone o Q)
if_exhausted (Ok (Some a)) P Q p f = tt
if_exhausted (Ok None) P Q p f = f p
if_exhausted (Err z) P Q p f = p
