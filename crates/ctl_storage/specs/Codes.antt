-- How the logic stores what contracts see of a storage: each type as numbers, or as a tuple of its fields.
use Rattle.std.specs.Prelude.{◌≡◌, refl, ℕ, List, Bool, cond, nat_eq}
use Rattle.std.specs.Ordering.{nat_cmp}
use Rattle.std.specs.Coded.{Coded, code_by, coded×, coded_ℕ, coded_bool, coded_list}
use Rattle.std.specs.FinMap.{FinMap, code}
use Rattle.ctl_program.specs.declared.types.Ty.{Ty}
use Rattle.ctl_program.specs.declared.types.Ty.TheVariants as TyOf
use Rattle.ctl_meaning.specs.World.{Place, Standard, InBlock, InSubpool, Origin, Declared, Allocated, State, Untouched, Finalizing, Finalized, Object}
use Rattle.pool_store.specs.Entries.{BlockPool}
use Rattle.pool_store.specs.Store.{block_pool_code}
use Rattle.ctl_storage.specs.declared.pools.PoolSize.{PoolSize}
use Rattle.ctl_storage.specs.Storage.{Storage}

abbrev ty_numbers : Ty → ℕ × ℕ
ty_numbers TyOf.Integer = (0, 0)
ty_numbers TyOf.Count = (1, 0)
ty_numbers TyOf.Boolean = (2, 0)
ty_numbers TyOf.Address = (3, 0)
ty_numbers TyOf.Handle = (4, 0)
ty_numbers (TyOf.Access n) = (5, n)
ty_numbers (TyOf.Record n) = (6, n)

abbrev ty_of : ℕ × ℕ → Ty
ty_of t =
    cond (nat_eq t.0 0) TyOf.Integer (cond (nat_eq t.0 1) TyOf.Count (cond (nat_eq t.0 2) TyOf.Boolean
    (cond (nat_eq t.0 3) TyOf.Address (cond (nat_eq t.0 4) TyOf.Handle (cond (nat_eq t.0 5) (TyOf.Access t.1) (TyOf.Record t.1))))))

pub same_ty : (t : Ty) → ty_of (ty_numbers t) ≡ t
same_ty TyOf.Integer = refl
same_ty TyOf.Count = refl
same_ty TyOf.Boolean = refl
same_ty TyOf.Address = refl
same_ty TyOf.Handle = refl
same_ty (TyOf.Access n) = refl
same_ty (TyOf.Record n) = refl

abbrev ty_code : Coded Ty
ty_code = code_by (ℕ × ℕ) (coded× coded_ℕ coded_ℕ) ty_numbers ty_of same_ty

abbrev place_numbers : Place → ℕ × (ℕ × ℕ)
place_numbers Standard = (0, (0, 0))
place_numbers (InBlock p a) = (1, (p, a))
place_numbers (InSubpool s) = (2, (s, 0))

abbrev place_of : ℕ × (ℕ × ℕ) → Place
place_of t = cond (nat_eq t.0 0) Standard (cond (nat_eq t.0 1) (InBlock t.1.0 t.1.1) (InSubpool t.1.0))

pub same_place : (p : Place) → place_of (place_numbers p) ≡ p
same_place Standard = refl
same_place (InBlock p a) = refl
same_place (InSubpool s) = refl

abbrev place_code : Coded Place
place_code = code_by (ℕ × (ℕ × ℕ)) (coded× coded_ℕ (coded× coded_ℕ coded_ℕ)) place_numbers place_of same_place

abbrev origin_numbers : Origin → ℕ × (ℕ × Place)
origin_numbers (Declared m) = (0, (m, Standard))
origin_numbers (Allocated c p) = (1, (c, p))

abbrev origin_of : ℕ × (ℕ × Place) → Origin
origin_of t = cond (nat_eq t.0 0) (Declared t.1.0) (Allocated t.1.0 t.1.1)

pub same_origin : (o : Origin) → origin_of (origin_numbers o) ≡ o
same_origin (Declared m) = refl
same_origin (Allocated c p) = refl

abbrev origin_code : Coded Origin
origin_code = code_by (ℕ × (ℕ × Place)) (coded× coded_ℕ (coded× coded_ℕ place_code)) origin_numbers origin_of same_origin

abbrev state_number : State → ℕ
state_number Untouched = 0
state_number Finalizing = 1
state_number Finalized = 2

abbrev state_of : ℕ → State
state_of n = cond (nat_eq n 0) Untouched (cond (nat_eq n 1) Finalizing Finalized)

pub same_state : (s : State) → state_of (state_number s) ≡ s
same_state Untouched = refl
same_state Finalizing = refl
same_state Finalized = refl

abbrev state_code : Coded State
state_code = code_by ℕ coded_ℕ state_number state_of same_state

abbrev object_code : Coded Object
object_code =
    code_by (ℕ × (Ty × (List ℕ × (State × (Origin × Bool))))) (coded× coded_ℕ (coded× ty_code (coded× (coded_list coded_ℕ) (coded× state_code (coded× origin_code coded_bool)))))
    (λ o. (o.number, (o.ty, (o.cells, (o.state, (o.origin, o.joined))))))
    (λ t. record { number = t.0; ty = t.1.0; cells = t.1.1.0; state = t.1.1.1.0; origin = t.1.1.1.1.0; joined = t.1.1.1.1.1 }) (λ _. refl)

abbrev pub size_code : Coded PoolSize
size_code = code_by (ℕ × ℕ) (coded× coded_ℕ coded_ℕ) (λ s. (s.block_size, s.block_count)) (λ t. record { block_size = t.0; block_count = t.1 }) (λ _. refl)

abbrev pub storage_code : Coded Storage
storage_code =
    code_by (List Object × (FinMap nat_cmp PoolSize × (FinMap nat_cmp BlockPool × ℕ))) (coded× (coded_list object_code) (coded× (code coded_ℕ size_code) (coded× (code coded_ℕ block_pool_code) coded_ℕ)))
    (λ s. (s.objects, (s.sizes, (s.blocks, s.given)))) (λ t. record { objects = t.0; sizes = t.1.0; blocks = t.1.1.0; given = t.1.1.1 }) (λ _. refl)
