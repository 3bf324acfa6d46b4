-- The objects that are held, by the pools in which they lie.
use Rattle.std.specs.Prelude.{◌≡◌, refl, ℕ, List, [], Option, Some, None, Bool, true, false, cond, not, nat_eq, IfSome}
use Rattle.std.specs.Ordering.{nat_cmp}
use Rattle.std.specs.Coded.{Coded, code_by, coded×, coded_ℕ, coded_list, coded_option}
use Rattle.std.specs.Option.{option_map, option_map_or}
use Rattle.std.specs.FinMap.{FinMap, get, remove}
use Rattle.number_map.specs.Table.{mapped, AreGiven}
use Rattle.pool_area.specs.Lots.{Held}
use Rattle.pool_area.specs.Blocks.{Blocks}
use Rattle.pool_store.specs.declared.entry.Spot.{Spot}
use Rattle.pool_store.specs.declared.entry.Entry.{Entry}
use Rattle.pool_store.specs.declared.entry.Entry.TheVariants.{Standard, InBlock}

-- where an object lies in a subpool: the numbers of its pool and of the subpool
pub record Site : Type 0 where
  pub pool : ℕ
  pub subpool : ℕ

-- an object that is held: where it lies in a block or in a subpool, None and None for the standard pool, and its words of 8 bytes each
pub record Stored : Type 0 where
  pub spot : Option Spot
  pub site : Option Site
  pub words : List ℕ

abbrev pub spot_code : Coded Spot
spot_code = code_by (ℕ × ℕ) (coded× coded_ℕ coded_ℕ) (λ s. (s.pool, s.address)) (λ t. record { pool = t.0; address = t.1 }) (λ _. refl)

abbrev pub site_code : Coded Site
site_code = code_by (ℕ × ℕ) (coded× coded_ℕ coded_ℕ) (λ s. (s.pool, s.subpool)) (λ t. record { pool = t.0; subpool = t.1 }) (λ _. refl)

-- how the logic stores it: as a tuple of its fields
abbrev pub stored_code : Coded Stored
stored_code =
    code_by (Option Spot × (Option Site × List ℕ)) (coded× (coded_option spot_code) (coded× (coded_option site_code) (coded_list coded_ℕ)))
    (λ o. (o.spot, (o.site, o.words))) (λ t. record { spot = t.0; site = t.1.0; words = t.1.1 }) (λ _. refl)

-- a pool of blocks: how many storage units a block has, how many blocks are free, and those that are out, by address, each with the number of the object that it holds
pub record BlockPool : Type 0 where
  pub size : ℕ
  pub free : ℕ
  pub out : FinMap nat_cmp (Option ℕ)

abbrev pub holder_of : Option Held → Option ℕ
holder_of h = option_map (λ x. x.object) h

-- what is seen of a pool: not the words
abbrev pub pool_of : Blocks → BlockPool
pool_of b = record { size = b.size; free = b.free; out = mapped holder_of b.out }

-- what is out at a spot
abbrev pub lot_at : Spot → FinMap nat_cmp Blocks → Option (Option Held)
lot_at s blocks = option_map_or (λ b. get b.out s.address) (get blocks s.pool) None

-- the object that a block holds which may be out
abbrev pub object_in : Option (Option Held) → Option ℕ
object_in lot = option_map_or holder_of lot None

abbrev pub words_in : Option (Option Held) → List ℕ
words_in lot = option_map_or (λ h. option_map_or (λ x. x.words) h []) lot []

-- an object with its words
abbrev pub stored_in : {A : Type 0} → FinMap nat_cmp Blocks → Entry A → Stored
stored_in blocks (Standard words) = record { spot = None; site = None; words = words }
stored_in blocks (InBlock s) = record { spot = Some s; site = None; words = words_in (lot_at s blocks) }

-- the words that an object of the standard pool has
abbrev pub own_words : {A : Type 0} → Entry A → List ℕ
own_words (Standard words) = words
own_words (InBlock s) = []

abbrev pub with_own_words : {A : Type 0} → (List ℕ → List ℕ) → Entry A → Entry A
with_own_words f (Standard words) = Standard (f words)
with_own_words f (InBlock s) = InBlock s

abbrev pub spot_in : {A : Type 0} → Entry A → Option Spot
spot_in (Standard words) = None
spot_in (InBlock s) = Some s

-- an object lies in a block of this pool
abbrev pub is_in : {A : Type 0} → ℕ → Entry A → Bool
is_in p (Standard words) = false
is_in p (InBlock s) = nat_eq s.pool p

abbrev pub is_elsewhere : {A : Type 0} → ℕ → Entry A → Bool
is_elsewhere p e = not (is_in p e)

-- an object is held no more, where it lies in this pool
abbrev pub forgotten : {A : Type 0} → ℕ → Option ℕ → FinMap nat_cmp (Entry A) → FinMap nat_cmp (Entry A)
forgotten p None objects = objects
forgotten p (Some n) objects = cond (option_map_or (is_in p) (get objects n) false) (remove objects n) objects

-- an object that lies in this pool is held by its block
abbrev pub IsHeldBy : {A : Type 0} → ℕ → Blocks → ℕ → Entry A → Type 0
IsHeldBy p b n (Standard words) = Unit {0}
IsHeldBy p b n (InBlock s) = nat_eq s.pool p ≡ true → object_in (get b.out s.address) ≡ Some n

-- as is each that lies in it
abbrev pub AreHeldBy : {A : Type 0} → ℕ → Blocks → FinMap nat_cmp (Entry A) → Type 0
AreHeldBy p b objects = (n : ℕ) → IfSome (get objects n) (IsHeldBy p b n)

-- the block of an object holds it
abbrev pub IsTied : {A : Type 0} → FinMap nat_cmp Blocks → ℕ → Entry A → Type 0
IsTied blocks n (Standard words) = Unit {0}
IsTied blocks n (InBlock s) = object_in (lot_at s blocks) ≡ Some n

-- Each object lies where it is held, and no address above those given is out.
pub record Ties {A : Type 0} (objects : FinMap nat_cmp (Entry A)) (blocks : FinMap nat_cmp Blocks) (given : ℕ) : Type 0 where
  pub tied : (n : ℕ) → IfSome (get objects n) (IsTied blocks n)
  pub addresses : (p : ℕ) → IfSome (get blocks p) (λ b. AreGiven given b.out)
