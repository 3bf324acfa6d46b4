-- A master's layers, from the newest, and its collections (RM 7.6.1).
use Rattle.std.specs.Prelude.{◌≡◌, refl, ℕ, ◌-◌, List, [], ◌∷◌, ◌++◌, length, take, drop, Option, Some, None, Bool, if◌then◌else◌, slice_get}
use Rattle.std.specs.Coded.{Coded, code_by, coded×, coded_ℕ, coded_list}
use Rattle.fin_lists.specs.contracts.master.Kept.{the_row as kept_row}
use Rattle.fin_lists.specs.declared.master.Kept.{Kept}
use Rattle.fin_lists.specs.declared.master.Kept.TheVariants.{Declared, Gathered}

-- what is to be finalized with a master, the newest first, and its collections in the order of their numbers
pub record Master : Type 0 where
  pub layers : List Kept
  pub collections : List ℕ

-- how the logic stores it: as a pair
abbrev pub master_code : Coded Master
master_code = code_by (List Kept × List ℕ) (coded× (coded_list kept_row.coded) (coded_list coded_ℕ)) (λ m. (m.layers, m.collections)) (λ p. record { layers = p.0; collections = p.1 }) (λ _. refl)

-- a master of which nothing is to be finalized
abbrev pub empty_master : Master
empty_master = record { layers = []; collections = [] }

-- with a further object, which is the newest layer
abbrev pub with_object : ℕ → Master → Master
with_object object m = record m { layers = Declared object ∷ m.layers }

-- with a further collection, which joins the newest layer or is the newest layer
abbrev pub with_collection : Bool → ℕ → Master → Master
with_collection joins set m = record { layers = if joins then m.layers else Gathered set ∷ m.layers; collections = m.collections ++ set ∷ [] }

-- without the newest layer
abbrev pub without_newest : Master → Master
without_newest m = record m { layers = drop 1 m.layers }
