-- How the logic stores what contracts see of all objects: as a tuple of its fields.
use Rattle.std.specs.Prelude.{◌≡◌, refl, ℕ, List, cond, nat_eq}
use Rattle.std.specs.Coded.{Coded, code_by, coded×, coded_ℕ, coded_list}
use Rattle.ctl_storage.specs.Codes.{storage_code}
use Rattle.ctl_storage.specs.Storage.{Storage}
use Rattle.ctl_groups.specs.declared.needs.Need.{Need}
use Rattle.ctl_groups.specs.declared.needs.Need.TheVariants.{Finalization, Nothing}
use Rattle.ctl_objects.specs.Stock.{Stock, stock_of, storage_of}

abbrev need_number : Need → ℕ
need_number Finalization = 0
need_number Nothing = 1

abbrev need_of : ℕ → Need
need_of n = cond (nat_eq n 0) Finalization Nothing

pub same_need : (x : Need) → need_of (need_number x) ≡ x
same_need Finalization = refl
same_need Nothing = refl

abbrev need_code : Coded Need
need_code = code_by ℕ coded_ℕ need_number need_of same_need

abbrev pub stock_code : Coded Stock
stock_code = code_by (Storage × List Need) (coded× storage_code (coded_list need_code)) (λ s. (storage_of s, s.needs)) (λ t. stock_of t.0 t.1) (λ _. refl)
