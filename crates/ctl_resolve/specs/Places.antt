-- The tables by which a declaration in view is found at once.
use Rattle.std.specs.Prelude.{◌≡◌, ℕ, ◌+◌, ◌<◌, List, [], ◌∷◌, length, take, slice_index, slice_index_or, Option, Some, None, if◌then◌else◌, Vec}
use Rattle.std.specs.Str.{bytes_eq}
use Rattle.std.specs.HashMap.{HashMap, get_by}
use Rattle.std.specs.declared.alloc.Global.{Global}
use Rattle.ctl_resolve.specs.declared.view.Declaration.{Declaration}

abbrev pub place_or_none : Option ℕ → ℕ
place_or_none None = 0
place_or_none (Some p) = p

-- the place, from 1, that a table has for a key, or 0
abbrev pub places_of : {S : Type 0} → HashMap (Vec ℕ Global) ℕ S → List ℕ → ℕ
places_of m n = place_or_none (get_by (λ k. bytes_eq n k.items) m)

-- the place of the last declaration of a key, from 1, or 0
abbrev pub place_from : ℕ → ℕ → List Declaration → List ℕ → ℕ
place_from k f [] n = f
place_from k f (d ∷ ds) n = place_from (k + 1) (if bytes_eq n d.key then k + 1 else f) ds n

abbrev pub last_place : List Declaration → List ℕ → ℕ
last_place ds n = place_from 0 0 ds n

-- The table has the last place of each key, and each declaration the place of the one of its key before it.
pub record IsIndexed (ds : List Declaration) (hides : List ℕ) (places : List ℕ → ℕ) : Type 0 where
  pub count : length hides ≡ length ds
  pub newest : (n : List ℕ) → places n ≡ last_place ds n
  pub hidden : (k : ℕ) (d : Declaration) → k < length ds → slice_index hides k ≡ last_place (take k ds) (slice_index_or ds k d).key
