-- How the numbers of slots of the masters around declarations are raised.
use Rattle.std.specs.Prelude.{◌≡◌, ℕ, ◌≤◌, Bool, false}
use Rattle.ctl_code.specs.declared.homes.Declaration.{Declaration}
use Rattle.ctl_code.specs.Windows.{Counts, said}

-- the one numbers are no greater than the others
abbrev pub Below : Counts → Counts → Type 0
Below least most = (of : Declaration) (level : ℕ) → said least of level ≤ said most of level

-- new numbers are no greater than any over the old of which something is true; and where nothing was raised they are the old ones, of which
-- it is true too, if it is of any over them
abbrev pub Raises : (Counts → Type 0) → Counts → Counts → Bool → Type 0
Raises P old new raised = ((most : Counts) → Below old most → P most → Below new most) × (raised ≡ false → (new ≡ old) × ((most : Counts) → Below old most → P most → P old))
