-- Names that are found at once, whatever their case (2.3).
use Rattle.std.specs.Prelude.{◌≡◌, ℕ, Bool, false, ◌||◌, List, [], ◌∷◌, Vec}
use Rattle.std.specs.Str.{bytes_eq, str_to_ascii_lowercase}
use Rattle.std.specs.HashSet.{HashSet, contains_by}
use Rattle.std.specs.declared.alloc.Global.{Global}
use Rattle.ctl_grammar.specs.Spelling.{same_name}

abbrev pub is_name_among : List ℕ → List (List ℕ) → Bool
is_name_among name [] = false
is_name_among name (n ∷ ns) = same_name name n || is_name_among name ns

-- whether one of the names is this one in lower case
abbrev pub is_key_among : List ℕ → List (List ℕ) → Bool
is_key_among key [] = false
is_key_among key (n ∷ ns) = bytes_eq key (str_to_ascii_lowercase n) || is_key_among key ns

abbrev pub has_key : {S : Type 0} → HashSet (Vec ℕ Global) S → List ℕ → Bool
has_key keys key = contains_by (λ k. bytes_eq key k.items) keys

-- the keys are the names in lower case
abbrev pub IsKeyed : List (List ℕ) → (List ℕ → Bool) → Type 0
IsKeyed names has = (key : List ℕ) → has key ≡ is_key_among key names
