-- The declarations in view, the innermost last, and which of them is found (8.2, 8.3).
use Rattle.std.specs.Prelude.{ℕ, zero, suc, ◌+◌, nat_eq, Bool, true, false, ◌&&◌, List, [], ◌∷◌, Option, Some, None, if◌then◌else◌}
use Rattle.std.specs.Str.{bytes_eq, str_to_ascii_lowercase}
use Rattle.std.specs.List.{list_any}
use Rattle.ctl_tree.specs.declared.span.Span.{Span}
use Rattle.ctl_syntax.specs.declared.name.Identifier.{Identifier}
use Rattle.ctl_syntax.specs.declared.denoted.Denoted.{Denoted}
use Rattle.ctl_syntax.specs.declared.denoted.Denoted.TheVariants as denoted
use Rattle.ctl_syntax.specs.declared.denoted.OperationName.{OperationName}
use Rattle.ctl_syntax.specs.declared.denoted.OperationName.TheVariants as operation
use Rattle.ctl_resolve.specs.declared.view.Stage.{Stage}
use Rattle.ctl_resolve.specs.declared.view.Stage.TheVariants as stage
use Rattle.ctl_resolve.specs.declared.view.Role.{Role}
use Rattle.ctl_resolve.specs.declared.view.Role.TheVariants as role
use Rattle.ctl_resolve.specs.declared.view.Declaration.{Declaration}
use Rattle.ctl_resolve.specs.declared.view.Known.{Known}
use Rattle.ctl_resolve.specs.declared.view.Sought.{Sought}
use Rattle.ctl_resolve.specs.declared.view.Sought.TheVariants as sought

-- case does not count (2.3)
abbrev pub folded : Identifier → List ℕ
folded id = str_to_ascii_lowercase id.text

abbrev pub folded_each : List Identifier → List (List ℕ)
folded_each [] = []
folded_each (id ∷ ids) = folded id ∷ folded_each ids

-- What is sought ---------------------------------------------------------------------------------

abbrev pub is_same_operation : OperationName → OperationName → Bool
is_same_operation operation.Initialize operation.Initialize = true
is_same_operation operation.Adjust operation.Adjust = true
is_same_operation operation.Finalize operation.Finalize = true
is_same_operation operation.Allocate operation.Allocate = true
is_same_operation operation.Deallocate operation.Deallocate = true
is_same_operation _ _ = false

-- Two marks of one last word denote one thing, or one of them denotes nothing: that is told at the mark, and of its heading nothing more. Two
-- declarations of the library that have one name are one.
abbrev pub is_alike : Denoted → Denoted → Bool
is_alike (denoted.Declared n level) (denoted.Declared m other) = nat_eq n m
is_alike (denoted.Library l) (denoted.Library k) = true
is_alike (denoted.Operation o) (denoted.Operation p) = true
is_alike denoted.Unknown d = true
is_alike d denoted.Unknown = true
is_alike _ _ = false

abbrev pub is_direct : Role → Bool
is_direct role.Direct = true
is_direct (role.Override o d) = false
is_direct role.Repeated = false

abbrev pub overrides : OperationName → Role → Bool
overrides o role.Direct = false
overrides o (role.Override p e) = is_same_operation o p
overrides o role.Repeated = false

abbrev pub overrides_for : OperationName → Denoted → Role → Bool
overrides_for o d role.Direct = false
overrides_for o d (role.Override p e) = is_same_operation o p && is_alike d e
overrides_for o d role.Repeated = false

abbrev pub is_hidden : Stage → Bool
is_hidden stage.Hidden = true
is_hidden _ = false

abbrev pub is_bodiless : Stage → Bool
is_bodiless stage.Bodiless = true
is_bodiless _ = false

abbrev pub is_incomplete : Stage → Bool
is_incomplete stage.Incomplete = true
is_incomplete _ = false

-- a declaration that wants a completion (3.11.1)
abbrev pub waits : Stage → Bool
waits stage.Bodiless = true
waits stage.Incomplete = true
waits _ = false

abbrev pub passes : Sought → Declaration → Bool
passes sought.Direct d = is_direct d.role
passes sought.Bodiless d = is_direct d.role && is_bodiless d.stage
passes sought.Incomplete d = is_direct d.role && is_incomplete d.stage
passes (sought.Override o m) d = overrides_for o m d.role
passes (sought.BodilessOverride o m) d = overrides_for o m d.role && is_bodiless d.stage

-- What is found ----------------------------------------------------------------------------------

abbrev pub known_at : ℕ → Declaration → Known
known_at k d = record { number = k; level = d.level; stage = d.stage }

-- is it this one?
abbrev pub is_found : Sought → List ℕ → Declaration → Bool
is_found s n d = bytes_eq n d.key && passes s d

abbrev pub found_from : Sought → List ℕ → ℕ → Option Known → List Declaration → Option Known
found_from s n k found [] = found
found_from s n k found (d ∷ ds) = found_from s n (k + 1) (if is_found s n d then Some (known_at k d) else found) ds

-- The innermost declaration hides the others (8.3).
abbrev pub find : Sought → List ℕ → List Declaration → Option Known
find s n ds = found_from s n 0 None ds

-- the declaration of this number, now as far as this
abbrev pub with_stage_at : List Declaration → ℕ → Stage → List Declaration
with_stage_at [] k s = []
with_stage_at (d ∷ ds) zero s = record d { stage = s } ∷ ds
with_stage_at (d ∷ ds) (suc k) s = d ∷ with_stage_at ds k s

-- does one of these override the operation, for whatever type?
abbrev pub is_overridden : OperationName → List Declaration → Bool
is_overridden o ds = list_any (λ d. overrides o d.role) ds
