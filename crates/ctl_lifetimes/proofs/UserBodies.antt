-- The bodies that the user wrote for the operations of a record type.
use Rattle.std.proofs.Common.{ℕ, unwrap_or}
use Rattle.ctl_code.specs.declared.code.Code.{Code}
use Rattle.ctl_code.specs.Table.{operation_of}

-- by their numbers; 0 where there is none
abbrev pub body_of_adjust : Code → ℕ → ℕ
body_of_adjust code t = unwrap_or (operation_of (λ x. x.adjust) code t) 0

abbrev pub body_of_finalize : Code → ℕ → ℕ
body_of_finalize code t = unwrap_or (operation_of (λ x. x.finalize) code t) 0
