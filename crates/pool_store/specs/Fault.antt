-- The numbers of the faults of the store.
use Rattle.std.specs.Prelude.{ℕ}
use Rattle.pool_store.specs.declared.fault.StoreFault.{StoreFault}
use Rattle.pool_store.specs.declared.fault.StoreFault.TheVariants.{Exhausted, BadAddress, Gone, Released, Foreign, NotTop, TooManyMarks, Memory}

-- The number of a fault.
abbrev pub code_of : StoreFault → ℕ
code_of Exhausted = 60
code_of BadAddress = 63
code_of NotTop = 61
code_of Foreign = 62
code_of Gone = 64
code_of TooManyMarks = 65
code_of Released = 66
code_of Memory = 9
