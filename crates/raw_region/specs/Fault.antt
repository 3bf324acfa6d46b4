-- The numbers of the faults of pools.
use Rattle.std.specs.Prelude.{ℕ}
use Rattle.raw_region.specs.declared.fault.PoolFault.{PoolFault}
use Rattle.raw_region.specs.declared.fault.PoolFault.TheVariants.{Size, Memory}

-- The number of a fault: 50 for a size out of range, 9 for memory.
abbrev pub code_of : PoolFault → ℕ
code_of Size = 50
code_of Memory = 9
