-- The numbers of what the library declares, which stands first in the tables of each program.
use Rattle.std.specs.Prelude.{ℕ}

-- Record types (7.6, 13.11) ----------------------------------------------------

abbrev pub controlled : ℕ
controlled = 0

abbrev pub limited_controlled : ℕ
limited_controlled = 1

abbrev pub block_pool : ℕ
block_pool = 2

abbrev pub mark_release_pool : ℕ
mark_release_pool = 3

-- Exceptions of Standard (11.1) ------------------------------------------------

abbrev pub constraint_error : ℕ
constraint_error = 0

abbrev pub program_error : ℕ
program_error = 1

abbrev pub storage_error : ℕ
storage_error = 2
