-- The bounds and sizes of this profile, each once.
use Rattle.std.specs.Prelude.{ℕ, ℤ, negsuc}

-- Integer'Last and Storage_Count'Last (3.5.4, 13.7.1)
abbrev pub integer_last : ℕ
integer_last = 2147483647

-- Integer'First, -2147483648 (3.5.4)
abbrev pub integer_first : ℤ
integer_first = negsuc integer_last

-- the cell of Integer'First: a negative number counts down from 2 ** 64
abbrev pub integer_first_cell : ℕ
integer_first_cell = 18446744071562067968

-- Storage units (13.3) ---------------------------------------------------------

-- of an object that is no record
abbrev pub scalar_size : ℕ
scalar_size = 8

-- that the tag of a tagged record takes
abbrev pub tag_size : ℕ
tag_size = 8

-- of a record, at least
abbrev pub least_record_size : ℕ
least_record_size = 8

-- the alignment that is asked of Allocate
abbrev pub alignment : ℕ
alignment = 8

-- Pools ------------------------------------------------------------------------

abbrev pub least_block_size : ℕ
least_block_size = 8

abbrev pub greatest_block_size : ℕ
greatest_block_size = 4096

abbrev pub least_block_count : ℕ
least_block_count = 1

abbrev pub greatest_block_count : ℕ
greatest_block_count = 65536

abbrev pub least_mark_pool_size : ℕ
least_mark_pool_size = 8

abbrev pub greatest_mark_pool_size : ℕ
greatest_mark_pool_size = 16777216

-- of one Mark_Release_Pool at a time
abbrev pub greatest_subpool_count : ℕ
greatest_subpool_count = 10
