-- How deep a text may nest.
use Rattle.std.specs.Prelude.{ℕ}

-- how many constructs may stand in one another: bodies of subprograms, blocks, ifs, loops and pairs of parentheses (profile)
abbrev pub greatest_depth : ℕ
greatest_depth = 100
