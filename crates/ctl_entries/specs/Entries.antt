-- What the entries of a subcommand say.
use Rattle.std.specs.Prelude.{◌≡◌, ◌^◌, ◌<◌, ℕ, List, [], MatchOption, ◌↔◌, Some, codes, unwrap_or}
use Rattle.std.specs.Str.Parse.{IsNumeral, digits_value, without_leading_plus}
use Rattle.clap.specs.Words.{Row, Text, first_of}
use Rattle.ctl_tree.specs.declared.request.Order.{Order}
use Rattle.ctl_tree.specs.declared.request.Order.TheVariants.{Oldest}
use Rattle.ctl_tree.specs.declared.request.Show.{Show}
use Rattle.ctl_tree.specs.declared.request.Show.TheVariants.{Trace}

-- the file that the entries name
abbrev pub file_in : List Row → Text
file_in rows = unwrap_or (first_of (codes "file") rows) []

-- the trace is shown exactly where `--trace` stands
abbrev pub IsShowIn : List Row → Show → Type 0
IsShowIn rows show = (show ≡ Trace) ↔ (first_of (codes "trace") rows ≡ Some (codes "true"))

-- the order is oldest exactly where `--order oldest` stands
abbrev pub IsOrderIn : List Row → Order → Type 0
IsOrderIn rows order = (order ≡ Oldest) ↔ (first_of (codes "order") rows ≡ Some (codes "oldest"))

-- a limit is the number below 2^64 that this text spells
abbrev pub IsSpelled : Text → ℕ → Type 0
IsSpelled text limit =
    IsNumeral 10 (without_leading_plus text) → digits_value 10 (without_leading_plus text) < 2 ^ 64
    → limit ≡ digits_value 10 (without_leading_plus text)

-- the limit of steps: the N of `--steps N`, and ten million where it does not stand
abbrev pub IsLimitIn : List Row → ℕ → Type 0
IsLimitIn rows limit = MatchOption (first_of (codes "steps") rows) (limit ≡ 10000000) (λ text. IsSpelled text limit)
