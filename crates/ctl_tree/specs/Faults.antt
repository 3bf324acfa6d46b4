-- Which of two faults stands first.
use Rattle.std.specs.Prelude.{ℕ, Bool, true, false, if◌then◌else◌, Option, Some, None, nat_lt}
use Rattle.ctl_tree.specs.declared.span.Span.{Span}
use Rattle.ctl_tree.specs.declared.fault.Fault.{Fault}
use Rattle.ctl_tree.specs.declared.fault.FaultCode.{FaultCode}
use Rattle.ctl_tree.specs.declared.fault.FaultCode.TheVariants as rule

-- the number of a rule, as it is printed
abbrev pub number : FaultCode → ℕ
number rule.BadByte = 1
number rule.BadNumber = 2
number rule.OpenString = 3
number rule.BadIdentifier = 4
number rule.TooLong = 5
number rule.Memory = 9
number rule.Unexpected = 10
number rule.TooDeep = 11
number rule.LeftOut = 12
number rule.EndName = 13
number rule.Unknown = 20
number rule.Duplicate = 21
number rule.NoBody = 22
number rule.Order = 23
number rule.Elab = 24
number rule.NotWithed = 25
number rule.LatePrimitive = 26
number rule.«Type» = 30
number rule.Mode = 31
number rule.Limited = 32
number rule.Override = 33
number rule.Range = 34
number rule.Return = 35
number rule.Pool = 36
number rule.SelfContained = 37
number rule.Level = 40
number rule.SubpoolLevel = 41
number rule.ClassLevel = 42

-- by line, by column, and then by number
abbrev pub is_before : Fault → Fault → Bool
is_before a b =
    if nat_lt a.line b.line then true
    else if nat_lt b.line a.line then false
    else if nat_lt a.column b.column then true
    else if nat_lt b.column a.column then false
    else nat_lt (number a.code) (number b.code)

abbrev pub fault_at : FaultCode → Span → Fault
fault_at code place = record { code = code; line = place.line; column = place.column }

-- the first of those so far and one more
abbrev pub first_of : Option Fault → Fault → Option Fault
first_of None f = Some f
first_of (Some g) f = if is_before f g then Some f else Some g
