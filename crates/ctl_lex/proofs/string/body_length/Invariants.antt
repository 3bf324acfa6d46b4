use Rattle.std.proofs.Common.{◌≡◌, ◌-◌, ◌≤◌, true, false, drop, ℕ, Bool}
use Rattle.ctl_lexis.specs.Reading.{body_length, add_to}
use Rattle.ctl_lex.proofs.string.body_length.Given as goal

-- the bytes before this place that surely belong to the body: not a quotation mark that may close it
abbrev pub passed : Bool → ℕ → ℕ
passed true i = i - 1
passed false i = i

abbrev pub invariant-loop-i : goal.invariant-loop-i
invariant-loop-i l = record {
  rest : add_to (passed l.behind_mark l.i) (body_length l.behind_mark (drop l.i l.body)) ≡ body_length false l.body;
  mark : l.behind_mark ≡ true → 1 ≤ l.i;
}
