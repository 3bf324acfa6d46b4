-- Opening a construct.
use Rattle.std.proofs.Common.{◌≡◌, ℕ, zero, suc, ◌<◌, ◌-◌, true, false, List, Err, refl, arith}
use Rattle.ctl_tree.specs.declared.token.Token.{Token}
use Rattle.ctl_grammar.specs.declared.refused.Reason.TheVariants.{Unexpected, TooDeep}
use Rattle.ctl_grammar.specs.Form.{Node, Nest, nest_starts, every_rule}
use Rattle.ctl_grammar.specs.Grammar.{body}
use Rattle.ctl_grammar.specs.Reading.{begins, construct, read}

pub construct_opened : (left : ℕ) (n : Nest) (env : Node) (ts : List Token) → begins (nest_starts n) ts ≡ true → 0 < left → construct every_rule true left n env ts ≡ read (left - 1) (body n) env ts
unfolding construct
construct_opened zero n env ts b h = absurd (omega arith)
construct_opened (suc m) n env ts b h = let e : suc m - 1 ≡ m = omega arith in rw (b, e) refl

pub construct_full : (left : ℕ) (n : Nest) (env : Node) (ts : List Token) → begins (nest_starts n) ts ≡ true → left ≡ 0 → construct every_rule true left n env ts ≡ Err (TooDeep, ts)
unfolding construct
construct_full zero n env ts b h = rw b refl
construct_full (suc m) n env ts b h = absurd (omega arith)

pub construct_other : (left : ℕ) (n : Nest) (env : Node) (ts : List Token) → begins (nest_starts n) ts ≡ false → construct every_rule true left n env ts ≡ Err (Unexpected, ts)
unfolding construct
construct_other zero n env ts b = rw b refl
construct_other (suc m) n env ts b = rw b refl
