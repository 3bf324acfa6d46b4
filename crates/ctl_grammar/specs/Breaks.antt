-- Where the tokens of a text first break a rule of names, or open one construct too many.
use Rattle.std.specs.Prelude.{◌≡◌, ℕ, zero, suc, true, false, ◌&&◌, List, ◌∷◌, ◌++◌, cond, ◌⊎◌}
use Rattle.ctl_tree.specs.declared.token.Token.{Token}
use Rattle.ctl_grammar.specs.declared.refused.Reason.{Reason}
use Rattle.ctl_grammar.specs.declared.refused.Reason.TheVariants.{TooDeep}
use Rattle.ctl_grammar.specs.Kind.{same_kind}
use Rattle.ctl_grammar.specs.Form.{Node, none, every_rule, Nest, Form, word, keep, tested, empty, seq, within, alt, when, many, act, late, nest, nest_starts}
use Rattle.ctl_grammar.specs.Grammar.{body, program}
use Rattle.ctl_grammar.specs.Reading.{broken, begins, is_too_deep, starts_too_deep}
use Rattle.ctl_grammar.specs.Derivation.{Row, Derives, Construct}

-- P holds of a front part of the tokens, and Q of what stands behind it
abbrev pub Behind : (Node → List Token → Type 0) → (Node → List Token → List Token → Type 0) → List Token → List Token → Type 0
Behind P Q ts place = (a : Node) × (x : List Token) × (y : List Token) × (ts ≡ x ++ y) × P a x × Q a y place

-- The tokens `ts` go on as texts of the form do in which every rule holds and no more than `left` constructs stand in one
-- another, up to a token that is refused for this reason. The fault is told at the first of the tokens `place`, which end `ts`:
-- that is the refused token, but where a body is too deep the first token of the item that has it. `Inner` says it of
-- constructs, and `env` is what stands before.
abbrev pub Breaks : Reason → ℕ → (Nest → Node → List Token → List Token → Type 0) → Form → Node → List Token → List Token → Type 0
Breaks reason left Inner (word k) env ts place = ⊥
Breaks reason left Inner (keep k) env ts place = ⊥
Breaks reason left Inner (tested k test rule) env ts place = (t : Token) × (more : List Token) × (ts ≡ t ∷ more) × (same_kind k t.kind ≡ true) × (test env t ≡ false) × (reason ≡ broken rule) × (place ≡ ts)
Breaks reason left Inner empty env ts place = ⊥
Breaks reason left Inner (seq f g) env ts place = Breaks reason left Inner f env ts place ⊎ Behind (Derives every_rule (Construct every_rule left) f env) (λ a. Breaks reason left Inner g env) ts place
Breaks reason left Inner (within f pick g) env ts place = Breaks reason left Inner f env ts place ⊎ Behind (Derives every_rule (Construct every_rule left) f env) (λ a. Breaks reason left Inner g (pick a)) ts place
Breaks reason left Inner (alt f g) env ts place = Breaks reason left Inner f env ts place ⊎ Breaks reason left Inner g env ts place
Breaks reason left Inner (when test f) env ts place = (test env ≡ true) × Breaks reason left Inner f env ts place
Breaks reason left Inner (many f) env ts place = Behind (Row (Derives every_rule (Construct every_rule left) f env)) (λ row. Breaks reason left Inner f env) ts place
Breaks reason left Inner (act make f) env ts place = Breaks reason left Inner f env ts place
Breaks reason left Inner (late head f) env ts place = (there : List Token) × Breaks reason left Inner f env ts there × (place ≡ cond (starts_too_deep left head ts && is_too_deep reason) ts there)
Breaks reason left Inner (nest n) env ts place = Inner n env ts place

-- a construct: where no more may be opened, it is itself one too many, at its first token
abbrev pub BreaksConstruct : Reason → ℕ → Nest → Node → List Token → List Token → Type 0
BreaksConstruct reason zero n env ts place = (begins (nest_starts n) ts ≡ true) × (reason ≡ TooDeep) × (place ≡ ts)
BreaksConstruct reason (suc left) n env ts place = Breaks reason left (BreaksConstruct reason left) (body n) env ts place

-- a whole text
abbrev pub BreaksProgram : Reason → ℕ → List Token → List Token → Type 0
BreaksProgram reason left ts place = Breaks reason left (BreaksConstruct reason left) program none ts place
