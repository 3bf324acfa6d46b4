-- What tokens a form derives, and what they stand for.
use Rattle.std.specs.Prelude.{◌≡◌, ℕ, zero, suc, true, ◌||◌, not, List, [], ◌∷◌, ◌++◌, ◌⊎◌}
use Rattle.ctl_tree.specs.declared.token.Token.{Token}
use Rattle.ctl_grammar.specs.Kind.{same_kind}
use Rattle.ctl_grammar.specs.Form.{Node, none, leaf, num, written, at, pair, tag, Nest, Form, word, keep, tested, empty, seq, within, alt, when, many, act, late, nest, Rules}
use Rattle.ctl_grammar.specs.Grammar.{body}

-- the tokens fall into two parts
abbrev pub Split : (List Token → Type 0) → (List Token → Type 0) → List Token → Type 0
Split P Q ts = (x : List Token) × (y : List Token) × (ts ≡ x ++ y) × P x × Q y

-- any number of them in a row
abbrev pub Row : (Node → List Token → Type 0) → Node → List Token → Type 0
Row P none ts = ts ≡ []
Row P (pair a b) ts = Split (P a) (Row P b) ts
Row P (leaf t) ts = ⊥
Row P (num n) ts = ⊥
Row P (written s) ts = ⊥
Row P (at p) ts = ⊥
Row P (tag n v) ts = ⊥

-- two parts, the second of which may depend on what the first stands for
abbrev pub Both : (Node → List Token → Type 0) → (Node → Node → List Token → Type 0) → Node → List Token → Type 0
Both P Q (pair a b) ts = Split (P a) (Q a b) ts
Both P Q none ts = ⊥
Both P Q (leaf t) ts = ⊥
Both P Q (num n) ts = ⊥
Both P Q (written s) ts = ⊥
Both P Q (at p) ts = ⊥
Both P Q (tag n v) ts = ⊥

-- The form derives the tokens, and they stand for the node. `counts` says which rules of names count, `Inner` says it of
-- constructs, and `env` is what stands before.
abbrev pub Derives : Rules → (Nest → Node → Node → List Token → Type 0) → Form → Node → Node → List Token → Type 0
Derives counts Inner (word k) env v ts = (t : Token) × (same_kind k t.kind ≡ true) × (ts ≡ t ∷ []) × (v ≡ none)
Derives counts Inner (keep k) env v ts = (t : Token) × (same_kind k t.kind ≡ true) × (ts ≡ t ∷ []) × (v ≡ leaf t)
Derives counts Inner (tested k test rule) env v ts = (t : Token) × (same_kind k t.kind ≡ true) × (ts ≡ t ∷ []) × (v ≡ leaf t) × ((test env t || not (counts rule)) ≡ true)
Derives counts Inner empty env v ts = (ts ≡ []) × (v ≡ none)
Derives counts Inner (seq f g) env v ts = Both (Derives counts Inner f env) (λ a. Derives counts Inner g env) v ts
Derives counts Inner (within f pick g) env v ts = Both (Derives counts Inner f env) (λ a. Derives counts Inner g (pick a)) v ts
Derives counts Inner (alt f g) env v ts = Derives counts Inner f env v ts ⊎ Derives counts Inner g env v ts
Derives counts Inner (when test f) env v ts = ((test env ≡ true) × Derives counts Inner f env v ts) ⊎ ((ts ≡ []) × (v ≡ none))
Derives counts Inner (many f) env v ts = Row (Derives counts Inner f env) v ts
Derives counts Inner (act make f) env v ts = (w : Node) × (v ≡ make w) × Derives counts Inner f env w ts
Derives counts Inner (late head f) env v ts = Derives counts Inner f env v ts
Derives counts Inner (nest n) env v ts = Inner n env v ts

-- a construct with at most so many in one another
abbrev pub Construct : Rules → ℕ → Nest → Node → Node → List Token → Type 0
Construct counts zero n env v ts = ⊥
Construct counts (suc left) n env v ts = Derives counts (Construct counts left) (body n) env v ts

-- at whatever depth
abbrev pub AnyConstruct : Rules → Nest → Node → Node → List Token → Type 0
AnyConstruct counts n env v ts = (left : ℕ) × Construct counts left n env v ts

-- The tokens spell a text of the form that stands for the node, with at most so many constructs in one another.
abbrev pub Spells : Rules → ℕ → Form → Node → List Token → Type 0
Spells counts left f v ts = Derives counts (Construct counts left) f none v ts

-- These tokens begin a text of the form, whatever its depth.
abbrev pub Begins : Rules → Form → List Token → Type 0
Begins counts f front = (left : ℕ) × (v : Node) × (more : List Token) × Spells counts left f v (front ++ more)
