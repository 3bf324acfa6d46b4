-- Reading a form from left to right, one token ahead, with the first fault that is met.
use Rattle.std.specs.Prelude.{◌≡◌, ℕ, zero, suc, Bool, true, false, ◌&&◌, ◌||◌, not, List, [], ◌∷◌, length, Result, Ok, Err, cond}
use Rattle.ctl_tree.specs.declared.token.Kind.{Kind}
use Rattle.ctl_tree.specs.declared.token.Token.{Token}
use Rattle.ctl_grammar.specs.declared.refused.Reason.{Reason}
use Rattle.ctl_grammar.specs.declared.refused.Reason.TheVariants.{Unexpected, TooDeep, LeftOut, EndName}
use Rattle.ctl_grammar.specs.declared.refused.Refused.{Refused}
use Rattle.ctl_grammar.specs.declared.refused.Refused.TheVariants as refused
use Rattle.ctl_grammar.specs.Kind.{same_kind}
use Rattle.ctl_grammar.specs.Form.{Node, none, leaf, pair, Nest, Rule, Known, Ends, Form, word, keep, tested, empty, seq, within, alt, when, many, act, late, nest, has, starts, nest_starts, Rules, every_rule, no_rule}
use Rattle.ctl_grammar.specs.Grammar.{body}

-- what was read and the tokens behind it, or what is wrong and the tokens from the faulty one on
abbrev pub Read : Type 0
Read = Result (Node × List Token) (Reason × List Token)

infixl 10 ◌>>=◌
abbrev pub ◌>>=◌ : Read → (Node × List Token → Read) → Read
(Ok x) >>= f = f x
(Err e) >>= f = Err e

-- what was read, where the node is made from what was read
abbrev pub made : (Node → Node) → Read → Read
made f o = o >>= λ x. Ok (f x.0, x.1)

-- what is wrong where a rule of names is broken
abbrev pub broken : Rule → Reason
broken Known = LeftOut
broken Ends = EndName

-- a token of this kind
abbrev pub token_at : Kind → (Token → Node) → List Token → Read
token_at k make [] = Err (Unexpected, [])
token_at k make (t ∷ ts) = cond (same_kind k t.kind) (Ok (make t, ts)) (Err (Unexpected, t ∷ ts))

-- a token of this kind that a rule allows, if this rule counts
abbrev pub tested_at : Rules → Kind → (Token → Bool) → Rule → List Token → Read
tested_at counts k test rule [] = Err (Unexpected, [])
tested_at counts k test rule (t ∷ ts) = cond (same_kind k t.kind) (cond (test t || not (counts rule)) (Ok (leaf t, ts)) (Err (broken rule, t ∷ ts))) (Err (Unexpected, t ∷ ts))

-- whether the next token is one of these
abbrev pub begins : List Kind → List Token → Bool
begins ks [] = false
begins ks (t ∷ ts) = has t.kind ks

-- two parts, one behind the other
abbrev pub both : (List Token → Read) → (Node → List Token → Read) → List Token → Read
both r s ts = r ts >>= λ x. s x.0 x.1 >>= λ y. Ok (pair x.0 y.0, y.1)

-- at most n of them, while the next token begins one
abbrev pub repeat : (List Token → Bool) → (List Token → Read) → ℕ → List Token → Read
repeat go r zero ts = Ok (none, ts)
repeat go r (suc n) ts = cond (go ts) (r ts >>= λ x. repeat go r n x.1 >>= λ y. Ok (pair x.0 y.0, y.1)) (Ok (none, ts))

unfoldable pub all_of : (List Token → Bool) → (List Token → Read) → List Token → Read
all_of go r ts = repeat go r (length ts) ts

abbrev pub is_too_deep : Reason → Bool
is_too_deep TooDeep = true
is_too_deep Unexpected = false
is_too_deep LeftOut = false
is_too_deep EndName = false

-- what is too deep stands here, where b is true
abbrev pub from_here : Bool → List Token → Read → Read
from_here b ts (Ok x) = Ok x
from_here b ts (Err e) = Err (e.0, cond (b && is_too_deep e.0) ts e.1)

abbrev pub is_read : Read → Bool
is_read (Ok x) = true
is_read (Err e) = false

-- no construct at all
abbrev pub nowhere : Nest → Node → List Token → Read
nowhere n env ts = Err (Unexpected, ts)

-- Reading a form. `counts` says which rules of names count. `full` says that no more construct may be opened, so that
-- what is too deep stands where a `late` form begins. `inner` reads constructs, and `env` is what was read before.
abbrev pub reader : Rules → Bool → (Nest → Node → List Token → Read) → Form → Node → List Token → Read
reader counts full inner (word k) env ts = token_at k (λ t. none) ts
reader counts full inner (keep k) env ts = token_at k (λ t. leaf t) ts
reader counts full inner (tested k test rule) env ts = tested_at counts k (test env) rule ts
reader counts full inner empty env ts = Ok (none, ts)
reader counts full inner (seq f g) env ts = both (reader counts full inner f env) (λ a. reader counts full inner g env) ts
reader counts full inner (within f pick g) env ts = both (reader counts full inner f env) (λ a. reader counts full inner g (pick a)) ts
reader counts full inner (alt f g) env ts = cond (begins (starts f) ts) (reader counts full inner f env ts) (reader counts full inner g env ts)
reader counts full inner (when test f) env ts = cond (test env && begins (starts f) ts) (reader counts full inner f env ts) (Ok (none, ts))
reader counts full inner (many f) env ts = all_of (begins (starts f)) (reader counts full inner f env) ts
reader counts full inner (act make f) env ts = reader counts full inner f env ts >>= λ x. Ok (make x.0, x.1)
reader counts full inner (late head f) env ts = from_here (full && is_read (reader no_rule false nowhere head none ts)) ts (reader counts full inner f env ts)
reader counts full inner (nest n) env ts = inner n env ts

abbrev pub is_zero : ℕ → Bool
is_zero zero = true
is_zero (suc n) = false

-- A construct, with room for so many in one another. Where `moved` is false, `late` forms change no place.
unfoldable pub construct : Rules → Bool → ℕ → Nest → Node → List Token → Read
construct counts moved zero n env ts = cond (begins (nest_starts n) ts) (Err (TooDeep, ts)) (Err (Unexpected, ts))
construct counts moved (suc left) n env ts = cond (begins (nest_starts n) ts) (reader counts (moved && is_zero left) (construct counts moved left) (body n) env ts) (Err (Unexpected, ts))

-- a form, with room for so many constructs in one another
abbrev pub read_with : Rules → Bool → ℕ → Form → Node → List Token → Read
read_with counts moved left f env ts = reader counts (moved && is_zero left) (construct counts moved left) f env ts

-- what the parser is to answer
abbrev pub read : ℕ → Form → Node → List Token → Read
read left f env ts = read_with every_rule true left f env ts

-- whether the tokens begin with the form
abbrev pub is_ahead : Form → List Token → Bool
is_ahead head ts = is_read (reader no_rule false nowhere head none ts)

-- whether what is too deep is to stand at the first of these tokens: no more construct may be opened, and they begin so
abbrev pub starts_too_deep : ℕ → Form → List Token → Bool
starts_too_deep left head ts = is_zero left && is_ahead head ts

-- What a function returned, seen by view, and the tokens that it left are what reading gives, unless memory ran out.
abbrev pub Gives : {X : Type 0} → (X → Node) → Result X Refused → List Token → Read → Type 0
Gives view (Ok x) now given = given ≡ Ok (view x, now)
Gives view (Err refused.Memory) now given = Unit {0}
Gives view (Err (refused.Token f)) now given = given ≡ Err (f, now)
