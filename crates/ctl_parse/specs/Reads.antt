-- What the methods of the parser do.
use Rattle.std.specs.Prelude.{◌≡◌, ℕ, ◌+◌, Bool, true, false, ◌&&◌, List, [], ◌∷◌, ◌++◌, Option, Some, None, Ok, Err, suc, length, cond}
use Rattle.ctl_tree.specs.declared.token.Kind.{Kind}
use Rattle.ctl_tree.specs.declared.token.Token.{Token}
use Rattle.ctl_grammar.specs.declared.refused.Reason.TheVariants.{Unexpected, TooDeep}
use Rattle.ctl_grammar.specs.declared.refused.Refused.{Refused}
use Rattle.ctl_grammar.specs.declared.refused.Refused.TheVariants as refused
use Rattle.ctl_grammar.specs.Form.{Node, none, Form, many}
use Rattle.ctl_grammar.specs.Nodes.{joined_row}
use Rattle.ctl_grammar.specs.Reading.{Read, begins, read, starts_too_deep}
use Rattle.ctl_parse.specs.declared.cursor.Parser.{Parser}
use Rattle.ctl_parse.specs.Kept.{kept_read}

-- whether no fault stands
abbrev pub is_sound : Option Refused → Bool
is_sound None = true
is_sound (Some f) = false

-- whether the parser goes on with one of these tokens
abbrev pub sees : List Kind → Parser → Bool
sees kinds p = is_sound p.fault && begins kinds p.rest.now

-- ---- reading

-- Reading gave this node and these tokens behind it, or it met this fault at the first of these tokens, or memory was refused.
abbrev pub Gave : Read → Node → Option Refused → List Token → Type 0
Gave given v None now = kept_read given ≡ Ok (v, now)
Gave given v (Some refused.Memory) now = Unit {0}
Gave given v (Some (refused.Token reason)) now = given ≡ Err (reason, now)

-- the same of a parser that may have a fault already: it stays where it is
abbrev pub Goes : Option Refused → List Token → Read → Node → Option Refused → List Token → Type 0
Goes None before given v fault now = Gave given v fault now
Goes (Some f) before given v fault now = (fault ≡ Some f) × (now ≡ before)

-- The parser went from here to there by reading the form, which stood for the node.
pub record Reads (form : Form) (env : Node) (from : Parser) (v : Node) (there : Parser) : Type 0 where
  pub left : there.left ≡ from.left
  pub goes : Goes from.fault from.rest.now (read from.left form env from.rest.now) v there.fault there.rest.now

-- The parser met a fault where it read the form, or it had one: the node that it gives means nothing.
pub record Stops (form : Form) (from there : Parser) : Type 0 where
  pub faulty : is_sound there.fault ≡ false
  pub reads : Reads form none from none there

-- ---- making

-- the node was made from that one, or memory was refused; where a fault stood, it stands
abbrev pub Made : Option Refused → Node → Node → Option Refused → Type 0
Made None w v None = v ≡ w
Made None w v (Some refused.Memory) = Unit {0}
Made None w v (Some (refused.Token reason)) = ⊥
Made (Some f) w v fault = fault ≡ Some f

-- The parser made from this node that one, where it stood.
pub record Builds (parts : Node) (from : Parser) (v : Node) (there : Parser) : Type 0 where
  pub left : there.left ≡ from.left
  pub rest : there.rest.now ≡ from.rest.now
  pub made : Made from.fault parts v there.fault

-- memory was refused, or a fault stood already
abbrev pub Refuses : Option Refused → Option Refused → Type 0
Refuses None after = after ≡ Some refused.Memory
Refuses (Some f) after = after ≡ Some f

-- something was put behind a list, or memory was refused; where a fault stood, it stands
abbrev pub Appended : {X : Type 0} → Option Refused → List X → X → List X → Option Refused → Type 0
Appended None before x after None = after ≡ before ++ x ∷ []
Appended None before x after (Some refused.Memory) = Unit {0}
Appended None before x after (Some (refused.Token reason)) = ⊥
Appended (Some f) before x after fault = fault ≡ Some f

-- The parser put this behind that list, where it stood.
pub record Appends {X : Type 0} (before : List X) (x : X) (after : List X) (from there : Parser) : Type 0 where
  pub left : there.left ≡ from.left
  pub rest : there.rest.now ≡ from.rest.now
  pub appended : Appended from.fault before x after there.fault

-- ---- constructs

-- The parser opened a construct, of which it is said whether its first token is next.
pub record Opened (is_next : Bool) (from there : Parser) : Type 0 where
  pub next : is_next ≡ true
  pub left : from.left ≡ there.left + 1
  pub rest : there.rest.now ≡ from.rest.now
  pub fault : there.fault ≡ from.fault

-- why a construct is not opened: another token is next, or no more may be opened, or a fault stood already
abbrev pub Barred : Option Refused → Bool → ℕ → Option Refused → Type 0
Barred None false left fault = fault ≡ Some (refused.Token Unexpected)
Barred None true left fault = (left ≡ 0) × (fault ≡ Some (refused.Token TooDeep))
Barred (Some f) is_next left fault = fault ≡ Some f

pub record Unopened (is_next : Bool) (from there : Parser) : Type 0 where
  pub left : there.left ≡ from.left
  pub rest : there.rest.now ≡ from.rest.now
  pub barred : Barred from.fault is_next from.left there.fault

-- ---- what may be too deep

-- Where no fault stood, the body that begins here is too deep and that is noted, or it is none and nothing is noted, or memory was
-- refused; where a fault stood, it stands.
abbrev pub Bounded : Option Refused → Bool → Option Refused → Type 0
Bounded None is_deep None = is_deep ≡ false
Bounded None is_deep (Some refused.Memory) = Unit {0}
Bounded None is_deep (Some (refused.Token reason)) = (is_deep ≡ true) × (reason ≡ TooDeep)
Bounded (Some f) is_deep fault = fault ≡ Some f

-- What stopped the reading of a form ahead: nothing, where the tokens begin with it; where memory was refused nothing is said.
abbrev pub Foreseen : Bool → Option Refused → Type 0
Foreseen is_there None = is_there ≡ true
Foreseen is_there (Some refused.Memory) = Unit {0}
Foreseen is_there (Some (refused.Token reason)) = is_there ≡ false

-- The parser noted where it stood whether what begins so is too deep.
pub record Bounds (head : Form) (from there : Parser) : Type 0 where
  pub left : there.left ≡ from.left
  pub rest : there.rest.now ≡ from.rest.now
  pub bounded : Bounded from.fault (starts_too_deep from.left head from.rest.now) there.fault

-- ---- the end

-- a fault stood already, or a token that is left is unexpected
abbrev pub Ended : Option Refused → List Token → Option Refused → Type 0
Ended (Some f) ts fault = fault ≡ Some f
Ended None [] fault = fault ≡ None
Ended None (t ∷ ts) fault = fault ≡ Some (refused.Token Unexpected)

-- The parser refused what was left, where something was.
pub record Ends (from there : Parser) : Type 0 where
  pub left : there.left ≡ from.left
  pub rest : there.rest.now ≡ from.rest.now
  pub ended : Ended from.fault from.rest.now there.fault

-- ---- loops

-- What reads the row of these forms to its end from there on has read the whole from the beginning on, with these nodes in front.
pub record Gathers (whole each : Form) (env : Node) (from : Parser) (front : List Node) (there : Parser) : Type 0 where
  pub left : there.left ≡ from.left
  pub so_far : (v : Node) (last : Parser) → Reads (many each) env there v last → Reads whole env from (joined_row front v) last

-- how much a parser may still read
abbrev pub pending : Parser → ℕ
pending p = cond (is_sound p.fault) (suc (length p.rest.now)) 0
