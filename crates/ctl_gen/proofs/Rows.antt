-- The default expressions of the components of a type, as the meaning finds them, and what those come to that are constants (3.8).
use Rattle.std.proofs.Common.{◌≡◌, ℕ, zero, suc, ◌+◌, ◌-◌, List, [], ◌∷◌, ◌++◌, map, Option, Some, None, refl, sym, ap, ◌∙◌, arith}
use Rattle.std.specs.Prelude.{slice_get, option_map}
use Rattle.ctl_program.specs.declared.expression.Actual.{Actual}
use Rattle.ctl_program.specs.declared.expression.Actual.TheOpen.{Expr-F}
use Rattle.ctl_program.specs.declared.expression.Expr.{Expr, out-Expr, roll-Expr, roll-out-Expr}
use Rattle.ctl_program.specs.declared.expression.Name.{Name}
use Rattle.ctl_program.specs.declared.expression.Operand.{Operand}
use Rattle.ctl_program.specs.declared.types.Component.{Component}
use Rattle.ctl_program.specs.declared.types.RecordType.{RecordType}
use Rattle.ctl_meaning.specs.World.{Log, World}
use Rattle.ctl_meaning.specs.Lists.{item_or}
use Rattle.ctl_meaning.specs.Choice.{Ask}
use Rattle.ctl_meaning.specs.Outcome.{Goes, Gives, on_some, opened_outcome}
use Rattle.ctl_meaning.specs.Types.{of_parent}
use Rattle.ctl_meaning.specs.Names.{Call, gone}
use Rattle.ctl_meaning.specs.Expressions.{Valued, eval, eval_step}
use Rattle.ctl_meaning.proofs.Trees.{eval_roll}
use Rattle.ctl_meaning.specs.Run.{Meaning, row_of, own_defaults, defaults_from, default_at, default_in, expression_tools}
use Rattle.ctl_layout.specs.Records.{all_components, component_rows, constant_at, constant_in, constant_layer, inherited, none_if_absent, rows_by}
use Rattle.ctl_gen.proofs.Known.{IsLaid}
use Rattle.ctl_gen.proofs.Parted.{GivesDefaults}

-- Rows ------------------------------------------------------------------------------------------

abbrev Row : Type 0
Row = List (Option Valued)

abbrev defaults_in : List Component → Row
defaults_in cs = map (λ (c : Component). option_map eval c.default) cs

defaults_both : (xs ys : List Component) → defaults_in (xs ++ ys) ≡ defaults_in xs ++ defaults_in ys
defaults_both [] ys = refl
defaults_both (x ∷ xs) ys = ap (λ (zs : Row). option_map eval x.default ∷ zs) (defaults_both xs ys)

-- the row of a type has the defaults of its components
row_in : (rows : List (List Component)) (p : ℕ) → row_of (map defaults_in rows) p ≡ defaults_in (none_if_absent (slice_get rows p))
unfolding row_of item_or
row_in [] p = refl
row_in (cs ∷ rows) zero = refl
row_in (cs ∷ rows) (suc p) = row_in rows p

from_parent : (rows : List (List Component)) (o : Option ℕ) → of_parent [] (row_of (map defaults_in rows)) o ≡ defaults_in (inherited rows o)
unfolding of_parent
from_parent rows None = refl
from_parent rows (Some p) = row_in rows p

one_row_more : (rows : List (List Component)) (cs : List Component) → map defaults_in (rows ++ cs ∷ []) ≡ map defaults_in rows ++ defaults_in cs ∷ []
one_row_more [] cs = refl
one_row_more (x ∷ rows) cs = ap (λ (zs : List Row). defaults_in x ∷ zs) (one_row_more rows cs)

all_rows : (rows : List (List Component)) (rs : List RecordType) → defaults_from (map defaults_in rows) rs ≡ map defaults_in (rows_by all_components rows rs)
unfolding defaults_from
all_rows rows [] = refl
all_rows rows (r ∷ rs) =
    let row = all_components rows r in
    ap (λ (zs : Row). defaults_from (map defaults_in rows ++ (zs ++ own_defaults r) ∷ []) rs) (from_parent rows r.parent)
    ∙ (ap (λ (zs : Row). defaults_from (map defaults_in rows ++ zs ∷ []) rs) (sym (defaults_both (inherited rows r.parent) r.own))
    ∙ (ap (λ (zs : List Row). defaults_from zs rs) (sym (one_row_more rows row))
    ∙ all_rows (rows ++ row ∷ []) rs))

-- Constants -------------------------------------------------------------------------------------

default_of : (cs : List Component) (i : ℕ) (x : Component) → slice_get cs i ≡ Some x → slice_get (map (λ (c : Component). option_map eval c.default) cs) i ≡ Some (option_map eval x.default)
default_of [] i x at = absurd (cc)
default_of (c ∷ cs) zero x at = let same : c ≡ x = cc at in ap (λ (y : Component). Some (option_map eval y.default)) same
default_of (c ∷ cs) (suc i) x at = default_of cs i x at

-- an expression that is a constant means it
constant_means : (x : Expr) (n : ℕ) → constant_at x ≡ Some n → eval x ≡ eval_step (Expr-F.Constant n)
constant_means x n found = by (out-Expr x) (roll-out-Expr x) found
  where
    by : (y : Expr-F Actual Expr Name Operand) → roll-Expr y ≡ x → constant_layer y ≡ Some n → eval x ≡ eval_step (Expr-F.Constant n)
    by (Expr-F.Constant m) is same = let here : m ≡ n = cc same in ap eval (sym is) ∙ eval_roll (Expr-F.Constant m) ∙ ap (λ j. eval_step (Expr-F.Constant j)) here
    by (Expr-F.Read y ty) is same = absurd (cc)
    by (Expr-F.Call f actuals ty) is same = absurd (cc)
    by (Expr-F.Unary op ty y) is same = absurd (cc)
    by (Expr-F.Chain y o more) is same = absurd (cc)
    by (Expr-F.Short form y z more) is same = absurd (cc)
    by (Expr-F.Convert ty y) is same = absurd (cc)
    by (Expr-F.Access v) is same = absurd (cc)
    by (Expr-F.New access ty handle y) is same = absurd (cc)
    by (Expr-F.Subpool which y) is same = absurd (cc)
    by (Expr-F.Discriminant y j) is same = absurd (cc)

module _ (ask : Ask) (p : Meaning) (call : Call) (rows : p.defaults ≡ defaults_from [] p.tables.records) where
  pub gives_defaults : GivesDefaults p.tables (default_in p.defaults (expression_tools ask p call))
  unfolding default_in default_at expression_tools item_or eval_step opened_outcome
  gives_defaults t r at plain i x n here is env c l w =
      ap (λ o. on_some (item_or None (slice_get o (i + 1 - 1))) gone (λ (e : Valued). e (expression_tools ask p call) env) c l w) row
      ∙ (ap (λ j. on_some (item_or None (slice_get (defaults_in plain.components) j)) gone (λ (e : Valued). e (expression_tools ask p call) env) c l w) back
      ∙ (ap (λ o. on_some (item_or None o) gone (λ (e : Valued). e (expression_tools ask p call) env) c l w) (default_of plain.components i x here)
      ∙ by x.default is))
    where
      row : row_of p.defaults t ≡ defaults_in plain.components
      row = ap (λ z. row_of z t) (rows ∙ all_rows [] p.tables.records) ∙ (row_in (component_rows p.tables.records) t ∙ ap (λ o. defaults_in (none_if_absent o)) plain.laid.has.row)

      back : i + 1 - 1 ≡ i
      back = omega arith

      by : (o : Option Expr) → constant_in o ≡ Some n → on_some (option_map eval o) gone (λ (e : Valued). e (expression_tools ask p call) env) c l w ≡ Gives (Goes (n ∷ [])) 1 c l w
      by None e = absurd (cc)
      by (Some y) e = ap (λ (m : Valued). m (expression_tools ask p call) env c l w) (constant_means y n e)

  -- the default of each component is the value of its expression
  pub default_means : (t : ℕ) (cs : List Component) → IsLaid p.tables.records t cs → (i : ℕ) (x : Component) (y : Expr) → slice_get cs i ≡ Some x → x.default ≡ Some y → (env : List ℕ) (c : ℕ) (l : Log) (w : World) → default_in p.defaults (expression_tools ask p call) t (i + 1) env c l w ≡ eval y (expression_tools ask p call) env c l w
  unfolding default_in default_at item_or opened_outcome
  default_means t cs laid i x y here is env c l w =
      ap (λ o. on_some (item_or None (slice_get o (i + 1 - 1))) gone (λ (e : Valued). e (expression_tools ask p call) env) c l w) row
      ∙ (ap (λ j. on_some (item_or None (slice_get (defaults_in cs) j)) gone (λ (e : Valued). e (expression_tools ask p call) env) c l w) back
      ∙ (ap (λ o. on_some (item_or None o) gone (λ (e : Valued). e (expression_tools ask p call) env) c l w) (default_of cs i x here)
      ∙ ap (λ o. on_some (option_map eval o) gone (λ (e : Valued). e (expression_tools ask p call) env) c l w) is))
    where
      row : row_of p.defaults t ≡ defaults_in cs
      row = ap (λ z. row_of z t) (rows ∙ all_rows [] p.tables.records) ∙ (row_in (component_rows p.tables.records) t ∙ ap (λ o. defaults_in (none_if_absent o)) laid.has.row)

      back : i + 1 - 1 ≡ i
      back = omega arith
