-- What holds of all expressions, once it holds of each whose parts it holds of.
use Rattle.std.proofs.Common.{◌≡◌, refl, sym, ap, subst, List, [], ◌∷◌, map, Option, Some, None}
use Rattle.ctl_tree.specs.declared.span.Span.{Span}
use Rattle.ctl_syntax.specs.declared.denoted.Use.{Use}
use Rattle.ctl_syntax.specs.declared.name.Mark.{Mark}
use Rattle.ctl_syntax.specs.declared.name.Name.{Name}
use Rattle.ctl_syntax.specs.declared.name.Suffix.{Suffix}
use Rattle.ctl_syntax.specs.declared.name.Suffix.TheVariants as suffix
use Rattle.ctl_syntax.specs.declared.operators.Operand.{Operand}
use Rattle.ctl_syntax.specs.declared.expression.Expression.{Expression, roll-Expression, map-Expression, fold-roll-Expression, ind-Expression}
use Rattle.ctl_syntax.specs.declared.expression.Expression.TheOpen.{Expression-F}
use Rattle.ctl_typing.specs.Senses.{suffix_sense}
use Rattle.ctl_typing.specs.Typing.{Sense, sense, step_of}
use Rattle.ctl_sound.specs.Known.{IfSome, All}
use Rattle.ctl_sound.proofs.Known.{all_too, each_of_all}

abbrev pub SuffixOf : (Sense → Type 0) → Suffix Sense → Type 0
SuffixOf P (suffix.Selector i) = Unit {0}
SuffixOf P (suffix.All s) = Unit {0}
SuffixOf P (suffix.Arguments s x more) = P x × All P more
SuffixOf P (suffix.Attribute s a) = Unit {0}

abbrev pub OperandOf : (Sense → Type 0) → Operand Sense → Type 0
OperandOf P o = P o.operand

-- it holds of the parts of this construct
abbrev pub LayerOf : (Sense → Type 0) → Expression-F Use Sense → Type 0
LayerOf P (Expression-F.Logical p o a b more) = P a × (P b × All P more)
LayerOf P (Expression-F.Relation p o l r) = P l × P r
LayerOf P (Expression-F.Chain p x o os) = P x × (P o.operand × All (OperandOf P) os)
LayerOf P (Expression-F.Unary p o x) = P x
LayerOf P (Expression-F.Number p m) = Unit {0}
LayerOf P (Expression-F.String p s) = Unit {0}
LayerOf P (Expression-F.Null p) = Unit {0}
LayerOf P (Expression-F.Name p u) = All (SuffixOf P) u.suffixes
LayerOf P (Expression-F.Parentheses p x) = P x
LayerOf P (Expression-F.New p h m v) = IfSome (λ (u : Name Use Sense). All (SuffixOf P) u.suffixes) h × IfSome P v

module _ (P : Sense → Type 0) where
  abbrev Proved : Type 0
  Proved = (x : Expression Use) × P (sense x)

  abbrev bare_suffix : Suffix Proved → Suffix (Expression Use)
  bare_suffix (suffix.Selector i) = suffix.Selector i
  bare_suffix (suffix.All s) = suffix.All s
  bare_suffix (suffix.Arguments s x more) = suffix.Arguments s x.0 (map (λ y. y.0) more)
  bare_suffix (suffix.Attribute s a) = suffix.Attribute s a

  abbrev sensed_suffix : Suffix Proved → Suffix Sense
  sensed_suffix (suffix.Selector i) = suffix.Selector i
  sensed_suffix (suffix.All s) = suffix.All s
  sensed_suffix (suffix.Arguments s x more) = suffix.Arguments s (sense x.0) (map sense (map (λ y. y.0) more))
  sensed_suffix (suffix.Attribute s a) = suffix.Attribute s a

  sensed_right : (xs : List (Suffix Proved)) → All (SuffixOf P) (map sensed_suffix xs)
  sensed_right [] = tt
  sensed_right (suffix.Selector i ∷ xs) = (tt, sensed_right xs)
  sensed_right (suffix.All s ∷ xs) = (tt, sensed_right xs)
  sensed_right (suffix.Arguments s x more ∷ xs) = ((x.1, all_too sense P more), sensed_right xs)
  sensed_right (suffix.Attribute s a ∷ xs) = (tt, sensed_right xs)

  abbrev bare_layer : Expression-F Use Proved → Expression-F Use (Expression Use)
  bare_layer = map-Expression Use Proved (Expression Use) (λ y. y.0)

  abbrev sensed_layer : Expression-F Use Proved → Expression-F Use Sense
  sensed_layer y = map-Expression Use (Expression Use) Sense sense (bare_layer y)

  -- a suffix before those of a name, or of a handle
  abbrev with_suffix : Suffix Sense → Expression-F Use Sense → Expression-F Use Sense
  with_suffix s (Expression-F.Name p u) = Expression-F.Name p (record { first = u.first; suffixes = s ∷ u.suffixes })
  with_suffix s (Expression-F.New p (Some u) m v) = Expression-F.New p (Some (record { first = u.first; suffixes = s ∷ u.suffixes })) m v
  with_suffix s y = y

  name_layer : (p : Span) (u : Use) (xs : List (Suffix Proved)) → sensed_layer (Expression-F.Name p (record { first = u; suffixes = xs })) ≡ Expression-F.Name p (record { first = u; suffixes = map sensed_suffix xs })
  name_layer p u [] = refl
  name_layer p u (suffix.Selector i ∷ xs) = ap (with_suffix (suffix.Selector i)) (name_layer p u xs)
  name_layer p u (suffix.All s ∷ xs) = ap (with_suffix (suffix.All s)) (name_layer p u xs)
  name_layer p u (suffix.Arguments s x more ∷ xs) = ap (with_suffix (suffix.Arguments s (sense x.0) (map sense (map (λ y. y.0) more)))) (name_layer p u xs)
  name_layer p u (suffix.Attribute s a ∷ xs) = ap (with_suffix (suffix.Attribute s a)) (name_layer p u xs)

  abbrev sensed_value : Option Proved → Option Sense
  sensed_value None = None
  sensed_value (Some x) = Some (sense x.0)

  handle_layer : (p : Span) (u : Use) (m : Mark Use) (v : Option Proved) (xs : List (Suffix Proved)) → sensed_layer (Expression-F.New p (Some (record { first = u; suffixes = xs })) m v) ≡ Expression-F.New p (Some (record { first = u; suffixes = map sensed_suffix xs })) m (sensed_value v)
  handle_layer p u m None [] = refl
  handle_layer p u m (Some v) [] = refl
  handle_layer p u m v (suffix.Selector i ∷ xs) = ap (with_suffix (suffix.Selector i)) (handle_layer p u m v xs)
  handle_layer p u m v (suffix.All s ∷ xs) = ap (with_suffix (suffix.All s)) (handle_layer p u m v xs)
  handle_layer p u m v (suffix.Arguments s x more ∷ xs) = ap (with_suffix (suffix.Arguments s (sense x.0) (map sense (map (λ y. y.0) more)))) (handle_layer p u m v xs)
  handle_layer p u m v (suffix.Attribute s a ∷ xs) = ap (with_suffix (suffix.Attribute s a)) (handle_layer p u m v xs)

  abbrev sensed_handle : Option (Name Use Proved) → Option (Name Use Sense)
  sensed_handle None = None
  sensed_handle (Some u) = Some (record { first = u.first; suffixes = map sensed_suffix u.suffixes })

  new_layer : (p : Span) (h : Option (Name Use Proved)) (m : Mark Use) (v : Option Proved) → sensed_layer (Expression-F.New p h m v) ≡ Expression-F.New p (sensed_handle h) m (sensed_value v)
  new_layer p None m None = refl
  new_layer p None m (Some v) = refl
  new_layer p (Some u) m v = handle_layer p u.first m v u.suffixes

  handle_right : (h : Option (Name Use Proved)) → IfSome (λ (u : Name Use Sense). All (SuffixOf P) u.suffixes) (sensed_handle h)
  handle_right None = tt
  handle_right (Some u) = sensed_right u.suffixes

  value_right : (v : Option Proved) → IfSome P (sensed_value v)
  value_right None = tt
  value_right (Some x) = x.1

  abbrev sensed_operand : Operand Proved → Operand Sense
  sensed_operand o = record { operator = o.operator; operand = sense o.operand.0 }

  operands_right : (os : List (Operand Proved)) → All (OperandOf P) (map sensed_operand os)
  operands_right [] = tt
  operands_right (o ∷ os) = (o.operand.1, operands_right os)

  operand_layer : (p : Span) (x : Proved) (o : Operand Proved) (os : List (Operand Proved)) → sensed_layer (Expression-F.Chain p x o os) ≡ Expression-F.Chain p (sense x.0) (sensed_operand o) (map sensed_operand os)
  operand_layer p x o [] = refl
  operand_layer p x o (q ∷ os) = ap (with_operand (sensed_operand q)) (operand_layer p x o os)
    where
      with_operand : Operand Sense → Expression-F Use Sense → Expression-F Use Sense
      with_operand q (Expression-F.Chain p x o os) = Expression-F.Chain p x o (q ∷ os)
      with_operand q y = y

  layer_of : (y : Expression-F Use Proved) → LayerOf P (sensed_layer y)
  layer_of (Expression-F.Logical p o a b more) = (a.1, (b.1, all_too sense P more))
  layer_of (Expression-F.Relation p o l r) = (l.1, r.1)
  layer_of (Expression-F.Chain p x o os) = subst (LayerOf P) (sym (operand_layer p x o os)) (x.1, (o.operand.1, operands_right os))
  layer_of (Expression-F.Unary p o x) = x.1
  layer_of (Expression-F.Number p m) = tt
  layer_of (Expression-F.String p s) = tt
  layer_of (Expression-F.Null p) = tt
  layer_of (Expression-F.Name p u) = subst (LayerOf P) (sym (name_layer p u.first u.suffixes)) (sensed_right u.suffixes)
  layer_of (Expression-F.Parentheses p x) = x.1
  layer_of (Expression-F.New p h m v) = subst (LayerOf P) (sym (new_layer p h m v)) (handle_right h, value_right v)

  pub of_each : ((y : Expression-F Use Sense) → LayerOf P y → P (step_of y)) → (x : Expression Use) → P (sense x)
  of_each h = ind-Expression Use (λ x. P (sense x)) (λ x y is'. subst (λ z. P (sense (roll-Expression Use z))) is' (subst P (sym (fold-roll-Expression Use Sense step_of (bare_layer y))) (h (sensed_layer y) (layer_of y))))

  pub suffixes_of : ((x : Expression Use) → P (sense x)) → (xs : List (Suffix (Expression Use))) → All (SuffixOf P) (map suffix_sense xs)
  suffixes_of h [] = tt
  suffixes_of h (suffix.Selector i ∷ xs) = (tt, suffixes_of h xs)
  suffixes_of h (suffix.All s ∷ xs) = (tt, suffixes_of h xs)
  suffixes_of h (suffix.Arguments s x more ∷ xs) = ((h x, each_of_all sense P h more), suffixes_of h xs)
  suffixes_of h (suffix.Attribute s a ∷ xs) = (tt, suffixes_of h xs)
