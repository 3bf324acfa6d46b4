-- Declarations and their parts are read back from what they stand for.
use Rattle.std.proofs.Common.{◌≡◌, List, [], ◌∷◌, map, Option, Some, None, refl, ap, ◌∙◌}
use Rattle.ctl_tree.specs.declared.span.Span.{Span}
use Rattle.ctl_grammar.specs.Form.{Node}
use Rattle.ctl_grammar.specs.Nodes.{alone, row_of}
use Rattle.ctl_syntax.specs.declared.name.Identifier.{Identifier}
use Rattle.ctl_syntax.specs.declared.name.Mark.{Mark}
use Rattle.ctl_syntax.specs.declared.expression.Expression.{Expression}
use Rattle.ctl_syntax.specs.declared.item.Aliasing.{Aliasing}
use Rattle.ctl_syntax.specs.declared.item.Aliasing.TheVariants as aliasing
use Rattle.ctl_syntax.specs.declared.item.Association.{Association}
use Rattle.ctl_syntax.specs.declared.item.Choices.{Choices}
use Rattle.ctl_syntax.specs.declared.item.Choices.TheVariants as choice
use Rattle.ctl_syntax.specs.declared.item.Components.{Components}
use Rattle.ctl_syntax.specs.declared.item.Constancy.{Constancy}
use Rattle.ctl_syntax.specs.declared.item.Constancy.TheVariants as constancy
use Rattle.ctl_syntax.specs.declared.item.Context.{Context}
use Rattle.ctl_syntax.specs.declared.item.ContextKind.{ContextKind}
use Rattle.ctl_syntax.specs.declared.item.ContextKind.TheVariants as context_kind
use Rattle.ctl_syntax.specs.declared.item.Coverage.{Coverage}
use Rattle.ctl_syntax.specs.declared.item.Coverage.TheVariants as coverage
use Rattle.ctl_syntax.specs.declared.item.Definition.{Definition}
use Rattle.ctl_syntax.specs.declared.item.Definition.TheVariants as definition
use Rattle.ctl_syntax.specs.declared.item.Direction.{Direction}
use Rattle.ctl_syntax.specs.declared.item.Direction.TheVariants as direction
use Rattle.ctl_syntax.specs.declared.item.Formal.{Formal}
use Rattle.ctl_syntax.specs.declared.item.Generality.{Generality}
use Rattle.ctl_syntax.specs.declared.item.Generality.TheVariants as generality
use Rattle.ctl_syntax.specs.declared.item.Indicator.{Indicator}
use Rattle.ctl_syntax.specs.declared.item.Indicator.TheVariants as indicator
use Rattle.ctl_syntax.specs.declared.item.ItemKind.{ItemKind}
use Rattle.ctl_syntax.specs.declared.item.ItemKind.TheVariants as item
use Rattle.ctl_syntax.specs.declared.item.Limitation.{Limitation}
use Rattle.ctl_syntax.specs.declared.item.Limitation.TheVariants as limitation
use Rattle.ctl_syntax.specs.declared.item.Mode.{Mode}
use Rattle.ctl_syntax.specs.declared.item.Mode.TheVariants as mode
use Rattle.ctl_syntax.specs.declared.item.Objects.{Objects}
use Rattle.ctl_syntax.specs.declared.item.Specification.{Specification}
use Rattle.ctl_syntax.specs.declared.item.Taggedness.TheVariants as taggedness
use Rattle.ctl_parse.specs.Parts.{aliasing_node, constancy_node, direction_node, generality_node, indicator_node, limitation_node, coverage_node, mode_label, formal_node, result_node, specification_node, named_node, association_node, components_node, definition_node, objects_node, item_kind_node, choices_node, context_label, context_node}
use Rattle.ctl_parse.specs.Read.{row_in, read_optional, read_identifier, read_mark, read_expression, read_aliasing, read_constancy, read_direction, read_generality, read_indicator, read_limitation, read_coverage, read_mode, identifiers_in, read_formal, read_present, read_specification, read_association, associations_in, read_components, read_definition, read_objects, read_kind, read_choices, read_context_kind, read_context}
use Rattle.ctl_parse.specs.View.{optional, identifier_node, mark_node, view}
use Rattle.ctl_parse.proofs.ReadExpressions.{whole_row_back, whole_option_back, identifier_back, mark_back, expression_back}

-- ---- words that are there or not

aliasing_back : (a : Aliasing) → read_aliasing (aliasing_node a) ≡ a
aliasing_back aliasing.Aliased = refl
aliasing_back aliasing.Unaliased = refl

constancy_back : (c : Constancy) → read_constancy (constancy_node c) ≡ c
constancy_back constancy.Constant = refl
constancy_back constancy.Variable = refl

pub direction_back : (d : Direction) → read_direction (direction_node d) ≡ d
direction_back direction.Downward = refl
direction_back direction.Upward = refl

generality_back : (g : Generality) → read_generality (generality_node g) ≡ g
generality_back generality.General = refl
generality_back generality.PoolSpecific = refl

indicator_back : (i : Indicator) → read_indicator (indicator_node i) ≡ i
indicator_back indicator.Overriding = refl
indicator_back indicator.Absent = refl

limitation_back : (l : Limitation) → read_limitation (limitation_node l) ≡ l
limitation_back limitation.Limited = refl
limitation_back limitation.Nonlimited = refl

coverage_back : (c : Coverage) → read_coverage (coverage_node c) ≡ c
coverage_back coverage.ClassWide = refl
coverage_back coverage.Specific = refl

mode_back : (m : Mode) → read_mode (alone (mode_label m)) ≡ m
mode_back mode.In = refl
mode_back mode.Out = refl
mode_back mode.InOut = refl

-- ---- headings and lists in parentheses

identifiers_back : (is : List Identifier) → identifiers_in (row_of (map identifier_node is)) ≡ is
identifiers_back is = whole_row_back identifier_node read_identifier identifier_back is

abbrev formal_of : List Identifier → Mode → Mark Identifier → Formal Identifier Identifier
formal_of is m t = record { names = is; mode = m; mark = t }

formal_back : (f : Formal Identifier Identifier) → read_formal (formal_node f) ≡ f
formal_back f =
    ap (λ is. formal_of is (read_mode (alone (mode_label f.mode))) (read_mark (mark_node f.mark))) (identifiers_back f.names)
    ∙ ap (λ m. formal_of f.names m (read_mark (mark_node f.mark))) (mode_back f.mode)
    ∙ ap (formal_of f.names f.mode) (mark_back f.mark)

present_mark_back : (m : Option (Mark Identifier)) → read_present read_mark (result_node m) ≡ m
present_mark_back None = refl
present_mark_back (Some m) = ap Some (mark_back m)

present_name_back : (i : Option Identifier) → read_present read_identifier (named_node i) ≡ i
present_name_back None = refl
present_name_back (Some i) = refl

abbrev specification_of : Indicator → Span → Identifier → List (Formal Identifier Identifier) → Option (Mark Identifier) → Specification Identifier Identifier
specification_of i p name fs r = record { indicator = i; span = p; name = name; formals = fs; result = r }

specification_back : (s : Specification Identifier Identifier) → read_specification (read_indicator (indicator_node s.indicator)) (specification_node s) ≡ s
specification_back s =
    ap (λ i. specification_of i s.span s.name (map read_formal (row_in (row_of (map formal_node s.formals)))) (read_present read_mark (result_node s.result))) (indicator_back s.indicator)
    ∙ ap (λ fs. specification_of s.indicator s.span s.name fs (read_present read_mark (result_node s.result))) (whole_row_back formal_node read_formal formal_back s.formals)
    ∙ ap (specification_of s.indicator s.span s.name s.formals) (present_mark_back s.result)

abbrev association_from : Option Identifier → Expression Identifier → Association Identifier
association_from i x = record { name = i; value = x }

association_back : (a : Association Identifier) → read_association (association_node a) ≡ a
association_back a =
    ap (λ i. association_from i (read_expression (view a.value))) (present_name_back a.name)
    ∙ ap (association_from a.name) (expression_back a.value)

associations_back : (xs : List (Association Identifier)) → associations_in (row_of (map association_node xs)) ≡ xs
associations_back xs = whole_row_back association_node read_association association_back xs

-- ---- types

abbrev components_of : List Identifier → Mark Identifier → Option (Expression Identifier) → Components Identifier
components_of is m x = record { names = is; mark = m; default = x }

value_back : (x : Option (Expression Identifier)) → read_optional read_expression (optional view x) ≡ x
value_back x = whole_option_back view read_expression expression_back x

components_back : (c : Components Identifier) → read_components (components_node c) ≡ c
components_back c =
    ap (λ is. components_of is (read_mark (mark_node c.mark)) (read_optional read_expression (optional view c.default))) (identifiers_back c.names)
    ∙ ap (λ m. components_of c.names m (read_optional read_expression (optional view c.default))) (mark_back c.mark)
    ∙ ap (components_of c.names c.mark) (value_back c.default)

definition_back : (d : Definition Identifier) → read_definition (definition_node d) ≡ d
definition_back (definition.Record l cs) =
    ap (λ y. definition.Record y (map read_components (row_in (row_of (map components_node cs))))) (limitation_back l)
    ∙ ap (definition.Record l) (whole_row_back components_node read_components components_back cs)
definition_back (definition.Extension m cs) =
    ap (λ y. definition.Extension y (map read_components (row_in (row_of (map components_node cs))))) (mark_back m)
    ∙ ap (definition.Extension m) (whole_row_back components_node read_components components_back cs)
definition_back (definition.Access g m c pool) =
    ap (λ y. definition.Access y (read_mark (mark_node m)) (read_coverage (coverage_node c)) (read_optional read_mark (optional mark_node pool))) (generality_back g)
    ∙ ap (λ y. definition.Access g y (read_coverage (coverage_node c)) (read_optional read_mark (optional mark_node pool))) (mark_back m)
    ∙ ap (λ y. definition.Access g m y (read_optional read_mark (optional mark_node pool))) (coverage_back c)
    ∙ ap (definition.Access g m c) (whole_option_back mark_node read_mark mark_back pool)

-- ---- items

abbrev objects_of : List Identifier → Aliasing → Constancy → Mark Identifier → List (Association Identifier) → Option (Expression Identifier) → Objects Identifier Identifier
objects_of is a c m ds x = record { names = is; aliasing = a; constancy = c; mark = m; discriminants = ds; value = x }

objects_back : (o : Objects Identifier Identifier) → read_objects (identifiers_in (row_of (map identifier_node o.names))) (objects_node o) ≡ o
objects_back o =
    let ds = associations_in (row_of (map association_node o.discriminants)) in
    let x = read_optional read_expression (optional view o.value) in
    ap (λ is. objects_of is (read_aliasing (aliasing_node o.aliasing)) (read_constancy (constancy_node o.constancy)) (read_mark (mark_node o.mark)) ds x) (identifiers_back o.names)
    ∙ ap (λ y. objects_of o.names y (read_constancy (constancy_node o.constancy)) (read_mark (mark_node o.mark)) ds x) (aliasing_back o.aliasing)
    ∙ ap (λ y. objects_of o.names o.aliasing y (read_mark (mark_node o.mark)) ds x) (constancy_back o.constancy)
    ∙ ap (λ y. objects_of o.names o.aliasing o.constancy y ds x) (mark_back o.mark)
    ∙ ap (λ y. objects_of o.names o.aliasing o.constancy o.mark y x) (associations_back o.discriminants)
    ∙ ap (objects_of o.names o.aliasing o.constancy o.mark o.discriminants) (value_back o.value)

-- an item but for its body, if it has one
pub kind_back : {B : Type 0} (node : B → Node) (r : Node → B) (k : ItemKind Identifier Identifier B) → ((s : Specification Identifier Identifier) (b : B) → k ≡ item.Body s b → r (node b) ≡ b)
    → read_kind r (item_kind_node node k) ≡ k
kind_back node r (item.Declaration s) h = ap item.Declaration (specification_back s)
kind_back node r (item.Body s b) h = ap (λ y. item.Body y (r (node b))) (specification_back s) ∙ ap (item.Body s) (h s b refl)
kind_back node r (item.Instance i m xs) h =
    ap (λ y. item.Instance i y (associations_in (row_of (map association_node xs)))) (mark_back m)
    ∙ ap (item.Instance i m) (associations_back xs)
kind_back node r (item.Incomplete i taggedness.Tagged) h = refl
kind_back node r (item.Incomplete i taggedness.Unsaid) h = refl
kind_back node r (item.«Type» i d) h = ap (item.«Type» i) (definition_back d)
kind_back node r (item.StoragePool i m) h = ap (item.StoragePool i) (mark_back m)
kind_back node r (item.Exceptions is) h = ap item.Exceptions (identifiers_back is)
kind_back node r (item.Objects o) h = ap item.Objects (objects_back o)

-- ---- choices and clauses of the context

pub choices_back : (c : Choices Identifier) → read_choices (choices_node c) ≡ c
choices_back choice.Others = refl
choices_back (choice.Exceptions []) = refl
choices_back (choice.Exceptions (m ∷ ms)) = ap choice.Exceptions (whole_row_back mark_node read_mark mark_back (m ∷ ms))

context_kind_back : (k : ContextKind) → read_context_kind (alone (context_label k)) ≡ k
context_kind_back context_kind.With = refl
context_kind_back context_kind.Use = refl

abbrev context_of : Span → ContextKind → List (Mark Identifier) → Context
context_of p k ms = record { span = p; kind = k; units = ms }

pub context_back : (c : Context) → read_context (context_node c) ≡ c
context_back c =
    ap (λ k. context_of c.span k (map read_mark (row_in (row_of (map mark_node c.units))))) (context_kind_back c.kind)
    ∙ ap (context_of c.span c.kind) (whole_row_back mark_node read_mark mark_back c.units)
