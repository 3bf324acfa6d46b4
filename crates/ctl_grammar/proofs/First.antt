-- The first tokens of some forms, told apart by their parts.
use Rattle.std.proofs.Common.{◌≡◌, Bool, List, [], ◌∷◌, ◌++◌, refl, ap, ◌∙◌}
use Rattle.std.specs.Prelude.{◌||◌}
use Rattle.ctl_tree.specs.declared.token.Kind.{Kind}
use Rattle.ctl_tree.specs.declared.token.Kind.TheVariants as kinds
use Rattle.ctl_tree.specs.declared.token.Token.{Token}
use Rattle.ctl_grammar.specs.Form.{BareBody, starts, nest_starts}
use Rattle.ctl_grammar.specs.Grammar.{identifier, identifiers, number, string, null, name, allocator, primary, factor, term, sign, simple, relation, expression, function, completed_function, completed_procedure, overriding_item, function_item, procedure_item, type_item, clause, named_item, item}
use Rattle.ctl_grammar.specs.Reading.{begins}
use Rattle.ctl_grammar.proofs.Starts.{has_append}

pub begins_append : (js ks : List Kind) (ts : List Token) → begins (js ++ ks) ts ≡ (begins js ts || begins ks ts)
begins_append js ks [] = refl
begins_append js ks (t ∷ ts) = has_append t.kind js ks

-- an expression begins with a sign or a factor
pub expression_begins : (ts : List Token) → begins (starts expression) ts ≡ (begins (kinds.Plus ∷ []) ts || (begins (kinds.Minus ∷ []) ts || begins (starts factor) ts))
unfolding expression relation simple sign term factor primary number string null name identifier allocator
expression_begins ts = begins_append (kinds.Plus ∷ []) (kinds.Minus ∷ starts factor) ts ∙ ap (λ (b : Bool). begins (kinds.Plus ∷ []) ts || b) (begins_append (kinds.Minus ∷ []) (starts factor) ts)

-- what stands behind the `is` of a body begins with an item or with `begin`
pub bare_body_begins : (ts : List Token) → begins (nest_starts BareBody) ts ≡ (begins (starts item) ts || begins (kinds.Begin ∷ []) ts)
unfolding item overriding_item procedure_item function_item completed_procedure completed_function function type_item clause named_item identifiers identifier
bare_body_begins ts = begins_append (starts item) (kinds.Begin ∷ []) ts
