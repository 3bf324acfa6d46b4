-- A text of each construct.
use Rattle.std.proofs.Common.{◌≡◌, ℕ, false, List, [], ◌∷◌, Ok, refl}
use Rattle.ctl_tree.specs.declared.token.Kind.TheVariants as kinds
use Rattle.ctl_tree.specs.declared.token.Token.{Token}
use Rattle.ctl_grammar.specs.Kind.{code}
use Rattle.ctl_grammar.specs.Form.{Node, Nest, Enclosed, Arguments, Handle, Formals, Associations, Conditional, Repetition, Block, Body, BareBody, no_rule}
use Rattle.ctl_grammar.specs.Grammar.{body, identifier, selector, selectors, dotted, next_dotted, dotted_list, next_identifier, next_identifiers, identifiers, behind, flag, known, end_name, joiner, relational, sign, adding, multiplying, number, string, null, selection, attribute, suffix, suffixes, name, handle, qualified, allocator, primary, factor, multiplicand, multiplicands, term, addend, addends, simple, compared, relation, next_relation, relations, behind_and, behind_or, joined, expression, next_expression, expressions, mode_behind_in, mode, formal, next_formal, formal_list, in_formals, optional_formals, procedure, function, specification, association, next_association, association_list, optional_associations, optional_value, component, component_list, components, null_record, full_record, recorded, limited_record, extension, aspect, designated_attribute, access, definition, context_kind, context, contexts, defined, type_kind, type_item, clause, objects, named_kind, named_item, instance, while_scheme, for_scheme, scheme, choices, end_if, end_loop, simple_statement, statement, statements, branch, next_branch, branches, otherwise, handler, handler_list, handlers, handled, plain_formals, start_of_function, start_of_function_body, start_of_procedure, start_of_body, start_of_bare_body, behind_start, start_of_procedure_body, completed, completed_specification, completed_function, overriding_item, function_item, behind_is, behind_name, completed_procedure, procedure_item, item, part, completion, declared}
use Rattle.ctl_grammar.specs.Reading.{construct, all_of}
use Rattle.ctl_grammar.specs.Derivation.{AnyConstruct}
use Rattle.ctl_grammar.proofs.Sound.{allows_same, construct_sound}
use Rattle.ctl_grammar.proofs.Extends.{Sample, SampleAll, token_of}

from_tokens : (left : ℕ) (n : Nest) (env : Node) (ts : List Token) (v : Node) → construct no_rule false left n env ts ≡ Ok (v, []) → Sample (AnyConstruct no_rule n env)
from_tokens left n env ts v e = let p = construct_sound no_rule no_rule false (allows_same no_rule) left n env ts v [] e in record { node = v; text = p.text; is = (left, p.is) }

-- null;
null_statement_then : List Token → List Token
null_statement_then more = token_of kinds.Null ∷ token_of kinds.Semicolon ∷ more

pub samples : SampleAll (AnyConstruct no_rule)
unfolding construct body all_of token_of code null_statement_then identifier selector selectors dotted next_dotted dotted_list next_identifier next_identifiers identifiers behind flag known end_name joiner relational sign adding multiplying number string null selection attribute suffix suffixes name handle qualified allocator primary factor multiplicand multiplicands term addend addends simple compared relation next_relation relations behind_and behind_or joined expression next_expression expressions mode_behind_in mode formal next_formal formal_list in_formals optional_formals procedure function specification association next_association association_list optional_associations optional_value component component_list components null_record full_record recorded limited_record extension aspect designated_attribute access definition context_kind context contexts defined type_kind type_item clause objects named_kind named_item instance while_scheme for_scheme scheme choices end_if end_loop simple_statement statement statements branch next_branch branches otherwise handler handler_list handlers handled plain_formals start_of_function start_of_function_body start_of_procedure start_of_body start_of_bare_body behind_start start_of_procedure_body completed completed_specification completed_function overriding_item function_item behind_is behind_name completed_procedure procedure_item item part completion declared
samples Enclosed env = from_tokens 1 Enclosed env (token_of kinds.LeftParenthesis ∷ token_of kinds.Number ∷ token_of kinds.RightParenthesis ∷ []) _ refl
samples Arguments env = from_tokens 1 Arguments env (token_of kinds.LeftParenthesis ∷ token_of kinds.Number ∷ token_of kinds.RightParenthesis ∷ []) _ refl
samples Handle env = from_tokens 1 Handle env (token_of kinds.LeftParenthesis ∷ token_of kinds.Identifier ∷ token_of kinds.RightParenthesis ∷ []) _ refl
samples Formals env = from_tokens 1 Formals env (token_of kinds.LeftParenthesis ∷ token_of kinds.Identifier ∷ token_of kinds.Colon ∷ token_of kinds.Identifier ∷ token_of kinds.RightParenthesis ∷ []) _ refl
samples Associations env = from_tokens 1 Associations env (token_of kinds.LeftParenthesis ∷ token_of kinds.Number ∷ token_of kinds.RightParenthesis ∷ []) _ refl
samples Conditional env =
    from_tokens 1 Conditional env (token_of kinds.If ∷ token_of kinds.Number ∷ token_of kinds.Then ∷ null_statement_then (token_of kinds.End ∷ token_of kinds.If ∷ token_of kinds.Semicolon ∷ [])) _ refl
samples Repetition env = from_tokens 1 Repetition env (token_of kinds.Loop ∷ null_statement_then (token_of kinds.End ∷ token_of kinds.Loop ∷ token_of kinds.Semicolon ∷ [])) _ refl
samples Block env = from_tokens 1 Block env (token_of kinds.Begin ∷ null_statement_then (token_of kinds.End ∷ token_of kinds.Semicolon ∷ [])) _ refl
samples Body env = from_tokens 1 Body env (token_of kinds.Is ∷ token_of kinds.Begin ∷ null_statement_then (token_of kinds.End ∷ token_of kinds.Semicolon ∷ [])) _ refl
samples BareBody env = from_tokens 1 BareBody env (token_of kinds.Begin ∷ null_statement_then (token_of kinds.End ∷ token_of kinds.Semicolon ∷ [])) _ refl
