-- The grammar is plain: one token is enough to choose everywhere.
use Rattle.std.proofs.Common.{refl}
use Rattle.ctl_grammar.specs.Kind.{code}
use Rattle.ctl_grammar.specs.Form.{Nest, Enclosed, Arguments, Handle, Formals, Associations, Conditional, Repetition, Block, Body, BareBody}
use Rattle.ctl_grammar.specs.Grammar.{body, identifier, selector, selectors, dotted, next_dotted, dotted_list, next_identifier, next_identifiers, identifiers, behind, flag, known, end_name, joiner, relational, sign, adding, multiplying, number, string, null, selection, attribute, suffix, suffixes, name, handle, qualified, allocator, primary, factor, multiplicand, multiplicands, term, addend, addends, simple, compared, relation, next_relation, relations, behind_and, behind_or, joined, expression, next_expression, expressions, mode_behind_in, mode, formal, next_formal, formal_list, in_formals, optional_formals, procedure, function, specification, association, next_association, association_list, optional_associations, optional_value, component, component_list, components, null_record, full_record, recorded, limited_record, extension, aspect, designated_attribute, access, definition, context_kind, context, contexts, defined, type_kind, type_item, clause, objects, named_kind, named_item, instance, while_scheme, for_scheme, scheme, choices, end_if, end_loop, simple_statement, statement, statements, branch, next_branch, branches, otherwise, handler, handler_list, handlers, handled, plain_formals, start_of_function, start_of_function_body, start_of_procedure, start_of_body, start_of_bare_body, behind_start, start_of_procedure_body, completed, completed_specification, completed_function, overriding_item, function_item, behind_is, behind_name, completed_procedure, procedure_item, item, part, completion, declared}
use Rattle.ctl_grammar.proofs.Again.{IsPlain}

pub plain : (n : Nest) → IsPlain n
unfolding code body identifier selector selectors dotted next_dotted dotted_list next_identifier next_identifiers identifiers behind flag known end_name joiner relational sign adding multiplying number string null selection attribute suffix suffixes name handle qualified allocator primary factor multiplicand multiplicands term addend addends simple compared relation next_relation relations behind_and behind_or joined expression next_expression expressions mode_behind_in mode formal next_formal formal_list in_formals optional_formals procedure function specification association next_association association_list optional_associations optional_value component component_list components null_record full_record recorded limited_record extension aspect designated_attribute access definition context_kind context contexts defined type_kind type_item clause objects named_kind named_item instance while_scheme for_scheme scheme choices end_if end_loop simple_statement statement statements branch next_branch branches otherwise handler handler_list handlers handled plain_formals start_of_function start_of_function_body start_of_procedure start_of_body start_of_bare_body behind_start start_of_procedure_body completed completed_specification completed_function overriding_item function_item behind_is behind_name completed_procedure procedure_item item part completion declared
plain Enclosed = record { clear = refl; some = refl; begun = refl; ends = refl }
plain Arguments = record { clear = refl; some = refl; begun = refl; ends = refl }
plain Handle = record { clear = refl; some = refl; begun = refl; ends = refl }
plain Formals = record { clear = refl; some = refl; begun = refl; ends = refl }
plain Associations = record { clear = refl; some = refl; begun = refl; ends = refl }
plain Conditional = record { clear = refl; some = refl; begun = refl; ends = refl }
plain Repetition = record { clear = refl; some = refl; begun = refl; ends = refl }
plain Block = record { clear = refl; some = refl; begun = refl; ends = refl }
plain Body = record { clear = refl; some = refl; begun = refl; ends = refl }
plain BareBody = record { clear = refl; some = refl; begun = refl; ends = refl }
