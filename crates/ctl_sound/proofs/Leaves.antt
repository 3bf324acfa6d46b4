-- Statements of whole names and expressions.
use Rattle.std.proofs.Common.{map}
use Rattle.ctl_syntax.specs.declared.denoted.Use.{Use}
use Rattle.ctl_syntax.specs.declared.name.Name.{Name}
use Rattle.ctl_syntax.specs.declared.expression.Expression.{Expression}
use Rattle.ctl_typing.specs.Senses.{suffix_sense}
use Rattle.ctl_typing.specs.Typing.{sense}
use Rattle.ctl_sound.specs.Law.{SimpleStatementsWellTyped}
use Rattle.ctl_sound.proofs.Operators.{truth_good}
use Rattle.ctl_sound.proofs.Values.{expression_right, suffixes_right}
use Rattle.ctl_sound.proofs.Simple.{assignment_good, call_good, raising_good, return_value_good}

pub simple_statements_well_typed : (n : Name Use (Expression Use)) (x : Expression Use) → SimpleStatementsWellTyped n x
simple_statements_well_typed n x = record {
  assignment = λ k env tables sound a. assignment_good k env tables sound a n.first (map suffix_sense n.suffixes) (sense x) (suffixes_right k env tables sound n.suffixes) (expression_right k env tables sound x);
  call = λ k env tables sound a place. call_good k env tables sound a place n.first (map suffix_sense n.suffixes) (suffixes_right k env tables sound n.suffixes);
  raise = λ k env tables sound a place m. raising_good k env tables sound a place m;
  return = λ k env tables sound a t e v. return_value_good k env tables sound a t (sense x) e v (expression_right k env tables sound x);
  condition = λ k env tables sound. truth_good k env tables sound (sense x) (expression_right k env tables sound x);
}
