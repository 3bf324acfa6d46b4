-- A run that was broken off: what was put is the beginning of what a run of all the steps prints.
use Rattle.std.proofs.Common.{ℕ, ◌≤◌, List, Option, sym, ap, ◌∙◌, subst}
use Rattle.ctl_tree.specs.declared.request.Order.{Order}
use Rattle.ctl_tree.specs.declared.request.Show.TheVariants.{Output}
use Rattle.ctl_sink.specs.Prefix.{AppendsPart}
use Rattle.ctl_text.specs.Texts.{output_of}
use Rattle.ctl_code.specs.declared.code.Code.{Code}
use Rattle.ctl_machine.specs.Machine.{shown_between}
use Rattle.ctl_machine.proofs.Shown.{shown_up_to}
use Rattle.ctl_verdict.specs.Compiled.{IsCodeOf}
use Rattle.ctl_run.proofs.Sources.{account_at, whole_in_source}
use Rattle.ctl_run.specs.Shown.{WritesPart}
use Rattle.ctl_run.proofs.Printed.{output_joined, part_of_more}

pub broken_off : (source : List ℕ) (code : Code) (order : Order) (n limit : ℕ) (old new : Option (List ℕ)) → IsCodeOf source code → n ≤ limit → AppendsPart old new (output_of (shown_between code order 0 n)) → WritesPart source order limit Output old new
broken_off source code order n limit old new of within part = record {
  account = account_at code order limit;
  runs = whole_in_source source code order limit of;
  part = subst (AppendsPart old new) (sym (ap output_of (shown_up_to code order n limit within) ∙ output_joined (shown_between code order 0 n) (shown_between code order n limit)))
      (part_of_more old new (output_of (shown_between code order 0 n)) (output_of (shown_between code order n limit)) part);
}
