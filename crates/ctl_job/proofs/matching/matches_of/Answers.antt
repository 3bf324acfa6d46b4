use Rattle.std.proofs.Common.{◌≡◌, ◌∙◌, ap, map}
use Rattle.clap.specs.Words.{app_of, is_simple}
use Rattle.clap.specs.Faults.{is_simple_and_free}
use Rattle.ctl_job.proofs.Lines.{has_named, line_free, line_simple, not_true}
use Rattle.ctl_job.specs.declared.job.UsageFault.TheVariants.{Usage}
use Rattle.ctl_job.proofs.matching.matches_of.Goals as goal

pub returns-in-Ok-try_get_matches_from-clause-ok :
    goal.returns-in-Ok-try_get_matches_from-clause-ok
returns-in-Ok-try_get_matches_from-clause-ok c =
    let is = c.in-Ok.ensures.app in
    let parse = c.in-Ok-try_get_matches_from.ensures in
    record {
      line = app_of c.in-Ok.command;
      is_line = record {
        names = c.as_slice.result;
        orders = ap (map (λ name. name.now)) c.as_slice.ensures;
        is = is;
      };
      faultless = parse.kinds (ap is_simple_and_free is ∙ line_free c.as_slice.result);
      entered = (parse.matches (ap is_simple is ∙ line_simple c.as_slice.result)).1;
      named = has_named c.in-Ok.command _ c.as_slice.result parse.parsed is c.in-Ok.ensures.local;
    }

pub returns-in-Err-clause-usage : goal.returns-in-Err-clause-usage
returns-in-Err-clause-usage c = λ usage. record {
  line = app_of c.in-Ok.command;
  is_line = record {
    names = c.as_slice.result;
    orders = ap (map (λ name. name.now)) c.as_slice.ensures;
    is = c.in-Ok.ensures.app;
  };
  refused =
      let is_usage : c.fault_of_error.result ≡ Usage = cc in
      not_true _ (λ taken. c.fault_of_error.ensures is_usage (c.in-Err.ensures.passes taken));
}
