-- The command line, as clap's definition of a simple command sees it.
use Rattle.std.specs.Prelude.{◌≡◌, List, [], ◌∷◌, Some, true, codes, map}
use Rattle.std.specs.Borrow.{Bor}
use Rattle.clap.specs.Words.{App, Rule, Text, new_app, new_rule, with_rule, with_subcommand}
use Rattle.clap.specs.Simple.{on_top}
use Rattle.clap.specs.declared.builder.action.ArgAction.TheVariants.{SetTrue}
use Rattle.clap.specs.declared.builder.value_parser.ValueParser.TheVariants.{Names, Unsigned}

-- FILE
abbrev pub file_rule : Rule
file_rule = record (new_rule (codes "file")) { required = true }

-- --trace
abbrev pub trace_rule : Rule
trace_rule = record (new_rule (codes "trace")) { long = Some (codes "trace"); action = Some SetTrue }

-- --order ORDER, by one of these names
abbrev pub order_rule : Bor (List (Bor Text)) → Rule
order_rule names = record (new_rule (codes "order")) { long = Some (codes "order"); parser = Some (Names names) }

-- --steps N, with N below 2^64
abbrev pub steps_rule : Rule
steps_rule = record (new_rule (codes "steps")) { long = Some (codes "steps"); parser = Some (Unsigned 0 18446744073709551615) }

-- check FILE
abbrev pub check_app : App
check_app = with_rule (new_app (codes "check")) file_rule

-- run FILE [--trace]
abbrev pub tracing_app : App
tracing_app = with_rule (with_rule (new_app (codes "run")) file_rule) trace_rule

-- run FILE [--trace] [--order ORDER] [--steps N]
abbrev pub run_app : Bor (List (Bor Text)) → App
run_app names = with_rule (with_rule tracing_app (order_rule names)) steps_rule

-- what stands before the subcommands: nothing; one of them has to follow, and `help` is none
abbrev pub top_app : App
top_app = on_top (λ top. record top {
  no_binary_name = true;
  disable_help_subcommand = true;
  subcommand_required = true;
}) (new_app (codes "adactl"))

-- the whole command line
abbrev pub line_of : Bor (List (Bor Text)) → App
line_of names = with_subcommand (with_subcommand top_app check_app.top) (run_app names).top

-- the command line, with the orders newest and oldest
pub record IsLine (line : App) : Type 0 where
  pub names : Bor (List (Bor Text))
  pub orders : map (λ name. name.now) names.now ≡ codes "newest" ∷ codes "oldest" ∷ []
  pub is : line ≡ line_of names
