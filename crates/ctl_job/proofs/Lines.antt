-- What clap's definition of a simple command says of the command line.
use Rattle.std.proofs.Common.{◌≡◌, ◌∙◌, ◌⊎◌, Bool, true, false, List, [], ◌∷◌, Option, Some, None, Bor, Box, ap, ap₂, sym, refl, inl, inr, codes, find, option_map}
use Rattle.std.specs.Prelude.{unwrap_or}
use Rattle.std.specs.Box.{box_value}
use Rattle.clap.specs.Words.{App, IsParsedFrom, Row, Shape, Text, app_of, built, found_of, has_subcommand, is_simple, rows_of, subcommand_of, subcommand_rows}
use Rattle.clap.specs.Faults.{is_simple_and_free}
use Rattle.clap.specs.Simple.{argument_words, entered, label_of, names_of, rows_at}
use Rattle.clap.specs.Walk.{answers_to, stop_after}
use Rattle.clap.specs.declared.builder.command.Command.{Command}
use Rattle.clap.specs.declared.builder.command.Command.TheViews.{out-Command}
use Rattle.clap.specs.declared.parser.matches.ArgMatches.{ArgMatches}
use Rattle.clap.specs.declared.parser.matches.ArgMatches.TheViews.{out-SubCommand}
use Rattle.clap.specs.declared.parser.matches.SubCommand.{SubCommand}
use Rattle.ctl_job.specs.Line.{IsLine, line_of}

-- the command line is a simple command
pub line_simple : (names : Bor (List (Bor Text))) → is_simple (line_of names) ≡ true
line_simple names = refl

-- and no argument has a rule on another
pub line_free : (names : Bor (List (Bor Text))) → is_simple_and_free (line_of names) ≡ true
line_free names = refl

-- where a parse succeeds, a subcommand was named
pub has_named : (command : Command) (matches : ArgMatches) (names : Bor (List (Bor Text))) → IsParsedFrom command matches
    → app_of command ≡ line_of names → (out-Command command).has_globals ≡ false → has_subcommand matches ≡ true
has_named command matches names p is local =
    (p.parsed (p.from.globals ∙ local)).checked.subcommand (p.from.needs_subcommand ∙ ap (λ (a : App). a.top.subcommand_required) is)

-- the name is that of one of these commands
abbrev IsNamed : List Shape → Text → Type 0
IsNamed [] name = ⊥
IsNamed (s ∷ rest) name = (name ≡ s.name) ⊎ IsNamed rest name

-- what is found among commands has the name of one of them
named_in : (test : Shape → Bool) (subs : List Shape) (words : List Text) (name : Text) (rows : List Row)
    → option_map (λ s. rows_at s words) (find test subs) ≡ Some (name, rows) → IsNamed subs name
named_in test [] words name rows is = cc
named_in test (s ∷ rest) words name rows is = go (test s) refl (λ later. named_in test rest words name rows later)
  where
    go : (b : Bool) → test s ≡ b → (option_map (λ x. rows_at x words) (find test rest) ≡ Some (name, rows) → IsNamed rest name)
        → IsNamed (s ∷ rest) name
    go true e among =
        let both : Some (rows_at s words) ≡ Some (name, rows) = rw e at is in
        inl (ap (λ (o : Option (Text × List Row)). (unwrap_or o (name, rows)).0) (sym both))
    go false e among = inr (among (rw e at is))

entered_named : (app : App) (stop : Option (Text × List Text)) (name : Text) (rows : List Row)
    → entered app stop ≡ Some (name, rows) → IsNamed app.subs name
entered_named app None name rows is = cc
entered_named app (Some p) name rows is = named_in (λ s. answers_to p.0 (label_of s)) app.subs p.1 name rows is

-- a subcommand is `check` or `run`
pub check_or_run : (names : Bor (List (Bor Text))) (words : List Text) (name : Text) (rows : List Row)
    → subcommand_of (line_of names) words ≡ Some (name, rows) → (name ≡ codes "check") ⊎ (name ≡ codes "run")
check_or_run names words name rows is =
    let line = built (line_of names) in
    let stop = stop_after line.top.rules (names_of line) (argument_words (line_of names) words) in
    elim (entered_named line stop name rows is) [
      | inl check ↦ inl check
      | inr (inl run) ↦ inr run
      | inr (inr none) ↦ absurd none
    ]

-- the subcommand that a parse met, with its name and its rows
pub met_subcommand : {Z : Type 0} (met : Option (Box SubCommand Z)) (name : Text) (rows : List Row)
    → Some name ≡ option_map (λ b. (out-SubCommand (box_value b)).name.now) met
    → Some rows ≡ option_map (λ p. p.1) (subcommand_rows met) → subcommand_rows met ≡ Some (name, rows)
met_subcommand None name rows named rowed = cc
met_subcommand (Some b) name rows named rowed =
    let own = out-SubCommand (box_value b) in
    let same_name : own.name.now ≡ name = ap (λ o. unwrap_or o name) (sym named) in
    let same_rows : rows_of (found_of own.matches) ≡ rows = ap (λ o. unwrap_or o rows) (sym rowed) in
    ap₂ (λ n r. Some (n, r)) same_name same_rows

-- a test that is not true is false
pub not_true : (test : Bool) → (test ≡ true → ⊥) → test ≡ false
not_true true differs = absurd (differs refl)
not_true false differs = refl

-- and so of the command line, wherever the names of its orders lie
pub entered_by : (line : App) → IsLine line → (words : List Text) (name : Text) (rows : List Row)
    → subcommand_of line words ≡ Some (name, rows) → (name ≡ codes "check") ⊎ (name ≡ codes "run")
entered_by line is words name rows entered =
    check_or_run is.names words name rows (ap (λ a. subcommand_of a words) (sym is.is) ∙ entered)
