use Rattle.std.proofs.Common.{List, sym, subst}
use Rattle.std.proofs.lemmas.Result.{err_from_is_err_and}
use Rattle.ctl_tree.specs.declared.token.Token.{Token}
use Rattle.ctl_lexis.specs.Lexis.{HasTokens}
use Rattle.ctl_front.proofs.Spelling.{refused_by_lexis, refused_by_grammar, spelled_by}
use Rattle.ctl_front.proofs.tree.tree_of.Goals as goal

pub returns-in_err-tokens-clause-refused : goal.returns-in_err-tokens-clause-refused
returns-in_err-tokens-clause-refused c =
    let p = err_from_is_err_and c.from_residual.result c.from_residual.ensures.1 in
    rw (p.1, p.2) (refused_by_lexis c.args.source.now c.in_err-tokens.field-0.0 c.in_err-tokens.ensures.refused)

pub returns-clause-found : goal.returns-clause-found
returns-clause-found c =
    let has = subst (λ (ts : List Token). HasTokens c.args.source.now ts) (sym c.deref.ensures.value) c.in_ok-tokens.ensures.found in
    spelled_by c.args.source.now c.deref.result.now c.parse.result has c.parse.ensures.found

pub returns-clause-refused : goal.returns-clause-refused
returns-clause-refused c =
    let has = subst (λ (ts : List Token). HasTokens c.args.source.now ts) (sym c.deref.ensures.value) c.in_ok-tokens.ensures.found in
    refused_by_grammar c.args.source.now c.deref.result.now c.parse.result has c.parse.ensures.refused
