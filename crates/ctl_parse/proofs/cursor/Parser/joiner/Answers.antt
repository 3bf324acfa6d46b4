use Rattle.std.proofs.Common.{subst, refl}
use Rattle.ctl_grammar.specs.Form.{word, none}
use Rattle.ctl_grammar.specs.Grammar.{joiner}
use Rattle.ctl_parse.specs.Reads.{Reads}
use Rattle.ctl_parse.proofs.Steps.{making_2}
use Rattle.ctl_parse.proofs.cursor.Parser.joiner.Goals as goal

pub returns : goal.returns
unfolding joiner
returns c = making_2 (λ v. none) (λ x y. refl) (subst (λ k. Reads (word k) none c.args.self.now none c.skip.new.self) c.first_word.ensures c.skip.ensures) c.second_word.ensures
