use Rattle.std.proofs.Common.{◌∷◌, List, sym, ap, ◌∙◌}
use Rattle.std.specs.Prelude.{drop}
use Rattle.ctl_program.specs.declared.types.Ty.TheVariants.{Record}
use Rattle.ctl_code.specs.declared.kinds.Kind.{Kind}
use Rattle.ctl_code.specs.declared.kinds.Kind.TheVariants.{Operand}
use Rattle.ctl_code.specs.Kinds.{stack_at}
use Rattle.ctl_code.proofs.Shapes.{below_one}
use Rattle.ctl_code.proofs.fine.gives_record.Goals as goal

pub returns : goal.returns
returns c =
    let stack = stack_at c.args.code.now.kinds c.args.place in
    (λ t. (drop 1 stack, c.is_part.ensures.0 t, tt), λ u. c.is_part.ensures.1 (u.1 ∙ ap (λ (below : List Kind). Operand (Record c.args.record) ∷ below) (sym (below_one 0 stack u.0 (Record c.args.record) u.1))))
