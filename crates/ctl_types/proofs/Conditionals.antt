-- A conditional statement, by what is known of its arms and of what stands behind `else`.
use Rattle.std.proofs.Common.{◌≡◌, refl, List, [], Option, Some, None}
use Rattle.ctl_program.specs.declared.statement.Arm.{Arm}
use Rattle.ctl_program.specs.declared.statement.Stmt.{Stmt}
use Rattle.ctl_program.specs.declared.statement.Stmt.TheVariants as stmt
use Rattle.ctl_syntax.specs.declared.denoted.Use.{Use}
use Rattle.ctl_syntax.specs.declared.item.Branch.{Branch}
use Rattle.ctl_draft.specs.declared.draft.Around.{Around}
use Rattle.ctl_draft.specs.declared.draft.Draft.{Draft}
use Rattle.ctl_types.specs.Elaboration.{Says, branch, sequence, conditional}
use Rattle.ctl_types.specs.Parts.{conditional_of}
use Rattle.ctl_typing.specs.Judgement.{known, paired, with_known, appended, each}
use Rattle.ctl_typing.proofs.Turns.{each_turn}

both_known : (arms : Option (List Arm)) (otherwise : Option (List Stmt)) (d : Draft) → with_known (λ r. known (stmt.If r.0 r.1)) (paired arms (otherwise, d)) ≡ (conditional_of arms otherwise, d)
both_known (Some as') (Some ss) d = refl
both_known (Some as') None d = refl
both_known None (Some ss) d = refl
both_known None None d = refl

pub conditional_judged : (around : Around) (f : Branch Says Use) (more : List (Branch Says Use)) (otherwise : List Says) (d e g h : Draft) (first : Option Arm) (arms : Option (List Arm)) (last : Option (List Stmt))
    → branch around f d ≡ (first, e) → each (branch around) (appended (Some []) first) more e ≡ (arms, g) → sequence otherwise around g ≡ (last, h)
    → conditional f more otherwise around d ≡ (conditional_of arms last, h)
conditional_judged around f more otherwise d e g h first arms last hf hm ho =
    rw (hf, each_turn (branch around) (Some []) first e more, hm, ho) (both_known arms last h)
