use Rattle.std.proofs.Common.{◌≡◌, drop, Some, []}
use Rattle.ctl_declarations.specs.Declarations as spec
use Rattle.ctl_typing.specs.Judgement.{each}
use Rattle.ctl_declarations.proofs.objects.objects_named.Given as goal

-- those that are left, behind those so far, are judged as all are
abbrev pub invariant-loop-name : goal.invariant-loop-name
invariant-loop-name l =
    each (spec.object l.around l.order l.place l.declared) l.done (drop l.name-index l.names) l.draft
    ≡ each (spec.object l.around l.order l.place l.declared) (Some []) l.names l.fn.draft
