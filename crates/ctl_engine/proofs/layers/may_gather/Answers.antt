use Rattle.std.proofs.Common.{◌-◌, arith, length}
use Rattle.std.specs.Prelude.{slice_index_or}
use Rattle.ctl_engine.proofs.Come.{newer_than_before, newer_than_none, none_gathered, not_more}
use Rattle.ctl_frames.proofs.Lists.{get_index}
use Rattle.ctl_frames.proofs.Newest.{any_owned}
use Rattle.ctl_engine.proofs.layers.may_gather.Goals.{then-start-eq0, else-start-eq0}
use Rattle.ctl_engine.proofs.layers.may_gather.Goals as goal

pub returns-in-len1-up : goal.returns-in-len1-up
returns-in-len1-up c = λ same.
    let owned = c.args.owned.now in
    let start = c.args.start in
    let come = c.requires.come in
    let some = c.in-len1-up.len_at_least in
    let last = slice_index_or owned (length owned - 1) any_owned in
    let end = get_index owned (length owned - 1) any_owned (omega (arith, some)) in
    let few = not_more c.if-start-eq0.before last.collections same in
    elim c.if-start-eq0.branch [
      | then-start-eq0 w ↦ none_gathered owned come.0 start c.if-start-eq0.before last come.1 end few (λ at n o e behind is. let newer = newer_than_none owned come.0 at n o come.1 e is in let none = w.before-is in omega (arith, newer, none))
      | else-start-eq0 w ↦ none_gathered owned come.0 start c.if-start-eq0.before last come.1 end few (λ at n o e behind is.
          let within = c.requires.bound in
          let some = w.if-start-eq0.false in
          let newer = newer_than_before owned come.0 (start - 1) at n (slice_index_or owned (start - 1) any_owned) o come.1 (get_index owned (start - 1) any_owned (omega (arith, within, some))) e (omega (arith, behind, some)) is in
          let known = w.before-is in
          omega (arith, newer, known))
    ]
