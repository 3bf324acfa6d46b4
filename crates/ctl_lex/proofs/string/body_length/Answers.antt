use Rattle.std.proofs.Common.{◌≡◌, ◌+◌, ◌-◌, true, false, drop, Bool, sym, ap, subst, ◌∙◌, arith}
use Rattle.ctl_lexis.specs.Reading.{add_to, body_length}
use Rattle.ctl_lex.proofs.Bodies.{mark_twice, mark_once, no_mark}
use Rattle.ctl_lex.proofs.string.body_length.Invariants.{passed}
use Rattle.ctl_lex.proofs.string.body_length.Goals as goal
use Rattle.ctl_lex.proofs.string.body_length.Goals.{then-behind_mark+else-byte-ne34, else-behind_mark+then-byte-eq34, else-behind_mark+else-byte-eq34+else-is_line_end}

pub loop-i-preserved : goal.loop-i-preserved
loop-i-preserved c =
    let s = c.args.body.now in
    let i = c.loop-i.i in
    let inv = c.loop-i.invariant in
    elim c.if-behind_mark.branch [
      | then-behind_mark+else-byte-ne34 w ↦
          let was : add_to (i - 1) (body_length true (drop i s)) ≡ body_length false s = subst (λ (f : Bool). add_to (passed f i) (body_length f (drop i s)) ≡ body_length false s) w.if-behind_mark.true inv.rest in
          rw w.behind_mark-is (record { rest = sym (mark_twice s i (omega arith) w.if-byte-ne34.false (inv.mark w.if-behind_mark.true)) ∙ was; mark = λ e. omega arith })
      | else-behind_mark+then-byte-eq34 w ↦
          let was : add_to i (body_length false (drop i s)) ≡ body_length false s = subst (λ (f : Bool). add_to (passed f i) (body_length f (drop i s)) ≡ body_length false s) w.if-behind_mark.false inv.rest in
          let back : i + 1 - 1 ≡ i = omega arith in
          rw (w.behind_mark-is, back) (record { rest = ap (add_to i) (sym (mark_once s i (omega arith) w.if-byte-eq34.true)) ∙ was; mark = λ e. omega arith })
      | else-behind_mark+else-byte-eq34+else-is_line_end w ↦
          let was : add_to i (body_length false (drop i s)) ≡ body_length false s = subst (λ (f : Bool). add_to (passed f i) (body_length f (drop i s)) ≡ body_length false s) w.if-behind_mark.false inv.rest in
          rw (w.behind_mark-is, w.if-behind_mark.false) (record { rest = sym (no_mark s i (omega arith) w.if-byte-eq34.false (sym w.is_line_end.ensures ∙ w.if-is_line_end.false)) ∙ was; mark = λ e. omega arith })
    ]
