use Rattle.std.proofs.Common.{◌≡◌, ◌∙◌, List, Option, ap, refl, reverse, subst, sym}
use Rattle.std.proofs.lemmas.Result.{on_ok_weaker}
use Rattle.ctl_lifetimes.specs.declared.emptying.Member.{Member}
use Rattle.ctl_frames.specs.declared.frame.Frame.{Frame}
use Rattle.ctl_frames.specs.declared.frame.Frame.TheVariants.{Emptying}
use Rattle.ctl_lifetimes.specs.Emptying.{Empties, IsTaken, due}
use Rattle.ctl_engine.specs.Shows.{kept}
use Rattle.ctl_lifetimes.proofs.AfterInitialize.{rest_is}
use Rattle.ctl_allocations.proofs.Emptied.{empties, emptied_in, emptying_range, failed_is, none_taken, resumes_empty, resumes_member, sets_in}
use Rattle.ctl_machine.proofs.emptying.resume_emptying.Goals as goal

pub find_candidates-found-requires : goal.find_candidates-found-requires
find_candidates-found-requires g c =
    let top = c.requires.1.1.0 in
    (emptying_range c.args.code.now c.args.engine.now g.s c.args.first c.args.last c.args.failed top.0 c.requires.1.0 top.1, (c.requires.1.0.holds.owns.apart, c.requires.1.0.holds.needs))

pub returns-in_default-clause-ok : goal.returns-in_default-clause-ok
returns-in_default-clause-ok g c =
    let code = c.args.code.now in
    let old = c.args.engine.now in
    let top = c.requires.1.1.0 in
    let found = c.find_candidates-found in
    let rest : reverse c.take_last.new.self.items ≡ top.0 = rest_is old.control.items c.take_last.new.self.items c.take_last.result (Emptying c.args.first c.args.last c.args.failed) top.0 c.take_last.ensures.items top.1 in
    let none = none_taken code c.args.order found.result.count (due code (sets_in g.s.control) old.stock.objects) found.result.chosen found.ensures.chosen c.in_default.not-Some in
    resumes_empty code old _ c.args.order c.args.ended c.handed.result c.args.first c.args.last c.args.failed c.fails_with-fails.result g.s top.0 c.requires.1.0 top.1 c.fails_with-fails.ensures c.handed.ensures (sym none ∙ found.ensures.count)
    (ap (λ (l : List Frame). record (kept old) { control = l }) rest) refl refl refl

pub finalize_member-requires : goal.finalize_member-requires
finalize_member-requires g c =
    let code = c.args.code.now in
    let old = c.args.engine.now in
    let top = c.requires.1.1.0 in
    let found = c.find_candidates-found in
    let taken = subst (λ (z : Option Member). IsTaken code c.args.order found.result.count (due code (sets_in g.s.control) old.stock.objects) z) c.in-Some.is found.ensures.chosen in
    let b = c.requires.1.0 in
    let u = empties code old g.s c.args.first c.args.last c.args.failed top.0 b top.1 in
    (c.requires.0, (subst (λ failed. Empties code old c.args.first c.args.last failed (emptied_in g.s)) (sym (failed_is code old g.s c.args.first c.args.last c.args.failed top.0 b top.1)) u, (refl, (taken.0, (taken.1.parts, c.requires.1.1.1)))))

pub returns-clause-ok : goal.returns-clause-ok
returns-clause-ok g c =
    let code = c.args.code.now in
    let old = c.args.engine.now in
    let top = c.requires.1.1.0 in
    let found = c.find_candidates-found in
    let taken = subst (λ (z : Option Member). IsTaken code c.args.order found.result.count (due code (sets_in g.s.control) old.stock.objects) z) c.in-Some.is found.ensures.chosen in
    on_ok_weaker c.finalize_member.result
    (λ made. resumes_member code old c.finalize_member.new.engine c.args.order c.args.ended c.args.first c.args.last c.args.failed c.fails_with-fails.result g.s top.0 found.result.count c.in-Some.member c.requires.1.0 top.1 c.fails_with-fails.ensures found.ensures.count taken.0 taken.1 made)
    c.finalize_member.ensures.ok
