use Rattle.ctl_engine.specs.Shows.{kept}
use Rattle.std.proofs.Common.{◌∙◌, List, ap, sym}
use Rattle.ctl_frames.specs.declared.frame.Owned.{Owned}
use Rattle.ctl_frames.specs.Owned.{set_in, sets_owned}
use Rattle.ctl_places.proofs.MayJoin.{allocated_joins, declared_joins, old_joins, unknown_joins, without_set_joins}
use Rattle.ctl_allocations.proofs.allocating.may_join.Goals as goal

pub returns-in_default-clause-not : goal.returns-in_default-clause-not
returns-in_default-clause-not g c = λ f may. unknown_joins c.args.code.now (kept c.args.engine.now) c.args.object g.s.control g.s.operands g.s.world c.requires c.in_default.ensures may

pub returns-in-Declared-clause-not : goal.returns-in-Declared-clause-not
returns-in-Declared-clause-not g c = λ f may. declared_joins c.args.code.now (kept c.args.engine.now) c.args.object c.in-Declared.field-0 c.in-Some.existing g.s.control g.s.operands g.s.world c.requires c.in-Some.ensures c.in-Declared.is may

pub returns-then-is_new-clause-may : goal.returns-then-is_new-clause-may
returns-then-is_new-clause-may g c = λ t.
    allocated_joins c.args.code.now (kept c.args.engine.now) c.args.object c.in-Allocated.collection _ c.in-Some.existing c.find_set.result g.s.control g.s.operands g.s.world c.requires c.in-Some.ensures c.in-Allocated.is
    (sym c.if-is_new.ensures) (c.find_set.ensures ∙ ap (λ (l : List Owned). set_in c.in-Allocated.collection (sets_owned l)) c.as_slice.ensures.value) (sym c.is_some.ensures ∙ t)

pub returns-then-is_new-clause-not : goal.returns-then-is_new-clause-not
returns-then-is_new-clause-not g c = λ f may.
    without_set_joins c.args.code.now (kept c.args.engine.now) c.args.object c.in-Allocated.collection _ c.in-Some.existing c.find_set.result g.s.control g.s.operands g.s.world c.requires c.in-Some.ensures c.in-Allocated.is
    (c.find_set.ensures ∙ ap (λ (l : List Owned). set_in c.in-Allocated.collection (sets_owned l)) c.as_slice.ensures.value) (sym c.is_some.ensures ∙ f) may

pub returns-else-is_new-clause-not : goal.returns-else-is_new-clause-not
returns-else-is_new-clause-not g c = λ f may.
    old_joins c.args.code.now (kept c.args.engine.now) c.args.object c.in-Some.existing g.s.control g.s.operands g.s.world c.requires c.in-Some.ensures (sym c.if-is_new.ensures) may
