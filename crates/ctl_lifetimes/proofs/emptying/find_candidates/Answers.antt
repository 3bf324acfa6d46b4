use Rattle.ctl_lifetimes.proofs.Candidates.{counted_all, counted_next, counted_none, few_counted, fewer_ahead, needs_known, taken_all}
use Rattle.ctl_lifetimes.proofs.emptying.find_candidates.Goals as goal

pub loop-waiting-init : goal.loop-waiting-init
loop-waiting-init g c = counted_none c.args.code.now c.args.order c.args.first c.args.last c.args.engine.now.stock c.requires.1.0

pub loop-waiting-smaller : goal.loop-waiting-smaller
loop-waiting-smaller g c = fewer_ahead c.args.engine.now.stock c.loop-waiting.start c.args.last c.in-Some.waiting c.requires.1.0 c.in-Some.ensures.next

pub loop-waiting-preserved : goal.loop-waiting-preserved
loop-waiting-preserved g c =
    let a = c.args in
    let l = c.loop-waiting in
    counted_next a.code.now a.order a.first a.last a.engine.now.stock l.start c.in-Some.waiting l.found c.with_group-found.result (needs_known a.code.now a.engine.now.stock.needs c.requires.1.1) c.requires.1.0 c.in-Some.ensures.next c.with_group-found.ensures l.invariant

pub with_group-found-requires : goal.with_group-found-requires
with_group-found-requires g c =
    let a = c.args in
    let l = c.loop-waiting in
    record {
      few = few_counted a.code.now a.order a.first a.last a.engine.now.stock l.start c.in-Some.waiting l.found c.in-Some.ensures.few c.in-Some.ensures.next.3 l.invariant;
      count = c.in-Some.ensures.next.3;
    }

pub returns-clause-count : goal.returns-clause-count
returns-clause-count g c =
    let a = c.args in
    let l = c.loop-waiting in
    counted_all a.code.now a.order a.first a.last l.start g.sets a.engine.now.stock l.found (needs_known a.code.now a.engine.now.stock.needs c.requires.1.1) c.requires.1.0 c.requires.0 c.in_default.ensures.next l.invariant

pub returns-clause-chosen : goal.returns-clause-chosen
returns-clause-chosen g c =
    let a = c.args in
    let l = c.loop-waiting in
    taken_all a.code.now a.order a.first a.last l.start g.sets a.engine.now.stock l.found (needs_known a.code.now a.engine.now.stock.needs c.requires.1.1) c.requires.1.0 c.requires.0 c.in_default.ensures.next l.invariant
