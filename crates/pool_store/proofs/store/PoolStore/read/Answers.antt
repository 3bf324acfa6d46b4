use Rattle.std.proofs.Common.{◌+◌, ◌≤◌, sym, ap, subst, length, ◌∙◌}
use Rattle.std.specs.Prelude.{IfSome}
use Rattle.std.specs.FinMap.{get}
use Rattle.pool_store.specs.Store as store
use Rattle.pool_store.specs.Store.{Store}
use Rattle.pool_store.proofs.Sides.{left_if, read_left}
use Rattle.pool_store.proofs.store.PoolStore.read.Goals as goal

pub standard_word-requires : goal.standard_word-requires
standard_word-requires g c =
    let s = c.self.inside in
    left_if s.blocks.objects s.marks.objects c.args.object (λ x. c.args.word + 1 ≤ length x.words) (subst (λ (v : Store). IfSome (get v.objects c.args.object) (λ x. c.args.word + 1 ≤ length x.words)) (sym c.self.view_is) c.requires)

pub returns-in-Some : goal.returns-in-Some
returns-in-Some g c =
    let s = c.self.inside in
    read_left s.blocks s.marks c.args.object c.args.word c.in-Some.value c.in-Some.ensures ∙ ap (store.read_word c.args.object c.args.word) c.self.view_is
