use Rattle.std.proofs.Common.{◌+◌, sym, ◌∙◌, arith}
use Rattle.std.specs.Prelude.{Ok}
use Rattle.std.specs.FinMap.{get}
use Rattle.pool_store.proofs.Held.{within, gone, is_held_ok, nothing_changes}
use Rattle.pool_store.proofs.store.PoolStore.write_anywhere.Goals as goal

pub set_word-requires : goal.set_word-requires
set_word-requires g c =
    let fits = within (get c.args.self.now.objects c.args.object) (c.args.word + 1) (sym c.is_held.ensures ∙ c.if-not-is_held.false) c.requires in
    omega arith

pub returns-then-not-is_held-clause-result : goal.returns-then-not-is_held-clause-result
returns-then-not-is_held-clause-result g c = gone (get c.args.self.now.objects c.args.object) _ (sym c.is_held.ensures ∙ c.if-not-is_held.true)

pub returns-then-not-is_held-clause-store : goal.returns-then-not-is_held-clause-store
returns-then-not-is_held-clause-store g c = nothing_changes c.args.self.now c.args.object _ (sym c.is_held.ensures ∙ c.if-not-is_held.true)

pub returns-clause-result : goal.returns-clause-result
returns-clause-result g c = is_held_ok (get c.args.self.now.objects c.args.object) (Ok tt) (sym c.is_held.ensures ∙ c.if-not-is_held.false)
