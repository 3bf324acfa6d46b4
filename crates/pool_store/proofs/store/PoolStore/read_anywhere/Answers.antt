use Rattle.std.proofs.Common.{ℕ, ◌+◌, sym, ap, ◌∙◌, arith}
use Rattle.std.specs.Prelude.{Result, Ok}
use Rattle.std.specs.FinMap.{get}
use Rattle.pool_store.specs.declared.fault.StoreFault.{StoreFault}
use Rattle.pool_store.proofs.Held.{within, read_held, gone}
use Rattle.pool_store.proofs.store.PoolStore.read_anywhere.Goals as goal

pub word-requires : goal.word-requires
word-requires g c =
    let fits = within (get c.args.self.now.objects c.args.object) (c.args.word + 1) (sym c.is_held.ensures ∙ c.if-not-is_held.false) c.requires in
    omega arith

pub returns-then-not-is_held : goal.returns-then-not-is_held
returns-then-not-is_held g c = gone (get c.args.self.now.objects c.args.object) _ (sym c.is_held.ensures ∙ c.if-not-is_held.true)

pub returns : goal.returns
returns g c =
    ap (λ w. let r : Result ℕ StoreFault = Ok w in r) c.word.ensures ∙ read_held (get c.args.self.now.objects c.args.object) c.args.word (sym c.is_held.ensures ∙ c.if-not-is_held.false)
