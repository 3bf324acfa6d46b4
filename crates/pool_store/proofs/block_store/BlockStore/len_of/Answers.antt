use Rattle.std.proofs.Common.{length, Some, sym, ap, ◌∙◌}
use Rattle.pool_store.specs.declared.entry.Entry.TheVariants.{Standard, InBlock}
use Rattle.pool_store.specs.Store as store
use Rattle.pool_store.specs.Store.{Store}
use Rattle.pool_store.proofs.Steps.{words_seen, no_words_seen}
use Rattle.pool_store.proofs.block_store.BlockStore.len_of.Goals as goal

pub returns-in-Some-Standard : goal.returns-in-Some-Standard
returns-in-Some-Standard g c =
    let s = c.self.inside in
    let here = sym c.in-Some-Standard.ensures ∙ ap (λ e. Some e) c.in-Some-Standard.field-0-is in
    c.len.ensures
    ∙ ap length (sym (words_seen s.objects.values s.blocks.values s.given c.self.invariant c.args.object (Standard c.in-Some-Standard.words) here)
    ∙ ap (store.words_of c.args.object) c.self.view_is)

pub returns-in-Some-InBlock : goal.returns-in-Some-InBlock
returns-in-Some-InBlock g c =
    let s = c.self.inside in
    let here = sym c.in-Some-InBlock.ensures ∙ ap (λ e. Some e) c.in-Some-InBlock.field-0-is in
    c.len_at.ensures
    ∙ ap length (sym (words_seen s.objects.values s.blocks.values s.given c.self.invariant c.args.object (InBlock c.in-Some-InBlock.spot) here)
    ∙ ap (store.words_of c.args.object) c.self.view_is)

pub returns-in-None : goal.returns-in-None
returns-in-None g c =
    let s = c.self.inside in
    ap length (sym (no_words_seen s.objects.values s.blocks.values s.given c.self.invariant c.args.object (sym c.in-None.ensures))
    ∙ ap (store.words_of c.args.object) c.self.view_is)
