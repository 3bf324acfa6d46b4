use Rattle.std.proofs.Common.{◌≡◌, ℕ, ◌+◌, ◌<◌, length, List, sym, ap, subst, ◌∙◌, arith}
use Rattle.std.specs.Prelude.{slice_index_or}
use Rattle.pool_store.specs.Store as store
use Rattle.pool_store.specs.Store.{Store}
use Rattle.pool_store.proofs.CopyLemmas.{after_copy, before_copy, source_same, target_long, one_more, copied_is}
use Rattle.pool_store.proofs.store.PoolStore.copy_between.Goals as goal

pub loop-k-init : goal.loop-k-init
loop-k-init g c =
    let some : 0 < length (store.words_of c.args.to c.args.self.now) = omega arith in
    before_copy c.args.from c.args.word c.args.to c.args.target c.args.self.now some

pub word-value-requires : goal.word-value-requires
word-value-requires g c =
    let a = c.args in
    let k : ℕ = c.loop-k.k in
    let same = ap (λ s. store.words_of a.from s) c.loop-k.invariant ∙ source_same a.from a.word a.to a.target k a.self.now c.requires.apart in
    subst (λ (ws : List ℕ). a.word + k < length ws) (sym same) (omega arith)

pub set_word-requires : goal.set_word-requires
set_word-requires g c =
    let a = c.args in
    let k : ℕ = c.loop-k.k in
    let same : length (store.words_of a.to c.loop-k.self) ≡ length (store.words_of a.to a.self.now) =
    ap (λ s. length (store.words_of a.to s)) c.loop-k.invariant ∙ target_long a.from a.word a.to a.target k a.self.now (omega arith) (omega arith) in
    omega arith

pub loop-k-preserved : goal.loop-k-preserved
loop-k-preserved g c =
    let a = c.args in
    let k : ℕ = c.loop-k.k in
    let read = c.word-value.ensures ∙ ap (λ s. slice_index_or (store.words_of a.from s) (a.word + k) 0) c.loop-k.invariant
    ∙ ap (λ (ws : List ℕ). slice_index_or ws (a.word + k) 0) (source_same a.from a.word a.to a.target k a.self.now c.requires.apart) in
    c.set_word.ensures
    ∙ ap (λ s. store.with_word a.to (a.target + k) c.word-value.result s) c.loop-k.invariant
    ∙ ap (λ v. store.with_word a.to (a.target + k) v (after_copy a.from a.word a.to a.target k a.self.now)) read
    ∙ one_more a.from a.word a.to a.target k a.self.now (omega arith) (omega arith)

pub returns : goal.returns
returns g c =
    let a = c.args in
    let some_from : 0 < length (store.words_of a.from a.self.now) = omega (arith, c.requires.some, c.requires.from) in
    let some_to : 0 < length (store.words_of a.to a.self.now) = omega (arith, c.requires.some, c.requires.to) in
    let last : c.loop-k.k ≡ a.count = omega arith in
    c.loop-k.invariant ∙ ap (λ k. after_copy a.from a.word a.to a.target k a.self.now) last ∙ copied_is a.from a.word a.to a.target a.count a.self.now some_from some_to
