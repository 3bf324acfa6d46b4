use Rattle.std.proofs.Common.{◌≡◌, ◌∙◌, ◌+◌, [], List, ap, arith, drop, length, sym, ℕ}
use Rattle.std.specs.Prelude.{slice_index_or}
use Rattle.pool_store.specs.Store.{Store, words_of}
use Rattle.ctl_storage.specs.Inside.{words_written}
use Rattle.ctl_storage.proofs.InStore.{as_many_words}
use Rattle.ctl_storage.proofs.Cells.{all_dropped, item_dropped}
use Rattle.ctl_storage.proofs.words.write_words.Goals as goal

pub loop-at-init : goal.loop-at-init
loop-at-init c =
    let none : c.args.start + 0 ≡ c.args.start = omega arith in
    record { rest = ap (λ n. words_written c.args.number n c.args.values.now c.args.store.now) none; many = c.requires }

pub loop-at-preserved : goal.loop-at-preserved
loop-at-preserved c =
    let n = c.args.number in
    let values = c.args.values.now in
    let at = c.loop-at.at in
    let start = c.args.start in
    let before = c.loop-at.invariant in
    let further : start + (at + 1) ≡ start + at + 1 = omega arith in
    record {
      rest = ap (λ i. words_written n i (drop (at + 1) values) c.write_word.new.store) further
          ∙ (ap (λ (s : Store). words_written n (start + at + 1) (drop (at + 1) values) s) c.write_word.ensures
          ∙ (ap (λ (l : List ℕ). words_written n (start + at) l c.loop-at.store) (sym (item_dropped values at (omega arith)))
          ∙ before.rest));
      many = before.many ∙ sym (ap (λ (s : Store). length (words_of n s)) c.write_word.ensures ∙ as_many_words c.loop-at.store n (start + at) (slice_index_or values at 0));
    }

pub returns : goal.returns
returns c =
    let values = c.args.values.now in
    let none : drop c.loop-at.at values ≡ [] = all_dropped values c.loop-at.at (omega arith) in
    ap (λ (l : List ℕ). words_written c.args.number (c.args.start + c.loop-at.at) l c.loop-at.store) (sym none) ∙ c.loop-at.invariant.rest
