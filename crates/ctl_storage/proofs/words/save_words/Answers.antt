use Rattle.std.proofs.Common.{◌∙◌, ◌++◌, ◌∷◌, [], List, ap, arith, drop, refl, sym, ℕ}
use Rattle.std.proofs.lemmas.List.{append-nil, append_assoc}
use Rattle.pool_store.specs.Store.{words_of}
use Rattle.ctl_meaning.specs.Objects.{first_cells}
use Rattle.ctl_storage.proofs.InStore.{none_first, saved_word}
use Rattle.ctl_storage.proofs.words.save_words.Goals as goal

pub loop-at-init : goal.loop-at-init
loop-at-init c =
    let items = c.args.saved.now.items in
    record {
      items = sym (ap (λ (l : List ℕ). items ++ l) (none_first (drop c.args.start (words_of c.args.number c.args.store.now))) ∙ append-nil items);
      long = omega arith;
      room = refl;
    }

pub loop-at-preserved : goal.loop-at-preserved
loop-at-preserved c =
    let items = c.args.saved.now.items in
    let ws = words_of c.args.number c.args.store.now in
    let at = c.loop-at.at in
    let before = c.loop-at.invariant in
    let saved = first_cells at (drop c.args.start ws) in
    let value = c.read_word-value.ensures in
    let long = c.push_reserved.ensures.len in
    let longer = before.long in
    record {
      items = c.push_reserved.ensures.items
          ∙ (ap (λ (l : List ℕ). l ++ c.read_word-value.result ∷ []) before.items
          ∙ (append_assoc items saved (c.read_word-value.result ∷ [])
          ∙ ap (λ (l : List ℕ). items ++ l) (ap (λ n. saved ++ n ∷ []) value ∙ sym (saved_word c.args.start at ws))));
      long = omega (arith, long, longer);
      room = c.push_reserved.ensures.capacity ∙ before.room;
    }
