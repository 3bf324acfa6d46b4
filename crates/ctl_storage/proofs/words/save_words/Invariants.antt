use Rattle.std.specs.Prelude.{◌≡◌, ◌+◌, ◌++◌, drop, vec_capacity, vec_len}
use Rattle.pool_store.specs.Store.{words_of}
use Rattle.ctl_meaning.specs.Objects.{first_cells}
use Rattle.ctl_storage.proofs.words.save_words.Given as goal

abbrev pub invariant-loop-at : goal.invariant-loop-at
invariant-loop-at l = record {
  items : l.saved.items ≡ l.fn.saved.items ++ first_cells l.at (drop l.fn.start (words_of l.fn.number l.fn.store));
  long : vec_len l.saved ≡ vec_len l.fn.saved + l.at;
  room : vec_capacity l.saved ≡ vec_capacity l.fn.saved;
}
