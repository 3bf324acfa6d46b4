use Rattle.std.specs.Prelude.{◌≡◌, ◌+◌, drop, length}
use Rattle.pool_store.specs.Store.{words_of}
use Rattle.ctl_storage.specs.Inside.{words_written}
use Rattle.ctl_storage.proofs.words.write_words.Given as goal

-- the values that are left are still to be written
abbrev pub invariant-loop-at : goal.invariant-loop-at
invariant-loop-at l = record {
  rest : words_written l.fn.number (l.fn.start + l.at) (drop l.at l.fn.values) l.store ≡ words_written l.fn.number l.fn.start l.fn.values l.fn.store;
  many : l.fn.cells ≡ length (words_of l.fn.number l.store);
}
