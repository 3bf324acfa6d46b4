-- What a map ends as, once a `&mut` to one of its values has ended.
use Rattle.std.specs.Prelude.{ℕ, Option}
use Rattle.std.specs.Borrow.{Fml, RattleType, MutBor, LendsIf}
use Rattle.std.specs.declared.alloc.Allocator as alloc
use Rattle.number_map.specs.Table.{Table, with_value}
use Rattle.number_map.specs.Newest.{with_newest}
use Rattle.number_map.specs.declared.newest.Newest.{Newest}
use Rattle.number_map.specs.contracts.map.NumberMap.{the_row}
use Rattle.number_map.specs.contracts.newest.Newest.{the_row as newest_row}

module _ (V A : RattleType) (heap : alloc.Ghosts A.Denot) where
  -- the number has the last value that was written, and without a value of this number the map stays as it is
  abbrev pub LendsValue : MutBor (Table V.Denot) → ℕ → Option (MutBor V.Denot) → Fml
  LendsValue m number r = LendsIf (the_row V A heap) V m r (with_value m.now number) m.now

module _ (V : RattleType) where
  -- the entry apart has the last value that was written
  abbrev pub LendsNewest : MutBor (Newest V.Denot) → Option (MutBor V.Denot) → Fml
  LendsNewest m r = LendsIf (newest_row V) V m r (with_newest m.now) m.now
