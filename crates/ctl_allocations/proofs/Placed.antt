-- An object is put into the block at an address that an Allocate of the user's gave (13.11).
use Rattle.std.proofs.Common.{◌≡◌, ℕ, suc, ◌+◌, ◌<◌, List, [], ◌∷◌, ◌++◌, Option, Some, None, Bool, true, false, length, refl, sym, ap, ◌∙◌, subst, arith, drop, reverse}
use Rattle.std.specs.Prelude.{◌&&◌, nat_lt, not, slice_get, if◌then◌else◌}
use Rattle.std.specs.Option.{option_map_or}
use Rattle.std.proofs.lemmas.List.{append_assoc, length-append, reverse-append}
use Rattle.ctl_tree.specs.declared.ending.Stop.TheVariants.{BadAddress, UseAfterFree}
use Rattle.ctl_program.specs.declared.types.Ty.TheVariants.{Integer}
use Rattle.ctl_meaning.specs.World.{BlockPool, Object, World}
use Rattle.ctl_meaning.specs.Changes.{is_vacant}
use Rattle.ctl_meaning.specs.Pools.{block_at, block_pool_at}
use Rattle.ctl_storage.specs.Calls.{is_fit_at, is_vacant_among, placing}
use Rattle.ctl_storage.specs.declared.pools.Placing.{Placing}
use Rattle.ctl_storage.specs.declared.pools.Placing.TheVariants as PlacingOf
use Rattle.ctl_code.specs.declared.kinds.Kind.{Kind}
use Rattle.ctl_code.specs.declared.kinds.Kind.TheVariants.{Operand}
use Rattle.ctl_code.specs.declared.code.Code.{Code}
use Rattle.ctl_code.specs.States as T
use Rattle.ctl_code.specs.States.{Located, Scalar, Word, cells_of, Cells}
use Rattle.ctl_code.specs.Table.{NotPassed, Passed, Test, address_test}
use Rattle.ctl_code.specs.Valid.{HaveNumbers}
use Rattle.ctl_code.specs.Windows.{height}
use Rattle.ctl_code.specs.Fits.{Stands}
use Rattle.ctl_frames.specs.Masters.{first_window, heads_of}
use Rattle.ctl_engine.specs.Moves.{Inside}
use Rattle.ctl_places.specs.PoolBlocks.{is_open_at}
use Rattle.ctl_engine.specs.Shows.{Holds, Kept, Sized}
use Rattle.ctl_frames.specs.Spots.{standing}
use Rattle.ctl_frames.specs.Under.{laid, under}
use Rattle.ctl_engine.proofs.Blocks.{laid_is}
use Rattle.ctl_places.proofs.GivenBack.{vacant_among}
use Rattle.ctl_frames.proofs.Lists.{get_right}
use Rattle.ctl_engine.proofs.Places.{place_is}
use Rattle.ctl_engine.proofs.Values.{fewer_operands, window_in}

-- The test ----------------------------------------------------------------------------------------------

-- what the test of an open pool comes to
abbrev tested_so : Bool → Test
tested_so true = Passed
tested_so false = NotPassed BadAddress

test_by : (opens fit : Bool) → opens ≡ true → (if not opens then NotPassed UseAfterFree else if fit then Passed else NotPassed BadAddress) ≡ tested_so fit
test_by true true is = refl
test_by true false is = refl
test_by false fit is = absurd (cc)

test_of : (a size : ℕ) (w : World) (p : Option BlockPool) → option_map_or (λ x. x.is_open) p false ≡ true → address_test a size p w ≡ tested_so (option_map_or (λ x. is_vacant_among w.objects (block_at a x) && not (nat_lt x.block_size size)) p false)
test_of a size w None is = absurd (cc)
test_of a size w (Some p) is =
    test_by p.is_open (is_vacant w (block_at a p) && not (nat_lt p.block_size size)) is
    ∙ ap (λ b. tested_so (b && not (nat_lt p.block_size size))) (vacant_among w (block_at a p))

-- of an open pool, by the objects
pub test_is : (n a size : ℕ) (w : World) → is_open_at n w.pools ≡ true → address_test a size (block_pool_at n w.pools) w ≡ tested_so (is_fit_at n a size w.objects w.pools)
test_is n a size w is = test_of a size w (block_pool_at n w.pools) is

-- as it is answered
pub test_passes : (n a size : ℕ) (w : World) → is_open_at n w.pools ≡ true → PlacingOf.Placed ≡ placing (is_fit_at n a size w.objects w.pools) → address_test a size (block_pool_at n w.pools) w ≡ Passed
test_passes n a size w is answer = test_is n a size w is ∙ by (is_fit_at n a size w.objects w.pools) answer
  where
    by : (b : Bool) → PlacingOf.Placed ≡ placing b → tested_so b ≡ Passed
    by true e = refl
    by false e = absurd (cc)

pub test_fails : (n a size : ℕ) (w : World) → is_open_at n w.pools ≡ true → PlacingOf.Refused ≡ placing (is_fit_at n a size w.objects w.pools) → address_test a size (block_pool_at n w.pools) w ≡ NotPassed BadAddress
test_fails n a size w is answer = test_is n a size w is ∙ by (is_fit_at n a size w.objects w.pools) answer
  where
    by : (b : Bool) → PlacingOf.Refused ≡ placing b → tested_so b ≡ NotPassed BadAddress
    by true e = absurd (cc)
    by false e = refl

-- of a pool that is not open, or not there
test_shut : (a size : ℕ) (w : World) (p : Option BlockPool) → option_map_or (λ x. x.is_open) p false ≡ false → address_test a size p w ≡ NotPassed UseAfterFree
test_shut a size w None is = refl
test_shut a size w (Some p) is = ap (λ b. if not b then NotPassed UseAfterFree else if is_vacant w (block_at a p) && not (nat_lt p.block_size size) then Passed else NotPassed BadAddress) is

pub shut_fails : (n a size : ℕ) (w : World) → is_open_at n w.pools ≡ false → address_test a size (block_pool_at n w.pools) w ≡ NotPassed UseAfterFree
shut_fails n a size w is = test_shut a size w (block_pool_at n w.pools) is

-- The four numbers --------------------------------------------------------------------------------------

-- the address, what the first formal holds, the pool and the collection stand on top, over what stays
pub record AreNumbers (code : Code) (e : Kept) (below : List Kind) (k : List T.Frame) (ops : List Word) (w : World) (address held pool set : ℕ) (rest : List Word) : Type 0 where
  pub are : ops ≡ Scalar address ∷ Scalar held ∷ Scalar pool ∷ Scalar set ∷ rest
  pub inside : Inside code e below k rest w
  pub within : first_window e.masters + height below + 3 < length e.cells
  pub set_read : slice_get e.cells (first_window e.masters + height below) ≡ Some set
  pub pool_read : slice_get e.cells (first_window e.masters + height below + 1) ≡ Some pool
  pub address_read : slice_get e.cells (first_window e.masters + height below + 3) ≡ Some address

-- they do
pub record HasNumbers (code : Code) (e : Kept) (stack : List Kind) (k : List T.Frame) (ops : List Word) (w : World) : Type 0 where
  pub address : ℕ
  pub held : ℕ
  pub pool : ℕ
  pub set : ℕ
  pub rest : List Word
  pub stand : AreNumbers code e (drop 4 stack) k ops w address held pool set rest

-- the cells of four operands
four_cells : (u row more : List ℕ) (a x n set : ℕ) → (u ++ reverse (a ∷ x ∷ n ∷ set ∷ row)) ++ more ≡ (u ++ reverse row) ++ set ∷ n ∷ x ∷ a ∷ more
four_cells u row more a x n set =
    next (x ∷ n ∷ set ∷ row) a more
    ∙ (next (n ∷ set ∷ row) x (a ∷ more)
    ∙ (next (set ∷ row) n (x ∷ a ∷ more)
    ∙ next row set (n ∷ x ∷ a ∷ more)))
  where
    next : (l : List ℕ) (y : ℕ) (rest : List ℕ) → (u ++ reverse (y ∷ l)) ++ rest ≡ (u ++ reverse l) ++ y ∷ rest
    next l y rest =
        ap (λ r. (u ++ r) ++ rest) (reverse-append (y ∷ []) l)
        ∙ (ap (λ (r : List ℕ). r ++ rest) (sym (append_assoc u (reverse l) (y ∷ [])))
        ∙ append_assoc (u ++ reverse l) (y ∷ []) rest)

-- one number is on top
record IsOne (code : Code) (n : ℕ) (stack : List Kind) (k : List T.Frame) (ops : List Word) : Type 0 where
  pub below : List Kind
  pub number : ℕ
  pub rest : List Word
  pub kinds : stack ≡ Operand Integer ∷ below
  pub words : ops ≡ Scalar number ∷ rest
  pub more : HaveNumbers n below
  pub stands : Stands code below k rest

is_one : (code : Code) (n : ℕ) (stack : List Kind) (k : List T.Frame) (ops : List Word) → HaveNumbers (suc n) stack → Stands code stack k ops → IsOne code n stack k ops
is_one code n (Operand Integer ∷ below) k (Scalar x ∷ rest) have stands = record { below = below; number = x; rest = rest; kinds = refl; words = refl; more = have; stands = stands.1 }
is_one code n (Operand Integer ∷ below) k (Located s ∷ rest) have stands = absurd stands.0
is_one code n (Operand Integer ∷ below) k (Cells v ∷ rest) have stands = absurd stands.0
is_one code n (Operand Integer ∷ below) k [] have stands = absurd stands
is_one code n _ k ops have stands = elim have [ ]

read_behind : (cells front row : List ℕ) → cells ≡ front ++ row → (i j : ℕ) → j ≡ length front + i → slice_get cells j ≡ slice_get row i
read_behind cells front row is i j at = ap (λ (l : List ℕ). slice_get l j) is ∙ get_right front row i j at

-- where they stand, over these
numbers_stand : (code : Code) (e : Kept) (below : List Kind) (k : List T.Frame) (w : World) (a x n set : ℕ) (rest : List Word) → Inside code e below k rest w → Holds code e k (Scalar a ∷ Scalar x ∷ Scalar n ∷ Scalar set ∷ rest) w → (let at = first_window e.masters + height below in
    (at + 3 < length e.cells) × (slice_get e.cells at ≡ Some set) × (slice_get e.cells (at + 1) ≡ Some n) × (slice_get e.cells (at + 3) ≡ Some a))
numbers_stand code e below k w a x n set rest i h =
    let front = laid k w.activations rest in
    let row : List ℕ = set ∷ n ∷ x ∷ a ∷ h.cells.0 in
    let cells : e.cells ≡ front ++ row = h.cells.1 ∙ four_cells (under k w.activations) (cells_of rest) h.cells.0 a x n set in
    let there = place_is (window_in i) in
    let long = laid_is k rest w in
    let all : length e.cells ≡ length front + length row = ap (λ (l : List ℕ). length l) cells ∙ length-append front row in
    let at = first_window e.masters + height below in
    (omega (arith, there, long, all), read_behind e.cells front row cells 0 at (omega (arith, there, long)), read_behind e.cells front row cells 1 (at + 1) (omega (arith, there, long)), read_behind e.cells front row cells 3 (at + 3) (omega (arith, there, long)))

pub has_numbers : (code : Code) (e : Kept) (stack : List Kind) (k : List T.Frame) (ops : List Word) (w : World) → HaveNumbers 4 stack → Inside code e stack k ops w → HasNumbers code e stack k ops w
has_numbers code e stack k ops w have inside =
    let a = is_one code 3 stack k ops have inside.stands in
    let b = is_one code 2 a.below k a.rest a.more a.stands in
    let c = is_one code 1 b.below k b.rest b.more b.stands in
    let d = is_one code 0 c.below k c.rest c.more c.stands in
    let kinds : stack ≡ Operand Integer ∷ Operand Integer ∷ Operand Integer ∷ Operand Integer ∷ d.below = a.kinds ∙ ap (λ (l : List Kind). Operand Integer ∷ l) (b.kinds ∙ ap (λ (l : List Kind). Operand Integer ∷ l) (c.kinds ∙ ap (λ (l : List Kind). Operand Integer ∷ l) d.kinds)) in
    let words : ops ≡ Scalar a.number ∷ Scalar b.number ∷ Scalar c.number ∷ Scalar d.number ∷ d.rest = a.words ∙ ap (λ (l : List Word). Scalar a.number ∷ l) (b.words ∙ ap (λ (l : List Word). Scalar b.number ∷ l) (c.words ∙ ap (λ (l : List Word). Scalar c.number ∷ l) d.words)) in
    let holds = subst (λ (l : List Word). Holds code e k l w) words inside.holds in
    let h0 = fewer_operands code e k (Scalar a.number) (Scalar b.number ∷ Scalar c.number ∷ Scalar d.number ∷ d.rest) w holds in
    let h1 = fewer_operands code e k (Scalar b.number) (Scalar c.number ∷ Scalar d.number ∷ d.rest) w h0 in
    let h2 = fewer_operands code e k (Scalar c.number) (Scalar d.number ∷ d.rest) w h1 in
    let h3 = fewer_operands code e k (Scalar d.number) d.rest w h2 in
    let left : Inside code e d.below k d.rest w = record {
      stands = d.stands;
      sized = subst (λ (l : List Kind). Sized code l k (heads_of w.activations)) kinds inside.sized;
      holds = h3;
      spots = inside.spots ∙ ap (λ (l : List Word). standing k l) words;
    } in
    let beneath : d.below ≡ drop 4 stack = sym (ap (λ (l : List Kind). drop 4 l) kinds) in
    let there = numbers_stand code e d.below k w a.number b.number c.number d.number d.rest left holds in
    record {
      address = a.number;
      held = b.number;
      pool = c.number;
      set = d.number;
      rest = d.rest;
      stand = subst (λ (l : List Kind). AreNumbers code e l k ops w a.number b.number c.number d.number d.rest) beneath (record { are = words; inside = left; within = there.0; set_read = there.1; pool_read = there.2; address_read = there.3 });
    }

-- An object is there ------------------------------------------------------------------------------------

pub not_placed : (r : Placing) → (r ≡ PlacingOf.Placed → ⊥) → r ≡ PlacingOf.Refused
not_placed PlacingOf.Placed none = absurd (none refl)
not_placed PlacingOf.Refused none = refl

-- what the stock answered, by the world's objects
pub answered : (n a size units : ℕ) (w : World) (objects : List Object) (r : Placing) → w.objects ≡ objects → size ≡ units → r ≡ placing (is_fit_at n a size objects w.pools) → r ≡ placing (is_fit_at n a units w.objects w.pools)
answered n a size units w objects r same all is = is ∙ (ap (λ (l : List Object). placing (is_fit_at n a size l w.pools)) (sym same) ∙ ap (λ j. placing (is_fit_at n a j w.objects w.pools)) all)
