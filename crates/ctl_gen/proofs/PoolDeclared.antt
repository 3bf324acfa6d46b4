-- The declaration of a block pool: its discriminants are evaluated, and where they are good its object is created and the pool is open from
-- then on; where the creation raises it closes (3.3.1, 3.7.1, 13.11).
use Rattle.std.proofs.Common.{◌≡◌, ℕ, zero, suc, ◌+◌, ◌<◌, ◌≤◌, List, [], ◌∷◌, ◌++◌, length, Option, Some, None, Bool, true, false, refl, sym, ap, ◌∙◌, subst, arith, length-append}
use Rattle.std.specs.Prelude.{slice_get, nat_eq, replicate, if◌then◌else◌}
use Rattle.std.proofs.lemmas.Option.{slice_get_within}
use Rattle.ctl_program.specs.declared.types.Ty.TheVariants.{Count, Record}
use Rattle.ctl_program.specs.declared.types.Root.{Root}
use Rattle.ctl_program.specs.declared.types.Root.TheVariants as RootOf
use Rattle.ctl_program.specs.declared.types.RecordType.{RecordType}
use Rattle.ctl_tree.specs.declared.ending.Stop.TheVariants.{UseAfterFree}
use Rattle.ctl_tree.specs.declared.event.Owner.TheVariants as OwnerOf
use Rattle.ctl_meaning.specs.World.{Object, Declared, Single, Holds, holding, Log, World}
use Rattle.ctl_meaning.specs.Lists.{last_of, opened_lists}
use Rattle.ctl_meaning.specs.Pools.{push_block_pool}
use Rattle.ctl_meaning.specs.Changes.{object_at, new_object, create, home_of, set_slot, add_layer, close_pool_at, in_pools, owner_of, opened_changes}
use Rattle.ctl_meaning.specs.Choice.{Ask, picked}
use Rattle.ctl_meaning.specs.Outcome.{constraint_error, ByRaise, Result, Goes, Leaves, Out, Gives, Stops, Cut, Act, Done, Fine, add, bind, on_goes, ◌>>=◌, ◌>>◌, done, nothing, raise, change, look, told, either, on_some, attempt, opened_outcome}
use Rattle.ctl_meaning.specs.Types.{Tables, begin_cells, depth, of_record, root_in, root_of}
use Rattle.ctl_meaning.specs.Names.{Call, Default, Tools, gone, existing, must_exist, scalar_of}
use Rattle.ctl_meaning.specs.Expressions.{Valued}
use Rattle.ctl_meaning.specs.Finalization.{whole}
use Rattle.ctl_meaning.specs.Adjustment.{birth_of}
use Rattle.ctl_meaning.specs.Initialization.{initialize, initialize_part, fill}
use Rattle.ctl_meaning.specs.Masters.{declare_pool, discriminants, good_discriminants, open_pool, pool, pool_or_closed}
use Rattle.ctl_code.specs.declared.code.DiscriminantOrder.{DiscriminantOrder}
use Rattle.ctl_code.specs.declared.code.DiscriminantOrder.TheVariants.{SizeFirst, CountFirst}
use Rattle.ctl_code.specs.declared.code.Named.TheVariants.{Operand}
use Rattle.ctl_code.specs.declared.code.Instr.{Instr}
use Rattle.ctl_code.specs.declared.code.Instr.TheVariants as InstrOf
use Rattle.ctl_code.specs.declared.code.Code.{Code}
use Rattle.ctl_code.specs.declared.kinds.Kind.{Kind}
use Rattle.ctl_code.specs.declared.kinds.Kind.TheVariants as KindOf
use Rattle.ctl_code.specs.States.{Word, Scalar, Complete, Point, ByPoolDeclaration, Frame, Creating, Filling, State, whole_spot}
use Rattle.ctl_code.specs.Valid.{IsDeclarable}
use Rattle.ctl_code.specs.Windows.{height}
use Rattle.ctl_code.specs.Table as Table
use Rattle.ctl_code.specs.Table.{begun_of, come_to_life, pool_size, size_of, with_object, with_pool, is_made_at_once, parts_of}
use Rattle.ctl_code.specs.Steps.{moved, step}
use Rattle.ctl_layout.specs.Around.{Line, new_operand}
use Rattle.ctl_layout.specs.Records.{descends_from_pool, is_block_pool}
use Rattle.ctl_layout.specs.Values.{ValueCode}
use Rattle.ctl_layout.specs.Layout.{order_of, pool_code, with_discriminants}
use Rattle.ctl_gen.proofs.Known.{IsPlain}
use Rattle.ctl_gen.proofs.Given.{GivesEach}
use Rattle.ctl_gen.proofs.Worlds.{Since, Kept, keeps_itself, since_closed, since_layer, since_on, since_pools}
use Rattle.ctl_gen.proofs.CreatedParts.{IsAround, IsBornAmong, declared_among, new_part, parts_run, at_once_is}
use Rattle.ctl_gen.proofs.Setting.{Setting, tools_with, returns, Told, Sees, Calls, seen}
use Rattle.ctl_gen.proofs.Cells.{Any, by_code, here, landed}
use Rattle.ctl_gen.proofs.Worth.{both_cell}
use Rattle.ctl_gen.proofs.Expressions.{Value, value_runs}
use Rattle.ctl_gen.proofs.Place.{Laid, laid_front, laid_back}
use Rattle.ctl_gen.proofs.Does.{Does}
use Rattle.ctl_gen.proofs.Declare as D
use Rattle.ctl_gen.proofs.Follow.{by_raise, gives, way_of, Runs, add_none, added, arriving, bind_add, bind_bind, both, end_step, last_step, lands, no_step, one_step, Target, at, arrives, stop_step}

-- Discriminants (3.7.1) -------------------------------------------------------------------------------

-- the discriminants with this value at a position
abbrev with_value : ℕ → ℕ → ℕ × ℕ → ℕ × ℕ
with_value position n d = if nat_eq position 0 then (n, d.1) else (d.0, n)

-- the values that stand in this order are the size and the count
abbrev set_both : ℕ → ℕ → ℕ → ℕ → ℕ × ℕ
set_both i j a b = with_value j b (with_value i a (0, 0))

set_in_order : (i j : ℕ) (order : DiscriminantOrder) (a b : ℕ) → order_of i j ≡ Some order → set_both i j a b ≡ pool_size order a b
set_in_order zero zero order a b e = absurd (cc)
set_in_order zero (suc zero) order a b e = let same : SizeFirst ≡ order = cc e in ap (λ o. pool_size o a b) same
set_in_order zero (suc (suc j)) order a b e = absurd (cc)
set_in_order (suc zero) zero order a b e = let same : CountFirst ≡ order = cc e in ap (λ o. pool_size o a b) same
set_in_order (suc zero) (suc j) order a b e = absurd (cc)
set_in_order (suc (suc i)) j order a b e = absurd (cc)

-- a value, and what is made of it
one_is : (o : Out (List ℕ)) (f : List ℕ → ℕ × ℕ) (g : ℕ × ℕ → Act Done) → bind (bind o (on_goes (λ v. done (f v)))) (on_goes g) ≡ bind o (on_goes (λ v. g (f v)))
unfolding opened_outcome
one_is (Gives (Goes v) n c l w) f g = let e : n + 0 ≡ n = omega arith in ap (λ i. add i (g (f v) c l w)) e
one_is (Gives (Leaves y) n c l w) f g = let e : n + 0 + 0 ≡ n + 0 = omega arith in ap (λ i. Gives (Leaves y) i c l w) e
one_is (Stops why n l) f g = refl
one_is (Cut n c l) f g = refl

-- two values, and what is made of both
two_are : (o : Out (List ℕ)) (m : Act (List ℕ)) (f : List ℕ → List ℕ → ℕ × ℕ) (g : ℕ × ℕ → Act Done) → bind (bind o (on_goes (λ u. m >>= (λ v. done (f u v))))) (on_goes g) ≡ bind o (on_goes (λ u. m >>= (λ v. g (f u v))))
unfolding opened_outcome
two_are (Gives (Goes u) n c l w) m f g = bind_add n (bind (m c l w) (on_goes (λ v. done (f u v)))) (on_goes g) ∙ ap (add n) (one_is (m c l w) (f u) g)
two_are (Gives (Leaves y) n c l w) m f g = let e : n + 0 + 0 ≡ n + 0 = omega arith in ap (λ i. Gives (Leaves y) i c l w) e
two_are (Stops why n l) m f g = refl
two_are (Cut n c l) m f g = refl

-- a type of the table that descends from Block_Pool
is_root : (x : Root) → is_block_pool x ≡ true → x ≡ RootOf.BlockPool
is_root RootOf.BlockPool e = refl
is_root RootOf.MarkPool e = absurd (cc)
is_root RootOf.Controlled e = absurd (cc)
is_root RootOf.Untagged e = absurd (cc)

pub root_is : (k : Tables) (t : ℕ) (r : RecordType) → slice_get k.records t ≡ Some r → descends_from_pool (slice_get k.records t) ≡ true → root_of k t ≡ RootOf.BlockPool
unfolding root_of root_in
root_is k t r here e = ap root_in here ∙ is_root r.root (sym (ap descends_from_pool here) ∙ e)

module _ (ask : Ask) (k : Tables) (code : Code) (setting : Setting k code) (call : Call) (default : Default) (defaults : GivesEach ask k code setting call default) (t : ℕ) (r : RecordType) (record_is : slice_get k.records t ≡ Some r) (plain : IsPlain k t r) (rooted : root_of k t ≡ RootOf.BlockPool) where
  abbrev K : Tools
  K = tools_with ask k call default

  -- What the declaration means --------------------------------------------------------------------------

  -- what becomes of a pool after the creation of its object
  abbrev stands : ℕ → ℕ → Result Done → Act Done
  stands n m x c l w = bind (bind (on_goes (λ _. must_exist n) x c l w) told) (on_goes (pool_or_closed m n))

  settled_is : (n m : ℕ) (o : Out Done) → bind (add 0 (bind (bind o (on_goes (λ _. must_exist n))) told)) (on_goes (pool_or_closed m n)) ≡ bind o (stands n m)
  settled_is n m o =
      ap (λ x. bind x (on_goes (pool_or_closed m n))) (add_none (bind (bind o (on_goes (λ _. must_exist n))) told))
      ∙ ap (λ x. bind x (on_goes (pool_or_closed m n))) (bind_bind o (on_goes (λ _. must_exist n)) told)
      ∙ bind_bind o (λ x c l w. bind (on_goes (λ _. must_exist n) x c l w) told) (on_goes (pool_or_closed m n))

  -- its parts begin by default
  abbrev begins : ℕ → ℕ → World → Act Done
  begins n m w = initialize_part K (birth_of (Declared m) w) (suc (length k.records)) (whole_spot n) t

  -- where its discriminants are good
  abbrev opens : ℕ → ℕ → ℕ × ℕ → Act Done
  opens m slot size c l w =
      let n = w.ledger.next_object in
      bind (begins n m w c l (in_pools (push_block_pool n size.0 size.1) (set_slot m slot (holding (Holds n)) (create (Record t) (replicate (size_of code t) 0) (Declared m) w)))) (stands n m)

  -- its declaration, where its type has this root and its object these cells at first
  abbrev declared_by : ℕ → ℕ → ℕ × ℕ → Root → List ℕ → Act Done
  declared_by m slot size root cells =
      either (good_discriminants root size)
      (look (λ w. change (create (Record t) cells (Declared m))
      >> change (set_slot m slot (holding (Holds w.ledger.next_object)))
      >> open_pool root w.ledger.next_object size
      >> attempt (fill K (birth_of (Declared m) w) w.ledger.next_object (Record t) None)
      >>= pool_or_closed m w.ledger.next_object))
      (raise constraint_error)

  abbrev cells : List ℕ
  cells = replicate (size_of code t) 0

  opens_is : (m slot : ℕ) (size : ℕ × ℕ) (c : ℕ) (l : Log) (w : World) → declared_by m slot size RootOf.BlockPool cells c l w ≡ either (good_discriminants RootOf.BlockPool size) (opens m slot size) (raise constraint_error) c l w
  unfolding open_pool fill initialize of_record depth whole opened_outcome
  opens_is m slot size c l w = by (good_discriminants RootOf.BlockPool size)
    where
      n : ℕ
      n = w.ledger.next_object

      creating : Act Done
      creating =
          look (λ w1. change (create (Record t) cells (Declared m))
          >> change (set_slot m slot (holding (Holds w1.ledger.next_object)))
          >> open_pool RootOf.BlockPool w1.ledger.next_object size
          >> attempt (fill K (birth_of (Declared m) w1) w1.ledger.next_object (Record t) None)
          >>= pool_or_closed m w1.ledger.next_object)

      by : (b : Bool) → either b creating (raise constraint_error) c l w ≡ either b (opens m slot size) (raise constraint_error) c l w
      by true = settled_is n m (begins n m w c l (in_pools (push_block_pool n size.0 size.1) (set_slot m slot (holding (Holds n)) (create (Record t) cells (Declared m) w))))
      by false = refl

  declare_is : (m slot : ℕ) (size : ℕ × ℕ) (c : ℕ) (l : Log) (w : World) → declare_pool K m slot t size c l w ≡ either (good_discriminants RootOf.BlockPool size) (opens m slot size) (raise constraint_error) c l w
  unfolding declare_pool begin_cells
  declare_is m slot size c l w =
      ap (λ x. declared_by m slot size x (begin_cells k (Record t)) c l w) rooted
      ∙ ap (λ i. declared_by m slot size RootOf.BlockPool (replicate i 0) c l w) (sym (setting.sizes t plain.laid.is))
      ∙ opens_is m slot size c l w

  -- New pools -------------------------------------------------------------------------------------------

  -- the worlds with a new pool, the operations of whose type are in scope
  opened_fits : (slot : ℕ) (size : ℕ × ℕ) (s : List Kind) (w0 : World) (d : List ℕ) (w : World) → IsDeclarable code (length d) t → Since k code w0 w → Sees d s w0 → Since k code w0 (with_pool code d slot t size w)
  unfolding push_block_pool
  opened_fits slot size s w0 d w declarable fits sees =
      let object = D.created_fits ask k code setting call default defaults t r record_is plain slot s w0 d w declarable fits sees in
      since_pools k code (push_block_pool w.ledger.next_object size.0 size.1) w0 (with_object code d slot t w) object.0.mark_pools object

  opened_there : (slot : ℕ) (size : ℕ × ℕ) (w0 : World) (d : List ℕ) (w : World) → Since k code w0 w → object_at w.ledger.next_object (with_pool code d slot t size w) ≡ Some (new_object w.ledger.next_object (Record t) (replicate (size_of code t) 0) (Declared (last_of d)))
  unfolding opened_changes
  opened_there slot size w0 d w fits = D.created_there ask k code setting call default defaults t r record_is plain slot w0 d w fits

  -- its object is there, and its type is declared around its operations
  opened_around : (slot : ℕ) (size : ℕ × ℕ) (s : List Kind) (w0 : World) (d : List ℕ) (w : World) → IsDeclarable code (length d) t → Since k code w0 w → Sees d s w0 → IsAround code w.ledger.next_object t (with_pool code d slot t size w)
  unfolding opened_changes
  opened_around slot size s w0 d w declarable fits sees = D.created_around ask k code setting call default defaults t r record_is plain slot w0 d w fits (D.created_fits ask k code setting call default defaults t r record_is plain slot s w0 d w declarable fits sees)

  -- What its code does ----------------------------------------------------------------------------------

  -- a pool whose object is there comes to life; nothing more is done of one that is gone
  lives_on : (w0 : World) (n : ℕ) (e : Target) (p : Point) (ks : List Frame) (s0 : State) (c : ℕ) (l : Log) (w : World) → Since k code w0 w → step ask code s0 ≡ moved l (come_to_life ByPoolDeclaration n (object_at n w) p ks w)
      → Runs ask code (Kept k code w0) 1 3 s0 c (arrives e p.display p.place ks p.operands) (stands n (last_of p.display) (Goes tt) c l w)
  unfolding must_exist existing gone pool_or_closed opened_outcome
  lives_on w0 n e p ks s0 c l w fits first = by (object_at n w) first
    where
      m : ℕ
      m = last_of p.display

      by : (o : Option Object) → step ask code s0 ≡ moved l (come_to_life ByPoolDeclaration n o p ks w) → Runs ask code (Kept k code w0) 1 3 s0 c (arrives e p.display p.place ks p.operands) (bind (bind (on_some o gone (λ _. nothing) c l w) told) (on_goes (pool_or_closed m n)))
      by None go = stop_step ask code (Kept k code w0) {A = Done} 1 3 s0 _ c 0 (arrives e p.display p.place ks p.operands) UseAfterFree l (omega arith) go refl refl
      by (Some o) go = end_step ask code (Kept k code w0) {A = Done} 3 s0 c 0 (arrives e p.display p.place ks p.operands) (Goes tt) l (add_layer m (Single n) w) (since_layer k code m (Single n) w0 w fits) go

  module _ (bound : ℕ) (calls : Calls ask k code setting bound call) where
    -- after its creation; where that raised the pool closes
    stands_runs : (w0 w1 : World) (n : ℕ) (e : Target) (p : Point) (ks : List Frame) → Since k code w0 w1 → (x : Result Done) (c : ℕ) (l : Log) (w : World) → Told k code w1 (way_of x) w → Runs ask code (Kept k code w0) 1 3 (returns (Creating ByPoolDeclaration n t p ∷ ks) x l w) c (arrives e p.display p.place ks p.operands) (stands n (last_of p.display) x c l w)
    unfolding picked pool_or_closed opened_outcome
    stands_runs w0 w1 n e p ks fits1 (Goes u) c l w told1 = lives_on w0 n e p ks _ c l w (since_on k code w0 w1 w fits1 told1.1) refl
    stands_runs w0 w1 n e p ks fits1 (Leaves y) c l w told1 =
        by_raise (λ v. Runs ask code (Kept k code w0) 1 3 (returns {A = Done} (Creating ByPoolDeclaration n t p ∷ ks) (Leaves v) l w) c (arrives e p.display p.place ks p.operands) (stands n (last_of p.display) (Leaves v) c l w))
        (λ x. end_step ask code (Kept k code w0) {A = Done} 3 _ c 0 (arrives e p.display p.place ks p.operands) (Leaves (ByRaise x)) l (close_pool_at n w) (since_closed k code n w0 w (since_on k code w0 w1 w fits1 told1.1)) refl) y told1.0

    -- a pool of this size, from the step that creates its object
    opens_runs : (slot : ℕ) (size : ℕ × ℕ) (e : Target) (s : List Kind) (w0 : World) (d : List ℕ) (place : ℕ) (ks : List Frame) (ops : List Word) (c : ℕ) (l : Log) (w : World) (s0 : State) → c ≤ bound → Since k code w0 w → Sees d s w0 → IsDeclarable code (length d) t
        → (let n = w.ledger.next_object in step ask code s0 ≡ moved l (Table.create_object code ByPoolDeclaration (new_part (whole_spot n) t (OwnerOf.Master (last_of d))) (record { display = d; place = place; operands = ops }) ks (with_pool code d slot t size w)))
        → Runs ask code (Kept k code w0) 5 7 s0 c (arrives e d place ks ops) (opens (last_of d) slot size c l w)
    unfolding birth_of owner_of opened_outcome
    opens_runs slot size e s w0 d place ks ops c l w s0 le fits sees declarable first = by (is_made_at_once (parts_of code t) (begun_of code t)) refl first
      where
        n : ℕ
        n = w.ledger.next_object

        m : ℕ
        m = last_of d

        p : Point
        p = record { display = d; place = place; operands = ops }

        next : Result Done → Log → World → State
        next = arrives e d place ks ops

        w1 : World
        w1 = with_pool code d slot t size w

        fits1 : Since k code w0 w1
        fits1 = opened_fits slot size s w0 d w declarable fits sees

        -- its defaults are evaluated where it is declared
        among : IsBornAmong (birth_of (Declared m) w) (home_of (opened_around slot size s w0 d w declarable fits sees).0.origin w1) (Creating ByPoolDeclaration n t p ∷ ks) w1
        among =
            let old : last_of d < w1.ledger.next_master = omega (arith, sees.old, fits1.1.later) in
            declared_among code ByPoolDeclaration n t p ks _ w w1 (opened_around slot size s w0 d w declarable fits sees) (opened_there slot size w0 d w fits) (D.new_origin n (Record t) (replicate (size_of code t) 0) (Declared m)) (fits.1.homes (last_of d) sees.old ∙ sees.home) old (fits1.1.homes (last_of d) sees.old ∙ sees.home)

        -- where something is executed for its creation
        creates : step ask code s0 ≡ moved l (Table.begin_part code (new_part (whole_spot n) t (OwnerOf.Master m)) (Creating ByPoolDeclaration n t p ∷ ks) w1) → Runs ask code (Kept k code w0) 5 7 s0 c next (bind (begins n m w c l w1) (stands n m))
        creates go =
            let mid = Creating ByPoolDeclaration n t p ∷ ks in
            let s1 = gives (Filling (new_part (whole_spot n) t (OwnerOf.Master m)) (begun_of code t) (begun_of code t) ∷ mid) (Fine Complete) l w1 in
            one_step ask code (Kept k code w0) 4 6 5 7 s0 s1 c c next (bind (begins n m w c l w1) (stands n m)) (omega arith) (omega arith) (omega arith) (omega arith) go
            (both ask code (Told k code w1) (Kept k code w0) 3 3 1 3 4 6 s1 c (returns mid) next (begins n m w c l w1) (stands n m) (omega arith) (omega arith) (omega arith)
            (parts_run ask k code setting call default defaults bound calls (suc (length k.records)) t (let within = slice_get_within k.records t r record_is in omega (arith, within)) (r, record_is, plain) (whole_spot n) (OwnerOf.Master m) (birth_of (Declared m) w) refl w1 fits1.0 (opened_around slot size s w0 d w declarable fits sees) mid among c l w1 le (fits1.0, keeps_itself k code w1))
            (λ x c1 l1 w2 lo told1. stands_runs w0 w1 n e p ks fits1 x c1 l1 w2 told1))

        by : (once : Bool) → is_made_at_once (parts_of code t) (begun_of code t) ≡ once
            → step ask code s0 ≡ moved l (if once then come_to_life ByPoolDeclaration n (object_at n w1) p ks w1 else Table.begin_part code (new_part (whole_spot n) t (OwnerOf.Master m)) (Creating ByPoolDeclaration n t p ∷ ks) w1)
            → Runs ask code (Kept k code w0) 5 7 s0 c next (bind (begins n m w c l w1) (stands n m))
        by true is go =
            subst (λ o. Runs ask code (Kept k code w0) 5 7 s0 c next (bind o (stands n m))) (sym (at_once_is ask k code setting call default defaults bound calls (length k.records) (birth_of (Declared m) w) (whole_spot n) t c l w1 (r, record_is, plain) is))
            (added ask code (Kept k code w0) 0 1 3 5 7 s0 c next (stands n m (Goes tt) c l w1) (omega arith) (omega arith) (lives_on w0 n e p ks s0 c l w1 fits1 go))
        by false is go = creates go

    -- over its discriminants; bad ones take no number
    sized_runs : (slot : ℕ) (order : DiscriminantOrder) (a b : ℕ) (e : Target) (s : List Kind) (w0 : World) (d : List ℕ) (place : ℕ) (ks : List Frame) (ops : List Word) (c : ℕ) (l : Log) (w : World) → c ≤ bound → Since k code w0 w → Sees d s w0 → Laid code place ((InstrOf.DeclarePool slot t order (height s), with_discriminants s) ∷ [])
        → Runs ask code (Kept k code w0) 5 7 (at d place ks (Scalar b ∷ Scalar a ∷ ops) l w) c (arrives e d (place + 1) ks ops) (declare_pool K (last_of d) slot t (pool_size order a b) c l w)
    unfolding opened_outcome
    sized_runs slot order a b e s w0 d place ks ops c l w le fits sees has =
        subst (Runs ask code (Kept k code w0) 5 7 s0 c (arrives e d (place + 1) ks ops)) (sym (declare_is (last_of d) slot size c l w))
        (by (good_discriminants RootOf.BlockPool size) (by_code ask code d place ks (Scalar b ∷ Scalar a ∷ ops) l w i has.0))
      where
        i : Instr
        i = InstrOf.DeclarePool slot t order (height s)

        size : ℕ × ℕ
        size = pool_size order a b

        s0 : State
        s0 = at d place ks (Scalar b ∷ Scalar a ∷ ops) l w

        declarable : IsDeclarable code (length d) t
        declarable = subst (λ x. IsDeclarable code x t) (sym sees.long) (setting.valid.each place (InstrOf.DeclarePool slot t order (height s)) (with_discriminants s) has.0 has.1).0

        by : (good : Bool)
            → (let n = w.ledger.next_object in step ask code s0 ≡ moved l (if good then Table.create_object code ByPoolDeclaration (new_part (whole_spot n) t (OwnerOf.Master (last_of d))) (record { display = d; place = place + 1; operands = ops }) ks (with_pool code d slot t size w) else Table.transfers (ByRaise constraint_error) ks w))
            → Runs ask code (Kept k code w0) 5 7 s0 c (arrives e d (place + 1) ks ops) (either good (opens (last_of d) slot size) (raise constraint_error) c l w)
        by true go = opens_runs slot size e s w0 d (place + 1) ks ops c l w s0 le fits sees declarable go
        by false go = last_step ask code (Kept k code w0) 5 7 s0 c 0 (arrives e d (place + 1) ks ops) (Leaves (ByRaise constraint_error)) l w (omega arith) fits go

    -- both discriminants, and then the declaration
    pub pool_does : (slot i j : ℕ) (order : DiscriminantOrder) (first second : ValueCode) (first_of second_of : Valued) → order_of i j ≡ Some order → ((w0 : World) → Value ask k code bound w0 first (first_of K)) → ((w0 : World) → Value ask k code bound w0 second (second_of K))
        → Does ask k code bound (λ a. pool_code slot t order first second a.stack) (λ d caught. pool slot t ((i, first_of) ∷ (j, second_of) ∷ []) K d (last_of d))
    unfolding pool discriminants opened_outcome scalar_of opened_lists
    pool_does slot i j order first second first_of second_of ordered first_value second_value ar w0 d place ks ops c l w le fits sees has =
        subst (λ o. Runs ask code (Kept k code w0) 0 0 (at d place ks ops l w) c (arrives e d (place + length (pool_code slot t order first second s)) ks ops) (add 1 o)) (sym (two_are (first_of K d c l w) (second_of K d) (λ u v. set_both i j (scalar_of u) (scalar_of v)) declaring))
        (arriving ask code (Kept k code w0) 0 0 _ c _ _ _ (λ x l1 w1. ap (λ p. arrives e d p ks ops x l1 w1) far)
        (added ask code (Kept k code w0) 1 5 7 0 0 _ c (arrives e d (q + 1) ks ops) _ (omega arith) (omega arith)
        (both_cell ask code (Since k code w0) (λ x. Since k code w0) Any 0 0 5 7 5 7 _ c (landed Operand d (place + length is) ks ops) (arrives e d (q + 1) ks ops) (first_of K d c l w) _ (omega arith) (omega arith) (omega arith)
        (value_runs ask k code bound w0 first (first_of K) (first_value w0) (new_operand s) Count s d place ks ops c l w le fits (seen sees) (laid_front code place is js both_laid))
        (λ a c1 l1 w1 lo fits1 p1. both_cell ask code (Since k code w0) (λ x. Since k code w0) Any 0 0 5 7 5 7 (at d (place + length is) ks (Scalar a ∷ ops) l1 w1) c1 (landed Operand d q ks (Scalar a ∷ ops)) (arrives e d (q + 1) ks ops) (second_of K d c1 l1 w1) (on_goes (λ v. declaring (set_both i j a (scalar_of v)))) (omega arith) (omega arith) (omega arith)
        (value_runs ask k code bound w0 second (second_of K) (second_value w0) (new_operand (KindOf.Operand Count ∷ s)) Count (KindOf.Operand Count ∷ s) d (place + length is) ks (Scalar a ∷ ops) c1 l1 w1 (omega (arith, lo, le)) fits1 (seen sees) (laid_back code place is js both_laid))
        (λ b c2 l2 w2 lo2 fits2 p2.
        subst (λ size. Runs ask code (Kept k code w0) 5 7 (at d q ks (Scalar b ∷ Scalar a ∷ ops) l2 w2) c2 (arrives e d (q + 1) ks ops) (declaring size c2 l2 w2)) (sym (set_in_order i j order a b ordered))
        (sized_runs slot order a b e s w0 d q ks ops c2 l2 w2 (omega (arith, lo, lo2, le)) fits2 sees tail))
        (λ y c2 l2 w2 lo2 fits2. no_step ask code (Kept k code w0) 5 7 _ c2 0 (arrives e d (q + 1) ks ops) (Leaves (ByRaise y)) l2 w2 fits2 refl))
        (λ y c1 l1 w1 lo fits1. no_step ask code (Kept k code w0) 5 7 _ c1 0 (arrives e d (q + 1) ks ops) (Leaves (ByRaise y)) l1 w1 fits1 refl))))
      where
        s : List Kind
        s = ar.stack

        e : Target
        e = lands ar place

        declaring : ℕ × ℕ → Act Done
        declaring = declare_pool K (last_of d) slot t

        is : List Line
        is = first.code (new_operand ar.stack) Count ar.stack

        js : List Line
        js = second.code (new_operand (KindOf.Operand Count ∷ ar.stack)) Count (KindOf.Operand Count ∷ ar.stack)

        last : List Line
        last = (InstrOf.DeclarePool slot t order (height ar.stack), with_discriminants ar.stack) ∷ []

        q : ℕ
        q = place + length is + length js

        both_laid : Laid code place (is ++ js)
        both_laid = laid_front code place (is ++ js) last has

        tail : Laid code (place + length is + length js) ((InstrOf.DeclarePool slot t order (height ar.stack), with_discriminants ar.stack) ∷ [])
        tail =
            let e0 : place + length (is ++ js) ≡ place + length is + length js = omega (arith, length-append is js) in
            subst (λ p. Laid code p last) e0 (laid_back code place (is ++ js) last has)

        far : q + 1 ≡ place + length (pool_code slot t order first second ar.stack)
        far = omega (arith, length-append (is ++ js) last, length-append is js)
