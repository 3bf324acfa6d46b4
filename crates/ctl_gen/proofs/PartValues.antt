-- The value of a part of a record type, or of a function that gives one: its code finds the part, or evaluates the value, and what takes the
-- value follows, where the part's object is still there (3.3.1, 4.8, 6.5).
use Rattle.std.proofs.Common.{◌≡◌, ℕ, ◌+◌, ◌≤◌, List, [], ◌∷◌, ◌++◌, length, Option, Some, None, Bool, true, refl, sym, ap, ◌∙◌, subst, append-nil, arith}
use Rattle.ctl_program.specs.declared.types.Ty.TheVariants.{Record}
use Rattle.ctl_program.specs.declared.types.RecordType.{RecordType}
use Rattle.ctl_tree.specs.declared.ending.Stop.TheVariants.{UseAfterFree}
use Rattle.ctl_meaning.specs.World.{Object as ObjectOf, Log, World}
use Rattle.ctl_meaning.specs.Objects.{cells_at, first_cells}
use Rattle.ctl_meaning.specs.Changes.{object_at}
use Rattle.ctl_meaning.specs.Choice.{Ask}
use Rattle.ctl_meaning.specs.Outcome.{ByRaise, Result, Goes, Leaves, Out, Gives, Stops, Cut, Act, add, bind, on_goes, done, on_some, opened_outcome}
use Rattle.ctl_meaning.specs.Types.{Tables, cells_of}
use Rattle.ctl_meaning.specs.Names.{Found, Call, Default, Tools, gone, existing, read_found, read_part}
use Rattle.ctl_meaning.specs.Expressions.{Valued}
use Rattle.ctl_code.specs.declared.code.Code.{Code}
use Rattle.ctl_code.specs.declared.kinds.Kind.{Kind}
use Rattle.ctl_code.specs.States.{Word, Cells, Frame, State}
use Rattle.ctl_code.specs.Table.{size_of}
use Rattle.ctl_layout.specs.Around.{Line}
use Rattle.ctl_layout.specs.Parts.{OfVariable, OfValue, OfRecord, Reached, Variable, Part, Object, Result as ResultOf, are_followed, part_code, part_runs}
use Rattle.ctl_gen.proofs.Known.{IsPlainType}
use Rattle.ctl_gen.proofs.Sources.{Reads, read_by}
use Rattle.ctl_gen.proofs.Parts.{OfCells, OfObject, RecordOperand, agree_part, find_by, found_at, word}
use Rattle.ctl_gen.proofs.Begun.{Starts, part_then, record_taken}
use Rattle.ctl_emitter.proofs.Walked.{start_of, steps_before, steps_of}
use Rattle.ctl_gen.proofs.Worlds.{Since}
use Rattle.ctl_gen.proofs.Setting.{IsSeen, Setting, tools_with}
use Rattle.ctl_gen.proofs.Place.{Laid, laid_front}
use Rattle.ctl_gen.proofs.Follow.{RunsTo, added_to, at, bind_add, bind_bind, transferred}

-- a value that is given goes to what takes one or none
pub given_is : {B : Type 0} (o : Out (List ℕ)) (g : Option (List ℕ) → Act B) → bind (bind o (on_goes (λ v. done (Some v)))) (on_goes g) ≡ bind o (on_goes (λ v. g (Some v)))
unfolding opened_outcome
given_is (Gives (Goes v) n c l w) g = let e : n + 0 ≡ n = omega arith in ap (λ i. add i (g (Some v) c l w)) e
given_is (Gives (Leaves y) n c l w) g = let e : n + 0 + 0 ≡ n + 0 = omega arith in ap (λ i. Gives (Leaves y) i c l w) e
given_is (Stops why n l) g = refl
given_is (Cut n c l) g = refl

module _ (ask : Ask) (k : Tables) (code : Code) (setting : Setting k code) (call : Call) (default : Default) (t : ℕ) (plain : IsPlainType k (Record t)) {B : Type 0} (takes : List ℕ → Act B) where
  abbrev K : Tools
  K = tools_with ask k call default

  -- what takes the value of a part of an object, which is there or not
  abbrev pub taken_from : ℕ → Option ObjectOf → Act B
  taken_from offset None c l w = Stops UseAfterFree 0 l
  taken_from offset (Some o) c l w = takes (cells_at offset (size_of code t) o) c l w

  -- what was found is read
  abbrev reading : Result Found → Act (List ℕ)
  reading = on_goes (read_found (cells_of k (Record t)))

  abbrev found_then : Result Found → Act B
  found_then r c l w = bind (reading r c l w) (on_goes takes)

  found_is : (o : Out Found) → bind (add 1 (bind o reading)) (on_goes takes) ≡ add 1 (bind o found_then)
  found_is o = bind_add 1 (bind o reading) (on_goes takes) ∙ ap (add 1) (bind_bind o reading (on_goes takes))

  read_at : (offset c : ℕ) (l : Log) (w : World) (y : Option ObjectOf) → bind (on_some y gone (λ o. done (cells_at offset (cells_of k (Record t)) o)) c l w) (on_goes takes) ≡ add 0 (taken_from offset y c l w)
  unfolding gone opened_outcome
  read_at offset c l w None = refl
  read_at offset c l w (Some o) = ap (λ i. add 0 (takes (cells_at offset i o) c l w)) (sym (setting.sizes t plain.2.laid.is))

  -- and that of what was found, which may be a value alone
  abbrev pub taken : RecordOperand → Act B
  taken (OfObject q) c l w = taken_from q.offset (object_at q.object w) c l w
  taken (OfCells v) c l w = takes (first_cells (size_of code t) v) c l w

  object_is : (q : RecordOperand) (c : ℕ) (l : Log) (w : World) → found_then (Goes (found_at q)) c l w ≡ add 0 (taken q c l w)
  unfolding read_found read_part existing opened_outcome
  object_is (OfObject q) c l w = read_at q.offset c l w (object_at q.object w)
  object_is (OfCells v) c l w = ap (λ i. add 0 (takes (first_cells i v) c l w)) (sym (setting.sizes t plain.2.laid.is))

  module _ (bound : ℕ) (w0 : World) (Ends : Result B → World → Type 0) (next : Result B → Log → World → State) (b h : ℕ) (lb : b ≤ 48) (lh : h ≤ 48) (s : List Kind) (d : List ℕ) (place : ℕ) (ks : List Frame) (ops : List Word) (c : ℕ) (l : Log) (w : World) where
    -- what follows the value behind its lines, and where that leaves
    abbrev Follows : ℕ → Type 0
    Follows end = (q : RecordOperand) (c1 : ℕ) (l1 : Log) (w1 : World) → c1 ≤ c → Since k code w0 w1 → RunsTo ask code Ends b h (at d end ks (word q ∷ ops) l1 w1) c1 next (taken q c1 l1 w1)

    abbrev Left : Type 0
    Left = (y c1 : ℕ) (l1 : Log) (w1 : World) → c1 ≤ c → Since k code w0 w1 → RunsTo ask code Ends b h (transferred (ByRaise y) ks l1 w1) c1 next (Gives (Leaves (ByRaise y)) 0 c1 l1 w1)

    abbrev Comes : Valued → Type 0
    Comes m = RunsTo ask code Ends 0 0 (at d place ks ops l w) c next (bind (m K d c l w) (on_goes takes))

    -- a part is found, and its value is read
    found_value : (m : Valued) (x : Reached) (act : List ℕ → Act (List ℕ)) → Starts ask k code bound w0 (start_of x) act → are_followed (start_of x) (steps_before x) ≡ true → m K ≡ read_by K (Record t) (find_by K act (steps_of x) (start_of x)) → part_runs x k.records ≡ true → c ≤ bound → Since k code w0 w → IsSeen w0 d s → Laid code place (part_code x t s) → Follows (place + length (part_code x t s)) → Left → Comes m
    unfolding opened_outcome
    found_value m x act begun walked reads runs le fits long has then left =
        let o = find_by K act (steps_of x) (start_of x) d c l w in
        let s0 = at d place ks ops l w in
        subst (RunsTo ask code Ends 0 0 s0 c next) (sym (ap (λ (f : List ℕ → Act (List ℕ)). bind (f d c l w) (on_goes takes)) reads ∙ found_is o))
        (added_to ask code Ends 1 b h 0 0 s0 c next (bind o found_then) (omega (arith, lb)) (omega (arith, lh))
        (part_then ask k code bound w0 call default Ends next found_then d ks ops b h x act begun t s place c l w walked (agree_part k code setting.places x runs) le fits long has
        (λ c1 l1 w1 lo fits1 q. subst (RunsTo ask code Ends b h _ c1 next) (sym (object_is q c1 l1 w1)) (added_to ask code Ends 0 b h b h _ c1 next (taken q c1 l1 w1) (omega arith) (omega arith) (then q c1 l1 w1 lo fits1)))
        left))

    -- the value of a function
    given_value : (m : Valued) (u : ℕ) (runs : List RecordType → Bool) (lines : List Kind → List Line) (act : List ℕ → Act (List ℕ)) → Starts ask k code bound w0 (OfRecord u runs lines) act → u ≡ t → m K ≡ act → c ≤ bound → Since k code w0 w → IsSeen w0 d s → Laid code place (part_code (ResultOf (OfRecord u runs lines)) t s) → Follows (place + length (part_code (ResultOf (OfRecord u runs lines)) t s)) → Left → Comes m
    unfolding opened_outcome
    given_value m u runs lines act begun same reads le fits long has then left =
        let end : place + length (lines s ++ []) ≡ place + length (lines s) = ap (λ xs. place + length xs) (append-nil (lines s)) in
        subst (λ (f : List ℕ → Act (List ℕ)). RunsTo ask code Ends 0 0 (at d place ks ops l w) c next (bind (f d c l w) (on_goes takes))) (sym reads)
        (record_taken ask k code bound w0 Ends next (on_goes takes) d ks ops b h lb lh u runs lines act begun s place c l w le fits long (laid_front code place (lines s) [] has)
        (λ v c1 l1 w1 lo fits1 whole.
        let cut : first_cells (size_of code t) v ≡ v = subst (λ n. first_cells (size_of code n) v ≡ v) same whole in
        subst (λ n. RunsTo ask code Ends b h (at d n ks (Cells v ∷ ops) l1 w1) c1 next (takes v c1 l1 w1)) end
        (subst (λ x. RunsTo ask code Ends b h (at d (place + length (lines s ++ [])) ks (Cells v ∷ ops) l1 w1) c1 next (takes x c1 l1 w1)) cut (then (OfCells v) c1 l1 w1 lo fits1)))
        left)

    -- from the first instruction of what finds the part, or evaluates the value, to what takes it
    pub value_then : (m : Valued) (x : Reached) → Reads ask k code call default bound w0 t x m → part_runs x k.records ≡ true → c ≤ bound → Since k code w0 w → IsSeen w0 d s → Laid code place (part_code x t s) → Follows (place + length (part_code x t s)) → Left → Comes m
    value_then m (Variable v) known runs le fits long has then left = found_value m (Variable v) known.given known.begun known.walked known.reads runs le fits long has then left
    value_then m (Part start steps u position) known runs le fits long has then left = found_value m (Part start steps u position) known.given known.begun known.walked known.reads runs le fits long has then left
    value_then m (Object start steps) known runs le fits long has then left = found_value m (Object start steps) known.given known.begun known.walked known.reads runs le fits long has then left
    value_then m (ResultOf (OfVariable v)) known runs le fits long has then left = absurd known.reads
    value_then m (ResultOf (OfValue form lines)) known runs le fits long has then left = absurd known.reads
    value_then m (ResultOf (OfRecord u form lines)) known runs le fits long has then left = given_value m u form lines known.given known.begun known.reads.0 known.reads.1 le fits long has then left
