-- Loops with a parameter (5.5): the bounds of the turns that are left are operands.
use Rattle.std.proofs.Common.{◌≡◌, ℕ, zero, suc, ◌+◌, ◌-◌, ◌<◌, ◌≤◌, ◌^◌, List, [], ◌∷◌, ◌++◌, length, Option, Some, None, Bool, true, false, refl, sym, ap, ◌∙◌, subst, arith, length-append}
use Rattle.std.specs.Prelude.{slice_get, if◌then◌else◌, nat_lt, ℤ, pos, negsuc, ◌+ℤ◌, ◌-ℤ◌, int_le, int_lt}
use Rattle.std.proofs.lemmas.Int.{ints}
use Rattle.std.proofs.lemmas.Bool.{lt-ltb, le-ltb, ltb-true, ltb-false}
use lib.Signed.{◌≤ℤ◌}
use Rattle.ctl_program.specs.declared.types.Var.{Var}
use Rattle.ctl_program.specs.declared.types.Ty.TheVariants.{Integer}
use Rattle.ctl_program.specs.declared.operators.Direction.{Direction}
use Rattle.ctl_program.specs.declared.operators.Direction.TheVariants.{Upward, Downward}
use Rattle.ctl_meaning.specs.World.{Log, World}
use Rattle.ctl_meaning.specs.Lists.{last_of, opened_lists}
use Rattle.ctl_meaning.specs.Activations.{master_of}
use Rattle.ctl_meaning.specs.Changes.{set_value}
use Rattle.ctl_meaning.specs.Choice.{Ask}
use Rattle.ctl_meaning.specs.Outcome.{ByRaise, Goes, Leaves, Act, Done, bind, on_goes, ◌>>◌, given, nothing, ticked, then_always, opened_outcome}
use Rattle.ctl_meaning.specs.Numbers.{signed, cell_of}
use Rattle.ctl_meaning.specs.Types.{Tables}
use Rattle.ctl_meaning.specs.Names.{scalar_of}
use Rattle.ctl_meaning.specs.Statements.{scalar, leaving, turned, one_turn, for_turns, count_up, for, set_loop}
use Rattle.ctl_code.specs.declared.code.Named.TheVariants.{Operand}
use Rattle.ctl_code.specs.declared.code.Instr.TheVariants as InstrOf
use Rattle.ctl_code.specs.declared.code.Code.{Code}
use Rattle.ctl_code.specs.declared.kinds.Kind.{Kind}
use Rattle.ctl_code.specs.declared.kinds.Kind.TheVariants as KindOf
use Rattle.ctl_code.specs.States.{Word, Scalar, Frame, State}
use Rattle.ctl_code.specs.Table.{caught_in, out_of, present, bounds_after, with_parameter, in_turn, ahead, on}
use Rattle.ctl_code.specs.Steps.{moved, step}
use Rattle.ctl_code.specs.Valid.{IsValid}
use Rattle.ctl_code.specs.Windows.{height, depth}
use Rattle.ctl_layout.specs.Around.{Line, Around, newest_at, newest_by, new_operand, out_to}
use Rattle.ctl_layout.specs.Values.{ValueCode}
use Rattle.ctl_layout.specs.Layout.{in_loop, with_bounds, bounds_code, turns_code, next_of}
use Rattle.ctl_gen.proofs.Place.{Laid, laid_front, laid_back}
use Rattle.ctl_gen.proofs.Worlds.{Since, Kept, since_value}
use Rattle.ctl_gen.proofs.Setting.{Sees, never_missing, seen}
use Rattle.ctl_gen.proofs.Cells.{Any, by_code, here, landed, out_is}
use Rattle.ctl_gen.proofs.Worth.{both_cell}
use Rattle.ctl_gen.proofs.Assign.{newest_is}
use Rattle.ctl_gen.proofs.Expressions.{Value, value_runs}
use Rattle.ctl_gen.proofs.Loops.{Lands, loop_ends, turn_runs}
use Rattle.ctl_gen.proofs.Does.{Does}
use Rattle.ctl_gen.proofs.Follow.{IsGoing, Runs, Target, On, at, arrives, added, within, last_step, no_step, arriving, left_behind, lands}

-- Numbers and their cells ---------------------------------------------------------------------------

abbrev IsWithin : ℤ → Type 0
IsWithin z = (negsuc 9223372036854775807 ≤ℤ z) × (z ≤ℤ pos 9223372036854775807)

signed_within : (n : ℕ) → IsWithin (signed n)
unfolding signed
signed_within n = by (nat_lt n (2 ^ 63)) refl
  where
    by : (b : Bool) → nat_lt n (2 ^ 63) ≡ b → IsWithin (if b then pos n else negsuc (2 ^ 64 - 1 - n))
    by true e = let lt = ltb-true n (2 ^ 63) e in (omega (arith, ints, lt), omega (arith, ints, lt))
    by false e = let le = ltb-false n (2 ^ 63) e in (omega (arith, ints, le), omega (arith, ints, le))

signed_cell : (z : ℤ) → IsWithin z → signed (cell_of z) ≡ z
unfolding signed cell_of
signed_cell (pos n) h =
    let lt : n < 2 ^ 63 = let g = h.1 in omega (arith, ints, g) in
    ap (λ b. if b then pos n else negsuc (2 ^ 64 - 1 - n)) (lt-ltb n (2 ^ 63) lt)
signed_cell (negsuc n) h =
    let lt : n < 2 ^ 63 = let g = h.0 in omega (arith, ints, g) in
    let le : 2 ^ 63 ≤ 2 ^ 64 - 1 - n = omega (arith, lt) in
    let back : 2 ^ 64 - 1 - (2 ^ 64 - 1 - n) ≡ n = omega (arith, lt) in
    ap (λ b. if b then pos (2 ^ 64 - 1 - n) else negsuc (2 ^ 64 - 1 - (2 ^ 64 - 1 - n))) (le-ltb (2 ^ 64 - 1 - n) (2 ^ 63) le) ∙ ap negsuc back

-- turns are left where the low bound is not above the high one
some_left : (a b : ℤ) (n : ℕ) → b -ℤ a ≡ pos n → int_le a b ≡ true
some_left a b n e = grind (arith, ints)

none_left : (a b : ℤ) (n : ℕ) → b -ℤ a ≡ negsuc n → int_le a b ≡ false
none_left a b n e = grind (arith, ints)

more_left : (a b : ℤ) (n : ℕ) → b -ℤ a ≡ pos (suc n) → int_lt a b ≡ true
more_left a b n e = grind (arith, ints)

last_left : (a b : ℤ) → b -ℤ a ≡ pos 0 → int_lt a b ≡ false
last_left a b e = grind (arith, ints)

-- the value of a turn, and the next one
abbrev value_at : Direction → ℕ → ℕ → ℤ
value_at Upward a b = signed a
value_at Downward a b = signed b

abbrev next_value : Direction → ℤ → ℤ
next_value Upward z = z +ℤ pos 1
next_value Downward z = z -ℤ pos 1

present_is : (way : Direction) (a b : ℕ) → present way a b ≡ cell_of (value_at way a b)
present_is Upward a b = refl
present_is Downward a b = refl

abbrev low_after : Direction → ℕ → ℕ → ℕ
low_after Upward a b = cell_of (signed a +ℤ pos 1)
low_after Downward a b = a

abbrev high_after : Direction → ℕ → ℕ → ℕ
high_after Upward a b = b
high_after Downward a b = cell_of (signed b -ℤ pos 1)

after_is : (way : Direction) (a b : ℕ) → bounds_after way a b ≡ high_after way a b ∷ low_after way a b ∷ []
after_is Upward a b = refl
after_is Downward a b = refl

up_within : (a b : ℤ) (n : ℕ) → IsWithin a → IsWithin b → b -ℤ a ≡ pos (suc n) → IsWithin (a +ℤ pos 1)
up_within a b n h g e = let x = h.0 in let y = g.1 in (omega (arith, ints, x, e), omega (arith, ints, y, e))

down_within : (a b : ℤ) (n : ℕ) → IsWithin a → IsWithin b → b -ℤ a ≡ pos (suc n) → IsWithin (b -ℤ pos 1)
down_within a b n h g e = let x = h.0 in let y = g.1 in (omega (arith, ints, x, e), omega (arith, ints, y, e))

value_after : (way : Direction) (a b n : ℕ) → signed b -ℤ signed a ≡ pos (suc n) → value_at way (low_after way a b) (high_after way a b) ≡ next_value way (value_at way a b)
value_after Upward a b n e = signed_cell (signed a +ℤ pos 1) (up_within (signed a) (signed b) n (signed_within a) (signed_within b) e)
value_after Downward a b n e = signed_cell (signed b -ℤ pos 1) (down_within (signed a) (signed b) n (signed_within a) (signed_within b) e)

one_fewer_up : (a b : ℤ) (n : ℕ) → b -ℤ a ≡ pos (suc n) → b -ℤ (a +ℤ pos 1) ≡ pos n
one_fewer_up a b n e = omega (arith, ints, e)

one_fewer_down : (a b : ℤ) (n : ℕ) → b -ℤ a ≡ pos (suc n) → (b -ℤ pos 1) -ℤ a ≡ pos n
one_fewer_down a b n e = omega (arith, ints, e)

one_fewer : (way : Direction) (a b n : ℕ) → signed b -ℤ signed a ≡ pos (suc n) → signed (high_after way a b) -ℤ signed (low_after way a b) ≡ pos n
one_fewer Upward a b n e = ap (λ z. signed b -ℤ z) (value_after Upward a b n e) ∙ one_fewer_up (signed a) (signed b) n e
one_fewer Downward a b n e = ap (λ z. z -ℤ signed a) (value_after Downward a b n e) ∙ one_fewer_down (signed a) (signed b) n e

for_is : (way : Direction) (body : ℤ → Act Done) (a b c : ℕ) (l : Log) (w : World) → for way body (signed a) (signed b) c l w ≡ for_turns (count_up (signed b -ℤ signed a)) (next_value way) body (value_at way a b) c l w
unfolding for
for_is Upward body a b c l w = refl
for_is Downward body a b c l w = refl

-- The turns -----------------------------------------------------------------------------------------

-- a parameter that has a cell is a variable of the newest master
is_newest : (s : List Kind) (v : Var) (d : List ℕ) (parameter : ℕ) → length d ≡ depth s → newest_at s v ≡ Some parameter → master_of d v ≡ last_of d
is_newest s v d parameter long known = by (out_to s v) (out_is d s v long) known
  where
    by : (n : ℕ) → out_of d n ≡ master_of d v → newest_by n s v ≡ Some parameter → master_of d v ≡ last_of d
    by zero same is = sym same ∙ newest_is d
    by (suc n) same is = absurd (cc is)

module _ (ask : Ask) (k : Tables) (code : Code) (valid : IsValid code) (bound : ℕ) where
  -- one of the turns, from the step that begins it, and what follows
  counted_turn : (x : Around → List Line) (act : List ℕ → ℕ → Act Done) → Does ask k code bound x act → (s : List Kind) (v : Var) (z : ℤ) (again : Act Done) (e : Target) (w0 : World) (d : List ℕ) (start place : ℕ) (ks : List Frame) (over ops : List Word) (c : ℕ) (l : Log) (w : World) (s0 : State) → c ≤ bound → Since k code w0 w → Sees d s w0 → Laid code start (x (in_loop (with_bounds s))) → Lands ask k code bound d (start - 1) ks over place ops → step ask code s0 ≡ at d start ks over l (set_value (master_of d v) v.slot (cell_of z) w) → IsGoing s0 → s0.log ≡ l → ((c1 : ℕ) (l1 : Log) (w2 : World) → c1 + 1 ≤ c → Since k code w0 w2 → Runs ask code (Kept k code w0) 4 4 (at d (start + length (x (in_loop (with_bounds s)))) ks over l1 w2) c1 (arrives e d place ks ops) (again c1 l1 w2)) → Runs ask code (Kept k code w0) 1 2 s0 c (arrives e d place ks ops) (bind (one_turn (set_loop d v z >> act d (caught_in ks)) c l w) (turned again))
  unfolding turned set_loop opened_outcome
  counted_turn x act does s v z again e w0 d start place ks over ops c l w s0 le fits sees has lands first going logged more =
      let b = x (in_loop (with_bounds s)) in
      let w1 = set_value (master_of d v) v.slot (cell_of z) w in
      let sees1 : Sees d (with_bounds s) w0 = record { old = sees.old; home = sees.home; long = sees.long; deep = sees.deep } in
      within ask code (Kept k code w0) 0 2 1 2 s0 c (arrives e d place ks ops) _ (omega arith) (omega arith)
      (turn_runs ask k code bound (set_loop d v z >> act d (caught_in ks)) (turned again) w0 (arrives (On (start - 1)) d (start + length b) ks over) (arrives e d place ks ops) s0 (at d start ks over l w1) c l w first going logged
      (λ c1 lo. added ask code (Kept k code w0) 0 0 0 0 0 (at d start ks over l w1) c1 (arrives (On (start - 1)) d (start + length b) ks over) (act d (caught_in ks) c1 l w1) (omega arith) (omega arith) (does (in_loop (with_bounds s)) w0 d start ks over c1 l w1 (omega (arith, lo, le)) (since_value k code (master_of d v) v.slot (cell_of z) w0 w fits) sees1 has))
      more
      (λ y c1 l1 w2 lo fits1. loop_ends ask k code bound e d (start - 1) (start + length b) place ks over ops w0 again lands y c1 l1 w2 fits1))

  -- the turns from one of them on, from the step that begins it
  counted_run : (x : Around → List Line) (act : List ℕ → ℕ → Act Done) → Does ask k code bound x act → (s : List Kind) (v : Var) (low parameter : ℕ) (way : Direction) (n a b : ℕ) (e : Target) (w0 : World) (d : List ℕ) (start place : ℕ) (ks : List Frame) (ops : List Word) (c : ℕ) (l : Log) (w : World) (s0 : State) → signed b -ℤ signed a ≡ pos n → master_of d v ≡ last_of d → c ≤ bound → Since k code w0 w → Sees d s w0 → Laid code start (x (in_loop (with_bounds s))) → slice_get code.instructions.items (start + length (x (in_loop (with_bounds s)))) ≡ Some (InstrOf.Next low v.slot parameter way (length (x (in_loop (with_bounds s))))) → start + length (x (in_loop (with_bounds s))) + 1 ≡ place → ((b1 a1 : ℕ) → Lands ask k code bound d (start - 1) ks (Scalar b1 ∷ Scalar a1 ∷ ops) place ops) → step ask code s0 ≡ at d start ks (Scalar b ∷ Scalar a ∷ ops) l (with_parameter d v.slot (present way a b) w) → IsGoing s0 → s0.log ≡ l → Runs ask code (Kept k code w0) 1 2 s0 c (arrives e d place ks ops) (for_turns (suc n) (next_value way) (λ z. set_loop d v z >> act d (caught_in ks)) (value_at way a b) c l w)
  unfolding for_turns then_always nothing given
  counted_run x act does s v low parameter way zero a b e w0 d start place ks ops c l w s0 left newest le fits sees has next far lands first going logged =
      counted_turn x act does s v (value_at way a b) nothing e w0 d start place ks (Scalar b ∷ Scalar a ∷ ops) ops c l w s0 le fits sees has (lands b a) (first ∙ ap (at d start ks (Scalar b ∷ Scalar a ∷ ops) l) (parameter_is a b w)) going logged
      (λ c1 l1 w2 lo fits1. last_step ask code (Kept k code w0) 4 4 (at d (start + length (x (in_loop (with_bounds s)))) ks (Scalar b ∷ Scalar a ∷ ops) l1 w2) c1 0 (arrives e d place ks ops) (Goes tt) l1 w2 (omega arith) fits1
      (by_code ask code d (start + length (x (in_loop (with_bounds s)))) ks (Scalar b ∷ Scalar a ∷ ops) l1 w2 (InstrOf.Next low v.slot parameter way (length (x (in_loop (with_bounds s))))) next
      ∙ ap (λ t. moved l1 (if t then in_turn way v.slot (bounds_after way a b) (start + length (x (in_loop (with_bounds s))) - length (x (in_loop (with_bounds s)))) ops (here d (start + length (x (in_loop (with_bounds s)))) ks w2) else on ops w2 (here d (start + length (x (in_loop (with_bounds s)))) ks w2))) (last_left (signed a) (signed b) left)
      ∙ ap (λ p. at d p ks ops l1 w2) far))
    where
      parameter_is : (a1 b1 : ℕ) (w1 : World) → with_parameter d v.slot (present way a1 b1) w1 ≡ set_value (master_of d v) v.slot (cell_of (value_at way a1 b1)) w1
      parameter_is a1 b1 w1 = ap (λ m. with_parameter d v.slot m w1) (present_is way a1 b1) ∙ ap (λ m. set_value m v.slot (cell_of (value_at way a1 b1)) w1) (sym newest)
  counted_run x act does s v low parameter way (suc n) a b e w0 d start place ks ops c l w s0 left newest le fits sees has next far lands first going logged =
      counted_turn x act does s v (value_at way a b) (for_turns (suc n) (next_value way) (λ z. set_loop d v z >> act d (caught_in ks)) (next_value way (value_at way a b))) e w0 d start place ks (Scalar b ∷ Scalar a ∷ ops) ops c l w s0 le fits sees has (lands b a) (first ∙ ap (at d start ks (Scalar b ∷ Scalar a ∷ ops) l) (parameter_is a b w)) going logged
      (λ c1 l1 w2 lo fits1. within ask code (Kept k code w0) 1 2 4 4 (at d q ks (Scalar b ∷ Scalar a ∷ ops) l1 w2) c1 (arrives e d place ks ops) (for_turns (suc n) (next_value way) (λ z. set_loop d v z >> act d (caught_in ks)) (next_value way (value_at way a b)) c1 l1 w2) (omega arith) (omega arith)
      (subst (λ z1. Runs ask code (Kept k code w0) 1 2 (at d q ks (Scalar b ∷ Scalar a ∷ ops) l1 w2) c1 (arrives e d place ks ops) (for_turns (suc n) (next_value way) (λ z. set_loop d v z >> act d (caught_in ks)) z1 c1 l1 w2)) (value_after way a b n left)
      (counted_run x act does s v low parameter way n (low_after way a b) (high_after way a b) e w0 d start place ks ops c1 l1 w2 (at d q ks (Scalar b ∷ Scalar a ∷ ops) l1 w2) (one_fewer way a b n left) newest (omega (arith, lo, le)) fits1 sees has next far lands (back l1 w2) tt refl)))
    where
      size : ℕ
      size = length (x (in_loop (with_bounds s)))

      q : ℕ
      q = start + length (x (in_loop (with_bounds s)))

      parameter_is : (a1 b1 : ℕ) (w1 : World) → with_parameter d v.slot (present way a1 b1) w1 ≡ set_value (master_of d v) v.slot (cell_of (value_at way a1 b1)) w1
      parameter_is a1 b1 w1 = ap (λ m. with_parameter d v.slot m w1) (present_is way a1 b1) ∙ ap (λ m. set_value m v.slot (cell_of (value_at way a1 b1)) w1) (sym newest)

      back : (l1 : Log) (w2 : World) → step ask code (at d (start + length (x (in_loop (with_bounds s)))) ks (Scalar b ∷ Scalar a ∷ ops) l1 w2) ≡ at d start ks (Scalar (high_after way a b) ∷ Scalar (low_after way a b) ∷ ops) l1 (with_parameter d v.slot (present way (low_after way a b) (high_after way a b)) w2)
      back l1 w2 =
          let e1 : q - size ≡ start = omega arith in
          by_code ask code d q ks (Scalar b ∷ Scalar a ∷ ops) l1 w2 (InstrOf.Next low v.slot parameter way size) next
          ∙ ap (λ t. moved l1 (if t then in_turn way v.slot (bounds_after way a b) (q - size) ops (here d q ks w2) else on ops w2 (here d q ks w2))) (more_left (signed a) (signed b) n left)
          ∙ ap (λ os. moved l1 (in_turn way v.slot os (q - size) ops (here d q ks w2))) (after_is way a b)
          ∙ ap (λ p. at d p ks (Scalar (high_after way a b) ∷ Scalar (low_after way a b) ∷ ops) l1 (with_parameter d v.slot (present way (low_after way a b) (high_after way a b)) w2)) e1

  -- all the turns, from the instruction that looks at the bounds
  ranged : (x : Around → List Line) (act : List ℕ → ℕ → Act Done) → Does ask k code bound x act → (s : List Kind) (v : Var) (way : Direction) (o : Option ℕ) (a b : ℕ) (e : Target) (w0 : World) (d : List ℕ) (q : ℕ) (ks : List Frame) (ops : List Word) (c : ℕ) (l : Log) (w : World) → newest_at s v ≡ o → c ≤ bound → Since k code w0 w → Sees d s w0 → Laid code q (turns_code o v way (x (in_loop (with_bounds s))) s) → Runs ask code (Kept k code w0) 1 2 (at d q ks (Scalar b ∷ Scalar a ∷ ops) l w) c (arrives e d (q + 1 + (length (x (in_loop (with_bounds s))) + 2)) ks ops) (for way (λ z. set_loop d v z >> act d (caught_in ks)) (signed a) (signed b) c l w)
  unfolding count_up for_turns nothing given
  ranged x act does s v way None a b e w0 d q ks ops c l w known le fits sees has = absurd (never_missing code valid q (with_bounds s) has.0 has.1)
  ranged x act does s v way (Some parameter) a b e w0 d q ks ops c l w known le fits sees has =
      subst (λ y. Runs ask code (Kept k code w0) 1 2 (at d q ks (Scalar b ∷ Scalar a ∷ ops) l w) c (arrives e d (q + 1 + (length turn + 2)) ks ops) y) (sym (for_is way (λ z. set_loop d v z >> act d (caught_in ks)) a b c l w))
      (by (signed b -ℤ signed a) refl)
    where
      turn : List Line
      turn = x (in_loop (with_bounds s))

      place : ℕ
      place = q + 1 + (length (x (in_loop (with_bounds s))) + 2)

      first : step ask code (at d q ks (Scalar b ∷ Scalar a ∷ ops) l w) ≡ moved l (if int_le (signed a) (signed b) then in_turn way v.slot (b ∷ a ∷ []) (q + 2) ops (here d q ks w) else ahead (length (x (in_loop (with_bounds s))) + 2) ops w (here d q ks w))
      first = by_code ask code d q ks (Scalar b ∷ Scalar a ∷ ops) l w (InstrOf.For (height s) v.slot parameter way (length (x (in_loop (with_bounds s))) + 2)) has.0

      newest : master_of d v ≡ last_of d
      newest = is_newest s v d parameter sees.long known

      lands : (b1 a1 : ℕ) → Lands ask k code bound d (q + 2 - 1) ks (Scalar b1 ∷ Scalar a1 ∷ ops) place ops
      lands b1 a1 l1 w1 =
          let e0 : q + 1 ≡ q + 2 - 1 = omega arith in
          let e1 : q + 1 + 1 + (length turn + 1) ≡ place = omega arith in
          subst (λ p. step ask code (at d p ks (Scalar b1 ∷ Scalar a1 ∷ ops) l1 w1) ≡ at d place ks ops l1 w1) e0
          (by_code ask code d (q + 1) ks (Scalar b1 ∷ Scalar a1 ∷ ops) l1 w1 (InstrOf.Abandon (length turn + 1)) has.2.0 ∙ ap (λ p. at d p ks ops l1 w1) e1)

      body : Laid code (q + 2) (turn ++ (next_of (Some parameter) (height s) v way (length turn), with_bounds s) ∷ [])
      body = let e0 : q + 1 + 1 ≡ q + 2 = omega arith in subst (λ p. Laid code p (turn ++ (next_of (Some parameter) (height s) v way (length turn), with_bounds s) ∷ [])) e0 has.2.2

      by : (size : ℤ) → signed b -ℤ signed a ≡ size → Runs ask code (Kept k code w0) 1 2 (at d q ks (Scalar b ∷ Scalar a ∷ ops) l w) c (arrives e d (q + 1 + (length (x (in_loop (with_bounds s))) + 2)) ks ops) (for_turns (count_up size) (next_value way) (λ z. set_loop d v z >> act d (caught_in ks)) (value_at way a b) c l w)
      by (negsuc n) is =
          last_step ask code (Kept k code w0) 1 2 (at d q ks (Scalar b ∷ Scalar a ∷ ops) l w) c 0 (arrives e d place ks ops) (Goes tt) l w (omega arith) fits
          (first ∙ ap (λ t. moved l (if t then in_turn way v.slot (b ∷ a ∷ []) (q + 2) ops (here d q ks w) else ahead (length turn + 2) ops w (here d q ks w))) (none_left (signed a) (signed b) n is))
      by (pos n) is =
          let e0 : suc n ≡ n + 1 = omega arith in
          let far : q + 2 + length turn + 1 ≡ place = omega arith in
          subst (λ m. Runs ask code (Kept k code w0) 1 2 (at d q ks (Scalar b ∷ Scalar a ∷ ops) l w) c (arrives e d place ks ops) (for_turns m (next_value way) (λ z. set_loop d v z >> act d (caught_in ks)) (value_at way a b) c l w)) e0
          (counted_run x act does s v (height s) parameter way n a b e w0 d (q + 2) place ks ops c l w (at d q ks (Scalar b ∷ Scalar a ∷ ops) l w) is newest le fits sees (laid_front code (q + 2) turn ((next_of (Some parameter) (height s) v way (length turn), with_bounds s) ∷ []) body) (laid_back code (q + 2) turn ((next_of (Some parameter) (height s) v way (length turn), with_bounds s) ∷ []) body).0 far lands
          (first ∙ ap (λ t. moved l (if t then in_turn way v.slot (b ∷ a ∷ []) (q + 2) ops (here d q ks w) else ahead (length turn + 2) ops w (here d q ks w))) (some_left (signed a) (signed b) n is)) tt refl)

  pub for_runs : (v : Var) (way : Direction) (low high : ValueCode) (low_of high_of : List ℕ → Act (List ℕ)) → ((w0 : World) → Value ask k code bound w0 low low_of) → ((w0 : World) → Value ask k code bound w0 high high_of) → (x : Around → List Line) (act : List ℕ → ℕ → Act Done) → Does ask k code bound x act → Does ask k code bound (λ a. bounds_code low high a.stack ++ turns_code (newest_at a.stack v) v way (x (in_loop (with_bounds a.stack))) a.stack) (λ d caught. ticked (leaving (scalar (low_of d) (λ a. scalar (high_of d) (λ b. for way (λ z. set_loop d v z >> act d caught) (signed a) (signed b))))))
  unfolding leaving scalar opened_outcome scalar_of opened_lists
  for_runs v way low high low_of high_of low_value high_value x act does ar w0 d place ks ops c l w le fits sees has =
      arriving ask code (Kept k code w0) 0 0 _ c _ _ _ (λ r l1 w1. ap (λ p. arrives e d p ks ops r l1 w1) far)
      (added ask code (Kept k code w0) 1 1 2 0 0 _ c _ _ (omega arith) (omega arith)
      (left_behind ask code (Kept k code w0) 1 2 1 2 _ c (arrives e d end ks ops) _ (omega arith) (omega arith)
      (both_cell ask code (Since k code w0) (λ r. Since k code w0) Any 0 0 1 2 1 2 _ c (landed Operand d (place + length is) ks ops) (arrives e d end ks ops) (low_of d c l w) _ (omega arith) (omega arith) (omega arith)
      (value_runs ask k code bound w0 low low_of (low_value w0) (new_operand s) Integer s d place ks ops c l w le fits (seen sees) (laid_front code place is js bounds))
      (λ a c1 l1 w1 lo fits1 p1. both_cell ask code (Since k code w0) (λ r. Since k code w0) Any 0 0 1 2 1 2 (at d (place + length is) ks (Scalar a ∷ ops) l1 w1) c1 (landed Operand d q ks (Scalar a ∷ ops)) (arrives e d end ks ops) (high_of d c1 l1 w1) (on_goes (λ u. for way (λ z. set_loop d v z >> act d (caught_in ks)) (signed a) (signed (scalar_of u)))) (omega arith) (omega arith) (omega arith)
      (value_runs ask k code bound w0 high high_of (high_value w0) (new_operand (KindOf.Operand Integer ∷ s)) Integer (KindOf.Operand Integer ∷ s) d (place + length is) ks (Scalar a ∷ ops) c1 l1 w1 (omega (arith, lo, le)) fits1 (seen sees) (laid_back code place is js bounds))
      (λ b c2 l2 w2 lo2 fits2 p2. ranged x act does s v way (newest_at s v) a b e w0 d q ks ops c2 l2 w2 refl (omega (arith, lo, lo2, le)) fits2 sees tail)
      (λ y c2 l2 w2 lo2 fits2. no_step ask code (Kept k code w0) 1 2 _ c2 0 (arrives e d end ks ops) (Leaves (ByRaise y)) l2 w2 fits2 refl))
      (λ y c1 l1 w1 lo fits1. no_step ask code (Kept k code w0) 1 2 _ c1 0 (arrives e d end ks ops) (Leaves (ByRaise y)) l1 w1 fits1 refl))))
    where
      s : List Kind
      s = ar.stack

      e : Target
      e = lands ar place

      is : List Line
      is = low.code (new_operand ar.stack) Integer ar.stack

      js : List Line
      js = high.code (new_operand (KindOf.Operand Integer ∷ ar.stack)) Integer (KindOf.Operand Integer ∷ ar.stack)

      turn : List Line
      turn = x (in_loop (with_bounds ar.stack))

      q : ℕ
      q = place + length is + length js

      end : ℕ
      end = q + 1 + (length turn + 2)

      all_turns : List Line
      all_turns = turns_code (newest_at ar.stack v) v way (x (in_loop (with_bounds ar.stack))) ar.stack

      bounds : Laid code place (is ++ js)
      bounds = laid_front code place (is ++ js) all_turns has

      tail : Laid code (place + length is + length js) (turns_code (newest_at ar.stack v) v way (x (in_loop (with_bounds ar.stack))) ar.stack)
      tail =
          let e0 : place + length (is ++ js) ≡ place + length is + length js = omega (arith, length-append is js) in
          subst (λ p. Laid code p all_turns) e0 (laid_back code place (is ++ js) all_turns has)

      far : q + 1 + (length turn + 2) ≡ place + length (bounds_code low high ar.stack ++ turns_code (newest_at ar.stack v) v way (x (in_loop (with_bounds ar.stack))) ar.stack)
      far = omega (arith, length-append (is ++ js) all_turns, length-append is js, length-append turn ((next_of (newest_at ar.stack v) (height ar.stack) v way (length turn), with_bounds ar.stack) ∷ []))
