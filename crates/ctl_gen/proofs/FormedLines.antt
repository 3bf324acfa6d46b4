-- Lines of loops, conditions and arms are well formed where their parts are.
use Rattle.std.proofs.Common.{◌≡◌, ℕ, ◌+◌, ◌-◌, ◌≤◌, List, [], ◌∷◌, ◌++◌, length, Some, None, refl, arith}
use Rattle.ctl_program.specs.declared.types.Ty.TheVariants.{Boolean}
use Rattle.ctl_program.specs.declared.types.Var.{Var}
use Rattle.ctl_program.specs.declared.operators.Direction.{Direction}
use Rattle.ctl_code.specs.declared.kinds.Kind.{Kind}
use Rattle.ctl_code.specs.declared.kinds.Kind.TheVariants.{Block}
use Rattle.ctl_code.specs.declared.code.Instr.{Instr}
use Rattle.ctl_code.specs.declared.code.Instr.TheVariants as InstrOf
use Rattle.ctl_code.specs.declared.code.Code.{Code}
use Rattle.ctl_code.specs.Windows.{height, variable_at}
use Rattle.ctl_code.specs.Valid.{IsFine, Leads}
use Rattle.ctl_layout.specs.Around.{Line, Around}
use Rattle.ctl_layout.specs.Values.{Held}
use Rattle.ctl_layout.specs.Layout.{leaves_code, loop_code, test_held, turns_code, with_bounds}
use Rattle.ctl_gen.proofs.Formed.{both_at, fine_both, FormedAt, has_back, has_front, leads_at}
use Rattle.ctl_gen.proofs.FormedValues.{Found}

module _ (code : Code) where
  -- a stretch, and an instruction at its end that is fine where it stands
  pub ended_formed : (p : ℕ) (ls : List Line) (end : Instr) (s : List Kind) → (Leads code (p + length ls + 1) s → FormedAt code p ls s (Some s)) → (Leads code (p + length ls + 1) s → IsFine code (p + length ls) end s) → FormedAt code p (ls ++ (end, s) ∷ []) s (Some s)
  ended_formed p ls end s f fine h =
      let last = has_back code p ls ((end, s) ∷ []) (Some s) h in
      let x = f last.1 (has_front code p ls ((end, s) ∷ []) (Some s) (Some s) h last.0) in
      (x.0, fine_both code p ls ((end, s) ∷ []) x.1 (fine last.1, tt))

  -- Conditions -------------------------------------------------------------------------------------

  -- a condition, which leads further where it does not hold
  pub test_formed : (p : ℕ) (h : Held) (skipped : ℕ) (s : List Kind) → Found code h Boolean s → Leads code (p + length h.code + 1 + skipped) s → FormedAt code p (test_held h skipped) s (Some s)
  test_formed p h skipped s f skip =
      both_at code p h.code ((InstrOf.Unless h.cell skipped, h.after) ∷ []) s h.after (Some s) (f.formed p)
      (λ g. (g.0, ((s, f.taken, (g.1, skip)), tt)))

  -- Loops ------------------------------------------------------------------------------------------

  -- turns that are repeated, behind their landing
  pub loop_formed : (p : ℕ) (s : List Kind) (turn : List Line) → (Leads code (p + 1) s → Leads code (p + 1 + 1 + length turn + 1) s → FormedAt code (p + 1 + 1) turn s (Some s)) → FormedAt code p (loop_code turn s) s (Some s)
  loop_formed p s turn f h =
      let back : List Line = (InstrOf.Back (length turn), s) ∷ [] in
      let q = p + 1 + 1 in
      let last = has_back code q turn back (Some s) h.1.1 in
      let x = f h.1.0 last.1 (has_front code q turn back (Some s) (Some s) h.1.1 last.0) in
      let behind : q + length turn + 1 ≡ q + (length turn + 1) = omega arith in
      let before : q ≡ q + length turn - length turn = omega arith in
      let count : length turn ≤ q + length turn = omega arith in
      let again : IsFine code (q + length turn) (InstrOf.Back (length turn)) s = (count, leads_at code q (q + length turn - length turn) s before x.0) in
      (h.0, (x.0, (leads_at code (q + length turn + 1) (q + (length turn + 1)) s behind last.1, fine_both code q turn back x.1 (again, tt))))

  -- turns over the values between two bounds, whose parameter has its cell in the newest master
  pub turns_formed : (p : ℕ) (s : List Kind) (v : Var) (way : Direction) (at : ℕ) (turn : List Line) → variable_at s 0 v.slot ≡ Some at → (Leads code (p + 1) (with_bounds s) → FormedAt code (p + 1 + 1) turn (with_bounds s) (Some (with_bounds s))) → FormedAt code p (turns_code (Some at) v way turn s) (with_bounds s) (Some s)
  turns_formed p s v way at turn there f h =
      let top = with_bounds s in
      let next : List Line = (InstrOf.Next (height s) v.slot at way (length turn), top) ∷ [] in
      let q = p + 1 + 1 in
      let last = has_back code q turn next (Some s) h.1.1 in
      let x = f h.1.0 (has_front code q turn next (Some s) (Some top) h.1.1 last.0) in
      let second : q ≡ p + 2 = omega arith in
      let behind : q + length turn + 1 ≡ p + 1 + (length turn + 2) = omega arith in
      let landed : q + length turn + 1 ≡ q + (length turn + 1) = omega arith in
      let before : q ≡ q + length turn - length turn = omega arith in
      let count : length turn ≤ q + length turn = omega arith in
      let again : IsFine code (q + length turn) (InstrOf.Next (height s) v.slot at way (length turn)) top = (count, (s, refl, (refl, there, (leads_at code q (q + length turn - length turn) top before x.0, last.1)))) in (
        h.0,
        (
          (s, refl, (refl, there, (leads_at code q (p + 2) top second x.0, leads_at code (q + length turn + 1) (p + 1 + (length turn + 2)) s behind last.1))),
          (
            (s, refl, leads_at code (q + length turn + 1) (q + (length turn + 1)) s landed last.1),
            fine_both code q turn next x.1 (again, tt),
          ),
        ),
      )

  -- Blocks -----------------------------------------------------------------------------------------

  -- a master's lines, between its entry and what stands behind it for who leaves it
  pub block_formed : (p slots : ℕ) (inner : List Line) (a : Around) → FormedAt code (p + 1) inner (Block slots ∷ a.stack) None → FormedAt code (p + 1 + length inner) (leaves_code a) a.stack (Some a.stack) → FormedAt code p ((InstrOf.Enter slots (length inner), a.stack) ∷ inner ++ leaves_code a) a.stack (Some a.stack)
  block_formed p slots inner a f g h =
      let last = has_back code (p + 1) inner (leaves_code a) (Some a.stack) h.1 in
      let x = f (has_front code (p + 1) inner (leaves_code a) (Some a.stack) None h.1 tt) in
      (h.0, ((x.0, last.0, last.1), fine_both code (p + 1) inner (leaves_code a) x.1 (g last).1))
