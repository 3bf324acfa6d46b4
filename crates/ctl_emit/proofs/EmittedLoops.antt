-- What the emitter makes of statements under a condition, of loops and of blocks is their layout.
use Rattle.std.proofs.Common.{◌≡◌, ℕ, ◌+◌, ◌-◌, List, [], ◌∷◌, ◌++◌, length, unwrap_or, Option, Some, None, refl, sym, ap, ◌∙◌, arith, append_assoc, append-nil}
use Rattle.ctl_program.specs.declared.types.Ty.TheVariants.{Boolean, Integer}
use Rattle.ctl_program.specs.declared.types.Var.{Var}
use Rattle.ctl_program.specs.declared.operators.Direction.{Direction}
use Rattle.ctl_code.specs.declared.code.Cell.{Cell}
use Rattle.ctl_code.specs.declared.code.Instr.{Instr}
use Rattle.ctl_code.specs.declared.code.Instr.TheVariants as InstrOf
use Rattle.ctl_code.specs.declared.kinds.Kind.{Kind}
use Rattle.ctl_code.specs.declared.kinds.Kind.TheVariants.{Operand}
use Rattle.ctl_code.specs.declared.kinds.Kind.TheVariants as KindOf
use Rattle.ctl_code.specs.Kinds.{below_newest}
use Rattle.ctl_code.specs.Windows.{height}
use Rattle.ctl_layout.specs.Around.{Line, OutOfMaster, behind, newest_at}
use Rattle.ctl_emitter.specs.Emitted.{Emitted, appended, around, holding, lined, one, repeated, set_at, standing, stated, taking, with_end, without}
use Rattle.ctl_layout.specs.Values.{ValueCode, evaluated, held}
use Rattle.ctl_layout.specs.Layout.{ItemCode, StatementCode, MasterCode, always, block, block_code, bounds_code, departure, for, for_of, in_loop, inside, leaves_code, loop, next_of, test_code, test_length, tested, turns_code, with_bounds}
use Rattle.ctl_emitter.proofs.Emission.{IsWithin, count_more, counted_behind, counted_since, in_two, lined_at, lined_stated, looped, one_longer, stands_behind, standing_is, stated_at, stated_lined, still_within, texts_as_before, written_anew}
use Rattle.ctl_emit.proofs.EmittedStatements.{test_emitted, test_long}
use Rattle.ctl_emitter.proofs.EmittedValues.{two_evaluated, held_back}

abbrev taking_over : Instr → Cell → List Kind → Emitted → Emitted
taking_over i cell r e = appended (one i r) [] (without cell.named r) e

abbrev turns_of : Option ℕ → ℕ → Var → Direction → List Line → List Kind → List Line
turns_of at low v way turn r =
    (for_of at low v way (length turn + 2), r) ∷ (InstrOf.Abandon (length turn + 1), r) ∷ turn ++ (next_of at low v way (length turn), r) ∷ []

-- a landing, and what stands behind it
pub landing_within : (i : Instr) (landing : ℕ) (e0 e1 : Emitted) → landing ≡ length e0.instructions → e1 ≡ lined (one i) e0 → IsWithin (Some landing) e1
landing_within i landing e0 e1 at a =
    λ x is. let same = ap (λ o. unwrap_or o 0) is in let more = count_more (one i e0.notes.standing) [] e0.notes.standing e0 e1 a in omega (arith, same, more, at)

pub test_within : (x : ValueCode) (cell : Cell) (landing : Option ℕ) (e0 e1 e2 : Emitted) → IsWithin landing e0 → e1 ≡ holding (held x Boolean) e0 → cell ≡ (held x Boolean e0.notes.standing).cell → e2 ≡ taking (InstrOf.Unless cell 0) cell e1 → IsWithin landing e2
test_within x cell landing e0 e1 e2 within a found b = still_within landing (test_code x e0.notes.standing 0) [] e0.notes.standing e0 e2 within (test_emitted x cell 0 e0 e1 e2 a found b)

pub statement_within : (x : StatementCode) (landing : Option ℕ) (e0 e1 : Emitted) → IsWithin landing e0 → e1 ≡ stated x landing e0 → IsWithin landing e1
statement_within x landing e0 e1 within a = still_within landing (x.code (around landing e0) (length e0.texts)) x.texts e0.notes.standing e0 e1 within a

pub line_within : (i : Instr) (landing : Option ℕ) (e0 e1 : Emitted) → IsWithin landing e0 → e1 ≡ lined (one i) e0 → IsWithin landing e1
line_within i landing e0 e1 within a = still_within landing (one i e0.notes.standing) [] e0.notes.standing e0 e1 within a

-- Statements under a condition --------------------------------------------------------------------

pub tested_emitted : (x : ValueCode) (body : StatementCode) (cell : Cell) (landing : Option ℕ) (e0 e1 e2 e3 e4 : Emitted) (head : ℕ) → IsWithin landing e0 → e1 ≡ holding (held x Boolean) e0 → cell ≡ (held x Boolean e0.notes.standing).cell → head ≡ length e1.instructions → e2 ≡ taking (InstrOf.Unless cell 0) cell e1 → e3 ≡ stated body landing e2 → e4 ≡ set_at head (InstrOf.Unless cell (length e3.instructions - head)) e3 → e4 ≡ stated (tested x body) landing e0
tested_emitted x body cell landing e0 e1 e2 e3 e4 head within a found at b c set =
    let s = e0.notes.standing in
    let n = length e0.texts in
    let around0 = around landing e0 in
    let h = held x Boolean s in
    let lines = test_code x s 0 in
    let inner = body.code (behind (length lines) around0) (n + 0) in
    let first : e2 ≡ appended lines [] s e0 = test_emitted x cell 0 e0 e1 e2 a found b in
    let under : e2 ≡ appended ((InstrOf.Unless cell 0, h.after) ∷ []) [] s e1 =
    b ∙ ap (λ r. taking_over (InstrOf.Unless cell 0) cell r e1) (standing_is h.code [] h.after e0 e1 a)
    ∙ ap (λ r. appended ((InstrOf.Unless cell 0, h.after) ∷ []) [] r e1) (ap (λ (k : Cell). without k.named h.after) found ∙ held_back x Boolean s) in
    let whole : e3 ≡ appended ((InstrOf.Unless cell 0, h.after) ∷ inner) body.texts s e1 =
    in_two ((InstrOf.Unless cell 0, h.after) ∷ []) inner [] body.texts s s e1 e2 e3 under (stated_at body landing lines [] e0 e2 e3 within first c) in
    let set_it = written_anew (InstrOf.Unless cell 0) (InstrOf.Unless cell (length e3.instructions - head)) h.after s inner body.texts e1 e3 e4 head at whole set in
    let count = counted_since (InstrOf.Unless cell 0) h.after s inner body.texts e1 e3 head at whole in
    let none : n + 0 ≡ n = omega arith in
    in_two h.code ((InstrOf.Unless cell (length e3.instructions - head), h.after) ∷ inner) [] body.texts h.after s e0 e1 e4 a set_it
    ∙ ap (λ k. appended (h.code ++ ((InstrOf.Unless cell k, h.after) ∷ inner)) body.texts s e0) count
    ∙ ap (λ k. appended (h.code ++ ((InstrOf.Unless k (length inner + 1), h.after) ∷ inner)) body.texts s e0) found
    ∙ ap (λ k. appended k body.texts s e0) (sym (append_assoc h.code ((InstrOf.Unless h.cell (length inner + 1), h.after) ∷ []) inner))
    ∙ ap (λ k. appended (test_code x s (length (body.code (behind k around0) (n + 0)) + 1) ++ body.code (behind k around0) (n + 0)) body.texts s e0) (test_long x s 0)
    ∙ ap (λ k. appended (test_code x s (length (body.code (behind (test_length x s) around0) k) + 1) ++ body.code (behind (test_length x s) around0) k) body.texts s e0) none

-- Loops -------------------------------------------------------------------------------------------

-- turns behind a landing, in the texts and over the stack of a place before
pub turns_behind : (turn : StatementCode) (i : Instr) (landing : ℕ) (lines : List Line) (s : List Kind) (e e0 e1 e2 : Emitted) → e0 ≡ appended lines [] s e → landing ≡ length e0.instructions → e1 ≡ lined (one i) e0 → e2 ≡ stated turn (Some landing) e1 → e2 ≡ appended ((i, s) ∷ turn.code (in_loop s) (length e.texts)) turn.texts s e0
turns_behind turn i landing lines s e e0 e1 e2 h at a b =
    looped turn i landing e0 e1 e2 at a b
    ∙ ap (λ r. appended ((i, r) ∷ turn.code (in_loop r) (length e0.texts)) turn.texts r e0) (standing_is lines [] s e e0 h)
    ∙ ap (λ n. appended ((i, s) ∷ turn.code (in_loop s) n) turn.texts s e0) (texts_as_before lines s e e0 h)

pub loop_emitted : (turn : StatementCode) (landing : ℕ) (e0 e1 e2 e3 e4 : Emitted) → e1 ≡ lined (one (InstrOf.Skip 1)) e0 → landing ≡ length e1.instructions → e2 ≡ lined (one (InstrOf.Skip 0)) e1 → e3 ≡ stated turn (Some landing) e2 → e4 ≡ repeated landing e3 → e4 ≡ stated (loop turn) None e0
loop_emitted turn landing e0 e1 e2 e3 e4 a at b c d =
    let s = e0.notes.standing in
    let lines = turn.code (in_loop s) (length e0.texts) in
    let back = InstrOf.Back (length e3.instructions - landing - 1) in
    let f = with_end landing e3 in
    let turns : e3 ≡ appended ((InstrOf.Skip 0, s) ∷ lines) turn.texts s e1 = turns_behind turn (InstrOf.Skip 0) landing (one (InstrOf.Skip 1) s) s e0 e1 e2 e3 a at b c in
    let ended : f ≡ appended ((back, s) ∷ []) [] s e3 = lined_at (one back) s e3 f (standing_is ((InstrOf.Skip 0, s) ∷ lines) turn.texts s e1 e3 turns) refl in
    let all_lines = lines ++ (back, s) ∷ [] in
    let whole : f ≡ appended ((InstrOf.Skip 0, s) ∷ all_lines) (turn.texts ++ []) s e1 = in_two ((InstrOf.Skip 0, s) ∷ lines) ((back, s) ∷ []) turn.texts [] s s e1 e3 f turns ended in
    let long : length f.instructions - landing - 1 ≡ length lines + 1 = counted_behind (InstrOf.Skip 0) s s all_lines (turn.texts ++ []) e1 f landing at whole ∙ one_longer lines (back, s) in
    in_two (one (InstrOf.Skip 1) s) ((InstrOf.Skip (length f.instructions - landing - 1), s) ∷ all_lines) [] (turn.texts ++ []) s s e0 e1 e4 a
    (written_anew (InstrOf.Skip 0) (InstrOf.Skip (length f.instructions - landing - 1)) s s all_lines (turn.texts ++ []) e1 f e4 landing at whole d)
    ∙ ap (λ k. appended ((InstrOf.Skip 1, s) ∷ (InstrOf.Skip k, s) ∷ all_lines) (turn.texts ++ []) s e0) long
    ∙ ap (λ k. appended ((InstrOf.Skip 1, s) ∷ (InstrOf.Skip (length lines + 1), s) ∷ lines ++ (InstrOf.Back k, s) ∷ []) (turn.texts ++ []) s e0) (counted_behind (InstrOf.Skip 0) s s lines turn.texts e1 e3 landing at turns)
    ∙ ap (λ k. appended ((InstrOf.Skip 1, s) ∷ (InstrOf.Skip (length lines + 1), s) ∷ lines ++ (InstrOf.Back (length lines), s) ∷ []) k s e0) (append-nil turn.texts)

pub bounds_emitted : (low high : ValueCode) (e0 e1 e2 : Emitted) → e1 ≡ holding (evaluated low Integer) e0 → e2 ≡ holding (evaluated high Integer) e1 → e2 ≡ appended (bounds_code low high e0.notes.standing) [] (with_bounds e0.notes.standing) e0
bounds_emitted low high e0 e1 e2 a b = two_evaluated Integer low high e0 e1 e2 a b

-- the turns of a loop with a parameter: its head and its landing are known behind them
pub for_emitted : (v : Var) (way : Direction) (low high : ValueCode) (body : StatementCode) (o : Option ℕ) (base head landing : ℕ) (e0 e1 e2 e3 e4 e5 e6 e7 e8 e9 : Emitted) → o ≡ newest_at e0.notes.standing v → base ≡ height e0.notes.standing → e1 ≡ appended (bounds_code low high e0.notes.standing) [] (with_bounds e0.notes.standing) e0 → head ≡ length e1.instructions → e2 ≡ lined (one InstrOf.Missing) e1 → landing ≡ length e2.instructions → e3 ≡ lined (one (InstrOf.Abandon 0)) e2 → e4 ≡ stated body (Some landing) e3 → e5 ≡ lined (one (next_of o base v way (length e4.instructions - landing - 1))) e4 → e6 ≡ set_at landing (InstrOf.Abandon (length e5.instructions - landing - 1)) e5 → e7 ≡ set_at head (for_of o base v way (length e6.instructions - head - 1)) e6 → e8 ≡ standing (below_newest e7.notes.standing) e7 → e9 ≡ standing (below_newest e8.notes.standing) e8 → e9 ≡ stated (for v way low high body) None e0
for_emitted v way low high body o base head landing e0 e1 e2 e3 e4 e5 e6 e7 e8 e9 where_it_is low_at a at b at_landing c d e set_landing set_head off off_again =
    let s = e0.notes.standing in
    let r = with_bounds s in
    let bounds = bounds_code low high s in
    let lines = body.code (in_loop r) (length e0.texts) in
    let k = length e4.instructions - landing - 1 in
    let next = next_of o base v way k in
    let j = length e5.instructions - landing - 1 in
    let i = length e6.instructions - head - 1 in
    let ts = body.texts ++ [] in
    let begun : e2 ≡ appended (one InstrOf.Missing r) [] r e1 = lined_at (one InstrOf.Missing) r e1 e2 (standing_is bounds [] r e0 e1 a) b in
    let both : e2 ≡ appended (bounds ++ one InstrOf.Missing r) [] r e0 = in_two bounds (one InstrOf.Missing r) [] [] r r e0 e1 e2 a begun in
    let turns : e4 ≡ appended ((InstrOf.Abandon 0, r) ∷ lines) body.texts r e2 = turns_behind body (InstrOf.Abandon 0) landing (bounds ++ one InstrOf.Missing r) r e0 e2 e3 e4 both at_landing c d in
    let all_lines = lines ++ (next, r) ∷ [] in
    let ended : e5 ≡ appended ((InstrOf.Abandon 0, r) ∷ all_lines) ts r e2 =
    in_two ((InstrOf.Abandon 0, r) ∷ lines) ((next, r) ∷ []) body.texts [] r r e2 e4 e5 turns (lined_at (one next) r e4 e5 (standing_is ((InstrOf.Abandon 0, r) ∷ lines) body.texts r e2 e4 turns) e) in
    let landed : e6 ≡ appended ((InstrOf.Abandon j, r) ∷ all_lines) ts r e2 = written_anew (InstrOf.Abandon 0) (InstrOf.Abandon j) r r all_lines ts e2 e5 e6 landing at_landing ended set_landing in
    let tail = (InstrOf.Abandon j, r) ∷ all_lines in
    let whole : e6 ≡ appended ((InstrOf.Missing, r) ∷ tail) ts r e1 = in_two (one InstrOf.Missing r) tail [] ts r r e1 e2 e6 begun landed in
    let closed : e7 ≡ appended ((for_of o base v way i, r) ∷ tail) ts r e1 = written_anew InstrOf.Missing (for_of o base v way i) r r tail ts e1 e6 e7 head at whole set_head in
    let k_is : k ≡ length lines = counted_behind (InstrOf.Abandon 0) r r lines body.texts e2 e4 landing at_landing turns in
    let j_is : j ≡ length lines + 1 = counted_behind (InstrOf.Abandon 0) r r all_lines ts e2 e5 landing at_landing ended ∙ one_longer lines (next, r) in
    let i_counts = counted_behind InstrOf.Missing r r tail ts e1 e6 head at whole in
    let longer = one_longer lines (next, r) in
    let i_is : i ≡ length lines + 2 = omega (arith, i_counts, longer) in
    let top = (for_of o base v way i, r) ∷ tail in
    let bare : e8 ≡ appended top ts (Operand Integer ∷ s) e1 = stands_behind top ts r (Operand Integer ∷ s) e1 e7 e8 closed (off ∙ ap (λ x. standing (below_newest x) e7) (standing_is top ts r e1 e7 closed)) in
    let last : e9 ≡ appended top ts s e1 = stands_behind top ts (Operand Integer ∷ s) s e1 e8 e9 bare (off_again ∙ ap (λ x. standing (below_newest x) e8) (standing_is top ts (Operand Integer ∷ s) e1 e8 bare)) in
    in_two bounds top [] ts r s e0 e1 e9 a last
    ∙ ap (λ x. appended (bounds ++ ((for_of o base v way x, r) ∷ tail)) ts s e0) i_is
    ∙ ap (λ x. appended (bounds ++ ((for_of o base v way (length lines + 2), r) ∷ (InstrOf.Abandon x, r) ∷ all_lines)) ts s e0) j_is
    ∙ ap (λ x. appended (bounds ++ ((for_of o base v way (length lines + 2), r) ∷ (InstrOf.Abandon (length lines + 1), r) ∷ lines ++ (next_of o base v way x, r) ∷ [])) ts s e0) k_is
    ∙ ap (λ x. appended (bounds ++ turns_of x base v way lines r) ts s e0) where_it_is
    ∙ ap (λ x. appended (bounds ++ turns_of (newest_at s v) x v way lines r) ts s e0) low_at
    ∙ ap (λ x. appended (bounds ++ turns_code (newest_at s v) v way lines s) x s e0) (append-nil body.texts)

-- Blocks and masters ------------------------------------------------------------------------------

pub inside_emitted : (x : ItemCode) (body : StatementCode) (e0 e1 e2 e3 : Emitted) → e1 ≡ lined x.code e0 → e2 ≡ stated body None e1 → e3 ≡ lined (one InstrOf.Leave) e2 → e3 ≡ stated (inside x body) None e0
inside_emitted x body e0 e1 e2 e3 a b c =
    let items_then : StatementCode = record { runs = always; texts = body.texts; code = λ k n. x.code k.stack ++ body.code (behind (length (x.code k.stack)) k) n } in
    stated_lined items_then (one InstrOf.Leave) None e0 e2 e3 (lined_stated x.code body None e0 e1 e2 (λ at is. absurd (cc)) a b) c

pub block_emitted : (slots : ℕ) (m : MasterCode) (landing : Option ℕ) (head : ℕ) (e0 e1 e2 e3 e4 e5 e6 : Emitted) → IsWithin landing e0 → slots ≡ m.slots → head ≡ length e0.instructions → e1 ≡ lined (one (InstrOf.Enter slots 0)) e0 → e2 ≡ standing (KindOf.Block slots ∷ e1.notes.standing) e1 → e3 ≡ stated m.inside None e2 → e4 ≡ standing (below_newest e3.notes.standing) e3 → e5 ≡ set_at head (InstrOf.Enter slots (length e4.instructions - head - 1)) e4 → e6 ≡ stated departure landing e5 → e6 ≡ stated (block m) landing e0
block_emitted slots m landing head e0 e1 e2 e3 e4 e5 e6 within same at a b c d set out =
    let s = e0.notes.standing in
    let n = length e0.texts in
    let ts = m.inside.texts in
    let top = KindOf.Block slots ∷ s in
    let enter = InstrOf.Enter slots 0 in
    let lines = m.inside.code (record { stack = top; landing = OutOfMaster }) n in
    let size = length e4.instructions - head - 1 in
    let entered : e2 ≡ appended (one enter s) [] top e0 =
    stands_behind (one enter s) [] s top e0 e1 e2 a (b ∙ ap (λ r. standing (KindOf.Block slots ∷ r) e1) (standing_is (one enter s) [] s e0 e1 a)) in
    let inner : e3 ≡ appended lines ts top e2 =
    c ∙ ap (λ r. appended (m.inside.code (record { stack = r; landing = OutOfMaster }) (length e2.texts)) ts r e2) (standing_is (one enter s) [] top e0 e2 entered)
    ∙ ap (λ k. appended (m.inside.code (record { stack = top; landing = OutOfMaster }) k) ts top e2) (texts_as_before (one enter s) top e0 e2 entered) in
    let bare : e4 ≡ appended lines ts s e2 = stands_behind lines ts top s e2 e3 e4 inner (d ∙ ap (λ r. standing (below_newest r) e3) (standing_is lines ts top e2 e3 inner)) in
    let whole : e4 ≡ appended ((enter, s) ∷ lines) ts s e0 = in_two (one enter s) lines [] ts top s e0 e2 e4 entered bare in
    let count : size ≡ length lines = counted_behind enter s s lines ts e0 e4 head at whole in
    let written : e5 ≡ appended ((InstrOf.Enter slots (length lines), s) ∷ lines) ts s e0 =
    written_anew enter (InstrOf.Enter slots size) s s lines ts e0 e4 e5 head at whole set ∙ ap (λ k. appended ((InstrOf.Enter slots k, s) ∷ lines) ts s e0) count in
    let all_lines = (InstrOf.Enter slots (length lines), s) ∷ lines in
    let long : length all_lines ≡ length lines + 1 = omega arith in
    in_two all_lines (leaves_code (behind (length all_lines) (around landing e0))) ts [] s s e0 e5 e6 written (stated_at departure landing all_lines ts e0 e5 e6 within written out)
    ∙ ap (λ k. appended (all_lines ++ leaves_code (behind k (around landing e0))) (ts ++ []) s e0) long
    ∙ ap (λ k. appended (all_lines ++ leaves_code (behind (length lines + 1) (around landing e0))) k s e0) (append-nil ts)
    ∙ ap (λ k. appended (block_code k (m.inside.code (record { stack = KindOf.Block k ∷ s; landing = OutOfMaster }) n) (around landing e0)) ts s e0) same
