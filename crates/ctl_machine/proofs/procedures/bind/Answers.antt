use Rattle.std.proofs.Common.{◌≡◌, ◌∙◌, ◌++◌, ◌+◌, ◌-◌, List, [], ◌∷◌, ℕ, suc, ap, arith, drop, length, subst, sym, take}
use Rattle.std.proofs.lemmas.List.{append_assoc, length-append}
use Rattle.ctl_meaning.specs.Finalization.{Spot}
use Rattle.ctl_code.specs.Kinds.{stack_at}
use Rattle.ctl_code.specs.States.{Word}
use Rattle.ctl_frames.specs.declared.frame.Formal.{Formal}
use Rattle.ctl_places.specs.Passing.{AreActuals, StandIn, bound, cell_passed, formal_if, passed}
use Rattle.ctl_frames.specs.Spots.{located}
use Rattle.ctl_places.proofs.Passed.{is_next, length_cell, next_spots, some_located, stand_here, stand_next}
use Rattle.ctl_machine.proofs.procedures.bind.Goals as goal

pub pass-requires-clause-some : goal.pass-requires-clause-some
pass-requires-clause-some g c = λ t.
    let i = c.loop-depth.depth in
    let n = c.args.actuals in
    let ops = g.t.0 in
    let stack = stack_at c.args.code.now.kinds c.args.place in
    let before = c.loop-depth.invariant in
    let less = c.loop-depth-test.true in
    let m = n - 1 - i in
    let left : n - i ≡ suc m = omega (arith, less) in
    let x = is_next m i stack ops (subst (λ j. AreActuals j (drop i stack) (drop i ops)) left before.actuals) in
    let below = g.t.1 ++ located (take m (drop (suc i) ops)) in
    let spots : c.loop-depth.spots.items ≡ below ++ located (x.word ∷ []) = next_spots m i stack ops g.t.1 c.loop-depth.spots.items x (before.spots ∙ ap (λ j. g.t.1 ++ located (take j (drop i ops))) left) in
    let some = some_located x.word (sym x.is ∙ (sym c.is_part-is_part.ensures ∙ t)) in
    let long = ap (λ (l : List Spot). length l) spots ∙ length-append below (located (x.word ∷ [])) in
    let many = c.loop-depth.spots.ok in
    omega (arith, some, long, many.0, many.1)

pub loop-depth-preserved : goal.loop-depth-preserved
loop-depth-preserved g c =
    let i = c.loop-depth.depth in
    let n = c.args.actuals in
    let ops = g.t.0 in
    let base = c.args.base in
    let stack = stack_at c.args.code.now.kinds c.args.place in
    let before = c.loop-depth.invariant in
    let less = c.loop-depth-test.true in
    let m = n - 1 - i in
    let left : n - i ≡ suc m = omega (arith, less) in
    let next : n - (i + 1) ≡ m = omega (arith, less) in
    let further : i + 1 ≡ suc i = omega arith in
    let x = is_next m i stack ops (subst (λ j. AreActuals j (drop i stack) (drop i ops)) left before.actuals) in
    let below = g.t.1 ++ located (take m (drop (suc i) ops)) in
    let spots : c.loop-depth.spots.items ≡ below ++ located (x.word ∷ []) = next_spots m i stack ops g.t.1 c.loop-depth.spots.items x (before.spots ∙ ap (λ j. g.t.1 ++ located (take j (drop i ops))) left) in
    let words : StandIn (suc m) (x.word ∷ x.rest) base c.loop-depth.cells = subst (λ (l : List Word). StandIn (suc m) l base c.loop-depth.cells) x.are (subst (λ j. StandIn j (drop i ops) base c.loop-depth.cells) left before.words) in
    let done = c.pass.ensures.passed x.word below (c.is_part-is_part.ensures ∙ x.is) spots (stand_here m x.word x.rest base c.loop-depth.cells words) in
    let fewer : StandIn m (drop (suc i) ops) base c.pass.new.cells = subst (λ (l : List Word). StandIn m l base c.pass.new.cells) (sym x.next) (subst (λ (l : List ℕ). StandIn m x.rest base l) (sym done.0) (stand_next m x.word x.rest base c.loop-depth.cells words)) in
    let cells : passed m (drop (suc i) ops) base c.pass.new.cells ≡ passed n ops base c.args.cells.now =
    ap (λ (l : List ℕ). passed m (drop (suc i) ops) base l) done.0
    ∙ (ap (λ (l : List Word). passed m l base (cell_passed x.word (base + m) c.loop-depth.cells)) x.next
    ∙ (sym (ap (λ (l : List Word). passed (suc m) l base c.loop-depth.cells) x.are)
    ∙ (sym (ap (λ j. passed j (drop i ops) base c.loop-depth.cells) left)
    ∙ before.cells))) in
    let formals : c.pass.new.formals.items ++ bound m (drop (suc i) ops) ≡ c.args.formals.now.items ++ bound n ops =
    ap (λ (l : List Formal). l ++ bound m (drop (suc i) ops)) done.2
    ∙ (append_assoc c.loop-depth.formals.items (formal_if x.word m) (bound m (drop (suc i) ops))
    ∙ (ap (λ (l : List Word). c.loop-depth.formals.items ++ (formal_if x.word m ++ bound m l)) x.next
    ∙ (sym (ap (λ (l : List Word). c.loop-depth.formals.items ++ bound (suc m) l) x.are)
    ∙ (sym (ap (λ j. c.loop-depth.formals.items ++ bound j (drop i ops)) left)
    ∙ before.formals)))) in
    let longer = c.pass.ensures.length in
    let many = before.many in
    record {
      cells = ap (λ j. passed j (drop (i + 1) ops) base c.pass.new.cells) next ∙ (ap (λ j. passed m (drop j ops) base c.pass.new.cells) further ∙ cells);
      spots = done.1 ∙ sym (ap (λ j. g.t.1 ++ located (take j (drop (i + 1) ops))) next ∙ ap (λ j. g.t.1 ++ located (take m (drop j ops))) further);
      formals = ap (λ j. c.pass.new.formals.items ++ bound j (drop (i + 1) ops)) next ∙ (ap (λ j. c.pass.new.formals.items ++ bound m (drop j ops)) further ∙ formals);
      many = omega (arith, longer, many);
      room = c.pass.ensures.capacity ∙ before.room;
      long = ap (λ (l : List ℕ). length l) done.0 ∙ (length_cell x.word (base + m) c.loop-depth.cells ∙ before.long);
      words = subst (λ j. StandIn j (drop (i + 1) ops) base c.pass.new.cells) (sym next) (subst (λ j. StandIn m (drop j ops) base c.pass.new.cells) (sym further) fewer);
      actuals = subst (λ j. AreActuals j (drop (i + 1) stack) (drop (i + 1) ops)) (sym next) (subst (λ j. AreActuals m (drop j stack) (drop j ops)) (sym further) x.actuals);
    }
