use Rattle.std.proofs.Common.{◌≡◌, ◌+◌, ◌≤◌, ◌∷◌, ◌++◌, ◌∙◌, List, [], ℕ, Some, ap, arith, drop, length, refl, reverse, subst, sym}
use Rattle.std.specs.Prelude.{slice_get}
use Rattle.std.proofs.lemmas.List.{append-nil, reverse-reverse}
use Rattle.std.proofs.lemmas.Option.{slice_get_within}
use Rattle.ctl_frames.specs.declared.frame.Callee.{Callee}
use Rattle.ctl_code.specs.declared.kinds.Kind.{Kind}
use Rattle.ctl_code.specs.declared.kinds.Kind.TheVariants.{Body}
use Rattle.ctl_code.specs.Kinds.{stack_at}
use Rattle.ctl_code.specs.Windows.{height}
use Rattle.ctl_frames.specs.declared.frame.After.{After}
use Rattle.ctl_engine.specs.declared.engine.Engine.{Engine}
use Rattle.ctl_frames.specs.declared.frame.Master.{Master}
use Rattle.ctl_allocations.specs.Calling.{after_for, count_values}
use Rattle.ctl_frames.specs.Links.{AreLinked}
use Rattle.ctl_frames.specs.Masters.{first_window, heads_of}
use Rattle.ctl_frames.specs.Spots.{standing}
use Rattle.ctl_places.specs.Passing.{with_actuals}
use Rattle.ctl_engine.specs.Shows.{Kept, kept, with_cells, with_master}
use Rattle.ctl_frames.proofs.Links.{got}
use Rattle.ctl_allocations.proofs.SubprogramCalled.{base_within, call_makes, has_actuals, has_slots, linked_before, operands_stand, passed_spots, same_below, words_stand}
use Rattle.ctl_machine.proofs.procedures.call_from.Goals as goal

-- where the window of the body begins
begins_at : (kinds : List (List Kind)) (callee : Callee) (copies place actuals window below first : ℕ) → drop (count_values callee copies) (stack_at kinds (place + 1)) ≡ drop actuals (stack_at kinds place) → window ≡ first → below ≡ height (drop actuals (stack_at kinds place)) → window + below ≡ first + height (drop (count_values callee copies) (stack_at kinds (place + 1)))
begins_at kinds callee copies place actuals window below first same window_is below_is = ap (λ n. n + below) window_is ∙ ap (λ n. first + n) (below_is ∙ ap (λ (l : List Kind). height l) (sym same))

-- the masters are the same where room was made and the slots were begun
same_masters : (old ready begun : Engine) (row : List ℕ) → kept ready ≡ with_cells (kept old) row → begun.masters ≡ ready.masters → begun.masters.items ≡ old.masters.items
same_masters old ready begun row made begins = ap (λ v. v.items) begins ∙ (sym (reverse-reverse ready.masters.items) ∙ (ap (λ (e : Kept). reverse e.masters) made ∙ reverse-reverse old.masters.items))

pub height_below-requires : goal.height_below-requires
height_below-requires g c = record {
  before = slice_get_within c.args.code.now.kinds c.args.place c.requires.1.0.stack c.requires.1.0.leads;
  actuals = operands_stand c.args.code.now c.args.engine.now c.args.callee c.args.place c.args.body c.args.actuals c.args.copies g.s c.requires.1.0;
}

pub overflow_add-base : goal.overflow_add-base
overflow_add-base g c =
    let old = c.args.engine.now in
    let is = begins_at c.args.code.now.kinds c.args.callee c.args.copies c.args.place c.args.actuals c.args.window c.height_below.result (first_window (reverse old.masters.items)) (same_below c.args.code.now old c.args.callee c.args.place c.args.body c.args.actuals c.args.copies g.s c.requires.1.0) c.requires.1.1.1.0 c.height_below.ensures in
    let within = base_within c.args.code.now old c.args.callee c.args.place c.args.body c.args.actuals c.args.copies g.s c.requires.1.0 in
    let bound = old.cells.ok.0 in
    omega (arith, is, within, bound)

pub prepare_body-requires : goal.prepare_body-requires
prepare_body-requires g c =
    let old = c.args.engine.now in
    let is = begins_at c.args.code.now.kinds c.args.callee c.args.copies c.args.place c.args.actuals c.args.window c.height_below.result (first_window (reverse old.masters.items)) (same_below c.args.code.now old c.args.callee c.args.place c.args.body c.args.actuals c.args.copies g.s c.requires.1.0) c.requires.1.1.1.0 c.height_below.ensures in
    let within = base_within c.args.code.now old c.args.callee c.args.place c.args.body c.args.actuals c.args.copies g.s c.requires.1.0 in
    omega (arith, is, within)

pub around-link-requires : goal.around-link-requires
around-link-requires g c =
    let old = c.args.engine.now in
    let here = same_masters old c.prepare_body.new.self c.begin_slots.new.engine (old.cells.items ++ c.in_ok-prepare_body.ensures.ok.0) c.in_ok-prepare_body.ensures.ok.1.kept c.begin_slots.ensures.masters in
    subst (λ (l : List Master). AreLinked l (heads_of g.s.world.activations)) (sym here) (linked_before c.args.code.now old c.args.callee c.args.place c.args.body c.args.actuals c.args.copies g.s c.requires.1.0)

pub depth_at-requires : goal.depth_at-requires
depth_at-requires g c =
    let old = c.args.engine.now in
    let here = same_masters old c.prepare_body.new.self c.begin_slots.new.engine (old.cells.items ++ c.in_ok-prepare_body.ensures.ok.0) c.in_ok-prepare_body.ensures.ok.1.kept c.begin_slots.ensures.masters in
    (subst (λ (l : List Master). AreLinked l (heads_of g.s.world.activations)) (sym here) (linked_before c.args.code.now old c.args.callee c.args.place c.args.body c.args.actuals c.args.copies g.s c.requires.1.0), c.around-link.ensures.bound)

pub begin_slots-requires : goal.begin_slots-requires
begin_slots-requires g c =
    let code = c.args.code.now in
    let old = c.args.engine.now in
    let entry = c.index-entry.result.now in
    let scope = c.requires.1.0.called.0 in
    let found : slice_get code.entries.items c.args.body ≡ Some entry = got code.entries.items c.args.body entry (slice_get_within code.entries.items c.args.body scope.0 scope.1) c.index-entry.ensures in
    let fits : 0 + entry.slots ≤ code.room = c.requires.0.room entry.place (Body entry.level entry.slots c.args.body ∷ []) (c.requires.0.entries c.args.body entry found) in
    let room = c.in_ok-prepare_body.ensures.cells in
    let is = begins_at code.kinds c.args.callee c.args.copies c.args.place c.args.actuals c.args.window c.height_below.result (first_window (reverse old.masters.items)) (same_below code old c.args.callee c.args.place c.args.body c.args.actuals c.args.copies g.s c.requires.1.0) c.requires.1.1.1.0 c.height_below.ensures in
    let words = words_stand code old c.args.callee c.args.place c.args.body c.args.actuals c.args.copies g.s c.in_ok-prepare_body.ensures.ok.0 (c.args.window + c.height_below.result) c.prepare_body.new.self.cells.items c.requires.1.0 is (ap (λ (e : Kept). e.cells) c.in_ok-prepare_body.ensures.ok.1.kept) in (
      omega (arith, fits, room),
      (
        has_slots code old c.args.callee c.args.place c.args.body c.args.actuals c.args.copies g.s entry c.requires.1.0 found,
        (
          c.in_ok-prepare_body.ensures.formals,
          (
            has_actuals code old c.args.callee c.args.place c.args.body c.args.actuals c.args.copies g.s c.requires.1.0,
            (
              ap (λ (e : Kept). e.spots) c.in_ok-prepare_body.ensures.ok.1.kept ∙ passed_spots code old c.args.callee c.args.place c.args.body c.args.actuals c.args.copies g.s c.requires.1.0,
              words,
            ),
          ),
        ),
      ),
    )

pub returns-clause-ok : goal.returns-clause-ok
returns-clause-ok g c =
    let code = c.args.code.now in
    let old = c.args.engine.now in
    let ready = c.prepare_body.new.self in
    let entry = c.index-entry.result.now in
    let count = c.args.actuals in
    let scope = c.requires.1.0.called.0 in
    let found : slice_get code.entries.items c.args.body ≡ Some entry = got code.entries.items c.args.body entry (slice_get_within code.entries.items c.args.body scope.0 scope.1) c.index-entry.ensures in
    let more = c.in_ok-prepare_body.ensures.ok.0 in
    let goes = c.in_ok-prepare_body.ensures.ok.1 in
    let row = old.cells.items ++ more in
    let hs = heads_of g.s.world.activations in
    let ops = g.s.operands in
    let below = standing g.s.control (drop count ops) in
    let base = c.args.window + c.height_below.result in
    let b : Master = record { number = c.begin_slots.new.engine.given_masters + 1; window = base; base = base; slots = entry.slots; link = c.around-link.result; depth = c.depth_at.result + 1; owned = c.count_owned.result; outer_formals = c.count_formals-outer_formals.result; formals = c.count_formals.result; spots = c.count_spots.result } in
    let begun : kept c.begin_slots.new.engine ≡ with_actuals (with_cells (kept old) row) ops below base entry.slots count =
    c.begin_slots.ensures.kept ∙ ap (λ (e : Kept). with_actuals e ops below base entry.slots count) goes.kept in
    let cells : ready.cells.items ≡ row = ap (λ (e : Kept). e.cells) goes.kept in
    let here = same_masters old ready c.begin_slots.new.engine row goes.kept c.begin_slots.ensures.masters in
    call_makes code old c.stand.new.self c.args.callee c.args.place c.args.body count c.args.copies g.s entry b more c.requires.0 c.requires.1.0 found
    (record {
      number = ap (λ n. n + 1) (c.begin_slots.ensures.given ∙ c.in_ok-prepare_body.ensures.number);
      window = refl;
      begins = begins_at code.kinds c.args.callee c.args.copies c.args.place c.args.actuals c.args.window c.height_below.result (first_window (reverse old.masters.items)) (same_below code old c.args.callee c.args.place c.args.body c.args.actuals c.args.copies g.s c.requires.1.0) c.requires.1.1.1.0 c.height_below.ensures;
      slots = refl;
      link = subst (λ (l : List Master). b.link ≤ length l) here c.around-link.ensures.bound;
      display = c.around-link.ensures.display;
      depth = ap (λ n. n + 1) c.depth_at.ensures.depth;
      shallow = let s = c.depth_at.ensures.shallow in omega (arith, s);
      owned = c.count_owned.ensures ∙ ap (λ (e : Kept). length e.owned) begun;
      outer = c.count_formals-outer_formals.ensures.count ∙ ap (λ (e : Kept). length e.formals) goes.kept;
      formals = c.count_formals.ensures.count ∙ ap (λ (e : Kept). length e.formals) begun;
    })
    (c.count_spots.ensures.count ∙ ap (λ (e : Kept). length e.spots) begun)
    (subst (λ (l : List ℕ). b.base + code.room ≤ length l) cells c.in_ok-prepare_body.ensures.cells)
    (record {
      kept = c.stand.ensures.kept ∙ (ap (λ (a : After). with_master (kept c.begin_slots.new.engine) 0 a b c.begin_slots.new.engine.cells.items) c.after_for.ensures ∙ ap (λ (e : Kept). with_master e 0 (after_for c.args.callee c.args.copies (c.args.place + 1)) b e.cells) begun);
      mode = c.stand.ensures.mode;
      events = c.stand.ensures.events ∙ (ap (λ v. v.items) c.begin_slots.ensures.events ∙ (goes.events ∙ sym (append-nil old.events.items)));
      picks = c.stand.ensures.picks ∙ (ap (λ v. v.items) c.begin_slots.ensures.picks ∙ goes.picks);
    })

pub returns-clause-at : goal.returns-clause-at
returns-clause-at g c = (c.index-entry.result.now.place, c.stand.ensures.mode)

pub returns-clause-window : goal.returns-clause-window
returns-clause-window g c = sym (ap (λ (e : Kept). first_window e.masters) c.stand.ensures.kept)
