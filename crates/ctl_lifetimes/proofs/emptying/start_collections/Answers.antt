use Rattle.std.proofs.Common.{◌≡◌, ◌∙◌, ◌-◌, List, Some, ap, arith, length, suc, sym}
use Rattle.std.specs.Prelude.{slice_get, slice_set}
use Rattle.ctl_frames.specs.declared.frame.Owned.{Owned}
use Rattle.ctl_frames.specs.Owned.{started_from}
use Rattle.ctl_frames.proofs.Links.{got}
use Rattle.ctl_lifetimes.proofs.Starting.{all_marked, marked_length, marked_there, read_there}
use Rattle.ctl_lifetimes.proofs.emptying.start_collections.Goals as goal

pub returns-then-index-first : goal.returns-then-index-first
returns-then-index-first c =
    let a = c.args in
    let os = a.owned.now.items in
    let i = c.loop-end.end in
    let x = c.index.result.now in
    let marked = c.loop-end.invariant.0 in
    let some = c.loop-end-test.true in
    let is : i ≡ suc (i - 1) = omega (arith, some) in
    let within = c.loop-end.invariant.1 in
    let long : length c.loop-end.owned.items ≡ length os = ap (λ (l : List Owned). length l) marked ∙ marked_length i a.first a.last os in
    let there : slice_get c.loop-end.owned.items (i - 1) ≡ Some x = got c.loop-end.owned.items (i - 1) x (omega (arith, long, within, some)) c.index.ensures in
    let read = read_there i (i - 1) a.first a.last os x is within (sym (ap (λ (l : List Owned). slice_get l (i - 1)) marked) ∙ there) in
    record { items = marked ∙ all_marked i (i - 1) a.first a.last c.requires.0 os x is c.requires.1 read c.if-index-first.true }

pub loop-end-preserved : goal.loop-end-preserved
loop-end-preserved c =
    let a = c.args in
    let os = a.owned.now.items in
    let i = c.loop-end.end in
    let x = c.index_mut.result.now in
    let marked = c.loop-end.invariant.0 in
    let some = c.loop-end-test.true in
    let is : i ≡ suc (i - 1) = omega (arith, some) in
    let within = c.loop-end.invariant.1 in
    let long : length c.loop-end.owned.items ≡ length os = ap (λ (l : List Owned). length l) marked ∙ marked_length i a.first a.last os in
    let there : slice_get c.loop-end.owned.items (i - 1) ≡ Some x = got c.loop-end.owned.items (i - 1) x (omega (arith, long, within, some)) c.index_mut.ensures.value in
    let read = read_there i (i - 1) a.first a.last os x is within (sym (ap (λ (l : List Owned). slice_get l (i - 1)) marked) ∙ there) in (
      ap (λ (o : Owned). slice_set c.loop-end.owned.items (i - 1) o) c.start.ensures
          ∙ (ap (λ (l : List Owned). slice_set l (i - 1) (started_from a.first a.last x)) marked ∙ marked_there i (i - 1) a.first a.last os x is read),
      omega (arith, within),
    )
