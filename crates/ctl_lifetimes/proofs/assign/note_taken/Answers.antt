use Rattle.std.proofs.Common.{◌≡◌, ◌-◌, ◌<◌, ◌∷◌, ◌∙◌, [], List, ap, arith, drop, length, reverse, sym, ℕ}
use Rattle.std.specs.Prelude.{slice_get}
use Rattle.ctl_frames.specs.declared.frame.Frame.{Frame}
use Rattle.ctl_frames.specs.declared.frame.Frame.TheVariants.{Assigning}
use Rattle.ctl_frames.specs.declared.frame.Value.{Value}
use Rattle.ctl_frames.specs.declared.frame.Value.TheVariants.{Saved, Taken}
use Rattle.ctl_frames.proofs.Links.{got}
use Rattle.ctl_frames.proofs.Lists.{same_at}
use Rattle.ctl_engine.proofs.Leaves.{last_is}
use Rattle.ctl_engine.proofs.Tops.{top_replaced_at}
use Rattle.ctl_lifetimes.proofs.assign.note_taken.Goals as goal

-- there is a frame
some_frame : (xs : List Frame) (x : Frame) (fs : List Frame) → reverse xs ≡ x ∷ fs → 0 < length xs
some_frame [] x fs e = absurd (cc)
some_frame (y ∷ ys) x fs e = omega (arith)

-- frames of assignments are the same where what they say is
same_type : (a b p q : ℕ) (v w : Value) → Assigning a v p ≡ Assigning b w q → a ≡ b
same_type a b p q v w e = cc

same_place : (a b p q : ℕ) (v w : Value) → Assigning a v p ≡ Assigning b w q → p ≡ q
same_place a b p q v w e = cc

pub returns-in-Assigning-clause-items : goal.returns-in-Assigning-clause-items
returns-in-Assigning-clause-items c =
    let items = c.args.control.now.items in
    let type = c.args.assignment.record_type in
    let place = c.args.assignment.place in
    let before = Assigning type Saved place in
    let long = ap (λ (l : List Frame). length l) c.as_slice.ensures.value in
    let some = some_frame items before c.requires.0 c.requires.1 in
    let n = length c.as_slice.result.now - 1 in
    let x = c.index_mut.result.now in
    let read = got items n x (omega (arith, long, some)) c.index_mut.ensures.value in
    let there = ap (λ k. slice_get items (k - 1)) long ∙ last_is items before c.requires.0 c.requires.1 in
    let same = sym c.in-Assigning.is ∙ same_at x before (slice_get items n) read there in
    let now = c.in-Assigning in
    top_replaced_at items n (Assigning now.record Taken now.place) (omega (arith, long, some))
    ∙ ap (λ (f : Frame). f ∷ drop 1 (reverse items))
    (ap (λ k. Assigning k Taken now.place) (same_type now.record type now.place place now.value Saved same) ∙ ap (λ k. Assigning type Taken k) (same_place now.record type now.place place now.value Saved same))
