use Rattle.std.proofs.Common.{◌≡◌, ◌∷◌, ◌++◌, ◌∙◌, List, [], ap, arith, drop, refl, reverse, subst, sym}
use Rattle.std.specs.Prelude.{false, vec_len}
use Rattle.std.proofs.lemmas.List.{reverse-append}
use Rattle.ctl_tree.specs.declared.event.Cause.TheVariants.{Failed}
use Rattle.ctl_meaning.specs.Changes.{begin_finalization}
use Rattle.ctl_meaning.specs.Finalization.{Spot}
use Rattle.ctl_frames.specs.declared.frame.Frame.{Frame}
use Rattle.ctl_frames.specs.declared.frame.Frame.TheVariants as FrameOf
use Rattle.ctl_engine.specs.Finishing.{with_frames}
use Rattle.ctl_engine.specs.Shows.{Holds, kept}
use Rattle.ctl_frames.specs.Spots.{spots_in}
use Rattle.ctl_lifetimes.proofs.GivingUp.{gives_up, newest_part, some_frame}
use Rattle.ctl_frames.proofs.Words.{newest_read}
use Rattle.ctl_lifetimes.proofs.failing.fail.Goals as goal

pub replace_top-requires : goal.replace_top-requires
replace_top-requires g c =
    let old = c.args.engine.now in
    let some = some_frame c.args.code.now old g.t.0 g.t.1 c.requires.0 c.requires.1.0 in
    let all = old.control.ok.1 in
    let len = c.reserve.ensures.len in
    let same = ap (λ v. vec_len v) c.begin_finalization.ensures.control in
    omega (arith, some, all, len, same)

pub returns-clause-ok : goal.returns-clause-ok
returns-clause-ok g c =
    let code = c.args.code.now in
    let old = c.args.engine.now in
    let mid = c.begin_finalization.new.self in
    let s = g.t.0 in
    let t = g.t.1 in
    let e = c.begin_finalization.ensures in
    let newest = newest_part code old s t c.requires.0 c.requires.1.0 in
    let count = c.count_spots-newest in
    let read = newest_read old.spots.items (spots_in t.control) t.spot c.index.result.now count.result newest count.ensures.count c.index.ensures in
    let spot = c.in_ok-spot.ensures ∙ read in
    let number = c.object.ensures ∙ ap (λ (x : Spot). x.object) spot in
    let parts = FrameOf.FinalizingParts Failed c.args.record c.args.complete false in
    let failing = FrameOf.Failing c.args.exception in
    let same : mid.control.items ≡ old.control.items = ap (λ v. v.items) e.control ∙ c.reserve.ensures.items in
    let control : reverse c.push_reserved.new.self.items ≡ parts ∷ failing ∷ drop 1 (reverse old.control.items) =
    ap (λ (l : List Frame). reverse l) c.push_reserved.ensures.items
    ∙ (reverse-append c.replace_top.new.control.items (parts ∷ [])
    ∙ (ap (λ (l : List Frame). parts ∷ l) c.replace_top.ensures.items
    ∙ ap (λ (l : List Frame). parts ∷ failing ∷ drop 1 (reverse l)) same)) in
    let before : mid.spots.items ≡ old.spots.items = ap (λ v. v.items) e.spots ∙ c.reserve-2.ensures.items in
    let spots : c.push_reserved-2.new.self.items ≡ old.spots.items ++ t.spot ∷ [] = c.push_reserved-2.ensures.items ∙ (ap (λ (x : Spot). mid.spots.items ++ x ∷ []) spot ∙ ap (λ (l : List Spot). l ++ t.spot ∷ []) before) in
    let ready : Holds code (with_frames (reverse c.reserve.new.vector.items) c.reserve-2.new.vector.items (kept old)) s.control s.operands s.world =
    subst (λ (l : List Spot). Holds code (with_frames (reverse c.reserve.new.vector.items) l (kept old)) s.control s.operands s.world) (sym c.reserve-2.ensures.items)
    (subst (λ (l : List Frame). Holds code (with_frames (reverse l) old.spots.items (kept old)) s.control s.operands s.world) (sym c.reserve.ensures.items) c.requires.0.holds) in
    let begun : Holds code (kept mid) s.control s.operands (begin_finalization t.spot.object s.world) =
    subst (λ n. Holds code (kept mid) s.control s.operands (begin_finalization n s.world)) number (e.holds code s.control s.operands s.world ready) in
    gives_up code old mid _ c.args.record c.args.complete c.args.exception s t c.requires.0 c.requires.1.0 c.requires.1.1 same begun
    (ap (λ (l : List Frame). with_frames l c.push_reserved-2.new.self.items (kept mid)) control ∙ ap (λ (l : List Spot). with_frames (parts ∷ failing ∷ drop 1 (reverse old.control.items)) l (kept mid)) spots) refl
    (ap (λ v. v.items) e.events) (ap (λ v. v.items) e.picks)
