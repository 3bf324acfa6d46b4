use Rattle.std.proofs.Common.{◌≡◌, ℕ, ◌+◌, ◌≤◌, length, List, Option, sym, ap, subst, ◌∙◌, vec_capacity}
use Rattle.std.specs.Option.{option_map}
use Rattle.pool_area.specs.Lots.{Held, with_words_over, run_of}
use Rattle.pool_area.specs.Rows.{lot_of, lot_words}
use Rattle.pool_area.specs.Subpools.{block_words, with_block}
use Rattle.pool_area.proofs.StandsLemmas.{stands_edited, all_filled}
use Rattle.pool_area.proofs.SubpoolViews.{words_here, edited_view}
use Rattle.pool_area.proofs.mark_area.MarkArea.copy_within.Goals as goal

pub copy_within_at-requires-clause-filled : goal.copy_within_at-requires-clause-filled
copy_within_at-requires-clause-filled g c = let s = c.self.inside in all_filled s.pool.home s.subpools.items c.self.invariant.stacked

pub copy_within_at-requires-clause-from : goal.copy_within_at-requires-clause-from
copy_within_at-requires-clause-from g c =
    let s = c.self.inside in
    let a = c.args in
    subst (λ (ws : List ℕ). a.from + a.count ≤ length ws) (ap (block_words a.number a.index) (sym c.self.view_is) ∙ words_here a.number a.index s.subpools.items) c.requires.from

pub copy_within_at-requires-clause-to : goal.copy_within_at-requires-clause-to
copy_within_at-requires-clause-to g c =
    let s = c.self.inside in
    let a = c.args in
    subst (λ (ws : List ℕ). a.to + a.count ≤ length ws) (ap (block_words a.number a.index) (sym c.self.view_is) ∙ words_here a.number a.index s.subpools.items) c.requires.to

pub invariant_of-self : goal.invariant_of-self
invariant_of-self g c =
    let s = c.self.inside in
    let others = run_of c.args.from c.args.count (lot_words (lot_of c.args.number c.args.index s.subpools.items)) in
    let f : Option Held → Option Held = λ h. option_map (with_words_over c.args.to others) h in
    stands_edited s.pool s.size s.given (vec_capacity s.subpools) (vec_capacity c.copy_within_at.new.subpools) c.args.number c.args.index f s.subpools.items c.copy_within_at.new.subpools.items c.self.invariant c.copy_within_at.ensures.edited c.copy_within_at.ensures.room

pub returns : goal.returns
returns g c =
    let s = c.self.inside in
    let a = c.args in
    let f : List ℕ → Option Held → Option Held = λ ws h. option_map (with_words_over a.to (run_of a.from a.count ws)) h in
    let here : List ℕ = lot_words (lot_of a.number a.index s.subpools.items) in
    let seen : here ≡ block_words a.number a.index a.self.now = sym (words_here a.number a.index s.subpools.items) ∙ ap (block_words a.number a.index) c.self.view_is in
    edited_view s.size s.pool.used s.given a.number a.index (f here) s.subpools.items c.copy_within_at.new.subpools.items c.copy_within_at.ensures.edited
    ∙ ap (λ v. with_block a.number a.index (f here) v) c.self.view_is
    ∙ ap (λ (ws : List ℕ). with_block a.number a.index (f ws) a.self.now) seen
