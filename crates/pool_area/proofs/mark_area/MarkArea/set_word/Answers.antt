use Rattle.std.proofs.Common.{ℕ, ◌<◌, length, List, Option, sym, ap, subst, ◌∙◌, vec_capacity}
use Rattle.std.specs.Option.{option_map}
use Rattle.pool_area.specs.Lots.{Held, with_word}
use Rattle.pool_area.specs.Subpools.{block_words, with_block}
use Rattle.pool_area.proofs.StandsLemmas.{stands_edited, all_filled}
use Rattle.pool_area.proofs.SubpoolViews.{words_here, edited_view}
use Rattle.pool_area.proofs.mark_area.MarkArea.set_word.Goals as goal

pub set_word_at-requires-clause-filled : goal.set_word_at-requires-clause-filled
set_word_at-requires-clause-filled g c = let s = c.self.inside in all_filled s.pool.home s.subpools.items c.self.invariant.stacked

pub set_word_at-requires-clause-place : goal.set_word_at-requires-clause-place
set_word_at-requires-clause-place g c =
    let s = c.self.inside in
    let a = c.args in
    subst (λ (ws : List ℕ). a.place < length ws) (ap (block_words a.number a.index) (sym c.self.view_is) ∙ words_here a.number a.index s.subpools.items) c.requires

pub invariant_of-self : goal.invariant_of-self
invariant_of-self g c =
    let s = c.self.inside in
    let f : Option Held → Option Held = λ h. option_map (with_word c.args.place c.args.value) h in
    stands_edited s.pool s.size s.given (vec_capacity s.subpools) (vec_capacity c.set_word_at.new.subpools) c.args.number c.args.index f s.subpools.items c.set_word_at.new.subpools.items c.self.invariant c.set_word_at.ensures.edited c.set_word_at.ensures.room

pub returns : goal.returns
returns g c =
    let s = c.self.inside in
    let f : Option Held → Option Held = λ h. option_map (with_word c.args.place c.args.value) h in
    edited_view s.size s.pool.used s.given c.args.number c.args.index f s.subpools.items c.set_word_at.new.subpools.items c.set_word_at.ensures.edited ∙ ap (λ v. with_block c.args.number c.args.index f v) c.self.view_is
