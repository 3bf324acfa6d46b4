use Rattle.std.proofs.Common.{rules, ◌<◌, refl, ◌∙◌, arith}
use Rattle.block_pool.proofs.Steps.{linking_new, first_word_held, linking_more}
use Rattle.block_pool.proofs.pool.link_all.Goals as goal

pub loop-i-init : goal.loop-i-init
loop-i-init g c = (refl, linking_new c.args.region.now c.args.block_words c.args.count c.requires.1)

pub write-requires : goal.write-requires
write-requires g c =
    let l = c.loop-i in
    let positive : 0 < c.args.block_words = omega (arith, c.requires.0.0) in
    let less : l.i < c.args.count = search rules in
    first_word_held l.region c.args.block_words c.args.count l.i l.head l.invariant.1 positive less

pub loop-i-preserved : goal.loop-i-preserved
loop-i-preserved g c =
    let l = c.loop-i in
    let positive : 0 < c.args.block_words = omega (arith, c.requires.0.0) in
    let less : l.i < c.args.count = search rules in (
      c.write.ensures.home ∙ l.invariant.0,
      linking_more l.region c.args.block_words c.args.count l.i l.head l.invariant.1 positive less c.write.new.self c.write.ensures.places,
    )
