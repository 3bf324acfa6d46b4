use Rattle.std.proofs.Common.{◌∷◌, ◌+◌, sym, ap, ◌∙◌, if◌then◌else◌, map, drop}
use Rattle.ctl_syntax.specs.declared.operators.Operand.{Operand}
use Rattle.ctl_typing.specs.Judgement.{with_known}
use Rattle.ctl_typing.specs.Putting as putting
use Rattle.ctl_typing.specs.Senses.{operand_sense, suffix_sense}
use Rattle.ctl_typing.specs.Typing as spec
use Rattle.ctl_typing.proofs.Joined.{joined_is, strung_added}
use Rattle.ctl_typing.proofs.Senses.{sense_name, sense_chain, sense_parentheses, sense_string}
use Rattle.ctl_typing.proofs.Stages.{judged_as}
use Rattle.ctl_typing.proofs.Turns.{next_of}
use Rattle.ctl_typing.proofs.texts.+texts.Goals as goal

pub joined_texts-returns : goal.joined_texts-returns
joined_texts-returns t c =
    let tables = c.args.tables.now in
    let put = λ (o : Operand spec.Sense). o.operand.texts tables in
    let x = spec.sense c.args.first.now in
    let o = operand_sense c.args.second.now in
    let os = map operand_sense c.args.rest.now in
    let start = c.args.notes.now in
    let middle = c.texts.new.notes in
    let ended = c.texts-second.new.notes in
    judged_as (putting.joined_texts tables x (o ∷ os)) (putting.texts_behind tables c.in_ok-so_far.so_far os) start ended c.texts_behind.new.notes c.texts_behind.result
    (joined_is (x.texts tables) put (o ∷ os) c.in_ok-first.first start middle c.in_ok-first.ensures
    ∙ sym (strung_added put c.in_ok-first.first c.in_ok-so_far.so_far o os middle ended (c.in_ok-so_far.ensures (put o) middle ended c.texts-second.ensures)))
    c.texts_behind.ensures

pub texts-returns-then-not-all_joining : goal.texts-returns-then-not-all_joining
texts-returns-then-not-all_joining t c =
    let i = c.in-Chain in
    let tables = c.args.tables.now in
    let place = i.field-0 in
    let start = c.args.notes.now in
    let x = spec.sense c.get-first.result.now in
    let os = operand_sense c.get-second.result.now ∷ map operand_sense c.as_slice-rest.result.now in
    let other = spec.no_text place (spec.chain_judged place x os) tables in
    rw (i.is, sense_chain place i.first i.second i.rest, ← c.get-first.ensures, ← c.get-second.ensures, ← c.as_slice-rest.ensures)
    (judged_as (spec.chain_texts place x os tables) other start start c.no_text.new.notes c.no_text.result
    (ap (λ b. (if b then putting.joined_texts tables x os else other) start) (sym c.all_joining.ensures ∙ c.if-not-all_joining.true))
    (rw (i.is, sense_chain place i.first i.second i.rest, ← c.get-first.ensures, ← c.get-second.ensures, ← c.as_slice-rest.ensures) at c.no_text.ensures))

pub texts-returns-in_ok-found-in-Name : goal.texts-returns-in_ok-found-in-Name
texts-returns-in_ok-found-in-Name t c =
    let i = c.in-Name in
    let tables = c.args.tables.now in
    let place = i.name.first.span in
    rw (i.is, sense_name i.field-0 i.name)
    (judged_as (spec.name_texts i.name.first (map suffix_sense i.name.suffixes) tables) (putting.name_put tables place c.in_ok-found-in-Name.found) c.args.notes.now c.found.new.notes c.name_put.new.notes c.name_put.result
    (ap (λ q. with_known (spec.text_found place) (with_known (spec.settled tables place) q)) c.in_ok-found-in-Name.ensures) c.name_put.ensures)

pub texts-returns-else-not-all_joining : goal.texts-returns-else-not-all_joining
texts-returns-else-not-all_joining t c =
    let i = c.in-Chain in
    let tables = c.args.tables.now in
    let place = i.field-0 in
    let start = c.args.notes.now in
    let x = spec.sense c.get-first.result.now in
    let os = operand_sense c.get-second.result.now ∷ map operand_sense c.as_slice-rest.result.now in
    let other = spec.no_text place (spec.chain_judged place x os) tables in
    rw (i.is, sense_chain place i.first i.second i.rest, ← c.get-first.ensures, ← c.get-second.ensures, ← c.as_slice-rest.ensures)
    (judged_as (spec.chain_texts place x os tables) (putting.joined_texts tables x os) start start c.joined_texts.new.notes c.joined_texts.result
    (ap (λ b. (if b then putting.joined_texts tables x os else other) start) (sym c.all_joining.ensures ∙ c.if-not-all_joining.false)) c.joined_texts.ensures)

pub texts-returns-in-String : goal.texts-returns-in-String
texts-returns-in-String t c = let i = c.in-String in rw (i.is, sense_string i.field-0 i.text) (c.literal.ensures c.args.notes.now)

pub texts-returns-in-Parentheses : goal.texts-returns-in-Parentheses
texts-returns-in-Parentheses t c = let i = c.in-Parentheses in rw (i.is, sense_parentheses i.field-0 i.inner, ← c.get.ensures) c.texts.ensures

pub texts_behind-loop-operand-preserved : goal.texts_behind-loop-operand-preserved
texts_behind-loop-operand-preserved t c =
    let all = c.args.rest.now in
    let i = c.loop-operand.operand-index in
    let tables = c.args.tables.now in
    let put = λ (o : Operand spec.Sense). o.operand.texts tables in
    let o = operand_sense c.operand-item.result in
    let before = c.loop-operand.notes in
    let ended = c.texts-text.new.notes in
    let split = next_of all i c.operand-item.result c.loop-operand-test.true c.operand-item.is in
    strung_added put c.loop-operand.done c.in_ok-done.done o (map operand_sense (drop (i + 1) all)) before ended (c.in_ok-done.ensures (put o) before ended c.texts-text.ensures)
    ∙ ap (λ os. putting.strung put c.loop-operand.done (map operand_sense os) before) (sym split)
    ∙ c.loop-operand.invariant
