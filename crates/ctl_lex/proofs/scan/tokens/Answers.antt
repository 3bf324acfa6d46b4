use Rattle.std.proofs.Common.{inl, sym, ap, subst, ◌∙◌, arith, length-take-le, true-eqb, false-eqb, ℕ, List, [], ◌∷◌, ◌++◌}
use Rattle.ctl_tree.specs.declared.fault.FaultCode.TheVariants.{TooLong}
use Rattle.ctl_tree.specs.declared.token.Token.{Token}
use Rattle.ctl_lexis.specs.Places.{place_after}
use Rattle.ctl_lexis.specs.Lexis.{token_of, HasTokens, HasFault, fault_at, too_long}
use Rattle.ctl_lexis.specs.Reading.{piece_of}
use Rattle.ctl_lexis.proofs.Judged.{Judged, Found, Refused}
use Rattle.ctl_lexis.proofs.OneAnswer.{one_list, one_fault, never_both}
use Rattle.ctl_lex.proofs.ReadTo.{IsReadTo, rest_judged, found_within, refused_within, read_more, read_all, read_fault}
use Rattle.ctl_lex.proofs.scan.tokens.Goals as goal
use Rattle.ctl_lex.proofs.scan.tokens.Goals.{In-Ok, In-Err, After-drop-found-in-Err, In_ok-push}

-- a piece stands at the front of the rest
piece_at_front : (c : In-Ok) → Found c.loop-rest.rest.now c.in-Ok.shape c.in-Ok.length
piece_at_front c = subst (Judged c.loop-rest.rest.now) (sym c.in-Ok.ensures) (rest_judged c.loop-rest.rest.now (omega (arith, false-eqb _ 0 c.loop-rest-test.ensures)))

-- or a fault
fault_at_front : (c : In-Err) → Refused c.loop-rest.rest.now c.in-Err.code c.in-Err.offset
fault_at_front c = subst (Judged c.loop-rest.rest.now) (sym c.in-Err.ensures) (rest_judged c.loop-rest.rest.now (omega (arith, false-eqb _ 0 c.loop-rest-test.ensures)))

pub returns-then-source-gt-LONGEST_TEXT-clause-refused :
    goal.returns-then-source-gt-LONGEST_TEXT-clause-refused
returns-then-source-gt-LONGEST_TEXT-clause-refused c =
    inl (subst (HasFault c.args.source.now) (sym (c.at.ensures ∙ ap (fault_at TooLong) c.start-place.ensures)) (too_long c.if-source-gt-LONGEST_TEXT.true))

pub split_at-requires : goal.split_at-requires
split_at-requires c = (found_within c.loop-rest.rest.now c.in-Ok.shape c.in-Ok.length (piece_at_front (goal.at.split_at-requires c).In-Ok)).1

pub slice_bounds-before-end : goal.slice_bounds-before-end
slice_bounds-before-end c =
    sym (length-take-le c.in-Err.offset c.loop-rest.rest.now (refused_within c.loop-rest.rest.now c.in-Err.code c.in-Err.offset (fault_at_front (goal.at.slice_bounds-before-end c).In-Err)))

pub loop-rest-smaller : goal.loop-rest-smaller
loop-rest-smaller c =
    let some = (found_within c.loop-rest.rest.now c.in-Ok.shape c.in-Ok.length (piece_at_front (goal.at.loop-rest-smaller c).In-Ok)) in
    omega (arith, some.0, some.1, c.split_at.ensures.back_len)

pub loop-rest-preserved : goal.loop-rest-preserved
loop-rest-preserved c =
    let rest = c.loop-rest.rest.now in
    let found = piece_at_front (goal.at.loop-rest-preserved c).In-Ok in
    let within = found_within rest c.in-Ok.shape c.in-Ok.length found in
    let inv = c.loop-rest.invariant in
    let split = c.split_at.ensures in
    let added = c.in_ok-push_token-in-Ok.ensures ∙ ap (λ (us : List ℕ). c.loop-rest.found.items ++ token_of c.loop-rest.place.span (piece_of c.in-Ok.shape us)) split.front in
    let moved = c.place_after-place.ensures.place ∙ ap (place_after c.loop-rest.place) split.front in
    record {
      read = subst (IsReadTo c.args.source.now c.push_token.new.found.items c.place_after-place.result) (sym split.back) (read_more c.args.source.now rest c.loop-rest.found.items c.push_token.new.found.items c.loop-rest.place c.place_after-place.result c.in-Ok.shape c.in-Ok.length inv.read found added moved);
      short = inv.short;
      room = omega (arith, inv.room, c.place_after-place.ensures.room, split.back_len, split.front_len, within.1);
      from_one = c.place_after-place.ensures.from_one;
    }

-- the fault that is returned is the text's
faulty : (c : After-drop-found-in-Err) → HasFault c.args.source.now c.at-in-Err.result
faulty c =
    let rest = c.loop-rest.rest.now in
    let inv = c.loop-rest.invariant in
    subst (HasFault c.args.source.now) (sym (c.at-in-Err.ensures ∙ ap (fault_at c.in-Err.code) c.place_after.ensures.place)) (read_fault c.args.source.now rest c.loop-rest.found.items c.loop-rest.place c.in-Err.code c.in-Err.offset inv.short inv.read (fault_at_front (goal.at.returns-in-Err-clause-refused c).In-Err))

pub returns-in-Err-clause-refused : goal.returns-in-Err-clause-refused
returns-in-Err-clause-refused c = inl (faulty c)

pub returns-in-Err-clause-all_tokens : goal.returns-in-Err-clause-all_tokens
returns-in-Err-clause-all_tokens c = λ tokens has. absurd (never_both c.args.source.now tokens _ has (faulty c))

pub returns-in-Err-clause-all_faults : goal.returns-in-Err-clause-all_faults
returns-in-Err-clause-all_faults c = λ fault has. inl (one_fault c.args.source.now _ fault (faulty c) has)

-- the tokens that are returned are the text's
shown : (c : In_ok-push) → HasTokens c.args.source.now c.push.new.self.items
shown c =
    let inv = c.loop-rest.invariant in
    subst (HasTokens c.args.source.now) (sym (c.in_ok-push.ensures.items ∙ ap (λ (t : Token). c.loop-rest.found.items ++ t ∷ []) c.bare_token.ensures)) (read_all c.args.source.now c.loop-rest.rest.now c.loop-rest.found.items c.loop-rest.place inv.short (true-eqb _ 0 c.loop-rest-test.ensures) inv.read)

pub returns-clause-found : goal.returns-clause-found
returns-clause-found c = shown c

pub returns-clause-all_tokens : goal.returns-clause-all_tokens
returns-clause-all_tokens c = λ tokens has. one_list c.args.source.now _ tokens (shown c) has

pub returns-clause-all_faults : goal.returns-clause-all_faults
returns-clause-all_faults c = λ fault has. never_both c.args.source.now _ fault (shown c) has
