-- The laws of whole programs.
use Rattle.std.proofs.Common.{◌≡◌, ℕ, ◌+◌, false, List, [], ◌∷◌, ◌++◌, Ok, Err, refl, sym, ap, subst, ◌∙◌, append_assoc, inl, inr, arith}
use Rattle.std.proofs.lemmas.List.{append-nil}
use Rattle.ctl_tree.specs.declared.token.Token.{Token}
use Rattle.ctl_grammar.specs.Kind.{code}
use Rattle.ctl_grammar.specs.declared.refused.Reason.{Reason}
use Rattle.ctl_grammar.specs.declared.refused.Reason.TheVariants.{Unexpected, TooDeep, LeftOut, EndName}
use Rattle.ctl_grammar.specs.Form.{Node, none, every_rule, no_rule}
use Rattle.ctl_grammar.specs.Grammar.{program, identifier, selector, selectors, dotted, next_dotted, dotted_list, next_identifier, next_identifiers, identifiers, behind, flag, known, end_name, joiner, relational, sign, adding, multiplying, number, string, null, selection, attribute, suffix, suffixes, name, handle, qualified, allocator, primary, factor, multiplicand, multiplicands, term, addend, addends, simple, compared, relation, next_relation, relations, behind_and, behind_or, joined, expression, next_expression, expressions, mode_behind_in, mode, formal, next_formal, formal_list, in_formals, optional_formals, procedure, function, specification, association, next_association, association_list, optional_associations, optional_value, component, component_list, components, null_record, full_record, recorded, limited_record, extension, aspect, designated_attribute, access, definition, context_kind, context, contexts, defined, type_kind, type_item, clause, objects, named_kind, named_item, instance, while_scheme, for_scheme, scheme, choices, end_if, end_loop, simple_statement, statement, statements, branch, next_branch, branches, otherwise, handler, handler_list, handlers, handled, plain_formals, start_of_function, start_of_function_body, start_of_procedure, start_of_body, start_of_bare_body, behind_start, start_of_procedure_body, completed, completed_specification, completed_function, overriding_item, function_item, behind_is, behind_name, completed_procedure, procedure_item, item, part, completion, declared}
use Rattle.ctl_grammar.specs.Reading.{Read, ◌>>=◌, is_too_deep, read}
use Rattle.ctl_grammar.specs.Derivation.{Spells}
use Rattle.ctl_grammar.specs.Text.{IsProgram, BeginsProgram, ended, answer, IsUnexpected, IsRefused, SpellsOneTree, ReadsWhatIsSpelled, SpellsWhatIsRead, FindsTheUnexpected, FindsTheLeftOut, FindsTheEndName, FindsTheTooDeep}
use Rattle.ctl_grammar.proofs.Sound.{allows_same, allows_more, bind_ok}
use Rattle.ctl_grammar.proofs.Deeper.{gather, deeper}
use Rattle.ctl_grammar.proofs.Extends.{err_place, read_extends}
use Rattle.ctl_grammar.proofs.Samples.{samples}
use Rattle.ctl_grammar.proofs.Moved.{read_alike}
use Rattle.ctl_grammar.proofs.Whole.{IsWhole, plainly, spelled_is_read, read_is_spelled, spells_one, no_text, no_kept_text}

pub program_is_whole : IsWhole program
unfolding code program identifier selector selectors dotted next_dotted dotted_list next_identifier next_identifiers identifiers behind flag known end_name joiner relational sign adding multiplying number string null selection attribute suffix suffixes name handle qualified allocator primary factor multiplicand multiplicands term addend addends simple compared relation next_relation relations behind_and behind_or joined expression next_expression expressions mode_behind_in mode formal next_formal formal_list in_formals optional_formals procedure function specification association next_association association_list optional_associations optional_value component component_list components null_record full_record recorded limited_record extension aspect designated_attribute access definition context_kind context contexts defined type_kind type_item clause objects named_kind named_item instance while_scheme for_scheme scheme choices end_if end_loop simple_statement statement statements branch next_branch branches otherwise handler handler_list handlers handled plain_formals start_of_function start_of_function_body start_of_procedure start_of_body start_of_bare_body behind_start start_of_procedure_body completed completed_specification completed_function overriding_item function_item behind_is behind_name completed_procedure procedure_item item part completion declared
program_is_whole = record { clear = refl; ends = refl }

abbrev done : Node → List Token → Read
done v ts = Ok (v, ts)

abbrev fault : Reason → List Token → Read
fault r ts = Err (r, ts)

pub one_tree : SpellsOneTree
one_tree left more v w ts p q = spells_one program program_is_whole every_rule left more v w ts p q

-- what is read with places moved, from what is read
moved_ok : (left : ℕ) (v : Node) (ts rest : List Token) → plainly every_rule left program ts ≡ Ok (v, rest) → read left program none ts ≡ Ok (v, rest)
moved_ok left v ts rest e = elim (read_alike every_rule left program none ts) [
  | inl same ↦ sym same ∙ e
  | inr deep ↦ let clash = sym e ∙ deep.1.1 in absurd cc
]

back_ok : (left : ℕ) (v : Node) (ts rest : List Token) → read left program none ts ≡ Ok (v, rest) → plainly every_rule left program ts ≡ Ok (v, rest)
back_ok left v ts rest e = elim (read_alike every_rule left program none ts) [
  | inl same ↦ same ∙ e
  | inr deep ↦ let clash = sym e ∙ deep.0.1 in absurd cc
]

pub back_fault : (left : ℕ) (r : Reason) (ts rest : List Token) → is_too_deep r ≡ false → read left program none ts ≡ Err (r, rest) → plainly every_rule left program ts ≡ Err (r, rest)
back_fault left r ts rest shallow e = elim (read_alike every_rule left program none ts) [
  | inl same ↦ same ∙ e
  | inr deep ↦
      let clash : fault r rest ≡ fault TooDeep deep.0.0 = sym e ∙ deep.0.1 in
      let pairs : (x y : Reason × List Token) → fault x.0 x.1 ≡ fault y.0 y.1 → x ≡ y = λ x y k. cc in
      let reason : r ≡ TooDeep = ap (λ (x : Reason × List Token). x.0) (pairs (r, rest) (TooDeep, deep.0.0) clash) in
      let wrong : is_too_deep TooDeep ≡ false = subst (λ (x : Reason). is_too_deep x ≡ false) reason shallow in
      absurd cc
]

pub reads_what_is_spelled : ReadsWhatIsSpelled
unfolding answer
reads_what_is_spelled left v ts p =
    let plain : plainly every_rule left program ts ≡ Ok (v, []) = ap (plainly every_rule left program) (sym (append-nil ts)) ∙ spelled_is_read program program_is_whole every_rule left v ts [] p in
    ap (λ (o : Read). o >>= λ x. ended x.0 x.1) (moved_ok left v ts [] plain)

ended_ok : (w v : Node) (us rest : List Token) → ended w us ≡ done v rest → (us ≡ []) × (w ≡ v)
ended_ok w v [] rest e =
    let pairs : (x y : Node × List Token) → done x.0 x.1 ≡ done y.0 y.1 → x ≡ y = λ x y h. cc in
    (refl, ap (λ (x : Node × List Token). x.0) (pairs (w, []) (v, rest) e))
ended_ok w v (t ∷ us) rest e = absurd cc

ended_err : (w : Node) (us : List Token) (r : Reason) (rest : List Token) → ended w us ≡ Err (r, rest) → (r ≡ Unexpected) × (rest ≡ us)
ended_err w [] r rest e = absurd cc
ended_err w (t ∷ us) r rest e =
    let pairs : (x y : Reason × List Token) → fault x.0 x.1 ≡ fault y.0 y.1 → x ≡ y = λ x y h. cc in
    let p = pairs (Unexpected, t ∷ us) (r, rest) e in
    (sym (ap (λ (x : Reason × List Token). x.0) p), sym (ap (λ (x : Reason × List Token). x.1) p))

pub spells_what_is_read : SpellsWhatIsRead
unfolding answer
spells_what_is_read left v ts rest e =
    let b = bind_ok (read left program none ts) (λ x. ended x.0 x.1) (v, rest) e in
    let k = ended_ok b.0.0 v b.0.1 rest b.2 in
    let p = read_is_spelled program every_rule left b.0.0 ts b.0.1 (back_ok left b.0.0 ts b.0.1 b.1) in
    let whole : p.text ≡ ts = sym (append-nil p.text) ∙ ap (λ (us : List Token). p.text ++ us) (sym k.0) ∙ sym p.parts in
    subst (λ (us : List Token). IsProgram left v us) whole (subst (λ (w : Node). IsProgram left w p.text) k.1 p.is)

-- what stands before a fault begins a program
pub begun : (left : ℕ) (r : Reason) (ts rest : List Token) → plainly every_rule left program ts ≡ Err (r, rest) → (front : List Token) × (ts ≡ front ++ rest) × BeginsProgram front
begun left r ts rest e =
    let p = read_extends every_rule samples left program none ts r rest e in
    let q = gather no_rule program none p.node (p.front ++ p.more) p.is in
    (p.front, p.parts, (q.0, p.node, p.more, q.1))

-- a program, and a token behind it, begin no longer program
too_long : (left : ℕ) (v : Node) (text : List Token) (t : Token) → IsProgram left v text → BeginsProgram (text ++ t ∷ []) → ⊥
too_long left v text t p (d, w, more, q) =
    let whole : ((text ++ t ∷ []) ++ more) ++ [] ≡ text ++ t ∷ more = append-nil ((text ++ t ∷ []) ++ more) ∙ append_assoc text (t ∷ []) more in
    let up_q : Spells no_rule (left + d) program w ((text ++ t ∷ []) ++ more) = deeper no_rule no_rule (allows_same no_rule) d (left + d) left program none (omega arith) w ((text ++ t ∷ []) ++ more) q in
    let up_p : Spells no_rule (left + d) program v text = deeper every_rule no_rule (allows_more every_rule) left (left + d) d program none refl v text p in
    let one : plainly no_rule (left + d) program (text ++ t ∷ more) ≡ Ok (w, []) = ap (plainly no_rule (left + d) program) (sym whole) ∙ spelled_is_read program program_is_whole no_rule (left + d) w ((text ++ t ∷ []) ++ more) [] up_q in
    let two : plainly no_rule (left + d) program (text ++ t ∷ more) ≡ Ok (v, t ∷ more) = spelled_is_read program program_is_whole no_rule (left + d) v text (t ∷ more) up_p in
    let pairs : (x y : Node × List Token) → done x.0 x.1 ≡ done y.0 y.1 → x ≡ y = λ x y h. cc in
    let lists : [] ≡ t ∷ more = ap (λ (x : Node × List Token). x.1) (pairs (w, []) (v, t ∷ more) (sym one ∙ two)) in
    absurd cc

first_unexpected : (left : ℕ) (ts rest : List Token) → plainly every_rule left program ts ≡ Err (Unexpected, rest) → IsUnexpected ts rest
first_unexpected left ts rest e =
    let p = begun left Unexpected ts rest e in
    (p.0, p.1, p.2, λ t more is. no_text program program_is_whole every_rule left ts p.0 t more (subst (λ (us : List Token). plainly every_rule left program ts ≡ Err (Unexpected, us)) is e) (subst (λ (us : List Token). ts ≡ p.0 ++ us) is p.1))

pub finds_the_unexpected : FindsTheUnexpected
unfolding answer
finds_the_unexpected left ts rest e = elim (err_place (read left program none ts) (λ x. ended x.0 x.1) (Unexpected, rest) e) [
  | inl k ↦ first_unexpected left ts rest (back_fault left Unexpected ts rest refl k)
  | inr w ↦
      let k = ended_err w.0.0 w.0.1 Unexpected rest w.2 in
      let p = read_is_spelled program every_rule left w.0.0 ts w.0.1 (back_ok left w.0.0 ts w.0.1 w.1) in
      let parts : ts ≡ p.text ++ rest = p.parts ∙ ap (λ (us : List Token). p.text ++ us) (sym k.1) in
      let loose = deeper every_rule no_rule (allows_more every_rule) left (left + 0) 0 program none refl w.0.0 p.text p.is in
      (p.text, parts, (left + 0, w.0.0, [], subst (λ (us : List Token). Spells no_rule (left + 0) program w.0.0 us) (sym (append-nil p.text)) loose), λ t more is. too_long left w.0.0 p.text t p.is)
]

pub first_refused : (left : ℕ) (r : Reason) (ts rest : List Token) → plainly every_rule left program ts ≡ Err (r, rest) → IsRefused left ts rest
first_refused left r ts rest e =
    let p = begun left r ts rest e in (
      p.0,
      p.1,
      p.2,
      λ t more is v others q.
          no_kept_text program program_is_whole left ts p.0 r t more (subst (λ (us : List Token). plainly every_rule left program ts ≡ Err (r, us)) is e) (subst (λ (us : List Token). ts ≡ p.0 ++ us) is p.1) v others q,
    )

-- a fault of the reading that is not at the end of a whole program
pub inside : (left : ℕ) (r : Reason) (ts rest : List Token) → (r ≡ Unexpected → ⊥) → answer left ts ≡ Err (r, rest) → read left program none ts ≡ Err (r, rest)
unfolding answer
inside left r ts rest other e = elim (err_place (read left program none ts) (λ x. ended x.0 x.1) (r, rest) e) [
  | inl k ↦ k
  | inr w ↦ let k = ended_err w.0.0 w.0.1 r rest w.2 in absurd (other k.0)
]

pub finds_the_left_out : FindsTheLeftOut
finds_the_left_out left ts rest e = first_refused left LeftOut ts rest (back_fault left LeftOut ts rest refl (inside left LeftOut ts rest (λ k. absurd cc) e))

pub finds_the_end_name : FindsTheEndName
finds_the_end_name left ts rest e = first_refused left EndName ts rest (back_fault left EndName ts rest refl (inside left EndName ts rest (λ k. absurd cc) e))

pub finds_the_too_deep : FindsTheTooDeep
finds_the_too_deep left ts rest e =
    let k = inside left TooDeep ts rest (λ h. absurd cc) e in
    elim (read_alike every_rule left program none ts) [
      | inl same ↦ (rest, first_refused left TooDeep ts rest (same ∙ k))
      | inr deep ↦ (deep.1.0, first_refused left TooDeep ts deep.1.0 deep.1.1)
    ]
