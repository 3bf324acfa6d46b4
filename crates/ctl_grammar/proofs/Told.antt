-- The laws of what is told: unknown names, names at ends and the depth, each by itself.
use Rattle.std.proofs.Common.{◌≡◌, ℕ, ◌+◌, Bool, true, false, List, [], ◌∷◌, ◌++◌, Ok, Err, refl, sym, ap, subst, ◌∙◌, append_assoc, inl, inr, arith}
use Rattle.std.specs.Prelude.{◌⊎◌}
use Rattle.std.proofs.lemmas.List.{append-nil}
use Rattle.ctl_tree.specs.declared.token.Token.{Token}
use Rattle.ctl_grammar.specs.declared.refused.Reason.{Reason}
use Rattle.ctl_grammar.specs.declared.refused.Reason.TheVariants.{Unexpected, TooDeep, LeftOut, EndName}
use Rattle.ctl_grammar.specs.Form.{Node, none, Rule, Known, Ends, Rules, every_rule, no_rule, only, Form}
use Rattle.ctl_grammar.specs.Grammar.{program}
use Rattle.ctl_grammar.specs.Reading.{Read, ◌>>=◌, broken, is_too_deep}
use Rattle.ctl_grammar.specs.Derivation.{Spells, Begins}
use Rattle.ctl_grammar.specs.Breaks.{BreaksConstruct, BreaksProgram}
use Rattle.ctl_grammar.specs.Text.{BeginsProgram, ended, answer, IsRefusedForDepth, NamesRefuseAlone, DepthRefusesAlone, IsToldExactly}
use Rattle.ctl_grammar.proofs.Sound.{allows_same}
use Rattle.ctl_grammar.proofs.Deeper.{Frees, Stopped, deeper, gather, read_agrees, read_agrees_beside}
use Rattle.ctl_grammar.proofs.Samples.{samples}
use Rattle.ctl_grammar.proofs.Moved.{read_alike}
use Rattle.ctl_grammar.proofs.Whole.{IsWhole, plainly, spelled_is_read, local_error, is_ruled}
use Rattle.ctl_grammar.proofs.Programs.{program_is_whole, inside, back_fault, begun}
use Rattle.ctl_grammar.proofs.Breaks.{reader_finds, construct_finds, reader_tells, construct_tells, all_begin}
use Rattle.ctl_grammar.proofs.Alone.{with_next}

-- ---- exactly

pub finds : (reason : Reason) → is_ruled reason ≡ true → (left : ℕ) (ts place : List Token) → answer left ts ≡ Err (reason, place) → BreaksProgram reason left ts place
finds reason ruled left ts place e =
    let other : reason ≡ Unexpected → ⊥ = λ k. let wrong : is_ruled Unexpected ≡ true = subst (λ (r : Reason). is_ruled r ≡ true) k ruled in absurd cc in
    reader_finds reason ruled left (BreaksConstruct reason left) (construct_finds reason ruled left) program none ts place (inside left reason ts place other e)

pub tells : (reason : Reason) (left : ℕ) (ts place : List Token) → BreaksProgram reason left ts place → answer left ts ≡ Err (reason, place)
unfolding answer
tells reason left ts place p = ap (λ (o : Read). o >>= λ x. ended x.0 x.1) (reader_tells reason left (BreaksConstruct reason left) (all_begin reason left) (construct_tells reason left) program program_is_whole.clear none ts place p)

pub told_exactly : (reason : Reason) → is_ruled reason ≡ true → IsToldExactly reason
told_exactly reason ruled left ts place = (finds reason ruled left ts place, tells reason left ts place)

pub left_out_exactly : IsToldExactly LeftOut
left_out_exactly = told_exactly LeftOut refl

pub end_name_exactly : IsToldExactly EndName
end_name_exactly = told_exactly EndName refl

pub too_deep_exactly : IsToldExactly TooDeep
too_deep_exactly = told_exactly TooDeep refl

-- ---- by itself

-- what does not stop a reader for one of these reasons stops the one that has fewer rules
still_stops : (lost : Reason → Bool) (o p : Read) (d : Reason) (rest : List Token) → lost d ≡ false → (p ≡ o) ⊎ Stopped lost o → o ≡ Err (d, rest) → p ≡ Err (d, rest)
still_stops lost o p d rest kept agrees e = elim agrees [
  | inl same ↦ same ∙ e
  | inr stopped ↦
      let clash : (let x : Read = Err (d, rest) in x) ≡ Err (stopped.0, stopped.1) = sym e ∙ stopped.2 in
      let pairs : (x y : Reason × List Token) → (let r : Read = Err x in r) ≡ Err y → x ≡ y = λ x y k. cc in
      let reason : d ≡ stopped.0 = ap (λ (x : Reason × List Token). x.0) (pairs (d, rest) (stopped.0, stopped.1) clash) in
      let wrong : lost d ≡ true = ap lost reason ∙ stopped.3 in
      absurd cc
]

-- A token that is refused where these rules count, whatever the depth, goes on with no text that keeps them.
no_text_with : (f : Form) → IsWhole f → (lost : Reason → Bool) (c : Rules) → Frees lost every_rule c → lost TooDeep ≡ true → (d : Reason) → lost d ≡ false
    → (left : ℕ) (ts front : List Token) (t : Token) (rest : List Token) → plainly every_rule left f ts ≡ Err (d, t ∷ rest) → ts ≡ front ++ t ∷ rest → Begins c f (front ++ t ∷ []) → ⊥
no_text_with f h lost c frees deep d kept left ts front t rest e parts (m, v, more, p) =
    let whole : ((front ++ t ∷ []) ++ more) ++ [] ≡ front ++ t ∷ more = append-nil ((front ++ t ∷ []) ++ more) ∙ append_assoc front (t ∷ []) more in
    let up_p : Spells c (left + m) f v ((front ++ t ∷ []) ++ more) = deeper c c (allows_same c) m (left + m) left f none (omega arith) v ((front ++ t ∷ []) ++ more) p in
    let good : plainly c (left + m) f (front ++ t ∷ more) ≡ Ok (v, []) = ap (plainly c (left + m) f) (sym whole) ∙ spelled_is_read f h c (left + m) v ((front ++ t ∷ []) ++ more) [] up_p in
    let here = local_error f h every_rule left ts d front t rest more e parts in
    let bad = still_stops lost (plainly every_rule left f (front ++ t ∷ more)) (plainly c (left + m) f (front ++ t ∷ more)) d (t ∷ more) kept (read_agrees lost every_rule c frees deep left m f none (front ++ t ∷ more)) here in
    let clash = sym good ∙ bad in
    absurd cc

-- A construct that is too deep goes on with no text of this depth, whatever its names.
no_text_within : (f : Form) → IsWhole f → (lost : Reason → Bool) → Frees lost every_rule no_rule → (d : Reason) → lost d ≡ false
    → (left : ℕ) (ts front : List Token) (t : Token) (rest : List Token) → plainly every_rule left f ts ≡ Err (d, t ∷ rest) → ts ≡ front ++ t ∷ rest → (v : Node) (more : List Token) → Spells no_rule left f v ((front ++ t ∷ []) ++ more) → ⊥
no_text_within f h lost frees d kept left ts front t rest e parts v more p =
    let whole : ((front ++ t ∷ []) ++ more) ++ [] ≡ front ++ t ∷ more = append-nil ((front ++ t ∷ []) ++ more) ∙ append_assoc front (t ∷ []) more in
    let good : plainly no_rule left f (front ++ t ∷ more) ≡ Ok (v, []) = ap (plainly no_rule left f) (sym whole) ∙ spelled_is_read f h no_rule left v ((front ++ t ∷ []) ++ more) [] p in
    let here = local_error f h every_rule left ts d front t rest more e parts in
    let bad = still_stops lost (plainly every_rule left f (front ++ t ∷ more)) (plainly no_rule left f (front ++ t ∷ more)) d (t ∷ more) kept (read_agrees_beside lost every_rule no_rule frees left f none (front ++ t ∷ more)) here in
    let clash = sym good ∙ bad in
    absurd cc

-- the reasons that go where this rule alone counts, and the depth does not
abbrev gone : Rule → Reason → Bool
gone rule Unexpected = false
gone rule TooDeep = true
gone Known LeftOut = false
gone Known EndName = true
gone Ends LeftOut = true
gone Ends EndName = false

gone_deep : (rule : Rule) → gone rule TooDeep ≡ true
gone_deep rule = refl

gone_not : (rule : Rule) → gone rule (broken rule) ≡ false
gone_not Known = refl
gone_not Ends = refl

frees_others : (rule : Rule) → Frees (gone rule) every_rule (only rule)
frees_others rule other true = inl refl
frees_others Known Known false = inl refl
frees_others Known Ends false = inr (refl, refl)
frees_others Ends Known false = inr (refl, refl)
frees_others Ends Ends false = inl refl

-- the reasons that are broken rules of names
abbrev is_name : Reason → Bool
is_name Unexpected = false
is_name TooDeep = false
is_name LeftOut = true
is_name EndName = true

frees_names : Frees is_name every_rule no_rule
frees_names rule true = inl refl
frees_names Known false = inr (refl, refl)
frees_names Ends false = inr (refl, refl)

shallow : (rule : Rule) → is_too_deep (broken rule) ≡ false
shallow Known = refl
shallow Ends = refl

ruled_name : (rule : Rule) → is_ruled (broken rule) ≡ true
ruled_name Known = refl
ruled_name Ends = refl

pub names_refuse_alone : NamesRefuseAlone
names_refuse_alone rule left ts rest e =
    let p = with_next (broken rule) (shallow rule) samples left program none ts rest (finds (broken rule) (ruled_name rule) left ts rest e) in
    let q = gather no_rule program none p.node (p.front ++ p.next ∷ p.more) p.is in
    let begins : BeginsProgram (p.front ++ p.next ∷ []) = (q.0, p.node, p.more, subst (λ (us : List Token). Spells no_rule q.0 program p.node us) (sym (append_assoc p.front (p.next ∷ []) p.more)) q.1) in
    let other : broken rule ≡ Unexpected → ⊥ = λ k. let wrong : is_ruled Unexpected ≡ true = subst (λ (r : Reason). is_ruled r ≡ true) k (ruled_name rule) in absurd cc in
    let staying = back_fault left (broken rule) ts rest (shallow rule) (inside left (broken rule) ts rest other e) in
    let here : plainly every_rule left program ts ≡ Err (broken rule, p.next ∷ p.rest) = subst (λ (us : List Token). plainly every_rule left program ts ≡ Err (broken rule, us)) p.here staying in
    (p.front, p.next, p.rest, p.parts, p.here, begins, no_text_with program program_is_whole (gone rule) (only rule) (frees_others rule) (gone_deep rule) (broken rule) (gone_not rule) left ts p.front p.next p.rest here p.parts)

refused_for_depth : (left : ℕ) (ts there : List Token) → plainly every_rule left program ts ≡ Err (TooDeep, there) → IsRefusedForDepth left ts there
refused_for_depth left ts there e =
    let p = begun left TooDeep ts there e in (
      p.0,
      p.1,
      p.2,
      λ t more is v others q.
          no_text_within program program_is_whole is_name frees_names TooDeep refl left ts p.0 t more (subst (λ (us : List Token). plainly every_rule left program ts ≡ Err (TooDeep, us)) is e) (subst (λ (us : List Token). ts ≡ p.0 ++ us) is p.1) v others q,
    )

pub depth_alone : (left : ℕ) (ts there : List Token) → plainly every_rule left program ts ≡ Err (TooDeep, there) → IsRefusedForDepth left ts there
depth_alone = refused_for_depth

pub depth_refuses_alone : DepthRefusesAlone
depth_refuses_alone left ts rest e =
    let k = inside left TooDeep ts rest (λ h. absurd cc) e in
    elim (read_alike every_rule left program none ts) [
      | inl same ↦ (rest, refused_for_depth left ts rest (same ∙ k))
      | inr deep ↦ (deep.1.0, refused_for_depth left ts deep.1.0 deep.1.1)
    ]
