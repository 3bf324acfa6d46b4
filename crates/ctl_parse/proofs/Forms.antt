-- Reading what is tested against what was read before, what stands apart from it, and what may be too deep.
use Rattle.std.proofs.Common.{◌≡◌, ℕ, Bool, true, false, cond, List, Option, Some, None, Ok, Err, refl, sym, ap, subst, ◌∙◌}
use Rattle.std.specs.Prelude.{◌&&◌}
use Rattle.ctl_tree.specs.declared.token.Token.{Token}
use Rattle.ctl_grammar.specs.declared.refused.Refused.{Refused}
use Rattle.ctl_grammar.specs.declared.refused.Refused.TheVariants as refused
use Rattle.ctl_grammar.specs.declared.refused.Reason.TheVariants.{TooDeep}
use Rattle.ctl_tree.specs.declared.token.Kind.{Kind}
use Rattle.ctl_tree.specs.declared.token.Kind.TheVariants.{Semicolon}
use Rattle.ctl_grammar.specs.Form.{Node, none, pair, tag, Form, word, within, when, act, late, ◌▸◌, starts, no_rule}
use Rattle.ctl_grammar.specs.Grammar.{apart, spot, transfer}
use Rattle.ctl_grammar.specs.Label.{Label}
use Rattle.ctl_grammar.specs.Nodes.{first, second, part_2}
use Rattle.ctl_grammar.specs.Reading.{Read, ◌>>=◌, begins, read, reader, nowhere, is_read, is_ahead, starts_too_deep}
use Rattle.ctl_parse.specs.declared.cursor.Parser.{Parser}
use Rattle.ctl_parse.specs.Kept.{kept, kept_parts, kept_read}
use Rattle.ctl_parse.specs.Reads.{Reads, Gave, Goes, Bounded, Bounds, Foreseen, is_sound, sees}
use Rattle.ctl_parse.specs.declared.depth.Heading.{Heading}
use Rattle.ctl_parse.specs.declared.depth.Heading.TheVariants as headings
use Rattle.ctl_parse.specs.Heading.{head_of}
use Rattle.ctl_grammar.proofs.Late.{start_alike, start_of_function_alike, start_of_procedure_alike}
use Rattle.ctl_parse.proofs.Keeping.{kept_part_2, paired}
use Rattle.ctl_parse.proofs.Steps.{same_parts, second_gave, being, making, then, kept_first, kept_second, staying}

-- ---- what was read before does not matter

pub elsewhere : {f : Form} {env other : Node} {p q : Parser} {a : Node} → ((left : ℕ) (ts : List Token) → read left f other ts ≡ read left f env ts) → Reads f env p a q → Reads f other p a q
elsewhere {f} {env} {other} {p} {q} {a} h k = record {
  left = k.left;
  goes = subst (λ (z : Read). Goes p.fault p.rest.now z a q.fault q.rest.now) (sym (h p.left p.rest.now)) k.goes;
}

-- ---- two parts, the second of which is tested against the first

first_gave : (k : Node → List Token → Read) (l : List Token → Read) (a b : Node) (us : List Token) (o : Read) (e : Option Refused) (vs : List Token)
    → ((v : Node) → kept v ≡ a → (ts : List Token) → k v ts ≡ l ts) → kept_read o ≡ Ok (a, us) → Gave (l us) b e vs → Gave (o >>= λ x. k x.0 x.1 >>= λ y. Ok (pair x.0 y.0, y.1)) (pair a b) e vs
first_gave k l a b us (Ok x) e vs same g h =
    let p = same_parts (kept x.0, x.1) (a, us) g in
    let q : kept x.0 ≡ a = ap (λ (z : Node × List Token). z.0) p in
    let r : x.1 ≡ us = ap (λ (z : Node × List Token). z.1) p in
    let there : k x.0 x.1 ≡ l us = same x.0 q x.1 ∙ ap l r in
    subst (λ (z : Read). Gave (z >>= λ y. Ok (pair x.0 y.0, y.1)) (pair a b) e vs) (sym there)
    (subst (λ (n : Node). Gave (l us >>= λ y. Ok (pair x.0 y.0, y.1)) (pair n b) e vs) q (second_gave pair (λ x y. refl) x.0 b (l us) e vs h))
first_gave k l a b us (Err d) e vs same g h = absurd cc

goes_inside : (k : Node → List Token → Read) (l : List Token → Read) (a b : Node) (ts us vs : List Token) (o : Read) (d e f : Option Refused)
    → ((v : Node) → kept v ≡ a → (xs : List Token) → k v xs ≡ l xs) → Goes d ts o a e us → Goes e us (l us) b f vs → Goes d ts (o >>= λ x. k x.0 x.1 >>= λ y. Ok (pair x.0 y.0, y.1)) (pair a b) f vs
goes_inside k l a b ts us vs o None None f same g h = first_gave k l a b us o f vs same g h
goes_inside k l a b ts us vs o None (Some refused.Memory) f same g h = subst (λ (z : Option Refused). Gave (o >>= λ x. k x.0 x.1 >>= λ y. Ok (pair x.0 y.0, y.1)) (pair a b) z vs) (sym h.0) tt
goes_inside k l a b ts us vs o None (Some (refused.Token r)) f same g h =
    subst (λ (z : Option Refused). Gave (o >>= λ x. k x.0 x.1 >>= λ y. Ok (pair x.0 y.0, y.1)) (pair a b) z vs) (sym h.0)
    (ap (λ (z : Read). z >>= λ x. k x.0 x.1 >>= λ y. Ok (pair x.0 y.0, y.1)) g ∙ ap (λ (z : List Token). Err (r, z)) (sym h.1))
goes_inside k l a b ts us vs o (Some x) e f same g h =
    let n = subst (λ (z : Option Refused). Goes z us (l us) b f vs) g.0 h in
    (n.0, n.1 ∙ g.1)

pub inside : {f g : Form} {env other : Node} {p q r : Parser} {a b : Node} (pick : Node → Node)
    → ((v : Node) → kept v ≡ a → (left : ℕ) (ts : List Token) → read left g (pick v) ts ≡ read left g other ts)
    → Reads f env p a q → Reads g other q b r → Reads (within f pick g) env p (pair a b) r
inside {f} {g} {env} {other} {p} {q} {r} {a} {b} pick same h k = record {
  left = k.left ∙ h.left;
  goes = goes_inside (λ v. read p.left g (pick v)) (read p.left g other) a b p.rest.now q.rest.now r.rest.now (read p.left f env p.rest.now) p.fault q.fault r.fault
      (λ v e ts. same v e p.left ts) h.goes
      (subst (λ (n : ℕ). Goes q.fault q.rest.now (read n g other q.rest.now) b r.fault r.rest.now) h.left k.goes);
}

-- what stands apart from what was read before
pub setting : {f : Form} {env : Node} {p q : Parser} {a : Node} → Reads f none p a q → Reads (apart f) env p a q
setting {f} {env} {p} {q} {a} h = making second kept_second (inside (λ v. none) (λ v e left ts. refl) (staying p) h)

-- ---- transfers of control

pub transferring : {label : Label} {leading : Kind} {rest : Form} {p q r s : Parser} {place v w : Node} → ((n : Node) → kept_parts label n ≡ n) → w ≡ pair place (tag label v) → Reads (spot leading) none p place q → Reads rest none q v r → Reads (word Semicolon) none r none s → Reads (transfer label leading rest) none p w s
transferring {label} whole is h i j = being is (making (λ v. pair (first v) (tag label (part_2 v))) (λ v. paired (kept_first v) (ap (tag label) (whole (kept (part_2 v)) ∙ kept_part_2 v))) (then h (then i j)))

-- ---- what is there if what was read before allows it

goes_when : (b c : Bool) (o : Read) (a : Node) (ts us : List Token) (d e : Option Refused) → b ≡ true → (is_sound d && c) ≡ true → Goes d ts o a e us → Goes d ts (cond (b && c) o (Ok (none, ts))) a e us
goes_when true true o a ts us None e h k g = g
goes_when true false o a ts us None e h k g = absurd cc
goes_when false c o a ts us d e h k g = absurd cc
goes_when true c o a ts us (Some x) e h k g = absurd cc

pub minding : {f : Form} {env : Node} {p q : Parser} {a : Node} (test : Node → Bool) → test env ≡ true → sees (starts f) p ≡ true → Reads f env p a q → Reads (when test f) env p a q
minding {f} {env} {p} {q} {a} test h s k = record {
  left = k.left;
  goes = goes_when (test env) (begins (starts f) p.rest.now) (read p.left f env p.rest.now) a p.rest.now q.rest.now p.fault q.fault h s k.goes;
}

goes_unless : (b c : Bool) (o : Read) (ts : List Token) (d : Option Refused) → (b && (is_sound d && c)) ≡ false → Goes d ts (cond (b && c) o (Ok (none, ts))) none d ts
goes_unless b c o ts (Some x) h = (refl, refl)
goes_unless true true o ts None h = absurd cc
goes_unless true false o ts None h = refl
goes_unless false c o ts None h = refl

pub leaving : {f : Form} {env : Node} (test : Node → Bool) (p : Parser) → (test env && sees (starts f) p) ≡ false → Reads (when test f) env p none p
leaving {f} {env} test p h = record {
  left = refl;
  goes = goes_unless (test env) (begins (starts f) p.rest.now) (read p.left f env p.rest.now) p.rest.now p.fault h;
}

-- ---- nodes of which the form is known

-- what is told of the node as it was read
gave_where : (P : Node → Type 0) (make : Node → Node) → (o : Read) → ((v : Node) (xs : List Token) → o ≡ Ok (v, xs) → P v) → ((v : Node) → P v → kept (make v) ≡ make (kept v))
    → (a : Node) (us : List Token) (e : Option Refused) → Gave o a e us → Gave (o >>= λ x. Ok (make x.0, x.1)) (make a) e us
gave_where P make (Ok x) told h a us None g =
    let p = same_parts (kept x.0, x.1) (a, us) g in
    ap (λ (n : Node). Ok (n, x.1)) (h x.0 (told x.0 x.1 refl)) ∙ ap (λ (z : Node × List Token). Ok (make z.0, z.1)) p
gave_where P make (Err d) told h a us None g = absurd cc
gave_where P make o told h a us (Some refused.Memory) g = tt
gave_where P make o told h a us (Some (refused.Token r)) g = ap (λ (z : Read). z >>= λ x. Ok (make x.0, x.1)) g

goes_where : (P : Node → Type 0) (make : Node → Node) → (o : Read) → ((v : Node) (xs : List Token) → o ≡ Ok (v, xs) → P v) → ((v : Node) → P v → kept (make v) ≡ make (kept v))
    → (a : Node) (ts us : List Token) (d e : Option Refused) → Goes d ts o a e us → Goes d ts (o >>= λ x. Ok (make x.0, x.1)) (make a) e us
goes_where P make o told h a ts us None e g = gave_where P make o told h a us e g
goes_where P make o told h a ts us (Some x) e g = g

pub making_where : {f : Form} {env : Node} {p q : Parser} {a : Node} (P : Node → Type 0) (make : Node → Node)
    → ((left : ℕ) (ts xs : List Token) (v : Node) → read left f env ts ≡ Ok (v, xs) → P v) → ((v : Node) → P v → kept (make v) ≡ make (kept v))
    → Reads f env p a q → Reads (act make f) env p (make a) q
making_where {f} {env} {p} {q} {a} P make told h k = record {
  left = k.left;
  goes = goes_where P make (read p.left f env p.rest.now) (λ v xs. told p.left p.rest.now xs v) h a p.rest.now q.rest.now p.fault q.fault k.goes;
}

-- ---- what may be too deep

late_sound : (o s : Read) (b : Bool) (a : Node) (ts us vs : List Token) (d e f : Option Refused)
    → Bounded d b e → us ≡ ts → (b ≡ true → s ≡ Err (TooDeep, ts)) → (b ≡ false → s ≡ o) → Goes e us o a f vs → Goes d ts s a f vs
late_sound o s b a ts us vs (Some x) e f h k here past g =
    let n = subst (λ (z : Option Refused). Goes z us o a f vs) h g in
    (n.0, n.1 ∙ k)
late_sound o s b a ts us vs None None f h k here past g =
    subst (λ (z : Read). Gave z a f vs) (sym (past h ∙ sym refl)) g
late_sound o s b a ts us vs None (Some refused.Memory) f h k here past g = subst (λ (z : Option Refused). Gave s a z vs) (sym g.0) tt
late_sound o s b a ts us vs None (Some (refused.Token r)) f h k here past g =
    subst (λ (z : Option Refused). Gave s a z vs) (sym g.0) (here h.0 ∙ ap (λ (z : List Token). Err (TooDeep, z)) (sym k ∙ sym g.1) ∙ ap (λ (z : _). Err (z, vs)) (sym h.1))

pub bounding : {head f : Form} {env : Node} {p q r : Parser} {a : Node} → Bounds head p q
    → ((left : ℕ) (ts : List Token) → starts_too_deep left head ts ≡ true → read left (late head f) env ts ≡ Err (TooDeep, ts))
    → ((left : ℕ) (ts : List Token) → starts_too_deep left head ts ≡ false → read left (late head f) env ts ≡ read left f env ts)
    → Reads f env q a r → Reads (late head f) env p a r
bounding {head} {f} {env} {p} {q} {r} {a} b here past k =
    let there = subst (λ (n : ℕ). Goes q.fault q.rest.now (read n f env q.rest.now) a r.fault r.rest.now) b.left k.goes in
    record {
      left = k.left ∙ b.left;
      goes = late_sound (read p.left f env p.rest.now) (read p.left (late head f) env p.rest.now) (starts_too_deep p.left head p.rest.now) a p.rest.now q.rest.now r.rest.now p.fault q.fault r.fault
          b.bounded b.rest (here p.left p.rest.now) (past p.left p.rest.now)
          (subst (λ (z : List Token). Goes q.fault q.rest.now (read p.left f env z) a r.fault r.rest.now) b.rest there);
    }

-- ---- rows that are not empty

gave_row : (o : Read) (k : List Token → Read) (us : List Token) → kept_read (o >>= λ x. k x.1 >>= λ y. Ok (pair x.0 y.0, y.1)) ≡ Ok (none, us) → ⊥
gave_row (Err d) k us h = absurd cc
gave_row (Ok x) k us h = gave_rest x (k x.1) us h
  where
    gave_rest : (x : Node × List Token) (o : Read) (us : List Token) → kept_read (o >>= λ y. Ok (pair x.0 y.0, y.1)) ≡ Ok (none, us) → ⊥
    gave_rest x (Err d) us h = absurd cc
    gave_rest x (Ok y) us h = let e = ap (λ (z : Node × List Token). z.0) (same_parts (pair (kept x.0) (kept y.0), y.1) (none, us) h) in absurd cc

goes_row : (o : Read) (k : List Token → Read) (ts us : List Token) (d e : Option Refused) → Goes d ts (o >>= λ x. k x.1 >>= λ y. Ok (pair x.0 y.0, y.1)) none e us → e ≡ None → ⊥
goes_row o k ts us None None g h = gave_row o k us g
goes_row o k ts us None (Some x) g h = absurd cc
goes_row o k ts us (Some x) e g h = absurd (let clash = sym h ∙ g.0 in absurd cc)

pub not_empty : {f g : Form} {env : Node} {p q : Parser} → Reads (f ▸ g) env p none q → q.fault ≡ None → ⊥
not_empty {f} {g} {env} {p} {q} k h = goes_row (read p.left f env p.rest.now) (read p.left g env) p.rest.now q.rest.now p.fault q.fault k.goes h

-- ---- looking ahead

gave_ahead : (o : Read) (v : Node) (us : List Token) (e : Option Refused) → Gave o v e us → Foreseen (is_read o) e
gave_ahead (Ok x) v us None g = refl
gave_ahead (Err d) v us None g = absurd cc
gave_ahead o v us (Some refused.Memory) g = tt
gave_ahead (Ok x) v us (Some (refused.Token r)) g = absurd cc
gave_ahead (Err d) v us (Some (refused.Token r)) g = refl

goes_ahead : (o s : Read) (v : Node) (ts us : List Token) (d e : Option Refused) → d ≡ None → o ≡ s → Goes d ts o v e us → Foreseen (is_read s) e
goes_ahead o s v ts us None e h k g = subst (λ (z : Read). Foreseen (is_read z) e) k (gave_ahead o v us e g)
goes_ahead o s v ts us (Some x) e h k g = absurd cc

pub foreseeing : {head : Form} {p q : Parser} {v : Node} → p.fault ≡ None → ((left : ℕ) (ts : List Token) → read left head none ts ≡ reader no_rule false nowhere head none ts) → Reads head none p v q → Foreseen (is_ahead head p.rest.now) q.fault
foreseeing {head} {p} {q} {v} h same k = goes_ahead (read p.left head none p.rest.now) (reader no_rule false nowhere head none p.rest.now) v p.rest.now q.rest.now p.fault q.fault h (same p.left p.rest.now) k.goes

pub head_alike : (h : Heading) (left : ℕ) (ts : List Token) → read left (head_of h) none ts ≡ reader no_rule false nowhere (head_of h) none ts
head_alike headings.Procedure left ts = start_of_procedure_alike left ts
head_alike headings.Function left ts = start_of_function_alike left ts
head_alike headings.Any left ts = start_alike left ts
