-- Reading step by step: what the parser did for the parts of a form is what it did for the form.
use Rattle.std.proofs.Common.{◌≡◌, ℕ, ◌+◌, ◌-◌, Bool, true, false, cond, List, Option, Some, None, Ok, Err, refl, sym, ap, subst, ◌∙◌, arith}
use Rattle.std.specs.Prelude.{◌&&◌}
use Rattle.ctl_tree.specs.declared.token.Token.{Token}
use Rattle.ctl_grammar.specs.declared.refused.Reason.TheVariants.{Unexpected, TooDeep}
use Rattle.ctl_grammar.specs.declared.refused.Refused.{Refused}
use Rattle.ctl_grammar.specs.declared.refused.Refused.TheVariants as refused
use Rattle.ctl_grammar.specs.Form.{Node, none, leaf, num, written, at, pair, tag, Nest, Form, empty, alt, act, nest, ◌▸◌, starts, nest_starts, every_rule}
use Rattle.ctl_grammar.specs.Grammar.{body}
use Rattle.ctl_grammar.specs.Nodes.{first, second, place, spelling, value, identifier_of, number_of, string_of, name_of, parentheses_of, product_of, unsigned_sum_of, sum_of, relation_of, logical_of, allocator_of}
use Rattle.ctl_grammar.specs.Reading.{Read, ◌>>=◌, begins, read, construct}
use Rattle.ctl_grammar.proofs.Constructs.{construct_opened, construct_full, construct_other}
use Rattle.ctl_parse.specs.declared.cursor.Parser.{Parser}
use Rattle.ctl_parse.specs.Kept.{kept, kept_read}
use Rattle.ctl_parse.specs.Reads.{Reads, Stops, Builds, Gave, Goes, Made, Opened, Unopened, Barred, is_sound, sees}

-- ---- what is kept of parts

pub kept_first : (v : Node) → kept (first v) ≡ first (kept v)
kept_first none = refl
kept_first (leaf t) = refl
kept_first (num n) = refl
kept_first (written s) = refl
kept_first (at p) = refl
kept_first (pair a b) = refl
kept_first (tag n v) = refl

pub kept_second : (v : Node) → kept (second v) ≡ second (kept v)
kept_second none = refl
kept_second (leaf t) = refl
kept_second (num n) = refl
kept_second (written s) = refl
kept_second (at p) = refl
kept_second (pair a b) = refl
kept_second (tag n v) = refl

kept_place : (v : Node) → kept (place v) ≡ place (kept v)
kept_place none = refl
kept_place (leaf t) = refl
kept_place (num n) = refl
kept_place (written s) = refl
kept_place (at p) = refl
kept_place (pair a b) = refl
kept_place (tag n v) = refl

kept_spelling : (v : Node) → kept (spelling v) ≡ spelling (kept v)
kept_spelling none = refl
kept_spelling (leaf t) = refl
kept_spelling (num n) = refl
kept_spelling (written s) = refl
kept_spelling (at p) = refl
kept_spelling (pair a b) = refl
kept_spelling (tag n v) = refl

kept_value : (v : Node) → kept (value v) ≡ value (kept v)
kept_value none = refl
kept_value (leaf t) = refl
kept_value (num n) = refl
kept_value (written s) = refl
kept_value (at p) = refl
kept_value (pair a b) = refl
kept_value (tag n v) = refl

pub kept_identifier : (v : Node) → kept (identifier_of v) ≡ identifier_of (kept v)
kept_identifier v = rw (kept_spelling v, kept_place v) refl

pub kept_number : (v : Node) → kept (number_of v) ≡ number_of (kept v)
kept_number v = rw (kept_value v, kept_place v) refl

pub kept_string : (v : Node) → kept (string_of v) ≡ string_of (kept v)
kept_string v = rw (kept_spelling v, kept_place v) refl

pub kept_name : (v : Node) → kept (name_of v) ≡ name_of (kept v)
kept_name v = rw (kept_second (first v), kept_first v) refl

pub kept_parentheses : (v : Node) → kept (parentheses_of v) ≡ parentheses_of (kept v)
kept_parentheses v = rw (kept_first v, kept_second v) refl

pub kept_product : (a b : Node) → kept (product_of a b) ≡ product_of (kept a) (kept b)
kept_product a none = refl
kept_product a (leaf t) = refl
kept_product a (num n) = refl
kept_product a (written s) = refl
kept_product a (at p) = refl
kept_product a (pair x y) = rw (kept_first a) refl
kept_product a (tag n v) = refl

kept_unsigned_sum : (a b : Node) → kept (unsigned_sum_of a b) ≡ unsigned_sum_of (kept a) (kept b)
kept_unsigned_sum a none = refl
kept_unsigned_sum a (leaf t) = refl
kept_unsigned_sum a (num n) = refl
kept_unsigned_sum a (written s) = refl
kept_unsigned_sum a (at p) = refl
kept_unsigned_sum a (pair x y) = rw (kept_first a) refl
kept_unsigned_sum a (tag n v) = refl

pub kept_sum : (s a b : Node) → kept (sum_of s a b) ≡ sum_of (kept s) (kept a) (kept b)
kept_sum none a b = kept_unsigned_sum a b
kept_sum (leaf t) a b = refl
kept_sum (num n) a b = refl
kept_sum (written t) a b = refl
kept_sum (at p) a b = refl
kept_sum (pair x y) a b = refl
kept_sum (tag n v) a b = refl

pub kept_sum_parts : (x y : Node) → kept (sum_of x (first y) (second y)) ≡ sum_of (kept x) (first (kept y)) (second (kept y))
kept_sum_parts x y = kept_sum x (first y) (second y) ∙ ap (λ (n : Node). sum_of (kept x) n (kept (second y))) (kept_first y) ∙ ap (λ (n : Node). sum_of (kept x) (first (kept y)) n) (kept_second y)

pub kept_allocator : (x y : Node) → kept (allocator_of x (first y) (first (second y)) (second (second y))) ≡ allocator_of (kept x) (first (kept y)) (first (second (kept y))) (second (second (kept y)))
kept_allocator x y = rw (kept_first (second y), kept_second (second y), kept_first y, kept_second y) refl

pub kept_relation : (a b : Node) → kept (relation_of a b) ≡ relation_of (kept a) (kept b)
kept_relation a none = refl
kept_relation a (leaf t) = refl
kept_relation a (num n) = refl
kept_relation a (written s) = refl
kept_relation a (at p) = refl
kept_relation a (pair x y) = rw (kept_first a) refl
kept_relation a (tag n v) = refl

pub kept_logical : (a b : Node) → kept (logical_of a b) ≡ logical_of (kept a) (kept b)
kept_logical a none = refl
kept_logical a (leaf t) = refl
kept_logical a (num n) = refl
kept_logical a (written s) = refl
kept_logical a (at p) = refl
kept_logical a (pair x y) = rw (kept_first a) refl
kept_logical a (tag n v) = refl

-- ---- one step behind another

-- the parts of what was read
pub same_parts : (x y : Node × List Token) → (let o : Read = Ok x in o) ≡ Ok y → x ≡ y
same_parts x y h = cc

-- what is read in two steps, with a node made from both
abbrev two : (Node → Node → Node) → Read → (List Token → Read) → Read
two m o k = o >>= λ x. k x.1 >>= λ y. Ok (m x.0 y.0, y.1)

abbrev Homo : (Node → Node → Node) → Type 0
Homo m = (x y : Node) → kept (m x y) ≡ m (kept x) (kept y)

pub second_gave : (m : Node → Node → Node) → Homo m → (x b : Node) (o : Read) (e : Option Refused) (vs : List Token) → Gave o b e vs → Gave (o >>= λ y. Ok (m x y.0, y.1)) (m (kept x) b) e vs
second_gave m h x b (Ok y) None vs g =
    let p = same_parts (kept y.0, y.1) (b, vs) g in
    ap (λ (z : Node × List Token). Ok (z.0, z.1)) (ap (λ (n : Node). (n, y.1)) (h x y.0) ∙ ap (λ (z : Node × List Token). (m (kept x) z.0, z.1)) p)
second_gave m h x b (Err d) None vs g = absurd cc
second_gave m h x b o (Some refused.Memory) vs g = tt
second_gave m h x b o (Some (refused.Token r)) vs g = ap (λ (z : Read). z >>= λ y. Ok (m x y.0, y.1)) g

first_gave : (m : Node → Node → Node) → Homo m → (a b : Node) (us : List Token) (o : Read) (k : List Token → Read) (e : Option Refused) (vs : List Token) → kept_read o ≡ Ok (a, us) → Gave (k us) b e vs → Gave (two m o k) (m a b) e vs
first_gave m h a b us (Ok x) k e vs g l =
    let p = same_parts (kept x.0, x.1) (a, us) g in
    let q : kept x.0 ≡ a = ap (λ (z : Node × List Token). z.0) p in
    let r : x.1 ≡ us = ap (λ (z : Node × List Token). z.1) p in
    subst (λ (n : Node). Gave (k x.1 >>= λ y. Ok (m x.0 y.0, y.1)) (m n b) e vs) q (second_gave m h x.0 b (k x.1) e vs (subst (λ (z : List Token). Gave (k z) b e vs) (sym r) l))
first_gave m h a b us (Err d) k e vs g l = absurd cc

goes_on : (m : Node → Node → Node) → Homo m → (a b : Node) (ts us vs : List Token) (o : Read) (k : List Token → Read) (d e f : Option Refused) → Goes d ts o a e us → Goes e us (k us) b f vs → Goes d ts (two m o k) (m a b) f vs
goes_on m h a b ts us vs o k None None f g l = first_gave m h a b us o k f vs g l
goes_on m h a b ts us vs o k None (Some refused.Memory) f g l = subst (λ (z : Option Refused). Gave (two m o k) (m a b) z vs) (sym l.0) tt
goes_on m h a b ts us vs o k None (Some (refused.Token r)) f g l =
    subst (λ (z : Option Refused). Gave (two m o k) (m a b) z vs) (sym l.0) (ap (λ (z : Read). z >>= λ x. k x.1 >>= λ y. Ok (m x.0 y.0, y.1)) g ∙ ap (λ (z : List Token). Err (r, z)) (sym l.1))
goes_on m h a b ts us vs o k (Some x) e f g l =
    let n = subst (λ (z : Option Refused). Goes z us (k us) b f vs) g.0 l in
    (n.0, n.1 ∙ g.1)

pub then : {f g : Form} {env : Node} {p q r : Parser} {a b : Node} → Reads f env p a q → Reads g env q b r → Reads (f ▸ g) env p (pair a b) r
then {f} {g} {env} {p} {q} {r} {a} {b} h k = record {
  left = k.left ∙ h.left;
  goes = goes_on pair (λ x y. refl) a b p.rest.now q.rest.now r.rest.now (read p.left f env p.rest.now) (read p.left g env) p.fault q.fault r.fault h.goes
      (subst (λ (n : ℕ). Goes q.fault q.rest.now (read n g env q.rest.now) b r.fault r.rest.now) h.left k.goes);
}

-- ---- a node made from what was read

gave_made : (make keep : Node → Node) → ((v : Node) → kept (make v) ≡ keep (kept v)) → (a : Node) (us : List Token) (o : Read) (e : Option Refused) → Gave o a e us → Gave (o >>= λ x. Ok (make x.0, x.1)) (keep a) e us
gave_made make keep h a us (Ok x) None g =
    let p = same_parts (kept x.0, x.1) (a, us) g in
    ap (λ (z : Node × List Token). Ok (z.0, z.1)) (ap (λ (n : Node). (n, x.1)) (h x.0) ∙ ap (λ (z : Node × List Token). (keep z.0, z.1)) p)
gave_made make keep h a us (Err d) None g = absurd cc
gave_made make keep h a us o (Some refused.Memory) g = tt
gave_made make keep h a us o (Some (refused.Token r)) g = ap (λ (z : Read). z >>= λ x. Ok (make x.0, x.1)) g

goes_made : (make keep : Node → Node) → ((v : Node) → kept (make v) ≡ keep (kept v)) → (a : Node) (ts us : List Token) (o : Read) (d e : Option Refused) → Goes d ts o a e us → Goes d ts (o >>= λ x. Ok (make x.0, x.1)) (keep a) e us
goes_made make keep h a ts us o None e g = gave_made make keep h a us o e g
goes_made make keep h a ts us o (Some f) e g = g

-- what is kept of the node is made by another function of what is kept of its parts
pub keeping : {f : Form} {env : Node} {p q : Parser} {a : Node} (make keep : Node → Node) → ((v : Node) → kept (make v) ≡ keep (kept v)) → Reads f env p a q → Reads (act make f) env p (keep a) q
keeping {f} {env} {p} {q} {a} make keep h k = record {
  left = k.left;
  goes = goes_made make keep h a p.rest.now q.rest.now (read p.left f env p.rest.now) p.fault q.fault k.goes;
}

pub making : {f : Form} {env : Node} {p q : Parser} {a : Node} (make : Node → Node) → ((v : Node) → kept (make v) ≡ make (kept v)) → Reads f env p a q → Reads (act make f) env p (make a) q
making {f} {env} {p} {q} {a} make h k = keeping make make h k

-- a node made from the parts of a pair
bind_pair : (make : Node → Node) (o : Read) (k : List Token → Read) → (two pair o k >>= λ z. Ok (make z.0, z.1)) ≡ two (λ x y. make (pair x y)) o k
bind_pair make (Err e) k = refl
bind_pair make (Ok x) k = bind_second make x.0 (k x.1)
  where
    bind_second : (make : Node → Node) (x : Node) (o : Read) → ((o >>= λ y. Ok (pair x y.0, y.1)) >>= λ z. Ok (make z.0, z.1)) ≡ (o >>= λ y. Ok (make (pair x y.0), y.1))
    bind_second make x (Err e) = refl
    bind_second make x (Ok y) = refl

pub making_2 : {f g : Form} {env : Node} {p q r : Parser} {a b : Node} (make : Node → Node) → ((x y : Node) → kept (make (pair x y)) ≡ make (pair (kept x) (kept y))) → Reads f env p a q → Reads g env q b r → Reads (act make (f ▸ g)) env p (make (pair a b)) r
making_2 {f} {g} {env} {p} {q} {r} {a} {b} make keep h k =
    let o = read p.left f env p.rest.now in
    let s = read p.left g env in
    record {
      left = k.left ∙ h.left;
      goes = subst (λ (z : Read). Goes p.fault p.rest.now z (make (pair a b)) r.fault r.rest.now) (sym (bind_pair make o s))
          (goes_on (λ x y. make (pair x y)) keep a b p.rest.now q.rest.now r.rest.now o s p.fault q.fault r.fault h.goes
          (subst (λ (n : ℕ). Goes q.fault q.rest.now (read n g env q.rest.now) b r.fault r.rest.now) h.left k.goes));
    }

-- ---- the node itself

gave_built : (o : Read) (a v : Node) (us : List Token) (e f : Option Refused) → Gave o a e us → Made e a v f → Gave o v f us
gave_built o a v us None None g m = g ∙ ap (λ (z : Node). Ok (z, us)) (sym m)
gave_built o a v us None (Some refused.Memory) g m = tt
gave_built o a v us None (Some (refused.Token r)) g m = absurd m
gave_built o a v us (Some refused.Memory) f g m = subst (λ (z : Option Refused). Gave o v z us) (sym m) tt
gave_built o a v us (Some (refused.Token r)) f g m = subst (λ (z : Option Refused). Gave o v z us) (sym m) g

goes_built : (o : Read) (a v : Node) (ts us : List Token) (d e f : Option Refused) → Goes d ts o a e us → Made e a v f → Goes d ts o v f us
goes_built o a v ts us None e f g m = gave_built o a v us e f g m
goes_built o a v ts us (Some x) e f g m =
    let n = subst (λ (z : Option Refused). Made z a v f) g.0 m in
    (n, g.1)

pub building : {form : Form} {env : Node} {p q r : Parser} {a v : Node} → Reads form env p a q → Builds a q v r → Reads form env p v r
building {form} {env} {p} {q} {r} {a} {v} h k = record {
  left = k.left ∙ h.left;
  goes = subst (λ (z : List Token). Goes p.fault p.rest.now (read p.left form env p.rest.now) v r.fault z) (sym k.rest)
      (goes_built (read p.left form env p.rest.now) a v p.rest.now q.rest.now p.fault q.fault r.fault h.goes k.made);
}

-- a node that was made from what amounts to the same where no fault stands
made_as : (w x v : Node) (e f : Option Refused) → (e ≡ None → x ≡ w) → Made e w v f → Made e x v f
made_as w x v None None h m = m ∙ sym (h refl)
made_as w x v None (Some refused.Memory) h m = tt
made_as w x v None (Some (refused.Token r)) h m = absurd m
made_as w x v (Some y) f h m = m

pub building_as : {q r : Parser} {w x v : Node} → (q.fault ≡ None → x ≡ w) → Builds w q v r → Builds x q v r
building_as {q} {r} {w} {x} {v} h k = record { left = k.left; rest = k.rest; made = made_as w x v q.fault r.fault h k.made }

made_from : (w v : Node) (e f : Option Refused) → Made e w v f → f ≡ None → v ≡ w
made_from w v None None m h = m
made_from w v None (Some x) m h = absurd cc
made_from w v (Some x) f m h = absurd (let clash = sym h ∙ m in absurd cc)

pub built_from : {q r : Parser} {w v : Node} → Builds w q v r → r.fault ≡ None → v ≡ w
built_from {q} {r} {w} {v} k h = made_from w v q.fault r.fault k.made h

made_before : (w v : Node) (e f : Option Refused) → Made e w v f → f ≡ None → e ≡ None
made_before w v None f m h = refl
made_before w v (Some x) f m h = absurd (let clash = sym h ∙ m in absurd cc)

pub built_before : {q r : Parser} {w v : Node} → Builds w q v r → r.fault ≡ None → q.fault ≡ None
built_before {q} {r} {w} {v} k h = made_before w v q.fault r.fault k.made h

-- what was read stands where another node is made
gave_moved : (o : Read) (a w v : Node) (us : List Token) (e f : Option Refused) → Gave o a e us → Made e w v f → Gave o a f us
gave_moved o a w v us None None g m = g
gave_moved o a w v us None (Some refused.Memory) g m = tt
gave_moved o a w v us None (Some (refused.Token r)) g m = absurd m
gave_moved o a w v us (Some x) f g m = subst (λ (z : Option Refused). Gave o a z us) (sym m) g

goes_moved : (o : Read) (a w v : Node) (ts us : List Token) (d e f : Option Refused) → Goes d ts o a e us → Made e w v f → Goes d ts o a f us
goes_moved o a w v ts us None e f g m = gave_moved o a w v us e f g m
goes_moved o a w v ts us (Some x) e f g m = let n = subst (λ (z : Option Refused). Made z w v f) g.0 m in (n, g.1)

pub moving : {form : Form} {env : Node} {p q r : Parser} {a w v : Node} → Reads form env p a q → Builds w q v r → Reads form env p a r
moving {form} {env} {p} {q} {r} {a} {w} {v} h k = record {
  left = k.left ∙ h.left;
  goes = subst (λ (z : List Token). Goes p.fault p.rest.now (read p.left form env p.rest.now) a r.fault z) (sym k.rest)
      (goes_moved (read p.left form env p.rest.now) a w v p.rest.now q.rest.now p.fault q.fault r.fault h.goes k.made);
}

pub being : {form : Form} {env : Node} {p q : Parser} {a v : Node} → v ≡ a → Reads form env p a q → Reads form env p v q
being {form} {env} {p} {q} e h = subst (λ (z : Node). Reads form env p z q) (sym e) h

-- ---- choices

goes_first : (b : Bool) (o s : Read) (a : Node) (ts us : List Token) (d e : Option Refused) → (is_sound d && b) ≡ true → Goes d ts o a e us → Goes d ts (cond b o s) a e us
goes_first true o s a ts us None e h g = g
goes_first false o s a ts us None e h g = absurd cc
goes_first b o s a ts us (Some x) e h g = absurd cc

goes_second : (b : Bool) (o s : Read) (a : Node) (ts us : List Token) (d e : Option Refused) → (is_sound d && b) ≡ false → Goes d ts s a e us → Goes d ts (cond b o s) a e us
goes_second true o s a ts us None e h g = absurd cc
goes_second false o s a ts us None e h g = g
goes_second b o s a ts us (Some x) e h g = g

pub choosing : {f g : Form} {env : Node} {p q : Parser} {a : Node} → sees (starts f) p ≡ true → Reads f env p a q → Reads (alt f g) env p a q
choosing {f} {g} {env} {p} {q} {a} h k = record {
  left = k.left;
  goes = goes_first (begins (starts f) p.rest.now) (read p.left f env p.rest.now) (read p.left g env p.rest.now) a p.rest.now q.rest.now p.fault q.fault h k.goes;
}

pub passing : {f g : Form} {env : Node} {p q : Parser} {a : Node} → sees (starts f) p ≡ false → Reads g env p a q → Reads (alt f g) env p a q
passing {f} {g} {env} {p} {q} {a} h k = record {
  left = k.left;
  goes = goes_second (begins (starts f) p.rest.now) (read p.left f env p.rest.now) (read p.left g env p.rest.now) a p.rest.now q.rest.now p.fault q.fault h k.goes;
}

-- nothing is read
goes_nowhere : (ts : List Token) (d : Option Refused) → Goes d ts (Ok (none, ts)) none d ts
goes_nowhere ts None = refl
goes_nowhere ts (Some x) = (refl, refl)

pub staying : {env : Node} (p : Parser) → Reads empty env p none p
staying {env} p = record { left = refl; goes = goes_nowhere p.rest.now p.fault }

-- what the parser did is told whatever the node is, once a fault stands
gave_sound : (o : Read) (a v : Node) (us : List Token) (e : Option Refused) → (e ≡ None → v ≡ a) → Gave o a e us → Gave o v e us
gave_sound o a v us None h g = g ∙ ap (λ (z : Node). Ok (z, us)) (sym (h refl))
gave_sound o a v us (Some refused.Memory) h g = tt
gave_sound o a v us (Some (refused.Token r)) h g = g

goes_sound : (o : Read) (a v : Node) (ts us : List Token) (d e : Option Refused) → (e ≡ None → v ≡ a) → Goes d ts o a e us → Goes d ts o v e us
goes_sound o a v ts us None e h g = gave_sound o a v us e h g
goes_sound o a v ts us (Some x) e h g = g

pub being_sound : {form : Form} {env : Node} {p q : Parser} {a v : Node} → (q.fault ≡ None → v ≡ a) → Reads form env p a q → Reads form env p v q
being_sound {form} {env} {p} {q} {a} {v} h k = record {
  left = k.left;
  goes = goes_sound (read p.left form env p.rest.now) a v p.rest.now q.rest.now p.fault q.fault h k.goes;
}

-- where no fault stands, none stood before
goes_from : (o : Read) (a : Node) (ts us : List Token) (d e : Option Refused) → Goes d ts o a e us → e ≡ None → d ≡ None
goes_from o a ts us None e g h = refl
goes_from o a ts us (Some x) e g h = absurd (let clash = sym h ∙ g.0 in absurd cc)

pub sound_from : {form : Form} {env : Node} {p q : Parser} {a : Node} → Reads form env p a q → q.fault ≡ None → p.fault ≡ None
sound_from {form} {env} {p} {q} {a} k h = goes_from (read p.left form env p.rest.now) a p.rest.now q.rest.now p.fault q.fault k.goes h

-- a method that stopped gives any node
unsound : (e : Option Refused) → is_sound e ≡ false → e ≡ None → ⊥
unsound None h k = absurd cc
unsound (Some x) h k = absurd cc

pub stopping : {form : Form} {p q : Parser} {v : Node} → Stops form p q → Reads form none p v q
stopping {form} {p} {q} {v} h = being_sound (λ z. absurd (unsound q.fault h.faulty z)) h.reads

-- so it does where a node would be made of what was read
pub stopping_made : {form : Form} {p q : Parser} {v : Node} (make : Node → Node) → ((w : Node) → kept (make w) ≡ make (kept w)) → Stops form p q → Reads (act make form) none p v q
stopping_made {form} {p} {q} {v} make keep h = being_sound (λ z. absurd (unsound q.fault h.faulty z)) (making make keep h.reads)

-- ---- constructs

goes_nested : (n : Nest) (env a : Node) (d e : Option Refused) (l m : ℕ) (ts us : List Token) → (is_sound d && begins (nest_starts n) ts) ≡ true → l ≡ m + 1 → Goes d ts (read m (body n) env ts) a e us → Goes d ts (construct every_rule true l n env ts) a e us
goes_nested n env a None e l m ts us b h g =
    let less : l - 1 ≡ m = omega (arith, h) in
    let is : construct every_rule true l n env ts ≡ read m (body n) env ts = construct_opened l n env ts b (omega (arith, h)) ∙ ap (λ (k : ℕ). read k (body n) env ts) less in
    subst (λ (z : Read). Gave z a e us) (sym is) g
goes_nested n env a (Some x) e l m ts us b h g = absurd cc

-- a construct that was opened and closed
pub nesting : {n : Nest} {env : Node} {is_next : Bool} {p q r s : Parser} {a : Node} → is_next ≡ sees (nest_starts n) p → Opened is_next p q → Reads (body n) env q a r → s.left ≡ r.left + 1 → s.rest.now ≡ r.rest.now → s.fault ≡ r.fault → Reads (nest n) env p a s
nesting {n} {env} {is_next} {p} {q} {r} {s} {a} b o h l m f =
    let one = subst (λ (z : Option Refused). Goes z q.rest.now (read q.left (body n) env q.rest.now) a r.fault r.rest.now) o.fault h.goes in
    let two = subst (λ (z : List Token). Goes p.fault z (read q.left (body n) env z) a r.fault r.rest.now) o.rest one in
    let three = subst (λ (z : Option Refused). Goes p.fault p.rest.now (read q.left (body n) env p.rest.now) a z r.rest.now) (sym f) two in
    let four = subst (λ (z : List Token). Goes p.fault p.rest.now (read q.left (body n) env p.rest.now) a s.fault z) (sym m) three in
    record {
      left = l ∙ ap (λ (k : ℕ). k + 1) h.left ∙ sym o.left;
      goes = goes_nested n env a p.fault s.fault p.left q.left p.rest.now s.rest.now (sym b ∙ o.next) o.left four;
    }

goes_barred : (n : Nest) (env a : Node) (b : Bool) (d e : Option Refused) (l : ℕ) (ts us : List Token) → b ≡ (is_sound d && begins (nest_starts n) ts) → Barred d b l e → us ≡ ts → Goes d ts (construct every_rule true l n env ts) a e us
goes_barred n env a false None e l ts us b h u =
    subst (λ (z : Option Refused). Gave (construct every_rule true l n env ts) a z us) (sym h) (construct_other l n env ts (sym b) ∙ ap (λ (z : List Token). Err (Unexpected, z)) (sym u))
goes_barred n env a true None e l ts us b h u =
    subst (λ (z : Option Refused). Gave (construct every_rule true l n env ts) a z us) (sym h.1) (construct_full l n env ts (sym b) h.0 ∙ ap (λ (z : List Token). Err (TooDeep, z)) (sym u))
goes_barred n env a b (Some x) e l ts us c h u = (h, u)

-- a construct that was not opened
pub barring : {n : Nest} {env : Node} {is_next : Bool} {p q : Parser} {a : Node} → is_next ≡ sees (nest_starts n) p → Unopened is_next p q → Reads (nest n) env p a q
barring {n} {env} {is_next} {p} {q} {a} b u = record {
  left = u.left;
  goes = goes_barred n env a is_next p.fault q.fault p.left p.rest.now q.rest.now b u.barred u.rest;
}
