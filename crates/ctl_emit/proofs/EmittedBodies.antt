-- What the emitter makes of the bodies of a program, one after another, is their layout.
use Rattle.std.proofs.Common.{◌≡◌, ℕ, suc, ◌+◌, List, [], ◌∷◌, ◌++◌, length, None, refl, sym, ap, ◌∙◌, append_assoc, append-nil, arith}
use Rattle.std.proofs.lemmas.List.{length-map, map-append}
use Rattle.ctl_program.specs.declared.program.Checked.{Checked}
use Rattle.ctl_program.specs.declared.program.Subprogram.{Subprogram}
use Rattle.ctl_code.specs.declared.code.Entry.{Entry}
use Rattle.ctl_code.specs.declared.code.Instr.{Instr}
use Rattle.ctl_code.specs.declared.code.Instr.TheVariants.{Start}
use Rattle.ctl_code.specs.declared.kinds.Kind.{Kind}
use Rattle.ctl_code.specs.declared.kinds.Kind.TheVariants.{Body}
use Rattle.ctl_code.specs.Kinds.{below_newest}
use Rattle.ctl_layout.specs.Around.{Line, OutOfMaster}
use Rattle.ctl_emitter.specs.Emitted.{Emitted, appended, around, lined, none_emitted, one, standing, stated}
use Rattle.ctl_layout.specs.Layout.{all_defaults, behind_bodies, bodies, body_code, entries_from, entry_at, instructions_of, kinds_of, master_code, nowhere, numbered, program_code}
use Rattle.ctl_emitter.proofs.Emission.{count_more, nothing, stands, stands_before, stands_behind, standing_is, texts_more}
use Rattle.ctl_emit.proofs.EmittedStatements.{next_statement}

texts_stand : (s : List Kind) (e0 e1 : Emitted) → e1 ≡ standing s e0 → length e1.texts ≡ length e0.texts
unfolding standing
texts_stand s e0 e1 a = ap (λ (e : Emitted). length e.texts) a

-- a body, where nothing stands
pub body_emitted : (f : ℕ) (s : Subprogram) (slots : ℕ) (e0 e1 e2 e3 : Emitted) → slots ≡ (master_code s.body).slots → e0.notes.standing ≡ [] → e1 ≡ standing (Body s.level slots f ∷ e0.notes.standing) e0 → e2 ≡ stated (master_code s.body).inside None e1 → e3 ≡ standing (below_newest e2.notes.standing) e2 → e3 ≡ stated (body_code f s) None e0
body_emitted f s slots e0 e1 e2 e3 same bare a b c =
    let m = (master_code s.body).inside in
    let n = length e0.texts in
    let r = e0.notes.standing in
    let top = Body s.level slots f ∷ r in
    let lines = m.code (record { stack = top; landing = OutOfMaster }) n in
    let inner : e2 ≡ appended lines m.texts top e1 =
    b ∙ ap (λ x. appended (m.code (record { stack = x; landing = OutOfMaster }) (length e1.texts)) m.texts x e1) (stands top e0 e1 a)
    ∙ ap (λ k. appended (m.code (record { stack = top; landing = OutOfMaster }) k) m.texts top e1) (texts_stand top e0 e1 a) in
    stands_before lines m.texts r top e0 e1 e3 a
    (stands_behind lines m.texts top r e1 e2 e3 inner (c ∙ ap (λ x. standing (below_newest x) e2) (standing_is lines m.texts top e1 e2 inner)))
    ∙ ap (λ k. appended (m.code (record { stack = Body s.level k f ∷ r; landing = OutOfMaster }) n) m.texts r e0) same
    ∙ ap (λ k. appended (m.code (record { stack = Body s.level (master_code s.body).slots f ∷ k; landing = OutOfMaster }) n) m.texts r e0) bare

-- the instruction that starts the main procedure
abbrev pub begun : ℕ → Emitted
begun main = lined (one (Start main)) none_emitted

pub begun_place : (main : ℕ) → (length (begun main).instructions ≡ 1) × (length (begun main).texts ≡ 0) × ((begun main).notes.standing ≡ [])
unfolding appended
begun_place main = (refl, refl, refl)

pub next_body : (f : ℕ) (s : Subprogram) (ss : List Subprogram) (e0 e1 : Emitted) → e1 ≡ stated (body_code f s) None e0 → stated (bodies (f + 1) ss) None e1 ≡ stated (bodies f (s ∷ ss)) None e0
next_body f s ss e0 e1 a = next_statement (body_code f s) (numbered (f + 1) ss) None e0 e1 (λ at is. absurd (cc)) a

pub next_entry : (f : ℕ) (s : Subprogram) (ss : List Subprogram) (done : List Entry) (e0 e1 : Emitted) → e1 ≡ stated (body_code f s) None e0 → (done ++ entry_at (length e0.instructions) s ∷ []) ++ entries_from (f + 1) (length e1.instructions) (length e1.texts) ss ≡ done ++ entries_from f (length e0.instructions) (length e0.texts) (s ∷ ss)
next_entry f s ss done e0 e1 a =
    let x = body_code f s in
    let lines = x.code (around None e0) (length e0.texts) in
    let here = entry_at (length e0.instructions) s in
    append_assoc done (here ∷ []) (entries_from (f + 1) (length e1.instructions) (length e1.texts) ss)
    ∙ ap (λ n. done ++ here ∷ entries_from (f + 1) n (length e1.texts) ss) (count_more lines x.texts e0.notes.standing e0 e1 a)
    ∙ ap (λ n. done ++ here ∷ entries_from (f + 1) (length e0.instructions + length lines) n ss) (texts_more lines x.texts e0.notes.standing e0 e1 a)

pub nothing_stands : (f : ℕ) (s : Subprogram) (e0 e1 : Emitted) → e1 ≡ stated (body_code f s) None e0 → e0.notes.standing ≡ [] → e1.notes.standing ≡ []
nothing_stands f s e0 e1 a h = standing_is ((body_code f s).code (around None e0) (length e0.texts)) (body_code f s).texts e0.notes.standing e0 e1 a ∙ h

-- all of them
pub all_emitted : (main f : ℕ) (ss : List Subprogram) (e : Emitted) → stated (bodies f []) None e ≡ stated (bodies 0 ss) None (begun main) → e ≡ stated (bodies 0 ss) None (begun main)
all_emitted main f ss e h = nothing e ∙ h

-- the defaults of the record types behind them
abbrev pub IsWhole : Checked → Emitted → Type 0
IsWhole p e = e ≡ appended (all_defaults 0 p.records) [] [] (stated (bodies 0 p.subprograms) None (begun p.main))

abbrev Behind : Checked → List Line
Behind p = (bodies 0 p.subprograms).code nowhere 0

pub all_instructions : (p : Checked) (e : Emitted) → IsWhole p e → e.instructions ≡ instructions_of (program_code p)
unfolding appended
all_instructions p e h = ap (λ (x : Emitted). x.instructions) h ∙ ap (λ (is : List Instr). Start p.main ∷ is) (sym (map-append (λ (x : Line). x.0) (Behind p) (all_defaults 0 p.records)))

pub all_texts : (p : Checked) (e : Emitted) → IsWhole p e → e.texts ≡ (bodies 0 p.subprograms).texts
unfolding appended
all_texts p e h = ap (λ (x : Emitted). x.texts) h ∙ append-nil (bodies 0 p.subprograms).texts

pub all_kinds : (p : Checked) (e : Emitted) → IsWhole p e → e.notes.before ≡ kinds_of (program_code p)
unfolding appended
all_kinds p e h = ap (λ (x : Emitted). x.notes.before) h ∙ ap (λ (ks : List (List Kind)). [] ∷ ks) (sym (map-append (λ (x : Line). x.1) (Behind p) (all_defaults 0 p.records)))

-- the first default begins behind the bodies
pub behind_them : (p : Checked) (e : Emitted) → e ≡ stated (bodies 0 p.subprograms) None (begun p.main) → length e.instructions ≡ behind_bodies p
unfolding appended
behind_them p e h = ap (λ (x : Emitted). length x.instructions) h ∙ ap suc (length-map (Behind p) (λ (x : Line). x.0)) ∙ (let one : suc (length (Behind p)) ≡ 1 + length (Behind p) = omega arith in one)
