use Rattle.std.proofs.Common.{◌≡◌, ◌++◌, ◌+◌, ◌<◌, ◌≤◌, List, [], ◌∷◌, None, length, length-append, map, drop, sym, ap, ◌∙◌, subst, get_or, append-nil}
use Rattle.std.specs.Prelude.{slice_get}
use Rattle.std.proofs.lemmas.List.{drop_all}
use Rattle.ctl_code.specs.declared.code.Entry.{Entry}
use Rattle.ctl_code.specs.declared.code.Instr.TheVariants.{Start}
use Rattle.ctl_emitter.specs.Emitted.{Emitted, appended, lined, one, stated}
use Rattle.ctl_layout.specs.Layout.{AreLayouts, all_defaults, bodies, body_code, entries_from, entry_at, home_of, operations_of, rows_from}
use Rattle.ctl_layout.proofs.Turns.{turn_of}
use Rattle.ctl_emit.proofs.EmittedBodies.{IsWhole, all_emitted, all_instructions, all_kinds, all_texts, behind_them, begun, begun_place, next_body, next_entry, nothing_stands}
use Rattle.ctl_gen.proofs.generate.tables_of.Goals as goal

pub loop-subprogram-init : goal.loop-subprogram-init
loop-subprogram-init c =
    let main = c.args.program.now.main in
    let ss = c.args.program.now.subprograms in
    let e = c.put.new.self in
    let first : e ≡ begun main = c.in_ok-put.ensures ∙ ap (lined (one (Start main))) c.new-emitter.ensures in
    let at = begun_place main in (
      ap (λ (es : List Entry). stated (bodies (length es) ss) None e) c.new-entries.ensures.items ∙ ap (stated (bodies 0 ss) None) first,
      ap (λ (es : List Entry). es ++ entries_from (length es) (length e.instructions) (length e.texts) ss) c.new-entries.ensures.items
          ∙ ap (λ n. entries_from 0 n (length e.texts) ss) (ap (λ (x : Emitted). length x.instructions) first ∙ at.0)
          ∙ ap (λ n. entries_from 0 1 n ss) (ap (λ (x : Emitted). length x.texts) first ∙ at.1),
      ap (λ (x : Emitted). x.notes.standing) first ∙ at.2,
    )

pub loop-subprogram-preserved : goal.loop-subprogram-preserved
loop-subprogram-preserved c =
    let ss = c.args.program.now.subprograms in
    let i = c.loop-subprogram.subprogram-index in
    let s = c.subprogram-item.result in
    let e0 = c.loop-subprogram.emitter in
    let e1 = c.body.new.emitter in
    let done = c.loop-subprogram.entries.items in
    let same = c.as_slice-subprogram-items.ensures in
    let within = subst (λ xs. i < length xs) same c.loop-subprogram-test.true in
    let item = subst (λ xs. s ≡ get_or xs i s) same c.subprogram-item.is in
    let more = drop (i + 1) ss in
    let f = length done in
    let here = entry_at (length e0.instructions) s in
    let put : c.push.new.self.items ≡ done ++ here ∷ [] = c.in_ok-push.ensures.items ∙ ap (λ e. done ++ e ∷ []) c.entry_of.ensures in
    let next : length (done ++ here ∷ []) ≡ f + 1 = length-append done (here ∷ []) in
    let emitted : e1 ≡ stated (body_code f s) None e0 = subst (λ n. e1 ≡ stated (body_code n s) None e0) (c.len-number.ensures ∙ c.loop-subprogram.entries.ok.0) c.in_ok-body.ensures in (
      ap (λ (es : List Entry). stated (bodies (length es) more) None e1) put
          ∙ ap (λ n. stated (bodies n more) None e1) next
          ∙ next_body f s more e0 e1 emitted
          ∙ turn_of (λ xs. stated (bodies f xs) None e0) ss i s within item
          ∙ c.loop-subprogram.invariant.0,
      ap (λ (es : List Entry). es ++ entries_from (length es) (length e1.instructions) (length e1.texts) more) put
          ∙ ap (λ n. (done ++ here ∷ []) ++ entries_from n (length e1.instructions) (length e1.texts) more) next
          ∙ next_entry f s more done e0 e1 emitted
          ∙ turn_of (λ xs. done ++ entries_from f (length e0.instructions) (length e0.texts) xs) ss i s within item
          ∙ c.loop-subprogram.invariant.1,
      nothing_stands f s e0 e1 emitted c.loop-subprogram.invariant.2,
    )

pub returns-clause-laid_out : goal.returns-clause-laid_out
returns-clause-laid_out c =
    let p = c.args.program.now in
    let ss = p.subprograms in
    let e = c.loop-subprogram.emitter in
    let done = c.loop-subprogram.entries.items in
    let i = c.loop-subprogram.subprogram-index in
    let end = sym (drop_all i ss (subst (λ xs. length xs ≤ i) c.as_slice-subprogram-items.ensures c.loop-subprogram-test.false)) in
    let all : e ≡ stated (bodies 0 ss) None (begun p.main) = all_emitted p.main (length c.loop-subprogram.entries.items) ss e (ap (λ xs. stated (bodies (length c.loop-subprogram.entries.items) xs) None e) end ∙ c.loop-subprogram.invariant.0) in
    let e1 = c.defaults_of.new.emitter in
    let whole : IsWhole p e1 = c.in_ok-defaults.ensures.emitted ∙ ap (λ rs. appended (all_defaults 0 rs) [] [] e) c.as_slice.ensures ∙ ap (appended (all_defaults 0 p.records) [] []) all in
    record {
      instructions = c.finish-instructions.ensures.instructions ∙ all_instructions p e1 whole;
      entries = sym (append-nil done) ∙ ap (λ xs. done ++ entries_from (length done) (length e.instructions) (length e.texts) xs) end ∙ c.loop-subprogram.invariant.1;
      records = c.in_ok-records.ensures ∙ ap operations_of c.as_slice-2.ensures;
      layouts = subst (λ rs. AreLayouts [] c.in_ok-layouts.layouts.items rs) c.as_slice-3.ensures c.in_ok-layouts.ensures;
      defaults = c.in_ok-defaults.ensures.rows ∙ ap (λ rs. rows_from 0 (length e.instructions) [] rs) c.as_slice.ensures ∙ ap (λ n. rows_from 0 n [] p.records) (behind_them p e all);
      accesses = c.in_ok-accesses.ensures ∙ ap (map home_of) c.as_slice-4.ensures;
      texts = c.finish-instructions.ensures.texts ∙ all_texts p e1 whole;
      exceptions = c.in_ok-exceptions.ensures ∙ c.as_slice-5.ensures;
    }

pub returns-clause-kinds : goal.returns-clause-kinds
returns-clause-kinds c =
    let p = c.args.program.now in
    let ss = p.subprograms in
    let e = c.loop-subprogram.emitter in
    let i = c.loop-subprogram.subprogram-index in
    let end = sym (drop_all i ss (subst (λ xs. length xs ≤ i) c.as_slice-subprogram-items.ensures c.loop-subprogram-test.false)) in
    let all : e ≡ stated (bodies 0 ss) None (begun p.main) = all_emitted p.main (length c.loop-subprogram.entries.items) ss e (ap (λ xs. stated (bodies (length c.loop-subprogram.entries.items) xs) None e) end ∙ c.loop-subprogram.invariant.0) in
    let e1 = c.defaults_of.new.emitter in
    let whole : IsWhole p e1 = c.in_ok-defaults.ensures.emitted ∙ ap (λ rs. appended (all_defaults 0 rs) [] [] e) c.as_slice.ensures ∙ ap (appended (all_defaults 0 p.records) [] []) all in
    let kept = c.finish-instructions.ensures.kinds in
    record {
      kinds = kept ∙ all_kinds p e1 whole;
      room = λ place stack is. c.room-room.ensures place stack (ap (λ ks. slice_get ks place) (sym kept) ∙ is);
    }
