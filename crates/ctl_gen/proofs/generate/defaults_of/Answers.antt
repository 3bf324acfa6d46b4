use Rattle.std.proofs.Common.{◌≡◌, ℕ, ◌++◌, ◌+◌, List, [], ◌∷◌, drop, length, length-append, map, sym, ap, ◌∙◌, append-nil}
use Rattle.std.proofs.lemmas.List.{drop_all, map-append}
use Rattle.ctl_code.specs.declared.code.Defaults.{Defaults}
use Rattle.ctl_layout.specs.Layout.{all_defaults, defaults_code, inherited_places, places_from, rows_from}
use Rattle.ctl_layout.proofs.Turns.{turn_of}
use Rattle.ctl_emitter.specs.Emitted.{appended}
use Rattle.ctl_emitter.proofs.Emission.{standing_is}
use Rattle.ctl_emit.proofs.EmittedDefaults.{next_row, next_type, none_appended}
use Rattle.ctl_gen.proofs.generate.defaults_of.Goals as goal

pub loop-entry-preserved : goal.loop-entry-preserved
loop-entry-preserved c =
    let rs = c.args.records.now in
    let i = c.loop-entry.entry-index in
    let r = c.entry-item.result in
    let e0 = c.loop-entry.emitter in
    let e1 = c.defaults.new.emitter in
    let done = c.loop-entry.rows.items in
    let n = length done in
    let new = c.in_ok-places.places in
    let more = drop (i + 1) rs in
    let rows = map (λ (x : Defaults). x.places.items) done in
    let row = new.items in
    let put = c.in_ok-push.ensures.items in
    let is = c.len-number.ensures ∙ c.loop-entry.rows.ok.0 in
    let next : length (done ++ (record { places = new }) ∷ []) ≡ n + 1 = length-append done ((record { places = new }) ∷ []) in
    let mapped : map (λ (x : Defaults). x.places.items) c.push.new.self.items ≡ rows ++ row ∷ [] = ap (map (λ (x : Defaults). x.places.items)) put ∙ map-append (λ (x : Defaults). x.places.items) done ((record { places = new }) ∷ []) in
    let emitted : e1 ≡ appended (defaults_code r.level n r.own) [] [] e0 = c.in_ok-places.ensures.emitted ∙ ap (λ m. appended (defaults_code r.level m r.own) [] [] e0) is in
    let own : row ≡ inherited_places rows r.parent ++ places_from r.level n (length e0.instructions) r.own = c.in_ok-places.ensures.places ∙ ap (λ m. c.in_ok-inherited.inherited.items ++ places_from r.level m (length e0.instructions) r.own) is ∙ ap (λ (ps : List ℕ). ps ++ places_from r.level n (length e0.instructions) r.own) (c.in_ok-inherited.ensures ∙ ap (λ ds. inherited_places (map (λ (x : Defaults). x.places.items) ds) r.parent) c.as_slice.ensures.value) in (
      ap (λ (xs : List Defaults). appended (all_defaults (length xs) more) [] [] e1) put
          ∙ ap (λ m. appended (all_defaults m more) [] [] e1) next
          ∙ next_type n r more e0 e1 emitted
          ∙ turn_of (λ xs. appended (all_defaults n xs) [] [] e0) rs i r c.loop-entry-test.true c.entry-item.is
          ∙ c.loop-entry.invariant.0,
      ap (λ zs. zs ++ rows_from (length c.push.new.self.items) (length e1.instructions) zs more) mapped
          ∙ ap (λ (xs : List Defaults). (rows ++ row ∷ []) ++ rows_from (length xs) (length e1.instructions) (rows ++ row ∷ []) more) put
          ∙ ap (λ m. (rows ++ row ∷ []) ++ rows_from m (length e1.instructions) (rows ++ row ∷ []) more) next
          ∙ next_row n r more rows row e0 e1 own emitted
          ∙ turn_of (λ xs. rows ++ rows_from n (length e0.instructions) rows xs) rs i r c.loop-entry-test.true c.entry-item.is
          ∙ c.loop-entry.invariant.1,
      standing_is (defaults_code r.level n r.own) [] [] e0 e1 emitted,
    )

pub returns-clause-emitted : goal.returns-clause-emitted
returns-clause-emitted c =
    let rs = c.args.records.now in
    let e = c.loop-entry.emitter in
    let n = length c.loop-entry.rows.items in
    none_appended e c.loop-entry.invariant.2 ∙ ap (λ xs. appended (all_defaults n xs) [] [] e) (sym (drop_all c.loop-entry.entry-index rs c.loop-entry-test.false)) ∙ c.loop-entry.invariant.0

pub returns-clause-rows : goal.returns-clause-rows
returns-clause-rows c =
    let rs = c.args.records.now in
    let e = c.loop-entry.emitter in
    let n = length c.loop-entry.rows.items in
    let rows = map (λ (x : Defaults). x.places.items) c.loop-entry.rows.items in
    sym (append-nil rows) ∙ ap (λ xs. rows ++ rows_from n (length e.instructions) rows xs) (sym (drop_all c.loop-entry.entry-index rs c.loop-entry-test.false)) ∙ c.loop-entry.invariant.1
