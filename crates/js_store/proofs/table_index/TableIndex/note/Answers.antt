use Rattle.std.proofs.Common.{◌≡◌, ◌+◌, None, Some, ap, cond, ◌++◌, [], ◌∷◌, length, sym, take, ◌∙◌, refl, arith}
use Rattle.js_store.proofs.Index_laws.{alike, dead_kept, length_first, live_kept, live_within, next_place, none_of}
use Rattle.js_store.proofs.table_index.TableIndex.note.Goals as goal
use Rattle.js_store.specs.Indexed.{noted}

pub returns-then-not-entry : goal.returns-then-not-entry
returns-then-not-entry c =
    let es = take c.args.at c.args.entries.now in
    let within = c.requires.within in
    let first = length_first c.args.at c.args.entries.now (omega (arith, within)) in
    let room = c.if-at.false in
    let e = c.index-entries-at.result in
    dead_kept c.args.self.now es c.requires.kept e _ (next_place c.args.at c.args.entries.now e within ∙ ap (λ x. es ++ x ∷ []) (sym c.index-entries-at.is)) c.if-not-entry.true (omega (arith, first, room))

pub overflow_add-self : goal.overflow_add-self
overflow_add-self c =
    let es = take c.args.at c.args.entries.now in
    let within = c.requires.within in
    let first = length_first c.args.at c.args.entries.now (omega (arith, within)) in
    let few = live_within c.args.self.now es c.requires.kept in
    let room = c.if-at.false in
    omega (arith, first, few, room)

pub returns : goal.returns
returns c =
    let es = take c.args.at c.args.entries.now in
    let e = c.index-entries-at.result in
    let within = c.requires.within in
    let first : length es ≡ c.args.at = length_first c.args.at c.args.entries.now (omega (arith, within)) in
    let room = c.if-at.false in
    let key : c.in_ok-key.key.0 ≡ e.key = c.in_ok-key.ensures in
    let nowhere : noted c.args.self.now e.key ≡ None = ap (noted c.args.self.now) (sym key) ∙ sym c.place.ensures ∙ none_of c.place.result (sym c.is_some.ensures ∙ c.if-is_some.false) in
    live_kept c.args.self.now es c.requires.kept e _ (next_place c.args.at c.args.entries.now e within ∙ ap (λ x. es ++ x ∷ []) (sym c.index-entries-at.is)) c.if-not-entry.false nowhere (omega (arith, first, room))
    (record { places = c.insert.new.self; live = c.args.self.now.live + 1 })
    (λ q. c.in_ok-insert.ensures.updates.0 (record { 0 = q }) ∙ ap (λ k. cond (alike k q) (Some c.args.at) (noted c.args.self.now q)) key ∙ ap (λ n. cond (alike e.key q) (Some n) (noted c.args.self.now q)) (sym first)) refl
