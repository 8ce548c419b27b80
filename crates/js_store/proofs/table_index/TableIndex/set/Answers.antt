use Rattle.std.proofs.Common.{◌≡◌, ◌++◌, [], ◌∷◌, map, Some, None, ap, sym, ◌∙◌}
use Rattle.js_slots.specs.Tables.{live_entry}
use Rattle.js_store.proofs.Index_laws.{noted_within, ok_so, set_kept, set_new, set_there}
use Rattle.js_store.proofs.table_index.TableIndex.set.Goals as goal
use Rattle.js_store.specs.Indexed.{noted}
use Rattle.js_store.specs.Tables.{table_entry}

pub set-requires : goal.set-requires
set-requires c =
    let there : noted c.args.self.now c.args.key.now ≡ Some c.in-Some.at = ap (noted c.args.self.now) (sym c.in_ok-key.ensures) ∙ sym c.place.ensures ∙ c.in-Some.is in
    noted_within c.args.self.now c.args.entries.now c.requires c.args.key.now c.in-Some.at there

pub returns-in_ok-live_place-in-Some-clause-ok : goal.returns-in_ok-live_place-in-Some-clause-ok
returns-in_ok-live_place-in-Some-clause-ok c =
    let there : noted c.args.self.now c.args.key.now ≡ Some c.in-Some.at = ap (noted c.args.self.now) (sym c.in_ok-key.ensures) ∙ sym c.place.ensures ∙ c.in-Some.is in
    let made : table_entry c.in_ok-live_place-in-Some.field-0 ≡ live_entry c.args.key.now c.args.value.now = c.in_ok-live_place-in-Some.ensures ∙ ap (λ k. live_entry k c.in_ok-value.value) c.in_ok-key.ensures ∙ ap (live_entry c.args.key.now) c.in_ok-value.ensures in
    set_there c.args.self.now c.args.entries.now c.requires c.args.key.now c.args.value.now c.in-Some.at c.in_ok-live_place-in-Some.field-0 c.set.new.self c.set.ensures there made

pub returns-in_ok-live_place-in-Some-clause-kept : goal.returns-in_ok-live_place-in-Some-clause-kept
returns-in_ok-live_place-in-Some-clause-kept c =
    let there : noted c.args.self.now c.args.key.now ≡ Some c.in-Some.at = ap (noted c.args.self.now) (sym c.in_ok-key.ensures) ∙ sym c.place.ensures ∙ c.in-Some.is in
    let made : table_entry c.in_ok-live_place-in-Some.field-0 ≡ live_entry c.args.key.now c.args.value.now = c.in_ok-live_place-in-Some.ensures ∙ ap (λ k. live_entry k c.in_ok-value.value) c.in_ok-key.ensures ∙ ap (live_entry c.args.key.now) c.in_ok-value.ensures in
    set_kept c.args.self.now c.args.entries.now c.requires c.args.key.now c.args.value.now c.in-Some.at c.in_ok-live_place-in-Some.field-0 c.set.new.self c.set.ensures there made

pub returns-in-None-clause-ok : goal.returns-in-None-clause-ok
returns-in-None-clause-ok c =
    let nowhere : noted c.args.self.now c.args.key.now ≡ None = ap (noted c.args.self.now) (sym c.in_ok-key.ensures) ∙ sym c.place.ensures ∙ c.in-None.is in
    let made : live_entry c.in_ok-key.key.0 c.in_ok-value.value ≡ live_entry c.args.key.now c.args.value.now = ap (λ k. live_entry k c.in_ok-value.value) c.in_ok-key.ensures ∙ ap (live_entry c.args.key.now) c.in_ok-value.ensures in
    ok_so c.append.result (λ n. set_new c.args.self.now c.args.entries.now c.requires c.args.key.now c.args.value.now c.append.new.entries nowhere (n ∙ ap (λ t. map table_entry c.args.entries.now ++ t ∷ []) made)) c.append.ensures.ok
