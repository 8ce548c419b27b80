use Rattle.std.proofs.Common.{◌≡◌, IfOk, Some, None, ap, subst, sym, ◌∙◌}
use Rattle.js_store.proofs.Index_laws.{noted_within, value_noted, value_unnoted}
use Rattle.js_store.proofs.table_index.TableIndex.value_at.Goals as goal
use Rattle.js_store.specs.Indexed.{noted}

pub returns-in-None : goal.returns-in-None
returns-in-None c =
    let nowhere : noted c.args.self.now c.args.key.now ≡ None = ap (noted c.args.self.now) (sym c.in_ok-table_key.ensures) ∙ sym c.place.ensures ∙ c.in-None.is in
    sym (value_unnoted c.args.self.now c.args.entries.now c.requires c.args.key.now nowhere)

pub bounds-entries-at : goal.bounds-entries-at
bounds-entries-at c =
    let there : noted c.args.self.now c.args.key.now ≡ Some c.in-Some.at = ap (noted c.args.self.now) (sym c.in_ok-table_key.ensures) ∙ sym c.place.ensures ∙ c.in-Some.is in
    noted_within c.args.self.now c.args.entries.now c.requires c.args.key.now c.in-Some.at there

pub returns : goal.returns
returns c =
    let there : noted c.args.self.now c.args.key.now ≡ Some c.in-Some.at = ap (noted c.args.self.now) (sym c.in_ok-table_key.ensures) ∙ sym c.place.ensures ∙ c.in-Some.is in
    let here = value_noted c.args.self.now c.args.entries.now c.requires c.args.key.now c.in-Some.at c.index-entries-at.result there in
    subst (λ v. IfOk c.copy_value.result (λ value. value ≡ v)) (sym here) c.copy_value.ensures
