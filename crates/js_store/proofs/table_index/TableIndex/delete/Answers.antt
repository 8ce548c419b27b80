use Rattle.std.proofs.Common.{◌≡◌, None, ap, sym, ◌∙◌}
use Rattle.js_store.proofs.Index_laws.{delete_nowhere}
use Rattle.js_store.proofs.table_index.TableIndex.delete.Goals as goal
use Rattle.js_store.specs.Indexed.{noted}

pub returns-in-None-clause-ok : goal.returns-in-None-clause-ok
returns-in-None-clause-ok c =
    let nowhere : noted c.args.self.now c.args.key.now ≡ None = ap (noted c.args.self.now) (sym c.in_ok-key.ensures) ∙ sym c.place.ensures ∙ c.in-None.is in
    delete_nowhere c.args.self.now c.args.entries.now c.requires c.args.key.now nowhere
