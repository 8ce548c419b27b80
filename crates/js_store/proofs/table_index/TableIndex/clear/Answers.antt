use Rattle.std.proofs.Common.{refl}
use Rattle.js_store.proofs.Index_laws.{clear_kept}
use Rattle.js_store.proofs.table_index.TableIndex.clear.Goals as goal

pub returns-clause-kept : goal.returns-clause-kept
returns-clause-kept c = clear_kept c.args.self.now c.args.entries.now c.requires c.make_all_dead.new.entries c.make_all_dead.ensures (record { places = c.clear.new.self; live = 0 }) c.clear.ensures.empty refl
