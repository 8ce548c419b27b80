use Rattle.std.proofs.Common.{◌-◌, ap, ◌∙◌, arith}
use Rattle.std.specs.Prelude.{slice_set}
use Rattle.js_store.proofs.Index_laws.{delete_kept, delete_there, noted_within, some_noted}
use Rattle.js_store.proofs.table_index.TableIndex.take_out.Goals as goal

pub set-requires : goal.set-requires
set-requires c = noted_within c.args.self.now c.args.entries.now c.requires.kept c.args.key.now.0 c.args.at c.requires.there

pub overflow_sub-self : goal.overflow_sub-self
overflow_sub-self c = let some = some_noted c.args.self.now c.args.entries.now c.requires.kept c.args.key.now.0 c.args.at c.requires.there in omega (arith, some)

pub returns-clause-entries : goal.returns-clause-entries
returns-clause-entries c =
    delete_there c.args.self.now c.args.entries.now c.requires.kept c.args.key.now.0 c.args.at c.set.new.self (c.set.ensures ∙ ap (slice_set c.args.entries.now c.args.at) c.dead_place.ensures) c.requires.there

pub returns-clause-kept : goal.returns-clause-kept
returns-clause-kept c =
    let some = some_noted c.args.self.now c.args.entries.now c.requires.kept c.args.key.now.0 c.args.at c.requires.there in
    delete_kept c.args.self.now c.args.entries.now c.requires.kept c.args.key.now.0 c.args.at c.set.new.self (c.set.ensures ∙ ap (slice_set c.args.entries.now c.args.at) c.dead_place.ensures) c.requires.there
    (record { places = c.remove.new.self; live = c.args.self.now.live - 1 }) (λ q. c.remove.ensures.updates.0 (record { 0 = q })) (omega (arith, some))
