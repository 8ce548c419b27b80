-- A frozen object is read as it is.
use Rattle.std.proofs.Common.{sym, ap, ◌∙◌}
use Rattle.js_store.proofs.Common_laws.{seen}
use Rattle.js_store.proofs.frozen.FrozenStore.slot.Goals as goal

pub returns : goal.returns
returns c = c.slot.ensures ∙ ap (λ o. o.slot) (sym (seen c.self.inside.store.objects c.args.self.now c.args.id.0 (sym c.self.view_is) c.self.invariant c.requires))
