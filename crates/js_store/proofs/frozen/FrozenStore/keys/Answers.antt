-- A frozen object is read as it is.
use Rattle.std.proofs.Common.{sym, subst, ◌≡◌}
use Rattle.js_store.proofs.Common_laws.{seen}
use Rattle.std.specs.Prelude.{IfOk}
use Rattle.lava_base.specs.Ids.{same_made_symbol}
use Rattle.js_store.specs.Objects.{ordinary_own_property_keys}
use Rattle.js_store.specs.Order.{IsInOrder}
use Rattle.js_store.proofs.frozen.FrozenStore.keys.Goals as goal

pub returns-clause-keys : goal.returns-clause-keys
returns-clause-keys c = subst (λ o. IfOk c.keys.result (λ keys. keys ≡ ordinary_own_property_keys o.properties)) (sym (seen c.self.inside.store.objects c.args.self.now c.args.id.0 (sym c.self.view_is) c.self.invariant c.requires)) c.keys.ensures.keys

pub returns-clause-order : goal.returns-clause-order
returns-clause-order c = subst (λ o. IsInOrder same_made_symbol o.properties) (sym (seen c.self.inside.store.objects c.args.self.now c.args.id.0 (sym c.self.view_is) c.self.invariant c.requires)) c.keys.ensures.order
