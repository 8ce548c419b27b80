-- A frozen object is read as it is, and its properties are fixed.
use Rattle.std.proofs.Common.{sym, ap, ◌∙◌}
use Rattle.lava_base.specs.Ids.{same_made_symbol}
use Rattle.js_store.specs.Objects.{ordinary_get_own_property}
use Rattle.js_store.proofs.Common_laws.{seen}
use Rattle.js_store.proofs.Fixed_laws.{fixed_now, found_fixed}
use Rattle.js_store.proofs.frozen.FrozenStore.own.Goals as goal

pub returns-clause-own : goal.returns-clause-own
returns-clause-own c = c.own.ensures ∙ ap (λ o. ordinary_get_own_property same_made_symbol c.args.key.now o.properties) (sym (seen c.self.inside.store.objects c.args.self.now c.args.id.0 (sym c.self.view_is) c.self.invariant c.requires))

pub returns-clause-fixed : goal.returns-clause-fixed
returns-clause-fixed c = fixed_now (λ d. d.now) c.own.result _ c.own.ensures (found_fixed c.self.inside.store.objects c.args.self.now c.args.id.0 c.args.key.now c.self.view_is c.self.invariant c.requires)
