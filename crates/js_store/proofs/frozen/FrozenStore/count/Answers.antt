-- All frozen objects are read as they are.
use Rattle.std.proofs.Common.{map, sym, ap, subst, ◌∙◌}
use Rattle.js_store.specs.Frozen.{IsFrozen, as_read, common_ref}
use Rattle.js_store.proofs.Common_laws.{all_read}
use Rattle.js_store.proofs.frozen.FrozenStore.count.Goals as goal

pub returns-clause-frozen : goal.returns-clause-frozen
returns-clause-frozen c = subst IsFrozen (sym (ap (map (as_read common_ref)) (sym c.self.view_is) ∙ all_read c.self.inside.store.objects c.self.invariant)) c.self.invariant
