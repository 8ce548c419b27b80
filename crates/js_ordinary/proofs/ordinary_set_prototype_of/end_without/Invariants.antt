use Rattle.std.proofs.Common.{◌≡◌, ◌-◌, length}
use Rattle.js_text.specs.Naming.{naming_of}
use Rattle.js_ordinary.specs.OrdinarySetPrototypeOf.{ends_without}
use Rattle.js_ordinary.proofs.ordinary_set_prototype_of.end_without.Given as goal

-- the way up from what is above now ends as the whole way does
abbrev pub invariant-loop-passed : goal.invariant-loop-passed
invariant-loop-passed g l =
    let objects = g.S.Store.objects l.store in
    let names = naming_of (g.S.Store.owner l.store).0 in
    ends_without names objects l.me.0 (length objects - l.passed) l.above ≡ ends_without names objects l.me.0 (length objects) l.fn.proto
