use Rattle.std.proofs.Common.{◌≡◌, None, subst}
use Rattle.js_names.specs.Scopes.{found_in}
use Rattle.js_names.proofs.Scopes_laws.{kept_append, nothing}
use Rattle.js_names.proofs.scope.NameScope.add.Goals as goal

pub invariant_of-self-2 : goal.invariant_of-self-2
invariant_of-self-2 c =
    let view : c.args.self.now ≡ c.self.inside.names = cc in
    let none : found_in c.args.name.now.name c.args.self.now ≡ None = let h = c.has.ensures in let f = c.if-has.false in nothing _ cc in
    let missing = subst (λ l. found_in c.args.name.now.name l ≡ None) view none in
    kept_append c.self.invariant c.args.name.now missing _ c.in_ok-append.ensures.ok _ c.in_ok-append.ensures.noted.0
