use Rattle.std.proofs.Common.{◌≡◌, ℕ, ◌+◌, ◌-◌, [], ◌∷◌, ◌++◌, replicate, refl, ap, ◌∙◌, arith, rules}
use Rattle.pkg_graph.specs.declared.limits.TheConstants.{APPLICATION_NAME}
use Rattle.pkg_graph.proofs.NamingLemmas.{one_more}
use Rattle.pkg_graph.proofs.naming.first_names.Goals as goal

pub loop-place-preserved : goal.loop-place-preserved
loop-place-preserved c =
    let put : c.push-in-loop-place.new.self.items ≡ c.loop-place.names.items ++ [] ∷ [] = search rules in
    one_more APPLICATION_NAME.now c.loop-place.place (c.loop-place.place + 1) c.loop-place.names.items c.push-in-loop-place.new.self.items refl c.loop-place.invariant put

pub returns : goal.returns
returns c =
    let count : c.loop-place.place ≡ c.args.count - 1 = omega arith in
    c.loop-place.invariant ∙ ap (λ (k : ℕ). APPLICATION_NAME.now ∷ replicate k []) count
