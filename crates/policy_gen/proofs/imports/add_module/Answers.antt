-- The imports of the module's package are changed, if it has any.
use Rattle.std.proofs.Common.{◌<◌, ◌≤◌, length, slice_set, ap, ◌∙◌, rules}
use Rattle.policy_gen.specs.Imports.{Imports, with_requests}
use Rattle.policy_gen.proofs.PassLemmas.{changed_is, changed_past}
use Rattle.policy_gen.proofs.imports.add_module.Goals as goal

pub returns-in_ok-add_requests : goal.returns-in_ok-add_requests
returns-in_ok-add_requests c =
    let items = c.args.all.now.items in
    let m = c.args.loaded.now in
    let packages = c.args.packages.now in
    let there : m.owner < length items = search rules in
    ap (slice_set items m.owner)
    (c.in_ok-add_requests.ensures ∙ ap (with_requests packages m.owner c.index_mut.result.now) c.as_slice.ensures
    ∙ ap (λ imports. with_requests packages m.owner imports m.requests) c.index_mut.ensures.value)
    ∙ changed_is (λ (imports : Imports). with_requests packages m.owner imports m.requests) items m.owner c.index_mut.result.now there

pub returns-else-owner-len : goal.returns-else-owner-len
returns-else-owner-len c =
    let items = c.args.all.now.items in
    let m = c.args.loaded.now in
    let past : length items ≤ m.owner = search rules in
    changed_past (λ (imports : Imports). with_requests c.args.packages.now m.owner imports m.requests) items m.owner past
