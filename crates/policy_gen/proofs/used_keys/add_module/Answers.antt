-- The keys of the module's package are changed, if it has any.
use Rattle.std.proofs.Common.{◌<◌, ◌≤◌, length, slice_set, ap, ◌∙◌, rules}
use Rattle.policy_row.specs.Rows.{Entries}
use Rattle.policy_gen.specs.Uses.{with_code}
use Rattle.policy_gen.proofs.PassLemmas.{changed_is, changed_past}
use Rattle.policy_gen.proofs.used_keys.add_module.Goals as goal

pub returns-in_ok-add_code : goal.returns-in_ok-add_code
returns-in_ok-add_code c =
    let items = c.args.all.now.items in
    let m = c.args.loaded.now in
    let there : m.owner < length items = search rules in
    ap (slice_set items m.owner) (c.in_ok-add_code.ensures ∙ ap (λ es. with_code es m.code) c.index_mut.ensures.value)
    ∙ changed_is (λ (es : Entries). with_code es m.code) items m.owner c.index_mut.result.now there

pub returns-else-owner-len : goal.returns-else-owner-len
returns-else-owner-len c =
    let items = c.args.all.now.items in
    let m = c.args.loaded.now in
    let past : length items ≤ m.owner = search rules in
    changed_past (λ (es : Entries). with_code es m.code) items m.owner past
