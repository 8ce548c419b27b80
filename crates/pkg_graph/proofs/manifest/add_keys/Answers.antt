use Rattle.std.proofs.Common.{◌≡◌, map, string_bytes, sym, ap, ◌∙◌, rules, fold}
use Rattle.std.specs.List.{list_all}
use Rattle.std.proofs.lemmas.Bool.{false≢true}
use Rattle.lava_streams.specs.Files.{with_name}
use Rattle.serde_json.specs.View.{members_view}
use Rattle.pkg_graph.specs.Manifests.{member_names}
use Rattle.pkg_graph.specs.PackageNames.{is_package_name}
use Rattle.pkg_graph.specs.Gathering.{texts_of}
use Rattle.pkg_graph.proofs.GatheringLemmas.{member_names-view, gathers, all_more, fold_more}
use Rattle.pkg_graph.proofs.manifest.add_keys.Goals as goal

pub returns-then-not-is_package_name : goal.returns-then-not-is_package_name
returns-then-not-is_package_name c =
    let keys : map (λ e. e.0) c.args.members.now.entries ≡ c.into_iter-key-iterator.result = search rules in
    let given : member_names (members_view c.args.members.now.entries) ≡ map string_bytes c.into_iter-key-iterator.result =
    member_names-view c.args.members.now.entries ∙ ap (map string_bytes) keys in
    let name = sym (ap is_package_name c.as_str.ensures.value) ∙ sym c.is_package_name.ensures ∙ c.if-not-is_package_name.true in
    let more = all_more c.loop-key.key-iterator _ c.in-Some.key.now _ c.in-Some.ensures.steps name in
    gathers (member_names (members_view c.args.members.now.entries)) _ _ _ (ap (list_all is_package_name) given ∙ c.loop-key.invariant.0 ∙ more) (λ e. absurd (false≢true e))

pub loop-key-preserved : goal.loop-key-preserved
loop-key-preserved c =
    let name = sym (ap is_package_name c.as_str.ensures.value) ∙ sym c.is_package_name.ensures ∙ c.if-not-is_package_name.false in
    let same : string_bytes c.in_ok-clone.field-0 ≡ string_bytes c.in-Some.key.now = search rules in
    let more = all_more c.loop-key.key-iterator _ c.in-Some.key.now _ c.in-Some.ensures.steps name in
    let put = fold_more c.loop-key.key-iterator _ c.loop-key.names.keys c.insert.new.self.keys c.in-Some.key.now c.in_ok-clone.field-0 c.in-Some.ensures.steps c.in_ok-insert.ensures.keys same in
    (c.loop-key.invariant.0 ∙ more, c.loop-key.invariant.1 ∙ put)

pub returns : goal.returns
returns c =
    let keys : map (λ e. e.0) c.args.members.now.entries ≡ c.into_iter-key-iterator.result = search rules in
    let given : member_names (members_view c.args.members.now.entries) ≡ map string_bytes c.into_iter-key-iterator.result =
    member_names-view c.args.members.now.entries ∙ ap (map string_bytes) keys in
    let none = c.in-None.ensures.steps.0 in
    let all = c.loop-key.invariant.0 ∙ ap (λ it. list_all is_package_name (map string_bytes it)) none in
    let put = c.loop-key.invariant.1 ∙ ap (λ it. fold with_name (texts_of c.loop-key.names) (map string_bytes it)) none in
    gathers (member_names (members_view c.args.members.now.entries)) _ _ _ (ap (list_all is_package_name) given ∙ all) (λ e. ap (fold with_name (texts_of c.args.names.now)) given ∙ put)
