use Rattle.std.proofs.Common.{◌∙◌, sym, if◌then◌else◌, slice_get}
use Rattle.js_text.specs.Naming.{naming_of}
use Rattle.js_machine.specs.js_run.Modules.{requires_builtin, requires_package, requires_path}
use Rattle.js_machine.specs.js_run.Requests.{first_part, is_builtin, is_dots, is_relative, link_of, parts_of}
use Rattle.js_machine.specs.Requested.{module_path}
use Rattle.js_machine.specs.Views.{party_of}
use Rattle.js_machine.proofs.Chosen.{when}
use Rattle.js_machine_modules.proofs.require_calls.require.Goals as goal

pub returns-then-is_relative : goal.returns-then-is_relative
returns-then-is_relative g c =
    let old = c.args.machine.now in
    let names = naming_of old.me in
    let request = c.args.request.now in
    let parts = c.as_slice.ensures ∙ c.in_ok-parts.ensures in
    when c.require_path.result (is_relative request) (λ a. requires_path names (module_path (slice_get old.own_package.modules c.args.number)) request (party_of a old))
    (λ a. let p = party_of a old in if is_builtin request then requires_builtin names request p.builtin p else requires_package names request (link_of (parts_of request)) p) old c.require_path.new.machine
    (sym (c.is_relative.ensures ∙ (λ j. is_dots (first_part (parts j)))) ∙ c.if-is_relative.true) c.require_path.ensures
