use Rattle.std.proofs.Common.{◌∙◌, sym}
use Rattle.js_text.specs.Naming.{naming_of}
use Rattle.js_machine.specs.js_run.Modules.{throws_plain_error}
use Rattle.js_machine.specs.js_run.Requests.{is_link, not_found_text}
use Rattle.js_machine.specs.Evaluated.{imports_over}
use Rattle.js_machine.specs.Views.{party_of}
use Rattle.js_machine.proofs.Chosen.{when}
use Rattle.js_machine_modules.proofs.modules.require_package.Goals as goal

pub returns-then-has_link : goal.returns-then-has_link
returns-then-has_link g c =
    let old = c.args.machine.now in
    when c.import_over.result (is_link c.args.link old.own_package.links) (λ a. imports_over (naming_of old.me) c.args.link c.args.path c.args.request.now (party_of a old))
    (λ a. throws_plain_error (naming_of old.me) (not_found_text c.args.request.now) (party_of a old)) old c.import_over.new.machine (sym c.has_link.ensures ∙ c.if-has_link.true) c.import_over.ensures
