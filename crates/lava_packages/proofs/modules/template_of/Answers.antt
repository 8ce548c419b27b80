use Rattle.std.proofs.Common.{◌≡◌, IfOk, ap, sym, subst}
use Rattle.ses_prelude.specs.js_lower.Helpers.{json_template}
use Rattle.lava_packages.specs.Modules.{template_of}
use Rattle.lava_packages.proofs.modules.template_of.Goals as goal

-- the text of the bytes, lowered
pub returns-in_ok-text-in-Json : goal.returns-in_ok-text-in-Json
returns-in_ok-text-in-Json c =
    let lowered = subst (λ t. IfOk c.lower_json.result (λ made. made ≡ json_template t)) c.in_ok-text-in-Json.ensures c.lower_json.ensures in
    subst (λ t. IfOk c.lower_json.result (λ made. made ≡ t)) (ap (λ code. template_of code c.args.bytes.now) (sym c.in-Json.is)) lowered
