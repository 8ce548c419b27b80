use Rattle.js_proxy.proofs.Revoked as revoked
use Rattle.js_proxy.proofs.laws.revoked_proxies_answer_nothing.Goals as goal

pub returns : goal.returns
returns g c = revoked.revoked_proxies_answer_nothing _ _
