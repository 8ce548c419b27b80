use Rattle.std.proofs.Common.{◌+◌, ◌*◌, length}
use Rattle.js_lower_calls.proofs.chains.+links.Given as goal

abbrev pub decreases-links : goal.decreases-links
decreases-links g c = 4 * length c.list.now + 0

abbrev pub decreases-optional_link : goal.decreases-optional_link
decreases-optional_link g c = 4 * length c.list.now + 3

abbrev pub decreases-rest_behind : goal.decreases-rest_behind
decreases-rest_behind g c = 4 * length c.list.now + 2

abbrev pub decreases-links_from : goal.decreases-links_from
decreases-links_from g c = 4 * length c.list.now + 1
