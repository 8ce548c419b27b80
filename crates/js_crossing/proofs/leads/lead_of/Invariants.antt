-- No lead so far has the link.
use Rattle.std.proofs.Common.{◌≡◌, drop}
use Rattle.js_crossing.specs.Leads.{leads_by}
use Rattle.js_crossing.proofs.leads.lead_of.Given as goal

abbrev pub invariant-loop-lead : goal.invariant-loop-lead
invariant-loop-lead l = leads_by l.leads l.link ≡ leads_by (drop l.lead-index l.leads) l.link
