-- Where the links of parties lead.
use Rattle.std.specs.Prelude.{ℕ, List, [], ◌∷◌, Option, Some, None, if◌then◌else◌}
use Rattle.js_text.specs.Texts.{same_units}
use Rattle.js_crossing.specs.declared.leads.Lead.{Lead}

-- the party to which the first lead with a link leads
abbrev pub leads_by : List Lead → List ℕ → Option ℕ
leads_by [] l = None
leads_by (x ∷ xs) l = if same_units l x.link then Some x.party else leads_by xs l

abbrev pub leads_among : Option (List Lead) → List ℕ → Option ℕ
leads_among None l = None
leads_among (Some xs) l = leads_by xs l
