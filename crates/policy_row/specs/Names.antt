-- The words of a policy: kinds, files, and what can be wrong.
use Rattle.std.specs.Prelude.{ℕ, List, [], ◌∷◌, codes}
use Rattle.policy_row.specs.declared.grade.Kind.{Kind}
use Rattle.policy_row.specs.declared.grade.Kind.TheVariants.{Builtin, Globals, Packages}
use Rattle.policy_row.specs.declared.fault.PolicyFile.{PolicyFile}
use Rattle.policy_row.specs.declared.fault.PolicyFile.TheVariants.{Main, Override}
use Rattle.policy_row.specs.declared.fault.PolicyWhat.{PolicyWhat}
use Rattle.policy_row.specs.declared.fault.PolicyWhat.TheVariants.{Json, Value}

-- the key of a kind in a row
-- LavaMoat policy
abbrev pub kind_name : Kind → List ℕ
kind_name Builtin = codes "builtin"
kind_name Globals = codes "globals"
kind_name Packages = codes "packages"

-- the key under which the rows stand
-- LavaMoat policy
abbrev pub resources_name : List ℕ
resources_name = codes "resources"

-- the text that grants writing
-- LavaMoat policy
abbrev pub write_name : List ℕ
write_name = codes "write"

-- LavaMoat policy
abbrev pub file_name : PolicyFile → List ℕ
file_name Main = codes "policy.json"
file_name Override = codes "policy-override.json"

-- own: the words of the line that refuses a policy file
abbrev pub what_name : PolicyWhat → List ℕ
what_name Json = codes "json"
what_name Value = codes "value"

-- own: an empty word of that line
abbrev pub shown_word : List ℕ → List ℕ
shown_word [] = codes "-"
shown_word (b ∷ bs) = b ∷ bs
