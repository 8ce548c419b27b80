-- The policy of an application: what its two policy files say.
use Rattle.std.specs.Prelude.{◌≡◌, ◌⊎◌, ℕ, List, [], ◌++◌, Option, Result, Ok, Err}
use Rattle.lava_streams.specs.Counts.{ForTold, Rises}
use Rattle.lava_streams.specs.Files.{Files}
use Rattle.lava_streams.specs.Folders.{file_read}
use Rattle.lava_streams.specs.declared.folder.FileRead.{FileRead}
use Rattle.lava_streams.specs.declared.folder.FileRead.TheVariants.{Bytes, Absent, Longer}
use Rattle.pkg_graph.specs.declared.standing.TheConstants.{FILE_LIMIT}
use Rattle.policy_row.specs.Merging.{merged_rows}
use Rattle.policy_row.specs.Names.{file_name}
use Rattle.policy_row.specs.Reading.{IsRefused}
use Rattle.policy_row.specs.Rows.{Rows}
use Rattle.policy_row.specs.Writing.{IsPolicy}
use Rattle.policy_row.specs.declared.fault.PolicyFault.{PolicyFault}
use Rattle.policy_row.specs.declared.fault.PolicyFault.TheVariants as refusal
use Rattle.policy_row.specs.declared.fault.PolicyFile.{PolicyFile}
use Rattle.policy_row.specs.declared.fault.PolicyFile.TheVariants.{Main, Override}
use Rattle.lava_loading.specs.declared.policies.TheConstants.{POLICY_DIRECTORY}
use Rattle.lava_loading.specs.declared.policies.PoliciesFault.{PoliciesFault}
use Rattle.lava_loading.specs.declared.policies.PoliciesFault.TheVariants as fault

-- the path of a policy file of the application in a directory
-- LavaMoat policy
abbrev pub policy_path : (directory : List ℕ) → PolicyFile → List ℕ
policy_path directory file = directory ++ (POLICY_DIRECTORY.now ++ file_name file)

-- what a policy file holds, where the folder tells its files
abbrev pub IsPolicyFile : (told : Option Files) → (directory : List ℕ) → PolicyFile → FileRead → Type 0
IsPolicyFile told directory file read = ForTold told (λ files. read ≡ file_read files (policy_path directory file) FILE_LIMIT)

-- why a file is no policy, as it is told
abbrev pub is_told : PolicyFault → PoliciesFault
is_told (refusal.Bad file row key what) = fault.Bad file row key what
is_told refusal.OutOfMemory = fault.OutOfMemory

-- the policy that a file is: an absent one is the empty policy, and one that is longer than the limit is none
-- LavaMoat policy
abbrev pub IsPolicyOf : PolicyFile → FileRead → Rows → Type 0
IsPolicyOf file Absent rows = rows ≡ []
IsPolicyOf file (Bytes bytes) rows = IsPolicy file bytes rows
IsPolicyOf file Longer rows = ⊥

-- the policy that a file is, or why it is none: it is longer than the limit, or its bytes are no policy
-- own: the refusal of a policy file
abbrev pub IsPolicyAnswer : PolicyFile → FileRead → Result Rows PoliciesFault → Type 0
IsPolicyAnswer file read (Ok rows) = IsPolicyOf file read rows
IsPolicyAnswer file read (Err (fault.Bad f row key what)) =
    (bytes : List ℕ) × (read ≡ Bytes bytes) × IsRefused file bytes (refusal.Bad f row key what)
IsPolicyAnswer file read (Err fault.TooLong) = read ≡ Longer
IsPolicyAnswer file read (Err fault.Folder) = ⊥
IsPolicyAnswer file read (Err fault.OutOfMemory) = Unit {0}

-- the file was read, and is answered so
pub record IsPolicyRead (told : Option Files) (directory : List ℕ) (file : PolicyFile) (answer : Result Rows PoliciesFault) : Type 0 where
  pub read : FileRead
  pub is : IsPolicyFile told directory file read
  pub answers : IsPolicyAnswer file read answer

-- what the reading of a policy file answers. Where a call on the folder failed, or there was no memory, it says nothing of the file
abbrev pub IsPolicyAt : (told : Option Files) → (directory : List ℕ) → PolicyFile → Result Rows PoliciesFault → Type 0
IsPolicyAt told directory file (Ok rows) = IsPolicyRead told directory file (Ok rows)
IsPolicyAt told directory file (Err (fault.Bad f row key what)) = IsPolicyRead told directory file (Err (fault.Bad f row key what))
IsPolicyAt told directory file (Err fault.TooLong) = IsPolicyRead told directory file (Err fault.TooLong)
IsPolicyAt told directory file (Err fault.Folder) = Unit {0}
IsPolicyAt told directory file (Err fault.OutOfMemory) = Unit {0}

-- the override was read, and this is what it makes of a policy
pub record IsOverridden (told : Option Files) (directory : List ℕ) (policy merged : Rows) : Type 0 where
  pub over : Rows
  pub read : IsPolicyAt told directory Override (Ok over)
  pub is : merged ≡ merged_rows policy over

-- the override over a policy, or why there is none
-- LavaMoat policy
abbrev pub IsOverrideOf : (told : Option Files) → (directory : List ℕ) → (policy : Rows) → Result Rows PoliciesFault → Type 0
IsOverrideOf told directory policy (Ok merged) = IsOverridden told directory policy merged
IsOverrideOf told directory policy (Err f) = IsPolicyAt told directory Override (Err f)

-- `policy.json` was read, and then the override
pub record AreBothRead (told : Option Files) (directory : List ℕ) (answer : Result Rows PoliciesFault) : Type 0 where
  pub policy : Rows
  pub main : IsPolicyAt told directory Main (Ok policy)
  pub over : IsOverrideOf told directory policy answer

-- The policy of the application in a directory: the override over `policy.json`; or the first of these files that is refused.
-- LavaMoat policy
abbrev pub ArePolicies : (told : Option Files) → (directory : List ℕ) → Result Rows PoliciesFault → Type 0
ArePolicies told directory (Ok merged) = AreBothRead told directory (Ok merged)
ArePolicies told directory (Err f) = IsPolicyAt told directory Main (Err f) ⊎ AreBothRead told directory (Err f)

-- what the reading does to the folder's count of faults: it rises where the answer is Folder, and stays at every other answer
abbrev pub CountsPolicies : {T : Type 0} → ℕ → ℕ → Result T PoliciesFault → Type 0
CountsPolicies old new (Ok x) = new ≡ old
CountsPolicies old new (Err (fault.Bad file row key what)) = new ≡ old
CountsPolicies old new (Err fault.TooLong) = new ≡ old
CountsPolicies old new (Err fault.Folder) = Rises old new
CountsPolicies old new (Err fault.OutOfMemory) = new ≡ old
