-- Which policy the bytes of a file are.
use Rattle.std.specs.Prelude.{ℕ, ◌≡◌, List, [], ◌∷◌, ◌++◌, Bool, true, false, bytes_eq, if◌then◌else◌, Option, Some, None, Result, Ok, Err, IsUtf8, ◌⊎◌, ⊤}
use Rattle.serde_json.specs.Data.{Data, null, boolean, number, string, array, object, Members, no_members, member}
use Rattle.serde_json.specs.Find.{get_member, as_object}
use Rattle.serde_json.specs.Read.{read}
use Rattle.policy_row.specs.Names.{kind_name, resources_name, write_name}
use Rattle.policy_row.specs.Rows.{Entries, Rows}
use Rattle.policy_row.specs.declared.fault.PolicyFault.{PolicyFault}
use Rattle.policy_row.specs.declared.fault.PolicyFault.TheVariants.{Bad, OutOfMemory}
use Rattle.policy_row.specs.declared.fault.PolicyFile.{PolicyFile}
use Rattle.policy_row.specs.declared.fault.PolicyWhat.TheVariants.{Json, Value}
use Rattle.policy_row.specs.declared.grade.Grade.{Grade}
use Rattle.policy_row.specs.declared.grade.Grade.TheVariants.{No, Yes, Write}
use Rattle.policy_row.specs.declared.grade.Kind.{Kind}
use Rattle.policy_row.specs.declared.grade.Kind.TheVariants.{Builtin, Globals, Packages}
use Rattle.policy_row.specs.declared.row.Row.{Row}

-- a value there that is none of those that may stand at the key
-- own: the refusal of a policy file
abbrev pub bad_value : PolicyFile → (row key : List ℕ) → PolicyFault
bad_value file row key = Bad file row key Value

abbrev pub truth_grade : Bool → Grade
truth_grade true = Yes
truth_grade false = No

-- the text "write" may stand in `globals` alone
-- LavaMoat policy
abbrev pub text_grade : Kind → List ℕ → Option Grade
text_grade Builtin text = None
text_grade Globals text = if bytes_eq text write_name then Some Write else None
text_grade Packages text = None

-- what a value of an entry says, if it may stand there
-- LavaMoat policy
abbrev pub grade_of : Kind → Data → Option Grade
grade_of kind null = None
grade_of kind (boolean b) = Some (truth_grade b)
grade_of kind (number n) = None
grade_of kind (string text) = text_grade kind text
grade_of kind (array ds) = None
grade_of kind (object ms) = None

-- the key of an entry in a refusal: the kind, a point and the key
-- own: the refusal of a policy file
abbrev pub entry_key : Kind → List ℕ → List ℕ
entry_key kind key = kind_name kind ++ 46 ∷ key

-- an entry before others, where these were read
abbrev pub before_entries : List ℕ × Grade → Result Entries PolicyFault → Result Entries PolicyFault
before_entries e (Ok es) = Ok (e ∷ es)
before_entries e (Err fault) = Err fault

abbrev pub first_entry : PolicyFault → List ℕ → Option Grade → Result Entries PolicyFault → Result Entries PolicyFault
first_entry fault key None rest = Err fault
first_entry fault key (Some grade) rest = before_entries (key, grade) rest

-- the entries of a kind. Members stand in byte order, so the first bad one is refused
-- LavaMoat policy
abbrev pub entries_in : PolicyFile → (row : List ℕ) → Kind → Members → Result Entries PolicyFault
entries_in file row kind no_members = Ok []
entries_in file row kind (member key d ms) = first_entry (bad_value file row (entry_key kind key)) key (grade_of kind d) (entries_in file row kind ms)

abbrev pub entries_of : PolicyFile → (row : List ℕ) → Kind → Option Members → Result Entries PolicyFault
entries_of file row kind None = Err (bad_value file row (kind_name kind))
entries_of file row kind (Some ms) = entries_in file row kind ms

-- a kind that is absent has no entry
-- own: the profile of LavaMoat's policy
abbrev pub kind_in : PolicyFile → (row : List ℕ) → Kind → Option Data → Result Entries PolicyFault
kind_in file row kind None = Ok []
kind_in file row kind (Some d) = entries_of file row kind (as_object d)

abbrev pub row_from : Result Entries PolicyFault → Result Entries PolicyFault → Result Entries PolicyFault → Result Row PolicyFault
row_from (Err fault) globals packages = Err fault
row_from (Ok builtin) (Err fault) packages = Err fault
row_from (Ok builtin) (Ok globals) (Err fault) = Err fault
row_from (Ok builtin) (Ok globals) (Ok packages) = Ok (record { globals = globals; builtin = builtin; packages = packages })

-- the kinds are read in byte order, and any other key is passed over
abbrev pub row_in : PolicyFile → (row : List ℕ) → Members → Result Row PolicyFault
row_in file row ms =
    row_from (kind_in file row Builtin (get_member (kind_name Builtin) ms)) (kind_in file row Globals (get_member (kind_name Globals) ms)) (kind_in file row Packages (get_member (kind_name Packages) ms))

abbrev pub row_of_members : PolicyFile → (row : List ℕ) → Option Members → Result Row PolicyFault
row_of_members file row None = Err (bad_value file row [])
row_of_members file row (Some ms) = row_in file row ms

-- the row of a package
-- LavaMoat policy
abbrev pub row_of : PolicyFile → (row : List ℕ) → Data → Result Row PolicyFault
row_of file row d = row_of_members file row (as_object d)

abbrev pub before_rows : List ℕ × Row → Result Rows PolicyFault → Result Rows PolicyFault
before_rows r (Ok rows) = Ok (r ∷ rows)
before_rows r (Err fault) = Err fault

abbrev pub first_row : List ℕ → Result Row PolicyFault → Result Rows PolicyFault → Result Rows PolicyFault
first_row name (Err fault) rest = Err fault
first_row name (Ok row) rest = before_rows (name, row) rest

-- the rows in byte order
-- LavaMoat policy
abbrev pub rows_in : PolicyFile → Members → Result Rows PolicyFault
rows_in file no_members = Ok []
rows_in file (member name d ms) = first_row name (row_of file name d) (rows_in file ms)

abbrev pub rows_of : PolicyFile → Option Members → Result Rows PolicyFault
rows_of file None = Err (bad_value file [] [])
rows_of file (Some ms) = rows_in file ms

abbrev pub resources_in : PolicyFile → Option Data → Result Rows PolicyFault
resources_in file None = Ok []
resources_in file (Some d) = rows_of file (as_object d)

abbrev pub resources_of : PolicyFile → Option Members → Result Rows PolicyFault
resources_of file None = Err (bad_value file [] [])
resources_of file (Some ms) = resources_in file (get_member resources_name ms)

-- the policy that a JSON value is. A key beside `resources` is passed over
-- LavaMoat policy
abbrev pub policy_of : PolicyFile → Data → Result Rows PolicyFault
policy_of file d = resources_of file (as_object d)

-- the bytes are the text of this JSON value
abbrev pub IsJson : List ℕ → Data → Type 0
IsJson bytes d = IsUtf8 bytes × (read bytes ≡ Some d)

-- the bytes are no JSON
abbrev pub IsNoJson : List ℕ → Type 0
IsNoJson bytes = IsUtf8 bytes → read bytes ≡ None

-- a file of these bytes is refused so: as no JSON, or as the value that it is
-- own: the refusal of a policy file
abbrev pub IsRefused : PolicyFile → List ℕ → PolicyFault → Type 0
IsRefused file bytes OutOfMemory = ⊤
IsRefused file bytes (Bad f row key what) =
    (IsNoJson bytes × (Bad f row key what ≡ Bad file [] [] Json)) ⊎ ((d : Data) × IsJson bytes d × (policy_of file d ≡ Err (Bad f row key what)))

-- the fault is this one, or there was no memory
abbrev pub Tells : PolicyFault → PolicyFault → Type 0
Tells (Bad file row key what) wanted = wanted ≡ Bad file row key what
Tells OutOfMemory wanted = ⊤

-- what the call answers is this, or there was no memory
abbrev pub Answers : {A : Type 0} → Result A PolicyFault → Result A PolicyFault → Type 0
Answers (Ok x) wanted = wanted ≡ Ok x
Answers (Err (Bad file row key what)) wanted = wanted ≡ Err (Bad file row key what)
Answers (Err OutOfMemory) wanted = ⊤
