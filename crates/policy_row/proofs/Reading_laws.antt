-- What is read member by member.
use Rattle.std.proofs.Common.{◌≡◌, ℕ, Bool, true, false, ◌&&◌, List, [], ◌∷◌, ◌++◌, Some, None, Result, Ok, Err, IfErr, refl, sym, ap, ◌∙◌, inr, append_assoc, append-nil}
use Rattle.std.specs.Cmp.{first_so, second_so}
use Rattle.std.specs.List.{list_all}
use Rattle.std.specs.Map.{keys_of}
use Rattle.serde_json.specs.Data.{Data, null, boolean, number, string, array, object, Members, member}
use Rattle.policy_row.specs.Reading.{Answers, Tells, IsJson, IsRefused, truth_grade, text_grade, grade_of, entry_key, bad_value, before_entries, first_entry, entries_in, before_rows, first_row, row_of, rows_in, policy_of}
use Rattle.policy_row.specs.Rows.{Entries, Rows, may_stand}
use Rattle.policy_row.specs.declared.fault.PolicyFault.{PolicyFault}
use Rattle.policy_row.specs.declared.fault.PolicyFault.TheVariants.{Bad, OutOfMemory}
use Rattle.policy_row.specs.declared.fault.PolicyFile.{PolicyFile}
use Rattle.policy_row.specs.declared.grade.Grade.{Grade}
use Rattle.policy_row.specs.declared.grade.Kind.{Kind}
use Rattle.policy_row.specs.declared.grade.Kind.TheVariants.{Builtin, Globals, Packages}
use Rattle.policy_row.specs.declared.row.Row.{Row}
use Rattle.policy_row.proofs.Entries_laws.{keys_of-append}

-- what was read before, and then what comes
abbrev pub behind : {X : Type 0} → List X → Result (List X) PolicyFault → Result (List X) PolicyFault
behind xs (Ok ys) = Ok (xs ++ ys)
behind xs (Err fault) = Err fault

pub behind_all : {X : Type 0} (xs : List X) → behind xs (Ok []) ≡ Ok xs
behind_all xs = ap Ok (append-nil xs)

pub both : (a b : Bool) → a ≡ true → b ≡ true → (a && b) ≡ true
both a b h k = rw (h, k) refl

-- a refusal of a part is a refusal of the whole
pub passed : {A B : Type 0} (f : Result A PolicyFault → Result B PolicyFault) → ((fault : PolicyFault) → f (Err fault) ≡ Err fault) → (fault : PolicyFault) (wanted : Result A PolicyFault) → Answers {A = A} (Err fault) wanted → Answers {A = B} (Err fault) (f wanted)
passed f keeps (Bad file row key what) wanted h = ap f h ∙ keeps (Bad file row key what)
passed f keeps OutOfMemory wanted h = record {}

-- a fault that tells the wanted one is the wanted answer
pub told : {A : Type 0} (fault wanted : PolicyFault) (all : Result A PolicyFault) → Tells fault wanted → all ≡ Err wanted → Answers {A = A} (Err fault) all
told (Bad file row key what) wanted all h e = e ∙ ap Err h
told OutOfMemory wanted all h e = record {}

-- MEMBERS

behind_row : (rows : Rows) (r : List ℕ × Row) (rest : Result Rows PolicyFault) → behind (rows ++ r ∷ []) rest ≡ behind rows (before_rows r rest)
behind_row rows r (Ok more) = ap Ok (append_assoc rows (r ∷ []) more)
behind_row rows r (Err fault) = refl

pub row_read : (file : PolicyFile) (rows : Rows) (name : List ℕ) (d : Data) (ms : Members) (row : Row) (all : Result Rows PolicyFault) → row_of file name d ≡ Ok row → behind rows (rows_in file (member name d ms)) ≡ all → behind (rows ++ (name, row) ∷ []) (rows_in file ms) ≡ all
row_read file rows name d ms row all h e = behind_row rows (name, row) (rows_in file ms) ∙ sym (ap (λ r. behind rows (first_row name r (rows_in file ms))) h) ∙ e

behind_entry : (es : Entries) (e : List ℕ × Grade) (rest : Result Entries PolicyFault) → behind (es ++ e ∷ []) rest ≡ behind es (before_entries e rest)
behind_entry es e (Ok more) = ap Ok (append_assoc es (e ∷ []) more)
behind_entry es e (Err fault) = refl

pub entry_read : (file : PolicyFile) (row : List ℕ) (kind : Kind) (es : Entries) (key : List ℕ) (d : Data) (ms : Members) (grade : Grade) (all : Result Entries PolicyFault) → grade_of kind d ≡ Some grade → behind es (entries_in file row kind (member key d ms)) ≡ all → behind (es ++ (key, grade) ∷ []) (entries_in file row kind ms) ≡ all
entry_read file row kind es key d ms grade all h e =
    behind_entry es (key, grade) (entries_in file row kind ms) ∙ sym (ap (λ g. behind es (first_entry (bad_value file row (entry_key kind key)) key g (entries_in file row kind ms))) h) ∙ e

pub entry_refused : (file : PolicyFile) (row : List ℕ) (kind : Kind) (es : Entries) (key : List ℕ) (d : Data) (ms : Members) (all : Result Entries PolicyFault) → grade_of kind d ≡ None → behind es (entries_in file row kind (member key d ms)) ≡ all → all ≡ Err (bad_value file row (entry_key kind key))
entry_refused file row kind es key d ms all h e =
    sym e ∙ ap (λ g. behind es (first_entry (bad_value file row (entry_key kind key)) key g (entries_in file row kind ms))) h

pub names_step : {X : Type 0} (es : List (List ℕ × X)) (name : List ℕ) (x : X) (names all : List (List ℕ)) → keys_of es ++ name ∷ names ≡ all → keys_of (es ++ (name, x) ∷ []) ++ names ≡ all
names_step es name x names all h = rw (keys_of-append es ((name, x) ∷ [])) (append_assoc (keys_of es) (name ∷ []) names ∙ h)

-- what may stand in a kind
text_may_stand : (kind : Kind) (text : List ℕ) (grade : Grade) → text_grade kind text ≡ Some grade → may_stand kind grade ≡ true
text_may_stand Builtin text grade h = cc
text_may_stand Globals text grade h = refl
text_may_stand Packages text grade h = cc

truth_may_stand : (kind : Kind) (b : Bool) → may_stand kind (truth_grade b) ≡ true
truth_may_stand Builtin true = refl
truth_may_stand Builtin false = refl
truth_may_stand Globals b = refl
truth_may_stand Packages true = refl
truth_may_stand Packages false = refl

same_grade : (a b : Grade) → Some a ≡ Some b → a ≡ b
same_grade a b h = cc

pub graded_may_stand : (kind : Kind) (d : Data) (grade : Grade) → grade_of kind d ≡ Some grade → may_stand kind grade ≡ true
graded_may_stand kind null grade h = cc
graded_may_stand kind (boolean b) grade h = sym (ap (may_stand kind) (same_grade (truth_grade b) grade h)) ∙ truth_may_stand kind b
graded_may_stand kind (number n) grade h = cc
graded_may_stand kind (string text) grade h = text_may_stand kind text grade h
graded_may_stand kind (array ds) grade h = cc
graded_may_stand kind (object ms) grade h = cc

pub all_pushed : (p : Grade → Bool) (es : Entries) (key : List ℕ) (grade : Grade) → list_all (λ e. p e.1) es ≡ true → p grade ≡ true → list_all (λ e. p e.1) (es ++ (key, grade) ∷ []) ≡ true
all_pushed p [] key grade h here = rw here refl
all_pushed p (e ∷ es) key grade h here = rw (first_so (p e.1) _ h) (all_pushed p es key grade (second_so (p e.1) _ h) here)

-- a JSON value that is refused
pub refused : (file : PolicyFile) (bytes : List ℕ) (d : Data) (r : Result Rows PolicyFault) → IsJson bytes d → Answers r (policy_of file d) → IfErr r (λ fault. IsRefused file bytes fault)
refused file bytes d (Ok rows) json h = record {}
refused file bytes d (Err OutOfMemory) json h = record {}
refused file bytes d (Err (Bad f row key what)) json h = inr (d, json, h)
