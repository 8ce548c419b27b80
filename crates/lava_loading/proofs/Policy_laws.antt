-- Two answers on the policy files of a directory are one.
use Rattle.std.proofs.Common.{◌≡◌, ◌⊎◌, ℕ, List, [], Option, Some, None, Result, Ok, Err, sym, ap, ◌∙◌, subst, inl, inr, refl}
use Rattle.serde_json.specs.Data.{Data}
use Rattle.lava_streams.specs.Files.{Files}
use Rattle.lava_streams.specs.Folders.{file_read}
use Rattle.lava_streams.specs.declared.folder.FileRead.{FileRead}
use Rattle.lava_streams.specs.declared.folder.FileRead.TheVariants.{Bytes, Absent, Longer}
use Rattle.pkg_graph.specs.declared.standing.TheConstants.{FILE_LIMIT}
use Rattle.policy_row.specs.Merging.{merged_rows}
use Rattle.policy_row.specs.Reading.{IsJson, IsNoJson, policy_of}
use Rattle.policy_row.specs.Rows.{Rows}
use Rattle.policy_row.specs.declared.fault.PolicyFault.{PolicyFault}
use Rattle.policy_row.specs.declared.fault.PolicyFault.TheVariants as refusal
use Rattle.policy_row.specs.declared.fault.PolicyFile.{PolicyFile}
use Rattle.policy_row.specs.declared.fault.PolicyFile.TheVariants.{Main, Override}
use Rattle.policy_row.specs.declared.fault.PolicyWhat.TheVariants.{Json}
use Rattle.lava_loading.specs.Policies.{ArePolicies, IsPolicyAnswer, IsPolicyAt, IsPolicyRead, is_told, policy_path}
use Rattle.lava_loading.specs.Laws.{IsOfPolicies as IsOfFault}
use Rattle.lava_loading.specs.declared.policies.PoliciesFault.{PoliciesFault}
use Rattle.lava_loading.specs.declared.policies.PoliciesFault.TheVariants as fault

-- the answer is one on what the files hold
abbrev pub IsOfPolicies : Result Rows PoliciesFault → Type 0
IsOfPolicies (Ok rows) = Unit {0}
IsOfPolicies (Err f) = IsOfFault f

-- ONE FILE

-- what bytes are as a policy file
abbrev Means : PolicyFile → List ℕ → Result Rows PolicyFault → Type 0
Means file bytes x = (IsNoJson bytes × (x ≡ Err (refusal.Bad file [] [] Json))) ⊎ ((d : Data) × IsJson bytes d × (policy_of file d ≡ x))

some_one : {X : Type 0} {x y : X} → Some x ≡ Some y → x ≡ y
some_one p = cc

abbrev is_some : {X : Type 0} → Option X → Type 0
is_some None = ⊥
is_some (Some x) = Unit {0}

no_json : (bytes : List ℕ) (d : Data) → IsNoJson bytes → IsJson bytes d → ⊥
no_json bytes d none j = subst is_some (sym j.1 ∙ none j.0) tt

means_one : (file : PolicyFile) (bytes : List ℕ) (x y : Result Rows PolicyFault) → Means file bytes x → Means file bytes y → x ≡ y
means_one file bytes x y (inl p) (inl q) = p.1 ∙ sym q.1
means_one file bytes x y (inl p) (inr q) = absurd (no_json bytes q.0 p.0 q.1)
means_one file bytes x y (inr p) (inl q) = absurd (no_json bytes p.0 q.0 p.1)
means_one file bytes x y (inr p) (inr q) = sym p.2 ∙ ap (policy_of file) (some_one (sym p.1.1 ∙ q.1.1)) ∙ q.2

abbrev told_result : Result Rows PolicyFault → Result Rows PoliciesFault
told_result (Ok rows) = Ok rows
told_result (Err f) = Err (is_told f)

-- what a file is told as
abbrev Expected : PolicyFile → FileRead → Result Rows PoliciesFault → Type 0
Expected file Absent a = a ≡ Ok []
Expected file (Bytes bytes) a = (x : Result Rows PolicyFault) × Means file bytes x × (a ≡ told_result x)
Expected file Longer a = a ≡ Err fault.TooLong

expected_one : (file : PolicyFile) (r : FileRead) (a b : Result Rows PoliciesFault) → Expected file r a → Expected file r b → a ≡ b
expected_one file Absent a b p q = p ∙ sym q
expected_one file (Bytes bytes) a b p q = p.2 ∙ ap told_result (means_one file bytes p.0 q.0 p.1 q.1) ∙ sym q.2
expected_one file Longer a b p q = p ∙ sym q

expected_rows : (file : PolicyFile) (r : FileRead) (rows : Rows) → IsPolicyAnswer file r (Ok rows) → Expected file r (Ok rows)
expected_rows file Absent rows p = ap Ok p
expected_rows file (Bytes bytes) rows p = (Ok rows, inr p, refl)
expected_rows file Longer rows p = absurd p

expected_is : (file : PolicyFile) (r : FileRead) (a : Result Rows PoliciesFault) → IsPolicyAnswer file r a → IsOfPolicies a → Expected file r a
expected_is file r (Ok rows) p of = expected_rows file r rows p
expected_is file r (Err (fault.Bad f row key what)) p of =
    subst (λ (s : FileRead). Expected file s (Err (fault.Bad f row key what))) (sym p.1) (Err (refusal.Bad f row key what), meant p.2, refl)
  where
    meant : (IsNoJson p.0 × (refusal.Bad f row key what ≡ refusal.Bad file [] [] Json)) ⊎ ((d : Data) × IsJson p.0 d × (policy_of file d ≡ Err (refusal.Bad f row key what))) → Means file p.0 (Err (refusal.Bad f row key what))
    meant (inl q) = inl (q.0, ap Err q.1)
    meant (inr q) = inr q
expected_is file r (Err fault.TooLong) p of = subst (λ (s : FileRead). Expected file s (Err fault.TooLong)) (sym p) refl
expected_is file r (Err fault.Folder) p of = absurd of
expected_is file r (Err fault.OutOfMemory) p of = absurd of

-- IN A DIRECTORY

read_is : (told : Option Files) (directory : List ℕ) (file : PolicyFile) (a : Result Rows PoliciesFault) → IsPolicyAt told directory file a → IsOfPolicies a → IsPolicyRead told directory file a
read_is told directory file (Ok rows) p of = p
read_is told directory file (Err (fault.Bad f row key what)) p of = p
read_is told directory file (Err fault.TooLong) p of = p
read_is told directory file (Err fault.Folder) p of = absurd of
read_is told directory file (Err fault.OutOfMemory) p of = absurd of

-- where the folder tells its files, a file is told as what it holds
expected_at : (files : Files) (directory : List ℕ) (file : PolicyFile) (a : Result Rows PoliciesFault) → IsPolicyAt (Some files) directory file a → IsOfPolicies a → Expected file (file_read files (policy_path directory file) FILE_LIMIT) a
expected_at files directory file a p of =
    let h = read_is (Some files) directory file a p of in
    subst (λ (s : FileRead). Expected file s a) h.is (expected_is file h.read a h.answers of)

file_one : (files : Files) (directory : List ℕ) (file : PolicyFile) (a b : Result Rows PoliciesFault) → IsPolicyAt (Some files) directory file a → IsPolicyAt (Some files) directory file b → IsOfPolicies a → IsOfPolicies b → a ≡ b
file_one files directory file a b p q of for =
    expected_one file (file_read files (policy_path directory file) FILE_LIMIT) a b (expected_at files directory file a p of) (expected_at files directory file b q for)

-- BOTH

abbrev is_ok : {X Y : Type 0} → Result X Y → Type 0
is_ok (Ok x) = Unit {0}
is_ok (Err y) = ⊥

ok_err : {X Y : Type 0} {x : X} {y : Y} → Ok x ≡ Err y → ⊥
ok_err p = subst is_ok p tt

ok_one : {X Y : Type 0} {x y : X} → ◌≡◌ {A = Result X Y} (Ok x) (Ok y) → x ≡ y
ok_one p = cc

pub policies_one : (files : Files) (directory : List ℕ) (a b : Result Rows PoliciesFault) → ArePolicies (Some files) directory a → ArePolicies (Some files) directory b → IsOfPolicies a → IsOfPolicies b → a ≡ b
policies_one files directory (Ok x) (Ok y) p q of for =
    ap Ok (p.over.is
    ∙ (λ j. merged_rows (ok_one (file_one files directory Main (Ok p.policy) (Ok q.policy) p.main q.main tt tt) j) (ok_one (file_one files directory Override (Ok p.over.over) (Ok q.over.over) p.over.read q.over.read tt tt) j))
    ∙ sym q.over.is)
policies_one files directory (Ok x) (Err f) p (inl q) of for = absurd (ok_err (file_one files directory Main (Ok p.policy) (Err f) p.main q tt for))
policies_one files directory (Ok x) (Err f) p (inr q) of for = absurd (ok_err (file_one files directory Override (Ok p.over.over) (Err f) p.over.read q.over tt for))
policies_one files directory (Err f) (Ok y) (inl p) q of for = absurd (ok_err (file_one files directory Main (Ok q.policy) (Err f) q.main p tt of))
policies_one files directory (Err f) (Ok y) (inr p) q of for = absurd (ok_err (file_one files directory Override (Ok q.over.over) (Err f) q.over.read p.over tt of))
policies_one files directory (Err f) (Err g) (inl p) (inl q) of for = file_one files directory Main (Err f) (Err g) p q of for
policies_one files directory (Err f) (Err g) (inl p) (inr q) of for = absurd (ok_err (file_one files directory Main (Ok q.policy) (Err f) q.main p tt of))
policies_one files directory (Err f) (Err g) (inr p) (inl q) of for = absurd (ok_err (file_one files directory Main (Ok p.policy) (Err g) p.main q tt for))
policies_one files directory (Err f) (Err g) (inr p) (inr q) of for = file_one files directory Override (Err f) (Err g) p.over q.over of for
