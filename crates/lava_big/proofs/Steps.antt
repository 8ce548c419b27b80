-- One item more in a list of the application.
use Rattle.std.proofs.Common.{◌≡◌, ℕ, ◌+◌, List, [], ◌∷◌, ◌++◌, Result, Ok, Err, OnOk, refl, ap, ◌∙◌, add-one, append_assoc}
use Rattle.lava_big.specs.BigFiles as spec
use Rattle.lava_streams.specs.Failures.{Failures}
use Rattle.lava_streams.specs.Files.{Files}
use Rattle.lava_streams.specs.States.{FolderState}

pub dependencies_one_more : (k : ℕ) → spec.dependencies (k + 1) ≡ spec.dependencies k ++ (spec.comma_behind k ++ spec.dependency (k + 1))
dependencies_one_more k = rw add-one refl

pub rows_one_more : (k : ℕ) → spec.rows (k + 1) ≡ spec.rows k ++ (spec.comma_behind k ++ spec.row (k + 1))
rows_one_more k = rw add-one refl

pub packages_one_more : (k : ℕ) → spec.packages_files (k + 1) ≡ spec.packages_files k ++ spec.package_files k
packages_one_more k = ap spec.packages_files (add-one k)

pub same_state : (s : FolderState) (files : Files) (failing : Failures) → s.files ≡ files → s.failing ≡ failing → s ≡ record { files = files; failing = failing }
same_state s files failing p q = λ i. record { files = p i; failing = q i }

abbrev pub File : Type 0
File = List ℕ × List ℕ

-- of one path and one text
pub same_file : (path path' text text' : List ℕ) → path ≡ path' → text ≡ text' → ◌≡◌ {A = File} (path, text) (path', text')
same_file path path' text text' p q = λ i. (p i, q i)

-- a file is added behind others
pub one_file : {T E : Type 0} (r : Result T E) (f f1 f2 before more : Files) (a b : File) → a ≡ b → f1 ≡ f ++ before → before ++ (b ∷ []) ≡ more → OnOk r (f2 ≡ f1 ++ (a ∷ [])) → OnOk r (f2 ≡ f ++ more)
one_file (Ok x) f f1 f2 before more a b same p m q =
    q ∙ ap (λ fs. fs ++ (a ∷ [])) p ∙ ap (λ x. (f ++ before) ++ (x ∷ [])) same ∙ append_assoc f before (b ∷ []) ∙ ap (λ fs. f ++ fs) m
one_file (Err e) f f1 f2 before more a b same p m q = tt

joined : (f : Files) (a b c : File) → ((f ++ (a ∷ [])) ++ (b ∷ [])) ++ (c ∷ []) ≡ f ++ (a ∷ b ∷ c ∷ [])
joined f a b c = simp append_assoc

pub three_files : {T E : Type 0} (r : Result T E) (f f1 f2 f3 : Files) (a a' b b' c c' : File) → a ≡ a' → b ≡ b' → c ≡ c'
    → f1 ≡ f ++ (a ∷ []) → f2 ≡ f1 ++ (b ∷ []) → OnOk r (f3 ≡ f2 ++ (c ∷ [])) → OnOk r (f3 ≡ f ++ (a' ∷ b' ∷ c' ∷ []))
three_files (Ok x) f f1 f2 f3 a a' b b' c c' pa pb pc p m q =
    q ∙ ap (λ fs. fs ++ (c ∷ [])) (m ∙ ap (λ fs. fs ++ (b ∷ [])) p) ∙ joined f a b c ∙ (λ i. f ++ (pa i ∷ pb i ∷ pc i ∷ []))
three_files (Err e) f f1 f2 f3 a a' b b' c c' pa pb pc p m q = tt
