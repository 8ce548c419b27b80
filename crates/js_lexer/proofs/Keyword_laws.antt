-- The keyword that is found among those of a word's length is the one whose text is the word.
use Rattle.std.proofs.Common.{◌≡◌, ◌↔◌, ℕ, Bool, true, false, cond, List, [], ◌∷◌, length, Option, Some, None, IfSome, IfNone, refl, sym, subst, ◌∙◌}
use Rattle.std.specs.List.{find}
use Rattle.std.specs.Str.{bytes_eq}
use Rattle.std.proofs.lemmas.Slice.Eq.{bytes_eq-Decides}
use Rattle.js_lexer.specs.Keywords.{keyword_text, is_text_of, of_length, keyword_named}
use Rattle.js_lexer.specs.declared.keywords.Keyword.{Keyword}
use Rattle.js_lexer.specs.declared.keywords.Keyword.TheVariants.{Break}

-- what is found passes the test
found_passes : {T : Type 0} (p : T → Bool) (xs : List T) → IfSome (find p xs) (λ x. p x ≡ true)
found_passes p [] = tt
found_passes p (x ∷ xs) = at (p x) refl (found_passes p xs)
  where
    at : (b : Bool) → p x ≡ b → IfSome (find p xs) (λ y. p y ≡ true) → IfSome (cond b (Some x) (find p xs)) (λ y. p y ≡ true)
    at true h later = h
    at false h later = later

-- each keyword is found by its text
finds_each : (k : Keyword) → keyword_named (keyword_text k) ≡ Some k
finds_each Break = refl
finds_each _ = refl

same_text : (us vs : List ℕ) → bytes_eq us vs ≡ true → us ≡ vs
same_text us vs h = (bytes_eq-Decides us vs).0 h

pub keyword_exact : (word : List ℕ) (k : Keyword) → (keyword_text k ≡ word) ↔ (keyword_named word ≡ Some k)
keyword_exact word k = (
  λ h. subst (λ z. keyword_named z ≡ Some k) h (finds_each k),
  λ h. same_text (keyword_text k) word (subst (λ z. IfSome z (λ x. is_text_of word x ≡ true)) h (found_passes (is_text_of word) (of_length (length word)))),
)

pub named_so : (r : Option Keyword) (word : List ℕ) → r ≡ keyword_named word → IfSome r (λ k. keyword_text k ≡ word)
named_so None word e = tt
named_so (Some k) word e = (keyword_exact word k).1 (sym e)

pub none_named : (r : Option Keyword) (word : List ℕ) → r ≡ keyword_named word → IfNone r ((k : Keyword) → ¬ (keyword_text k ≡ word))
none_named (Some k) word e = tt
none_named None word e = λ k h. differ k (e ∙ (keyword_exact word k).0 h)
  where
    differ : (k : Keyword) → None ≡ Some k → ⊥
    differ k h = cc
