-- The words of a text are its first and the others.
use Rattle.std.proofs.Common.{◌≡◌, ℕ, Bool, true, false, List, [], ◌∷◌, ◌++◌, length, refl, sym, ap, ◌∙◌, subst, append_assoc, Result, OnOk, IfOk, IsUtf8, arith}
use Rattle.std.specs.List.{position_or_len, slice_split}
use Rattle.std.proofs.lemmas.Bool.{ltb-true, ltb-false}
use Rattle.std.proofs.lemmas.List.Elements.{All-from_get_or}
use Rattle.std.proofs.lemmas.List.Splits.{slice_split_none, slice_split_first}
use Rattle.std.proofs.lemmas.List.Sums.{fails_before_first}
use Rattle.std.proofs.lemmas.Str.{IsUtf8-from_is_utf8, is_utf8-from_IsUtf8}
use Rattle.std.specs.Str.{is_utf8}
use Rattle.js_fault.specs.declared.fault.SyntaxWhat.TheVariants.{NotUtf8}
use Rattle.lava_base.specs.declared.memory.OutOfMemory.{OutOfMemory}
use Rattle.pkg_load.specs.declared.reader.ModuleRead.{ModuleRead}
use Rattle.package_rows.specs.Words.{is_space, has_space, first_word, other_words, refused_as, text_read, bytes_read}

-- there is no space
pub one_word : (text : List ℕ) → has_space text ≡ false → slice_split is_space text ≡ text ∷ []
one_word text none =
    let past = ltb-false (position_or_len is_space text) (length text) none in
    slice_split_none is_space text (All-from_get_or (λ b. is_space b ≡ false) text 0 (λ i lt. fails_before_first is_space text i 0 (omega (arith, past, lt))))

pub more_words : (text : List ℕ) → has_space text ≡ true → slice_split is_space text ≡ first_word text ∷ slice_split is_space (other_words text)
more_words text some = slice_split_first is_space text 0 (ltb-true (position_or_len is_space text) (length text) some)

pub added_one : (old new : List (List ℕ)) (text word : List ℕ) → has_space text ≡ false → word ≡ text → new ≡ old ++ word ∷ [] → new ≡ old ++ slice_split is_space text
added_one old new text word none is push =
    push ∙ ap (λ (w : List ℕ). old ++ w ∷ []) is ∙ ap (λ (ws : List (List ℕ)). old ++ ws) (sym (one_word text none))

pub added_more : (old mid new : List (List ℕ)) (text word rest : List ℕ) (answer : Result (Unit {0}) OutOfMemory) → has_space text ≡ true → word ≡ first_word text → rest ≡ other_words text → mid ≡ old ++ word ∷ [] → OnOk answer (new ≡ mid ++ slice_split is_space rest) → OnOk answer (new ≡ old ++ slice_split is_space text)
added_more old mid new text word rest answer some first others push h =
    let split : word ∷ slice_split is_space rest ≡ slice_split is_space text = (λ i. first i ∷ slice_split is_space (others i)) ∙ sym (more_words text some) in
    let all : mid ++ slice_split is_space rest ≡ old ++ slice_split is_space text =
    ap (λ (ws : List (List ℕ)). ws ++ slice_split is_space rest) push ∙ append_assoc old (word ∷ []) (slice_split is_space rest) ∙ ap (λ (ws : List (List ℕ)). old ++ ws) split in
    subst (λ (ws : List (List ℕ)). OnOk answer (new ≡ ws)) all h

pub read_good : (bytes text : List ℕ) (answer : Result (ModuleRead ℕ) OutOfMemory) → text ≡ bytes → IsUtf8 bytes → IfOk answer (λ r. r ≡ text_read text) → IfOk answer (λ r. r ≡ bytes_read bytes)
read_good bytes text answer is good h =
    let here : text_read text ≡ bytes_read bytes = ap text_read is ∙ (rw (is_utf8-from_IsUtf8 bytes good) refl) in
    subst (λ (m : ModuleRead ℕ). IfOk answer (λ r. r ≡ m)) here h

no_utf8 : (bytes : List ℕ) (b : Bool) → is_utf8 bytes ≡ b → (IsUtf8 bytes → ⊥) → b ≡ false
no_utf8 bytes true is bad = absurd (bad (IsUtf8-from_is_utf8 bytes is))
no_utf8 bytes false is bad = refl

pub read_bad : (bytes : List ℕ) → (IsUtf8 bytes → ⊥) → refused_as NotUtf8 ≡ bytes_read bytes
read_bad bytes bad = rw (no_utf8 bytes (is_utf8 bytes) refl bad) refl
