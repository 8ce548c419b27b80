-- What is answered of a source, from what is answered of its tokens.
use Rattle.std.proofs.Common.{◌≡◌, ℕ, List, Option, Some, None, ◌⊎◌, inl, inr, Result, Ok, Err, IfOk, MatchResult, sym, subst, ◌∙◌}
use Rattle.lava_base.specs.declared.place.Place.{Place}
use Rattle.js_fault.specs.declared.fault.SyntaxFault.{SyntaxFault}
use Rattle.js_fault.specs.declared.fault.SyntaxFault.TheVariants as fault
use Rattle.js_fault.specs.declared.fault.SyntaxWhat.{SyntaxWhat}
use Rattle.js_fault.specs.declared.fault.SyntaxWhat.TheVariants as what
use Rattle.js_grammar.specs.Grammar.{Row}
use Rattle.js_lexer.specs.Answers.{IsFault, GivesTokens, Refuses}
use Rattle.js_lexer.specs.Sources.{IsTokens, end_place}
use Rattle.js_lexer.specs.declared.token.Token.{Token}
use Rattle.js_reader.specs.Reading.{IsTree, IsInLanguage, HasReason, IsRefusal, events_of}
use Rattle.js_reader.specs.Sources.{HasSourceTree, IsReading, IsSyntaxFault}
use Rattle.js_reader.specs.declared.source.SourceReading.{SourceReading}

memory_refusal : (p : Place) (w : SyntaxWhat) (f : SyntaxFault) → f ≡ fault.OutOfMemory → IsRefusal p w f
memory_refusal p (what.Unsupported n) f e = inr e
memory_refusal p what.NotUtf8 f e = inr e
memory_refusal p what.BadToken f e = inr e
memory_refusal p what.Unexpected f e = inr e
memory_refusal p what.TooDeep f e = inr e
memory_refusal p (what.Early n) f e = inr e

-- a lexical fault
told_refusal : (p : Place) (w : SyntaxWhat) (f : SyntaxFault) → (f ≡ fault.At p w) ⊎ (f ≡ fault.OutOfMemory) → IsRefusal p w f
told_refusal p w f (inr e) = memory_refusal p w f e
told_refusal p (what.Unsupported n) f (inl e) = inl (n, e)
told_refusal p what.NotUtf8 f (inl e) = inl e
told_refusal p what.BadToken f (inl e) = inl e
told_refusal p what.Unexpected f (inl e) = inl e
told_refusal p what.TooDeep f (inl e) = inl e
told_refusal p (what.Early n) f (inl e) = inl e

-- where the tokens are refused
pub err_only : (source : List ℕ) (f : SyntaxFault) → ((ts : List Token) → IsTokens source ts → f ≡ fault.OutOfMemory) → HasSourceTree source → f ≡ fault.OutOfMemory
err_only source f h x = h x.0 x.2

pub err_refused : (source : List ℕ) (f : SyntaxFault) → ((ts : List Token) → IsTokens source ts → f ≡ fault.OutOfMemory) → ((p : Place) (w : SyntaxWhat) → IsFault source p w → (f ≡ fault.At p w) ⊎ (f ≡ fault.OutOfMemory)) → (p : Place) (w : SyntaxWhat) → IsSyntaxFault source p w → IsRefusal p w f
err_refused source f h k p w (inl u) = told_refusal p w f (k p w u)
err_refused source f h k p w (inr u) = memory_refusal p w f (h u.0 u.1)

-- where there are tokens
pub ok_only : {A : Type 0} (source : List ℕ) (ts : List Token) (result : Result A SyntaxFault) → ((us : List Token) → IsTokens source us → ts ≡ us) → ((parts : Row) → IsTree source ts parts → IsInLanguage source ts → MatchResult result (λ r. Unit {0}) (λ f. f ≡ fault.OutOfMemory)) → HasSourceTree source → MatchResult result (λ r. Unit {0}) (λ f. f ≡ fault.OutOfMemory)
ok_only source ts (Ok r) h k x = tt
ok_only source ts (Err f) h k x =
    let P : List Token → Type 0 = λ us. IsTree source us x.1 in
    let Q : List Token → Type 0 = λ us. IsInLanguage source us in
    let e = h x.0 x.2 in
    k x.1 (subst P (sym e) x.3) (subst Q (sym e) x.4)

pub ok_refused : {A : Type 0} (source : List ℕ) (ts : List Token) (result : Result A SyntaxFault) (end : Place) → end ≡ end_place source → ((us : List Token) → IsTokens source us → ts ≡ us) → ((p : Place) (w : SyntaxWhat) → IsFault source p w → ⊥) → ((p : Place) (w : SyntaxWhat) → HasReason source ts end (fault.At p w) → MatchResult result (λ r. ⊥) (IsRefusal p w)) → (p : Place) (w : SyntaxWhat) → IsSyntaxFault source p w → MatchResult result (λ r. ⊥) (IsRefusal p w)
ok_refused source ts result end v h n k p w (inl u) = absurd (n p w u)
ok_refused source ts result end v h n k p w (inr u) =
    let P : List Token → Type 0 = λ us. HasReason source us (end_place source) (fault.At p w) in
    let Q : Place → Type 0 = λ x. HasReason source ts x (fault.At p w) in
    k p w (subst Q (sym v) (subst P (sym (h u.0 u.1)) u.2))

-- where the tokens have a tree
pub ok_reading : (source : List ℕ) (ts : List Token) (result : Result SourceReading SyntaxFault) → IsTokens source ts → IfOk result (λ r. r.tokens ≡ ts) → IfOk result (λ r. (parts : Row) × IsTree source ts parts × (r.reading.out ≡ events_of parts)) → IfOk result (λ r. IsInLanguage source ts) → IfOk result (λ r. IsReading source r.tokens r.reading)
ok_reading source ts (Ok r) t e x k = subst (λ us. IsReading source us r.reading) (sym e) (x.0, t, x.1, k, x.2)
ok_reading source ts (Err f) t e x k = tt
