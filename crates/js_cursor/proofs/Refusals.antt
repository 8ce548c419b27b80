-- A stop is told as its refusal, or there is no memory for its text.
use Rattle.std.proofs.Common.{◌≡◌, ◌⊎◌, inl, inr, ℕ, List, subst}
use Rattle.lava_base.specs.declared.place.Place.{Place}
use Rattle.js_fault.specs.declared.fault.SyntaxFault.{SyntaxFault}
use Rattle.js_fault.specs.declared.fault.SyntaxFault.TheVariants as fault
use Rattle.js_reader.specs.declared.halt.Halt.{Halt}
use Rattle.js_reader.specs.declared.halt.HaltCause.{HaltCause}
use Rattle.js_reader.specs.declared.halt.HaltCause.TheVariants as cause
use Rattle.js_reader.specs.Halts.{IsFaultOf}
use Rattle.js_reader.specs.declared.run.RunAnswer.{RunAnswer}
use Rattle.js_reader.specs.declared.run.RunAnswer.TheVariants as answer
use Rattle.js_reader.specs.Runs.{IsRunStop, Tells_run, IsRead}
use Rattle.js_lexer.specs.declared.token.Token.{Token}
use Rattle.js_cursor.specs.Cursors.{Standing, refusal_for, IsKept, IsRefusedFrom, IsRepeated}

repeated_by : (p : Place) (c : HaltCause) (f : SyntaxFault) → IsFaultOf p c f → (f ≡ fault.At p (refusal_for c)) ⊎ (f ≡ fault.OutOfMemory)
repeated_by p cause.Unexpected f h = inl h
repeated_by p cause.TooDeep f h = inl h
repeated_by p (cause.LeftOut x) f h = h

pub repeated : (h : Halt) (f : SyntaxFault) → IsFaultOf h.place h.cause f → IsRepeated h f
repeated h f k = repeated_by h.place h.cause f k

-- what a reading that stops tells
pub stop_told : (source : List ℕ) (left : List Token) (end : Place) (a : RunAnswer) (h : Halt) → a ≡ answer.Stopped h → Tells_run source left end a → IsRunStop source left end h.place h.cause
stop_told source left end a h e k = let P : RunAnswer → Type 0 = λ x. Tells_run source left end x in subst P e k

pub never_read : (a : RunAnswer) (h : Halt) → a ≡ answer.Stopped h → IsRead a → ⊥
never_read a h e k = subst IsRead e k

pub refused_from : (old new : Standing) (h : Halt) (f : SyntaxFault) → IsRunStop old.source old.left old.end h.place h.cause → IsKept old new h f → IsRefusedFrom old new f
refused_from old new h f k (inl m) = inl m
refused_from old new h f k (inr m) = inr (h, k, m.0, m.1)
