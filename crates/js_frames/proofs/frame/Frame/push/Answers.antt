use Rattle.std.proofs.Common.{◌≡◌, None, true, is_some, subst}
use Rattle.js_frames.specs.Frames.{found_in}
use Rattle.js_frames.proofs.Frames_laws.{kept_again, kept_append, nothing}
use Rattle.js_frames.proofs.frame.Frame.push.Goals as goal

pub invariant_of-self-then-has : goal.invariant_of-self-then-has
invariant_of-self-then-has c =
    let view : c.args.self.now ≡ c.self.inside.slots = cc in
    let some : is_some (found_in c.args.slot.name c.args.self.now) ≡ true = let h = c.has.ensures in let f = c.if-has.true in cc in
    let there = subst (λ l. is_some (found_in c.args.slot.name l) ≡ true) view some in
    kept_again c.self.invariant c.args.slot there _ c.in_ok-push.ensures.ok

pub invariant_of-self-2 : goal.invariant_of-self-2
invariant_of-self-2 c =
    let view : c.args.self.now ≡ c.self.inside.slots = cc in
    let none : found_in c.args.slot.name c.args.self.now ≡ None = let h = c.has.ensures in let f = c.if-has.false in nothing _ cc in
    let missing = subst (λ l. found_in c.args.slot.name l ≡ None) view none in
    kept_append c.self.invariant c.args.slot missing _ c.in_ok-append.ensures.ok _ c.in_ok-append.ensures.noted.0
