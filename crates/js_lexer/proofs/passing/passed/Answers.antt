use Rattle.std.proofs.Common.{◌≡◌, ◌+◌, ◌≤◌, ◌<◌, ℕ, ◌++◌, length, List, [], ◌∷◌, sym, ap, subst, ◌∙◌, arith}
use Rattle.std.specs.Str.{encode_utf8_all}
use Rattle.js_lexer.specs.Spots.{over_all}
use Rattle.js_lexer.proofs.Passing_laws.{one_more, none_more, one_front, bytes_behind}
use Rattle.js_lexer.proofs.passing.passed.Goals as goal

pub loop-rest-init : goal.loop-rest-init
loop-rest-init c = record {
  behind = (c.requires.behind.0, c.copy-rest.ensures ∙ c.requires.behind.1);
  over = λ v w a b. ap (λ z. over_all c.args.spot z) (one_front w v c.args.to.now c.args.from.now (sym c.copy-rest.ensures ∙ b) a);
  sound = c.requires.sound;
  room = ap (λ z. c.args.spot.offset + length (encode_utf8_all z)) c.copy-rest.ensures;
}

pub loop-rest-preserved : goal.loop-rest-preserved
loop-rest-preserved c =
    let taken : c.loop-rest.rest ≡ c.in-Some.c ∷ c.bump.new.self = c.in-Some.ensures in
    let more : length (encode_utf8_all c.args.to.now) < length (encode_utf8_all (c.in-Some.c ∷ c.bump.new.self))
    = omega (arith, c.loop-rest-test.true, c.left-end.ensures, c.left.ensures, ap (λ z. length (encode_utf8_all z)) taken) in
    let next : (v : List ℕ) × (c.bump.new.self ≡ v ++ c.args.to.now) × (c.loop-rest.invariant.behind.0 ≡ c.in-Some.c ∷ v)
    = one_more c.in-Some.c c.bump.new.self c.args.to.now c.loop-rest.invariant.behind.0 (sym taken ∙ c.loop-rest.invariant.behind.1) more in
    record {
      behind = (next.0, next.1);
      over = λ v w a b.
          ap (λ z. over_all z w) c.over-spot.ensures.over
          ∙ c.loop-rest.invariant.over v (c.in-Some.c ∷ w) a (taken ∙ ap (λ z. c.in-Some.c ∷ z) b);
      sound = c.over-spot.ensures.sound;
      room = bytes_behind c.loop-rest.spot c.in-Some.c c.bump.new.self c.over-spot.result _ c.over-spot.ensures.over
          (ap (λ z. c.loop-rest.spot.offset + length (encode_utf8_all z)) (sym taken) ∙ c.loop-rest.invariant.room);
    }

pub returns-clause-over : goal.returns-clause-over
returns-clause-over c = λ w a.
    let no_more : length (encode_utf8_all c.loop-rest.rest) ≤ length (encode_utf8_all c.args.to.now) = omega (arith, c.loop-rest-test.false, c.left.ensures, c.left-end.ensures) in
    let end : c.loop-rest.invariant.behind.0 ≡ [] = none_more c.loop-rest.rest c.args.to.now c.loop-rest.invariant.behind.0 c.loop-rest.invariant.behind.1 no_more in
    subst (λ z. over_all c.loop-rest.spot z ≡ over_all c.args.spot w) end (c.loop-rest.invariant.over w c.loop-rest.invariant.behind.0 a c.loop-rest.invariant.behind.1)

pub returns-clause-room : goal.returns-clause-room
returns-clause-room c =
    let no_more : length (encode_utf8_all c.loop-rest.rest) ≤ length (encode_utf8_all c.args.to.now) = omega (arith, c.loop-rest-test.false, c.left.ensures, c.left-end.ensures) in
    let end : c.loop-rest.invariant.behind.0 ≡ [] = none_more c.loop-rest.rest c.args.to.now c.loop-rest.invariant.behind.0 c.loop-rest.invariant.behind.1 no_more in
    let same : c.loop-rest.rest ≡ c.args.to.now = c.loop-rest.invariant.behind.1 ∙ ap (λ z. z ++ c.args.to.now) end in
    ap (λ z. c.loop-rest.spot.offset + length (encode_utf8_all z)) (sym same) ∙ c.loop-rest.invariant.room
