use Rattle.std.proofs.Common.{◌≡◌, sym, ap, subst, ◌∙◌, ℕ, List, ◌++◌, Ok}
use Rattle.js_lexer.specs.declared.element.Element.TheVariants as elements
use Rattle.js_lexer.specs.Nestings.{inside}
use Rattle.js_lexer.specs.Scanning.{element_of}
use Rattle.js_lexer.specs.Sources.{State, Takes, pushed}
use Rattle.js_lexer.proofs.Lexer_laws.{behind_taken, gap_taken_so, token_taken_so}
use Rattle.js_lexer.proofs.lexer.Lexer.take.Goals as goal

pub passed-spot-requires-clause-behind : goal.passed-spot-requires-clause-behind
passed-spot-requires-clause-behind c =
    let f : (w : List ℕ) × (c.copy-rest.result ≡ w ++ c.take_element.new.cursor) = behind_taken c.is_inside.result c.in-Ok.element c.copy-rest.result c.take_element.new.cursor c.in-Ok.ensures in
    (f.0, sym c.copy-rest.ensures ∙ f.1)

pub returns-in-Gap : goal.returns-in-Gap
returns-in-Gap c =
    let s : State = record { rest = c.self.inside.rest; spot = c.self.inside.spot; opens = c.self.inside.nesting; tokens = c.self.inside.tokens } in
    let same : element_of (inside c.self.inside.nesting) c.self.inside.rest ≡ element_of c.is_inside.result c.copy-rest.result
    = sym (ap (λ z. element_of z c.copy-rest.result) c.is_inside.ensures ∙ ap (λ z. element_of (inside c.self.inside.nesting) z) c.copy-rest.ensures) in
    let taken : element_of (inside s.opens) s.rest ≡ Ok (elements.Gap, c.take_element.new.cursor) = same ∙ c.in-Ok.ensures ∙ ap (λ z. Ok (z, c.take_element.new.cursor)) c.in-Gap.is in
    subst (λ z. Takes z (record { rest = c.take_element.new.cursor; spot = c.passed-spot.result; opens = c.self.inside.nesting; tokens = c.self.inside.tokens })) c.self.view_is
    (gap_taken_so s c.take_element.new.cursor c.passed-spot.result taken c.passed-spot.ensures.over)

pub bytes_to-requires : goal.bytes_to-requires
bytes_to-requires c =
    let f : (w : List ℕ) × (c.copy-rest.result ≡ w ++ c.take_element.new.cursor) = behind_taken c.is_inside.result c.in-Ok.element c.copy-rest.result c.take_element.new.cursor c.in-Ok.ensures in
    (f.0, sym c.copy-rest.ensures ∙ f.1)

pub returns : goal.returns
returns c =
    let s : State = record { rest = c.self.inside.rest; spot = c.self.inside.spot; opens = c.self.inside.nesting; tokens = c.self.inside.tokens } in
    let same : element_of (inside c.self.inside.nesting) c.self.inside.rest ≡ element_of c.is_inside.result c.copy-rest.result
    = sym (ap (λ z. element_of z c.copy-rest.result) c.is_inside.ensures ∙ ap (λ z. element_of (inside c.self.inside.nesting) z) c.copy-rest.ensures) in
    let taken : element_of (inside s.opens) s.rest ≡ Ok (c.in-Ok.element, c.take_element.new.cursor) = same ∙ c.in-Ok.ensures in
    let step : Takes s (pushed s c.in-Ok.element c.kind_of-kind.result c.take_element.new.cursor c.passed-spot.result)
    = token_taken_so s c.in-Ok.element c.kind_of-kind.result c.take_element.new.cursor c.bytes_to.result.now c.passed-spot.result taken c.passed-spot.ensures.over c.bytes_to.ensures c.kind_of-kind.ensures in
    let done : c.push.new.self ≡ pushed c.args.self.now c.in-Ok.element c.kind_of-kind.result c.take_element.new.cursor c.passed-spot.result = c.in_ok-push.ensures in
    subst (λ z. Takes c.args.self.now z) (sym done)
    (subst (λ z. Takes z (pushed z c.in-Ok.element c.kind_of-kind.result c.take_element.new.cursor c.passed-spot.result)) c.self.view_is step)
