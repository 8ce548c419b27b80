use Rattle.std.proofs.Common.{map, length, ap, sym, ◌∙◌, subst, Some, None}
use Rattle.js_code.specs.Decoded.{part_of_row, term_at}
use Rattle.js_code.specs.Settled.{IsSettled}
use Rattle.js_code.proofs.Founded.{extends_further, holds_still}
use Rattle.js_code.proofs.Holding.{fixed_held, four_held, given, given_as, held_as, listing_ends, listing_goes_on, one_held, placed, row_of, three_held, two_held}
use Rattle.js_code.proofs.+compile.Goals as goal
use Rattle.js_term.specs.declared.term.Arguments.TheOpen.{Term-F}
use Rattle.js_term.specs.declared.term.Arguments.TheVariants as arguments
use Rattle.js_term.specs.declared.term.Jump.TheVariants as jump
use Rattle.js_term.specs.declared.term.Part.TheVariants as part
use Rattle.js_term.specs.declared.term.Template.{out-Template, roll-Template, roll-out-Template}
use Rattle.js_term.specs.declared.term.Term.{out-Term, roll-Term, roll-out-Term}
use Rattle.js_term.specs.declared.term.Term.TheVariants.{outs-Lit, outs-Outside, outs-This, outs-NewTarget, outs-Local, outs-Fresh, outs-Global, outs-SetLocal, outs-SetGlobal, outs-Init, outs-Get, outs-Put, outs-Delete, outs-SuperGet, outs-Call, outs-CallOn, outs-CallSuper, outs-New, outs-SuperNew, outs-Unary, outs-Binary, outs-Short, outs-If, outs-Func, outs-Define, outs-Class, outs-Native, outs-Seq, outs-Scope, outs-Loop, outs-Label, outs-Jump, outs-Throw, outs-Try}

-- STEPS IN A ROW

pub compile::term_to-returns-clause-extends : goal.compile::term_to-returns-clause-extends
compile::term_to-returns-clause-extends t c = extends_further c.row.ensures.extends c.push_node.ensures.extends

pub compile::term_to-returns-clause-term : goal.compile::term_to-returns-clause-term
compile::term_to-returns-clause-term t c = placed c.push_node.ensures.term (ap roll-Term c.in_ok-row.ensures.row.holds.is ∙ roll-out-Term c.args.term.now)

pub operands::two-returns-in_err-second-clause-extends : goal.operands::two-returns-in_err-second-clause-extends
operands::two-returns-in_err-second-clause-extends t c = extends_further c.place.ensures.extends c.place-2.ensures.extends

pub operands::two-returns-clause-extends : goal.operands::two-returns-clause-extends
operands::two-returns-clause-extends t c = extends_further c.place.ensures.extends c.place-2.ensures.extends

pub operands::two-returns-clause-first : goal.operands::two-returns-clause-first
operands::two-returns-clause-first t c = record { holds = holds_still c.place-2.ensures.extends c.in_ok-first.ensures.term.holds }

pub operands::three-returns-in_err-third-clause-extends : goal.operands::three-returns-in_err-third-clause-extends
operands::three-returns-in_err-third-clause-extends t c = extends_further c.two.ensures.extends c.place.ensures.extends

pub operands::three-returns-clause-extends : goal.operands::three-returns-clause-extends
operands::three-returns-clause-extends t c = extends_further c.two.ensures.extends c.place.ensures.extends

pub operands::three-returns-clause-first : goal.operands::three-returns-clause-first
operands::three-returns-clause-first t c = record { holds = holds_still c.place.ensures.extends c.in_ok-first.ensures.first.holds }

pub operands::three-returns-clause-second : goal.operands::three-returns-clause-second
operands::three-returns-clause-second t c = record { holds = holds_still c.place.ensures.extends c.in_ok-first.ensures.second.holds }

pub operands::called-returns-in_err-given-clause-extends : goal.operands::called-returns-in_err-given-clause-extends
operands::called-returns-in_err-given-clause-extends t c = extends_further c.place.ensures.extends c.arguments.ensures.extends

pub operands::called-returns-clause-extends : goal.operands::called-returns-clause-extends
operands::called-returns-clause-extends t c = extends_further c.place.ensures.extends c.arguments.ensures.extends

pub operands::called-returns-clause-callee : goal.operands::called-returns-clause-callee
operands::called-returns-clause-callee t c = record { holds = holds_still c.arguments.ensures.extends c.in_ok-callee.ensures.term.holds }

pub operands::called_on-returns-in_err-given-clause-extends : goal.operands::called_on-returns-in_err-given-clause-extends
operands::called_on-returns-in_err-given-clause-extends t c = extends_further c.two.ensures.extends c.arguments.ensures.extends

pub operands::called_on-returns-clause-extends : goal.operands::called_on-returns-clause-extends
operands::called_on-returns-clause-extends t c = extends_further c.two.ensures.extends c.arguments.ensures.extends

pub operands::called_on-returns-clause-object : goal.operands::called_on-returns-clause-object
operands::called_on-returns-clause-object t c = record { holds = holds_still c.arguments.ensures.extends c.in_ok-object.ensures.first.holds }

pub operands::called_on-returns-clause-key : goal.operands::called_on-returns-clause-key
operands::called_on-returns-clause-key t c = record { holds = holds_still c.arguments.ensures.extends c.in_ok-object.ensures.second.holds }

pub operands::named-returns-in_err-name-clause-extends : goal.operands::named-returns-in_err-name-clause-extends
operands::named-returns-in_err-name-clause-extends t c = extends_further c.place.ensures.extends c.push_text.ensures.extends

pub operands::named-returns-clause-extends : goal.operands::named-returns-clause-extends
operands::named-returns-clause-extends t c = extends_further c.place.ensures.extends c.push_text.ensures.extends

pub operands::named-returns-clause-term : goal.operands::named-returns-clause-term
operands::named-returns-clause-term t c = record { holds = holds_still c.push_text.ensures.extends c.in_ok-term.ensures.term.holds }

pub functions::method-returns-in_err-template-clause-extends : goal.functions::method-returns-in_err-template-clause-extends
functions::method-returns-in_err-template-clause-extends t c = extends_further c.place.ensures.extends c.template_to.ensures.extends

pub functions::method-returns-clause-extends : goal.functions::method-returns-clause-extends
functions::method-returns-clause-extends t c = extends_further c.place.ensures.extends c.template_to.ensures.extends

pub functions::method-returns-clause-key : goal.functions::method-returns-clause-key
functions::method-returns-clause-key t c = record { holds = holds_still c.template_to.ensures.extends c.in_ok-key.ensures.term.holds }

pub functions::defined-returns-in_err-start-clause-extends : goal.functions::defined-returns-in_err-start-clause-extends
functions::defined-returns-in_err-start-clause-extends t c = extends_further c.place.ensures.extends c.parts.ensures.extends

pub functions::defined-returns-clause-extends : goal.functions::defined-returns-clause-extends
functions::defined-returns-clause-extends t c = extends_further c.place.ensures.extends c.parts.ensures.extends

pub functions::defined-returns-clause-object : goal.functions::defined-returns-clause-object
functions::defined-returns-clause-object t c = record { holds = holds_still c.parts.ensures.extends c.in_ok-object.ensures.term.holds }

pub functions::method-returns-clause-template : goal.functions::method-returns-clause-template
functions::method-returns-clause-template t c = given_as (sym c.get.ensures) c.in_ok-template.ensures.template.holds

pub operands::maybe-returns-in_ok-at-in-Some-clause-term : goal.operands::maybe-returns-in_ok-at-in-Some-clause-term
operands::maybe-returns-in_ok-at-in-Some-clause-term t c = given_as c.in-Some.is (one_held Some c.in_ok-at-in-Some.ensures.term.holds)

pub functions::maybe_template-returns-in_ok-at-in-Some-clause-template : goal.functions::maybe_template-returns-in_ok-at-in-Some-clause-template
functions::maybe_template-returns-in_ok-at-in-Some-clause-template t c = given_as (c.in-Some.is ∙ ap Some (sym c.get.ensures)) (one_held Some c.in_ok-at-in-Some.ensures.template.holds)

pub operands::terms-returns-in_err-at-clause-extends : goal.operands::terms-returns-in_err-at-clause-extends
operands::terms-returns-in_err-at-clause-extends t c = extends_further c.loop-term.invariant.extends c.place.ensures.extends

pub operands::terms-returns-in_err-push-clause-extends : goal.operands::terms-returns-in_err-push-clause-extends
operands::terms-returns-in_err-push-clause-extends t c = extends_further c.loop-term.invariant.extends c.place.ensures.extends

pub operands::terms-loop-term-preserved : goal.operands::terms-loop-term-preserved
operands::terms-loop-term-preserved t c = listing_goes_on c.in_ok-at.at _ c.loop-term.term-index c.loop-term.invariant c.place.ensures.extends c.in_ok-at.ensures.term.holds c.loop-term-test.true c.term-item.is c.push.new.self.items c.in_ok-push.ensures.items

pub operands::terms-returns-clause-extends : goal.operands::terms-returns-clause-extends
operands::terms-returns-clause-extends t c = extends_further c.loop-term.invariant.extends c.push_numbers.ensures.extends

pub operands::terms-returns-clause-terms : goal.operands::terms-returns-clause-terms
operands::terms-returns-clause-terms t c = let here = c.loop-term.code in given (c.push_numbers.ensures.terms (subst (λ rows. IsSettled (λ d low. map (low) rows) here (length here.nodes)) (sym c.deref.ensures.value) c.loop-term.invariant.settled)) (ap (map (term_at here)) c.deref.ensures.value ∙ (listing_ends c.loop-term.invariant c.loop-term-test.false ∙ c.as_slice-items.ensures))

pub functions::parts-returns-in_err-row-clause-extends : goal.functions::parts-returns-in_err-row-clause-extends
functions::parts-returns-in_err-row-clause-extends t c = extends_further c.loop-item.invariant.extends c.part.ensures.extends

pub functions::parts-returns-in_err-push-clause-extends : goal.functions::parts-returns-in_err-push-clause-extends
functions::parts-returns-in_err-push-clause-extends t c = extends_further c.loop-item.invariant.extends c.part.ensures.extends

pub functions::parts-loop-item-preserved : goal.functions::parts-loop-item-preserved
functions::parts-loop-item-preserved t c = listing_goes_on c.in_ok-row.row _ c.loop-item.item-index c.loop-item.invariant c.part.ensures.extends c.in_ok-row.ensures.part.holds c.loop-item-test.true c.item-item.is c.push.new.self.items c.in_ok-push.ensures.items

pub functions::parts-returns-clause-extends : goal.functions::parts-returns-clause-extends
functions::parts-returns-clause-extends t c = extends_further c.loop-item.invariant.extends c.push_parts.ensures.extends

pub functions::parts-push_parts-requires : goal.functions::parts-push_parts-requires
functions::parts-push_parts-requires t c = let here = c.loop-item.code in subst (λ rows. IsSettled (λ d low. map (part_of_row d low) rows) here (length here.nodes)) (sym c.deref.ensures.value) c.loop-item.invariant.settled

pub functions::parts-returns-clause-parts : goal.functions::parts-returns-clause-parts
functions::parts-returns-clause-parts t c = let here = c.loop-item.code in given c.push_parts.ensures.parts (ap (map (part_of_row here (term_at here))) c.deref.ensures.value ∙ (listing_ends c.loop-item.invariant c.loop-item-test.false ∙ c.as_slice-items.ensures))

pub operands::arguments-push_arguments-requires : goal.operands::arguments-push_arguments-requires
operands::arguments-push_arguments-requires t c = (one_held arguments.Listed c.in_ok-start-in-Listed.ensures.terms.holds).settled

pub operands::arguments-returns-in_ok-start-in-Listed-clause-extends : goal.operands::arguments-returns-in_ok-start-in-Listed-clause-extends
operands::arguments-returns-in_ok-start-in-Listed-clause-extends t c = extends_further c.terms.ensures.extends c.push_arguments.ensures.extends

pub operands::arguments-returns-in_ok-start-in-Listed-clause-given : goal.operands::arguments-returns-in_ok-start-in-Listed-clause-given
operands::arguments-returns-in_ok-start-in-Listed-clause-given t c = given c.push_arguments.ensures.arguments ((one_held arguments.Listed c.in_ok-start-in-Listed.ensures.terms.holds).is ∙ sym c.in-Listed.is)

pub operands::arguments-push_arguments-requires-in-Of : goal.operands::arguments-push_arguments-requires-in-Of
operands::arguments-push_arguments-requires-in-Of t c = (one_held arguments.Of c.in_ok-array-in-Of.ensures.term.holds).settled

pub operands::arguments-returns-in_ok-array-in-Of-clause-extends : goal.operands::arguments-returns-in_ok-array-in-Of-clause-extends
operands::arguments-returns-in_ok-array-in-Of-clause-extends t c = extends_further c.place.ensures.extends c.push_arguments-in-Of.ensures.extends

pub operands::arguments-returns-in_ok-array-in-Of-clause-given : goal.operands::arguments-returns-in_ok-array-in-Of-clause-given
operands::arguments-returns-in_ok-array-in-Of-clause-given t c = given c.push_arguments-in-Of.ensures.arguments ((one_held arguments.Of c.in_ok-array-in-Of.ensures.term.holds).is ∙ sym c.in-Of.is)

pub functions::template_to-returns-in_err-undefined_start-clause-extends : goal.functions::template_to-returns-in_err-undefined_start-clause-extends
functions::template_to-returns-in_err-undefined_start-clause-extends t c = extends_further c.named.ensures.extends c.push_numbers.ensures.extends

pub functions::template_to-returns-clause-extends : goal.functions::template_to-returns-clause-extends
functions::template_to-returns-clause-extends t c = extends_further c.named.ensures.extends (extends_further c.push_numbers.ensures.extends c.push_template.ensures.extends)

pub functions::template_to-push_template-requires : goal.functions::template_to-push_template-requires
functions::template_to-push_template-requires t c = let s = out-Template c.args.template.now in let held = three_held (λ n u b. roll-Template (record s { name = n; undefined = u; body = b })) (holds_still c.push_numbers.ensures.extends c.in_ok-name.ensures.name.holds) (held_as c.in_ok-undefined_start.ensures.numbers.holds c.as_slice.ensures) (holds_still c.push_numbers.ensures.extends c.in_ok-name.ensures.term.holds) in held.settled

pub functions::template_to-returns-clause-template : goal.functions::template_to-returns-clause-template
functions::template_to-returns-clause-template t c = let s = out-Template c.args.template.now in let held = three_held (λ n u b. roll-Template (record s { name = n; undefined = u; body = b })) (holds_still c.push_numbers.ensures.extends c.in_ok-name.ensures.name.holds) (held_as c.in_ok-undefined_start.ensures.numbers.holds c.as_slice.ensures) (holds_still c.push_numbers.ensures.extends c.in_ok-name.ensures.term.holds) in given c.push_template.ensures.template (held.is ∙ roll-out-Template c.args.template.now)

pub functions::part-returns-in_ok-key-in-Method-clause-part : goal.functions::part-returns-in_ok-key-in-Method-clause-part
functions::part-returns-in_ok-key-in-Method-clause-part t c = given_as c.in-Method.is (two_held (part.Method c.in-Method.is_static) c.in_ok-key-in-Method.ensures.key.holds c.in_ok-key-in-Method.ensures.template.holds)

pub functions::part-returns-in_ok-key-in-Getter-clause-part : goal.functions::part-returns-in_ok-key-in-Getter-clause-part
functions::part-returns-in_ok-key-in-Getter-clause-part t c = given_as c.in-Getter.is (two_held (part.Getter c.in-Getter.is_static) c.in_ok-key-in-Getter.ensures.key.holds c.in_ok-key-in-Getter.ensures.template.holds)

pub functions::part-returns-in_ok-key-in-Setter-clause-part : goal.functions::part-returns-in_ok-key-in-Setter-clause-part
functions::part-returns-in_ok-key-in-Setter-clause-part t c = given_as c.in-Setter.is (two_held (part.Setter c.in-Setter.is_static) c.in_ok-key-in-Setter.ensures.key.holds c.in_ok-key-in-Setter.ensures.template.holds)

pub functions::class-returns-in_err-constructor-clause-extends : goal.functions::class-returns-in_err-constructor-clause-extends
functions::class-returns-in_err-constructor-clause-extends t c = extends_further c.maybe.ensures.extends c.maybe_template.ensures.extends

pub functions::class-returns-in_err-start-clause-extends : goal.functions::class-returns-in_err-start-clause-extends
functions::class-returns-in_err-start-clause-extends t c = extends_further c.maybe.ensures.extends (extends_further c.maybe_template.ensures.extends c.parts.ensures.extends)

pub functions::class-returns-in_err-name-clause-extends : goal.functions::class-returns-in_err-name-clause-extends
functions::class-returns-in_err-name-clause-extends t c = extends_further c.maybe.ensures.extends (extends_further c.maybe_template.ensures.extends (extends_further c.parts.ensures.extends c.push_text.ensures.extends))

pub functions::class-returns-clause-extends : goal.functions::class-returns-clause-extends
functions::class-returns-clause-extends t c = extends_further c.maybe.ensures.extends (extends_further c.maybe_template.ensures.extends (extends_further c.parts.ensures.extends (extends_further c.push_text.ensures.extends c.push_class.ensures.extends)))

pub functions::class-push_class-requires : goal.functions::class-push_class-requires
functions::class-push_class-requires t c = let held = four_held Term-F.Class c.in_ok-name.ensures.text.holds (holds_still (extends_further c.maybe_template.ensures.extends (extends_further c.parts.ensures.extends c.push_text.ensures.extends)) c.in_ok-parent.ensures.term.holds) (holds_still (extends_further c.parts.ensures.extends c.push_text.ensures.extends) c.in_ok-constructor.ensures.template.holds) (holds_still c.push_text.ensures.extends c.in_ok-start.ensures.parts.holds) in held.settled

pub functions::class-returns-clause-class : goal.functions::class-returns-clause-class
functions::class-returns-clause-class t c = let held = four_held Term-F.Class c.in_ok-name.ensures.text.holds (holds_still (extends_further c.maybe_template.ensures.extends (extends_further c.parts.ensures.extends c.push_text.ensures.extends)) c.in_ok-parent.ensures.term.holds) (holds_still (extends_further c.parts.ensures.extends c.push_text.ensures.extends) c.in_ok-constructor.ensures.template.holds) (holds_still c.push_text.ensures.extends c.in_ok-start.ensures.parts.holds) in given c.push_class.ensures.class held.is

pub branching::repeated-returns-in_err-update-clause-extends : goal.branching::repeated-returns-in_err-update-clause-extends
branching::repeated-returns-in_err-update-clause-extends t c = extends_further c.two.ensures.extends c.maybe.ensures.extends

pub branching::repeated-returns-in_err-labels_start-clause-extends : goal.branching::repeated-returns-in_err-labels_start-clause-extends
branching::repeated-returns-in_err-labels_start-clause-extends t c = extends_further c.two.ensures.extends (extends_further c.maybe.ensures.extends c.labels.ensures.extends)

pub branching::repeated-returns-clause-extends : goal.branching::repeated-returns-clause-extends
branching::repeated-returns-clause-extends t c = extends_further c.two.ensures.extends (extends_further c.maybe.ensures.extends (extends_further c.labels.ensures.extends c.push_turn.ensures.extends))

pub branching::repeated-push_turn-requires : goal.branching::repeated-push_turn-requires
branching::repeated-push_turn-requires t c = let held = four_held (λ l t u b. Term-F.Loop l c.args.tests_first t u b) c.in_ok-labels_start.ensures.labels.holds (holds_still (extends_further c.maybe.ensures.extends c.labels.ensures.extends) c.in_ok-test.ensures.first.holds) (holds_still c.labels.ensures.extends c.in_ok-update.ensures.term.holds) (holds_still (extends_further c.maybe.ensures.extends c.labels.ensures.extends) c.in_ok-test.ensures.second.holds) in held.settled

pub branching::repeated-returns-clause-turn : goal.branching::repeated-returns-clause-turn
branching::repeated-returns-clause-turn t c = let held = four_held (λ l t u b. Term-F.Loop l c.args.tests_first t u b) c.in_ok-labels_start.ensures.labels.holds (holds_still (extends_further c.maybe.ensures.extends c.labels.ensures.extends) c.in_ok-test.ensures.first.holds) (holds_still c.labels.ensures.extends c.in_ok-update.ensures.term.holds) (holds_still (extends_further c.maybe.ensures.extends c.labels.ensures.extends) c.in_ok-test.ensures.second.holds) in given c.push_turn.ensures.turn held.is

pub branching::guarded-returns-in_err-handler-clause-extends : goal.branching::guarded-returns-in_err-handler-clause-extends
branching::guarded-returns-in_err-handler-clause-extends t c = extends_further c.place.ensures.extends c.maybe.ensures.extends

pub branching::guarded-returns-in_err-finalizer-clause-extends : goal.branching::guarded-returns-in_err-finalizer-clause-extends
branching::guarded-returns-in_err-finalizer-clause-extends t c = extends_further c.place.ensures.extends (extends_further c.maybe.ensures.extends c.maybe-2.ensures.extends)

pub branching::guarded-returns-clause-extends : goal.branching::guarded-returns-clause-extends
branching::guarded-returns-clause-extends t c = extends_further c.place.ensures.extends (extends_further c.maybe.ensures.extends (extends_further c.maybe-2.ensures.extends c.push_guarded.ensures.extends))

pub branching::guarded-push_guarded-requires : goal.branching::guarded-push_guarded-requires
branching::guarded-push_guarded-requires t c = let held = three_held Term-F.Try (holds_still (extends_further c.maybe.ensures.extends c.maybe-2.ensures.extends) c.in_ok-body.ensures.term.holds) (holds_still c.maybe-2.ensures.extends c.in_ok-handler.ensures.term.holds) c.in_ok-finalizer.ensures.term.holds in held.settled

pub branching::guarded-returns-clause-guarded : goal.branching::guarded-returns-clause-guarded
branching::guarded-returns-clause-guarded t c = let held = three_held Term-F.Try (holds_still (extends_further c.maybe.ensures.extends c.maybe-2.ensures.extends) c.in_ok-body.ensures.term.holds) (holds_still c.maybe-2.ensures.extends c.in_ok-handler.ensures.term.holds) c.in_ok-finalizer.ensures.term.holds in given c.push_guarded.ensures.guarded held.is

pub branching::branches-returns-in_ok-test-in-None-clause-row : goal.branching::branches-returns-in_ok-test-in-None-clause-row
branching::branches-returns-in_ok-test-in-None-clause-row t c = given_as (ap (Term-F.If c.args.test.now c.args.consequent.now) c.in-None.is) (two_held (λ t a. Term-F.If t a None) c.in_ok-test-in-None.ensures.first.holds c.in_ok-test-in-None.ensures.second.holds)

pub branching::branches-returns-in_ok-test-in-Some-clause-row : goal.branching::branches-returns-in_ok-test-in-Some-clause-row
branching::branches-returns-in_ok-test-in-Some-clause-row t c = given_as (ap (Term-F.If c.args.test.now c.args.consequent.now) c.in-Some.is) (three_held (λ t a b. Term-F.If t a (Some b)) c.in_ok-test-in-Some.ensures.first.holds c.in_ok-test-in-Some.ensures.second.holds c.in_ok-test-in-Some.ensures.third.holds)

pub branching::jump-returns-in_ok-label-in-Break-clause-row : goal.branching::jump-returns-in_ok-label-in-Break-clause-row
branching::jump-returns-in_ok-label-in-Break-clause-row t c = given_as (ap Term-F.Jump c.in-Break.is) (one_held (λ t. Term-F.Jump (jump.Break t)) c.in_ok-label-in-Break.ensures.text.holds)

pub branching::jump-returns-in_ok-label-in-Continue-clause-row : goal.branching::jump-returns-in_ok-label-in-Continue-clause-row
branching::jump-returns-in_ok-label-in-Continue-clause-row t c = given_as (ap Term-F.Jump c.in-Continue.is) (one_held (λ t. Term-F.Jump (jump.Continue t)) c.in_ok-label-in-Continue.ensures.text.holds)

pub branching::jump-returns-in-Return-clause-row : goal.branching::jump-returns-in-Return-clause-row
branching::jump-returns-in-Return-clause-row t c = given c.returned.ensures.row (ap Term-F.Jump (sym c.in-Return.is))

pub branching::returned-returns-in-None-clause-row : goal.branching::returned-returns-in-None-clause-row
branching::returned-returns-in-None-clause-row t c = given_as (ap (λ v. Term-F.Jump (jump.Return v)) c.in-None.is) (fixed_held (Term-F.Jump (jump.Return None)))

pub branching::returned-returns-in_ok-value-in-Some-clause-row : goal.branching::returned-returns-in_ok-value-in-Some-clause-row
branching::returned-returns-in_ok-value-in-Some-clause-row t c = given_as (ap (λ v. Term-F.Jump (jump.Return v)) c.in-Some.is) (one_held (λ t. Term-F.Jump (jump.Return (Some t))) c.in_ok-value-in-Some.ensures.term.holds)

pub functions::part-returns-in_ok-key-in-Data-clause-part : goal.functions::part-returns-in_ok-key-in-Data-clause-part
functions::part-returns-in_ok-key-in-Data-clause-part t c = given_as c.in-Data.is (two_held part.Data c.in_ok-key-in-Data.ensures.first.holds c.in_ok-key-in-Data.ensures.second.holds)

pub functions::part-returns-in_ok-term-in-Spread-clause-part : goal.functions::part-returns-in_ok-term-in-Spread-clause-part
functions::part-returns-in_ok-term-in-Spread-clause-part t c = given_as c.in-Spread.is (one_held part.Spread c.in_ok-term-in-Spread.ensures.term.holds)

pub functions::part-returns-in_ok-term-in-Item-clause-part : goal.functions::part-returns-in_ok-term-in-Item-clause-part
functions::part-returns-in_ok-term-in-Item-clause-part t c = given_as c.in-Item.is (one_held part.Item c.in_ok-term-in-Item.ensures.term.holds)

-- ROWS

pub compile::row-returns-in-Lit-clause-row : goal.compile::row-returns-in-Lit-clause-row
compile::row-returns-in-Lit-clause-row t c = given c.literal.ensures.row (sym (ap out-Term c.in-Lit.is ∙ outs-Lit _))

pub compile::row-returns-in-Outside-clause-row : goal.compile::row-returns-in-Outside-clause-row
compile::row-returns-in-Outside-clause-row t c = row_of c.in-Outside.is (outs-Outside) (fixed_held _)

pub compile::row-returns-in-This-clause-row : goal.compile::row-returns-in-This-clause-row
compile::row-returns-in-This-clause-row t c = row_of c.in-This.is (outs-This) (fixed_held _)

pub compile::row-returns-in-NewTarget-clause-row : goal.compile::row-returns-in-NewTarget-clause-row
compile::row-returns-in-NewTarget-clause-row t c = row_of c.in-NewTarget.is (outs-NewTarget) (fixed_held _)

pub compile::row-returns-in-Local-clause-row : goal.compile::row-returns-in-Local-clause-row
compile::row-returns-in-Local-clause-row t c = row_of c.in-Local.is (outs-Local _ _) (fixed_held _)

pub compile::row-returns-in-Fresh-clause-row : goal.compile::row-returns-in-Fresh-clause-row
compile::row-returns-in-Fresh-clause-row t c = row_of c.in-Fresh.is (outs-Fresh) (fixed_held _)

pub compile::row-returns-in_ok-name-in-Global-clause-row : goal.compile::row-returns-in_ok-name-in-Global-clause-row
compile::row-returns-in_ok-name-in-Global-clause-row t c = row_of c.in-Global.is (outs-Global _ _) (one_held (λ n. Term-F.Global n c.in-Global.soft) c.in_ok-name-in-Global.ensures.text.holds)

pub compile::row-returns-in_ok-value-in-SetLocal-clause-row : goal.compile::row-returns-in_ok-value-in-SetLocal-clause-row
compile::row-returns-in_ok-value-in-SetLocal-clause-row t c = row_of c.in-SetLocal.is (outs-SetLocal _ _ _ _) (one_held (Term-F.SetLocal c.in-SetLocal.hops c.in-SetLocal.slot c.in-SetLocal.constant) c.in_ok-value-in-SetLocal.ensures.term.holds)

pub compile::row-returns-in_ok-name-in-SetGlobal-clause-row : goal.compile::row-returns-in_ok-name-in-SetGlobal-clause-row
compile::row-returns-in_ok-name-in-SetGlobal-clause-row t c = row_of c.in-SetGlobal.is (outs-SetGlobal _ _) (two_held Term-F.SetGlobal c.in_ok-name-in-SetGlobal.ensures.name.holds c.in_ok-name-in-SetGlobal.ensures.term.holds)

pub compile::row-returns-in_ok-value-in-Init-clause-row : goal.compile::row-returns-in_ok-value-in-Init-clause-row
compile::row-returns-in_ok-value-in-Init-clause-row t c = row_of c.in-Init.is (outs-Init _ _ _) (one_held (Term-F.Init c.in-Init.hops c.in-Init.slot) c.in_ok-value-in-Init.ensures.term.holds)

pub compile::row-returns-in_ok-object-in-Get-clause-row : goal.compile::row-returns-in_ok-object-in-Get-clause-row
compile::row-returns-in_ok-object-in-Get-clause-row t c = row_of c.in-Get.is (outs-Get _ _) (two_held Term-F.Get c.in_ok-object-in-Get.ensures.first.holds c.in_ok-object-in-Get.ensures.second.holds)

pub compile::row-returns-in_ok-object-in-Put-clause-row : goal.compile::row-returns-in_ok-object-in-Put-clause-row
compile::row-returns-in_ok-object-in-Put-clause-row t c = row_of c.in-Put.is (outs-Put _ _ _) (three_held Term-F.Put c.in_ok-object-in-Put.ensures.first.holds c.in_ok-object-in-Put.ensures.second.holds c.in_ok-object-in-Put.ensures.third.holds)

pub compile::row-returns-in_ok-object-in-Delete-clause-row : goal.compile::row-returns-in_ok-object-in-Delete-clause-row
compile::row-returns-in_ok-object-in-Delete-clause-row t c = row_of c.in-Delete.is (outs-Delete _ _) (two_held Term-F.Delete c.in_ok-object-in-Delete.ensures.first.holds c.in_ok-object-in-Delete.ensures.second.holds)

pub compile::row-returns-in_ok-key-in-SuperGet-clause-row : goal.compile::row-returns-in_ok-key-in-SuperGet-clause-row
compile::row-returns-in_ok-key-in-SuperGet-clause-row t c = row_of c.in-SuperGet.is (outs-SuperGet _) (one_held Term-F.SuperGet c.in_ok-key-in-SuperGet.ensures.term.holds)

pub compile::row-returns-in_ok-callee-in-Call-clause-row : goal.compile::row-returns-in_ok-callee-in-Call-clause-row
compile::row-returns-in_ok-callee-in-Call-clause-row t c = row_of c.in-Call.is (outs-Call _ _) (two_held Term-F.Call c.in_ok-callee-in-Call.ensures.callee.holds c.in_ok-callee-in-Call.ensures.given.holds)

pub compile::row-returns-in_ok-object-in-CallOn-clause-row : goal.compile::row-returns-in_ok-object-in-CallOn-clause-row
compile::row-returns-in_ok-object-in-CallOn-clause-row t c = row_of c.in-CallOn.is (outs-CallOn _ _ _) (three_held Term-F.CallOn c.in_ok-object-in-CallOn.ensures.object.holds c.in_ok-object-in-CallOn.ensures.key.holds c.in_ok-object-in-CallOn.ensures.given.holds)

pub compile::row-returns-in_ok-key-in-CallSuper-clause-row : goal.compile::row-returns-in_ok-key-in-CallSuper-clause-row
compile::row-returns-in_ok-key-in-CallSuper-clause-row t c = row_of c.in-CallSuper.is (outs-CallSuper _ _) (two_held Term-F.CallSuper c.in_ok-key-in-CallSuper.ensures.callee.holds c.in_ok-key-in-CallSuper.ensures.given.holds)

pub compile::row-returns-in_ok-callee-in-New-clause-row : goal.compile::row-returns-in_ok-callee-in-New-clause-row
compile::row-returns-in_ok-callee-in-New-clause-row t c = row_of c.in-New.is (outs-New _ _) (two_held Term-F.New c.in_ok-callee-in-New.ensures.callee.holds c.in_ok-callee-in-New.ensures.given.holds)

pub compile::row-returns-in_ok-arguments-in-SuperNew-clause-row : goal.compile::row-returns-in_ok-arguments-in-SuperNew-clause-row
compile::row-returns-in_ok-arguments-in-SuperNew-clause-row t c = row_of c.in-SuperNew.is (outs-SuperNew _) (one_held Term-F.SuperNew c.in_ok-arguments-in-SuperNew.ensures.given.holds)

pub compile::row-returns-in_ok-operand-in-Unary-clause-row : goal.compile::row-returns-in_ok-operand-in-Unary-clause-row
compile::row-returns-in_ok-operand-in-Unary-clause-row t c = row_of c.in-Unary.is (outs-Unary _ _) (one_held (Term-F.Unary c.in-Unary.operator) c.in_ok-operand-in-Unary.ensures.term.holds)

pub compile::row-returns-in_ok-left-in-Binary-clause-row : goal.compile::row-returns-in_ok-left-in-Binary-clause-row
compile::row-returns-in_ok-left-in-Binary-clause-row t c = row_of c.in-Binary.is (outs-Binary _ _ _) (two_held (Term-F.Binary c.in-Binary.operator) c.in_ok-left-in-Binary.ensures.first.holds c.in_ok-left-in-Binary.ensures.second.holds)

pub compile::row-returns-in_ok-left-in-Short-clause-row : goal.compile::row-returns-in_ok-left-in-Short-clause-row
compile::row-returns-in_ok-left-in-Short-clause-row t c = row_of c.in-Short.is (outs-Short _ _ _) (two_held (Term-F.Short c.in-Short.operator) c.in_ok-left-in-Short.ensures.first.holds c.in_ok-left-in-Short.ensures.second.holds)

pub compile::row-returns-in-If-clause-row : goal.compile::row-returns-in-If-clause-row
compile::row-returns-in-If-clause-row t c = given c.branches.ensures.row (sym (ap out-Term c.in-If.is ∙ outs-If _ _ _))

pub compile::row-returns-in_ok-template-in-Func-clause-row : goal.compile::row-returns-in_ok-template-in-Func-clause-row
compile::row-returns-in_ok-template-in-Func-clause-row t c = row_of c.in-Func.is (outs-Func _ ∙ ap Term-F.Func (sym c.get.ensures)) (one_held Term-F.Func c.in_ok-template-in-Func.ensures.template.holds)

pub compile::row-returns-in_ok-object-in-Define-clause-row : goal.compile::row-returns-in_ok-object-in-Define-clause-row
compile::row-returns-in_ok-object-in-Define-clause-row t c = row_of c.in-Define.is (outs-Define _ _) (two_held Term-F.Define c.in_ok-object-in-Define.ensures.object.holds c.in_ok-object-in-Define.ensures.parts.holds)

pub compile::row-returns-in_ok-class-in-Class-clause-row : goal.compile::row-returns-in_ok-class-in-Class-clause-row
compile::row-returns-in_ok-class-in-Class-clause-row t c = row_of c.in-Class.is (outs-Class _ _ _ _) c.in_ok-class-in-Class.ensures.class.holds

pub compile::row-returns-in_ok-start-in-Native-clause-row : goal.compile::row-returns-in_ok-start-in-Native-clause-row
compile::row-returns-in_ok-start-in-Native-clause-row t c = row_of c.in-Native.is (outs-Native _ _) (one_held (Term-F.Native c.in-Native.native) c.in_ok-start-in-Native.ensures.terms.holds)

pub compile::row-returns-in_ok-start-in-Seq-clause-row : goal.compile::row-returns-in_ok-start-in-Seq-clause-row
compile::row-returns-in_ok-start-in-Seq-clause-row t c = row_of c.in-Seq.is (outs-Seq _) (one_held Term-F.Seq c.in_ok-start-in-Seq.ensures.terms.holds)

pub compile::row-returns-in_ok-body-in-Scope-clause-row : goal.compile::row-returns-in_ok-body-in-Scope-clause-row
compile::row-returns-in_ok-body-in-Scope-clause-row t c = row_of c.in-Scope.is (outs-Scope _ _) (one_held (Term-F.Scope c.in-Scope.slots) c.in_ok-body-in-Scope.ensures.term.holds)

pub compile::row-returns-in_ok-turns-in-Loop-clause-row : goal.compile::row-returns-in_ok-turns-in-Loop-clause-row
compile::row-returns-in_ok-turns-in-Loop-clause-row t c = row_of c.in-Loop.is (outs-Loop _ _ _ _ _) c.in_ok-turns-in-Loop.ensures.turn.holds

pub compile::row-returns-in_ok-label-in-Label-clause-row : goal.compile::row-returns-in_ok-label-in-Label-clause-row
compile::row-returns-in_ok-label-in-Label-clause-row t c = row_of c.in-Label.is (outs-Label _ _) (two_held Term-F.Label c.in_ok-label-in-Label.ensures.name.holds c.in_ok-label-in-Label.ensures.term.holds)

pub compile::row-returns-in-Jump-clause-row : goal.compile::row-returns-in-Jump-clause-row
compile::row-returns-in-Jump-clause-row t c = given c.jump.ensures.row (sym (ap out-Term c.in-Jump.is ∙ outs-Jump _))

pub compile::row-returns-in_ok-value-in-Throw-clause-row : goal.compile::row-returns-in_ok-value-in-Throw-clause-row
compile::row-returns-in_ok-value-in-Throw-clause-row t c = row_of c.in-Throw.is (outs-Throw _) (one_held Term-F.Throw c.in_ok-value-in-Throw.ensures.term.holds)

pub compile::row-returns-in_ok-guarded-in-Try-clause-row : goal.compile::row-returns-in_ok-guarded-in-Try-clause-row
compile::row-returns-in_ok-guarded-in-Try-clause-row t c = row_of c.in-Try.is (outs-Try _ _ _) c.in_ok-guarded-in-Try.ensures.guarded.holds
