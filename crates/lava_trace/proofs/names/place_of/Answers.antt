-- The places one after the other.
use Rattle.std.proofs.Common.{sym, ◌∙◌, arith}
use Rattle.std.proofs.lemmas.Option.{slice_get_within}
use Rattle.js_text.specs.CommonPaths.{common_paths}
use Rattle.lava_trace.specs.Items.{place_of}
use Rattle.lava_trace.proofs.Place_laws.{few_paths, place_here, place_more, place_none}
use Rattle.lava_trace.proofs.names.place_of.Goals as goal

pub returns-then-is_word : goal.returns-then-is_word
unfolding place_of
returns-then-is_word c =
    sym (place_here common_paths c.args.path.now c.loop-known.place c.in-Some.known.now (sym c.in-Some.ensures.path) (sym c.if-is_word.ensures)) ∙ c.loop-known.invariant.0

pub overflow_add-place : goal.overflow_add-place
overflow_add-place c = omega (arith, few_paths, slice_get_within common_paths c.loop-known.place c.in-Some.known.now (sym c.in-Some.ensures.path))

pub loop-known-smaller : goal.loop-known-smaller
loop-known-smaller c = omega (arith, slice_get_within common_paths c.loop-known.place c.in-Some.known.now (sym c.in-Some.ensures.path))

pub loop-known-preserved : goal.loop-known-preserved
loop-known-preserved c = (
  sym (place_more common_paths c.args.path.now c.loop-known.place c.in-Some.known.now (sym c.in-Some.ensures.path) (sym c.if-is_word.ensures)) ∙ c.loop-known.invariant.0,
  omega (arith, slice_get_within common_paths c.loop-known.place c.in-Some.known.now (sym c.in-Some.ensures.path)),
)

pub returns : goal.returns
unfolding place_of
returns c = sym (place_none common_paths c.args.path.now c.loop-known.place (sym c.in_default.ensures.path)) ∙ c.loop-known.invariant.0
