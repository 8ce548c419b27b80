-- The natives one after the other.
use Rattle.std.proofs.Common.{ap, sym, ◌∙◌}
use Rattle.js_text.specs.Texts.{same_units}
use Rattle.js_text.specs.declared.native.Native.TheVariants as native
use Rattle.lava_trace.proofs.Native_laws.{native_here, native_more, native_none}
use Rattle.lava_trace.proofs.natives.first_named.Goals as goal

pub returns-then-is_word : goal.returns-then-is_word
returns-then-is_word c =
    sym (native_here native.GetProto c.args.word.now c.args.natives.now c.loop-native.native-index c.loop-native-test.true
    (ap (same_units c.args.word.now) (sym c.name.ensures) ∙ sym c.if-is_word.ensures)) ∙ c.loop-native.invariant

pub loop-native-preserved : goal.loop-native-preserved
loop-native-preserved c =
    sym (native_more native.GetProto c.args.word.now c.args.natives.now c.loop-native.native-index c.loop-native-test.true
    (ap (same_units c.args.word.now) (sym c.name.ensures) ∙ sym c.if-is_word.ensures)) ∙ c.loop-native.invariant

pub returns : goal.returns
returns c = sym (native_none native.GetProto c.args.word.now c.args.natives.now c.loop-native.native-index c.loop-native-test.false) ∙ c.loop-native.invariant
