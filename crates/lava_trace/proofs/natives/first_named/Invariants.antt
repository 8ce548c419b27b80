-- None of the natives before has the name.
use Rattle.std.proofs.Common.{◌≡◌, drop}
use Rattle.js_text.specs.declared.native.Native.TheVariants as native
use Rattle.lava_trace.specs.Asks.{native_from}
use Rattle.lava_trace.proofs.natives.first_named.Given as goal

abbrev pub invariant-loop-native : goal.invariant-loop-native
invariant-loop-native l = native_from native.GetProto l.word (drop l.native-index l.natives) ≡ native_from native.GetProto l.word l.natives
