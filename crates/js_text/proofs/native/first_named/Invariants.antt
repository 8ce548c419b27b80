-- No native before the index has the name.
use Rattle.std.proofs.Common.{◌≡◌, ◌<◌, slice_index_or, ℕ}
use Rattle.js_text.specs.declared.native.Native.{Native}
use Rattle.js_text.specs.Natives.{native_name}
use Rattle.js_text.proofs.native.first_named.Given as goal

abbrev pub invariant-loop-native : goal.invariant-loop-native
invariant-loop-native l = (k : ℕ) (d : Native) → k < l.native-index → ¬ (native_name (slice_index_or l.natives k d) ≡ l.name)
