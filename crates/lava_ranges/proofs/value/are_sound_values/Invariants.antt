-- The values so far are sound.
use Rattle.std.proofs.Common.{take}
use Rattle.std.specs.List.{AllByRecursion}
use Rattle.lava_trace_laws.specs.Sound.{Sound_value}
use Rattle.lava_ranges.proofs.value.are_sound_values.Given as goal

abbrev pub invariant-loop-value : goal.invariant-loop-value
invariant-loop-value l = AllByRecursion Sound_value (take l.value-index l.values)
