-- The keys so far are sound.
use Rattle.std.proofs.Common.{take}
use Rattle.std.specs.List.{AllByRecursion}
use Rattle.lava_trace_laws.specs.Sound.{Sound_key}
use Rattle.lava_ranges.proofs.answer.are_sound_keys.Given as goal

abbrev pub invariant-loop-key : goal.invariant-loop-key
invariant-loop-key l = AllByRecursion Sound_key (take l.key-index l.keys)
