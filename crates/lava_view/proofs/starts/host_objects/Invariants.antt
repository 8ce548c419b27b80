-- What is there, and what is left.
use Rattle.std.proofs.Common.{◌≡◌, ◌++◌, drop, map}
use Rattle.lava_view.specs.Starts.{host_object}
use Rattle.lava_view.proofs.starts.host_objects.Given as goal

abbrev pub invariant-loop-number : goal.invariant-loop-number
invariant-loop-number l = l.objects ++ map host_object (drop l.number-index l.numbers) ≡ map host_object l.numbers
