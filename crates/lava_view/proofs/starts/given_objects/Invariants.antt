-- What is there, and what is left.
use Rattle.std.proofs.Common.{◌≡◌, ◌++◌, drop}
use Rattle.lava_view.specs.Starts.{given_by}
use Rattle.lava_view.proofs.starts.given_objects.Given as goal

abbrev pub invariant-loop-number : goal.invariant-loop-number
invariant-loop-number l = l.objects ++ given_by l.start (drop l.number-index l.numbers) ≡ given_by l.start l.numbers
