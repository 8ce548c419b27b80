-- Where the path leads from here, and the parts that are left lead on.
use Rattle.std.proofs.Common.{◌≡◌, [], Some, length, fold}
use denote.Shadow.{shadow}
use denote.Text.{Utf8}
use Rattle.lava_host.specs.Paths.{entered, parts}
use Rattle.lava_host.proofs.path.names_of_parts.Given as goal

abbrev pub invariant-loop-part : goal.invariant-loop-part
invariant-loop-part l = (fold entered (Some l.names) (parts l.rest) ≡ fold entered (Some []) (parts l.path)) × shadow (Utf8 l.rest)

abbrev pub decreases-loop-part : goal.decreases-loop-part
decreases-loop-part l = length l.rest
