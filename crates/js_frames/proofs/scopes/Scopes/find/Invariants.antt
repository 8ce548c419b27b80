use Rattle.std.proofs.Common.{◌≡◌, ◌≤◌, ◌+◌, length, reverse, take}
use Rattle.js_frames.specs.Frames.{find, found_after}
use Rattle.js_frames.proofs.scopes.Scopes.find.Given as goal

abbrev pub invariant-loop-at : goal.invariant-loop-at
invariant-loop-at l = (l.at + l.hops ≡ length l.self-inside.frames.items) × (l.at ≤ length l.self-inside.frames.items) × (found_after l.name 0 (reverse l.self-inside.frames.items) ≡ found_after l.name l.hops (reverse (take l.at l.self-inside.frames.items)))

abbrev pub decreases-loop-at : goal.decreases-loop-at
decreases-loop-at l = l.at
