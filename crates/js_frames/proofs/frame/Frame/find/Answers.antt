use Rattle.std.proofs.Common.{◌≡◌}
use Rattle.js_frames.proofs.frame.Frame.find.Goals as goal

pub returns : goal.returns
returns c =
    let there = c.self.invariant.indexed c.args.name.now in
    let got = c.get.ensures.value in
    let copied = c.copied.ensures in
    let view : c.self.inside.slots ≡ c.args.self.now = cc in
    cc
