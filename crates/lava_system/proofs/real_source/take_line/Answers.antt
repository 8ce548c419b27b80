use Rattle.std.proofs.Common.{◌≡◌, ◌≤◌, ◌-◌, ◌++◌, ◌<◌, length, take, arith, ◌∙◌}
use Rattle.lava_streams.specs.declared.source.TheConstants.{LINE_LIMIT}
use Rattle.lava_system.proofs.LineLemmas.{long_line, short_line, begun_more}
use Rattle.lava_system.proofs.real_source.take_line.Goals as goal

pub returns-then-end-room-clause-takes : goal.returns-then-end-room-clause-takes
returns-then-end-room-clause-takes c =
    let long : LINE_LIMIT - length c.args.begun.now < c.line_length-end.result = omega (arith, c.len-room.ensures) in
    rw c.len-room.ensures (long_line c.args.begun.now c.args.next.now c.line_length-end.result c.requires (cc) c.line_length-end.ensures.length long, c.new.ensures)

pub returns-then-end-next-clause-begun : goal.returns-then-end-next-clause-begun
returns-then-end-next-clause-begun c =
    let short : c.line_length-end.result ≤ LINE_LIMIT - length c.args.begun.now = omega (arith, c.len-room.ensures) in
    rw c.in_ok-extend_from_slice.ensures.ok (begun_more c.args.begun.now c.args.next.now c.line_length-end.result c.requires c.line_length-end.ensures.length short)

pub returns-clause-takes : goal.returns-clause-takes
returns-clause-takes c =
    let short : c.line_length-end.result ≤ LINE_LIMIT - length c.args.begun.now = omega (arith, c.len-room.ensures) in
    let line : c.replace-line.result ≡ c.args.begun.now ++ take c.line_length-end.result c.args.next.now = c.replace-line.ensures.value ∙ c.in_ok-extend_from_slice.ensures.ok in
    rw line (short_line c.args.begun.now c.args.next.now c.line_length-end.result c.requires (cc) c.line_length-end.ensures.length short, c.replace-line.ensures.after ∙ c.new-2.ensures)

pub returns-clause-within : goal.returns-clause-within
returns-clause-within c =
    let short : c.line_length-end.result ≤ LINE_LIMIT - length c.args.begun.now = omega (arith, c.len-room.ensures) in
    let line : c.replace-line.result ≡ c.args.begun.now ++ take c.line_length-end.result c.args.next.now = c.replace-line.ensures.value ∙ c.in_ok-extend_from_slice.ensures.ok in
    rw line (begun_more c.args.begun.now c.args.next.now c.line_length-end.result c.requires c.line_length-end.ensures.length short)
