use Rattle.std.proofs.Common.{◌≡◌, ◌==◌, ◌+◌, take, drop, length, false, refl, ap, ◌∙◌, arith}
use Rattle.std.specs.List.{position_or_len}
use Rattle.std.proofs.lemmas.List.{drop_min, length-take}
use Rattle.lava_streams.specs.declared.source.Line.TheVariants.{Bytes}
use Rattle.lava_streams.proofs.LineLemmas.{line_of_long, line_of_short, All-line}
use Rattle.lava_streams.proofs.memory_source.take_line.Goals as goal

pub returns-then-length-gt-LINE_LIMIT-clause-gives : goal.returns-then-length-gt-LINE_LIMIT-clause-gives
returns-then-length-gt-LINE_LIMIT-clause-gives c =
    let some : (length c.args.bytes.now == 0) ≡ false = cc in
    let is : c.line_length-length.result ≡ position_or_len (λ b. b == 10) c.args.bytes.now = rw c.as_slice.ensures at c.line_length-length.ensures.length in
    rw (line_of_long c.args.bytes.now c.line_length-length.result some is (omega arith)) (refl, c.drop_first.ensures)

pub returns-clause-gives : goal.returns-clause-gives
returns-clause-gives c =
    let some : (length c.args.bytes.now == 0) ≡ false = cc in
    let is : c.line_length-length.result ≡ position_or_len (λ b. b == 10) c.args.bytes.now = rw c.as_slice.ensures at c.line_length-length.ensures.length in
    let line : c.from_vec-line.result ≡ take c.line_length-length.result c.args.bytes.now =
    c.from_vec-line.ensures ∙ (rw c.as_slice-2.ensures at c.in_ok-from_slice.ensures.items) in
    let left : c.drop_first-2.new.self ≡ drop (c.line_length-length.result + 1) c.args.bytes.now =
    c.drop_first-2.ensures ∙ rw (c.min.ensures, c.len.ensures) (drop_min (c.line_length-length.result + 1) c.args.bytes.now) in
    rw (line_of_short c.args.bytes.now c.line_length-length.result some is (omega arith)) (ap Bytes line, left)

pub returns-clause-within : goal.returns-clause-within
returns-clause-within c =
    let is : c.line_length-length.result ≡ position_or_len (λ b. b == 10) c.args.bytes.now = rw c.as_slice.ensures at c.line_length-length.ensures.length in
    let line : c.from_vec-line.result ≡ take c.line_length-length.result c.args.bytes.now =
    c.from_vec-line.ensures ∙ (rw c.as_slice-2.ensures at c.in_ok-from_slice.ensures.items) in
    rw line (omega (arith, length-take c.line_length-length.result c.args.bytes.now), All-line c.args.bytes.now c.line_length-length.result is)
