-- The front of the piece is put into the number, and the rest is left.
use Rattle.std.proofs.Common.{◌≤◌, ◌+◌, ◌∙◌, ap, sym, fold, take, length, arith}
use Rattle.std.proofs.lemmas.List.Sums.{fold-append}
use Rattle.js_text.proofs.Pieces.{front_and_rest}
use Rattle.js_text.specs.Hashes.{with_unit}
use Rattle.js_text.specs.Search.{substring}
use Rattle.js_text.proofs.text.Text.with_part.Goals as goal

pub loop-at-preserved : goal.loop-at-preserved
loop-at-preserved c =
    let xs = c.args.self.now in
    let run = c.run_at-run.result.now in
    let at = c.loop-at.at in
    let n = c.min-count.result in
    let to = c.args.to in
    let inside : at + n ≤ to = omega (arith, c.min-count.ensures, c.loop-at-test.true) in
    let within : n ≤ length run = omega (arith, c.min-count.ensures) in (
      inside,
      ap (λ h. fold with_unit h (substring xs (at + n) to)) c.with_units-number.ensures
          ∙ sym (fold-append with_unit c.loop-at.number (take n run) (substring xs (at + n) to))
          ∙ ap (fold with_unit c.loop-at.number) (sym (front_and_rest xs run at n to c.run_at-run.ensures.run within inside))
          ∙ c.loop-at.invariant.1,
    )
