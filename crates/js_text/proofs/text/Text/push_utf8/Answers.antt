-- At the end no units are left, so all of the text's bytes are written.
use Rattle.std.proofs.Common.{◌++◌, ◌∙◌, ap, sym, append-nil, arith}
use Rattle.std.specs.Str.{encode_utf8_all}
use Rattle.js_text.proofs.Units.{lossy-drop_all}
use Rattle.js_text.proofs.text.Text.push_utf8.Goals as goal

pub returns-clause-ok : goal.returns-clause-ok
returns-clause-ok c =
    let written = c.loop-at.invariant in
    let whole = written.2 ∙ ap (λ cs. written.0 ++ encode_utf8_all cs) (lossy-drop_all c.args.self.now c.loop-at.at (omega (arith, c.loop-at-test.false, c.len.ensures.len))) ∙ append-nil _ in
    written.1 ∙ ap (λ bytes. c.args.out.now ++ bytes) (sym whole)
