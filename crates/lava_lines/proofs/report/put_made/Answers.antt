use Rattle.std.proofs.Common.{◌≡◌, IfOk, inl, subst, ◌∙◌}
use Rattle.lava_lines.specs.Puts.{Puts}
use Rattle.lava_lines.proofs.report.put_made.Goals as goal

-- the line could be made
pub returns-in-Ok-clause-line : goal.returns-in-Ok-clause-line
returns-in-Ok-clause-line g c =
    λ line e. (let is : c.in-Ok.line ≡ line = subst (λ m. IfOk m (λ l. l ≡ line)) c.in-Ok.is e in
    inl (subst (λ l. Puts l c.args.status (g.E.Sink.stand c.args.err.now) (g.E.Sink.stand c.put_line.new.err) c.put_line.result) (c.as_slice.ensures ∙ is) c.put_line.ensures))
