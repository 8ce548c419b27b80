use Rattle.std.proofs.Common.{◌≡◌, ℕ, List, [], ◌∷◌, ◌++◌, ap, sym, subst, ◌∙◌}
use Rattle.js_term.specs.declared.term.Template.{out-Template}
use Rattle.js_tree_lines.specs.Lines.{AreLines, OneTerm}
use Rattle.js_tree_lines.specs.Pending_lines.{AreRest, at_depth, pending}
use Rattle.js_tree_lines.proofs.Lines_laws.{alone}
use Rattle.js_tree_lines.proofs.lines.template_lines.Goals as goal

pub returns : goal.returns
returns c =
    let e = c.in_ok-all_lines.ensures in
    let body = OneTerm c.get.result.now in
    let first : pending c.push.new.stack.items ≡ at_depth 0 body ∷ []
    = c.in_ok-push.ensures ∙ ap (λ l. at_depth 0 body ∷ pending l) c.new-stack.ensures.items in
    let rest : AreRest (at_depth 0 body ∷ []) e.0 = subst (λ p. AreRest p e.0) first e.2 in
    let bytes : c.all_lines.new.out ≡ e.0 = e.1 ∙ ap (λ l. l ++ e.0) c.new-out.ensures in
    subst (λ b. AreLines 0 (OneTerm (out-Template c.args.template.now).body ∷ []) b) (sym bytes)
    (subst (λ t. AreLines 0 (OneTerm t ∷ []) e.0) c.get.ensures (alone 0 body e.0 rest))
