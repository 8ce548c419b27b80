use Rattle.std.proofs.Common.{◌∷◌, ap, ◌∙◌}
use Rattle.js_valid.specs.Inner.{template}
use Rattle.js_valid.specs.Surroundings.{place}
use Rattle.js_valid.specs.Work.{Visit, pending}
use Rattle.js_valid.proofs.Steps_laws.{whole}
use Rattle.js_valid.proofs.valid.valid_term.Goals as goal

pub returns : goal.returns
returns c =
    let first = Visit (template c.args.template.now) in
    record {
      exact = whole c.all_stand.result (place c.new-round.result.items) (pending c.plain.new.work.items) (template c.args.template.now)
          (ap (λ l. place l) c.new-round.ensures.items) (c.in_ok-plain.ensures ∙ ap (λ l. first ∷ pending l) c.new-work.ensures.items) c.all_stand.ensures;
    }
