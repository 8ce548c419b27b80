use Rattle.lava_start.proofs.Kept_laws.{extended, kept_on, template_pushed}
use Rattle.lava_start.proofs.modules.add_templates.Goals as goal

pub loop-template-preserved : goal.loop-template-preserved
loop-template-preserved c =
    let was = c.loop-template.code in
    let now = c.add_template.new.self in
    record {
      have = template_pushed was now c.loop-template.places.items c.push.new.self.items c.args.templates.now c.loop-template.template-index c.in_ok-place.place c.template-item.result c.loop-template.invariant.have c.in_ok-place.ensures.extends c.in_ok-place.ensures.within c.in_ok-place.ensures.template c.in_ok-push.ensures.items c.loop-template-test.true c.template-item.is;
      keeps = kept_on c.args.code.now was now c.loop-template.invariant.keeps (extended was now c.in_ok-place.ensures.extends);
    }
