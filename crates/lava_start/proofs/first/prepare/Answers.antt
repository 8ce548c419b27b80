use Rattle.lava_start.proofs.Kept_laws.{have_still}
use Rattle.lava_start.proofs.Standing.{others_are}
use Rattle.lava_start.proofs.first.prepare.Goals as goal

pub returns-clause-templates : goal.returns-clause-templates
returns-clause-templates c = have_still c.add_templates.new.code c.add_packages.new.code c.in_ok-places.places.items c.args.templates.now c.add_packages.ensures.keeps c.in_ok-places.ensures.places

pub returns-clause-packages : goal.returns-clause-packages
returns-clause-packages c = others_are c.add_packages.new.code c.args.packages.now c.in_ok-others.others.items c.add_packages.new.others.items c.in_ok-others.ensures c.in_ok-add_packages.ensures.packages
