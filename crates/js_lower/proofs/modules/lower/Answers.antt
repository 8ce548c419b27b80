use Rattle.js_lower.proofs.Sources_laws.{as_module, as_text}
use Rattle.js_lower.proofs.modules.lower.Goals as goal

pub returns-in-Module : goal.returns-in-Module
returns-in-Module c = as_module c.args.source.now c.as_slice-list.result.now c.module_template.result c.as_slice-list.ensures c.in-Module.is c.module_template.ensures

pub returns-in-EvaluatedText : goal.returns-in-EvaluatedText
returns-in-EvaluatedText c = as_text c.args.source.now c.as_slice-list.result.now c.text_template.result c.as_slice-list.ensures c.in-EvaluatedText.is c.text_template.ensures
