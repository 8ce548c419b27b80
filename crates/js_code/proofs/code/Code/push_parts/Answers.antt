use Rattle.js_code.proofs.Pushed.{parts_pushed}
use Rattle.js_code.proofs.code.Code.push_parts.Goals as goal

pub invariant_of-self : goal.invariant_of-self
invariant_of-self k = ((parts_pushed _ _ k.self.view_is k.self.invariant.0 k.add_rows.new.table.items k.args.rows.now k.add_rows.result (k.requires) k.add_rows.ensures).founded, k.self.invariant.1)

pub returns-clause-extends : goal.returns-clause-extends
returns-clause-extends k = (parts_pushed _ _ k.self.view_is k.self.invariant.0 k.add_rows.new.table.items k.args.rows.now k.add_rows.result (k.requires) k.add_rows.ensures).extends

pub returns-clause-parts : goal.returns-clause-parts
returns-clause-parts k = record { holds = (parts_pushed _ _ k.self.view_is k.self.invariant.0 k.add_rows.new.table.items k.args.rows.now k.add_rows.result (k.requires) k.add_rows.ensures).ok }
