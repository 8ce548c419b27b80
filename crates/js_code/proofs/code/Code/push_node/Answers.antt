use Rattle.js_code.proofs.Pushed.{node_pushed}
use Rattle.js_code.proofs.code.Code.push_node.Goals as goal

pub invariant_of-self : goal.invariant_of-self
invariant_of-self k = ((node_pushed _ _ k.self.view_is k.self.invariant.0 k.add_row.new.table.items k.args.row k.add_row.result (k.requires) k.add_row.ensures).founded, k.self.invariant.1)

pub returns-clause-extends : goal.returns-clause-extends
returns-clause-extends k = (node_pushed _ _ k.self.view_is k.self.invariant.0 k.add_row.new.table.items k.args.row k.add_row.result (k.requires) k.add_row.ensures).extends

pub returns-clause-term : goal.returns-clause-term
returns-clause-term k = record { has = (node_pushed _ _ k.self.view_is k.self.invariant.0 k.add_row.new.table.items k.args.row k.add_row.result (k.requires) k.add_row.ensures).ok }
