use Rattle.js_code.proofs.Pushed.{guarded_pushed}
use Rattle.js_code.proofs.code.Code.push_guarded.Goals as goal

pub invariant_of-self : goal.invariant_of-self
invariant_of-self k = ((guarded_pushed _ _ k.self.view_is k.self.invariant.0 k.add_row.new.table.items k.args.row k.add_row.result (k.requires) k.add_row.ensures).founded, k.self.invariant.1)

pub returns-clause-extends : goal.returns-clause-extends
returns-clause-extends k = (guarded_pushed _ _ k.self.view_is k.self.invariant.0 k.add_row.new.table.items k.args.row k.add_row.result (k.requires) k.add_row.ensures).extends

pub returns-clause-guarded : goal.returns-clause-guarded
returns-clause-guarded k = record { holds = (guarded_pushed _ _ k.self.view_is k.self.invariant.0 k.add_row.new.table.items k.args.row k.add_row.result (k.requires) k.add_row.ensures).ok }
