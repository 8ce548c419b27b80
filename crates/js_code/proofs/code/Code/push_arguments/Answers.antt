use Rattle.js_code.proofs.Pushed.{argument_pushed}
use Rattle.js_code.proofs.code.Code.push_arguments.Goals as goal

pub invariant_of-self : goal.invariant_of-self
invariant_of-self k = ((argument_pushed _ _ k.self.view_is k.self.invariant.0 k.add_row.new.table.items k.args.row k.add_row.result k.requires k.add_row.ensures).founded, k.self.invariant.1)

pub returns-clause-extends : goal.returns-clause-extends
returns-clause-extends k = (argument_pushed _ _ k.self.view_is k.self.invariant.0 k.add_row.new.table.items k.args.row k.add_row.result k.requires k.add_row.ensures).extends

pub returns-clause-arguments : goal.returns-clause-arguments
returns-clause-arguments k = record { holds = (argument_pushed _ _ k.self.view_is k.self.invariant.0 k.add_row.new.table.items k.args.row k.add_row.result k.requires k.add_row.ensures).ok }
