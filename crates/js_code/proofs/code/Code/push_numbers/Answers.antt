use Rattle.std.proofs.Common.{map, refl}
use Rattle.js_code.specs.Decoded.{text_at}
use Rattle.js_code.proofs.Pushed.{numbers_pushed}
use Rattle.js_code.proofs.code.Code.push_numbers.Goals as goal

pub invariant_of-self : goal.invariant_of-self
invariant_of-self k = ((numbers_pushed (λ b low ns. ns) _ _ k.self.view_is k.self.invariant.0 k.add_rows.new.table.items k.args.rows.now k.add_rows.result (λ d grows f g agree. refl) k.add_rows.ensures).founded, k.self.invariant.1)

pub returns-clause-extends : goal.returns-clause-extends
returns-clause-extends k = (numbers_pushed (λ b low ns. ns) _ _ k.self.view_is k.self.invariant.0 k.add_rows.new.table.items k.args.rows.now k.add_rows.result (λ d grows f g agree. refl) k.add_rows.ensures).extends

pub returns-clause-numbers : goal.returns-clause-numbers
returns-clause-numbers k = record { holds = (numbers_pushed (λ b low ns. ns) _ _ k.self.view_is k.self.invariant.0 k.add_rows.new.table.items k.args.rows.now k.add_rows.result (λ d grows f g agree. refl) k.add_rows.ensures).ok }

pub returns-clause-terms : goal.returns-clause-terms
returns-clause-terms k h = record { holds = (numbers_pushed (λ b low ns. map low ns) _ _ k.self.view_is k.self.invariant.0 k.add_rows.new.table.items k.args.rows.now k.add_rows.result (h) k.add_rows.ensures).ok }

pub returns-clause-labels : goal.returns-clause-labels
returns-clause-labels k h = record { holds = (numbers_pushed (λ b low ns. map (text_at b) ns) _ _ k.self.view_is k.self.invariant.0 k.add_rows.new.table.items k.args.rows.now k.add_rows.result (h) k.add_rows.ensures).ok }
