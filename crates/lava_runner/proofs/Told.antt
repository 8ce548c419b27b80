-- What is told of an ending has the status of that.
use Rattle.std.proofs.Common.{◌≡◌, ◌⊎◌, ℕ, List, Option, Some, None, inl, inr}
use Rattle.lava_driver.specs.js_crossing.declared.ending.Ending.{Ending}
use Rattle.lava_driver.specs.js_crossing.declared.ending.Ending.TheVariants as ending
use Rattle.lava_driver.specs.js_crossing.js_machine.declared.frame.Halt.TheVariants as halt
use Rattle.lava_lines.specs.Puts as puts
use Rattle.lava_lines.specs.declared.status.TheConstants as texts
use Rattle.lava_report.specs.Tells.{TellsEnding}
use Rattle.lava_streams.specs.Outside.{Stand, HasFault}
use Rattle.lava_runner.specs.Endings.{ending_status}

line_told : (line : List ℕ) (own : ℕ) (b a : Stand (List ℕ)) (status : ℕ) → puts.PutsLine line own b a status → (status ≡ own) ⊎ HasFault b a ⊎ puts.Lacks b a status
line_told line own b a status (inl (inl p)) = inl p.0
line_told line own b a status (inl (inr p)) = inr (inl p.1.0)
line_told line own b a status (inr l) = inr (inr l)

-- the status is that of the ending, or the errors failed, or there was no memory
pub ending_told : (name : List ℕ) (e : Ending) (text : Option (List ℕ)) (b a : Stand (List ℕ)) (status : ℕ) → TellsEnding name e text b a status → (status ≡ ending_status e) ⊎ HasFault b a ⊎ puts.Lacks b a status
ending_told name ending.Done text b a status t = inl t.0
ending_told name ending.Uncaught (Some text) b a status t = line_told _ texts.UNCAUGHT_STATUS b a status t
ending_told name ending.Uncaught None b a status t = inr (inr t)
ending_told name (ending.Budget p) text b a status t = line_told _ texts.BUDGET_STATUS b a status t
ending_told name (ending.Fault p halt.Number) text b a status t = line_told _ texts.LIMIT_STATUS b a status t
ending_told name (ending.Fault p halt.Text) text b a status t = line_told _ texts.LIMIT_STATUS b a status t
ending_told name (ending.Fault p halt.Depth) text b a status t = line_told _ texts.LIMIT_STATUS b a status t
ending_told name (ending.Fault p halt.Meter) text b a status t = line_told _ texts.LIMIT_STATUS b a status t
ending_told name (ending.Fault p halt.Outside) text b a status t = inr (inr t)
