-- What holds of the application of a run.
use Rattle.js_world.specs.js_run.Laws.{IsWellMade}
use Rattle.lava_start.specs.Applications.{AllInRange, RunParts, Surroundings, run_application}

-- what starts name of others is marked, is listed, and has left its owner
abbrev pub Runs_are_well_made : Type 0
Runs_are_well_made = (r : RunParts) (s : Surroundings) → AllInRange r.packages → IsWellMade (run_application r s)
