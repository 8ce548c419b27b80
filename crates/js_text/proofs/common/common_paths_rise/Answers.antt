-- Each path is less than the next one.
use Rattle.js_text.specs.CommonPaths.{common_paths}
use Rattle.js_text.proofs.Paths.{paths_rise}
use Rattle.js_text.proofs.Rising.{less_by_place}
use Rattle.js_text.proofs.common.common_paths_rise.Goals as goal

pub returns : goal.returns
returns c = less_by_place common_paths paths_rise
