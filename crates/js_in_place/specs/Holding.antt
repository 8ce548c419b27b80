-- Forms that first evaluate another one.
use Rattle.std.specs.Prelude.{◌≡◌, ℕ}
use Rattle.js_code.specs.Decoded.{term_at}
use Rattle.js_code.specs.declared.node.Node.{Node}
use Rattle.js_machine.specs.Steps.{deed_of_row, over, under}
use Rattle.js_machine.specs.Views.{Around, View, party_of}
use Rattle.js_machine.specs.declared.frame.Frame.{Frame}
use Rattle.js_machine.specs.js_run.Acts.{Evaluate}

-- the row of a form evaluates another one, and then goes on as this frame does, which owns nothing
pub record Holds (n : Node) (f : Frame) (at : ℕ) : Type 0 where
  pub owns : (w : View) → under f w ≡ w
  pub evaluates : (w : View) (a : Around) → deed_of_row n w a ≡ Evaluate (term_at w.code at) (party_of a w) (over f w a)
