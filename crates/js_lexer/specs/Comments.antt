-- The machine of comments, one function a Rust function. `Grammar` says what they mean.
use Rattle.std.specs.Prelude.{ℕ, ◌==◌, if◌then◌else◌, Result, Err}
use Rattle.js_lexer.specs.declared.machine.Step.{Step}
use Rattle.js_lexer.specs.declared.machine.Step.TheVariants.{Go, With}
use Rattle.js_lexer.specs.declared.machine.Stop.{Stop}
use Rattle.js_lexer.specs.declared.machine.Stop.TheVariants as stops
use Rattle.js_lexer.specs.declared.comments.Comment.{Comment}
use Rattle.js_lexer.specs.declared.comments.Comment.TheVariants as comments

abbrev pub CommentStep : Type 0
CommentStep = Step Comment (Unit {0})

abbrev pub inside_step : ℕ → CommentStep
inside_step c = if c == 42 then Go comments.Asterisk else Go comments.Inside

abbrev pub comment_step : Comment → ℕ → CommentStep
comment_step comments.Asterisk c = if c == 47 then With tt else inside_step c
comment_step comments.Inside c = inside_step c

abbrev pub comment_stop : Comment → Result (Unit {0}) Stop
comment_stop s = Err stops.Cut
