use Rattle.std.proofs.Common.{map, string_bytes, ◌∙◌}
use Rattle.clap.specs.Words.{app_of}
use Rattle.lava_words.proofs.Given_laws.{refused, taken}
use Rattle.lava_words.proofs.parsing.given_to.Goals as goal

pub returns-in-Ok : goal.returns-in-Ok
returns-in-Ok c is = taken (app_of c.args.command) (map string_bytes c.args.words.now) c.in-Ok.matches _ is c.in-Ok.ensures.kinds c.in-Ok.ensures.matches c.given_in.ensures

pub returns : goal.returns
returns c is = refused (app_of c.args.command) (map string_bytes c.args.words.now) c.in-Err.error is (λ same. c.in_default.not-OutOfMemory (c.kind.ensures ∙ same)) c.in-Err.ensures.kinds
