-- The words of a command, as clap takes them.
use Rattle.std.specs.Prelude.{List, [], ◌∷◌, true, Option, Some, None, codes}
use Rattle.std.specs.Option.{option_map}
use Rattle.lava_words.specs.declared.parsing.GivenWords.{GivenWords}
use Rattle.clap.specs.Words.{App, Row, Rule, Text, first_of, matches_of, new_app, new_rule, with_rule}
use Rattle.clap.specs.Faults.{fault_of}
use Rattle.clap.specs.Kinds.{Kinds}
use Rattle.clap.specs.Simple.{on_top}

abbrev pub command_id : Text
command_id = codes "COMMAND"

abbrev pub argument_id : Text
argument_id = codes "ARG"

abbrev pub budget_id : Text
budget_id = codes "budget"

abbrev pub required : Rule → Rule
required r = record r { required = true }

-- two positionals, and `--budget N`
abbrev pub words_app : App
words_app =
    with_rule (with_rule (with_rule (on_top (λ s. record s { no_binary_name = true }) (new_app (codes "lava"))) (required (new_rule command_id))) (required (new_rule argument_id)))
    (record (new_rule budget_id) { long = Some budget_id })

-- what is given at each place
pub record Given : Type 0 where
  pub command : Option Text
  pub argument : Option Text
  pub budget : Option Text

abbrev pub given_by : List Row → Given
given_by rows = record { command = first_of command_id rows; argument = first_of argument_id rows; budget = first_of budget_id rows }

abbrev pub given_as : GivenWords → Given
given_as g = record { command = option_map (λ t. t.now) g.command; argument = option_map (λ t. t.now) g.argument; budget = option_map (λ t. t.now) g.budget }

abbrev pub given_or : Kinds → List Row → Option Given
given_or [] rows = Some (given_by rows)
given_or (k ∷ ks) rows = None

-- what the words give, where clap takes them
unfoldable pub given : List Text → Option Given
given words = given_or (fault_of words_app words) (matches_of words_app words)
