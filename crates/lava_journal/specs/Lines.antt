-- The lines of a trace.
use Rattle.std.specs.Prelude.{ℕ, ◌+◌, ◌<◌, ⊤, length, List, [], ◌∷◌, ◌++◌, codes, decimal, sum, slice_index}
use Rattle.lava_base.specs.declared.ids.MadeSymbol.{MadeSymbol}
use Rattle.lava_base.specs.declared.ids.Ref.{Ref}
use Rattle.lava_base.specs.declared.marks.Marks.{Marks}
use Rattle.js_text.specs.Utf8.{units_of}
use Rattle.js_desc.specs.declared.crossing.Crossing.{Crossing}
use Rattle.js_desc.specs.declared.ending.Ending.{Ending}
use Rattle.js_desc.specs.declared.ending.Ending.TheVariants as ending
use Rattle.lava_journal.specs.Bodies.{Pieces, body_pieces, plain}
use Rattle.lava_journal.specs.Quotes.{quoted}
use Rattle.lava_journal.specs.Sheets.{Plain, Sheet, TraceNames, blank, with_pieces}

-- `I S>R `: the number of a crossing, its sender and its receiver
abbrev pub head_pieces : {R S : Type 0} → ℕ → (from to : ℕ) → Pieces R S
head_pieces number from to =
    Plain (decimal number) ∷ Plain (codes " ") ∷ Plain (decimal from) ∷ Plain (codes ">") ∷ Plain (decimal to) ∷ plain (codes " ")

-- `I S>R BODY`, and LF
-- own: a crossing in a trace
abbrev pub line_pieces : {R S : Type 0} → ℕ → Crossing R S → Pieces R S
line_pieces number x = head_pieces number x.from.0 x.to.0 ++ (body_pieces x.body ++ plain (codes "\n"))

-- the line of a crossing, and what is named then. The marks of the references that it names are listed
abbrev pub crossing_line : TraceNames → ℕ → Crossing Ref MadeSymbol → List (Ref × Marks) → Sheet
crossing_line names number x listed = with_pieces (blank names listed) (line_pieces number x)

-- `party N "NAME"`, and LF
abbrev pub party_line : ℕ → List ℕ → List ℕ
party_line n name = codes "party " ++ (decimal n ++ (32 ∷ (quoted (units_of name) ++ 10 ∷ [])))

-- the lines of the parties, from a number on
abbrev pub party_lines : ℕ → List (List ℕ) → List ℕ
party_lines n [] = []
party_lines n (name ∷ names) = party_line n name ++ party_lines (n + 1) names

unfoldable pub first_line : List ℕ
first_line = codes "lava-trace 1\n"

-- the first line, and those of the parties
-- own: the start of a trace
abbrev pub start_text : List (List ℕ) → List ℕ
start_text parties = first_line ++ party_lines 0 parties

-- `steps N COUNT`, and LF
abbrev pub steps_line : ℕ → ℕ → List ℕ
steps_line n count = codes "steps " ++ (decimal n ++ (32 ∷ (decimal count ++ 10 ∷ [])))

-- the lines of the steps, from a party on
abbrev pub steps_lines : ℕ → List ℕ → List ℕ
steps_lines n [] = []
steps_lines n (count ∷ counts) = steps_line n count ++ steps_lines (n + 1) counts

-- a word, a party and a count of steps
abbrev pub ended_at : List ℕ → ℕ → ℕ → List ℕ
ended_at word p s = word ++ (decimal p ++ (32 ∷ decimal s))

-- how the run ended: the party that met the end, and its steps, for Budget the sum of all
-- own: endings in a trace
abbrev pub ending_text : List ℕ → Ending → List ℕ
ending_text steps ending.Done = codes "Done"
ending_text steps ending.Uncaught = codes "Uncaught"
ending_text steps (ending.Number p) = ended_at (codes "Number ") p.0 (slice_index steps p.0)
ending_text steps (ending.Text p) = ended_at (codes "Text ") p.0 (slice_index steps p.0)
ending_text steps (ending.Depth p) = ended_at (codes "Depth ") p.0 (slice_index steps p.0)
ending_text steps (ending.Parties p) = ended_at (codes "Parties ") p.0 (slice_index steps p.0)
ending_text steps (ending.Budget p) = ended_at (codes "Budget ") p.0 (sum steps)
ending_text steps ending.Outside = codes "Outside"

-- the party of an ending, if it has one, is among those that have steps
abbrev pub HasSteps : List ℕ → Ending → Type 0
HasSteps steps (ending.Number p) = p.0 < length steps
HasSteps steps (ending.Text p) = p.0 < length steps
HasSteps steps (ending.Depth p) = p.0 < length steps
HasSteps steps (ending.Parties p) = p.0 < length steps
HasSteps steps (ending.Budget p) = p.0 < length steps
HasSteps steps _ = ⊤

-- the lines of the steps, and the last line
-- own: the end of a trace
abbrev pub end_text : List ℕ → Ending → List ℕ
end_text steps e = steps_lines 0 steps ++ (codes "end " ++ (ending_text steps e ++ 10 ∷ []))
