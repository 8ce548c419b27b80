-- What words ask for.
use Rattle.std.specs.Prelude.{ℕ, ◌≤◌, ◌+◌, ◌-◌, ◌*◌, Bool, ◌&&◌, ◌||◌, not, nat_le, nat_eq, min, bytes_eq, List, [], ◌∷◌, length, Option, Some, None, option_and_then, if◌then◌else◌}
use Rattle.clap.specs.Walk.{Text}
use Rattle.lava_words.specs.Parsing.{Given, given}
use Rattle.lava_big.specs.declared.big_app.TheConstants.{MAX_PACKAGES}
use Rattle.lava_report.specs.declared.report.Mode.{Mode}
use Rattle.lava_report.specs.declared.report.Mode.TheVariants as mode
use Rattle.lava_words.specs.declared.words.Command as command
use Rattle.lava_words.specs.declared.words.Command.TheVariants as commands
use Rattle.lava_words.specs.declared.words.TheConstants.{RUN, TRACE, TREE, POLICY, CHECK, BIG, DEFAULT_BUDGET, MAX_BUDGET, MAX_DIGITS, MAX_COUNT_DIGITS}

-- run the application of a directory with a budget, with what it prints or its trace on the output; print the term of a file; print the policy that the sources of a
-- directory ask for, or what its policy denies; or run the application of so many packages with a budget
pub data Asked : Type 0 where
  Runs : (mode : Mode) → (directory : List ℕ) → (budget : ℕ) → Asked
  Trees : (file : List ℕ) → Asked
  Policies : (directory : List ℕ) → Asked
  Checks : (directory : List ℕ) → Asked
  Bigs : (count budget : ℕ) → Asked

abbrev pub told_command : command.Command → Asked
told_command (commands.Run m d n) = Runs m d.now n
told_command (commands.Tree f) = Trees f.now
told_command (commands.Policy d) = Policies d.now
told_command (commands.Check d) = Checks d.now
told_command (commands.Big n b) = Bigs n b

-- a number of packages that an application may have
abbrev pub IsCount : ℕ → Type 0
IsCount n = (1 ≤ n) × (n ≤ MAX_PACKAGES)

-- what is asked for can be done: a number of packages is one that an application may have
abbrev pub IsAskable : Option Asked → Type 0
IsAskable None = Unit {0}
IsAskable (Some (Runs m d n)) = Unit {0}
IsAskable (Some (Trees f)) = Unit {0}
IsAskable (Some (Policies d)) = Unit {0}
IsAskable (Some (Checks d)) = Unit {0}
IsAskable (Some (Bigs n b)) = IsCount n

abbrev pub is_digit : ℕ → Bool
is_digit b = nat_le 48 b && nat_le b 57

-- a number stays at the largest of 64 bits, which no budget is
abbrev pub capped : ℕ → ℕ
capped n = min n 18446744073709551615

abbrev pub digit_value : (value byte : ℕ) → ℕ
digit_value v b = capped (capped (v * 10) + (b - 48))

abbrev pub digits_after : (value : ℕ) → List ℕ → Option ℕ
digits_after v [] = Some v
digits_after v (b ∷ bs) = if is_digit b then digits_after (digit_value v b) bs else None

abbrev pub within : (limit : ℕ) → Option ℕ → Option ℕ
within limit None = None
within limit (Some n) = if nat_le 1 n && nat_le n limit then Some n else None

-- a number from 1 to a limit, of 1 to so many digits
abbrev pub number_in : List ℕ → (digits limit : ℕ) → Option ℕ
number_in t digits limit =
    if nat_eq (length t) 0 || not (nat_le (length t) digits) then None else within limit (digits_after 0 t)

-- own: a number of steps has 1 to 10 digits, and is from 1 to 1,000,000,000
abbrev pub budget_in : List ℕ → Option ℕ
budget_in t = number_in t MAX_DIGITS MAX_BUDGET

-- own: a number of packages has 1 to 3 digits, and is from 1 to 200
abbrev pub count_in : List ℕ → Option ℕ
count_in t = number_in t MAX_COUNT_DIGITS MAX_PACKAGES

abbrev pub budget_or : Option (List ℕ) → Option ℕ
budget_or None = Some DEFAULT_BUDGET
budget_or (Some t) = budget_in t

-- the command of a word that takes a directory or a file and no budget
abbrev pub report_named : (word argument : List ℕ) → Option Asked
report_named w a =
    if bytes_eq w TREE.now then Some (Trees a)
    else (if bytes_eq w POLICY.now then Some (Policies a)
    else (if bytes_eq w CHECK.now then Some (Checks a) else None))

abbrev pub big_named : (count : Option ℕ) → (budget : ℕ) → Option Asked
big_named None b = None
big_named (Some n) b = Some (Bigs n b)

-- the command that a word names
abbrev pub command_named : (word argument : List ℕ) → (budget : ℕ) → Option Asked
command_named w a n =
    if bytes_eq w RUN.now then Some (Runs mode.Emit a n)
    else (if bytes_eq w TRACE.now then Some (Runs mode.Trace a n)
    else (if bytes_eq w BIG.now then big_named (count_in a) n else report_named w a))

abbrev pub asked_of : (command argument : Option Text) → (budget : Option ℕ) → Option Asked
asked_of (Some w) (Some a) (Some n) = command_named w a n
asked_of (Some w) (Some a) None = None
asked_of (Some w) None n = None
asked_of None a n = None

abbrev pub asked_by : Given → Option Asked
asked_by g = asked_of g.command g.argument (budget_or g.budget)

-- what the words ask for; words that clap refuses, and others, are a usage fault
abbrev pub command_of : List Text → Option Asked
command_of words = option_and_then asked_by (given words)
