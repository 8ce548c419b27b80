-- What each line on the errors says.
use Rattle.std.specs.Prelude.{ℕ, List, [], ◌∷◌, ◌++◌}
use Rattle.std.specs.Fmt.{decimal}
use Rattle.lava_base.specs.declared.place.Place.{Place}
use Rattle.js_fault.specs.declared.fault.SyntaxWhat.{SyntaxWhat}
use Rattle.js_fault.specs.declared.fault.SyntaxWhat.TheVariants as what
use Rattle.lava_lines.specs.declared.status.TheConstants as texts

-- what is wrong with a source
abbrev pub what_text : SyntaxWhat → List ℕ
what_text what.NotUtf8 = texts.NOT_UTF8.now
what_text what.BadToken = texts.BAD_TOKEN.now
what_text (what.Unsupported name) = texts.LEFT_OUT.now ++ name
what_text what.Unexpected = texts.UNEXPECTED.now
what_text what.TooDeep = texts.TOO_DEEP.now
what_text (what.Early name) = texts.EARLY.now ++ name

-- a source that is refused
abbrev pub syntax_line : (owner path : List ℕ) → Place → SyntaxWhat → List ℕ
syntax_line owner path place w =
    texts.SYNTAX_START.now ++ (owner ++ (32 ∷ (path ++ (58 ∷ (decimal place.line ++ (58 ∷ (decimal place.unit ++ (32 ∷ (what_text w ++ (10 ∷ []))))))))))

abbrev pub two_words : (start first second : List ℕ) → List ℕ
two_words start first second = start ++ (first ++ (32 ∷ (second ++ (10 ∷ []))))

-- what is asked for and has no file
abbrev pub missing_line : (owner request : List ℕ) → List ℕ
missing_line owner request = two_words texts.MISSING_START.now owner request

-- a manifest that is refused
abbrev pub manifest_line : (dir field : List ℕ) → List ℕ
manifest_line dir field = two_words texts.MANIFEST_START.now dir field

-- a policy file that is refused: the file, the row and the key as they are shown, and what is wrong
abbrev pub policy_line : (file row key wrong : List ℕ) → List ℕ
policy_line file row key wrong =
    texts.POLICY_START.now ++ (file ++ (32 ∷ (row ++ (32 ∷ (key ++ (32 ∷ (wrong ++ (10 ∷ []))))))))

-- a limit that was passed
abbrev pub too_many_line : (counted : List ℕ) → (count : ℕ) → List ℕ
too_many_line counted count = texts.TOO_MANY_START.now ++ (counted ++ (32 ∷ (decimal count ++ (10 ∷ []))))

abbrev pub with_start : (start bytes : List ℕ) → List ℕ
with_start start bytes = start ++ (bytes ++ (10 ∷ []))

-- a thrown value that nothing caught
abbrev pub uncaught_line : (value : List ℕ) → List ℕ
uncaught_line value = with_start texts.UNCAUGHT_START.now value

-- an object of the outside that failed
abbrev pub outside_line : (object : List ℕ) → List ℕ
outside_line object = with_start texts.OUTSIDE_START.now object

-- how a run was ended, and in which owner
abbrev pub ended_line : (ending owner : List ℕ) → List ℕ
ended_line ending owner = texts.LINE_START.now ++ (ending ++ (texts.ENDED_IN.now ++ (owner ++ (10 ∷ []))))
