-- What the events of a tree become is what the tree becomes.
use Rattle.std.proofs.Common.{◌≡◌, ℕ, suc, ◌+◌, ◌<◌, ◌≤◌, Bool, true, false, cond, nat_lt, List, [], ◌∷◌, ◌++◌, refl, sym, ap, subst, ◌∙◌, length, take, drop, reverse, arith, Result, Ok, Err, IfOk}
use Rattle.std.proofs.lemmas.Bool.Decides.{nat_tests}
use mathlib.Core.List.{reverse_aux}
use Rattle.js_grammar.specs.declared.event.Event.{Event}
use Rattle.js_grammar.specs.declared.event.Event.TheVariants as event
use Rattle.js_grammar.specs.declared.summary.TheConstants.{MAX_PARTS}
use Rattle.js_grammar.specs.declared.symbols.Production.{Production}
use Rattle.js_grammar.specs.Fits.{one_more, summary_of}
use Rattle.js_grammar.specs.Flat.{laid}
use Rattle.js_grammar.specs.Grammar.{Tree, Leaf, Node, Absent, Row, Nil, Then}
use Rattle.js_lexer.specs.declared.token.Token.{Token}
use Rattle.js_phrase.specs.declared.phrase.Phrase.{Phrase}
use Rattle.js_parser.specs.Forms.{form}
use Rattle.js_parser.specs.Trees.{phrase_of, phrases_of, made, AllCounted, module_of, IsModuleOf, expression_in}
use Rattle.js_phrase.specs.Phrases.{next_of, expression_of}
use Rattle.js_tree.specs.declared.tree.Expr.{Expr}
use Rattle.js_tree.specs.declared.tree.Module.{Module}
use Rattle.js_tree.specs.declared.tree.SourceKind.{SourceKind}
use Rattle.js_fault.specs.declared.fault.SyntaxFault.{SyntaxFault}
use Rattle.js_grammar.specs.Expressions.{end_mark}
use Rattle.js_grammar.specs.Flat.{Flat}
use Rattle.js_reader.specs.Runs.{expression_events}
use Rattle.lava_base.specs.declared.memory.OutOfMemory.{OutOfMemory}
use Rattle.js_reader.specs.Reading.{events_of}
use Rattle.js_reader.specs.Sources.{IsReading}

-- how many parts a production has
abbrev long : Row → ℕ
long Nil = 0
long (Then r x) = suc (long r)

not_below : (n m : ℕ) → nat_lt n m ≡ false → m ≤ n
not_below n m h = grind (arith, nat_tests)

below : (n m : ℕ) → nat_lt n m ≡ true → n < m
below n m h = grind (arith, nat_tests)

-- a count that is below the limit was below it before, and counts one more
more_at : (b : Bool) (n k m : ℕ) → nat_lt n m ≡ b → (n < m → n ≡ k) → cond b (1 + n) n < m → cond b (1 + n) n ≡ suc k
more_at true n k m e same h = let p : 1 + n ≡ suc n = omega arith in p ∙ ap suc (same (below n m e))
more_at false n k m e same h = let k : m ≤ n = not_below n m e in absurd (omega arith)

one_counted : (n k : ℕ) → (n < MAX_PARTS → n ≡ k) → one_more n < MAX_PARTS → one_more n ≡ suc k
one_counted n k same h = more_at (nat_lt n MAX_PARTS) n k MAX_PARTS refl same h

counted : (r : Row) → (summary_of r).parts < MAX_PARTS → (summary_of r).parts ≡ long r
counted Nil h = refl
counted (Then r (Leaf t)) h = one_counted (summary_of r).parts (long r) (counted r) h
counted (Then r (Node f q)) h = one_counted (summary_of r).parts (long r) (counted r) h
counted (Then r Absent) h = one_counted (summary_of r).parts (long r) (counted r) h

module _ (source : List ℕ) (tokens : List Token) where
  -- the parts of a production, the last one first, above others
  abbrev stacked : Row → List Phrase → List Phrase
  stacked Nil below = below
  stacked (Then r x) below = phrase_of source tokens x ∷ stacked r below

  parts_of : (r : Row) (under later : List Phrase) → reverse_aux (take (long r) (stacked r under)) later ≡ phrases_of source tokens r later
  parts_of Nil under later = refl
  parts_of (Then r x) under later = parts_of r under (phrase_of source tokens x ∷ later)

  behind : (r : Row) (under : List Phrase) → drop (long r) (stacked r under) ≡ under
  behind Nil under = refl
  behind (Then r x) under = behind r under

  -- what stands below is counted too
  counted_below : (r : Row) (o : List Event) → AllCounted (laid r o) → AllCounted o
  counted_below Nil o h = h
  counted_below (Then r (Leaf t)) o h = counted_below r o h.1
  counted_below (Then r Absent) o h = counted_below r o h.1
  counted_below (Then r (Node f q)) o h = counted_below r o (counted_below q (laid r o) h.1)

  closed : (f : Production) (q : Row) (n : ℕ) (m under : List Phrase) → n ≡ long q → m ≡ stacked q under → form source f (reverse (take n m)) ∷ drop n m ≡ phrase_of source tokens (Node f q) ∷ under
  closed f q n m under e k =
      ap (λ j. form source f (reverse (take j m)) ∷ drop j m) e
      ∙ ap (λ l. form source f (reverse (take (long q) l)) ∷ drop (long q) l) k
      ∙ ap (λ l. form source f l ∷ drop (long q) (stacked q under)) (parts_of q under [])
      ∙ ap (λ l. phrase_of source tokens (Node f q) ∷ l) (behind q under)

  made_row : (r : Row) (o : List Event) → AllCounted (laid r o) → made source tokens (laid r o) ≡ stacked r (made source tokens o)
  made_row Nil o h = refl
  made_row (Then r (Leaf t)) o h = ap (λ l. phrase_of source tokens (Leaf t) ∷ l) (made_row r o h.1)
  made_row (Then r Absent) o h = ap (λ l. phrase_of source tokens Absent ∷ l) (made_row r o h.1)
  made_row (Then r (Node f q)) o h =
      closed f q (summary_of q).parts (made source tokens (laid q (laid r o))) (stacked r (made source tokens o)) (counted q h.0)
      (made_row q (laid r o) h.1 ∙ ap (stacked q) (made_row r o (counted_below q (laid r o) h.1)))

  reversed : (r : Row) (later : List Phrase) → reverse_aux (stacked r []) later ≡ phrases_of source tokens r later
  reversed Nil later = refl
  reversed (Then r x) later = reversed r (phrase_of source tokens x ∷ later)

-- the parts of a whole tree, the first one first
pub made_parts : (source : List ℕ) (tokens : List Token) (r : Row) → AllCounted (laid r []) → reverse (made source tokens (laid r [])) ≡ phrases_of source tokens r []
made_parts source tokens r h = ap reverse (made_row source tokens r [] h) ∙ reversed source tokens r []

-- the module of what stands, from the module of its parts
pub module_tree : (kind : SourceKind) (source : List ℕ) (ts : List Token) (q : Flat) (result : Result Module SyntaxFault) → IsReading source ts q → ((parts : Row) → q.out ≡ events_of parts → IfOk result (λ m. m ≡ module_of kind source ts parts)) → IfOk result (IsModuleOf kind source)
module_tree kind source ts q (Ok m) r h = (ts, r.0, r.1, r.2, r.3, h r.0 r.4)
module_tree kind source ts q (Err f) r h = tt

-- the first part that stands is the expression
first_made : (source : List ℕ) (tokens : List Token) (x : Tree) → AllCounted (expression_events x) → next_of (reverse (made source tokens (expression_events x))) ≡ phrase_of source tokens x
first_made source tokens x h = ap next_of (made_parts source tokens (Then (Then Nil x) (Leaf end_mark)) h)

pub made_expression : (source : List ℕ) (tokens : List Token) (events : List Event) (result : Result Expr OutOfMemory) → AllCounted (reverse events) → IfOk result (λ e. e ≡ expression_of (next_of (reverse (made source tokens (reverse events))))) → (x : Tree) → reverse events ≡ expression_events x → IfOk result (λ e. e ≡ expression_in source tokens x)
made_expression source tokens events (Ok e) h k x v =
    let P : List Event → Type 0 = λ o. AllCounted o in
    k ∙ ap (λ o. expression_of (next_of (reverse (made source tokens o)))) v ∙ ap expression_of (first_made source tokens x (subst P v h))
made_expression source tokens events (Err f) h k x v = tt
