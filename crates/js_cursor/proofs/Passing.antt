-- What is read of an expression, and what is left behind it.
use Rattle.std.proofs.Common.{◌≡◌, ℕ, ◌≤◌, List, ◌++◌, Result, Ok, Err, IfOk, ap, sym, ◌∙◌, subst, length, drop, reverse, arith, length-append}
use Rattle.std.proofs.Math.Seq.{drop-append_seam}
use Rattle.js_grammar.specs.declared.event.Event.{Event}
use Rattle.js_grammar.specs.Grammar.{Tree}
use Rattle.js_lexer.specs.declared.token.Token.{Token}
use Rattle.js_parser.specs.Trees.{expression_in}
use Rattle.js_reader.specs.declared.run.RunReading.{RunReading}
use Rattle.js_reader.specs.Runs.{IsRunReading, expression_events}
use Rattle.js_tree.specs.declared.tree.Expr.{Expr}
use Rattle.lava_base.specs.declared.memory.OutOfMemory.{OutOfMemory}
use Rattle.js_cursor.specs.Cursors.{Standing, standing, passed, IsReadFrom}

no_longer : (before rest : List Token) → length before ≤ length (before ++ rest)
no_longer before rest = let e = length-append before rest in omega (arith, e)

-- the run is no longer than what is left
pub read_within : (source : List ℕ) (left : List Token) (r : RunReading) → IsRunReading source left r → r.length ≤ length left
read_within source left r h =
    let before = h.0 in
    let P : List Token → Type 0 = λ ts. length before ≤ length ts in
    let k : length before ≤ length left = subst P (sym h.3.0.0) (no_longer before h.1) in
    let e : r.length ≡ length before = h.4 in
    omega (arith, e, k)

behind : (n : ℕ) (left before rest : List Token) → left ≡ before ++ rest → n ≡ length before → drop n left ≡ rest
behind n left before rest e k = ap (λ m. drop m left) k ∙ ap (λ ts. drop (length before) ts) e ∙ drop-append_seam before rest

-- the expression of a run is read, and the cursor stands behind it
pub read_from : (old : Standing) (r : RunReading) (events : List Event) (result : Result Expr OutOfMemory) → IsRunReading old.source old.left r → reverse events ≡ r.tree.out → ((x : Tree) → reverse events ≡ expression_events x → IfOk result (λ e. e ≡ expression_in old.source old.left x)) → IfOk result (IsReadFrom old (passed old r.length))
read_from old r events (Ok e) h k made =
    let left : drop r.length old.left ≡ h.1 = behind r.length old.left h.0 h.1 h.3.0.0 h.4 in
    (h.0, h.1, h.2, h.3, made h.2 (k ∙ h.5), ap (λ ts. standing old.source ts old.end old.refusal) left)
read_from old r events (Err f) h k made = tt
