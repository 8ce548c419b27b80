-- The tree of each source is formed, and that of each program is sound.
use Rattle.std.proofs.Common.{◌≡◌, ◌≤◌, ◌+◌, ℕ, List, Some, None, refl, sym, subst}
use Rattle.js_early.specs.Walks.{early_error}
use Rattle.js_grammar.specs.Grammar.{Node, Row}
use Rattle.js_grammar.specs.Inserted.{Choice}
use Rattle.js_grammar.specs.Laws as laws
use Rattle.js_grammar.specs.Laws.{HasLow, Inserted_read, IsShallow, Is_right, Reads, Same_read, Steps, from, whole_state, with_semicolons}
use Rattle.js_grammar.specs.Levels.{Low, Lows, cost_of, level, step_of}
use Rattle.js_grammar.specs.Table.{lead_levels_of, levels_of}
use Rattle.js_grammar.specs.declared.nesting.TheConstants.{MAX_LEVELS}
use Rattle.js_grammar.specs.declared.symbols.Production.TheVariants as production
use Rattle.js_lexer.specs.declared.token.Token.{Token}
use Rattle.js_parser.specs.Trees.{IsModuleOf}
use Rattle.js_reader.specs.Reading.{IsTree, IsWithin, whole}
use Rattle.js_tree.specs.declared.tree.Module.{Module}
use Rattle.js_tree.specs.declared.tree.SourceKind.{SourceKind}
use Rattle.js_program.specs.Programs.{IsProgram}
use Rattle.js_lower_laws.specs.Sound.{IsSound}
use Rattle.js_program_laws.specs.Formed.{IsFormed}
use Rattle.js_program_laws.proofs.Levels.{formed_low}

-- a source stands at no level
outermost : level cost_of step_of from ≡ 0
unfolding lead_levels_of levels_of
outermost = refl

-- what stands whole is as low as it was read
whole_low : (a n : ℕ) (r : Row) → a ≡ 0 → a + cost_of production.Module r ≤ n → Lows cost_of step_of production.Module a n r → Low cost_of step_of 0 n (Node production.Module r)
whole_low a n r z h k = subst (λ j. (j + cost_of production.Module r ≤ n) × Lows cost_of step_of production.Module j n r) z (h, k)

module _ (read : Inserted_read) (same : Same_read) (low : laws.Low) where
  tree_low : (source : List ℕ) (ts : List Token) (parts : Row) → IsTree source ts parts → IsWithin (whole source ts) → Low cost_of step_of 0 MAX_LEVELS (Node production.Module parts)
  tree_low source ts parts is inside =
      let shallow : (xs : List Choice) × Is_right (whole source ts) xs × HasLow MAX_LEVELS (with_semicolons xs) = inside.1 in
      let stands : (r : Row) × (Node production.Module parts ≡ Node production.Module r) × Steps (whole source ts) (Some (whole_state r)) = read (whole source ts) (Node production.Module parts) is in
      let reads : Reads (with_semicolons shallow.0) (whole_state stands.0) = same (whole source ts) (whole_state stands.0) shallow.0 stands.2 shallow.1 shallow.2.0 in
      let lowered : IsShallow MAX_LEVELS (whole_state stands.0) = low (with_semicolons shallow.0) (whole_state stands.0) MAX_LEVELS reads shallow.2 in
      subst (λ x. Low cost_of step_of 0 MAX_LEVELS x) (sym stands.1) (whole_low (level cost_of step_of from) MAX_LEVELS stands.0 outermost lowered.0 lowered.1)

  pub formed : (kind : SourceKind) (source : List ℕ) (m : Module) → IsModuleOf kind source m → IsFormed m
  formed kind source m is = subst IsFormed (sym is.5) (formed_low kind source is.0 is.1 (tree_low source is.0 is.1 is.3 is.4.1))

pub program_sound : ((kind : SourceKind) (source : List ℕ) (m : Module) → IsModuleOf kind source m → IsFormed m) → ((m : Module) → IsFormed m → early_error m ≡ None → IsSound m)
    → (kind : SourceKind) (source : List ℕ) (m : Module) → IsProgram kind source m → IsSound m
program_sound formed good kind source m is = good m (formed kind source m is.0) is.1
