-- The tables of a code.
use Rattle.std.specs.Prelude.{ℕ, List, [], take, drop, get_or}
use Rattle.js_code.specs.declared.node.ArgumentRow.{ArgumentRow}
use Rattle.js_code.specs.declared.node.ClassRow.{ClassRow}
use Rattle.js_code.specs.declared.node.GuardedRow.{GuardedRow}
use Rattle.js_code.specs.declared.node.Node.{Node}
use Rattle.js_code.specs.declared.node.Node.TheVariants as node
use Rattle.js_code.specs.declared.node.PartRow.{PartRow}
use Rattle.js_code.specs.declared.node.TemplateRow.{TemplateRow}
use Rattle.js_code.specs.declared.node.TurnRow.{TurnRow}

-- all tables of a code. `numbers` has the places of nodes, the places of labels' texts and the slots, of which a row has so many from one on
pub record Tables : Type 0 where
  pub nodes : List Node
  pub texts : List (List ℕ)
  pub numbers : List ℕ
  pub arguments : List ArgumentRow
  pub parts : List PartRow
  pub templates : List TemplateRow
  pub classes : List ClassRow
  pub turns : List TurnRow
  pub guarded : List GuardedRow

-- so many items of a list from a place on
abbrev pub part_of : {A : Type 0} → (start count : ℕ) → List A → List A
part_of start count xs = take count (drop start xs)

abbrev pub node_at : Tables → ℕ → Node
node_at c k = get_or c.nodes k node.Outside

abbrev pub no_tables : Tables
no_tables = record { nodes = []; texts = []; numbers = []; arguments = []; parts = []; templates = []; classes = []; turns = []; guarded = [] }
