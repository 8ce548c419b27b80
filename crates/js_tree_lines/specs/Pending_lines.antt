-- Nodes that are still to be written, each with its depth.
use Rattle.std.specs.Prelude.{◌≡◌, ℕ, suc, List, [], ◌∷◌, ◌++◌, map, reverse}
use Rattle.js_tree_lines.specs.Lines.{AreLines, LineNode, node_of}
use Rattle.js_tree_lines.specs.declared.node.PendingLine.{PendingLine}

abbrev pub line_of : PendingLine → ℕ × LineNode
line_of p = (p.depth, node_of p.node)

-- the next one first
abbrev pub pending : List PendingLine → List (ℕ × LineNode)
pending l = map line_of (reverse l)

abbrev pub at_depth : ℕ → LineNode → ℕ × LineNode
at_depth d n = (d, n)

-- what is left to write
pub data AreRest : List (ℕ × LineNode) → List ℕ → Type 0 where
  nothing : AreRest [] []
  further : (d : ℕ) (n : LineNode) (ps : List (ℕ × LineNode)) (bytes after : List ℕ) → AreLines d (n ∷ []) bytes → AreRest ps after
      → AreRest ((d, n) ∷ ps) (bytes ++ after)
