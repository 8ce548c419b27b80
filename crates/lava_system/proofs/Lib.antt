mod LineLemmas
mod PieceLemmas
