mod PolicyOutcomesLemmas
mod PolicyLemmas
mod CheckLemmas
