use Rattle.lava_granted.proofs.Identifier_laws as lemmas
use Rattle.lava_granted.proofs.names_are_identifiers.Goals as goal

pub returns : goal.returns
returns c = lemmas.names_are_identifiers
