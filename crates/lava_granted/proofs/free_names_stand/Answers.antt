use Rattle.lava_granted.proofs.Free_laws as lemmas
use Rattle.lava_granted.proofs.free_names_stand.Goals as goal

pub returns : goal.returns
returns c = lemmas.free_names_stand c.generated_policy_covers.ensures.given
