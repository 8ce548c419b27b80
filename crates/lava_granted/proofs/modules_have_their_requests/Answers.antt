use Rattle.lava_granted.proofs.Module_laws as lemmas
use Rattle.lava_granted.proofs.modules_have_their_requests.Goals as goal

pub returns : goal.returns
returns c = lemmas.modules_have_their_requests
