use Rattle.js_exotic.proofs.Sound_laws as sound
use Rattle.js_exotic.proofs.laws.objects_stay_sound.Goals as goal

pub returns-clause-deciding : goal.returns-clause-deciding
returns-clause-deciding g c = sound.deciding_keeps_soundness _ _

pub returns-clause-resuming : goal.returns-clause-resuming
returns-clause-resuming g c = sound.resuming_keeps_soundness _ _
