use Rattle.printed_samples.proofs.SoundSlots as law
use Rattle.printed_samples.proofs.tree_laws.sound_slots.Goals as goal

pub returns : goal.returns
returns c = law.sound_slots
