use Rattle.printed_samples.proofs.SoundValues as law
use Rattle.printed_samples.proofs.laws.sound_values.Goals as goal

pub returns : goal.returns
returns c = law.sound_values
