use Rattle.job_subjects.proofs.instances.of_arrows.Goals as goal

pub unreachable-requires : goal.unreachable-requires
unreachable-requires c = c.in-None.ensures c.requires.fits
