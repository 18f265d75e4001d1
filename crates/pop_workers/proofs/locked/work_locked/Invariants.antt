use Rattle.pop_workers.proofs.locked.work_locked.Given as goal

abbrev pub ghosts-work_together : goal.ghosts-work_together
ghosts-work_together g a = record { instance = a.instance.now; start = a.reached.now.cursors }
