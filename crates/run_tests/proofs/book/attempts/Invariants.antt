use Rattle.pop_model.specs.Runs.{start_of}
use Rattle.run_tests.proofs.book.attempts.Given as goal

abbrev pub ghosts-try_units : goal.ghosts-try_units
ghosts-try_units g a = record { instance = a.instance.now; start = start_of a.instance.now }
