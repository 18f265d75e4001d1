use Rattle.claim_words.proofs.board.Board.clear.Given as goal

abbrev pub ghosts-clear_step : goal.ghosts-clear_step
ghosts-clear_step a = record { unit = a.unit }
