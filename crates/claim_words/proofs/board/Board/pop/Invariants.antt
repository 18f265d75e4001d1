use Rattle.claim_words.proofs.board.Board.pop.Given as goal

abbrev pub ghosts-ticket_step : goal.ghosts-ticket_step
ghosts-ticket_step a = record { unit = a.unit; cube = a.cube.now }
