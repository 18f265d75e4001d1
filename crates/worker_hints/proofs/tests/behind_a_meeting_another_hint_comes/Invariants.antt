use Rattle.worker_hints.proofs.tests.behind_a_meeting_another_hint_comes.Given as goal

-- there are four units
abbrev pub ghosts-takes_of_two : goal.ghosts-takes_of_two
ghosts-takes_of_two g a = record { units = 4 }
