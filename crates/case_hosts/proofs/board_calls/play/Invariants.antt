use Rattle.case_hosts.proofs.board_calls.play.Given as goal

-- the ledger of the first board
abbrev pub ghosts-play_aside : goal.ghosts-play_aside
ghosts-play_aside g a = record { name = a.blank.name; parts = a.blank.parts }
