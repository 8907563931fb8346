use Rattle.case_hosts.proofs.board_calls.play_aside.Given as goal

-- the ledger of the board beside it
abbrev pub ghosts-play_all : goal.ghosts-play_all
ghosts-play_all g a = record { name = a.fresh.blank.name; parts = a.fresh.blank.parts }
