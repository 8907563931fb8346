use Rattle.worker_pool.proofs.many.play_counted.Given as goal

-- the ledger of this play
abbrev pub ghosts-play_named : goal.ghosts-play_named
ghosts-play_named g a = record { name = a.boards.blank.name; parts = a.boards.blank.parts }
