use Rattle.command_run.proofs.run.play_growing.Given as goal

-- the plan of this play
abbrev pub ghosts-play_named : goal.ghosts-play_named
ghosts-play_named g a = record { plan = a.ready.now.plan }
