use Rattle.look_store.proofs.looking.+locate.Given as goal

-- proposed from what the function passes where it calls itself
abbrev pub decreases-locate : goal.decreases-locate
decreases-locate l = l.left
