use Rattle.restore.proofs.restoring.+lay.Given as goal

-- proposed from what the function passes where it calls itself
abbrev pub decreases-lay : goal.decreases-lay
decreases-lay l = l.left
