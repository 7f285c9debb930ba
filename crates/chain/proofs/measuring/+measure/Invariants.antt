use Rattle.chain.proofs.measuring.+measure.Given as goal

-- proposed from what the function passes where it calls itself
abbrev pub decreases-measure : goal.decreases-measure
decreases-measure l = l.left
