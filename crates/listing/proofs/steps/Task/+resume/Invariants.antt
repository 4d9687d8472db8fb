-- `resume`: along the cursor's own values; each way out is a lemma of laws/Resuming, and what stays true of the entries is in laws/Holding.
use Rattle.listing.proofs.steps.Task.+resume.Given as goal

abbrev pub decreases-resume : goal.decreases-resume
decreases-resume l = l.levels
