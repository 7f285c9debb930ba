-- `listing::text::store_digits`: the measure is the number. Assumes nothing.
use Rattle.listing.proofs.text.+store_digits.Given as goal

abbrev pub decreases-store_digits : goal.decreases-store_digits
decreases-store_digits l = l.value
