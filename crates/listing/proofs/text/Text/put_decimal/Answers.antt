-- `listing::text::Text::put_decimal`: a number has at most 20 digits. Assumes nothing.
use Rattle.std.proofs.Common.{arith}
use Rattle.listing.proofs.Decimal.{length-decimal}
use Rattle.listing.proofs.text.Text.put_decimal.Goals as goal

pub store_digits-size-requires : goal.store_digits-size-requires
store_digits-size-requires g c = omega (arith, length-decimal 19 c.args.value (omega arith))
