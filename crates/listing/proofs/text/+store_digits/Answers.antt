-- `listing::text::store_digits`: the digits of a tenth, and then the last digit. Assumes nothing.
use Rattle.std.proofs.Common.{◌≡◌, refl, [], ◌∷◌, ℕ, ◌+◌, ◌/◌, ◌%◌, ◌≤◌, ◌<◌, length, length-append, ap, ◌∙◌, add-one, arith}
use lib.Seq.{take-suc-set}
use Rattle.listing.specs.Listing.{decimal}
use Rattle.listing.proofs.Decimal.{decimal-one, decimal_more, some_digit}
use Rattle.listing.proofs.text.+store_digits.Goals as goal

-- one digit more than a tenth has
more : (n : ℕ) → 10 ≤ n → length (decimal n) ≡ length (decimal (n / 10)) + 1
more n h = ap length (decimal_more n h) ∙ length-append (decimal (n / 10)) ((48 + n % 10) ∷ [])

pub bounds-digits-0 : goal.bounds-digits-0
bounds-digits-0 t c = omega (arith, some_digit c.args.value)

pub returns-then-value-lt10 : goal.returns-then-value-lt10
returns-then-value-lt10 t c =
    let d = c.args.digits.now in
    let lt : 0 < length d = omega (arith, some_digit c.args.value) in
    rw (decimal-one c.args.value c.if-value-lt10.true) (refl, take-suc-set d 0 (48 + c.args.value) lt)

pub store_digits-size-requires : goal.store_digits-size-requires
store_digits-size-requires t c = (omega arith, omega (arith, more c.args.value c.if-value-lt10.false))

pub bounds-digits-size : goal.bounds-digits-size
bounds-digits-size t c = omega (arith, more c.args.value c.if-value-lt10.false)

pub returns : goal.returns
returns t c =
    let h : 10 ≤ c.args.value = c.if-value-lt10.false in
    let lt : c.store_digits-size.result < length c.store_digits-size.new.digits = omega (arith, more c.args.value h) in
    (omega (arith, more c.args.value h), rw (decimal_more c.args.value h, add-one, take-suc-set, c.store_digits-size.ensures.1))
