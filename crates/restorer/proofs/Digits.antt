-- A number digit by digit. Assumes nothing.
use Rattle.std.specs.Prelude.{None, Some}
use mathlib.Core.Path.{◌≡◌}
use mathlib.Core.Bool.{true, false}
use mathlib.Core.List.{List}
use Prim.Native.Nat.{ℕ, ◌+◌, ◌≤◌, ◌<◌}
use native.Mathlib.Numerals.{add-one}
use borrow.Author.Tests.{eq-eqb, ne_eqb}
use lib.ListN.{length, get_or, drop, drop_of_length-le}
use lib.Seq.{drop-cons}
use Rattle.restorer.specs.Argument.{is_digit, with_digit, number_from, number_in}

pub none_in : (bytes : List ℕ) → length bytes ≡ 0 → None ≡ number_in bytes
unfolding number_in
none_in bytes e = rw (eq-eqb _ _ e)

pub some_in : (bytes : List ℕ) → (length bytes ≡ 0 → ⊥) → number_from 0 bytes ≡ number_in bytes
unfolding number_in
some_in bytes e = rw (ne_eqb _ _ e)

module _ (bytes : List ℕ) (n i : ℕ) where
  pub from_end : length bytes ≤ i → number_from n (drop i bytes) ≡ Some n
  unfolding number_from
  from_end h = rw (drop_of_length-le bytes h)

  pub from_digit : i < length bytes → is_digit (get_or bytes i 0) ≡ true
      → number_from n (drop i bytes) ≡ number_from (with_digit n (get_or bytes i 0)) (drop (i + 1) bytes)
  unfolding number_from
  from_digit h e = rw (drop-cons bytes i 0 h, e, add-one)

  pub from_other : i < length bytes → is_digit (get_or bytes i 0) ≡ false → number_from n (drop i bytes) ≡ None
  unfolding number_from
  from_other h e = rw (drop-cons bytes i 0 h, e)
