-- Wrong answers that the promises shut out, each on a concrete input. Assumes nothing.
use Rattle.std.specs.Prelude.{Ok, Err}
use mathlib.Core.Path.{◌≡◌}
use mathlib.Core.Bool.{true, not}
use Prim.Native.Nat.{ℕ}
use lib.Dec.{T, eqb}
use Rattle.refusal.specs.Answer.{Answer}
use Rattle.refusal.specs.Tight.{Shuts}
use Rattle.refusal.specs.declared.Fault.{Fault}
use Rattle.refusal.specs.declared.Refusal.TheVariants.{Range, Field}
use Rattle.refusal.proofs.Tight.{differ, told}
use Rattle.ump.specs.Word.{get_field, set_field}
use Rattle.bit_ops.proofs.bit.Reads as bit
use Rattle.bit_ops.proofs.set_bit.Reads as set-bit
use Rattle.bit_ops.proofs.crumb.Reads as crumb
use Rattle.bit_ops.proofs.set_crumb.Reads as set-crumb
use Rattle.bit_ops.proofs.nibble.Reads as nibble
use Rattle.bit_ops.proofs.set_nibble.Reads as set-nibble
use Rattle.bit_ops.proofs.septet.Reads as septet
use Rattle.bit_ops.proofs.set_septet.Reads as set-septet
use Rattle.bit_ops.proofs.octet.Reads as octet
use Rattle.bit_ops.proofs.set_octet.Reads as set-octet
use Rattle.bit_ops.proofs.word.Reads as word
use Rattle.bit_ops.proofs.set_word.Reads as set_word

-- two answers differ by their value or refusal
wrong : {x y : Answer ℕ} → T (not (eqb (told (λ v. v) x) (told (λ v. v) y))) → x ≡ y → ⊥
wrong t e = differ (told (λ v. v)) t e

abbrev sample : ℕ
sample = 0x12345679

abbrev field_fault : Fault
field_fault = record { refusal = Field; place = 0 }

-- A read: counted from the least significant end (low), an octet for its septet (octet), an index past the last taken (past),
-- a good index refused (refused), a bad one refused by another number (number) or at another place (place).
-- A set: counted from the least significant end (low), bits of another field changed (next, other), an octet's top bit cleared
-- (top), an index past the last taken (past), a value that is too big cut (cut) or put in (big), good ones refused (refused).
record ShutOut : Type 0 where
  bit_low : Shuts bit.Post (sample, (0, tt)) (Ok true)
  bit_past : Shuts bit.Post (sample, (32, tt)) (Ok true)
  set_bit_low : Shuts set-bit.Post (sample, (0, (true, tt))) (Ok sample)
  set_bit_past : Shuts set-bit.Post (sample, (32, (true, tt))) (Ok sample)
  crumb_low : Shuts crumb.Post (sample, (0, tt)) (Ok 1)
  crumb_refused : Shuts crumb.Post (sample, (15, tt)) (Err field_fault)
  set_crumb_next : Shuts set-crumb.Post (0, (0, (3, tt))) (Ok 0xF0000000)
  set_crumb_cut : Shuts set-crumb.Post (0, (0, (5, tt))) (Ok 0x40000000)
  nibble_low : Shuts nibble.Post (sample, (0, tt)) (Ok 9)
  nibble_number : Shuts nibble.Post (sample, (8, tt)) (Err (record { refusal = Range; place = 0 }))
  set_nibble_next : Shuts set-nibble.Post (sample, (1, (0, tt))) (Ok 0x00345679)
  set_nibble_cut : Shuts set-nibble.Post (sample, (1, (16, tt))) (Ok 0x10345679)
  septet_octet : Shuts septet.Post (0xFF000000, (0, tt)) (Ok 0xFF)
  septet_place : Shuts septet.Post (sample, (4, tt)) (Err (record { refusal = Field; place = 4 }))
  set_septet_top : Shuts set-septet.Post (0xFFFFFFFF, (0, (0, tt))) (Ok 0x00FFFFFF)
  set_septet_big : Shuts set-septet.Post (0, (0, (0x80, tt))) (Ok 0x80000000)
  octet_low : Shuts octet.Post (sample, (0, tt)) (Ok 0x79)
  octet_past : Shuts octet.Post (sample, (4, tt)) (Ok 0x12)
  set_octet_low : Shuts set-octet.Post (sample, (0, (0, tt))) (Ok 0x12345600)
  set_octet_refused : Shuts set-octet.Post (sample, (3, (0xFF, tt))) (Err field_fault)
  word_low : Shuts word.Post (sample, (0, tt)) (Ok 0x5679)
  word_refused : Shuts word.Post (sample, (1, tt)) (Err field_fault)
  set_word_other : Shuts set_word.Post (sample, (0, (0xABCD, tt))) (Ok 0xABCD0000)
  set_word_past : Shuts set_word.Post (sample, (2, (0, tt))) (Ok sample)

shut_out : ShutOut
unfolding get_field set_field
shut_out = record {
  bit_low = λ κs s p. wrong tt p;
  bit_past = λ κs s p. wrong tt p;
  set_bit_low = λ κs s p. wrong tt p;
  set_bit_past = λ κs s p. wrong tt p;
  crumb_low = λ κs s p. wrong tt p;
  crumb_refused = λ κs s p. wrong tt p;
  set_crumb_next = λ κs s p. wrong tt p;
  set_crumb_cut = λ κs s p. wrong tt p;
  nibble_low = λ κs s p. wrong tt p;
  nibble_number = λ κs s p. wrong tt p;
  set_nibble_next = λ κs s p. wrong tt p;
  set_nibble_cut = λ κs s p. wrong tt p;
  septet_octet = λ κs s p. wrong tt p;
  septet_place = λ κs s p. wrong tt p;
  set_septet_top = λ κs s p. wrong tt p;
  set_septet_big = λ κs s p. wrong tt p;
  octet_low = λ κs s p. wrong tt p;
  octet_past = λ κs s p. wrong tt p;
  set_octet_low = λ κs s p. wrong tt p;
  set_octet_refused = λ κs s p. wrong tt p;
  word_low = λ κs s p. wrong tt p;
  word_refused = λ κs s p. wrong tt p;
  set_word_other = λ κs s p. wrong tt p;
  set_word_past = λ κs s p. wrong tt p;
}
