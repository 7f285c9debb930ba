-- The end of bytes that flow into packets, and flows of bytes that begin alike. Assumes nothing.
use mathlib.Core.Path.{◌≡◌, sym, ap, ◌∙◌}
use mathlib.Core.List.{List}
use Prim.Native.Nat.{ℕ, ◌+◌, ◌-◌, ◌*◌, ◌/◌, ◌≤◌, ◌<◌}
use native.Mathlib.Nat.{mul_comm, mul-suc, mul-le-mul_left, le_of_mul-le-mul_left, div-lt_iff_lt-mul}
use native.Mathlib.Omega.{arith}
use lib.ListN.{length, take, drop, length-drop}
use lib.Seq.{take_all}
use Rattle.ump.specs.Packet.{Shape}
use Rattle.ump.specs.Packing.{packets_for}
use Rattle.ump.proofs.Sizes.{words_pos, packets_enough, packets_least}
use Rattle.ump.proofs.Fronts.{drop-take}
use Rattle.ump.proofs.First.{Side, under, over, side}
use Rattle.flow.specs.Digits.{val}
use Rattle.flow.specs.Flowing.{flow_word, Put, Flow, Poured}
use Rattle.flow.proofs.Digits.{val-take}
use Rattle.flow.proofs.Puts.{one_more, put_poured}
use Rattle.flow.proofs.Flowing.{flow_poured}

-- ---- the end: all bytes are taken, and what waits is put into the last packet

module _ {shape : Shape} {w bytes : List ℕ} {head q c n : ℕ} {us : List ℕ} (f : Flow shape w bytes head q c n us)
    (all : shape.room * q + c ≡ length bytes) (e : ℕ) (ends : e ≡ packets_for shape (length bytes)) where
  -- one packet is left to write, or none
  at_most : e ≤ q + 1
  at_most = rw ends (packets_least shape (length bytes) (q + 1) (omega arith) (omega (arith, f.few, one_more shape.room q)))

  at_least : q ≤ e
  at_least = rw ends (le_of_mul-le-mul_left (omega (arith, packets_enough shape (length bytes))) shape.some_room)

  last_number : n ≡ val shape.room (drop (shape.room * q) bytes)
  last_number = f.waits ∙ ap (val shape.room) (take_all c (drop (shape.room * q) bytes) (simp length-drop (omega arith)))

  pub flow_end : (us' : List ℕ) → (q < e → Put shape us q head n us') → (e ≤ q → us' ≡ us) → Poured shape w bytes head e us'
  flow_end us' some none = go (side q e)
    where
      go : Side q e → Poured shape w bytes head e us'
      go (under l _) =
          let last : e ≡ q + 1 = omega (arith, at_most) in
          rw last (put_poured (flow_poured f) (some l) last_number)
      go (over l _) =
          let last : e ≡ q = omega (arith, at_least) in
          rw (none l, last) (flow_poured f)

-- ---- bytes that begin alike have the same words as far as they fill packets

pub flow_agree : (shape : Shape) (bytes bytes' : List ℕ) (head q m : ℕ) → take m bytes ≡ take m bytes' → shape.room * q ≤ m
    → (k : ℕ) → k < shape.words * q → flow_word shape head bytes k ≡ flow_word shape head bytes' k
unfolding flow_word
flow_agree shape bytes bytes' head q m same reach k l =
    let room = shape.room in
    let p = k / shape.words in
    let in-front : p < q = (div-lt_iff_lt-mul (words_pos shape)).1 (rw mul_comm at l) in
    let inside : room * p + room ≤ m = omega (arith, mul-le-mul_left room in-front, mul-suc room p) in
    let cut : (bs : List ℕ) → val room (drop (room * p) bs) ≡ val room (drop (room * p) (take m bs)) =
    λ bs. sym (val-take room (m - room * p) (drop (room * p) bs) (omega arith)) ∙ ap (val room) (sym (drop-take (room * p) m bs)) in
    rw (cut bytes, cut bytes', same)
