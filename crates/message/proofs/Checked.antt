-- What the check answers, from what its scan found. Assumes nothing.
use mathlib.Core.Path.{◌≡◌, sym, ap, ◌∙◌}
use Rattle.std.specs.Prelude.{Some, None}
use mathlib.Core.List.{List}
use Prim.Native.Nat.{ℕ, ◌+◌, ◌*◌, ◌/◌, ◌<◌}
use native.Mathlib.Nat.{mul-pos, mul-div_right}
use native.Mathlib.Omega.{arith}
use lib.ListN.{length}
use Rattle.refusal.specs.Answer.{Verdict, gives, refused, pass, ◌▷◌}
use Rattle.refusal.proofs.Laws.{given_passes, refused_by}
use Rattle.ump.specs.Packet.{Shape, group_at, id_at, payload}
use Rattle.ump.specs.Check.{check, check_packets, checked, payload_of, Summary, Valid, summary}
use Rattle.ump.proofs.Sizes.{words_pos}
use Rattle.ump.proofs.Checks.{passes_valid}
use Rattle.message.specs.Scan.{Inside, Counted, given, in_order, size_found}
use Rattle.message.proofs.Bounds.{Framed}

-- ---- what a call learns from the check

pub record Taken (s : Shape) (ws : List ℕ) (len size : ℕ) : Type 0 where
  pub passes : check s ws len ≡ pass
  pub valid : Valid s ws len
  pub sized : size ≡ length (payload_of s ws len)

module _ (s : Shape) (ws : List ℕ) (len : ℕ) where
  pub taken : {m : Summary} → checked s ws len ≡ gives m → Taken s ws len m.size
  unfolding checked
  taken e =
      let g = given_passes (check s ws len) e in
      record { passes = g.0; valid = passes_valid s ws len g.0; sized = sym (ap (λ (m : Summary). m.size) g.1) }

  pub not_taken : {n p : ℕ} → checked s ws len ≡ refused n p → check s ws len ≡ refused n p
  unfolding checked
  not_taken e = refused_by (check s ws len) _ e

  -- the same, by the size found
  pub found_taken : {size : ℕ} → gives size ≡ size_found s ws len → Taken s ws len size
  found_taken e =
      let g = given_passes (check s ws len) (sym e) in
      record { passes = g.0; valid = passes_valid s ws len g.0; sized = sym g.1 }

  pub found_refused : {n p : ℕ} → refused n p ≡ size_found s ws len → check s ws len ≡ refused n p
  found_refused e = refused_by (check s ws len) _ (sym e)

  -- a message that was taken has a first word
  pub taken_begins : {size : ℕ} → Taken s ws len size → 0 < length ws
  taken_begins m = let v = m.valid in omega (arith, v.inside, v.whole, mul-pos (words_pos s) v.some_packet)

  -- the answers of the check
  pub checked_fault : {n p : ℕ} → check s ws len ≡ refused n p → refused n p ≡ checked s ws len
  unfolding checked
  checked_fault e = rw e

  pub checked_size : {size : ℕ} → Taken s ws len size
      → gives (summary (group_at s ws 0) (id_at s ws 0) size len) ≡ checked s ws len
  unfolding checked
  checked_size m = rw (m.passes, ← m.sized)

-- the packets of a message that was taken
module _ (s : Shape) (ws : List ℕ) (len : ℕ) (v : Valid s ws len) where
  packets_are : len / s.words ≡ v.packets
  packets_are = ap (λ (l : ℕ). l / s.words) v.whole ∙ mul-div_right v.packets (words_pos s)

  whole_is : s.words * (len / s.words) ≡ len
  whole_is = ap (λ (n : ℕ). s.words * n) packets_are ∙ sym v.whole

  pub taken_inside : Inside s.words (len / s.words) ws
  taken_inside =
      record {
        some_words = words_pos s;
        there = omega (arith, whole_is, v.inside);
        few = omega (arith, whole_is, v.inside, v.short_enough);
      }

  pub taken-counted : Counted s.words (len / s.words) s.bias (s.room + s.bias) ws
  taken-counted p l = v.counts p (rw packets_are at l)

-- the size found, by the packets
module _ (s : Shape) (ws : List ℕ) (len : ℕ) {n : ℕ} (f : Framed s ws len n) where
  pub size_given : {size : ℕ} → Some size ≡ in_order s ws n → gives size ≡ size_found s ws len
  size_given {size} e = rw (f.check_is, f.payload_is) (go (check_packets s ws n) e)
    where
      go : (v : Verdict) → Some size ≡ given (v ▷ gives (length (payload s ws n))) → gives size ≡ v ▷ gives (length (payload s ws n))
      go (gives u) e = cc
      go (refused number place) e = cc

  pub size_none : None ≡ in_order s ws n → check_packets s ws n ≡ pass → ⊥
  size_none e p = let z : None ≡ Some (length (payload s ws n)) = e ∙ rw p in cc

  pub size_refused : {number place : ℕ} → refused number place ≡ check_packets s ws n → refused number place ≡ size_found s ws len
  size_refused e = rw (f.check_is, ← e)
