-- The laws of bytes that flow into packets: the start, and some more. Assumes nothing.
use mathlib.Core.Path.{◌≡◌, refl, sym, ap, ◌∙◌}
use mathlib.Core.List.{List, ◌++◌}
use Prim.Native.Nat.{ℕ, ◌+◌, ◌-◌, ◌*◌, ◌/◌, ◌%◌, ◌^◌, ◌≤◌, ◌<◌}
use native.Mathlib.Nat.{mul-zero}
use native.Mathlib.Omega.{arith}
use lib.ListN.{length, take, drop, length-take, length-drop}
use lib.Seq.{drop-drop, take-add}
use Rattle.ump.specs.Word.{Below}
use Rattle.ump.specs.Packet.{Shape}
use Rattle.ump.proofs.Words.{below_take, below_drop}
use Rattle.ump.proofs.Fronts.{drop-take}
use Rattle.ump.proofs.First.{Side, under, over, side}
use Rattle.flow.specs.Digits.{val}
use Rattle.flow.specs.Flowing.{Flow, Appended, Poured}
use Rattle.flow.proofs.Digits.{val_nil, val-fits, val-take, join_number, left_number, zeros_number}
use Rattle.flow.proofs.Puts.{one_more, put_poured}

pub flow_start : (shape : Shape) (w bytes : List ℕ) (head : ℕ) → Flow shape w bytes head 0 0 0 w
flow_start shape w bytes head = record {
  long = refl;
  few = shape.some_room;
  done = λ k l. absurd (omega (arith, mul-zero shape.words));
  rest = λ k l. refl;
  waits = sym (val_nil shape.room);
}

-- the packets that are written
pub flow_poured : {shape : Shape} {w bytes us : List ℕ} {head q c n : ℕ} → Flow shape w bytes head q c n us → Poured shape w bytes head q us
flow_poured f = record { long = f.long; done = f.done; rest = f.rest }

module _ {shape : Shape} {w bytes : List ℕ} {head q c n : ℕ} {us : List ℕ} (f : Flow shape w bytes head q c n us) (below : Below 256 bytes) where
  abbrev room : ℕ
  room = shape.room

  abbrev d : ℕ
  d = room - c

  abbrev xs : List ℕ
  xs = drop (room * q) bytes

  whole : c + d ≡ room
  whole = omega (arith, f.few)

  -- nothing but zeros stands behind the bytes that wait
  pub flow_padded : (n % 2 ^ (8 * (room - c)) ≡ 0) × (n < 2 ^ (8 * room))
  flow_padded =
      let z : val room (take c xs) % 2 ^ (8 * d) ≡ 0 = rw whole at (zeros_number c d (take c xs) (simp length-take (omega arith))) in
      rw f.waits (z, val-fits room (take c xs) (below_take 256 c xs (below_drop 256 (room * q) bytes below)))

  -- some bytes more
  module _ {us' : List ℕ} {x s q' c' n' : ℕ} (a : Appended shape us us' head q c n x s q' c' n') (most : s ≤ shape.room)
      (inside : shape.room * q + c + s ≤ length bytes) (is : x ≡ val shape.room (take s (drop (shape.room * q + c) bytes))) where
    abbrev qs : List ℕ
    qs = take s (drop (room * q + c) bytes)

    behind : drop (room * q + c) bytes ≡ drop c xs
    behind = sym (drop-drop c (room * q) bytes)

    below_qs : Below 256 qs
    below_qs = below_take 256 s (drop (room * q + c) bytes) (below_drop 256 (room * q + c) bytes below)

    -- what waits and what comes
    both : n + x / 2 ^ (8 * c) ≡ val room (take (c + s) xs)
    both =
        let j : val room (take c xs) + val room qs / 2 ^ (8 * c) ≡ val room (take c xs ++ qs) =
        rw whole at (join_number c d (take c xs) qs (simp (length-take, length-drop) (omega arith)) below_qs) in
        rw (f.waits, is) (j ∙ ap (val room) (rw behind (sym (take-add c s xs))))

    left : room ≤ c + s → x * 2 ^ (8 * d) % 2 ^ (8 * room) ≡ val room (take (c + s - room) (drop room xs))
    left h =
        let l : val room qs * 2 ^ (8 * d) % 2 ^ (8 * room) ≡ val room (drop d qs) = rw whole at (left_number c d qs below_qs (simp length-take (omega arith))) in
        let e : s - d ≡ c + s - room = omega (arith, f.few) in
        rw is (l ∙ ap (val room) (drop-take d s (drop (room * q + c) bytes) ∙ rw (e, behind, drop-drop d c xs, whole)))

    pub flow_step : Flow shape w bytes head q' c' n' us' × (shape.room * q' + c' ≡ shape.room * q + c + s)
    flow_step = go (side (c + s) room)
      where
        go : Side (c + s) room → Flow shape w bytes head q' c' n' us' × (room * q' + c' ≡ room * q + c + s)
        go (under h _) =
            let t = a.fewer h in
            rw (t.0, t.1.0, t.1.1.0, t.1.1.1) (record { long = f.long; few = h; done = f.done; rest = f.rest; waits = both }, omega arith)
        go (over h _) =
            let t = a.enough h in
            let c_is : c' ≡ c + s - room = omega (arith, t.1.1.0) in
            let p = put_poured (flow_poured f) t.0 (both ∙ val-take room (c + s) xs h) in
            rw (t.1.1.1, c_is, t.1.0) (
              record {
                long = p.long;
                few = omega (arith, f.few);
                done = p.done;
                rest = p.rest;
                waits = left h ∙ rw (one_more room q, ← drop-drop room (room * q) bytes);
              },
              omega (arith, one_more room q),
            )
