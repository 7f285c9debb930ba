-- The stages of the check, one after the other: each refusal, at the first packet that its test holds of, where the tests before it hold of none.
-- Assumes nothing.
use mathlib.Core.Path.{◌≡◌, refl, sym, ◌∙◌}
use mathlib.Core.Bool.{Bool, true, false}
use mathlib.Core.List.{List}
use Prim.Native.Nat.{ℕ, ◌*◌, ◌≤◌, ◌<◌}
use lib.Dec.{ltb}
use lib.ListN.{length}
use borrow.Author.Tests.{lt-ltb, le-ltb}
use Rattle.refusal.specs.Answer.{refused, pass, ◌▷◌, guard}
use Rattle.ump.specs.Limits.{most_words}
use Rattle.ump.specs.Packet.{Shape}
use Rattle.ump.specs.Check.{first_where, bad_type, bad_status, bad_count, bad_group, bad_id, status_number, check_packets, check}

pub refuse_long : (s : Shape) (ws : List ℕ) (len : ℕ) → most_words < length ws → refused 1 0 ≡ check s ws len
unfolding check
refuse_long s ws len a = rw (lt-ltb most_words (length ws) a)

module _ (s : Shape) (ws : List ℕ) (n : ℕ) {f : ℕ} (ef : f ≡ first_where (bad_type s ws) n) where
  pub foreign_fault : f < n → refused 5 (s.words * f) ≡ check_packets s ws n
  unfolding check_packets
  foreign_fault a = rw (← ef, lt-ltb f n a)

  module _ (a : n ≤ f) {t : ℕ} (et : t ≡ first_where (bad_status s ws n) n) where
    pub step_fault : t < n → refused (status_number n t) (s.words * t) ≡ check_packets s ws n
    unfolding check_packets
    step_fault b = rw (← ef, ← et, le-ltb f n a, lt-ltb t n b)

    module _ (b : n ≤ t) {c : ℕ} (ec : c ≡ first_where (bad_count s ws) n) where
      pub count_fault : c < n → refused 10 (s.words * c) ≡ check_packets s ws n
      unfolding check_packets
      count_fault l = rw (← ef, ← et, ← ec, le-ltb f n a, le-ltb t n b, lt-ltb c n l)

      module _ (d : n ≤ c) {g : ℕ} (eg : g ≡ first_where (bad_group s ws) n) where
        pub group_fault : g < n → refused 11 (s.words * g) ≡ check_packets s ws n
        unfolding check_packets
        group_fault l = rw (← ef, ← et, ← ec, ← eg, le-ltb f n a, le-ltb t n b, le-ltb c n d, lt-ltb g n l)

        -- the last stage: the packets do not all pass, so its test holds of one
        pub stream_fault : n ≤ g → {i : ℕ} → i ≡ first_where (bad_id s ws) n → (check_packets s ws n ≡ pass → ⊥) → refused 12 (s.words * i) ≡ check_packets s ws n
        unfolding check_packets
        stream_fault l {i} ei failed = go (ltb i n) refl
          where
            last : check_packets s ws n ≡ guard (ltb i n) 12 (s.words * i)
            last = rw (← ef, ← et, ← ec, ← eg, ← ei, le-ltb f n a, le-ltb t n b, le-ltb c n d, le-ltb g n l)

            go : (b : Bool) → ltb i n ≡ b → refused 12 (s.words * i) ≡ check_packets s ws n
            go true e = sym (last ∙ rw e)
            go false e = absurd (failed (last ∙ rw e))
