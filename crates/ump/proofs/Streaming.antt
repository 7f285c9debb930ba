-- The byte stream: the cases of the call; and what it accepts becomes a valid SysEx7 message that carries the data. Assumes nothing.
use mathlib.Core.Path.{◌≡◌, refl, sym, ap, ◌∙◌}
use mathlib.Core.Bool.{Bool, true, false}
use mathlib.Core.List.{List, [], ◌++◌}
use Prim.Native.Nat.{ℕ, suc, ◌-◌, ◌≤◌, ◌<◌}
use native.Mathlib.Omega.{arith}
use lib.Dec.{ltb}
use lib.ListN.{length, get_or, take, drop, length-append, length-drop, take-append-drop}
use lib.Seq.{take_at, drop_at}
use borrow.Author.Tests.{ltb-false, lt-ltb, le-ltb}
use Rattle.refusal.specs.Answer.{gives, refused, ◌▷◌, guard, writes}
use Rattle.refusal.proofs.Laws.{never_refused}
use Rattle.ump.specs.Word.{Below}
use Rattle.ump.specs.Packet.{sysex7}
use Rattle.ump.specs.Packing.{pack}
use Rattle.ump.specs.Limits.{most_words}
use Rattle.ump.specs.Check.{payload_of, summary, checked}
use Rattle.ump.specs.Stream.{bad_frame, between, bad_byte, without_real_time, first_bad, data_of, to_sysex7, bad_at, needed, Streamed}
use Rattle.ump.proofs.Without.{data_below}
use Rattle.ump.proofs.First.{first_before}
use Rattle.ump.proofs.Packing.{length_pack}
use Rattle.ump.proofs.Message.{payload_of_pack, checked_pack}

-- ---- the cases, each after those before it did not hold

module _ (bytes : List ℕ) (group : ℕ) (words : List ℕ) where
  pub stream_long : most_words < length words → to_sysex7 bytes group words ≡ (refused 1 0, words)
  unfolding to_sysex7
  stream_long h = rw (lt-ltb _ _ h)

  module _ (few : length words ≤ most_words) where
    pub stream_field : 15 < group → to_sysex7 bytes group words ≡ (refused 16 0, words)
    unfolding to_sysex7
    stream_field h = rw (le-ltb _ _ few, lt-ltb _ _ h)

    module _ (small : group ≤ 15) where
      pub stream_frame : bad_frame bytes ≡ true → to_sysex7 bytes group words ≡ (refused 17 0, words)
      unfolding to_sysex7
      stream_frame h = rw (le-ltb _ _ few, le-ltb _ _ small, h)

      module _ (framed : bad_frame bytes ≡ false) where
        pub stream_byte : bad_at bytes < length (between bytes) → to_sysex7 bytes group words ≡ (refused 18 (suc (bad_at bytes)), words)
        unfolding to_sysex7
        stream_byte h = rw (le-ltb _ _ few, le-ltb _ _ small, framed, lt-ltb _ _ h)

        module _ (septets : length (between bytes) ≤ bad_at bytes) where
          pub stream_room : length words < needed bytes → to_sysex7 bytes group words ≡ (refused 14 0, words)
          unfolding to_sysex7
          stream_room h = rw (le-ltb _ _ few, le-ltb _ _ small, framed, le-ltb _ _ septets, lt-ltb _ _ h)

          pub stream_done : needed bytes ≤ length words
              → to_sysex7 bytes group words ≡ (gives (needed bytes), pack sysex7 group [] (data_of bytes) ++ drop (needed bytes) words)
          unfolding to_sysex7
          stream_done h = rw (le-ltb _ _ few, le-ltb _ _ small, framed, le-ltb _ _ septets, le-ltb _ _ h)

-- ---- what an accepted stream tells

pub record Accepted (bytes : List ℕ) (group : ℕ) (words : List ℕ) (n : ℕ) : Type 0 where
  pub few : length words ≤ most_words
  pub small : group ≤ 15
  pub framed : bad_frame bytes ≡ false
  pub septets : length (between bytes) ≤ bad_at bytes
  pub room : needed bytes ≤ length words
  pub written : n ≡ needed bytes

pub stream_tells : (bytes : List ℕ) (group : ℕ) (words : List ℕ) (n : ℕ) → (to_sysex7 bytes group words).0 ≡ gives n → Accepted bytes group words n
unfolding to_sysex7
stream_tells bytes group words n e = go _ _ _ _ _ _ refl refl refl refl refl e
  where
    go : (after : List ℕ) (a b c d f : Bool) → ltb most_words (length words) ≡ a → ltb 15 group ≡ b → bad_frame bytes ≡ c → ltb (bad_at bytes) (length (between bytes)) ≡ d → ltb (length words) (needed bytes) ≡ f
        → (writes (guard a 1 0 ▷ guard b 16 0 ▷ guard c 17 0 ▷ guard d 18 (suc (bad_at bytes)) ▷ guard f 14 0) words (needed bytes) after).0 ≡ gives n
        → Accepted bytes group words n
    go after true b c d f ea eb ec ed ef x = never_refused x
    go after false true c d f ea eb ec ed ef x = never_refused x
    go after false false true d f ea eb ec ed ef x = never_refused x
    go after false false false true f ea eb ec ed ef x = never_refused x
    go after false false false false true ea eb ec ed ef x = never_refused x
    go after false false false false false ea eb ec ed ef x =
        record { few = ltb-false _ _ ea; small = ltb-false _ _ eb; framed = ec; septets = ltb-false _ _ ed; room = ltb-false _ _ ef; written = cc }

-- ---- a valid message that carries the data

-- where no byte is bad, the bytes that are no real-time bytes are below 80 hex
septets_below : (bytes : List ℕ) → length bytes ≤ first_bad bad_byte bytes → Below 128 (without_real_time bytes)
septets_below bytes h =
    data_below bytes
    (λ i k. first_before (λ j. bad_byte (get_or bytes j 0)) (length bytes) i (omega arith))

-- as many words are lent after as before
streamed_length : (bytes : List ℕ) (group : ℕ) (words : List ℕ) (n : ℕ) (after : List ℕ) → Streamed bytes group words n after → n ≡ needed bytes → n ≤ length words
    → length after ≡ length words
streamed_length bytes group words n after s e h =
    let l : length (take n after) ≡ n = rw s.fewest (length_pack sysex7 group [] (data_of bytes) refl ∙ sym e) in
    let k : length (drop n after) ≡ length words - n = rw s.stays (length-drop n words) in
    omega (arith, rw (take-append-drop n after) at (length-append (take n after) (drop n after)))

pub stream_valid : (bytes : List ℕ) (group : ℕ) (words : List ℕ) (n : ℕ) → (to_sysex7 bytes group words).0 ≡ gives n
    → Streamed bytes group words n (to_sysex7 bytes group words).1
stream_valid bytes group words n e =
    let a = stream_tells bytes group words n e in
    let bs : List ℕ = data_of bytes in
    let m : List ℕ = pack sysex7 group [] bs in
    let l : length m ≡ needed bytes = length_pack sysex7 group [] bs refl in
    let t : take (needed bytes) (m ++ drop (needed bytes) words) ≡ m = take_at m (drop (needed bytes) words) (needed bytes) l in
    let g : group < 16 = omega (arith, a.small) in
    let b : Below 128 bs = septets_below (between bytes) a.septets in
    rw (stream_done bytes group words a.few a.small a.framed a.septets a.room, a.written)
    (record {
      fewest = t;
      stays = drop_at m (drop (needed bytes) words) (needed bytes) l;
      checks = λ rest h. rw t (checked_pack sysex7 group [] bs g refl tt b rest (rw t at h));
      carries = λ rest. rw t (payload_of_pack sysex7 group [] bs g refl tt b rest);
    })

-- the words lent as a whole
pub stream_carries : (bytes : List ℕ) (group : ℕ) (words : List ℕ) (n : ℕ) (left : List ℕ) → (gives n, left) ≡ to_sysex7 bytes group words
    → (checked sysex7 left n ≡ gives (summary group [] (length (data_of bytes)) n)) × (payload_of sysex7 left n ≡ data_of bytes)
stream_carries bytes group words n left e =
    let g : (to_sysex7 bytes group words).0 ≡ gives n = sym (ap (λ o. o.0) e) in
    let a = stream_tells bytes group words n g in
    let s : Streamed bytes group words n left = rw (← (ap (λ o. o.1) e)) at (stream_valid bytes group words n g) in
    let h : n ≤ length words = omega (arith, a.room, a.written) in
    let l : length left ≤ most_words = omega (arith, streamed_length bytes group words n left s a.written h, a.few) in
    let t : take n left ++ drop n left ≡ left = take-append-drop n left in
    (rw t at (s.checks (drop n left) (rw t l)), rw t at (s.carries (drop n left)))
