-- The payload copied out, packet after packet. Assumes nothing.
use mathlib.Core.Path.{◌≡◌, refl, sym, ap, ◌∙◌}
use mathlib.Core.List.{List, [], ◌++◌}
use Prim.Native.Nat.{ℕ, suc, ◌+◌, ◌-◌, ◌*◌, ◌/◌, ◌%◌, ◌≤◌, ◌<◌}
use native.Mathlib.Nat.{add-zero}
use native.Mathlib.Omega.{arith}
use lib.ListN.{length, get_or, set, take, drop, length-append}
use lib.Seq.{paste, paste-zero, paste-suc, length-paste, take_at, drop_at, drop-drop, take_all}
use Rattle.ump.specs.Word.{octet}
use Rattle.ump.specs.Packet.{Shape, sysex8, size_at, byte_at, payload_at, joined, payload}
use Rattle.ump.proofs.Bytes.{length-payload_at, get_d_payload_at}
use Rattle.ump.proofs.Joined.{joined_around}
use Rattle.message.specs.Copying.{Fitting, put_four}

-- the bytes of packet p, and all before them, are among those of n packets
pub payload-part : (s : Shape) (ws : List ℕ) (n p : ℕ) → p < n → length (payload s ws p) + length (payload_at s ws p) ≤ length (payload s ws n)
unfolding payload
payload-part s ws n p h =
    let r : List ℕ = joined (λ i. payload_at s ws (suc p + i)) (n - suc p) in
    omega (
      arith,
      ap length (joined_around (payload_at s ws) n p h),
      length-append (joined (payload_at s ws) p) (payload_at s ws p ++ r),
      length-append (payload_at s ws p) r,
    )

-- a piece pasted behind what is copied
paste_behind : (front piece old : List ℕ) (at size : ℕ) → at ≡ length front → size ≡ length piece
    → paste (front ++ drop at old) at piece size ≡ (front ++ piece) ++ drop (at + size) old
paste_behind front piece old at size ea es =
    let d : List ℕ = front ++ drop at old in
    let before : take at d ≡ front = take_at front (drop at old) at (sym ea) in
    let whole : take size piece ≡ piece = take_all size piece (omega arith) in
    let behind : drop (at + size) d ≡ drop (at + size) old =
    rw (← (drop-drop size at d), drop_at front (drop at old) at (sym ea)) (drop-drop size at old)
    in
    rw (before, whole, behind)

pub copy_more : (s : Shape) (ws bytes₀ bytes bytes' : List ℕ) (p at size : ℕ) → at ≡ length (payload s ws p)
    → bytes ≡ payload s ws p ++ drop at bytes₀ → size ≡ length (payload_at s ws p) → bytes' ≡ paste bytes at (payload_at s ws p) size
    → bytes' ≡ payload s ws (suc p) ++ drop (at + size) bytes₀
unfolding payload joined
copy_more s ws bytes₀ bytes bytes' p at size ea eb es e =
    e ∙ ap (λ (l : List ℕ). paste l at (payload_at s ws p) size) eb ∙ paste_behind (joined (payload_at s ws) p) (payload_at s ws p) bytes₀ at size ea es

pub copy_size : (s : Shape) (ws : List ℕ) (p : ℕ) → length (payload s ws (suc p)) ≡ length (payload s ws p) + length (payload_at s ws p)
unfolding payload joined
copy_size s ws p = length-append (joined (payload_at s ws) p) (payload_at s ws p)

pub copy_none : (s : Shape) (ws : List ℕ) → payload s ws 0 ≡ []
unfolding payload joined
copy_none s ws = refl

-- ---- a full packet, word by word

module _ (d s : List ℕ) (at : ℕ) where
  -- one byte more
  byte_more : (j n k : ℕ) {v : ℕ} → k ≡ at + j → n ≡ suc j → at + j < length d → j < length s → get_or s j 0 ≡ v
      → set (paste d at s j) k v ≡ paste d at s n
  byte_more j n k ek en hd hs ev = rw (ek, en, ← ev) (paste-suc d at s j 0 hd hs)

  -- four more
  four_more : (j n k word : ℕ) → k ≡ at + j → n ≡ j + 4 → at + n ≤ length d → n ≤ length s
      → ((b i : ℕ) → b ≡ j + i → i < 4 → get_or s b 0 ≡ octet word i) → put_four (paste d at s j) k word ≡ paste d at s n
  four_more j n k word ek en hd hs each =
      rw (
        byte_more j (j + 1) k ek (omega arith) (omega arith) (omega arith) (each j 0 (omega arith) (omega arith)),
        byte_more (j + 1) (j + 2) (k + 1) (omega arith) (omega arith) (omega arith) (omega arith) (each (j + 1) 1 (omega arith) (omega arith)),
        byte_more (j + 2) (j + 3) (k + 2) (omega arith) (omega arith) (omega arith) (omega arith) (each (j + 2) 2 (omega arith) (omega arith)),
        byte_more (j + 3) n (k + 3) (omega arith) (omega arith) (omega arith) (omega arith) (each (j + 3) 3 (omega arith) (omega arith)),
      )

-- what is copied of a full packet: its first byte, then the words after the first
module _ (ws d : List ℕ) (p at : ℕ) (f : Fitting ws d p at) (full : size_at sysex8 ws p ≡ 13) where
  abbrev bytes : List ℕ
  bytes = payload_at sysex8 ws p

  long : length bytes ≡ 13
  long = length-payload_at sysex8 ws p f.there ∙ full

  byte_is : (b : ℕ) → b < 13 → get_or bytes b 0 ≡ byte_at sysex8 ws p b
  byte_is b h = get_d_payload_at sysex8 ws p f.there b (rw full h)

  pub first_byte : {value : ℕ} → value ≡ octet (get_or ws (4 * p) 0) 3 → set d at value ≡ paste d at bytes 1
  first_byte {value} e =
      ap (λ (l : List ℕ). set l at value) (paste-zero d at bytes)
      ∙ byte_more d bytes at 0 1 at (omega arith) refl (omega (arith, f.room)) (omega (arith, long))
      (byte_is 0 (omega arith) ∙ rw (add-zero (4 * p)) (sym e))

  pub row_more : (row j n k : ℕ) {us : List ℕ} → us ≡ paste d at bytes j → j + 3 ≡ 4 * row → row < 4 → k ≡ at + j → n ≡ j + 4
      → put_four us k (get_or ws (4 * p + row) 0) ≡ paste d at bytes n
  row_more row j n k {us} e a h ek en =
      rw e
      (four_more d bytes at j n k (get_or ws (4 * p + row) 0) ek en (omega (arith, f.room)) (omega (arith, long))
      (λ b i eb l.
      let q : (b + 3) / 4 ≡ row = omega arith in
      let r : (b + 3) % 4 ≡ i = omega arith in
      byte_is b (omega arith) ∙ rw (q, r)))

  -- the bytes stay as many
  pub as_many : (n : ℕ) {us : List ℕ} → us ≡ paste d at bytes n → n ≤ 13 → length us ≡ length d
  as_many n e l = rw e (length-paste d at bytes n (omega (arith, f.room)) (omega (arith, long)))
