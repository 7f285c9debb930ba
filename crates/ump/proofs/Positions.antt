-- The fewest-packet form by position: what each octet and each word of it is. Assumes nothing.
use mathlib.Core.Path.{◌≡◌, refl, sym, ap, ◌∙◌}
use mathlib.Core.Bool.{cond}
use mathlib.Core.List.{List, [], ◌∷◌, ◌++◌, append-nil}
use Prim.Native.Nat.{ℕ, zero, suc, ◌+◌, ◌-◌, ◌*◌, ◌/◌, ◌%◌, ◌≤◌, ◌<◌, min}
use native.Mathlib.Nat.{div-add-mod, mod-lt, div-lt_iff_lt-mul, mul_comm, mul_assoc}
use native.Mathlib.Omega.{arith}
use lib.Dec.{ltb}
use lib.ListN.{length, get_or, drop, replicate, length-take, length-drop, get_or-append}
use lib.Seq.{get_or-take, get_or-drop, get_or-append-add}
use borrow.Author.Tests.{le-ltb}
use Rattle.ump.specs.Word.{word, octet, octets, Below}
use Rattle.ump.specs.Packet.{Shape, sysex8, sysex7, header, packet}
use Rattle.ump.specs.Packing.{status_for, frame, packs_at, zeros_after, packs, packets_for, words_for, chunk, pack}
use Rattle.ump.specs.Origin.{header_octets}
use Rattle.ump.proofs.Words.{get_d_words_of, get_d_octets}
use Rattle.ump.proofs.Sizes.{words_pos}
use Rattle.ump.proofs.Packing.{length-frame, packet_packs, octets-frame, chunk_filled, chunk_laid_out}
use Rattle.ump.proofs.First.{Side, under, over, side}

-- ---- the octets and words of n bytes, byte i of which is f i

-- octet q of packet p
unfoldable pub octet_at : Shape → ℕ → List ℕ → ℕ → (ℕ → ℕ) → ℕ → ℕ → ℕ
octet_at shape group id n f p q = cond (ltb q (header shape)) (get_or (header_octets shape group id n p) q 0) (f (shape.room * p + (q - header shape)))

-- word k of the message
unfoldable pub word_at : Shape → ℕ → List ℕ → ℕ → (ℕ → ℕ) → ℕ → ℕ
word_at shape group id n f k =
    let o : ℕ → ℕ = λ j. octet_at shape group id n f (k / shape.words) (4 * (k % shape.words) + j) in
    word (o 0) (o 1) (o 2) (o 3)

-- ---- they are those of the fewest-packet form

get_d_zeros : (k i : ℕ) → ◌≡◌ {A = ℕ} (get_or (replicate k 0) i 0) 0
get_d_zeros zero i = refl
get_d_zeros (suc k) zero = refl
get_d_zeros (suc k) (suc i) = get_d_zeros k i

get_d_padded : (xs : List ℕ) (k i : ℕ) → get_or (xs ++ replicate k 0) i 0 ≡ get_or xs i 0
get_d_padded [] k i = get_d_zeros k i
get_d_padded (x ∷ xs) k zero = refl
get_d_padded (x ∷ xs) k (suc i) = get_d_padded xs k i

module _ (shape : Shape) (group : ℕ) (id bytes : List ℕ) (hid : length id ≡ shape.ids) where
  abbrev size : ℕ
  size = length bytes

  abbrev status : ℕ → ℕ
  status p = status_for (packets_for shape size) p

  length_head : (p : ℕ) → length (header_octets shape group id size p) ≡ header shape
  length_head p = omega arith

  size_chunk : (p : ℕ) → length (chunk shape bytes p) ≡ min shape.room (size - shape.room * p)
  size_chunk p = simp (length-take, length-drop)

  pub frame_split : (p : ℕ)
      → frame shape (status p) group id (chunk shape bytes p) (zeros_after shape (chunk shape bytes) p) ≡ header_octets shape group id size p ++ (chunk shape bytes p ++ zeros_after shape (chunk shape bytes) p)
  unfolding frame
  frame_split p = rw (size_chunk p)

  pub get_d_frame : (p q : ℕ) → q < 4 * shape.words → get_or (frame shape (status p) group id (chunk shape bytes p) (zeros_after shape (chunk shape bytes) p)) q 0 ≡ octet_at shape group id size (λ i. get_or bytes i 0) p q
  unfolding octet_at
  get_d_frame p q h = rw (frame_split p) (go (side q (header shape)))
    where
      go : Side q (header shape)
          → get_or (header_octets shape group id size p ++ (chunk shape bytes p ++ zeros_after shape (chunk shape bytes) p)) q 0
          ≡ cond (ltb q (header shape)) (get_or (header_octets shape group id size p) q 0) (get_or bytes (shape.room * p + (q - header shape)) 0)
      go (under l e) = rw e (get_or-append (header_octets shape group id size p) _ 0 q (omega (arith, length_head p)))
      go (over l e) =
          let i : ℕ = q - header shape in
          let z : q ≡ length (header_octets shape group id size p) + i = omega (arith, length_head p) in
          let r : i < shape.room = omega (arith, shape.full) in
          rw e
          (ap (λ (k : ℕ). get_or (header_octets shape group id size p ++ (chunk shape bytes p ++ zeros_after shape (chunk shape bytes) p)) k 0) z
          ∙ get_or-append-add (header_octets shape group id size p) (chunk shape bytes p ++ zeros_after shape (chunk shape bytes) p) i 0
          ∙ get_d_padded (chunk shape bytes p) (shape.room - length (chunk shape bytes p)) i
          ∙ get_or-take shape.room (drop (shape.room * p) bytes) i 0 r
          ∙ get_or-drop (shape.room * p) bytes i 0)

  -- word k of the fewest-packet form
  pub get_d_pack : (k : ℕ) → k < words_for shape size → get_or (pack shape group id bytes) k 0 ≡ word_at shape group id size (λ i. get_or bytes i 0) k
  unfolding pack packs word_at packs_at
  get_d_pack k h =
      let n : ℕ = packets_for shape size in
      let p : ℕ = k / shape.words in
      let j : ℕ = k % shape.words in
      let e : shape.words * p + j ≡ k = div-add-mod k shape.words in
      let l : j < shape.words = mod-lt k (words_pos shape) in
      let hp : p < n = (div-lt_iff_lt-mul (words_pos shape)).1 (rw mul_comm at h) in
      let whole : length (frame shape (status p) group id (chunk shape bytes p) (zeros_after shape (chunk shape bytes) p)) ≡ 4 * shape.words = length-frame shape (status p) group id _ _ hid (chunk_filled shape bytes p) in
      let at : (i : ℕ) → i < 4 → get_or (frame shape (status p) group id (chunk shape bytes p) (zeros_after shape (chunk shape bytes) p)) (4 * j + i) 0 ≡ octet_at shape group id size (λ x. get_or bytes x 0) p (4 * j + i) = λ i b. get_d_frame p (4 * j + i) (omega arith) in
      let z : 4 * j + 0 ≡ 4 * j = omega arith in
      let m : List ℕ = packs shape group id n (chunk shape bytes) ++ [] in
      ap (λ (x : List ℕ). get_or x k 0) (sym (append-nil (packs shape group id n (chunk shape bytes))))
      ∙ ap (λ (x : ℕ). get_or m x 0) (sym e)
      ∙ sym (get_or-drop (shape.words * p) m j 0)
      ∙ sym (get_or-take shape.words (drop (shape.words * p) m) j 0 l)
      ∙ ap (λ (x : List ℕ). get_or x j 0) (packet_packs shape group id n (chunk shape bytes) _ hid (λ q h. chunk_filled shape bytes q) [] p hp)
      ∙ get_d_words_of (frame shape (status p) group id (chunk shape bytes p) (zeros_after shape (chunk shape bytes) p)) j (omega arith)
      ∙ rw (z, get_d_frame p (4 * j) (omega arith), at 1 (omega arith), at 2 (omega arith), at 3 (omega arith))

-- ---- word by word, for the loops that write it

module _ (shape : Shape) (group : ℕ) (id : List ℕ) (n : ℕ) (f : ℕ → ℕ) where
  octet_body : (p q : ℕ) → header shape ≤ q → octet_at shape group id n f p q ≡ f (shape.room * p + (q - header shape))
  unfolding octet_at
  octet_body p q h = rw (le-ltb q (header shape) h)

  -- a word that is not its packet's first: four bytes
  pub word-body : (k i : ℕ) → 0 < k % shape.words → i + header shape ≡ shape.room * (k / shape.words) + 4 * (k % shape.words)
      → word_at shape group id n f k ≡ word (f i) (f (i + 1)) (f (i + 2)) (f (i + 3))
  unfolding word_at
  word-body k i h e =
      let p : ℕ = k / shape.words in
      let j : ℕ = k % shape.words in
      let at : (d : ℕ) → octet_at shape group id n f p (4 * j + d) ≡ f (i + d) = λ d. octet_body p (4 * j + d) (omega (arith, shape.ids_fit)) ∙ ap f (omega (arith, shape.ids_fit)) in
      let z : i + 0 ≡ i = omega arith in
      rw (at 0, at 1, at 2, at 3, z)

-- the first word of a packet: its header, and a first byte of SysEx8 or two of SysEx7
pub word_head8 : (group id n : ℕ) (f : ℕ → ℕ) (k : ℕ) → k % 4 ≡ 0
    → word_at sysex8 group (id ∷ []) n f k
    ≡ word (80 + group) (status_for (packets_for sysex8 n) (k / 4) * 16 + (min 13 (n - 13 * (k / 4)) + 1)) id (f (13 * (k / 4)))
unfolding word_at octet_at
word_head8 group id n f k e =
    let z : 13 * (k / 4) + 0 ≡ 13 * (k / 4) = omega arith in
    rw (e, z)

pub word_head7 : (group n : ℕ) (f : ℕ → ℕ) (k : ℕ) → k % 2 ≡ 0
    → word_at sysex7 group [] n f k
    ≡ word (48 + group) (status_for (packets_for sysex7 n) (k / 2) * 16 + (min 6 (n - 6 * (k / 2)) + 0)) (f (6 * (k / 2))) (f (6 * (k / 2) + 1))
unfolding word_at octet_at
word_head7 group n f k e =
    let z : 6 * (k / 2) + 0 ≡ 6 * (k / 2) = omega arith in
    rw (e, z)

-- ---- an octet of the fewest-packet form, among all of them

-- octet j of packet p among all octets
octet_of_packet : (shape : Shape) (m : List ℕ) (p j : ℕ) → j < 4 * shape.words → get_or (octets (packet shape m p)) j 0 ≡ get_or (octets m) (4 * shape.words * p + j) 0
octet_of_packet shape m p j h =
    let a : ℕ = j / 4 in
    let b : ℕ = j % 4 in
    let e : 4 * a + b ≡ j = omega arith in
    let l : b < 4 = omega arith in
    let k : 4 * (shape.words * p + a) + b ≡ 4 * shape.words * p + j = omega (arith, mul_assoc 4 shape.words p) in
    ap (λ (x : ℕ). get_or (octets (packet shape m p)) x 0) (sym e)
    ∙ get_d_octets (packet shape m p) a b l
    ∙ ap (λ (x : ℕ). octet x b) (get_or-take shape.words (drop (shape.words * p) m) a 0 (omega arith) ∙ get_or-drop (shape.words * p) m a 0)
    ∙ sym (get_d_octets m (shape.words * p + a) b l)
    ∙ ap (λ (x : ℕ). get_or (octets m) x 0) k

module _ (shape : Shape) (group : ℕ) (id bytes : List ℕ) (hg : group < 16) (ht : length id ≡ shape.ids) (bt : Below 256 id) (bb : Below shape.limit bytes) where
  abbrev packets : ℕ
  packets = packets_for shape (length bytes)

  abbrev framed : ℕ → List ℕ
  framed p = frame shape (status_for packets p) group id (chunk shape bytes p) (zeros_after shape (chunk shape bytes) p)

  pub octet_of_pack : (p j : ℕ) → p < packets → j < 4 * shape.words → get_or (octets (pack shape group id bytes)) (4 * shape.words * p + j) 0 ≡ get_or (framed p) j 0
  unfolding pack packs packs_at
  octet_of_pack p j hp l =
      let m : List ℕ = packs shape group id packets (chunk shape bytes) in
      ap (λ (x : List ℕ). get_or (octets x) (4 * shape.words * p + j) 0) (sym (append-nil m))
      ∙ sym (octet_of_packet shape (m ++ []) p j l)
      ∙ ap (λ (x : List ℕ). get_or (octets x) j 0) (packet_packs shape group id packets (chunk shape bytes) _ ht (λ q h. chunk_filled shape bytes q) [] p hp)
      ∙ ap (λ (x : List ℕ). get_or x j 0)
      (octets-frame shape group id packets (chunk shape bytes) _ (chunk_laid_out shape group id bytes hg ht bt bb) p hp)
