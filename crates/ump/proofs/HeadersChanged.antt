-- The first word of each packet is changed: the group, or the stream id, and nothing else. Assumes nothing.
use mathlib.Core.Path.{◌≡◌, refl, sym, ap, ◌∙◌}
use mathlib.Core.Logic.{◌≢◌}
use mathlib.Core.List.{List, [], ◌∷◌}
use Prim.Native.Nat.{ℕ, zero, suc, ◌+◌, ◌*◌, ◌/◌, ◌≤◌, ◌<◌}
use native.Mathlib.Decide.{ℕ_discrete}
use native.Mathlib.Omega.{arith}
use lib.ListN.{length, get_or, drop, set, length-set, length-drop}
use lib.Seq.{get_or-drop, get_or-set_other, get_or-set_same, ext_get_or}
use Rattle.ump.specs.Word.{octet_field, shift, part, nibble}
use Rattle.ump.specs.Packet.{Shape, sysex8, header, first_word, group_at, count_at, id_in, id_at, size_at, payload_at, place_word, place_octet, byte_at, payload}
use Rattle.ump.specs.Single.{with_group}
use Rattle.ump.specs.Setters.{on_heads, with_id}
use Rattle.ump.specs.Setting.{HeadedAt, Keeps, Changed}
use Rattle.ump.proofs.Joined.{joined_cong}
use Rattle.ump.proofs.Sizes.{words_pos, size_small}
use Rattle.ump.proofs.First.{Side, under, over, side}
use Rattle.ump.proofs.Bytes.{length-payload_at, get_d_payload_at}
use Rattle.ump.proofs.HeaderKept.{group_keeps, id_keeps}
use Rattle.ump.proofs.BytePlaces.{first_of_packet, packet_ends, byte_inside, payload_at_is, inside_words}

-- ---- the first word of each of n packets is changed

module _ (shape : Shape) (f : ℕ → ℕ) (words : List ℕ) where
  -- the length stays
  pub heads_length : (n : ℕ) → length (on_heads shape f words n) ≡ length words
  unfolding on_heads
  heads_length zero = refl
  heads_length (suc n) = simp length-set (heads_length n)

  -- every word that is not the first of one of them stays
  pub heads_elsewhere : (n k : ℕ) → ((p : ℕ) → p < n → k ≢ shape.words * p) → get_or (on_heads shape f words n) k 0 ≡ get_or words k 0
  unfolding on_heads
  heads_elsewhere zero k other = refl
  heads_elsewhere (suc n) k other =
      get_or-set_other (on_heads shape f words n) (shape.words * n) k (f (first_word shape words n)) 0 (other n (omega arith))
      ∙ heads_elsewhere n k (λ p h. other p (omega arith))

  -- the first word of each of them is changed, once
  pub heads_first : (n p : ℕ) → p < n → shape.words * p < length words
      → first_word shape (on_heads shape f words n) p ≡ f (first_word shape words p)
  unfolding on_heads
  heads_first zero p below there = absurd (omega arith)
  heads_first (suc n) p below there = go (side p n) (λ h. heads_first n p h there)
    where
      go : Side p n → (p < n → first_word shape (on_heads shape f words n) p ≡ f (first_word shape words p))
          → first_word shape (set (on_heads shape f words n) (shape.words * n) (f (first_word shape words n))) p
          ≡ f (first_word shape words p)
      go (under h e) earlier =
          get_or-set_other (on_heads shape f words n) (shape.words * n) (shape.words * p) (f (first_word shape words n)) 0
          (λ q. omega (arith, packet_ends shape p n h, words_pos shape))
          ∙ earlier h
      go (over h e) earlier =
          let q : n ≡ p = omega arith in
          rw q
          (get_or-set_same (on_heads shape f words p) (shape.words * p) (f (first_word shape words p)) 0 (rw (heads_length p) there))

  -- what stands behind them stays, also where it looks like packets
  pub heads_behind : (n : ℕ) → drop (shape.words * n) (on_heads shape f words n) ≡ drop (shape.words * n) words
  heads_behind n =
      ext_get_or 0 _ _ (simp (length-drop, heads_length n))
      (λ i h.
      get_or-drop (shape.words * n) (on_heads shape f words n) i 0
      ∙ heads_elsewhere n (shape.words * n + i) (λ p k e. omega (arith, packet_ends shape p n k, words_pos shape))
      ∙ sym (get_or-drop (shape.words * n) words i 0))

module _ (shape : Shape) (f group : ℕ → ℕ) (id : ℕ → List ℕ) (keeps : (x : ℕ) → Keeps shape x (f x) (group x) (id x))
    (words : List ℕ) (n : ℕ) (whole : shape.words * n ≤ length words) where
  abbrev changed : List ℕ
  changed = on_heads shape f words n

  first-word : (p : ℕ) → p < n → first_word shape changed p ≡ f (first_word shape words p)
  first-word p below = heads_first shape f words n p below (omega (arith, inside_words shape words n p whole below, words_pos shape))

  heads_headed : (p : ℕ) → p < n
      → HeadedAt shape words changed p (group (first_word shape words p)) (id (first_word shape words p))
  heads_headed p below = rw (first-word p below) (keeps (first_word shape words p)).headed

  heads_bytes : (p i : ℕ) → p < n → i < shape.room → byte_at shape changed p i ≡ byte_at shape words p i
  heads_bytes p i below room = go (ℕ_discrete ((i + header shape) / 4) 0)
    where
      go : Dec ((i + header shape) / 4 ≡ 0) → byte_at shape changed p i ≡ byte_at shape words p i
      go (yes j) =
          let e : place_word shape p i ≡ shape.words * p = omega arith in
          rw (e, first-word p below) ((keeps (first_word shape words p)).bytes_stay (place_octet shape i) (omega arith) (omega arith))
      go (no j) =
          ap (λ (x : ℕ). part x (shift octet_field (place_octet shape i)) shape.width)
          (heads_elsewhere shape f words n (place_word shape p i)
          (λ q h e. j (first_of_packet shape.words p _ q (byte_inside shape i room) e)))

  heads_payload_at : (p : ℕ) → p < n → payload_at shape changed p ≡ payload_at shape words p
  heads_payload_at p below =
      let there = inside_words shape words n p whole below in
      let size : size_at shape changed p ≡ size_at shape words p = rw (heads_headed p below).count_stays in
      payload_at_is shape changed p (rw (heads_length shape f words n) there) _
      (length-payload_at shape words p there ∙ sym size)
      (λ i h.
      let k : i < size_at shape words p = rw size at h in
      heads_bytes p i below (omega (arith, size_small shape (count_at shape words p)))
      ∙ sym (get_d_payload_at shape words p there i k))

  -- one law for any change of first words that keeps type, status, count and payload bytes
  heads_changed : Changed shape words changed n (λ p. group (first_word shape words p)) (λ p. id (first_word shape words p))
  unfolding payload
  heads_changed =
      record {
        as_long = heads_length shape f words n;
        headed = heads_headed;
        bytes_stay = heads_bytes;
        payloads_stay = heads_payload_at;
        payload-stays = joined_cong _ _ n heads_payload_at;
        behind_stays = heads_behind shape f words n;
      }

-- the group is set: every packet has it, all else stays
pub group_set : (shape : Shape) (words : List ℕ) (n group : ℕ) → shape.words * n ≤ length words → group < 16
    → Changed shape words (on_heads shape (λ x. with_group x group) words n) n (λ p. group) (id_at shape words)
group_set shape words n group whole fits =
    heads_changed shape (λ x. with_group x group) (λ x. group) (id_in shape) (λ x. group_keeps shape x group fits) words n whole

-- the stream id is set: every packet has it, all else stays
pub id_set : (words : List ℕ) (n id : ℕ) → sysex8.words * n ≤ length words → id < 256
    → Changed sysex8 words (on_heads sysex8 (λ x. with_id x id) words n) n (group_at sysex8 words) (λ p. id ∷ [])
id_set words n id whole fits =
    heads_changed sysex8 (λ x. with_id x id) (λ x. nibble x 1) (λ x. id ∷ []) (λ x. id_keeps x id fits) words n whole

-- setting the stream id touches no payload byte, of those that are carried and those that are not
pub id_keeps_bytes : (words : List ℕ) (n id : ℕ) → sysex8.words * n ≤ length words → id < 256 → (p i : ℕ) → p < n → i < 13
    → byte_at sysex8 (on_heads sysex8 (λ x. with_id x id) words n) p i ≡ byte_at sysex8 words p i
id_keeps_bytes words n id whole fits = (id_set words n id whole fits).bytes_stay

pub id_keeps_payload : (words : List ℕ) (n id : ℕ) → sysex8.words * n ≤ length words → id < 256
    → payload sysex8 (on_heads sysex8 (λ x. with_id x id) words n) n ≡ payload sysex8 words n
id_keeps_payload words n id whole fits = (id_set words n id whole fits).payload-stays
