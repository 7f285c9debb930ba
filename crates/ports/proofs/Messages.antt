-- What is handed out is a valid message of document 01. Assumes nothing.
use mathlib.Core.Path.{◌≡◌, refl, sym, ap, ◌∙◌, subst}
use mathlib.Core.Bool.{Bool, true, false, not, cond, ◌&&◌}
use mathlib.Core.List.{List, [], ◌∷◌, ◌++◌, append_assoc}
use mathlib.Core.Logic.{◌⊎◌, inl, inr}
use Prim.Native.Nat.{ℕ, zero, suc, ◌+◌, ◌*◌, ◌≤◌, ◌<◌}
use native.Mathlib.Omega.{arith}
use lib.Dec.{eqb, ltb}
use lib.ListN.{length, get_or, take, length-append, get_or-append}
use lib.Seq.{get_or-append-add, get_or-take, length-take-le}
use borrow.Author.Tests.{ltb-false, eqb-true, not-false, ne_eqb}
use Rattle.ump.specs.Word.{nibble, octet}
use Rattle.ump.specs.Packet.{sysex8, type_at, status_at, count_at}
use Rattle.ump.specs.Packing.{status_for}
use Rattle.ump.specs.Check.{bad_type, bad_count, Valid}
use Rattle.ump.specs.Single.{Kind, complete, start, continue, end, unexpected_end, kind_of, kind_for, Packet, blank, unexpected}
use Rattle.ump.proofs.Sizes.{place_begin, place_last, place_inner}
use Rattle.ump.proofs.Checks.{or_left, or_right}
use Rattle.ports.specs.Streams.{key_of, key_at}
use Rattle.ports.proofs.Slots.{Same, alike, unlike, same}
use Rattle.ports.proofs.Reading.{Read}

-- ---- the first word of a packet: type 5, this status, a count in range, group and stream id of this key

pub record Head (w status stream : ℕ) : Type 0 where
  pub port : ℕ
  pub type : nibble w 0 ≡ 5
  pub status_is : nibble w 2 ≡ status
  pub count_least : 1 ≤ nibble w 3
  pub count_most : nibble w 3 ≤ 14
  pub key : key_of port (nibble w 1) (octet w 2) ≡ stream

abbrev pub status_of : Kind → ℕ
status_of complete = 0
status_of start = 1
status_of continue = 2
status_of end = 3
status_of (unexpected_end valid) = 3

status_of_kind : (status : ℕ) → status ≤ 3 → status_of (kind_of status) ≡ status
status_of_kind zero h = refl
status_of_kind (suc zero) h = refl
status_of_kind (suc (suc zero)) h = refl
status_of_kind (suc (suc (suc n))) h = omega arith

module _ (status count : ℕ) (zeroed : Bool) where
  and_left : (a b : Bool) → (a && b) ≡ true → a ≡ true
  and_left true b e = refl
  and_left false b e = e

  -- the kind tells the status, and a count in range unless it is the end with invalid data
  pub kind_status : status ≤ 3 → status ≡ status_of (kind_for status count zeroed)
  kind_status h = go (unexpected status count zeroed) refl
    where
      go : (b : Bool) → unexpected status count zeroed ≡ b → status ≡ status_of (cond b (unexpected_end (eqb count 1)) (kind_of status))
      go true e = eqb-true status 3 (and_left (eqb status 3) _ e)
      go false e = sym (status_of_kind status h)

  pub kind_count : (bad : Bool) → (bad && not (unexpected status count zeroed)) ≡ false → (kind_for status count zeroed ≡ unexpected_end false → ⊥)
      → (bad ≡ false) ⊎ (count ≡ 1)
  kind_count bad e n = go bad (unexpected status count zeroed) refl e n
    where
      go : (bad b : Bool) → unexpected status count zeroed ≡ b → (bad && not b) ≡ false → (cond b (unexpected_end (eqb count 1)) (kind_of status) ≡ unexpected_end false → ⊥) → (bad ≡ false) ⊎ (count ≡ 1)
      go bad true u f m = one (eqb count 1) refl m
        where
          one : (c : Bool) → eqb count 1 ≡ c → (unexpected_end c ≡ unexpected_end false → ⊥) → (bad ≡ false) ⊎ (count ≡ 1)
          one true g k = inr (eqb-true count 1 g)
          one false g k = absurd (k refl)
      go true false u f m = inl f
      go false false u f m = inl refl

in_range : (words : List ℕ) → (bad_count sysex8 words 0 ≡ false) ⊎ (count_at sysex8 words 0 ≡ 1) → (1 ≤ count_at sysex8 words 0) × (count_at sysex8 words 0 ≤ 14)
unfolding bad_count
in_range words (inl e) =
    let key = ltb (count_at sysex8 words 0) 1 in
    let high = ltb 14 (count_at sysex8 words 0) in
    (ltb-false _ _ (or_left key high e), ltb-false _ _ (or_right key high e))
in_range words (inr e) = (omega arith, omega arith)

type_is : (words : List ℕ) → bad_type sysex8 words 0 ≡ false → type_at sysex8 words 0 ≡ 5
unfolding bad_type
type_is words e = eqb-true _ _ (not-false _ e)

-- the first word of a packet that was read
pub read_head : (port : ℕ) (words : List ℕ) (p : Packet) → Read words p → (p.kind ≡ unexpected_end false → ⊥) → Head (get_or words 0 0) (status_of p.kind) (key_at port p)
read_head port words p r n =
    let status = status_at sysex8 words 0 in
    let count = count_at sysex8 words 0 in
    let c = in_range words (kind_count status count (blank words) (bad_count sysex8 words 0) r.count (λ e. n (r.kind ∙ e))) in
    record {
      port = port;
      type = type_is words r.type;
      status_is = kind_status status count (blank words) (ltb-false 3 status r.status) ∙ ap status_of (sym r.kind);
      count_least = c.0;
      count_most = c.1;
      key = rw (r.group, r.id);
    }

-- ---- a stream that was begun: a start and continues of one group and id

pub record Begun (key : ℕ) (words : List ℕ) : Type 0 where
  pub packets : ℕ
  pub some_packet : 0 < packets
  pub whole : length words ≡ 4 * packets
  pub heads : (p : ℕ) → p < packets → Head (get_or words (4 * p) 0) (cond (eqb p 0) 1 2) key

module _ (key : ℕ) (packet : List ℕ) (long : 4 ≤ length packet) where
  four : length (take 4 packet) ≡ 4
  four = length-take-le 4 packet long

  head_of : get_or (take 4 packet) 0 0 ≡ get_or packet 0 0
  head_of = get_or-take 4 packet 0 0 (omega arith)

  pub begun_start : Head (get_or packet 0 0) 1 key → Begun key (take 4 packet)
  begun_start h = record {
    packets = 1;
    some_packet = omega arith;
    whole = four;
    heads = λ p l. let e : p ≡ 0 = omega arith in rw (e, head_of) h;
  }

  -- the first words with a packet behind
  module _ (words : List ℕ) (b : Begun key words) (rest : List ℕ) where
    abbrev all : List ℕ
    all = (words ++ take 4 packet) ++ rest

    before : (p : ℕ) → p < b.packets → get_or all (4 * p) 0 ≡ get_or words (4 * p) 0
    before p l =
        rw append_assoc (get_or-append words (take 4 packet ++ rest) 0 (4 * p) (omega (arith, b.whole)))

    last : get_or all (4 * b.packets) 0 ≡ get_or packet 0 0
    last =
        let e : 4 * b.packets ≡ length words + 0 = omega (arith, b.whole) in
        rw (append_assoc, e)
        (get_or-append-add words (take 4 packet ++ rest) 0 0 ∙ get_or-append (take 4 packet) rest 0 0 (omega (arith, four)) ∙ head_of)

  pub begun_continue : (words : List ℕ) → Begun key words → Head (get_or packet 0 0) 2 key → Begun key (words ++ take 4 packet)
  begun_continue words b h = record {
    packets = b.packets + 1;
    some_packet = omega arith;
    whole = simp length-append (omega (arith, four, b.whole));
    heads = λ p l. go p l (same p b.packets);
  }
    where
      go : (p : ℕ) → p < b.packets + 1 → Same p b.packets → Head (get_or (words ++ take 4 packet) (4 * p) 0) (cond (eqb p 0) 1 2) key
      go p l (alike e t) =
          let z : p ≡ 0 → ⊥ = λ q. omega (arith, b.some_packet) in
          let f : length words + 0 ≡ 4 * p = omega (arith, b.whole) in
          rw (ne_eqb p 0 z, ← f, get_or-append-add words (take 4 packet) 0 0, head_of) h
      go p l (unlike n t) =
          let k : p < b.packets = omega arith in
          rw (get_or-append words (take 4 packet) 0 (4 * p) (omega (arith, b.whole))) (b.heads p k)

-- ---- a message of one group and id

-- heads of one group and id all through
module _ (words : List ℕ) (n key : ℕ) (some_one : 0 < n) (short : length words ≤ 16384) (inside : 4 * n ≤ length words)
    (heads : (p : ℕ) → p < n → Head (get_or words (4 * p) 0) (status_for n p) key) where
  pub heads_valid : Valid sysex8 words (4 * n)
  heads_valid = record {
    short_enough = short;
    inside = inside;
    packets = n;
    some_packet = some_one;
    whole = refl;
    types = λ p l. (heads p l).type;
    statuses = λ p l. (heads p l).status_is;
    counts = λ p l. ((heads p l).count_least, (heads p l).count_most);
    groups = λ p l. let a = (heads p l).key in let b = (heads 0 some_one).key in omega arith;
    one_id = λ p l. let a = (heads p l).key in let b = (heads 0 some_one).key in
        let e : octet (get_or words (4 * p) 0) 2 ≡ octet (get_or words (4 * 0) 0) 2 = omega arith in
        ap (λ (x : ℕ). x ∷ []) e;
  }

module _ (key : ℕ) (packet : List ℕ) (long : 4 ≤ length packet) (rest : List ℕ) where
  pub complete_valid : Head (get_or packet 0 0) 0 key → length (take 4 packet ++ rest) ≤ 16384 → Valid sysex8 (take 4 packet ++ rest) (length (take 4 packet))
  unfolding status_for
  complete_valid h short =
      let f = four key packet long in
      subst (λ (n : ℕ). Valid sysex8 (take 4 packet ++ rest) n) (sym f)
      (heads_valid (take 4 packet ++ rest) 1 key (omega arith) short (simp length-append (omega (arith, f)))
      (λ p l. let e : p ≡ 0 = omega arith in rw (e, get_or-append (take 4 packet) rest 0 0 (omega (arith, f)), head_of key packet long) h))

  pub end_valid : (words : List ℕ) → Begun key words → Head (get_or packet 0 0) 3 key → length ((words ++ take 4 packet) ++ rest) ≤ 16384
      → Valid sysex8 ((words ++ take 4 packet) ++ rest) (length (words ++ take 4 packet))
  unfolding status_for
  end_valid words b h short =
      let f = four key packet long in
      let n = b.packets + 1 in
      let size : length (words ++ take 4 packet) ≡ 4 * n = simp length-append (omega (arith, f, b.whole)) in
      subst (λ (k : ℕ). Valid sysex8 ((words ++ take 4 packet) ++ rest) k) (sym size)
      (heads_valid ((words ++ take 4 packet) ++ rest) n key (omega arith) short (omega (arith, size, length-append (words ++ take 4 packet) rest)) (λ p l. go p l (same p b.packets) (same p 0)))
    where
      several : b.packets + 1 ≡ 1 → ⊥
      several e = omega (arith, b.some_packet)

      go : (p : ℕ) → p < b.packets + 1 → Same p b.packets → Same p 0 → Head (get_or ((words ++ take 4 packet) ++ rest) (4 * p) 0) (status_for (b.packets + 1) p) key
      go p l (alike e t) z =
          rw (place_last {A = ℕ} 0 1 2 3 (b.packets + 1) p several (λ q. omega (arith, b.some_packet)) (omega arith))
          (rw (e, last key packet long words b rest) h)
      go p l (unlike e t) (alike z u) =
          let k : p < b.packets = omega arith in
          rw (place_begin {A = ℕ} 0 1 2 3 (b.packets + 1) p several z, before key packet long words b rest p k)
          (rw u at (b.heads p k))
      go p l (unlike e t) (unlike z u) =
          let k : p < b.packets = omega arith in
          rw (place_inner {A = ℕ} 0 1 2 3 (b.packets + 1) p several z (λ q. omega arith), before key packet long words b rest p k)
          (rw u at (b.heads p k))
