-- Bytes of a payload that stands in the words, taken after what waits. Assumes nothing.
use mathlib.Core.Path.{◌≡◌, refl, sym, ap, ◌∙◌}
use mathlib.Core.List.{List}
use Prim.Native.Nat.{ℕ, zero, suc, ◌+◌, ◌-◌, ◌*◌, ◌/◌, ◌%◌, ◌^◌, ◌≤◌, ◌<◌, min, max}
use native.Mathlib.Nat.{mod-lt}
use native.Mathlib.Omega.{arith}
use lib.ListN.{get_or, take, drop}
use lib.Pow.{pow_pos}
use lib.Seq.{take-take, drop-drop}
use Rattle.ump.specs.Packet.{sysex8}
use Rattle.ump.proofs.Fronts.{drop-take}
use Rattle.ump.proofs.First.{Side, under, over, side}
use Rattle.flow.specs.Digits.{val}
use Rattle.flow.specs.Flowing.{flow_word, Flow}
use Rattle.flow.proofs.Digits.{val_nil, val-take}
use Rattle.merge.specs.Thirteens.{body, front_of, middle_of}
use Rattle.merge.specs.Pieces.{taken, Flows, Kept}
use Rattle.merge.specs.declared.held.Pending.{Pending}
use Rattle.merge.proofs.Bodies.{below_body, length-body, body_agree}
use Rattle.merge.proofs.Parts.{front_part, front_zero, middle_part}

-- ---- a part of what is kept

pub slice_alike : (m at n d s : ℕ) (b source : List ℕ) → take n (drop m b) ≡ take n (drop at source) → d + s ≤ n → take s (drop (m + d) b) ≡ take s (drop (at + d) source)
slice_alike m at n d s b source e h =
    let cut : (k : ℕ) (l : List ℕ) → take s (drop d (take n (drop k l))) ≡ take s (drop (k + d) l) =
    λ k l. ap (take s) (drop-take d n (drop k l)) ∙ take-take s (n - d) (drop d (drop k l)) (omega arith) ∙ ap (take s) (drop-drop d k l) in
    sym (cut m b) ∙ ap (λ (l : List ℕ). take s (drop d l)) e ∙ cut at source

module _ {head lag at to hand m : ℕ} {w b : List ℕ} (k : Kept head lag at to hand m w b) where
  pub kept_slice : (d s : ℕ) → d + s ≤ to - at → take s (drop (m + d) b) ≡ take s (drop (at + d) k.source)
  kept_slice d s h = slice_alike m at (to - at) d s b k.source k.same h

  -- the first of it
  pub kept_less : (to' : ℕ) → to' ≤ to → Kept head lag at to' hand m w b
  kept_less to' h = record {
    source = k.source;
    first = k.first;
    stands = k.stands;
    behind = k.behind;
    inside = λ l. omega (arith, k.inside (omega arith));
    ahead = λ l. k.ahead (omega arith);
    held = k.held;
    same = less (side at to');
  }
    where
      less : Side at to' → take (to' - at) (drop m b) ≡ take (to' - at) (drop at k.source)
      less s =
          sym (take-take (to' - at) (to - at) (drop m b) (omega arith))
          ∙ ap (take (to' - at)) k.same
          ∙ take-take (to' - at) (to - at) (drop at k.source) (omega arith)

  -- the rest of it
  pub kept_rest : (d hand' : ℕ) → at + d ≤ to → (0 < (at + d) % 13 → hand' ≡ val 13 (body w ((at + d) / 13 + lag))) → Kept head lag (at + d) to hand' (m + d) w b
  kept_rest d hand' h e = record {
    source = k.source;
    first = k.first;
    stands = k.stands;
    behind = omega (arith, k.behind);
    inside = λ l. k.inside (omega arith);
    ahead = λ l. omega (arith, k.ahead (omega arith));
    held = e;
    same = kept_slice d (to - (at + d)) (omega arith);
  }

  -- bytes of a packet that is yet to be read
  module _ (p : Pending) (us : List ℕ) (f : Flows w b head p us) (q s : ℕ) (from : at ≤ 13 * q) (few : s ≤ 13) (reach : 13 * q + s ≤ to) (some : 0 < s) (now : taken p ≡ m + (13 * q - at)) where
    unread : body us (q + lag) ≡ body w (q + lag)
    unread = body_agree us w (q + lag) (q + lag) (λ r h. f.rest (4 * (q + lag) + r) (omega (arith, k.ahead (omega arith))))

    pub packet_part : val 13 (take s (body us (q + lag))) ≡ val 13 (take s (drop (taken p) b))
    packet_part =
        let e : at + (13 * q - at) ≡ 13 * q = omega arith in
        ap (λ (l : List ℕ). val 13 (take s l)) unread
        ∙ ap (val 13) (k.stands.part q s (omega (arith, k.behind)) few (omega (arith, k.inside (omega arith))))
        ∙ ap (val 13) (sym (rw (← now, e) at (kept_slice (13 * q - at) s (omega arith))))

-- ---- whole packets

-- one more
pub kept_packet : {head lag first last m : ℕ} {w b : List ℕ} (k : Kept head lag (13 * first) (13 * last) 0 m w b) (p : Pending) (us : List ℕ) → Flows w b head p us
    → (q : ℕ) → first ≤ q → q < last → taken p ≡ m + 13 * (q - first) → val 13 (body us (q + lag)) ≡ val 13 (take 13 (drop (taken p) b))
kept_packet {lag = lag} k p us f q low high now =
    sym (val-take 13 13 (body us (q + lag)) (omega arith))
    ∙ packet_part k p us f q 13 (omega arith) (omega arith) (omega arith) (omega arith) (omega arith)

there_numbers : (i lag first last packet : ℕ) → packet ≡ first + lag → 4 * packet ≤ i → i < 4 * (packet + (last - first))
    → (lag ≤ i / 4) × ((first ≤ i / 4 - lag) × (13 * (i / 4 - lag - first) + 13 ≤ 13 * last - 13 * first))
there_numbers i lag first last packet e low high =
    let a : packet ≤ i / 4 = omega arith in
    let b : i / 4 < packet + (last - first) = omega arith in
    sums (i / 4) lag first last packet e a b
  where
    sums : (p lag first last packet : ℕ) → packet ≡ first + lag → packet ≤ p → p < packet + (last - first) → (lag ≤ p) × ((first ≤ p - lag) × (13 * (p - lag - first) + 13 ≤ 13 * last - 13 * first))
    sums p lag first last packet e a b = (omega arith, (omega arith, omega arith))

place_numbers : (i lag first packet : ℕ) → packet ≡ first + lag → lag ≤ i / 4 → first ≤ i / 4 - lag
    → (4 * (i / 4 - lag + lag) + i % 4 ≡ i) × ((13 * packet + 0 + 13 * (i / 4 - lag - first) ≡ 13 * (i / 4))
    × ((13 * first + 13 * (i / 4 - lag - first) ≡ 13 * ((4 * (i / 4 - lag) + i % 4) / 4)) × ((4 * (i / 4 - lag) + i % 4) % 4 ≡ i % 4)))
place_numbers i lag first packet e a b =
    let whole : 4 * (i / 4) + i % 4 ≡ i = omega arith in
    let c : (4 * (i / 4 - lag) + i % 4) / 4 ≡ i / 4 - lag = omega arith in
    (omega arith, (omega arith, (rw c (omega arith), omega arith)))

-- where they stand in their places, all at once
module _ (head lag first last packet : ℕ) (w b us : List ℕ) (k : Kept head lag (13 * first) (13 * last) 0 (13 * packet + 0) w b) (f : Flow sysex8 w b head packet 0 0 us)
    (le : first ≤ last) (there : packet ≡ first + lag) where
  stands_there : (i : ℕ) → 4 * packet ≤ i → i < 4 * (packet + (last - first)) → get_or us i 0 ≡ flow_word sysex8 head b i
  unfolding flow_word
  stands_there i low high =
      let q : ℕ = i / 4 - lag in
      let r : ℕ = i % 4 in
      let d : ℕ = 13 * (q - first) in
      let t = there_numbers i lag first last packet there low high in
      let e = place_numbers i lag first packet there t.0 t.1.0 in
      let same : take 13 (drop (13 * (i / 4)) b) ≡ take 13 (drop (13 * ((4 * q + r) / 4)) k.source) = rw (e.1.0, e.1.1.0) at (kept_slice k d 13 t.1.1) in
      let number : val 13 (drop (13 * ((4 * q + r) / 4)) k.source) ≡ val 13 (drop (13 * (i / 4)) b) =
      sym (val-take 13 13 (drop (13 * ((4 * q + r) / 4)) k.source) (omega arith)) ∙ ap (val 13) (sym same) ∙ val-take 13 13 (drop (13 * (i / 4)) b) (omega arith) in
      f.rest i low
      ∙ rw e.0 at (k.stands.whole q r (first_le k.first first q k.behind t.1.0) (reach_le first last q (k.inside (less_le first last q t.1.1)) t.1.1) (row_lt i))
      ∙ rw (number, e.1.1.1)
    where
      first_le : (a b q : ℕ) → 13 * a ≤ 13 * b → b ≤ q → a ≤ q
      first_le a b q h l = omega arith

      reach_le : (first last q : ℕ) {n : ℕ} → 13 * last ≤ n → 13 * (q - first) + 13 ≤ 13 * last - 13 * first → 13 * q + 13 ≤ n
      reach_le first last q h l = omega arith

      less_le : (first last q : ℕ) → 13 * (q - first) + 13 ≤ 13 * last - 13 * first → 13 * first < 13 * last
      less_le first last q l = omega arith

      row_lt : (i : ℕ) → i % 4 < 4
      row_lt i = omega arith

  pub kept_there : Flow sysex8 w b head (packet + (last - first)) 0 0 us
  kept_there = record {
    long = f.long;
    few = f.few;
    done = λ i h. all i h (side i (4 * packet));
    rest = λ i h. f.rest i (omega arith);
    waits = sym (val_nil 13);
  }
    where
      all : (i : ℕ) → i < 4 * (packet + (last - first)) → Side i (4 * packet) → get_or us i 0 ≡ flow_word sysex8 head b i
      all i h (under l _) = f.done i l
      all i h (over l _) = stands_there i l h

-- ---- the bytes of a packet behind its first

middle_numbers : (at to byte some : ℕ) → byte ≡ at % 13 → some ≡ min ((13 - byte) % 13) (to - at) → at ≤ to
    → (byte ≡ 0 → some ≡ 0) × ((byte + some ≤ 13) × ((13 * (at / 13) + byte ≡ at) × (some ≤ to - at)))
middle_numbers at to byte some e h l =
    let c : (13 - byte) % 13 ≤ 13 - byte = omega arith in
    let z : byte ≡ 0 → (13 - byte) % 13 ≡ 0 = λ i. rw i in
    let d : some ≤ (13 - byte) % 13 = omega arith in
    let f : some ≤ to - at = omega arith in
    ((λ i. omega (arith, z i)), (omega arith, (omega arith, f)))

module _ {head lag at to hand m : ℕ} {w b : List ℕ} (k : Kept head lag at to hand m w b) (byte some : ℕ) (byte_is : byte ≡ at % 13) (some_is : some ≡ min ((13 - byte) % 13) (to - at)) (le : at ≤ to) where
  n : (byte ≡ 0 → some ≡ 0) × ((byte + some ≤ 13) × ((13 * (at / 13) + byte ≡ at) × (some ≤ to - at)))
  n = middle_numbers at to byte some byte_is some_is le

  from_middle : 0 < byte → 0 < some → middle_of hand byte some ≡ val 13 (take some (drop m b))
  from_middle h h' =
      let q = at / 13 in
      let octs = body w (q + lag) in
      let first-bytes : take (byte + some) octs ≡ take (byte + some) (drop (13 * q) k.source) =
      k.stands.part q (byte + some) (omega (arith, k.behind)) n.1.0 (omega (arith, k.inside (omega (arith, n)), n)) in
      let e : byte + some - byte ≡ some = omega arith in
      let cut : take some (drop byte octs) ≡ take some (drop (13 * q + byte) k.source) =
      rw e at (sym (drop-take byte (byte + some) octs) ∙ ap (drop byte) first-bytes ∙ drop-take byte (byte + some) (drop (13 * q) k.source) ∙ ap (take (byte + some - byte)) (drop-drop byte (13 * q) k.source)) in
      let zeros : m + 0 ≡ m = omega arith in
      let zeros-at : at + 0 ≡ 13 * q + byte = omega (arith, n) in
      let kept : take some (drop m b) ≡ take some (drop (13 * q + byte) k.source) = rw (zeros, zeros-at) at (kept_slice k 0 some (omega (arith, n.1.1.1))) in
      ap (λ (x : ℕ). middle_of x byte some) (k.held (omega arith))
      ∙ middle_part octs byte some (below_body w (q + lag)) (omega (arith, length-body w (q + lag))) (omega (arith, n)) (omega (arith, n))
      ∙ ap (val 13) (cut ∙ sym kept)

  pub kept_middle : middle_of hand byte some ≡ val 13 (take some (drop m b))
  kept_middle = go (side 0 some)
    where
      go : Side 0 some → middle_of hand byte some ≡ val 13 (take some (drop m b))
      go (under h _) = from_middle (positive byte some n.0 h) h
        where
          positive : (byte some : ℕ) → (byte ≡ 0 → some ≡ 0) → 0 < some → 0 < byte
          positive zero some z h = absurd (omega (arith, z refl))
          positive (suc byte) some z h = omega arith
      go (over h _) =
          let z : some ≡ 0 = omega arith in
          rw z (front_zero (hand * 2 ^ (8 * byte) % 2 ^ 104) (mod-lt _ (pow_pos 104)) ∙ sym (val_nil 13))

-- ---- the first bytes of the last packet

pub kept_tail : {head lag at to hand m : ℕ} {w b : List ℕ} (k : Kept head lag at to hand m w b) (p : Pending) (us : List ℕ) → Flows w b head p us → (q s : ℕ) → at ≤ 13 * q → s ≤ 13
    → (0 < s → 13 * q + s ≤ to) → (0 < s → taken p ≡ m + (13 * q - at)) → front_of (val 13 (body us (q + lag))) s ≡ val 13 (take s (drop (taken p) b))
kept_tail {lag = lag} {b = b} k p us f q s from few reach now = front_part (body us (q + lag)) s (below_body us (q + lag)) few ∙ go (side 0 s)
  where
    go : Side 0 s → val 13 (take s (body us (q + lag))) ≡ val 13 (take s (drop (taken p) b))
    go (under h _) = packet_part k p us f q s from few (reach h) h (now h)
    go (over h _) =
        let z : s ≡ 0 = omega arith in
        rw z

-- ---- from one byte to another

-- the numbers of `keep`: what is left of the packet of byte `at`, whole packets first..last, and the rest
pub record Parted (at to byte some first last rest : ℕ) : Type 0 where
  pub byte_is : byte ≡ at % 13
  pub some_is : some ≡ min ((13 - byte) % 13) (to - at)
  pub few : (byte < 13) × ((some < 13) × (byte ≡ 0 → some ≡ 0))
  pub from : at ≤ 13 * first
  pub whole : first ≤ last
  pub tail : rest < 13
  pub top : last ≤ (to + 12) / 13
  pub reach : 0 < rest → (13 * last + rest ≡ to) × (last + 1 ≤ (to + 12) / 13)
  pub sum : some + 13 * (last - first) + rest ≡ to - at
  pub meets : 13 * first ≤ to → (at + some ≡ 13 * first) × (13 * last ≤ to)
  pub short : to < 13 * first → (last ≡ first) × (rest ≡ 0)
  pub all : to ≤ 13 * first → some ≡ to - at

-- the last packet
module _ (first last to rest t u top : ℕ) (to_is : to ≡ 13 * t + u) (few : u < 13) (low : 13 * top ≤ to + 12) (high : to < 13 * top + 1) (last_is : last ≡ max first t) (rest-is : rest ≡ to - 13 * last) where
  ends_far : 13 * first ≤ to → (last ≡ t) × (rest ≡ u)
  ends_far h =
      let e : last ≡ t = omega arith in
      (e, omega arith)

  ends_near : to < 13 * first → (last ≡ first) × (rest ≡ 0)
  ends_near h =
      let e : last ≡ first = omega arith in
      (e, omega arith)

-- what is left of the first
module _ (at to byte some first a : ℕ) (le : at ≤ to) (at-is : at ≡ 13 * a + byte) (few : byte < 13) (some_is : some ≡ min ((13 - byte) % 13) (to - at)) (low : 13 * first ≤ at + 12) (high : at < 13 * first + 1) where
  begins_even : byte ≡ 0 → (some ≡ 0) × (13 * first ≡ at)
  begins_even z =
      let e : (13 - byte) % 13 ≡ 0 = rw z in
      (omega arith, omega arith)

  begins_odd : 0 < byte → (13 * first ≡ 13 * a + 13) × (some ≡ min (13 - byte) (to - at))
  begins_odd h =
      let e : (13 - byte) % 13 ≡ 13 - byte = omega arith in
      (omega arith, rw e at some_is)

  begins : (at ≤ 13 * first) × ((some < 13) × ((byte ≡ 0 → some ≡ 0) × ((13 * first ≤ to → at + some ≡ 13 * first) × (to < 13 * first → some ≡ to - at))))
  begins = go (side 0 byte)
    where
      go : Side 0 byte → (at ≤ 13 * first) × ((some < 13) × ((byte ≡ 0 → some ≡ 0) × ((13 * first ≤ to → at + some ≡ 13 * first) × (to < 13 * first → some ≡ to - at))))
      go (under h _) = let o = begins_odd h in (omega (arith, o.0), (omega (arith, o.1), ((λ z. omega arith), ((λ l. omega (arith, o)), (λ l. omega (arith, o))))))
      go (over h _) = let e = begins_even (omega arith) in (omega (arith, e), (omega (arith, e), ((λ z. e.0), ((λ l. omega (arith, e)), (λ l. omega (arith, e))))))

far_whole : (first last to t u : ℕ) → last ≡ t → 13 * first ≤ to → 13 * t + u ≡ to → u < 13 → first ≤ last
far_whole first last to t u e h q l = omega arith

far_sum : (at to some first last rest t u : ℕ) → last ≡ t → rest ≡ u → at + some ≡ 13 * first → 13 * t + u ≡ to → first ≤ last → some + 13 * (last - first) + rest ≡ to - at
far_sum at to some first last rest t u e e' m q l = omega arith

pub parted : (at to byte some first last rest : ℕ) → at ≤ to → byte ≡ at % 13 → some ≡ min ((13 - byte) % 13) (to - at) → first ≡ (at + 12) / 13 → last ≡ max first (to / 13) → rest ≡ to - 13 * last
    → Parted at to byte some first last rest
parted at to byte some first last rest le b s f l r = go (side to (13 * first))
  where
    g : (at ≤ 13 * first) × ((some < 13) × ((byte ≡ 0 → some ≡ 0) × ((13 * first ≤ to → at + some ≡ 13 * first) × (to < 13 * first → some ≡ to - at))))
    g = begins at to byte some first (at / 13) le (omega arith) (omega arith) s (omega arith) (omega arith)

    below_top : first ≤ (to + 12) / 13
    below_top = omega arith

    go : Side to (13 * first) → Parted at to byte some first last rest
    go (under h _) =
        let e = ends_near first last to rest (to / 13) (to % 13) ((to + 12) / 13) (omega arith) (omega arith) (omega arith) (omega arith) l r h in
        record {
          byte_is = b;
          some_is = s;
          few = (omega arith, (g.1.0, g.1.1.0));
          from = g.0;
          whole = omega (arith, e.0);
          tail = omega (arith, e.1);
          top = omega (arith, e.0, below_top);
          reach = λ h'. absurd (omega (arith, e.1));
          sum = omega (arith, e, g.1.1.1.1 h);
          meets = λ h'. absurd (omega arith);
          short = λ h'. e;
          all = λ h'. g.1.1.1.1 h;
        }
    go (over h _) =
        let e = ends_far first last to rest (to / 13) (to % 13) ((to + 12) / 13) (omega arith) (omega arith) (omega arith) (omega arith) l r h in
        let meet = g.1.1.1.0 h in
        let q : 13 * (to / 13) + to % 13 ≡ to = omega arith in
        let t : to % 13 < 13 = omega arith in
        record {
          byte_is = b;
          some_is = s;
          few = (omega arith, (g.1.0, g.1.1.0));
          from = g.0;
          whole = far_whole first last to (to / 13) (to % 13) e.0 h q t;
          tail = omega (arith, e.1, t);
          top = omega (arith, e.0);
          reach = λ h'. (omega (arith, e, q), omega (arith, e));
          sum = far_sum at to some first last rest (to / 13) (to % 13) e.0 e.1 meet q (far_whole first last to (to / 13) (to % 13) e.0 h q t);
          meets = λ h'. (meet, omega (arith, e, q));
          short = λ h'. absurd (omega arith);
          all = λ h'. omega (arith, meet);
        }

-- the whole packets of what is kept
pub kept_run : {head lag at to hand m byte some first last rest : ℕ} {w b : List ℕ} → Kept head lag at to hand m w b → Parted at to byte some first last rest
    → Kept head lag (13 * first) (13 * last) 0 (m + some) w b
kept_run {head} {lag} {at} {to} {hand} {m} {byte} {some} {first} {last} {rest} {w} {b} k n = go (side to (13 * first))
  where
    whole_number : (q : ℕ) → 13 * q % 13 ≡ 0
    whole_number q = omega arith

    go : Side to (13 * first) → Kept head lag (13 * first) (13 * last) 0 (m + some) w b
    go (under h _) =
        let e = (n.short h).0 in
        rw e
        (record {
          source = k.source;
          first = k.first;
          stands = k.stands;
          behind = omega (arith, k.behind, n.from);
          inside = λ l. absurd (omega arith);
          ahead = λ l. absurd (omega arith);
          held = λ l. absurd (omega (arith, whole_number first));
          same =
              let z : 13 * first - 13 * first ≡ 0 = omega arith in
              rw z;
        })
    go (over h _) =
        let t = n.meets h in
        let from-there : Kept head lag (at + some) to 0 (m + some) w b = kept_rest k some 0 (omega (arith, t.0)) (λ l. absurd (omega (arith, t.0, whole_number first))) in
        kept_less (rw t.0 at from-there) (13 * last) t.1
