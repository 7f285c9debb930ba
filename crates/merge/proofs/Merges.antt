-- One pass over a list of edits: how it begins, one edit, and how it ends. Assumes nothing.
use mathlib.Core.Path.{◌≡◌, refl, sym, ap, ◌∙◌}
use mathlib.Core.Bool.{Bool}
use mathlib.Core.List.{List, ◌∷◌}
use Prim.Native.Nat.{ℕ, ◌+◌, ◌-◌, ◌*◌, ◌/◌, ◌%◌, ◌≤◌, ◌<◌}
use native.Mathlib.Omega.{arith}
use lib.ListN.{length, get_or, take, drop}
use Rattle.ump.specs.Limits.{most_words, most_bytes}
use Rattle.ump.specs.Word.{Below}
use Rattle.ump.specs.Packet.{sysex8}
use Rattle.ump.specs.Packing.{packets_for, words_for}
use Rattle.ump.proofs.Sizes.{packets_enough}
use Rattle.ump.specs.Edits.{edit_in, edits_of, per_edit}
use Rattle.ump.proofs.First.{Side, under, over, side}
use Rattle.flow.specs.Digits.{val}
use Rattle.flow.specs.Flowing.{flow_word, Poured}
use Rattle.flow.proofs.Digits.{val-take}
use Rattle.flow.proofs.Puts.{put_is}
use Rattle.flow.proofs.Poured.{flow_end, flow_agree}
use Rattle.merge.specs.Thirteens.{number, body, front_of}
use Rattle.merge.specs.Pieces.{waiting, taken, Flows, Runs, Goes, Given, Kept, Stands, Moved, Flushed}
use Rattle.merge.specs.declared.merging.Step as code
use Rattle.merge.specs.Pass.{Step, step_meaning, step_of, merged, begin_of, Turns, Merges, Steady}
use Rattle.merge.specs.declared.held.Thirteen.{Thirteen}
use Rattle.merge.specs.declared.held.Pending.{Pending}
use Rattle.merge.proofs.Bodies.{below_body, body-fits, body_agree, body_of_number, body_injective}
use Rattle.merge.proofs.Parts.{front_part}
use Rattle.merge.proofs.Keeping.{slice_alike}
use Rattle.merge.proofs.Turning.{Turn, Turned, rest, rest_all, rest_step, rest_end, turns_inside, turns_next, turns_end, turn_kept, turn_put, turn_on, put_le, take_begin, drop_begin, length_all, below_merged, merged-none}

-- ---- packets moved up stand there

module _ (ws us source : List ℕ) (head held lag first : ℕ) (s : Stands ws source head 0 0) (m : Moved ws head first held lag us) (plain : head % 256 ≡ 0) (reach : length source ≤ 13 * held) where
  same_body : (q : ℕ) → 0 < lag → first ≤ q → q < held → body us (q + lag) ≡ body ws q
  same_body q up low high =
      body_injective us ws (q + lag) q (body_of_number us (q + lag) head (val 13 (body ws q)) (λ r h. m.words q r up low high h) (body-fits ws q) plain)

  stays : (q : ℕ) → q + 0 ≡ q
  stays q = omega arith

  -- the number of a whole packet
  whole_number : (q : ℕ) → 13 * q + 13 ≤ length source → val 13 (body ws q) ≡ val 13 (drop (13 * q) source)
  whole_number q h =
      sym (val-take 13 13 (body ws q) (omega arith))
      ∙ ap (val 13) (rw (stays q) at (s.part q 13 (omega arith) (omega arith) h))
      ∙ val-take 13 13 (drop (13 * q) source) (omega arith)

  pub moved_stands : Stands us source head lag first
  moved_stands = go (side 0 lag)
    where
      go : Side 0 lag → Stands us source head lag first
      go (over h _) =
          let z : lag ≡ 0 = omega arith in
          rw (z, m.none z) (record { whole = λ q r a b c. s.whole q r (omega arith) b c; part = λ q n a b c. s.part q n (omega arith) b c })
      go (under h _) = record {
        whole = λ q r a b c. m.words q r h a (omega arith) c ∙ put_is sysex8 head q (val 13 (body ws q)) source (whole_number q b) r c;
        part = λ q n a b c. at q n a b c (side 0 n);
      }
        where
          at : (q n : ℕ) → first ≤ q → n ≤ 13 → 13 * q + n ≤ length source → Side 0 n → take n (body us (q + lag)) ≡ take n (drop (13 * q) source)
          at q n a b c (under l _) = ap (take n) (same_body q h a (omega arith)) ∙ rw (stays q) at (s.part q n (omega arith) b c)
          at q n a b c (over l _) =
              let z : n ≡ 0 = omega arith in
              rw z

-- ---- a pass that has come to an edit

pub record Pass (w : List ℕ) (head size total lag : ℕ) (numbers bytes : List ℕ) (shrunk grow : Bool) (source words : List ℕ) (at : ℕ) (flow : Pending) (hand : Thirteen) (end start index : ℕ) : Type 0 where
  pub first : ℕ
  pub stands : Stands w source head lag first
  pub sized : size ≡ length source
  pub behind : 13 * first ≤ at
  pub below : Below 256 (merged shrunk grow 0 (edits_of numbers) source bytes)
  pub long : length (merged shrunk grow 0 (edits_of numbers) source bytes) ≡ total
  pub room : words_for sysex8 total ≤ length w
  pub top : 4 * (packets_for sysex8 size + lag) ≤ length w
  pub small : length w ≤ most_words
  pub free : head ≤ 4294967040
  pub flows : Flows w (merged shrunk grow 0 (edits_of numbers) source bytes) head flow words
  pub held : 0 < at % 13 → number hand ≡ val 13 (body w (at / 13 + lag))
  pub turns : Turns shrunk grow size lag total (length bytes) end at (taken flow) start (rest numbers index)
  pub is : drop (taken flow) (merged shrunk grow 0 (edits_of numbers) source bytes) ≡ merged shrunk grow end (rest numbers index) (drop at source) (drop start bytes)

-- an edit inside both payloads and the bytes lent
pub record Edited (size total given at m start : ℕ) (s : code.Step) (supply : ℕ) : Type 0 where
  pub read : at + s.kept + s.out ≤ size
  pub written : m + s.kept + s.put ≤ total
  pub put : start + s.put ≤ given
  pub supplied : start + supply ≤ given

-- plain numbers
room_number : (m n total room : ℕ) → m + n ≤ total → words_for sysex8 total ≤ room → 4 * ((m + n) / 13) ≤ room
room_number m n total room h l = omega (arith, packets_enough sysex8 total)

top_number : (to size lag room : ℕ) → to ≤ size → 4 * (packets_for sysex8 size + lag) ≤ room → 4 * ((to + 12) / 13 + lag) ≤ room
top_number to size lag room h l = omega (arith, packets_enough sysex8 size)

pub next_number : (next size lag room : ℕ) → next ≤ size → 4 * (packets_for sysex8 size + lag) ≤ room → room ≤ most_words → (next / 13 + lag < 65536) × (0 < next % 13 → 4 * (next / 13 + lag) + 4 ≤ room)
next_number next size lag room h l s =
    let e = packets_enough sysex8 size in
    (omega arith, λ i. omega arith)

pub size_number : (k size lag room : ℕ) → k ≤ size → 4 * (packets_for sysex8 size + lag) ≤ room → room ≤ most_words → k ≤ most_bytes
size_number k size lag room h l s = omega (arith, packets_enough sysex8 size)

module _ {w : List ℕ} {head size total lag : ℕ} {numbers bytes : List ℕ} {shrunk grow : Bool} {source words : List ℕ} {at : ℕ} {flow : Pending} {hand : Thirteen} {end start index : ℕ}
    (p : Pass w head size total lag numbers bytes shrunk grow source words at flow hand end start index) where
  abbrev target : List ℕ
  target = merged shrunk grow 0 (edits_of numbers) source bytes

  -- bytes at..to can be kept
  pass_kept : (to : ℕ) → to ≤ size → (at < size → taken flow ≤ at + 13 * lag + 12) → take (to - at) (drop (taken flow) target) ≡ take (to - at) (drop at source)
      → Kept head lag at to (number hand) (taken flow) w target
  pass_kept to high ahead same = record {
    source = source;
    first = p.first;
    stands = p.stands;
    behind = p.behind;
    inside = λ l. omega (arith, p.sized);
    ahead = λ l. ahead (omega arith);
    held = p.held;
    same = same;
  }

  pass_keeps : (to : ℕ) → to ≤ size → taken flow + (to - at) ≤ total → Kept head lag at to (number hand) (taken flow) w target
      → (4 * ((to + 12) / 13 + lag) ≤ length words) × Runs (Kept head lag at to (number hand) (taken flow)) words head flow (to - at)
  pass_keeps to high fits kept = (
    rw p.flows.long (top_number to size lag (length w) high p.top),
    record {
      w = w;
      bytes = target;
      flows = p.flows;
      below = p.below;
      enough = rw p.long fits;
      comes = kept;
      room = rw p.flows.long (room_number (taken flow) (to - at) total (length w) fits p.room);
      small = rw p.flows.long p.small;
      free = p.free;
    },
  )

  -- the packet of a later byte is in hand
  pub pass_hand : (next : ℕ) (coming : ℕ) → at ≤ next → next ≤ size → Steady words (number hand) at next lag coming → 0 < next % 13 → coming ≡ val 13 (body w (next / 13 + lag))
  pass_hand next coming low high s odd = go (side 0 (at % 13)) (side (at / 13) (next / 13))
    where
      loaded : (0 < at % 13 → next / 13 ≡ at / 13 → ⊥) → flow.packet ≤ next / 13 + lag → coming ≡ val 13 (body w (next / 13 + lag))
      loaded other le = s.other odd other ∙ ap (val 13) (body_agree words w (next / 13 + lag) (next / 13 + lag) (λ r h. p.flows.rest (4 * (next / 13 + lag) + r) (omega arith)))

      -- what is written is not ahead
      written : at < size → 13 * flow.packet ≤ at + 13 * lag + 12
      written l = omega (arith, (turns_inside (rest numbers index) p.turns).ahead l)

      even : (packet at next lag : ℕ) → at % 13 ≡ 0 → at ≤ next → 13 * packet ≤ at + 13 * lag + 12 → packet ≤ next / 13 + lag
      even packet at next lag e l h =
          let q : 13 * (at / 13) ≡ at = omega arith in
          let t : at / 13 ≤ next / 13 = omega arith in
          omega arith

      later : (packet at next lag : ℕ) → at / 13 < next / 13 → 13 * packet ≤ at + 13 * lag + 12 → packet ≤ next / 13 + lag
      later packet at next lag l h =
          let q : at < 13 * (at / 13) + 13 = omega arith in
          omega arith

      go : Side 0 (at % 13) → Side (at / 13) (next / 13) → coming ≡ val 13 (body w (next / 13 + lag))
      go (over h _) y = loaded (λ l. absurd (omega arith)) (even flow.packet at next lag (omega arith) low (written (more at next size odd (omega arith) low high)))
        where
          more : (at next size : ℕ) → 0 < next % 13 → at % 13 ≡ 0 → at ≤ next → next ≤ size → at < size
          more at next size odd e l h = away at next size (λ q. same at next odd e q) l h
            where
              same : (at next : ℕ) → 0 < next % 13 → at % 13 ≡ 0 → at ≡ next → ⊥
              same at next odd e q =
                  let z : at % 13 ≡ next % 13 = rw q in
                  omega arith

              away : (at next size : ℕ) → (at ≡ next → ⊥) → at ≤ next → next ≤ size → at < size
              away at next size n l h = omega (arith, n)
      go (under h _) (under l _) = loaded (λ i e. omega arith) (later flow.packet at next lag l (written (omega arith)))
      go (under h _) (over l _) =
          let e : next / 13 ≡ at / 13 = omega arith in
          s.same h e ∙ p.held h ∙ rw e

  -- one edit
  module _ (there : index < length numbers / per_edit) where
    now : Turn shrunk grow size lag total (length bytes) end at (taken flow) start (edit_in numbers index) (rest numbers (index + 1))
    now = turns_next (rw (rest_step numbers index there) at p.turns)

    same : drop (taken flow) target ≡ merged shrunk grow end (edit_in numbers index ∷ rest numbers (index + 1)) (drop at source) (drop start bytes)
    same = rw (rest_step numbers index there) at p.is

    -- what its step asks
    pub edit_asks : (end ≤ (edit_in numbers index).from) × (((edit_in numbers index).from ≤ (edit_in numbers index).to) × ((step_of shrunk grow end (edit_in numbers index)).kept ≤ most_bytes))
    edit_asks = (now.after, (now.forward, size_number (step_of shrunk grow end (edit_in numbers index)).kept size lag (length w) (omega (arith, now.read)) p.top p.small))

    module _ (s : code.Step) (e : step_meaning s ≡ step_of shrunk grow end (edit_in numbers index)) where
      kept_is : (step_of shrunk grow end (edit_in numbers index)).kept ≡ s.kept
      kept_is = ap (λ (t : Step). t.kept) (sym e)

      out_is : (step_of shrunk grow end (edit_in numbers index)).out ≡ s.out
      out_is = ap (λ (t : Step). t.out) (sym e)

      put_is' : (step_of shrunk grow end (edit_in numbers index)).put ≡ s.put
      put_is' = ap (λ (t : Step). t.put) (sym e)

      pub edit_inside : Edited size total (length bytes) at (taken flow) start s (edit_in numbers index).length
      edit_inside = record {
        read = omega (arith, now.read, kept_is, out_is);
        written = omega (arith, now.written, kept_is, put_is');
        put = omega (arith, now.supplied, put_le shrunk grow end (edit_in numbers index), put_is');
        supplied = now.supplied;
      }

      edit_kept : Kept head lag at (at + s.kept) (number hand) (taken flow) w target
      edit_kept =
          let z : at + s.kept - at ≡ s.kept = omega arith in
          pass_kept (at + s.kept) (omega (arith, edit_inside.read)) now.ahead (rw z (rw kept_is at (turn_kept now source bytes target p.sized refl same)))

      pub edit_keeps : (4 * ((at + s.kept + 12) / 13 + lag) ≤ length words) × Runs (Kept head lag at (at + s.kept) (number hand) (taken flow)) words head flow (at + s.kept - at)
      edit_keeps = pass_keeps (at + s.kept) (omega (arith, edit_inside.read)) (omega (arith, edit_inside.written)) edit_kept

      module _ {us : List ℕ} {one : Pending} (g : Goes (Kept head lag at (at + s.kept) (number hand) (taken flow)) words us head flow (at + s.kept - at) one) where
        flows_one : Flows w target head one us
        flows_one = g.flows w target p.flows p.below (omega (arith, p.long, edit_inside.written)) edit_kept

        edit_given : Given (taken one) start (start + s.put - start) bytes w target
        edit_given =
            let z : start + s.put - start ≡ s.put = omega arith in
            let m : taken flow + s.kept ≡ taken one = omega (arith, g.more) in
            rw z (rw (kept_is, put_is', m) at (turn_put now source bytes target p.sized refl same))

        pub edit_gives : Runs (Given (taken one) start (start + s.put - start) bytes) us head one (start + s.put - start)
        edit_gives =
            let long : length us ≡ length w = g.long ∙ p.flows.long in
            record {
              w = w;
              bytes = target;
              flows = flows_one;
              below = p.below;
              enough = omega (arith, p.long, edit_inside.written, g.more);
              comes = edit_given;
              room = rw long (room_number (taken one) (start + s.put - start) total (length w) (omega (arith, edit_inside.written, g.more)) p.room);
              small = rw long p.small;
              free = p.free;
            }

        pub edit_next : {vs : List ℕ} {two : Pending} (coming : Thirteen) → Goes (Given (taken one) start (start + s.put - start) bytes) us vs head one (start + s.put - start) two
            → Steady words (number hand) at (at + s.kept + s.out) lag (number coming)
            → Pass w head size total lag numbers bytes shrunk grow source vs (at + s.kept + s.out) two coming (edit_in numbers index).to (start + (edit_in numbers index).length) (index + 1)
        edit_next {two = two} coming h steady =
            let m : taken flow + s.kept + s.put ≡ taken two = omega (arith, g.more, h.more) in
            record {
              first = p.first;
              stands = p.stands;
              sized = p.sized;
              behind = omega (arith, p.behind);
              below = p.below;
              long = p.long;
              room = p.room;
              top = p.top;
              small = p.small;
              free = p.free;
              flows = h.flows w target flows_one p.below (omega (arith, p.long, edit_inside.written, g.more)) edit_given;
              held = pass_hand (at + s.kept + s.out) (number coming) (omega arith) edit_inside.read steady;
              turns = rw (kept_is, out_is, put_is', m) at now.on;
              is = rw (kept_is, out_is, put_is', m) at (turn_on now source bytes target p.sized refl same);
            }

  -- behind the last edit the rest is kept
  module _ (behind_last : length numbers / per_edit ≤ index) where
    left : Turned shrunk grow size lag total (length bytes) end at (taken flow) start
    left = turns_end (rw (rest_end numbers index behind_last) at p.turns)

    end_kept : Kept head lag at size (number hand) (taken flow) w target
    end_kept =
        let same : drop (taken flow) target ≡ drop at source = p.is ∙ rw (rest_end numbers index behind_last) (merged-none shrunk grow end (drop at source) (drop start bytes)) in
        pass_kept size (omega arith) left.ahead (ap (take (size - at)) same)

    pub end_keeps : (at ≤ size) × ((4 * ((size + 12) / 13 + lag) ≤ length words) × Runs (Kept head lag at size (number hand) (taken flow)) words head flow (size - at))
    end_keeps = (left.read, pass_keeps size (omega arith) (omega (arith, left.written)) end_kept)

    -- and what waits is written
    pub end_poured : {us vs : List ℕ} {one : Pending} (needed : ℕ) → Goes (Kept head lag at size (number hand) (taken flow)) words us head flow (size - at) one → needed ≡ packets_for sysex8 total → Flushed us head one needed vs
        → Poured sysex8 w target head (packets_for sysex8 total) vs
    end_poured {us} {vs} {one} needed g e f =
        let flows_one = g.flows w target p.flows p.below (omega (arith, p.long, left.written)) end_kept in
        let all : 13 * one.packet + one.count ≡ length target = omega (arith, g.more, left.written, p.long) in
        flow_end flows_one all (packets_for sysex8 total) (ap (packets_for sysex8) (sym p.long)) vs (rw e at f.some) (rw e at f.none)

-- ---- how a pass begins

-- what its first calls ask
pub record Asks (at held lag room : ℕ) : Type 0 where
  pub before : (at < 65536) × (0 < at % 13 → 4 * (at / 13) + 4 ≤ room)
  pub up : (held + lag < 65536) × ((at / 13 ≤ held) × (4 * (held + lag) ≤ room))
  pub hand : (at / 13 + lag < 65536) × (0 < at % 13 → 4 * (at / 13 + lag) + 4 ≤ room)

module _ {ws : List ℕ} {head size total : ℕ} {numbers bytes : List ℕ} {shrunk grow : Bool} {source : List ℕ} (m : Merges ws head size total numbers bytes shrunk grow source) where
  abbrev new : List ℕ
  new = merged shrunk grow 0 (edits_of numbers) source bytes

  abbrev b : ℕ
  b = begin_of numbers size

  pub begin_inside : b ≤ size
  begin_inside = (turns_inside (edits_of numbers) m.turns).read

  begin_front : take b new ≡ take b source
  begin_front = take_begin shrunk grow source bytes size numbers (omega (arith, m.sized, begin_inside))

  -- what stands before the first edit
  module _ {us : List ℕ} {lag : ℕ} (moved : Moved ws head (b / 13) (packets_for sysex8 size) lag us) (flow : Pending) (waits : waiting flow ≡ front_of (val 13 (body ws (b / 13))) (b % 13)) where
    reach : length source ≤ 13 * packets_for sysex8 size
    reach = omega (arith, packets_enough sysex8 size, m.sized)

    front_words : (k : ℕ) → k < 4 * (b / 13) → get_or us k 0 ≡ flow_word sysex8 head new k
    front_words k l =
        let q = k / 4 in
        let at : 4 * (q + 0) + k % 4 ≡ k = omega arith in
        let at' : 4 * q + k % 4 ≡ k = omega arith in
        moved.before k (omega arith)
        ∙ rw (at, at') at (m.stands.whole q (k % 4) (omega arith) (inside q k b size (length source) l begin_inside m.sized) (omega arith))
        ∙ sym (flow_agree sysex8 new source head (b / 13) b begin_front (omega arith) k l)
      where
        inside : (q k b size n : ℕ) → k < 4 * (b / 13) → b ≤ size → size ≡ n → 13 * (k / 4) + 13 ≤ n
        inside q k b size n l h e =
            let t : k / 4 + 1 ≤ b / 13 = omega arith in
            omega arith

    front_waits : waiting flow ≡ val 13 (take (b % 13) (drop (13 * (b / 13)) new))
    front_waits =
        let c = b % 13 in
        let q = b / 13 in
        let zero-at : (k : ℕ) → k + 0 ≡ k = λ k. omega arith in
        let whole : b ≡ 13 * q + c = omega arith in
        let zeros : 0 + 13 * q ≡ 13 * q = omega arith in
        let part : take c (body ws q) ≡ take c (drop (13 * q) source) = rw (zero-at q) at (m.stands.part q c (omega arith) (omega arith) (omega (arith, m.sized, begin_inside))) in
        let same : take c (drop (13 * q) new) ≡ take c (drop (13 * q) source) = rw zeros at (slice_alike 0 0 b (13 * q) c new source begin_front (omega arith)) in
        waits ∙ front_part (body ws q) c (below_body ws q) (omega arith) ∙ ap (val 13) (part ∙ sym same)

    pub pass_begins : (hand : Thirteen) → flow.count ≡ b % 13 → flow.packet ≡ b / 13 → lag ≡ packets_for sysex8 total - packets_for sysex8 size → Below 256 bytes
        → (0 < b % 13 → number hand ≡ val 13 (body us (b / 13 + lag))) → Pass us head size total lag numbers bytes shrunk grow source us b flow hand b 0 0
    pass_begins hand count packet lag-is below held =
        let e : taken flow ≡ b = omega (arith, count, packet) in
        record {
          first = b / 13;
          stands = moved_stands ws us source head (packets_for sysex8 size) lag (b / 13) m.stands moved m.plain reach;
          sized = m.sized;
          behind = omega arith;
          below = below_merged 256 shrunk grow 0 (edits_of numbers) source bytes m.below below;
          long = length_all shrunk grow size (packets_for sysex8 total - packets_for sysex8 size) total numbers source bytes m.turns m.sized;
          room = rw moved.long m.needed;
          top = rw moved.long (tops (packets_for sysex8 size) (packets_for sysex8 total) lag (length ws) lag-is m.held m.needed);
          small = rw moved.long m.small;
          free = m.free;
          flows = rw (count, packet) (record { long = refl; few = omega arith; done = front_words; rest = λ k l. refl; waits = front_waits });
          held = held;
          turns = rw (e, lag-is, ← rest_all numbers) m.turns;
          is = rw (e, ← rest_all numbers) (drop_begin shrunk grow source bytes size numbers (omega (arith, m.sized, begin_inside)));
        }
      where
        tops : (held needed lag room : ℕ) → lag ≡ needed - held → 4 * held ≤ room → 4 * needed ≤ room → 4 * (held + lag) ≤ room
        tops held needed lag room e h l = omega arith

  -- by the numbers that the code has of them
  pub pass_starts : {us : List ℕ} {lag : ℕ} (at held : ℕ) → at ≡ b → held ≡ packets_for sysex8 size → Moved ws head (at / 13) held lag us → (flow : Pending) → waiting flow ≡ front_of (val 13 (body ws (at / 13))) (at % 13)
      → (hand : Thirteen) → flow.count ≡ at % 13 → flow.packet ≡ at / 13 → lag ≡ packets_for sysex8 total - packets_for sysex8 size → Below 256 bytes
      → (0 < at % 13 → number hand ≡ val 13 (body us (at / 13 + lag))) → Pass us head size total lag numbers bytes shrunk grow source us at flow hand at 0 0
  pass_starts at held at-is held_is moved flow waits hand count packet lag-is below held-hand =
      rw at-is
      (pass_begins (rw (at-is, held_is) at moved) flow (rw at-is at waits) hand (rw at-is at count) (rw at-is at packet) lag-is below (rw at-is at held-hand))

  pub begin_asks : (at held lag : ℕ) → at ≡ b → held ≡ packets_for sysex8 size → lag ≡ packets_for sysex8 total - packets_for sysex8 size → Asks at held lag (length ws)
  begin_asks at held lag e h l =
      let enough : size ≤ 13 * held = rw h (packets_enough sysex8 size) in
      go (packets_for sysex8 total) (length ws) (omega (arith, enough, e, begin_inside)) (rw h m.held) m.needed m.small (rw h l)
    where
      go : (needed room : ℕ) → at ≤ 13 * held → 4 * held ≤ room → 4 * needed ≤ room → room ≤ most_words → lag ≡ needed - held → Asks at held lag room
      go needed room low a b c l =
          let t : 4 * (held + lag) ≤ room = omega arith in
          let u : at / 13 ≤ held = omega arith in
          let v : 0 < at % 13 → at / 13 < held = λ i. omega arith in
          record { before = (omega arith, λ i. omega (arith, v i)); up = (omega arith, (u, t)); hand = (omega arith, λ i. omega (arith, v i)) }

-- the words behind the message are those of the entry
pub poured_entry : {ws us vs bytes : List ℕ} {head from held needed lag : ℕ} → Moved ws head from held lag us → lag ≡ needed - held → Poured sysex8 us bytes head needed vs → Poured sysex8 ws bytes head needed vs
poured_entry {ws} {us} {needed = needed} {lag = lag} m e p = record {
  long = p.long ∙ m.long;
  done = p.done;
  rest = λ k l. p.rest k l ∙ go k l (side 0 lag);
}
  where
    go : (k : ℕ) → 4 * needed ≤ k → Side 0 lag → get_or us k 0 ≡ get_or ws k 0
    go k l (under h _) = m.past k (omega arith)
    go k l (over h _) = ap (λ (x : List ℕ). get_or x k 0) (m.none (omega arith))
