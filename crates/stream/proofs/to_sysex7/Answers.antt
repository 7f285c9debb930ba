-- `stream::to_sysex7`: each return is a case of `to_sysex7`. Assumes nothing.
use Rattle.std.proofs.Common.{◌≡◌, ℕ, suc, ◌*◌, ◌≤◌, ◌<◌, List, length, sym, ap, ◌∙◌, arith}
use Rattle.std.proofs.lemmas.Result.{err_from_is_err_and}
use Rattle.refusal.specs.Answer.{gives, refused}
use Rattle.refusal.proofs.Laws.{never_both, never_refused}
use Rattle.ump.specs.Packet.{sysex7}
use Rattle.ump.specs.Packing.{packets_for}
use Rattle.ump.specs.Stream.{between, data_of, bad_at, needed}
use Rattle.ump.proofs.First.{Side, under, over, side}
use Rattle.ump.proofs.Streaming.{stream_long, stream_field, stream_frame, stream_byte, stream_room, stream_done}
use Rattle.stream.specs.Steps.{sized}
use Rattle.stream.proofs.Frames.{cut}
use Rattle.stream.proofs.to_sysex7.Goals as goal

pub returns-then-words-gt-MOST_WORDS : goal.returns-then-words-gt-MOST_WORDS
returns-then-words-gt-MOST_WORDS c = rw c.into.ensures (sym (stream_long _ _ _ c.if-words-gt-MOST_WORDS.true))

pub returns-then-group-gt15 : goal.returns-then-group-gt15
returns-then-group-gt15 c = rw c.into-then-group-gt15.ensures (sym (stream_field _ _ _ c.if-words-gt-MOST_WORDS.false c.if-group-gt15.true))

pub returns-then-bad_frame : goal.returns-then-bad_frame
returns-then-bad_frame c =
    rw c.into-then-bad_frame.ensures
    (sym (stream_frame _ _ _ c.if-words-gt-MOST_WORDS.false c.if-group-gt15.false (sym c.bad_frame.ensures ∙ c.if-bad_frame.true)))

-- the data behind F0 is counted, or a byte is bad
module _ (bytes : List ℕ) where
  none_bad : {size : ℕ} → gives size ≡ sized (between bytes) → (size ≡ length (data_of bytes)) × (length (between bytes) ≤ bad_at bytes)
  none_bad {size} e = go (side (bad_at bytes) (length (between bytes)))
    where
      go : Side (bad_at bytes) (length (between bytes)) → (size ≡ length (data_of bytes)) × (length (between bytes) ≤ bad_at bytes)
      go (under h t) = never_both (rw t at e)
      go (over h t) = (let k = rw t at e in cc, h)

  one_bad : {number place : ℕ} → refused number place ≡ sized (between bytes) → (bad_at bytes < length (between bytes)) × (number ≡ 18) × (place ≡ suc (bad_at bytes))
  one_bad {number} {place} e = go (side (bad_at bytes) (length (between bytes)))
    where
      go : Side (bad_at bytes) (length (between bytes)) → (bad_at bytes < length (between bytes)) × (number ≡ 18) × (place ≡ suc (bad_at bytes))
      go (under h t) = let k = rw t at e in (h, cc, cc)
      go (over h t) = never_refused (rw t at e)

pub returns-in_err-size : goal.returns-in_err-size
returns-in_err-size c =
    let b = c.args.bytes.now in
    let e = rw (cut b) at c.in_err-size.ensures in
    let p = err_from_is_err_and c.from_residual.result c.from_residual.ensures.1 in
    let bad = one_bad b e in
    rw (p.1, p.2, bad.1, bad.2)
    (sym (stream_byte _ _ _ c.if-words-gt-MOST_WORDS.false c.if-group-gt15.false (sym c.bad_frame.ensures ∙ c.if-bad_frame.false) bad.0))

-- the words that the packets want
wanted : (bytes : List ℕ) {size packets : ℕ} → size ≡ length (data_of bytes) → packets ≡ packets_for sysex7 size → 2 * packets ≡ needed bytes
wanted bytes s p = ap (λ (n : ℕ). 2 * n) (rw s at p)

pub write_packets-requires : goal.write_packets-requires
write_packets-requires c =
    let b = c.args.bytes.now in
    (omega arith, record { data_size = rw (cut b) (none_bad b (rw (cut b) at c.in_ok-size.ensures)).0; in_packets = c.packets_for-packets.ensures }, omega arith)

pub returns-then-words-packets : goal.returns-then-words-packets
returns-then-words-packets c =
    let b = c.args.bytes.now in
    let none = none_bad b (rw (cut b) at c.in_ok-size.ensures) in
    rw c.into-then-words-packets.ensures
    (sym (stream_room _ _ _ c.if-words-gt-MOST_WORDS.false c.if-group-gt15.false (sym c.bad_frame.ensures ∙ c.if-bad_frame.false) none.1
    (omega (arith, c.if-words-packets.true, wanted b none.0 c.packets_for-packets.ensures))))

pub returns : goal.returns
returns c =
    let b = c.args.bytes.now in
    let none = none_bad b (rw (cut b) at c.in_ok-size.ensures) in
    let words = wanted b none.0 c.packets_for-packets.ensures in
    rw (c.write_packets.ensures, cut b, words)
    (sym (stream_done _ _ _ c.if-words-gt-MOST_WORDS.false c.if-group-gt15.false (sym c.bad_frame.ensures ∙ c.if-bad_frame.false) none.1
    (omega (arith, c.if-words-packets.false, words))))
