-- `carries::bytes_differ`: the byte that is read is the packet's, and both lists begin with the same up to it. Assumes nothing.
use Rattle.std.proofs.Common.{◌≡◌, sym, ap, ◌∙◌, ℕ, ◌+◌, ◌≤◌, ◌<◌, arith, length, get_or, drop}
use Rattle.ump.specs.Packet.{sysex8, count_at, payload_at}
use Rattle.ump.proofs.Sizes.{size_small}
use Rattle.ump.proofs.Bytes.{length-payload_at, get_d_payload_at}
use Rattle.carries.specs.Carries.{unlike}
use Rattle.carries.proofs.Likeness.{like_none, like_end, like_differ, like_on}
use Rattle.carries.proofs.bytes_differ.Goals.{In-loop-byte, After-byte_at}
use Rattle.carries.proofs.bytes_differ.Goals as goal

-- a byte of the packet, one of 13
inside : (c : In-loop-byte) → c.loop-byte.byte < length (payload_at sysex8 c.args.words.now c.args.packet)
inside c = rw (length-payload_at sysex8 c.args.words.now c.args.packet c.requires.there ∙ sym c.requires.size_is) c.loop-byte-test.true

small : (c : In-loop-byte) → c.loop-byte.byte < 13
small c = omega (arith, c.requires.size_is, size_small sysex8 (count_at sysex8 c.args.words.now c.args.packet), c.loop-byte-test.true)

read : (c : After-byte_at) → c.byte_at.result ≡ get_or (payload_at sysex8 c.args.words.now c.args.packet) c.loop-byte.byte 0
read c =
    c.byte_at.ensures
    ∙ sym (get_d_payload_at sysex8 c.args.words.now c.args.packet c.requires.there c.loop-byte.byte (rw c.requires.size_is at c.loop-byte-test.true))

pub overflow_add-at : goal.overflow_add-at
overflow_add-at c = omega (arith, small c, c.requires.not_far)

pub returns-then-at-byte : goal.returns-then-at-byte
returns-then-at-byte c =
    sym (c.loop-byte.invariant ∙ like_none (drop c.loop-byte.byte (payload_at sysex8 c.args.words.now c.args.packet)) c.args.payload.now (c.args.at + c.loop-byte.byte) c.if-at-byte.true)

pub byte_at-requires : goal.byte_at-requires
byte_at-requires c = (c.requires.there, c.requires.few, small (goal.at.byte_at-requires c).In-loop-byte)

pub returns-then-byte_at-payload : goal.returns-then-byte_at-payload
returns-then-byte_at-payload c =
    let a = goal.at.returns-then-byte_at-payload c in
    like_differ (payload_at sysex8 c.args.words.now c.args.packet) c.args.payload.now c.loop-byte.byte (c.args.at + c.loop-byte.byte)
    (inside a.In-loop-byte) (omega (arith, c.if-at-byte.false)) (λ e. c.if-byte_at-payload.true (read a.After-byte_at ∙ e))
    ∙ sym c.loop-byte.invariant

pub loop-byte-preserved : goal.loop-byte-preserved
loop-byte-preserved c =
    let a = goal.at.loop-byte-preserved c in
    let bytes = payload_at sysex8 c.args.words.now c.args.packet in
    let b : ℕ = c.loop-byte.byte in
    let q : c.args.at + b + 1 ≡ c.args.at + (b + 1) = omega arith in
    c.loop-byte.invariant
    ∙ like_on bytes c.args.payload.now b (c.args.at + b) (inside a.In-loop-byte) (omega (arith, c.if-at-byte.false))
    (sym (read a.After-byte_at) ∙ c.if-byte_at-payload.false)
    ∙ ap (λ (j : ℕ). unlike (drop (b + 1) bytes) (drop j c.args.payload.now)) q

pub returns : goal.returns
returns c =
    let bytes = payload_at sysex8 c.args.words.now c.args.packet in
    let h : length bytes ≤ c.loop-byte.byte = rw (length-payload_at sysex8 c.args.words.now c.args.packet c.requires.there ∙ sym c.requires.size_is) c.loop-byte-test.false in
    sym (c.loop-byte.invariant ∙ like_end bytes _ _ h)
