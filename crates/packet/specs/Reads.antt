-- Each reader of 01 frames what it decides. Assumes nothing.
use mathlib.Core.Path.{◌≡◌, refl}
use mathlib.Core.Bool.{Bool, true, false}
use mathlib.Core.List.{List}
use Prim.Native.Nat.{ℕ}
use lib.Dec.{ltb}
use Rattle.refusal.specs.Answer.{gives, map_answer, ◌▷◌, guard}
use Rattle.ump.specs.Packet.{Shape, sysex8, sysex7, status_at, count_at, size_of}
use Rattle.ump.specs.Check.{bad_count}
use Rattle.ump.specs.Single.{Kind, kind_of, read_packet8, read_packet7}
use Rattle.packet.specs.Steps.{outside, counted, decide8, decision8, decision7, packet_from, framed}

-- two checks before the decision are two checks before the packet
packet_checks : (shape : Shape) (words : List ℕ) (a b : Bool) (n m : ℕ) (decision : Kind × ℕ)
    → packet_from shape words (guard a n 0 ▷ guard b m 0 ▷ gives decision) ≡ guard a n 0 ▷ guard b m 0 ▷ packet_from shape words (gives decision)
packet_checks shape words true b n m decision = refl
packet_checks shape words false true n m decision = refl
packet_checks shape words false false n m decision = refl

-- and so is one before a kind with its size
plain_check : (shape : Shape) (words : List ℕ) (a b : Bool) (n m size : ℕ) (kind : Kind)
    → packet_from shape words (guard a n 0 ▷ map_answer (λ k. (k, size)) (guard b m 0 ▷ gives kind)) ≡ guard a n 0 ▷ guard b m 0 ▷ packet_from shape words (gives (kind, size))
plain_check shape words true b n m size kind = refl
plain_check shape words false true n m size kind = refl
plain_check shape words false false n m size kind = refl

pub reads8 : (words : List ℕ) → framed sysex8 words (decision8 words) ≡ read_packet8 words
unfolding framed decide8 read_packet8 bad_count
reads8 words = rw packet_checks

pub reads7 : (words : List ℕ) → framed sysex7 words (decision7 words) ≡ read_packet7 words
unfolding framed counted read_packet7 bad_count
reads7 words =
    let status = status_at sysex7 words 0 in let count = count_at sysex7 words 0 in
    rw (plain_check sysex7 words (outside sysex7 count) (ltb 3 status) 10 15 (size_of sysex7 count) (kind_of status))
