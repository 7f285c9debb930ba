-- How long the lines are, and what the line of a packet says. Assumes nothing.
use mathlib.Core.Path.{◌≡◌, refl, ap}
use mathlib.Core.Bool.{Bool, true, false, cond}
use mathlib.Core.List.{List, [], ◌∷◌, ◌++◌}
use Prim.Native.Nat.{ℕ, zero, suc, ◌+◌, ◌*◌, ◌/◌, ◌^◌, ◌≤◌, ◌<◌}
use native.Mathlib.Omega.{arith}
use lib.Dec.{eqb, lit≤}
use lib.ListN.{length, get_or, drop, length-append}
use Rattle.refusal.specs.Answer.{gives, pass}
use Rattle.ump.specs.Word.{octet}
use Rattle.ump.specs.Packet.{sysex8, first_word, group_at, status_at, count_at, size_at, joined}
use Rattle.ump.specs.Check.{check}
use Rattle.ump.specs.Single.{Kind, Packet, blank, kind_for, unexpected, unexpected_end, end, packet_at, single_packet}
use Rattle.ump.proofs.Sizes.{size_small}
use Rattle.ump.proofs.Checks.{passes_valid}
use Rattle.ump.proofs.Singles.{status_four}
use Rattle.listing.specs.Listing.{number, status_name, id_end, line, packet_line, two_numbers}
use Rattle.listing.specs.Steps.{status_of}
use Rattle.listing.proofs.Decimal.{length-decimal}

-- ---- lengths

length-number : (k n after : ℕ) → n < 10 ^ suc k → length (number n after) ≤ suc (suc k)
unfolding number
length-number k n after h = rw length-append (omega (arith, length-decimal k n h))

length_status : (status : ℕ) → length (status_name status) ≤ 9
unfolding status_name
length_status zero = lit≤ tt
length_status (suc zero) = lit≤ tt
length_status (suc (suc zero)) = lit≤ tt
length_status (suc (suc (suc n))) = lit≤ tt

pub length-line : (words : List ℕ) (p : ℕ) → p < 4096 → length (packet_line words p) ≤ 24
unfolding packet_line line id_end
length-line words p h =
    let g = group_at sysex8 words p in
    let z = size_at sysex8 words p in
    let a = length-number 4 (4 * p) 32 (omega arith) in
    let b = length-number 1 g 32 (omega arith) in
    let c = length_status (status_at sysex8 words p) in
    let d = length-number 1 z 32 (omega (arith, size_small sysex8 (count_at sysex8 words p))) in
    simp length-append (omega arith)

pub length_lines : (words : List ℕ) (n : ℕ) → n ≤ 4096 → length (joined (packet_line words) n) ≤ 24 * n
unfolding joined
length_lines words zero h = omega arith
length_lines words (suc n) h = rw length-append (omega (arith, length_lines words n (omega arith), length-line words n (omega arith)))

pub length_two : (first second : List ℕ) (m n : ℕ) → m < 2 ^ 64 → n < 2 ^ 64
    → length (two_numbers first m second n) ≤ length first + length second + 42
unfolding two_numbers
length_two first second m n h k =
    let a = length-number 19 m 32 (omega arith) in
    let b = length-number 19 n 10 (omega arith) in
    simp length-append (omega arith)

-- ---- the line of a packet of a message that passes

-- it has no more than 4,096 packets
pub few_packets : (words : List ℕ) (len : ℕ) → check sysex8 words len ≡ pass → len / 4 ≤ 4096
few_packets words len e = let v = passes_valid sysex8 words len e in omega (arith, v.inside, v.short_enough)

status-of : (status count : ℕ) (zeroed : Bool) → status < 4 → status_of (kind_for status count zeroed) ≡ status
status-of zero count zeroed h = refl
status-of (suc zero) count zeroed h = refl
status-of (suc (suc zero)) count zeroed h = refl
status-of (suc (suc (suc zero))) count zeroed h = go (unexpected 3 count zeroed)
  where
    go : (b : Bool) → status_of (cond b (unexpected_end (eqb count 1)) end) ≡ 3
    go true = refl
    go false = refl
status-of (suc (suc (suc (suc n)))) count zeroed h = absurd (omega arith)

pub line_of : (words : List ℕ) (len : ℕ) → check sysex8 words len ≡ pass → (p : ℕ) → p < len / 4 → (kind : Kind) (group id size : ℕ)
    → gives (single_packet kind group (id ∷ []) size) ≡ gives (packet_at words p)
    → line (4 * p) group (status_of kind) size id ≡ packet_line words p
unfolding packet_line
line_of words len e p h kind group id size g =
    let f : ◌≡◌ {A = Packet} (single_packet kind group (id ∷ []) size) (packet_at words p) = cc in
    let k : kind ≡ (packet_at words p).kind = ap (λ (x : Packet). x.kind) f in
    let a : group ≡ group_at sysex8 words p = ap (λ (x : Packet). x.group) f in
    let i : id ≡ octet (first_word sysex8 words p) 2 = ap (λ (x : Packet). get_or x.id 0 0) f in
    let z : size ≡ size_at sysex8 words p = ap (λ (x : Packet). x.size) f in
    rw (k, a, i, z, status-of (status_at sysex8 words p) (count_at sysex8 words p) (blank (drop (4 * p) words)) (status_four words len e p h))

-- ---- line after line

pub lines_none : (words : List ℕ) → joined (packet_line words) 0 ≡ []
unfolding joined
lines_none words = refl

pub lines_more : (words : List ℕ) (n : ℕ) → joined (packet_line words) (suc n) ≡ joined (packet_line words) n ++ packet_line words n
unfolding joined
lines_more words n = refl
